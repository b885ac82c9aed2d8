-- The calls of a played script have lines of their own.
use Rattle.std.proofs.Common.{◌≡◌, refl, sym, ap, ◌∙◌, inl, inr, subst, ℕ, zero, suc, Bool, true, false, cond, List, [], ◌∷◌, take, slice_get, Option, Some, None}
use Rattle.std.specs.Prelude.{⊤, All}
use Rattle.std.specs.List.{AllByRecursion}
use Rattle.std.proofs.lemmas.List.Elements.{All-nil, All-cons}
use Rattle.b1_model.specs.declared.naming.Opening.{Opening}
use Rattle.b1_model.specs.declared.answers.Answer.{Answer}
use Rattle.b1_model.specs.declared.answers.Answer.TheVariants as answer
use Rattle.b1_model.specs.declared.answers.Receipt.TheVariants as receipt
use Rattle.b1_model.specs.declared.commands.Command.{Command}
use Rattle.b1_model.specs.declared.commands.Command.TheVariants as cmd
use Rattle.b1_model.specs.declared.records.Call.{Call}
use Rattle.b1_model.specs.declared.records.PeerCalls.{PeerCalls}
use Rattle.b1_model.specs.declared.records.Record.{Record}
use Rattle.b1_model.specs.declared.events.Doing.{Doing}
use Rattle.b1_model.specs.Opening.{IsOpening}
use Rattle.b1_model.specs.Script.{resolved, fits, ends_await, is_receipt, IsInPlace, commands_of}
use Rattle.b1_model.specs.Names.{calls_of, calls_in}
use Rattle.b1_model.specs.MachineParts.{State, PeerPart, DriverPart}
use Rattle.b1_model.specs.MachineTook.{is_waiting, as_call, call_of, answer_of, fixed_call, open_by, driver_calls}
use Rattle.b1_model.specs.MachineStep.{Reached, peer_records, record_of_state}
use Rattle.b1_step.specs.Rights.{Has}
use Rattle.b1_step.proofs.Lists.{has_at, has_append}
use Rattle.b1_inv.specs.Receipts.{NamesNode, NoticesNamed}
use Rattle.b1_inv_receipts.proofs.Turns.{fixed_names}
use Rattle.b1_law.proofs.Reached.{reached_sound}
use Rattle.b1_schedule.specs.Shortage.{Shortage, no_shortage, shortage_of}
use Rattle.b1_schedule.specs.Schedule.{Finished, Stalled, Playing, moves, start_of, IsPlay, IsStall}
use Rattle.b1_play_commands.specs.Following.{AllInPlace}
use Rattle.b1_report.specs.Report.{IsAnswer, IsWritten, HasSpelling, EachSpelled}
use Rattle.b1_play_report.specs.Limits.{IsTold, AreTold}
use Rattle.b1_model.specs.declared.version.Version.{Version}
use Rattle.b1_model.specs.declared.version.Version.TheVariants.{One, Two}
use Rattle.b1_play_commands.proofs.Recorded.{recorded_in_place}
use Rattle.b1_play_commands.proofs.Plays.{Plays, plays}

-- ---- lists

all_get : {X : Type 0} (P : X → Type 0) (xs : List X) → ((k : ℕ) (x : X) → slice_get xs k ≡ Some x → P x) → All P xs
all_get P [] each = All-nil P
all_get P (x ∷ xs) each = All-cons P x xs (each 0 x refl) (all_get P xs (λ k y is. each (suc k) y is))

get_all : {X : Type 0} (P : X → Type 0) (xs : List X) (k : ℕ) (x : X) → AllByRecursion P xs → slice_get xs k ≡ Some x → P x
get_all P [] k x all is = absurd (cc is)
get_all P (y ∷ ys) zero x all is = let same : y ≡ x = cc is in subst P same all.0
get_all P (y ∷ ys) (suc k) x all is = get_all P ys k x all.1 is

-- ---- one call

-- the command of a place is one that a report of the version can tell
abbrev NextIs : Version → Option Command → Type 0
NextIs version None = ⊤
NextIs version (Some command) = IsTold version command

-- what is recorded for it has a name, and an answer of its kind
abbrev IsOfKind : Version → Call → Type 0
IsOfKind version call = IsWritten version call.command × (fits call.command call.answer ≡ true)

-- a command that can be told, and isn't an AWAIT, has a name with its references resolved
names_one : (command : Command) (calls : List Call) → IsTold One command → (command ≡ cmd.Await → ⊥) → IsWritten One (resolved command calls)
names_one cmd.Disconnect calls told other = tt
names_one cmd.Query calls told other = tt
names_one (cmd.Reset limits) calls told other = tt
names_one (cmd.Limit limits) calls told other = absurd told
names_one (cmd.Release number) calls told other = tt
names_one (cmd.Destroy numbers) calls told other = tt
names_one (cmd.SliceRelease offset) calls told other = tt
names_one (cmd.Send c) calls told other = tt
names_one cmd.Recv calls told other = tt
names_one cmd.Await calls told other = absurd (other refl)

names_two : (command : Command) (calls : List Call) → (command ≡ cmd.Await → ⊥) → IsWritten Two (resolved command calls)
names_two cmd.Disconnect calls other = tt
names_two cmd.Query calls other = tt
names_two (cmd.Reset limits) calls other = tt
names_two (cmd.Limit limits) calls other = tt
names_two (cmd.Release number) calls other = tt
names_two (cmd.Destroy numbers) calls other = tt
names_two (cmd.SliceRelease offset) calls other = tt
names_two (cmd.Send c) calls other = tt
names_two cmd.Recv calls other = tt
names_two cmd.Await calls other = absurd (other refl)

names : (version : Version) (command : Command) (calls : List Call) → IsTold version command → (command ≡ cmd.Await → ⊥) → IsWritten version (resolved command calls)
names One command calls told other = names_one command calls told other
names Two command calls told other = names_two command calls other

named_by : (version : Version) (calls : List Call) (call : Call) (command : Command) → IsTold version command → (command ≡ cmd.Await → ⊥) → (call.command ≡ resolved command calls) → (fits call.command call.answer ≡ true) → IsOfKind version call
named_by version calls call command told other same is = (subst (IsWritten version) (sym same) (names version command calls told other), is)

recv_written : (version : Version) → IsWritten version cmd.Recv
recv_written One = tt
recv_written Two = tt

recv_kind : (version : Version) (call : Call) → call.command ≡ cmd.Recv → fits cmd.Recv call.answer ≡ true → IsOfKind version call
recv_kind version call same is = (subst (IsWritten version) (sym same) (recv_written version), ap (λ c. fits c call.answer) same ∙ is)

ends_fits : (got : Answer) → ends_await got ≡ true → fits cmd.Recv got ≡ true
ends_fits (answer.Got receipt) is = refl
ends_fits (answer.Refused refused) is = refl
ends_fits got is = absurd (cc is)

receipt_fits : (got : Answer) → is_receipt got ≡ true → fits cmd.Recv got ≡ true
receipt_fits (answer.Got receipt) is = refl
receipt_fits got is = absurd (cc is)

of_kind : (version : Version) (calls : List Call) (next : Option Command) (call : Call) → NextIs version next → IsInPlace calls next (Some call) → IsOfKind version call
of_kind version calls None call told placed = recv_kind version call placed.0 (receipt_fits call.answer placed.1)
of_kind version calls (Some cmd.Await) call told placed = recv_kind version call placed.0 (ends_fits call.answer placed.1)
of_kind version calls (Some (cmd.Limit limits)) call told placed = named_by version calls call (cmd.Limit limits) told (λ e. cc e) placed.0 placed.1
of_kind version calls (Some cmd.Disconnect) call told placed = named_by version calls call cmd.Disconnect told (λ e. cc e) placed.0 placed.1
of_kind version calls (Some cmd.Query) call told placed = named_by version calls call cmd.Query told (λ e. cc e) placed.0 placed.1
of_kind version calls (Some (cmd.Reset limits)) call told placed = named_by version calls call (cmd.Reset limits) told (λ e. cc e) placed.0 placed.1
of_kind version calls (Some (cmd.Release number)) call told placed = named_by version calls call (cmd.Release number) told (λ e. cc e) placed.0 placed.1
of_kind version calls (Some (cmd.Destroy numbers)) call told placed = named_by version calls call (cmd.Destroy numbers) told (λ e. cc e) placed.0 placed.1
of_kind version calls (Some (cmd.SliceRelease offset)) call told placed = named_by version calls call (cmd.SliceRelease offset) told (λ e. cc e) placed.0 placed.1
of_kind version calls (Some (cmd.Send c)) call told placed = named_by version calls call (cmd.Send c) told (λ e. cc e) placed.0 placed.1
of_kind version calls (Some cmd.Recv) call told placed = named_by version calls call cmd.Recv told (λ e. cc e) placed.0 placed.1

-- an answer of the command's kind has a text, where a destroy notice names a node
has_text : (command : Command) (got : Answer) → fits command got ≡ true → NamesNode got → IsAnswer command got
has_text (cmd.Reset limits) (answer.Reset stamp) is names = tt
has_text cmd.Disconnect (answer.Reset stamp) is names = tt
has_text command (answer.Reset stamp) is names = absurd (cc is)
has_text command (answer.Got (receipt.Destroyed key number)) is names = names
has_text command (answer.Got (receipt.Message key number offset handles payload)) is names = tt
has_text command (answer.Got (receipt.Released stamp number)) is names = tt
has_text command (answer.Sent sent) is names = tt
has_text command answer.Done is names = tt
has_text command (answer.Destroyed stamp) is names = tt
has_text command (answer.Info user pool limits) is names = tt
has_text command (answer.Refused refused) is names = tt

-- ---- a driver

call_has : (command : Command) (got : Answer) (call : Call) → Has (call_of command got) call → NamesNode got → NamesNode call.answer
call_has command got call h names = at (is_waiting command got) h
  where
    at : (b : Bool) → Has (cond b [] (record { command = as_call command; answer = got } ∷ [])) call → NamesNode call.answer
    at true h = absurd h
    at false (inl same) = subst (λ c. NamesNode c.answer) (sym same) names
    at false (inr h) = absurd h

module _ (version : Version) (d : DriverPart) (named : NoticesNamed d) where
  open_names : (doing : Option Doing) → d.doing ≡ doing → (call : Call) → Has (open_by doing) call → NamesNode call.answer
  open_names None is call h = absurd h
  open_names (Some doing) is call h = at (answer_of doing.command doing.phase) refl h
    where
      at : (got : Option Answer) → answer_of doing.command doing.phase ≡ got → Has (fixed_call doing.command got) call → NamesNode call.answer
      at None same h = absurd h
      at (Some got) same h = call_has doing.command got call h (fixed_names doing.command doing.phase got (named.reaping doing is) same)

  calls_name : (call : Call) → Has (driver_calls d) call → NamesNode call.answer
  calls_name call h = elim (has_append d.calls (open_by d.doing) call h) [ inl old ↦ named.calls call old | inr new ↦ open_names d.doing refl call new ]

  -- the calls that stand in a record for the driver
  calls_spelled : (commands : List Command) → AllByRecursion (IsTold version) commands → AllInPlace commands (driver_calls d) → All (HasSpelling version) (driver_calls d)
  calls_spelled commands none placed =
      all_get (HasSpelling version) (driver_calls d)
      (λ k call is.
      let kind = of_kind version (take k (driver_calls d)) (slice_get commands k) call (next_is (slice_get commands k) (λ c there. get_all (IsTold version) commands k c none there)) (placed k call is) in
      (kind.0, has_text call.command call.answer kind.1 (calls_name call (has_at (driver_calls d) k call is))))
    where
      next_is : (next : Option Command) → ((c : Command) → next ≡ Some c → IsTold version c) → NextIs version next
      next_is None each = tt
      next_is (Some c) each = each c refl

-- ---- a state

records_spelled : (version : Version) (xs : List PeerPart) (ds : List DriverPart) → ((p : ℕ) (d : DriverPart) → slice_get ds p ≡ Some d → calls_in (slice_get (peer_records xs ds) p) ≡ driver_calls d → All (HasSpelling version) (driver_calls d)) → All (λ (x : PeerCalls). All (HasSpelling version) x.calls) (peer_records xs ds)
records_spelled version [] ds each = All-nil (λ (x : PeerCalls). All (HasSpelling version) x.calls)
records_spelled version (x ∷ xs) [] each = All-nil (λ (y : PeerCalls). All (HasSpelling version) y.calls)
records_spelled version (x ∷ xs) (d ∷ ds) each = All-cons (λ (y : PeerCalls). All (HasSpelling version) y.calls) _ (peer_records xs ds) (each 0 d refl refl) (records_spelled version xs ds (λ p e is same. each (suc p) e is same))

commands_none : (version : Version) (lists : List (List Command)) (p : ℕ) → AreTold version lists → AllByRecursion (IsTold version) (commands_of lists p)
commands_none version [] p none = tt
commands_none version (commands ∷ rest) zero none = none.0
commands_none version (commands ∷ rest) (suc p) none = commands_none version rest p none.1

-- a reached state whose record has calls of the lists alone, each in its place
pub reached_spelled : (version : Version) (o : Opening) (lists : List (List Command)) (s : State) → IsOpening o → AreTold version lists → Reached o s → ((p : ℕ) → AllInPlace (commands_of lists p) (calls_of (record_of_state s) p)) → EachSpelled version (record_of_state s).peers
reached_spelled version o lists s valid none reached placed =
    let sound = reached_sound o s valid reached in
    records_spelled version s.peers s.drivers
    (λ p d is_driver same. calls_spelled version d (sound.receipts.named p d is_driver) (commands_of lists p) (commands_none version lists p none) (subst (AllInPlace (commands_of lists p)) same (placed p)))

module _ (version : Version) (o : Opening) (lists : List (List Command)) (turns : List ℕ) (valid : IsOpening o) (none : AreTold version lists) where
  came_to : (m : Shortage) (count : ℕ) (end : Playing) → moves o lists m count (start_of o turns) ≡ end → EachSpelled version (record_of_state end.state).peers
  came_to m count end is =
      let k = subst (Plays o lists) is (plays o lists m (λ s reached. reached_sound o s valid reached) turns count) in
      reached_spelled version o lists end.state valid none k.follow.reached (λ p. recorded_in_place lists end.state p k.follow.all)

  pub played_spelled : (r : Record) → IsPlay o lists turns r → EachSpelled version r.peers
  played_spelled r play = subst (λ z. EachSpelled version z.peers) (sym play.record_is) (came_to (shortage_of r) play.comes.count (record { state = play.state; stage = Finished }) play.comes.is_at)

  pub stalled_spelled : (waiting : List ℕ) (r : Record) → IsStall o lists turns waiting r → EachSpelled version r.peers
  stalled_spelled waiting r stall = subst (λ z. EachSpelled version z.peers) (sym stall.record_is) (came_to no_shortage stall.comes.count (record { state = stall.state; stage = Stalled }) stall.comes.is_at)
