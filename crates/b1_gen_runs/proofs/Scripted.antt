-- The commands of a generated script, and the calls that follow them.
use Rattle.std.proofs.Common.{◌≡◌, ◌⊎◌, inl, inr, refl, sym, ap, ◌∙◌, subst, ℕ, zero, suc, ◌+◌, ◌*◌, ◌<◌, ◌≤◌, ◌==◌, Bool, true, false, ◌&&◌, ◌||◌, List, [], ◌∷◌, ◌++◌, map, take, length, get_or, sum_by, Option, Some, None, option_map}
use Rattle.std.specs.Prelude.{slice_get, ⊤}
use Rattle.std.specs.List.{flat_map, range_with_len}
use Rattle.std.proofs.lemmas.Option.{same_Some, slice_get_within, slice_get-map, slice_get-get_or}
use Rattle.std.proofs.lemmas.Bool.{eq-eqb}
use Rattle.std.proofs.lemmas.List.{length-map}
use Rattle.std.proofs.lemmas.List.FromFn.{length-range_with_len}
use Rattle.std.proofs.lemmas.List.Sums.{sum_by-cons, sum_by-append}
use native.Mathlib.Omega.{arith}
use Rattle.b1_model.specs.declared.commands.Command.{Command}
use Rattle.b1_model.specs.declared.commands.Command.TheVariants as cmd
use Rattle.b1_model.specs.declared.answers.Answer.{Answer}
use Rattle.b1_model.specs.declared.answers.Answer.TheVariants as answer
use Rattle.b1_model.specs.declared.records.Call.{Call}
use Rattle.b1_model.specs.Names.{calls_of}
use Rattle.b1_model.specs.Script.{resolved, resolved_handle, IsInPlace, commands_of}
use Rattle.b1_model.specs.MachineParts.{PeerPart, DriverPart, State}
use Rattle.b1_model.specs.MachineDriver.{is_memory, send_of}
use Rattle.b1_model.specs.MachineTook.{driver_calls}
use Rattle.b1_model.specs.MachineStep.{record_of_state, no_peer}
use Rattle.b1_step.specs.Rights.{Has}
use Rattle.b1_step.proofs.Lists.{has_append, has_at}
use Rattle.b1_inv.specs.Words.{IsPeer, IsDriver}
use Rattle.b1_inv.specs.Sound.{IsSound}
use Rattle.b1_inv_cover.proofs.Listed.{recorded_calls}
use Rattle.b1_schedule.specs.Shortage.{same_place, is_short_answer, is_behind}
use Rattle.b1_play_commands.specs.Following.{AllInPlace, asked, Follows}
use Rattle.b1_play_commands.proofs.Calls.{driver_follows}
use Rattle.b1_gen.specs.Generated.{below, peer_count, partners, handle_at, sending, taking, taken_before, phase_commands, commands_before, opening_of, peer_spec}
use Rattle.b1_gen.specs.Generated.{commands_of as commands_of_peer}
use Rattle.b1_gen.specs.Generated.{generated}
use Rattle.b1_gen.specs.declared.numbers.TheConstants.{PHASES}
use Rattle.b1_gen.proofs.Rising.{commands_before-none, commands_before-more}
use Rattle.b1_gen_runs.specs.Sums.{where_true, is_send, sends}
use Rattle.b1_gen_runs.specs.Phases.{IsPlain, IsShort, IsPlainDriver}
use Rattle.b1_gen_runs.specs.States.{AllPlain}
use Rattle.b1_gen_runs.specs.Runs.{IsRun}
use Rattle.b1_gen_runs.proofs.Commands.{handle_even}

-- ---- the commands

-- how many SENDs are in a list of commands
abbrev pub sends_in : List Command → ℕ
sends_in commands = sum_by (λ c. where_true (is_send c) 1) commands

-- a command of a script, before its references are resolved
abbrev pub IsScripted : ℕ → ℕ → Command → Type 0
IsScripted number p (cmd.Send c) = (k : ℕ) × (cmd.Send c ≡ sending number p k)
IsScripted number p (cmd.SliceRelease offset) = ⊤
IsScripted number p cmd.Await = ⊤
IsScripted number p command = ⊥

takings_scripted : (number p : ℕ) (rs : List ℕ) (c : Command) → Has (flat_map taking rs) c → IsScripted number p c
takings_scripted number p [] c has = absurd has
takings_scripted number p (r ∷ rs) c (inl same) = subst (IsScripted number p) (sym same) tt
takings_scripted number p (r ∷ rs) c (inr (inl same)) = subst (IsScripted number p) (sym same) tt
takings_scripted number p (r ∷ rs) c (inr (inr has)) = takings_scripted number p rs c has

before_scripted : (number p n : ℕ) (c : Command) → Has (commands_before number p n) c → IsScripted number p c
before_scripted number p zero c has = absurd (subst (λ l. Has l c) (commands_before-none number p) has)
before_scripted number p (suc n) c has =
    let more : commands_before number p (suc n) ≡ commands_before number p n ++ phase_commands number p n = ap (commands_before number p) (one_more n) ∙ commands_before-more number p n in
    at (before_scripted number p n c) (has_append (commands_before number p n) (phase_commands number p n) c (subst (λ l. Has l c) more has))
  where
    one_more : (m : ℕ) → suc m ≡ m + 1
    one_more m = omega arith

    at : (Has (commands_before number p n) c → IsScripted number p c) → Has (commands_before number p n) c ⊎ Has (phase_commands number p n) c → IsScripted number p c
    at earlier (inl old) = earlier old
    at earlier (inr (inl same)) = subst (IsScripted number p) (sym same) (n, refl)
    at earlier (inr (inr has)) = takings_scripted number p (range_with_len (taken_before number p n) (length (partners number n p))) c has

takings_send : (rs : List ℕ) → sends_in (flat_map taking rs) ≡ 0
takings_send [] = refl
takings_send (r ∷ rs) =
    let k = sum_by-cons (λ c. where_true (is_send c) 1) cmd.Await (cmd.SliceRelease (2 * r + 1) ∷ flat_map taking rs) in
    let l = sum_by-cons (λ c. where_true (is_send c) 1) (cmd.SliceRelease (2 * r + 1)) (flat_map taking rs) in
    let m = takings_send rs in
    omega (arith, k, l, m)

before_send : (number p n : ℕ) → sends_in (commands_before number p n) ≡ n
before_send number p zero = ap sends_in (commands_before-none number p)
before_send number p (suc n) =
    let more : commands_before number p (suc n) ≡ commands_before number p n ++ phase_commands number p n = ap (commands_before number p) (one_more n) ∙ commands_before-more number p n in
    let a = ap sends_in more in
    let b = sum_by-append (λ c. where_true (is_send c) 1) (commands_before number p n) (phase_commands number p n) in
    let c = sum_by-cons (λ c. where_true (is_send c) 1) (sending number p n) (flat_map taking (range_with_len (taken_before number p n) (length (partners number n p)))) in
    let d = takings_send (range_with_len (taken_before number p n) (length (partners number n p))) in
    let e = before_send number p n in
    omega (arith, a, b, c, d, e)
  where
    one_more : (m : ℕ) → suc m ≡ m + 1
    one_more m = omega arith

-- all commands of a peer
pub all_before : (number p : ℕ) → commands_of_peer number p ≡ commands_before number p PHASES
unfolding commands_of_peer
all_before number p = refl

pub are_scripted : (number p : ℕ) (c : Command) → Has (commands_of_peer number p) c → IsScripted number p c
are_scripted number p c has = before_scripted number p PHASES c (subst (λ l. Has l c) (all_before number p) has)

pub send_often : (number p : ℕ) → sends_in (commands_of_peer number p) ≡ PHASES
send_often number p = ap sends_in (all_before number p) ∙ before_send number p PHASES

-- ---- resolved

handles_resolved : (p : ℕ) (calls : List Call) (rs : List ℕ) → map (resolved_handle calls) (map (handle_at p) rs) ≡ map (handle_at p) rs
handles_resolved p calls [] = refl
handles_resolved p calls (r ∷ rs) = rw (ap (λ n. n == 1) (handle_even p r)) (ap (λ l. handle_at p r ∷ l) (handles_resolved p calls rs))

pub sending_resolved : (number p k : ℕ) (calls : List Call) → resolved (sending number p k) calls ≡ sending number p k
sending_resolved number p k calls = ap (λ to. cmd.Send (record { go_on = false; to = to; with = []; payload = (send_of (sending number p k)).payload })) (handles_resolved p calls (partners number k p))

pub resolved_plain : (number p : ℕ) (command : Command) (calls : List Call) → IsScripted number p command → IsPlain number p (resolved command calls)
resolved_plain number p (cmd.Send c) calls (k, is) = (k, ap (λ command. resolved command calls) is ∙ sending_resolved number p k calls)
resolved_plain number p (cmd.SliceRelease offset) calls is = tt
resolved_plain number p cmd.Await calls is = tt
resolved_plain number p command calls is = absurd is

resolved_send : (command : Command) (calls : List Call) → is_send (resolved command calls) ≡ is_send command
resolved_send (cmd.Send c) calls = refl
resolved_send (cmd.SliceRelease offset) calls = refl
resolved_send (cmd.Release offset) calls = refl
resolved_send (cmd.Destroy offset) calls = refl
resolved_send cmd.Await calls = refl
resolved_send cmd.Recv calls = refl
resolved_send cmd.Query calls = refl
resolved_send cmd.Disconnect calls = refl
resolved_send (cmd.Reset limits) calls = refl
resolved_send (cmd.Limit limits) calls = refl

-- a call in its place is plain
pub in_place_plain : (number p : ℕ) (calls : List Call) (command : Command) (c : Call) → IsScripted number p command → IsInPlace calls (Some command) (Some c) → IsPlain number p c.command
in_place_plain number p calls cmd.Await c scripted is = subst (IsPlain number p) (sym is.0) tt
in_place_plain number p calls (cmd.Send s) c scripted is = subst (IsPlain number p) (sym is.0) (resolved_plain number p (cmd.Send s) calls scripted)
in_place_plain number p calls (cmd.SliceRelease offset) c scripted is = subst (IsPlain number p) (sym is.0) tt
in_place_plain number p calls command c scripted is = absurd scripted

-- a SEND in its place is a SEND of the script
in_place_send : (calls : List Call) (next : Option Command) (c : Call) → IsInPlace calls next (Some c) → is_send c.command ≡ true → (command : Command) × (next ≡ Some command) × (is_send command ≡ true)
in_place_send calls None c is send = absurd (let e : false ≡ true = sym (ap is_send is.0) ∙ send in cc e)
in_place_send calls (Some cmd.Await) c is send = absurd (let e : false ≡ true = sym (ap is_send is.0) ∙ send in cc e)
in_place_send calls (Some (cmd.Send s)) c is send = (cmd.Send s, refl, refl)
in_place_send calls (Some cmd.Recv) c is send = absurd (let e : false ≡ true = sym (ap is_send is.0) ∙ send in cc e)
in_place_send calls (Some cmd.Query) c is send = absurd (let e : false ≡ true = sym (ap is_send is.0) ∙ send in cc e)
in_place_send calls (Some cmd.Disconnect) c is send = absurd (let e : false ≡ true = sym (ap is_send is.0) ∙ send in cc e)
in_place_send calls (Some (cmd.Reset limits)) c is send = absurd (let e : false ≡ true = sym (ap is_send is.0) ∙ send in cc e)
in_place_send calls (Some (cmd.Limit limits)) c is send = absurd (let e : false ≡ true = sym (ap is_send is.0) ∙ send in cc e)
in_place_send calls (Some (cmd.Release handle)) c is send = absurd (let e : false ≡ true = sym (ap is_send is.0) ∙ send in cc e)
in_place_send calls (Some (cmd.Destroy numbers)) c is send = absurd (let e : false ≡ true = sym (ap is_send is.0) ∙ send in cc e)
in_place_send calls (Some (cmd.SliceRelease offset)) c is send = absurd (let e : false ≡ true = sym (ap is_send is.0) ∙ send in cc e)

-- no more SENDs among the calls than among the commands
le_by : (a b : Bool) → (a ≡ true → b ≡ true) → where_true a 1 ≤ where_true b 1
le_by false b so = omega arith
le_by true b so = subst (λ z. 1 ≤ where_true z 1) (sym (so refl)) (omega arith)

abbrev EachIn : List Call → List Command → Type 0
EachIn calls commands = (k : ℕ) (c : Call) → slice_get calls k ≡ Some c → is_send c.command ≡ true → (command : Command) × (slice_get commands k ≡ Some command) × (is_send command ≡ true)

sends_few : (calls : List Call) (commands : List Command) → EachIn calls commands → sends calls ≤ sends_in commands
sends_few [] commands each = omega arith
sends_few (c ∷ calls) [] each =
    let k = sum_by-cons (λ (c : Call). where_true (is_send c.command) 1) c calls in
    let l = sends_few calls [] (λ i d is. each (suc i) d is) in
    let m = le_by (is_send c.command) false (λ is. absurd (let found = each 0 c refl is in let e : None ≡ Some found.0 = found.1 in cc e)) in
    omega (arith, k, l, m)
sends_few (c ∷ calls) (d ∷ commands) each =
    let k = sum_by-cons (λ (c : Call). where_true (is_send c.command) 1) c calls in
    let n = sum_by-cons (λ c. where_true (is_send c) 1) d commands in
    let l = sends_few calls commands (λ i e is. each (suc i) e is) in
    let m = le_by (is_send c.command) (is_send d) (λ is. let found = each 0 c refl is in ap is_send (same_Some d found.0 found.1) ∙ found.2) in
    omega (arith, k, n, l, m)

-- ---- the premises of a run

-- the list of commands of a peer
lists_are : (number p : ℕ) → p < peer_count number → slice_get (below (peer_count number)) p ≡ Some p → commands_of (generated number).commands p ≡ commands_of_peer number p
lists_are number p less at = ap (λ found. elim found [ None ↦ [] | Some commands ↦ commands ]) (slice_get-map (commands_of_peer number) (below (peer_count number)) p ∙ ap (option_map (commands_of_peer number)) at)

range_at : (from n i : ℕ) → i < n → slice_get (range_with_len from n) i ≡ Some (from + i)
range_at from zero i less = absurd (omega (arith, less))
range_at from (suc n) zero less = ap Some (plus_zero from)
  where
    plus_zero : (m : ℕ) → m ≡ m + 0
    plus_zero m = omega arith
range_at from (suc n) (suc i) less = range_at (from + 1) n i (omega (arith, less)) ∙ ap Some (later from i)
  where
    later : (m j : ℕ) → m + 1 + j ≡ m + suc j
    later m j = omega arith

pub commands_are : (number p : ℕ) → p < peer_count number → commands_of (generated number).commands p ≡ commands_of_peer number p
commands_are number p less = lists_are number p less (range_at 0 (peer_count number) p less ∙ ap Some (zero_plus p))
  where
    zero_plus : (m : ℕ) → 0 + m ≡ m
    zero_plus m = omega arith

-- what was refused for memory stands in the record
short_shown : (command : Command) (got : Answer) → IsShort got → (place : Option ℕ) × (is_short_answer command got place ≡ true)
short_shown command (answer.Refused refused) short = (refused.place, shown (is_memory (Some refused.reason)) short)
  where
    same_itself : (place : Option ℕ) → same_place place place ≡ true
    same_itself None = refl
    same_itself (Some i) = eq-eqb i i refl

    shown : (b : Bool) → b ≡ true → (b && (same_place refused.place refused.place || ((send_of command).go_on && is_behind refused.place refused.place))) ≡ true
    shown true is = ap (λ c. c || ((send_of command).go_on && is_behind refused.place refused.place)) (same_itself refused.place)
    shown false is = absurd (cc is)
short_shown command got short = absurd short

pub has_place : {X : Type 0} (xs : List X) (x : X) → Has xs x → (k : ℕ) × (slice_get xs k ≡ Some x)
has_place [] x has = absurd has
has_place (y ∷ ys) x (inl same) = (0, ap Some (sym same))
has_place (y ∷ ys) x (inr has) = let k = has_place ys x has in (suc k.0, k.1)

module _ (number : ℕ) (s : State) (sound : IsSound (opening_of (peer_count number)) s) (run : IsRun number s) where
  module _ (p : ℕ) (d : DriverPart) (is : IsDriver s p d) where
    less : p < peer_count number
    less = let k = slice_get_within s.drivers p d is in let l = sound.numbered.as_many_drivers in let m = length-map (below (peer_count number)) peer_spec in let n = length-range_with_len 0 (peer_count number) in omega (arith, k, l, m, n)

    abbrev commands : List Command
    commands = commands_of_peer number p

    pub follows : Follows commands d
    follows = subst (λ l. Follows l d) (commands_are number p less) (run.follows p d is)

    pub in_place : AllInPlace commands (driver_calls d)
    in_place = driver_follows commands d follows

    command_plain : (calls : List Call) (next : Option Command) (k : ℕ) (c : Call) → slice_get commands k ≡ next → IsInPlace calls next (Some c) → IsPlain number p c.command
    command_plain calls None k c at placed = subst (IsPlain number p) (sym placed.0) tt
    command_plain calls (Some command) k c at placed = in_place_plain number p calls command c (are_scripted number p command (has_at commands k command at)) placed

    recorded_at : (x : PeerPart) → IsPeer s p x → calls_of (record_of_state s) p ≡ driver_calls d
    recorded_at x there = recorded_calls s p x d there is

    pub peer_there : (x : PeerPart) × IsPeer s p x
    peer_there = (get_or s.peers p no_peer, slice_get-get_or s.peers p no_peer (let k = slice_get_within s.drivers p d is in let l = sound.numbered.as_many_drivers in let m = sound.numbered.as_many_peers in omega (arith, k, l, m)))

    not_short : (k : ℕ) (c : Call) → slice_get (driver_calls d) k ≡ Some c → IsShort c.answer → ⊥
    not_short k c at short =
        let shown = short_shown c.command c.answer short in
        let found : slice_get (calls_of (record_of_state s) p) k ≡ Some c = ap (λ calls. slice_get calls k) (recorded_at peer_there.0 peer_there.1) ∙ at in
        let told : true ≡ false = sym shown.1 ∙ ap (λ (one : Option Call). elim one [ None ↦ false | Some call ↦ is_short_answer call.command call.answer shown.0 ]) (sym found) ∙ run.memory p k shown.0 in
        cc told

    doing_plain : (next : Option Command) (k : ℕ) (calls : List Call) → slice_get commands k ≡ next → IsPlain number p (asked next calls)
    doing_plain None k calls at = tt
    doing_plain (Some command) k calls at = resolved_plain number p command calls (are_scripted number p command (has_at commands k command at))

    pub driver_plain : IsPlainDriver number p d
    driver_plain = record {
      calls = λ c has.
          let k = has_place (driver_calls d) c has in
          record {
            command = command_plain (take k.0 (driver_calls d)) (slice_get commands k.0) k.0 c refl (in_place k.0 c k.1);
            ample = not_short k.0 c k.1;
          };
      doing = λ doing open_is. subst (IsPlain number p) (sym (follows.doing doing open_is).command) (doing_plain (slice_get commands (length d.calls)) (length d.calls) d.calls refl);
      few =
          let l = sends_few d.calls commands (λ k c at send. in_place_send (take k d.calls) (slice_get commands k) c (follows.calls k c at) send) in
          let m = send_often number p in
          omega (arith, l, m);
    }

  pub run_plain : AllPlain number s
  run_plain p d is = driver_plain p d is
