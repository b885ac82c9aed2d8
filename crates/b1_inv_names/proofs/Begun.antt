-- The nodes of an open SEND are what its numbers name at its own peer.
use Rattle.std.proofs.Common.{◌≡◌, ◌≢◌, ◌⊎◌, refl, sym, ap, subst, ◌∙◌, inl, inr, ℕ, suc, ◌+◌, ◌≤◌, ◌==◌, max, Bool, true, false, cond, not, ◌&&◌, nat_lt, List, [], ◌∷◌, ◌++◌, map, find, filter_map, length, get_or, drop, Option, Some, None, Ok, Err, Result}
use Rattle.std.specs.Prelude.{⊤}
use Rattle.std.specs.List.{position_or_len}
use Rattle.std.proofs.lemmas.Bool.{eq-eqb}
use native.Mathlib.Omega.{arith}
use Rattle.b1_model.specs.declared.commands.Command.{Command}
use Rattle.b1_model.specs.declared.commands.Command.TheVariants as cmd
use Rattle.b1_model.specs.declared.commands.SendCmd.{SendCmd}
use Rattle.b1_model.specs.declared.naming.NodeRef.{NodeRef}
use Rattle.b1_model.specs.declared.naming.Opening.{Opening}
use Rattle.b1_model.specs.declared.answers.Answer.TheVariants as answer
use Rattle.b1_model.specs.declared.answers.Reason.{Reason}
use Rattle.b1_model.specs.declared.answers.Refused.{Refused}
use Rattle.b1_model.specs.declared.parts.Begun.{Begun}
use Rattle.b1_model.specs.declared.parts.Owed.{Owed}
use Rattle.b1_model.specs.declared.events.Action.{Action}
use Rattle.b1_model.specs.declared.events.Action.TheVariants as act
use Rattle.b1_model.specs.declared.events.Destruction.{Destruction}
use Rattle.b1_model.specs.declared.events.Doing.{Doing}
use Rattle.b1_model.specs.declared.events.OwedDrop.{OwedDrop}
use Rattle.b1_model.specs.declared.events.Outcome.{Outcome}
use Rattle.b1_model.specs.declared.events.Outcome.TheVariants as out
use Rattle.b1_model.specs.declared.events.Phase.{Phase}
use Rattle.b1_model.specs.declared.events.Phase.TheVariants.{Starting, Staging, Unstaging, Attaching, Stamping, Syncing, Committing, Visiting, Dooming, SyncingNotices, CommittingOwn, CommittingNotices, Flushing}
use Rattle.b1_model.specs.declared.events.Sending.{Sending}
use Rattle.b1_model.specs.Names.{is_own}
use Rattle.b1_model.specs.MachineParts.{PeerPart, NodePart, HandleRecord, DriverPart, State}
use Rattle.b1_model.specs.MachineTables.{serial_of, held_node, is_number, node_named}
use Rattle.b1_model.specs.MachineSend.{send_refusal, begun_part}
use Rattle.b1_model.specs.MachineReceive.{released, released_part}
use Rattle.b1_model.specs.MachineDriver.{accepted_from, is_place, attaching, with_slot, all_staged, staging, all_refused, unstaging, syncing, visiting, with_visit, syncing_notices, committing_notices, destroying, is_flushing, send_of, started, turn, Turn, Goes, Ends, first_action, next_action, peer_of}
use Rattle.b1_model.specs.MachineEvents.{happens, begin_by, destroy_by, begin_refusal, begin_serials, begun_of, no_begun}
use Rattle.b1_model.specs.MachineStep.{Step, opening_state}
use Rattle.b1_step.specs.Rights.{Has, node_facts, Keeps, HandlesKept, SameHandle, may_be_elsewhere}
use Rattle.b1_step.proofs.Kept.{keeps}
use Rattle.b1_inv.specs.Words.{IsPeer, IsDriver}
use Rattle.b1_inv.specs.Numbers.{AreNumbered}
use Rattle.b1_inv.specs.Sends.{SendShape}
use Rattle.b1_inv.specs.Sound.{IsSound}
use Rattle.b1_inv_record.specs.Names.{BegunNames}
use Rattle.b1_inv_refs.proofs.GivenUp.{found_has, found_none, number_is}
use Rattle.b1_inv_sends.proofs.SendsKept.{sends_kept}
use Rattle.b1_inv_tools.proofs.Leaves.{driver_cases, peer_cases}
use Rattle.b1_inv_tools.proofs.Openings.{opening_idle}
use Rattle.b1_inv_notices.proofs.Turns.{doing_in, opened, answered, OnTurn, took_leaves, parts, going, going_doing, going_action, going_answer}
use Rattle.b1_inv_names.proofs.Numbers.{node_numbers}

-- ---- what a number names, by a part's numbers and records

place_same : (n : ℕ) (nodes : List NodePart) → position_or_len (λ z. z.number == n) nodes ≡ position_or_len (λ m. m == n) (node_numbers nodes)
place_same n [] = refl
place_same n (x ∷ xs) = ap (λ k. cond (not (x.number == n)) (1 + k) 0) (place_same n xs)

as_long : (nodes : List NodePart) → length nodes ≡ length (node_numbers nodes)
as_long [] = refl
as_long (x ∷ xs) = ap suc (as_long xs)

pub serial_by : ℕ → List ℕ → Option ℕ
serial_by n numbers = cond (nat_lt (position_or_len (λ m. m == n) numbers) (length numbers)) (Some (position_or_len (λ m. m == n) numbers)) None

pub serial_is : (n : ℕ) (nodes : List NodePart) → serial_of n nodes ≡ serial_by n (node_numbers nodes)
unfolding serial_by
serial_is n nodes =
    ap (λ i. cond (nat_lt i (length nodes)) (Some i) None) (place_same n nodes)
    ∙ ap (λ l. cond (nat_lt (position_or_len (λ m. m == n) (node_numbers nodes)) l) (Some (position_or_len (λ m. m == n) (node_numbers nodes))) None) (as_long nodes)

-- nodes with the same numbers have the same serials
pub serial_same : (n : ℕ) (ns ms : List NodePart) → node_numbers ms ≡ node_numbers ns → serial_of n ms ≡ serial_of n ns
serial_same n ns ms same = serial_is n ms ∙ ap (serial_by n) same ∙ sym (serial_is n ns)

pub facts_numbers : (nodes : List NodePart) → map (λ f. f.0) (map node_facts nodes) ≡ node_numbers nodes
facts_numbers [] = refl
facts_numbers (n ∷ ns) = ap (λ l. n.number ∷ l) (facts_numbers ns)

passes_number : (n : ℕ) (h : HandleRecord) → h.number ≡ Some n → is_number n h ≡ true
passes_number n h is = ap (λ r. elim r [ None ↦ false | Some m ↦ m == n ]) is ∙ eq-eqb n n refl

module _ (given n : ℕ) (old new : List HandleRecord) (numbered : AreNumbered given old) (kept : HandlesKept old new) where
  not_none : (h : HandleRecord) → Has old h → h.number ≡ Some n → find (is_number n) new ≡ None → ⊥
  not_none h there is none = elim (kept.stays h there) [
    | inl k ↦ let both : true ≡ false = sym (passes_number n k.0 (k.2.number ∙ is)) ∙ found_none (is_number n) new k.0 none k.1 in absurd (cc both)
    | inr unheld ↦ let held = (numbered.held h n there is).0 in absurd (omega (arith, held, unheld))
  ]

  was_there : (g : HandleRecord) → Has new g → g.number ≡ Some n → (h : HandleRecord) × Has old h × SameHandle h g
  was_there g there is = elim (kept.comes g there) [
    | inl k ↦ k
    | inr k ↦ let both : Some n ≡ None = sym is ∙ k.0.number in absurd (cc both)
  ]

  by_found : (before after : Option HandleRecord) → find (is_number n) old ≡ before → find (is_number n) new ≡ after → ◌≡◌ {A = Option NodeRef} (elim after [ None ↦ None | Some h ↦ Some h.node ]) (elim before [ None ↦ None | Some h ↦ Some h.node ])
  by_found None None was is = refl
  by_found (Some h) None was is = let f = found_has (is_number n) old h was in absurd (not_none h f.0 (number_is n h f.1) is)
  by_found None (Some g) was is =
      let f = found_has (is_number n) new g is in
      let k = was_there g f.0 (number_is n g f.1) in
      let both : true ≡ false = sym (passes_number n k.0 (sym k.2.number ∙ number_is n g f.1)) ∙ found_none (is_number n) old k.0 was k.1 in absurd (cc both)
  by_found (Some h) (Some g) was is =
      let f = found_has (is_number n) new g is in
      let e = found_has (is_number n) old h was in
      let k = was_there g f.0 (number_is n g f.1) in
      ap Some (k.2.node ∙ numbered.apart k.0 h n k.1 e.0 (sym k.2.number ∙ number_is n g f.1) (number_is n h e.1))

  held_same : held_node n new ≡ held_node n old
  held_same = by_found (find (is_number n) old) (find (is_number n) new) refl refl

-- every number names what it named
abbrev SameNames : PeerPart → PeerPart → Type 0
SameNames x y = (n : ℕ) → node_named y n ≡ node_named x n

own_named : ℕ → Option ℕ → Option NodeRef
own_named me found = elim found [ None ↦ None | Some serial ↦ Some (record { owner = me; serial = serial }) ]

kept_names : (p given : ℕ) (x y : PeerPart) → AreNumbered given x.handles → Keeps p x y → SameNames x y
unfolding own_named
kept_names p given x y numbered k n =
    let numbers : node_numbers y.nodes ≡ node_numbers x.nodes = sym (facts_numbers y.nodes) ∙ ap (map (λ f. f.0)) k.nodes ∙ facts_numbers x.nodes in
    let serial : serial_of n y.nodes ≡ serial_of n x.nodes = serial_is n y.nodes ∙ ap (serial_by n) numbers ∙ sym (serial_is n x.nodes) in
    ap (λ r. cond (is_own n) (own_named y.me r) (held_node n y.handles)) serial
    ∙ ap (λ me. cond (is_own n) (own_named me (serial_of n x.nodes)) (held_node n y.handles)) k.me
    ∙ ap (λ r. cond (is_own n) (own_named x.me (serial_of n x.nodes)) r) (held_same given n x.handles y.handles numbered k.handles)

-- ---- what an open SEND names

-- the nodes found are what its numbers name
abbrev Names : Command → PeerPart → Begun → Type 0
Names command x begun = (map (node_named x) (send_of command).to ≡ map Some begun.to) × (map (node_named x) (send_of command).with ≡ map Some begun.with)

map_same : (x y : PeerPart) → SameNames x y → (numbers : List ℕ) → map (node_named y) numbers ≡ map (node_named x) numbers
map_same x y same [] = refl
map_same x y same (n ∷ rest) = ap (λ r. r ∷ map (node_named y) rest) (same n) ∙ ap (λ l. node_named x n ∷ l) (map_same x y same rest)

names_same : (command : Command) (x y : PeerPart) (begun : Begun) → SameNames x y → Names command x begun → Names command y begun
names_same command x y begun same (to, with) = (map_same x y same (send_of command).to ∙ to, map_same x y same (send_of command).with ∙ with)

map_none : (x y : PeerPart) (numbers : List ℕ) → ◌≡◌ {A = List (Option NodeRef)} (map (node_named x) numbers) [] → ◌≡◌ {A = List (Option NodeRef)} (map (node_named y) numbers) []
map_none x y [] is = refl
map_none x y (n ∷ rest) is = absurd (cc is)

names_none : (command : Command) (x y : PeerPart) (begun : Begun) → begun ≡ no_begun → Names command x begun → Names command y begun
names_none command x y begun none names =
    let before = subst (Names command x) none names in
    subst (Names command y) (sym none) (map_none x y (send_of command).to before.0, map_none x y (send_of command).with before.1)

module _ (f : ℕ → Option NodeRef) where
  found_step : (n : ℕ) (rest : List ℕ) (node : NodeRef) → f n ≡ Some node → filter_map f (n ∷ rest) ≡ node ∷ filter_map f rest
  found_step n rest node is = rw is refl

  none_step : (n : ℕ) (rest : List ℕ) → f n ≡ None → filter_map f (n ∷ rest) ≡ filter_map f rest
  none_step n rest is = rw is refl

  at_most : (numbers : List ℕ) → length (filter_map f numbers) ≤ length numbers
  at_most [] = omega arith
  at_most (n ∷ rest) = by (f n) refl (at_most rest)
    where
      by : (r : Option NodeRef) → f n ≡ r → length (filter_map f rest) ≤ length rest → length (filter_map f (n ∷ rest)) ≤ suc (length rest)
      by None is less = let same = ap length (none_step n rest is) in omega (arith, less, same)
      by (Some node) is less = let same : length (filter_map f (n ∷ rest)) ≡ suc (length (filter_map f rest)) = ap length (found_step n rest node is) in omega (arith, less, same)

  all_found : (numbers : List ℕ) → length (filter_map f numbers) ≡ length numbers → map f numbers ≡ map Some (filter_map f numbers)
  all_found [] many = refl
  all_found (n ∷ rest) many = by (f n) refl (all_found rest)
    where
      by : (r : Option NodeRef) → f n ≡ r → (length (filter_map f rest) ≡ length rest → map f rest ≡ map Some (filter_map f rest)) → f n ∷ map f rest ≡ map Some (filter_map f (n ∷ rest))
      by None is further = let same = ap length (none_step n rest is) in let less = at_most rest in absurd (omega (arith, less, same, many))
      by (Some node) is further =
          let same : length (filter_map f (n ∷ rest)) ≡ suc (length (filter_map f rest)) = ap length (found_step n rest node is) in
          ap (λ r. r ∷ map f rest) is ∙ ap (λ l. Some node ∷ l) (further (omega (arith, same, many))) ∙ sym (ap (map Some) (found_step n rest node is))

-- ---- turns

-- a turn leaves the nodes found
abbrev BegunIs : Begun → Turn → Type 0
BegunIs begun (Goes phase) = begun_of phase ≡ begun
BegunIs begun (Ends got) = ⊤

begun_attaching : (sending : Sending) (place slot : ℕ) → begun_of (attaching sending place slot) ≡ sending.begun
begun_attaching sending place slot = by (nat_lt slot (length sending.begun.with)) (nat_lt 0 (length sending.begun.with) && is_place (accepted_from (place + 1) sending.places) sending.places) (accepted_from (place + 1) sending.places)
  where
    by : (b c : Bool) (next : ℕ) → begun_of (cond b (Attaching sending place slot) (cond c (Attaching sending next 0) (Stamping sending))) ≡ sending.begun
    by true c next = refl
    by false true next = refl
    by false false next = refl

begun_staging : (begun : Begun) (places : List (Option Reason)) (collected : ℕ) → BegunIs begun (staging begun places collected)
begun_staging begun places collected = by (nat_lt (length places) (length begun.to)) (is_place (accepted_from 0 places) places)
  where
    by : (b c : Bool) → BegunIs begun (cond b (Goes (Staging begun places collected)) (cond c (Goes (attaching (all_staged begun places collected) (accepted_from 0 places) 0)) (Ends (all_refused places))))
    by true c = refl
    by false true = begun_attaching (all_staged begun places collected) (accepted_from 0 places) 0
    by false false = tt

begun_unstaging : (begun : Begun) (places : List (Option Reason)) (refused : Refused) (place : ℕ) → BegunIs begun (unstaging begun places refused place)
begun_unstaging begun places refused place = by (is_place place places)
  where
    by : (b : Bool) → BegunIs begun (cond b (Goes (Unstaging begun places refused place)) (Ends (answer.Refused refused)))
    by true = refl
    by false = tt

begun_place : (begun : Begun) (places : List (Option Reason)) (collected : ℕ) (r : Reason) (b : Bool) → BegunIs begun (cond b (staging begun (places ++ Some r ∷ []) collected) (unstaging begun (places ++ Some r ∷ []) (record { reason = r; place = Some (length places) }) (accepted_from 0 (places ++ Some r ∷ []))))
begun_place begun places collected r true = begun_staging begun (places ++ Some r ∷ []) collected
begun_place begun places collected r false = begun_unstaging begun (places ++ Some r ∷ []) (record { reason = r; place = Some (length places) }) (accepted_from 0 (places ++ Some r ∷ []))

begun_syncing : (sending : Sending) (stamp place : ℕ) → begun_of (syncing sending stamp place) ≡ sending.begun
begun_syncing sending stamp place = by (is_place place sending.places)
  where
    by : (b : Bool) → begun_of (cond b (Syncing sending stamp place) (Committing sending stamp (accepted_from 0 sending.places))) ≡ sending.begun
    by true = refl
    by false = refl

begun_visiting : (d : Destruction) (left : List ℕ) → begun_of (visiting d left) ≡ no_begun
begun_visiting d [] = refl
begun_visiting d (peer ∷ rest) = refl

begun_notices : (d : Destruction) (stamp at : ℕ) → begun_of (syncing_notices d stamp at) ≡ no_begun
begun_notices d stamp at = by (nat_lt at (length d.staged))
  where
    by : (b : Bool) → begun_of (cond b (SyncingNotices d stamp at) (CommittingOwn d stamp)) ≡ no_begun
    by true = refl
    by false = refl

begun_commits : (command : Command) (d : Destruction) (stamp at : ℕ) → BegunIs no_begun (committing_notices command d stamp at)
begun_commits command d stamp at = by (nat_lt at (length d.staged)) (is_flushing command)
  where
    by : (b c : Bool) → BegunIs no_begun (cond b (Goes (CommittingNotices d stamp at)) (cond c (Goes (Flushing (Some stamp))) (Ends (answer.Destroyed stamp))))
    by true c = refl
    by false true = refl
    by false false = tt

begun_destroying : (doomed visit : List ℕ) → begun_of (destroying doomed visit) ≡ no_begun
begun_destroying [] visit = refl
begun_destroying (serial ∷ rest) visit = begun_visiting (record { doomed = serial ∷ rest; collected = 0; staged = [] }) visit

abbrev is_starting : Phase → Bool
is_starting Starting = true
is_starting phase = false

begun_turn : (me : ℕ) (command : Command) (phase : Phase) (outcome : Outcome) → is_starting phase ≡ false → BegunIs (begun_of phase) (turn me command phase outcome)
begun_turn me command Starting outcome on = absurd (cc on)
begun_turn me command (Staging begun places collected) (out.Stage (Ok clock)) on = begun_staging begun (places ++ None ∷ []) (max collected clock)
begun_turn me command (Staging begun places collected) (out.Stage (Err r)) on = begun_place begun places collected r (send_of command).go_on
begun_turn me command (Unstaging begun places refused place) out.Unstage on = begun_unstaging begun places refused (accepted_from (place + 1) places)
begun_turn me command (Attaching sending place slot) (out.Attach got) on = begun_attaching (with_slot sending place slot got) place (slot + 1)
begun_turn me command (Stamping sending) (out.Stamp stamp) on = begun_syncing sending stamp (accepted_from 0 sending.places)
begun_turn me command (Syncing sending stamp place) out.Sync on = begun_syncing sending stamp (accepted_from (place + 1) sending.places)
begun_turn me command (Committing sending stamp place) (out.Commit found) on = refl
begun_turn me command (Visiting d left) (out.Visit got) on = begun_visiting (with_visit d (get_or left 0 me) got) (drop 1 left)
begun_turn me command (Dooming d) (out.StampDestroy (Ok stamp)) on = begun_notices d stamp 0
begun_turn me command (Dooming d) (out.StampDestroy (Err late)) on = begun_visiting d late
begun_turn me command (SyncingNotices d stamp at) out.Sync on = begun_notices d stamp (at + 1)
begun_turn me command (CommittingOwn d stamp) out.CommitNotices on = begun_commits command d stamp 0
begun_turn me command (CommittingNotices d stamp at) out.CommitNotices on = begun_commits command d stamp (at + 1)
begun_turn me command (Flushing stamp) (out.Flush dead) on = refl
begun_turn me command phase outcome on = refl

-- ---- what is open after an event

module _ (t : State) where
  -- where the open command has the shape of its phase, its nodes are what its numbers name
  abbrev Found : PeerPart → Option Doing → Type 0
  Found y None = ⊤
  Found y (Some doing) = SendShape t doing.command doing.phase → Names doing.command y (begun_of doing.phase)

  on_turn : (command : Command) (y : PeerPart) (begun : Begun) (to : Turn) → BegunIs begun to → Names command y begun → OnTurn command (Found y) to
  on_turn command y begun (Goes phase) is names = λ shape. subst (Names command y) (sym is) names
  on_turn command y begun (Ends got) is names = tt

  begin_names : (r : Option Reason) (memory : Bool) (c : SendCmd) (x : PeerPart) → OnTurn (cmd.Send c) (Found (begin_by r memory c x).1) (started (cmd.Send c) (begin_by r memory c x).0)
  begin_names (Some r) memory c x = tt
  begin_names None true c x = tt
  begin_names None false c x = λ shape. (all_found (node_named (begun_part x c)) c.to shape.0.destinations, all_found (node_named (begun_part x c)) c.with shape.0.handles)

  destroy_names : (command : Command) (r : Option Reason) (doomed : List ℕ) (x y : PeerPart) → Names command y no_begun → OnTurn command (Found y) (started command (destroy_by r doomed x).0)
  destroy_names command (Some r) doomed x y names = tt
  destroy_names command None doomed x y names = λ shape. subst (Names command y) (sym (begun_destroying doomed _)) names

  release_names : (command : Command) (got : Result Owed Reason) (y : PeerPart) → Names command y no_begun → OnTurn command (Found y) (started command (out.Release got))
  release_names command (Ok owed) y names = λ shape. names
  release_names command (Err r) y names = tt

  module _ (o : Opening) (memory : Bool) (d : DriverPart) (x : PeerPart) where
    abbrev First : Command → Bool → Type 0
    First command shut =
        OnTurn command (Found (happens o memory (opened d command Starting []) (doing_in command Starting) (cond shut act.Local (first_action command)) x).1)
        (started command (happens o memory (opened d command Starting []) (doing_in command Starting) (cond shut act.Local (first_action command)) x).0)

    first_names : (command : Command) (shut : Bool) → First command shut
    first_names command true = tt
    first_names cmd.Disconnect false = destroy_names cmd.Disconnect (begin_refusal cmd.Disconnect x) (begin_serials cmd.Disconnect x) x (destroy_by (begin_refusal cmd.Disconnect x) (begin_serials cmd.Disconnect x) x).1 (refl, refl)
    first_names cmd.Query false = tt
    first_names (cmd.Reset limits) false = destroy_names (cmd.Reset limits) (begin_refusal (cmd.Reset limits) x) (begin_serials (cmd.Reset limits) x) x (destroy_by (begin_refusal (cmd.Reset limits) x) (begin_serials (cmd.Reset limits) x) x).1 (refl, refl)
    first_names (cmd.Limit limits) false = tt
    first_names (cmd.Release number) false = release_names (cmd.Release number) (released x number) (released_part x number) (refl, refl)
    first_names (cmd.Destroy numbers) false = destroy_names (cmd.Destroy numbers) (begin_refusal (cmd.Destroy numbers) x) (begin_serials (cmd.Destroy numbers) x) x (destroy_by (begin_refusal (cmd.Destroy numbers) x) (begin_serials (cmd.Destroy numbers) x) x).1 (refl, refl)
    first_names (cmd.SliceRelease offset) false = tt
    first_names (cmd.Send c) false = begin_names (send_refusal x c) memory c x
    first_names cmd.Recv false = λ shape. (refl, refl)
    first_names cmd.Await false = λ shape. (refl, refl)

    module _ (given : ℕ) (numbered : AreNumbered given x.handles) (command : Command) where
      abbrev after_event : Phase → List OwedDrop → PeerPart
      after_event phase owed = (answered o memory d command phase owed x).1

      stays_elsewhere : (e : DriverPart) (doing : Doing) (action : Action) → may_be_elsewhere action ≡ true → SameNames x (happens o memory e doing action x).1
      stays_elsewhere e doing action is = kept_names e.me given x _ numbered (keeps o memory e doing action x is)

      own_names : (phase : Phase) (owed : List OwedDrop) → is_starting phase ≡ false → SameNames x (after_event phase owed) ⊎ (begun_of phase ≡ no_begun)
      own_names phase (one ∷ rest) on = inl (stays_elsewhere (opened d command phase (one ∷ rest)) (doing_in command phase) (act.DropRefs one.node.owner one.node.serial one.holder one.amount one.clock) refl)
      own_names Starting [] on = absurd (cc on)
      own_names (Staging begun places collected) [] on = inl (stays_elsewhere (opened d command (Staging begun places collected) []) (doing_in command (Staging begun places collected)) (next_action (opened d command (Staging begun places collected) [])) refl)
      own_names (Unstaging begun places refused place) [] on = inl (stays_elsewhere (opened d command (Unstaging begun places refused place) []) (doing_in command (Unstaging begun places refused place)) (next_action (opened d command (Unstaging begun places refused place) [])) refl)
      own_names (Attaching sending place slot) [] on = inl (stays_elsewhere (opened d command (Attaching sending place slot) []) (doing_in command (Attaching sending place slot)) (next_action (opened d command (Attaching sending place slot) [])) refl)
      own_names (Stamping sending) [] on = inl (λ n. refl)
      own_names (Syncing sending stamp place) [] on = inl (λ n. refl)
      own_names (Committing sending stamp place) [] on = inl (stays_elsewhere (opened d command (Committing sending stamp place) []) (doing_in command (Committing sending stamp place)) (next_action (opened d command (Committing sending stamp place) [])) refl)
      own_names phase [] on = inr refl

      by_turn : (y : PeerPart) (phase : Phase) (owed : List OwedDrop) → is_starting phase ≡ false → Names command y (begun_of phase) → OnTurn command (Found y) (turn d.me command phase (answered o memory d command phase owed x).0)
      by_turn y phase owed on names = on_turn command y (begun_of phase) (turn d.me command phase (answered o memory d command phase owed x).0) (begun_turn d.me command phase (answered o memory d command phase owed x).0 on) names

      -- at the driver's own peer
      own_event : (phase : Phase) (owed : List OwedDrop) → (is_starting phase ≡ false → Names command x (begun_of phase)) → OnTurn command (Found (after_event phase owed)) (turn d.me command phase (answered o memory d command phase owed x).0)
      own_event Starting (one ∷ rest) before = λ shape. absurd shape
      own_event Starting [] before = first_names command d.shut
      own_event phase owed before = by_turn (after_event phase owed) phase owed refl (names_on phase owed refl (before refl))
        where
          names_on : (phase : Phase) (owed : List OwedDrop) → is_starting phase ≡ false → Names command x (begun_of phase) → Names command (after_event phase owed) (begun_of phase)
          names_on phase owed on names = elim (own_names phase owed on) [
            | inl same ↦ names_same command x (after_event phase owed) (begun_of phase) same names
            | inr none ↦ names_none command x (after_event phase owed) (begun_of phase) none names
          ]

      starting_here : (c : Command) (shut : Bool) → peer_of d.me (cond shut act.Local (first_action c)) ≡ d.me
      starting_here c true = refl
      starting_here cmd.Disconnect false = refl
      starting_here c false = refl

      -- at another peer
      away_event : (y : PeerPart) (phase : Phase) (owed : List OwedDrop) → peer_of d.me (next_action (opened d command phase owed)) ≢ d.me → (is_starting phase ≡ false → Names command y (begun_of phase)) → OnTurn command (Found y) (turn d.me command phase (answered o memory d command phase owed x).0)
      away_event y Starting (one ∷ rest) apart before = λ shape. absurd shape
      away_event y Starting [] apart before = absurd (apart (starting_here command d.shut))
      away_event y phase owed apart before = by_turn y phase owed refl (before refl)

pub away_kind : (me : ℕ) (action : Action) → peer_of me action ≢ me → may_be_elsewhere action ≡ true
away_kind me (act.Stage peer place) apart = refl
away_kind me (act.Unstage peer place) apart = refl
away_kind me (act.Attach peer serial dest) apart = refl
away_kind me (act.Sync peer stamp) apart = refl
away_kind me (act.Commit peer place stamp) apart = refl
away_kind me (act.CommitNotices peer stamp) apart = refl
away_kind me (act.DropRefs peer serial holder k clock) apart = refl
away_kind me (act.Visit peer) apart = refl
away_kind me action apart = absurd (apart refl)

-- ---- a step

module _ {o : Opening} {s : State} {p : ℕ} {c : Option Command} {t : State} (sound : IsSound o s) (before : BegunNames s) (step : Step o s p c t) where
  names_before : (r : ℕ) (d : DriverPart) (x : PeerPart) (doing : Doing) → IsDriver s r d → IsPeer s r x → d.doing ≡ Some doing → Names doing.command x (begun_of doing.phase)
  names_before r d x doing is_driver is_peer is = (before.to r d x doing is_driver is_peer is, before.with r d x doing is_driver is_peer is)

  me_is : step.driver.me ≡ p
  me_is = sound.numbered.drivers p step.driver step.is_driver

  going_before : (x : PeerPart) → IsPeer s p x → is_starting (parts step).phase ≡ false → Names (parts step).command x (begun_of (parts step).phase)
  going_before x is on = elim (parts step).was [
    | inl open_is ↦ names_before p step.driver x (going_doing step) step.is_driver is open_is
    | inr new ↦ let both : true ≡ false = sym (ap is_starting new.1) ∙ on in absurd (cc both)
  ]

  took_found : (y : PeerPart) → OnTurn (parts step).command (Found t y) (turn step.driver.me (parts step).command (parts step).phase (going_answer step)) → Found t y step.new_driver.doing
  took_found y h = subst (λ e. Found t y e.doing) (parts step).is_driver (took_leaves (Found t y) (parts step).command (λ phase may k. tt) step.driver (parts step).phase step.driver.owed (going_answer step) h)

  numbered_at : (q : ℕ) (x : PeerPart) → IsPeer s q x → AreNumbered x.given x.handles
  numbered_at q x is = sound.numbers.numbered q x is

  own_after : (y : PeerPart) → IsPeer t p y → Found t y step.new_driver.doing
  own_after y is = elim (peer_cases step p y is) [
    | inl at_it ↦
        took_found y
        (subst (λ z. OnTurn (parts step).command (Found t z) (turn step.driver.me (parts step).command (parts step).phase (going_answer step))) ((parts step).is_peer ∙ sym at_it.1)
        (own_event t o step.local.memory step.driver step.peer step.peer.given (numbered_at step.at step.peer step.is_peer) (parts step).command (parts step).phase step.driver.owed
        (going_before step.peer (subst (λ r. IsPeer s r step.peer) (sym at_it.0) step.is_peer))))
    | inr away ↦
        took_found y
        (away_event t o step.local.memory step.driver step.peer step.peer.given (numbered_at step.at step.peer step.is_peer) (parts step).command y (parts step).phase step.driver.owed
        (λ same. away.0 (sym me_is ∙ sym same ∙ (parts step).is_at)) (going_before y away.1))
  ]

  other_after : (r : ℕ) (d : DriverPart) (y : PeerPart) (doing : Doing) → r ≢ p → IsDriver s r d → IsPeer t r y → d.doing ≡ Some doing → Names doing.command y (begun_of doing.phase)
  other_after r d y doing apart is_driver is open_is = elim (peer_cases step r y is) [
    | inl at_it ↦
        names_same doing.command step.peer y (begun_of doing.phase)
        (subst (SameNames step.peer) ((parts step).is_peer ∙ sym at_it.1)
        (stays_elsewhere t o step.local.memory step.driver step.peer step.peer.given (numbered_at step.at step.peer step.is_peer) (parts step).command (going step) (going_doing step) (going_action step)
        (away_kind step.driver.me (going_action step) (λ same. apart (at_it.0 ∙ sym (parts step).is_at ∙ same ∙ me_is)))))
        (names_before r d step.peer doing is_driver (subst (λ q. IsPeer s q step.peer) (sym at_it.0) step.is_peer) open_is)
    | inr away ↦ names_before r d y doing is_driver away.1 open_is
  ]

  after : (r : ℕ) (d : DriverPart) (y : PeerPart) (doing : Doing) → IsDriver t r d → IsPeer t r y → d.doing ≡ Some doing → Names doing.command y (begun_of doing.phase)
  after r d y doing is_driver is open_is = elim (driver_cases step r d is_driver) [
    | inl own ↦ subst (Found t y) (sym (ap (λ e. e.doing) own.1) ∙ open_is) (own_after y (subst (λ q. IsPeer t q y) own.0 is)) ((sends_kept sound step).shape r d doing is_driver open_is)
    | inr other ↦ other_after r d y doing other.0 other.1 is open_is
  ]

  pub begun_kept : BegunNames t
  begun_kept = record {
    to = λ r d y doing is_driver is open_is. (after r d y doing is_driver is open_is).0;
    with = λ r d y doing is_driver is open_is. (after r d y doing is_driver is open_is).1;
  }

pub begun_begins : (o : Opening) → BegunNames (opening_state o)
begun_begins o = record {
  to = λ r d y doing is_driver is open_is. absurd (none r d doing is_driver open_is);
  with = λ r d y doing is_driver is open_is. absurd (none r d doing is_driver open_is);
}
  where
    none : (r : ℕ) (d : DriverPart) (doing : Doing) → IsDriver (opening_state o) r d → d.doing ≡ Some doing → ⊥
    none r d doing is_driver open_is = let both : None ≡ Some doing = sym (ap (λ e. e.doing) (opening_idle o r d is_driver)) ∙ open_is in absurd (cc both)
