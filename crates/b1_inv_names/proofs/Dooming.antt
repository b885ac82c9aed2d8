-- An open reset or disconnect dooms all nodes that were live.
use Rattle.std.proofs.Common.{◌≡◌, ◌≢◌, refl, sym, ap, subst, ◌∙◌, inl, inr, ℕ, zero, suc, ◌+◌, ◌<◌, Bool, true, false, cond, ◌&&◌, nat_lt, List, [], ◌∷◌, ◌++◌, map, set, get_or, length, max, Option, Some, None, Ok, Err}
use Rattle.std.specs.Prelude.{⊤}
use native.Mathlib.Omega.{arith}
use Rattle.b1_model.specs.declared.commands.Command.{Command}
use Rattle.b1_model.specs.declared.commands.Command.TheVariants as cmd
use Rattle.b1_model.specs.declared.naming.Opening.{Opening}
use Rattle.b1_model.specs.declared.answers.Answer.TheVariants as answer
use Rattle.b1_model.specs.declared.answers.Reason.{Reason}
use Rattle.b1_model.specs.declared.answers.Refused.{Refused}
use Rattle.b1_model.specs.declared.parts.Begun.{Begun}
use Rattle.b1_model.specs.declared.parts.NodeState.{NodeState}
use Rattle.b1_model.specs.declared.parts.NodeState.TheVariants.{Dying, Destroyed}
use Rattle.b1_model.specs.declared.events.Action.{Action}
use Rattle.b1_model.specs.declared.events.Action.TheVariants as act
use Rattle.b1_model.specs.declared.events.Destruction.{Destruction}
use Rattle.b1_model.specs.declared.events.Doing.{Doing}
use Rattle.b1_model.specs.declared.events.OwedDrop.{OwedDrop}
use Rattle.b1_model.specs.declared.events.Outcome.{Outcome}
use Rattle.b1_model.specs.declared.events.Outcome.TheVariants as out
use Rattle.b1_model.specs.declared.events.Phase.{Phase}
use Rattle.b1_model.specs.declared.events.Phase.TheVariants.{Starting, Staging, Unstaging, Attaching, Stamping, Syncing, Committing, Visiting, Dooming, SyncingNotices, CommittingOwn, CommittingNotices, Flushing}
use Rattle.b1_model.specs.declared.events.Sending.{Sending}
use Rattle.b1_model.specs.MachineParts.{PeerPart, NodePart, DriverPart, State, is_live, no_node}
use Rattle.b1_model.specs.MachineTables.{with_node, with_nodes, in_state}
use Rattle.b1_model.specs.MachineSend.{final_stamp}
use Rattle.b1_model.specs.MachineDestroy.{live_serials, reset_serials, doom_by}
use Rattle.b1_model.specs.MachineDriver.{accepted_from, is_place, attaching, with_slot, all_staged, staging, all_refused, unstaging, syncing, committing_notices, is_flushing, send_of, started, turn, Turn, Goes, Ends, first_action, next_action, peer_of}
use Rattle.b1_model.specs.MachineEvents.{happens, destroy_by, begin_refusal}
use Rattle.b1_model.specs.MachineStep.{Step, opening_state}
use Rattle.b1_step.specs.Rights.{node_facts, may_be_elsewhere}
use Rattle.b1_step.specs.Rights.{Has}
use Rattle.b1_step.proofs.Kept.{keeps}
use Rattle.b1_inv.specs.Words.{IsPeer, IsDriver}
use Rattle.b1_inv.specs.Sound.{IsSound}
use Rattle.b1_inv_tools.proofs.Leaves.{driver_cases, peer_cases}
use Rattle.b1_inv_tools.proofs.Openings.{opening_idle}
use Rattle.b1_inv_notices.proofs.Nodes.{doomed_state}
use Rattle.b1_inv_notices.proofs.Turns.{doing_in, opened, answered, OnTurn, took_leaves, parts, going, going_doing, going_action, going_answer}
use Rattle.b1_inv_record.specs.Dooming.{NoneLive, FlushesDoomAll, is_ending}
use Rattle.b1_inv_names.proofs.Begun.{away_kind}

-- ---- nodes

facts_get : (ns : List NodePart) (i : ℕ) → get_or (map node_facts ns) i (node_facts no_node) ≡ node_facts (get_or ns i no_node)
facts_get [] i = refl
facts_get (n ∷ ns) zero = refl
facts_get (n ∷ ns) (suc i) = facts_get ns i

none_by_facts : (ns ms : List NodePart) → map node_facts ms ≡ map node_facts ns → NoneLive ns → NoneLive ms
none_by_facts ns ms same none i = ap (λ f. is_live f.1) (sym (facts_get ms i) ∙ ap (λ l. get_or l i (node_facts no_node)) same ∙ facts_get ns i) ∙ none i

live_set : (ns : List NodePart) (one i : ℕ) (m : NodePart) → is_live m.state ≡ false → is_live (get_or ns i no_node).state ≡ false → is_live (get_or (set ns one m) i no_node).state ≡ false
live_set [] one i m dead is = is
live_set (n ∷ ns) zero zero m dead is = dead
live_set (n ∷ ns) zero (suc i) m dead is = is
live_set (n ∷ ns) (suc one) zero m dead is = is
live_set (n ∷ ns) (suc one) (suc i) m dead is = live_set ns one i m dead is

module _ (state : NodeState) (dead : is_live state ≡ false) where
  still_none : (serials : List ℕ) (ns : List NodePart) (i : ℕ) → is_live (get_or ns i no_node).state ≡ false → is_live (get_or (with_nodes serials (in_state state) ns) i no_node).state ≡ false
  still_none [] ns i is = is
  still_none (one ∷ rest) ns i is = still_none rest (with_node one (in_state state) ns) i (live_set ns one i (in_state state (get_or ns one no_node)) dead is)

pub live_there : (here : ℕ) (ns : List NodePart) (i : ℕ) → is_live (get_or ns i no_node).state ≡ true → Has (live_serials here ns) (here + i) × (i < length ns)
live_there here [] i is = absurd (cc is)
live_there here (n ∷ ns) zero is = (by (is_live n.state) is, omega arith)
  where
    by : (b : Bool) → b ≡ true → Has (cond b (here ∷ live_serials (here + 1) ns) (live_serials (here + 1) ns)) (here + 0)
    by true on = inl (omega arith)
    by false on = absurd (cc on)
live_there here (n ∷ ns) (suc i) is =
    let further = live_there (here + 1) ns i is in
    let same : here + 1 + i ≡ here + suc i = omega arith in
    (by (is_live n.state) (subst (Has (live_serials (here + 1) ns)) same further.0), omega (arith, further.1))
  where
    by : (b : Bool) → Has (live_serials (here + 1) ns) (here + suc i) → Has (cond b (here ∷ live_serials (here + 1) ns) (live_serials (here + 1) ns)) (here + suc i)
    by true h = inr h
    by false h = h

all_doomed : (ns : List NodePart) → NoneLive (with_nodes (live_serials 0 ns) (in_state Dying) ns)
all_doomed ns i = by (is_live (get_or ns i no_node).state) refl
  where
    by : (b : Bool) → is_live (get_or ns i no_node).state ≡ b → is_live (get_or (with_nodes (live_serials 0 ns) (in_state Dying) ns) i no_node).state ≡ false
    by true is = let k = live_there 0 ns i is in ap is_live (doomed_state Dying (live_serials 0 ns) ns i (let same : 0 + i ≡ i = omega arith in subst (Has (live_serials 0 ns)) same k.0) k.1)
    by false is = still_none Dying refl (live_serials 0 ns) ns i is

-- ---- turns

-- a turn leads to a phase without a stamp only from one
abbrev pub From : Bool → Turn → Type 0
From b (Goes phase) = is_ending phase ≡ true → b ≡ true
From b (Ends got) = ⊤

no_from : (b : Bool) (phase : Phase) → is_ending phase ≡ false → From b (Goes phase)
no_from b phase none is = let both : true ≡ false = sym is ∙ none in absurd (cc both)

from_attaching : (sending : Sending) (place slot : ℕ) → is_ending (attaching sending place slot) ≡ false
from_attaching sending place slot = by (nat_lt slot (length sending.begun.with)) (nat_lt 0 (length sending.begun.with) && is_place (accepted_from (place + 1) sending.places) sending.places) (accepted_from (place + 1) sending.places)
  where
    by : (b c : Bool) (next : ℕ) → is_ending (cond b (Attaching sending place slot) (cond c (Attaching sending next 0) (Stamping sending))) ≡ false
    by true c next = refl
    by false true next = refl
    by false false next = refl

from_staging : (begun : Begun) (places : List (Option Reason)) (collected : ℕ) → From false (staging begun places collected)
from_staging begun places collected = by (nat_lt (length places) (length begun.to)) (is_place (accepted_from 0 places) places)
  where
    by : (b c : Bool) → From false (cond b (Goes (Staging begun places collected)) (cond c (Goes (attaching (all_staged begun places collected) (accepted_from 0 places) 0)) (Ends (all_refused places))))
    by true c = λ is. is
    by false true = no_from false (attaching (all_staged begun places collected) (accepted_from 0 places) 0) (from_attaching (all_staged begun places collected) (accepted_from 0 places) 0)
    by false false = tt

from_unstaging : (begun : Begun) (places : List (Option Reason)) (refused : Refused) (place : ℕ) → From false (unstaging begun places refused place)
from_unstaging begun places refused place = by (is_place place places)
  where
    by : (b : Bool) → From false (cond b (Goes (Unstaging begun places refused place)) (Ends (answer.Refused refused)))
    by true = λ is. is
    by false = tt

from_place : (begun : Begun) (places : List (Option Reason)) (collected : ℕ) (r : Reason) (b : Bool) → From false (cond b (staging begun (places ++ Some r ∷ []) collected) (unstaging begun (places ++ Some r ∷ []) (record { reason = r; place = Some (length places) }) (accepted_from 0 (places ++ Some r ∷ []))))
from_place begun places collected r true = from_staging begun (places ++ Some r ∷ []) collected
from_place begun places collected r false = from_unstaging begun (places ++ Some r ∷ []) (record { reason = r; place = Some (length places) }) (accepted_from 0 (places ++ Some r ∷ []))

from_syncing : (sending : Sending) (stamp place : ℕ) → is_ending (syncing sending stamp place) ≡ false
from_syncing sending stamp place = by (is_place place sending.places)
  where
    by : (b : Bool) → is_ending (cond b (Syncing sending stamp place) (Committing sending stamp (accepted_from 0 sending.places))) ≡ false
    by true = refl
    by false = refl

from_commits : (command : Command) (d : Destruction) (stamp at : ℕ) → From true (committing_notices command d stamp at)
from_commits command d stamp at = by (nat_lt at (length d.staged)) (is_flushing command)
  where
    by : (b c : Bool) → From true (cond b (Goes (CommittingNotices d stamp at)) (cond c (Goes (Flushing (Some stamp))) (Ends (answer.Destroyed stamp))))
    by true c = λ is. refl
    by false true = λ is. refl
    by false false = tt

abbrev pub is_starting : Phase → Bool
is_starting Starting = true
is_starting phase = false

pub from_turn : (me : ℕ) (command : Command) (phase : Phase) (outcome : Outcome) → is_starting phase ≡ false → From (is_ending phase) (turn me command phase outcome)
from_turn me command Starting outcome on = absurd (cc on)
from_turn me command (Staging begun places collected) (out.Stage (Ok clock)) on = from_staging begun (places ++ None ∷ []) (max collected clock)
from_turn me command (Staging begun places collected) (out.Stage (Err r)) on = from_place begun places collected r (send_of command).go_on
from_turn me command (Unstaging begun places refused place) out.Unstage on = from_unstaging begun places refused (accepted_from (place + 1) places)
from_turn me command (Attaching sending place slot) (out.Attach got) on = no_from false (attaching (with_slot sending place slot got) place (slot + 1)) (from_attaching (with_slot sending place slot got) place (slot + 1))
from_turn me command (Stamping sending) (out.Stamp stamp) on = no_from false (syncing sending stamp (accepted_from 0 sending.places)) (from_syncing sending stamp (accepted_from 0 sending.places))
from_turn me command (Syncing sending stamp place) out.Sync on = no_from false (syncing sending stamp (accepted_from (place + 1) sending.places)) (from_syncing sending stamp (accepted_from (place + 1) sending.places))
from_turn me command (Committing sending stamp place) (out.Commit found) on = λ is. is
from_turn me command (Visiting d left) (out.Visit got) on = λ is. refl
from_turn me command (Dooming d) (out.StampDestroy (Ok stamp)) on = λ is. refl
from_turn me command (Dooming d) (out.StampDestroy (Err late)) on = λ is. refl
from_turn me command (SyncingNotices d stamp at) out.Sync on = λ is. refl
from_turn me command (CommittingOwn d stamp) out.CommitNotices on = from_commits command d stamp 0
from_turn me command (CommittingNotices d stamp at) out.CommitNotices on = from_commits command d stamp (at + 1)
from_turn me command (Flushing stamp) (out.Flush dead) on = λ is. refl
from_turn me command phase outcome on = λ is. is

-- ---- events

abbrev Doomed : PeerPart → Option Doing → Type 0
Doomed y None = ⊤
Doomed y (Some doing) = is_flushing doing.command ≡ true → is_ending doing.phase ≡ true → NoneLive y.nodes

on_turn : (command : Command) (y : PeerPart) (b : Bool) (to : Turn) → From b to → (is_flushing command ≡ true → b ≡ true → NoneLive y.nodes) → OnTurn command (Doomed y) to
on_turn command y b (Goes phase) from none = λ flushing is. none flushing (from is)
on_turn command y b (Ends got) from none = tt

doomed_none : (late : List ℕ) (x : PeerPart) (collected : ℕ) (doomed : List ℕ) → NoneLive x.nodes → NoneLive (doom_by late x collected doomed).nodes
doomed_none [] x collected doomed none i = still_none (Destroyed (final_stamp x collected)) refl doomed x.nodes i (none i)
doomed_none (peer ∷ rest) x collected doomed none i = none i

flush_begins : (command : Command) (r : Option Reason) (x : PeerPart) → OnTurn command (Doomed (destroy_by r (reset_serials x) x).1) (started command (destroy_by r (reset_serials x) x).0)
flush_begins command (Some r) x = tt
flush_begins command None x = λ flushing is. all_doomed x.nodes

other_begins : (command : Command) (y : PeerPart) (to : Turn) → is_flushing command ≡ false → OnTurn command (Doomed y) to
other_begins command y (Goes phase) other = λ flushing is. let both : true ≡ false = sym flushing ∙ other in absurd (cc both)
other_begins command y (Ends got) other = tt

module _ (o : Opening) (memory : Bool) (d : DriverPart) (x : PeerPart) where
  first_doomed : (command : Command) (shut : Bool)
      → OnTurn command (Doomed (happens o memory (opened d command Starting []) (doing_in command Starting) (cond shut act.Local (first_action command)) x).1)
      (started command (happens o memory (opened d command Starting []) (doing_in command Starting) (cond shut act.Local (first_action command)) x).0)
  first_doomed command true = tt
  first_doomed cmd.Disconnect false = flush_begins cmd.Disconnect (begin_refusal cmd.Disconnect x) x
  first_doomed (cmd.Reset limits) false = flush_begins (cmd.Reset limits) (begin_refusal (cmd.Reset limits) x) x
  first_doomed command false = other_begins command (happens o memory (opened d command Starting []) (doing_in command Starting) (first_action command) x).1 (started command (happens o memory (opened d command Starting []) (doing_in command Starting) (first_action command) x).0) refl

  elsewhere_none : (e : DriverPart) (doing : Doing) (action : Action) → may_be_elsewhere action ≡ true → NoneLive x.nodes → NoneLive (happens o memory e doing action x).1.nodes
  elsewhere_none e doing action is none = none_by_facts x.nodes (happens o memory e doing action x).1.nodes (keeps o memory e doing action x is).nodes none

  module _ (command : Command) where
    own_none : (phase : Phase) (owed : List OwedDrop) → is_ending phase ≡ true → NoneLive x.nodes → NoneLive (answered o memory d command phase owed x).1.nodes
    own_none phase (one ∷ rest) is none = elsewhere_none (opened d command phase (one ∷ rest)) (doing_in command phase) (act.DropRefs one.node.owner one.node.serial one.holder one.amount one.clock) refl none
    own_none (Visiting destruction left) [] is none = elsewhere_none (opened d command (Visiting destruction left) []) (doing_in command (Visiting destruction left)) (next_action (opened d command (Visiting destruction left) [])) refl none
    own_none (Dooming destruction) [] is none = doomed_none x.late x destruction.collected destruction.doomed none
    own_none (SyncingNotices destruction stamp at) [] is none = none
    own_none (CommittingOwn destruction stamp) [] is none = none
    own_none (CommittingNotices destruction stamp at) [] is none = none
    own_none (Flushing stamp) [] is none = none
    own_none phase [] is none = absurd (cc is)

    own_event : (phase : Phase) (owed : List OwedDrop) → (is_flushing command ≡ true → is_ending phase ≡ true → NoneLive x.nodes) → OnTurn command (Doomed (answered o memory d command phase owed x).1) (turn d.me command phase (answered o memory d command phase owed x).0)
    own_event Starting (one ∷ rest) before = λ flushing un. absurd (cc un)
    own_event Starting [] before = first_doomed command d.shut
    own_event phase owed before = on_turn command (answered o memory d command phase owed x).1 (is_ending phase) (turn d.me command phase (answered o memory d command phase owed x).0) (from_turn d.me command phase (answered o memory d command phase owed x).0 refl) (λ flushing un. own_none phase owed un (before flushing un))

    starting_here : (c : Command) (shut : Bool) → peer_of d.me (cond shut act.Local (first_action c)) ≡ d.me
    starting_here c true = refl
    starting_here cmd.Disconnect false = refl
    starting_here c false = refl

    away_event : (y : PeerPart) (phase : Phase) (owed : List OwedDrop) → peer_of d.me (next_action (opened d command phase owed)) ≢ d.me → (is_flushing command ≡ true → is_ending phase ≡ true → NoneLive y.nodes) → OnTurn command (Doomed y) (turn d.me command phase (answered o memory d command phase owed x).0)
    away_event y Starting (one ∷ rest) apart before = λ flushing un. absurd (cc un)
    away_event y Starting [] apart before = absurd (apart (starting_here command d.shut))
    away_event y phase owed apart before = on_turn command y (is_ending phase) (turn d.me command phase (answered o memory d command phase owed x).0) (from_turn d.me command phase (answered o memory d command phase owed x).0 refl) before

-- ---- a step

module _ {o : Opening} {s : State} {p : ℕ} {c : Option Command} {t : State} (sound : IsSound o s) (before : FlushesDoomAll s) (step : Step o s p c t) where
  me_is : step.driver.me ≡ p
  me_is = sound.numbered.drivers p step.driver step.is_driver

  going_before : (x : PeerPart) → IsPeer s p x → is_flushing (parts step).command ≡ true → is_ending (parts step).phase ≡ true → NoneLive x.nodes
  going_before x is flushing un = elim (parts step).was [
    | inl open_is ↦ before.none p step.driver x (going_doing step) step.is_driver is open_is flushing un
    | inr new ↦ let both : true ≡ false = sym un ∙ ap is_ending new.1 in absurd (cc both)
  ]

  took_doomed : (y : PeerPart) → OnTurn (parts step).command (Doomed y) (turn step.driver.me (parts step).command (parts step).phase (going_answer step)) → Doomed y step.new_driver.doing
  took_doomed y h = subst (λ e. Doomed y e.doing) (parts step).is_driver (took_leaves (Doomed y) (parts step).command (λ phase may k. tt) step.driver (parts step).phase step.driver.owed (going_answer step) h)

  own_after : (y : PeerPart) → IsPeer t p y → Doomed y step.new_driver.doing
  own_after y is = elim (peer_cases step p y is) [
    | inl at_it ↦
        took_doomed y
        (subst (λ z. OnTurn (parts step).command (Doomed z) (turn step.driver.me (parts step).command (parts step).phase (going_answer step))) ((parts step).is_peer ∙ sym at_it.1)
        (own_event o step.local.memory step.driver step.peer (parts step).command (parts step).phase step.driver.owed (going_before step.peer (subst (λ r. IsPeer s r step.peer) (sym at_it.0) step.is_peer))))
    | inr away ↦
        took_doomed y
        (away_event o step.local.memory step.driver step.peer (parts step).command y (parts step).phase step.driver.owed (λ same. away.0 (sym me_is ∙ sym same ∙ (parts step).is_at)) (going_before y away.1))
  ]

  other_after : (r : ℕ) (d : DriverPart) (y : PeerPart) (doing : Doing) → r ≢ p → IsDriver s r d → IsPeer t r y → d.doing ≡ Some doing → is_flushing doing.command ≡ true → is_ending doing.phase ≡ true → NoneLive y.nodes
  other_after r d y doing apart is_driver is open_is flushing un = elim (peer_cases step r y is) [
    | inl at_it ↦
        subst (λ z. NoneLive z.nodes) ((parts step).is_peer ∙ sym at_it.1)
        (elsewhere_none o step.local.memory step.driver step.peer (going step) (going_doing step) (going_action step) (away_kind step.driver.me (going_action step) (λ same. apart (at_it.0 ∙ sym (parts step).is_at ∙ same ∙ me_is)))
        (before.none r d step.peer doing is_driver (subst (λ q. IsPeer s q step.peer) (sym at_it.0) step.is_peer) open_is flushing un))
    | inr away ↦ before.none r d y doing is_driver away.1 open_is flushing un
  ]

  pub doom_kept : FlushesDoomAll t
  doom_kept = record {
    none = λ r d y doing is_driver is open_is flushing un. elim (driver_cases step r d is_driver) [
      | inl own ↦ subst (Doomed y) (sym (ap (λ e. e.doing) own.1) ∙ open_is) (own_after y (subst (λ q. IsPeer t q y) own.0 is)) flushing un
      | inr other ↦ other_after r d y doing other.0 other.1 is open_is flushing un
    ];
  }

pub doom_begins : (o : Opening) → FlushesDoomAll (opening_state o)
doom_begins o = record { none = λ r d y doing is_driver is open_is flushing un. absurd (none r d doing is_driver open_is) }
  where
    none : (r : ℕ) (d : DriverPart) (doing : Doing) → IsDriver (opening_state o) r d → d.doing ≡ Some doing → ⊥
    none r d doing is_driver open_is = let both : None ≡ Some doing = sym (ap (λ e. e.doing) (opening_idle o r d is_driver)) ∙ open_is in absurd (cc both)
