-- An open destruction without a stamp dooms what its numbers name, and one of a reset all nodes that aren't destroyed.
use Rattle.std.proofs.Common.{◌≡◌, ◌≢◌, refl, sym, ap, subst, ◌∙◌, ℕ, Bool, true, false, cond, nat_lt, List, [], ◌∷◌, map, length, Option, Some, None, Ok, Err}
use Rattle.std.specs.Prelude.{⊤}
use Rattle.b1_model.specs.declared.commands.Command.{Command}
use Rattle.b1_model.specs.declared.commands.Command.TheVariants as cmd
use Rattle.b1_model.specs.declared.naming.Opening.{Opening}
use Rattle.b1_model.specs.declared.answers.Reason.{Reason}
use Rattle.b1_model.specs.declared.parts.NodeState.TheVariants.{Dying}
use Rattle.b1_model.specs.declared.events.Action.{Action}
use Rattle.b1_model.specs.declared.events.Action.TheVariants as act
use Rattle.b1_model.specs.declared.events.Destruction.{Destruction}
use Rattle.b1_model.specs.declared.events.Doing.{Doing}
use Rattle.b1_model.specs.declared.events.OwedDrop.{OwedDrop}
use Rattle.b1_model.specs.declared.events.Outcome.{Outcome}
use Rattle.b1_model.specs.declared.events.Outcome.TheVariants as out
use Rattle.b1_model.specs.declared.events.Phase.{Phase}
use Rattle.b1_model.specs.declared.events.Phase.TheVariants.{Starting, Visiting, Dooming, SyncingNotices, CommittingOwn}
use Rattle.b1_model.specs.MachineParts.{PeerPart, NodePart, DriverPart, is_dying, is_destroyed, node_at}
use Rattle.b1_model.specs.MachineTables.{serial_of, in_state}
use Rattle.b1_model.specs.MachineSend.{final_stamp}
use Rattle.b1_model.specs.MachineDestroy.{doom_by, doomed_part, destroy_serials, reset_serials, visit_set}
use Rattle.b1_model.specs.MachineDriver.{destroying, syncing_notices, is_flushing, started, turn, Turn, Goes, Ends, first_action, next_action, peer_of}
use Rattle.b1_model.specs.MachineEvents.{happens, destroy_by, begin_refusal, begin_serials, doomed_of}
use Rattle.b1_step.specs.Rights.{node_facts, may_be_elsewhere}
use Rattle.b1_step.proofs.Kept.{keeps}
use Rattle.b1_inv.specs.Notices.{is_unstamped}
use Rattle.b1_inv_record.specs.Dooming.{undestroyed}
use Rattle.b1_inv_notices.proofs.Turns.{doing_in, opened, answered, OnTurn}
use Rattle.b1_inv_names.proofs.Numbers.{node_numbers, nodes_same}
use Rattle.b1_inv_names.proofs.Begun.{serial_same, facts_numbers}
use Rattle.b1_inv_doomed.proofs.Named.{accepted_named, is_gone, undestroyed_same, reset_undestroyed}
use Rattle.b1_inv_doomed.proofs.Turned.{is_starting, TurnFrom, turn_from, NoBegin, other_started, no_begin}

-- ---- what a command dooms of some nodes

-- these are the nodes that its numbers name, or all that aren't destroyed
pub record DoomsThese (ns : List NodePart) (command : Command) (doomed : List ℕ) : Type 0 where
  pub named : (numbers : List ℕ) → command ≡ cmd.Destroy numbers → map (λ n. serial_of n ns) numbers ≡ map Some doomed
  pub flushed : is_flushing command ≡ true → undestroyed 0 ns ≡ doomed

map_serials : (ns ms : List NodePart) → node_numbers ms ≡ node_numbers ns → (numbers : List ℕ) → map (λ n. serial_of n ms) numbers ≡ map (λ n. serial_of n ns) numbers
map_serials ns ms same [] = refl
map_serials ns ms same (n ∷ rest) = ap (λ r. r ∷ map (λ m. serial_of m ms) rest) (serial_same n ns ms same) ∙ ap (λ l. serial_of n ns ∷ l) (map_serials ns ms same rest)

pub these_same : (ns ms : List NodePart) (command : Command) (doomed : List ℕ) → node_numbers ms ≡ node_numbers ns → map is_gone ms ≡ map is_gone ns → DoomsThese ns command doomed → DoomsThese ms command doomed
these_same ns ms command doomed numbers gone these = record {
  named = λ list is. map_serials ns ms numbers list ∙ these.named list is;
  flushed = λ is. undestroyed_same 0 ns ms gone ∙ these.flushed is;
}

facts_gone : (ns : List NodePart) → map (λ f. is_destroyed f.1) (map node_facts ns) ≡ map is_gone ns
facts_gone [] = refl
facts_gone (n ∷ ns) = ap (λ l. is_gone n ∷ l) (facts_gone ns)

these_by_facts : (ns ms : List NodePart) (command : Command) (doomed : List ℕ) → map node_facts ms ≡ map node_facts ns → DoomsThese ns command doomed → DoomsThese ms command doomed
these_by_facts ns ms command doomed same =
    these_same ns ms command doomed
    (sym (facts_numbers ms) ∙ ap (map (λ f. f.0)) same ∙ facts_numbers ns)
    (sym (facts_gone ms) ∙ ap (map (λ f. is_destroyed f.1)) same ∙ facts_gone ns)

-- ---- what is open

abbrev pub Dooms : List NodePart → Option Doing → Type 0
Dooms ns None = ⊤
Dooms ns (Some doing) = is_unstamped doing.phase ≡ true → DoomsThese ns doing.command (doomed_of doing.phase)

pub on_turn : (ns : List NodePart) (before : Phase) (command : Command) (to : Turn) → TurnFrom before command to → (is_unstamped before ≡ true → DoomsThese ns command (doomed_of before)) → OnTurn command (Dooms ns) to
on_turn ns before command (Goes phase) from was = λ un. let k = from.unstamped un in subst (DoomsThese ns command) (sym k.1) (was k.0)
on_turn ns before command (Ends got) from was = tt

in_destroying : (ns : List NodePart) (command : Command) (doomed visit : List ℕ) → DoomsThese ns command doomed → OnTurn command (Dooms ns) (Goes (destroying doomed visit))
in_destroying ns command [] visit these = λ no. absurd (cc no)
in_destroying ns command (serial ∷ rest) [] these = λ un. these
in_destroying ns command (serial ∷ rest) (peer ∷ more) these = λ un. these

in_notices : (ns : List NodePart) (command : Command) (d : Destruction) (stamp at : ℕ) → OnTurn command (Dooms ns) (Goes (syncing_notices d stamp at))
in_notices ns command d stamp at = by (nat_lt at (length d.staged))
  where
    by : (b : Bool) → OnTurn command (Dooms ns) (Goes (cond b (SyncingNotices d stamp at) (CommittingOwn d stamp)))
    by true = λ no. absurd (cc no)
    by false = λ no. absurd (cc no)

-- ---- begins

dying_numbers : (x : PeerPart) (doomed : List ℕ) → node_numbers (doomed_part x doomed).nodes ≡ node_numbers x.nodes
dying_numbers x doomed = nodes_same (in_state Dying) (λ n. refl) doomed x.nodes

named_begins : (numbers : List ℕ) (r : Option Reason) (x : PeerPart) → begin_refusal (cmd.Destroy numbers) x ≡ r
    → OnTurn (cmd.Destroy numbers) (Dooms (destroy_by r (destroy_serials x numbers) x).1.nodes) (started (cmd.Destroy numbers) (destroy_by r (destroy_serials x numbers) x).0)
named_begins numbers (Some r) x is = tt
named_begins numbers None x is =
    in_destroying (doomed_part x (destroy_serials x numbers)).nodes (cmd.Destroy numbers) (destroy_serials x numbers) (visit_set x (destroy_serials x numbers))
    (record {
      named = λ list same.
          let k : numbers ≡ list = cc same in
          subst (λ l. map (λ n. serial_of n (doomed_part x (destroy_serials x numbers)).nodes) l ≡ map Some (destroy_serials x numbers)) k
          (map_serials x.nodes (doomed_part x (destroy_serials x numbers)).nodes (dying_numbers x (destroy_serials x numbers)) numbers ∙ accepted_named x numbers is);
      flushed = λ no. absurd (cc no);
    })

reset_begins : (command : Command) (r : Option Reason) (x : PeerPart) → ((numbers : List ℕ) → command ≡ cmd.Destroy numbers → ⊥) → begin_serials command x ≡ reset_serials x → ((i : ℕ) → is_dying (node_at x i).state ≡ false)
    → OnTurn command (Dooms (destroy_by r (reset_serials x) x).1.nodes) (started command (destroy_by r (reset_serials x) x).0)
reset_begins command (Some r) x other is none = tt
reset_begins command None x other is none =
    in_destroying (doomed_part x (reset_serials x)).nodes command (reset_serials x) (visit_set x (reset_serials x))
    (record {
      named = λ list same. absurd (other list same);
      flushed = λ flushing. reset_undestroyed command x is none;
    })

other_begins : (ns : List NodePart) (command : Command) (outcome : Outcome) → NoBegin outcome → OnTurn command (Dooms ns) (started command outcome)
other_begins ns command outcome none = on_turn ns Starting command (started command outcome) (other_started command outcome none) (λ no. absurd (cc no))

module _ (o : Opening) (memory : Bool) (d : DriverPart) (x : PeerPart) where
  first_dooms : (command : Command) (shut : Bool) → ((i : ℕ) → is_dying (node_at x i).state ≡ false)
      → OnTurn command (Dooms (happens o memory (opened d command Starting []) (doing_in command Starting) (cond shut act.Local (first_action command)) x).1.nodes)
      (started command (happens o memory (opened d command Starting []) (doing_in command Starting) (cond shut act.Local (first_action command)) x).0)
  first_dooms command true none = tt
  first_dooms cmd.Disconnect false none = reset_begins cmd.Disconnect (begin_refusal cmd.Disconnect x) x (λ numbers no. cc no) refl none
  first_dooms (cmd.Reset limits) false none = reset_begins (cmd.Reset limits) (begin_refusal (cmd.Reset limits) x) x (λ numbers no. cc no) refl none
  first_dooms (cmd.Destroy numbers) false none = named_begins numbers (begin_refusal (cmd.Destroy numbers) x) x refl
  first_dooms command false none =
      other_begins (happens o memory (opened d command Starting []) (doing_in command Starting) (first_action command) x).1.nodes command (happens o memory (opened d command Starting []) (doing_in command Starting) (first_action command) x).0
      (no_begin o memory (opened d command Starting []) (doing_in command Starting) (first_action command) x refl)

  pub elsewhere_these : (e : DriverPart) (doing : Doing) (action : Action) (command : Command) (doomed : List ℕ) → may_be_elsewhere action ≡ true → DoomsThese x.nodes command doomed → DoomsThese (happens o memory e doing action x).1.nodes command doomed
  elsewhere_these e doing action command doomed is = these_by_facts x.nodes (happens o memory e doing action x).1.nodes command doomed (keeps o memory e doing action x is).nodes

  module _ (command : Command) where
    -- where a stamp is asked for: there is none yet, or nodes aren't doomed without a stamp any more
    asked : (destruction : Destruction) (late : List ℕ) → (is_unstamped (Dooming destruction) ≡ true → DoomsThese x.nodes command destruction.doomed)
        → OnTurn command (Dooms (doom_by late x destruction.collected destruction.doomed).nodes) (turn d.me command (Dooming destruction) (out.StampDestroy (elim late [ [] ↦ Ok (final_stamp x destruction.collected) | peer ∷ rest ↦ Err (peer ∷ rest) ])))
    asked destruction [] was = in_notices (doom_by [] x destruction.collected destruction.doomed).nodes command destruction (final_stamp x destruction.collected) 0
    asked destruction (peer ∷ rest) was = λ un. was refl

    pub own_event : (phase : Phase) (owed : List OwedDrop) → (is_starting phase ≡ true → (i : ℕ) → is_dying (node_at x i).state ≡ false) → (is_unstamped phase ≡ true → DoomsThese x.nodes command (doomed_of phase))
        → OnTurn command (Dooms (answered o memory d command phase owed x).1.nodes) (turn d.me command phase (answered o memory d command phase owed x).0)
    own_event Starting (one ∷ rest) none was = λ un. absurd (cc un)
    own_event Starting [] none was = first_dooms command d.shut (none refl)
    own_event (Dooming destruction) [] none was = asked destruction x.late was
    own_event (Visiting destruction left) owed none was =
        on_turn (answered o memory d command (Visiting destruction left) owed x).1.nodes (Visiting destruction left) command (turn d.me command (Visiting destruction left) (answered o memory d command (Visiting destruction left) owed x).0)
        (turn_from d.me command (Visiting destruction left) (answered o memory d command (Visiting destruction left) owed x).0 refl)
        (λ un. elsewhere_these (opened d command (Visiting destruction left) owed) (doing_in command (Visiting destruction left)) (next_action (opened d command (Visiting destruction left) owed)) command destruction.doomed (by owed) (was un))
      where
        by : (list : List OwedDrop) → may_be_elsewhere (next_action (opened d command (Visiting destruction left) list)) ≡ true
        by [] = refl
        by (one ∷ rest) = refl
    own_event (Dooming destruction) (one ∷ rest) none was =
        on_turn (answered o memory d command (Dooming destruction) (one ∷ rest) x).1.nodes (Dooming destruction) command (turn d.me command (Dooming destruction) (answered o memory d command (Dooming destruction) (one ∷ rest) x).0)
        (turn_from d.me command (Dooming destruction) (answered o memory d command (Dooming destruction) (one ∷ rest) x).0 refl)
        (λ un. elsewhere_these (opened d command (Dooming destruction) (one ∷ rest)) (doing_in command (Dooming destruction)) (next_action (opened d command (Dooming destruction) (one ∷ rest))) command destruction.doomed refl (was un))
    own_event phase owed none was =
        on_turn (answered o memory d command phase owed x).1.nodes phase command (turn d.me command phase (answered o memory d command phase owed x).0) (turn_from d.me command phase (answered o memory d command phase owed x).0 refl) (λ un. absurd (cc un))

    starting_here : (c : Command) (shut : Bool) → peer_of d.me (cond shut act.Local (first_action c)) ≡ d.me
    starting_here c true = refl
    starting_here cmd.Disconnect false = refl
    starting_here c false = refl

    pub away_event : (ns : List NodePart) (phase : Phase) (owed : List OwedDrop) → peer_of d.me (next_action (opened d command phase owed)) ≢ d.me → (is_unstamped phase ≡ true → DoomsThese ns command (doomed_of phase)) → OnTurn command (Dooms ns) (turn d.me command phase (answered o memory d command phase owed x).0)
    away_event ns Starting (one ∷ rest) apart was = λ un. absurd (cc un)
    away_event ns Starting [] apart was = absurd (apart (starting_here command d.shut))
    away_event ns phase owed apart was = on_turn ns phase command (turn d.me command phase (answered o memory d command phase owed x).0) (turn_from d.me command phase (answered o memory d command phase owed x).0 refl) was
