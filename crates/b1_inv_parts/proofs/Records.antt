-- A record stands only where it is needed.
use Rattle.std.proofs.Common.{refl, ℕ, true, false, cond, Option}
use Rattle.std.specs.Prelude.{⊤}
use Rattle.b1_model.specs.declared.naming.NodeRef.{NodeRef}
use Rattle.b1_model.specs.declared.naming.Opening.{Opening}
use Rattle.b1_model.specs.declared.commands.Command.{Command}
use Rattle.b1_model.specs.Names.{is_own}
use Rattle.b1_model.specs.MachineParts.{PeerPart, State}
use Rattle.b1_model.specs.MachineTables.{less_flight, less_held, made_dead, more_flight, more_held, next_number, noticed, with_made}
use Rattle.b1_model.specs.MachineStep.{Step, opening_state, wire_made, wire_held}
use Rattle.b1_inv_record.specs.Parts.{RecordsNeeded}
use Rattle.b1_inv_tools.proofs.Leaves.{step_did}
use Rattle.b1_inv_tools.proofs.Openings.{opening_each}
use Rattle.b1_inv_peer.proofs.RecordLists.{AllNeeded, flight_needs, held_needs, needed_changed, needed_made}
use Rattle.b1_inv_refs.proofs.Tables.{Closed, table_after}
use Rattle.b1_inv_parts.proofs.Steps.{kept_by_step}

-- every record of a part
abbrev Needed : PeerPart → Type 0
Needed x = AllNeeded x.handles

-- each small change of records keeps it
closed : Closed (λ given handles. AllNeeded handles) (λ node. ⊤)
closed = record {
  none = λ g h there. absurd there;
  more = λ g m hs new all. needed_made m more_flight flight_needs hs all;
  less = λ g m hs all. needed_changed m less_flight hs all;
  noticed = λ g m hs all. needed_changed m noticed hs all;
  dead = λ g m hs all. needed_changed m made_dead hs all;
  released = λ g m hs all. needed_changed m less_held hs all;
  come = λ g m hs all. needed_changed m (λ r. more_held (next_number g) (less_flight r)) hs all;
}

pub records_kept : (o : Opening) (s : State) (p : ℕ) (c : Option Command) (t : State) → RecordsNeeded s → Step o s p c t → RecordsNeeded t
records_kept o s p c t all step = record {
  needed = λ q y h is has. kept_by_step step Needed (λ r x here g there. all.needed r x g here there)
      (table_after (λ given handles. AllNeeded handles) (λ node. ⊤) closed o step.local.memory (step_did step).e (step_did step).doing step.action step.peer (λ n there. tt)) q y is h has;
}

-- ---- the opening

made_needed : (number : ℕ) (x : PeerPart) → Needed x → Needed (wire_made number x)
made_needed number x all = elim (is_own number) as (λ b. Needed (cond b (record x { nodes = with_made x.peers number x.nodes }) x)) [ true ↦ all | false ↦ all ]

held_needed : (node : NodeRef) (x : PeerPart) → Needed x → Needed (wire_held node x)
held_needed node x all = needed_made node (more_held (next_number x.given)) (λ h. held_needs (more_held (next_number x.given) h) h.held refl) x.handles all

pub records_begin : (o : Opening) → RecordsNeeded (opening_state o)
records_begin o = record { needed = λ q x h is has. opening_each Needed made_needed (λ node dest y all. all) held_needed o (λ me spec g there. absurd there) q x is h has }
