-- What holds of a peer by its own open destruction, where one begins and where one gets its stamp.
use Rattle.std.proofs.Common.{◌≡◌, refl, sym, ap, subst, ◌∙◌, inl, inr, ℕ, ◌<◌, ◌≤◌, true, false, List, [], ◌∷◌, length, Option, Some, None, Ok, Err}
use native.Mathlib.Omega.{arith}
use Rattle.b1_model.specs.declared.commands.Command.{Command}
use Rattle.b1_model.specs.declared.answers.Reason.{Reason}
use Rattle.b1_model.specs.declared.parts.NodeState.TheVariants.{Dying, Destroyed}
use Rattle.b1_model.specs.declared.events.Outcome.TheVariants as out
use Rattle.b1_model.specs.declared.events.Phase.TheVariants.{Starting, Visiting, Dooming, CommittingOwn, Flushing}
use Rattle.b1_model.specs.declared.events.Destruction.{Destruction}
use Rattle.b1_model.specs.MachineParts.{PeerPart, is_dying, node_at}
use Rattle.b1_model.specs.MachineTables.{with_nodes, in_state, count_of}
use Rattle.b1_model.specs.MachineSend.{final_stamp}
use Rattle.b1_model.specs.MachineDestroy.{doom_by, doom_answer, doomed_part, visit_set}
use Rattle.b1_model.specs.MachineDriver.{turn}
use Rattle.b1_model.specs.MachineEvents.{destroy_by}
use Rattle.b1_step.specs.Rights.{Has}
use Rattle.b1_inv.specs.Notices.{Apart, AreOthers, IsDestroying, IsDestruction, DestructionShape}
use Rattle.b1_inv_notices.proofs.Turns.{doing_in, OnTurn}
use Rattle.b1_inv_notices.proofs.Sets.{in_or_not, others_none}
use Rattle.b1_inv_notices.proofs.Nodes.{nodes_same, doomed_length, doomed_state, undoomed_state}
use Rattle.b1_inv_notices.proofs.Own.{Own, own_calm, own_with, own_syncing, own_visiting}
use Rattle.b1_inv_notices.proofs.Serials.{visit_others}

module _ (command : Command) (x : PeerPart) where
  -- ---- the stamp

  module _ (d : Destruction) (own : Own (Some (doing_in command (Dooming d))) x) where
    shape : IsDestroying command × IsDestruction x.peers x d Dying
    shape = own.shape (doing_in command (Dooming d)) refl

    -- the peer's part with its doomed nodes destroyed
    abbrev destroyed : ℕ → PeerPart
    destroyed stamp = record x { clock = stamp; nodes = with_nodes d.doomed (in_state (Destroyed stamp)) x.nodes }

    not_dying : (stamp serial : ℕ) → is_dying (node_at (destroyed stamp) serial).state ≡ true → Has {X = ℕ} [] serial
    not_dying stamp serial is =
        elim (in_or_not serial d.doomed) [
          | inl h ↦ let both : false ≡ true = ap is_dying (sym (doomed_state (Destroyed stamp) d.doomed x.nodes serial h (shape.1.made serial h).0)) ∙ is in absurd (cc both)
          | inr none ↦ none (own.dying serial (ap (λ n. is_dying n.state) (sym (undoomed_state (Destroyed stamp) d.doomed x.nodes serial none)) ∙ is))
        ]

    is_destroyed : (stamp : ℕ) → IsDestruction x.peers (destroyed stamp) d (Destroyed stamp)
    is_destroyed stamp = record {
      some = shape.1.some;
      apart = shape.1.apart;
      made = λ serial h. let k = (shape.1.made serial h).0 in (omega (arith, k, doomed_length (Destroyed stamp) d.doomed x.nodes), doomed_state (Destroyed stamp) d.doomed x.nodes serial h k);
      staged = shape.1.staged;
    }

    stamped_own : (stamp : ℕ) → x.late ≡ [] → Own (Some (doing_in command (CommittingOwn d stamp))) (destroyed stamp)
    stamped_own stamp empty = record {
      shape = λ one is. let k : doing_in command (CommittingOwn d stamp) ≡ one = cc is in subst (λ z. DestructionShape x.peers (destroyed stamp) z.command z.phase) k (shape.0, is_destroyed stamp);
      dying = not_dying stamp;
      others = own.others;
      late = inl empty;
    }

    stamp_by : (late : List ℕ) → x.late ≡ late → (me : ℕ) → OnTurn command (λ doing. Own doing (doom_by late x d.collected d.doomed)) (turn me command (Dooming d) (out.StampDestroy (elim late [ [] ↦ Ok (final_stamp x d.collected) | peer ∷ rest ↦ Err (peer ∷ rest) ])))
    stamp_by [] is me = own_syncing command (destroyed (final_stamp x d.collected)) (CommittingOwn d (final_stamp x d.collected)) d (final_stamp x d.collected) 0 refl shape.0 (is_destroyed (final_stamp x d.collected)) (stamped_own (final_stamp x d.collected) is)
    stamp_by (peer ∷ rest) is me =
        own_with (Some (doing_in command (Visiting d (peer ∷ rest)))) x (record x { late = [] }) refl refl (nodes_same x.nodes x.nodes refl)
        (own_visiting command x (Dooming d) d (peer ∷ rest) refl shape.0 shape.1 (subst (AreOthers x.peers x.me) is own.others) own)
        (others_none x.peers x.me) (inl refl)

    pub stamp_own : (me : ℕ) → OnTurn command (λ doing. Own doing (doom_by x.late x d.collected d.doomed)) (turn me command (Dooming d) (out.StampDestroy (doom_answer x d.collected)))
    stamp_own me = stamp_by x.late refl me

  -- ---- the begin

  module _ (destroying : IsDestroying command) (none : (serial : ℕ) → count_of (node_at x serial) x.me ≡ 0) (own : Own (Some (doing_in command Starting)) x) where
    -- the nodes that it dooms with nothing collected
    abbrev begun : List ℕ → Destruction
    begun doomed = record { doomed = doomed; collected = 0; staged = [] }

    now_dying : (doomed : List ℕ) (serial : ℕ) → is_dying (node_at (doomed_part x doomed) serial).state ≡ true → Has doomed serial
    now_dying doomed serial is =
        elim (in_or_not serial doomed) [
          | inl h ↦ h
          | inr out_of ↦ absurd (own.dying serial (ap (λ n. is_dying n.state) (sym (undoomed_state Dying doomed x.nodes serial out_of)) ∙ is))
        ]

    begun_own : (doomed : List ℕ) → 1 ≤ length doomed → Apart doomed → ((serial : ℕ) → Has doomed serial → serial < length x.nodes) → Own (Some (doing_in command (Dooming (begun doomed)))) (doomed_part x doomed)
    begun_own doomed some apart made = record {
      shape = λ one is. let k : doing_in command (Dooming (begun doomed)) ≡ one = cc is in subst (λ z. DestructionShape x.peers (doomed_part x doomed) z.command z.phase) k (destroying, is_begun doomed some apart made);
      dying = now_dying doomed;
      others = others_none x.peers x.me;
      late = inl refl;
    }
      where
        is_begun : (doomed : List ℕ) → 1 ≤ length doomed → Apart doomed → ((serial : ℕ) → Has doomed serial → serial < length x.nodes) → IsDestruction x.peers (doomed_part x doomed) (begun doomed) Dying
        is_begun doomed some apart made = record {
          some = some;
          apart = apart;
          made = λ serial h. let k = made serial h in (omega (arith, k, doomed_length Dying doomed x.nodes), doomed_state Dying doomed x.nodes serial h k);
          staged = others_none x.peers x.me;
        }

    with_doomed : (doomed visit : List ℕ) → AreOthers x.peers x.me visit → Apart doomed → ((serial : ℕ) → Has doomed serial → serial < length x.nodes) → (me : ℕ) → OnTurn command (λ doing. Own doing (doomed_part x doomed)) (turn me command Starting (out.BeginDestroy (Ok visit) doomed))
    with_doomed [] visit others apart made me =
        own_with (Some (doing_in command (Flushing None))) x (doomed_part x []) refl refl (nodes_same x.nodes x.nodes refl)
        (own_calm (Some (doing_in command Starting)) (Some (doing_in command (Flushing None))) x refl refl own) (others_none x.peers x.me) (inl refl)
    with_doomed (serial ∷ rest) visit others apart made me =
        let base = begun_own (serial ∷ rest) (omega arith) apart made in
        own_visiting command (doomed_part x (serial ∷ rest)) (Dooming (begun (serial ∷ rest))) (begun (serial ∷ rest)) visit refl destroying (base.shape (doing_in command (Dooming (begun (serial ∷ rest)))) refl).1 others base

    pub begin_own : (r : Option Reason) (doomed : List ℕ) → (r ≡ None → Apart doomed) → ((serial : ℕ) → Has doomed serial → serial < length x.nodes) → (me : ℕ) → OnTurn command (λ doing. Own doing (destroy_by r doomed x).1) (turn me command Starting (destroy_by r doomed x).0)
    begin_own (Some r) doomed apart made me = own_calm (Some (doing_in command Starting)) None x refl refl own
    begin_own None doomed apart made me = with_doomed doomed (visit_set x doomed) (visit_others x none doomed) (apart refl) made me
