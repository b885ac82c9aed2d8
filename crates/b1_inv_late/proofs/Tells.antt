-- What an event tells of what it staged, and of what it took.
use Rattle.std.proofs.Common.{◌≡◌, refl, sym, ap, ◌∙◌, ℕ, zero, suc, ◌<◌, Bool, true, false, cond, List, [], ◌∷◌, get_or, length, Option, Some, None, Ok, Err}
use Rattle.std.specs.Prelude.{slice_get}
use Rattle.b1_model.specs.declared.commands.Command.{Command}
use Rattle.b1_model.specs.declared.commands.Command.TheVariants as cmd
use Rattle.b1_model.specs.declared.commands.SendCmd.{SendCmd}
use Rattle.b1_model.specs.declared.parts.Begun.{Begun}
use Rattle.b1_model.specs.declared.events.Destruction.{Destruction}
use Rattle.b1_model.specs.declared.naming.NodeRef.{NodeRef}
use Rattle.b1_model.specs.declared.naming.Opening.{Opening}
use Rattle.b1_model.specs.declared.answers.Reason.{Reason}
use Rattle.b1_model.specs.declared.events.Action.TheVariants as act
use Rattle.b1_model.specs.declared.events.Outcome.{Outcome}
use Rattle.b1_model.specs.declared.events.Outcome.TheVariants as out
use Rattle.b1_model.specs.declared.events.OwedDrop.{OwedDrop}
use Rattle.b1_model.specs.declared.events.Phase.{Phase}
use Rattle.b1_model.specs.declared.events.Phase.TheVariants.{Starting, Staging, Stamping, Visiting, Dooming}
use Rattle.b1_model.specs.MachineParts.{PeerPart, DriverPart}
use Rattle.b1_model.specs.MachineSend.{send_refusal, stage_refusal, final_stamp}
use Rattle.b1_model.specs.MachineDriver.{node_of_place, send_of, no_ref, first_action, next_action, peer_of}
use Rattle.b1_model.specs.MachineEvents.{begin_by, stage_by, user_of, happens, destroy_by, begin_refusal, begin_serials}
use Rattle.b1_model.specs.MachineOrder.{is_staging, stamp_given}
use Rattle.b1_inv_notices.proofs.Turns.{doing_in, opened, answered, get_there}
use Rattle.b1_inv_late.proofs.Turns.{StagedAt}

-- a SEND that stages has a place left
abbrev pub HasPlace : Phase → Type 0
HasPlace phase = (begun : Begun) (places : List (Option Reason)) (collected : ℕ) → phase ≡ Staging begun places collected → length places < length begun.to

get_or_there : (to : List NodeRef) (i : ℕ) (node : NodeRef) → slice_get to i ≡ Some node → get_or to i no_ref ≡ node
get_or_there [] zero node is = absurd (cc is)
get_or_there [] (suc i) node is = absurd (cc is)
get_or_there (n ∷ to) zero node is = cc is
get_or_there (n ∷ to) (suc i) node is = get_or_there to i node is

-- nothing is staged, and no stamp is given
abbrev pub IsPlain : Outcome → Type 0
IsPlain outcome = (is_staging outcome ≡ false) × (stamp_given outcome ≡ None)

destroy_plain : (r : Option Reason) (doomed : List ℕ) (x : PeerPart) → IsPlain (destroy_by r doomed x).0
destroy_plain (Some r) doomed x = (refl, refl)
destroy_plain None doomed x = (refl, refl)

begin_plain : (r : Option Reason) (memory : Bool) (c : SendCmd) (x : PeerPart) → IsPlain (begin_by r memory c x).0
begin_plain (Some r) memory c x = (refl, refl)
begin_plain None true c x = (refl, refl)
begin_plain None false c x = (refl, refl)

module _ (o : Opening) (memory : Bool) (d : DriverPart) (x : PeerPart) where
  start_plain : (shut : Bool) (one : Command) → IsPlain (happens o memory d (doing_in one Starting) (cond shut act.Local (first_action one)) x).0
  start_plain true one = (refl, refl)
  start_plain false cmd.Disconnect = destroy_plain (begin_refusal cmd.Disconnect x) (begin_serials cmd.Disconnect x) x
  start_plain false cmd.Query = (refl, refl)
  start_plain false (cmd.Reset limits) = destroy_plain (begin_refusal (cmd.Reset limits) x) (begin_serials (cmd.Reset limits) x) x
  start_plain false (cmd.Limit limits) = (refl, refl)
  start_plain false (cmd.Release number) = (refl, refl)
  start_plain false (cmd.Destroy numbers) = destroy_plain (begin_refusal (cmd.Destroy numbers) x) (begin_serials (cmd.Destroy numbers) x) x
  start_plain false (cmd.SliceRelease offset) = (refl, refl)
  start_plain false (cmd.Send c) = begin_plain (send_refusal x c) memory c x
  start_plain false cmd.Recv = (refl, refl)
  start_plain false cmd.Await = (refl, refl)

-- ---- what was staged

stage_tells : (r : Option Reason) (memory : Bool) (me origin user : ℕ) (begun : Begun) (places : List (Option Reason)) (collected serial : ℕ) (payload : List ℕ) (nodes : List NodeRef) (x : PeerPart) → length places < length begun.to
    → StagedAt me (node_of_place begun.to (length places)).owner x.clock (Staging begun places collected) (stage_by r memory origin user (length places) serial payload nodes x).0
stage_tells (Some r) memory me origin user begun places collected serial payload nodes x within = refl
stage_tells None true me origin user begun places collected serial payload nodes x within = refl
stage_tells None false me origin user begun places collected serial payload nodes x within =
    let there = get_there begun.to (length places) within in
    (refl, (there.0, there.1, ap (λ n. n.owner) (sym (get_or_there begun.to (length places) there.0 there.1))))

module _ (o : Opening) (memory : Bool) (d : DriverPart) (command : Command) (x : PeerPart) where
  -- what an event staged was staged at its peer, whose clock it tells
  pub staged_at : (phase : Phase) (owed : List OwedDrop) → HasPlace phase → StagedAt d.me (peer_of d.me (next_action (opened d command phase owed))) x.clock phase (answered o memory d command phase owed x).0
  staged_at (Staging begun places collected) [] has =
      stage_tells (stage_refusal x (user_of o d.me) (node_of_place begun.to (length places)).serial (length (send_of command).payload) (length begun.with)) memory d.me d.me (user_of o d.me) begun places collected
      (node_of_place begun.to (length places)).serial (send_of command).payload begun.with x (has begun places collected refl)
  staged_at (Staging begun places collected) (one ∷ rest) has = refl
  staged_at (Visiting destruction left) [] has = (refl, refl)
  staged_at (Visiting destruction left) (one ∷ rest) has = refl
  staged_at Starting [] has = (start_plain o memory (opened d command Starting []) x d.shut command).0
  staged_at phase [] has = refl
  staged_at phase (one ∷ rest) has = refl

  -- ---- what was given

  -- a stamp is given at the end of what comes before it, where nothing is owed
  abbrev pub Stamps : Phase → List OwedDrop → ℕ → Type 0
  Stamps (Stamping sending) [] stamp = final_stamp x sending.collected ≡ stamp
  Stamps (Dooming destruction) [] stamp = (x.late ≡ []) × (final_stamp x destruction.collected ≡ stamp)
  Stamps phase owed stamp = ⊥

  doom_tells : (late : List ℕ) (destruction : Destruction) (stamp : ℕ) → x.late ≡ late → stamp_given (out.StampDestroy (elim late [ [] ↦ Ok (final_stamp x destruction.collected) | peer ∷ rest ↦ Err (peer ∷ rest) ])) ≡ Some stamp → (x.late ≡ []) × (final_stamp x destruction.collected ≡ stamp)
  doom_tells [] destruction stamp none is = (none, cc is)
  doom_tells (peer ∷ rest) destruction stamp none is = absurd (cc is)

  pub stamps : (phase : Phase) (owed : List OwedDrop) (stamp : ℕ) → stamp_given (answered o memory d command phase owed x).0 ≡ Some stamp → Stamps phase owed stamp
  stamps (Stamping sending) [] stamp is = cc is
  stamps (Dooming destruction) [] stamp is = doom_tells x.late destruction stamp refl is
  stamps Starting [] stamp is = let none : Some stamp ≡ None = sym is ∙ (start_plain o memory (opened d command Starting []) x d.shut command).1 in absurd (cc none)
  stamps (Staging begun places collected) [] stamp is = absurd (none (stage_refusal x (user_of o d.me) (node_of_place begun.to (length places)).serial (length (send_of command).payload) (length begun.with)) memory is)
    where
      none : (r : Option Reason) (want : Bool) → stamp_given (stage_by r want d.me (user_of o d.me) (length places) (node_of_place begun.to (length places)).serial (send_of command).payload begun.with x).0 ≡ Some stamp → ⊥
      none (Some r) want given = cc given
      none None true given = cc given
      none None false given = cc given
  stamps phase [] stamp is = absurd (cc is)
  stamps phase (one ∷ rest) stamp is = absurd (cc is)
