-- A key that an event took is that of a committed entry of its peer's queue.
use Rattle.std.proofs.Common.{◌≡◌, refl, sym, ap, subst, ◌∙◌, inl, inr, ℕ, Bool, true, false, cond, List, [], ◌∷◌, length, Option, Some, None, Ok, Err, Result}
use Rattle.b1_model.specs.declared.commands.Command.{Command}
use Rattle.b1_model.specs.declared.commands.Command.TheVariants as cmd
use Rattle.b1_model.specs.declared.commands.SendCmd.{SendCmd}
use Rattle.b1_model.specs.declared.naming.Key.{Key}
use Rattle.b1_model.specs.declared.naming.NodeRef.{NodeRef}
use Rattle.b1_model.specs.declared.naming.Opening.{Opening}
use Rattle.b1_model.specs.declared.answers.Reason.{Reason}
use Rattle.b1_model.specs.declared.answers.Receipt.{Receipt}
use Rattle.b1_model.specs.declared.answers.Receipt.TheVariants as receipt
use Rattle.b1_model.specs.declared.answers.Front.{Front}
use Rattle.b1_model.specs.declared.entries.Entry.{Entry}
use Rattle.b1_model.specs.declared.entries.Entry.TheVariants.{Message, OwnNotice, ForeignNotice, ReleaseNotice}
use Rattle.b1_model.specs.declared.events.Action.TheVariants as act
use Rattle.b1_model.specs.declared.events.Outcome.{Outcome}
use Rattle.b1_model.specs.declared.events.OwedDrop.{OwedDrop}
use Rattle.b1_model.specs.declared.events.Phase.{Phase}
use Rattle.b1_model.specs.declared.events.Phase.TheVariants.{Starting, Staging}
use Rattle.b1_model.specs.MachineParts.{PeerPart, DriverPart, is_staged}
use Rattle.b1_model.specs.MachineSend.{send_refusal, stage_refusal}
use Rattle.b1_model.specs.MachineReceive.{cleared, received, taken_entry}
use Rattle.b1_model.specs.MachineDriver.{node_of_place, send_of, first_action}
use Rattle.b1_model.specs.MachineEvents.{begin_by, stage_by, user_of, happens, destroy_by, begin_refusal, begin_serials}
use Rattle.b1_model.specs.MachineOrder.{key_taken}
use Rattle.b1_step.specs.Rights.{Has}
use Rattle.b1_step.specs.Ordered.{Rising}
use Rattle.b1_inv_notices.proofs.Turns.{doing_in, opened, answered}
use Rattle.b1_inv_taken.proofs.Clears.{receives, cleared_same}

-- a committed entry of a queue with this key
abbrev pub TookKey : PeerPart → Key → Type 0
TookKey x key = (f : Key × Entry) × Has x.queue f × (is_staged f ≡ false) × (f.0 ≡ key)

-- the key of a receipt, release notices aside
abbrev pub key_of_front : Result Receipt Front → Option Key
key_of_front front = elim front [ Err why ↦ None | Ok one ↦ elim one [ receipt.Message key number offset handles payload ↦ Some key | receipt.Destroyed key number ↦ Some key | receipt.Released stamp number ↦ None ] ]

entry_key : (x : PeerPart) (k : Key) (e : Entry) (key : Key) → key_of_front (Ok (taken_entry x k e).0) ≡ Some key → k ≡ key
entry_key x k (Message origin user index serial offset len carried slots handles payload) key is = cc is
entry_key x k (OwnNotice serial index) key is = cc is
entry_key x k (ForeignNotice node index) key is = cc is
entry_key x k (ReleaseNotice serial) key is = absurd (cc is)

recv_takes : (x : PeerPart) (key : Key) → Rising x.handles → key_of_front (received x).front ≡ Some key → TookKey x key
recv_takes x key up is = elim (receives x) [
  | inl none ↦ let both : Some key ≡ None = sym is ∙ ap key_of_front none.0.1 in absurd (cc both)
  | inr took ↦
      let k = took.2 in (
        took.0,
        (cleared_same x up).0 took.0 (subst (λ q. Has q took.0) (sym k.queue) (inl refl)),
        k.even,
        entry_key (record (cleared x) { queue = took.1 }) took.0.0 took.0.1 key (sym (ap key_of_front k.answer) ∙ is),
      )
]

destroy_takes : (r : Option Reason) (doomed : List ℕ) (x : PeerPart) → key_taken (destroy_by r doomed x).0 ≡ None
destroy_takes (Some r) doomed x = refl
destroy_takes None doomed x = refl

begin_takes : (r : Option Reason) (memory : Bool) (c : SendCmd) (x : PeerPart) → key_taken (begin_by r memory c x).0 ≡ None
begin_takes (Some r) memory c x = refl
begin_takes None true c x = refl
begin_takes None false c x = refl

stage_takes : (r : Option Reason) (memory : Bool) (origin user place serial : ℕ) (payload : List ℕ) (nodes : List NodeRef) (x : PeerPart) → key_taken (stage_by r memory origin user place serial payload nodes x).0 ≡ None
stage_takes (Some r) memory origin user place serial payload nodes x = refl
stage_takes None true origin user place serial payload nodes x = refl
stage_takes None false origin user place serial payload nodes x = refl

module _ (o : Opening) (memory : Bool) (d : DriverPart) (x : PeerPart) (key : Key) (up : Rising x.handles) where
  nothing : (outcome : Outcome) → key_taken outcome ≡ None → key_taken outcome ≡ Some key → TookKey x key
  nothing outcome none is = let both : Some key ≡ None = sym is ∙ none in absurd (cc both)

  start_takes : (shut : Bool) (one : Command) → key_taken (happens o memory d (doing_in one Starting) (cond shut act.Local (first_action one)) x).0 ≡ Some key → TookKey x key
  start_takes true one is = absurd (cc is)
  start_takes false cmd.Disconnect is = nothing (destroy_by (begin_refusal cmd.Disconnect x) (begin_serials cmd.Disconnect x) x).0 (destroy_takes (begin_refusal cmd.Disconnect x) (begin_serials cmd.Disconnect x) x) is
  start_takes false cmd.Query is = absurd (cc is)
  start_takes false (cmd.Reset limits) is = nothing (destroy_by (begin_refusal (cmd.Reset limits) x) (begin_serials (cmd.Reset limits) x) x).0 (destroy_takes (begin_refusal (cmd.Reset limits) x) (begin_serials (cmd.Reset limits) x) x) is
  start_takes false (cmd.Limit limits) is = absurd (cc is)
  start_takes false (cmd.Release number) is = absurd (cc is)
  start_takes false (cmd.Destroy numbers) is = nothing (destroy_by (begin_refusal (cmd.Destroy numbers) x) (begin_serials (cmd.Destroy numbers) x) x).0 (destroy_takes (begin_refusal (cmd.Destroy numbers) x) (begin_serials (cmd.Destroy numbers) x) x) is
  start_takes false (cmd.SliceRelease offset) is = absurd (cc is)
  start_takes false (cmd.Send c) is = nothing (begin_by (send_refusal x c) memory c x).0 (begin_takes (send_refusal x c) memory c x) is
  start_takes false cmd.Recv is = recv_takes x key up is
  start_takes false cmd.Await is = recv_takes x key up is

module _ (o : Opening) (memory : Bool) (d : DriverPart) (command : Command) (x : PeerPart) (key : Key) (up : Rising x.handles) where
  -- what an event took was a committed entry
  pub takes : (phase : Phase) (owed : List OwedDrop) → key_taken (answered o memory d command phase owed x).0 ≡ Some key → TookKey x key
  takes Starting [] is = start_takes o memory (opened d command Starting []) x key up d.shut command is
  takes (Staging begun places collected) [] is =
      let place = node_of_place begun.to (length places) in
      let r = stage_refusal x (user_of o d.me) place.serial (length (send_of command).payload) (length begun.with) in
      nothing o memory d x key up (stage_by r memory d.me (user_of o d.me) (length places) place.serial (send_of command).payload begun.with x).0
      (stage_takes r memory d.me (user_of o d.me) (length places) place.serial (send_of command).payload begun.with x) is
  takes phase [] is = absurd (cc is)
  takes phase (one ∷ rest) is = absurd (cc is)
