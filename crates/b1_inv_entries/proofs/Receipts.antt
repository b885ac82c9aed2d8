-- The receipt that a step adds to the record: a RECV took the committed front, whose key it has.
use Rattle.std.proofs.Common.{◌≡◌, refl, sym, ap, ◌∙◌, ℕ, Bool, true, false, cond, List, [], ◌∷◌, Option, Some, None, Ok, Err}
use Rattle.std.proofs.lemmas.Option.{same_Some}
use Rattle.b1_model.specs.declared.commands.Command.{Command}
use Rattle.b1_model.specs.declared.commands.Command.TheVariants as cmd
use Rattle.b1_model.specs.declared.commands.SendCmd.{SendCmd}
use Rattle.b1_model.specs.declared.naming.Key.{Key}
use Rattle.b1_model.specs.declared.naming.NodeRef.{NodeRef}
use Rattle.b1_model.specs.declared.naming.Opening.{Opening}
use Rattle.b1_model.specs.declared.answers.Answer.{Answer}
use Rattle.b1_model.specs.declared.answers.Answer.TheVariants as answer
use Rattle.b1_model.specs.declared.answers.Reason.{Reason}
use Rattle.b1_model.specs.declared.answers.Reason.TheVariants as reason
use Rattle.b1_model.specs.declared.entries.Entry.{Entry}
use Rattle.b1_model.specs.declared.entries.Entry.TheVariants.{Message, OwnNotice, ForeignNotice, ReleaseNotice}
use Rattle.b1_model.specs.declared.events.Action.{Action}
use Rattle.b1_model.specs.declared.events.Action.TheVariants as act
use Rattle.b1_model.specs.declared.events.Outcome.{Outcome}
use Rattle.b1_model.specs.declared.events.Outcome.TheVariants as out
use Rattle.b1_model.specs.declared.events.Phase.{Phase}
use Rattle.b1_model.specs.declared.events.Phase.TheVariants.{Starting, Staging, Stamping, Dooming}
use Rattle.b1_model.specs.Ledger.{got_key}
use Rattle.b1_model.specs.MachineParts.{PeerPart, State, is_staged}
use Rattle.b1_model.specs.MachinePool.{is_received}
use Rattle.b1_model.specs.MachineReceive.{cleared, front_by, front_taken, taken_entry}
use Rattle.b1_model.specs.MachineDriver.{is_flushing, recv_answer, refused_at}
use Rattle.b1_model.specs.MachineTook.{stamped_answer}
use Rattle.b1_model.specs.MachineEvents.{happens, begin_by, stage_by, destroy_by, begin_refusal, begin_serials, local_answer}
use Rattle.b1_model.specs.MachineStep.{Step}
use Rattle.b1_inv_notices.proofs.Turns.{parts, going, going_doing, going_action, going_answer}
use Rattle.b1_inv_entries.proofs.Answers.{Fixes, IsRefusal}
use Rattle.b1_inv_entries.proofs.Keeping.{IsTakenFront}
use Rattle.b1_inv_entries.proofs.NewCalls.{NewCall}

-- ---- the event of a receipt

-- an answer with a key comes from a RECV, or from a local command
abbrev Took : Outcome → Answer → Type 0
Took (out.Recv front dead) got = got ≡ recv_answer front
Took (out.Local result) got = got ≡ result
Took outcome got = ⊥

no_key : (got other : Answer) (key : Key) → got ≡ other → got_key other ≡ None → got_key got ≡ Some key → ⊥
no_key got other key same none is = let both : None ≡ Some key = sym none ∙ ap got_key (sym same) ∙ is in cc both

stamped_none : (b : Bool) (stamp : ℕ) → got_key (cond b (answer.Reset (Some stamp)) (answer.Destroyed stamp)) ≡ None
stamped_none true stamp = refl
stamped_none false stamp = refl

module _ (command : Command) (got : Answer) (key : Key) (is : got_key got ≡ Some key) where
  of_refusal : IsRefusal got → ⊥
  of_refusal (refused, same) = no_key got (answer.Refused refused) key same refl is

  start_took : (outcome : Outcome) → Fixes command Starting outcome got → Took outcome got
  start_took (out.Begin (Err r)) fixes = absurd (no_key got _ key fixes refl is)
  start_took (out.Begin (Ok begun)) fixes = absurd fixes
  start_took (out.Recv front dead) fixes = fixes
  start_took (out.Release (Ok owed)) fixes = absurd (no_key got _ key fixes refl is)
  start_took (out.Release (Err r)) fixes = absurd (no_key got _ key fixes refl is)
  start_took (out.BeginDestroy (Ok visit) doomed) fixes = absurd (no_key got _ key fixes.1 refl is)
  start_took (out.BeginDestroy (Err r) doomed) fixes = absurd (no_key got _ key fixes refl is)
  start_took (out.Local result) fixes = fixes
  start_took outcome fixes = absurd fixes

  took : (phase : Phase) (outcome : Outcome) → Fixes command phase outcome got → Took outcome got
  took Starting outcome fixes = start_took outcome fixes
  took (Staging begun places collected) (out.Stage result) fixes = absurd (of_refusal fixes)
  took (Stamping sending) (out.Stamp stamp) fixes = absurd (no_key got _ key fixes refl is)
  took (Dooming destruction) (out.StampDestroy (Ok stamp)) fixes = absurd (no_key got (stamped_answer command stamp) key fixes (stamped_none (is_flushing command) stamp) is)
  took phase outcome fixes = absurd fixes

local_none : (shut : Bool) (command : Command) (x : PeerPart) → got_key (local_answer shut command x) ≡ None
local_none true command x = refl
local_none false (cmd.SliceRelease offset) x = elim (is_received offset x.slices) as (λ b. got_key (cond b answer.Done (refused_at (reason.Unknown offset) None)) ≡ None) [ true ↦ refl | false ↦ refl ]
local_none false cmd.Query x = refl
local_none false (cmd.Limit limits) x = refl
local_none false command x = refl

begin_none : (r : Option Reason) (memory : Bool) (c : SendCmd) (x : PeerPart) (got : Answer) → Took (begin_by r memory c x).0 got → ⊥
begin_none (Some r) memory c x got h = h
begin_none None true c x got h = h
begin_none None false c x got h = h

stage_none : (r : Option Reason) (memory : Bool) (origin user place serial : ℕ) (payload : List ℕ) (nodes : List NodeRef) (x : PeerPart) (got : Answer) → Took (stage_by r memory origin user place serial payload nodes x).0 got → ⊥
stage_none (Some r) memory origin user place serial payload nodes x got h = h
stage_none None true origin user place serial payload nodes x got h = h
stage_none None false origin user place serial payload nodes x got h = h

destroy_none : (r : Option Reason) (doomed : List ℕ) (x : PeerPart) (got : Answer) → Took (destroy_by r doomed x).0 got → ⊥
destroy_none (Some r) doomed x got h = h
destroy_none None doomed x got h = h

-- ---- what a RECV answers

entry_key : (x : PeerPart) (k key : Key) (e : Entry) → got_key (answer.Got (taken_entry x k e).0) ≡ Some key → k ≡ key
entry_key x k key (Message origin user index serial offset len nodes slots handles payload) is = same_Some k key is
entry_key x k key (OwnNotice serial index) is = same_Some k key is
entry_key x k key (ForeignNotice node index) is = same_Some k key is
entry_key x k key (ReleaseNotice serial) is = absurd (cc is)

-- the committed front has the key of the receipt
abbrev pub TakesFront : PeerPart → Key → Type 0
TakesFront x key = (f : Key × Entry) × IsTakenFront x f × (f.0 ≡ key)

front_key : (x : PeerPart) (queue : List (Key × Entry)) (key : Key) → (cleared x).queue ≡ queue
    → got_key (elim (front_taken (cleared x) queue).0 [ Ok receipt ↦ answer.Got receipt | Err front ↦ refused_at (reason.Again front) None ]) ≡ Some key → TakesFront x key
front_key x [] key is got = absurd (cc got)
front_key x (f ∷ rest) key is got = by (is_staged f) refl got
  where
    by : (b : Bool) → is_staged f ≡ b → got_key (elim (front_by b (cleared x) f rest).0 [ Ok receipt ↦ answer.Got receipt | Err front ↦ refused_at (reason.Again front) None ]) ≡ Some key → TakesFront x key
    by true odd h = absurd (cc h)
    by false even h = (f, (rest, is, even), entry_key (record (cleared x) { queue = rest }) f.0 key f.1 h)

-- ---- a step

module _ {o : Opening} {s : State} {p : ℕ} {c : Option Command} {t : State} (step : Step o s p c t) where
  took_front : (action : Action) (got : Answer) (key : Key) → got_key got ≡ Some key → Took (happens o step.local.memory (going step) (going_doing step) action step.peer).0 got → (action ≡ act.Recv) × TakesFront step.peer key
  took_front act.Recv got key is h = (refl, front_key step.peer (cleared step.peer).queue key refl (ap got_key (sym h) ∙ is))
  took_front act.Local got key is h = absurd (no_key got _ key h (local_none step.driver.shut (parts step).command step.peer) is)
  took_front act.Begin got key is h = absurd (begin_none _ step.local.memory _ step.peer got h)
  took_front (act.Stage peer place) got key is h = absurd (stage_none _ step.local.memory _ _ _ _ _ _ step.peer got h)
  took_front act.BeginDestroy got key is h = absurd (destroy_none (begin_refusal (parts step).command step.peer) (begin_serials (parts step).command step.peer) step.peer got h)
  took_front action got key is h = absurd h

  -- a new receipt took the committed front of its peer's queue, under whose key it stands
  pub receipt_taken : (new : NewCall step) (key : Key) → got_key new.call.answer ≡ Some key → (going_action step ≡ act.Recv) × TakesFront step.peer key
  receipt_taken new key is =
      let got : got_key new.got ≡ Some key = ap (λ z. got_key z.answer) (sym new.is_call) ∙ is in
      took_front (going_action step) new.got key got (took (parts step).command new.got key got (parts step).phase (going_answer step) new.fixes)
