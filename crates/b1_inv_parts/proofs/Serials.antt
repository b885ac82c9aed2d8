-- The own nodes of all queued entries were made.
use Rattle.std.proofs.Common.{◌≡◌, refl, sym, ap, ◌∙◌, inl, inr, subst, arith, ℕ, ◌<◌, ◌≤◌, Bool, true, false, List, ◌∷◌, length, Option, Some, None, not, ◌&&◌}
use Rattle.std.specs.Bool.{then_some}
use Rattle.std.proofs.lemmas.Bool.{cases_lt}
use Rattle.std.proofs.lemmas.List.{get_or_past, length-set}
use Rattle.b1_model.specs.declared.naming.Key.{Key}
use Rattle.b1_model.specs.declared.naming.NodeRef.{NodeRef}
use Rattle.b1_model.specs.declared.naming.Opening.{Opening}
use Rattle.b1_model.specs.declared.commands.Command.{Command}
use Rattle.b1_model.specs.declared.commands.Command.TheVariants as cmd
use Rattle.b1_model.specs.declared.parts.Slot.{Slot}
use Rattle.b1_model.specs.declared.answers.Reason.{Reason}
use Rattle.b1_model.specs.declared.answers.Reason.TheVariants as reason
use Rattle.b1_model.specs.declared.entries.Entry.{Entry}
use Rattle.b1_model.specs.declared.entries.Entry.TheVariants.{Message, OwnNotice, ForeignNotice, ReleaseNotice}
use Rattle.b1_model.specs.declared.events.Action.{Action}
use Rattle.b1_model.specs.declared.events.Action.TheVariants as act
use Rattle.b1_model.specs.declared.events.Doing.{Doing}
use Rattle.b1_model.specs.MachineParts.{PeerPart, DriverPart, State, is_live, no_node, node_at}
use Rattle.b1_model.specs.MachineTables.{uncounted}
use Rattle.b1_model.specs.MachineSend.{stage_refusal, first_reason, with_slots}
use Rattle.b1_model.specs.MachineReceive.{dropped_refs}
use Rattle.b1_model.specs.MachineDriver.{node_of_place, send_of}
use Rattle.b1_model.specs.MachineEvents.{happens, stage_by, begun_of, user_of, begin_serials}
use Rattle.b1_model.specs.MachineStep.{Step, opening_state}
use Rattle.b1_step.specs.Rights.{Has}
use Rattle.b1_step.proofs.Lists.{has_at}
use Rattle.b1_step.proofs.Queues.{put_has}
use Rattle.b1_step.proofs.Orders.{find_has}
use Rattle.b1_inv_record.specs.Parts.{IsForMade, SerialsMade}
use Rattle.b1_inv_tools.proofs.Comes.{Comes, queue_comes}
use Rattle.b1_inv_tools.proofs.Grows.{nodes_grow}
use Rattle.b1_inv_tools.proofs.Leaves.{step_did}
use Rattle.b1_inv_notices.proofs.Serials.{destroy_made, reset_made}
use Rattle.b1_inv_sends.proofs.StagesKept.{opening_queue}
use Rattle.b1_inv_parts.proofs.Steps.{kept_by_step}

-- ---- entries

for_more : (m n : ℕ) (e : Entry) → m ≤ n → IsForMade m e → IsForMade n e
for_more m n (Message origin user index serial offset len nodes slots handles payload) more is = omega (arith, more, is)
for_more m n (OwnNotice serial index) more is = omega (arith, more, is)
for_more m n (ForeignNotice node index) more is = tt
for_more m n (ReleaseNotice serial) more is = omega (arith, more, is)

for_slots : (m : ℕ) (slots : List Slot) (e : Entry) → IsForMade m e → IsForMade m (with_slots slots e)
for_slots m slots (Message origin user index serial offset len nodes old handles payload) is = is
for_slots m slots (OwnNotice serial index) is = is
for_slots m slots (ForeignNotice node index) is = is
for_slots m slots (ReleaseNotice serial) is = is

-- a live node was made
pub live_made : (x : PeerPart) (serial : ℕ) → is_live (node_at x serial).state ≡ true → serial < length x.nodes
live_made x serial is = elim (cases_lt serial (length x.nodes)) [ inl there ↦ there | inr past ↦ absurd (cc (sym is ∙ ap (λ n. is_live n.state) (get_or_past x.nodes serial no_node past))) ]

-- the nodes that a destruction dooms were made
pub doomed_made : (command : Command) (x : PeerPart) (serial : ℕ) → Has (begin_serials command x) serial → serial < length x.nodes
doomed_made (cmd.Destroy numbers) x serial h = destroy_made x numbers serial h
doomed_made command x serial h = reset_made x serial h

and_first : (a b : Bool) → (a && b) ≡ true → a ≡ true
and_first true b is = refl
and_first false b is = absurd (cc is)

-- ---- one event

-- every entry of a part's queue
abbrev pub QueueMade : PeerPart → Type 0
QueueMade x = (f : Key × Entry) → Has x.queue f → IsForMade (length x.nodes) f.1

abbrev is_stage_event : Action → Bool
is_stage_event (act.Stage peer place) = true
is_stage_event action = false

-- an accepted stage is at a live node
pub stage_live : (b : Bool) (rest : List (Option Reason)) (r : Reason) → first_reason (then_some (not b) r ∷ rest) ≡ None → b ≡ true
stage_live true rest r is = refl
stage_live false rest r is = absurd (cc is)

at_stage : (r : Option Reason) (memory : Bool) (origin user place serial : ℕ) (payload : List ℕ) (nodes : List NodeRef) (x : PeerPart) → stage_refusal x user serial (length payload) (length nodes) ≡ r → QueueMade x → QueueMade (stage_by r memory origin user place serial payload nodes x).1
at_stage (Some r) memory origin user place serial payload nodes x is made = made
at_stage None true origin user place serial payload nodes x is made = made
at_stage None false origin user place serial payload nodes x is made = λ f h.
    elim (put_has _ _ x.queue f h) [
      | inl new ↦ subst (λ g. IsForMade (length x.nodes) g.1) (sym new) (live_made x serial (stage_live (is_live (node_at x serial).state) _ (reason.Gone x.me serial) is))
      | inr old ↦ made f old
    ]

module _ (o : Opening) (memory : Bool) (d : DriverPart) (doing : Doing) where
  comes_made : (action : Action) (x : PeerPart) (f : Key × Entry) → is_stage_event action ≡ false → QueueMade x → Comes o d doing x action f → IsForMade (length x.nodes) f.1
  comes_made (act.Stage peer place) x f other made c = absurd (cc other)
  comes_made (act.Commit peer place stamp) x f other made (g, is, same) = subst (λ e. IsForMade (length x.nodes) e.1) (sym same) (for_slots (length x.nodes) _ g.1 (made g (find_has _ x.queue g is).0))
  comes_made (act.CommitNotices peer stamp) x f other made (g, has, passes, same) = subst (λ e. IsForMade (length x.nodes) e.1) (sym same) (made g has)
  comes_made (act.DropRefs peer serial holder k clock) x f other made (same, released) =
      let live = live_made (dropped_refs x serial holder k clock) serial (and_first (is_live (node_at (dropped_refs x serial holder k clock) serial).state) _ released) in
      let as_long = length-set x.nodes serial (uncounted holder k (node_at x serial)) in
      subst (λ e. IsForMade (length x.nodes) e.1) (sym same) (omega (arith, live, as_long))
  comes_made act.BeginDestroy x f other made (index, serial, is, same, none) = subst (λ e. IsForMade (length x.nodes) e.1) (sym same) (doomed_made doing.command x serial (has_at _ index serial is))
  comes_made (act.Visit peer) x f other made (index, serial, is, same) = subst (λ e. IsForMade (length x.nodes) e.1) (sym same) tt
  comes_made action x f other made c = absurd c

  by_comes : (action : Action) (x : PeerPart) → is_stage_event action ≡ false → QueueMade x → QueueMade (happens o memory d doing action x).1
  by_comes action x other made = λ f h.
      for_more (length x.nodes) _ f.1 (nodes_grow o memory d doing action x)
      (elim (queue_comes o d doing f memory action x h) [ inl was ↦ made f was.0 | inr new ↦ comes_made action x f other made new ])

  by_kind : (b : Bool) (action : Action) (x : PeerPart) → is_stage_event action ≡ b → QueueMade x → QueueMade (happens o memory d doing action x).1
  by_kind false action x other made = by_comes action x other made
  by_kind true (act.Stage peer place) x stages made = at_stage _ memory d.me (user_of o d.me) place (node_of_place (begun_of doing.phase).to place).serial (send_of doing.command).payload (begun_of doing.phase).with x refl made
  by_kind true action x stages made = absurd (cc stages)

  pub event_made : (action : Action) (x : PeerPart) → QueueMade x → QueueMade (happens o memory d doing action x).1
  event_made action x made = by_kind (is_stage_event action) action x refl made

-- ---- steps

pub serials_kept : (o : Opening) (s : State) (p : ℕ) (c : Option Command) (t : State) → SerialsMade s → Step o s p c t → SerialsMade t
serials_kept o s p c t made step = record {
  made = λ q y f is has. kept_by_step step QueueMade (λ r x here g h. made.made r x g here h) (event_made o step.local.memory (step_did step).e (step_did step).doing step.action step.peer) q y is f has;
}

pub serials_begin : (o : Opening) → SerialsMade (opening_state o)
serials_begin o = record { made = λ q x f is has. absurd (subst (λ queue. Has queue f) (opening_queue o q x is) has) }
