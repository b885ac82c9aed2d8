-- Which event is next, and what a stage answers whose message comes into the queue.
use Rattle.std.proofs.Common.{◌≡◌, ◌⊎◌, refl, inl, inr, ℕ, Bool, true, false, List, Option, Some, None, Ok}
use Rattle.std.specs.Prelude.{⊤}
use Rattle.b1_model.specs.declared.naming.Key.{Key}
use Rattle.b1_model.specs.declared.naming.NodeRef.{NodeRef}
use Rattle.b1_model.specs.declared.naming.Opening.{Opening}
use Rattle.b1_model.specs.declared.answers.Reason.{Reason}
use Rattle.b1_model.specs.declared.entries.Entry.{Entry}
use Rattle.b1_model.specs.declared.events.Action.{Action}
use Rattle.b1_model.specs.declared.events.Action.TheVariants as act
use Rattle.b1_model.specs.declared.events.Outcome.TheVariants as out
use Rattle.b1_model.specs.declared.events.Doing.{Doing}
use Rattle.b1_model.specs.MachineParts.{PeerPart, DriverPart}
use Rattle.b1_model.specs.MachineEvents.{happens, stage_by}
use Rattle.b1_step.specs.Rights.{Has}
use Rattle.b1_step.proofs.Queues.{put_has}
use Rattle.b1_inv_tools.proofs.Comes.{staged_message, Comes, leaves, queue_comes}

-- a stage answers its clock
abbrev pub Answers : Opening → Bool → DriverPart → Doing → PeerPart → Action → Type 0
Answers o memory d doing x (act.Stage peer place) = (happens o memory d doing (act.Stage peer place) x).0 ≡ out.Stage (Ok x.clock)
Answers o memory d doing x action = ⊤

-- an entry of the queue after an event was there before and doesn't leave, or it comes, and a stage answers then
abbrev pub WasOrComes : Opening → Bool → DriverPart → Doing → PeerPart → Action → Key × Entry → Type 0
WasOrComes o memory d doing x action f = (Has x.queue f × (leaves d action f ≡ false)) ⊎ (Comes o d doing x action f × Answers o memory d doing x action)

module _ (o : Opening) (d : DriverPart) (doing : Doing) (f : Key × Entry) where
  at_stage : (r : Option Reason) (memory : Bool) (user place serial : ℕ) (payload : List ℕ) (nodes : List NodeRef) (x : PeerPart) → Has (stage_by r memory d.me user place serial payload nodes x).1.queue f
      → (Has x.queue f × (false ≡ false)) ⊎ ((f ≡ staged_message d.me user place serial payload nodes x) × ((stage_by r memory d.me user place serial payload nodes x).0 ≡ out.Stage (Ok x.clock)))
  at_stage (Some r) memory user place serial payload nodes x h = inl (h, refl)
  at_stage None true user place serial payload nodes x h = inl (h, refl)
  at_stage None false user place serial payload nodes x h = elim (put_has _ _ x.queue f h) [ inl new ↦ inr (new, refl) | inr old ↦ inl (old, refl) ]

  pub was_or_comes : (memory : Bool) (action : Action) (x : PeerPart) → Has (happens o memory d doing action x).1.queue f → WasOrComes o memory d doing x action f
  was_or_comes memory (act.Stage peer place) x h = at_stage _ memory _ place _ _ _ x h
  was_or_comes memory action x h = elim (queue_comes o d doing f memory action x h) [ inl was ↦ inl was | inr comes ↦ inr (comes, tt) ]
