-- What holds of every reached state: of the opening, and kept by each step.
use Rattle.std.proofs.Common.{◌≡◌, ◌≢◌, ◌⊎◌, refl, sym, inl, inr, subst, ℕ, List, [], ◌∷◌, slice_get, Option, Some}
use Rattle.b1_model.specs.declared.naming.Opening.{Opening}
use Rattle.b1_model.specs.declared.commands.Command.{Command}
use Rattle.b1_model.specs.Opening.{IsOpening}
use Rattle.b1_model.specs.MachineParts.{PeerPart, State}
use Rattle.b1_model.specs.MachineStep.{Step, Label, Leads, Reached, opening_state}
use Rattle.b1_step.specs.Ordered.{Rising, HandlesRise}
use Rattle.b1_step.proofs.Numbers.{opening_numbered, step_numbered}
use Rattle.b1_step.proofs.InOrder.{reached_rise}
use Rattle.b1_step.proofs.Locality.{step_rises}
use Rattle.b1_inv.specs.Sound.{IsSound}
use Rattle.b1_inv_tools.proofs.Leaves.{peer_cases}
use Rattle.b1_inv_sends.proofs.SendsKept.{opening_sends, sends_kept}
use Rattle.b1_inv_sends.proofs.StagesKept.{opening_stages, stages_kept}
use Rattle.b1_inv_sends.proofs.SlotsKept.{opening_slots, slots_kept}
use Rattle.b1_inv_notices.proofs.Begins.{notices_begin, stamps_begin}
use Rattle.b1_inv_notices.proofs.NoticesLaw.{notices_kept}
use Rattle.b1_inv_notices.proofs.StampsLaw.{stamps_kept}
use Rattle.b1_inv_apart.proofs.Kept.{apart_begins, apart_kept}
use Rattle.b1_inv_clocks.proofs.ClocksBegin.{clocks_begin}
use Rattle.b1_inv_clocks.proofs.ClocksLaw.{clocks_kept}
use Rattle.b1_inv_refs.proofs.Flying.{numbers_kept, flights_kept}
use Rattle.b1_inv_refs.proofs.Laying.{numbers_opening, flights_opening, references_opening}
use Rattle.b1_inv_refs.proofs.Referring.{references_kept}
use Rattle.b1_inv_bounds.proofs.Bounded.{bounds_kept}
use Rattle.b1_inv_bounds.proofs.Opened.{bounds_opening}
use Rattle.b1_inv_receipts.proofs.Kept.{receipts_begin, receipts_kept}

module _ {o : Opening} {s : State} {p : ℕ} {command : Option Command} {t : State} (up : HandlesRise s) (step : Step o s p command t) where
  by_peer : (q : ℕ) (y : PeerPart) → ((q ≡ step.at) × (y ≡ step.new_peer)) ⊎ ((q ≢ step.at) × (slice_get s.peers q ≡ Some y)) → Rising y.handles
  by_peer q y (inl here) = subst (λ z. Rising z.handles) (sym here.1) (step_rises step (up step.at step.peer step.is_peer))
  by_peer q y (inr other) = up q y other.1

  handles_rise : HandlesRise t
  handles_rise q y is = by_peer q y (peer_cases step q y is)

pub opening_sound : (o : Opening) → IsOpening o → IsSound o (opening_state o)
opening_sound o valid = record {
  opening = valid;
  numbered = opening_numbered o;
  rising = reached_rise o (opening_state o) (record { steps = []; run = refl });
  sends = opening_sends o;
  stages = opening_stages o;
  slots = opening_slots o;
  stamps = stamps_begin o;
  notices = notices_begin o;
  apart = apart_begins o (notices_begin o);
  numbers = numbers_opening o valid;
  flights = flights_opening o valid;
  references = references_opening o valid;
  bounds = bounds_opening o;
  clocks = clocks_begin o valid;
  receipts = receipts_begin o;
}

pub step_sound : (o : Opening) (s : State) (p : ℕ) (command : Option Command) (t : State) → IsSound o s → Step o s p command t → IsSound o t
step_sound o s p command t sound step = record {
  opening = sound.opening;
  numbered = step_numbered sound.numbered step;
  rising = handles_rise sound.rising step;
  sends = sends_kept sound step;
  stages = stages_kept sound step;
  slots = slots_kept sound step;
  stamps = stamps_kept sound step;
  notices = notices_kept sound step;
  apart = apart_kept sound step (notices_kept sound step);
  numbers = numbers_kept sound step;
  flights = flights_kept sound step;
  references = references_kept sound step;
  bounds = bounds_kept sound step;
  clocks = clocks_kept sound step;
  receipts = receipts_kept sound step;
}

led_sound : (o : Opening) (steps : List Label) (s t : State) → IsSound o s → Leads o s steps t → IsSound o t
led_sound o [] s t sound same = subst (IsSound o) same sound
led_sound o (l ∷ rest) s t sound run = led_sound o rest run.0 t (step_sound o s l.driver l.command run.0 sound run.1) run.2

pub reached_sound : (o : Opening) (s : State) → IsOpening o → Reached o s → IsSound o s
reached_sound o s valid r = led_sound o r.steps (opening_state o) s (opening_sound o valid) r.run
