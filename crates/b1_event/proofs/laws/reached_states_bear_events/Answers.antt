use Rattle.b1_event.proofs.Borne.{borne}
use Rattle.b1_event.proofs.laws.reached_states_bear_events.Goals as goal

pub returns : goal.returns
returns c = λ o s opening reached short p d e command is_driver is_begun.
    borne o s (c.every_reached_state_is_sound.ensures.reached o s opening reached) reached short p d e command is_driver is_begun
