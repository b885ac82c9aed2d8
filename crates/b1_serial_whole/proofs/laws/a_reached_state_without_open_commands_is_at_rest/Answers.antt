use Rattle.b1_serial_whole.proofs.Determined.{rests_by}
use Rattle.b1_serial_whole.proofs.laws.a_reached_state_without_open_commands_is_at_rest.Goals as goal

pub returns : goal.returns
returns c = λ o t bus opens reached idle is_bus boxes. rests_by o t bus opens reached idle is_bus boxes
