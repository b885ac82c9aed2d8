use Rattle.b1_play_commands.proofs.Recorded.{drivers_follow, record_follows, record_ends}
use Rattle.b1_play_commands.proofs.laws.a_play_follows_its_script.Goals as goal

pub returns-clause-drivers : goal.returns-clause-drivers
returns-clause-drivers c = λ o lists turns m count valid sound p d is. drivers_follow o lists turns m count sound p d is

pub returns-clause-recorded : goal.returns-clause-recorded
returns-clause-recorded c = λ o lists turns m count valid sound p. record_follows o lists turns m count sound p

pub returns-clause-finished : goal.returns-clause-finished
returns-clause-finished c = λ o lists turns m count valid sound finished. record_ends o lists turns m count sound finished
