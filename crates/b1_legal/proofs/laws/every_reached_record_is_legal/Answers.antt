use Rattle.b1_law.proofs.Reached.{reached_sound}
use Rattle.b1_inv_next.proofs.Shown.{drained_is_whole}
use Rattle.b1_legal.proofs.Reached.{reached_right}
use Rattle.b1_legal.proofs.laws.every_reached_record_is_legal.Goals as goal

pub returns-clause-legal : goal.returns-clause-legal
returns-clause-legal x = λ o s valid r. (reached_right o s valid r).legal

pub returns-clause-whole : goal.returns-clause-whole
returns-clause-whole x = λ o s valid r drained. drained_is_whole (reached_sound o s valid r) (reached_right o s valid r) drained
