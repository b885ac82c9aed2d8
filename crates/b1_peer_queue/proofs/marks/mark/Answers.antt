use Rattle.std.proofs.Common.{◌∙◌}
use Rattle.b1_queue.proofs.Entries.{placed}
use Rattle.b1_peer_queue.proofs.marks.mark.Goals as goal

pub returns-clause-marks : goal.returns-clause-marks
returns-clause-marks c =
    c.in-Ok.ensures.items
    ∙ placed c.args.key c.args.place c.args.marks.now.items c.place_of-at.result c.requires.new_key c.place_of-at.ensures.within c.place_of-at.ensures.before c.place_of-at.ensures.after
