use Rattle.std.proofs.Common.{◌≡◌, ◌≤◌, false, length, sym, subst}
use Rattle.std.proofs.lemmas.Option.{slice_get_past}
use Rattle.b1_model.specs.Script.{commands_of}
use Rattle.b1_locks.specs.Faces.{DriverFace}
use Rattle.b1_run.specs.Workers.{HasRoom, MayHaveRoom}
use Rattle.b1_run.proofs.Following.{drain_follows, room_at, still_at}
use Rattle.b1_run.proofs.draining.attempt_one.Goals as goal

pub returns-then-took-clause-at : goal.returns-then-took-clause-at
returns-then-took-clause-at g c =
    let commands = commands_of c.args._lists.now c.args._p in
    let before = c.make_room.new.driver in
    let after = c.finish_command.new.self in
    let room : HasRoom c.args.worker.now.driver before = subst (λ b. MayHaveRoom c.args.worker.now.driver b before) c.if-not-make_room.false c.make_room.ensures in
    let at = room_at c.args.bus.now commands c.args._p c.args.worker.now.driver before c.requires.at room in
    let ended : length commands ≤ length before.own.part.calls = subst (λ (d : DriverFace). length commands ≤ length d.own.part.calls) (sym room.same) c.requires.ended in
    let there : before.own.part.shut ≡ false = subst (λ (d : DriverFace). d.own.part.shut ≡ false) (sym room.same) c.requires.there in
    still_at c.args.bus.now commands c.args._p before after at c.finish_command.ensures.member
    (drain_follows commands before.own.part after.own.part at.follows (slice_get_past commands (length before.own.part.calls) ended) there c.finish_command.ensures.ended)
