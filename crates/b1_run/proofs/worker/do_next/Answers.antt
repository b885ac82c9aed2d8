use Rattle.std.proofs.Common.{◌≡◌, ℕ, ◌<◌, List, length, get_or, slice_get, Some, refl, sym, ap, ◌∙◌, subst}
use Rattle.std.proofs.lemmas.Option.{slice_get_read}
use Rattle.b1_model.specs.declared.commands.Command.{Command}
use Rattle.b1_model.specs.declared.records.Call.{Call}
use Rattle.b1_model.specs.Script.{resolved}
use Rattle.b1_commands.specs.Done.{HasEnded}
use Rattle.b1_locks.specs.Faces.{DriverFace}
use Rattle.b1_run.specs.Workers.{HasRoom, MayHaveRoom}
use Rattle.b1_run.proofs.Following.{next_follows, room_at, still_at}
use Rattle.b1_run.proofs.worker.do_next.Goals as goal

pub returns-then-ended-clause-at : goal.returns-then-ended-clause-at
returns-then-ended-clause-at g c =
    let commands = c.args.commands.now in
    let p = c.args.worker.now.driver.own.part.me in
    let before = c.make_room.new.driver in
    let after = c.finish_command.new.self in
    let room : HasRoom c.args.worker.now.driver before = subst (λ b. MayHaveRoom c.args.worker.now.driver b before) c.if-not-make_room.false c.make_room.ensures in
    let at = room_at c.args.bus.now commands p c.args.worker.now.driver before c.requires.at room in
    let left : length before.own.part.calls < length commands = subst (λ (d : DriverFace). length d.own.part.calls < length commands) (sym room.same) c.requires.left in
    let same : length c.calls-done.result.now ≡ length before.own.part.calls = ap length c.calls-done.ensures in
    let next : slice_get commands (length before.own.part.calls) ≡ Some c.index-commands-done.result =
    slice_get_read commands (length commands) (length before.own.part.calls) c.index-commands-done.result refl left
    (c.index-commands-done.is ∙ ap (λ (n : ℕ). get_or commands n c.index-commands-done.result) same) in
    let command : c.in-Ok.command ≡ resolved c.index-commands-done.result before.own.part.calls = c.in-Ok.ensures ∙ ap (λ (l : List Call). resolved c.index-commands-done.result l) c.calls.ensures in
    let ended : HasEnded before.own.part (resolved c.index-commands-done.result before.own.part.calls) after.own.part = subst (λ (k : Command). HasEnded before.own.part k after.own.part) command c.finish_command.ensures.ended in
    still_at c.args.bus.now commands p before after at c.finish_command.ensures.member
    (next_follows commands before.own.part after.own.part at.follows c.index-commands-done.result next ended)
