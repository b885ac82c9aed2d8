use Rattle.std.proofs.Common.{List, length, slice_get, ap, ◌∙◌}
use Rattle.b1_model.specs.declared.commands.Command.{Command}
use Rattle.b1_model.specs.declared.records.Call.{Call}
use Rattle.b1_model.specs.Script.{commands_of}
use Rattle.b1_model.specs.MachineParts.{DriverPart}
use Rattle.b1_run.proofs.Ends.{driver_is, commands_is}
use Rattle.b1_run.proofs.closing.next_of.Goals as goal

pub returns : goal.returns
returns c d is =
    c.get-2.ensures
    ∙ ap (λ (l : List Command). slice_get l (length c.calls.result.now)) (commands_is c.args.lists.now c.args.p c.in_ok-list.list.now c.in_ok-list.ensures)
    ∙ ap (λ (l : List Call). slice_get (commands_of c.args.lists.now c.args.p) (length l)) (c.calls.ensures ∙ ap (λ (e : DriverPart). e.calls) (driver_is c.args.closed.now.drivers c.args.p d is))
