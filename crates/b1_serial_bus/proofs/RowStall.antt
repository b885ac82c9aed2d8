-- Two peers that wait for nothing stall.
use Rattle.std.specs.Prelude.{refl, List, [], ◌∷◌}
use Rattle.b1_model.specs.declared.commands.Command.{Command}
use Rattle.b1_model.specs.declared.commands.Command.TheVariants as cmd
use Rattle.b1_model.specs.declared.naming.Opening.{Opening}
use Rattle.b1_model.specs.declared.records.Record.{Record}
use Rattle.b1_step.proofs.RowWords.{limits, spec, peer, opening}
use Rattle.b1_serial_bus.specs.Report.{IsSerialStall}

-- two peers
abbrev start : Opening
start =
    opening 0
    (spec 0 4096 (limits 16 4096 16) ∷
    spec 1 4096 (limits 16 4096 16) ∷ [])
    []

-- what each peer does
abbrev commands : List (List Command)
commands =
    (cmd.Await ∷ []) ∷
    (cmd.Await ∷ []) ∷
    []

-- what the bus makes of it
abbrev row : Record
row = record {
  peers =
      peer 0 0 [] ∷
      peer 0 0 [] ∷
      [];
}

-- the script stalls with this record, where these peers wait
pub stalls : IsSerialStall start commands (0 ∷ 1 ∷ []) row
stalls = record { stalled = refl; waiting_is = refl; record_is = refl }
