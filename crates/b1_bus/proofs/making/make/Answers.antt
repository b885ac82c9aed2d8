use Rattle.std.proofs.Common.{◌≡◌, ◌∙◌}
use Rattle.b1_driver.specs.Parts.{Driver}
use Rattle.b1_bus.proofs.States.{opened, spare_at, if_ok, parts_of, each_own}
use Rattle.b1_bus.proofs.making.make.Goals as goal

pub lay-requires : goal.lay-requires
lay-requires c =
    rw c.in_ok-copy_opening.ensures
    (opened c.args.opening.now c.in_ok-peers.peers.items c.in_ok-drivers.drivers.items c.requires c.in_ok-peers.ensures.parts c.in_ok-drivers.ensures.parts c.in_ok-peers.ensures.users c.in_ok-drivers.ensures.stock)

pub returns-clause-parts : goal.returns-clause-parts
returns-clause-parts c =
    if_ok _ _ c.lay.result (λ made same. parts_of made.1.items c.in_ok-drivers.drivers.items same ∙ c.in_ok-drivers.ensures.parts) c.lay.ensures.drivers

pub returns-clause-spare : goal.returns-clause-spare
returns-clause-spare c =
    if_ok _ _ c.lay.result (λ made same. each_own (λ (d : Driver). d.spare ≡ 0) made.1.items c.in_ok-drivers.drivers.items same
    (spare_at c.args.opening.now c.in_ok-peers.peers.items c.in_ok-drivers.drivers.items c.requires c.in_ok-peers.ensures.parts c.in_ok-drivers.ensures.parts c.in_ok-peers.ensures.users c.in_ok-drivers.ensures.stock)) c.lay.ensures.drivers
