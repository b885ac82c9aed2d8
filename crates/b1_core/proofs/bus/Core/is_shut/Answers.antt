use Rattle.std.proofs.Common.{◌∙◌, sym, ap, length}
use native.Mathlib.Omega.{arith}
use Rattle.b1_core.specs.Turns.{Bus}
use Rattle.b1_core.proofs.Turning.{as_many_drivers}
use Rattle.b1_core.proofs.Buses.{driver_is}
use Rattle.b1_core.proofs.bus.Core.is_shut.Goals as goal

pub index-requires : goal.index-requires
index-requires g c =
    let core = c.self.invariant.core in
    let many = as_many_drivers c.self.inside.opening c.self.inside.peers.items c.self.inside.drivers.items core.opening core.reached core.stocked in
    let same = ap (λ (b : Bus). length b.opening.peers) c.self.view_is in
    omega (arith, many, same, c.requires, c.self.inside.drivers.ok.0)

pub returns : goal.returns
returns g c =
    let core = c.self.invariant.core in
    let many = as_many_drivers c.self.inside.opening c.self.inside.peers.items c.self.inside.drivers.items core.opening core.reached core.stocked in
    let same = ap (λ (b : Bus). length b.opening.peers) c.self.view_is in
    let here = driver_is c.args.self.now c.self.inside.opening c.self.inside.commands c.self.inside.peers.items c.self.inside.drivers.items c.args.p c.index.result.now c.self.view_is (omega (arith, many, same, c.requires)) c.index.ensures in
    c.is_shut.ensures ∙ ap (λ f. f.shut) (sym here)
