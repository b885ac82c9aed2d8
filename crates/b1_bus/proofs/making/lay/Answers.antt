use Rattle.std.proofs.Common.{◌≡◌, map, sym, ap, ◌∙◌, subst}
use Rattle.std.specs.List.{AllByRecursion}
use Rattle.atomic_table.specs.Seated.{TableId}
use Rattle.b1_model.specs.declared.naming.Opening.{Opening}
use Rattle.b1_locks.specs.Faces.{BusFace, members}
use Rattle.b1_bus.specs.Seated.{seated, IsSeated}
use Rattle.b1_bus.proofs.Crews.{own_of}
use Rattle.b1_bus.proofs.States.{all_seated, crew_of}
use Rattle.b1_bus.proofs.making.lay.Goals as goal

pub seat_all-drivers-requires-clause-seated : goal.seat_all-drivers-requires-clause-seated
seat_all-drivers-requires-clause-seated c =
    let o_is = ap (λ m. m.0.opening) c.in_ok-table.ensures.seat in
    subst (λ (o : Opening). AllByRecursion (IsSeated o) c.args.drivers.items) (sym o_is) (all_seated _ _ _ c.requires)

pub returns-clause-members : goal.returns-clause-members
returns-clause-members c =
    let b = c.new.result in
    let ds = c.args.drivers.items in
    let table_is : c.in_ok-table.seat.table_id ≡ b.table = c.in_ok-table.ensures.table ∙ sym (ap (λ (f : BusFace). f.table) c.new.ensures) in
    let opening_is : b.opening ≡ c.args.opening = ap (λ (f : BusFace). f.opening) c.new.ensures in
    let here : c.in_ok-table.seat.me.0.opening ≡ b.opening = ap (λ m. m.0.opening) c.in_ok-table.ensures.seat ∙ sym opening_is in
    ap members c.seat_all-drivers.ensures
    ∙ ap (λ (t : TableId). members (map (seated t c.in_ok-table.seat.me.0.opening) ds)) table_is
    ∙ ap (λ (o : Opening). members (map (seated b.table o) ds)) here
    ∙ crew_of c.args.opening c.args.peers.items ds c.requires b opening_is

pub returns-clause-drivers : goal.returns-clause-drivers
returns-clause-drivers c = ap (map (λ d. d.own)) c.seat_all-drivers.ensures ∙ own_of _ _ _
