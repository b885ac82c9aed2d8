use Rattle.std.proofs.Common.{sym, ap, ◌∙◌, subst, length, Some}
use native.Mathlib.Omega.{arith}
use Rattle.b1_driver.specs.Parts.{send_in, HasRoom}
use Rattle.b1_event.proofs.Does.{sent_command, room_for, no_room_for, begins_few}
use Rattle.b1_event.proofs.sends.begin_send.Goals as goal

pub returns-in-Ok-clause-room : goal.returns-in-Ok-clause-room
returns-in-Ok-clause-room g c =
    let same = ap (λ d. send_in d.doing) (sym c.in-Ok.ensures.part) ∙ sent_command c.room-room.new.self.part.doing c.in-Some-Send.send (ap (λ z. Some z) (sym c.in-Some-Send.field-0-is) ∙ c.in-Some-Send.ensures) in
    room_for c.room-room.new.self.room _ _ _ _ c.begin_send.ensures.begins (subst (λ s. HasRoom c.room-room.new.self.room (length s.to) (length s.with)) same c.in-Ok.ensures.room)

pub returns-in-Ok-clause-nodes : goal.returns-in-Ok-clause-nodes
returns-in-Ok-clause-nodes g c =
    let same = ap (λ d. send_in d.doing) (sym c.in-Ok.ensures.part) ∙ sent_command c.room-room.new.self.part.doing c.in-Some-Send.send (ap (λ z. Some z) (sym c.in-Some-Send.field-0-is) ∙ c.in-Some-Send.ensures) in
    let few = begins_few _ _ _ _ c.begin_send.ensures.begins in
    omega (arith, few, ap (λ s. length s.with) same, c.in-Ok.ensures.doomed)

pub returns-in-Err-clause-room : goal.returns-in-Err-clause-room
returns-in-Err-clause-room g c = no_room_for c.room-room.new.self.room c.refuse.result c.refuse.ensures.refused
