use Rattle.std.proofs.Common.{◌∙◌, subst, length}
use Rattle.b1_inv_peer.specs.Needs.{StagesAnew}
use Rattle.b1_event.specs.Events.{open_in}
use Rattle.b1_event.proofs.Does.{some_numbers, no_numbers, some_event, no_event}
use Rattle.b1_event.proofs.destroys.doom.Goals as goal

pub begin_destroy-requires-clause-new_keys : goal.begin_destroy-requires-clause-new_keys
begin_destroy-requires-clause-new_keys g c =
    let x = c.args.peer.now.part in
    subst (λ l. StagesAnew x x.me (length l)) (some_numbers x (open_in c.args.driver.now.part).command _ c.in-Some.ensures).0 c.requires.new_keys

pub begin_reset-requires-clause-new_keys : goal.begin_reset-requires-clause-new_keys
begin_reset-requires-clause-new_keys g c =
    let x = c.args.peer.now.part in
    subst (λ l. StagesAnew x x.me (length l)) (no_numbers x (open_in c.args.driver.now.part).command c.in-None.ensures).0 c.requires.new_keys

pub returns-in-Some-clause-event : goal.returns-in-Some-clause-event
returns-in-Some-clause-event g c = some_event c.args.peer.now.part (open_in c.args.driver.now.part).command _ c.in-Some.ensures ∙ c.begin_destroy.ensures.event

pub returns-in-None-clause-event : goal.returns-in-None-clause-event
returns-in-None-clause-event g c = no_event c.args.peer.now.part (open_in c.args.driver.now.part).command c.in-None.ensures ∙ c.begin_reset.ensures.event
