use Rattle.std.proofs.Common.{◌≡◌, ◌∙◌, ap, sym, refl, Some}
use Rattle.std.specs.Prelude.{option_map}
use Rattle.b1_model.specs.declared.naming.Key.{Key}
use Rattle.b1_queue.specs.Queue.{key_of}
use Rattle.b1_peer_queue.proofs.NameLemmas.{found_wanted, none_wanted}
use Rattle.b1_peer_queue.proofs.rows.named_at.Goals as goal

pub returns-in_err-place : goal.returns-in_err-place
returns-in_err-place g c =
    c.from_residual.ensures
    ∙ sym (none_wanted c.requires.tied.naming (g.met.Q.QueueKind.in_order c.args.rows.now.queue).distinct c.args.wanted c.args.name c.requires.name c.in_err-place.ensures.none _ refl)

pub returns : goal.returns
returns g c =
    let listed = g.Q.QueueKind.listed c.args.rows.now.queue in
    let key : key_of c.in_ok-place.place listed ≡ Some c.in_ok-key.key = sym c.in_ok-key.ensures in
    sym (found_wanted c.requires.tied.naming (g.met.Q.QueueKind.in_order c.args.rows.now.queue).distinct c.args.wanted c.args.name c.requires.name c.in_ok-place.place c.in_ok-place.ensures.some _ refl _ refl
    ∙ ap (option_map (λ (k : Key). (k, c.in_ok-place.place))) key)
