use Rattle.std.proofs.Common.{◌≡◌, length, replicate, ap, ◌∙◌}
use Rattle.std.proofs.lemmas.List.{length-replicate}
use Rattle.b1_bus.proofs.States.{many_peers, free_board}
use Rattle.b1_bus.proofs.making.open_board.Goals as goal

pub new-requires : goal.new-requires
new-requires c =
    let xs = c.args.peers.items in
    let ds = c.args.drivers.now.items in
    let words : c.as_slice.result.now ≡ replicate (length xs) 0 = c.as_slice.ensures.value ∙ c.in_ok-words.ensures ∙ ap (λ n. replicate n 0) (c.len.ensures ∙ c.args.peers.ok.0) in
    rw (c.of.ensures, c.of-2.ensures, c.of-3.ensures) (free_board c.args.opening.now xs ds c.as_slice.result.now c.requires words)

pub returns-in-Ok-clause-words : goal.returns-in-Ok-clause-words
returns-in-Ok-clause-words c =
    let words = c.as_slice.ensures.value ∙ c.in_ok-words.ensures in
    c.in-Ok.ensures.ok.0 ∙ ap length words ∙ length-replicate c.len.result 0 ∙ c.len.ensures ∙ c.args.peers.ok.0 ∙ many_peers _ _ _ c.requires

pub returns-in-Ok-clause-slots : goal.returns-in-Ok-clause-slots
returns-in-Ok-clause-slots c = c.in-Ok.ensures.ok.1 ∙ many_peers _ _ _ c.requires
