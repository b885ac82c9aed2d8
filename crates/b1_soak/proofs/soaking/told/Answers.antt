use Rattle.std.proofs.Common.{◌≡◌, ℕ, ◌≤◌, length, ap, ◌∙◌, arith}
use Rattle.std.proofs.lemmas.List.FromFn.{length-map-range_with_len}
use Rattle.b1_gen.specs.Counted.{summary_line}
use Rattle.b1_gen.specs.Generated.{generated, peer_count, peer_spec}
use Rattle.b1_script.specs.declared.script.Script.{Script}
use Rattle.b1_soak.specs.Soaks.{IsSoak}
use Rattle.b1_soak.proofs.Soaks.{few_peers, fits, if_ok, is_soak}
use Rattle.b1_soak.proofs.soaking.told.Goals as goal

module _ (number : ℕ) (script : Script) (len : ℕ) (length_is : len ≡ length script.opening.peers) (script_is : script ≡ generated number) where
  peers_are : len ≡ peer_count number
  peers_are = length_is ∙ ap (λ (s : Script). length s.opening.peers) script_is ∙ length-map-range_with_len peer_spec 0 (peer_count number)

pub overflow_cast-len : goal.overflow_cast-len
overflow_cast-len c =
    let peers : c.len.result ≡ peer_count c.args.number = peers_are c.args.number c.args.script.now c.len.result c.len.ensures c.requires.script in
    let few : peer_count c.args.number ≤ 8 = few_peers c.args.number in
    omega (arith, peers, few)

pub unreachable-requires : goal.unreachable-requires
unreachable-requires c =
    fits c.args.number c.args.run.now c.requires.done (λ p k place. c.has_shortage.ensures.nowhere c.if-has_shortage.false p k place) c.in-None.ensures

pub returns : goal.returns
returns c =
    let peers : c.len.result ≡ peer_count c.args.number = peers_are c.args.number c.args.script.now c.len.result c.len.ensures c.requires.script in
    if_ok (λ line. line.items ≡ summary_line c.args.number c.len.result c.in-Some.counts) (λ line. IsSoak c.args.number line.items) c.summary.result
    (λ line is. is_soak c.args.number c.args.run.now c.requires.done (λ p k place. c.has_shortage.ensures.nowhere c.if-has_shortage.false p k place)
    c.in-Some.counts line.items c.in-Some.ensures (is ∙ ap (λ n. summary_line c.args.number n c.in-Some.counts) peers))
    c.summary.ensures
