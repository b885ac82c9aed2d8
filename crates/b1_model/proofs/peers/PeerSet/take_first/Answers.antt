use Rattle.std.proofs.Common.{◌≡◌, Some, slice_get, sym, ap, ◌∙◌, arith, drop}
use Rattle.b1_model.specs.declared.limits.TheConstants.{MOST_PEERS}
use Rattle.b1_model.specs.Peers.{peers_below}
use Rattle.b1_model.proofs.PeerLemmas.{first_few, without_bit}
use Rattle.b1_model.proofs.peers.PeerSet.take_first.Goals as goal

pub bounds-self-inside-first : goal.bounds-self-inside-first
bounds-self-inside-first c =
    let few = first_few c.self.inside.words c.in_ok-first.first (c.in_ok-first.ensures ∙ ap (λ l. slice_get l 0) (sym c.self.view_is)) in
    omega (arith, few)

pub bounds-self-inside-first-2 : goal.bounds-self-inside-first-2
bounds-self-inside-first-2 c =
    let few = first_few c.self.inside.words c.in_ok-first.first (c.in_ok-first.ensures ∙ ap (λ l. slice_get l 0) (sym c.self.view_is)) in
    omega (arith, few)

pub returns-clause-few : goal.returns-clause-few
returns-clause-few c = first_few c.self.inside.words c.in_ok-first.first (c.in_ok-first.ensures ∙ ap (λ l. slice_get l 0) (sym c.self.view_is))

pub returns-clause-rest : goal.returns-clause-rest
returns-clause-rest c =
    let first : Some c.in_ok-first.first ≡ slice_get (peers_below MOST_PEERS c.self.inside.words) 0 = c.in_ok-first.ensures ∙ ap (λ l. slice_get l 0) (sym c.self.view_is) in
    without_bit c.self.inside.words c.in_ok-first.first c.self.told (first_few c.self.inside.words c.in_ok-first.first first) first
    ∙ ap (drop 1) c.self.view_is
