use Rattle.std.proofs.Common.{◌≡◌, ◌++◌, ◌∷◌, ◌-◌, List, ℕ, get_or, take, drop, length, map, sym, ◌∙◌, ap}
use Rattle.b1_model.specs.declared.naming.PeerSpec.{PeerSpec}
use Rattle.b1_peer_carried.proofs.Left.{peeled}
use Rattle.b1_peer.proofs.KeptMake.{no_spec, pushed}
use Rattle.b1_peer.proofs.make.users_of.Goals as goal

pub loop-left-preserved : goal.loop-left-preserved
loop-left-preserved c =
    let left = c.loop-left.left.now in
    let spec : PeerSpec = get_or left 0 no_spec in
    let rest : List PeerSpec = take (length left - 1) (drop 1 left) in
    let is : left ≡ spec ∷ rest = peeled left no_spec c.in-len1-up.len_at_least in
    ap (λ (us : List ℕ). us ++ map (λ (s : PeerSpec). s.user) rest) c.in_ok-push.ensures.items
    ∙ pushed c.loop-left.users.items spec.user (map (λ (s : PeerSpec). s.user) rest)
    ∙ ap (λ (ss : List PeerSpec). c.loop-left.users.items ++ map (λ (s : PeerSpec). s.user) ss) (sym is)
    ∙ c.loop-left.invariant
