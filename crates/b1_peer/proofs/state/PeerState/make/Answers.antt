use Rattle.std.proofs.Common.{◌==◌, ℕ, List, ap, ◌∙◌}
use Rattle.std.specs.List.{list_any}
use Rattle.b1_peer.proofs.KeptMake.{any_user}
use Rattle.b1_peer.proofs.state.PeerState.make.Goals as goal

pub returns-clause-users : goal.returns-clause-users
returns-clause-users g c = λ user.
    c.in_ok-make.ensures.users user
    ∙ ap (λ (users : List ℕ). list_any (λ u. u == user) users) (c.deref.ensures.value ∙ c.in_ok-users.ensures)
    ∙ any_user user c.args.opening.now.peers
