use Rattle.std.proofs.Common.{◌<◌, length, List, ℕ, ap, subst, ◌∙◌}
use Rattle.b1_model.specs.MachineDestroy.{destroy_serials}
use Rattle.b1_peer.specs.Seen.{PeerSeen}
use Rattle.b1_peer.proofs.state.PeerState.begin_destroy.Goals as goal

pub begin-requires-clause-new_keys : goal.begin-requires-clause-new_keys
begin-requires-clause-new_keys g c = λ index below.
    c.requires.new_keys index
    (subst (λ (serials : List ℕ). index < length serials)
    (c.deref.ensures.value ∙ c.doom.ensures.serials ∙ ap (λ (s : PeerSeen). destroy_serials s.part c.args.numbers.now) c.self.view_is)
    below)
