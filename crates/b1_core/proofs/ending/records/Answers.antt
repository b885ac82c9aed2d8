use Rattle.std.proofs.Common.{arith, ◌≡◌, sym, ◌∙◌, List, [], ◌∷◌, ◌++◌, length, map}
use Rattle.std.proofs.lemmas.Bool.{eqb-true}
use Rattle.std.proofs.lemmas.List.{append-nil}
use Rattle.b1_model.specs.declared.records.PeerCalls.{PeerCalls}
use Rattle.b1_model.specs.MachineParts.{PeerPart, DriverPart}
use Rattle.b1_model.specs.MachineStep.{peer_records}
use Rattle.b1_core.proofs.ending.records.Goals as goal

-- where no peer is left, what was written so far is all
none_left : {A B : Type 0} (part : A → PeerPart) (driver : B → DriverPart) (done : List PeerCalls) (xs : List A) (ds : List B) → length xs ≡ 0 → done ++ peer_records (map part xs) (map driver ds) ≡ done
none_left part driver done [] ds none = append-nil done
none_left part driver done (x ∷ xs) ds none = absurd (omega (arith, none))

pub returns : goal.returns
returns g c = sym (none_left (λ x. x.part) (λ d. d.part) c.loop-peers.room.items c.loop-peers.peers.items c.loop-peers.drivers.items (sym c.loop-peers.peers.ok.0 ∙ eqb-true _ _ (sym c.is_empty.ensures ∙ c.loop-peers-test.false))) ∙ c.loop-peers.invariant.rest
