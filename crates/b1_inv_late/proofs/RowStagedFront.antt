-- A worked row of the right front: a staged front blocks a committed entry behind it, and RECV names the stamp and the origin that it waits for.
use Rattle.std.specs.Prelude.{◌≡◌, refl, ℕ, Bool, true, false, not, List, [], ◌∷◌, Option, None, Some, Err, option_map, slice_get, is_none}
use Rattle.std.specs.List.{list_any, list_all}
use Rattle.b1_model.specs.declared.commands.Command.TheVariants as cmd
use Rattle.b1_model.specs.declared.naming.Opening.{Opening}
use Rattle.b1_model.specs.declared.answers.Front.TheVariants.{Staged}
use Rattle.b1_model.specs.declared.events.Outcome.TheVariants as out
use Rattle.b1_model.specs.MachineParts.{DriverPart, PeerPart}
use Rattle.b1_model.specs.MachineStep.{Label, opening_state}
use Rattle.b1_model.specs.MachineOrder.{Event, is_staged_by}
use Rattle.b1_model.specs.Ledger.{is_before}
use Rattle.b1_step.proofs.RowWords.{limits, spec, wire, send, opening, from, labels, played}
use Rattle.b1_inv_late.proofs.RowEvents.{told_of, all_heard}

abbrev start : Opening
start = opening 0 (spec 0 4096 (limits 16 4096 16) ∷ spec 1 4096 (limits 16 4096 16) ∷ spec 2 4096 (limits 16 4096 16) ∷ spec 3 4096 (limits 16 4096 16) ∷ []) (wire 2 0 4 ∷ wire 3 0 4 ∷ wire 2 1 4 ∷ wire 3 1 4 ∷ [])

-- one SEND has staged its entries, another one is committed at both peers
abbrev steps : List Label
steps = labels (
    from 0 (send (2 ∷ 6 ∷ []) [] (97 ∷ [])) 2 ∷
    from 1 (send (6 ∷ 2 ∷ []) [] (98 ∷ [])) 7 ∷
    from 2 cmd.Recv 0 ∷
    [])

abbrev last_of : Option (List Event) → Option Event
last_of None = None
last_of (Some events) = slice_get events 11

-- the last step is the RECV, which takes nothing and shows what is staged
pub shown : option_map (λ e. e.outcome) (last_of (told_of (all_heard start (opening_state start) steps))) ≡ Some (out.Recv (record { front = Err (Staged 0 1); removed = 0 }) false)
shown = refl

-- what a driver and a peer show after these steps
abbrev driver_after : (DriverPart → Bool) → ℕ → Option (Option Bool)
driver_after look number = option_map (λ s. option_map look (slice_get s.drivers number)) (played start steps)

abbrev peer_after : (PeerPart → Bool) → ℕ → Option (Option Bool)
peer_after look number = option_map (λ s. option_map look (slice_get s.peers number)) (played start steps)

-- the command that staged it is open
pub still_open : driver_after (λ d. is_none d.doing) 0 ≡ Some (Some false)
still_open = refl

-- what the RECV named is staged in the queue, and nothing there comes before it
pub staged : peer_after (λ x. list_any (is_staged_by 0 1) x.queue) 2 ≡ Some (Some true)
staged = refl

pub least : peer_after (λ x. list_all (λ f. not (is_before f.0.stamp f.0.origin 1 0)) x.queue) 2 ≡ Some (Some true)
least = refl

-- the other command's stamp would not have been right: its entry is committed
pub committed : peer_after (λ x. list_any (is_staged_by 1 2) x.queue) 2 ≡ Some (Some false)
committed = refl
