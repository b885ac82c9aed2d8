-- A worked row of receive before send: after a first commit all recipients are synced, so a peer that received nothing gets a later stamp.
use Rattle.std.specs.Prelude.{◌≡◌, refl, ℕ, true, false, List, [], ◌∷◌, Some, Ok, option_map, slice_get}
use Rattle.b1_model.specs.declared.commands.Command.TheVariants as cmd
use Rattle.b1_model.specs.declared.naming.NodeRef.{NodeRef}
use Rattle.b1_model.specs.declared.naming.Opening.{Opening}
use Rattle.b1_model.specs.declared.answers.Receipt.TheVariants as rec
use Rattle.b1_model.specs.declared.events.Outcome.TheVariants as out
use Rattle.b1_model.specs.MachineStep.{Label, opening_state}
use Rattle.b1_model.specs.MachineOrder.{Event, key_taken, StampedCall, stamped_calls, shares_party}
use Rattle.b1_step.proofs.RowWords.{key, limits, spec, wire, send, opening, from, labels}
use Rattle.b1_inv_late.proofs.RowEvents.{Tells, tells, told_of, all_heard}

abbrev start : Opening
start = opening 0 (spec 0 4096 (limits 16 4096 16) ∷ spec 1 4096 (limits 16 4096 16) ∷ spec 2 4096 (limits 16 4096 16) ∷ spec 3 4096 (limits 16 4096 16) ∷ []) (wire 1 0 4 ∷ wire 2 0 4 ∷ wire 2 3 4 ∷ [])

abbrev steps : List Label
steps = labels (
    from 0 (send (2 ∷ 6 ∷ []) [] (97 ∷ [])) 6 ∷
    from 1 cmd.Recv 0 ∷
    from 3 (send (2 ∷ []) [] (99 ∷ [])) 4 ∷
    [])

-- the first node of a peer
abbrev node : ℕ → NodeRef
node p = record { owner = p; serial = 0 }

abbrev told : List Event
told =
    record { driver = 0; at = 0; outcome = out.Begin (Ok (record { to = node 1 ∷ node 2 ∷ []; with = [] })) } ∷
    record { driver = 0; at = 1; outcome = out.Stage (Ok 0) } ∷
    record { driver = 0; at = 2; outcome = out.Stage (Ok 0) } ∷
    record { driver = 0; at = 0; outcome = out.Stamp 2 } ∷
    record { driver = 0; at = 1; outcome = out.Sync } ∷
    record { driver = 0; at = 2; outcome = out.Sync } ∷
    record { driver = 0; at = 1; outcome = out.Commit true } ∷
    record { driver = 1; at = 1; outcome = out.Recv (record { front = Ok (rec.Message (key 2 0 0) 4 0 [] (97 ∷ [])); removed = 0 }) false } ∷
    record { driver = 3; at = 3; outcome = out.Begin (Ok (record { to = node 2 ∷ []; with = [] })) } ∷
    record { driver = 3; at = 2; outcome = out.Stage (Ok 2) } ∷
    record { driver = 3; at = 3; outcome = out.Stamp 4 } ∷
    record { driver = 3; at = 2; outcome = out.Sync } ∷
    record { driver = 3; at = 2; outcome = out.Commit true } ∷ []

computes : told_of (all_heard start (opening_state start) steps) ≡ Some told
computes = refl

-- the steps can be taken, and these are their events
pub leads : Tells start (opening_state start) steps told
leads = tells start steps (opening_state start) told computes

-- the two calls, each with its parties
abbrev received : StampedCall
received = record { began = 0; origin = 0; stamp = 2; parties = 2 ∷ 1 ∷ 0 ∷ [] }

abbrev sent_later : StampedCall
sent_later = record { began = 8; origin = 3; stamp = 4; parties = 2 ∷ 3 ∷ [] }

pub calls : stamped_calls 0 told ≡ received ∷ sent_later ∷ []
calls = refl

-- the receipt is the event before the later one begins, and they share a party
pub taken : option_map (λ e. key_taken e.outcome) (slice_get told 7) ≡ Some (Some (key 2 0 0))
taken = refl

pub common : shares_party received sent_later ≡ true
common = refl
