-- An open SEND waits at a place until the message there is taken back or committed.
use Rattle.std.proofs.Common.{◌≡◌, refl, sym, ap, ℕ, ◌+◌, ◌≤◌, Bool, true, false, cond, ◌&&◌, max, not, nat_lt, nat_le, List, [], ◌∷◌, ◌++◌, length, Option, Some, None, Ok, Err, Result}
use Rattle.std.proofs.lemmas.Bool.{cond_both, and_parts, and_from, leb-true, le-leb, lt-ltb, eq-eqb}
use native.Mathlib.Omega.{arith}
use Rattle.b1_model.specs.declared.naming.Key.{Key}
use Rattle.b1_model.specs.declared.naming.NodeRef.{NodeRef}
use Rattle.b1_model.specs.declared.naming.Opening.{Opening}
use Rattle.b1_model.specs.declared.answers.Answer.TheVariants as answer
use Rattle.b1_model.specs.declared.answers.Reason.{Reason}
use Rattle.b1_model.specs.declared.answers.Reason.TheVariants as reason
use Rattle.b1_model.specs.declared.answers.Refused.{Refused}
use Rattle.b1_model.specs.declared.commands.Command.{Command}
use Rattle.b1_model.specs.declared.commands.Command.TheVariants as cmd
use Rattle.b1_model.specs.declared.entries.Entry.{Entry}
use Rattle.b1_model.specs.declared.parts.Begun.{Begun}
use Rattle.b1_model.specs.declared.events.Action.{Action}
use Rattle.b1_model.specs.declared.events.Action.TheVariants as act
use Rattle.b1_model.specs.declared.events.Outcome.TheVariants as out
use Rattle.b1_model.specs.declared.events.Phase.{Phase}
use Rattle.b1_model.specs.declared.events.Phase.TheVariants.{Starting, Staging, Unstaging, Attaching, Stamping, Syncing, Committing, Dropping, Reaping}
use Rattle.b1_model.specs.declared.events.Sending.{Sending}
use Rattle.b1_model.specs.declared.events.OwedDrop.{OwedDrop}
use Rattle.b1_model.specs.declared.events.Doing.{Doing}
use Rattle.b1_model.specs.MachineParts.{PeerPart, DriverPart, is_data, is_staged}
use Rattle.b1_model.specs.MachineTables.{is_stage}
use Rattle.b1_model.specs.MachineDriver.{node_of_place, send_of, accepted_from, is_place, all_refused, attaching, all_staged, staging, unstaging, with_slot, syncing, place_done, phase_action, first_action, peer_of, Turn, Goes, Ends, turn}
use Rattle.b1_model.specs.MachineTook.{is_done, turned}
use Rattle.b1_model.specs.MachineEvents.{happens, stage_by, begun_of}
use Rattle.b1_inv.specs.Words.{is_accepted_place, waits_at}
use Rattle.b1_inv_sends.proofs.Places.{accepted_within, accepted_new, accepted_old, next_before, none_left}
use Rattle.b1_inv_tools.proofs.Comes.{leaves}
use Rattle.b1_inv_tools.proofs.Leaves.{turned_goes}

-- a command goes on with the same nodes, and waits at a place
abbrev pub WaitsOn : Begun → ℕ → Turn → Type 0
WaitsOn begun index (Goes phase) = (waits_at phase index ≡ true) × (begun_of phase ≡ begun)
WaitsOn begun index (Ends got) = ⊥

-- the place at which an event ends the waiting
abbrev pub stops : Action → Option ℕ
stops (act.Unstage peer place) = Some place
stops (act.Commit peer place stamp) = Some place
stops action = None

-- ---- each turn

attaching_waits : (sending : Sending) (place handle index : ℕ) → is_accepted_place sending.places index ≡ true → WaitsOn sending.begun index (Goes (attaching sending place handle))
attaching_waits sending place handle index is =
    cond_both (nat_lt handle (length sending.begun.with)) (Attaching sending place handle) _ (λ phase. WaitsOn sending.begun index (Goes phase))
    (λ e. (is, refl))
    (λ e. cond_both (nat_lt 0 (length sending.begun.with) && is_place (accepted_from (place + 1) sending.places) sending.places) (Attaching sending (accepted_from (place + 1) sending.places) 0) (Stamping sending) (λ phase. WaitsOn sending.begun index (Goes phase))
    (λ b. (is, refl)) (λ b. (is, refl)))

staging_waits : (begun : Begun) (places : List (Option Reason)) (collected index : ℕ) → is_accepted_place places index ≡ true → WaitsOn begun index (staging begun places collected)
staging_waits begun places collected index is =
    cond_both (nat_lt (length places) (length begun.to)) (Goes (Staging begun places collected)) _ (WaitsOn begun index)
    (λ e. (is, refl))
    (λ e. cond_both (is_place (accepted_from 0 places) places) (Goes (attaching (all_staged begun places collected) (accepted_from 0 places) 0)) (Ends (all_refused places)) (WaitsOn begun index)
    (λ b. attaching_waits (all_staged begun places collected) (accepted_from 0 places) 0 index is)
    (λ b. none_left 0 places b index is (omega arith)))

unstaging_waits : (begun : Begun) (places : List (Option Reason)) (refused : Refused) (from index : ℕ) → is_accepted_place places index ≡ true → from ≤ index → WaitsOn begun index (unstaging begun places refused (accepted_from from places))
unstaging_waits begun places refused from index is behind =
    cond_both (is_place (accepted_from from places) places) (Goes (Unstaging begun places refused (accepted_from from places))) (Ends (answer.Refused refused)) (WaitsOn begun index)
    (λ b. (and_from (nat_le (accepted_from from places) index) (is_accepted_place places index) (le-leb (accepted_from from places) index (next_before from places index is behind)) is, refl))
    (λ b. none_left from places b index is behind)

pub placed_waits : (command : Command) (begun : Begun) (places : List (Option Reason)) (collected : ℕ) (got : Result ℕ Reason) (index : ℕ) → is_accepted_place places index ≡ true → WaitsOn begun index (place_done command begun places collected got)
placed_waits command begun places collected (Ok clock) index is = staging_waits begun (places ++ None ∷ []) (max collected clock) index (accepted_old places None index is)
placed_waits command begun places collected (Err r) index is =
    cond_both (send_of command).go_on (staging begun (places ++ Some r ∷ []) collected) _ (WaitsOn begun index)
    (λ e. staging_waits begun (places ++ Some r ∷ []) collected index (accepted_old places (Some r) index is))
    (λ e. unstaging_waits begun (places ++ Some r ∷ []) (record { reason = r; place = Some (length places) }) 0 index (accepted_old places (Some r) index is) (omega arith))

-- a place where a message was staged waits
pub new_waits : (me : ℕ) (command : Command) (begun : Begun) (places : List (Option Reason)) (collected clock : ℕ) → WaitsOn begun (length places) (turn me command (Staging begun places collected) (out.Stage (Ok clock)))
new_waits me command begun places collected clock = staging_waits begun (places ++ None ∷ []) (max collected clock) (length places) (accepted_new places)

stage_waits : (r : Option Reason) (memory : Bool) (origin user place serial : ℕ) (payload : List ℕ) (nodes : List NodeRef) (x : PeerPart) (me : ℕ) (command : Command) (begun : Begun) (places : List (Option Reason)) (collected index : ℕ)
    → is_accepted_place places index ≡ true → WaitsOn begun index (turn me command (Staging begun places collected) (stage_by r memory origin user place serial payload nodes x).0)
stage_waits (Some r) memory origin user place serial payload nodes x me command begun places collected index is = placed_waits command begun places collected (Err r) index is
stage_waits None true origin user place serial payload nodes x me command begun places collected index is = placed_waits command begun places collected (Err reason.Memory) index is
stage_waits None false origin user place serial payload nodes x me command begun places collected index is = placed_waits command begun places collected (Ok x.clock) index is

committing_waits : (sending : Sending) (stamp from index : ℕ) → is_accepted_place sending.places index ≡ true → from ≤ index → WaitsOn sending.begun index (Goes (Committing sending stamp (accepted_from from sending.places)))
committing_waits sending stamp from index is behind = (and_from (nat_le (accepted_from from sending.places) index) (is_accepted_place sending.places index) (le-leb (accepted_from from sending.places) index (next_before from sending.places index is behind)) is, refl)

syncing_waits : (sending : Sending) (stamp from index : ℕ) → is_accepted_place sending.places index ≡ true → WaitsOn sending.begun index (Goes (syncing sending stamp (accepted_from from sending.places)))
syncing_waits sending stamp from index is =
    cond_both (is_place (accepted_from from sending.places) sending.places) (Syncing sending stamp (accepted_from from sending.places)) (Committing sending stamp (accepted_from 0 sending.places)) (λ phase. WaitsOn sending.begun index (Goes phase))
    (λ e. (is, refl))
    (λ e. committing_waits sending stamp 0 index is (omega arith))

further : (place index : ℕ) → nat_le place index ≡ true → (Some place ≡ Some index → ⊥) → place + 1 ≤ index
further place index is apart = let most = leb-true place index is in let other = λ (e : place ≡ index). apart (ap Some e) in omega (arith, most, other)

-- ---- by the event that is next

pub event_waits : (o : Opening) (memory : Bool) (e : DriverPart) (doing : Doing) (x : PeerPart) (me : ℕ) (shut : Bool) (command : Command) (phase : Phase) (index : ℕ) → waits_at phase index ≡ true → (stops (phase_action me shut command phase) ≡ Some index → ⊥)
    → WaitsOn (begun_of phase) index (turn me command phase (happens o memory e doing (phase_action me shut command phase) x).0)
event_waits o memory e doing x me shut command (Staging begun places collected) index is apart = stage_waits _ memory _ _ _ _ _ _ x me command begun places collected index is
event_waits o memory e doing x me shut command (Unstaging begun places refused place) index is apart =
    let both = and_parts (nat_le place index) (is_accepted_place places index) is in
    unstaging_waits begun places refused (place + 1) index both.1 (further place index both.0 apart)
event_waits o memory e doing x me shut command (Attaching sending place handle) index is apart = attaching_waits (with_slot sending place handle _) place (handle + 1) index is
event_waits o memory e doing x me shut command (Stamping sending) index is apart = syncing_waits sending _ 0 index is
event_waits o memory e doing x me shut command (Syncing sending stamp place) index is apart = syncing_waits sending stamp (place + 1) index is
event_waits o memory e doing x me shut command (Committing sending stamp place) index is apart =
    let both = and_parts (nat_le place index) (is_accepted_place sending.places index) is in
    committing_waits sending stamp (place + 1) index both.1 (further place index both.0 apart)
event_waits o memory e doing x me shut command phase index is apart = absurd (cc is)

pub drop_waits : (me : ℕ) (command : Command) (phase : Phase) (index : ℕ) → waits_at phase index ≡ true → WaitsOn (begun_of phase) index (turn me command phase out.DropRefs)
drop_waits me command (Staging begun places collected) index is = (is, refl)
drop_waits me command (Unstaging begun places refused place) index is = (is, refl)
drop_waits me command (Attaching sending place handle) index is = (is, refl)
drop_waits me command (Stamping sending) index is = (is, refl)
drop_waits me command (Syncing sending stamp place) index is = (is, refl)
drop_waits me command (Committing sending stamp place) index is = (is, refl)
drop_waits me command phase index is = absurd (cc is)

-- ---- a command that waits stays open

left_over : (owed : List OwedDrop) (told : Bool) (phase : Phase) (index : ℕ) → waits_at phase index ≡ true → is_done owed told phase ≡ false
left_over (one ∷ rest) told phase index is = refl
left_over [] told (Committing sending stamp place) index is =
    let both = and_parts (nat_le place index) (is_accepted_place sending.places index) is in
    let most = leb-true place index both.0 in
    let within = accepted_within sending.places index both.1 in
    ap not (lt-ltb place (length sending.places) (omega (arith, most, within)))
left_over [] told Dropping index is = absurd (cc is)
left_over [] told (Reaping got) index is = absurd (cc is)
left_over [] told phase index is = refl

-- what is open of a driver's part after a turn that waits
pub record Waiting (d : DriverPart) (command : Command) (begun : Begun) (index : ℕ) : Type 0 where
  pub phase : Phase
  pub is_open : d.doing ≡ Some (record { command = command; phase = phase })
  pub waits : waits_at phase index ≡ true
  pub nodes : begun_of phase ≡ begun

pub turn_waits : (d : DriverPart) (command : Command) (begun : Begun) (index : ℕ) (to : Turn) → WaitsOn begun index to → Waiting (turned d command to) command begun index
turn_waits d command begun index (Goes phase) k = record { phase = phase; is_open = turned_goes d command phase (left_over d.owed d.told phase index k.0); waits = k.0; nodes = k.1 }
turn_waits d command begun index (Ends got) k = absurd k

-- ---- where and how the waiting ends

first_stops : (command : Command) (index : ℕ) → stops (first_action command) ≡ Some index → ⊥
first_stops cmd.Disconnect index is = cc is
first_stops cmd.Query index is = cc is
first_stops (cmd.Limit limits) index is = cc is
first_stops (cmd.Reset limits) index is = cc is
first_stops (cmd.Release number) index is = cc is
first_stops (cmd.Destroy numbers) index is = cc is
first_stops (cmd.SliceRelease offset) index is = cc is
first_stops (cmd.Send c) index is = cc is
first_stops cmd.Recv index is = cc is
first_stops cmd.Await index is = cc is

start_stops : (shut : Bool) (command : Command) (index : ℕ) → stops (cond shut act.Local (first_action command)) ≡ Some index → ⊥
start_stops true command index is = cc is
start_stops false command index is = first_stops command index is

owner_at : (nodes : List NodeRef) (place index : ℕ) → Some place ≡ Some index → (node_of_place nodes place).owner ≡ (node_of_place nodes index).owner
owner_at nodes place index is = let same : place ≡ index = cc is in ap (λ n. (node_of_place nodes n).owner) same

-- the waiting at a place ends at the owner of the place's node
pub stops_at : (me : ℕ) (shut : Bool) (command : Command) (phase : Phase) (index : ℕ) → stops (phase_action me shut command phase) ≡ Some index → peer_of me (phase_action me shut command phase) ≡ (node_of_place (begun_of phase).to index).owner
stops_at me shut command Starting index is = absurd (start_stops shut command index is)
stops_at me shut command (Unstaging begun places refused place) index is = owner_at begun.to place index is
stops_at me shut command (Committing sending stamp place) index is = owner_at sending.begun.to place index is
stops_at me shut command phase index is = absurd (cc is)

-- the staged message there leaves
stage_is : (origin index : ℕ) (f : Key × Entry) → is_data f.1 ≡ true → is_staged f ≡ true → f.0.origin ≡ origin → f.0.index ≡ index → is_stage origin index f ≡ true
stage_is origin index f message staged from at = rw (message, staged, eq-eqb f.0.origin origin from, eq-eqb f.0.index index at) refl

pub stopped_leaves : (d : DriverPart) (action : Action) (f : Key × Entry) → is_data f.1 ≡ true → is_staged f ≡ true → f.0.origin ≡ d.me → stops action ≡ Some f.0.index → leaves d action f ≡ true
stopped_leaves d (act.Unstage peer place) f message staged from is = let same : place ≡ f.0.index = cc is in stage_is d.me place f message staged from (sym same)
stopped_leaves d (act.Commit peer place stamp) f message staged from is = let same : place ≡ f.0.index = cc is in stage_is d.me place f message staged from (sym same)
stopped_leaves d action f message staged from is = absurd (cc is)
