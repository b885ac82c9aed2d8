-- What each event of a generated script moves.
use Rattle.std.proofs.Common.{◌≡◌, inl, inr, refl, sym, ap, ◌∙◌, subst, ℕ, zero, suc, ◌+◌, ◌*◌, ◌<◌, ◌≤◌, ◌==◌, max, Bool, true, false, cond, ◌&&◌, not, nat_lt, List, [], ◌∷◌, ◌++◌, take, get_or, length, Option, Some, None, Ok, Err, Result}
use Rattle.std.specs.Prelude.{is_none}
use Rattle.std.specs.List.{list_all}
use Rattle.std.proofs.Math.Nat.{max-le}
use Rattle.std.proofs.lemmas.Bool.{lt-ltb, ltb-false}
use Rattle.std.proofs.lemmas.List.{length-append, length-map, take_all}
use Rattle.std.proofs.lemmas.List.Folds.{list_all-append}
use Rattle.std.proofs.lemmas.List.Sums.{sum_by_more}
use native.Mathlib.Omega.{arith}
use Rattle.b1_model.specs.declared.naming.NodeRef.{NodeRef}
use Rattle.b1_model.specs.declared.commands.Command.{Command}
use Rattle.b1_model.specs.declared.commands.Command.TheVariants as cmd
use Rattle.b1_model.specs.declared.commands.SendCmd.{SendCmd}
use Rattle.b1_model.specs.declared.parts.Begun.{Begun}
use Rattle.b1_model.specs.declared.parts.Slot.{Slot}
use Rattle.b1_model.specs.declared.answers.Answer.{Answer}
use Rattle.b1_model.specs.declared.answers.Answer.TheVariants as answer
use Rattle.b1_model.specs.declared.answers.Front.{Front}
use Rattle.b1_model.specs.declared.answers.Reason.{Reason}
use Rattle.b1_model.specs.declared.answers.Reason.TheVariants as reason
use Rattle.b1_model.specs.declared.records.Call.{Call}
use Rattle.b1_model.specs.declared.events.Outcome.{Outcome}
use Rattle.b1_model.specs.declared.events.Outcome.TheVariants as out
use Rattle.b1_model.specs.declared.events.Phase.{Phase}
use Rattle.b1_model.specs.declared.events.Phase.TheVariants.{Starting, Staging, Unstaging, Stamping, Syncing, Committing, Reaping}
use Rattle.b1_model.specs.declared.events.Sending.{Sending}
use Rattle.b1_model.specs.MachineParts.{PeerPart, DriverPart}
use Rattle.b1_model.specs.MachineDriver.{Goes, Ends, turn, is_place, accepted_from, node_of_place, refused_at, all_staged, all_refused}
use Rattle.b1_model.specs.MachineTook.{sent_answer, goes_by, turned, with_facts, open_call}
use Rattle.b1_model.specs.MachineSend.{final_stamp, stamped, synced, staged, begun_nodes}
use Rattle.b1_model.specs.MachineEvents.{begin_by, begin_event, stage_by, stage_event, local_answer}
use Rattle.b1_model.specs.MachineReceive.{received, received_part, has_dead, slice_released}
use Rattle.b1_model.specs.MachinePool.{is_received}
use Rattle.b1_model.specs.declared.answers.Receipt.{Receipt}
use Rattle.b1_step.specs.Rights.{Has}
use Rattle.b1_step.proofs.Lists.{has_left, has_right}
use Rattle.b1_gen.specs.Generated.{peer_count}
use Rattle.b1_gen_runs.specs.Parts.{HasPlain}
use Rattle.b1_gen_runs.specs.Sums.{where_true, brought, brought_by, brought_so_far, owner_of, got_by}
use Rattle.b1_gen_runs.specs.Phases.{IsGood, IsShort, IsPlainDriver, nodes_of}
use Rattle.b1_gen_runs.proofs.Events.{Weight, nothing, Effect, stays, clock_rises, stage_effect, release_effect, release_clock, told, Took}
use Rattle.b1_gen_runs.proofs.Refusals.{HasRoom, no_stage_refusal}
use Rattle.b1_gen_runs.proofs.Commands.{send_in, payload_short, begun_are, no_send_refusal}
use Rattle.b1_gen_runs.proofs.Turns.{driver_at, Moves, marks, where_none, goes_on, ends, ends_silent}

-- nothing came
quiet : (b : Bool) (m n : ℕ) → m ≡ n → m ≡ n + where_true b 0
quiet b m n same = let k = where_none b in omega (arith, k, same)

-- ---- the commits of a SEND that has its stamp

module _ (bound me : ℕ) (calls : List Call) (good : (c : Call) → Has calls c → IsGood c.command c.answer) (c : SendCmd) (phase : Phase) (attempted more : Option (Front × ℕ)) (attempts many : ℕ) (at : ℕ) (x y : PeerPart)
    (sending : Sending) (stamp : ℕ) (effect : Effect x y nothing nothing) (brings : (f : Weight) (q : ℕ) → brought_by f q me (cmd.Send c) ≡ brought_so_far f q me (cmd.Send c) phase)
    (marked : marks phase ≤ 1) (clock : y.clock + 2 * marks phase ≤ bound + 2) (none : sending.begun.with ≡ []) (low : (above : ℕ) → above + 2 * marks phase ≡ bound + 2 → stamp ≤ above) where
  abbrev D : DriverPart
  D = driver_at me calls (Some (record { command = cmd.Send c; phase = phase })) attempted attempts

  abbrev E : DriverPart
  E = driver_at me calls (Some (record { command = cmd.Send c; phase = phase })) more many

  commits_by : (b : Bool) (i : ℕ) → Moves bound at D x (goes_by b (Some (sent_answer sending stamp)) E (cmd.Send c) (Committing sending stamp i)) y
  commits_by false i = goes_on bound me calls good (cmd.Send c) phase attempted more attempts many at x y (Committing sending stamp i) nothing effect (λ f q. quiet (at == q) _ _ (brings f q)) marked (omega (arith, clock)) (λ above same. (refl, none, low above (omega (arith, same))))
  commits_by true i = ends bound me calls good (cmd.Send c) phase attempted more attempts many at x y (record { command = cmd.Send c; answer = sent_answer sending stamp }) nothing effect brings (λ f. refl) (inr (λ f. refl)) 1 refl marked (omega (arith, clock)) tt

  pub commits : (i : ℕ) → Moves bound at D x (turned E (cmd.Send c) (Goes (Committing sending stamp i))) y
  commits i = commits_by (not (is_place i sending.places)) i

  pub syncs : (b : Bool) (i j : ℕ) → Moves bound at D x (turned E (cmd.Send c) (Goes (cond b (Syncing sending stamp i) (Committing sending stamp j)))) y
  syncs true i j = goes_on bound me calls good (cmd.Send c) phase attempted more attempts many at x y (Syncing sending stamp i) nothing effect (λ f q. quiet (at == q) _ _ (brings f q)) marked (omega (arith, clock)) (λ above same. (refl, none, low above (omega (arith, same))))
  syncs false i j = commits j

module _ (bound me : ℕ) (calls : List Call) (good : (c : Call) → Has calls c → IsGood c.command c.answer) (c : SendCmd) (attempted : Option (Front × ℕ)) (attempts : ℕ) (at : ℕ) (x : PeerPart) (plain : HasPlain x) (clock : x.clock ≤ bound) where
  abbrev at_phase : Phase → DriverPart
  at_phase phase = driver_at me calls (Some (record { command = cmd.Send c; phase = phase })) attempted attempts

  abbrev after : Phase → Outcome → DriverPart
  after phase outcome = turned (with_facts (at_phase phase) (record { command = cmd.Send c; phase = phase }) outcome) (cmd.Send c) (turn me (cmd.Send c) phase outcome)

  -- ---- stamp, sync, commit

  pub stamp_moves : (sending : Sending) → sending.begun.with ≡ [] → sending.collected ≤ bound → Moves bound at (at_phase (Stamping sending)) x (after (Stamping sending) (out.Stamp (final_stamp x sending.collected))) (stamped x sending.collected)
  stamp_moves sending none low =
      let least : max x.clock sending.collected ≤ bound = max-le clock low in
      syncs bound me calls good c (Stamping sending) attempted attempted attempts attempts at x (stamped x sending.collected) sending (final_stamp x sending.collected)
      (clock_rises x (final_stamp x sending.collected) plain) (λ f q. refl) (omega arith) (omega (arith, least)) none (λ above same. omega (arith, same, least))
      (is_place (accepted_from 0 sending.places) sending.places) (accepted_from 0 sending.places) (accepted_from 0 sending.places)

  pub sync_moves : (sending : Sending) (stamp place : ℕ) → sending.begun.with ≡ [] → stamp ≤ bound → Moves bound at (at_phase (Syncing sending stamp place)) x (after (Syncing sending stamp place) out.Sync) (synced x stamp)
  sync_moves sending stamp place none low =
      let least : max x.clock stamp ≤ bound = max-le clock low in
      syncs bound me calls good c (Syncing sending stamp place) attempted attempted attempts attempts at x (synced x stamp) sending stamp
      (clock_rises x (max x.clock stamp) plain) (λ f q. refl) (omega arith) (omega (arith, least)) none (λ above same. omega (arith, same, low))
      (is_place (accepted_from (place + 1) sending.places) sending.places) (accepted_from (place + 1) sending.places) (accepted_from 0 sending.places)

  committed_with : (begun : Begun) (places : List (Option Reason)) (collected : ℕ) (slots : List (List Slot)) (stamp place : ℕ) → begun.with ≡ [] → stamp ≤ bound → (y : PeerPart) → y.clock ≡ x.clock → Effect x y nothing nothing → (found : Bool)
      → Moves bound at (at_phase (Committing (record { begun = record { to = begun.to; with = [] }; places = places; collected = collected; slots = slots }) stamp place)) x
      (after (Committing (record { begun = record { to = begun.to; with = [] }; places = places; collected = collected; slots = slots }) stamp place) (out.Commit found)) y
  committed_with begun places collected slots stamp place none low y same effect false =
      commits bound me calls good c (Committing (record { begun = record { to = begun.to; with = [] }; places = places; collected = collected; slots = slots }) stamp place) attempted attempted attempts attempts at x y
      (record { begun = record { to = begun.to; with = [] }; places = places; collected = collected; slots = slots }) stamp effect (λ f q. refl) (omega arith) (omega (arith, same, clock)) refl (λ above is. omega (arith, is, low)) (accepted_from (place + 1) places)
  committed_with begun places collected slots stamp place none low y same effect true =
      commits bound me calls good c (Committing (record { begun = record { to = begun.to; with = [] }; places = places; collected = collected; slots = slots }) stamp place) attempted attempted attempts attempts at x y
      (record { begun = record { to = begun.to; with = [] }; places = places; collected = collected; slots = slots }) stamp effect (λ f q. refl) (omega arith) (omega (arith, same, clock)) refl (λ above is. omega (arith, is, low)) (accepted_from (place + 1) places)

  pub commit_moves : (sending : Sending) (stamp place : ℕ) → sending.begun.with ≡ [] → stamp ≤ bound → (y : PeerPart) → y.clock ≡ x.clock → Effect x y nothing nothing → (found : Bool) → Moves bound at (at_phase (Committing sending stamp place)) x (after (Committing sending stamp place) (out.Commit found)) y
  commit_moves sending stamp place none low y same effect found =
      subst (λ (w : List NodeRef). Moves bound at (at_phase (Committing (record { begun = record { to = sending.begun.to; with = w }; places = sending.places; collected = sending.collected; slots = sending.slots }) stamp place)) x
      (after (Committing (record { begun = record { to = sending.begun.to; with = w }; places = sending.places; collected = sending.collected; slots = sending.slots }) stamp place) (out.Commit found)) y)
      (sym none) (committed_with sending.begun sending.places sending.collected sending.slots stamp place none low y same effect found)

-- ---- begin and stage

pub get_map : (me : ℕ) (to : List ℕ) (i : ℕ) → i < length to → node_of_place (nodes_of me to) i ≡ record { owner = owner_of me (get_or to i 0); serial = 0 }
get_map me [] i less = absurd (omega (arith, less))
get_map me (h ∷ to) zero less = refl
get_map me (h ∷ to) (suc i) less = get_map me to i (omega (arith, less))

first_accepted : (places : List (Option Reason)) → list_all is_none places ≡ true → is_place (accepted_from 0 (places ++ None ∷ [])) (places ++ None ∷ []) ≡ true
first_accepted [] all = refl
first_accepted (None ∷ rest) all = lt-ltb 0 (length (None ∷ (rest ++ None ∷ []))) (omega arith)
first_accepted (Some r ∷ rest) all = absurd (cc all)

module _ (number k bound me : ℕ) (calls : List Call) (good : (c : Call) → Has calls c → IsGood c.command c.answer) (attempted : Option (Front × ℕ)) (attempts : ℕ) (at : ℕ) (x : PeerPart) (room : HasRoom (peer_count number) at bound x) where
  abbrev c : SendCmd
  c = send_in number me k

  abbrev in_phase : Phase → DriverPart
  in_phase phase = driver_at me calls (Some (record { command = cmd.Send c; phase = phase })) attempted attempts

  abbrev then : Phase → Outcome → DriverPart
  then phase outcome = turned (with_facts (in_phase phase) (record { command = cmd.Send c; phase = phase }) outcome) (cmd.Send c) (turn me (cmd.Send c) phase outcome)

  -- a call that was refused for memory would stand in the record
  no_short : (a : Answer) (d : DriverPart) → d.calls ≡ calls ++ record { command = cmd.Send c; answer = a } ∷ [] → IsShort a → IsPlainDriver number me d → ⊥
  no_short a d is short plain =
      (plain.calls (record { command = cmd.Send c; answer = a })
      (has_left d.calls (open_call d) (record { command = cmd.Send c; answer = a }) (subst (λ l. Has l (record { command = cmd.Send c; answer = a })) (sym is) (has_right calls (record { command = cmd.Send c; answer = a } ∷ []) (record { command = cmd.Send c; answer = a }) (inl refl))))).ample short

  abbrev Begins : Outcome × PeerPart → Type 0
  Begins r = IsPlainDriver number me (then Starting r.0) → Moves bound at (in_phase Starting) x (then Starting r.0) r.1

  pub begin_moves : at ≡ me → (memory : Bool) → Begins (begin_event memory c x)
  begin_moves own memory = subst (λ r. Begins (begin_by r memory c x)) (sym (no_send_refusal number me bound x (subst (λ q. HasRoom (peer_count number) q bound x) own room) k)) (by memory)
    where
      by : (b : Bool) → Begins (begin_by None b c x)
      by true plain = absurd (no_short (refused_at reason.Memory None) (then Starting (out.Begin (Err reason.Memory))) refl refl plain)
      by false plain =
          goes_on bound me calls good (cmd.Send c) Starting attempted attempted attempts attempts at x x (Staging (begun_nodes x c) [] 0) nothing (stays x room.plain) (λ f q. quiet (at == q) 0 0 refl) (omega arith) (let l = room.clock in omega (arith, l))
          (λ above same. (refl, refl, begun_are number me bound x (subst (λ q. HasRoom (peer_count number) q bound x) own room) k, omega arith, refl))

  abbrev the_begun : Begun
  the_begun = record { to = nodes_of me c.to; with = [] }

  module _ (places : List (Option Reason)) (collected user : ℕ) (within : length places < length c.to) (all : list_all is_none places ≡ true) (low : collected ≤ bound) (here : at ≡ owner_of me (get_or c.to (length places) 0)) where
    abbrev Stages : Outcome × PeerPart → Type 0
    Stages r = IsPlainDriver number me (then (Staging the_begun places collected) r.0) → Moves bound at (in_phase (Staging the_begun places collected)) x (then (Staging the_begun places collected) r.0) r.1

    abbrev more_places : List (Option Reason)
    more_places = places ++ None ∷ []

    abbrev y : PeerPart
    y = staged x me user (length places) 0 c.payload []

    counted : length more_places ≡ length places + 1
    counted = length-append places (None ∷ [])

    brings_one : (f : Weight) (q : ℕ) → brought f q me (f (length c.payload)) (take (length places + 1) c.to) ≡ brought f q me (f (length c.payload)) (take (length places) c.to) + where_true (at == q) (f (length c.payload))
    brings_one f q =
        sum_by_more (λ h. where_true (owner_of me h == q) (f (length c.payload))) c.to (length places) 0 within
        ∙ ap (λ o. brought f q me (f (length c.payload)) (take (length places) c.to) + where_true (o == q) (f (length c.payload))) (sym here)

    low_after : max collected x.clock ≤ bound
    low_after = max-le low room.clock

    stage_by_length : (b : Bool) → nat_lt (length more_places) (length (nodes_of me c.to)) ≡ b → (d : Bool) → d ≡ true
        → Moves bound at (in_phase (Staging the_begun places collected)) x
        (turned (in_phase (Staging the_begun places collected)) (cmd.Send c) (cond b (Goes (Staging the_begun more_places (max collected x.clock))) (cond d (Goes (Stamping (all_staged the_begun more_places (max collected x.clock)))) (Ends (all_refused more_places))))) y
    stage_by_length true is d one =
        goes_on bound me calls good (cmd.Send c) (Staging the_begun places collected) attempted attempted attempts attempts at x y (Staging the_begun more_places (max collected x.clock)) (λ f. f (length c.payload)) (stage_effect x me user (length places) c.payload room.plain (payload_short me k))
        (λ f q. ap (λ n. brought f q me (f (length c.payload)) (take n c.to)) counted ∙ brings_one f q) (omega arith) (let l = room.clock in omega (arith, l))
        (λ above same. (refl, refl, refl, omega (arith, same, low_after), list_all-append is_none places (None ∷ []) ∙ ap (λ b. b && true) all))
    stage_by_length false is false one = absurd (cc one)
    stage_by_length false is true one =
        goes_on bound me calls good (cmd.Send c) (Staging the_begun places collected) attempted attempted attempts attempts at x y (Stamping (all_staged the_begun more_places (max collected x.clock))) (λ f. f (length c.payload)) (stage_effect x me user (length places) c.payload room.plain (payload_short me k))
        (λ f q. ap (λ l. brought f q me (f (length c.payload)) l) (sym (take_all (length places + 1) c.to ends_here)) ∙ brings_one f q) (omega arith) (let l = room.clock in omega (arith, l))
        (λ above same. (refl, refl, omega (arith, same, low_after)))
      where
        ends_here : length c.to ≤ length places + 1
        ends_here = let m = ltb-false (length more_places) (length (nodes_of me c.to)) is in let n = length-map {B = NodeRef} c.to (λ h. record { owner = owner_of me h; serial = 0 }) in omega (arith, m, n, counted)

    pub stage_moves : (memory : Bool) → Stages (stage_event memory me user (length places) (node_of_place (nodes_of me c.to) (length places)).serial c.payload [] x)
    stage_moves memory =
        subst (λ s. Stages (stage_event memory me user (length places) s c.payload [] x)) (sym (ap (λ node. node.serial) (get_map me c.to (length places) within)))
        (subst (λ r. Stages (stage_by r memory me user (length places) 0 c.payload [] x)) (sym (no_stage_refusal (peer_count number) at bound x room user (length c.payload) (payload_short me k))) (by memory))
      where
        by : (b : Bool) → Stages (stage_by None b me user (length places) 0 c.payload [] x)
        by false plain = stage_by_length (nat_lt (length more_places) (length (nodes_of me c.to))) refl (is_place (accepted_from 0 more_places) more_places) (first_accepted places all)
        by true plain = absurd (unstages (is_place (accepted_from 0 (places ++ Some reason.Memory ∷ [])) (places ++ Some reason.Memory ∷ [])) plain)
          where
            unstages : (b : Bool) → IsPlainDriver number me (turned (in_phase (Staging the_begun places collected)) (cmd.Send c) (cond b (Goes (Unstaging the_begun (places ++ Some reason.Memory ∷ []) (record { reason = reason.Memory; place = Some (length places) }) (accepted_from 0 (places ++ Some reason.Memory ∷ [])))) (Ends (answer.Refused (record { reason = reason.Memory; place = Some (length places) }))))) → ⊥
            unstages false p = no_short (answer.Refused (record { reason = reason.Memory; place = Some (length places) })) _ refl refl p
            unstages true p = (p.calls (record { command = cmd.Send c; answer = answer.Refused (record { reason = reason.Memory; place = Some (length places) }) }) (has_right calls _ _ (inl refl))).ample refl

-- ---- recv and slice release

module _ (bound me : ℕ) (calls : List Call) (good : (c : Call) → Has calls c → IsGood c.command c.answer) (attempted : Option (Front × ℕ)) (attempts : ℕ) (x : PeerPart) (clock : x.clock ≤ bound) where
  abbrev starting : Command → DriverPart
  starting command = driver_at me calls (Some (record { command = command; phase = Starting })) attempted attempts

  recv_ends : (more : Option (Front × ℕ)) (many : ℕ) (front : Result Receipt Front) (y : PeerPart) → Took x front y → Moves bound me (starting cmd.Recv) x (turned (driver_at me calls (Some (record { command = cmd.Recv; phase = Starting })) more many) cmd.Recv (Goes (Reaping (told front)))) y
  recv_ends more many front y took =
      ends bound me calls good cmd.Recv Starting attempted more attempts many me x y (record { command = cmd.Recv; answer = told front }) (λ f. got_by f (told front)) took.effect (λ f q. refl) (λ f. refl) (inl refl) 0 refl (omega arith) (let k = took.clock in omega (arith, k, clock)) took.good

  await_ends : (more : Option (Front × ℕ)) (many : ℕ) (front : Result Receipt Front) (y : PeerPart) → Took x front y → Moves bound me (starting cmd.Await) x (turned (driver_at me calls (Some (record { command = cmd.Await; phase = Starting })) more many) cmd.Await (Goes (Reaping (told front)))) y
  await_ends more many (Ok receipt) y took =
      ends bound me calls good cmd.Await Starting attempted more attempts many me x y (record { command = cmd.Recv; answer = told (Ok receipt) }) (λ f. got_by f (told (Ok receipt))) took.effect (λ f q. refl) (λ f. refl) (inl refl) 0 refl (omega arith) (let k = took.clock in omega (arith, k, clock)) took.good
  await_ends more many (Err front) y took =
      ends_silent bound me calls good cmd.Await Starting attempted more attempts many me x y took.effect (λ f q. refl) refl (let k = took.clock in omega (arith, k, clock))

  abbrev ended_by : Command → Outcome → DriverPart
  ended_by command outcome = turned (with_facts (starting command) (record { command = command; phase = Starting }) outcome) command (turn me command Starting outcome)

  pub recv_moves : Took x (received x).front (received_part x) → has_dead (received_part x) ≡ false → Moves bound me (starting cmd.Recv) x (ended_by cmd.Recv (out.Recv (received x) (has_dead (received_part x)))) (received_part x)
  recv_moves took none = subst (λ b. Moves bound me (starting cmd.Recv) x (ended_by cmd.Recv (out.Recv (received x) b)) (received_part x)) (sym none) (recv_ends _ _ (received x).front (received_part x) took)

  pub await_moves : Took x (received x).front (received_part x) → has_dead (received_part x) ≡ false → Moves bound me (starting cmd.Await) x (ended_by cmd.Await (out.Recv (received x) (has_dead (received_part x)))) (received_part x)
  await_moves took none = subst (λ b. Moves bound me (starting cmd.Await) x (ended_by cmd.Await (out.Recv (received x) b)) (received_part x)) (sym none) (await_ends _ _ (received x).front (received_part x) took)

  pub release_moves : (offset : ℕ) → HasPlain x → Moves bound me (starting (cmd.SliceRelease offset)) x (ended_by (cmd.SliceRelease offset) (out.Local (local_answer false (cmd.SliceRelease offset) x))) (slice_released x offset)
  release_moves offset plain =
      ends bound me calls good (cmd.SliceRelease offset) Starting attempted attempted attempts attempts me x (slice_released x offset) (record { command = cmd.SliceRelease offset; answer = local_answer false (cmd.SliceRelease offset) x }) nothing (release_effect x offset plain) (λ f q. refl) (λ f. no_message f (is_received offset x.slices)) (inl refl) 0 refl (omega arith) (let k = release_clock x offset in omega (arith, k, clock)) (well (is_received offset x.slices))
    where
      no_message : (f : Weight) (b : Bool) → got_by f (cond b answer.Done (refused_at (reason.Unknown offset) None)) ≡ 0
      no_message f true = refl
      no_message f false = refl

      well : (b : Bool) → IsGood (cmd.SliceRelease offset) (cond b answer.Done (refused_at (reason.Unknown offset) None))
      well true = tt
      well false = tt
