-- A step keeps the bounds.
use Rattle.std.proofs.Common.{◌≡◌, ◌≢◌, ◌⊎◌, refl, sym, ap, ◌∙◌, inl, inr, subst, ℕ, zero, suc, ◌+◌, ◌*◌, ◌≤◌, Bool, true, false, cond, List, [], ◌∷◌, length, sum_by, Option, Some, None, Ok}
use Rattle.std.specs.Prelude.{slice_get}
use Rattle.std.proofs.lemmas.Bool.{and_right}
use Rattle.std.proofs.lemmas.List.Sums.{sum_by-cons}
use native.Mathlib.Omega.{arith}
use Rattle.b1_model.specs.declared.naming.Key.{Key}
use Rattle.b1_model.specs.declared.naming.Opening.{Opening}
use Rattle.b1_model.specs.declared.commands.Command.{Command}
use Rattle.b1_model.specs.declared.entries.Entry.{Entry}
use Rattle.b1_model.specs.declared.answers.Answer.TheVariants as answer
use Rattle.b1_model.specs.declared.answers.Reason.{Reason}
use Rattle.b1_model.specs.declared.answers.Receipt.{Receipt}
use Rattle.b1_model.specs.declared.records.Call.{Call}
use Rattle.b1_model.specs.declared.events.Action.{Action}
use Rattle.b1_model.specs.declared.events.Action.TheVariants as act
use Rattle.b1_model.specs.declared.events.Phase.{Phase}
use Rattle.b1_model.specs.declared.events.Phase.TheVariants.{Starting, Staging, Unstaging, Attaching, Stamping, Syncing, Committing, Reaping}
use Rattle.b1_model.specs.MachineParts.{PeerPart, DriverPart, State, node_at, carried}
use Rattle.b1_model.specs.MachineTables.{count_of, is_stage}
use Rattle.b1_model.specs.MachineSend.{send_refusal}
use Rattle.b1_model.specs.MachineReceive.{received, received_part}
use Rattle.b1_model.specs.MachineDriver.{phase_action, send_of, recv_answer, Goes, turn}
use Rattle.b1_model.specs.MachineTook.{is_await, call_of, as_call}
use Rattle.b1_model.specs.MachineEvents.{happens, begin_by, begun_of, slots_at}
use Rattle.b1_model.specs.MachineStep.{Step}
use Rattle.b1_step.specs.Rights.{Has, may_be_elsewhere}
use Rattle.b1_step.proofs.Lists.{sum_set}
use Rattle.b1_step.proofs.Locality.{own_place}
use Rattle.b1_step.proofs.Orders.{find_has}
use Rattle.b1_inv.specs.Words.{IsPeer, IsDriver}
use Rattle.b1_inv.specs.Sends.{SendShape}
use Rattle.b1_inv.specs.Bounds.{calls_begun, call_bound, all_calls_bound, attach_bound, all_attaches_bound, BoundsRight}
use Rattle.b1_inv.specs.Sound.{IsSound}
use Rattle.b1_inv_tools.proofs.Leaves.{Did, step_did, driver_cases, peer_cases}
use Rattle.b1_inv_tools.proofs.Comes.{Comes, ComesOrWas, queue_comes}
use Rattle.b1_inv_refs.proofs.Flights.{slots_carry}
use Rattle.b1_inv_bounds.proofs.Begun.{turn_calls, turn_now, begun_stays, begun_more}
use Rattle.b1_inv_bounds.proofs.Grown.{HeldAtMost, GrowsBy, grows_zero, begin_grows, recv_grows}
use Rattle.b1_inv_bounds.proofs.Quiet.{is_growing, quiet_grows, growing_starts, is_attach}
use Rattle.b1_inv_bounds.proofs.Counted.{rises_after}
use Rattle.b1_inv_bounds.proofs.Adds.{driver_me, shape_of, new_within, old_within, attaches_stay, action_by, attach_adds_by}

-- ---- small facts

sum_le : (f g : DriverPart → ℕ) (ds : List DriverPart) → ((i : ℕ) (d : DriverPart) → slice_get ds i ≡ Some d → f d ≤ g d) → sum_by f ds ≤ sum_by g ds
sum_le f g [] each = omega arith
sum_le f g (d ∷ rest) each =
    let one = sum_by-cons f d rest in
    let two = sum_by-cons g d rest in
    let three = each zero d refl in
    let four = sum_le f g rest (λ i e is. each (suc i) e is) in
    omega (arith, one, two, three, four)

-- an open SEND carries at most 64 nodes
with_short : (s : State) (command : Command) (phase : Phase) → (phase ≡ Starting) ⊎ SendShape s command phase → length (begun_of phase).with ≤ 64
with_short s command Starting sh = omega arith
with_short s command (Staging begun places collected) (inl e) = absurd (cc e)
with_short s command (Staging begun places collected) (inr sh) = let a = sh.0.handles in let b = sh.0.send.handles in omega (arith, a, b)
with_short s command (Unstaging begun places refused place) (inl e) = absurd (cc e)
with_short s command (Unstaging begun places refused place) (inr sh) = let a = sh.0.handles in let b = sh.0.send.handles in omega (arith, a, b)
with_short s command (Attaching sending place j) (inl e) = absurd (cc e)
with_short s command (Attaching sending place j) (inr sh) = let a = sh.0.begun.handles in let b = sh.0.begun.send.handles in omega (arith, a, b)
with_short s command (Stamping sending) (inl e) = absurd (cc e)
with_short s command (Stamping sending) (inr sh) = let a = sh.begun.handles in let b = sh.begun.send.handles in omega (arith, a, b)
with_short s command (Syncing sending stamp place) (inl e) = absurd (cc e)
with_short s command (Syncing sending stamp place) (inr sh) = let a = sh.0.begun.handles in let b = sh.0.begun.send.handles in omega (arith, a, b)
with_short s command (Committing sending stamp place) (inl e) = absurd (cc e)
with_short s command (Committing sending stamp place) (inr sh) = let a = sh.0.begun.handles in let b = sh.0.begun.send.handles in omega (arith, a, b)
with_short s command phase sh = omega arith

module _ {o : Opening} {s : State} {p : ℕ} {command : Option Command} {t : State} (sound : IsSound o s) (step : Step o s p command t) where
  abbrev k : Did o step.local.memory step.driver command step.peer step.action step.at step.new_driver step.new_peer
  k = step_did step

  abbrev From : Type 0
  From = (step.driver.doing ≡ Some k.doing) ⊎ ((step.driver.doing ≡ None) × (command ≡ Some k.doing.command) × (k.doing.phase ≡ Starting))

  -- ---- growth

  starts_now : is_growing step.action ≡ true → k.doing.phase ≡ Starting
  starts_now is = at (action_by sound step k.e.owed refl)
    where
      at : (step.action ≡ phase_action k.e.me k.e.shut k.doing.command k.doing.phase) ⊎ ((is_growing step.action ≡ false) × (is_attach step.action ≡ false)) → k.doing.phase ≡ Starting
      at (inr other) = absurd (cc (sym is ∙ other.0))
      at (inl same) = growing_starts k.e.me k.e.shut k.doing.command k.doing.phase (sym (ap is_growing same) ∙ is)

  -- by nothing; or at the own peer by 64, and then one more call has begun
  abbrev Grows : PeerPart → Type 0
  Grows y = GrowsBy 0 step.peer y ⊎ ((step.at ≡ p) × (calls_begun step.driver + 1 ≤ calls_begun step.new_driver) × GrowsBy 64 step.peer y)

  own_at : may_be_elsewhere step.action ≡ false → step.at ≡ p
  own_at own = own_place step own ∙ driver_me sound step

  begin_by_refusal : step.action ≡ act.Begin → (r : Option Reason) → send_refusal step.peer (send_of k.doing.command) ≡ r → (b : Bool) → step.local.memory ≡ b → Grows (begin_by r b (send_of k.doing.command) step.peer).1
  begin_by_refusal is (Some r) refusal b memory = inl (grows_zero step.peer)
  begin_by_refusal is None refusal true memory = inl (grows_zero step.peer)
  begin_by_refusal is None refusal false memory =
      let starts = starts_now (ap is_growing is) in
      let outcome : (happens o step.local.memory k.e k.doing step.action step.peer).0 ≡ (begin_by None false (send_of k.doing.command) step.peer).0 =
      ap (λ a. (happens o step.local.memory k.e k.doing a step.peer).0) is ∙ ap (λ r. (begin_by r step.local.memory (send_of k.doing.command) step.peer).0) refusal ∙ ap (λ m. (begin_by None m (send_of k.doing.command) step.peer).0) memory in
      let turn_is : turn_now sound step ≡ turn k.e.me k.doing.command Starting (begin_by None false (send_of k.doing.command) step.peer).0 =
      ap (λ ph. turn k.e.me k.doing.command ph (happens o step.local.memory k.e k.doing step.action step.peer).0) starts ∙ ap (turn k.e.me k.doing.command Starting) outcome in
      inr (own_at (ap may_be_elsewhere is), begun_more sound step starts (ap (turn_calls k.doing.command) turn_is), begin_grows step.peer (send_of k.doing.command) refusal)

  got_one : (receipt : Receipt) → length (call_of k.doing.command (answer.Got receipt)) ≡ 1
  got_one receipt = ap (λ b. length {A = Call} (cond b [] (record { command = as_call k.doing.command; answer = answer.Got receipt } ∷ []))) (and_right (is_await k.doing.command) false refl)

  recv_by_front : step.action ≡ act.Recv → Grows (received_part step.peer)
  recv_by_front is = at (recv_grows step.peer (λ f there. sound.bounds.carried step.at step.peer f step.is_peer there) (received step.peer).front refl)
    where
      at : (GrowsBy 0 step.peer (received_part step.peer) × ((receipt : Receipt) → (received step.peer).front ≡ Ok receipt → ⊥)) ⊎ (GrowsBy 64 step.peer (received_part step.peer) × ((receipt : Receipt) × ((received step.peer).front ≡ Ok receipt))) → Grows (received_part step.peer)
      at (inl none) = inl none.0
      at (inr some) =
          let starts = starts_now (ap is_growing is) in
          let turn_is : turn_now sound step ≡ Goes (Reaping (recv_answer (received step.peer))) =
          ap (λ ph. turn k.e.me k.doing.command ph (happens o step.local.memory k.e k.doing step.action step.peer).0) starts ∙ ap (λ a. turn k.e.me k.doing.command Starting (happens o step.local.memory k.e k.doing a step.peer).0) is in
          let answer_is : recv_answer (received step.peer) ≡ answer.Got some.1.0 = ap (λ r. recv_answer (record { front = r; removed = (received step.peer).removed })) some.1.1 in
          let calls : turn_calls k.doing.command (turn_now sound step) ≡ 1 = ap (turn_calls k.doing.command) turn_is ∙ ap (λ a. length (call_of k.doing.command a)) answer_is ∙ got_one some.1.0 in
          inr (own_at (ap may_be_elsewhere is), begun_more sound step starts calls, some.0)

  grows_by : (action : Action) → step.action ≡ action → Grows (happens o step.local.memory k.e k.doing action step.peer).1
  grows_by act.Begin is = begin_by_refusal is (send_refusal step.peer (send_of k.doing.command)) refl step.local.memory refl
  grows_by act.Recv is = recv_by_front is
  grows_by act.Rest is = inl (quiet_grows o step.local.memory k.e k.doing act.Rest step.peer refl)
  grows_by (act.Stage peer place) is = inl (quiet_grows o step.local.memory k.e k.doing (act.Stage peer place) step.peer refl)
  grows_by (act.Unstage peer place) is = inl (quiet_grows o step.local.memory k.e k.doing (act.Unstage peer place) step.peer refl)
  grows_by (act.Attach peer serial dest) is = inl (quiet_grows o step.local.memory k.e k.doing (act.Attach peer serial dest) step.peer refl)
  grows_by act.Stamp is = inl (quiet_grows o step.local.memory k.e k.doing act.Stamp step.peer refl)
  grows_by (act.Sync peer stamp) is = inl (quiet_grows o step.local.memory k.e k.doing (act.Sync peer stamp) step.peer refl)
  grows_by (act.Commit peer place stamp) is = inl (quiet_grows o step.local.memory k.e k.doing (act.Commit peer place stamp) step.peer refl)
  grows_by (act.CommitNotices peer stamp) is = inl (quiet_grows o step.local.memory k.e k.doing (act.CommitNotices peer stamp) step.peer refl)
  grows_by act.Reap is = inl (quiet_grows o step.local.memory k.e k.doing act.Reap step.peer refl)
  grows_by act.Release is = inl (quiet_grows o step.local.memory k.e k.doing act.Release step.peer refl)
  grows_by (act.DropRefs peer serial holder n clock) is = inl (quiet_grows o step.local.memory k.e k.doing (act.DropRefs peer serial holder n clock) step.peer refl)
  grows_by act.BeginDestroy is = inl (quiet_grows o step.local.memory k.e k.doing act.BeginDestroy step.peer refl)
  grows_by (act.Visit peer) is = inl (quiet_grows o step.local.memory k.e k.doing (act.Visit peer) step.peer refl)
  grows_by act.StampDestroy is = inl (quiet_grows o step.local.memory k.e k.doing act.StampDestroy step.peer refl)
  grows_by act.Flush is = inl (quiet_grows o step.local.memory k.e k.doing act.Flush step.peer refl)
  grows_by act.Local is = inl (quiet_grows o step.local.memory k.e k.doing act.Local step.peer refl)

  grows : Grows step.new_peer
  grows = subst Grows (sym k.peer) (grows_by step.action refl)

  -- ---- nodes, given numbers and held handles

  -- a driver's bound doesn't fall
  bound_stays : call_bound o step.driver ≤ call_bound o step.new_driver
  bound_stays = let a = begun_stays sound step in omega (arith, a)

  -- what grows by so much stays within the bound
  abbrev Within : ℕ → ℕ → Type 0
  Within old new = (extra : ℕ) → GrowsBy extra step.peer step.new_peer → new ≤ old + extra

  own_bound : (old new : ℕ) → Within old new → old ≤ call_bound o step.driver → new ≤ call_bound o step.new_driver
  own_bound old new within bound = at grows
    where
      at : Grows step.new_peer → new ≤ call_bound o step.new_driver
      at (inl none) = let a = within 0 none in omega (arith, a, bound, bound_stays)
      at (inr (own, more, some)) = let a = within 64 some in omega (arith, a, bound, more)

  other_bound : (r : ℕ) (d : DriverPart) → r ≢ p → r ≡ step.at → (old new : ℕ) → Within old new → old ≤ call_bound o d → new ≤ call_bound o d
  other_bound r d apart here old new within bound = at grows
    where
      at : Grows step.new_peer → new ≤ call_bound o d
      at (inl none) = let a = within 0 none in omega (arith, a, bound)
      at (inr (own, more, some)) = absurd (apart (here ∙ own))

  abbrev DriverCase : ℕ → DriverPart → Type 0
  DriverCase r d = ((r ≡ p) × (d ≡ step.new_driver)) ⊎ ((r ≢ p) × IsDriver s r d)

  abbrev PeerCase : ℕ → PeerPart → Type 0
  PeerCase q x = ((q ≡ step.at) × (x ≡ step.new_peer)) ⊎ ((q ≢ step.at) × IsPeer s q x)

  -- a number of a part that is within the bound before, is so after
  module _ (number : PeerPart → ℕ) (within : Within (number step.peer) (number step.new_peer)) (before : (r : ℕ) (d : DriverPart) (x : PeerPart) → IsDriver s r d → IsPeer s r x → number x ≤ call_bound o d) where
    number_at : (r : ℕ) (d : DriverPart) (x : PeerPart) → DriverCase r d → PeerCase r x → number x ≤ call_bound o d
    number_at r d x (inl a) (inl b) =
        let at_own : step.at ≡ p = sym b.0 ∙ a.0 in
        let old = before p step.driver step.peer step.is_driver (subst (λ q. IsPeer s q step.peer) at_own step.is_peer) in
        subst (λ e. number x ≤ call_bound o e) (sym a.1) (subst (λ z. number z ≤ call_bound o step.new_driver) (sym b.1) (own_bound (number step.peer) (number step.new_peer) within old))
    number_at r d x (inl a) (inr b) =
        let old = before p step.driver x step.is_driver (subst (λ q. IsPeer s q x) a.0 b.1) in
        subst (λ e. number x ≤ call_bound o e) (sym a.1) (omega (arith, old, bound_stays))
    number_at r d x (inr a) (inl b) =
        subst (λ z. number z ≤ call_bound o d) (sym b.1) (other_bound r d a.0 b.0 (number step.peer) (number step.new_peer) within (before r d step.peer a.1 (subst (λ q. IsPeer s q step.peer) (sym b.0) step.is_peer)))
    number_at r d x (inr a) (inr b) = before r d x a.1 b.1

  -- records
  held_at : (r : ℕ) (d : DriverPart) (x : PeerPart) → DriverCase r d → PeerCase r x → HeldAtMost (call_bound o d) x.handles
  held_at r d x (inl a) (inl b) =
      let at_own : step.at ≡ p = sym b.0 ∙ a.0 in
      subst (λ e. HeldAtMost (call_bound o e) x.handles) (sym a.1) (subst (λ z. HeldAtMost (call_bound o step.new_driver) z.handles) (sym b.1) (at grows (λ h there. sound.bounds.held p step.driver step.peer h step.is_driver (subst (λ q. IsPeer s q step.peer) at_own step.is_peer) there)))
    where
      at : Grows step.new_peer → HeldAtMost (call_bound o step.driver) step.peer.handles → HeldAtMost (call_bound o step.new_driver) step.new_peer.handles
      at (inl none) old h there = let c = none.held (call_bound o step.driver) old h there in omega (arith, c, bound_stays)
      at (inr (own, more, some)) old h there = let c = some.held (call_bound o step.driver) old h there in omega (arith, c, more)
  held_at r d x (inl a) (inr b) =
      subst (λ e. HeldAtMost (call_bound o e) x.handles) (sym a.1) (λ h there. (let old = sound.bounds.held p step.driver x h step.is_driver (subst (λ q. IsPeer s q x) a.0 b.1) there in omega (arith, old, bound_stays)))
  held_at r d x (inr a) (inl b) =
      subst (λ z. HeldAtMost (call_bound o d) z.handles) (sym b.1) (at grows (λ h there. sound.bounds.held r d step.peer h a.1 (subst (λ q. IsPeer s q step.peer) (sym b.0) step.is_peer) there))
    where
      at : Grows step.new_peer → HeldAtMost (call_bound o d) step.peer.handles → HeldAtMost (call_bound o d) step.new_peer.handles
      at (inl none) old h there = let c = none.held (call_bound o d) old h there in omega (arith, c)
      at (inr (own, more, some)) old h there = absurd (a.0 (b.0 ∙ own))
  held_at r d x (inr a) (inr b) = λ h there. sound.bounds.held r d x h a.1 b.1 there

  -- ---- counts

  sums : all_attaches_bound o t + attach_bound step.driver ≡ all_attaches_bound o s + attach_bound step.new_driver
  sums =
      let a = sum_set attach_bound s.drivers p step.driver step.new_driver step.is_driver in
      let b = ap (sum_by attach_bound) step.drivers in
      omega (arith, a, b)

  attached_at : (q : ℕ) (x : PeerPart) (serial holder : ℕ) → PeerCase q x → count_of (node_at x serial) holder ≤ all_attaches_bound o t
  attached_at q x serial holder (inl here) =
      let a = rises_after o step.local.memory k.e k.doing step.action step.peer serial holder in
      let b = ap (λ z. count_of (node_at z serial) holder) (here.1 ∙ k.peer) in
      let c = sound.bounds.attached step.at step.peer serial holder step.is_peer in
      let d = attach_adds_by sound step (is_attach step.action) refl in
      omega (arith, a, b, c, d, sums)
  attached_at q x serial holder (inr other) =
      let c = sound.bounds.attached q x serial holder other.1 in
      (let a = attaches_stay sound step in omega (arith, c, a, sums))

  within_at : (r : ℕ) (d : DriverPart) → DriverCase r d → attach_bound d ≤ 4096 * calls_begun d
  within_at r d (inl here) = subst (λ e. attach_bound e ≤ 4096 * calls_begun e) (sym here.1) (new_within sound step)
  within_at r d (inr other) = old_within sound step r d other.1

  all_within : all_attaches_bound o t ≤ all_calls_bound o t
  all_within = let a = sum_le attach_bound (λ d. 4096 * calls_begun d) t.drivers (λ r d is. within_at r d (driver_cases step r d is)) in omega (arith, a)

  -- ---- what entries carry

  short_phase : length (begun_of k.doing.phase).with ≤ 64
  short_phase = with_short s k.doing.command k.doing.phase (at k.opened.from)
    where
      at : From → (k.doing.phase ≡ Starting) ⊎ SendShape s k.doing.command k.doing.phase
      at (inl open_it) = inr (shape_of sound step open_it)
      at (inr starts) = inl starts.2

  old_short : (f : Key × Entry) → Has step.peer.queue f → length (carried f.1) ≤ 64
  old_short f there = sound.bounds.carried step.at step.peer f step.is_peer there

  comes_short : (action : Action) (f : Key × Entry) → Comes o k.e k.doing step.peer action f → length (carried f.1) ≤ 64
  comes_short (act.Stage peer place) f same = let a = ap (λ g. length (carried g.1)) same in omega (arith, a, short_phase)
  comes_short (act.Commit peer place stamp) f (g, found, same) =
      let a = ap (λ h. length (carried h.1)) same in
      let b = ap length (slots_carry (slots_at k.doing.phase place) g.1) in
      let c = old_short g (find_has (is_stage k.e.me place) step.peer.queue g found).0 in
      omega (arith, a, b, c)
  comes_short (act.CommitNotices peer stamp) f (g, there, passes, same) = let a = ap (λ h. length (carried h.1)) same in let b = old_short g there in omega (arith, a, b)
  comes_short (act.DropRefs peer serial holder n clock) f (same, due) = let a = ap (λ h. length (carried h.1)) same in omega (arith, a)
  comes_short act.BeginDestroy f (index, serial, is, same, none) = let a = ap (λ h. length (carried h.1)) same in omega (arith, a)
  comes_short (act.Visit peer) f (index, serial, is, same) = let a = ap (λ h. length (carried h.1)) same in omega (arith, a)
  comes_short action f none = absurd none

  carried_at : (q : ℕ) (x : PeerPart) (f : Key × Entry) → PeerCase q x → Has x.queue f → length (carried f.1) ≤ 64
  carried_at q x f (inl here) there = at (queue_comes o k.e k.doing f step.local.memory step.action step.peer (subst (λ z. Has z.queue f) (here.1 ∙ k.peer) there))
    where
      at : ComesOrWas o k.e k.doing step.peer step.action f → length (carried f.1) ≤ 64
      at (inl old) = old_short f old.0
      at (inr new) = comes_short step.action f new
  carried_at q x f (inr other) there = sound.bounds.carried q x f other.1 there

  -- ---- together

  pub bounds_kept : BoundsRight o t
  bounds_kept = record {
    nodes = λ r d x is_d is_x. number_at (λ z. length z.nodes) (λ extra g. g.nodes) sound.bounds.nodes r d x (driver_cases step r d is_d) (peer_cases step r x is_x);
    given = λ r d x is_d is_x. number_at (λ z. z.given) (λ extra g. g.given) sound.bounds.given r d x (driver_cases step r d is_d) (peer_cases step r x is_x);
    held = λ r d x h is_d is_x there. held_at r d x (driver_cases step r d is_d) (peer_cases step r x is_x) h there;
    counts = λ q x serial holder is. (let a = attached_at q x serial holder (peer_cases step q x is) in omega (arith, a, all_within));
    attached = λ q x serial holder is. attached_at q x serial holder (peer_cases step q x is);
    carried = λ q x f is there. carried_at q x f (peer_cases step q x is) there;
  }
