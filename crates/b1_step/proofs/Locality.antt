-- A step on two parts and a step of a state.
use Rattle.std.proofs.Common.{◌≡◌, ◌≢◌, ◌⊎◌, refl, sym, ap, ◌∙◌, inl, inr, ℕ, ◌≤◌, Bool, true, false, length, Option, Some, None, subst, option_map, ◌++◌}
use Rattle.std.specs.Prelude.{slice_get}
use Rattle.std.proofs.lemmas.List.{length-set}
use Rattle.std.proofs.lemmas.Option.{same_Some}
use native.Mathlib.Omega.{arith}
use Rattle.b1_model.specs.declared.commands.Command.{Command}
use Rattle.b1_model.specs.declared.naming.Opening.{Opening}
use Rattle.b1_model.specs.declared.events.Action.{Action}
use Rattle.b1_model.specs.declared.events.Action.TheVariants as act
use Rattle.b1_model.specs.declared.events.Phase.TheVariants.{Starting}
use Rattle.b1_model.specs.declared.events.Doing.{Doing}
use Rattle.b1_model.specs.MachineParts.{PeerPart, DriverPart, State}
use Rattle.b1_model.specs.MachineDriver.{peer_of}
use Rattle.b1_model.specs.MachineTook.{took, open_by, driver_calls}
use Rattle.b1_model.specs.MachineEvents.{happens}
use Rattle.b1_model.specs.MachineStep.{LocalStep, Step, begun_by, begun, aimed, target, done_by, effect_by, effect, with_parts, stepped, stepped_by, stepped_to, stepped_at}
use Rattle.b1_step.specs.Rights.{Changes, Keeps, may_be_elsewhere}
use Rattle.b1_step.proofs.Lists.{read_same, read_other, set_cases}
use Rattle.b1_step.proofs.Changed.{changes}
use Rattle.b1_step.proofs.Kept.{keeps}
use Rattle.b1_step.proofs.Clocks.{rises}
use Rattle.b1_step.specs.Fixed.{AtMostOneMore, Grows}
use Rattle.b1_step.specs.Ordered.{Rising}
use Rattle.b1_step.proofs.Rises.{rises as records_rise}
use Rattle.b1_step.proofs.Drivers.{grows}
use Rattle.b1_step.proofs.Growth.{calls_grow}

-- ---- one step of a state

module _ {o : Opening} {s : State} {p : ℕ} {command : Option Command} {t : State} (step : Step o s p command t) where
  pub own_driver : slice_get t.drivers p ≡ Some step.new_driver
  own_driver = ap (λ ds. slice_get ds p) step.drivers ∙ read_same s.drivers p step.driver step.new_driver step.is_driver

  pub other_driver : (r : ℕ) → r ≢ p → slice_get t.drivers r ≡ slice_get s.drivers r
  other_driver r apart = ap (λ ds. slice_get ds r) step.drivers ∙ read_other s.drivers p r step.new_driver (λ e. apart (sym e))

  pub at_peer : slice_get t.peers step.at ≡ Some step.new_peer
  at_peer = ap (λ xs. slice_get xs step.at) step.peers ∙ read_same s.peers step.at step.peer step.new_peer step.is_peer

  pub other_peer : (q : ℕ) → q ≢ step.at → slice_get t.peers q ≡ slice_get s.peers q
  other_peer q apart = ap (λ xs. slice_get xs q) step.peers ∙ read_other s.peers step.at q step.new_peer (λ e. apart (sym e))

  pub as_many_drivers : length t.drivers ≡ length s.drivers
  as_many_drivers = ap length step.drivers ∙ length-set s.drivers p step.new_driver

  pub as_many_peers : length t.peers ≡ length s.peers
  as_many_peers = ap length step.peers ∙ length-set s.peers step.at step.new_peer

-- a step found on two parts extends to every state that has them
pub extends : (o : Opening) (s : State) (p : ℕ) (command : Option Command) (d : DriverPart) (action : Action) (at : ℕ) (x : PeerPart) (e : DriverPart) (y : PeerPart)
    → slice_get s.drivers p ≡ Some d → target d command ≡ Some (action, at) → slice_get s.peers at ≡ Some x → LocalStep o command d x e y → Step o s p command (with_parts s p at (e, y))
extends o s p command d action at x e y is_driver is_target is_peer local = record {
  driver = d;
  action = action;
  at = at;
  peer = x;
  new_driver = e;
  new_peer = y;
  is_driver = is_driver;
  is_target = is_target;
  is_peer = is_peer;
  local = local;
  drivers = refl;
  peers = refl;
}

-- ---- a step as a function

pub computed : {o : Opening} {s : State} {p : ℕ} {command : Option Command} {t : State} (step : Step o s p command t) → stepped o step.local.memory p command s ≡ Some t
computed {o} {s} {p} {command} {t} step =
    ap (stepped_by o step.local.memory p command s) step.is_driver
    ∙ ap (stepped_to o step.local.memory p command s step.driver) step.is_target
    ∙ ap (stepped_at o step.local.memory p command s step.driver step.at) step.is_peer
    ∙ ap (λ parts. Some (with_parts s p step.at parts)) step.local.after
    ∙ ap Some (together step)
  where
    together : (step : Step o s p command t) → with_parts s p step.at (step.new_driver, step.new_peer) ≡ t
    together step = λ i. record { peers = sym step.peers i; drivers = sym step.drivers i }

pub one_result : {o : Opening} {s : State} {p : ℕ} {command : Option Command} {t u : State} (a : Step o s p command t) (b : Step o s p command u) → a.local.memory ≡ b.local.memory → t ≡ u
one_result {o} {s} {p} {command} {t} {u} a b memory = same_Some t u (sym (computed a) ∙ ap (λ m. stepped o m p command s) memory ∙ computed b)

-- ---- what an event may change, of two parts and of a state

begun_number : (d e : DriverPart) (doing : Option Doing) (command : Option Command) → begun_by d doing command ≡ Some e → e.me ≡ d.me
begun_number d e None None is = absurd (cc is)
begun_number d e None (Some c) is = sym (ap (λ f. f.me) (same_Some _ e is))
begun_number d e (Some doing) None is = sym (ap (λ f. f.me) (same_Some d e is))
begun_number d e (Some doing) (Some c) is = absurd (cc is)

begun_calls : (d e : DriverPart) (doing : Option Doing) (command : Option Command) → begun_by d doing command ≡ Some e → e.calls ≡ d.calls
begun_calls d e None None is = absurd (cc is)
begun_calls d e None (Some c) is = sym (ap (λ f. f.calls) (same_Some _ e is))
begun_calls d e (Some doing) None is = sym (ap (λ f. f.calls) (same_Some d e is))
begun_calls d e (Some doing) (Some c) is = absurd (cc is)

begun_shut : (d e : DriverPart) (doing : Option Doing) (command : Option Command) → begun_by d doing command ≡ Some e → e.shut ≡ d.shut
begun_shut d e None None is = absurd (cc is)
begun_shut d e None (Some c) is = sym (ap (λ f. f.shut) (same_Some _ e is))
begun_shut d e (Some doing) None is = sym (ap (λ f. f.shut) (same_Some d e is))
begun_shut d e (Some doing) (Some c) is = absurd (cc is)

begun_list : (d e : DriverPart) (doing : Option Doing) (command : Option Command) → d.doing ≡ doing → begun_by d doing command ≡ Some e → driver_calls e ≡ driver_calls d
begun_list d e None None open_is is = absurd (cc is)
begun_list d e None (Some c) open_is is = sym (ap driver_calls (same_Some _ e is)) ∙ sym (ap (λ doing. d.calls ++ open_by doing) open_is)
begun_list d e (Some doing) None open_is is = sym (ap driver_calls (same_Some d e is))
begun_list d e (Some doing) (Some c) open_is is = absurd (cc is)

begun_doing : (d e : DriverPart) (doing : Option Doing) (command : Option Command) → d.doing ≡ doing → begun_by d doing command ≡ Some e → (one : Doing) × (e.doing ≡ Some one)
begun_doing d e None None open_is is = absurd (cc is)
begun_doing d e None (Some c) open_is is = (record { command = c; phase = Starting }, sym (ap (λ f. f.doing) (same_Some _ e is)))
begun_doing d e (Some doing) None open_is is = (doing, sym (ap (λ f. f.doing) (same_Some d e is)) ∙ open_is)
begun_doing d e (Some doing) (Some c) open_is is = absurd (cc is)

-- the driver's part with the open command, or with the one that begins, and what its event does
pub record Happened (o : Opening) (memory : Bool) (d : DriverPart) (command : Option Command) (x : PeerPart) (action : Action) (at : ℕ) : Type 0 where
  pub e : DriverPart
  pub doing : Doing
  pub same_number : e.me ≡ d.me
  pub same_calls : e.calls ≡ d.calls
  pub same_shut : e.shut ≡ d.shut
  pub same_list : driver_calls e ≡ driver_calls d
  pub is_at : peer_of d.me action ≡ at
  pub after : effect o memory d command x ≡ (took e (happens o memory e doing action x).0, (happens o memory e doing action x).1)

module _ (o : Opening) (memory : Bool) (d : DriverPart) (command : Option Command) (x : PeerPart) (action : Action) (at : ℕ) where
  at_action : (e : DriverPart) (doing : Doing) → begun d command ≡ Some e → e.doing ≡ Some doing → e.me ≡ d.me → e.calls ≡ d.calls → e.shut ≡ d.shut → driver_calls e ≡ driver_calls d → aimed e ≡ (action, at) → Happened o memory d command x action at
  at_action e doing is_begun is_doing number calls shut list pair = record {
    e = e;
    doing = doing;
    same_number = number;
    same_calls = calls;
    same_shut = shut;
    same_list = list;
    is_at = ap (λ me. peer_of me action) (sym number) ∙ ap (peer_of e.me) (sym (ap (λ z. z.0) pair)) ∙ ap (λ z. z.1) pair;
    after =
        ap (λ b. effect_by o memory d b x) is_begun
        ∙ ap (λ b. done_by o memory e b x) is_doing
        ∙ ap (λ a. (took e (happens o memory e doing a x).0, (happens o memory e doing a x).1)) (ap (λ z. z.0) pair);
  }

  at_begun : (b : Option DriverPart) → begun d command ≡ b → option_map aimed b ≡ Some (action, at) → Happened o memory d command x action at
  at_begun None is_begun is_target = absurd (cc is_target)
  at_begun (Some e) is_begun is_target =
      let found = begun_doing d e d.doing command refl is_begun in
      at_action e found.0 is_begun found.1 (begun_number d e d.doing command is_begun) (begun_calls d e d.doing command is_begun) (begun_shut d e d.doing command is_begun) (begun_list d e d.doing command refl is_begun) (same_Some (aimed e) (action, at) is_target)

  pub happened : target d command ≡ Some (action, at) → Happened o memory d command x action at
  happened is_target = at_begun (begun d command) refl is_target

-- an event that can't be elsewhere is at the driver's own peer
own_peer : (me : ℕ) (action : Action) → may_be_elsewhere action ≡ false → peer_of me action ≡ me
own_peer me (act.Stage peer place) is = absurd (cc is)
own_peer me (act.Unstage peer place) is = absurd (cc is)
own_peer me (act.Attach peer serial dest) is = absurd (cc is)
own_peer me (act.Sync peer stamp) is = absurd (cc is)
own_peer me (act.Commit peer place stamp) is = absurd (cc is)
own_peer me (act.CommitNotices peer stamp) is = absurd (cc is)
own_peer me (act.DropRefs peer serial holder k clock) is = absurd (cc is)
own_peer me (act.Visit peer) is = absurd (cc is)
own_peer me action is = refl

module _ {o : Opening} {s : State} {p : ℕ} {command : Option Command} {t : State} (step : Step o s p command t) where
  step_happened : Happened o step.local.memory step.driver command step.peer step.action step.at
  step_happened = happened o step.local.memory step.driver command step.peer step.action step.at step.is_target

  new_peer_is : (happens o step.local.memory step_happened.e step_happened.doing step.action step.peer).1 ≡ step.new_peer
  new_peer_is = ap (λ z. z.1) (sym step_happened.after ∙ step.local.after)

  new_driver_is : took step_happened.e (happens o step.local.memory step_happened.e step_happened.doing step.action step.peer).0 ≡ step.new_driver
  new_driver_is = ap (λ z. z.0) (sym step_happened.after ∙ step.local.after)

  pub step_grows : Grows step.driver step.new_driver
  step_grows =
      let h = step_happened in
      let g = grows h.e (happens o step.local.memory h.e h.doing step.action step.peer).0 in
      subst (Grows step.driver) new_driver_is (record {
        me = g.me ∙ h.same_number;
        calls = subst (λ calls. AtMostOneMore calls (took h.e (happens o step.local.memory h.e h.doing step.action step.peer).0).calls) h.same_calls g.calls;
        shut = λ is. g.shut (h.same_shut ∙ is);
      })

  pub step_adds : AtMostOneMore (driver_calls step.driver) (driver_calls step.new_driver)
  step_adds =
      let h = step_happened in
      subst (λ f. AtMostOneMore (driver_calls step.driver) (driver_calls f)) new_driver_is
      (subst (λ calls. AtMostOneMore calls (driver_calls (took h.e (happens o step.local.memory h.e h.doing step.action step.peer).0))) h.same_list
      (calls_grow h.e (happens o step.local.memory h.e h.doing step.action step.peer).0))

  pub own_place : may_be_elsewhere step.action ≡ false → step.at ≡ step.driver.me
  own_place own = sym step_happened.is_at ∙ own_peer step.driver.me step.action own

  pub step_changes : Changes step.action step.peer step.new_peer
  step_changes = subst (Changes step.action step.peer) new_peer_is (changes o step.local.memory step_happened.e step_happened.doing step.action step.peer)

  pub step_keeps : may_be_elsewhere step.action ≡ true → Keeps step.driver.me step.peer step.new_peer
  step_keeps elsewhere =
      subst (λ y. Keeps step.driver.me step.peer y) new_peer_is
      (subst (λ me. Keeps me step.peer (happens o step.local.memory step_happened.e step_happened.doing step.action step.peer).1) step_happened.same_number
      (keeps o step.local.memory step_happened.e step_happened.doing step.action step.peer elsewhere))

  pub step_rises : Rising step.peer.handles → Rising step.new_peer.handles
  step_rises up = subst (λ y. Rising y.handles) new_peer_is (records_rise o step.local.memory step_happened.e step_happened.doing step.action step.peer up)

  clock_at : step.peer.clock ≤ step.new_peer.clock
  clock_at = subst (λ y. step.peer.clock ≤ y.clock) new_peer_is (rises o step.local.memory step_happened.e step_happened.doing step.action step.peer)

  clock_of : (q : ℕ) (x y : PeerPart) → slice_get s.peers q ≡ Some x → slice_get t.peers q ≡ Some y → ((q ≡ step.at) × (y ≡ step.new_peer)) ⊎ ((q ≢ step.at) × (slice_get s.peers q ≡ Some y)) → x.clock ≤ y.clock
  clock_of q x y before after (inl here) =
      let at_x : x ≡ step.peer = same_Some x step.peer (sym before ∙ ap (slice_get s.peers) here.0 ∙ step.is_peer) in
      rw (at_x, here.1) clock_at
  clock_of q x y before after (inr there) = let same : x ≡ y = same_Some x y (sym before ∙ there.1) in omega (arith, ap (λ z. z.clock) same)

  -- no clock falls
  pub clocks_rise : (q : ℕ) (x y : PeerPart) → slice_get s.peers q ≡ Some x → slice_get t.peers q ≡ Some y → x.clock ≤ y.clock
  clocks_rise q x y before after = clock_of q x y before after (set_cases s.peers step.at q step.new_peer y (ap (λ xs. slice_get xs q) (sym step.peers) ∙ after))
