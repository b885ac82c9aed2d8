-- An event under a lock: what it needs is there, and what it does is a step of the machine.
use Rattle.std.proofs.Common.{◌≡◌, ◌≢◌, ◌⊎◌, refl, sym, ap, ◌∙◌, inl, inr, subst, ℕ, ◌<◌, List, [], ◌∷◌, length, get_or, set, Option, Some, slice_get}
use native.Mathlib.Omega.{arith}
use Rattle.atomic_table.specs.Table.{rest}
use Rattle.b1_model.specs.declared.naming.Opening.{Opening}
use Rattle.b1_model.specs.declared.commands.Command.{Command}
use Rattle.b1_model.specs.Opening.{IsOpening}
use Rattle.b1_model.specs.MachineParts.{State}
use Rattle.b1_model.specs.MachineDriver.{next_action, peer_of}
use Rattle.b1_model.specs.MachineStep.{Step, Reached}
use Rattle.b1_step.specs.Fixed.{IsNumbered}
use Rattle.b1_step.proofs.Lists.{set_cases}
use Rattle.b1_step.proofs.Locality.{own_driver, step_grows}
use Rattle.b1_step.proofs.Numbers.{reached_numbered}
use Rattle.b1_step.proofs.Steps.{reached_more}
use Rattle.b1_inv_peer.specs.PeerOk.{PeerOk}
use Rattle.b1_peer.specs.Seen.{PeerSeen}
use Rattle.b1_driver.specs.Parts.{Driver}
use Rattle.b1_event.specs.Borne.{AreShort, call_limit, IsBorne, BearsEvents}
use Rattle.b1_event.specs.Events.{Allowed, Does, HasStock, HasUsers}
use Rattle.b1_event.proofs.Opened.{begun_step, target_is}
use Rattle.b1_rule.specs.Known.{Holding}
use Rattle.b1_rule.specs.Rule.{holding, IsHeld}
use Rattle.b1_rule.specs.Plays.{Sat, naming, Changes}
use Rattle.b1_locks.specs.Locks.{HasStepped, HasBegun, HasLock, HasMoved}

abbrev pub Bears : Type 0
Bears = (o : Opening) (s : State) → IsOpening o → Reached o s → AreShort s → BearsEvents o s

-- the next event is at a peer of the bus
pub aims_within : (o : Opening) (bears : Bears) (before : Holding) (command : Option Command) (d : Driver) → HasBegun o before command d → (d.part.me ≡ before.part.me) × (peer_of d.part.me (next_action d.part) < length o.peers)
aims_within o bears before command d k =
    let s = k.stands.state in
    let borne = bears o s k.stands.opening k.stands.reached k.stands.short before.part.me before.part d.part command k.stands.driver k.begun in
    let many = (reached_numbered o s k.stands.reached).as_many_peers in
    let aims = borne.aims in
    let at : peer_of d.part.me (next_action d.part) ≡ peer_of before.part.me (next_action d.part) = ap (λ n. peer_of n (next_action d.part)) borne.number in
    (borne.number, omega (arith, many, aims, at))

module _ (o : Opening) (bears : Bears) (before : Holding) (command : Option Command) (m : Sat) (q : ℕ) (d : Driver) (k : HasLock o before command m q d) where
  abbrev seen : PeerSeen
  seen = k.took.seen

  abbrev state : State
  state = k.took.stands.state

  numbered : IsNumbered o state
  numbered = reached_numbered o state k.took.stands.reached

  held : IsHeld state before
  held = k.took.stands.driver 0 before refl

  borne : IsBorne o state before.part.me d.part
  borne = bears o state k.took.stands.opening k.took.stands.reached k.took.stands.short before.part.me before.part d.part command held.part k.begun.begun

  peer_here : slice_get state.peers (peer_of before.part.me (next_action d.part)) ≡ Some seen.part
  peer_here = ap (slice_get state.peers) (sym k.at) ∙ k.took.stands.peer

  pub allowed_here : PeerOk seen.part → Allowed d.part (next_action d.part) seen.part
  allowed_here ok = borne.allowed seen.part peer_here ok

  pub stock_here : HasStock (next_action d.part) seen.part d
  stock_here =
      borne.stock seen.part d peer_here refl (λ same.
      let own : q ≡ before.part.me = sym (numbered.peers q seen.part k.took.stands.peer).me ∙ same ∙ borne.number in
      let room = held.room seen.part (ap (slice_get state.peers) (sym own) ∙ k.took.stands.peer) in
      let a = k.begun.room in
      let b = k.begun.fit.here in
      omega (arith, room, a, b))

  pub known_here : d.part.me < length o.peers
  known_here = borne.known

  module _ (e : Driver) (y : PeerSeen) (does : Does o d seen e y) where
    at_is : peer_of d.part.me (next_action d.part) ≡ q
    at_is = ap (λ n. peer_of n (next_action d.part)) borne.number ∙ sym k.at

    still_short : length e.part.calls < call_limit
    still_short = let few = k.begun.fit.few in let spare = does.spare in omega (arith, few, spare)

    pub changes_here : Changes o before q seen.part (holding e) y
    changes_here = record {
      command = command;
      action = next_action d.part;
      aims = target_is before.part d.part command k.begun.begun ∙ ap (λ n. Some (next_action d.part, n)) at_is;
      local = begun_step o before.part d.part e.part command seen.part y.part k.begun.begun does.step;
      short = still_short;
      room = let a = k.begun.room in let b = does.doomed in omega (arith, a, b);
      nodes = let a = k.begun.room in let b = does.nodes in omega (arith, a, b);
      users = subst (HasUsers o) (sym does.users) k.took.users;
    }

    abbrev later : State
    later = record { peers = set state.peers q y.part; drivers = set state.drivers before.part.me e.part }

    abbrev step_here : Step o state before.part.me command later
    step_here = record {
      driver = before.part;
      action = next_action d.part;
      at = q;
      peer = seen.part;
      new_driver = e.part;
      new_peer = y.part;
      is_driver = held.part;
      is_target = target_is before.part d.part command k.begun.begun ∙ ap (λ n. Some (next_action d.part, n)) at_is;
      is_peer = k.took.stands.peer;
      local = begun_step o before.part d.part e.part command seen.part y.part k.begun.begun does.step;
      drivers = refl;
      peers = refl;
    }

    later_short : AreShort later
    later_short p f is = by (set_cases state.drivers before.part.me p e.part f is)
      where
        by : ((p ≡ before.part.me) × (f ≡ e.part)) ⊎ ((p ≢ before.part.me) × (slice_get state.drivers p ≡ Some f)) → length f.calls < call_limit
        by (inl here) = let few = still_short in let same : length f.calls ≡ length e.part.calls = ap (λ g. length g.calls) here.1 in omega (arith, few, same)
        by (inr other) = k.took.stands.short p f other.1

    pub moved_here : HasMoved o before command d e
    moved_here = record {
      stands = record {
        state = later;
        opening = k.took.stands.opening;
        reached = reached_more o state later before.part.me command k.took.stands.reached step_here;
        short = later_short;
        driver = ap (slice_get later.drivers) (step_grows step_here).me ∙ own_driver step_here;
      };
      fit = record {
        few = let few = k.begun.fit.few in let spare = does.spare in omega (arith, few, spare);
        here = does.here k.begun.fit.here;
      };
      spare = does.spare;
      moves = record { before = state; after = later; number = before.part.me; reached = k.took.stands.reached; step = step_here; from = refl; to = refl };
    }

-- ---- seats

-- what a seat with a lock holds
pub slot_of : (o : Opening) (before : Holding) (command : Option Command) (m : Sat) (q : ℕ) (d : Driver) → (k : HasLock o before command m q d) → m.1 ≡ (q, k.took.seen) ∷ rest m.1
slot_of o before command m q d k = ap (λ z. z.1) k.took.after ∙ ap (λ l. (q, k.took.seen) ∷ rest l) (sym (ap (λ z. z.1) k.took.after))

pub slot_is : (m : List (ℕ × PeerSeen)) (q : ℕ) (x y : PeerSeen) → m ≡ (q, x) ∷ rest m → m ≡ (q, y) ∷ rest m → x ≡ y
slot_is m q x y one other = ap (λ (l : List (ℕ × PeerSeen)). (get_or l 0 (q, x)).1) (sym one ∙ other)

-- what was written goes home
pub stepped_here : (o : Opening) (bears : Bears) (before : Holding) (command : Option Command) (m : Sat) (q : ℕ) (d : Driver) (k : HasLock o before command m q d) (e : Driver) (y : PeerSeen) → Does o d k.took.seen e y → (n : Sat) → n ≡ (m.0, (q, y) ∷ rest m.1) → HasStepped n q (holding e)
stepped_here o bears before command m q d k e y does n is =
    let view : m.0 ≡ naming o (before ∷ []) q k.took.seen.part = ap (λ z. z.0) k.took.after in
    let out : rest m.1 ≡ [] = ap (λ z. rest z.1) k.took.after in
    let now : n ≡ (naming o (before ∷ []) q k.took.seen.part, (q, y) ∷ []) = is ∙ ap (λ v. (v, (q, y) ∷ rest m.1)) view ∙ ap (λ l. (naming o (before ∷ []) q k.took.seen.part, (q, y) ∷ l)) out in
    let opening : n.0.opening ≡ o = ap (λ z. z.0.opening) now in
    record {
      before = before;
      found = k.took.seen.part;
      seen = y;
      me = now ∙ ap (λ a. (naming a (before ∷ []) q k.took.seen.part, (q, y) ∷ [])) (sym opening);
      changes = subst (λ a. Changes a before q k.took.seen.part (holding e) y) (sym opening) (changes_here o bears before command m q d k e y does);
    }
