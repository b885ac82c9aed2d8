-- What holds of the parts of a reached state in which an event is next: its peer is there, its nodes were made, its keys are new.
use Rattle.std.proofs.Common.{◌≡◌, ◌≢◌, refl, sym, ap, ◌∙◌, inl, inr, subst, ℕ, ◌+◌, ◌-◌, ◌%◌, ◌<◌, ◌≤◌, true, false, List, [], ◌∷◌, length, Some}
use Rattle.std.proofs.lemmas.Bool.{eq-eqb}
use Rattle.std.proofs.lemmas.Option.{slice_get_within}
use native.Mathlib.Omega.{arith}
use Rattle.b1_model.specs.declared.limits.TheConstants.{MOST_PEERS}
use Rattle.b1_model.specs.declared.naming.Key.{Key}
use Rattle.b1_model.specs.declared.naming.NodeRef.{NodeRef}
use Rattle.b1_model.specs.declared.naming.Opening.{Opening}
use Rattle.b1_model.specs.declared.entries.Entry.{Entry}
use Rattle.b1_model.specs.declared.entries.Entry.TheVariants.{Message, OwnNotice, ForeignNotice, ReleaseNotice}
use Rattle.b1_model.specs.declared.events.Doing.{Doing}
use Rattle.b1_model.specs.MachineParts.{PeerPart, DriverPart, State, is_staged, is_odd}
use Rattle.b1_step.specs.Rights.{Has}
use Rattle.b1_step.specs.Ordered.{NewKey}
use Rattle.b1_inv.specs.Words.{IsPeer, IsDriver, IsMade, waits_at, is_uncommitted}
use Rattle.b1_inv.specs.Stages.{HasSender}
use Rattle.b1_inv.specs.Sound.{IsSound}

some_same : {A : Type 0} (x y : A) → Some x ≡ Some y → x ≡ y
some_same x y same = cc same

-- a key that no entry has is new
pub new_key : (k : Key) (queue : List (Key × Entry)) → ((f : Key × Entry) → Has queue f → f.0 ≢ k) → NewKey k queue
new_key k [] apart = tt
new_key k (f ∷ rest) apart = (apart f (inl refl), new_key k rest (λ g h. apart g (inr h)))

module _ (o : Opening) (s : State) (sound : IsSound o s) where
  pub peer_same : (q : ℕ) (x y : PeerPart) → IsPeer s q x → IsPeer s q y → x ≡ y
  peer_same q x y a b = some_same x y (sym a ∙ b)

  pub driver_same : (p : ℕ) (d e : DriverPart) → IsDriver s p d → IsDriver s p e → d ≡ e
  driver_same p d e a b = some_same d e (sym a ∙ b)

  pub made_here : (node : NodeRef) (x : PeerPart) → IsMade s node → IsPeer s node.owner x → node.serial < length x.nodes
  made_here node x (y, is, within) there = subst (λ z. node.serial < length z.nodes) (peer_same node.owner y x is there) within

  pub peer_within : (q : ℕ) (x : PeerPart) → IsPeer s q x → q < length s.peers
  peer_within q x is = slice_get_within s.peers q x is

  pub few_peers : length s.peers ≤ MOST_PEERS
  few_peers = let k = sound.numbered.as_many_peers in let l = sound.opening.most in omega (arith, k, l)

  pub few_drivers : length s.drivers ≤ MOST_PEERS
  few_drivers = let k = sound.numbered.as_many_drivers in let l = sound.opening.most in omega (arith, k, l)

  -- ---- staged entries

  -- a driver has nothing staged at a peer under a place
  pub record Free (d : DriverPart) (index q : ℕ) : Type 0 where
    pub waits : (doing : Doing) → d.doing ≡ Some doing → waits_at doing.phase index ≡ false
    pub uncommitted : is_uncommitted d q ≡ false

  sender_free : (d : DriverPart) (index q : ℕ) (f : Key × Entry) → Free d index q → IsDriver s f.0.origin d → f.0.index ≡ index → HasSender o s q f → ⊥
  sender_free d index q f free is at sender =
      let same : sender.driver ≡ d = driver_same f.0.origin sender.driver d sender.is_driver is in
      let waits : waits_at sender.doing.phase index ≡ true = ap (waits_at sender.doing.phase) (sym at) ∙ sender.waits in
      cc (sym waits ∙ free.waits sender.doing (ap (λ e. e.doing) (sym same) ∙ sender.is_open))

  -- no staged entry of the queue is of the driver and the place
  pub staged_free : (q index : ℕ) (x : PeerPart) (d : DriverPart) → IsPeer s q x → (k : Key) (e : Entry) → Has x.queue (k, e) → is_staged (k, e) ≡ true → k.index ≡ index → IsDriver s k.origin d → Free d index q → ⊥
  staged_free q index x d is k (Message origin user place serial offset len nodes slots handles payload) h staged at driver free =
      sender_free d index q (k, Message origin user place serial offset len nodes slots handles payload) free driver at (sound.stages.sender q x (k, Message origin user place serial offset len nodes slots handles payload) is h refl staged)
  staged_free q index x d is k (OwnNotice serial place) h staged at driver free =
      let shape = sound.notices.queued q x (k, OwnNotice serial place) is h in
      cc (sym (shape.2 d (subst (λ p. IsDriver s p d) shape.0 driver) staged).0 ∙ free.uncommitted)
  staged_free q index x d is k (ForeignNotice node place) h staged at driver free =
      let shape = sound.notices.queued q x (k, ForeignNotice node place) is h in
      cc (sym (shape.3 d (subst (λ p. IsDriver s p d) shape.0 driver) staged).0 ∙ free.uncommitted)
  staged_free q index x d is k (ReleaseNotice serial) h staged at driver free =
      let shape = sound.notices.queued q x (k, ReleaseNotice serial) is h in
      cc (sym staged ∙ shape.2)

  -- the odd stamp behind an even clock
  pub odd_behind : (clock : ℕ) → clock % 2 ≡ 0 → is_odd (clock + 1) ≡ true
  odd_behind clock even = eq-eqb ((clock + 1) % 2) 1 (omega (arith, even))

  -- so a key under the odd stamp behind the clock is new
  pub stage_free : (p q index : ℕ) (x : PeerPart) (d : DriverPart) → IsPeer s q x → IsDriver s p d → x.clock % 2 ≡ 0 → Free d index q → NewKey (record { stamp = x.clock + 1; origin = p; index = index }) x.queue
  stage_free p q index x d is driver even free =
      new_key (record { stamp = x.clock + 1; origin = p; index = index }) x.queue (λ f h same.
      staged_free q index x d is f.0 f.1 h (ap (λ k. is_odd k.stamp) same ∙ odd_behind x.clock even) (ap (λ k. k.index) same) (subst (λ n. IsDriver s n d) (sym (ap (λ k. k.origin) same)) driver) free)
