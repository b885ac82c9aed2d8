-- A node whose own notice was taken is destroyed, and has none queued; no node has two queued.
use Rattle.std.proofs.Common.{◌≡◌, ◌⊎◌, refl, sym, ap, subst, ◌∙◌, inl, inr, ℕ, zero, suc, ◌+◌, ◌<◌, Bool, true, false, cond, List, [], ◌∷◌, drop, get_or, length, Option, Some, None}
use Rattle.std.specs.Prelude.{slice_get, ⊤}
use Rattle.std.proofs.lemmas.Option.{slice_get_within, get_or_from_slice_get}
use Rattle.b1_model.specs.declared.commands.Command.{Command}
use Rattle.b1_model.specs.declared.commands.Command.TheVariants as cmd
use Rattle.b1_model.specs.declared.naming.Key.{Key}
use Rattle.b1_model.specs.declared.naming.Opening.{Opening}
use Rattle.b1_model.specs.declared.entries.Entry.{Entry}
use Rattle.b1_model.specs.declared.entries.Entry.TheVariants.{Message, OwnNotice, ForeignNotice, ReleaseNotice}
use Rattle.b1_model.specs.declared.events.Action.{Action}
use Rattle.b1_model.specs.declared.events.Action.TheVariants as act
use Rattle.b1_model.specs.declared.events.OwedDrop.{OwedDrop}
use Rattle.b1_model.specs.declared.events.Phase.{Phase}
use Rattle.b1_model.specs.declared.events.Phase.TheVariants.{Starting}
use Rattle.b1_model.specs.MachineParts.{PeerPart, DriverPart, NodePart, State, no_node, node_at, is_live, is_destroyed, is_staged, key_before}
use Rattle.b1_model.specs.MachineTables.{is_stage, is_staged_notice}
use Rattle.b1_model.specs.MachineSend.{with_stamp}
use Rattle.b1_model.specs.MachineReceive.{received_part}
use Rattle.b1_model.specs.MachineDriver.{first_action, next_action, peer_of}
use Rattle.b1_model.specs.MachineEvents.{happens, begin_serials, begin_refusal, slots_at}
use Rattle.b1_model.specs.MachineStep.{Step, opening_state, wire_made, wire_counted}
use Rattle.b1_step.specs.Rights.{Has}
use Rattle.b1_step.specs.Ordered.{Ascending}
use Rattle.b1_step.proofs.Lists.{has_at}
use Rattle.b1_step.proofs.Orders.{find_has, behind_has, key_not_itself}
use Rattle.b1_inv.specs.Words.{IsPeer, IsDriver, is_uncommitted}
use Rattle.b1_inv.specs.Notices.{Apart}
use Rattle.b1_inv.specs.Sound.{IsSound}
use Rattle.b1_inv_record.specs.Destructions.{own_ref}
use Rattle.b1_inv_record.specs.Right.{IsRight}
use Rattle.b1_inv_tools.proofs.Comes.{Comes, ComesOrWas, leaves, has_drop, queue_comes}
use Rattle.b1_inv_tools.proofs.Leaves.{peer_cases}
use Rattle.b1_model.specs.Names.{is_own}
use Rattle.b1_model.specs.MachineTables.{with_made, counted}
use Rattle.b1_model.specs.declared.naming.NodeRef.{NodeRef}
use Rattle.b1_inv_tools.proofs.Openings.{opening_each}
use Rattle.b1_inv_notices.proofs.Turns.{doing_in, opened, parts, going, going_doing, going_action}
use Rattle.b1_inv_notices.proofs.Serials.{reset_apart, accepted_apart}
use Rattle.b1_inv_destroys.specs.OwnNotices.{OwnOnce, OwnUntaken, TakenDestroyed}
use Rattle.b1_inv_destroys.proofs.Keyed.{stage_is_message, message_none, notice_node}
use Rattle.b1_inv_destroys.proofs.Nodes.{with_same, made_same, taken_same, recv_taking, begun_live, live_apart, destroyed_stays}
use Rattle.b1_inv_sends.proofs.StagesKept.{opening_queue}

abbrev pub is_own_notice : Entry → Bool
is_own_notice (Message origin user index serial offset len nodes slots handles payload) = false
is_own_notice (OwnNotice serial index) = true
is_own_notice (ForeignNotice node index) = false
is_own_notice (ReleaseNotice serial) = false

-- the serial of an own notice
abbrev pub own_serial : Entry → ℕ
own_serial (OwnNotice serial index) = serial
own_serial e = 0

-- ---- lists

pub at_or_none : (ns : List NodePart) (serial : ℕ) → ((n : NodePart) × (slice_get ns serial ≡ Some n)) ⊎ (get_or ns serial no_node ≡ no_node)
at_or_none [] serial = inr refl
at_or_none (n ∷ ns) zero = inl (n, refl)
at_or_none (n ∷ ns) (suc serial) = at_or_none ns serial

apart_index : (list : List ℕ) (i j n : ℕ) → Apart list → slice_get list i ≡ Some n → slice_get list j ≡ Some n → i ≡ j
apart_index [] i j n apart is also = absurd (cc is)
apart_index (m ∷ rest) zero zero n apart is also = refl
apart_index (m ∷ rest) zero (suc j) n apart is also = let same : m ≡ n = cc is in absurd (apart.0 (subst (Has rest) (sym same) (has_at rest j n also)))
apart_index (m ∷ rest) (suc i) zero n apart is also = let same : m ≡ n = cc also in absurd (apart.0 (subst (Has rest) (sym same) (has_at rest i n is)))
apart_index (m ∷ rest) (suc i) (suc j) n apart is also = ap suc (apart_index rest i j n apart.1 is also)

drop_ascending : (n : ℕ) (queue : List (Key × Entry)) → Ascending queue → Ascending (drop n queue)
drop_ascending zero queue up = up
drop_ascending (suc n) [] up = up
drop_ascending (suc n) (f ∷ rest) up = drop_ascending n rest up.1

begun_apart : (command : Command) (x : PeerPart) → begin_refusal command x ≡ None → Apart (begin_serials command x)
begun_apart (cmd.Destroy numbers) x none = accepted_apart x numbers none
begun_apart command x none = reset_apart x

-- ---- a destruction begins where no command was going on

abbrev pub is_starting : Phase → Bool
is_starting Starting = true
is_starting phase = false

abbrev pub BeginPhase : Phase → Action → Type 0
BeginPhase phase act.BeginDestroy = is_starting phase ≡ true
BeginPhase phase action = ⊤

begin_phase : (d : DriverPart) (command : Command) (phase : Phase) (owed : List OwedDrop) → BeginPhase phase (next_action (opened d command phase owed))
begin_phase d command phase (one ∷ rest) = tt
begin_phase d command Starting [] = first d.shut command
  where
    first : (b : Bool) (command : Command) → BeginPhase Starting (cond b act.Local (first_action command))
    first true command = tt
    first false cmd.Disconnect = refl
    first false (cmd.Reset limits) = refl
    first false (cmd.Destroy numbers) = refl
    first false command = tt
begin_phase d command phase [] = tt

pub starting_is : (phase : Phase) → is_starting phase ≡ true → phase ≡ Starting
starting_is Starting is = refl
starting_is phase is = absurd (cc is)

module _ {o : Opening} {s : State} {p : ℕ} {c : Option Command} {t : State} (sound : IsSound o s) (right : IsRight o s) (step : Step o s p c t) where
  abbrev after : Action → PeerPart
  after action = (happens o step.local.memory (going step) (going_doing step) action step.peer).1

  -- ---- of the state before

  dead_before : (q serial : ℕ) (x : PeerPart) → IsPeer s q x → (node_at x serial).taken ≡ true → (serial < length x.nodes) × (is_destroyed (node_at x serial).state ≡ true)
  dead_before q serial x is taken = elim (at_or_none x.nodes serial) [
    | inl (n, at) ↦
        let same = get_or_from_slice_get x.nodes serial n no_node at in
        (slice_get_within x.nodes serial n at, ap (λ m. is_destroyed m.state) same ∙ right.destructions.own.taken q serial x n is at (ap (λ m. m.taken) (sym same) ∙ taken))
    | inr none ↦ let no : false ≡ true = ap (λ m. m.taken) (sym none) ∙ taken in absurd (cc no)
  ]

  notice_dead : (q i serial : ℕ) (x : PeerPart) (k : Key) → IsPeer s q x → Has x.queue (k, OwnNotice serial i) → is_staged (k, OwnNotice serial i) ≡ false → (serial < length x.nodes) × (is_destroyed (node_at x serial).state ≡ true)
  notice_dead q i serial x k is has even =
      let low = right.parts.serials.made q x (k, OwnNotice serial i) is has in
      elim (at_or_none x.nodes serial) [
        | inl (n, at) ↦
            let same = get_or_from_slice_get x.nodes serial n no_node at in
            (low, ap (λ m. is_destroyed m.state) same ∙ ap is_destroyed (right.destructions.dying.recorded q serial x n k is at (right.destructions.own.queued q i serial x k is has even)))
        | inr none ↦ (low, ap (λ m. is_destroyed m.state) none)
      ]

  -- ---- a node whose notice was taken

  taken_source : (action : Action) (serial : ℕ) → (node_at (after action) serial).taken ≡ true → (serial < length step.peer.nodes) × (is_destroyed (node_at step.peer serial).state ≡ true)
  taken_source act.Recv serial is = elim (recv_taking step.peer serial is) [
    | inl old ↦ dead_before step.at serial step.peer step.is_peer old
    | inr (k, i, n, front, even) ↦ notice_dead step.at i serial step.peer k step.is_peer (has_drop n step.peer.queue (k, OwnNotice serial i) (subst (λ list. Has list (k, OwnNotice serial i)) (sym front) (inl refl))) even
  ]
  taken_source action serial is = dead_before step.at serial step.peer step.is_peer (sym (taken_same o step.local.memory (going step) (going_doing step) action step.peer refl serial) ∙ is)

  here_dead : (serial : ℕ) → (node_at step.new_peer serial).taken ≡ true → is_destroyed (node_at step.new_peer serial).state ≡ true
  here_dead serial taken =
      let k = taken_source (going_action step) serial (ap (λ y. (node_at y serial).taken) (parts step).is_peer ∙ taken) in
      ap (λ y. is_destroyed (node_at y serial).state) (sym (parts step).is_peer) ∙ destroyed_stays o step.local.memory (going step) (going_doing step) step.peer (going_action step) serial k.0 k.1

  pub taken_destroyed : TakenDestroyed t
  taken_destroyed q serial y n is at taken = elim (peer_cases step q y is) [
    | inr other ↦ right.destructions.own.taken q serial y n other.1 at taken
    | inl here ↦
        let same : node_at step.new_peer serial ≡ n = ap (λ z. node_at z serial) (sym here.1) ∙ get_or_from_slice_get y.nodes serial n no_node at in
        ap (λ m. is_destroyed m.state) (sym same) ∙ here_dead serial (ap (λ m. m.taken) same ∙ taken)
  ]

  -- ---- entries that come

  pub number : step.driver.me ≡ p
  number = sound.numbered.drivers p step.driver step.is_driver

  -- what a staged notice is under its new key
  pub under : (k : Key) (serial i stamp : ℕ) (g : Key × Entry) → ◌≡◌ {A = Key × Entry} (k, OwnNotice serial i) (with_stamp stamp g) → Has step.peer.queue g → Has step.peer.queue (g.0, OwnNotice serial i)
  under k serial i stamp g same has = subst (λ e. Has step.peer.queue (g.0, e)) (ap (λ z. z.1) (sym same)) has

  idle : (q : ℕ) → is_starting (parts step).phase ≡ true → is_uncommitted step.driver q ≡ false
  idle q starting =
      let phase = starting_is (parts step).phase starting in
      elim (parts step).was [
        | inl open_is ↦ ap (λ z. is_uncommitted (record step.driver { doing = z }) q) (open_is ∙ ap (λ z. Some (doing_in (parts step).command z)) phase)
        | inr new ↦ ap (λ z. is_uncommitted (record step.driver { doing = z }) q) new.0
      ]

  -- no live node has an own notice where a destruction begins
  pub none_live : (k : Key) (i serial : ℕ) → is_starting (parts step).phase ≡ true → step.at ≡ p → Has step.peer.queue (k, OwnNotice serial i) → is_live (node_at step.peer serial).state ≡ true → ⊥
  none_live k i serial starting here has live = by (is_staged (k, OwnNotice serial i)) refl
    where
      by : (b : Bool) → is_staged (k, OwnNotice serial i) ≡ b → ⊥
      by false even = live_apart (node_at step.peer serial).state live (notice_dead step.at i serial step.peer k step.is_peer has even).1
      by true odd =
          let shape = sound.notices.queued step.at step.peer (k, OwnNotice serial i) step.is_peer has in
          let waits = (shape.2 step.driver (subst (λ r. IsDriver s r step.driver) (sym here) step.is_driver) odd).0 in
          let no : false ≡ true = sym (idle step.at starting) ∙ waits in absurd (cc no)

  old_new : (action : Action) (k l : Key) (i j serial : ℕ) → BeginPhase (parts step).phase action → peer_of step.driver.me action ≡ step.at → Has step.peer.queue (k, OwnNotice serial i) → leaves (going step) action (k, OwnNotice serial i) ≡ false
      → Comes o (going step) (going_doing step) step.peer action (l, OwnNotice serial j) → ⊥
  old_new (act.Stage peer place) k l i j serial begins at has stays comes = let none : Some (own_ref 0 serial) ≡ None = ap (λ z. notice_node 0 z.1) comes in absurd (cc none)
  old_new (act.Commit peer place stamp) k l i j serial begins at has stays (g, found, same) =
      let message = stage_is_message step.driver.me place g (find_has (is_stage step.driver.me place) step.peer.queue g found).1 in
      let none : Some (own_ref 0 serial) ≡ None = ap (λ z. notice_node 0 z.1) same ∙ message_none 0 (slots_at (parts step).phase place) g.1 message in absurd (cc none)
  old_new (act.CommitNotices peer stamp) k l i j serial begins at has stays (g, there, staged, same) =
      let key : k ≡ g.0 = right.destructions.own.once step.at i j serial step.peer k g.0 step.is_peer has (under l serial j stamp g same there) in
      let entry : is_staged_notice step.driver.me (g.0, OwnNotice serial j) ≡ true = ap (λ e. is_staged_notice step.driver.me (g.0, e)) (ap (λ z. z.1) same) ∙ staged in
      let no : false ≡ true = sym stays ∙ ap (λ z. is_staged_notice step.driver.me (z, OwnNotice serial i)) key ∙ entry in absurd (cc no)
  old_new (act.DropRefs peer one holder n clock) k l i j serial begins at has stays comes = let none : Some (own_ref 0 serial) ≡ None = ap (λ z. notice_node 0 z.1) comes.0 in absurd (cc none)
  old_new act.BeginDestroy k l i j serial begins at has stays (index, one, there, same, accepted) =
      let mine : serial ≡ one = ap (λ z. own_serial z.1) same in
      none_live k i serial begins (sym at ∙ number) has (begun_live step.peer (parts step).command serial (has_at (begin_serials (parts step).command step.peer) index serial (there ∙ ap Some (sym mine))))
  old_new (act.Visit peer) k l i j serial begins at has stays (index, one, there, same) = let no : true ≡ false = ap (λ z. is_own_notice z.1) same in absurd (cc no)
  old_new action k l i j serial begins at has stays comes = absurd comes

  new_new : (action : Action) (k l : Key) (i j serial : ℕ) → Comes o (going step) (going_doing step) step.peer action (k, OwnNotice serial i) → Comes o (going step) (going_doing step) step.peer action (l, OwnNotice serial j) → k ≡ l
  new_new (act.Stage peer place) k l i j serial comes also = let none : Some (own_ref 0 serial) ≡ None = ap (λ z. notice_node 0 z.1) comes in absurd (cc none)
  new_new (act.Commit peer place stamp) k l i j serial (g, found, same) also =
      let message = stage_is_message step.driver.me place g (find_has (is_stage step.driver.me place) step.peer.queue g found).1 in
      let none : Some (own_ref 0 serial) ≡ None = ap (λ z. notice_node 0 z.1) same ∙ message_none 0 (slots_at (parts step).phase place) g.1 message in absurd (cc none)
  new_new (act.CommitNotices peer stamp) k l i j serial (g, there, staged, same) (h, there_too, staged_too, same_too) =
      let key : g.0 ≡ h.0 = right.destructions.own.once step.at i j serial step.peer g.0 h.0 step.is_peer (under k serial i stamp g same there) (under l serial j stamp h same_too there_too) in
      ap (λ z. z.0) same ∙ ap {A = Key} {B = Key} (λ z. record z { stamp = stamp }) key ∙ ap (λ z. z.0) (sym same_too)
  new_new (act.DropRefs peer one holder n clock) k l i j serial comes also = let none : Some (own_ref 0 serial) ≡ None = ap (λ z. notice_node 0 z.1) comes.0 in absurd (cc none)
  new_new act.BeginDestroy k l i j serial (index, one, there, same, accepted) (index_too, one_too, there_too, same_too, accepted_too) =
      let mine : serial ≡ one = ap (λ z. own_serial z.1) same in
      let mine_too : serial ≡ one_too = ap (λ z. own_serial z.1) same_too in
      let place : index ≡ index_too = apart_index (begin_serials (parts step).command step.peer) index index_too serial (begun_apart (parts step).command step.peer accepted) (there ∙ ap Some (sym mine)) (there_too ∙ ap Some (sym mine_too)) in
      ap (λ z. z.0) same ∙ ap {A = ℕ} {B = Key} (λ n. record { stamp = step.peer.clock + 1; origin = step.peer.me; index = n }) place ∙ ap (λ z. z.0) (sym same_too)
  new_new (act.Visit peer) k l i j serial (index, one, there, same) also = let no : true ≡ false = ap (λ z. is_own_notice z.1) same in absurd (cc no)
  new_new action k l i j serial comes also = absurd comes

  one_key : (action : Action) (k l : Key) (i j serial : ℕ) → BeginPhase (parts step).phase action → peer_of step.driver.me action ≡ step.at
      → ComesOrWas o (going step) (going_doing step) step.peer action (k, OwnNotice serial i) → ComesOrWas o (going step) (going_doing step) step.peer action (l, OwnNotice serial j) → k ≡ l
  one_key action k l i j serial begins at (inl a) (inl b) = right.destructions.own.once step.at i j serial step.peer k l step.is_peer a.0 b.0
  one_key action k l i j serial begins at (inl a) (inr b) = absurd (old_new action k l i j serial begins at a.0 a.1 b)
  one_key action k l i j serial begins at (inr a) (inl b) = absurd (old_new action l k j i serial begins at b.0 b.1 a)
  one_key action k l i j serial begins at (inr a) (inr b) = new_new action k l i j serial a b

  pub came : (f : Key × Entry) → Has step.new_peer.queue f → ComesOrWas o (going step) (going_doing step) step.peer (going_action step) f
  came f has = queue_comes o (going step) (going_doing step) f step.local.memory (going_action step) step.peer (subst (λ y. Has y.queue f) (sym (parts step).is_peer) has)

  pub begins_here : BeginPhase (parts step).phase (going_action step)
  begins_here = begin_phase step.driver (parts step).command (parts step).phase step.driver.owed

  pub own_once : OwnOnce t
  own_once q i j serial y k l is has also = elim (peer_cases step q y is) [
    | inr other ↦ right.destructions.own.once q i j serial y k l other.1 has also
    | inl here ↦
        one_key (going_action step) k l i j serial begins_here (parts step).is_at
        (came (k, OwnNotice serial i) (subst (λ z. Has z.queue (k, OwnNotice serial i)) here.1 has))
        (came (l, OwnNotice serial j) (subst (λ z. Has z.queue (l, OwnNotice serial j)) here.1 also))
  ]

  -- ---- queued notices aren't taken

  old_taken : (k : Key) (i serial : ℕ) → Has step.peer.queue (k, OwnNotice serial i) → (node_at step.peer serial).taken ≡ true → ⊥
  old_taken k i serial has taken = let no : false ≡ true = sym (right.destructions.own.untaken step.at i serial step.peer k step.is_peer has) ∙ taken in absurd (cc no)

  new_taken : (action : Action) (k : Key) (i serial : ℕ) → Comes o (going step) (going_doing step) step.peer action (k, OwnNotice serial i) → (node_at step.peer serial).taken ≡ true → ⊥
  new_taken (act.Stage peer place) k i serial comes taken = let none : Some (own_ref 0 serial) ≡ None = ap (λ z. notice_node 0 z.1) comes in absurd (cc none)
  new_taken (act.Commit peer place stamp) k i serial (g, found, same) taken =
      let message = stage_is_message step.driver.me place g (find_has (is_stage step.driver.me place) step.peer.queue g found).1 in
      let none : Some (own_ref 0 serial) ≡ None = ap (λ z. notice_node 0 z.1) same ∙ message_none 0 (slots_at (parts step).phase place) g.1 message in absurd (cc none)
  new_taken (act.CommitNotices peer stamp) k i serial (g, there, staged, same) taken = old_taken g.0 i serial (under k serial i stamp g same there) taken
  new_taken (act.DropRefs peer one holder n clock) k i serial comes taken = let none : Some (own_ref 0 serial) ≡ None = ap (λ z. notice_node 0 z.1) comes.0 in absurd (cc none)
  new_taken act.BeginDestroy k i serial (index, one, there, same, accepted) taken =
      let mine : serial ≡ one = ap (λ z. own_serial z.1) same in
      live_apart (node_at step.peer serial).state
      (begun_live step.peer (parts step).command serial (has_at (begin_serials (parts step).command step.peer) index serial (there ∙ ap Some (sym mine))))
      (dead_before step.at serial step.peer step.is_peer taken).1
  new_taken (act.Visit peer) k i serial (index, one, there, same) taken = let no : true ≡ false = ap (λ z. is_own_notice z.1) same in absurd (cc no)
  new_taken action k i serial comes taken = absurd comes

  either_taken : (action : Action) (k : Key) (i serial : ℕ) → ComesOrWas o (going step) (going_doing step) step.peer action (k, OwnNotice serial i) → (node_at step.peer serial).taken ≡ true → ⊥
  either_taken action k i serial (inl old) taken = old_taken k i serial old.0 taken
  either_taken action k i serial (inr new) taken = new_taken action k i serial new taken

  -- what stands behind the taken front has another key
  behind_front : (k l : Key) (i j n serial : ℕ) (rest : List (Key × Entry)) → drop n step.peer.queue ≡ (k, OwnNotice serial i) ∷ rest → Has rest (l, OwnNotice serial j) → ⊥
  behind_front k l i j n serial rest front has =
      let up : Ascending ((k, OwnNotice serial i) ∷ rest) = subst Ascending front (drop_ascending n step.peer.queue (right.parts.keys.ascending step.at step.peer step.is_peer)) in
      let inside : (f : Key × Entry) → Has ((k, OwnNotice serial i) ∷ rest) f → Has step.peer.queue f = λ f h. has_drop n step.peer.queue f (subst (λ list. Has list f) (sym front) h) in
      let same : k ≡ l = right.destructions.own.once step.at i j serial step.peer k l step.is_peer (inside (k, OwnNotice serial i) (inl refl)) (inside (l, OwnNotice serial j) (inr has)) in
      let less : key_before k k ≡ true = ap (key_before k) same ∙ behind_has k rest (l, OwnNotice serial j) up.0 has in
      absurd (cc (sym less ∙ key_not_itself k))

  untaken_by : (action : Action) (k : Key) (i serial : ℕ) → Has (after action).queue (k, OwnNotice serial i) → (node_at (after action) serial).taken ≡ true → ⊥
  untaken_by act.Recv k i serial has taken = elim (recv_taking step.peer serial taken) [
    | inl old ↦ either_taken act.Recv k i serial (queue_comes o (going step) (going_doing step) (k, OwnNotice serial i) step.local.memory act.Recv step.peer has) old
    | inr (l, j, n, front, even) ↦ behind_front l k j i n serial (received_part step.peer).queue front has
  ]
  untaken_by action k i serial has taken =
      either_taken action k i serial (queue_comes o (going step) (going_doing step) (k, OwnNotice serial i) step.local.memory action step.peer has) (sym (taken_same o step.local.memory (going step) (going_doing step) action step.peer refl serial) ∙ taken)

  here_untaken : (k : Key) (i serial : ℕ) → Has step.new_peer.queue (k, OwnNotice serial i) → (node_at step.new_peer serial).taken ≡ true → ⊥
  here_untaken k i serial has taken = untaken_by (going_action step) k i serial (subst (λ y. Has y.queue (k, OwnNotice serial i)) (sym (parts step).is_peer) has) (ap (λ y. (node_at y serial).taken) (parts step).is_peer ∙ taken)

  not_true : (b : Bool) → (b ≡ true → ⊥) → b ≡ false
  not_true true none = absurd (none refl)
  not_true false none = refl

  pub own_untaken : OwnUntaken t
  own_untaken q i serial y k is has = elim (peer_cases step q y is) [
    | inr other ↦ right.destructions.own.untaken q i serial y k other.1 has
    | inl here ↦ ap (λ z. (node_at z serial).taken) here.1 ∙ not_true (node_at step.new_peer serial).taken (here_untaken k i serial (subst (λ z. Has z.queue (k, OwnNotice serial i)) here.1 has))
  ]

-- ---- the opening

pub made_untaken : (number : ℕ) (x : PeerPart) → ((serial : ℕ) → (node_at x serial).taken ≡ false) → (serial : ℕ) → (node_at (wire_made number x) serial).taken ≡ false
made_untaken number x none = elim (is_own number) as (λ b. (serial : ℕ) → (node_at (cond b (record x { nodes = with_made x.peers number x.nodes }) x) serial).taken ≡ false) [ true ↦ λ serial. made_same x.peers number x.nodes serial ∙ none serial | false ↦ none ]

pub counted_untaken : (node : NodeRef) (dest : ℕ) (x : PeerPart) → ((serial : ℕ) → (node_at x serial).taken ≡ false) → (serial : ℕ) → (node_at (wire_counted node dest x) serial).taken ≡ false
counted_untaken node dest x none serial = with_same (counted dest) (λ n. refl) x.nodes node.serial serial ∙ none serial

pub taken_begins : (o : Opening) → TakenDestroyed (opening_state o)
taken_begins o q serial x n is at taken =
    let none = opening_each (λ y. (one : ℕ) → (node_at y one).taken ≡ false) made_untaken counted_untaken (λ node y before. before) o (λ me spec one. refl) q x is serial in
    let no : false ≡ true = sym none ∙ ap (λ m. m.taken) (get_or_from_slice_get x.nodes serial n no_node at) ∙ taken in absurd (cc no)

pub once_begins : (o : Opening) → OwnOnce (opening_state o)
once_begins o q i j serial x k l is has also = absurd (subst (λ queue. Has queue (k, OwnNotice serial i)) (opening_queue o q x is) has)

pub untaken_begins : (o : Opening) → OwnUntaken (opening_state o)
untaken_begins o q i serial x k is has = absurd (subst (λ queue. Has queue (k, OwnNotice serial i)) (opening_queue o q x is) has)
