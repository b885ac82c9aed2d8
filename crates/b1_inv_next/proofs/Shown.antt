-- A RECV that can't take its front shows the right one; and a drained state's record is whole.
use Rattle.std.proofs.Common.{◌≡◌, ◌≢◌, ◌⊎◌, refl, sym, ap, subst, ◌∙◌, inl, inr, ℕ, zero, suc, ◌==◌, Bool, true, false, ◌&&◌, not, List, [], ◌∷◌, length, Option, Some, None, Ok, Err, Result}
use Rattle.std.specs.Prelude.{slice_get, is_none}
use Rattle.std.specs.List.{list_any, list_all}
use Rattle.std.proofs.lemmas.Bool.{and_parts, eq-eqb}
use Rattle.std.proofs.lemmas.Option.{same_Some, slice_get_within}
use native.Mathlib.Omega.{arith}
use Rattle.b1_model.specs.declared.commands.Command.{Command}
use Rattle.b1_model.specs.declared.commands.Command.TheVariants as cmd
use Rattle.b1_model.specs.declared.naming.Key.{Key}
use Rattle.b1_model.specs.declared.naming.Opening.{Opening}
use Rattle.b1_model.specs.declared.answers.Answer.{Answer}
use Rattle.b1_model.specs.declared.answers.Answer.TheVariants as answer
use Rattle.b1_model.specs.declared.answers.Front.{Front}
use Rattle.b1_model.specs.declared.answers.Receipt.{Receipt}
use Rattle.b1_model.specs.declared.answers.Front.TheVariants.{Absent, Staged}
use Rattle.b1_model.specs.declared.answers.Reason.TheVariants.{Again}
use Rattle.b1_model.specs.declared.entries.Entry.{Entry}
use Rattle.b1_model.specs.declared.entries.Entry.TheVariants.{Message, OwnNotice, ForeignNotice, ReleaseNotice}
use Rattle.b1_model.specs.declared.events.Action.TheVariants as act
use Rattle.b1_model.specs.declared.events.Doing.{Doing}
use Rattle.b1_model.specs.declared.events.Phase.TheVariants.{Starting}
use Rattle.b1_model.specs.Ledger.{stamp_of, is_below, is_before}
use Rattle.b1_model.specs.Legal.{is_candidate, Whole}
use Rattle.b1_model.specs.MachineParts.{PeerPart, DriverPart, State, is_staged, record_of}
use Rattle.b1_model.specs.MachineReceive.{cleared, taken_entry, front_by, front_taken, received, received_part}
use Rattle.b1_model.specs.MachineDriver.{refused_at}
use Rattle.b1_model.specs.MachineEvents.{happens}
use Rattle.b1_model.specs.MachineOrder.{has_staged, is_any_release_notice, is_staged_by, FrontShown, FrontRight, is_idle, Drained}
use Rattle.b1_model.specs.MachineStep.{Step, record_of_state}
use Rattle.b1_step.specs.Ordered.{Ascending}
use Rattle.b1_step.specs.Rights.{Has}
use Rattle.b1_step.proofs.Orders.{behind_has}
use Rattle.b1_inv.specs.Words.{IsPeer, IsDriver, IsMade, is_uncommitted}
use Rattle.b1_inv.specs.Sends.{SendShape}
use Rattle.b1_inv.specs.Sound.{IsSound}
use Rattle.b1_ledger.specs.Growth.{calls_len, is_quiet}
use Rattle.b1_ledger.proofs.KeyOrder.{below_is, Below, Before, before_is}
use Rattle.b1_ledger.proofs.NextAfter.{below_is_less, may_plain}
use Rattle.b1_ledger.proofs.Sequences.{and_of, or_left}
use Rattle.b1_inv_record.specs.Right.{IsRight}
use Rattle.b1_inv_notices.proofs.Turns.{get_there, parts, going, going_doing, going_action, going_answer}
use Rattle.b1_inv_tools.proofs.Received.{at_taken}
use Rattle.b1_inv_tools.proofs.Leaves.{new_peer, same_driver}
use Rattle.b1_inv_entries.proofs.Answers.{Fixes}
use Rattle.b1_inv_entries.proofs.NewCalls.{NewCall, new_call, SameCalls, as_many_records, records_length}
use Rattle.b1_inv_legal.proofs.Same.{candidate_is}
use Rattle.b1_inv_taken.proofs.Clears.{Receives, receives}
use Rattle.b1_inv_taken.proofs.Receipts.{starting, recv_here, own_peer}
use Rattle.b1_inv_next.specs.Queued.{Queued}
use Rattle.b1_inv_next.proofs.Idle.{as_many}
use Rattle.b1_inv_next.proofs.Notices.{candidate_queued}
use Rattle.b1_inv_next.proofs.Nobody.{found_record, has_record}
use Rattle.b1_inv_next.proofs.Fronts.{Kept, all_removed}

-- ---- what an absent and a staged front say

no_staged : (queue : List (Key × Entry)) → queue ≡ [] → (has_staged queue ≡ false) × (list_any is_any_release_notice queue ≡ false)
no_staged queue is = (ap has_staged is, ap (list_any is_any_release_notice) is)

none_queued : (x : PeerPart) (key : Key) → x.queue ≡ [] → Queued x key → ⊥
none_queued x key is (g, has, how) = absurd (subst (λ q. Has q g) is has)

any_first : (test : Key × Entry → Bool) (f : Key × Entry) (rest : List (Key × Entry)) → test f ≡ true → list_any test (f ∷ rest) ≡ true
any_first test f rest is = or_left (test f) (list_any test rest) is

all_of : (test : Key × Entry → Bool) (queue : List (Key × Entry)) → ((f : Key × Entry) → Has queue f → test f ≡ true) → list_all test queue ≡ true
all_of test [] h = refl
all_of test (f ∷ rest) h = and_of (test f) (list_all test rest) (h f (inl refl)) (all_of test rest (λ g there. h g (inr there)))

not_before : (a b : Key) → is_before b.stamp b.origin a.stamp a.origin ≡ true → is_below a b ≡ true → ⊥
not_before a b before below = by (before_is b.stamp b.origin a.stamp a.origin before) (below_is a b below)
  where
    by : Before b.stamp b.origin a.stamp a.origin → Below a b → ⊥
    by one two = grind (arith, one, two)

itself_not_before : (a : Key) → is_before a.stamp a.origin a.stamp a.origin ≡ true → ⊥
itself_not_before a is = by (before_is a.stamp a.origin a.stamp a.origin is)
  where
    by : Before a.stamp a.origin a.stamp a.origin → ⊥
    by one = grind (arith, one)

as_false : (b : Bool) → (b ≡ true → ⊥) → not b ≡ true
as_false true none = absurd (none refl)
as_false false none = refl

staged_front : (f : Key × Entry) (rest : List (Key × Entry)) → Ascending (f ∷ rest) → is_staged f ≡ true
    → (list_any (is_staged_by f.0.origin f.0.stamp) (f ∷ rest) ≡ true) × (list_all (λ g. not (is_before g.0.stamp g.0.origin f.0.stamp f.0.origin)) (f ∷ rest) ≡ true)
staged_front f rest up odd = (
  any_first (is_staged_by f.0.origin f.0.stamp) f rest (and_of (is_staged f && (f.0.origin == f.0.origin)) (f.0.stamp == f.0.stamp) (and_of (is_staged f) (f.0.origin == f.0.origin) odd (eq-eqb f.0.origin f.0.origin refl)) (eq-eqb f.0.stamp f.0.stamp refl)),
  all_of (λ g. not (is_before g.0.stamp g.0.origin f.0.stamp f.0.origin)) (f ∷ rest) behind,
)
  where
    behind : (g : Key × Entry) → Has (f ∷ rest) g → not (is_before g.0.stamp g.0.origin f.0.stamp f.0.origin) ≡ true
    behind g (inl same) = as_false (is_before g.0.stamp g.0.origin f.0.stamp f.0.origin) (λ is. itself_not_before f.0 (ap (λ h. is_before h.0.stamp h.0.origin f.0.stamp f.0.origin) (sym same) ∙ is))
    behind g (inr h) = as_false (is_before g.0.stamp g.0.origin f.0.stamp f.0.origin) (λ is. not_before f.0 g.0 is (below_is_less f.0 g.0 ∙ behind_has f.0 rest g up.0 h))

-- ---- the driver of a staged entry

uncommitted_open : (q : ℕ) (doing : Option Doing) (d : DriverPart) → d.doing ≡ doing → is_uncommitted d q ≡ true → is_none doing ≡ false
uncommitted_open q None d is un = let both : false ≡ true = sym (ap (λ z. is_uncommitted (record d { doing = z }) q) is) ∙ un in absurd (cc both)
uncommitted_open q (Some doing) d is un = refl

module _ {o : Opening} {s : State} (sound : IsSound o s) (right : IsRight o s) where
  driver_there : (q : ℕ) (y : PeerPart) → IsPeer s q y → (d : DriverPart) × IsDriver s q d
  driver_there q y is = get_there s.drivers q (let within = slice_get_within s.peers q y is in let same = as_many sound right in omega (arith, within, same))

  -- a staged entry is of an open command
  staged_open : (q : ℕ) (x : PeerPart) (f : Key × Entry) → IsPeer s q x → Has x.queue f → is_staged f ≡ true → (d : DriverPart) × IsDriver s f.0.origin d × (is_none d.doing ≡ false)
  staged_open q x (k, Message origin user index serial offset len nodes slots handles payload) is has odd =
      let sender = sound.stages.sender q x (k, Message origin user index serial offset len nodes slots handles payload) is has refl odd in
      (sender.driver, sender.is_driver, ap is_none sender.is_open)
  staged_open q x (k, OwnNotice serial index) is has odd =
      let shape = sound.notices.queued q x (k, OwnNotice serial index) is has in
      let d = driver_there q x is in
      (d.0, subst (λ r. IsDriver s r d.0) (sym shape.0) d.1, uncommitted_open q d.0.doing d.0 refl (shape.2 d.0 d.1 odd).0)
  staged_open q x (k, ForeignNotice node index) is has odd =
      let shape = sound.notices.queued q x (k, ForeignNotice node index) is has in
      let mark = right.parts.marks.marked q index x k node is has in
      let h = found_record node (record_of node x.handles) mark in
      let owner = subst (IsMade s) (has_record node x.handles h.0 h.1).1 (sound.flights.made q x h.0 is (has_record node x.handles h.0 h.1).0) in
      let d = driver_there node.owner owner.0 owner.1 in
      (d.0, subst (λ r. IsDriver s r d.0) (sym shape.0) d.1, uncommitted_open q d.0.doing d.0 refl (shape.3 d.0 d.1 odd).0)
  staged_open q x (k, ReleaseNotice serial) is has odd =
      let shape = sound.notices.queued q x (k, ReleaseNotice serial) is has in
      let both : true ≡ false = sym odd ∙ shape.2 in absurd (cc both)

-- ---- a RECV

module _ {o : Opening} {s : State} {p : ℕ} {c : Option Command} {t : State} (sound : IsSound o s) (right : IsRight o s) (step : Step o s p c t) (recv : going_action step ≡ act.Recv) where
  idle : step.driver.doing ≡ None
  idle = elim (parts step).was [
    | inr new ↦ new.0
    | inl open_is ↦
        let shape = sound.sends.shape p step.driver (going_doing step) step.is_driver open_is in
        absurd (subst (SendShape s (parts step).command) (starting sound right step recv).0 shape)
  ]

  peer_is : IsPeer s p step.peer
  peer_is = own_peer sound right step recv

  new_part : step.new_peer ≡ received_part step.peer
  new_part = sym (parts step).is_peer ∙ ap (λ a. (happens o step.local.memory (going step) (going_doing step) a step.peer).1) recv

  new_is : IsPeer t p step.new_peer
  new_is = subst (λ r. IsPeer t r step.new_peer) (recv_here sound right step recv) (new_peer step)

  kept : Kept sound right p step.driver step.peer step.is_driver peer_is idle (cleared step.peer)
  kept = (all_removed sound right p step.driver step.peer step.is_driver peer_is idle).0

  -- a RECV that takes nothing changes nothing of what may be received next
  same_candidates : (front : Front) → (received step.peer).front ≡ Err front → (key : Key) → is_candidate o.wires (record_of_state t) p (calls_len (record_of_state t) p) key ≡ is_candidate o.wires (record_of_state s) p (calls_len (record_of_state s) p) key
  same_candidates front none key = by (new_call sound step)
    where
      refused : Answer
      refused = refused_at (Again front) None

      quiet : (command : Command) → is_quiet command (refused_at (Again front) None) ≡ true
      quiet (cmd.Release n) = refl
      quiet command = refl

      fixed : (got : Answer) → Fixes (parts step).command (parts step).phase (going_answer step) got → got ≡ refused_at (Again front) None
      fixed got fixes =
          let plain : Fixes (parts step).command Starting (happens o step.local.memory (going step) (going_doing step) act.Recv step.peer).0 got =
          subst (λ ph. Fixes (parts step).command ph (happens o step.local.memory (going step) (going_doing step) act.Recv step.peer).0 got) (starting sound right step recv).0
          (subst (λ a. Fixes (parts step).command (parts step).phase (happens o step.local.memory (going step) (going_doing step) a step.peer).0 got) recv fixes) in
          plain ∙ ap (λ z. elim z [ Ok r ↦ answer.Got r | Err found ↦ refused_at (Again found) None ]) none

      by : SameCalls s t ⊎ NewCall step → is_candidate o.wires (record_of_state t) p (calls_len (record_of_state t) p) key ≡ is_candidate o.wires (record_of_state s) p (calls_len (record_of_state s) p) key
      by (inl same) = candidate_is o.wires (record_of_state s) (record_of_state t) (as_many_records sound step) same p (calls_len (record_of_state t) p) key ∙ ap (λ n. is_candidate o.wires (record_of_state s) p n key) (ap length (same p))
      by (inr new) =
          let answer_is : new.call.answer ≡ refused_at (Again front) None = ap (λ k. k.answer) new.is_call ∙ fixed new.got new.fixes in
          may_plain o (record_of_state s) (record_of_state t) p new.call new.appends right.legal (ap stamp_of answer_is) (ap (is_quiet new.call.command) answer_is ∙ quiet new.call.command) p key

  front_shown : (front : Front) → (received step.peer).front ≡ Err front → received_part step.peer ≡ cleared step.peer → (queue : List (Key × Entry)) → (cleared step.peer).queue ≡ queue → FrontShown o t p step.new_peer front
  front_shown front none same queue is = by queue is front (sym (ap (λ q. (front_taken (cleared step.peer) q).0) is) ∙ none) none
    where
      part : step.new_peer.queue ≡ (cleared step.peer).queue
      part = ap (λ y. y.queue) (new_part ∙ same)

      at_front : (b : Bool) (f : Key × Entry) (rest : List (Key × Entry)) → is_staged f ≡ b → (cleared step.peer).queue ≡ f ∷ rest → (shown : Front) → (front_by b (cleared step.peer) f rest).0 ≡ Err shown → FrontShown o t p step.new_peer shown
      at_front false f rest even front_is shown found = absurd (cc found)
      at_front true f rest odd front_is shown found =
          let show : Staged f.0.origin f.0.stamp ≡ shown = same_err (Staged f.0.origin f.0.stamp) shown found in
          let has = kept.was f (subst (λ q. Has q f) (sym front_is) (inl refl)) in
          let opens = staged_open sound right p step.peer f peer_is has odd in
          let apart : f.0.origin ≢ p = λ here.
          let own : opens.0 ≡ step.driver = same_Some opens.0 step.driver (sym opens.1 ∙ ap (slice_get s.drivers) here ∙ step.is_driver) in
          let both : true ≡ false = sym (ap is_none (ap (λ e. e.doing) own ∙ idle)) ∙ opens.2 in cc both in
          let facts = staged_front f rest (subst Ascending front_is kept.ascending) odd in
          let queue_is : step.new_peer.queue ≡ f ∷ rest = part ∙ front_is in
          subst (FrontShown o t p step.new_peer) show (
            (opens.0, same_driver step f.0.origin opens.0 apart opens.1, opens.2),
            ap (list_any (is_staged_by f.0.origin f.0.stamp)) queue_is ∙ facts.0,
            ap (list_all (λ g. not (is_before g.0.stamp g.0.origin f.0.stamp f.0.origin))) queue_is ∙ facts.1,
          )
        where
          same_err : (a b : Front) → ◌≡◌ {A = Result Receipt Front} (Err a) (Err b) → a ≡ b
          same_err a b is = cc is

      by : (q : List (Key × Entry)) → (cleared step.peer).queue ≡ q → (shown : Front) → (front_taken (cleared step.peer) q).0 ≡ Err shown → (received step.peer).front ≡ Err shown → FrontShown o t p step.new_peer shown
      by [] empty shown found again =
          let show : Absent ≡ shown = same_absent shown found in
          let facts = no_staged step.new_peer.queue (part ∙ empty) in
          subst (FrontShown o t p step.new_peer) show (facts.0, facts.1, λ key. nothing key)
        where
          same_absent : (b : Front) → ◌≡◌ {A = Result Receipt Front} (Err Absent) (Err b) → Absent ≡ b
          same_absent b is = cc is

          nothing : (key : Key) → is_candidate o.wires (record_of_state t) p (calls_len (record_of_state t) p) key ≡ false
          nothing key = by_bool (is_candidate o.wires (record_of_state s) p (calls_len (record_of_state s) p) key) refl
            where
              by_bool : (b : Bool) → is_candidate o.wires (record_of_state s) p (calls_len (record_of_state s) p) key ≡ b → is_candidate o.wires (record_of_state t) p (calls_len (record_of_state t) p) key ≡ false
              by_bool true may = absurd (none_queued (cleared step.peer) key empty (kept.candidates key may))
              by_bool false not_now = same_candidates shown again key ∙ not_now
      by (f ∷ rest) front_is shown found again = at_front (is_staged f) f rest refl front_is shown found

  -- the front that a RECV couldn't take is right in the state after
  shown_now : (front : Front) → (received step.peer).front ≡ Err front → FrontRight o t p front
  shown_now front none = (step.new_peer, new_is, front_shown front none (by (receives step.peer)) (cleared step.peer).queue refl)
    where
      by : Receives step.peer → received_part step.peer ≡ cleared step.peer
      by (inl same) = same.1
      by (inr (f, rest, took)) = absurd (cc (sym none ∙ took.answer))

-- by the action of the step
module _ {o : Opening} {s : State} {p : ℕ} {c : Option Command} {t : State} (sound : IsSound o s) (step : Step o s p c t) (is_recv : step.action ≡ act.Recv) where
  recv_now : going_action step ≡ act.Recv
  recv_now = (parts step).is_action ∙ is_recv

  pub takes : (got : Receipt) → (received step.peer).front ≡ Ok got → (f : Key × Entry) × (rest : List (Key × Entry)) × ((cleared step.peer).queue ≡ f ∷ rest) × (is_staged f ≡ false)
      × (got ≡ (taken_entry (record (cleared step.peer) { queue = rest }) f.0 f.1).0) × (step.new_peer.queue ≡ rest)
  takes got is = by (receives step.peer)
    where
      same_ok : (a b : Receipt) → ◌≡◌ {A = Result Receipt Front} (Ok a) (Ok b) → a ≡ b
      same_ok a b both = cc both

      by : Receives step.peer → (f : Key × Entry) × (rest : List (Key × Entry)) × ((cleared step.peer).queue ≡ f ∷ rest) × (is_staged f ≡ false)
          × (got ≡ (taken_entry (record (cleared step.peer) { queue = rest }) f.0 f.1).0) × (step.new_peer.queue ≡ rest)
      by (inl same) = let both : Ok got ≡ Err same.0.0 = sym is ∙ same.0.1 in absurd (cc both)
      by (inr (f, rest, took)) = (
        f,
        rest,
        took.queue,
        took.even,
        same_ok got _ (sym is ∙ took.answer),
        ap (λ y. y.queue) (sym (parts step).is_peer ∙ ap (λ a. (happens o step.local.memory (going step) (going_doing step) a step.peer).1) recv_now ∙ took.part) ∙ (at_taken f.1 f.0 (record (cleared step.peer) { queue = rest })).0,
      )

pub again : {o : Opening} {s : State} {p : ℕ} {c : Option Command} {t : State} → IsSound o s → IsRight o s → (step : Step o s p c t) → step.action ≡ act.Recv → (front : Front) → (received step.peer).front ≡ Err front → FrontRight o t p front
again sound right step is_recv front none = shown_now sound right step ((parts step).is_action ∙ is_recv) front none

-- ---- drained states

idle_there : (drivers : List DriverPart) (q : ℕ) (d : DriverPart) → list_all is_idle drivers ≡ true → slice_get drivers q ≡ Some d → d.doing ≡ None
idle_there [] q d all is = absurd (cc is)
idle_there (e ∷ rest) zero d all is = by d.doing refl (ap is_idle (sym (same_Some e d is)) ∙ (and_parts (is_idle e) (list_all is_idle rest) all).0)
  where
    by : (doing : Option Doing) → d.doing ≡ doing → is_idle d ≡ true → d.doing ≡ None
    by None open_is idle = open_is
    by (Some one) open_is idle = let both : false ≡ true = sym (ap is_none open_is) ∙ idle in absurd (cc both)
idle_there (e ∷ rest) (suc q) d all is = idle_there rest q d (and_parts (is_idle e) (list_all is_idle rest) all).1 is

pub drained_is_whole : {o : Opening} {s : State} → IsSound o s → IsRight o s → Drained s → Whole o (record_of_state s)
drained_is_whole {o = o} {s = s} sound right drained p low key =
    let x = get_there s.peers p (let same = records_length s.peers s.drivers (as_many sound right) in omega (arith, low, same)) in
    let d = driver_there sound right p x.0 x.1 in
    let idle = idle_there s.drivers p d.0 drained.none_open d.1 in
    by x.0 d.0 x.1 d.1 idle (is_candidate o.wires (record_of_state s) p (calls_len (record_of_state s) p) key) refl d.0.shut refl
  where
    by : (x : PeerPart) (d : DriverPart) → IsPeer s p x → IsDriver s p d → d.doing ≡ None → (b : Bool) → is_candidate o.wires (record_of_state s) p (calls_len (record_of_state s) p) key ≡ b → (shut : Bool) → d.shut ≡ shut
        → is_candidate o.wires (record_of_state s) p (calls_len (record_of_state s) p) key ≡ false
    by x d is_peer is_driver idle false is shut closed = is
    by x d is_peer is_driver idle true is false closed = absurd (none_queued x key (drained.empty p d x is_driver is_peer closed) (candidate_queued sound right p d x is_driver is_peer idle key is))
    by x d is_peer is_driver idle true is true closed = absurd (none_queued x key (right.names.shut.queue p d x is_driver is_peer closed) (candidate_queued sound right p d x is_driver is_peer idle key is))
