-- What the events of an open destruction need holds in a reached state.
use Rattle.std.proofs.Common.{◌≡◌, ◌≢◌, refl, sym, ap, ◌∙◌, inl, inr, subst, ℕ, zero, suc, ◌<◌, ◌≤◌, ◌==◌, Bool, true, false, cond, ◌&&◌, ◌||◌, not, List, [], ◌∷◌, drop, length, filter, get_or, Option, Some, None, slice_get}
use Rattle.std.specs.Prelude.{AllPairs}
use Rattle.std.specs.List.{All}
use Rattle.std.proofs.lemmas.Bool.{eqb-true, eq-eqb}
use Rattle.std.proofs.lemmas.Option.{get_or_from_slice_get}
use Rattle.std.proofs.lemmas.List.Elements.{All-nil, All-cons}
use Rattle.std.proofs.lemmas.List.Kept.{AllPairs-cons}
use native.Mathlib.Omega.{arith}
use Rattle.b1_model.specs.declared.naming.Key.{Key}
use Rattle.b1_model.specs.declared.naming.NodeRef.{NodeRef}
use Rattle.b1_model.specs.declared.naming.Opening.{Opening}
use Rattle.b1_model.specs.declared.commands.Command.{Command}
use Rattle.b1_model.specs.declared.parts.NodeState.TheVariants.{Dying}
use Rattle.b1_model.specs.declared.entries.Entry.{Entry}
use Rattle.b1_model.specs.declared.entries.Entry.TheVariants.{Message, OwnNotice, ForeignNotice, ReleaseNotice}
use Rattle.b1_model.specs.declared.events.Destruction.{Destruction}
use Rattle.b1_model.specs.declared.events.Doing.{Doing}
use Rattle.b1_model.specs.declared.events.Phase.{Phase}
use Rattle.b1_model.specs.MachineParts.{PeerPart, DriverPart, HandleRecord, State, is_odd, is_staged, is_data, same_ref, node_at, is_dying, no_record, record_of, record_or_none}
use Rattle.b1_model.specs.MachineTables.{is_staged_notice}
use Rattle.b1_model.specs.MachineDestroy.{needs_notice}
use Rattle.b1_model.specs.MachineEvents.{doomed_of}
use Rattle.b1_step.specs.Rights.{Has}
use Rattle.b1_step.specs.Ordered.{NewKey}
use Rattle.b1_step.proofs.Lists.{filter_has}
use Rattle.b1_inv.specs.Words.{IsPeer, IsDriver, waits_at, is_among, fixed_stamp}
use Rattle.b1_inv.specs.Stamps.{WasCommitted}
use Rattle.b1_inv.specs.Notices.{Apart, IsDestruction, doomed_now}
use Rattle.b1_inv_peer.specs.PeerOk.{PeerOk, count, is_notice_for}
use Rattle.b1_inv_peer.specs.Needs.{AreDying}
use Rattle.b1_peer_queue.specs.Mail.{Every, DistinctIndexes}
use Rattle.b1_model.specs.MachineSend.{with_stamp}
use Rattle.b1_event.specs.Borne.{AreShort}
use Rattle.b1_event.specs.Events.{NoticesAllowed, StampDestroyAllowed, VisitAllowed}
use Rattle.b1_inv.specs.Sound.{IsSound}
use Rattle.b1_inv_peer.proofs.Counts.{count_cons, has_count}
use Rattle.b1_event.proofs.Facts.{new_key, driver_same, odd_behind}
use Rattle.b1_event.proofs.Allowed.{driver_me, clock, stamp_clock, collected, committed_with}

-- ---- lists

pub all_has : {X : Type 0} (P : X → Type 0) (xs : List X) → ((x : X) → Has xs x → P x) → All P xs
all_has P [] holds = All-nil P
all_has P (x ∷ xs) holds = All-cons P x xs (holds x (inl refl)) (all_has P xs (λ y h. holds y (inr h)))

apart_pairs : (xs : List ℕ) → Apart xs → AllPairs ◌≢◌ xs
apart_pairs [] apart = λ i j d before within. absurd (omega (arith, within))
apart_pairs (x ∷ xs) apart = AllPairs-cons ◌≢◌ x xs (all_has (λ y. x ≢ y) xs (λ y h same. apart.0 (subst (Has xs) (sym same) h))) (apart_pairs xs apart.1)

pub among_itself : (xs : List ℕ) (q : ℕ) → Has xs q → is_among q xs ≡ true
among_itself [] q h = absurd h
among_itself (x ∷ xs) q (inl same) = ap (λ b. b || is_among q xs) (eq-eqb x q (sym same))
among_itself (x ∷ xs) q (inr there) = ap (λ b. (x == q) || b) (among_itself xs q there) ∙ or_true (x == q)
  where
    or_true : (b : Bool) → (b || true) ≡ true
    or_true true = refl
    or_true false = refl

pub at_drop : (xs : List ℕ) (at d : ℕ) → at < length xs → Has (drop at xs) (get_or xs at d)
at_drop [] at d within = absurd (omega (arith, within))
at_drop (x ∷ xs) zero d within = inl refl
at_drop (x ∷ xs) (suc at) d within = at_drop xs at d (omega (arith, within))

pub at_place : (xs : List ℕ) (at d : ℕ) → at < length xs → Has xs (get_or xs at d)
at_place [] at d within = absurd (omega (arith, within))
at_place (x ∷ xs) zero d within = inl refl
at_place (x ∷ xs) (suc at) d within = inr (at_place xs at d (omega (arith, within)))

-- entries that pass a test are marked by their index, and no mark stands twice: so no index does
two_marks : (mark : Key × Entry → Bool) (f g : Key × Entry) (rest : List (Key × Entry)) → mark f ≡ true → Has rest g → mark g ≡ true → count mark (f ∷ rest) ≤ 1 → ⊥
two_marks mark f g rest one h two once =
    let there = has_count mark rest g h two in
    let here : cond {A = ℕ} (mark f) 1 0 ≡ 1 = ap (λ b. cond {A = ℕ} b 1 0) one in
    let more = count_cons mark f rest in
    omega (arith, there, here, more, once)

every_has : (P : Key × Entry → Type 0) (xs : List (Key × Entry)) → ((f : Key × Entry) → Has xs f → P f) → Every P xs
every_has P [] holds = tt
every_has P (x ∷ xs) holds = (holds x (inl refl), every_has P xs (λ y h. holds y (inr h)))

abbrev Distinct : (Key × Entry → Bool) → List (Key × Entry) → Type 0
Distinct test queue = DistinctIndexes (filter test queue)

distinct : (test : Key × Entry → Bool) (mark : ℕ → Key × Entry → Bool) (queue : List (Key × Entry)) → ((f : Key × Entry) → Has queue f → test f ≡ true → mark f.0.index f ≡ true) → ((i : ℕ) → count (mark i) queue ≤ 1) → Distinct test queue
distinct test mark [] marks once = tt
distinct test mark (f ∷ rest) marks once = by (distinct test mark rest (λ g h. marks g (inr h)) (λ i. let k = once i in let more = count_cons (mark i) f rest in omega (arith, k, more))) (test f) refl
  where
    apart : test f ≡ true → (g : Key × Entry) → Has (filter test rest) g → g.0.index ≢ f.0.index
    apart passes g h same =
        let k = filter_has test rest g h in
        two_marks (mark f.0.index) f g rest (marks f (inl refl) passes) k.0 (subst (λ i. mark i g ≡ true) same (marks g (inr k.0) k.1)) (once f.0.index)

    by : Distinct test rest → (b : Bool) → test f ≡ b → DistinctIndexes (cond b (f ∷ filter test rest) (filter test rest))
    by further true is = (every_has (λ g. g.0.index ≢ f.0.index) (filter test rest) (apart is), further)
    by further false is = further

-- indexes that differ in pairs
index_at : (xs : List (Key × Entry)) (g : Key × Entry) → Has xs g → (j : ℕ) × (j < length xs) × (get_or xs j g ≡ g)
index_at [] g h = absurd h
index_at (f ∷ rest) g (inl same) = (0, omega arith, sym same)
index_at (f ∷ rest) g (inr there) = let (j, within, at) = index_at rest g there in (suc j, omega (arith, within), at)

indexes_apart : (xs : List (Key × Entry)) → AllPairs (λ a b. a.0.index ≢ b.0.index) xs → DistinctIndexes xs
indexes_apart [] apart = tt
indexes_apart (f ∷ rest) apart = (
  every_has (λ g. g.0.index ≢ f.0.index) rest (λ g h same. let (j, within, at) = index_at rest g h in apart 0 (suc j) g (omega arith) (omega (arith, within)) (sym (ap (λ k. k.0.index) at ∙ same))),
  indexes_apart rest (λ i j d before within. apart (suc i) (suc j) d (omega (arith, before)) (omega (arith, within))),
)

-- a staged notice of a driver
both : (a b : Bool) → (a && b) ≡ true → (a ≡ true) × (b ≡ true)
both true b is = (refl, is)
both false b is = absurd (cc is)

record IsStagedNotice (origin : ℕ) (f : Key × Entry) : Type 0 where
  pub notice : not (is_data f.1) ≡ true
  pub staged : is_staged f ≡ true
  pub from : f.0.origin ≡ origin

staged_notice : (origin : ℕ) (f : Key × Entry) → is_staged_notice origin f ≡ true → IsStagedNotice origin f
staged_notice origin f is =
    let one = both (not (is_data f.1) && is_staged f) (f.0.origin == origin) is in
    let two = both (not (is_data f.1)) (is_staged f) one.0 in
    record { notice = two.0; staged = two.1; from = eqb-true f.0.origin origin one.1 }

ref_is : (owner serial : ℕ) (node : NodeRef) → node.owner ≡ owner → node.serial ≡ serial → same_ref node (record { owner = owner; serial = serial }) ≡ true
ref_is owner serial node a b = ap (λ z. z && (node.serial == serial)) (eq-eqb node.owner owner a) ∙ eq-eqb node.serial serial b

module _ (o : Opening) (s : State) (sound : IsSound o s) (short : AreShort s) (p : ℕ) (d : DriverPart) (is_driver : IsDriver s p d) (command : Command) (p_of : Phase) (open_is : d.doing ≡ Some (record { command = command; phase = p_of })) where
  abbrev doing : Doing
  doing = record { command = command; phase = p_of }

  driver_here : IsDriver s d.me d
  driver_here = driver_me o s sound short p d is_driver

  doomed_are : doomed_now d ≡ doomed_of p_of
  doomed_are = ap (λ (z : Option Doing). elim z as (λ y. List ℕ) [ None ↦ [] | Some one ↦ doomed_of one.phase ]) open_is

  -- those staged at another peer
  foreign_marked : (q : ℕ) (x : PeerPart) → IsPeer s q x → q ≢ d.me → (k : Key) (e : Entry) → Has x.queue (k, e) → is_staged_notice d.me (k, e) ≡ true → is_notice_for (record { owner = d.me; serial = get_or (doomed_of p_of) k.index 0 }) (k, e) ≡ true
  foreign_marked q x is apart k (Message origin user index serial offset len nodes slots handles payload) h passes = absurd (cc (staged_notice d.me (k, Message origin user index serial offset len nodes slots handles payload) passes).notice)
  foreign_marked q x is apart k (OwnNotice serial index) h passes =
      let st = staged_notice d.me (k, OwnNotice serial index) passes in
      let shape = sound.notices.queued q x (k, OwnNotice serial index) is h in
      absurd (apart (sym shape.0 ∙ st.from))
  foreign_marked q x is apart k (ForeignNotice node index) h passes =
      let st = staged_notice d.me (k, ForeignNotice node index) passes in
      let shape = sound.notices.queued q x (k, ForeignNotice node index) is h in
      let owner : node.owner ≡ d.me = sym shape.0 ∙ st.from in
      let at = (shape.3 d (subst (λ n. IsDriver s n d) (sym owner) driver_here) st.staged).1 in
      ref_is d.me (get_or (doomed_of p_of) k.index 0) node owner
      (sym (ap (λ l. get_or l k.index 0) (sym doomed_are) ∙ get_or_from_slice_get (doomed_now d) k.index node.serial 0 (subst (λ i. slice_get (doomed_now d) i ≡ Some node.serial) (sym shape.1) at)))
  foreign_marked q x is apart k (ReleaseNotice serial) h passes =
      let st = staged_notice d.me (k, ReleaseNotice serial) passes in
      let shape = sound.notices.queued q x (k, ReleaseNotice serial) is h in
      absurd (cc (sym st.staged ∙ shape.2))

  -- the commit of the notices
  notices_allowed : (q stamp : ℕ) (x : PeerPart) → IsPeer s q x → fixed_stamp d ≡ Some stamp → Distinct (is_staged_notice d.me) x.queue → ((g : Key × Entry) → WasCommitted d doing q g → ⊥) → NoticesAllowed d x stamp
  notices_allowed q stamp x is fixed once other =
      let stamp_is = stamp_clock o s sound short p d is_driver command p_of open_is stamp fixed in
      record {
        stamp_is = stamp_is;
        notices = record {
          distinct = once;
          new = every_has (λ f. NewKey (with_stamp stamp f).0 x.queue) (filter (is_staged_notice d.me) x.queue) (λ f h. let passes = (filter_has (is_staged_notice d.me) x.queue f h).1 in new_key _ x.queue (λ g there same. other g
              (committed_with o s sound short p d is_driver command p_of open_is q stamp x g is there fixed stamp_is.even (ap (λ k. k.stamp) same) (ap (λ k. k.origin) same ∙ (staged_notice d.me f passes).from))));
        };
      }

  pub own_allowed : (stamp : ℕ) (x : PeerPart) → IsPeer s d.me x → fixed_stamp d ≡ Some stamp → ((g : Key × Entry) → WasCommitted d doing d.me g → ⊥) → NoticesAllowed d x stamp
  own_allowed stamp x is fixed other = notices_allowed d.me stamp x is fixed (indexes_apart (filter (is_staged_notice d.me) x.queue) (sound.apart d.me x is)) other

  pub others_allowed : (q stamp : ℕ) (x : PeerPart) → PeerOk x → IsPeer s q x → q ≢ d.me → fixed_stamp d ≡ Some stamp → ((g : Key × Entry) → WasCommitted d doing q g → ⊥) → NoticesAllowed d x stamp
  others_allowed q stamp x ok is apart fixed other =
      notices_allowed q stamp x is fixed
      (distinct (is_staged_notice d.me) (λ i. is_notice_for (record { owner = d.me; serial = get_or (doomed_of p_of) i 0 })) x.queue (λ f h passes. foreign_marked q x is apart f.0 f.1 h passes)
      (λ i. at_most (record_or_none (record { owner = d.me; serial = get_or (doomed_of p_of) i 0 }) x.handles).notice (ok.noticed (record { owner = d.me; serial = get_or (doomed_of p_of) i 0 }))))
      other
    where
      at_most : {n : ℕ} (b : Bool) → n ≤ cond b 1 0 → n ≤ 1
      at_most true is = is
      at_most false is = omega (arith, is)

  -- the stamp
  pub doom_allowed : (n : ℕ) (destruction : Destruction) (x : PeerPart) → IsPeer s d.me x → IsDestruction n x destruction Dying → doomed_of p_of ≡ destruction.doomed → StampDestroyAllowed doing x
  doom_allowed n destruction x is right same =
      record {
        clock = clock o s sound short p d is_driver d.me x is;
        collected = collected o s sound short p d is_driver command p_of open_is;
        distinct = subst (AllPairs ◌≢◌) (sym same) (apart_pairs destruction.doomed right.apart);
        dying = subst (AreDying x) (sym same) (all_has (λ serial. (serial < length x.nodes) × (is_dying (node_at x serial).state ≡ true)) destruction.doomed (λ serial h. let k = right.made serial h in (k.0, ap is_dying k.1)));
      }

  -- a visit
  no_notice : (node : NodeRef) (r : Option HandleRecord) → elim r as (λ z. Bool) [ None ↦ false | Some h ↦ not h.notice ] ≡ true → (elim r as (λ z. HandleRecord) [ None ↦ no_record node | Some h ↦ h ]).notice ≡ false
  no_notice node None needs = absurd (cc needs)
  no_notice node (Some h) needs = by h.notice needs
    where
      by : (b : Bool) → not b ≡ true → b ≡ false
      by true is = absurd (cc is)
      by false is = refl

  visit_free : (q index serial : ℕ) (x : PeerPart) → PeerOk x → IsPeer s q x → q ≢ d.me → ((i : ℕ) → waits_at p_of i ≡ false) → slice_get (doomed_of p_of) index ≡ Some serial → needs_notice x (record { owner = d.me; serial = serial }) ≡ true
      → (k : Key) (e : Entry) → Has x.queue (k, e) → is_staged (k, e) ≡ true → k.origin ≡ d.me → k.index ≡ index → ⊥
  visit_free q index serial x ok is apart waits at needs k (Message origin user place dest offset len nodes slots handles payload) h staged from here =
      let sender = sound.stages.sender q x (k, Message origin user place dest offset len nodes slots handles payload) is h refl staged in
      let same : sender.driver ≡ d = driver_same o s sound k.origin sender.driver d sender.is_driver (subst (λ n. IsDriver s n d) (sym from) driver_here) in
      let doings : Some doing ≡ Some sender.doing = sym open_is ∙ ap (λ e. e.doing) (sym same) ∙ sender.is_open in
      let one : doing ≡ sender.doing = cc doings in
      cc (sym (waits k.index) ∙ ap (λ z. waits_at z.phase k.index) one ∙ sender.waits)
  visit_free q index serial x ok is apart waits at needs k (OwnNotice mine place) h staged from here =
      let shape = sound.notices.queued q x (k, OwnNotice mine place) is h in
      apart (sym shape.0 ∙ from)
  visit_free q index serial x ok is apart waits at needs k (ForeignNotice node place) h staged from here =
      let shape = sound.notices.queued q x (k, ForeignNotice node place) is h in
      let owner : node.owner ≡ d.me = sym shape.0 ∙ from in
      let doomed = (shape.3 d (subst (λ n. IsDriver s n d) (sym owner) driver_here) staged).1 in
      let serials : Some node.serial ≡ Some serial = sym doomed ∙ ap (λ l. slice_get l place) doomed_are ∙ ap (slice_get (doomed_of p_of)) (sym shape.1 ∙ here) ∙ at in
      let same : node.serial ≡ serial = cc serials in
      let ref : NodeRef = record { owner = d.me; serial = serial } in
      let one = has_count (is_notice_for ref) x.queue (k, ForeignNotice node place) h (ref_is d.me serial node owner same) in
      let told = ok.noticed ref in
      let none : (record_or_none ref x.handles).notice ≡ false = no_notice ref (record_of ref x.handles) needs in
      let zero_is : cond {A = ℕ} (record_or_none ref x.handles).notice 1 0 ≡ 0 = ap (λ b. cond {A = ℕ} b 1 0) none in
      omega (arith, one, told, zero_is)
  visit_free q index serial x ok is apart waits at needs k (ReleaseNotice mine) h staged from here =
      let shape = sound.notices.queued q x (k, ReleaseNotice mine) is h in
      cc (sym staged ∙ shape.2)

  pub visit_allowed : (q : ℕ) (x : PeerPart) → PeerOk x → IsPeer s q x → q ≢ d.me → Apart (doomed_of p_of) → ((i : ℕ) → waits_at p_of i ≡ false) → VisitAllowed d doing x
  visit_allowed q x ok is apart once waits =
      let even = clock o s sound short p d is_driver q x is in
      record {
        clock = even;
        other = λ same. apart (sym (sound.numbered.peers q x is).me ∙ sym same);
        distinct = apart_pairs (doomed_of p_of) once;
        new_keys = λ index serial at needs. new_key _ x.queue (λ f h same. visit_free q index serial x ok is apart waits at needs f.0 f.1 h (ap (λ k. is_odd k.stamp) same ∙ odd_behind o s sound x.clock even.even) (ap (λ k. k.origin) same) (ap (λ k. k.index) same));
      }
