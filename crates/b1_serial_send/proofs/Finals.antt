-- What a SEND makes of one peer's part, field by field.
use Rattle.std.proofs.Common.{◌≡◌, refl, sym, ap, ap₂, ◌∙◌, subst, inl, inr, ℕ, zero, suc, ◌+◌, ◌<◌, ◌≤◌, ◌==◌, ◌&&◌, max, Bool, true, false, cond, List, [], ◌∷◌, ◌++◌, get_or, length, Option, Some, None, zero-add, arith}
use Rattle.std.proofs.lemmas.Bool.{eq-eqb}
use Rattle.std.proofs.lemmas.List.{append-nil}
use Rattle.b1_model.specs.declared.naming.Key.{Key}
use Rattle.b1_model.specs.declared.naming.NodeRef.{NodeRef}
use Rattle.b1_model.specs.declared.parts.Attach.{Attach}
use Rattle.b1_model.specs.declared.parts.Attach.TheVariants as attach
use Rattle.b1_model.specs.declared.parts.Slot.{Slot}
use Rattle.b1_model.specs.declared.entries.Entry.{Entry}
use Rattle.b1_model.specs.MachineParts.{PeerPart, DriverPart, NodePart, HandleRecord, Slice, no_node, no_record, key_before, same_ref, ref_before, is_data, is_staged, is_odd, is_dying, is_destroyed, is_release_notice}
use Rattle.b1_model.specs.MachinePool.{taken}
use Rattle.b1_model.specs.MachineTables.{without, is_stage, foreign, expected, changed_or_made, more_flight}
use Rattle.b1_model.specs.MachineSend.{staged, attach_answer, attached_by, attached, synced, find_stage, committed_by, committed, is_committed}
use Rattle.b1_step.specs.Rights.{Has}
use Rattle.b1_serial_bus.specs.Parts.{Part}
use Rattle.b1_serial_bus.specs.Letters.{Letter, letter_len}
use Rattle.b1_serial_bus.specs.Places.{after_taken}
use Rattle.b1_serial_rest.specs.Standing.{with_line, lines_of, part_of}
use Rattle.b1_serial_rest.proofs.Wires.{nodes_counted}
use Rattle.b1_serial_send.proofs.Midway.{Answered, over, stage_at, attach_at, attach_all, stamp_at, sync_at, commit_at}
use Rattle.b1_serial_send.proofs.Lists.{over_keeps}
use Rattle.b1_serial_send.proofs.Parts.{at_keeps}
use Rattle.b1_serial_send.proofs.Charges.{count_at, stages_take}
use Rattle.b1_serial_send.proofs.Attaching.{no_slots, attach_me, attaches_keep}
use Rattle.b1_serial_send.proofs.Keys.{before_stamp, not_back, IsLast, NonePass, without_none, without_append}
use Rattle.b1_serial_send.proofs.Copies.{place_key, copy, copies, copies_all, copies_append, stages_queue, stage_other, found_head, commits_queue}
use Rattle.b1_serial_send.proofs.Gone.{NoReleases, gone_all, gone_all_append, ReleasesRight, attaches_queue}
use Rattle.b1_serial_send.proofs.Delivered.{gone_all_has, clock_after, with_three}

-- ---- lines

-- a line doesn't tell of slots on their way
line_same : (r : Option ℕ) (h : HandleRecord) (rest : List HandleRecord) → with_line r (more_flight h) (lines_of rest) ≡ with_line r h (lines_of rest)
line_same None h rest = refl
line_same (Some number) h rest = refl

one_expected : (node : NodeRef) (hs : List HandleRecord) → lines_of (changed_or_made node more_flight hs) ≡ lines_of hs
one_expected node [] = refl
one_expected node (h ∷ rest) = by (same_ref h.node node) (ref_before node h.node) (one_expected node rest)
  where
    by : (a b : Bool) → lines_of (changed_or_made node more_flight rest) ≡ lines_of rest → lines_of (cond a (more_flight h ∷ rest) (cond b (more_flight (no_record node) ∷ h ∷ rest) (h ∷ changed_or_made node more_flight rest))) ≡ lines_of (h ∷ rest)
    by true b further = line_same h.number h rest
    by false true further = refl
    by false false further = ap (with_line h.number h) further

pub lines_expected : (nodes : List NodeRef) (hs : List HandleRecord) → lines_of (expected nodes hs) ≡ lines_of hs
lines_expected [] hs = refl
lines_expected (n ∷ rest) hs = lines_expected rest (changed_or_made n more_flight hs) ∙ one_expected n hs

-- ---- all but clock, slices and queue

-- the peer of the bus that a part stands for, but for these
abbrev pub bare : DriverPart → PeerPart → Part
bare w x = with_three (part_of x w) 0 [] []

pub of_bare : (w : DriverPart) (x : PeerPart) → part_of x w ≡ with_three (bare w x) x.clock x.slices x.queue
of_bare w x = refl

module _ (w : DriverPart) where
  pub bare_stage : (s : Letter) (place : ℕ) (to : NodeRef) (x : PeerPart) → bare w (stage_at s place to x) ≡ bare w x
  bare_stage s place to x = at_keeps (bare w) to.owner (λ y. staged y s.origin s.user place to.serial s.payload s.with) x (ap (λ ls. record (bare w x) { lines = ls }) (lines_expected (foreign x.me s.with) x.handles))

  bare_attached : (a : Attach) (x : PeerPart) (serial dest : ℕ) → bare w (attached_by a x serial dest) ≡ bare w x
  bare_attached attach.Counted x serial dest = ap (λ ns. record (bare w x) { nodes = ns }) (nodes_counted serial dest x.nodes)
  bare_attached attach.Own x serial dest = refl
  bare_attached (attach.Void stamp) x serial dest = refl

  bare_attach : (dest : ℕ) (node : NodeRef) (x : PeerPart) → bare w (attach_at dest node x) ≡ bare w x
  bare_attach dest node x = at_keeps (bare w) node.owner (λ y. attached y node.serial dest) x (bare_attached (attach_answer x node.serial dest) x node.serial dest)

  bare_found : (found : Option (Key × Entry)) (x : PeerPart) (origin index stamp : ℕ) (slots : List Slot) → bare w (committed_by found x origin index stamp slots) ≡ bare w x
  bare_found None x origin index stamp slots = refl
  bare_found (Some f) x origin index stamp slots = refl

  bare_commit : (p stamp : ℕ) (slots : ℕ → List Slot) (place : ℕ) (to : NodeRef) (x : PeerPart) → bare w (commit_at p stamp slots place to x) ≡ bare w x
  bare_commit p stamp slots place to x = at_keeps (bare w) to.owner (λ y. committed y p place stamp (slots to.owner)) x (bare_found (find_stage x p place) x p place stamp (slots to.owner))

-- a peer without an accepted place has no message
copies_none : (s : Letter) (q stamp : ℕ) (slots : List Slot) (place : ℕ) (slices : List Slice) (ds : Answered) → count_at q ds ≡ 0 → copies s q stamp slots place slices ds ≡ []
copies_none s q stamp slots place slices [] none = refl
copies_none s q stamp slots place slices ((to, Some r) ∷ rest) none = copies_none s q stamp slots (place + 1) slices rest none
copies_none s q stamp slots place slices ((to, None) ∷ rest) none = by (to.owner == q) none (copies_none s q stamp slots (place + 1) slices rest)
  where
    by : (b : Bool) → cond b (suc (count_at q rest)) (count_at q rest) ≡ 0 → (count_at q rest ≡ 0 → copies s q stamp slots (place + 1) slices rest ≡ [])
        → cond b (copy s stamp slots place to slices ∷ copies s q stamp slots (place + 1) (taken (letter_len s) slices) rest) (copies s q stamp slots (place + 1) slices rest) ≡ []
    by true some further = absurd (omega (arith, some))
    by false nothing further = further nothing

commits_none : (p stamp : ℕ) (slots : ℕ → List Slot) (place : ℕ) (ds : Answered) (x : PeerPart) → count_at x.me ds ≡ 0 → over (commit_at p stamp slots) place ds x ≡ x
commits_none p stamp slots place [] x none = refl
commits_none p stamp slots place ((to, Some r) ∷ rest) x none = commits_none p stamp slots (place + 1) rest x none
commits_none p stamp slots place ((to, None) ∷ rest) x none = by (to.owner == x.me) none (commits_none p stamp slots (place + 1) rest x)
  where
    by : (b : Bool) → cond b (suc (count_at x.me rest)) (count_at x.me rest) ≡ 0 → (count_at x.me rest ≡ 0 → over (commit_at p stamp slots) (place + 1) rest x ≡ x)
        → over (commit_at p stamp slots) (place + 1) rest (cond b (committed x p place stamp (slots to.owner)) x) ≡ x
    by true some further = absurd (omega (arith, some))
    by false nothing further = further nothing

-- what a commit leaves of clock and slices
kept_found : {Y : Type 0} (view : PeerPart → Y) → ((x : PeerPart) (queue : List (Key × Entry)) → view (record x { queue = queue }) ≡ view x) → (found : Option (Key × Entry)) (x : PeerPart) (origin index stamp : ℕ) (slots : List Slot) → view (committed_by found x origin index stamp slots) ≡ view x
kept_found view keeps None x origin index stamp slots = refl
kept_found view keeps (Some f) x origin index stamp slots = keeps x _

kept_attached : {Y : Type 0} (view : PeerPart → Y) → ((x : PeerPart) (nodes : List NodePart) (queue : List (Key × Entry)) (late : List ℕ) → view (record x { nodes = nodes; queue = queue; late = late }) ≡ view x) → (a : Attach) (x : PeerPart) (serial dest : ℕ) → view (attached_by a x serial dest) ≡ view x
kept_attached view keeps attach.Counted x serial dest = keeps x _ _ _
kept_attached view keeps attach.Own x serial dest = refl
kept_attached view keeps (attach.Void stamp) x serial dest = refl

module _ (s : Letter) (ds : Answered) (stamp : ℕ) (slots : ℕ → List Slot) (y : PeerPart) where
  -- the part after all stages, all attaches, the stamp, all syncs, and all commits
  abbrev pub after_stages : PeerPart
  after_stages = over (stage_at s) 0 ds y

  abbrev pub after_attaches : PeerPart
  after_attaches = over (attach_all s.with) 0 ds after_stages

  abbrev pub after_stamp : PeerPart
  after_stamp = stamp_at s.origin stamp after_attaches

  abbrev pub after_syncs : PeerPart
  after_syncs = over (sync_at stamp) 0 ds after_stamp

  abbrev pub after_commits : PeerPart
  after_commits = over (commit_at s.origin stamp slots) 0 ds after_syncs

  -- a field that neither stages nor attaches nor commits change
  module _ {Y : Type 0} (view : PeerPart → Y) (attach_keeps : (dest : ℕ) (node : NodeRef) (x : PeerPart) → view (attach_at dest node x) ≡ view x) where
    attaches_view : view after_attaches ≡ view after_stages
    attaches_view = over_keeps view (attach_all s.with) (λ place to x. attaches_keep view attach_keeps to.owner s.with x) 0 ds after_stages

  bare_is : (w : DriverPart) → bare w after_commits ≡ bare w y
  bare_is w =
      over_keeps (bare w) (commit_at s.origin stamp slots) (λ place to x. bare_commit w s.origin stamp slots place to x) 0 ds after_syncs
      ∙ over_keeps (bare w) (sync_at stamp) (λ place to x. at_keeps (bare w) to.owner (λ z. synced z stamp) x refl) 0 ds after_stamp
      ∙ at_keeps (bare w) s.origin (λ z. record z { clock = stamp }) after_attaches refl
      ∙ attaches_view (bare w) (bare_attach w)
      ∙ over_keeps (bare w) (stage_at s) (λ place to x. bare_stage w s place to x) 0 ds y

  me_is : after_commits.me ≡ y.me
  me_is = ap (λ z. z.me) (bare_is (record { me = 0; calls = []; shut = false; doing = None; owed = []; told = false; attempted = None; attempts = 0 }))

  slices_is : after_commits.slices ≡ after_taken (letter_len s) (count_at y.me ds) y.slices
  slices_is =
      over_keeps (λ z. z.slices) (commit_at s.origin stamp slots) (λ place to x. at_keeps (λ z. z.slices) to.owner (λ z. committed z s.origin place stamp (slots to.owner)) x (kept_found (λ z. z.slices) (λ z queue. refl) (find_stage x s.origin place) x s.origin place stamp (slots to.owner))) 0 ds after_syncs
      ∙ over_keeps (λ z. z.slices) (sync_at stamp) (λ place to x. at_keeps (λ z. z.slices) to.owner (λ z. synced z stamp) x refl) 0 ds after_stamp
      ∙ at_keeps (λ z. z.slices) s.origin (λ z. record z { clock = stamp }) after_attaches refl
      ∙ attaches_view (λ z. z.slices) (λ dest node x. at_keeps (λ z. z.slices) node.owner (λ z. attached z node.serial dest) x (kept_attached (λ z. z.slices) (λ z nodes queue late. refl) (attach_answer x node.serial dest) x node.serial dest))
      ∙ stages_take s 0 ds y

  -- ---- the clock

  pub clock_before : after_attaches.clock ≡ y.clock
  clock_before =
      attaches_view (λ z. z.clock) (λ dest node x. at_keeps (λ z. z.clock) node.owner (λ z. attached z node.serial dest) x (kept_attached (λ z. z.clock) (λ z nodes queue late. refl) (attach_answer x node.serial dest) x node.serial dest))
      ∙ over_keeps (λ z. z.clock) (stage_at s) (λ place to x. at_keeps (λ z. z.clock) to.owner (λ z. staged z s.origin s.user place to.serial s.payload s.with) x refl) 0 ds y

  pub me_before : after_attaches.me ≡ y.me
  me_before =
      attaches_view (λ z. z.me) attach_me
      ∙ over_keeps (λ z. z.me) (stage_at s) (λ place to x. at_keeps (λ z. z.me) to.owner (λ z. staged z s.origin s.user place to.serial s.payload s.with) x refl) 0 ds y

syncs_clock : (stamp place : ℕ) (ds : Answered) (x : PeerPart) → (1 ≤ count_at x.me ds → x.clock ≤ stamp) → (over (sync_at stamp) place ds x).clock ≡ clock_after x.me stamp ds x.clock
syncs_clock stamp place [] x low = refl
syncs_clock stamp place ((to, Some r) ∷ rest) x low = syncs_clock stamp (place + 1) rest x low
syncs_clock stamp place ((to, None) ∷ rest) x low = by (to.owner == x.me) low (syncs_clock stamp (place + 1) rest)
  where
    by : (b : Bool) → (1 ≤ cond b (suc (count_at x.me rest)) (count_at x.me rest) → x.clock ≤ stamp) → ((z : PeerPart) → (1 ≤ count_at z.me rest → z.clock ≤ stamp) → (over (sync_at stamp) (place + 1) rest z).clock ≡ clock_after z.me stamp rest z.clock)
        → (over (sync_at stamp) (place + 1) rest (cond b (synced x stamp) x)).clock ≡ clock_after x.me stamp rest (cond b stamp x.clock)
    by true low_if further =
        let raised : max x.clock stamp ≡ stamp = (let l = low_if (omega arith) in omega (arith, l)) in
        further (synced x stamp) (λ some. omega (arith, raised)) ∙ ap (clock_after x.me stamp rest) raised
    by false low_if further = further x low_if

-- ---- the queue

module _ (s : Letter) (ds : Answered) (stamp : ℕ) (slots : ℕ → List Slot) (y : PeerPart)
    (quiet : (f : Key × Entry) → Has y.queue f → is_staged f ≡ false) (low : (f : Key × Entry) → Has y.queue f → f.0.stamp ≤ y.clock)
    (releases : ReleasesRight y) (odd : is_odd (y.clock + 1) ≡ true) (even : is_odd stamp ≡ false) (high : 1 ≤ count_at y.me ds → y.clock + 2 ≤ stamp) where
  abbrev staged_copies : List (Key × Entry)
  staged_copies = copies s y.me (y.clock + 1) (no_slots s.with) 0 y.slices ds

  abbrev pub base : List (Key × Entry)
  base = gone_all y.me s.with ds y.queue

  queue_staged : (after_stages s ds stamp slots y).queue ≡ y.queue ++ staged_copies
  queue_staged = stages_queue s 0 ds y (λ f there. not_back f.0 (place_key s (y.clock + 1) 0) (before_stamp f.0 (place_key s (y.clock + 1) 0) (let l = low f there in omega (arith, l))))

  no_releases : NoReleases staged_copies
  no_releases serial = copies_all s y.me (y.clock + 1) (no_slots s.with) (λ f. is_release_notice serial f ≡ false) 0 y.slices ds (λ i to sl from to_end. refl)

  nodes_staged : (after_stages s ds stamp slots y).nodes ≡ y.nodes
  nodes_staged = over_keeps (λ z. z.nodes) (stage_at s) (λ place to x. at_keeps (λ z. z.nodes) to.owner (λ z. staged z s.origin s.user place to.serial s.payload s.with) x refl) 0 ds y

  me_staged : (after_stages s ds stamp slots y).me ≡ y.me
  me_staged = over_keeps (λ z. z.me) (stage_at s) (λ place to x. at_keeps (λ z. z.me) to.owner (λ z. staged z s.origin s.user place to.serial s.payload s.with) x refl) 0 ds y

  releases_staged : ReleasesRight (after_stages s ds stamp slots y)
  releases_staged j = (
    ap (λ ns. is_dying (get_or ns j no_node).state) nodes_staged ∙ (releases j).0,
    λ dead. ap (without (is_release_notice j)) queue_staged
        ∙ without_append (is_release_notice j) y.queue staged_copies
        ∙ ap (λ zs. zs ++ without (is_release_notice j) staged_copies) ((releases j).1 (sym (ap (λ ns. is_destroyed (get_or ns j no_node).state) nodes_staged) ∙ dead))
        ∙ ap (λ zs. y.queue ++ zs) (without_none (is_release_notice j) staged_copies (no_releases j))
        ∙ sym queue_staged,
  )

  queue_synced : (after_syncs s ds stamp slots y).queue ≡ base ++ staged_copies
  queue_synced =
      over_keeps (λ z. z.queue) (sync_at stamp) (λ place to x. at_keeps (λ z. z.queue) to.owner (λ z. synced z stamp) x refl) 0 ds (after_stamp s ds stamp slots y)
      ∙ at_keeps (λ z. z.queue) s.origin (λ z. record z { clock = stamp }) (after_attaches s ds stamp slots y) refl
      ∙ attaches_queue s.with 0 ds (after_stages s ds stamp slots y) releases_staged
      ∙ ap₂ (λ q zs. gone_all q s.with ds zs) me_staged queue_staged
      ∙ gone_all_append y.me s.with ds y.queue staged_copies no_releases

  me_synced : (after_syncs s ds stamp slots y).me ≡ y.me
  me_synced =
      over_keeps (λ z. z.me) (sync_at stamp) (λ place to x. at_keeps (λ z. z.me) to.owner (λ z. synced z stamp) x refl) 0 ds (after_stamp s ds stamp slots y)
      ∙ at_keeps (λ z. z.me) s.origin (λ z. record z { clock = stamp }) (after_attaches s ds stamp slots y) refl
      ∙ me_before s ds stamp slots y

  base_unstaged : (i : ℕ) → NonePass (is_stage s.origin i) base
  base_unstaged i f there = ap (λ b. is_data f.1 && b && (f.0.origin == s.origin) && (f.0.index == i)) (quiet f (gone_all_has y.me s.with ds y.queue f there)) ∙ by (is_data f.1)
    where
      by : (c : Bool) → (c && false && (f.0.origin == s.origin) && (f.0.index == i)) ≡ false
      by true = refl
      by false = refl

  module _ (some : 1 ≤ count_at y.me ds) where
    less : y.clock + 1 < stamp
    less = let h = high some in omega (arith, h)

    base_last : IsLast (place_key s stamp 0) base
    base_last f there = not_back f.0 (place_key s stamp 0) (before_stamp f.0 (place_key s stamp 0) (let l = low f (gone_all_has y.me s.with ds y.queue f there) in let h = high some in omega (arith, l, h)))

    queue_some : (after_commits s ds stamp slots y).queue ≡ base ++ copies s y.me stamp (slots y.me) 0 y.slices ds
    queue_some =
        commits_queue s (y.clock + 1) stamp (no_slots s.with) slots odd even less 0 ds (after_syncs s ds stamp slots y) y.slices base []
        (queue_synced ∙ ap (λ q. base ++ copies s q (y.clock + 1) (no_slots s.with) 0 y.slices ds) (sym me_synced) ∙ ap (λ zs. base ++ zs) (sym (append-nil (copies s (after_syncs s ds stamp slots y).me (y.clock + 1) (no_slots s.with) 0 y.slices ds))))
        base_unstaged (λ i far f there. absurd there) base_last (λ f there. absurd there)
        ∙ ap (λ q. base ++ copies s q stamp (slots q) 0 y.slices ds) me_synced

  queue_is : (after_commits s ds stamp slots y).queue ≡ base ++ copies s y.me stamp (slots y.me) 0 y.slices ds
  queue_is = by (count_at y.me ds) refl
    where
      by : (n : ℕ) → count_at y.me ds ≡ n → (after_commits s ds stamp slots y).queue ≡ base ++ copies s y.me stamp (slots y.me) 0 y.slices ds
      by zero none =
          ap (λ z. z.queue) (commits_none s.origin stamp slots 0 ds (after_syncs s ds stamp slots y) (ap (λ q. count_at q ds) me_synced ∙ none))
          ∙ queue_synced
          ∙ ap (λ zs. base ++ zs) (copies_none s y.me (y.clock + 1) (no_slots s.with) 0 y.slices ds none ∙ sym (copies_none s y.me stamp (slots y.me) 0 y.slices ds none))
      by (suc n) is = queue_some (omega (arith, is))

  -- the clock
  clock_is : (after_commits s ds stamp slots y).clock ≡ clock_after y.me stamp ds (cond (s.origin == y.me) stamp y.clock)
  clock_is =
      over_keeps (λ z. z.clock) (commit_at s.origin stamp slots) (λ place to x. at_keeps (λ z. z.clock) to.owner (λ z. committed z s.origin place stamp (slots to.owner)) x (kept_found (λ z. z.clock) (λ z queue. refl) (find_stage x s.origin place) x s.origin place stamp (slots to.owner))) 0 ds (after_syncs s ds stamp slots y)
      ∙ syncs_clock stamp 0 ds (after_stamp s ds stamp slots y) (λ some. low_stamp (subst (λ q. 1 ≤ count_at q ds) me_stamp some))
      ∙ ap₂ (λ q k. clock_after q stamp ds k) me_stamp stamp_clock
    where
      me_stamp : (after_stamp s ds stamp slots y).me ≡ y.me
      me_stamp = at_keeps (λ z. z.me) s.origin (λ z. record z { clock = stamp }) (after_attaches s ds stamp slots y) refl ∙ me_before s ds stamp slots y

      chosen : (b : Bool) → (cond b (record (after_attaches s ds stamp slots y) { clock = stamp }) (after_attaches s ds stamp slots y)).clock ≡ cond b stamp (after_attaches s ds stamp slots y).clock
      chosen true = refl
      chosen false = refl

      stamp_clock : (after_stamp s ds stamp slots y).clock ≡ cond (s.origin == y.me) stamp y.clock
      stamp_clock = chosen (s.origin == (after_attaches s ds stamp slots y).me) ∙ ap₂ (λ q k. cond (s.origin == q) stamp k) (me_before s ds stamp slots y) (clock_before s ds stamp slots y)

      low_by : (b : Bool) → y.clock + 2 ≤ stamp → cond b stamp y.clock ≤ stamp
      low_by true h = omega arith
      low_by false h = omega (arith, h)

      low_stamp : 1 ≤ count_at y.me ds → (after_stamp s ds stamp slots y).clock ≤ stamp
      low_stamp some = subst (λ k. k ≤ stamp) (sym stamp_clock) (low_by (s.origin == y.me) (high some))

  -- the peer of the bus that the part stands for then
  pub part_is : (w : DriverPart) → part_of (after_commits s ds stamp slots y) w ≡ with_three (part_of y w) (clock_after y.me stamp ds (cond (s.origin == y.me) stamp y.clock)) (after_taken (letter_len s) (count_at y.me ds) y.slices) (base ++ copies s y.me stamp (slots y.me) 0 y.slices ds)
  part_is w =
      ap (λ b. with_three b (after_commits s ds stamp slots y).clock (after_commits s ds stamp slots y).slices (after_commits s ds stamp slots y).queue) (bare_is s ds stamp slots y w)
      ∙ ap (λ k. with_three (part_of y w) k (after_commits s ds stamp slots y).slices (after_commits s ds stamp slots y).queue) clock_is
      ∙ ap₂ (λ sl box. with_three (part_of y w) (clock_after y.me stamp ds (cond (s.origin == y.me) stamp y.clock)) sl box) (slices_is s ds stamp slots y) queue_is

  -- ---- the message of a place is there when it is committed

  module _ (earlier later : Answered) (to : NodeRef) (split : ds ≡ earlier ++ (to, None) ∷ later) (own : to.owner ≡ y.me) where
    some_here : 1 ≤ count_at y.me ds
    some_here = subst (λ zs. 1 ≤ count_at y.me zs) (sym split) (at earlier)
      where
        head : (b : Bool) → b ≡ true → 1 ≤ cond b (suc (count_at y.me later)) (count_at y.me later)
        head true is = omega arith
        head false is = absurd (cc is)

        at_one : (t : NodeRef) (n : ℕ) → 1 ≤ n → 1 ≤ cond (t.owner == y.me) (suc n) n
        at_one t n less = elim (t.owner == y.me) as (λ b. 1 ≤ cond b (suc n) n) [ true ↦ omega arith | false ↦ less ]

        at : (zs : Answered) → 1 ≤ count_at y.me (zs ++ (to, None) ∷ later)
        at [] = head (to.owner == y.me) (eq-eqb to.owner y.me own)
        at ((t, Some r) ∷ zs) = at zs
        at ((t, None) ∷ zs) = at_one t (count_at y.me (zs ++ (to, None) ∷ later)) (at zs)

    pub found_is : is_committed (over (commit_at s.origin stamp slots) 0 earlier (after_syncs s ds stamp slots y)) s.origin (length earlier) ≡ true
    found_is =
        found_head s (y.clock + 1) stamp (no_slots s.with) slots odd even (less some_here) (length earlier) to left (over (commit_at s.origin stamp slots) 0 earlier (after_syncs s ds stamp slots y)) base (rest ++ copies s y.me stamp (slots y.me) 0 y.slices earlier)
        (commits_queue s (y.clock + 1) stamp (no_slots s.with) slots odd even (less some_here) 0 earlier (after_syncs s ds stamp slots y) y.slices base (one ∷ rest)
        (queue_synced ∙ ap (λ zs. base ++ zs) copies_are ∙ ap (λ q. base ++ (copies s q (y.clock + 1) (no_slots s.with) 0 y.slices earlier ++ one ∷ rest)) (sym me_synced))
        base_unstaged tail_unstaged (base_last some_here) tail_last
        ∙ ap (λ q. base ++ (one ∷ rest ++ copies s q stamp (slots q) 0 y.slices earlier)) me_synced)
        (base_unstaged (length earlier))
      where
        left : List Slice
        left = after_taken (letter_len s) (count_at y.me earlier) y.slices

        one : Key × Entry
        one = copy s (y.clock + 1) (no_slots s.with) (length earlier) to left

        rest : List (Key × Entry)
        rest = copies s y.me (y.clock + 1) (no_slots s.with) (length earlier + 1) (taken (letter_len s) left) later

        copies_are : staged_copies ≡ copies s y.me (y.clock + 1) (no_slots s.with) 0 y.slices earlier ++ one ∷ rest
        copies_are =
            ap (copies s y.me (y.clock + 1) (no_slots s.with) 0 y.slices) split
            ∙ copies_append s y.me (y.clock + 1) (no_slots s.with) 0 y.slices earlier ((to, None) ∷ later)
            ∙ ap (λ k. copies s y.me (y.clock + 1) (no_slots s.with) 0 y.slices earlier ++ copies s y.me (y.clock + 1) (no_slots s.with) k left ((to, None) ∷ later)) (zero-add (length earlier))
            ∙ ap (λ b. copies s y.me (y.clock + 1) (no_slots s.with) 0 y.slices earlier ++ cond b (one ∷ rest) (copies s y.me (y.clock + 1) (no_slots s.with) (length earlier + 1) left later)) (eq-eqb to.owner y.me own)

        -- the staged messages that are left
        at_tail : (P : Key × Entry → Type 0) → ((i : ℕ) (t : NodeRef) (sl : List Slice) → length earlier ≤ i → P (copy s (y.clock + 1) (no_slots s.with) i t sl)) → (f : Key × Entry) → Has (one ∷ rest) f → P f
        at_tail P holds f (inl same) = subst P (sym same) (holds (length earlier) to left (omega arith))
        at_tail P holds f (inr there) = copies_all s y.me (y.clock + 1) (no_slots s.with) P (length earlier + 1) (taken (letter_len s) left) later (λ i t sl from to_end. holds i t sl (omega (arith, from))) f there

        tail_unstaged : (i : ℕ) → i < 0 + length earlier → NonePass (is_stage s.origin i) (one ∷ rest)
        tail_unstaged i before = at_tail (λ f. is_stage s.origin i f ≡ false) (λ j t sl from. stage_other s (y.clock + 1) stamp (no_slots s.with) slots odd even (less some_here) j i t sl (λ e. absurd (omega (arith, e, from, before))))

        tail_last : IsLast (place_key s stamp 0) (one ∷ rest)
        tail_last = at_tail (λ f. key_before (place_key s stamp 0) f.0 ≡ false) (λ j t sl from. not_back (place_key s (y.clock + 1) j) (place_key s stamp 0) (before_stamp (place_key s (y.clock + 1) j) (place_key s stamp 0) (less some_here)))
