-- Sums over a queue that notices count nothing in: events on notices leave them.
use Rattle.std.proofs.Common.{◌≡◌, refl, sym, ap, ◌∙◌, inl, inr, ℕ, ◌+◌, ◌==◌, Bool, true, false, cond, ◌&&◌, not, List, [], ◌∷◌, map, filter, sum_by, find, Some}
use Rattle.std.proofs.lemmas.List.Sums.{sum_by-cons}
use Rattle.std.proofs.lemmas.Bool.{and_parts, not-true, eqb-true}
use native.Mathlib.Omega.{arith}
use Rattle.b1_model.specs.declared.naming.Key.{Key}
use Rattle.b1_model.specs.declared.naming.NodeRef.{NodeRef}
use Rattle.b1_model.specs.declared.entries.Entry.{Entry}
use Rattle.b1_model.specs.declared.entries.Entry.TheVariants.{Message, OwnNotice, ForeignNotice, ReleaseNotice}
use Rattle.b1_model.specs.MachineParts.{PeerPart, is_staged, is_data, is_release_notice}
use Rattle.b1_model.specs.MachineTables.{put, without, is_stage, is_staged_notice}
use Rattle.b1_model.specs.MachineSend.{with_stamp, notices_committed}
use Rattle.b1_model.specs.MachineReceive.{with_release_notice}
use Rattle.b1_model.specs.MachineDestroy.{with_own_notices, needs_notice, notice_by, with_foreign_notice, visited_from}
use Rattle.b1_step.specs.Rights.{Has}
use Rattle.b1_step.proofs.Queues.{sum_put, sum_put_all, sum_without}
use Rattle.b1_inv.specs.Stages.{OnceEach}
use Rattle.b1_inv_refs.proofs.Amounts.{Items, sum_left}

pub release_is_notice : (serial : ℕ) (k : Key) (e : Entry) → is_release_notice serial (k, e) ≡ true → is_data e ≡ false
release_is_notice serial k (Message origin user index dest offset len nodes slots handles payload) is = absurd (cc is)
release_is_notice serial k (OwnNotice doomed index) is = refl
release_is_notice serial k (ForeignNotice node index) is = refl
release_is_notice serial k (ReleaseNotice mine) is = refl

pub staged_is_notice : (origin : ℕ) (f : Key × Entry) → is_staged_notice origin f ≡ true → is_data f.1 ≡ false
staged_is_notice origin f is = not-true (is_data f.1) (and_parts (not (is_data f.1)) (is_staged f) (and_parts (not (is_data f.1) && is_staged f) (f.0.origin == origin) is).0).0

module _ (g : Key × Entry → ℕ) (quiet : (k : Key) (e : Entry) → is_data e ≡ false → g (k, e) ≡ 0) where
  -- release notices leave
  pub release_left : (serial : ℕ) (queue : Items) → sum_by g (without (is_release_notice serial) queue) ≡ sum_by g queue
  release_left serial queue = sum_left g (is_release_notice serial) queue (λ f is. quiet f.0 f.1 (release_is_notice serial f.0 f.1 is))

  -- a notice comes in
  pub notice_put : (k : Key) (e : Entry) (queue : Items) → is_data e ≡ false → sum_by g (put k e queue) ≡ sum_by g queue
  notice_put k e queue is = let one = sum_put g k e queue in let two = quiet k e is in omega (arith, one, two)

  pub release_queued : (b : Bool) (x : PeerPart) (serial : ℕ) → sum_by g (with_release_notice b x serial).queue ≡ sum_by g x.queue
  release_queued false x serial = refl
  release_queued true x serial = notice_put _ (ReleaseNotice serial) x.queue refl

  -- own notices of a destruction
  pub own_notices : (x : PeerPart) (index : ℕ) (doomed : List ℕ) (queue : Items) → sum_by g (with_own_notices x index doomed queue) ≡ sum_by g queue
  own_notices x index [] queue = refl
  own_notices x index (serial ∷ rest) queue =
      own_notices x (index + 1) rest (put (record { stamp = x.clock + 1; origin = x.me; index = index }) (OwnNotice serial index) (without (is_release_notice serial) queue))
      ∙ notice_put (record { stamp = x.clock + 1; origin = x.me; index = index }) (OwnNotice serial index) (without (is_release_notice serial) queue) refl
      ∙ release_left serial queue

  -- notices of a visit
  notice_queued : (b : Bool) (origin : ℕ) (x : PeerPart) (index : ℕ) (node : NodeRef) → sum_by g (notice_by b origin x index node).queue ≡ sum_by g x.queue
  notice_queued false origin x index node = refl
  notice_queued true origin x index node = notice_put _ (ForeignNotice node index) x.queue refl

  pub visit_queued : (doomed : List ℕ) (origin index : ℕ) (x : PeerPart) → sum_by g (visited_from origin index doomed x).queue ≡ sum_by g x.queue
  visit_queued [] origin index x = refl
  visit_queued (serial ∷ rest) origin index x =
      visit_queued rest origin (index + 1) (with_foreign_notice origin x index (record { owner = origin; serial = serial }))
      ∙ notice_queued (needs_notice x (record { owner = origin; serial = serial })) origin x index (record { owner = origin; serial = serial })

  -- notices are committed
  restamped : (origin stamp : ℕ) (queue : Items) → sum_by g (map (with_stamp stamp) (filter (is_staged_notice origin) queue)) ≡ 0
  restamped origin stamp [] = refl
  restamped origin stamp (f ∷ rest) = at (restamped origin stamp rest) (is_staged_notice origin f) refl
    where
      at : sum_by g (map (with_stamp stamp) (filter (is_staged_notice origin) rest)) ≡ 0 → (b : Bool) → is_staged_notice origin f ≡ b → sum_by g (map (with_stamp stamp) (cond b (f ∷ filter (is_staged_notice origin) rest) (filter (is_staged_notice origin) rest))) ≡ 0
      at further true is =
          let one = sum_by-cons g (with_stamp stamp f) (map (with_stamp stamp) (filter (is_staged_notice origin) rest)) in
          let two = quiet (with_stamp stamp f).0 f.1 (staged_is_notice origin f is) in
          omega (arith, one, two, further)
      at further false is = further

  pub notices_restamped : (x : PeerPart) (origin stamp : ℕ) → sum_by g (notices_committed x origin stamp).queue ≡ sum_by g x.queue
  notices_restamped x origin stamp =
      let one = sum_put_all g (map (with_stamp stamp) (filter (is_staged_notice origin) x.queue)) (without (is_staged_notice origin) x.queue) in
      let two = restamped origin stamp x.queue in
      let three = sum_left g (is_staged_notice origin) x.queue (λ f is. quiet f.0 f.1 (staged_is_notice origin f is)) in
      omega (arith, one, two, three)

-- ---- the one staged message of a place

-- the test of a place and an origin is that of any entry which passes it
same_test : (origin index : ℕ) (f g : Key × Entry) → is_stage origin index f ≡ true → is_stage origin index g ≡ is_stage f.0.origin f.0.index g
same_test origin index f g passes =
    let a = and_parts (is_data f.1 && is_staged f && (f.0.origin == origin)) (f.0.index == index) passes in
    let b = and_parts (is_data f.1 && is_staged f) (f.0.origin == origin) a.0 in
    ap (λ n. is_stage n index g) (sym (eqb-true f.0.origin origin b.1)) ∙ ap (λ n. is_stage f.0.origin n g) (sym (eqb-true f.0.index index a.1))

filter_none : (test : Key × Entry → Bool) (queue : Items) → ((f : Key × Entry) → Has queue f → test f ≡ false) → filter test queue ≡ []
filter_none test [] none = refl
filter_none test (f ∷ rest) none = rw (none f (inl refl)) (filter_none test rest (λ g h. none g (inr h)))

-- where each place stands once, only the first one that passes does
pub one_stage : (origin index : ℕ) (queue : Items) (f : Key × Entry) → OnceEach queue → find (is_stage origin index) queue ≡ Some f → filter (is_stage origin index) queue ≡ f ∷ []
one_stage origin index [] f once found = absurd (cc found)
one_stage origin index (g ∷ rest) f once found = at (one_stage origin index rest f once.1) (is_stage origin index g) refl found
  where
    at : (find (is_stage origin index) rest ≡ Some f → filter (is_stage origin index) rest ≡ f ∷ []) → (b : Bool) → is_stage origin index g ≡ b → cond b (Some g) (find (is_stage origin index) rest) ≡ Some f → cond b (g ∷ filter (is_stage origin index) rest) (filter (is_stage origin index) rest) ≡ f ∷ []
    at further false fails is = further is
    at further true passes is =
        let same : g ≡ f = cc is in
        let itself : is_stage g.0.origin g.0.index g ≡ true = sym (same_test origin index g g passes) ∙ passes in
        let none = filter_none (is_stage origin index) rest (λ h there. same_test origin index g h passes ∙ once.0 h there itself) in
        ap (λ z. g ∷ z) none ∙ ap (λ z. z ∷ []) same

-- so its weight is what leaves
pub stage_left : (g : Key × Entry → ℕ) (origin index : ℕ) (queue : Items) (f : Key × Entry) → OnceEach queue → find (is_stage origin index) queue ≡ Some f → sum_by g (without (is_stage origin index) queue) + g f ≡ sum_by g queue
stage_left g origin index queue f once found =
    let one = sum_without g (is_stage origin index) queue in
    let two = ap (sum_by g) (one_stage origin index queue f once found) ∙ sum_by-cons g f [] in
    omega (arith, one, two)
