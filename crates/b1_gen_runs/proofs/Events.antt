-- What the events of a generated script make of a peer's part.
use Rattle.std.proofs.Common.{◌≡◌, inl, inr, refl, sym, ap, ◌∙◌, subst, ℕ, ◌+◌, ◌≤◌, Bool, true, false, cond, ◌&&◌, not, List, [], ◌∷◌, take, length, sum_by, Option, Some, None, Ok, Result}
use Rattle.std.specs.List.{take_while, prefix_len}
use Rattle.std.proofs.lemmas.List.Sums.{sum_by-cons}
use native.Mathlib.Omega.{arith}
use Rattle.b1_model.specs.declared.naming.Key.{Key}
use Rattle.b1_model.specs.declared.naming.NodeRef.{NodeRef}
use Rattle.b1_model.specs.declared.commands.Command.TheVariants as cmd
use Rattle.b1_model.specs.declared.parts.Slot.{Slot}
use Rattle.b1_model.specs.declared.entries.Entry.{Entry}
use Rattle.b1_model.specs.declared.entries.Entry.TheVariants.{Message, OwnNotice, ForeignNotice, ReleaseNotice}
use Rattle.b1_model.specs.declared.answers.Front.{Front}
use Rattle.b1_model.specs.declared.answers.Receipt.{Receipt}
use Rattle.b1_model.specs.declared.answers.Answer.{Answer}
use Rattle.b1_model.specs.MachineParts.{PeerPart, Slice, is_staged}
use Rattle.b1_model.specs.MachinePool.{slice_len, slice_at, is_received, taken_offset}
use Rattle.b1_model.specs.MachineTables.{without, is_stage}
use Rattle.b1_model.specs.MachineSend.{staged, find_stage, with_slots, committed_by, committed}
use Rattle.b1_model.specs.MachineReceive.{is_for_nobody, discards, cleared, taken_entry, front_by, front_taken, received, received_part, has_dead, slice_given_back, slice_released}
use Rattle.b1_model.specs.MachineDriver.{recv_answer}
use Rattle.b1_step.specs.Rights.{Has}
use Rattle.b1_step.proofs.Orders.{find_has}
use Rattle.b1_step.proofs.Queues.{put_has, without_has, sum_put}
use Rattle.b1_inv.specs.Stages.{OnceEach}
use Rattle.b1_inv_record.specs.Parts.{Cover, IsSliceOf}
use Rattle.b1_inv_refs.proofs.Weights.{stage_left}
use Rattle.b1_inv_parts.proofs.PoolsKept.{at_own_offset}
use Rattle.b1_gen_runs.specs.Parts.{Stands, longest, IsPlainEntry, HasPlain}
use Rattle.b1_gen_runs.specs.Sums.{queued_one, queued, got_by}
use Rattle.b1_gen_runs.specs.Phases.{IsGood, IsShort}
use Rattle.b1_gen_runs.specs.States.{one}
use Rattle.b1_gen_runs.proofs.Pools.{slice_small, taken_small, taken_few, published_small, published_few, back_small, back_few}

-- a weight for each length of a message
abbrev pub Weight : Type 0
Weight = ℕ → ℕ

-- nothing, for each weight
abbrev pub nothing : Weight → ℕ
nothing f = 0

-- what an event leaves: what never changes stays, all is plain, and what is queued grows by what came and falls by what left
pub record Effect (x y : PeerPart) (came left : Weight → ℕ) : Type 0 where
  pub nodes : y.nodes ≡ x.nodes
  pub handles : y.handles ≡ x.handles
  pub limits : y.limits ≡ x.limits
  pub pool : y.pool ≡ x.pool
  pub dead : y.dead ≡ x.dead
  pub plain : HasPlain y
  pub pieces : length y.slices ≤ length x.slices + came one
  pub weight : (f : Weight) → queued f y + left f ≡ queued f x + came f

pub stays : (x : PeerPart) → HasPlain x → Effect x x nothing nothing
stays x plain = record { nodes = refl; handles = refl; limits = refl; pool = refl; dead = refl; plain = plain; pieces = omega arith; weight = λ f. refl }

pub clock_rises : (x : PeerPart) (clock : ℕ) → HasPlain x → Effect x (record x { clock = clock }) nothing nothing
clock_rises x clock plain = record { nodes = refl; handles = refl; limits = refl; pool = refl; dead = refl; plain = record { queue = plain.queue; slices = plain.slices }; pieces = omega arith; weight = λ f. refl }

-- ---- stage

pub stage_effect : (x : PeerPart) (origin user index : ℕ) (payload : List ℕ) → HasPlain x → length payload ≤ longest → Effect x (staged x origin user index 0 payload []) (λ f. f (length payload)) nothing
stage_effect x origin user index payload plain short = record {
  nodes = refl;
  handles = refl;
  limits = refl;
  pool = refl;
  dead = refl;
  plain = record {
    queue = λ f has. elim (put_has _ _ x.queue f has) [ inl new ↦ subst IsPlainEntry (sym new) (refl, refl, short) | inr old ↦ plain.queue f old ];
    slices = taken_small (slice_len (length payload) 0) x.slices (slice_small (length payload) short) plain.slices;
  };
  pieces = taken_few (slice_len (length payload) 0) x.slices;
  weight = λ f.
      let k = sum_put (queued_one f) (record { stamp = x.clock + 1; origin = origin; index = index }) (Message origin user index 0 (taken_offset (slice_len (length payload) 0) x.slices) (length payload) [] [] [] payload) x.queue in
      omega (arith, k);
}

-- ---- commit

slots_plain : (k l : Key) (e : Entry) (slots : List Slot) → IsPlainEntry (k, e) → IsPlainEntry (l, with_slots slots e)
slots_plain k l (Message origin user index serial offset len nodes old handles payload) slots plain = plain
slots_plain k l (OwnNotice serial index) slots plain = absurd plain
slots_plain k l (ForeignNotice node index) slots plain = absurd plain
slots_plain k l (ReleaseNotice serial) slots plain = absurd plain

slots_weight : (f : Weight) (k l : Key) (e : Entry) (slots : List Slot) → queued_one f (l, with_slots slots e) ≡ queued_one f (k, e)
slots_weight f k l (Message origin user index serial offset len nodes old handles payload) slots = refl
slots_weight f k l (OwnNotice serial index) slots = refl
slots_weight f k l (ForeignNotice node index) slots = refl
slots_weight f k l (ReleaseNotice serial) slots = refl

pub commit_effect : (x : PeerPart) (origin index stamp : ℕ) (slots : List Slot) → HasPlain x → OnceEach x.queue → Effect x (committed x origin index stamp slots) nothing nothing
commit_effect x origin index stamp slots plain once = at (find_stage x origin index) refl
  where
    at : (found : Option (Key × Entry)) → find_stage x origin index ≡ found → Effect x (committed_by found x origin index stamp slots) nothing nothing
    at None is = stays x plain
    at (Some g) is = record {
      nodes = refl;
      handles = refl;
      limits = refl;
      pool = refl;
      dead = refl;
      plain = record {
        queue = λ f has. elim (put_has (record { stamp = stamp; origin = origin; index = index }) (with_slots slots g.1) (without (is_stage origin index) x.queue) f has) [
          | inl new ↦ subst IsPlainEntry (sym new) (slots_plain g.0 (record { stamp = stamp; origin = origin; index = index }) g.1 slots (plain.queue g (find_has (is_stage origin index) x.queue g is).0))
          | inr old ↦ plain.queue f (without_has (is_stage origin index) x.queue f old)
        ];
        slices = plain.slices;
      };
      pieces = omega arith;
      weight = λ f.
          let k = sum_put (queued_one f) (record { stamp = stamp; origin = origin; index = index }) (with_slots slots g.1) (without (is_stage origin index) x.queue) in
          let l = stage_left (queued_one f) origin index x.queue g once is in
          let m = slots_weight f g.0 (record { stamp = stamp; origin = origin; index = index }) g.1 slots in
          omega (arith, k, l, m);
    }

pub commit_clock : (x : PeerPart) (origin index stamp : ℕ) (slots : List Slot) → (committed x origin index stamp slots).clock ≡ x.clock
commit_clock x origin index stamp slots = at (find_stage x origin index)
  where
    at : (found : Option (Key × Entry)) → (committed_by found x origin index stamp slots).clock ≡ x.clock
    at None = refl
    at (Some g) = refl

-- ---- a slice is given back

pub release_effect : (x : PeerPart) (offset : ℕ) → HasPlain x → Effect x (slice_released x offset) nothing nothing
release_effect x offset plain = at (is_received offset x.slices)
  where
    at : (b : Bool) → Effect x (slice_given_back b x offset) nothing nothing
    at false = stays x plain
    at true = record {
      nodes = refl;
      handles = refl;
      limits = refl;
      pool = refl;
      dead = refl;
      plain = record { queue = plain.queue; slices = back_small offset x.slices plain.slices };
      pieces = let k = back_few offset x.slices in omega (arith, k);
      weight = λ f. refl;
    }

pub release_clock : (x : PeerPart) (offset : ℕ) → (slice_released x offset).clock ≡ x.clock
release_clock x offset = at (is_received offset x.slices)
  where
    at : (b : Bool) → (slice_given_back b x offset).clock ≡ x.clock
    at true = refl
    at false = refl

-- ---- recv

module _ (n q : ℕ) (x : PeerPart) (stands : Stands n q x) (plain : HasPlain x) where
  wanted : (e : Entry) → (k : Key) → IsPlainEntry (k, e) → is_for_nobody x e ≡ false
  wanted (Message origin user index serial offset len nodes slots handles payload) k is = stands.taken serial
  wanted (OwnNotice serial index) k is = absurd is
  wanted (ForeignNotice node index) k is = absurd is
  wanted (ReleaseNotice serial) k is = absurd is

  none_discarded : (queue : List (Key × Entry)) → ((f : Key × Entry) → Has queue f → IsPlainEntry f) → take_while (λ f. not (is_staged f) && is_for_nobody x f.1) queue ≡ []
  none_discarded [] are = refl
  none_discarded (f ∷ rest) are = rw (wanted f.1 f.0 (are f (inl refl))) (both (not (is_staged f)))
    where
      both : (b : Bool) → take (cond (b && false) (1 + prefix_len (λ f. not (is_staged f) && is_for_nobody x f.1) rest) 0) (f ∷ rest) ≡ []
      both true = refl
      both false = refl

  pub no_discards : discards x ≡ []
  no_discards = none_discarded x.queue plain.queue

  pub cleared_is : cleared x ≡ x
  cleared_is = rw no_discards refl

-- what was taken, if the front was committed, and what that leaves
abbrev pub told : Result Receipt Front → Answer
told front = recv_answer (record { front = front; removed = 0 })

pub record Took (x : PeerPart) (front : Result Receipt Front) (y : PeerPart) : Type 0 where
  pub effect : Effect x y nothing (λ f. got_by f (told front))
  pub good : IsGood cmd.Recv (told front)
  pub ample : IsShort (told front) → ⊥
  pub clock : y.clock ≡ x.clock

module _ (n q : ℕ) (x : PeerPart) (stands : Stands n q x) (plain : HasPlain x) (cover : Cover 0 x.pool x.slices)
    (sliced : (f : Key × Entry) → Has x.queue f → (t : Slice) × Has x.slices t × IsSliceOf f.1 t) where
  message_taken : (k : Key) (rest : List (Key × Entry)) (origin user index serial offset len : ℕ) (nodes : List NodeRef) (slots : List Slot) (handles payload : List ℕ)
      → x.queue ≡ (k, Message origin user index serial offset len nodes slots handles payload) ∷ rest → nodes ≡ []
      → Took x (Ok (taken_entry (record x { queue = rest }) k (Message origin user index serial offset len [] slots handles payload)).0) (taken_entry (record x { queue = rest }) k (Message origin user index serial offset len [] slots handles payload)).1
  message_taken k rest origin user index serial offset len nodes slots handles payload is none =
      let here : Has x.queue (k, Message origin user index serial offset len nodes slots handles payload) = subst (λ l. Has l (k, Message origin user index serial offset len nodes slots handles payload)) (sym is) (inl refl) in
      let one = plain.queue (k, Message origin user index serial offset len nodes slots handles payload) here in
      let slice = sliced (k, Message origin user index serial offset len nodes slots handles payload) here in
      let t : Slice = slice.0 in
      let off : t.offset ≡ offset = ap (λ z. z.offset) slice.2.1 in
      let long : t.len ≡ slice_len (length payload) (length nodes) = ap (λ z. z.len) slice.2.1 in
      let short : t.len ≤ longest = subst (λ m. m ≤ longest) (sym long) (subst (λ l. slice_len (length payload) (length l) ≤ longest) (sym none) (slice_small (length payload) one.2)) in
      let at : slice_at offset x.slices ≡ Some t = subst (λ m. slice_at m x.slices ≡ Some t) off (at_own_offset 0 x.pool x.slices t cover slice.1) in
      record {
        effect = record {
          nodes = refl;
          handles = refl;
          limits = refl;
          pool = refl;
          dead = refl;
          plain = record {
            queue = λ f has. plain.queue f (subst (λ l. Has l f) (sym is) (inr has));
            slices = published_small offset x.slices t at short plain.slices;
          };
          pieces = let k = published_few offset x.slices in omega (arith, k);
          weight = λ f.
              let m = sum_by-cons (queued_one f) (k, Message origin user index serial offset len nodes slots handles payload) rest in
              let l = ap (sum_by (queued_one f)) is in
              omega (arith, l, m);
        };
        good = tt;
        ample = λ short. short;
        clock = refl;
      }

  entry_taken : (k : Key) (e : Entry) (rest : List (Key × Entry)) → x.queue ≡ (k, e) ∷ rest → IsPlainEntry (k, e) → Took x (Ok (taken_entry (record x { queue = rest }) k e).0) (taken_entry (record x { queue = rest }) k e).1
  entry_taken k (Message origin user index serial offset len nodes slots handles payload) rest is one =
      subst (λ l. Took x (Ok (taken_entry (record x { queue = rest }) k (Message origin user index serial offset len l slots handles payload)).0) (taken_entry (record x { queue = rest }) k (Message origin user index serial offset len l slots handles payload)).1)
      (sym one.0) (message_taken k rest origin user index serial offset len nodes slots handles payload is one.0)
  entry_taken k (OwnNotice serial index) rest is one = absurd one
  entry_taken k (ForeignNotice node index) rest is one = absurd one
  entry_taken k (ReleaseNotice serial) rest is one = absurd one

  front_tried : (b : Bool) (f : Key × Entry) (rest : List (Key × Entry)) → x.queue ≡ f ∷ rest → IsPlainEntry f → Took x (front_by b x f rest).0 (front_by b x f rest).1
  front_tried true f rest is one = record { effect = stays x plain; good = λ e. cc e; ample = λ short. cc short; clock = refl }
  front_tried false f rest is one = entry_taken f.0 f.1 rest is one

  queue_tried : (queue : List (Key × Entry)) → x.queue ≡ queue → Took x (front_taken x queue).0 (front_taken x queue).1
  queue_tried [] is = record { effect = stays x plain; good = λ e. cc e; ample = λ short. cc short; clock = refl }
  queue_tried (f ∷ rest) is = front_tried (is_staged f) f rest is (plain.queue f (subst (λ l. Has l f) (sym is) (inl refl)))

  pub recv_takes : Took x (received x).front (received_part x)
  recv_takes = subst (λ y. Took x (front_taken y y.queue).0 (front_taken y y.queue).1) (sym (cleared_is n q x stands plain)) (queue_tried x.queue refl)

  -- nothing is to be given up then
  pub none_dead : has_dead (received_part x) ≡ false
  none_dead = ap (λ dead. elim dead [ [] ↦ false | item ∷ rest ↦ true ]) (recv_takes.effect.dead ∙ stands.dead)
