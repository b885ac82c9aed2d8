-- No destination refuses a message of a generated script, and no peer its begin, but for want of memory.
use Rattle.std.proofs.Common.{◌≡◌, inl, inr, refl, sym, ap, ◌∙◌, subst, ℕ, ◌+◌, ◌*◌, ◌≤◌, ◌==◌, Bool, true, false, cond, ◌||◌, not, nat_lt, nat_le, List, [], ◌∷◌, length, Some, None}
use Rattle.std.specs.Bool.{then_some}
use Rattle.std.proofs.lemmas.Bool.{le-ltb, le-leb, lt-leb}
use native.Mathlib.Omega.{arith}
use Rattle.b1_model.specs.declared.naming.Key.{Key}
use Rattle.b1_model.specs.declared.entries.Entry.{Entry}
use Rattle.b1_model.specs.declared.entries.Entry.TheVariants.{Message, OwnNotice, ForeignNotice, ReleaseNotice}
use Rattle.b1_model.specs.declared.answers.Reason.TheVariants as reason
use Rattle.b1_model.specs.declared.answers.Quantity.{Quantity}
use Rattle.b1_model.specs.declared.answers.Quantity.TheVariants.{Entries, Bytes, Handles}
use Rattle.b1_model.specs.MachineParts.{PeerPart, clock_limit}
use Rattle.b1_model.specs.MachinePool.{slice_len, largest_free}
use Rattle.b1_model.specs.MachineTables.{amount, charged, limit_of, within_quota, over_quota}
use Rattle.b1_model.specs.MachineSend.{first_reason, stage_refusal}
use Rattle.b1_step.specs.Rights.{Has}
use Rattle.b1_inv_record.specs.Parts.{Cover}
use Rattle.b1_gen.specs.Generated.{peer_spec}
use Rattle.b1_gen_runs.specs.Parts.{Stands, longest, IsPlainEntry, HasPlain}
use Rattle.b1_gen_runs.proofs.Pools.{slice_small, has_room}

-- ---- what a queue is charged

entries_few : (passes : ℕ → Bool) (queue : List (Key × Entry)) → charged Entries passes queue ≤ length queue
entries_few passes [] = omega arith
entries_few passes ((k, Message origin user index serial offset len nodes slots handles payload) ∷ rest) =
    let m = entries_few passes rest in
    elim (passes user) as (λ b. cond b 1 0 + charged Entries passes rest ≤ length ((k, Message origin user index serial offset len nodes slots handles payload) ∷ rest)) [ true ↦ omega (arith, m) | false ↦ omega (arith, m) ]
entries_few passes ((k, OwnNotice serial index) ∷ rest) = let m = entries_few passes rest in omega (arith, m)
entries_few passes ((k, ForeignNotice node index) ∷ rest) = let m = entries_few passes rest in omega (arith, m)
entries_few passes ((k, ReleaseNotice serial) ∷ rest) = let m = entries_few passes rest in omega (arith, m)

bytes_few : (passes : ℕ → Bool) (queue : List (Key × Entry)) → ((f : Key × Entry) → Has queue f → IsPlainEntry f) → charged Bytes passes queue ≤ longest * length queue
bytes_few passes [] plain = omega arith
bytes_few passes ((k, Message origin user index serial offset len nodes slots handles payload) ∷ rest) plain =
    let m = bytes_few passes rest (λ f has. plain f (inr has)) in
    let one = plain (k, Message origin user index serial offset len nodes slots handles payload) (inl refl) in
    let small : slice_len len (length nodes) ≤ longest = subst (λ n. slice_len len (length n) ≤ longest) (sym one.0) (slice_small len (subst (λ n. n ≤ longest) (sym one.1) one.2)) in
    elim (passes user) as (λ b. cond b (slice_len len (length nodes)) 0 + charged Bytes passes rest ≤ longest * length ((k, Message origin user index serial offset len nodes slots handles payload) ∷ rest)) [ true ↦ omega (arith, m, small) | false ↦ omega (arith, m) ]
bytes_few passes ((k, OwnNotice serial index) ∷ rest) plain = absurd (plain (k, OwnNotice serial index) (inl refl))
bytes_few passes ((k, ForeignNotice node index) ∷ rest) plain = absurd (plain (k, ForeignNotice node index) (inl refl))
bytes_few passes ((k, ReleaseNotice serial) ∷ rest) plain = absurd (plain (k, ReleaseNotice serial) (inl refl))

quota_holds : (own_user : Bool) (own others limit asked : ℕ) → 2 * (own + asked) + others ≤ limit → within_quota own_user own others limit asked ≡ true
quota_holds own_user own others limit asked fits = at (asked == 0) own_user
  where
    at : (a b : Bool) → (a || cond b (nat_le (own + asked + others) limit) (nat_le (2 * (own + asked) + others) limit)) ≡ true
    at true b = refl
    at false true = le-leb (own + asked + others) limit (omega (arith, fits))
    at false false = le-leb (2 * (own + asked) + others) limit fits

-- ---- a destination

-- what is so of a destination: it stands, its queue and slices are plain and few, and its clock is low
pub record HasRoom (n q bound : ℕ) (x : PeerPart) : Type 0 where
  pub stands : Stands n q x
  pub plain : HasPlain x
  pub cover : Cover 0 x.pool x.slices
  pub queued : length x.queue ≤ 2100
  pub pieces : length x.slices ≤ 2100
  pub clock : x.clock ≤ bound
  pub low : bound ≤ 8192

module _ (n q bound : ℕ) (x : PeerPart) (room : HasRoom n q bound x) where
  not_over : (what : Quantity) (most user len : ℕ) → ((passes : ℕ → Bool) → charged what passes x.queue ≤ most) → 3 * most + 2 * amount what len 0 ≤ limit_of what x.limits → over_quota x user len 0 what ≡ None
  not_over what most user len few wide =
      let own = few (λ u. u == user) in
      let others = few (λ u. not (u == user)) in
      ap (λ b. cond b None (Some (reason.Quota what (charged what (λ u. u == user) x.queue) (charged what (λ u. not (u == user)) x.queue) (limit_of what x.limits) (amount what len 0))))
      (quota_holds (user == x.user) (charged what (λ u. u == user) x.queue) (charged what (λ u. not (u == user)) x.queue) (limit_of what x.limits) (amount what len 0) (omega (arith, own, others, wide)))

  limit_is : (what : Quantity) → limit_of what x.limits ≡ limit_of what (peer_spec q).limits
  limit_is what = ap (limit_of what) room.stands.limits

  not_entries : (user len : ℕ) → over_quota x user len 0 Entries ≡ None
  not_entries user len = not_over Entries 2100 user len (λ passes. let k = entries_few passes x.queue in let l = room.queued in omega (arith, k, l)) (let m = limit_is Entries in omega (arith, m))

  not_bytes : (user len : ℕ) → len ≤ longest → over_quota x user len 0 Bytes ≡ None
  not_bytes user len short = not_over Bytes (longest * 2100) user len (λ passes. let k = bytes_few passes x.queue room.plain.queue in let l = room.queued in omega (arith, k, l)) (let m = limit_is Bytes in let s = slice_small len short in omega (arith, m, s))

  not_full : (len : ℕ) → len ≤ longest → nat_lt (largest_free x.slices) (slice_len len 0) ≡ false
  not_full len short =
      let k = has_room x.pool x.slices room.cover room.plain.slices (let p = room.stands.pool in let m = room.pieces in omega (arith, p, m)) in
      let s = slice_small len short in
      le-ltb (largest_free x.slices) (slice_len len 0) (omega (arith, k, s))

  -- the clock is below the limit
  pub not_late : nat_le clock_limit x.clock ≡ false
  not_late = let c = room.clock in let l = room.low in lt-leb clock_limit x.clock (omega (arith, c, l))

  -- a message is staged, but for want of memory
  pub no_stage_refusal : (user len : ℕ) → len ≤ longest → stage_refusal x user 0 len 0 ≡ None
  no_stage_refusal user len short =
      ap (λ b. first_reason (then_some (not b) (reason.Gone x.me 0) ∷ then_some (nat_le clock_limit x.clock) (reason.Overflow x.clock) ∷ over_quota x user len 0 Entries ∷ over_quota x user len 0 Bytes ∷ over_quota x user len 0 Handles ∷ then_some (nat_lt (largest_free x.slices) (slice_len len 0)) (reason.Full (slice_len len 0) (largest_free x.slices)) ∷ [])) room.stands.live
      ∙ ap (λ b. first_reason (then_some b (reason.Overflow x.clock) ∷ over_quota x user len 0 Entries ∷ over_quota x user len 0 Bytes ∷ None ∷ then_some (nat_lt (largest_free x.slices) (slice_len len 0)) (reason.Full (slice_len len 0) (largest_free x.slices)) ∷ [])) not_late
      ∙ ap (λ r. first_reason (r ∷ over_quota x user len 0 Bytes ∷ None ∷ then_some (nat_lt (largest_free x.slices) (slice_len len 0)) (reason.Full (slice_len len 0) (largest_free x.slices)) ∷ [])) (not_entries user len)
      ∙ ap (λ r. first_reason (r ∷ None ∷ then_some (nat_lt (largest_free x.slices) (slice_len len 0)) (reason.Full (slice_len len 0) (largest_free x.slices)) ∷ [])) (not_bytes user len short)
      ∙ ap (λ b. first_reason (then_some b (reason.Full (slice_len len 0) (largest_free x.slices)) ∷ [])) (not_full len short)
