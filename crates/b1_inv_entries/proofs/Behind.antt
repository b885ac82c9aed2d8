-- A key that has left a queue stays behind it: a step brings only entries above the clock, or above the staged ones that they replace.
use Rattle.std.proofs.Common.{◌≡◌, ◌⊎◌, refl, sym, ap, subst, ◌∙◌, inl, inr, ℕ, ◌<◌, ◌≤◌, Bool, true, false, Option, Some, None}
use Rattle.std.specs.Prelude.{slice_get, ◌==◌, ◌&&◌, not}
use Rattle.std.proofs.lemmas.Bool.{cases_lt, eqb-true}
use Rattle.std.proofs.lemmas.Option.{same_Some}
use native.Mathlib.Omega.{arith}
use Rattle.b1_model.specs.declared.commands.Command.{Command}
use Rattle.b1_model.specs.declared.naming.Key.{Key}
use Rattle.b1_model.specs.declared.naming.Opening.{Opening}
use Rattle.b1_model.specs.declared.entries.Entry.{Entry}
use Rattle.b1_model.specs.declared.entries.Entry.TheVariants.{Message, OwnNotice, ForeignNotice, ReleaseNotice}
use Rattle.b1_model.specs.declared.events.Phase.{Phase}
use Rattle.b1_model.specs.declared.events.Phase.TheVariants.{Unstaging}
use Rattle.b1_model.specs.MachineParts.{PeerPart, State, is_staged, is_data, key_before, no_origin}
use Rattle.b1_model.specs.MachineTables.{is_stage, is_staged_notice}
use Rattle.b1_model.specs.MachineStep.{Step}
use Rattle.b1_step.specs.Rights.{Has}
use Rattle.b1_step.proofs.Lists.{all_has, has_all}
use Rattle.b1_step.proofs.Locality.{clocks_rise}
use Rattle.b1_step.proofs.Orders.{find_has, key_before_is_below}
use Rattle.b1_inv.specs.Words.{IsPeer, IsDriver, stamp_of_phase}
use Rattle.b1_inv.specs.Notices.{NoticeShape}
use Rattle.b1_inv.specs.Sound.{IsSound}
use Rattle.b1_ledger.proofs.KeyOrder.{Below, below_is, is_of_below}
use Rattle.b1_inv_record.specs.Clocks.{is_own_notice}
use Rattle.b1_inv_record.specs.Entries.{IsBehind}
use Rattle.b1_inv_record.specs.Epochs.{is_unstaging}
use Rattle.b1_inv_record.specs.Right.{IsRight}
use Rattle.b1_inv_tools.proofs.Leaves.{peer_cases}
use Rattle.b1_inv_sends.proofs.Once.{stage_parts}
use Rattle.b1_inv_notices.proofs.Turns.{parts, going_doing}
use Rattle.b1_inv_notices.proofs.StampsLaw.{fixed_before}
use Rattle.b1_inv_entries.proofs.Sources.{Stages, Commits, Notices, Drops, Dooms, Visits, Brought, entry_source}

-- ---- keys

pub before_stamp : (a b : Key) → a.stamp < b.stamp → key_before a b ≡ true
before_stamp a b low = key_before_is_below a b ∙ is_of_below a b (inl (inl low))

pub before_origin : (a b : Key) → a.stamp ≤ b.stamp → a.origin < b.origin → key_before a b ≡ true
before_origin a b low less = key_before_is_below a b ∙ is_of_below a b (inl (by low less))
  where
    by : a.stamp ≤ b.stamp → a.origin < b.origin → (a.stamp < b.stamp) ⊎ ((a.stamp ≡ b.stamp) × (a.origin < b.origin))
    by l m = elim (cases_lt a.stamp b.stamp) [ inl less ↦ inl less | inr most ↦ inr (omega (arith, l, most), m) ]

-- a key that isn't behind another has no smaller stamp
pub before_low : (a b : Key) → key_before a b ≡ true → a.stamp ≤ b.stamp
before_low a b is = let below : Below a b = below_is a b (sym (key_before_is_below a b) ∙ is) in omega (arith, below)

stamped_stages : (phase : Phase) (stamp : ℕ) → stamp_of_phase phase ≡ Some stamp → is_unstaging phase ≡ false
stamped_stages (Unstaging begun places refused place) stamp is = absurd (cc is)
stamped_stages phase stamp is = refl

pub message_no_own : (e : Entry) → is_data e ≡ true → is_own_notice e ≡ false
message_no_own (Message origin user index serial offset len nodes slots handles payload) is = refl
message_no_own (OwnNotice serial index) is = absurd (cc is)
message_no_own (ForeignNotice node index) is = refl
message_no_own (ReleaseNotice serial) is = refl

own_at : (s : State) (q : ℕ) (x : PeerPart) (k : Key) (e : Entry) → NoticeShape s q x (k, e) → is_own_notice e ≡ true → k.origin ≡ q
own_at s q x k (OwnNotice serial index) shape is = shape.0
own_at s q x k (Message origin user index serial offset len nodes slots handles payload) shape is = absurd (cc is)
own_at s q x k (ForeignNotice node index) shape is = absurd (cc is)
own_at s q x k (ReleaseNotice serial) shape is = absurd (cc is)

module _ {o : Opening} {s : State} {p : ℕ} {c : Option Command} {t : State} (sound : IsSound o s) (right : IsRight o s) (step : Step o s p c t) where
  me_is : step.driver.me ≡ p
  me_is = sound.numbered.drivers p step.driver step.is_driver

  -- ---- what a commit replaces is below its stamp

  was_open : (stamp : ℕ) → stamp_of_phase (parts step).phase ≡ Some stamp → step.driver.doing ≡ Some (going_doing step)
  was_open stamp fixed = elim (parts step).was [
    | inl is ↦ is
    | inr new ↦ let none : None ≡ Some stamp = ap stamp_of_phase (sym new.1) ∙ fixed in absurd (cc none)
  ]

  pub restamped : (stamp : ℕ) (g : Key × Entry) → stamp_of_phase (parts step).phase ≡ Some stamp → Has step.peer.queue g → is_staged g ≡ true → g.0.origin ≡ step.driver.me → g.0.stamp < stamp
  restamped stamp g fixed has odd mine = by (is_own_notice g.1) refl
    where
      by : (b : Bool) → is_own_notice g.1 ≡ b → g.0.stamp < stamp
      by true own =
          let here : g.0.origin ≡ step.at = own_at s step.at step.peer g.0 g.1 (sound.notices.queued step.at step.peer g step.is_peer has) own in
          let at : step.at ≡ p = sym here ∙ mine ∙ me_is in
          right.entries.noticed.below p stamp step.driver step.peer g step.is_driver (subst (λ q. IsPeer s q step.peer) at step.is_peer) (fixed_before sound step stamp fixed) has odd own
      by false foreign =
          let is_driver : IsDriver s g.0.origin step.driver = subst (λ r. IsDriver s r step.driver) (sym (mine ∙ me_is)) step.is_driver in
          let low = right.clocks.staged.collected step.at step.peer g step.driver (going_doing step) step.is_peer has odd foreign is_driver (was_open stamp fixed) (stamped_stages (parts step).phase stamp fixed) in
          let high = right.clocks.above.above p stamp step.driver (going_doing step) step.is_driver (was_open stamp fixed) fixed in omega (arith, low, high)

  -- ---- what comes is above what has left

  notice_parts : (origin : ℕ) (g : Key × Entry) → is_staged_notice origin g ≡ true → (is_staged g ≡ true) × (g.0.origin ≡ origin)
  notice_parts origin g is = let k = three (is_data g.1) (is_staged g) (g.0.origin == origin) is in (k.0, eqb-true g.0.origin origin k.1)
    where
      three : (a b e : Bool) → (not a && b && e) ≡ true → (b ≡ true) × (e ≡ true)
      three false true true same = (refl, refl)
      three true b e same = absurd (cc same)
      three false false e same = absurd (cc same)
      three false true false same = absurd (cc same)

  above_new : (key : Key) → key.origin < no_origin → IsBehind key step.peer → (f : Key × Entry) → Brought step f → key_before key f.0 ≡ true
  above_new key few behind f (Stages begun places collected phase owed live answered is) = let low = behind.0 in before_stamp key f.0 (let stamp = ap (λ g. g.0.stamp) is in omega (arith, low, stamp))
  above_new key few behind f (Commits sending stamp place g phase owed found is) =
      let there = find_has (is_stage step.driver.me place) step.peer.queue g found in
      let stage = stage_parts step.driver.me place g there.1 in
      let old = before_low key g.0 (has_all (λ h. key_before key h.0 ≡ true) step.peer.queue g behind.1 there.0) in
      let high = restamped stamp g (ap stamp_of_phase phase) there.0 stage.staged stage.origin_is in
      before_stamp key f.0 (let same = ap (λ h. h.0.stamp) is in omega (arith, old, high, same))
  above_new key few behind f (Notices stamp g phase has notice is) =
      let k = notice_parts step.driver.me g notice in
      let old = before_low key g.0 (has_all (λ h. key_before key h.0 ≡ true) step.peer.queue g behind.1 has) in
      let high = restamped stamp g phase has k.0 k.1 in
      before_stamp key f.0 (let same = ap (λ h. h.0.stamp) is in omega (arith, old, high, same))
  above_new key few behind f (Drops one has is) =
      let low = behind.0 in
      before_origin key f.0 (let stamp = ap (λ g. g.0.stamp) is in omega (arith, low, stamp)) (let origin = ap (λ g. g.0.origin) is in omega (arith, few, origin))
  above_new key few behind f (Dooms index serial starting at is) = let low = behind.0 in before_stamp key f.0 (let stamp = ap (λ g. g.0.stamp) is in omega (arith, low, stamp))
  above_new key few behind f (Visits index serial at is) = let low = behind.0 in before_stamp key f.0 (let stamp = ap (λ g. g.0.stamp) is in omega (arith, low, stamp))

  here_behind : (key : Key) → key.origin < no_origin → IsBehind key step.peer → (f : Key × Entry) → Has step.new_peer.queue f → key_before key f.0 ≡ true
  here_behind key few behind f has = elim (entry_source step f has) [
    | inl old ↦ has_all (λ h. key_before key h.0 ≡ true) step.peer.queue f behind.1 old.0
    | inr new ↦ above_new key few behind f new
  ]

  -- a key that is behind a peer's queue stays behind it
  pub behind_stays : (key : Key) (q : ℕ) (x y : PeerPart) → key.origin < no_origin → IsPeer s q x → IsPeer t q y → IsBehind key x → IsBehind key y
  behind_stays key q x y few was is behind =
      let low = behind.0 in
      let rise = clocks_rise step q x y was is in (
        omega (arith, low, rise),
        all_has (λ f. key_before key f.0 ≡ true) y.queue (λ f has. elim (peer_cases step q y is) [
          | inr other ↦ has_all (λ h. key_before key h.0 ≡ true) x.queue f behind.1 (subst (λ z. Has z.queue f) (same_Some y x (sym other.1 ∙ was)) has)
          | inl here ↦
              let same : step.peer ≡ x = same_Some step.peer x (sym step.is_peer ∙ ap (slice_get s.peers) (sym here.0) ∙ was) in
              here_behind key few (subst (IsBehind key) (sym same) behind) f (subst (λ z. Has z.queue f) here.1 has)
        ]),
      )
