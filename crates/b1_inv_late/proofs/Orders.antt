-- Along a list of steps: what begins where clocks have come up to a stamp gets a later one, and what is received has brought all clocks up.
use Rattle.std.proofs.Common.{◌≡◌, ◌≢◌, refl, sym, ap, subst, ◌∙◌, inl, inr, ℕ, zero, suc, ◌+◌, ◌<◌, List, [], ◌∷◌, Some}
use Rattle.std.specs.Prelude.{slice_get}
use Rattle.std.proofs.lemmas.Option.{slice_get_within}
use native.Mathlib.Omega.{arith}
use Rattle.b1_model.specs.declared.naming.Key.{Key}
use Rattle.b1_model.specs.declared.naming.Opening.{Opening}
use Rattle.b1_model.specs.Opening.{IsOpening}
use Rattle.b1_model.specs.MachineParts.{State, no_origin}
use Rattle.b1_model.specs.MachineStep.{Step, Label, Leads, opening_state}
use Rattle.b1_model.specs.MachineOrder.{Event, event_of, events, key_taken, StampedCall, stamped_call, stamped_calls, Late}
use Rattle.b1_step.specs.Rights.{Has}
use Rattle.b1_step.proofs.Lists.{has_at}
use Rattle.b1_inv.specs.Sound.{IsSound}
use Rattle.b1_inv.specs.Words.{IsPeer}
use Rattle.b1_inv_record.specs.Right.{ClocksCover}
use Rattle.b1_inv_cover.proofs.Covers.{covers_begin, covers_kept}
use Rattle.b1_inv_cover.proofs.Stamped.{same_peer_at}
use Rattle.b1_law.proofs.Reached.{opening_sound, step_sound}
use Rattle.b1_inv_late.proofs.Calls.{parties_with, has_with, next_call, call_is, next_calls, later_calls, own_party, Shares, shares}
use Rattle.b1_inv_late.proofs.Runs.{Covered, Collected, HasReached, Brought, covered_kept, collected_other, reached_other, collected_own, reached_own, given_above, given_brings, brought_kept, received_covers}
use Rattle.b1_inv_late.proofs.Steps.{Taken, taken}

-- the states after a step are sound
after_sound : (o : Opening) (l : Label) (s t : State) → IsSound o s → Step o s l.driver l.command t → IsSound o t
after_sound o l s t sound step = step_sound o s l.driver l.command t sound step

-- a command that has begun, where clocks have come up to a stamp: it gets a later one
begun_later : (o : Opening) (steps : List Label) (s t : State) → IsSound o s → (run : Leads o s steps t) → (began p stamp : ℕ) (parties peers : List ℕ) (x : StampedCall) → Covered stamp peers s → Collected p stamp parties peers s
    → stamped_call began p parties (events o s steps t run) ≡ Some x → Shares peers x.parties → stamp < x.stamp
begun_later o [] s t sound run began p stamp parties peers x low h is common = absurd (cc is)
begun_later o (l ∷ rest) s t sound run began p stamp parties peers x low h is common =
    let next = after_sound o l s run.0 sound run.1 in
    elim (next_call began p parties (event_of run.1) (events o run.0 rest t run.2) x is) [
      | inl other ↦ begun_later o rest run.0 t next run.2 began p stamp parties peers x (covered_kept run.1 stamp peers low) (collected_other run.1 p stamp parties peers other.0 h) other.1 common
      | inr own ↦
          let mine = subst (λ q. Collected q stamp parties peers s) (sym own.0) h in
          elim own.2 [
            | inl given ↦
                let above = given_above sound run.1 stamp given.0 parties peers given.1 low mine common.0 (subst (λ m. Has m.parties common.0) (sym given.2) common.2) common.1 in
                let same : given.0 ≡ x.stamp = ap (λ m. m.stamp) given.2 in
                omega (arith, above, same)
            | inr further ↦ begun_later o rest run.0 t next run.2 began p stamp (parties_with (event_of run.1) parties) peers x (covered_kept run.1 stamp peers low)
                (subst (λ q. Collected q stamp (parties_with (event_of run.1) parties) peers run.0) own.0 (collected_own sound run.1 stamp parties peers own.1 low mine)) further common
          ]
    ]

-- a command that begins there
begins_later : (o : Opening) (steps : List Label) (s t : State) → IsSound o s → (run : Leads o s steps t) → (here stamp : ℕ) (peers : List ℕ) (x : StampedCall) → Covered stamp peers s
    → Has (stamped_calls here (events o s steps t run)) x → Shares peers x.parties → stamp < x.stamp
begins_later o [] s t sound run here stamp peers x low has common = absurd has
begins_later o (l ∷ rest) s t sound run here stamp peers x low has common =
    let next = after_sound o l s run.0 sound run.1 in
    elim (next_calls here (event_of run.1) (events o run.0 rest t run.2) x has) [
      | inl first ↦ begun_later o rest run.0 t next run.2 here l.driver stamp (l.driver ∷ []) peers x (covered_kept run.1 stamp peers low)
          (λ d one is_driver is early y party peer. inl (only l.driver y party)) first.1 common
      | inr behind ↦ begins_later o rest run.0 t next run.2 (here + 1) stamp peers x (covered_kept run.1 stamp peers low) behind common
    ]
  where
    only : (p y : ℕ) → Has (p ∷ []) y → y ≡ p
    only p y (inl same) = same
    only p y (inr none) = absurd none

-- a command that begins after a receipt of something that is brought to all
after_receipt : (o : Opening) (steps : List Label) (s t : State) → IsSound o s → ClocksCover s → (run : Leads o s steps t) → (here j : ℕ) (key : Key) (e : Event) (peers : List ℕ) (x : StampedCall) → key.origin ≢ no_origin
    → Brought key.origin key.stamp peers s → slice_get (events o s steps t run) j ≡ Some e → key_taken e.outcome ≡ Some key → Has (stamped_calls here (events o s steps t run)) x → here + j < x.began → Shares peers x.parties → key.stamp < x.stamp
after_receipt o [] s t sound covers run here j key e peers x named h at takes has later common = absurd has
after_receipt o (l ∷ rest) s t sound covers run here zero key e peers x named h at takes has later common =
    let same : event_of run.1 ≡ e = cc at in
    let low = received_covers sound run.1 covers.synced key peers (taken sound run.1 key named (ap (λ z. key_taken z.outcome) same ∙ takes)) h in
    begins_later o rest run.0 t (after_sound o l s run.0 sound run.1) run.2 (here + 1) key.stamp peers x (covered_kept run.1 key.stamp peers low) (later_calls here zero (event_of run.1) (events o run.0 rest t run.2) x has later) common
after_receipt o (l ∷ rest) s t sound covers run here (suc j) key e peers x named h at takes has later common =
    after_receipt o rest run.0 t (after_sound o l s run.0 sound run.1) (covers_kept sound covers run.1) run.2 (here + 1) j key e peers x named (brought_kept sound run.1 covers.synced key.origin key.stamp peers h) at takes
    (later_calls here (suc j) (event_of run.1) (events o run.0 rest t run.2) x has later) (omega (arith, later)) common

-- the stamp of what is taken has come up at its origin
own_covered : {s : State} {o : Opening} {l : Label} {t : State} (sound : IsSound o s) (step : Step o s l.driver l.command t) (key : Key) → Taken sound step key → Covered key.stamp (key.origin ∷ []) s
own_covered {s} sound step key k y (inl same) z is =
    let here : k.own ≡ z = same_peer_at s key.origin k.own z k.is_own (subst (λ q. IsPeer s q z) same is) in
    let clock = ap (λ x. x.clock) here in
    let below = k.below in
    omega (arith, below, clock)
own_covered sound step key k y (inr none) z is = absurd none

-- a command that has begun, something of which is received later
receipt_later : (o : Opening) (steps : List Label) (s t : State) → IsSound o s → ClocksCover s → (run : Leads o s steps t) → (here began j : ℕ) (key : Key) (e : Event) (parties : List ℕ) (m x : StampedCall) → key.origin ≢ no_origin
    → Has parties key.origin → HasReached key.origin parties s → stamped_call began key.origin parties (events o s steps t run) ≡ Some m → m.stamp ≡ key.stamp
    → slice_get (events o s steps t run) j ≡ Some e → key_taken e.outcome ≡ Some key → Has (stamped_calls here (events o s steps t run)) x → here + j < x.began → Shares m.parties x.parties → m.stamp < x.stamp
receipt_later o [] s t sound covers run here began j key e parties m x named own reached is stamp at takes has later common = absurd has
receipt_later o (l ∷ rest) s t sound covers run here began zero key e parties m x named own reached is stamp at takes has later common =
    let same : event_of run.1 ≡ e = cc at in
    let k = taken sound run.1 key named (ap (λ z. key_taken z.outcome) same ∙ takes) in
    let above = begun_later o (l ∷ rest) s t sound run began key.origin key.stamp parties (key.origin ∷ []) m (own_covered {l = l} sound run.1 key k) (λ d one is_driver is_open early y party peer. inl (only key.origin y peer)) is
    (key.origin, inl refl, (call_is began key.origin parties (events o s (l ∷ rest) t run) m is).keeps key.origin own) in
    absurd (omega (arith, above, stamp))
  where
    only : (p y : ℕ) → Has (p ∷ []) y → y ≡ p
    only p y (inl same) = same
    only p y (inr none) = absurd none
receipt_later o (l ∷ rest) s t sound covers run here began (suc j) key e parties m x named own reached is stamp at takes has later common =
    let next = after_sound o l s run.0 sound run.1 in
    let next_covers = covers_kept sound covers run.1 in
    let behind = later_calls here (suc j) (event_of run.1) (events o run.0 rest t run.2) x has later in
    elim (next_call began key.origin parties (event_of run.1) (events o run.0 rest t run.2) m is) [
      | inl other ↦ receipt_later o rest run.0 t next next_covers run.2 (here + 1) began j key e parties m x named own (reached_other run.1 key.origin parties other.0 reached) other.1 stamp at takes behind (omega (arith, later)) common
      | inr mine ↦
          let before = subst (λ q. HasReached q parties s) (sym mine.0) reached in
          elim mine.2 [
            | inl given ↦
                let given_is : given.0 ≡ key.stamp = ap (λ c. c.stamp) given.2 ∙ stamp in
                let brings = subst (λ q. Brought q key.stamp parties run.0) mine.0 (subst (λ n. Brought l.driver n parties run.0) given_is (given_brings sound run.1 given.0 parties given.1 before)) in
                let above = after_receipt o rest run.0 t next next_covers run.2 (here + 1) j key e parties x named brings at takes behind (omega (arith, later)) (common.0, subst (λ c. Has c.parties common.0) (sym given.2) common.1, common.2) in
                omega (arith, above, stamp)
            | inr further ↦ receipt_later o rest run.0 t next next_covers run.2 (here + 1) began j key e (parties_with (event_of run.1) parties) m x named
                (has_with (event_of run.1) parties key.origin own) (subst (λ q. HasReached q (parties_with (event_of run.1) parties) run.0) mine.0 (reached_own sound run.1 parties mine.1 before)) further stamp at takes behind (omega (arith, later)) common
          ]
    ]

-- a call's origin is a driver, and so no stand-in for one
call_named : (o : Opening) (steps : List Label) (s t : State) → IsSound o s → (run : Leads o s steps t) → (here : ℕ) (m : StampedCall) → Has (stamped_calls here (events o s steps t run)) m → m.origin ≢ no_origin
call_named o [] s t sound run here m has = absurd has
call_named o (l ∷ rest) s t sound run here m has = elim (next_calls here (event_of run.1) (events o run.0 rest t run.2) m has) [
  | inl first ↦ λ same.
      let few = slice_get_within s.drivers l.driver run.1.driver run.1.is_driver in
      let origin = (call_is here l.driver (l.driver ∷ []) (events o run.0 rest t run.2) m first.1).origin_is in
      absurd (omega (arith, few, same, origin, sound.numbered.as_many_drivers, sound.opening.most))
  | inr behind ↦ call_named o rest run.0 t (after_sound o l s run.0 sound run.1) run.2 (here + 1) m behind
]

-- a call something of which is received, and one that begins later
ordered : (o : Opening) (steps : List Label) (s t : State) → IsSound o s → ClocksCover s → (run : Leads o s steps t) → (here j : ℕ) (key : Key) (e : Event) (m x : StampedCall) → key.origin ≢ no_origin
    → slice_get (events o s steps t run) j ≡ Some e → key_taken e.outcome ≡ Some key → Has (stamped_calls here (events o s steps t run)) m → m.stamp ≡ key.stamp → m.origin ≡ key.origin
    → Has (stamped_calls here (events o s steps t run)) x → here + j < x.began → Shares m.parties x.parties → m.stamp < x.stamp
ordered o [] s t sound covers run here j key e m x named at takes of stamp origin has later common = absurd has
ordered o (l ∷ rest) s t sound covers run here zero key e m x named at takes of stamp origin has later common =
    let same : event_of run.1 ≡ e = cc at in
    let k = taken sound run.1 key named (ap (λ z. key_taken z.outcome) same ∙ takes) in
    let above = begins_later o (l ∷ rest) s t sound run here key.stamp (key.origin ∷ []) m (own_covered {l = l} sound run.1 key k) of
    (key.origin, inl refl, subst (Has m.parties) origin (own_party here (events o s (l ∷ rest) t run) m of)) in
    absurd (omega (arith, above, stamp))
ordered o (l ∷ rest) s t sound covers run here (suc j) key e m x named at takes of stamp origin has later common =
    let next = after_sound o l s run.0 sound run.1 in
    let next_covers = covers_kept sound covers run.1 in
    let behind = later_calls here (suc j) (event_of run.1) (events o run.0 rest t run.2) x has later in
    elim (next_calls here (event_of run.1) (events o run.0 rest t run.2) m of) [
      | inl first ↦
          let mine : l.driver ≡ key.origin = sym (call_is here l.driver (l.driver ∷ []) (events o run.0 rest t run.2) m first.1).origin_is ∙ origin in
          receipt_later o rest run.0 t next next_covers run.2 (here + 1) here j key e (l.driver ∷ []) m x named (inl (sym mine)) (λ d one is_driver is_open early y party. inl (only l.driver key.origin y mine party))
          (subst (λ q. stamped_call here q (l.driver ∷ []) (events o run.0 rest t run.2) ≡ Some m) mine first.1) stamp at takes behind (omega (arith, later)) common
      | inr further ↦ ordered o rest run.0 t next next_covers run.2 (here + 1) j key e m x named at takes further stamp origin behind (omega (arith, later)) common
    ]
  where
    only : (p r y : ℕ) → p ≡ r → Has (p ∷ []) y → y ≡ r
    only p r y mine (inl same) = same ∙ mine
    only p r y mine (inr none) = absurd none

-- what was begun after a receipt has a later stamp than what was received, where they have a party in common
pub late : (o : Opening) (steps : List Label) → IsOpening o → Late o steps
late o steps valid s run = record {
  later = λ i e key m x at takes of stamp origin has behind common.
      let es = events o (opening_state o) steps s run in
      let sound = opening_sound o valid in
      let there = has_at (stamped_calls 0 es) of.0 m of.1 in
      ordered o steps (opening_state o) s sound (covers_begin o valid) run 0 i key e m x
      (subst (λ n. n ≢ no_origin) origin (call_named o steps (opening_state o) s sound run 0 m there)) at takes there stamp origin (has_at (stamped_calls 0 es) has.0 x has.1) (omega (arith, behind)) (shares m x common);
}
