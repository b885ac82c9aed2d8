-- A round goes on from peer to peer.
use Rattle.std.proofs.Common.{◌≡◌, ◌≢◌, ◌⊎◌, refl, sym, ap, ◌∙◌, inl, inr, subst, arith, ℕ, zero, suc, ◌+◌, ◌≤◌, ◌<◌, Bool, true, false, ◌||◌, ◌&&◌, not, nat_lt, is_none, if◌then◌else◌, List, [], ◌∷◌, length, get_or, Option, Some, None}
use Rattle.std.specs.Prelude.{slice_get}
use Rattle.std.specs.List.{list_all}
use Rattle.b1_model.specs.declared.commands.Command.{Command}
use Rattle.b1_model.specs.declared.events.Doing.{Doing}
use Rattle.b1_model.specs.MachineParts.{DriverPart}
use Rattle.b1_model.specs.MachineOrder.{next_command, no_command_open, is_idle}
use Rattle.b1_model.specs.MachineStep.{idle_driver}
use Rattle.b1_schedule.specs.Schedule.{has_step, gains, Round as AtPeer, Draining, Stalled, Called, Waits, round_end, waiting_peers}
use Rattle.b1_schedule.specs.Played.{PlayedTo}
use Rattle.b1_schedule.proofs.Moves.{round_passed, round_over}
use Rattle.b1_progress.specs.Level.{some_removed, commands_left, attempts_left}
use Rattle.b1_core.specs.Turns.{Bus, driver_at}
use Rattle.b1_play.specs.declared.rounds.Gain.{Gain}
use Rattle.b1_play.specs.declared.rounds.RoundEnd.{RoundEnd}
use Rattle.b1_play.specs.Runs.{IsGood, Follows, Plays, IsClosed, RanRound}
use Rattle.b1_play.specs.Rounds.{bit, no_gain, Passes, RunsNext, Rounds, Ends, behind_rounds, Settles}
use Rattle.b1_play.proofs.Sums.{read_is}
use Rattle.b1_play.proofs.Running.{SoundLaw}
use Rattle.b1_play.proofs.Ended.{part_is}

-- ---- buses that follow each other

pub follows_refl : (b : Bus) → IsGood b → Follows b b
follows_refl b good = record { good = good; opening = refl; commands = refl }

pub follows_trans : (b c d : Bus) → Follows b c → Follows c d → Follows b d
follows_trans b c d first second = record { good = second.good; opening = second.opening ∙ first.opening; commands = second.commands ∙ first.commands }

-- the same part where the lists have it
pub same_part : (b c : Bus) (r : ℕ) → r < length c.state.drivers → slice_get c.state.drivers r ≡ slice_get b.state.drivers r → driver_at c.state r ≡ driver_at b.state r
same_part b c r within same = sym (read_is b.state.drivers r (driver_at c.state r) (idle_driver r) (sym same ∙ part_is c.state r within))

-- a part that isn't there is idle
past_idle : (ds : List DriverPart) (i r : ℕ) → length ds ≤ i → get_or ds i (idle_driver r) ≡ idle_driver r
past_idle [] i r past = refl
past_idle (d ∷ rest) zero r past = absurd (omega (arith, past))
past_idle (d ∷ rest) (suc i) r past = past_idle rest i r (omega (arith, past))

-- a part that stays closed
pub closed_stays : (b c : Bus) (r : ℕ) → slice_get c.state.drivers r ≡ slice_get b.state.drivers r → IsClosed b r → IsClosed c r
closed_stays b c r same closed = elim (cases_within r (length c.state.drivers)) [
  | inl within ↦ ap (λ d. d.doing) (same_part b c r within same) ∙ closed
  | inr past ↦ ap (λ d. d.doing) (past_idle c.state.drivers r r past)
]
  where
    cases_within : (i n : ℕ) → (i < n) ⊎ (n ≤ i)
    cases_within i zero = inr (omega arith)
    cases_within zero (suc n) = inl (omega arith)
    cases_within (suc i) (suc n) = elim (cases_within i n) [ inl less ↦ inl (omega (arith, less)) | inr more ↦ inr (omega (arith, more)) ]

-- ---- a round

pub passes_refl : (b : Bus) (p : ℕ) (g : Gain) → IsGood b → Passes b p g b p g
passes_refl b p g good = record {
  follows = follows_refl b good;
  played = λ turns h. h;
  stays = λ is. is;
  fewer = omega arith;
  called = λ no_call call. absurd (cc (no_call, call));
  lower = λ no_call. omega arith;
  closed = λ r from to. absurd (omega (arith, from, to));
  others = λ r below. refl;
  as_many = refl;
}

module _ (b c d : Bus) (p q r : ℕ) (x y z : Gain) (first : Passes b p x c q y) (second : Passes c q y d r z) (up : p ≤ q) where
  no_call_before : (a e : Bool) → y.called ≡ a → z.called ≡ e → e ≡ false → y.called ≡ false
  no_call_before true e is to none = absurd (cc (second.stays is, to, none))
  no_call_before false e is to none = is

  fewer_called : (a : Bool) → y.called ≡ a → x.called ≡ false → z.called ≡ true → commands_left d.commands d.state < commands_left b.commands b.state
  fewer_called true is none call = omega (arith, first.called none is, second.fewer)
  fewer_called false is none call = omega (arith, first.fewer, second.called is call)

  closed_both : (s : ℕ) → p ≤ s → s < r → (below : Bool) → nat_lt s q ≡ below → IsClosed d s
  closed_both s from to true is = closed_stays c d s (second.others s (grind (arith, is))) (first.closed s from (grind (arith, is)))
  closed_both s from to false is = second.closed s (grind (arith, is)) to

  pub passes_trans : Passes b p x d r z
  passes_trans = record {
    follows = follows_trans b c d first.follows second.follows;
    played = λ turns h. second.played turns (first.played turns h);
    stays = λ is. second.stays (first.stays is);
    fewer = omega (arith, first.fewer, second.fewer);
    called = fewer_called y.called refl;
    lower = λ none. omega (arith, second.lower none, first.lower (no_call_before y.called z.called refl refl none));
    closed = λ s from to. closed_both s from to (nat_lt s q) refl;
    others = λ s below. second.others s (omega (arith, below, up)) ∙ first.others s below;
    as_many = second.as_many ∙ first.as_many;
  }

module _ (b c : Bus) (p : ℕ) (before : Gain) where
  -- a command that ended with a call
  pub called_next : RanRound b p Called c → RunsNext b p before true c (record { gained = true; called = true })
  called_next one = (
    record {
      follows = one.ran.follows;
      played = one.played before.gained;
      stays = λ is. refl;
      fewer = omega (arith, one.commands);
      called = λ none call. omega (arith, one.commands);
      lower = λ none. absurd (cc none);
      closed = λ r from to. absurd (omega (arith, from, to));
      others = λ r below. one.ran.others r (λ same. absurd (omega (arith, below, ap (λ n. n) same)));
      as_many = one.ran.as_many;
    },
    omega (arith, one.commands),
  )

  bit_gains : (g : Bool) (removed : ℕ) → bit (gains g removed) ≤ some_removed removed + bit g
  bit_gains true removed = omega arith
  bit_gains false removed = by_some (nat_lt 0 removed)
    where
      by_some : (some : Bool) → (if false || some then 1 else 0) ≤ (if some then 1 else 0) + 0
      by_some true = omega arith
      by_some false = omega arith

  -- an attempt that waits
  pub waits_next : (removed : ℕ) → RanRound b p (Waits removed) c → RunsNext b p before false c (record { gained = gains before.gained removed; called = before.called })
  waits_next removed one = record {
    follows = one.ran.follows;
    played = one.played before.gained;
    stays = λ is. is;
    fewer = one.commands;
    called = λ none call. absurd (cc (none, call));
    lower = λ none. omega (arith, one.attempts, bit_gains before.gained removed);
    closed = λ r from to. let same : r ≡ p = omega (arith, from, to) in subst (λ q. IsClosed c q) (sym same) one.ran.closed;
    others = λ r below. one.ran.others r (λ same. absurd (omega (arith, below, ap (λ n. n) same)));
    as_many = one.ran.as_many;
  }

-- a peer without a step to do is closed
idle_closed : (lists : List (List Command)) (p : ℕ) (d : DriverPart) → has_step lists p d ≡ false → d.doing ≡ None
idle_closed lists p d none = by_doing d.doing refl
  where
    by_doing : (doing : Option Doing) → d.doing ≡ doing → d.doing ≡ None
    by_doing None is = is
    by_doing (Some one) is = absurd (cc (sym (ap (λ found. elim found [ Some other ↦ true | None ↦ not (is_none (next_command lists p d)) ]) is) ∙ none))

-- a peer that is passed by
pub idle_next : (b : Bus) (p : ℕ) (before : Gain) → IsGood b → p < length b.state.drivers → has_step b.commands p (driver_at b.state p) ≡ false → RunsNext b p before false b before
idle_next b p before good within none = record {
  follows = follows_refl b good;
  played = λ turns h. round_passed b.opening b.commands turns b.state p before.gained (driver_at b.state p) (part_is b.state p within) none h;
  stays = λ is. is;
  fewer = omega arith;
  called = λ no_call call. absurd (cc (no_call, call));
  lower = λ no_call. omega arith;
  closed = λ r from to. let same : r ≡ p = omega (arith, from, to) in subst (λ q. IsClosed b q) (sym same) (idle_closed b.commands p (driver_at b.state p) none);
  others = λ r below. refl;
  as_many = refl;
}

-- ---- the end of a round

all_idle : (ds : List DriverPart) → ((r : ℕ) (d : DriverPart) → slice_get ds r ≡ Some d → d.doing ≡ None) → list_all is_idle ds ≡ true
all_idle [] closed = refl
all_idle (d ∷ rest) closed =
    let ih = all_idle rest (λ r e is. closed (suc r) e is) in
    ap (λ doing. is_none doing && list_all is_idle rest) (closed zero d refl) ∙ ih

pub none_open : (b : Bus) → ((r : ℕ) → r < length b.state.drivers → IsClosed b r) → no_command_open b.state ≡ true
none_open b closed = all_idle b.state.drivers (λ r d is. sym (ap (λ e. e.doing) (read_is b.state.drivers r d (idle_driver r) is)) ∙ closed r (within b.state.drivers r d is))
  where
    within : (ds : List DriverPart) (r : ℕ) (d : DriverPart) → slice_get ds r ≡ Some d → r < length ds
    within [] r d is = absurd (cc is)
    within (e ∷ rest) zero d is = omega arith
    within (e ∷ rest) (suc r) d is = omega (arith, within rest r d is)

pub none_past : (ds : List DriverPart) (n : ℕ) → length ds ≤ n → slice_get ds n ≡ None
none_past [] n past = refl
none_past (d ∷ rest) zero past = absurd (omega (arith, past))
none_past (d ∷ rest) (suc n) past = none_past rest n (omega (arith, past))

-- there are as many drivers as peers
pub drivers_count : SoundLaw → (b : Bus) → IsGood b → length b.state.drivers ≡ length b.opening.peers
drivers_count sound b good = (sound b.opening b.state good.opening good.reached).numbered.as_many_drivers

pub rounds_refl : (b : Bus) → IsGood b → Rounds b b
rounds_refl b good = record { follows = follows_refl b good; played = λ turns h. h; fewer = omega arith }

module _ (sound : SoundLaw) (b c d : Bus) (count : ℕ) (is_count : count ≡ length c.opening.peers) (before : Rounds b c) (gain : Gain) (one : Passes c 0 no_gain d count gain) where
  drivers_now : length d.state.drivers ≡ count
  drivers_now = drivers_count sound d one.follows.good ∙ ap (λ o. length o.peers) one.follows.opening ∙ sym is_count

  round_ends : Plays b (AtPeer 0 false) d (round_end d.commands d.state gain.gained)
  round_ends turns h = round_over d.opening d.commands turns d.state count gain.gained (none_past d.state.drivers count (omega (arith, drivers_now))) (one.played turns (before.played turns h))

  pub rounds_end : (end : RoundEnd) → end.gain ≡ gain → end.waiting.items ≡ waiting_peers d.commands d.state → (gain.called ≡ true) ⊎ ((gain.gained ≡ false) ⊎ (end.waiting.items ≡ [])) → Ends b d end
  rounds_end end is waiting why = record {
    follows = follows_trans b c d before.follows one.follows;
    played = subst (λ g. Plays b (AtPeer 0 false) d (round_end d.commands d.state g.gained)) (sym is) round_ends;
    none_open = none_open d (λ r within. one.closed r (omega arith) (omega (arith, within, drivers_now)));
    waiting = waiting;
    fewer = omega (arith, before.fewer, one.fewer);
    called = λ call. omega (arith, before.fewer, one.called refl (sym (ap (λ g. g.called) is) ∙ call));
    why = subst (λ g. (g.called ≡ true) ⊎ ((g.gained ≡ false) ⊎ (end.waiting.items ≡ []))) (sym is) why;
  }

  -- another round begins where one gained and some peers wait
  again : (waiting : List ℕ) → waiting ≡ waiting_peers d.commands d.state → waiting ≢ [] → gain.gained ≡ true → round_end d.commands d.state gain.gained ≡ AtPeer 0 false
  again [] is some gained = absurd (some refl)
  again (p ∷ rest) is some gained =
      ap (λ list. elim list [ [] ↦ Draining 0 false | peer ∷ more ↦ if gain.gained then AtPeer 0 false else Stalled ]) (sym is) ∙ ap (λ g. if g then AtPeer 0 false else Stalled) gained

  pub rounds_more : (waiting : List ℕ) → waiting ≡ waiting_peers d.commands d.state → waiting ≢ [] → gain.gained ≡ true → gain.called ≡ false → Rounds b d × (attempts_left d.state < attempts_left c.state)
  rounds_more waiting is some gained none = (
    record {
      follows = follows_trans b c d before.follows one.follows;
      played = λ turns h. subst (λ stage. PlayedTo d.opening d.commands turns d.state stage) (again waiting is some gained) (round_ends turns h);
      fewer = omega (arith, before.fewer, one.fewer);
    },
    (let some_bit : bit gain.gained ≡ 1 = ap bit gained in omega (arith, one.lower none, some_bit)),
  )

-- ---- the end of all rounds

module _ (b c d : Bus) (end : RoundEnd) (before : Rounds b c) (ended : Ends c d end) where
  goes_again : (waiting : List ℕ) → end.waiting.items ≡ waiting → waiting ≢ [] → end.gain.gained ≡ true → round_end d.commands d.state end.gain.gained ≡ AtPeer 0 false
  goes_again [] is some gained = absurd (some refl)
  goes_again (p ∷ rest) is some gained =
      ap (λ list. elim list [ [] ↦ Draining 0 false | peer ∷ more ↦ if end.gain.gained then AtPeer 0 false else Stalled ]) (sym ended.waiting ∙ is) ∙ ap (λ g. if g then AtPeer 0 false else Stalled) gained

  called_then : end.gain.gained ≡ true → end.waiting.items ≢ [] → end.gain.called ≡ true
  called_then gained some = elim ended.why [
    | inl called ↦ called
    | inr other ↦ elim other [ inl none ↦ absurd (cc (none, gained)) | inr empty ↦ absurd (some empty) ]
  ]

  pub settle_more : end.waiting.items ≢ [] → end.gain.gained ≡ true → Rounds b d × (commands_left d.commands d.state < commands_left c.commands c.state)
  settle_more some gained = (
    record {
      follows = follows_trans b c d before.follows ended.follows;
      played = λ turns h. subst (λ stage. PlayedTo d.opening d.commands turns d.state stage) (goes_again end.waiting.items refl some gained) (ended.played turns (before.played turns h));
      fewer = omega (arith, before.fewer, ended.fewer);
    },
    ended.called (called_then gained some),
  )

  behind : (waiting : List ℕ) → end.waiting.items ≡ waiting → (waiting ≡ []) ⊎ (end.gain.gained ≡ false) → round_end d.commands d.state end.gain.gained ≡ behind_rounds waiting
  behind [] is why = ap (λ list. elim list [ [] ↦ Draining 0 false | peer ∷ more ↦ if end.gain.gained then AtPeer 0 false else Stalled ]) (sym ended.waiting ∙ is)
  behind (p ∷ rest) is (inl empty) = absurd (cc empty)
  behind (p ∷ rest) is (inr none) =
      ap (λ list. elim list [ [] ↦ Draining 0 false | peer ∷ more ↦ if end.gain.gained then AtPeer 0 false else Stalled ]) (sym ended.waiting ∙ is) ∙ ap (λ g. if g then AtPeer 0 false else Stalled) none

  pub settles : (end.waiting.items ≡ []) ⊎ (end.gain.gained ≡ false) → Settles b d end.waiting.items
  settles why = record {
    follows = follows_trans b c d before.follows ended.follows;
    none_open = ended.none_open;
    waiting_is = ended.waiting;
    played = λ turns h. subst (λ stage. PlayedTo d.opening d.commands turns d.state stage) (behind end.waiting.items refl why) (ended.played turns (before.played turns h));
  }
