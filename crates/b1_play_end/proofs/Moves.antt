-- What holds of a schedule at its stage is kept by every move.
use Rattle.std.proofs.Common.{◌≡◌, ◌≢◌, ◌⊎◌, refl, sym, ap, ◌∙◌, arith, inl, inr, subst, ℕ, ◌+◌, ◌<◌, Bool, true, false, cond, if◌then◌else◌, not, nat_lt, List, length, slice_get, option_map, is_none, Option, Some, None}
use Rattle.std.proofs.lemmas.Bool.{cases_eq}
use Rattle.b1_model.specs.declared.naming.Opening.{Opening}
use Rattle.b1_model.specs.declared.commands.Command.{Command}
use Rattle.b1_model.specs.declared.commands.Command.TheVariants as cmd
use Rattle.b1_model.specs.declared.events.Action.TheVariants as act
use Rattle.b1_model.specs.declared.events.Doing.{Doing}
use Rattle.b1_model.specs.declared.events.Phase.TheVariants.{Starting}
use Rattle.b1_model.specs.MachineParts.{PeerPart, DriverPart, State}
use Rattle.b1_model.specs.MachineDriver.{first_action, next_action, peer_of}
use Rattle.b1_model.specs.MachineStep.{Step, begun, begun_by, aimed, stepped, stepped_by, stepped_to, stepped_at}
use Rattle.b1_model.specs.MachineOrder.{next_command}
use Rattle.b1_model.specs.Script.{resolved}
use Rattle.b1_step.proofs.Steps.{step_of}
use Rattle.b1_inv.specs.Words.{IsPeer, IsDriver}
use Rattle.b1_inv.specs.Sound.{IsSound}
use Rattle.b1_inv_tools.proofs.Leaves.{new_driver}
use Rattle.b1_inv_sends.proofs.SendsKept.{nothing_owed}
use Rattle.b1_law.proofs.Reached.{step_sound}
use Rattle.b1_schedule.specs.Shortage.{Shortage, is_short}
use Rattle.b1_schedule.specs.Schedule.{removed_by, beginning, with_step, ending, driver_after, Ending, Open, Called, Waits, Playing, Stage, Turning, Round, Draining, round_after, drain_after, has_step, round_at, drain_at}
use Rattle.b1_play_end.specs.Course.{OwnersThere, TryingBy, IsTrying, AllTold, IsIdle, IsWaiting, IsEmptied, HoldsAt}
use Rattle.b1_play_end.proofs.Holds.{peer_there, driver_there, told_kept, same_part}
use Rattle.b1_play_end.proofs.Rounds.{round_goes, drain_goes}
use Rattle.b1_play_end.proofs.Owners.{owners_kept}
use Rattle.b1_inv_tools.proofs.Facts.{next_of}

-- what is kept
pub record Kept (lists : List (List Command)) (o : Opening) (at : Playing) : Type 0 where
  pub sound : IsSound o at.state
  pub known : AllTold at.state
  pub owners : OwnersThere at.state
  pub holds : HoldsAt lists at.state at.stage

-- ---- a command can begin

first_own : (me : ℕ) (shut : Bool) (c : Command) → peer_of me (if shut then act.Local else first_action c) ≡ me
first_own me true c = refl
first_own me false cmd.Disconnect = refl
first_own me false cmd.Query = refl
first_own me false (cmd.Limit limits) = refl
first_own me false (cmd.Reset limits) = refl
first_own me false (cmd.Release number) = refl
first_own me false (cmd.Destroy numbers) = refl
first_own me false (cmd.SliceRelease offset) = refl
first_own me false (cmd.Send c) = refl
first_own me false cmd.Recv = refl
first_own me false cmd.Await = refl

module _ {o : Opening} {s : State} (sound : IsSound o s) (p : ℕ) (d : DriverPart) (is_d : IsDriver s p d) (rests : d.doing ≡ None) (memory : Bool) (c : Command) where
  abbrev e : DriverPart
  e = record d { doing = Some (record { command = c; phase = Starting }) }

  begun_is : begun d (Some c) ≡ Some e
  begun_is = ap (λ doing. begun_by d doing (Some c)) rests

  own : peer_of e.me (next_action e) ≡ p
  own = ap (peer_of e.me) (next_of e (record { command = c; phase = Starting }) refl (nothing_owed s p d sound.references is_d rests)) ∙ first_own e.me e.shut c ∙ sound.numbered.drivers p d is_d

  there : (x : PeerPart) × IsPeer s p x
  there = peer_there s.peers p (omega (arith, driver_there s.drivers p d is_d, sound.numbered.as_many_peers, sound.numbered.as_many_drivers))

  steps_to : stepped o memory p (Some c) s ≡ stepped_at o memory p (Some c) s d (peer_of e.me (next_action e)) (Some there.0)
  steps_to = ap (stepped_by o memory p (Some c) s) is_d ∙ ap (λ b. stepped_to o memory p (Some c) s d (option_map aimed b)) begun_is ∙ ap (stepped_at o memory p (Some c) s d (peer_of e.me (next_action e))) (ap (slice_get s.peers) own ∙ there.1)

  pub can_begin : stepped o memory p (Some c) s ≡ None → ⊥
  can_begin none = cc (steps_to, none)

-- ---- a driver's step

driver_same : (s : State) (p : ℕ) (d e : DriverPart) → IsDriver s p e → driver_after s p d ≡ e
driver_same s p d e is = ap (λ found. elim found [ None ↦ d | Some one ↦ one ]) is

-- a driver whose command is open has an open ending where nothing changes
open_ending : (s : State) (p : ℕ) (d : DriverPart) (doing : Doing) → IsDriver s p d → d.doing ≡ Some doing → ending d (driver_after s p d) ≡ Open
open_ending s p d doing is_d is = ap (ending d) (driver_same s p d d is_d) ∙ ap (λ one. elim one [ Some other ↦ Open | None ↦ if nat_lt (length d.calls) (length d.calls) then Called else Waits (removed_by d) ]) is

module _ (lists : List (List Command)) (o : Opening) (m : Shortage) (s : State) (sound : IsSound o s) (known : AllTold s) (owners : OwnersThere s) (p : ℕ) (d : DriverPart) (is_d : IsDriver s p d) where
  begins_is : (next : Option Command) (c : Command) → next ≡ Some c → d.doing ≡ None → beginning next d ≡ Some (resolved c d.calls)
  begins_is next c some rests = ap (λ n. beginning n d) some ∙ ap (λ doing. elim doing [ Some one ↦ None | None ↦ Some (resolved c d.calls) ]) rests

  -- a driver without a step to do has neither an open command nor a next one
  must_step : (next : Option Command) → (d.doing ≡ None → next ≡ None → ⊥) → stepped o (is_short m d (beginning next d)) p (beginning next d) s ≡ None → d.doing ≡ None → ⊥
  must_step next some none rests = by_next next refl
    where
      by_next : (c : Option Command) → next ≡ c → ⊥
      by_next None is = some rests is
      by_next (Some c) is = can_begin sound p d is_d rests (is_short m d (beginning next d)) (resolved c d.calls) (ap (λ b. stepped o (is_short m d (beginning next d)) p b s) (sym (begins_is next c is rests)) ∙ none)

  -- a step of the driver, or none where its command can't go on
  step_result : (next : Option Command) (to : Ending → Stage) → (d.doing ≡ None → next ≡ None → ⊥) → HoldsAt lists s (to Open)
      → ((t : State) (step : Step o s p (beginning next d) t) → step.driver ≡ d → HoldsAt lists t (to (ending step.driver step.new_driver)))
      → (r : Option State) → r ≡ stepped o (is_short m d (beginning next d)) p (beginning next d) s
      → Kept lists o (record { state = elim r [ None ↦ s | Some t ↦ t ]; stage = to (ending d (driver_after (elim r [ None ↦ s | Some t ↦ t ]) p d)) })
  step_result next to some stays goes (Some t) is =
      let step = step_of o (is_short m d (beginning next d)) p (beginning next d) s t (sym is) in
      let old = same_part s.drivers p step.driver d step.is_driver is_d in
      record {
        sound = step_sound o s p (beginning next d) t sound step;
        known = told_kept sound known step;
        owners = owners_kept sound.numbered owners step;
        holds = subst (λ en. HoldsAt lists t (to en)) (ap (λ one. ending one step.new_driver) old ∙ ap (ending d) (sym (driver_same t p d step.new_driver (new_driver step)))) (goes t step old);
      }
  step_result next to some stays goes None is = by_doing d.doing refl
    where
      by_doing : (doing : Option Doing) → d.doing ≡ doing → Kept lists o (record { state = s; stage = to (ending d (driver_after s p d)) })
      by_doing (Some doing) opened = record { sound = sound; known = known; owners = owners; holds = subst (λ en. HoldsAt lists s (to en)) (sym (open_ending s p d doing is_d opened)) stays }
      by_doing None rests = absurd (must_step next some (sym is) rests)

  -- a turn
  pub turn_result : (next : Option Command) (r : Option State) → r ≡ stepped o (is_short m d (beginning next d)) p (beginning next d) s → (turns : List ℕ)
      → Kept lists o (record { state = elim r [ None ↦ s | Some t ↦ t ]; stage = Turning turns })
  turn_result next None is turns = record { sound = sound; known = known; owners = owners; holds = tt }
  turn_result next (Some t) is turns =
      let step = step_of o (is_short m d (beginning next d)) p (beginning next d) s t (sym is) in
      record { sound = step_sound o s p (beginning next d) t sound step; known = told_kept sound known step; owners = owners_kept sound.numbered owners step; holds = tt }

  -- a round at a driver
  pub round_kept : (gained : Bool) → HoldsAt lists s (Round p gained) → Kept lists o (round_at o lists m p gained s (Some d))
  round_kept gained holds = by_step (has_step lists p d) refl
    where
      next : Option Command
      next = next_command lists p d

      some : has_step lists p d ≡ true → d.doing ≡ None → next_command lists p d ≡ None → ⊥
      some has rests none = cc (sym has ∙ ap (λ doing. elim doing [ Some one ↦ true | None ↦ not (is_none (next_command lists p d)) ]) rests ∙ ap (λ n. not (is_none n)) none)

      rests_now : has_step lists p d ≡ false → (d.doing ≡ None) × (next_command lists p d ≡ None)
      rests_now has = by_parts d.doing (next_command lists p d) has
        where
          by_parts : (doing : Option Doing) (n : Option Command) → elim doing [ Some one ↦ true | None ↦ not (is_none n) ] ≡ false → (doing ≡ None) × (n ≡ None)
          by_parts (Some one) n is = absurd (cc is)
          by_parts None (Some c) is = absurd (cc is)
          by_parts None None is = (refl, refl)

      passed : (d.doing ≡ None) × (next_command lists p d ≡ None) → HoldsAt lists s (Round (p + 1) gained)
      passed rests = (
        (λ r below. elim (cases_eq r p) [
          | inl here ↦ (λ f is_f. ap (λ g. g.doing) (same_part s.drivers p f d (ap (slice_get s.drivers) (sym here) ∙ is_f) is_d) ∙ rests.0)
          | inr apart ↦ holds.0 r (omega (arith, below, apart))
        ]),
        λ none idle r f x below is_f is_x. waits_at none r f x below is_f is_x (cases_eq r p),
      )
        where
          idle_here : IsIdle s p
          idle_here f is_f = ap (λ g. g.doing) (same_part s.drivers p f d is_f is_d) ∙ rests.0

          waits_at : gained ≡ false → (r : ℕ) (f : DriverPart) (x : PeerPart) → r < p + 1 → IsDriver s r f → IsPeer s r x → (r ≡ p) ⊎ (r ≢ p) → IsWaiting lists r f x
          waits_at none r f x below is_f is_x (inl here) = inl (ap (λ q. next_command lists q f) here ∙ ap (next_command lists p) (same_part s.drivers p f d (ap (slice_get s.drivers) (sym here) ∙ is_f) is_d) ∙ rests.1)
          waits_at none r f x below is_f is_x (inr apart) = holds.1 none idle_here r f x (omega (arith, below, apart)) is_f is_x

      by_step : (b : Bool) → b ≡ has_step lists p d → Kept lists o (cond b (record { state = with_step o m p (beginning (next_command lists p d) d) d s; stage = round_after p gained (ending d (driver_after (with_step o m p (beginning (next_command lists p d) d) d s) p d)) }) (record { state = s; stage = Round (p + 1) gained }))
      by_step false has = record { sound = sound; known = known; owners = owners; holds = passed (rests_now (sym has)) }
      by_step true has = step_result (next_command lists p d) (round_after p gained) (some (sym has)) holds
          (λ t step old. round_goes lists sound known step (subst (λ one. beginning (next_command lists p d) d ≡ beginning (next_command lists p one) one) (sym old) refl) gained holds)
          (stepped o (is_short m d (beginning (next_command lists p d) d)) p (beginning (next_command lists p d) d) s) refl

  -- a pass of the drain at a driver
  pub drain_kept : (gained : Bool) → HoldsAt lists s (Draining p gained) → Kept lists o (drain_at o m p gained s (Some d))
  drain_kept gained holds = by_shut d.shut refl
    where
      idle_here : d.shut ≡ true → d.doing ≡ None
      idle_here shut = by_doing d.doing (holds.2 d is_d)
        where
          by_doing : (doing : Option Doing) → TryingBy d.shut doing → doing ≡ None
          by_doing None trying = refl
          by_doing (Some one) trying = absurd (cc (shut, trying.0))

      all_idle : d.shut ≡ true → (r : ℕ) → IsIdle s r
      all_idle shut r = elim (cases_eq r p) [
        | inl here ↦ (λ f is_f. ap (λ g. g.doing) (same_part s.drivers p f d (ap (slice_get s.drivers) (sym here) ∙ is_f) is_d) ∙ idle_here shut)
        | inr apart ↦ holds.1 r apart
      ]

      emptied_at : d.shut ≡ true → gained ≡ false → (r : ℕ) (f : DriverPart) (x : PeerPart) → r < p + 1 → IsDriver s r f → IsPeer s r x → (r ≡ p) ⊎ (r ≢ p) → IsEmptied f x
      emptied_at shut none r f x below is_f is_x (inl here) = inl (ap (λ g. g.shut) (same_part s.drivers p f d (ap (slice_get s.drivers) (sym here) ∙ is_f) is_d) ∙ shut)
      emptied_at shut none r f x below is_f is_x (inr apart) = holds.3 none (all_idle shut p) r f x (omega (arith, below, apart)) is_f is_x

      trying_at : d.shut ≡ true → (f : DriverPart) → IsDriver s (p + 1) f → IsTrying f
      trying_at shut f is_f = subst (TryingBy f.shut) (sym (all_idle shut (p + 1) f is_f)) tt

      passed : d.shut ≡ true → HoldsAt lists s (Draining (p + 1) gained)
      passed shut = (holds.0, (λ r apart. all_idle shut r), trying_at shut, λ none idle r f x below is_f is_x. emptied_at shut none r f x below is_f is_x (cases_eq r p))

      by_shut : (b : Bool) → b ≡ d.shut → Kept lists o (cond b (record { state = s; stage = Draining (p + 1) gained }) (record { state = with_step o m p (beginning (Some cmd.Await) d) d s; stage = drain_after p gained (ending d (driver_after (with_step o m p (beginning (Some cmd.Await) d) d s) p d)) }))
      by_shut true shut = record { sound = sound; known = known; owners = owners; holds = passed (sym shut) }
      by_shut false shut = step_result (Some cmd.Await) (drain_after p gained) (λ rests none. cc none) holds
          (λ t step old. drain_goes lists sound known step (subst (λ one. beginning (Some cmd.Await) d ≡ beginning (Some cmd.Await) one) (sym old) refl) (ap (λ one. one.shut) old ∙ sym shut) gained holds)
          (stepped o (is_short m d (beginning (Some cmd.Await) d)) p (beginning (Some cmd.Await) d) s) refl
