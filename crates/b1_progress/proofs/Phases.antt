-- What is left of an open command's work after its next event, by its phase.
use Rattle.std.proofs.Common.{◌≡◌, ◌≢◌, refl, sym, ap, arith, ℕ, ◌+◌, ◌*◌, ◌≤◌, ◌<◌, Bool, true, false, List, [], ◌∷◌, length, Option, Some, None, inl, inr}
use Rattle.std.proofs.lemmas.Bool.{cases_eq}
use Rattle.b1_model.specs.declared.answers.Answer.{Answer}
use Rattle.b1_model.specs.declared.commands.Command.{Command}
use Rattle.b1_model.specs.declared.events.OwedDrop.{OwedDrop}
use Rattle.b1_model.specs.declared.events.Phase.{Phase}
use Rattle.b1_model.specs.declared.events.Phase.TheVariants.{Starting, Staging, Unstaging, Attaching, Stamping, Syncing, Committing, Dropping, Reaping, Visiting, Dooming, SyncingNotices, CommittingOwn, CommittingNotices, Flushing}
use Rattle.b1_model.specs.MachineParts.{PeerPart, DriverPart}
use Rattle.b1_model.specs.MachineDriver.{Turn, Goes, Ends}
use Rattle.b1_model.specs.MachineTook.{is_done, answer_of, goes_by, turned}
use Rattle.b1_progress.specs.Work.{kept_weight, phase_weight}
use Rattle.b1_progress.proofs.Falls.{Falls}

-- ---- an open command after a turn

-- a phase that is done has its answer
done_answered : (owed : List OwedDrop) (told : Bool) (command : Command) (phase : Phase) → is_done owed told phase ≡ true → answer_of command phase ≡ None → ⊥
done_answered (one ∷ rest) told command phase done none = cc done
done_answered [] told command (Committing sending stamp place) done none = cc none
done_answered [] told command Dropping done none = cc none
done_answered [] told command (Reaping got) done none = cc none
done_answered [] told command Starting done none = cc done
done_answered [] told command (Staging nodes places collected) done none = cc done
done_answered [] told command (Unstaging nodes places refused place) done none = cc done
done_answered [] told command (Attaching sending place handle) done none = cc done
done_answered [] told command (Stamping sending) done none = cc done
done_answered [] told command (Syncing sending stamp place) done none = cc done
done_answered [] told command (Visiting destruction left) done none = cc done
done_answered [] told command (Dooming destruction) done none = cc done
done_answered [] told command (SyncingNotices destruction stamp at) done none = cc done
done_answered [] told command (CommittingOwn destruction stamp) done none = cc done
done_answered [] told command (CommittingNotices destruction stamp at) done none = cc done
done_answered [] told command (Flushing stamp) done none = cc done

-- what is left of a driver's open command
abbrev pub left_of : ℕ → DriverPart → ℕ → ℕ
left_of late e kept = elim e.doing [ None ↦ 0 | Some doing ↦ phase_weight late doing.phase ] + 2 * length e.owed + kept

module _ (f : DriverPart) (command : Command) (late kept bound : ℕ) where
  goes_falls : (b : Bool) (got : Option Answer) (phase : Phase) → b ≡ is_done f.owed f.told phase → got ≡ answer_of command phase → Falls (Goes phase) f.owed f.told late kept bound → (goes_by b got f command phase).doing ≢ None → left_of late (goes_by b got f command phase) kept < bound
  goes_falls false got phase done is falls opened = falls (sym done)
  goes_falls true None phase done is falls opened = absurd (done_answered f.owed f.told command phase (sym done) (sym is))
  goes_falls true (Some got) phase done is falls opened = absurd (opened refl)

  pub turned_falls : (t : Turn) → Falls t f.owed f.told late kept bound → (turned f command t).doing ≢ None → left_of late (turned f command t) kept < bound
  turned_falls (Goes phase) falls opened = goes_falls (is_done f.owed f.told phase) (answer_of command phase) phase refl refl falls opened
  turned_falls (Ends got) falls opened = absurd (opened refl)

-- ---- the own part, where the event is at the own peer or at another

module _ (me at : ℕ) (x y before after : PeerPart) (own : at ≡ me → (after ≡ y) × (before ≡ x)) (other : at ≢ me → after ≡ before) where
  pub own_kept : (more : ℕ) → kept_weight y ≤ kept_weight x + more → kept_weight after ≤ kept_weight before + more
  own_kept more below = elim (cases_eq at me) [
    | inl same ↦ omega (arith, below, ap kept_weight (own same).0, ap kept_weight (own same).1)
    | inr apart ↦ omega (arith, ap kept_weight (other apart))
  ]

  pub own_late : length y.late ≤ length x.late → length after.late ≤ length before.late
  own_late below = elim (cases_eq at me) [
    | inl same ↦ omega (arith, below, ap (λ z. length z.late) (own same).0, ap (λ z. length z.late) (own same).1)
    | inr apart ↦ omega (arith, ap (λ z. length z.late) (other apart))
  ]
