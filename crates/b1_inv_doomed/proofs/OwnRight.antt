-- All that is said of own notices, over every step, and where a bus begins.
use Rattle.std.proofs.Common.{◌≡◌, sym, ◌∙◌, ℕ, Option, Some, None}
use Rattle.b1_model.specs.declared.commands.Command.{Command}
use Rattle.b1_model.specs.declared.naming.Opening.{Opening}
use Rattle.b1_model.specs.MachineParts.{State}
use Rattle.b1_model.specs.MachineStep.{Step, opening_state}
use Rattle.b1_inv.specs.Sound.{IsSound}
use Rattle.b1_inv_record.specs.Destructions.{own_ref, OwnNoticeRight}
use Rattle.b1_inv_record.specs.Right.{IsRight}
use Rattle.b1_inv_destroys.proofs.Before.{own_keyed, own_keyed_begins}
use Rattle.b1_inv_destroys.proofs.Taken.{own_once, once_begins, own_untaken, untaken_begins, taken_destroyed, taken_begins}
use Rattle.b1_inv_destroys.proofs.Present.{own_present, present_begins}
use Rattle.b1_inv_destroys.proofs.StagedKept.{own_staged, staged_begins}
use Rattle.b1_inv_doomed.proofs.DyingKept.{opening_keys}
use Rattle.b1_inv_doomed.proofs.Ended.{ended_kept}

pub own_right : {o : Opening} {s : State} {p : ℕ} {c : Option Command} {t : State} → IsSound o s → IsRight o s → Step o s p c t → OwnNoticeRight o t
own_right sound right step = record {
  staged = λ q i serial d x. own_staged sound right step q i serial d x;
  ended = λ q serial d x n key. ended_kept sound right step q serial d x n key;
  queued = λ q i serial x k. own_keyed sound right step q i serial x k;
  present = λ q i serial x k. own_present sound right step q i serial x k;
  once = λ q i j serial x k l. own_once sound right step q i j serial x k l;
  untaken = λ q i serial x k. own_untaken sound right step q i serial x k;
  taken = λ q serial x n. taken_destroyed sound right step q serial x n;
}

pub own_begins : (o : Opening) → OwnNoticeRight o (opening_state o)
own_begins o = record {
  staged = λ q i serial d x. staged_begins o q i serial d x;
  ended = λ q serial d x n key is_driver is at low has none. let both : None ≡ Some key = sym (opening_keys o (own_ref q serial)) ∙ has in absurd (cc both);
  queued = λ q i serial x k. own_keyed_begins o q i serial x k;
  present = λ q i serial x k. present_begins o q i serial x k;
  once = λ q i j serial x k l. once_begins o q i j serial x k l;
  untaken = λ q i serial x k. untaken_begins o q i serial x k;
  taken = λ q serial x n. taken_begins o q serial x n;
}
