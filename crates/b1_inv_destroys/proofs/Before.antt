-- The keys of committed notices, from the facts of the state before.
use Rattle.std.proofs.Common.{◌≡◌, refl, subst, ℕ, Option, Some}
use Rattle.b1_model.specs.declared.naming.Opening.{Opening}
use Rattle.b1_model.specs.declared.commands.Command.{Command}
use Rattle.b1_model.specs.declared.entries.Entry.TheVariants.{Message, OwnNotice, ForeignNotice, ReleaseNotice}
use Rattle.b1_model.specs.MachineParts.{State}
use Rattle.b1_model.specs.MachineStep.{Step, opening_state}
use Rattle.b1_step.specs.Rights.{Has}
use Rattle.b1_inv.specs.Sound.{IsSound}
use Rattle.b1_inv_record.specs.Destructions.{own_ref, doomed_key}
use Rattle.b1_inv_record.specs.Right.{IsRight}
use Rattle.b1_inv_sends.proofs.StagesKept.{opening_queue}
use Rattle.b1_inv_destroys.specs.OwnNotices.{OwnKeyed}
use Rattle.b1_inv_destroys.proofs.Keyed.{AllKeyed, keyed_kept}

pub keyed_before : (o : Opening) (s : State) → IsRight o s → AllKeyed o s
keyed_before o s right q x (k, Message origin user index serial offset len nodes slots handles payload) is has node of even = absurd (cc of)
keyed_before o s right q x (k, OwnNotice serial index) is has node of even = let same : own_ref q serial ≡ node = cc of in subst (λ n. doomed_key o s n ≡ Some k) same (right.destructions.own.queued q index serial x k is has even)
keyed_before o s right q x (k, ForeignNotice foreign index) is has node of even = let same : foreign ≡ node = cc of in subst (λ n. doomed_key o s n ≡ Some k) same (right.destructions.foreign.queued q index x k foreign is has even)
keyed_before o s right q x (k, ReleaseNotice serial) is has node of even = absurd (cc of)

module _ {o : Opening} {s : State} {p : ℕ} {c : Option Command} {t : State} (sound : IsSound o s) (right : IsRight o s) (step : Step o s p c t) where
  pub keyed_after : AllKeyed o t
  keyed_after = keyed_kept sound right.destructions.dying step right.destructions.numbers (keyed_before o s right)

  pub own_keyed : OwnKeyed o t
  own_keyed q i serial y k is has even = keyed_after q y (k, OwnNotice serial i) is has (own_ref q serial) refl even

pub own_keyed_begins : (o : Opening) → OwnKeyed o (opening_state o)
own_keyed_begins o q i serial x k is has even = absurd (subst (λ queue. Has queue (k, OwnNotice serial i)) (opening_queue o q x is) has)
