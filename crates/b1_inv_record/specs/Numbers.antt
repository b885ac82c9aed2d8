-- Which numbers the destructions of a state name: own ones alone, so that no table says what they destroy.
use Rattle.std.specs.Prelude.{◌≡◌, ℕ, Bool, true, false, Some}
use Rattle.std.specs.List.{list_all}
use Rattle.b1_model.specs.declared.answers.Answer.{Answer}
use Rattle.b1_model.specs.declared.answers.Answer.TheVariants as answer
use Rattle.b1_model.specs.declared.commands.Command.{Command}
use Rattle.b1_model.specs.declared.events.Doing.{Doing}
use Rattle.b1_model.specs.declared.events.Phase.{Phase}
use Rattle.b1_model.specs.declared.events.Phase.TheVariants.{Reaping, Visiting, Dooming, SyncingNotices, CommittingOwn, CommittingNotices}
use Rattle.b1_model.specs.declared.records.Call.{Call}
use Rattle.b1_model.specs.Names.{is_own}
use Rattle.b1_model.specs.Ledger.{destroy_numbers}
use Rattle.b1_model.specs.MachineParts.{DriverPart, State}
use Rattle.b1_step.specs.Rights.{Has}
use Rattle.b1_inv.specs.Words.{IsDriver}

-- a NODES_DESTROY names own numbers alone; another command destroys by no number
abbrev pub names_own : Command → Bool
names_own command = list_all is_own (destroy_numbers command)

-- the answer of a NODES_DESTROY that destroyed
abbrev pub is_destroy : Answer → Bool
is_destroy (answer.Destroyed stamp) = true
is_destroy got = false

-- a phase in which the answer is that, or may still be
abbrev pub may_destroy : Phase → Bool
may_destroy (Reaping got) = is_destroy got
may_destroy (Visiting destruction left) = true
may_destroy (Dooming destruction) = true
may_destroy (SyncingNotices destruction stamp at) = true
may_destroy (CommittingOwn destruction stamp) = true
may_destroy (CommittingNotices destruction stamp at) = true
may_destroy phase = false

-- the calls that destroyed, and the open destructions, name own numbers alone
pub record DestroysOwn (s : State) : Type 0 where
  pub listed : (p : ℕ) (d : DriverPart) (c : Call) → IsDriver s p d → Has d.calls c → is_destroy c.answer ≡ true → names_own c.command ≡ true
  pub opened : (p : ℕ) (d : DriverPart) (doing : Doing) → IsDriver s p d → d.doing ≡ Some doing → may_destroy doing.phase ≡ true → names_own doing.command ≡ true
