-- Whom a destruction tells: holders, and those who came to hold a node while it was dying.
use Rattle.std.specs.Prelude.{◌≡◌, ◌≤◌, ◌⊎◌, ℕ, true, false, [], Option, Some}
use Rattle.b1_model.specs.declared.naming.Key.{Key}
use Rattle.b1_model.specs.declared.naming.Opening.{Opening}
use Rattle.b1_model.specs.declared.commands.Command.{Command}
use Rattle.b1_model.specs.declared.entries.Entry.TheVariants.{ForeignNotice}
use Rattle.b1_model.specs.declared.events.Action.TheVariants as act
use Rattle.b1_model.specs.MachineParts.{PeerPart, DriverPart, HandleRecord, State, is_dying, node_at}
use Rattle.b1_model.specs.MachineStep.{Step, record_of_state}
use Rattle.b1_step.specs.Rights.{Has}
use Rattle.b1_inv.specs.Words.{IsPeer, IsDriver, is_among}
use Rattle.b1_inv.specs.Notices.{doomed_now}
use Rattle.b1_inv_record.specs.Epochs.{doom_key, WasReceivedIn}
use Rattle.b1_inv_record.specs.Holders.{to_visit}

-- Once all commits of a node's destruction are done, each holder of the node has the notice
-- committed in its queue, under the destruction's key, or has taken it in the epoch of its part.
pub record HoldersServed (o : Opening) (s : State) : Type 0 where
  pub served : (q : ℕ) (x : PeerPart) (h : HandleRecord) (key : Key) (e : DriverPart)
      → IsPeer s q x → Has x.handles h → 1 ≤ h.held
      → IsDriver s h.node.owner e → is_among h.node.serial (doomed_now e) ≡ false
      → doom_key o.wires (record_of_state s) h.node ≡ Some key
      → Has x.queue (key, ForeignNotice h.node key.index) ⊎ WasReceivedIn s q x.epoch key

-- A peer comes into a late set only by an attach for it to a dying node. A destruction's begin and
-- its stamp leave the set empty. And behind a stamp's event just those are visited that were in it.
pub record LateByAttach {o : Opening} {s : State} {p : ℕ} {c : Option Command} {t : State}
    (step : Step o s p c t) : Type 0 where
  pub joins : (q r : ℕ) (x y : PeerPart) → IsPeer s q x → IsPeer t q y → Has y.late r
      → (Has x.late r → ⊥)
      → (serial : ℕ) × (step.action ≡ act.Attach q serial r)
      × (is_dying (node_at x serial).state ≡ true)
  pub emptied : (y : PeerPart) → IsPeer t step.at y
      → (step.action ≡ act.BeginDestroy) ⊎ (step.action ≡ act.StampDestroy) → y.late ≡ []
  pub again : step.action ≡ act.StampDestroy → to_visit step.new_driver ≡ step.peer.late
