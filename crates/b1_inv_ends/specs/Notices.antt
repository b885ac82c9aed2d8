-- Destroy notices: a queue has at most one of a node; each comes once, and none leaves early.
use Rattle.std.specs.Prelude.{◌≡◌, ◌<◌, ◌⊎◌, ◌&&◌, ◌==◌, ℕ, Bool, true, false, length, Option}
use Rattle.std.specs.List.{list_any}
use Rattle.b1_model.specs.declared.naming.Key.{Key}
use Rattle.b1_model.specs.declared.naming.Opening.{Opening}
use Rattle.b1_model.specs.declared.commands.Command.{Command}
use Rattle.b1_model.specs.declared.entries.Entry.{Entry}
use Rattle.b1_model.specs.declared.entries.Entry.TheVariants as entry
use Rattle.b1_model.specs.declared.events.Action.TheVariants as act
use Rattle.b1_model.specs.MachineParts.{PeerPart, State, is_destroyed, node_at}
use Rattle.b1_model.specs.MachineStep.{Step}
use Rattle.b1_step.specs.Rights.{Has}
use Rattle.b1_inv.specs.Words.{IsPeer}

-- in the queue of peer q, an entry is a destroy notice of this node of peer r
abbrev pub ends_node : ℕ → ℕ → ℕ → Key × Entry → Bool
ends_node q r serial (k, entry.Message origin user place to at len nodes slots handles payload) =
    false
ends_node q r serial (k, entry.OwnNotice mine index) = (r == q) && (mine == serial)
ends_node q r serial (k, entry.ForeignNotice node index) =
    (node.owner == r) && (node.serial == serial)
ends_node q r serial (k, entry.ReleaseNotice mine) = false

-- a destroy notice of this node of peer r is queued at the part of peer q
abbrev pub has_notice : ℕ → ℕ → ℕ → PeerPart → Bool
has_notice q r serial x = list_any (ends_node q r serial) x.queue

-- no queue has two destroy notices of one node
abbrev pub NoticesOnce : State → Type 0
NoticesOnce s = (q r serial : ℕ) (x : PeerPart) (f g : Key × Entry) → IsPeer s q x
    → Has x.queue f → Has x.queue g → ends_node q r serial f ≡ true → ends_node q r serial g ≡ true
    → f ≡ g

-- A notice of a node comes to a queue that has none only while the node isn't destroyed. It leaves
-- only behind the node's destruction, or by a flush of its queue. And a destroyed node stays
-- destroyed. So between two flushes of its queue a peer gets at most one notice of a node.
pub record OneNotice {o : Opening} {s : State} {p : ℕ} {c : Option Command} {t : State}
    (step : Step o s p c t) : Type 0 where
  pub comes : (q r serial : ℕ) (x y w : PeerPart) → IsPeer s q x → IsPeer t q y → IsPeer s r w
      → serial < length w.nodes → has_notice q r serial x ≡ false → has_notice q r serial y ≡ true
      → is_destroyed (node_at w serial).state ≡ false
  pub leaves : (q r serial : ℕ) (x y w : PeerPart) → IsPeer s q x → IsPeer t q y → IsPeer t r w
      → serial < length w.nodes → has_notice q r serial x ≡ true → has_notice q r serial y ≡ false
      → (step.action ≡ act.Flush) ⊎ (is_destroyed (node_at w serial).state ≡ true)
  pub stays : (q serial : ℕ) (x y : PeerPart) → IsPeer s q x → IsPeer t q y
      → serial < length x.nodes → is_destroyed (node_at x serial).state ≡ true
      → is_destroyed (node_at y serial).state ≡ true
