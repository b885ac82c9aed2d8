-- Of lists of steps: where a destroy notice comes, which lists don't flush a peer, and which attach.
use Rattle.std.specs.Prelude.{◌≡◌, ◌⊎◌, ⊤, ℕ, true, false, List, [], ◌∷◌, Option}
use Rattle.b1_model.specs.declared.naming.NodeRef.{NodeRef}
use Rattle.b1_model.specs.declared.naming.Opening.{Opening}
use Rattle.b1_model.specs.declared.commands.Command.{Command}
use Rattle.b1_model.specs.declared.events.Action.TheVariants as act
use Rattle.b1_model.specs.MachineParts.{PeerPart, State, is_dying, node_at}
use Rattle.b1_model.specs.MachineStep.{Label, Leads, Step}
use Rattle.b1_inv.specs.Words.{IsPeer}
use Rattle.b1_inv_ends.specs.Notices.{has_notice}

-- a destroy notice of a node is in the queue of peer q in the second state, and not in the first
abbrev pub NoticeComes : ℕ → NodeRef → State → State → Type 0
NoticeComes q node s t = (x : PeerPart) × (y : PeerPart) × IsPeer s q x × IsPeer t q y
    × (has_notice q node.owner node.serial x ≡ false)
    × (has_notice q node.owner node.serial y ≡ true)

-- no step of a list flushes the queue of peer q
abbrev pub NoFlush : (q : ℕ) (o : Opening) (s : State) (steps : List Label) (t : State)
    → Leads o s steps t → Type 0
NoFlush q o s [] t run = ⊤
NoFlush q o s (l ∷ rest) t run =
    (run.1.at ≡ q → run.1.action ≡ act.Flush → ⊥) × NoFlush q o run.0 rest t run.2

-- a step attaches a dying node of peer q for another peer
abbrev pub IsAttach : {o : Opening} {s : State} {p : ℕ} {c : Option Command} {t : State}
    → ℕ → ℕ → Step o s p c t → Type 0
IsAttach {o} {s} {p} {c} {t} q other step = (serial : ℕ) × (x : PeerPart) × IsPeer s q x
    × (step.action ≡ act.Attach q serial other) × (is_dying (node_at x serial).state ≡ true)

-- a step of a list does so
abbrev pub Attaches : (q other : ℕ) (o : Opening) (s : State) (steps : List Label) (t : State)
    → Leads o s steps t → Type 0
Attaches q other o s [] t run = ⊥
Attaches q other o s (l ∷ rest) t run =
    IsAttach q other run.1 ⊎ Attaches q other o run.0 rest t run.2
