-- What stands staged in the queues, and for which open SEND.
use Rattle.std.specs.Prelude.{◌≡◌, ⊤, ℕ, true, false, List, [], ◌∷◌, Some}
use Rattle.b1_model.specs.declared.naming.Key.{Key}
use Rattle.b1_model.specs.declared.naming.Opening.{Opening}
use Rattle.b1_model.specs.declared.entries.Entry.{Entry}
use Rattle.b1_model.specs.declared.entries.Entry.TheVariants.{Message, OwnNotice, ForeignNotice, ReleaseNotice}
use Rattle.b1_model.specs.declared.events.Doing.{Doing}
use Rattle.b1_model.specs.MachineParts.{PeerPart, DriverPart, State, is_staged, is_data}
use Rattle.b1_model.specs.MachineTables.{is_stage}
use Rattle.b1_model.specs.MachineDriver.{send_of, node_of_place}
use Rattle.b1_model.specs.MachineEvents.{begun_of, user_of}
use Rattle.b1_step.specs.Rights.{Has}
use Rattle.b1_inv.specs.Words.{IsPeer, IsDriver, waits_at}

-- a message at peer q is the one of an open SEND's place: its origin, user, place, node, handles and payload
abbrev pub IsMessageOf : Opening → ℕ → Doing → Key → Entry → Type 0
IsMessageOf o q doing k (Message origin user index serial offset len nodes slots handles payload) =
    (origin ≡ k.origin) × (index ≡ k.index) × (user ≡ user_of o k.origin)
    × (node_of_place (begun_of doing.phase).to index ≡ record { owner = q; serial = serial })
    × (nodes ≡ (begun_of doing.phase).with) × (payload ≡ (send_of doing.command).payload)
IsMessageOf o q doing k (OwnNotice serial index) = ⊥
IsMessageOf o q doing k (ForeignNotice node index) = ⊥
IsMessageOf o q doing k (ReleaseNotice serial) = ⊥

-- a staged message belongs to an open SEND that waits at its place
pub record HasSender (o : Opening) (s : State) (q : ℕ) (f : Key × Entry) : Type 0 where
  pub driver : DriverPart
  pub doing : Doing
  pub is_driver : IsDriver s f.0.origin driver
  pub is_open : driver.doing ≡ Some doing
  pub waits : waits_at doing.phase f.0.index ≡ true
  pub message : IsMessageOf o q doing f.0 f.1

-- of the entries behind one, none is a staged message of the same origin and place
abbrev pub OnceEach : List (Key × Entry) → Type 0
OnceEach [] = ⊤
OnceEach (f ∷ rest) = ((g : Key × Entry) → Has rest g → is_stage f.0.origin f.0.index f ≡ true → is_stage f.0.origin f.0.index g ≡ false) × OnceEach rest

-- each staged message has its open SEND, and each place of a SEND stands at most once in a queue
pub record StagesRight (o : Opening) (s : State) : Type 0 where
  pub sender : (q : ℕ) (x : PeerPart) (f : Key × Entry) → IsPeer s q x → Has x.queue f → is_data f.1 ≡ true → is_staged f ≡ true → HasSender o s q f
  pub once : (q : ℕ) (x : PeerPart) → IsPeer s q x → OnceEach x.queue
