-- What a SEND sends, once its begin is accepted, which destinations accept it, and its stamp.
use Rattle.std.specs.Prelude.{ℕ, ◌+◌, ◌==◌, max, List, ◌++◌, length, slice_get, Option, None, Some}
use Rattle.std.specs.Prelude.{is_none, map, filter, filter_map, fold, zip}
use Rattle.b1_model.specs.declared.naming.NodeRef.{NodeRef}
use Rattle.b1_model.specs.declared.commands.SendCmd.{SendCmd}
use Rattle.b1_model.specs.declared.answers.Reason.{Reason}
use Rattle.b1_model.specs.MachinePool.{slice_len}
use Rattle.b1_serial_bus.specs.Parts.{Part, Bus}
use Rattle.b1_serial_bus.specs.Named.{node_named}
use Rattle.b1_serial_bus.specs.Lives.{destroyed_in}

-- a message for all its destinations: its sender and the sender's user, the nodes that it goes to
-- and those that it carries, and its bytes
pub record Letter : Type 0 where
  pub origin : ℕ
  pub user : ℕ
  pub to : List NodeRef
  pub with : List NodeRef
  pub payload : List ℕ

-- the letter of a SEND, by what its numbers name at the sender
abbrev pub letter_of : SendCmd → Part → Letter
letter_of c x = record {
  origin = x.me;
  user = x.user;
  to = filter_map (node_named x) c.to;
  with = filter_map (node_named x) c.with;
  payload = c.payload;
}

-- the length of the slice that it takes
abbrev pub letter_len : Letter → ℕ
letter_len s = slice_len (length s.payload) (length s.with)

-- what destinations answered, each in its place: its refusal, or nothing where it accepted
abbrev pub Places : Type 0
Places = List (Option Reason)

-- the destinations that accepted it, of those that answered
abbrev pub accepted : Letter → Places → List NodeRef
accepted s places = map (λ d. d.0) (filter (λ d. is_none d.1) (zip s.to places))

-- how many of them are a peer's
abbrev pub accepted_by : ℕ → Letter → Places → ℕ
accepted_by q s places = length (filter (λ x. x.owner == q) (accepted s places))

-- the clock of a node's owner
abbrev pub clock_at : Bus → NodeRef → ℕ
clock_at bus x = elim (slice_get bus x.owner) [ None ↦ 0 | Some y ↦ y.clock ]

-- the stamp: two above the greatest of the sender's clock, the clocks of the owners that accepted,
-- and the stamps of the carried nodes that are destroyed
abbrev pub stamp_of : Bus → Letter → ℕ → List NodeRef → ℕ
stamp_of bus s clock owners =
    fold max clock (map (clock_at bus) owners ++ filter_map (destroyed_in bus) s.with) + 2
