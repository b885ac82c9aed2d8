-- What the events answer that may want memory or that fill a list, and what a taken message's slice holds.
use Rattle.std.specs.Prelude.{◌≡◌, ℕ, Bool, List, Result, Ok, Err}
use Rattle.b1_model.specs.declared.naming.NodeRef.{NodeRef}
use Rattle.b1_model.specs.declared.commands.SendCmd.{SendCmd}
use Rattle.b1_model.specs.declared.parts.Begun.{Begun}
use Rattle.b1_model.specs.declared.answers.Front.{Front}
use Rattle.b1_model.specs.declared.answers.Receipt.{Receipt}
use Rattle.b1_model.specs.declared.answers.Receipt.TheVariants as receipt
use Rattle.b1_model.specs.declared.answers.Reason.{Reason}
use Rattle.b1_model.specs.declared.events.Outcome.TheVariants as out
use Rattle.b1_model.specs.MachineParts.{PeerPart}
use Rattle.b1_model.specs.MachineEvents.{begin_event, stage_event}
use Rattle.b1_peer_pool.specs.Content.{Holds, message_bytes}

-- a begin of a SEND, where want of memory may refuse what nothing else does
pub record Begins (x : PeerPart) (c : SendCmd) (answer : Result Begun Reason) (y : PeerPart) : Type 0 where
  pub memory : Bool
  pub event : begin_event memory c x ≡ (out.Begin answer, y)

-- a stage, where want of memory may refuse what nothing else does
pub record Stages (x : PeerPart) (origin user place serial : ℕ) (payload : List ℕ) (nodes : List NodeRef) (answer : Result ℕ Reason) (y : PeerPart) : Type 0 where
  pub memory : Bool
  pub event : stage_event memory origin user place serial payload nodes x ≡ (out.Stage answer, y)

-- the slice of a message that was taken holds its payload, padded, and the numbers of its handles
abbrev pub IsDelivered : List ℕ → Result Receipt Front → Type 0
IsDelivered bytes (Ok (receipt.Message key number offset handles payload)) = Holds offset bytes (message_bytes payload handles)
IsDelivered bytes (Ok (receipt.Destroyed key number)) = Unit {0}
IsDelivered bytes (Ok (receipt.Released stamp number)) = Unit {0}
IsDelivered bytes (Err front) = Unit {0}
