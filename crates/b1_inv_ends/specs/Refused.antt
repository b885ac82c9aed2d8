-- A refused SEND leaves nothing: what stands in the queues is of open SENDs and of sent ones.
use Rattle.std.specs.Prelude.{◌≡◌, ℕ, true, false, [], slice_get, Some, None}
use Rattle.b1_model.specs.declared.naming.Key.{Key}
use Rattle.b1_model.specs.declared.answers.Sent.{Sent}
use Rattle.b1_model.specs.declared.answers.Answer.TheVariants as ans
use Rattle.b1_model.specs.declared.entries.Entry.{Entry}
use Rattle.b1_model.specs.declared.records.Call.{Call}
use Rattle.b1_model.specs.declared.tables.Usage.TheVariants.{Unpublished}
use Rattle.b1_model.specs.Names.{calls_of}
use Rattle.b1_model.specs.MachineParts.{PeerPart, DriverPart, HandleRecord, Slice, State}
use Rattle.b1_model.specs.MachineParts.{is_staged, is_data, carried}
use Rattle.b1_model.specs.MachineStep.{record_of_state}
use Rattle.b1_model.specs.MachineSend.{offset_of}
use Rattle.b1_step.specs.Rights.{Has}
use Rattle.b1_inv.specs.Words.{IsPeer, IsDriver, is_pending}
use Rattle.b1_inv_record.specs.Parts.{IsSliceOf}

-- the SEND of a key was accepted at its place: a call of the key's origin was sent with its stamp
abbrev pub WasSent : State → Key → Type 0
WasSent s key = (k : ℕ) × (c : Call) × (b : Sent)
    × (slice_get (calls_of (record_of_state s) key.origin) k ≡ Some c) × (c.answer ≡ ans.Sent b)
    × (b.stamp ≡ key.stamp) × (slice_get b.places key.index ≡ Some None)

-- A staged message is of an open SEND that waits at its place, and a committed one of an accepted
-- place of a sent one. A driver at rest has nothing staged anywhere, and owes nothing.
pub record RefusedLeavesNothing (s : State) : Type 0 where
  pub waits : (q : ℕ) (x : PeerPart) (f : Key × Entry) → IsPeer s q x → Has x.queue f
      → is_data f.1 ≡ true → is_staged f ≡ true
      → (d : DriverPart) × IsDriver s f.0.origin d × (is_pending d f.0.index ≡ true)
  pub sent : (q : ℕ) (x : PeerPart) (f : Key × Entry) → IsPeer s q x → Has x.queue f
      → is_data f.1 ≡ true → is_staged f ≡ false → WasSent s f.0
  pub rests : (p q : ℕ) (d : DriverPart) (x : PeerPart) (f : Key × Entry) → IsDriver s p d
      → d.doing ≡ None → IsPeer s q x → Has x.queue f → f.0.origin ≡ p → is_staged f ≡ false
  pub owes : (p : ℕ) (d : DriverPart) → IsDriver s p d → d.doing ≡ None → d.owed ≡ []

-- The slices that aren't published are those of the queued messages, one each, of its length. And
-- a record of a node that isn't held, and whose notice isn't queued, is of one that a queued
-- message carries.
pub record QueuesNeedAll (s : State) : Type 0 where
  pub sliced : (q : ℕ) (x : PeerPart) (f : Key × Entry) → IsPeer s q x → Has x.queue f
      → is_data f.1 ≡ true → (t : Slice) × Has x.slices t × IsSliceOf f.1 t
  pub apart : (q : ℕ) (x : PeerPart) (f g : Key × Entry) → IsPeer s q x → Has x.queue f
      → Has x.queue g → is_data f.1 ≡ true → is_data g.1 ≡ true
      → offset_of f.1 ≡ offset_of g.1 → f ≡ g
  pub needed : (q : ℕ) (x : PeerPart) (t : Slice) → IsPeer s q x → Has x.slices t
      → t.usage ≡ Unpublished → (f : Key × Entry) × Has x.queue f × IsSliceOf f.1 t
  pub records : (q : ℕ) (x : PeerPart) (h : HandleRecord) → IsPeer s q x → Has x.handles h
      → h.held ≡ 0 → h.notice ≡ false
      → (f : Key × Entry) × (j : ℕ) × Has x.queue f × (slice_get (carried f.1) j ≡ Some h.node)
