-- The room that a stage makes before it changes anything.
use Rattle.std.specs.Prelude.{◌≡◌, ℕ, ◌+◌, ◌≤◌}
use Rattle.b1_peer_queue.specs.Mail.{Mail}
use Rattle.b1_peer_pool.specs.Stored.{Stored, IsStored}
use Rattle.b1_peer_dead.specs.Buffers.{AsMany, spare_at}
use Rattle.b1_peer_dead.specs.Dead.{DeadSeen}

-- only room is gained
pub record MoreRoom (mail new_mail : Mail) (store new_store : Stored) (dead new_dead : DeadSeen) : Type 0 where
  pub mail_same : new_mail ≡ record mail { spare = new_mail.spare }
  pub mail_more : mail.spare ≤ new_mail.spare
  pub size : new_store.size ≡ store.size
  pub slices : new_store.slices ≡ store.slices
  pub bytes : new_store.bytes ≡ store.bytes
  pub stored : IsStored new_store
  pub dead_same : new_dead ≡ record dead { room = new_dead.room; singles = new_dead.singles; stacks = new_dead.stacks }
  pub dead_more : dead.room ≤ new_dead.room
  pub singles_more : dead.singles ≤ new_dead.singles
  pub sets_more : AsMany dead.stacks new_dead.stacks

-- there is room for one more message with so many carried nodes, beside what so many nodes, records and queued entries need
pub record Enough (nodes records carries queued : ℕ) (mail : Mail) (store : Stored) (dead : DeadSeen) : Type 0 where
  pub notices : nodes + records + carries + 1 ≤ mail.spare
  pub slice : 1 ≤ store.spare
  pub items : records + carries + queued + 1 ≤ dead.room
  pub singles : records + carries ≤ dead.singles
  pub set : 1 ≤ spare_at dead.stacks carries
