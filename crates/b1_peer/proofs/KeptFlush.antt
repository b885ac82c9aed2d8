-- A peer stays what it is where its queue and its handles are given up, and where it gets new limits.
use Rattle.std.proofs.Common.{◌≡◌, sym, ap, subst, ℕ, ◌+◌, Bool, List, [], ◌∷◌, drop, length, Some, arith}
use Rattle.std.specs.Prelude.{slice_get}
use Rattle.b1_model.specs.declared.naming.Key.{Key}
use Rattle.b1_model.specs.declared.naming.Limits.{Limits}
use Rattle.b1_model.specs.declared.entries.Entry.{Entry}
use Rattle.b1_model.specs.MachineParts.{HandleRecord}
use Rattle.b1_step.specs.Rights.{Has}
use Rattle.b1_handles.specs.Handles.{Handles}
use Rattle.b1_peer_queue.specs.Mail.{Mail}
use Rattle.b1_peer_pool.specs.Stored.{Stored, IsStored}
use Rattle.b1_peer_dead.specs.Dead.{DeadSeen}
use Rattle.b1_peer_dead.specs.Buffers.{StackSeen, count_at}
use Rattle.b1_inv_peer.specs.PeerOk.{count, carries, AreOk, IsRoom}
use Rattle.b1_inv_peer.proofs.Counts.{one, count_cons}
use Rattle.b1_inv_peer.proofs.FlushEvents.{emptied_ok, room_emptied}
use Rattle.b1_peer.specs.State.{Fields, IsPeer}
use Rattle.b1_peer.specs.Flush.{HasSets, LosesSet}

abbrev Queue : Type 0
Queue = List (Key × Entry)

pub flush_kept : (p : Fields) → IsPeer p → (epoch : ℕ) (mail : Mail) (store : Stored) (handles : Handles) (dead : DeadSeen) → mail.queue ≡ [] → mail.spare ≡ p.mail.spare + length p.mail.queue → handles.records ≡ [] → IsStored store → IsPeer (record p { epoch = epoch; mail = mail; store = store; handles = handles; dead = dead })
flush_kept p peer epoch mail store handles dead emptied spare given stored = record {
  ok =
      subst (λ (q : Queue). AreOk p.me p.nodes.nodes store.slices q handles.records) (sym emptied)
      (subst (λ (hs : List HandleRecord). AreOk p.me p.nodes.nodes store.slices [] hs) (sym given) (emptied_ok p.me p.nodes.nodes store.slices));
  room =
      subst (λ (q : Queue). IsRoom q (length p.nodes.nodes) handles.records mail.spare dead.room dead.singles (count_at dead.stacks)) (sym emptied)
      (subst (λ (hs : List HandleRecord). IsRoom [] (length p.nodes.nodes) hs mail.spare dead.room dead.singles (count_at dead.stacks)) (sym given)
      (subst (λ n. IsRoom [] (length p.nodes.nodes) [] n dead.room dead.singles (count_at dead.stacks)) (sym spare)
      (room_emptied p.mail.queue (length p.nodes.nodes) p.handles.records p.mail.spare p.dead.room p.dead.singles dead.room dead.singles (count_at p.dead.stacks) (count_at dead.stacks) peer.room)));
  contents = λ f h. absurd (subst (λ (q : Queue). Has q f) emptied h);
  stored = stored;
  owner = peer.owner;
  among = peer.among;
  few = peer.few;
}

-- the first entry is counted once
pub count_left : (test : Key × Entry → Bool) (queue left : Queue) (f : Key × Entry) → Some f ≡ slice_get queue 0 → left ≡ drop 1 queue → count test queue ≡ one (test f) + count test left
count_left test [] left f front left_is = absurd (cc front)
count_left test (g ∷ rest) left f front left_is =
    let same : f ≡ g = cc front in
    let whole = count_cons test g rest in
    let mine : one (test f) ≡ one (test g) = ap (λ (e : Key × Entry). one (test e)) same in
    let others : count test left ≡ count test rest = ap (count test) left_is in
    omega (arith, whole, mine, others)

-- the buffers of the other messages are there once it has gone
pub sets_left : (queue left : Queue) (f : Key × Entry) (old new : List StackSeen) → Some f ≡ slice_get queue 0 → left ≡ drop 1 queue → HasSets queue old → LosesSet f old new → HasSets left new
sets_left queue left f old new front left_is has loses = λ n.
    let whole = count_left (carries n) queue left f front left_is in
    let had = has n in
    let less = loses n in
    omega (arith, whole, had, less)

pub limit_kept : (p : Fields) → IsPeer p → (limits : Limits) (mail : Mail) → mail ≡ record p.mail { limits = limits } → IsPeer (record p { mail = mail })
limit_kept p peer limits mail is =
    subst (λ (m : Mail). IsPeer (record p { mail = m })) (sym is)
    (record { ok = peer.ok; room = peer.room; contents = peer.contents; stored = peer.stored; owner = peer.owner; among = peer.among; few = peer.few })
