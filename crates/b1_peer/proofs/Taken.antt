-- What RECV answers where it takes a notice.
use Rattle.std.proofs.Common.{◌≡◌, ◌≢◌, refl, sym, ap, ◌∙◌, subst, ℕ, ◌+◌, Bool, true, false, List, drop, Some, Result, Ok, ◌==◌, unwrap_or}
use Rattle.std.specs.Prelude.{slice_get, option_map}
use Rattle.std.proofs.lemmas.Bool.{eqb-true}
use Rattle.b1_model.specs.declared.naming.Key.{Key}
use Rattle.b1_model.specs.declared.naming.NodeRef.{NodeRef}
use Rattle.b1_model.specs.declared.entries.Entry.{Entry}
use Rattle.b1_model.specs.declared.answers.Front.{Front}
use Rattle.b1_model.specs.declared.answers.Receipt.{Receipt}
use Rattle.b1_model.specs.declared.answers.Receipt.TheVariants as receipt
use Rattle.b1_model.specs.Names.{invalid}
use Rattle.b1_model.specs.MachineParts.{PeerPart, is_data, node_at, record_or_none}
use Rattle.b1_model.specs.MachineTables.{changed, made_dead, with_node, notice_taken}
use Rattle.b1_model.specs.MachineReceive.{front_taken}
use Rattle.b1_inv_peer.specs.PeerOk.{is_notice_of}
use Rattle.b1_peer.specs.Seen.{PeerSeen}
use Rattle.b1_peer.specs.State.{Fields, IsPeer, part_of, seen_of}
use Rattle.b1_peer.specs.declared.front.Kind.TheVariants as kind
use Rattle.b1_peer.specs.Fronts.{kind_of}
use Rattle.b1_peer.proofs.Fronts.{front_is, front_removed, own_front, foreign_front, release_front}
use Rattle.b1_peer.proofs.KeptRecv.{front_some, first_there, taken_own, taken_foreign, taken_release, own_taken_kept, release_taken_kept}

abbrev Queue : Type 0
Queue = List (Key × Entry)

abbrev Answered : Type 0
Answered = Result Receipt Front × PeerPart

-- the key that was taken is the front's
key_of_front : (queue : Queue) (key : Key) (f : Key × Entry) → option_map (λ (g : Key × Entry). g.0) (slice_get queue 0) ≡ Some key → Some f ≡ slice_get queue 0 → f.0 ≡ key
key_of_front queue key f told there = let e : Some f.0 ≡ Some key = ap (option_map (λ (g : Key × Entry). g.0)) there ∙ told in cc e

-- ---- an own node's destroy notice

pub own_answer : (p : Fields) (s : PeerSeen) → seen_of p ≡ s → (serial number : ℕ) (key : Key) → kind_of p.mail.queue ≡ kind.Own serial → option_map (λ (g : Key × Entry). g.0) (slice_get p.mail.queue 0) ≡ Some key → number ≡ (node_at (part_of p) serial).number → ◌≡◌ {A = Answered} (front_taken s.part s.part.queue) (Ok (receipt.Destroyed key number), record s.part { queue = drop 1 s.part.queue; nodes = with_node serial notice_taken s.part.nodes })
own_answer p s is serial number key kinds told number_is =
    subst (λ (x : PeerSeen). ◌≡◌ {A = Answered} (front_taken x.part x.part.queue) (Ok (receipt.Destroyed key number), record x.part { queue = drop 1 x.part.queue; nodes = with_node serial notice_taken x.part.nodes })) is
    (at (first_there p.mail.queue (front_some p.mail.queue (kind.Own serial) kinds (λ e. absurd (cc e)))))
  where
    at : (f : Key × Entry) × (Some f ≡ slice_get p.mail.queue 0) → ◌≡◌ {A = Answered} (front_taken (part_of p) p.mail.queue) (Ok (receipt.Destroyed key number), record (part_of p) { queue = drop 1 p.mail.queue; nodes = with_node serial notice_taken p.nodes.nodes })
    at (f, there) =
        let front = own_front p.mail.queue serial f kinds there in
        taken_own (part_of p) f (drop 1 p.mail.queue) serial front.0 (front_is p.mail.queue f there) front.1 front.2
        ∙ (λ i. (Ok (receipt.Destroyed (key_of_front p.mail.queue key f told there i) (sym number_is i)), record (part_of p) { queue = drop 1 p.mail.queue; nodes = with_node serial notice_taken p.nodes.nodes }))

not_same : (a b : ℕ) → b ≢ a → (a == b) ≡ false
not_same a b apart = differs (a == b) refl
  where
    differs : (c : Bool) → (a == b) ≡ c → (a == b) ≡ false
    differs false e = e
    differs true e = absurd (apart (sym (eqb-true a b e)))

pub own_kept : (p : Fields) → IsPeer p → (serial : ℕ) → kind_of p.mail.queue ≡ kind.Own serial → IsPeer (record p { mail = record p.mail { queue = drop 1 p.mail.queue; spare = p.mail.spare + 1 }; nodes = record p.nodes { nodes = with_node serial notice_taken p.nodes.nodes } })
own_kept p peer serial kinds = at (first_there p.mail.queue (front_some p.mail.queue (kind.Own serial) kinds (λ e. absurd (cc e))))
  where
    at : (f : Key × Entry) × (Some f ≡ slice_get p.mail.queue 0) → IsPeer (record p { mail = record p.mail { queue = drop 1 p.mail.queue; spare = p.mail.spare + 1 }; nodes = record p.nodes { nodes = with_node serial notice_taken p.nodes.nodes } })
    at (f, there) =
        let front = own_front p.mail.queue serial f kinds there in
        own_taken_kept p peer f (front_removed p.mail.queue f there) (ap (λ (g : Key × Entry). is_data g.1) front.1) serial (λ s apart. ap (is_notice_of s) front.1 ∙ not_same serial s apart)

-- ---- another peer's node's

pub foreign_answer : (p : Fields) (s : PeerSeen) → seen_of p ≡ s → (node : NodeRef) (number : ℕ) (key : Key) → kind_of p.mail.queue ≡ kind.Foreign node → option_map (λ (g : Key × Entry). g.0) (slice_get p.mail.queue 0) ≡ Some key → number ≡ unwrap_or (record_or_none node p.handles.records).number invalid → ◌≡◌ {A = Answered} (front_taken s.part s.part.queue) (Ok (receipt.Destroyed key number), record s.part { queue = drop 1 s.part.queue; handles = changed node made_dead s.part.handles })
foreign_answer p s is node number key kinds told number_is =
    subst (λ (x : PeerSeen). ◌≡◌ {A = Answered} (front_taken x.part x.part.queue) (Ok (receipt.Destroyed key number), record x.part { queue = drop 1 x.part.queue; handles = changed node made_dead x.part.handles })) is
    (at (first_there p.mail.queue (front_some p.mail.queue (kind.Foreign node) kinds (λ e. absurd (cc e)))))
  where
    at : (f : Key × Entry) × (Some f ≡ slice_get p.mail.queue 0) → ◌≡◌ {A = Answered} (front_taken (part_of p) p.mail.queue) (Ok (receipt.Destroyed key number), record (part_of p) { queue = drop 1 p.mail.queue; handles = changed node made_dead p.handles.records })
    at (f, there) =
        let front = foreign_front p.mail.queue node f kinds there in
        taken_foreign (part_of p) f (drop 1 p.mail.queue) node front.0 (front_is p.mail.queue f there) front.1 front.2
        ∙ (λ i. (Ok (receipt.Destroyed (key_of_front p.mail.queue key f told there i) (sym number_is i)), record (part_of p) { queue = drop 1 p.mail.queue; handles = changed node made_dead p.handles.records }))

-- ---- a release notice

pub release_answer : (p : Fields) (s : PeerSeen) → seen_of p ≡ s → (serial number : ℕ) (key : Key) → kind_of p.mail.queue ≡ kind.Release serial → option_map (λ (g : Key × Entry). g.0) (slice_get p.mail.queue 0) ≡ Some key → number ≡ (node_at (part_of p) serial).number → ◌≡◌ {A = Answered} (front_taken s.part s.part.queue) (Ok (receipt.Released key.stamp number), record s.part { queue = drop 1 s.part.queue })
release_answer p s is serial number key kinds told number_is =
    subst (λ (x : PeerSeen). ◌≡◌ {A = Answered} (front_taken x.part x.part.queue) (Ok (receipt.Released key.stamp number), record x.part { queue = drop 1 x.part.queue })) is
    (at (first_there p.mail.queue (front_some p.mail.queue (kind.Release serial) kinds (λ e. absurd (cc e)))))
  where
    at : (f : Key × Entry) × (Some f ≡ slice_get p.mail.queue 0) → ◌≡◌ {A = Answered} (front_taken (part_of p) p.mail.queue) (Ok (receipt.Released key.stamp number), record (part_of p) { queue = drop 1 p.mail.queue })
    at (f, there) =
        let front = release_front p.mail.queue serial f kinds there in
        taken_release (part_of p) f (drop 1 p.mail.queue) serial (front_is p.mail.queue f there) front.0 front.1
        ∙ (λ i. (Ok (receipt.Released (key_of_front p.mail.queue key f told there i).stamp (sym number_is i)), record (part_of p) { queue = drop 1 p.mail.queue }))

pub release_kept : (p : Fields) → IsPeer p → (serial : ℕ) → kind_of p.mail.queue ≡ kind.Release serial → IsPeer (record p { mail = record p.mail { queue = drop 1 p.mail.queue; spare = p.mail.spare + 1 } })
release_kept p peer serial kinds = at (first_there p.mail.queue (front_some p.mail.queue (kind.Release serial) kinds (λ e. absurd (cc e))))
  where
    at : (f : Key × Entry) × (Some f ≡ slice_get p.mail.queue 0) → IsPeer (record p { mail = record p.mail { queue = drop 1 p.mail.queue; spare = p.mail.spare + 1 } })
    at (f, there) =
        let front = release_front p.mail.queue serial f kinds there in
        release_taken_kept p peer f (front_removed p.mail.queue f there) (ap (λ (g : Key × Entry). is_data g.1) front.0) serial (λ s apart. ap (is_notice_of s) front.0 ∙ not_same serial s apart)
