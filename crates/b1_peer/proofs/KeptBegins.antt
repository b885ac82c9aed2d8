-- A peer stays what it is where a SEND begins, and what it then answers.
use Rattle.std.proofs.Common.{◌≡◌, refl, sym, ap, ◌∙◌, inl, inr, subst, ℕ, ◌+◌, ◌≤◌, Bool, true, false, cond, List, [], ◌∷◌, ◌++◌, filter, find, fold, length, Option, Some, None, Ok, Err, replicate, ◌==◌, ◌||◌, nat_lt}
use Rattle.std.specs.Bool.{then_some}
use Rattle.std.specs.List.{list_any}
use native.Mathlib.Omega.{arith}
use Rattle.b1_model.specs.declared.limits.TheConstants.{MOST_DESTINATIONS, MOST_HANDLES}
use Rattle.b1_model.specs.declared.naming.NodeRef.{NodeRef}
use Rattle.b1_model.specs.declared.answers.Reason.{Reason}
use Rattle.b1_model.specs.declared.answers.Reason.TheVariants as reason
use Rattle.b1_model.specs.Names.{is_own}
use Rattle.b1_model.specs.MachineParts.{PeerPart, is_odd, NodePart, HandleRecord, same_ref, ref_before, record_of, record_or_none}
use Rattle.b1_model.specs.MachineTables.{is_number, held_node, serial_of, with_made}
use Rattle.b1_model.specs.MachineSend.{first_reason, is_bad_send, send_refusal, begun_part, begun_nodes}
use Rattle.b1_model.specs.MachineEvents.{begin_by}
use Rattle.b1_model.specs.declared.commands.SendCmd.{SendCmd}
use Rattle.b1_model.specs.declared.parts.NodeState.TheVariants.{Live}
use Rattle.b1_nodes.specs.Nodes.{Nodes}
use Rattle.b1_peer_queue.specs.Mail.{Mail}
use Rattle.b1_inv_peer.proofs.NodeEvents.{all_made_ok}
use Rattle.b1_inv_peer.proofs.Rooms.{places_most, unnoticed_most}
use Rattle.b1_peer.specs.Answers.{Begins}
use Rattle.b1_peer.specs.State.{Fields, IsPeer, part_of, seen_of}
use Rattle.b1_step.specs.Rights.{Has}
use Rattle.b1_step.specs.Ordered.{Rising, BehindNode}
use Rattle.b1_step.proofs.Orders.{same_ref_itself, ref_apart}
use Rattle.b1_peer.specs.Begin.{held_reason, all_made, MoreNodes, EnoughNodes}

-- ---- the record that holds a number is its node's

found_later : (test : HandleRecord → Bool) (hs : List HandleRecord) (h : HandleRecord) → find test hs ≡ Some h → Has hs h
found_later test [] h is = absurd (cc is)
found_later test (g ∷ rest) h is = at (found_later test rest h) (test g) is
  where
    at : (find test rest ≡ Some h → Has rest h) → (b : Bool) → cond b (Some g) (find test rest) ≡ Some h → Has (g ∷ rest) h
    at further true e = let same : g ≡ h = cc e in inl (sym same)
    at further false e = inr (further e)

behind_node : (node : NodeRef) (hs : List HandleRecord) (h : HandleRecord) → BehindNode node hs → Has hs h → ref_before node h.node ≡ true
behind_node node [] h behind there = absurd there
behind_node node (g ∷ rest) h behind (inl same) = ap (λ (k : HandleRecord). ref_before node k.node) same ∙ behind.0
behind_node node (g ∷ rest) h behind (inr there) = behind_node node rest h behind.1 there

same_turned : (a b : NodeRef) → same_ref a b ≡ same_ref b a
same_turned a b = grind arith

pub own_record : (test : HandleRecord → Bool) (hs : List HandleRecord) (h : HandleRecord) → Rising hs → find test hs ≡ Some h → record_of h.node hs ≡ Some h
own_record test [] h up is = absurd (cc is)
own_record test (g ∷ rest) h up is = at (own_record test rest h up.1) (found_later test rest h) (test g) is
  where
    at : (find test rest ≡ Some h → record_of h.node rest ≡ Some h) → (find test rest ≡ Some h → Has rest h) → (b : Bool) → cond b (Some g) (find test rest) ≡ Some h → cond (same_ref g.node h.node) (Some g) (record_of h.node rest) ≡ Some h
    at further there true e = let same : g ≡ h = cc e in rw (same, same_ref_itself h.node) refl
    at further there false e =
        let apart : same_ref g.node h.node ≡ false = same_turned g.node h.node ∙ ref_apart g.node h.node (behind_node g.node rest h up.0 (there e)) in
        rw apart (further e)

-- so it is dead where the node's record is
pub dead_held : (number : ℕ) (hs : List HandleRecord) (node : NodeRef) → Rising hs → held_node number hs ≡ Some node → (h : HandleRecord) × (find (is_number number) hs ≡ Some h) × (h.node ≡ node) × (record_or_none node hs ≡ h)
dead_held number hs node up is = at (find (is_number number) hs) refl is
  where
    at : (o : Option HandleRecord) → find (is_number number) hs ≡ o → (elim o [ None ↦ None | Some h ↦ Some h.node ]) ≡ Some node → (h : HandleRecord) × (find (is_number number) hs ≡ Some h) × (h.node ≡ node) × (record_or_none node hs ≡ h)
    at None found e = absurd (cc e)
    at (Some h) found e =
        let same : h.node ≡ node = cc e in
        (h, found, same, ap (λ (o : Option HandleRecord). elim o [ None ↦ record_or_none node [] | Some g ↦ g ]) (ap (λ (n : NodeRef). record_of n hs) (sym same) ∙ own_record (is_number number) hs h up found))

module _ (number : ℕ) (hs : List HandleRecord) (node : NodeRef) (r : Bool) (up : Rising hs) (held : held_node number hs ≡ Some node) (is : r ≡ (record_or_none node hs).dead) where
  pub held_gone : r ≡ true → Some (reason.Gone node.owner node.serial) ≡ held_reason (find (is_number number) hs)
  held_gone e =
      let there = dead_held number hs node up held in
      let gone : there.0.dead ≡ true = ap (λ (h : HandleRecord). h.dead) (sym there.3) ∙ sym is ∙ e in
      sym (ap held_reason there.1 ∙ ap (λ b. then_some b (reason.Gone there.0.node.owner there.0.node.serial)) gone ∙ ap (λ (n : NodeRef). Some (reason.Gone n.owner n.serial)) there.2)

  pub held_still : r ≡ false → None ≡ held_reason (find (is_number number) hs)
  held_still e =
      let there = dead_held number hs node up held in
      let stays : there.0.dead ≡ false = ap (λ (h : HandleRecord). h.dead) (sym there.3) ∙ sym is ∙ e in
      sym (ap held_reason there.1 ∙ ap (λ b. then_some b (reason.Gone there.0.node.owner there.0.node.serial)) stays)

-- ---- nodes are made

made_most : (peers number : ℕ) (nodes : List NodePart) → length (with_made peers number nodes) ≤ length nodes + 1
made_most peers number nodes = at (serial_of number nodes)
  where
    new : NodePart
    new = record { number = number; state = Live; counts = replicate peers 0; taken = false }

    longer : (xs : List NodePart) → length (xs ++ new ∷ []) ≤ length xs + 1
    longer [] = omega arith
    longer (x ∷ xs) = let further = longer xs in omega (arith, further)

    at : (o : Option ℕ) → length {A = NodePart} (elim o [ None ↦ nodes ++ new ∷ [] | Some serial ↦ nodes ]) ≤ length nodes + 1
    at None = longer nodes
    at (Some serial) = omega arith

all_most : (peers : ℕ) (numbers : List ℕ) (nodes : List NodePart) → length (fold (λ made number. with_made peers number made) nodes numbers) ≤ length nodes + length numbers
all_most peers [] nodes = omega arith
all_most peers (number ∷ rest) nodes = let further = all_most peers rest (with_made peers number nodes) in let here = made_most peers number nodes in omega (arith, further, here)

own_most : (numbers : List ℕ) → length (filter is_own numbers) ≤ length numbers
own_most [] = omega arith
own_most (n ∷ rest) = at (own_most rest) (is_own n)
  where
    at : length (filter is_own rest) ≤ length rest → (b : Bool) → length (cond b (n ∷ filter is_own rest) (filter is_own rest)) ≤ length (n ∷ rest)
    at further true = omega (arith, further)
    at further false = omega (arith, further)

-- only room was gained
pub roomy_kept : (p : Fields) → IsPeer p → (mail : Mail) (nodes : Nodes) → MoreNodes p.mail mail p.nodes nodes → IsPeer (record p { mail = mail; nodes = nodes })
roomy_kept p peer mail nodes more =
    rw (more.mail_same, more.nodes_same) (record {
      ok = peer.ok;
      room = record { notices = (let old = peer.room.notices in let le = more.mail_more in omega (arith, old, le)); dead = peer.room.dead; records = peer.room.records; messages = peer.room.messages };
      contents = peer.contents;
      stored = peer.stored;
      owner = peer.owner;
      among = peer.among;
      few = peer.few;
    })

-- and nodes were made with it
pub begun_kept : (p : Fields) → IsPeer p → (mail : Mail) (mid nodes : Nodes) (numbers : List ℕ) → MoreNodes p.mail mail p.nodes mid → EnoughNodes (length numbers) (length p.handles.records) mail mid → nodes ≡ record mid { nodes = all_made mid.peers numbers mid.nodes; spare = nodes.spare } → IsPeer (record p { mail = mail; nodes = nodes })
begun_kept p peer mail mid nodes numbers more enough is =
    let nodes_are : nodes ≡ record p.nodes { nodes = all_made p.nodes.peers numbers p.nodes.nodes; spare = nodes.spare } = is ∙ ap {A = Nodes} {B = Nodes} (λ t. record t { nodes = all_made t.peers numbers t.nodes; spare = nodes.spare }) more.nodes_same in
    let notices : length p.nodes.nodes + length numbers + length p.handles.records ≤ mail.spare = subst (λ (t : Nodes). length t.nodes + length numbers + length p.handles.records ≤ mail.spare) more.nodes_same enough.notices in
    subst (λ t. IsPeer (record p { mail = mail; nodes = t })) (sym nodes_are)
    (subst (λ m. IsPeer (record p { mail = m; nodes = record p.nodes { nodes = all_made p.nodes.peers numbers p.nodes.nodes; spare = nodes.spare } })) (sym more.mail_same)
    (record {
      ok = all_made_ok p.me p.nodes.peers (filter is_own numbers) p.nodes.nodes p.store.slices p.mail.queue p.handles.records peer.ok;
      room = record {
        notices =
            (let most = places_most p.mail.queue (length (all_made p.nodes.peers numbers p.nodes.nodes)) in
            let grown = all_most p.nodes.peers (filter is_own numbers) p.nodes.nodes in
            let own = own_most numbers in
            let free = unnoticed_most p.handles.records in
            omega (arith, most, grown, own, free, notices));
        dead = peer.room.dead;
        records = peer.room.records;
        messages = peer.room.messages;
      };
      contents = peer.contents;
      stored = peer.stored;
      owner = peer.owner;
      among = peer.among;
      few = peer.few;
    }))

-- its part is the machine's then
pub begun_seen : (p : Fields) → IsPeer p → (mail : Mail) (mid nodes : Nodes) (c : SendCmd) → MoreNodes p.mail mail p.nodes mid → nodes ≡ record mid { nodes = all_made mid.peers c.with mid.nodes; spare = nodes.spare } → seen_of (record p { mail = mail; nodes = nodes }) ≡ record (seen_of p) { part = begun_part (part_of p) c }
begun_seen p peer mail mid nodes c more is =
    let nodes_are : nodes ≡ record p.nodes { nodes = all_made p.nodes.peers c.with p.nodes.nodes; spare = nodes.spare } = is ∙ ap {A = Nodes} {B = Nodes} (λ t. record t { nodes = all_made t.peers c.with t.nodes; spare = nodes.spare }) more.nodes_same in
    ap (λ (t : Nodes). seen_of (record p { mail = mail; nodes = t })) nodes_are
    ∙ ap (λ (m : Mail). seen_of (record p { mail = m; nodes = record p.nodes { nodes = all_made p.nodes.peers c.with p.nodes.nodes; spare = nodes.spare } })) more.mail_same
    ∙ ap (λ n. seen_of (record p { nodes = record p.nodes { nodes = all_made n c.with p.nodes.nodes } })) peer.among

pub roomy_seen : (p : Fields) → IsPeer p → (mail : Mail) (nodes : Nodes) → MoreNodes p.mail mail p.nodes nodes → seen_of (record p { mail = mail; nodes = nodes }) ≡ seen_of p
roomy_seen p peer mail nodes more =
    ap (λ (t : Nodes). seen_of (record p { mail = mail; nodes = t })) more.nodes_same
    ∙ ap (λ (m : Mail). seen_of (record p { mail = m })) more.mail_same

-- ---- answers

pub begins_refused : (x : PeerPart) (c : SendCmd) (r : Reason) → send_refusal x c ≡ Some r → Begins x c (Err r) x
begins_refused x c r is = record { memory = false; event = ap (λ o. begin_by o false c x) is }

pub begins_memory : (x : PeerPart) (c : SendCmd) → send_refusal x c ≡ None → Begins x c (Err reason.Memory) x
begins_memory x c is = record { memory = true; event = ap (λ o. begin_by o true c x) is }

pub begins_done : (x : PeerPart) (c : SendCmd) → send_refusal x c ≡ None → Begins x c (Ok (begun_nodes x c)) (begun_part x c)
begins_done x c is = record { memory = false; event = ap (λ o. begin_by o false c x) is }

-- an accepted SEND doesn't carry too many handles
few_of : (a b : Bool) (n : ℕ) (d e : Bool) → (a || b || nat_lt MOST_HANDLES n || d || e) ≡ false → n ≤ MOST_HANDLES
few_of a b n d e is = grind (arith, is)

pub few_carried : (x : PeerPart) (c : SendCmd) → send_refusal x c ≡ None → length c.with ≤ MOST_HANDLES
few_carried x c is = few_of (length c.to == 0) (nat_lt MOST_DESTINATIONS (length c.to)) (length c.with) (list_any is_odd c.to) (list_any is_odd c.with) (by (is_bad_send c) _ is)
  where
    by : (b : Bool) (rest : List (Option Reason)) → first_reason (then_some b reason.Invalid ∷ rest) ≡ None → b ≡ false
    by true rest e = absurd (cc e)
    by false rest e = refl
