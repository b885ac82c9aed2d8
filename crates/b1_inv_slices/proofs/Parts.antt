-- Published slices of a part through one event: they stay, but for a RECV, a SLICE_RELEASE and a flush.
use Rattle.std.proofs.Common.{◌≡◌, refl, sym, ap, subst, ◌∙◌, inl, ℕ, ◌+◌, ◌==◌, Bool, true, false, cond, List, [], ◌∷◌, ◌++◌, fold, zip, length, Option, Some, None, Ok, Err}
use native.Mathlib.Omega.{arith}
use Rattle.b1_model.specs.declared.naming.Key.{Key}
use Rattle.b1_model.specs.declared.naming.NodeRef.{NodeRef}
use Rattle.b1_model.specs.declared.naming.Opening.{Opening}
use Rattle.b1_model.specs.declared.commands.Command.{Command}
use Rattle.b1_model.specs.declared.commands.Command.TheVariants as cmd
use Rattle.b1_model.specs.declared.answers.Answer.TheVariants as answer
use Rattle.b1_model.specs.declared.answers.Reason.{Reason}
use Rattle.b1_model.specs.declared.answers.Reason.TheVariants.{Again, Unknown}
use Rattle.b1_model.specs.declared.entries.Entry.{Entry}
use Rattle.b1_model.specs.declared.entries.Entry.TheVariants.{Message, OwnNotice, ForeignNotice, ReleaseNotice}
use Rattle.b1_model.specs.declared.parts.Slot.{Slot}
use Rattle.b1_model.specs.declared.parts.Slot.TheVariants as slot
use Rattle.b1_model.specs.declared.events.Action.{Action}
use Rattle.b1_model.specs.declared.events.Action.TheVariants as act
use Rattle.b1_model.specs.declared.events.Doing.{Doing}
use Rattle.b1_model.specs.MachineParts.{PeerPart, DriverPart, Slice, is_staged, record_or_none}
use Rattle.b1_model.specs.MachinePool.{slice_len, is_received, slice_at, is_published, given_back, published}
use Rattle.b1_model.specs.MachineTables.{is_stage}
use Rattle.b1_model.specs.MachineSend.{stage_refusal, find_stage, unstaged_by}
use Rattle.b1_model.specs.MachineReceive.{Arriving, reference_by, slot_arrives, slots_arrived, cleared, front_by, front_taken, received, received_part, slice_given_back}
use Rattle.b1_model.specs.MachineDriver.{recv_answer, refused_at}
use Rattle.b1_model.specs.MachineEvents.{happens, stage_by, local_answer, local_part}
use Rattle.b1_step.specs.Rights.{Has}
use Rattle.b1_step.proofs.Changed.{changes}
use Rattle.b1_step.proofs.Orders.{find_has}
use Rattle.b1_inv.specs.References.{AreFilled}
use Rattle.b1_inv_peer.proofs.Clearing.{without_front}
use Rattle.b1_inv_sends.proofs.Once.{stage_parts}
use Rattle.b1_peer_pool.proofs.Fits.{IsLength-slice_len}
use Rattle.b1_peer_pool.proofs.Found.{used_at-found}
use Rattle.b1_inv_parts.proofs.Pools.{PartSliced, InOrder, front_gone, at_slots, stage_fits}
use Rattle.b1_inv_parts.proofs.Receives.{cleared_all}
use Rattle.b1_inv_parts.proofs.Slices.{slice_usage}
use Rattle.b1_inv_slices.specs.Slices.{kept_after, received_len}
use Rattle.b1_inv_slices.proofs.Lens.{taken_same, back_is, back_same, published_is}

abbrev Queue : Type 0
Queue = List (Key × Entry)

-- an event that may change which slices are published
abbrev pub is_receiving : Action → Bool
is_receiving act.Recv = true
is_receiving act.Local = true
is_receiving act.Flush = true
is_receiving action = false

-- ---- an arriving message has a number for each slot

longer : (xs : List ℕ) (y : ℕ) → length (xs ++ y ∷ []) ≡ length xs + 1
longer [] y = refl
longer (x ∷ xs) y = let further = longer xs y in omega (arith, further)

reference_one : (dead : Bool) (a : Arriving) (node : NodeRef) → length (reference_by dead a node).numbers ≡ length a.numbers + 1
reference_one true a node = longer a.numbers _
reference_one false a node = longer a.numbers _

number_one : (a : Arriving) (node : NodeRef) (s : Slot) → length (slot_arrives a (node, s)).numbers ≡ length a.numbers + 1
number_one a node slot.Unattached = longer a.numbers _
number_one a node slot.Void = longer a.numbers _
number_one a node slot.Own = longer a.numbers _
number_one a node slot.Attached = reference_one (record_or_none node a.part.handles).dead a node

numbers_all : (q : ℕ) (nodes : List NodeRef) (slots : List Slot) (a : Arriving) → AreFilled q nodes slots → length (fold slot_arrives a (zip nodes slots)).numbers ≡ length a.numbers + length nodes
numbers_all q [] [] a filled = omega arith
numbers_all q [] (s ∷ slots) a filled = absurd filled
numbers_all q (node ∷ nodes) [] a filled = absurd filled
numbers_all q (node ∷ nodes) (s ∷ slots) a filled = let further = numbers_all q nodes slots (slot_arrives a (node, s)) filled.1 in let head = number_one a node s in omega (arith, further, head)

numbers_are : (q : ℕ) (x : PeerPart) (nodes : List NodeRef) (slots : List Slot) → AreFilled q nodes slots → length (slots_arrived x nodes slots).numbers ≡ length nodes
numbers_are q x nodes slots filled = let all = numbers_all q nodes slots (record { part = x; numbers = []; refs = [] }) filled in omega (arith, all)

module _ (offset : ℕ) where
  -- ---- RECV

  -- the slices of messages that a RECV removes aren't published
  abbrev Same : Option ℕ → PeerPart → Type 0
  Same kept x = InOrder x × (received_len offset x.slices ≡ kept)

  gone : (kept : Option ℕ) (x : PeerPart) (f : Key × Entry) (rest : Queue) → x.queue ≡ f ∷ rest → Same kept x → Same kept (without_front x f rest)
  gone kept x (k, Message origin user index serial at len nodes slots handles payload) rest is same =
      let f : Key × Entry = (k, Message origin user index serial at len nodes slots handles payload) in
      let s = same.0.sliced.sliced f (subst (λ queue. Has queue f) (sym is) (inl refl)) refl in
      (front_gone x f rest is same.0, back_same x.pool x.slices same.0.sliced.pool offset at s.0 s.1 (slice_usage f.1 s.0 s.2) ∙ same.1)
  gone kept x (k, OwnNotice serial index) rest is same = (front_gone x (k, OwnNotice serial index) rest is same.0, same.1)
  gone kept x (k, ForeignNotice node index) rest is same = (front_gone x (k, ForeignNotice node index) rest is same.0, same.1)
  gone kept x (k, ReleaseNotice serial) rest is same = (front_gone x (k, ReleaseNotice serial) rest is same.0, same.1)

  module _ (command : Command) (y : PeerPart) (ok : InOrder y) (q : ℕ)
      (filled : (k : Key) (origin user index serial at len : ℕ) (nodes : List NodeRef) (slots : List Slot) (handles payload : List ℕ) → Has y.queue (k, Message origin user index serial at len nodes slots handles payload) → is_staged (k, Message origin user index serial at len nodes slots handles payload) ≡ false → AreFilled q nodes slots) where
    abbrev Answered : Queue → Type 0
    Answered queue = received_len offset (front_taken y queue).1.slices ≡ kept_after offset command (elim (front_taken y queue).0 [ Ok receipt ↦ answer.Got receipt | Err front ↦ refused_at (Again front) None ]) (received_len offset y.slices)

    takes : (f : Key × Entry) (rest : Queue) → y.queue ≡ f ∷ rest → is_staged f ≡ false
        → received_len offset (front_by false y f rest).1.slices ≡ kept_after offset command (elim (front_by false y f rest).0 [ Ok receipt ↦ answer.Got receipt | Err front ↦ refused_at (Again front) None ]) (received_len offset y.slices)
    takes (k, Message origin user index serial at len nodes slots handles payload) rest is even =
        let f : Key × Entry = (k, Message origin user index serial at len nodes slots handles payload) in
        let there : Has y.queue f = subst (λ queue. Has queue f) (sym is) (inl refl) in
        let s = ok.sliced.sliced f there refl in
        let taken : PeerPart = record y { queue = rest; slices = published at y.slices } in
        let numbers = numbers_are q taken nodes slots (filled k origin user index serial at len nodes slots handles payload there even) in
        ap (received_len offset) (at_slots (zip nodes slots) (record { part = taken; numbers = []; refs = [] }) ok.rising).slices
        ∙ published_is y.pool y.slices ok.sliced.pool offset at s.0 (used_at-found at y.slices s.0 s.1).0
        ∙ ap (λ n. cond (at == offset) (Some n) (received_len offset y.slices)) (ap (λ t. t.len) s.2.1)
        ∙ ap (λ n. cond (at == offset) (Some (slice_len (length payload) n)) (received_len offset y.slices)) (sym numbers)
    takes (k, OwnNotice serial index) rest is even = refl
    takes (k, ForeignNotice node index) rest is even = refl
    takes (k, ReleaseNotice serial) rest is even = refl

    front : (queue : Queue) → y.queue ≡ queue → Answered queue
    front [] is = refl
    front (f ∷ rest) is = by (is_staged f) refl
      where
        by : (b : Bool) → is_staged f ≡ b → received_len offset (front_by b y f rest).1.slices ≡ kept_after offset command (elim (front_by b y f rest).0 [ Ok receipt ↦ answer.Got receipt | Err front ↦ refused_at (Again front) None ]) (received_len offset y.slices)
        by true odd = refl
        by false even = takes f rest is even

  -- ---- SLICE_RELEASE

  released : (b : Bool) (x : PeerPart) (at : ℕ) → PartSliced x → is_received at x.slices ≡ b → received_len offset (slice_given_back b x at).slices ≡ kept_after offset (cmd.SliceRelease at) (cond b answer.Done (refused_at (Unknown at) None)) (received_len offset x.slices)
  released false x at ok is = refl
  released true x at ok is = by (slice_at at x.slices) refl is
    where
      by : (s : Option Slice) → slice_at at x.slices ≡ s → elim s [ None ↦ false | Some t ↦ is_published t ] ≡ true → received_len offset (given_back at x.slices) ≡ cond (at == offset) None (received_len offset x.slices)
      by None found none = absurd (cc none)
      by (Some s) found was = back_is x.pool x.slices ok.pool offset at s found

  pub local_kept : (shut : Bool) (command : Command) (other : Command) (x : PeerPart) → PartSliced x → other ≡ command
      → received_len offset (local_part shut command x).slices ≡ kept_after offset other (local_answer shut command x) (received_len offset x.slices)
  local_kept true command other x ok is = refl
  local_kept false (cmd.SliceRelease at) other x ok is = subst (λ c. received_len offset (slice_given_back (is_received at x.slices) x at).slices ≡ kept_after offset c (cond (is_received at x.slices) answer.Done (refused_at (Unknown at) None)) (received_len offset x.slices)) (sym is) (released (is_received at x.slices) x at ok refl)
  local_kept false (cmd.Limit limits) other x ok is = subst (λ c. received_len offset x.slices ≡ kept_after offset c answer.Done (received_len offset x.slices)) (sym is) refl
  local_kept false cmd.Query other x ok is = refl
  local_kept false command other x ok is = refl

  -- ---- the other events

  at_stage : (r : Option Reason) (memory : Bool) (origin user place serial : ℕ) (payload : List ℕ) (nodes : List NodeRef) (x : PeerPart) → stage_refusal x user serial (length payload) (length nodes) ≡ r → PartSliced x
      → received_len offset (stage_by r memory origin user place serial payload nodes x).1.slices ≡ received_len offset x.slices
  at_stage (Some r) memory origin user place serial payload nodes x is ok = refl
  at_stage None true origin user place serial payload nodes x is ok = refl
  at_stage None false origin user place serial payload nodes x is ok =
      taken_same x.pool x.slices ok.pool offset (slice_len (length payload) (length nodes)) (IsLength-slice_len (length payload) (length nodes)) (stage_fits x user serial (length payload) (length nodes) is)

  at_unstage : (g : Option (Key × Entry)) (x : PeerPart) (origin index : ℕ) → find_stage x origin index ≡ g → PartSliced x → received_len offset (unstaged_by g x origin index).slices ≡ received_len offset x.slices
  at_unstage None x origin index is ok = refl
  at_unstage (Some g) x origin index is ok =
      let there = find_has (is_stage origin index) x.queue g is in
      let s = ok.sliced g there.0 (stage_parts origin index g there.1).message in
      back_same x.pool x.slices ok.pool offset _ s.0 s.1 (slice_usage g.1 s.0 s.2)

  pub event_same : (o : Opening) (memory : Bool) (d : DriverPart) (doing : Doing) (action : Action) (x : PeerPart) → PartSliced x → is_receiving action ≡ false → received_len offset (happens o memory d doing action x).1.slices ≡ received_len offset x.slices
  event_same o memory d doing (act.Stage peer place) x ok calm = at_stage _ memory _ _ place _ _ _ x refl ok
  event_same o memory d doing (act.Unstage peer place) x ok calm = at_unstage (find_stage x d.me place) x d.me place refl ok
  event_same o memory d doing act.Recv x ok calm = absurd (cc calm)
  event_same o memory d doing act.Local x ok calm = absurd (cc calm)
  event_same o memory d doing act.Flush x ok calm = absurd (cc calm)
  event_same o memory d doing action x ok calm = ap (received_len offset) (ap (λ y. y.slices) (changes o memory d doing action x))

pub recv_kept : (offset : ℕ) (command : Command) (x : PeerPart) (q : ℕ) → InOrder x
    → ((k : Key) (origin user index serial at len : ℕ) (nodes : List NodeRef) (slots : List Slot) (handles payload : List ℕ) → Has (cleared x).queue (k, Message origin user index serial at len nodes slots handles payload) → is_staged (k, Message origin user index serial at len nodes slots handles payload) ≡ false → AreFilled q nodes slots)
    → received_len offset (received_part x).slices ≡ kept_after offset command (recv_answer (received x)) (received_len offset x.slices)
recv_kept offset command x q ok filled =
    let same = cleared_all (Same offset (received_len offset x.slices)) (λ y k. k.0.rising) (gone offset (received_len offset x.slices)) x (ok, refl) in
    front offset command (cleared x) same.0 q filled (cleared x).queue refl
    ∙ ap (kept_after offset command (recv_answer (received x))) same.1
