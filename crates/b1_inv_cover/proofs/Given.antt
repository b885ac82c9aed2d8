-- Given numbers are given in their order: a record's number was its own before, or is the next one then.
use Rattle.std.proofs.Common.{◌≡◌, ◌⊎◌, refl, sym, ap, subst, ◌∙◌, inl, inr, ℕ, ◌+◌, ◌≤◌, ◌==◌, Bool, true, false, cond, nat_lt, List, [], ◌∷◌, fold, zip, Option, Some, None}
use Rattle.std.specs.Prelude.{slice_get}
use Rattle.std.proofs.lemmas.Option.{same_Some}
use native.Mathlib.Omega.{arith}
use Rattle.b1_model.specs.declared.naming.Key.{Key}
use Rattle.b1_model.specs.declared.naming.NodeRef.{NodeRef}
use Rattle.b1_model.specs.declared.naming.Opening.{Opening}
use Rattle.b1_model.specs.declared.commands.Command.{Command}
use Rattle.b1_model.specs.declared.entries.Entry.{Entry}
use Rattle.b1_model.specs.declared.entries.Entry.TheVariants.{Message, OwnNotice, ForeignNotice, ReleaseNotice}
use Rattle.b1_model.specs.declared.events.Action.{Action}
use Rattle.b1_model.specs.declared.events.Action.TheVariants as act
use Rattle.b1_model.specs.declared.events.Doing.{Doing}
use Rattle.b1_model.specs.declared.parts.Slot.{Slot}
use Rattle.b1_model.specs.declared.parts.Slot.TheVariants as slot
use Rattle.b1_model.specs.MachineParts.{PeerPart, DriverPart, HandleRecord, State, is_staged, same_ref, record_of, record_or_none, no_record}
use Rattle.b1_model.specs.MachineTables.{is_needed, changed, less_flight, more_held, less_held, made_dead, unexpected, foreign, next_number}
use Rattle.b1_model.specs.MachineReceive.{Arriving, discards, discarded, cleared, reference_by, slot_arrives, taken_entry, front_by, front_taken, received_part, given_up}
use Rattle.b1_model.specs.MachineEvents.{happens}
use Rattle.b1_model.specs.MachineStep.{Step}
use Rattle.b1_step.specs.Rights.{Has, Keeps}
use Rattle.b1_step.proofs.Changed.{changes}
use Rattle.b1_step.proofs.Kept.{keeps}
use Rattle.b1_inv.specs.Words.{IsPeer}
use Rattle.b1_inv_tools.proofs.Leaves.{peer_cases}
use Rattle.b1_inv_notices.proofs.Turns.{parts, going, going_doing, going_action}
use Rattle.b1_inv_cover.specs.Given.{GivenRises, IsGivenBetween}

abbrev Handles : Type 0
Handles = List HandleRecord

-- of handle records with a count and of others with another count: each number is the node's from before, or was given between
abbrev Fresh : ℕ → Handles → ℕ → Handles → Type 0
Fresh before old after new = (before ≤ after) × ((h : HandleRecord) (number : ℕ) → Has new h → h.number ≡ Some number
    → ((g : HandleRecord) × Has old g × (g.node ≡ h.node) × (g.number ≡ Some number)) ⊎ IsGivenBetween before after number)

fresh_refl : (given : ℕ) (hs : Handles) → Fresh given hs given hs
fresh_refl given hs = (omega arith, λ h number there is. inl (h, there, refl, is))

pub between_more : (a b c d number : ℕ) → c ≤ a → b ≤ d → IsGivenBetween a b number → IsGivenBetween c d number
between_more a b c d number low high k = record { place = k.place; low = let l = k.low in omega (arith, l, low); high = let u = k.high in omega (arith, u, high); is_number = k.is_number }

fresh_trans : (a b c : ℕ) (old mid new : Handles) → Fresh a old b mid → Fresh b mid c new → Fresh a old c new
fresh_trans a b c old mid new one two = (let first = one.0 in let second = two.0 in omega (arith, first, second), by)
  where
    by : (h : HandleRecord) (number : ℕ) → Has new h → h.number ≡ Some number → ((g : HandleRecord) × Has old g × (g.node ≡ h.node) × (g.number ≡ Some number)) ⊎ IsGivenBetween a c number
    by h number there is =
        elim (two.1 h number there is) [
          | inr given ↦ inr (let low = one.0 in between_more b c a c number low (omega arith) given)
          | inl (g, had, node, also) ↦ elim (one.1 g number had also) [
            | inr given ↦ inr (let high = two.0 in between_more a b a c number (omega arith) high given)
            | inl (f, was, same, still) ↦ inl (f, was, same ∙ node, still)
          ]
        ]

-- ---- a record that changes

-- the first record of a node changes, so that its number is its own or was given
module _ (before after : ℕ) (rises : before ≤ after) (node : NodeRef) (f : HandleRecord → HandleRecord) (same : (g : HandleRecord) → (f g).node ≡ g.node) where
  abbrev KeepsNumber : HandleRecord → Type 0
  KeepsNumber g = (number : ℕ) → (f g).number ≡ Some number → (g.number ≡ Some number) ⊎ IsGivenBetween before after number

  abbrev Had : Handles → HandleRecord → ℕ → Type 0
  Had old h number = ((k : HandleRecord) × Has old k × (k.node ≡ h.node) × (k.number ≡ Some number)) ⊎ IsGivenBetween before after number

  abbrev FirstKeeps : Option HandleRecord → Type 0
  FirstKeeps found = (g : HandleRecord) → found ≡ Some g → KeepsNumber g

  fresh_changed : (hs : Handles) → FirstKeeps (record_of node hs) → Fresh before hs after (changed node f hs)
  fresh_changed [] first = (rises, λ h number there is. absurd there)
  fresh_changed (g ∷ rest) first = (rises, by (same_ref g.node node) (is_needed (f g)) first (λ later. (fresh_changed rest later).1))
    where
      later_had : (h : HandleRecord) (number : ℕ) → Had rest h number → Had (g ∷ rest) h number
      later_had h number (inl (k, there, is, also)) = inl (k, inr there, is, also)
      later_had h number (inr given) = inr given

      by : (b c : Bool) → FirstKeeps (cond b (Some g) (record_of node rest)) → (FirstKeeps (record_of node rest) → (h : HandleRecord) (number : ℕ) → Has (changed node f rest) h → h.number ≡ Some number → Had rest h number)
          → (h : HandleRecord) (number : ℕ) → Has (cond b (cond c (f g ∷ rest) rest) (g ∷ changed node f rest)) h → h.number ≡ Some number → Had (g ∷ rest) h number
      by true true first further h number (inl here) is =
          elim (first g refl number (ap {A = HandleRecord} (λ k. k.number) (sym here) ∙ is)) [
            | inl had ↦ inl (g, inl refl, sym (same g) ∙ ap {A = HandleRecord} (λ k. k.node) (sym here), had)
            | inr given ↦ inr given
          ]
      by true true first further h number (inr there) is = inl (h, inr there, refl, is)
      by true false first further h number there is = inl (h, inr there, refl, is)
      by false c first further h number (inl here) is = inl (g, inl refl, ap {A = HandleRecord} (λ k. k.node) (sym here), ap {A = HandleRecord} (λ k. k.number) (sym here) ∙ is)
      by false c first further h number (inr there) is = later_had h number (further first h number there is)

-- a change that gives no number
fresh_same : (given : ℕ) (node : NodeRef) (f : HandleRecord → HandleRecord) → ((g : HandleRecord) → (f g).node ≡ g.node) → ((g : HandleRecord) (number : ℕ) → (f g).number ≡ Some number → g.number ≡ Some number) → (hs : Handles) → Fresh given hs given (changed node f hs)
fresh_same given node f same keeps hs = fresh_changed given given (omega arith) node f same hs (λ g found number is. inl (keeps g number is))

fresh_unexpected : (given : ℕ) (nodes : List NodeRef) (hs : Handles) → Fresh given hs given (unexpected nodes hs)
fresh_unexpected given [] hs = fresh_refl given hs
fresh_unexpected given (node ∷ rest) hs =
    fresh_trans given given given hs (changed node less_flight hs) (unexpected rest (changed node less_flight hs))
    (fresh_same given node less_flight (λ g. refl) (λ g number is. is) hs) (fresh_unexpected given rest (changed node less_flight hs))

-- ---- receiving

abbrev FreshParts : PeerPart → PeerPart → Type 0
FreshParts x y = Fresh x.given x.handles y.given y.handles

parts_trans : (x y z : PeerPart) → FreshParts x y → FreshParts y z → FreshParts x z
parts_trans x y z one two = fresh_trans x.given y.given z.given x.handles y.handles z.handles one two

at_discard : (e : Entry) (x : PeerPart) → FreshParts x (discarded x e)
at_discard (Message origin user index serial offset len nodes slots handles payload) x = fresh_unexpected x.given (foreign x.me nodes) x.handles
at_discard (OwnNotice serial index) x = fresh_refl x.given x.handles
at_discard (ForeignNotice node index) x = fresh_same x.given node made_dead (λ g. refl) (λ g number is. is) x.handles
at_discard (ReleaseNotice serial) x = fresh_refl x.given x.handles

at_discards : (es : List (Key × Entry)) (x : PeerPart) → FreshParts x (fold (λ z f. discarded z f.1) x es)
at_discards [] x = fresh_refl x.given x.handles
at_discards (f ∷ rest) x = parts_trans x (discarded x f.1) (fold (λ z g. discarded z g.1) (discarded x f.1) rest) (at_discard f.1 x) (at_discards rest (discarded x f.1))

at_cleared : (x : PeerPart) → FreshParts x (cleared x)
at_cleared x = at_discards (discards x) _

-- a found record, or what stands in its place
abbrev found_or_none : NodeRef → Option HandleRecord → HandleRecord
found_or_none node found = elim found [ None ↦ no_record node | Some h ↦ h ]

-- a held record keeps its number, another one gets the next
held_fresh : (node : NodeRef) (given : ℕ) (hs : Handles) → Fresh given hs (cond ((record_or_none node hs).held == 0) (given + 1) given) (changed node (λ g. more_held (next_number given) (less_flight g)) hs)
held_fresh node given hs =
    fresh_changed given (cond ((record_or_none node hs).held == 0) (given + 1) given) (by ((record_or_none node hs).held == 0)) node (λ g. more_held (next_number given) (less_flight g)) (λ g. refl) hs first
  where
    by : (b : Bool) → given ≤ cond b (given + 1) given
    by true = omega arith
    by false = omega arith

    numbered : (b : Bool) (g : HandleRecord) (number : ℕ) → cond b (Some (next_number given)) g.number ≡ Some number → (g.number ≡ Some number) ⊎ IsGivenBetween given (cond b (given + 1) given) number
    numbered true g number is = inr (record { place = given; low = omega arith; high = omega arith; is_number = sym (same_Some (next_number given) number is) })
    numbered false g number is = inl is

    first : (g : HandleRecord) → record_of node hs ≡ Some g → (number : ℕ) → (more_held (next_number given) (less_flight g)).number ≡ Some number → (g.number ≡ Some number) ⊎ IsGivenBetween given (cond ((record_or_none node hs).held == 0) (given + 1) given) number
    first g found number is =
        let held : (record_or_none node hs).held ≡ g.held = ap (λ z. (found_or_none node z).held) found in
        subst (λ n. (g.number ≡ Some number) ⊎ IsGivenBetween given (cond (n == 0) (given + 1) given) number) (sym held) (numbered (g.held == 0) g number is)

at_reference : (b : Bool) (a : Arriving) (node : NodeRef) → FreshParts a.part (reference_by b a node).part
at_reference true a node = fresh_same a.part.given node less_flight (λ g. refl) (λ g number is. is) a.part.handles
at_reference false a node = held_fresh node a.part.given a.part.handles

at_slot : (a : Arriving) (node : NodeRef) (s : Slot) → FreshParts a.part (slot_arrives a (node, s)).part
at_slot a node slot.Unattached = fresh_unexpected a.part.given (foreign a.part.me (node ∷ [])) a.part.handles
at_slot a node slot.Attached = at_reference (record_or_none node a.part.handles).dead a node
at_slot a node slot.Own = fresh_refl a.part.given a.part.handles
at_slot a node slot.Void = fresh_unexpected a.part.given (foreign a.part.me (node ∷ [])) a.part.handles

at_slots : (ss : List (NodeRef × Slot)) (a : Arriving) → FreshParts a.part (fold slot_arrives a ss).part
at_slots [] a = fresh_refl a.part.given a.part.handles
at_slots ((node, s) ∷ rest) a = parts_trans a.part (slot_arrives a (node, s)).part (fold slot_arrives (slot_arrives a (node, s)) rest).part (at_slot a node s) (at_slots rest (slot_arrives a (node, s)))

at_taken : (e : Entry) (k : Key) (x : PeerPart) → FreshParts x (taken_entry x k e).1
at_taken (Message origin user index serial offset len nodes slots handles payload) k x = at_slots (zip nodes slots) _
at_taken (OwnNotice serial index) k x = fresh_refl x.given x.handles
at_taken (ForeignNotice node index) k x = fresh_same x.given node made_dead (λ g. refl) (λ g number is. is) x.handles
at_taken (ReleaseNotice serial) k x = fresh_refl x.given x.handles

at_front : (b : Bool) (x : PeerPart) (f : Key × Entry) (rest : List (Key × Entry)) → FreshParts x (front_by b x f rest).1
at_front true x f rest = fresh_refl x.given x.handles
at_front false x f rest = at_taken f.1 f.0 (record x { queue = rest })

at_front_taken : (queue : List (Key × Entry)) (x : PeerPart) → FreshParts x (front_taken x queue).1
at_front_taken [] x = fresh_refl x.given x.handles
at_front_taken (f ∷ rest) x = at_front (is_staged f) x f rest

at_recv : (x : PeerPart) → FreshParts x (received_part x)
at_recv x = parts_trans x (cleared x) (received_part x) (at_cleared x) (at_front_taken (cleared x).queue (cleared x))

-- ---- the other events

at_release : (b : Bool) (held : Option NodeRef) (x : PeerPart) → FreshParts x (given_up b held x)
at_release false held x = fresh_refl x.given x.handles
at_release true None x = fresh_refl x.given x.handles
at_release true (Some node) x = fresh_same x.given node less_held (λ g. refl) (λ g number is. lowered (nat_lt 1 g.held) g number is) x.handles
  where
    lowered : (b : Bool) (g : HandleRecord) (number : ℕ) → cond b g.number None ≡ Some number → g.number ≡ Some number
    lowered true g number is = is
    lowered false g number is = absurd (cc is)

-- the same count, and the same records
at_same : (x y : PeerPart) → y.given ≡ x.given → y.handles ≡ x.handles → FreshParts x y
at_same x y given handles = subst (λ n. Fresh x.given x.handles n y.handles) (sym given) (subst (λ hs. Fresh x.given x.handles x.given hs) (sym handles) (fresh_refl x.given x.handles))

-- what drivers do elsewhere gives no number
at_kept : (p : ℕ) (x y : PeerPart) → Keeps p x y → FreshParts x y
at_kept p x y kept = (let same = kept.given in omega (arith, same), by)
  where
    by : (h : HandleRecord) (number : ℕ) → Has y.handles h → h.number ≡ Some number → ((g : HandleRecord) × Has x.handles g × (g.node ≡ h.node) × (g.number ≡ Some number)) ⊎ IsGivenBetween x.given y.given number
    by h number there is =
        elim (kept.handles.comes h there) [
          | inl (g, was, same) ↦ inl (g, was, sym same.node, sym same.number ∙ is)
          | inr (unheld, alive) ↦ let both : Some number ≡ None = sym is ∙ unheld.number in absurd (cc both)
        ]

pub fresh_event : (o : Opening) (memory : Bool) (d : DriverPart) (doing : Doing) (action : Action) (x : PeerPart) → FreshParts x (happens o memory d doing action x).1
fresh_event o memory d doing act.Recv x = at_recv x
fresh_event o memory d doing act.Release x = at_release _ _ x
fresh_event o memory d doing act.Flush x = (omega arith, λ h number there is. absurd there)
fresh_event o memory d doing (act.Stage peer place) x = at_kept d.me x _ (keeps o memory d doing (act.Stage peer place) x refl)
fresh_event o memory d doing (act.Unstage peer place) x = at_kept d.me x _ (keeps o memory d doing (act.Unstage peer place) x refl)
fresh_event o memory d doing (act.Attach peer serial dest) x = at_kept d.me x _ (keeps o memory d doing (act.Attach peer serial dest) x refl)
fresh_event o memory d doing (act.Sync peer stamp) x = at_kept d.me x _ (keeps o memory d doing (act.Sync peer stamp) x refl)
fresh_event o memory d doing (act.Commit peer place stamp) x = at_kept d.me x _ (keeps o memory d doing (act.Commit peer place stamp) x refl)
fresh_event o memory d doing (act.CommitNotices peer stamp) x = at_kept d.me x _ (keeps o memory d doing (act.CommitNotices peer stamp) x refl)
fresh_event o memory d doing (act.DropRefs peer serial holder k clock) x = at_kept d.me x _ (keeps o memory d doing (act.DropRefs peer serial holder k clock) x refl)
fresh_event o memory d doing (act.Visit peer) x = at_kept d.me x _ (keeps o memory d doing (act.Visit peer) x refl)
fresh_event o memory d doing act.Rest x = fresh_refl x.given x.handles
fresh_event o memory d doing act.Stamp x = fresh_refl x.given x.handles
fresh_event o memory d doing act.Reap x = fresh_refl x.given x.handles
fresh_event o memory d doing act.Begin x = at_same x (happens o memory d doing act.Begin x).1 (ap (λ y. y.given) (changes o memory d doing act.Begin x)) (ap (λ y. y.handles) (changes o memory d doing act.Begin x))
fresh_event o memory d doing act.BeginDestroy x = at_same x (happens o memory d doing act.BeginDestroy x).1 (ap (λ y. y.given) (changes o memory d doing act.BeginDestroy x)) (ap (λ y. y.handles) (changes o memory d doing act.BeginDestroy x))
fresh_event o memory d doing act.StampDestroy x = at_same x (happens o memory d doing act.StampDestroy x).1 (ap (λ y. y.given) (changes o memory d doing act.StampDestroy x)) (ap (λ y. y.handles) (changes o memory d doing act.StampDestroy x))
fresh_event o memory d doing act.Local x = at_same x (happens o memory d doing act.Local x).1 (ap (λ y. y.given) (changes o memory d doing act.Local x)) (ap (λ y. y.handles) (changes o memory d doing act.Local x))

-- ---- a step

module _ {o : Opening} {s : State} {p : ℕ} {c : Option Command} {t : State} (step : Step o s p c t) where
  at_step : FreshParts step.peer step.new_peer
  at_step = subst (FreshParts step.peer) (parts step).is_peer (fresh_event o step.local.memory (going step) (going_doing step) (going_action step) step.peer)

  of_peer : (q : ℕ) (x y : PeerPart) → IsPeer s q x → IsPeer t q y → FreshParts x y
  of_peer q x y before after =
      elim (peer_cases step q y after) [
        | inl here ↦
            let was : step.peer ≡ x = same_Some step.peer x (sym step.is_peer ∙ ap (slice_get s.peers) (sym here.0) ∙ before) in
            subst (λ z. FreshParts z y) was (subst (FreshParts step.peer) (sym here.1) at_step)
        | inr other ↦ let same : x ≡ y = same_Some x y (sym before ∙ other.1) in subst (FreshParts x) same (fresh_refl x.given x.handles)
      ]

  pub given_rises : GivenRises s t
  given_rises = record {
    rises = λ q x y before after. (of_peer q x y before after).0;
    fresh = λ q number x y h before after there is. elim ((of_peer q x y before after).1 h number there is) [
      | inl (g, was, node, had) ↦ inl (record { old = g; was = was; node = node; is_number = had })
      | inr given ↦ inr given
    ];
  }
