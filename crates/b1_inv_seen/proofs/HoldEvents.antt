-- A node that a part holds, over an event: it still holds it, or is to give references up, or releases it; and likewise for what is to be given up.
use Rattle.std.proofs.Common.{◌≡◌, ◌⊎◌, refl, ap, subst, ◌∙◌, inl, inr, ℕ, zero, suc, ◌+◌, ◌≤◌, Bool, true, false, List, [], ◌∷◌, drop, Option, Some, None, Ok}
use native.Mathlib.Omega.{arith}
use Rattle.b1_model.specs.declared.naming.NodeRef.{NodeRef}
use Rattle.b1_model.specs.declared.naming.Opening.{Opening}
use Rattle.b1_model.specs.declared.events.Action.{Action}
use Rattle.b1_model.specs.declared.events.Action.TheVariants as act
use Rattle.b1_model.specs.declared.events.Doing.{Doing}
use Rattle.b1_model.specs.Names.{is_given}
use Rattle.b1_model.specs.MachineParts.{PeerPart, DriverPart, HandleRecord, same_ref, record_of}
use Rattle.b1_model.specs.MachineTables.{changed, less_held, held_node}
use Rattle.b1_model.specs.MachineReceive.{released, released_by, given_up}
use Rattle.b1_model.specs.MachineDestroy.{queued_items, held_items}
use Rattle.b1_model.specs.MachineCounts.{amount_in, dead_amount}
use Rattle.b1_model.specs.MachineEvents.{happens, number_of}
use Rattle.b1_step.specs.Rights.{Has}
use Rattle.b1_step.specs.Ordered.{Rising}
use Rattle.b1_step.proofs.Changed.{changes}
use Rattle.b1_step.proofs.Orders.{same_ref_is}
use Rattle.b1_step.proofs.Rises.{rises}
use Rattle.b1_inv.specs.Numbers.{AreNumbered}
use Rattle.b1_inv_refs.proofs.Amounts.{Refs, dead_append, dead_cons}
use Rattle.b1_inv_refs.proofs.Views.{Handles, or_none, view_other}
use Rattle.b1_inv_refs.proofs.Arrivals.{held_in}
use Rattle.b1_inv_refs.proofs.GivenUp.{found_has, held_of, queued_amount, held_items_amount}
use Rattle.b1_inv_tables.proofs.Agrees.{LinesKept}
use Rattle.b1_inv_tables.proofs.Deeds.{is_plain}
use Rattle.b1_inv_tables.proofs.Plain.{plain_event}
use Rattle.b1_inv_seen.proofs.Holds.{recv_holds, recv_dead}

-- the record of a node that is held
pub held_record : (node : NodeRef) (hs : Handles) → 1 ≤ held_in node hs → (h : HandleRecord) × Has hs h × (h.node ≡ node) × (h.held ≡ held_in node hs)
held_record node hs some = by (record_of node hs) refl some
  where
    by : (z : Option HandleRecord) → record_of node hs ≡ z → 1 ≤ (or_none node z).held → (h : HandleRecord) × Has hs h × (h.node ≡ node) × (h.held ≡ (or_none node z).held)
    by None at none = absurd (omega (arith, none))
    by (Some h) at is = let k = found_has (λ g. same_ref g.node node) hs h at in (h, k.0, same_ref_is h.node node k.1, refl)

module _ (node : NodeRef) where
  -- records that a table sees alike hold it as often
  kept_holds : (old new : Handles) → Rising new → LinesKept old new → 1 ≤ held_in node old → 1 ≤ held_in node new
  kept_holds old new up kept some =
      let h = held_record node old some in
      elim (kept.stays h.0 h.1) [
        | inl (g, there, same) ↦
            let held : held_in g.node new ≡ g.held = held_of new g up there in
            let at : held_in node new ≡ g.held = subst (λ n. held_in n new ≡ g.held) (same.node ∙ h.2) held in
            let as_often = same.held in let was = h.3 in omega (arith, at, as_often, was, some)
        | inr gone ↦ let was = h.3 in absurd (omega (arith, gone, was, some))
      ]

  module _ (o : Opening) (memory : Bool) (d : DriverPart) (doing : Doing) (x : PeerPart) (up : Rising x.handles) (all : AreNumbered x.given x.handles) where
    -- the part after an event
    abbrev behind : Action → PeerPart
    behind action = (happens o memory d doing action x).1

    -- it is released
    abbrev pub IsReleased : Action → Type 0
    IsReleased action = (action ≡ act.Release) × (released x (number_of doing.command) ≡ Ok (record { node = node; clock = x.clock }))

    -- it is held, or to be given up, or released
    abbrev pub HeldThen : Action → Type 0
    HeldThen action = ((1 ≤ held_in node (behind action).handles) ⊎ (1 ≤ dead_amount node (behind action).dead)) ⊎ IsReleased action

    -- an event that leaves what a table sees
    plain_holds : (action : Action) → is_plain action ≡ true → 1 ≤ held_in node x.handles → HeldThen action
    plain_holds action plain some = inl (inl (kept_holds x.handles (behind action).handles (rises o memory d doing action x up) (plain_event o memory d doing x action plain).1 some))

    -- a release
    release_holds : (number : ℕ) → (b : Bool) (held : Option NodeRef) → is_given number ≡ b → held_node number x.handles ≡ held → 1 ≤ held_in node x.handles
        → (1 ≤ held_in node (given_up b held x).handles) ⊎ (released_by b held x number ≡ Ok (record { node = node; clock = x.clock }))
    release_holds number false held is at some = inl some
    release_holds number true None is at some = inl some
    release_holds number true (Some other) is at some = by (same_ref other node) refl
      where
        by : (b : Bool) → same_ref other node ≡ b → (1 ≤ held_in node (changed other less_held x.handles)) ⊎ (released_by true (Some other) x number ≡ Ok (record { node = node; clock = x.clock }))
        by true same = inr (ap (λ n. Ok (record { node = n; clock = x.clock })) (same_ref_is other node same))
        by false apart = inl (let same = view_other (λ h. h.held) less_held (λ h. refl) other node x.handles apart in omega (arith, same, some))

    -- a flush gives up what was held
    flush_dead : dead_amount node (behind act.Flush).dead ≡ dead_amount node (queued_items x.queue x.dead) + held_in node x.handles
    flush_dead = dead_append node (queued_items x.queue x.dead) (held_items x.given x.handles) ∙ ap (λ n. dead_amount node (queued_items x.queue x.dead) + n) (held_items_amount node x.given x.handles all up)

    -- a node that was held
    pub held_then : (action : Action) → 1 ≤ held_in node x.handles → HeldThen action
    held_then act.Recv some = inl (inl (let more = recv_holds node x up in omega (arith, more, some)))
    held_then act.Release some = elim (release_holds (number_of doing.command) (is_given (number_of doing.command)) (held_node (number_of doing.command) x.handles) refl refl some) [ inl still ↦ inl (inl still) | inr gone ↦ inr (refl, gone) ]
    held_then act.Flush some = inl (inr (let dead = flush_dead in omega (arith, dead, some)))
    held_then act.Rest some = plain_holds act.Rest refl some
    held_then act.Begin some = plain_holds act.Begin refl some
    held_then (act.Stage peer place) some = plain_holds (act.Stage peer place) refl some
    held_then (act.Unstage peer place) some = plain_holds (act.Unstage peer place) refl some
    held_then (act.Attach peer serial dest) some = plain_holds (act.Attach peer serial dest) refl some
    held_then act.Stamp some = plain_holds act.Stamp refl some
    held_then (act.Sync peer stamp) some = plain_holds (act.Sync peer stamp) refl some
    held_then (act.Commit peer place stamp) some = plain_holds (act.Commit peer place stamp) refl some
    held_then (act.CommitNotices peer stamp) some = plain_holds (act.CommitNotices peer stamp) refl some
    held_then act.Reap some = plain_holds act.Reap refl some
    held_then (act.DropRefs peer serial holder k clock) some = plain_holds (act.DropRefs peer serial holder k clock) refl some
    held_then act.BeginDestroy some = plain_holds act.BeginDestroy refl some
    held_then (act.Visit peer) some = plain_holds (act.Visit peer) refl some
    held_then act.StampDestroy some = plain_holds act.StampDestroy refl some
    held_then act.Local some = plain_holds act.Local refl some

    -- ---- what is to be given up

    -- the item that is reaped has it
    abbrev pub IsReaped : Action → Type 0
    IsReaped action = (action ≡ act.Reap) × ((item : Refs) × (rest : List Refs) × (x.dead ≡ item ∷ rest) × (1 ≤ amount_in node item))

    -- it is still to be given up, or reaped
    abbrev pub DeadThen : Action → Type 0
    DeadThen action = (1 ≤ dead_amount node (behind action).dead) ⊎ IsReaped action

    -- a reap takes one item
    reap_dead : (dead : List Refs) → x.dead ≡ dead → 1 ≤ dead_amount node dead → (1 ≤ dead_amount node (drop 1 dead)) ⊎ ((item : Refs) × (rest : List Refs) × (x.dead ≡ item ∷ rest) × (1 ≤ amount_in node item))
    reap_dead [] is none = absurd (omega (arith, none))
    reap_dead (item ∷ rest) is some = by (amount_in node item) refl
      where
        by : (n : ℕ) → amount_in node item ≡ n → (1 ≤ dead_amount node rest) ⊎ ((one : Refs) × (left : List Refs) × (x.dead ≡ one ∷ left) × (1 ≤ amount_in node one))
        by zero none = inl (let all_of = dead_cons node item rest in omega (arith, all_of, none, some))
        by (suc n) more = inr (item, rest, is, omega (arith, more))

    -- an event that leaves the dead list
    same_dead : (action : Action) → (behind action).dead ≡ x.dead → 1 ≤ dead_amount node x.dead → DeadThen action
    same_dead action same some = inl (let amount = ap (dead_amount node) same in omega (arith, amount, some))

    -- a node to which references were to be given up
    pub dead_then : (action : Action) → 1 ≤ dead_amount node x.dead → DeadThen action
    dead_then act.Recv some = inl (let more = recv_dead node x in omega (arith, more, some))
    dead_then act.Reap some = elim (reap_dead x.dead refl some) [ inl left ↦ inl left | inr item ↦ inr (refl, item) ]
    dead_then act.Flush some = inl (let dead = flush_dead in let queued = queued_amount node x.queue x.dead in omega (arith, dead, queued, some))
    dead_then act.Release some = same_dead act.Release (ap (λ y. y.dead) (changes o memory d doing act.Release x)) some
    dead_then act.Rest some = inl some
    dead_then act.Begin some = same_dead act.Begin (ap (λ y. y.dead) (changes o memory d doing act.Begin x)) some
    dead_then (act.Stage peer place) some = same_dead (act.Stage peer place) (ap (λ y. y.dead) (changes o memory d doing (act.Stage peer place) x)) some
    dead_then (act.Unstage peer place) some = same_dead (act.Unstage peer place) (ap (λ y. y.dead) (changes o memory d doing (act.Unstage peer place) x)) some
    dead_then (act.Attach peer serial dest) some = same_dead (act.Attach peer serial dest) (ap (λ y. y.dead) (changes o memory d doing (act.Attach peer serial dest) x)) some
    dead_then act.Stamp some = inl some
    dead_then (act.Sync peer stamp) some = inl some
    dead_then (act.Commit peer place stamp) some = same_dead (act.Commit peer place stamp) (ap (λ y. y.dead) (changes o memory d doing (act.Commit peer place stamp) x)) some
    dead_then (act.CommitNotices peer stamp) some = inl some
    dead_then (act.DropRefs peer serial holder k clock) some = same_dead (act.DropRefs peer serial holder k clock) (ap (λ y. y.dead) (changes o memory d doing (act.DropRefs peer serial holder k clock) x)) some
    dead_then act.BeginDestroy some = same_dead act.BeginDestroy (ap (λ y. y.dead) (changes o memory d doing act.BeginDestroy x)) some
    dead_then (act.Visit peer) some = same_dead (act.Visit peer) (ap (λ y. y.dead) (changes o memory d doing (act.Visit peer) x)) some
    dead_then act.StampDestroy some = same_dead act.StampDestroy (ap (λ y. y.dead) (changes o memory d doing act.StampDestroy x)) some
    dead_then act.Local some = same_dead act.Local (ap (λ y. y.dead) (changes o memory d doing act.Local x)) some
