-- Slices that aren't published, and records that nobody holds, are of queued messages.
use Rattle.std.proofs.Common.{◌≡◌, refl, ap, inl, inr, ℕ, zero, suc, ◌+◌, ◌≤◌, ◌||◌, nat_lt, Bool, true, false, cond, List, [], ◌∷◌, Option, Some, None}
use Rattle.std.specs.Prelude.{slice_get}
use native.Mathlib.Omega.{arith}
use Rattle.b1_model.specs.declared.naming.Key.{Key}
use Rattle.b1_model.specs.declared.naming.NodeRef.{NodeRef}
use Rattle.b1_model.specs.declared.naming.Opening.{Opening}
use Rattle.b1_model.specs.declared.entries.Entry.{Entry}
use Rattle.b1_model.specs.MachineParts.{PeerPart, HandleRecord, State, same_ref, carried, record_or_none, no_record}
use Rattle.b1_model.specs.MachineTables.{is_needed}
use Rattle.b1_step.specs.Rights.{Has}
use Rattle.b1_step.proofs.Orders.{one_entry, same_ref_is}
use Rattle.b1_inv.specs.Words.{IsPeer}
use Rattle.b1_inv.specs.References.{carried_times, times_in}
use Rattle.b1_inv.specs.Sound.{IsSound}
use Rattle.b1_inv_record.specs.Right.{IsRight}
use Rattle.b1_inv_refs.proofs.Arrivals.{carried_cons}
use Rattle.b1_inv_refs.proofs.GivenUp.{record_found}
use Rattle.b1_inv_refs.proofs.Views.{times_cons}
use Rattle.b1_inv_ends.specs.Refused.{QueuesNeedAll}

-- ---- a node that is carried stands in a message

place_of : (node : NodeRef) (nodes : List NodeRef) → 1 ≤ times_in node nodes → (j : ℕ) × (slice_get nodes j ≡ Some node)
place_of node [] some = absurd (omega (arith, some))
place_of node (m ∷ rest) some = by (same_ref m node) refl (let sum = times_cons node m rest in omega (arith, some, sum)) (place_of node rest)
  where
    by : (b : Bool) → same_ref m node ≡ b → 1 ≤ cond (same_ref m node) 1 0 + times_in node rest → (1 ≤ times_in node rest → (j : ℕ) × (slice_get rest j ≡ Some node)) → (j : ℕ) × (slice_get (m ∷ rest) j ≡ Some node)
    by true same more further = (0, ap Some (same_ref_is m node same))
    by false other more further =
        let none : cond (same_ref m node) 1 0 ≡ cond {A = ℕ} false 1 0 = ap (λ b. cond b 1 0) other in
        let k = further (omega (arith, more, none)) in
        (suc k.0, k.1)

entry_of : (node : NodeRef) (queue : List (Key × Entry)) → 1 ≤ carried_times node queue → (f : Key × Entry) × (j : ℕ) × Has queue f × (slice_get (carried f.1) j ≡ Some node)
entry_of node [] some = absurd (omega (arith, some))
entry_of node (f ∷ rest) some = by (times_in node (carried f.1)) refl (let sum = carried_cons node f rest in omega (arith, some, sum)) (entry_of node rest)
  where
    by : (n : ℕ) → times_in node (carried f.1) ≡ n → 1 ≤ n + carried_times node rest → (1 ≤ carried_times node rest → (g : Key × Entry) × (j : ℕ) × Has rest g × (slice_get (carried g.1) j ≡ Some node))
        → (g : Key × Entry) × (j : ℕ) × Has (f ∷ rest) g × (slice_get (carried g.1) j ≡ Some node)
    by zero none more further = let k = further (omega (arith, more)) in (k.0, k.1, inr k.2, k.3)
    by (suc n) are more further = let k = place_of node (carried f.1) (omega (arith, are)) in (f, k.0, inl refl, k.1)

-- ---- records

abbrev found_or : NodeRef → Option HandleRecord → HandleRecord
found_or node found = elim found [ None ↦ no_record node | Some h ↦ h ]

-- a record that is needed, but not held and not marked, is in flight
needed_flight : (h : HandleRecord) → is_needed h ≡ true → h.held ≡ 0 → h.notice ≡ false → 1 ≤ h.flight
needed_flight h is held notice = by h.held h.flight h.notice is held notice
  where
    by : (held flight : ℕ) (notice : Bool) → (nat_lt 0 held || nat_lt 0 flight || notice) ≡ true → held ≡ 0 → notice ≡ false → 1 ≤ flight
    by zero zero true is none unmarked = absurd (cc unmarked)
    by zero zero false is none unmarked = absurd (cc is)
    by zero (suc flight) notice is none unmarked = omega arith
    by (suc held) flight notice is none unmarked = absurd (omega (arith, none))

module _ {o : Opening} {s : State} (sound : IsSound o s) (right : IsRight o s) where
  records : (q : ℕ) (x : PeerPart) (h : HandleRecord) → IsPeer s q x → Has x.handles h → h.held ≡ 0 → h.notice ≡ false → (f : Key × Entry) × (j : ℕ) × Has x.queue f × (slice_get (carried f.1) j ≡ Some h.node)
  records q x h is has held notice =
      let flies = needed_flight h (right.parts.records.needed q x h is has) held notice in
      let same : (record_or_none h.node x.handles).flight ≡ h.flight =
      ap (λ z. (found_or h.node z).flight) (record_found x.handles h (sound.rising q x is) has) in
      let counted = sound.flights.counted q x h.node is (sound.flights.foreign q x h is has) in
      entry_of h.node x.queue (omega (arith, flies, same, counted))

  pub queues_need_all : QueuesNeedAll s
  queues_need_all = record {
    sliced = right.parts.pool.sliced;
    apart = λ q x f g is one two first second same. one_entry x.queue f g (right.parts.keys.ascending q x is) one two (right.parts.pool.apart q x f g is one two first second same);
    needed = right.parts.pool.needed;
    records = records;
  }
