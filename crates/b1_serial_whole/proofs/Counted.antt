-- In a quiet state the owners' counts are what the lines and the boxed slots have.
use Rattle.std.proofs.Common.{◌≡◌, refl, sym, ap, ◌∙◌, inl, inr, ℕ, ◌+◌, false, cond, List, [], ◌∷◌, map, sum_by, filter_map, zip, Option, Some, None, arith}
use Rattle.std.specs.Prelude.{slice_get}
use Rattle.std.proofs.lemmas.List.Sums.{sum_by-cons}
use Rattle.b1_model.specs.declared.naming.Key.{Key}
use Rattle.b1_model.specs.declared.naming.NodeRef.{NodeRef}
use Rattle.b1_model.specs.declared.naming.Opening.{Opening}
use Rattle.b1_model.specs.declared.parts.Slot.{Slot}
use Rattle.b1_model.specs.declared.parts.Slot.TheVariants as slot
use Rattle.b1_model.specs.declared.entries.Entry.{Entry}
use Rattle.b1_model.specs.declared.events.Doing.{Doing}
use Rattle.b1_model.specs.MachineParts.{PeerPart, DriverPart, State, same_ref, is_staged, carried, slots_of}
use Rattle.b1_model.specs.MachineReceive.{references, reference_of}
use Rattle.b1_model.specs.MachineCounts.{amount_in, queue_amount, dead_amount, peer_amount, owed_amount, kept_amount, driver_amount}
use Rattle.b1_step.specs.Rights.{Has}
use Rattle.b1_inv.specs.Words.{IsPeer}
use Rattle.b1_inv.specs.References.{count_in, times_in}
use Rattle.b1_inv.specs.Sound.{IsSound}
use Rattle.b1_inv_refs.proofs.Amounts.{refs_cons, queue_cons}
use Rattle.b1_serial_bus.specs.Parts.{Part}
use Rattle.b1_serial_bus.specs.References.{boxed_references}
use Rattle.b1_serial_rest.specs.Standing.{part_of, bus_of}
use Rattle.b1_serial_rest.specs.Rest.{held_times, boxed_times, IsQuiet}
use Rattle.b1_serial_rest.proofs.Records.{lines_held}
use Rattle.b1_serial_rest.proofs.Own.{parts_at}
use Rattle.b1_serial_whole.proofs.Quiet.{index_of}

module _ (node : NodeRef) where
  -- one node more
  times_cons : (n : NodeRef) (nodes : List NodeRef) → times_in node (n ∷ nodes) ≡ cond (same_ref n node) 1 0 + times_in node nodes
  times_cons n nodes = sum_by-cons (λ m. cond (same_ref m node) 1 0) n nodes

  -- each reference of an entry counts one
  slots_times : (pairs : List (NodeRef × Slot)) → amount_in node (filter_map reference_of pairs) ≡ times_in node (map (λ r. r.0) (filter_map reference_of pairs))
  slots_times [] = refl
  slots_times ((n, slot.Unattached) ∷ rest) = slots_times rest
  slots_times ((n, slot.Own) ∷ rest) = slots_times rest
  slots_times ((n, slot.Void) ∷ rest) = slots_times rest
  slots_times ((n, slot.Attached) ∷ rest) =
      refs_cons node (n, 1) (filter_map reference_of rest)
      ∙ ap (λ k. cond (same_ref n node) 1 0 + k) (slots_times rest)
      ∙ sym (times_cons n (map (λ r. r.0) (filter_map reference_of rest)))

  pub entry_times : (f : Key × Entry) → amount_in node (references f.1) ≡ times_in node (boxed_references f)
  entry_times f = slots_times (zip (carried f.1) (slots_of f.1))

  -- a queue without staged entries
  pub queue_times : (queue : List (Key × Entry)) → ((f : Key × Entry) → Has queue f → is_staged f ≡ false) → queue_amount node queue ≡ boxed_times node queue
  queue_times [] even = refl
  queue_times (f ∷ rest) even =
      queue_cons node f rest
      ∙ ap (λ b. cond b 0 (amount_in node (references f.1)) + queue_amount node rest) (even f (inl refl))
      ∙ ap (λ k. k + queue_amount node rest) (entry_times f)
      ∙ ap (λ k. times_in node (boxed_references f) + k) (queue_times rest (λ g there. even g (inr there)))
      ∙ sym (sum_by-cons (λ g. times_in node (boxed_references g)) f rest)

  -- what an open command keeps
  abbrev open_amount : ℕ → Option Doing → ℕ
  open_amount q r = elim r [ None ↦ 0 | Some doing ↦ kept_amount node q doing.phase ]

  -- drivers that have nothing open and owe nothing
  drivers_none : (q : ℕ) (ds : List DriverPart) → ((d : DriverPart) → Has ds d → (d.doing ≡ None) × (d.owed ≡ [])) → sum_by (driver_amount node q) ds ≡ 0
  drivers_none q [] quiet = refl
  drivers_none q (d ∷ rest) quiet =
      let one = sum_by-cons (driver_amount node q) d rest in
      let owes : driver_amount node q d ≡ owed_amount node q [] + open_amount q d.doing = ap (λ owed. owed_amount node q owed + open_amount q d.doing) (quiet d (inl refl)).1 in
      let keeps : open_amount q d.doing ≡ 0 = ap (open_amount q) (quiet d (inl refl)).0 in
      let later = drivers_none q rest (λ e there. quiet e (inr there)) in
      omega (arith, one, owes, keeps, later)

module _ {o : Opening} {s : State} (sound : IsSound o s) (quiet : IsQuiet s) where
  drivers_quiet : (d : DriverPart) → Has s.drivers d → (d.doing ≡ None) × (d.owed ≡ [])
  drivers_quiet d there = let i = index_of s.drivers d there in (quiet.idle i.0 d i.1, quiet.paid i.0 d i.1)

  peer_times : (x : NodeRef) (q : ℕ) (v : PeerPart) (d : DriverPart) → IsPeer s q v → peer_amount x v ≡ held_times x (part_of v d).lines + boxed_times x (part_of v d).box
  peer_times x q v d is =
      let held = lines_held x v.handles (sound.rising q v is) (sound.numbers.numbered q v is).unheld in
      let boxed = queue_times x v.queue (λ f there. quiet.committed q v f is there) in
      let dead : dead_amount x v.dead ≡ 0 = ap (dead_amount x) (quiet.given_up q v is) in
      omega (arith, held, boxed, dead)

  -- what a peer has, if it is there
  abbrev own_amount : NodeRef → Option PeerPart → ℕ
  own_amount x r = elim r [ None ↦ 0 | Some v ↦ peer_amount x v ]

  pub is_counted : (x : NodeRef) (q : ℕ) (y : Part) → slice_get (bus_of s) q ≡ Some y → count_in s x q ≡ held_times x y.lines + boxed_times x y.box
  is_counted x q y is =
      let here = parts_at s.peers s.drivers q y is in
      let peers : own_amount x (slice_get s.peers q) ≡ peer_amount x here.0 = ap (own_amount x) here.2 in
      let drivers = drivers_none x q s.drivers drivers_quiet in
      let own = peer_times x q here.0 here.1 here.2 in
      sound.references.counts x q
      ∙ omega (arith, peers, drivers, own)
      ∙ ap (λ z. held_times x z.lines + boxed_times x z.box) (sym here.4)
