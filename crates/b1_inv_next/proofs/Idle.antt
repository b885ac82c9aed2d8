-- A peer whose driver has no command open: the epoch of its part is that of its calls, and what it received is behind its last key.
use Rattle.std.proofs.Common.{◌≡◌, sym, ap, ◌∙◌, inl, inr, ℕ, suc, ◌≤◌, ◌==◌, true, false, cond, length, Some, None}
use Rattle.std.specs.Prelude.{slice_get}
use Rattle.std.proofs.lemmas.Bool.{eq-eqb, eqb-true}
use Rattle.std.proofs.lemmas.List.{length-map}
use Rattle.std.proofs.lemmas.Option.{slice_get_within}
use native.Mathlib.Omega.{arith}
use Rattle.b1_model.specs.declared.naming.Key.{Key}
use Rattle.b1_model.specs.declared.naming.Opening.{Opening}
use Rattle.b1_model.specs.declared.records.Record.{Record}
use Rattle.b1_model.specs.Names.{Node, calls_of, epoch_in, epoch_at, add_new}
use Rattle.b1_model.specs.Ledger.{is_below}
use Rattle.b1_model.specs.Legal.{last_key, is_above}
use Rattle.b1_model.specs.MachineParts.{PeerPart, NodePart, DriverPart, State}
use Rattle.b1_model.specs.MachineTook.{driver_calls}
use Rattle.b1_model.specs.MachineStep.{record_of_state}
use Rattle.b1_inv.specs.Words.{IsPeer, IsDriver}
use Rattle.b1_inv.specs.Sound.{IsSound}
use Rattle.b1_ledger.specs.Growth.{calls_len, all_names, WasMade}
use Rattle.b1_ledger.proofs.Ascends.{at_most_last, reaches_above}
use Rattle.b1_ledger.proofs.KeyOrder.{below_is, Below}
use Rattle.b1_ledger.proofs.Sequences.{take-end}
use Rattle.b1_inv_record.specs.Epochs.{in_gap, first_now, first_done, made_before, flushed_calls, WasReceivedIn}
use Rattle.b1_inv_record.specs.Names.{open_numbers}
use Rattle.b1_inv_record.specs.Right.{IsRight}
use Rattle.b1_inv_notices.proofs.Turns.{get_there}
use Rattle.b1_inv_destroys.proofs.Recorded.{recorded, calls_by}
use Rattle.b1_inv_taken.proofs.Old.{names_grow}
use Rattle.b1_inv_next.proofs.Epochs.{present_epoch, epoch_present}

-- no key is below itself
pub not_itself : (key : Key) → is_below key key ≡ true → ⊥
not_itself key is = by (below_is key key is)
  where
    by : Below key key → ⊥
    by (inl (inl low)) = absurd (omega (arith, low))
    by (inl (inr (same, low))) = absurd (omega (arith, low))
    by (inr (same, also, low)) = absurd (omega (arith, low))

module _ {o : Opening} {s : State} (sound : IsSound o s) (right : IsRight o s) where
  abbrev pub r : Record
  r = record_of_state s

  pub as_many : length s.peers ≡ length s.drivers
  as_many = sound.numbered.as_many_peers ∙ sym sound.numbered.as_many_drivers

  -- every node of the record stands in its owner's part
  pub node_there : (y : Node) → WasMade o.wires r y → (q : ℕ) (d : DriverPart) (x : PeerPart) → IsDriver s q d → IsPeer s q x → y.owner ≡ q → (n : NodePart) × (slice_get x.nodes y.serial ≡ Some n)
  node_there y made q d x is_driver is_peer here =
      let names = all_names o.wires r q in
      let at : slice_get names y.serial ≡ Some made.0 = ap (λ z. slice_get (all_names o.wires r z) y.serial) (sym here) ∙ made.1 in
      let low = slice_get_within names y.serial made.0 at in
      let more = names_grow x.epoch names (open_numbers d) in
      let same = sym (length-map x.nodes (λ n. n.number)) ∙ ap length (right.names.made.made q d x is_driver is_peer) ∙ length-map (add_new x.epoch names (open_numbers d)) (λ m. m.number) in
      get_there x.nodes y.serial (omega (arith, low, more, same))

  module _ (p : ℕ) (d : DriverPart) (x : PeerPart) (is_driver : IsDriver s p d) (is_peer : IsPeer s p x) (idle : d.doing ≡ None) where
    pub no_gap : in_gap d ≡ false
    no_gap = ap (λ z. in_gap (record d { doing = z })) idle

    pub epoch_is : epoch_in 0 (calls_of r p) ≡ x.epoch
    epoch_is = right.names.epochs.epoch p d x is_driver is_peer ∙ ap (λ b. cond b (suc x.epoch) x.epoch) no_gap

    pub epoch_end : epoch_at r p (calls_len r p) ≡ epoch_in 0 (calls_of r p)
    epoch_end = ap (epoch_in 0) (take-end (calls_of r p))

    pub first_same : first_done o s p ≡ first_now o s p
    first_same =
        ap (λ z. elim z [ None ↦ 0 | Some e ↦ made_before o.wires p (flushed_calls e) ]) is_driver
        ∙ ap (λ b. made_before o.wires p (cond b d.calls (driver_calls d))) no_gap
        ∙ ap (λ z. made_before o.wires p (calls_by z)) (sym is_driver)
        ∙ ap (made_before o.wires p) (sym (recorded s p as_many))

    -- a node of the present epoch, by its serial and by its epoch
    pub is_present : (y : Node) → WasMade o.wires r y → y.owner ≡ p → first_done o s p ≤ y.serial → (y.epoch == epoch_at r p (calls_len r p)) ≡ true
    is_present y made here low =
        let at : slice_get (all_names o.wires r p) y.serial ≡ Some made.0 = ap (λ z. slice_get (all_names o.wires r z) y.serial) (sym here) ∙ made.1 in
        let same = first_same in
        eq-eqb y.epoch (epoch_at r p (calls_len r p)) (made.2 ∙ present_epoch o.wires p (calls_of r p) y.serial made.0 at (omega (arith, low, same)) ∙ sym epoch_end)

    pub present_is : (y : Node) → WasMade o.wires r y → y.owner ≡ p → (y.epoch == epoch_at r p (calls_len r p)) ≡ true → first_now o s p ≤ y.serial
    present_is y made here is =
        let at : slice_get (all_names o.wires r p) y.serial ≡ Some made.0 = ap (λ z. slice_get (all_names o.wires r z) y.serial) (sym here) ∙ made.1 in
        epoch_present o.wires p (calls_of r p) y.serial made.0 at (sym made.2 ∙ eqb-true y.epoch (epoch_at r p (calls_len r p)) is ∙ epoch_end)

    -- what was received in the present epoch is not above the last key
    pub received_behind : (key : Key) → WasReceivedIn s p x.epoch key → is_above key (last_key r p (calls_len r p)) ≡ true → ⊥
    received_behind key (k, c, at, got, epoch) above =
        not_itself key (reaches_above (last_key r p (calls_len r p)) key key (at_most_last o r right.legal p k c key at got (epoch_end ∙ epoch_is ∙ sym epoch)) above)
