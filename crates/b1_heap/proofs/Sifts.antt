-- One step of a key up or down a heap, and its end.
use Rattle.std.proofs.Common.{◌≡◌, ◌≢◌, ℕ, ◌+◌, ◌*◌, ◌<◌, ◌≤◌, refl, sym, ◌∙◌, arith, inl, inr, ap}
use Rattle.std.specs.declared.cmp.Ordering.TheVariants.{Less}
use Rattle.std.proofs.lemmas.Bool.{cases_eq}
use Rattle.std.proofs.lemmas.List.Edits.{Swapped}
use Rattle.b1_model.specs.Keys.{compare_keys}
use Rattle.b1_model.specs.declared.naming.Key.{Key}
use Rattle.b1_queue.proofs.Order.{keys_total}
use Rattle.b1_heap.specs.Heap.{parent}
use Rattle.b1_heap.specs.Sift.{InHeap, Rises, Sinks, Moves}

-- keys that are these two
less_as : (a b c d : Key) → a ≡ c → b ≡ d → compare_keys c d ≡ Less → compare_keys a b ≡ Less
less_as a b c d p q h = rw (p, q) h

module _ (f g : ℕ → Key) (n : ℕ) where
  pub rises_more : (at : ℕ) → Swapped f g (parent at) at → 0 < at → at < n → compare_keys (f at) (f (parent at)) ≡ Less → Rises f n at → Rises g n (parent at)
  rises_more at s positive within less r = record {
    others = λ place pos lt ne.
        elim (cases_eq place at) [
          | inl same ↦
              less_as (g (parent place)) (g place) (f at) (f (parent at))
              (ap (λ (k : ℕ). g (parent k)) same ∙ s.0) (ap g same ∙ s.1) less
          | inr other ↦
              elim (cases_eq (parent place) (parent at)) [
                | inl sibling ↦
                    less_as (g (parent place)) (g place) (f at) (f place) (ap g sibling ∙ s.0) (s.2 place ne other)
                    (keys_total.trans (f at) (f (parent at)) (f place) less
                    (less_as (f (parent at)) (f place) (f (parent place)) (f place) (ap f (sym sibling)) refl (r.others place pos lt other)))
                | inr apart ↦
                    elim (cases_eq (parent place) at) [
                      | inl child ↦
                          less_as (g (parent place)) (g place) (f (parent at)) (f place) (ap g child ∙ s.1) (s.2 place ne other)
                          (r.over place positive pos lt child)
                      | inr far ↦
                          less_as (g (parent place)) (g place) (f (parent place)) (f place) (s.2 (parent place) apart far) (s.2 place ne other)
                          (r.others place pos lt other)
                    ]
              ]
        ];
    over = λ child above pos lt is.
        let up : compare_keys (f (parent (parent at))) (f (parent at)) ≡ Less = r.others (parent at) above (omega arith) (omega arith) in
        let top : g (parent (parent at)) ≡ f (parent (parent at)) = s.2 (parent (parent at)) (omega arith) (omega arith) in
        elim (cases_eq child at) [
          | inl same ↦ less_as (g (parent (parent at))) (g child) (f (parent (parent at))) (f (parent at)) top (ap g same ∙ s.1) up
          | inr other ↦
              less_as (g (parent (parent at))) (g child) (f (parent (parent at))) (f child) top (s.2 child (omega arith) other)
              (keys_total.trans (f (parent (parent at))) (f (parent at)) (f child) up
              (less_as (f (parent at)) (f child) (f (parent child)) (f child) (ap f (sym is)) refl (r.others child pos lt other)))
        ];
  }

  pub sinks_more : (at child : ℕ) → Swapped f g at child → 0 < child → child < n → parent child ≡ at → ((other : ℕ) → 0 < other → other < n → parent other ≡ at → other ≢ child → compare_keys (f child) (f other) ≡ Less) → compare_keys (f child) (f at) ≡ Less → Sinks f n at → Sinks g n child
  sinks_more at child s positive within below least less r = record {
    others = λ place pos lt ne.
        elim (cases_eq place child) [
          | inl same ↦
              less_as (g (parent place)) (g place) (f child) (f at)
              (ap (λ (k : ℕ). g (parent k)) same ∙ ap g below ∙ s.0) (ap g same ∙ s.1) less
          | inr other ↦
              elim (cases_eq (parent place) at) [
                | inl sibling ↦
                    less_as (g (parent place)) (g place) (f child) (f place) (ap g sibling ∙ s.0) (s.2 place (omega arith) other)
                    (least place pos lt sibling other)
                | inr apart ↦
                    elim (cases_eq place at) [
                      | inl here ↦
                          let high : 0 < at = omega arith in
                          less_as (g (parent place)) (g place) (f (parent at)) (f child)
                          (ap (λ (k : ℕ). g (parent k)) here ∙ s.2 (parent at) (omega arith) (omega arith)) (ap g here ∙ s.0)
                          (r.over child high positive within below)
                      | inr far ↦
                          less_as (g (parent place)) (g place) (f (parent place)) (f place) (s.2 (parent place) apart ne) (s.2 place far other)
                          (r.others place pos lt apart)
                    ]
              ]
        ];
    over = λ place _ pos lt is.
        less_as (g (parent child)) (g place) (f child) (f place) (ap g below ∙ s.0) (s.2 place (omega arith) (omega arith))
        (less_as (f child) (f place) (f (parent place)) (f place) (ap f (sym is)) refl (r.others place pos lt (omega arith)));
  }

module _ (f : ℕ → Key) (n : ℕ) where
  pub rises_root : (at : ℕ) → at ≤ 0 → Rises f n at → InHeap f n
  rises_root at root r place pos lt = r.others place pos lt (omega arith)

  pub rises_done : (at : ℕ) → compare_keys (f (parent at)) (f at) ≡ Less → Rises f n at → InHeap f n
  rises_done at less r place pos lt =
      elim (cases_eq place at) [
        | inl same ↦ less_as (f (parent place)) (f place) (f (parent at)) (f at) (ap (λ (k : ℕ). f (parent k)) same) (ap f same) less
        | inr other ↦ r.others place pos lt other
      ]

  pub sinks_leaf : (at : ℕ) → n ≤ 2 * at + 1 → Sinks f n at → InHeap f n
  sinks_leaf at leaf r place pos lt = r.others place pos lt (omega arith)

  pub sinks_done : (at child : ℕ) → ((other : ℕ) → 0 < other → other < n → parent other ≡ at → other ≢ child → compare_keys (f child) (f other) ≡ Less) → compare_keys (f at) (f child) ≡ Less → Sinks f n at → InHeap f n
  sinks_done at child least less r place pos lt =
      elim (cases_eq (parent place) at) [
        | inl below ↦
            less_as (f (parent place)) (f place) (f at) (f place) (ap f below) refl
            (elim (cases_eq place child) [
              | inl same ↦ less_as (f at) (f place) (f at) (f child) refl (ap f same) less
              | inr other ↦ keys_total.trans (f at) (f child) (f place) less (least place pos lt below other)
            ])
        | inr apart ↦ r.others place pos lt apart
      ]

  pub rises_from_moves : (at : ℕ) → 0 < at → compare_keys (f at) (f (parent at)) ≡ Less → Moves f n at → Rises f n at
  rises_from_moves at positive less m = record {
    others = λ place pos lt ne.
        elim (cases_eq (parent place) at) [
          | inl child ↦
              less_as (f (parent place)) (f place) (f at) (f place) (ap f child) refl
              (keys_total.trans (f at) (f (parent at)) (f place) less (m.over place positive pos lt child))
          | inr apart ↦ m.others place pos lt ne apart
        ];
    over = m.over;
  }

  pub sinks_from_moves : (at : ℕ) → (0 < at → compare_keys (f (parent at)) (f at) ≡ Less) → Moves f n at → Sinks f n at
  sinks_from_moves at less m = record {
    others = λ place pos lt ne.
        elim (cases_eq place at) [
          | inl same ↦
              less_as (f (parent place)) (f place) (f (parent at)) (f at) (ap (λ (k : ℕ). f (parent k)) same) (ap f same)
              (less (omega arith))
          | inr other ↦ m.others place pos lt other ne
        ];
    over = m.over;
  }

  -- another key at one place of a heap
  pub moves_from_heap : (g : ℕ → Key) (m at : ℕ) → m ≤ n → InHeap f n → ((place : ℕ) → place < m → place ≢ at → g place ≡ f place) → Moves g m at
  moves_from_heap g m at few heap same = record {
    others = λ place pos lt ne apart.
        less_as (g (parent place)) (g place) (f (parent place)) (f place) (same (parent place) (omega arith) apart) (same place lt ne)
        (heap place pos (omega arith));
    over = λ child high pos lt is.
        less_as (g (parent at)) (g child) (f (parent at)) (f child) (same (parent at) (omega arith) (omega arith)) (same child lt (omega arith))
        (keys_total.trans (f (parent at)) (f at) (f child) (heap at high (omega arith))
        (less_as (f at) (f child) (f (parent child)) (f child) (ap f (sym is)) refl (heap child pos (omega arith))));
  }
