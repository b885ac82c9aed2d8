-- What the calls of a pool are to the store round it.
use Rattle.std.proofs.Common.{◌≡◌, ℕ, List, length, Bool, true, false, cond, refl, sym, ap, ◌∙◌}
use Rattle.b1_model.specs.MachinePool.{given_back, published, is_received}
use Rattle.b1_pool.specs.declared.slices.Slice.{Slice as PoolSlice}
use Rattle.b1_pool.specs.Slices as pool
use Rattle.b1_peer_pool.specs.Words.{all_in_words}
use Rattle.b1_peer_pool.specs.Slices.{is_queued}
use Rattle.b1_peer_pool.specs.Stored.{Stored, IsStored}
use Rattle.b1_peer_pool.proofs.Words.{IsPool-in_words, is_queued-in_words, is_received-in_words, given_back-in_words, published-in_words}

-- the store stays sound
pub stored : (size spare : ℕ) (bytes : List ℕ) (xs : List PoolSlice) → pool.IsPool (length bytes) xs → length bytes ≡ size → IsStored (record { size = size; slices = all_in_words xs; bytes = bytes; spare = spare })
stored size spare bytes xs p as_long = record { pool = rw (← as_long) (IsPool-in_words (length bytes) xs p); as_long = as_long }

-- a queued message's slice begins there in the pool's words too
pub queued_there : (offset : ℕ) (xs : List PoolSlice) (s : Stored) → all_in_words xs ≡ s.slices → is_queued offset s.slices ≡ true → pool.begins pool.is_unpublished offset xs ≡ true
queued_there offset xs s is queued = sym (is_queued-in_words offset xs) ∙ ap (is_queued offset) is ∙ queued

-- what was given back in the pool's words was given back in the machine's
pub back_in_words : (offset : ℕ) (xs ys : List PoolSlice) (s : Stored) → all_in_words xs ≡ s.slices → ys ≡ pool.given_back offset xs → all_in_words ys ≡ given_back offset s.slices
back_in_words offset xs ys s is back = ap all_in_words back ∙ sym (given_back-in_words offset xs) ∙ ap (given_back offset) is

-- what was published in the pool's words was published in the machine's
pub published_in_words : (offset : ℕ) (xs ys : List PoolSlice) (s : Stored) → all_in_words xs ≡ s.slices → ys ≡ pool.published offset xs → all_in_words ys ≡ published offset s.slices
published_in_words offset xs ys s is after = ap all_in_words after ∙ sym (published-in_words offset xs) ∙ ap (published offset) is

-- a received message's slice begins there, or none does
pub received_there : (offset : ℕ) (xs : List PoolSlice) (s : Stored) → all_in_words xs ≡ s.slices → pool.begins pool.is_published offset xs ≡ is_received offset s.slices
received_there offset xs s is = sym (is_received-in_words offset xs) ∙ ap (is_received offset) is

either_slices : (b : Bool) (xs ys : List PoolSlice) → all_in_words (cond b xs ys) ≡ cond b (all_in_words xs) (all_in_words ys)
either_slices true xs ys = refl
either_slices false xs ys = refl

-- what was released in the pool's words was released in the machine's
pub released_in_words : (found : Bool) (offset : ℕ) (xs ys : List PoolSlice) (s : Stored) → all_in_words xs ≡ s.slices → found ≡ pool.begins pool.is_published offset xs → ys ≡ cond found (pool.given_back offset xs) xs → all_in_words ys ≡ cond (is_received offset s.slices) (given_back offset s.slices) s.slices
released_in_words found offset xs ys s is told after =
    rw (← received_there offset xs s is, ← told)
    (ap all_in_words after
    ∙ either_slices found (pool.given_back offset xs) xs
    ∙ ap (λ r. cond found r (all_in_words xs)) (sym (given_back-in_words offset xs))
    ∙ ap (λ r. cond found (given_back offset r) r) is)
