-- The nodes that a destruction dooms: made nodes, each once; and whom it visits first.
use Rattle.std.proofs.Common.{◌≡◌, ◌≢◌, refl, sym, ap, subst, ◌∙◌, inl, inr, ℕ, suc, ◌+◌, ◌<◌, ◌≤◌, ◌==◌, Bool, true, false, cond, ◌||◌, not, List, [], ◌∷◌, length, Option, Some, None, nat_lt}
use Rattle.std.specs.Prelude.{filter_map}
use Rattle.std.specs.List.{list_any, range_with_len, cons_option}
use Rattle.std.specs.Bool.{then_some}
use Rattle.std.proofs.lemmas.Bool.{eqb-true}
use Rattle.std.proofs.lemmas.List.Quantifiers.{position-Some}
use native.Mathlib.Omega.{arith}
use Rattle.b1_model.specs.declared.answers.Reason.{Reason}
use Rattle.b1_model.specs.declared.answers.Reason.TheVariants as reason
use Rattle.b1_model.specs.Names.{is_own}
use Rattle.b1_model.specs.MachineParts.{PeerPart, NodePart, no_node, node_at, is_live}
use Rattle.b1_model.specs.MachineTables.{serial_of, count_of}
use Rattle.b1_model.specs.MachineSend.{first_reason}
use Rattle.b1_model.specs.MachineDestroy.{has_repeat, is_bad_destroy, live_serial, destroy_refusal, destroy_serials, live_serials, reset_serials, visit_set}
use Rattle.b1_step.specs.Rights.{Has}
use Rattle.b1_step.proofs.Lists.{filter_has}
use Rattle.b1_inv.specs.Notices.{Rises, Apart, AreOthers}
use Rattle.b1_inv_notices.proofs.Sets.{above_all, not_has, rises_apart, rises_filter, rises_range, range_has}

-- ---- live nodes in rising order

pub live_has : (here : ℕ) (nodes : List NodePart) (serial : ℕ) → Has (live_serials here nodes) serial → (here ≤ serial) × (serial < here + length nodes)
live_has here [] serial h = absurd h
live_has here (n ∷ rest) serial h = at (live_has (here + 1) rest serial) (is_live n.state) h
  where
    at : (Has (live_serials (here + 1) rest) serial → (here + 1 ≤ serial) × (serial < here + 1 + length rest)) → (b : Bool) → Has (cond b (here ∷ live_serials (here + 1) rest) (live_serials (here + 1) rest)) serial → (here ≤ serial) × (serial < here + suc (length rest))
    at further true (inl same) = (omega (arith, same), omega (arith, same))
    at further true (inr more) = let k = further more in (omega (arith, k.0), omega (arith, k.1))
    at further false more = let k = further more in (omega (arith, k.0), omega (arith, k.1))

live_rises : (here : ℕ) (nodes : List NodePart) → Rises (live_serials here nodes)
live_rises here [] = tt
live_rises here (n ∷ rest) =
    elim (is_live n.state) as (λ b. Rises (cond b (here ∷ live_serials (here + 1) rest) (live_serials (here + 1) rest))) [
      | true ↦ (above_all here (live_serials (here + 1) rest) (λ m h. let k = (live_has (here + 1) rest m h).0 in omega (arith, k)), live_rises (here + 1) rest)
      | false ↦ live_rises (here + 1) rest
    ]

pub reset_apart : (x : PeerPart) → Apart (reset_serials x)
reset_apart x = rises_apart (live_serials 0 x.nodes) (live_rises 0 x.nodes)

pub reset_made : (x : PeerPart) (serial : ℕ) → Has (reset_serials x) serial → serial < length x.nodes
reset_made x serial h = let k = (live_has 0 x.nodes serial h).1 in omega (arith, k)

-- ---- the nodes that numbers name

module _ (x : PeerPart) where
  kept_some : (b : Bool) (serial other : ℕ) → then_some b serial ≡ Some other → serial ≡ other
  kept_some true serial other is = cc is
  kept_some false serial other is = absurd (cc is)

  found : (number : ℕ) (at : Option ℕ) (serial : ℕ) → serial_of number x.nodes ≡ at → elim at [ None ↦ None | Some one ↦ then_some (is_live (node_at x one).state) one ] ≡ Some serial → serial_of number x.nodes ≡ Some serial
  found number None serial was is = absurd (cc is)
  found number (Some one) serial was is = was ∙ ap Some (kept_some (is_live (node_at x one).state) one serial is)

  named : (number serial : ℕ) → live_serial x number ≡ Some serial → (serial < length x.nodes) × ((node_at x serial).number ≡ number)
  named number serial is =
      let k = position-Some (λ n. n.number == number) x.nodes serial no_node (found number (serial_of number x.nodes) serial refl is) in
      (k.0, eqb-true (node_at x serial).number number k.1)

  serial_from : (numbers : List ℕ) (serial : ℕ) → Has (filter_map (live_serial x) numbers) serial → (number : ℕ) × Has numbers number × (live_serial x number ≡ Some serial)
  serial_from [] serial h = absurd h
  serial_from (number ∷ rest) serial h = at (serial_from rest serial) (live_serial x number) refl h
    where
      at : (Has (filter_map (live_serial x) rest) serial → (other : ℕ) × Has rest other × (live_serial x other ≡ Some serial)) → (one : Option ℕ) → live_serial x number ≡ one → Has (cons_option one (filter_map (live_serial x) rest)) serial → (other : ℕ) × Has (number ∷ rest) other × (live_serial x other ≡ Some serial)
      at further None is more = let k = further more in (k.0, inr k.1, k.2)
      at further (Some y) is (inl same) = (number, inl refl, is ∙ ap Some (sym same))
      at further (Some y) is (inr more) = let k = further more in (k.0, inr k.1, k.2)

  pub destroy_made : (numbers : List ℕ) (serial : ℕ) → Has (destroy_serials x numbers) serial → serial < length x.nodes
  destroy_made numbers serial h = let k = serial_from numbers serial h in (named k.0 serial k.2).0

  or_false : (a b : Bool) → (a || b) ≡ false → (a ≡ false) × (b ≡ false)
  or_false true b is = absurd (cc is)
  or_false false b is = (refl, is)

  destroy_apart : (numbers : List ℕ) → has_repeat numbers ≡ false → Apart (destroy_serials x numbers)
  destroy_apart [] is = tt
  destroy_apart (number ∷ rest) is = at (destroy_apart rest (or_false (list_any (λ m. m == number) rest) (has_repeat rest) is).1) (live_serial x number) refl
    where
      again : (serial : ℕ) → live_serial x number ≡ Some serial → Has (filter_map (live_serial x) rest) serial → ⊥
      again serial here h =
          let k = serial_from rest serial h in
          let same : k.0 ≡ number = sym (named k.0 serial k.2).1 ∙ (named number serial here).1 in
          not_has number rest (or_false (list_any (λ m. m == number) rest) (has_repeat rest) is).0 (subst (Has rest) same k.1)

      at : Apart (filter_map (live_serial x) rest) → (one : Option ℕ) → live_serial x number ≡ one → Apart (cons_option one (filter_map (live_serial x) rest))
      at further None here = further
      at further (Some y) here = (again y here, further)

  not_bad : (b : Bool) (rest : List (Option Reason)) → first_reason (then_some b reason.Invalid ∷ rest) ≡ None → b ≡ false
  not_bad true rest is = absurd (cc is)
  not_bad false rest is = refl

  last_of : (a b c d : Bool) → (a || b || c || d) ≡ false → d ≡ false
  last_of a b c true is = absurd (elim a as (λ z. (z || b || c || true) ≡ false → ⊥) [ true ↦ λ e. cc e | false ↦ elim b as (λ z. (z || c || true) ≡ false → ⊥) [ true ↦ λ e. cc e | false ↦ elim c as (λ z. (z || true) ≡ false → ⊥) [ true ↦ λ e. cc e | false ↦ λ e. cc e ] ] ] is)
  last_of a b c false is = refl

  pub accepted_apart : (numbers : List ℕ) → destroy_refusal x numbers ≡ None → Apart (destroy_serials x numbers)
  accepted_apart numbers is = destroy_apart numbers (last_of (length numbers == 0) (nat_lt 64 (length numbers)) (list_any (λ n. not (is_own n)) numbers) (has_repeat numbers) (not_bad (is_bad_destroy numbers) _ is))

-- ---- whom a destruction visits first

module _ (x : PeerPart) (none : (serial : ℕ) → count_of (node_at x serial) x.me ≡ 0) where
  not_held : (doomed : List ℕ) → list_any (λ serial. nat_lt 0 (count_of (node_at x serial) x.me)) doomed ≡ false
  not_held [] = refl
  not_held (serial ∷ rest) = rw (ap (nat_lt 0) (none serial)) (not_held rest)

  other_peer : (doomed : List ℕ) (q : ℕ) → list_any (λ serial. nat_lt 0 (count_of (node_at x serial) q)) doomed ≡ true → q ≢ x.me
  other_peer doomed q is same =
      let both : true ≡ false = sym is ∙ ap (λ n. list_any (λ serial. nat_lt 0 (count_of (node_at x serial) n)) doomed) same ∙ not_held doomed in
      absurd (cc both)

  pub visit_others : (doomed : List ℕ) → AreOthers x.peers x.me (visit_set x doomed)
  visit_others doomed = record {
    rising = rises_filter (λ peer. list_any (λ serial. nat_lt 0 (count_of (node_at x serial) peer)) doomed) (range_with_len 0 x.peers) (rises_range 0 x.peers);
    others = λ q h.
        let k = filter_has (λ peer. list_any (λ serial. nat_lt 0 (count_of (node_at x serial) peer)) doomed) (range_with_len 0 x.peers) q h in
        (let r = (range_has 0 x.peers q k.0).1 in omega (arith, r), other_peer doomed q k.1);
  }
