-- The SENDs of a generated script: where they go, and that they are not refused.
use Rattle.std.proofs.Common.{◌≡◌, ◌≢◌, ◌⊎◌, inl, inr, refl, sym, ap, ◌∙◌, ℕ, zero, suc, ◌+◌, ◌*◌, ◌-◌, ◌/◌, ◌%◌, ◌<◌, ◌≤◌, ◌==◌, Bool, true, false, cond, not, nat_lt, nat_le, List, [], ◌∷◌, map, filter_map, find, length, Some, None, option_map}
use Rattle.std.specs.Bool.{then_some}
use Rattle.std.specs.Prelude.{is_none}
use Rattle.std.specs.List.{list_any, range_with_len}
use Rattle.std.proofs.lemmas.Bool.{lt-ltb, le-ltb, ne_eqb, eq-eqb, cases_lt, cases_eq}
use native.Mathlib.Omega.{arith}
use Rattle.b1_model.specs.declared.commands.SendCmd.{SendCmd}
use Rattle.b1_model.specs.declared.answers.Reason.TheVariants as reason
use Rattle.b1_model.specs.declared.limits.TheConstants.{MOST_DESTINATIONS, MOST_PAYLOAD}
use Rattle.b1_model.specs.MachineParts.{PeerPart, clock_limit, is_odd}
use Rattle.b1_model.specs.MachineTables.{held_node, node_named, serial_of}
use Rattle.b1_model.specs.MachineSend.{first_reason, is_bad_send, is_unknown, unknown_reason, send_refusal}
use Rattle.b1_step.specs.Rights.{Has}
use Rattle.b1_step.proofs.Lists.{filter_has, has_filter}
use Rattle.b1_gen.specs.Generated.{below, peer_count, matches, partners, handle_at, payload_len, payload_of}
use Rattle.b1_gen_runs.specs.Parts.{longest}
use Rattle.b1_gen_runs.specs.Sums.{owner_of}
use Rattle.b1_gen_runs.specs.Phases.{nodes_of}
use Rattle.b1_gen.proofs.Rising.{filter-few}
use Rattle.b1_gen_runs.proofs.Openings.{and_parts, below_has}
use Rattle.b1_gen_runs.proofs.Refusals.{HasRoom, not_late}
use Rattle.std.proofs.lemmas.List.{length-map, length-replicate}
use Rattle.std.proofs.lemmas.List.FromFn.{length-range_with_len}

-- ---- handles

pub owner_is : (p q : ℕ) → q ≢ p → owner_of p (handle_at p q) ≡ q
owner_is p q apart = elim (cases_lt q p) [
  | inl less ↦ rw (lt-ltb q p less) (low less)
  | inr more ↦ rw (le-ltb q p more) (high more)
]
  where
    low : q < p → cond (nat_lt ((4 * q + 2) / 4) p) ((4 * q + 2) / 4) ((4 * q + 2) / 4 + 1) ≡ q
    low less = let e : (4 * q + 2) / 4 ≡ q = omega arith in rw (e, lt-ltb q p less) refl

    high : p ≤ q → cond (nat_lt ((4 * (q - 1) + 2) / 4) p) ((4 * (q - 1) + 2) / 4) ((4 * (q - 1) + 2) / 4 + 1) ≡ q
    high more =
        let e : (4 * (q - 1) + 2) / 4 ≡ q - 1 = omega arith in
        rw (e, le-ltb (q - 1) p (omega (arith, more, apart))) (omega (arith, more, apart))

handle_given : (p q : ℕ) → handle_at p q % 4 ≡ 2
handle_given p q = elim (nat_lt q p) as (λ b. cond b (4 * q + 2) (4 * (q - 1) + 2) % 4 ≡ 2) [ true ↦ omega arith | false ↦ omega arith ]

pub handle_even : (p q : ℕ) → handle_at p q % 2 ≡ 0
handle_even p q = let k = handle_given p q in omega (arith, k)

-- ---- partners

range_less : (from n r : ℕ) → Has (range_with_len from n) r → r < from + n
range_less from zero r has = absurd has
range_less from (suc n) r (inl same) = omega (arith, same)
range_less from (suc n) r (inr has) = let k = range_less (from + 1) n r has in omega (arith, k)

-- a partner is another peer
pub record IsPartner (number p r : ℕ) : Type 0 where
  pub less : r < peer_count number
  pub apart : r ≢ p

pub partner_is : (number k p r : ℕ) → Has (partners number k p) r → IsPartner number p r
partner_is number k p r has =
    let c = filter_has (matches number k p) (below (peer_count number)) r has in
    record {
      less = let l = range_less 0 (peer_count number) r c.0 in omega (arith, l);
      apart = λ same. let e = (and_parts (not (r == p)) (not ((number + p + k + r) % 3 == 0)) c.1).0 in not_both (r == p) (eq-eqb r p same) e;
    }
  where
    not_both : (b : Bool) → b ≡ true → not b ≡ true → ⊥
    not_both true is isnt = cc isnt
    not_both false is isnt = cc is

-- there is one at least, and there are not many
match_is : (number k p r : ℕ) → r ≢ p → (number + p + k + r) % 3 ≢ 0 → matches number k p r ≡ true
match_is number k p r apart third = rw (ne_eqb r p apart, ne_eqb ((number + p + k + r) % 3) 0 third) refl

some_match : (number k p : ℕ) → (r : ℕ) × (r < 4) × (matches number k p r ≡ true)
some_match number k p = at (cases_eq ((number + p + k) % 3) 0) (cases_eq ((number + p + k) % 3) 1) (cases_eq p 0) (cases_eq p 1)
  where
    at : ((number + p + k) % 3 ≡ 0) ⊎ ((number + p + k) % 3 ≢ 0) → ((number + p + k) % 3 ≡ 1) ⊎ ((number + p + k) % 3 ≢ 1) → (p ≡ 0) ⊎ (p ≢ 0) → (p ≡ 1) ⊎ (p ≢ 1) → (r : ℕ) × (r < 4) × (matches number k p r ≡ true)
    at (inl none) b c (inl one) = (2, omega arith, match_is number k p 2 (omega (arith, one)) (omega (arith, none)))
    at (inl none) b c (inr more) = (1, omega arith, match_is number k p 1 (λ e. more (sym e)) (omega (arith, none)))
    at (inr some) (inl one) (inl is) d = (1, omega arith, match_is number k p 1 (omega (arith, is)) (omega (arith, one)))
    at (inr some) (inl one) (inr isnt) d = (0, omega arith, match_is number k p 0 (λ e. isnt (sym e)) (omega (arith, one)))
    at (inr some) (inr two) (inl is) d = (2, omega arith, match_is number k p 2 (omega (arith, is)) (omega (arith, some, two)))
    at (inr some) (inr two) (inr isnt) d = (0, omega arith, match_is number k p 0 (λ e. isnt (sym e)) (omega (arith, some, two)))

has_some : (xs : List ℕ) (r : ℕ) → Has xs r → 1 ≤ length xs
has_some [] r has = absurd has
has_some (x ∷ xs) r has = omega arith

pub some_partner : (number k p : ℕ) → 1 ≤ length (partners number k p)
some_partner number k p =
    let m = some_match number k p in
    has_some (partners number k p) m.0 (has_filter (matches number k p) (below (peer_count number)) m.0 (below_has (peer_count number) m.0 (let l = m.1 in omega (arith, l))) m.2)

pub few_partners : (number k p : ℕ) → length (partners number k p) ≤ 8
few_partners number k p =
    let k' = filter-few (matches number k p) (below (peer_count number)) in
    let l = length-range_with_len 0 (peer_count number) in
    omega (arith, k', l)

-- ---- a SEND

abbrev pub send_in : ℕ → ℕ → ℕ → SendCmd
send_in number p k = record { go_on = false; to = map (handle_at p) (partners number k p); with = []; payload = payload_of p k }

pub payload_short : (p k : ℕ) → length (payload_of p k) ≤ longest
payload_short p k = let e = length-replicate (payload_len k) ((p + k) % 256) in omega (arith, e)

none_found : (test : ℕ → Bool) (xs : List ℕ) → ((x : ℕ) → Has xs x → test x ≡ false) → find test xs ≡ None
none_found test [] none = refl
none_found test (x ∷ xs) none = rw (none x (inl refl)) (none_found test xs (λ y has. none y (inr has)))

no_odd : (p : ℕ) (rs : List ℕ) → list_any is_odd (map (handle_at p) rs) ≡ false
no_odd p [] = refl
no_odd p (r ∷ rs) = rw (ap (λ n. n == 1) (handle_even p r)) (no_odd p rs)

handle_of : (p : ℕ) (rs : List ℕ) (h : ℕ) → Has (map (handle_at p) rs) h → (r : ℕ) × Has rs r × (h ≡ handle_at p r)
handle_of p [] h has = absurd has
handle_of p (r ∷ rs) h (inl same) = (r, inl refl, same)
handle_of p (r ∷ rs) h (inr has) = let k = handle_of p rs h has in (k.0, inr k.1, k.2)

module _ (number p bound : ℕ) (x : PeerPart) (room : HasRoom (peer_count number) p bound x) where
  named : (r : ℕ) → IsPartner number p r → node_named x (handle_at p r) ≡ Some (record { owner = r; serial = 0 })
  named r is =
      let k = handle_given p r in
      ap (λ b. cond b (elim (serial_of (handle_at p r) x.nodes) [ None ↦ None | Some serial ↦ Some (record { owner = x.me; serial = serial }) ]) (held_node (handle_at p r) x.handles)) (ne_eqb (handle_at p r % 4) 0 (omega (arith, k)))
      ∙ room.stands.held r is.less is.apart

  all_named : (rs : List ℕ) → ((r : ℕ) → Has rs r → IsPartner number p r) → filter_map (node_named x) (map (handle_at p) rs) ≡ nodes_of p (map (handle_at p) rs)
  all_named [] are = refl
  all_named (r ∷ rs) are =
      rw (named r (are r (inl refl)), owner_is p r (are r (inl refl)).apart)
      (ap (λ l. record { owner = r; serial = 0 } ∷ l) (all_named rs (λ y has. are y (inr has))))

  module _ (k : ℕ) where
    pub begun_are : filter_map (node_named x) (map (handle_at p) (partners number k p)) ≡ nodes_of p (map (handle_at p) (partners number k p))
    begun_are = all_named (partners number k p) (partner_is number k p)

    known : (h : ℕ) → Has (map (handle_at p) (partners number k p)) h → is_unknown x h ≡ false
    known h has =
        let r = handle_of p (partners number k p) h has in
        ap (is_unknown x) r.2 ∙ ap is_none (named r.0 (partner_is number k p r.0 r.1))

    not_bad : is_bad_send (send_in number p k) ≡ false
    not_bad =
        let some = some_partner number k p in
        let few = few_partners number k p in
        let same = length-map (partners number k p) (handle_at p) in
        rw (ne_eqb (length (map (handle_at p) (partners number k p))) 0 (omega (arith, same, some)), le-ltb MOST_DESTINATIONS (length (map (handle_at p) (partners number k p))) (omega (arith, same, few)), no_odd p (partners number k p)) refl

    pub no_send_refusal : send_refusal x (send_in number p k) ≡ None
    no_send_refusal =
        ap (λ b. first_reason (then_some b reason.Invalid ∷ then_some (nat_lt MOST_PAYLOAD (length (payload_of p k))) (reason.Size (length (payload_of p k))) ∷ then_some (nat_le clock_limit x.clock) (reason.Overflow x.clock) ∷ unknown_reason x (map (handle_at p) (partners number k p)) ∷ None ∷ None ∷ [])) not_bad
        ∙ ap (λ b. first_reason (then_some b (reason.Size (length (payload_of p k))) ∷ then_some (nat_le clock_limit x.clock) (reason.Overflow x.clock) ∷ unknown_reason x (map (handle_at p) (partners number k p)) ∷ None ∷ None ∷ [])) (le-ltb MOST_PAYLOAD (length (payload_of p k)) (let s = payload_short p k in omega (arith, s)))
        ∙ ap (λ b. first_reason (then_some b (reason.Overflow x.clock) ∷ unknown_reason x (map (handle_at p) (partners number k p)) ∷ None ∷ None ∷ [])) (not_late (peer_count number) p bound x room)
        ∙ ap (λ r. first_reason (option_map (λ number. reason.Unknown number) r ∷ None ∷ None ∷ [])) (none_found (is_unknown x) (map (handle_at p) (partners number k p)) known)
