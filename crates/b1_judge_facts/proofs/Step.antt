-- One stamped call more is gathered.
use Rattle.std.specs.Prelude.{◌≡◌, refl, ℕ, zero, suc, ◌+◌, ◌-◌, ◌<◌, ◌≤◌, ◌⊎◌, Bool, true, false, ◌==◌, if◌then◌else◌, List, ◌∷◌, length, take, drop, filter, slice_get, Some, None}
use Rattle.std.proofs.lemmas.Option.{same_Some, slice_get_within}
use Rattle.std.proofs.lemmas.Bool.{cases_eq}
use Rattle.std.proofs.Common.{arith, inl, inr, subst, sym, ap, ◌∙◌, eq-eqb}
use Rattle.b1_model.specs.declared.naming.Wire.{Wire}
use Rattle.b1_model.specs.declared.answers.Receipt.TheVariants as rec
use Rattle.b1_model.specs.declared.answers.Answer.{Answer}
use Rattle.b1_model.specs.declared.answers.Answer.TheVariants as ans
use Rattle.b1_model.specs.declared.records.Call.{Call}
use Rattle.b1_model.specs.declared.records.Record.{Record}
use Rattle.b1_model.specs.declared.records.Stamp.{Stamp}
use Rattle.b1_model.specs.Names.{Node, calls_of, made}
use Rattle.b1_model.specs.Ledger.{is_before, stamp_of, changed, Message, message_by, slots_in, slots_by, message, slots, table, is_destroyed_in, destructions_before}
use Rattle.b1_model.specs.Legal.{seen_stamp}
use Rattle.b1_ledger.proofs.Sequences.{option_cases}
use Rattle.b1_ledger.proofs.Walks.{AgreesAt}
use Rattle.b1_ledger.proofs.Plain.{message_source}
use Rattle.b1_ledger.proofs.Steps.{table_next}
use Rattle.b1_judge_facts.specs.declared.gather.Pace.{Pace}
use Rattle.b1_judge_facts.specs.declared.gather.Gathering.{Gathering}
use Rattle.b1_judge_facts.specs.Facts.{Rises, doomed}
use Rattle.b1_judge_facts.specs.Kept.{kept_at, kept_nodes, is_gone}
use Rattle.b1_judge_facts.specs.Steps.{doomed_by}
use Rattle.b1_judge_facts.specs.Standing.{passes, standing}
use Rattle.b1_judge_facts.specs.Gathering.{Reaches, Takes}
use Rattle.b1_judge_facts.proofs.Orders.{below, AllAfter, Ascends, is_of, order_ascends, complete}
use Rattle.b1_judge_facts.proofs.Dooms.{first_nodes, destruction_at, destruction_here, doomed_by_is, doomed_is}
use Rattle.b1_judge_facts.proofs.Standings.{slice_get-drop, standing_later, message_behind, doomed_behind}
use Rattle.b1_judge_facts.proofs.SoFar.{is_in, Follows, IsSoFar, NextStamp, next_stamp, split_cases, ascends_right, after_at, in_of, call_message, before_same}

-- below or the same: a smaller stamp is not
stamp_low : (s t : Stamp) → below s t ≡ true → t.stamp < s.stamp → ⊥
stamp_low s t e l = let f : is_before s.stamp s.origin t.stamp t.origin ≡ true = e in not_below s.stamp s.origin t.stamp t.origin f l
  where
    not_below : (a b c d : ℕ) → is_before a b c d ≡ true → c < a → ⊥
    not_below a b c d e l = let f : is_before a b c d ≡ false = grind (arith, l) in cc (e, f)

pub chain_before : (s p t q u v : ℕ) → is_before s p t q ≡ true → is_before t q u v ≡ true → is_before s p u v ≡ true
chain_before s p t q u v e f = grind (arith, e, f)

module _ (ws : List Wire) (r : Record) (rises : Rises r) (done rest : List Stamp) (s : Stamp) (g : Gathering) (h : IsSoFar ws r done (s ∷ rest) g) where
  pub all_after : AllAfter s rest
  all_after = (ascends_right done (s ∷ rest) (subst Ascends (sym h.split) (order_ascends r rises))).0

  -- a message with a smaller stamp is gathered
  kept_message : (t q : ℕ) → t < s.stamp → kept_at g.messages t q ≡ message ws r t q
  kept_message t q l = h.messages_are t q ∙ go (option_cases (message ws r t q))
    where
      same : (b : Bool) → (if b then message ws r t q else None) ≡ (if b then message ws r t q else None)
      same b = refl

      none : (b : Bool) → message ws r t q ≡ None → (if b then message ws r t q else None) ≡ message ws r t q
      none true e = refl
      none false e = sym e

      go : ((message ws r t q ≡ None) ⊎ ((m : Message) × (message ws r t q ≡ Some m))) → (if is_in done t q then message ws r t q else None) ≡ message ws r t q
      go (inl e) = none (is_in done t q) e
      go (inr m) =
          let from = message_source ws r t q m.0 m.1 in
          let z : Stamp = record { stamp = t; origin = q; call = from.0 } in
          let at = complete r rises q from.0 t from.1 from.2 from.3 in
          let place = split_cases done (s ∷ rest) at.0 z (ap (λ l. slice_get l at.0) h.split ∙ at.1) in
          rw (seen place) refl
        where
          seen : (((i : ℕ) × (slice_get done i ≡ Some (record { stamp = t; origin = q; call = (message_source ws r t q m.0 m.1).0 }))) ⊎ ((i : ℕ) × (slice_get (s ∷ rest) i ≡ Some (record { stamp = t; origin = q; call = (message_source ws r t q m.0 m.1).0 })))) → is_in done t q ≡ true
          seen (inl e) = in_of done e.0 (record { stamp = t; origin = q; call = (message_source ws r t q m.0 m.1).0 }) e.1
          seen (inr e) = later e.0 e.1
            where
              later : (i : ℕ) → slice_get (s ∷ rest) i ≡ Some (record { stamp = t; origin = q; call = (message_source ws r t q m.0 m.1).0 }) → is_in done t q ≡ true
              later zero f = let same : s.stamp ≡ t = ap (λ x. x.stamp) (same_Some s (record { stamp = t; origin = q; call = (message_source ws r t q m.0 m.1).0 }) f) in absurd (omega (arith, same, l))
              later (suc i) f = absurd (stamp_low s (record { stamp = t; origin = q; call = (message_source ws r t q m.0 m.1).0 }) (after_at s rest i (record { stamp = t; origin = q; call = (message_source ws r t q m.0 m.1).0 }) all_after f) l)

  -- the peer's calls so far
  next_of : (x : Pace) → Follows ws r (s ∷ rest) s.origin x → NextStamp s.origin x.call (drop x.call (calls_of r s.origin)) s (filter (is_of s.origin) rest)
  next_of x f =
      let own : (s.origin == s.origin) ≡ true = eq-eqb s.origin s.origin refl in
      let head : s ∷ filter (is_of s.origin) rest ≡ filter (is_of s.origin) (s ∷ rest) = rw own refl in
      next_stamp s.origin x.call (drop x.call (calls_of r s.origin)) s (filter (is_of s.origin) rest) (head ∙ f.left_is)

  pub ahead : (x : Pace) → slice_get g.paces.items s.origin ≡ Some x → x.call ≤ s.call
  ahead x e = omega (arith, (next_of x (h.paces_are s.origin x e)).call_is)

  pub call_there : (x : Pace) → slice_get g.paces.items s.origin ≡ Some x → s.call < length (calls_of r s.origin)
  call_there x e =
      let n = next_of x (h.paces_are s.origin x e) in
      slice_get_within (calls_of r s.origin) s.call n.call (ap (slice_get (calls_of r s.origin)) n.call_is ∙ sym (slice_get-drop (calls_of r s.origin) x.call n.place) ∙ n.at)

  module _ (g' : Gathering) (t : Takes s g g') where
    pub follows : Follows ws r (s ∷ rest) s.origin t.pace
    follows = h.paces_are s.origin t.pace t.pace_at

    pub next : NextStamp s.origin t.pace.call (drop t.pace.call (calls_of r s.origin)) s (filter (is_of s.origin) rest)
    next = next_of t.pace follows

    pub at : slice_get (calls_of r s.origin) s.call ≡ Some t.call
    at = subst (λ z. slice_get (calls_of z s.origin) s.call ≡ Some t.call) h.rec_is t.call_at

    call_same : next.call ≡ t.call
    call_same = same_Some next.call t.call (sym next.at ∙ slice_get-drop (calls_of r s.origin) t.pace.call next.place ∙ ap (slice_get (calls_of r s.origin)) (sym next.call_is) ∙ at)

    stamp_is : stamp_of t.call.answer ≡ Some s.stamp
    stamp_is = ap (λ c. stamp_of c.answer) (sym call_same) ∙ next.stamp_is

    agrees : (a : Answer) → ((u : ℕ) → seen_stamp a ≡ Some u → stamp_of a ≡ None → u < s.stamp) → AgreesAt (slots_by (kept_at g.messages) s.origin) (slots ws r s.origin) a
    agrees (ans.Got (rec.Message key number offset handles payload)) low = ap (slots_in s.origin key.index) (kept_message key.stamp key.origin (low key.stamp refl refl))
    agrees a low = tt

    low : (j : ℕ) (c : Call) → j < suc s.call → slice_get (calls_of r s.origin) j ≡ Some c → (u : ℕ) → seen_stamp c.answer ≡ Some u → stamp_of c.answer ≡ None → u < s.stamp
    low j c l e u seen none = elim (cases_eq j s.call) [
      | inl same ↦
          let here : c ≡ t.call = same_Some c t.call (sym e ∙ ap (slice_get (calls_of r s.origin)) same ∙ at) in
          let stamped : stamp_of c.answer ≡ Some s.stamp = ap (λ x. stamp_of x.answer) here ∙ stamp_is in
          cc (none, stamped)
      | inr n ↦ rises s.origin s.call j u s.stamp c t.call (omega (arith, l, n)) e at seen stamp_is
    ]

    pub reached_is : t.reached.standing ≡ standing ws r s.origin (suc s.call)
    reached_is =
        let reaches : Reaches (slots_by (kept_at g.messages) s.origin) (calls_of r s.origin) (suc s.call) t.pace t.reached = subst (λ z. Reaches (slots_by (kept_at g.messages) s.origin) (calls_of z s.origin) (suc s.call) t.pace t.reached) h.rec_is t.reaches in
        let len : suc s.call - t.pace.call ≡ suc next.place = omega (arith, next.call_is) in
        let end : t.pace.call + suc next.place ≡ suc s.call = omega (arith, next.call_is) in
        let within : s.call < length (calls_of r s.origin) = slice_get_within (calls_of r s.origin) s.call t.call at in
        reaches.standing_is
        ∙ ap (λ m. passes (slots_by (kept_at g.messages) s.origin) (take m (drop t.pace.call (calls_of r s.origin))) t.pace.standing) len
        ∙ ap (passes (slots_by (kept_at g.messages) s.origin) (take (suc next.place) (drop t.pace.call (calls_of r s.origin)))) follows.standing_is
        ∙ standing_later ws r s.origin (suc next.place) t.pace.call (slots_by (kept_at g.messages) s.origin) (omega (arith, end, within)) (λ j c lo hi e. agrees c.answer (low j c (omega (arith, hi, end)) e))
        ∙ ap (standing ws r s.origin) end

    pub gone_before : (y : Node) → is_gone t.reached.gone y ≡ is_destroyed_in (destructions_before ws r s.origin s.call) y
    gone_before y =
        let end : t.pace.call + next.place ≡ s.call = omega (arith, next.call_is) in
        ap (λ z. is_gone z y) t.reaches.gone_is ∙ follows.gone_is y
        ∙ ap (λ ds. is_destroyed_in ds y) (sym (before_same ws r rises s.origin t.pace.call next.place next.plain) ∙ ap (destructions_before ws r s.origin) end)

    tables : (standing ws r s.origin (suc s.call)).table ≡ changed (slots ws r s.origin) t.call.command t.call.answer (table ws r s.origin s.call)
    tables = table_next ws r s.origin s.call t.call at

    pub message_here : message_by s.origin t.reached.standing.names t.reached.standing.table t.call.command t.call.answer ≡ message ws r s.stamp s.origin
    message_here =
        ap (λ z. message_by s.origin z.names z.table t.call.command t.call.answer) reached_is
        ∙ ap (λ z. message_by s.origin (made ws r s.origin s.call) z t.call.command t.call.answer) tables
        ∙ message_behind s.origin (made ws r s.origin s.call) (slots ws r s.origin) t.call.command t.call.answer (table ws r s.origin s.call)
        ∙ sym (call_message ws r rises s.origin s.call s.stamp t.call at stamp_is)

    pub nodes_by : kept_nodes t.nodes ≡ first_nodes (destruction_at ws r s.origin s.call)
    nodes_by =
        ap kept_nodes t.nodes_are
        ∙ ap (λ z. kept_nodes (doomed_by s.origin z.names z.table (is_gone t.reached.gone) t.call.command t.call.answer)) reached_is
        ∙ ap (λ z. kept_nodes (doomed_by s.origin (made ws r s.origin s.call) z (is_gone t.reached.gone) t.call.command t.call.answer)) tables
        ∙ ap kept_nodes (doomed_behind s.origin (made ws r s.origin s.call) (slots ws r s.origin) (is_gone t.reached.gone) t.call.command t.call.answer (table ws r s.origin s.call))
        ∙ doomed_by_is s.origin (made ws r s.origin s.call) (table ws r s.origin s.call) (is_gone t.reached.gone) (destructions_before ws r s.origin s.call) t.call.command t.call.answer gone_before
        ∙ ap first_nodes (sym (destruction_here ws r s.origin s.call t.call at))

    pub nodes_here : kept_nodes t.nodes ≡ doomed ws r s.stamp s.origin
    nodes_here = nodes_by ∙ sym (doomed_is ws r rises s.origin s.call s.stamp t.call at stamp_is)
