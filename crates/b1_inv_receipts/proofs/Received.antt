-- A destroy notice that a RECV takes names a node: an own one that was made, or another's that is held.
use Rattle.std.proofs.Common.{◌≡◌, ◌≢◌, refl, sym, ap, ◌∙◌, inl, inr, subst, ℕ, ◌%◌, ◌<◌, Bool, true, false, cond, not, ◌&&◌, List, [], ◌∷◌, drop, take_while, length, get_or, find, Option, Some, None, Ok, Err, Result, unwrap_or}
use Rattle.std.specs.Prelude.{⊤}
use Rattle.std.proofs.lemmas.List.Sums.{take_while-cons}
use Rattle.std.proofs.lemmas.Bool.{eqb-false}
use native.Mathlib.Omega.{arith}
use Rattle.b1_model.specs.declared.naming.Key.{Key}
use Rattle.b1_model.specs.declared.naming.NodeRef.{NodeRef}
use Rattle.b1_model.specs.declared.answers.Answer.TheVariants as ans
use Rattle.b1_model.specs.declared.answers.Front.{Front}
use Rattle.b1_model.specs.declared.answers.Receipt.{Receipt}
use Rattle.b1_model.specs.declared.entries.Entry.{Entry}
use Rattle.b1_model.specs.declared.entries.Entry.TheVariants.{Message, OwnNotice, ForeignNotice, ReleaseNotice}
use Rattle.b1_model.specs.Names.{invalid}
use Rattle.b1_model.specs.MachineParts.{PeerPart, HandleRecord, no_node, node_at, no_record, record_of, record_or_none, same_ref, is_staged}
use Rattle.b1_model.specs.MachineReceive.{is_for_nobody, discards, cleared, taken_entry, front_by, front_taken, received}
use Rattle.b1_step.specs.Rights.{Has}
use Rattle.b1_step.specs.Ordered.{Rising}
use Rattle.b1_inv.specs.Numbers.{AreNumbered}
use Rattle.b1_inv.specs.Receipts.{NamesNode, NodesNumbered}
use Rattle.b1_inv_tools.proofs.Received.{at_cleared}
use Rattle.b1_inv_refs.proofs.Arrivals.{queue_parts, Cleared, is_cleared}
use Rattle.b1_inv_refs.proofs.Tables.{at_discards}
use Rattle.b1_inv_refs.proofs.Flying.{numbers_closed}
use Rattle.b1_step.proofs.Lists.{has_right, has_within}

abbrev Items : Type 0
Items = List (Key × Entry)

-- ---- lists

-- the first one behind those that pass doesn't pass
first_fails : {X : Type 0} (test : X → Bool) (xs : List X) (f : X) (rest : List X) → drop (length (take_while test xs)) xs ≡ f ∷ rest → test f ≡ false
first_fails test [] f rest is = absurd (cc is)
first_fails {X} test (y ∷ ys) f rest is =
    at (first_fails test ys f rest) (test y) refl (subst (λ l. drop (length l) (y ∷ ys) ≡ f ∷ rest) (take_while-cons test y ys) is)
  where
    at : (drop (length (take_while test ys)) ys ≡ f ∷ rest → test f ≡ false) → (b : Bool) → test y ≡ b → drop (length (cond b (y ∷ take_while test ys) [])) (y ∷ ys) ≡ f ∷ rest → test f ≡ false
    at further true passes same = further same
    at further false fails same = let first : y ≡ f = cc same in ap test (sym first) ∙ fails

found_has : {X : Type 0} (test : X → Bool) (xs : List X) (x : X) → find test xs ≡ Some x → Has xs x
found_has test [] x is = absurd (cc is)
found_has test (y ∷ ys) x is = at (found_has test ys x) (test y) is
  where
    at : (find test ys ≡ Some x → Has ys x) → (b : Bool) → cond b (Some y) (find test ys) ≡ Some x → Has (y ∷ ys) x
    at further true same = let one : y ≡ x = cc same in inl (sym one)
    at further false same = inr (further same)

both_fail : (a b : Bool) → a ≡ false → (not a && b) ≡ false → b ≡ false
both_fail true b is fails = absurd (cc is)
both_fail false b is fails = fails

-- ---- numbers

abbrev or_none : NodeRef → Option HandleRecord → HandleRecord
or_none node found = elim found [ None ↦ no_record node | Some h ↦ h ]

-- a held record has a given number
given_even : (given : ℕ) (node : NodeRef) (handles : List HandleRecord) → AreNumbered given handles → (record_or_none node handles).held ≢ 0 → unwrap_or (record_or_none node handles).number invalid % 2 ≡ 0
given_even given node handles all held = at (record_of node handles) refl held
  where
    by_number : (h : HandleRecord) → Has handles h → h.held ≢ 0 → (number : Option ℕ) → h.number ≡ number → unwrap_or number invalid % 2 ≡ 0
    by_number h has is None none = absurd (is (all.unheld h has none))
    by_number h has is (Some n) some = let (g, less, same) = (all.held h n has some).1 in omega (arith, same)

    at : (found : Option HandleRecord) → record_of node handles ≡ found → (or_none node found).held ≢ 0 → unwrap_or (or_none node found).number invalid % 2 ≡ 0
    at None is some = absurd (some refl)
    at (Some h) is some = by_number h (found_has (λ k. same_ref k.node node) handles h is) some h.number refl

own_even : (x : PeerPart) → NodesNumbered x → (serial : ℕ) → serial < length x.nodes → (node_at x serial).number % 2 ≡ 0
own_even x right serial within = let own = right.own (node_at x serial) (has_within x.nodes serial no_node within) in omega (arith, own)

-- ---- what a RECV takes

-- what stands at the front of a queue names a node, where it is a destroy notice
abbrev pub FrontNames : Result Receipt Front → Type 0
FrontNames (Ok got) = NamesNode (ans.Got got)
FrontNames (Err front) = ⊤

module _ (x : PeerPart) (up : Rising x.handles) (all : AreNumbered x.given x.handles) (right : NodesNumbered x) where
  k : Cleared x
  k = is_cleared x up

  left : AreNumbered (cleared x).given (cleared x).handles
  left = at_discards AreNumbered (λ m. ⊤) numbers_closed (discards x) (record x { queue = drop (length (discards x)) x.queue }) all

  taken_names : (rest : Items) (key : Key) (e : Entry) → Has x.queue (key, e) → is_for_nobody x e ≡ false → NamesNode (ans.Got (taken_entry (record (cleared x) { queue = rest }) key e).0)
  taken_names rest key (Message origin user index serial offset len nodes slots handles payload) has some = tt
  taken_names rest key (OwnNotice serial index) has some =
      ap (λ nodes. (get_or nodes serial no_node).number % 2) k.nodes ∙ own_even x right serial (right.noticed (key, OwnNotice serial index) has)
  taken_names rest key (ForeignNotice node index) has some =
      given_even (cleared x).given node (cleared x).handles left (λ none. eqb-false (record_or_none node x.handles).held 0 some (sym (k.held node) ∙ none))
  taken_names rest key (ReleaseNotice serial) has some = tt

  front_names : (f : Key × Entry) (rest : Items) → (cleared x).queue ≡ f ∷ rest → (b : Bool) → is_staged f ≡ b → FrontNames (front_by b (cleared x) f rest).0
  front_names f rest is true staged = tt
  front_names f rest is false committed =
      taken_names rest f.0 f.1
      (subst (λ l. Has l f) (sym (queue_parts x)) (has_right (discards x) (cleared x).queue f (subst (λ l. Has l f) (sym is) (inl refl))))
      (both_fail (is_staged f) (is_for_nobody x f.1) committed (first_fails (λ g. not (is_staged g) && is_for_nobody x g.1) x.queue f rest (sym left_queue ∙ is)))
    where
      left_queue : (cleared x).queue ≡ drop (length (discards x)) x.queue
      left_queue = (at_cleared x).0

  by_queue : (queue : Items) → (cleared x).queue ≡ queue → FrontNames (front_taken (cleared x) queue).0
  by_queue [] is = tt
  by_queue (f ∷ rest) is = front_names f rest is (is_staged f) refl

  pub received_names : FrontNames (received x).front
  received_names = by_queue (cleared x).queue refl
