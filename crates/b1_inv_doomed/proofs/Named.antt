-- What a begin of a destruction dooms that isn't refused: the nodes that its numbers name, or all nodes that aren't destroyed.
use Rattle.std.proofs.Common.{◌≡◌, refl, sym, ap, subst, ◌∙◌, inl, inr, ℕ, zero, suc, ◌+◌, ◌≤◌, Bool, true, false, cond, List, [], ◌∷◌, map, find, filter_map, length, get_or, Option, Some, None, option_map}
use Rattle.std.specs.Bool.{then_some}
use native.Mathlib.Omega.{arith}
use Rattle.b1_model.specs.declared.answers.Reason.{Reason}
use Rattle.b1_model.specs.declared.answers.Reason.TheVariants as reason
use Rattle.b1_model.specs.declared.commands.Command.{Command}
use Rattle.b1_model.specs.declared.parts.NodeState.{NodeState}
use Rattle.b1_model.specs.declared.parts.NodeState.TheVariants.{Live, Dying, Destroyed}
use Rattle.b1_model.specs.MachineParts.{PeerPart, NodePart, is_live, is_dying, is_destroyed, no_node, node_at}
use Rattle.b1_model.specs.MachineTables.{serial_of, with_node, with_nodes, in_state}
use Rattle.b1_model.specs.MachineSend.{first_reason}
use Rattle.b1_model.specs.MachineDestroy.{is_bad_destroy, live_serial, is_not_live, overflow_reason, destroy_refusal, destroy_serials, live_serials, reset_serials}
use Rattle.b1_model.specs.MachineEvents.{begin_serials}
use Rattle.b1_step.specs.Rights.{Has}
use Rattle.b1_step.proofs.Lists.{map_set}
use Rattle.b1_inv_record.specs.Dooming.{undestroyed}
use Rattle.b1_inv_destroys.proofs.Nodes.{begun_live, live_apart}
use Rattle.b1_inv_destroys.proofs.Own.{not_bad}

-- ---- numbers of live nodes

third_none : (a b c : Option Reason) → first_reason (a ∷ b ∷ c ∷ []) ≡ None → c ≡ None
third_none None None None is = refl
third_none None None (Some r) is = absurd (cc is)
third_none None (Some r) c is = absurd (cc is)
third_none (Some r) b c is = absurd (cc is)

unmapped : (f : ℕ → Reason) (found : Option ℕ) → option_map f found ≡ None → found ≡ None
unmapped f None is = refl
unmapped f (Some n) is = absurd (cc is)

module _ (x : PeerPart) where
  -- a number of a live node, with its serial
  abbrev IsLiveNumber : ℕ → Type 0
  IsLiveNumber n = (serial : ℕ) × (serial_of n x.nodes ≡ Some serial) × (live_serial x n ≡ Some serial)

  -- a serial where its node is live, and that there is none
  abbrev if_live : Option ℕ → Option ℕ
  if_live r = elim r [ None ↦ None | Some serial ↦ then_some (is_live (node_at x serial).state) serial ]

  abbrev is_absent : Option ℕ → Bool
  is_absent r = elim r [ None ↦ true | Some serial ↦ false ]

  live_number : (n : ℕ) → is_not_live x n ≡ false → IsLiveNumber n
  live_number n is = by (serial_of n x.nodes) refl is
    where
      by : (r : Option ℕ) → serial_of n x.nodes ≡ r → is_absent (if_live r) ≡ false
          → (serial : ℕ) × (serial_of n x.nodes ≡ Some serial) × (live_serial x n ≡ Some serial)
      by None same none = absurd (cc none)
      by (Some one) same some = at (is_live (node_at x one).state) refl some
        where
          at : (b : Bool) → is_live (node_at x one).state ≡ b → is_absent (then_some b one) ≡ false → (serial : ℕ) × (serial_of n x.nodes ≡ Some serial) × (live_serial x n ≡ Some serial)
          at false live none = absurd (cc none)
          at true live none = (one, same, ap if_live same ∙ ap (λ b. then_some b one) live)

  found_step : (n : ℕ) (rest : List ℕ) (serial : ℕ) → live_serial x n ≡ Some serial → filter_map (live_serial x) (n ∷ rest) ≡ serial ∷ filter_map (live_serial x) rest
  found_step n rest serial is = rw is refl

  all_live : (numbers : List ℕ) → find (is_not_live x) numbers ≡ None → map (λ n. serial_of n x.nodes) numbers ≡ map Some (destroy_serials x numbers)
  all_live [] none = refl
  all_live (n ∷ rest) none = by (is_not_live x n) refl none (all_live rest)
    where
      by : (b : Bool) → is_not_live x n ≡ b → cond b (Some n) (find (is_not_live x) rest) ≡ None → (find (is_not_live x) rest ≡ None → map (λ m. serial_of m x.nodes) rest ≡ map Some (destroy_serials x rest))
          → map (λ m. serial_of m x.nodes) (n ∷ rest) ≡ map Some (destroy_serials x (n ∷ rest))
      by true is some further = absurd (cc some)
      by false is none further =
          let k = live_number n is in
          ap (λ r. r ∷ map (λ m. serial_of m x.nodes) rest) k.1
          ∙ ap (λ l. Some k.0 ∷ l) (further none)
          ∙ sym (ap (map Some) (found_step n rest k.0 k.2))

  -- the numbers of a destruction that isn't refused name, in their order, the nodes that it dooms
  pub accepted_named : (numbers : List ℕ) → destroy_refusal x numbers ≡ None → map (λ n. serial_of n x.nodes) numbers ≡ map Some (destroy_serials x numbers)
  accepted_named numbers is = all_live numbers (unmapped (λ n. reason.Unknown n) (find (is_not_live x) numbers) (third_none (then_some (is_bad_destroy numbers) reason.Invalid) (overflow_reason x) (option_map (λ n. reason.Unknown n) (find (is_not_live x) numbers)) is))

  not_empty : (numbers : List ℕ) → is_bad_destroy numbers ≡ false → 1 ≤ length numbers
  not_empty [] is = absurd (cc is)
  not_empty (n ∷ rest) is = omega arith

  as_many : (f : ℕ → Option ℕ) (numbers serials : List ℕ) → map f numbers ≡ map Some serials → 1 ≤ length numbers → 1 ≤ length serials
  as_many f [] serials is some = absurd (omega (arith, some))
  as_many f (n ∷ rest) [] is some = absurd (cc is)
  as_many f (n ∷ rest) (serial ∷ more) is some = omega arith

  -- and these are some
  pub accepted_some : (numbers : List ℕ) → destroy_refusal x numbers ≡ None → 1 ≤ length (destroy_serials x numbers)
  accepted_some numbers is = as_many (λ n. serial_of n x.nodes) numbers (destroy_serials x numbers) (accepted_named numbers is) (not_empty numbers (not_bad x numbers is))

-- ---- all nodes that aren't destroyed

-- what of a node says whether a flush dooms it
abbrev pub is_gone : NodePart → Bool
is_gone n = is_destroyed n.state

pub undestroyed_same : (here : ℕ) (ns ms : List NodePart) → map is_gone ms ≡ map is_gone ns → undestroyed here ms ≡ undestroyed here ns
undestroyed_same here [] [] same = refl
undestroyed_same here [] (m ∷ ms) same = absurd (cc same)
undestroyed_same here (n ∷ ns) [] same = absurd (cc same)
undestroyed_same here (n ∷ ns) (m ∷ ms) same =
    let first : is_gone m ≡ is_gone n = ap (λ l. get_or l 0 false) same in
    let rest : map is_gone ms ≡ map is_gone ns = ap (λ l. elim l [ [] ↦ [] | b ∷ more ↦ more ]) same in
    ap (λ l. cond (is_gone m) l (here ∷ l)) (undestroyed_same (here + 1) ns ms rest)
    ∙ ap (λ b. cond b (undestroyed (here + 1) ns) (here ∷ undestroyed (here + 1) ns)) first

-- where no node is dying, those that aren't destroyed are live
pub undestroyed_live : (here : ℕ) (ns : List NodePart) → ((i : ℕ) → is_dying (get_or ns i no_node).state ≡ false) → undestroyed here ns ≡ live_serials here ns
undestroyed_live here [] none = refl
undestroyed_live here (n ∷ ns) none = by n.state (none 0) (undestroyed_live (here + 1) ns (λ i. none (suc i)))
  where
    by : (state : NodeState) → is_dying state ≡ false → undestroyed (here + 1) ns ≡ live_serials (here + 1) ns
        → cond (is_destroyed state) (undestroyed (here + 1) ns) (here ∷ undestroyed (here + 1) ns) ≡ cond (is_live state) (here ∷ live_serials (here + 1) ns) (live_serials (here + 1) ns)
    by Live is further = ap (λ l. here ∷ l) further
    by Dying is further = absurd (cc is)
    by (Destroyed stamp) is further = further

gone_get : (ns : List NodePart) (i : ℕ) → get_or (map is_gone ns) i true ≡ is_gone (get_or ns i no_node)
gone_get [] i = refl
gone_get (n ∷ ns) zero = refl
gone_get (n ∷ ns) (suc i) = gone_get ns i

-- nodes that begin to die aren't destroyed by it
pub dying_gone : (serials : List ℕ) (ns : List NodePart) → ((i : ℕ) → Has serials i → is_gone (get_or ns i no_node) ≡ false) → map is_gone (with_nodes serials (in_state Dying) ns) ≡ map is_gone ns
dying_gone [] ns live = refl
dying_gone (one ∷ rest) ns live =
    let same : map is_gone (with_node one (in_state Dying) ns) ≡ map is_gone ns = map_set is_gone ns one (in_state Dying (get_or ns one no_node)) no_node (sym (live one (inl refl))) in
    dying_gone rest (with_node one (in_state Dying) ns) (λ i h. sym (gone_get (with_node one (in_state Dying) ns) i) ∙ ap (λ l. get_or l i true) same ∙ gone_get ns i ∙ live i (inr h))
    ∙ same

live_not_gone : (state : NodeState) → is_live state ≡ true → is_destroyed state ≡ false
live_not_gone state live = by (is_destroyed state) refl
  where
    by : (b : Bool) → is_destroyed state ≡ b → is_destroyed state ≡ false
    by true is = absurd (live_apart state live is)
    by false is = is

-- where no node is dying, a reset dooms all that aren't destroyed
pub reset_undestroyed : (command : Command) (x : PeerPart) → begin_serials command x ≡ reset_serials x → ((i : ℕ) → is_dying (node_at x i).state ≡ false) → undestroyed 0 (with_nodes (reset_serials x) (in_state Dying) x.nodes) ≡ reset_serials x
reset_undestroyed command x is none =
    undestroyed_same 0 x.nodes (with_nodes (reset_serials x) (in_state Dying) x.nodes) (dying_gone (reset_serials x) x.nodes (λ i h. live_not_gone (node_at x i).state (begun_live x command i (subst (λ l. Has l i) (sym is) h))))
    ∙ undestroyed_live 0 x.nodes none
