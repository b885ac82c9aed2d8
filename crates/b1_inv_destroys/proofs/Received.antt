-- What else of the record stays from a step to the next: the node of a notice's key, and what was received.
use Rattle.std.proofs.Common.{◌≡◌, refl, sym, ap, subst, ◌∙◌, ℕ, ◌==◌, Bool, true, false, cond, List, [], ◌∷◌, ◌++◌, find, take, Option, Some}
use Rattle.std.specs.Prelude.{slice_get}
use Rattle.std.proofs.lemmas.List.{take-append-le}
use Rattle.std.proofs.lemmas.Option.{slice_get_within}
use native.Mathlib.Omega.{arith}
use Rattle.b1_model.specs.declared.commands.Command.{Command}
use Rattle.b1_model.specs.declared.naming.Key.{Key}
use Rattle.b1_model.specs.declared.naming.Opening.{Opening}
use Rattle.b1_model.specs.Names.{Node, calls_of, epoch_in}
use Rattle.b1_model.specs.Ledger.{Destruction, destructions_of, node_at, doomed_at}
use Rattle.b1_model.specs.MachineParts.{State}
use Rattle.b1_model.specs.MachineStep.{Step, record_of_state}
use Rattle.b1_ledger.proofs.Sequences.{slice_get-append}
use Rattle.b1_inv.specs.Sound.{IsSound}
use Rattle.b1_inv_record.specs.Epochs.{WasReceivedIn}
use Rattle.b1_inv_record.specs.Numbers.{DestroysOwn}
use Rattle.b1_inv_destroys.proofs.Recorded.{recorded, as_many, record_grows}
use Rattle.b1_inv_destroys.proofs.Dooms.{AllOwn, dooms_grow}
use Rattle.b1_inv_destroys.proofs.Stays.{recorded_own}

node_stays : (i stamp : ℕ) (ds es : List Destruction) (x : Node) → node_at i (find (λ d. d.stamp == stamp) ds) ≡ Some x → node_at i (find (λ d. d.stamp == stamp) (ds ++ es)) ≡ Some x
node_stays i stamp [] es x is = absurd (cc is)
node_stays i stamp (d ∷ rest) es x is = by (d.stamp == stamp) (node_stays i stamp rest es x) is
  where
    by : (b : Bool) → (node_at i (find (λ e. e.stamp == stamp) rest) ≡ Some x → node_at i (find (λ e. e.stamp == stamp) (rest ++ es)) ≡ Some x)
        → node_at i (cond b (Some d) (find (λ e. e.stamp == stamp) rest)) ≡ Some x → node_at i (cond b (Some d) (find (λ e. e.stamp == stamp) (rest ++ es))) ≡ Some x
    by true further here = here
    by false further here = further here

module _ {o : Opening} {s : State} {p : ℕ} {c : Option Command} {t : State} (sound : IsSound o s) (step : Step o s p c t) where
  -- the node of a notice's key
  pub node_of_key_stays : DestroysOwn s → (key : Key) (x : Node) → doomed_at o.wires (record_of_state s) key ≡ Some x → doomed_at o.wires (record_of_state t) key ≡ Some x
  node_of_key_stays own key x is =
      let more = record_grows sound step key.origin in
      let all : AllOwn (calls_of (record_of_state s) key.origin) = subst AllOwn (sym (recorded s key.origin (as_many sound step))) (recorded_own s own key.origin (slice_get s.drivers key.origin) refl) in
      let ds = dooms_grow o.wires (record_of_state s) (record_of_state t) key.origin more.0 more.1 all in
      ap (λ list. node_at key.index (find (λ d. d.stamp == key.stamp) list)) ds.1
      ∙ node_stays key.index key.stamp (destructions_of o.wires (record_of_state s) key.origin) ds.0 x is

  -- what a peer received in an epoch
  pub received_stays : (q epoch : ℕ) (key : Key) → WasReceivedIn s q epoch key → WasReceivedIn t q epoch key
  received_stays q epoch key (k, one, at, got, same) =
      let more = record_grows sound step q in
      let low = slice_get_within (calls_of (record_of_state s) q) k one at in (
        k,
        one,
        ap (λ calls. slice_get calls k) more.1 ∙ slice_get-append (calls_of (record_of_state s) q) more.0 k one at,
        got,
        ap (λ calls. epoch_in 0 (take k calls)) more.1 ∙ ap (epoch_in 0) (take-append-le k (calls_of (record_of_state s) q) more.0 (omega (arith, low))) ∙ same,
      )
