-- Where a walk stands in a loop over the calls of a peer, and what that tells of the part.
use Rattle.std.specs.Prelude.{◌≡◌, ℕ, suc, ◌+◌, ◌<◌, List, length, None}
use Rattle.std.proofs.Common.{arith, sym, ◌∙◌, ap, subst, add-one}
use Rattle.b1_model.specs.declared.records.Call.{Call}
use Rattle.b1_model.specs.declared.records.Record.{Record}
use Rattle.b1_model.specs.Names.{calls_of}
use Rattle.b1_model.specs.Legal.{KeepsPrefix, KeepsContents, HasNoNext}
use Rattle.b1_judge_facts.specs.Facts.{Gathered, Place}
use Rattle.b1_judge.specs.Candidates.{HasCandidate}
use Rattle.b1_judge.specs.Frame.{IsCall, IsEnd, IsFirst}
use Rattle.b1_judge.proofs.CandidateLemmas.{no_next_by, next_by}

-- before call k of p of what was gathered
abbrev pub place : Gathered → ℕ → ℕ → Place
place from p k = record { wires = from.wires; rec = from.rec; peer = p; call = k }

-- past one more call
pub walk_next : (at next : Place) (from : Gathered) (p k : ℕ) → at ≡ place from p k → next ≡ record at { call = suc at.call } → next ≡ place from p (k + 1)
walk_next at next from p k e f = f ∙ ap (λ (x : Place). record x { call = suc x.call }) e ∙ ap (place from p) (sym (add-one k))

-- the calls that were read are the peer's
pub calls_read : (calls : List Call) (r : Record) (from : Gathered) (p : ℕ) → calls ≡ calls_of r p → r ≡ from.rec → length calls ≡ length (calls_of from.rec p)
calls_read calls r from p e f = ap length e ∙ ap (λ (x : Record). length (calls_of x p)) f

module _ (at : Place) (from : Gathered) (p k : ℕ) (e : at ≡ place from p k) where
  pub prefix_here : KeepsPrefix at.wires at.rec at.peer at.call → KeepsPrefix from.wires from.rec p k
  prefix_here h = subst (λ (x : Place). KeepsPrefix x.wires x.rec x.peer x.call) e h

  pub contents_here : KeepsContents at.wires at.rec at.peer at.call → KeepsContents from.wires from.rec p k
  contents_here h = subst (λ (x : Place). KeepsContents x.wires x.rec x.peer x.call) e h

  pub prefix_broken : (n : ℕ) → n ≡ at.call → p < length from.rec.peers → k < length (calls_of from.rec p) → ((j : ℕ) → j < k → KeepsPrefix from.wires from.rec p j) → ¬ KeepsPrefix at.wires at.rec at.peer at.call → IsFirst (IsCall from.rec p) (KeepsPrefix from.wires from.rec p) n
  prefix_broken n is l m kept fails =
      let n_is : n ≡ k = is ∙ ap (λ (x : Place). x.call) e in
      subst (λ i. IsFirst (IsCall from.rec p) (KeepsPrefix from.wires from.rec p) i) (sym n_is) (record {
        tried = (l, m);
        broken = λ h. fails (subst (λ (x : Place). KeepsPrefix x.wires x.rec x.peer x.call) (sym e) h);
        below = λ j b t. kept j b;
      })

  pub contents_broken : (n : ℕ) → n ≡ at.call → p < length from.rec.peers → k < length (calls_of from.rec p) → ((j : ℕ) → j < k → KeepsContents from.wires from.rec p j) → ¬ KeepsContents at.wires at.rec at.peer at.call → IsFirst (IsCall from.rec p) (KeepsContents from.wires from.rec p) n
  contents_broken n is l m kept fails =
      let n_is : n ≡ k = is ∙ ap (λ (x : Place). x.call) e in
      subst (λ i. IsFirst (IsCall from.rec p) (KeepsContents from.wires from.rec p) i) (sym n_is) (record {
        tried = (l, m);
        broken = λ h. fails (subst (λ (x : Place). KeepsContents x.wires x.rec x.peer x.call) (sym e) h);
        below = λ j b t. kept j b;
      })

  pub whole_broken : (n : ℕ) → n ≡ at.call → p < length from.rec.peers → k ≡ length (calls_of from.rec p) → HasCandidate at None → IsFirst (IsEnd from.rec p) (HasNoNext from.wires from.rec p) n
  whole_broken n is l m h =
      let n_is : n ≡ k = is ∙ ap (λ (x : Place). x.call) e in
      subst (λ i. IsFirst (IsEnd from.rec p) (HasNoNext from.wires from.rec p) i) (sym n_is) (record {
        tried = (l, m);
        broken = λ none. next_by at h (subst (λ (x : Place). HasNoNext x.wires x.rec x.peer x.call) (sym e) none);
        below = λ j b t. absurd (omega (arith, b, m, t.1));
      })

  pub whole_kept : k ≡ length (calls_of from.rec p) → (HasCandidate at None → ⊥) → (j : ℕ) → IsEnd from.rec p j → HasNoNext from.wires from.rec p j
  whole_kept m none j t =
      subst (λ i. HasNoNext from.wires from.rec p i) (m ∙ sym t.1)
      (subst (λ (x : Place). HasNoNext x.wires x.rec x.peer x.call) e (no_next_by at none))
