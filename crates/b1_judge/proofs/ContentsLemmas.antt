-- What the look-ups at a receipt tell of its contents.
use Rattle.std.specs.Prelude.{◌≡◌, ℕ, ◌↔◌, Bool, List, slice_get, Option, Some, Result, IfOk, IsTrue}
use Rattle.std.specs.Borrow.{Bor}
use Rattle.std.specs.Option.{option_copied}
use Rattle.std.specs.declared.alloc.AllocError.{AllocError}
use Rattle.std.proofs.Common.{sym, ◌∙◌, ap, subst}
use Rattle.std.proofs.lemmas.Option.{same_Some}
use Rattle.std.proofs.lemmas.Result.{IfOk-weaker}
use Rattle.b1_model.specs.declared.naming.Key.{Key}
use Rattle.b1_model.specs.declared.answers.Receipt.{Receipt}
use Rattle.b1_model.specs.declared.answers.Receipt.TheVariants as rec
use Rattle.b1_model.specs.declared.answers.Answer.TheVariants as ans
use Rattle.b1_model.specs.declared.records.Call.{Call}
use Rattle.b1_model.specs.Names.{Node, calls_of, made}
use Rattle.b1_model.specs.Ledger.{Message, message, to_at, table, is_late}
use Rattle.b1_model.specs.Legal.{own_number_of, arrived, IsWhatWasSent, KeepsContents}
use Rattle.b1_judge_facts.specs.Facts.{Gathered, Place}
use Rattle.b1_judge.specs.Candidates.{IsAlong}
use Rattle.b1_judge.specs.Contents.{HasSent}
use Rattle.b1_judge.proofs.CandidateLemmas.{same_message, asked_of}

pub sent_by : (at : Place) (from : Gathered) (key : Key) (number : ℕ) (handles payload : List ℕ) → IsAlong at from → (o : Option (Bor Message)) (m : Bor Message) → option_copied o ≡ message from.wires from.rec key.stamp key.origin → o ≡ Some m → (own : Option ℕ) (place : Option Node) (sent : List ℕ) (carried : List (Option Node)) (got : List ℕ) (b : Bool) → own ≡ own_number_of (made at.wires at.rec at.peer at.call) place → place ≡ to_at m.now key.index → sent ≡ m.now.payload → carried ≡ m.now.carried → got ≡ arrived (λ x. is_late at.wires at.rec x key) at.peer (made at.wires at.rec at.peer at.call) carried (table at.wires at.rec at.peer at.call) → (IsTrue b ↔ ((own ≡ Some number) × (payload ≡ sent) × (handles ≡ got))) → (IsTrue b ↔ HasSent at key number handles payload)
sent_by at from key number handles payload along o m is found own place sent carried got b own_is place_is sent_is carried_is got_is h =
    let e : message at.wires at.rec key.stamp key.origin ≡ Some m.now = same_message at from key.stamp key.origin along ∙ sym is ∙ ap option_copied found in
    let own_to : own ≡ own_number_of (made at.wires at.rec at.peer at.call) (to_at m.now key.index) = own_is ∙ ap (own_number_of (made at.wires at.rec at.peer at.call)) place_is in
    let got_all : got ≡ arrived (λ x. is_late at.wires at.rec x key) at.peer (made at.wires at.rec at.peer at.call) m.now.carried (table at.wires at.rec at.peer at.call) = got_is ∙ ap (λ xs. arrived (λ x. is_late at.wires at.rec x key) at.peer (made at.wires at.rec at.peer at.call) xs (table at.wires at.rec at.peer at.call)) carried_is in (
      (λ t. (let all = h.0 t in (m.now, e, record { number = sym own_to ∙ all.0; payload = all.1 ∙ sent_is; handles = all.2 ∙ got_all }))),
      (λ g. h.1 (let same = same_Some _ _ (sym g.1 ∙ e) in (
        own_to ∙ ap (λ (n : Message). own_number_of (made at.wires at.rec at.peer at.call) (to_at n key.index)) (sym same) ∙ g.2.number,
        g.2.payload ∙ ap (λ (n : Message). n.payload) same ∙ sym sent_is,
        g.2.handles ∙ ap (λ (n : Message). arrived (λ x. is_late at.wires at.rec x key) at.peer (made at.wires at.rec at.peer at.call) n.carried (table at.wires at.rec at.peer at.call)) same ∙ sym got_all,
      ))),
    )

-- a message receipt, with its lists as they were read
pub sent_is : (at : Place) (receipt : Receipt) (key : Key) (number offset : ℕ) (handles payload : List ℕ) → receipt ≡ rec.Message key number offset handles payload → (hs bs : List ℕ) → hs ≡ handles → bs ≡ payload → (r : Result Bool AllocError) → IfOk r (λ b. IsTrue b ↔ HasSent at key number hs bs) → IfOk r (λ b. IsTrue b ↔ IsWhatWasSent at.wires at.rec at.peer at.call (ans.Got receipt))
sent_is at receipt key number offset handles payload is hs bs hs_is bs_is r h =
    subst (λ (x : Receipt). IfOk r (λ b. IsTrue b ↔ IsWhatWasSent at.wires at.rec at.peer at.call (ans.Got x))) (sym is)
    (subst (λ (xs : List ℕ). IfOk r (λ b. IsTrue b ↔ HasSent at key number xs payload)) hs_is
    (subst (λ (xs : List ℕ). IfOk r (λ b. IsTrue b ↔ HasSent at key number hs xs)) bs_is h))

-- the call before which a walk stands keeps the contents
pub contents_by : (at : Place) (c : Call) → slice_get (calls_of at.rec at.peer) at.call ≡ Some c → (r : Result Bool AllocError) → IfOk r (λ b. IsTrue b ↔ IsWhatWasSent at.wires at.rec at.peer at.call c.answer) → IfOk r (λ b. IsTrue b ↔ KeepsContents at.wires at.rec at.peer at.call)
contents_by at c here r h =
    IfOk-weaker r (λ b. IsTrue b ↔ IsWhatWasSent at.wires at.rec at.peer at.call c.answer) (λ b. IsTrue b ↔ KeepsContents at.wires at.rec at.peer at.call)
    (λ b g. ((λ e. asked_of (λ a. IsWhatWasSent at.wires at.rec at.peer at.call a) (slice_get (calls_of at.rec at.peer) at.call) c here (g.0 e)), (λ kept. g.1 (kept c here)))) h
