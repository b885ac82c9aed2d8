-- Where no answer shows want of memory, memory is wanting at no place.
use Rattle.std.proofs.Common.{◌≡◌, refl, sym, ap, ◌∙◌, ℕ, zero, suc, Bool, true, false, ◌&&◌, ◌||◌, List, [], ◌∷◌, Option, Some, None}
use Rattle.std.specs.Prelude.{slice_get}
use Rattle.std.specs.List.{list_any}
use Rattle.b1_model.specs.declared.answers.Answer.{Answer}
use Rattle.b1_model.specs.declared.answers.Answer.TheVariants as answer
use Rattle.b1_model.specs.declared.answers.Reason.{Reason}
use Rattle.b1_model.specs.declared.commands.Command.{Command}
use Rattle.b1_model.specs.declared.records.Call.{Call}
use Rattle.b1_model.specs.declared.records.PeerCalls.{PeerCalls}
use Rattle.b1_model.specs.declared.records.Record.{Record}
use Rattle.b1_model.specs.Names.{calls_in}
use Rattle.b1_model.specs.MachineDriver.{is_memory, send_of}
use Rattle.b1_schedule.specs.Shortage.{shortage_of, is_short_answer, is_short_place, same_place, is_behind}
use Rattle.b1_shortage.specs.Shown.{shows_shortage, some_short}

none_of : {X : Type 0} (test : X → Bool) (xs : List X) (i : ℕ) (x : X) → list_any test xs ≡ false → slice_get xs i ≡ Some x → test x ≡ false
none_of test [] i x none is = absurd (cc is)
none_of test (y ∷ rest) zero x none is = let same : y ≡ x = some_is is in ap test (sym same) ∙ left (test y) (list_any test rest) none
  where
    some_is : Some y ≡ Some x → y ≡ x
    some_is is = cc is

    left : (a b : Bool) → (a || b) ≡ false → a ≡ false
    left true b is = absurd (cc is)
    left false b is = refl
none_of test (y ∷ rest) (suc i) x none is = none_of test rest i x (right (test y) (list_any test rest) none) is
  where
    right : (a b : Bool) → (a || b) ≡ false → b ≡ false
    right true b is = absurd (cc is)
    right false b is = is

no_place : (places : List (Option Reason)) (place : Option ℕ) → list_any is_memory places ≡ false → is_short_place places place ≡ false
no_place places None none = refl
no_place places (Some i) none = by_found (slice_get places i) refl
  where
    by_found : (found : Option (Option Reason)) → slice_get places i ≡ found → elim (slice_get places i) [ None ↦ false | Some place ↦ is_memory place ] ≡ false
    by_found None is = ap (λ one. elim one [ None ↦ false | Some place ↦ is_memory place ]) is
    by_found (Some place) is = ap (λ one. elim one [ None ↦ false | Some other ↦ is_memory other ]) is ∙ none_of is_memory places i place none is

no_answer : (command : Command) (got : Answer) (place : Option ℕ) → shows_shortage got ≡ false → is_short_answer command got place ≡ false
no_answer command (answer.Sent sent) place none = no_place sent.places place none
no_answer command (answer.Refused refused) place none = ap (λ b. b && (same_place refused.place place || ((send_of command).go_on && is_behind refused.place place))) none
no_answer command got place none = refl

no_call : (calls : List Call) (k : ℕ) (place : Option ℕ) → list_any some_short calls ≡ false → elim (slice_get calls k) [ None ↦ false | Some call ↦ is_short_answer call.command call.answer place ] ≡ false
no_call calls k place none = by_found (slice_get calls k) refl
  where
    by_found : (found : Option Call) → slice_get calls k ≡ found → elim (slice_get calls k) [ None ↦ false | Some call ↦ is_short_answer call.command call.answer place ] ≡ false
    by_found None is = ap (λ one. elim one [ None ↦ false | Some call ↦ is_short_answer call.command call.answer place ]) is
    by_found (Some call) is = ap (λ one. elim one [ None ↦ false | Some other ↦ is_short_answer other.command other.answer place ]) is ∙ no_answer call.command call.answer place (none_of some_short calls k call none is)

pub nothing_short : (r : Record) → list_any (λ peer. list_any some_short peer.calls) r.peers ≡ false → (p k : ℕ) (place : Option ℕ) → shortage_of r p k place ≡ false
nothing_short r none p k place = by_peer (slice_get r.peers p) refl
  where
    by_peer : (found : Option PeerCalls) → slice_get r.peers p ≡ found → shortage_of r p k place ≡ false
    by_peer None is = ap (λ one. elim (slice_get (calls_in one) k) [ None ↦ false | Some call ↦ is_short_answer call.command call.answer place ]) is
    by_peer (Some peer) is =
        ap (λ one. elim (slice_get (calls_in one) k) [ None ↦ false | Some call ↦ is_short_answer call.command call.answer place ]) is
        ∙ no_call peer.calls k place (none_of (λ one. list_any some_short one.calls) r.peers p peer none is)
