-- What a driver's part shows after an event, it showed before: no event takes back where memory was wanting.
use Rattle.std.proofs.Common.{max, ◌≡◌, refl, sym, ap, ◌∙◌, arith, ℕ, ◌+◌, ◌<◌, Bool, true, false, cond, ◌==◌, ◌&&◌, ◌||◌, nat_le, nat_lt, List, [], ◌∷◌, ◌++◌, slice_get, get_or, length, Option, Some, None, Ok, Err, Result}
use Rattle.std.proofs.Math.Bool.{and-false}
use Rattle.b1_model.specs.declared.answers.Answer.TheVariants as answer
use Rattle.b1_model.specs.declared.answers.Reason.{Reason}
use Rattle.b1_model.specs.declared.answers.Reason.TheVariants as reason
use Rattle.b1_model.specs.declared.answers.Refused.{Refused}
use Rattle.b1_model.specs.declared.commands.Command.{Command}
use Rattle.b1_model.specs.declared.parts.Begun.{Begun}
use Rattle.b1_model.specs.declared.events.Phase.TheVariants.{Staging, Unstaging, Attaching, Stamping}
use Rattle.b1_model.specs.declared.events.Sending.{Sending}
use Rattle.b1_model.specs.MachineDriver.{Turn, Goes, Ends, send_of, is_memory, is_place, accepted_from, memory_place, all_refused, attaching, all_staged, staging, unstaging, place_done, refused_at}
use Rattle.b1_model.specs.MachineTook.{is_await, sent_answer}
use Rattle.b1_schedule.specs.Shortage.{Shortage, is_short_place, is_short_refusal, is_short_answer}
use Rattle.b1_schedule.specs.Agreement.{AnswerAgrees, PlacesAgree, PhaseAgrees}
use Rattle.b1_schedule.proofs.Places.{some_accepted, older_place, none_short, first_short, place_below}

-- what a turn shows
abbrev pub TurnAgrees : Shortage → ℕ → ℕ → Command → Turn → Type 0
TurnAgrees m me k command (Goes phase) = PhaseAgrees m me k command phase
TurnAgrees m me k command (Ends got) = AnswerAgrees m me k command got

-- no refusal with a place is of the begin
at_begin : (b g : Bool) → (b && (g && false)) ≡ false
at_begin true g = and-false g
at_begin false g = refl

module _ (m : Shortage) (me k : ℕ) (command : Command) (plain : is_await command ≡ false) where
  -- a place more doesn't take back what the older ones show
  pub older : (places : List (Option Reason)) (new : Option Reason) → PlacesAgree m me k command (places ++ new ∷ []) → PlacesAgree m me k command places
  older places new h = record {
    begin = h.begin;
    accepted = λ i is. h.accepted i (older_place places new i None is);
    refused = λ go i place is short. h.refused go i place (older_place places new i place is) short;
  }

  -- a refusal at a place shows want of memory at no earlier one
  earlier : (r : Reason) (a i : ℕ) → i < a → is_short_refusal command (record { reason = r; place = Some a }) (Some i) ≡ false
  earlier r a i below = by_reason (is_memory (Some r)) (a == i) (send_of command).go_on (nat_le (a + 1) i) (grind (arith, below)) (grind (arith, below))
    where
      by_reason : (b c g l : Bool) → c ≡ false → l ≡ false → (b && (c || (g && l))) ≡ false
      by_reason true c true l first second = cc (first, second)
      by_reason true c false l first second = cc (first, second)
      by_reason false c g l first second = refl

  -- an accepted place and the answer of a SEND without one exclude each other
  from_all_refused : (places : List (Option Reason)) → is_place (accepted_from 0 places) places ≡ false → AnswerAgrees m me k command (all_refused places) → PlacesAgree m me k command places
  from_all_refused places none h = by_place (memory_place 0 places) refl (h plain)
    where
      later : (b g l : Bool) → g ≡ true → (b || l) ≡ true → (b || (g && l)) ≡ true
      later true g l go is = refl
      later false true l go is = is
      later false false l go is = absurd (cc go)

      by_first : (first : Option Reason) → is_short_answer command (elim first [ None ↦ refused_at reason.Invalid None | Some r ↦ refused_at r (Some 0) ]) None ≡ false
      by_first None = refl
      by_first (Some r) = at_begin (is_memory (Some r)) (send_of command).go_on

      by_place : (first : Option ℕ) → first ≡ memory_place 0 places → ((place : Option ℕ) → m me k place ≡ is_short_answer command (elim first [ Some place ↦ refused_at reason.Memory (Some place) | None ↦ elim (get_or places 0 None) [ None ↦ refused_at reason.Invalid None | Some r ↦ refused_at r (Some 0) ] ]) place) → PlacesAgree m me k command places
      by_place (Some a) same agrees = record {
        begin = agrees None ∙ and-false (send_of command).go_on;
        accepted = λ i is. absurd (cc (none, some_accepted places i is));
        refused = λ go i place is short. agrees (Some i) ∙ later (a == i) (send_of command).go_on (nat_le (a + 1) i) go (grind (arith, first_short 0 places a (sym same) i place is short));
      }
      by_place None same agrees = record {
        begin = agrees None ∙ by_first (get_or places 0 None);
        accepted = λ i is. absurd (cc (none, some_accepted places i is));
        refused = λ go i place is short. absurd (cc (short, none_short 0 places (sym same) i place is));
      }

  pub from_staging : (nodes : Begun) (places : List (Option Reason)) (collected : ℕ) → TurnAgrees m me k command (staging nodes places collected) → PlacesAgree m me k command places
  from_staging nodes places collected h = by_length (nat_lt (length places) (length nodes.to)) (is_place (accepted_from 0 places) places) refl h
    where
      by_attach : (b : Bool) (sending : Sending) (p : ℕ) (c : Bool) → TurnAgrees m me k command (Goes (cond b (Attaching sending p 0) (cond c (Attaching sending (accepted_from (p + 1) sending.places) 0) (Stamping sending)))) → PlacesAgree m me k command sending.places
      by_attach true sending p c h = h plain
      by_attach false sending p true h = h plain
      by_attach false sending p false h = h plain

      by_length : (b c : Bool) → c ≡ is_place (accepted_from 0 places) places → TurnAgrees m me k command (cond b (Goes (Staging nodes places collected)) (cond c (Goes (attaching (all_staged nodes places collected) (accepted_from 0 places) 0)) (Ends (all_refused places)))) → PlacesAgree m me k command places
      by_length true c same h = h plain
      by_length false true same h = by_attach (nat_lt 0 (length nodes.with)) (all_staged nodes places collected) (accepted_from 0 places) (nat_lt 0 (length nodes.with) && is_place (accepted_from (accepted_from 0 places + 1) places) places) h
      by_length false false same h = from_all_refused places (sym same) h

  -- one place is done
  pub with_place : (nodes : Begun) (places : List (Option Reason)) (collected : ℕ) (got : Result ℕ Reason) → TurnAgrees m me k command (place_done command nodes places collected got) → PlacesAgree m me k command places
  with_place nodes places collected (Ok clock) h = older places None (from_staging nodes (places ++ None ∷ []) (max collected clock) h)
  with_place nodes places collected (Err r) h = by_go (send_of command).go_on refl h
    where
      refused : Refused
      refused = record { reason = r; place = Some (length places) }

      from_refusal : false ≡ (send_of command).go_on → AnswerAgrees m me k command (answer.Refused refused) → PlacesAgree m me k command places
      from_refusal stops agrees = record {
        begin = agrees plain None ∙ at_begin (is_memory (Some r)) (send_of command).go_on;
        accepted = λ i is. agrees plain (Some i) ∙ earlier r (length places) i (place_below places i None is);
        refused = λ go i place is short. absurd (cc (stops, go));
      }

      by_unstaging : (b : Bool) (first : ℕ) → false ≡ (send_of command).go_on → TurnAgrees m me k command (cond b (Goes (Unstaging nodes (places ++ Some r ∷ []) refused first)) (Ends (answer.Refused refused))) → PlacesAgree m me k command places
      by_unstaging true first stops h = from_refusal stops h
      by_unstaging false first stops h = from_refusal stops h

      by_go : (b : Bool) → b ≡ (send_of command).go_on → TurnAgrees m me k command (cond b (staging nodes (places ++ Some r ∷ []) collected) (unstaging nodes (places ++ Some r ∷ []) refused (accepted_from 0 (places ++ Some r ∷ [])))) → PlacesAgree m me k command places
      by_go true same h = older places (Some r) (from_staging nodes (places ++ Some r ∷ []) collected h)
      by_go false same h = by_unstaging (is_place (accepted_from 0 (places ++ Some r ∷ [])) (places ++ Some r ∷ [])) (accepted_from 0 (places ++ Some r ∷ [])) same h

  -- from the answer of an accepted SEND
  pub from_sent : (sending : Sending) (stamp : ℕ) → AnswerAgrees m me k command (sent_answer sending stamp) → PlacesAgree m me k command sending.places
  from_sent sending stamp agrees = record {
    begin = agrees plain None;
    accepted = λ i is. agrees plain (Some i) ∙ at_place i None is;
    refused = λ go i place is short. agrees plain (Some i) ∙ at_place i place is ∙ short;
  }
    where
      at_place : (i : ℕ) (place : Option Reason) → slice_get sending.places i ≡ Some place → is_short_place sending.places (Some i) ≡ is_memory place
      at_place i place is = ap (λ s. elim s [ None ↦ false | Some one ↦ is_memory one ]) is
