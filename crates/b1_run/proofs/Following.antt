-- A driver that does the next command of a list, or receives behind the last one, follows the list.
use Rattle.std.proofs.Common.{◌≡◌, ◌⊎◌, ℕ, zero, suc, ◌+◌, ◌≤◌, ◌<◌, ◌||◌, true, false, List, [], ◌∷◌, ◌++◌, length, take, slice_get, Option, Some, None, refl, sym, ap, ◌∙◌, subst, inl, inr, arith}
use Rattle.std.proofs.lemmas.Bool.{cases_lt}
use Rattle.std.proofs.lemmas.List.{length-append, take_all}
use Rattle.b1_model.specs.declared.commands.Command.{Command}
use Rattle.b1_model.specs.declared.commands.Command.TheVariants as cmd
use Rattle.b1_model.specs.declared.answers.Answer.{Answer}
use Rattle.b1_model.specs.declared.answers.Answer.TheVariants as ans
use Rattle.b1_model.specs.declared.answers.Reason.{Reason}
use Rattle.b1_model.specs.declared.answers.Reason.TheVariants as reason
use Rattle.b1_model.specs.declared.records.Call.{Call}
use Rattle.b1_model.specs.Script.{resolved, fits, ends_await, is_receipt, IsCallOf, IsInPlace}
use Rattle.b1_model.specs.MachineParts.{DriverPart}
use Rattle.b1_model.specs.MachineTook.{as_call, is_waiting}
use Rattle.b1_play_commands.specs.Following.{AllInPlace}
use Rattle.b1_commands.specs.Done.{Called, HasEnded, RefusesRight, is_shutdown, leaves}
use Rattle.b1_locks.specs.Faces.{BusFace, DriverFace, Member, member}
use Rattle.b1_run.specs.Workers.{IsAt, HasRoom}

-- ---- one call more

get_before : {A : Type 0} (xs : List A) (y : A) (k : ℕ) → k < length xs → slice_get (xs ++ y ∷ []) k ≡ slice_get xs k
get_before [] y k within = absurd (omega (arith, within))
get_before (x ∷ xs) y zero within = refl
get_before (x ∷ xs) y (suc k) within = get_before xs y k (omega (arith, within))

get_last : {A : Type 0} (xs : List A) (y : A) → slice_get (xs ++ y ∷ []) (length xs) ≡ Some y
get_last [] y = refl
get_last (x ∷ xs) y = get_last xs y

take_before : {A : Type 0} (xs : List A) (y : A) (k : ℕ) → k ≤ length xs → take k (xs ++ y ∷ []) ≡ take k xs
take_before xs y zero within = refl
take_before [] y (suc k) within = absurd (omega (arith, within))
take_before (x ∷ xs) y (suc k) within = ap (λ l. x ∷ l) (take_before xs y k (omega (arith, within)))

within : {A : Type 0} (xs : List A) (k : ℕ) (y : A) → slice_get xs k ≡ Some y → k < length xs
within [] k y is = absurd (cc is)
within (x ∷ xs) zero y is = omega arith
within (x ∷ xs) (suc k) y is = omega (arith, within xs k y is)

module _ (commands : List Command) (calls : List Call) (follows : AllInPlace commands calls) (call : Call) (here : IsInPlace calls (slice_get commands (length calls)) (Some call)) where
  pub in_place_more : AllInPlace commands (calls ++ call ∷ [])
  in_place_more k other is = elim (cases_lt k (length calls)) [
    | inl less ↦
        let before : slice_get calls k ≡ Some other = sym (get_before calls call k less) ∙ is in
        subst (λ l. IsInPlace l (slice_get commands k) (Some other)) (sym (take_before calls call k (omega arith))) (follows k other before)
    | inr least ↦
        let short : k < length (calls ++ call ∷ []) = within (calls ++ call ∷ []) k other is in
        let one : length (calls ++ call ∷ []) ≡ length calls + 1 = length-append calls (call ∷ []) in
        let last : k ≡ length calls = omega arith in
        let same : Some call ≡ Some other = sym (get_last calls call) ∙ ap (slice_get (calls ++ call ∷ [])) (sym last) ∙ is in
        let whole : take k (calls ++ call ∷ []) ≡ calls = take_before calls call k (omega arith) ∙ take_all k calls (omega arith) in
        subst (λ l. IsInPlace l (slice_get commands k) (Some other)) (sym whole)
        (subst (λ i. IsInPlace calls (slice_get commands i) (Some other)) (sym last)
        (subst (λ o. IsInPlace calls (slice_get commands (length calls)) o) same here))
  ]

-- ---- what ends an AWAIT

refused_ends : (r : Reason) (place : Option ℕ) → is_waiting cmd.Await (ans.Refused (record { reason = r; place = place })) ≡ false → RefusesRight cmd.Await (ans.Refused (record { reason = r; place = place }))
    → (is_shutdown (ans.Refused (record { reason = r; place = place })) ≡ true) × (ends_await (ans.Refused (record { reason = r; place = place })) ≡ true)
refused_ends reason.Shutdown place taken right = (refl, refl)
refused_ends (reason.Again front) place taken right = absurd (cc taken)
refused_ends (reason.Unknown number) place taken right = absurd (cc right.0)
refused_ends reason.Memory place taken right = absurd (cc right.0)
refused_ends reason.Invalid place taken right = absurd (cc right.0)
refused_ends (reason.Full asked largest) place taken right = absurd (cc right.0)
refused_ends (reason.Overflow clock) place taken right = absurd (cc right.0)
refused_ends (reason.Size len) place taken right = absurd (cc right.0)
refused_ends (reason.Gone owner serial) place taken right = absurd (cc right.0)
refused_ends (reason.Quota what own others limit asked) place taken right = absurd (cc right.0)

-- by its answer: a receipt, or refused for a disconnect
await_ends : (got : Answer) → fits cmd.Recv got ≡ true → is_waiting cmd.Await got ≡ false → RefusesRight cmd.Await got → ((is_receipt got ≡ true) × (ends_await got ≡ true)) ⊎ ((is_shutdown got ≡ true) × (ends_await got ≡ true))
await_ends (ans.Got receipt) kind taken right = inl (refl, refl)
await_ends (ans.Refused b) kind taken right = inr (refused_ends b.reason b.place taken right)
await_ends (ans.Sent sent) kind taken right = absurd (cc kind)
await_ends ans.Done kind taken right = absurd (cc kind)
await_ends (ans.Destroyed stamp) kind taken right = absurd (cc kind)
await_ends (ans.Reset stamp) kind taken right = absurd (cc kind)
await_ends (ans.Info user pool limits) kind taken right = absurd (cc kind)

ends_true : (got : Answer) → ((is_receipt got ≡ true) × (ends_await got ≡ true)) ⊎ ((is_shutdown got ≡ true) × (ends_await got ≡ true)) → ends_await got ≡ true
ends_true got (inl h) = h.1
ends_true got (inr h) = h.1

receipt_true : (got : Answer) → is_shutdown got ≡ false → ((is_receipt got ≡ true) × (ends_await got ≡ true)) ⊎ ((is_shutdown got ≡ true) × (ends_await got ≡ true)) → is_receipt got ≡ true
receipt_true got there (inl h) = h.0
receipt_true got there (inr h) = absurd (let no : true ≡ false = sym h.0 ∙ there in cc no)

-- ---- the next command

-- a command that has ended stands in the place of its unresolved form
called : (c : Command) (calls : List Call) (d e : DriverPart) (got : Answer) → Called d (resolved c calls) got e → IsCallOf c calls (record { command = as_call (resolved c calls); answer = got })
called cmd.Await calls d e got k = (refl, ends_true got (await_ends got k.kind.0 k.taken k.refused))
called cmd.Disconnect calls d e got k = (refl, k.kind.0, k.kind.1)
called cmd.Query calls d e got k = (refl, k.kind.0, k.kind.1)
called (cmd.Reset limits) calls d e got k = (refl, k.kind.0, k.kind.1)
called (cmd.Limit limits) calls d e got k = (refl, k.kind.0, k.kind.1)
called (cmd.Release number) calls d e got k = (refl, k.kind.0, k.kind.1)
called (cmd.Destroy numbers) calls d e got k = (refl, k.kind.0, k.kind.1)
called (cmd.SliceRelease offset) calls d e got k = (refl, k.kind.0, k.kind.1)
called (cmd.Send s) calls d e got k = (refl, k.kind.0, k.kind.1)
called cmd.Recv calls d e got k = (refl, k.kind.0, k.kind.1)

module _ (commands : List Command) (d e : DriverPart) (follows : AllInPlace commands d.calls) where
  -- after the next command, its references resolved
  pub next_follows : (c : Command) → slice_get commands (length d.calls) ≡ Some c → HasEnded d (resolved c d.calls) e → AllInPlace commands e.calls
  next_follows c is (inl (got, k)) =
      subst (AllInPlace commands) (sym k.calls) (in_place_more commands d.calls follows (record { command = as_call (resolved c d.calls); answer = got })
      (subst (λ o. IsInPlace d.calls o (Some (record { command = as_call (resolved c d.calls); answer = got }))) (sym is) (called c d.calls d e got k)))
  next_follows c is (inr (await, front, removed, w)) = subst (AllInPlace commands) (sym w.calls) follows

  -- after an attempt behind the last command, of a driver that hasn't disconnected
  pub drain_follows : slice_get commands (length d.calls) ≡ None → d.shut ≡ false → HasEnded d cmd.Await e → AllInPlace commands e.calls
  drain_follows is there (inl (got, k)) =
      subst (AllInPlace commands) (sym k.calls) (in_place_more commands d.calls follows (record { command = cmd.Recv; answer = got })
      (subst (λ o. IsInPlace d.calls o (Some (record { command = cmd.Recv; answer = got }))) (sym is) (refl, receipt_true got (k.shutdown ∙ there) (await_ends got k.kind.0 k.taken k.refused))))
  drain_follows is there (inr (await, front, removed, w)) = subst (AllInPlace commands) (sym w.calls) follows

never_leaves : (got : Answer) → leaves cmd.Await got ≡ false
never_leaves (ans.Got receipt) = refl
never_leaves (ans.Refused b) = refl
never_leaves (ans.Sent sent) = refl
never_leaves ans.Done = refl
never_leaves (ans.Destroyed stamp) = refl
never_leaves (ans.Reset stamp) = refl
never_leaves (ans.Info user pool limits) = refl

-- it hasn't disconnected afterwards, and has no call less
pub drain_stays : (d e : DriverPart) → d.shut ≡ false → HasEnded d cmd.Await e → (e.shut ≡ false) × (length d.calls ≤ length e.calls)
drain_stays d e there (inl (got, k)) = (k.shut ∙ ap (λ b. b || leaves cmd.Await got) there ∙ never_leaves got, omega (arith, ap length k.calls, length-append d.calls (record { command = cmd.Recv; answer = got } ∷ [])))
drain_stays d e there (inr (await, front, removed, w)) = (w.shut, omega (arith, ap length w.calls))

-- ---- a driver at its place

pub room_at : (b : BusFace) (commands : List Command) (p : ℕ) (d e : DriverFace) → IsAt b commands p d → HasRoom d e → IsAt b commands p e
room_at b commands p d e at room = subst (IsAt b commands p) (sym room.same) (record { on = record { table = at.on.table; opening = at.on.opening }; number = at.number; follows = at.follows })

pub still_at : (b : BusFace) (commands : List Command) (p : ℕ) (d e : DriverFace) → IsAt b commands p d → member e ≡ member d → AllInPlace commands e.own.part.calls → IsAt b commands p e
still_at b commands p d e at same follows = record {
  on = record { table = ap (λ (m : Member). m.table) same ∙ at.on.table; opening = ap (λ (m : Member). m.opening) same ∙ at.on.opening };
  number = ap (λ (m : Member). m.number) same ∙ at.number;
  follows = follows;
}
