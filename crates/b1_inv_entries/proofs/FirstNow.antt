-- The serial of a peer's first node of the present epoch never falls, and behind a flush it is above all nodes that were made.
use Rattle.std.proofs.Common.{◌≡◌, refl, sym, ap, subst, ◌∙◌, inl, inr, ℕ, suc, ◌<◌, ◌≤◌, Bool, true, false, cond, ◌&&◌, not, nat_lt, List, [], ◌∷◌, ◌++◌, filter, length, map, Option, Some, None, append-nil}
use Rattle.std.proofs.lemmas.Bool.{lt-ltb}
use Rattle.std.proofs.lemmas.List.Filters.{length-filter_both}
use Rattle.std.proofs.lemmas.List.{append_assoc, length-map}
use native.Mathlib.Omega.{arith}
use Rattle.b1_model.specs.declared.commands.Command.{Command}
use Rattle.b1_model.specs.declared.commands.Command.TheVariants as cmd
use Rattle.b1_model.specs.declared.naming.Wire.{Wire}
use Rattle.b1_model.specs.declared.naming.Opening.{Opening}
use Rattle.b1_model.specs.declared.answers.Answer.TheVariants as answer
use Rattle.b1_model.specs.declared.events.Phase.TheVariants.{Flushing}
use Rattle.b1_model.specs.declared.records.Call.{Call}
use Rattle.b1_model.specs.Names.{Name, calls_of, wired, is_flush, add_new, made_in, epoch_in}
use Rattle.b1_model.specs.MachineParts.{PeerPart, DriverPart, State}
use Rattle.b1_model.specs.MachineTook.{is_await, as_call, call_of, open_by}
use Rattle.b1_model.specs.MachineStep.{Step, record_of_state}
use Rattle.b1_inv.specs.Words.{IsPeer, IsDriver}
use Rattle.b1_inv.specs.Sound.{IsSound}
use Rattle.b1_ledger.specs.Growth.{all_names}
use Rattle.b1_ledger.proofs.Sequences.{Each, bool_cases}
use Rattle.b1_ledger.proofs.Walks.{made_in-append, epoch_in-append}
use Rattle.b1_ledger.proofs.Made.{each-more, made_low, wired_low, carried_flush, flush_next}
use Rattle.b1_inv_record.specs.Epochs.{made_before, first_now}
use Rattle.b1_inv_record.specs.Names.{MadeNumbers, carried_open, open_numbers}
use Rattle.b1_inv_notices.proofs.Turns.{doing_in}
use Rattle.b1_inv_names.proofs.Recorded.{recorded_calls}
use Rattle.b1_inv_destroys.proofs.FirstNode.{all_mild}
use Rattle.b1_inv_destroys.proofs.Recorded.{record_grows}

filter_short : (test : Name → Bool) (names : List Name) → length (filter test names) ≤ length names
filter_short test names = let both = length-filter_both test (λ m. not (test m)) (λ m. refl) names in omega (arith, both)

all_pass : (epoch : ℕ) (names : List Name) → Each (λ m. m.epoch < epoch) names → length (filter (λ m. nat_lt m.epoch epoch) names) ≡ length names
all_pass epoch [] h = refl
all_pass epoch (m ∷ ms) h = by (nat_lt m.epoch epoch) (lt-ltb m.epoch epoch h.0) (all_pass epoch ms h.1)
  where
    by : (b : Bool) → b ≡ true → length (filter (λ n. nat_lt n.epoch epoch) ms) ≡ length ms → length (cond b (m ∷ filter (λ n. nat_lt n.epoch epoch) ms) (filter (λ n. nat_lt n.epoch epoch) ms)) ≡ suc (length ms)
    by true is same = ap suc same
    by false is same = absurd (cc is)

module _ (ws : List Wire) (p : ℕ) where
  flush_names : (calls : List Call) (c : Call) → is_flush c.answer ≡ true → made_in 0 (wired ws p) (calls ++ c ∷ []) ≡ made_in 0 (wired ws p) calls
  flush_names calls c flush = made_in-append 0 (wired ws p) calls (c ∷ []) ∙ ap (add_new (epoch_in 0 calls) (made_in 0 (wired ws p) calls)) (carried_flush c.command c.answer flush)

  -- behind a flush all names are of earlier epochs
  behind_flush : (calls : List Call) (c : Call) → is_flush c.answer ≡ true → made_before ws p (calls ++ c ∷ []) ≡ length (made_in 0 (wired ws p) (calls ++ c ∷ []))
  behind_flush calls c flush =
      let epoch : epoch_in 0 (calls ++ c ∷ []) ≡ suc (epoch_in 0 calls) = epoch_in-append 0 calls (c ∷ []) ∙ flush_next c.answer (epoch_in 0 calls) flush in
      let low = each-more (λ m. m.epoch ≤ epoch_in 0 calls) (λ m. m.epoch < epoch_in 0 (calls ++ c ∷ [])) (made_in 0 (wired ws p) calls) (λ m l. omega (arith, l, epoch)) (made_low 0 (wired ws p) calls (wired_low ws p)) in
      all_pass (epoch_in 0 (calls ++ c ∷ [])) (made_in 0 (wired ws p) (calls ++ c ∷ [])) (subst (Each (λ m. m.epoch < epoch_in 0 (calls ++ c ∷ []))) (sym (flush_names calls c flush)) low)

  -- one more call leaves no fewer
  one_grows : (calls : List Call) (c : Call) → made_before ws p calls ≤ made_before ws p (calls ++ c ∷ [])
  one_grows calls c = elim (bool_cases (is_flush c.answer)) [
    | inl flush ↦
        let all = behind_flush calls c flush in
        let names = ap length (flush_names calls c flush) in
        let few = filter_short (λ m. nat_lt m.epoch (epoch_in 0 calls)) (made_in 0 (wired ws p) calls) in omega (arith, all, names, few)
    | inr mild ↦ let same = all_mild ws p (c ∷ []) calls (λ d h. elim h [ inl is ↦ ap (λ z. is_flush z.answer) is ∙ mild | inr none ↦ absurd none ]) in omega (arith, same)
  ]

  more_grow : (more calls : List Call) → made_before ws p calls ≤ made_before ws p (calls ++ more)
  more_grow [] calls = let same = ap (made_before ws p) (append-nil calls) in omega (arith, same)
  more_grow (c ∷ rest) calls =
      let one = one_grows calls c in
      let further = more_grow rest (calls ++ c ∷ []) in
      let same = ap (made_before ws p) (append_assoc calls (c ∷ []) rest) in omega (arith, one, further, same)

-- the first node of the present epoch never falls
pub first_now_grows : {o : Opening} {s : State} {p : ℕ} {c : Option Command} {t : State} → IsSound o s → Step o s p c t → (q : ℕ) → first_now o s q ≤ first_now o t q
first_now_grows {o = o} {s = s} {t = t} sound step q =
    let k = record_grows sound step q in
    let more = more_grow o.wires q k.0 (calls_of (record_of_state s) q) in
    let same = ap (made_before o.wires q) k.1 in omega (arith, more, same)

-- ---- at a flush

none_carried : (command : Command) (stamp : Option ℕ) → carried_open command (Flushing stamp) ≡ []
none_carried (cmd.Send c) stamp = refl
none_carried command stamp = refl

reset_call : (command : Command) (stamp : Option ℕ) → call_of command (answer.Reset stamp) ≡ record { command = as_call command; answer = answer.Reset stamp } ∷ []
reset_call command stamp = by (is_await command)
  where
    by : (b : Bool) → cond {A = List Call} (b && false) [] (record { command = as_call command; answer = answer.Reset stamp } ∷ []) ≡ record { command = as_call command; answer = answer.Reset stamp } ∷ []
    by true = refl
    by false = refl

-- where a driver is at its flush, all nodes of its peer are of earlier epochs
module _ {o : Opening} {s : State} (made : MadeNumbers o s) (p : ℕ) (d : DriverPart) (x : PeerPart) (is_driver : IsDriver s p d) (is_peer : IsPeer s p x) (command : Command) (stamp : Option ℕ) (is_open : d.doing ≡ Some (doing_in command (Flushing stamp))) where
  calls_are : calls_of (record_of_state s) p ≡ d.calls ++ record { command = as_call command; answer = answer.Reset stamp } ∷ []
  calls_are = recorded_calls s p x d is_peer is_driver ∙ ap (λ doing. d.calls ++ open_by doing) is_open ∙ ap (λ l. d.calls ++ l) (reset_call command stamp)

  all_first : first_now o s p ≡ length (all_names o.wires (record_of_state s) p)
  all_first = ap (made_before o.wires p) calls_are ∙ behind_flush o.wires p d.calls (record { command = as_call command; answer = answer.Reset stamp }) refl ∙ ap (λ cs. length (made_in 0 (wired o.wires p) cs)) (sym calls_are)

  none_new : open_numbers d ≡ []
  none_new = ap (λ doing. elim doing [ None ↦ [] | Some one ↦ carried_open one.command one.phase ]) is_open ∙ none_carried command stamp

  pub flush_first : first_now o s p ≡ length x.nodes
  flush_first =
      all_first ∙ sym (length-map (all_names o.wires (record_of_state s) p) (λ m. m.number))
      ∙ ap length (sym (made.made p d x is_driver is_peer ∙ ap (λ ns. map (λ m. m.number) (add_new x.epoch (all_names o.wires (record_of_state s) p) ns)) none_new))
      ∙ length-map x.nodes (λ n. n.number)
