-- A step changes the epoch of no node that was made.
use Rattle.std.proofs.Common.{◌≡◌, refl, sym, ap, subst, ◌∙◌, inl, inr, ℕ, zero, suc, ◌<◌, Bool, true, false, cond, ◌&&◌, not, List, [], ◌∷◌, ◌++◌, length, map, Option, Some, None}
use Rattle.std.specs.Prelude.{slice_get}
use Rattle.std.proofs.lemmas.Bool.{cases_eq}
use Rattle.std.proofs.lemmas.List.{length-map}
use native.Mathlib.Omega.{arith}
use Rattle.b1_model.specs.declared.commands.Command.{Command}
use Rattle.b1_model.specs.declared.commands.Command.TheVariants as cmd
use Rattle.b1_model.specs.declared.naming.NodeRef.{NodeRef}
use Rattle.b1_model.specs.declared.naming.Opening.{Opening}
use Rattle.b1_model.specs.declared.answers.Answer.{Answer}
use Rattle.b1_model.specs.declared.answers.Answer.TheVariants as answer
use Rattle.b1_model.specs.declared.events.Outcome.{Outcome}
use Rattle.b1_model.specs.declared.events.Outcome.TheVariants as out
use Rattle.b1_model.specs.declared.events.Phase.{Phase}
use Rattle.b1_model.specs.declared.events.Phase.TheVariants.{Starting, Staging, Stamping, Dooming}
use Rattle.b1_model.specs.Names.{Name, is_own, is_known, calls_of, wired, is_flush, next_epoch, add_new, carried_by, made_in, epoch_in}
use Rattle.b1_model.specs.MachineParts.{PeerPart, State}
use Rattle.b1_model.specs.MachineStep.{Step, record_of_state}
use Rattle.b1_inv.specs.Words.{IsPeer}
use Rattle.b1_inv.specs.Sound.{IsSound}
use Rattle.b1_ledger.specs.Growth.{all_names}
use Rattle.b1_ledger.proofs.Sequences.{bool_cases}
use Rattle.b1_ledger.proofs.Walks.{made_in-append, epoch_in-append}
use Rattle.b1_ledger.proofs.Made.{carried_flush}
use Rattle.b1_inv_record.specs.Epochs.{epoch_now, epoch_of_node}
use Rattle.b1_inv_record.specs.Names.{carried_open, open_numbers}
use Rattle.b1_inv_record.specs.Right.{IsRight}
use Rattle.b1_inv_notices.proofs.Turns.{parts, going_answer, get_there}
use Rattle.b1_inv_entries.proofs.Answers.{Fixes}
use Rattle.b1_inv_entries.proofs.NewCalls.{NewCall, new_call}

-- ---- the epoch of a name

-- that of the name at a place, or another one where there is none
abbrev epoch_by : List Name → ℕ → ℕ → ℕ
epoch_by names now serial = elim (slice_get names serial) [ None ↦ now | Some m ↦ m.epoch ]

one_more : (e n : ℕ) (names : List Name) (serial : ℕ) → epoch_by (names ++ record { number = n; epoch = e } ∷ []) e serial ≡ epoch_by names e serial
one_more e n [] zero = refl
one_more e n [] (suc serial) = refl
one_more e n (m ∷ ms) zero = refl
one_more e n (m ∷ ms) (suc serial) = one_more e n ms serial

new_more : (e : ℕ) (numbers : List ℕ) (names : List Name) (serial : ℕ) → epoch_by (add_new e names numbers) e serial ≡ epoch_by names e serial
new_more e [] names serial = refl
new_more e (n ∷ rest) names serial = new_more e rest (cond (is_own n && not (is_known n names)) (names ++ record { number = n; epoch = e } ∷ []) names) serial ∙ by (is_own n && not (is_known n names))
  where
    by : (b : Bool) → epoch_by (cond b (names ++ record { number = n; epoch = e } ∷ []) names) e serial ≡ epoch_by names e serial
    by true = one_more e n names serial
    by false = refl

there_same : (names : List Name) (now later serial : ℕ) → serial < length names → epoch_by names now serial ≡ epoch_by names later serial
there_same names now later serial low = let m = get_there names serial low in ap (λ z. elim z [ None ↦ now | Some k ↦ k.epoch ]) m.1 ∙ ap (λ z. elim z [ None ↦ later | Some k ↦ k.epoch ]) (sym m.1)

-- ---- a flush carries no numbers

none_starting : (command : Command) → carried_open command Starting ≡ []
none_starting (cmd.Send c) = refl
none_starting command = refl

flush_of : (got other : Answer) → got ≡ other → is_flush other ≡ false → is_flush got ≡ true → ⊥
flush_of got other same none is = let both : false ≡ true = sym none ∙ ap is_flush (sym same) ∙ is in cc both

flush_fixes : (command : Command) (phase : Phase) (outcome : Outcome) (got : Answer) → Fixes command phase outcome got → is_flush got ≡ true → carried_open command phase ≡ []
flush_fixes command Starting outcome got fixes is = none_starting command
flush_fixes command (Staging begun places collected) (out.Stage result) got (refused, same) is = absurd (flush_of got (answer.Refused refused) same refl is)
flush_fixes command (Stamping sending) (out.Stamp stamp) got fixes is = absurd (flush_of got _ fixes refl is)
flush_fixes (cmd.Send c) (Dooming destruction) outcome got fixes is = refl
flush_fixes command (Dooming destruction) outcome got fixes is = refl
flush_fixes command phase outcome got fixes is = absurd fixes

module _ {o : Opening} {s : State} {p : ℕ} {c : Option Command} {t : State} (sound : IsSound o s) (right : IsRight o s) (step : Step o s p c t) where
  abbrev old_names : ℕ → List Name
  old_names q = all_names o.wires (record_of_state s) q

  -- where the new call flushes, the peer's nodes are those of the names
  all_named : (new : NewCall step) (x : PeerPart) → IsPeer s p x → is_flush new.call.answer ≡ true → length x.nodes ≡ length (old_names p)
  all_named new x is_peer flush =
      let carried = flush_fixes (parts step).command (parts step).phase (going_answer step) new.got new.fixes (ap (λ z. is_flush z.answer) (sym new.is_call) ∙ flush) in
      let numbers : open_numbers step.driver ≡ [] = elim (parts step).was as (λ z. open_numbers step.driver ≡ []) [
        | inl open_is ↦ ap (λ doing. elim doing [ None ↦ [] | Some one ↦ carried_open one.command one.phase ]) open_is ∙ carried
        | inr none ↦ ap (λ doing. elim doing [ None ↦ [] | Some one ↦ carried_open one.command one.phase ]) none.0
      ] in
      sym (length-map x.nodes (λ n. n.number))
      ∙ ap length (right.names.made.made p step.driver x step.is_driver is_peer ∙ ap (λ ns. map (λ m. m.number) (add_new x.epoch (old_names p) ns)) numbers)
      ∙ length-map (old_names p) (λ m. m.number)

  module _ (new : NewCall step) where
    pub new_names : all_names o.wires (record_of_state t) p ≡ add_new (epoch_now s p) (old_names p) (carried_by new.call.command new.call.answer)
    new_names = ap (made_in 0 (wired o.wires p)) new.appends.here ∙ made_in-append 0 (wired o.wires p) (calls_of (record_of_state s) p) (new.call ∷ [])

    new_epoch : epoch_now t p ≡ next_epoch (epoch_now s p) new.call.answer
    new_epoch = ap (epoch_in 0) new.appends.here ∙ epoch_in-append 0 (calls_of (record_of_state s) p) (new.call ∷ [])

    own_stays : (serial : ℕ) (x : PeerPart) → IsPeer s p x → serial < length x.nodes → epoch_by (all_names o.wires (record_of_state t) p) (epoch_now t p) serial ≡ epoch_by (old_names p) (epoch_now s p) serial
    own_stays serial x is_peer low = elim (bool_cases (is_flush new.call.answer)) [
      | inr mild ↦
          let same : epoch_now t p ≡ epoch_now s p = new_epoch ∙ ap (λ b. cond b (suc (epoch_now s p)) (epoch_now s p)) mild in
          ap (λ names. epoch_by names (epoch_now t p) serial) new_names
          ∙ ap (λ now. epoch_by (add_new (epoch_now s p) (old_names p) (carried_by new.call.command new.call.answer)) now serial) same
          ∙ new_more (epoch_now s p) (carried_by new.call.command new.call.answer) (old_names p) serial
      | inl flush ↦
          let names = new_names ∙ ap (add_new (epoch_now s p) (old_names p)) (carried_flush new.call.command new.call.answer flush) in
          let all = all_named new x is_peer flush in
          ap (λ list. epoch_by list (epoch_now t p) serial) names ∙ there_same (old_names p) (epoch_now t p) (epoch_now s p) serial (omega (arith, low, all))
    ]

  -- the epoch of a node that was made stays
  pub epochs_stay : (node : NodeRef) (x : PeerPart) → IsPeer s node.owner x → node.serial < length x.nodes → epoch_of_node o t node ≡ epoch_of_node o s node
  epochs_stay node x is_peer low = elim (new_call sound step) [
    | inl same ↦ ap (λ calls. epoch_by (made_in 0 (wired o.wires node.owner) calls) (epoch_in 0 calls) node.serial) (same node.owner)
    | inr new ↦ elim (cases_eq node.owner p) [
      | inr apart ↦ ap (λ calls. epoch_by (made_in 0 (wired o.wires node.owner) calls) (epoch_in 0 calls) node.serial) (new.appends.there node.owner apart)
      | inl here ↦
          subst (λ q. epoch_by (all_names o.wires (record_of_state t) q) (epoch_now t q) node.serial ≡ epoch_by (old_names q) (epoch_now s q) node.serial) (sym here)
          (own_stays new node.serial x (subst (λ q. IsPeer s q x) here is_peer) low)
    ]
  ]
