-- A peer that has disconnected stays empty: by its flush, and then by every event.
use Rattle.std.proofs.Common.{◌≡◌, ◌≢◌, refl, sym, ap, subst, ◌∙◌, inl, inr, ℕ, suc, ◌<◌, ◌≤◌, Bool, true, false, cond, ◌&&◌, nat_lt, List, [], ◌∷◌, ◌++◌, map, filter, length, Option, Some, None}
use Rattle.std.specs.Prelude.{slice_get}
use Rattle.std.proofs.lemmas.Bool.{lt-ltb}
use native.Mathlib.Omega.{arith}
use Rattle.b1_model.specs.declared.commands.Command.{Command}
use Rattle.b1_model.specs.declared.commands.Command.TheVariants as cmd
use Rattle.b1_model.specs.declared.naming.Wire.{Wire}
use Rattle.b1_model.specs.declared.naming.Opening.{Opening}
use Rattle.b1_model.specs.declared.answers.Answer.{Answer}
use Rattle.b1_model.specs.declared.answers.Answer.TheVariants as answer
use Rattle.b1_model.specs.declared.events.OwedDrop.{OwedDrop}
use Rattle.b1_model.specs.declared.events.Outcome.{Outcome}
use Rattle.b1_model.specs.declared.events.Outcome.TheVariants as out
use Rattle.b1_model.specs.declared.events.Phase.{Phase}
use Rattle.b1_model.specs.declared.events.Phase.TheVariants.{Starting, Flushing}
use Rattle.b1_model.specs.declared.records.Call.{Call}
use Rattle.b1_model.specs.Names.{Name, calls_of, wired, made_in, epoch_in, add_new}
use Rattle.b1_model.specs.MachineParts.{PeerPart, NodePart, DriverPart, State}
use Rattle.b1_model.specs.MachineDriver.{peer_of, next_action, Turn, Goes, Ends, turn}
use Rattle.b1_model.specs.MachineTook.{shut_after, answer_of, call_of, is_await, as_call, goes_by, is_done, turned, with_facts, took, open_by}
use Rattle.b1_model.specs.MachineStep.{Step, opening_state, record_of_state}
use Rattle.b1_step.specs.Rights.{Has}
use Rattle.b1_inv.specs.Words.{IsPeer, IsDriver}
use Rattle.b1_inv.specs.Sound.{IsSound}
use Rattle.b1_ledger.specs.Growth.{all_names}
use Rattle.b1_ledger.proofs.Sequences.{Each}
use Rattle.b1_ledger.proofs.Walks.{made_in-append}
use Rattle.b1_ledger.proofs.Made.{each-more, made_low, wired_low, carried_flush}
use Rattle.b1_inv_record.specs.Epochs.{first_now, made_before}
use Rattle.b1_inv_record.specs.Names.{MadeNumbers, OldNodesDestroyed, ShutIsEmpty, carried_open, open_numbers}
use Rattle.b1_inv_record.specs.Right.{IsRight}
use Rattle.b1_inv_tools.proofs.Leaves.{driver_cases, peer_cases}
use Rattle.b1_inv_tools.proofs.Openings.{opening_idle}
use Rattle.b1_inv_notices.proofs.Turns.{doing_in, opened, answered, parts, going, going_doing, going_action, going_answer}
use Rattle.b1_inv_names.proofs.Effects.{Fits, fits}
use Rattle.b1_inv_names.proofs.Epochs.{epoch_append}
use Rattle.b1_inv_names.proofs.Recorded.{recorded_calls}
use Rattle.b1_inv_names.proofs.Shut.{Gone, Empty, empty_event, shut_harmless, away_harmless}

-- ---- which event shuts a driver

goes_shut : (b : Bool) (got : Option Answer) (d : DriverPart) (command : Command) (phase : Phase) → (goes_by b got d command phase).shut ≡ d.shut
goes_shut false got d command phase = refl
goes_shut true None d command phase = refl
goes_shut true (Some got) d command phase = refl

turned_shut : (d : DriverPart) (command : Command) (to : Turn) → (turned d command to).shut ≡ d.shut
turned_shut d command (Goes phase) = goes_shut (is_done d.owed d.told phase) (answer_of command phase) d command phase
turned_shut d command (Ends got) = refl

took_shut : (d : DriverPart) (command : Command) (phase : Phase) (owed : List OwedDrop) (outcome : Outcome) → (took (opened d command phase owed) outcome).shut ≡ shut_after command d.shut outcome
took_shut d command phase owed outcome = turned_shut (with_facts (opened d command phase owed) (doing_in command phase) outcome) command (turn d.me command phase outcome)

abbrev is_flush_phase : Phase → Bool
is_flush_phase (Flushing stamp) = true
is_flush_phase phase = false

-- only a flush shuts
stays_open : (command : Command) (phase : Phase) (outcome : Outcome) → is_flush_phase phase ≡ false → Fits phase outcome → shut_after command false outcome ≡ false
stays_open command (Flushing stamp) outcome is fit = absurd (cc is)
stays_open command Starting (out.Flush dead) is fit = absurd fit
stays_open command phase (out.Flush dead) is fit = absurd fit
stays_open command phase outcome is fit = refl

module _ (o : Opening) (memory : Bool) (d : DriverPart) (command : Command) (x : PeerPart) where
  -- the phase of a driver that becomes shut
  new_flush : (phase : Phase) (owed : List OwedDrop) → shut_after command false (answered o memory d command phase owed x).0 ≡ true → (stamp : Option ℕ) × (phase ≡ Flushing stamp) × (owed ≡ [])
  new_flush phase (one ∷ rest) is = absurd (cc is)
  new_flush (Flushing stamp) [] is = (stamp, refl, refl)
  new_flush phase [] is = let both : true ≡ false = sym is ∙ stays_open command phase (answered o memory d command phase [] x).0 refl (fits o memory d command phase [] x) in absurd (cc both)

-- ---- at a flush all nodes are of earlier epochs

all_pass : (E : ℕ) (names : List Name) → Each (λ m. m.epoch < E) names → length (filter (λ m. nat_lt m.epoch E) names) ≡ length names
all_pass E [] h = refl
all_pass E (m ∷ ms) h = by (nat_lt m.epoch E) (lt-ltb m.epoch E h.0) (all_pass E ms h.1)
  where
    by : (b : Bool) → b ≡ true → length (filter (λ n. nat_lt n.epoch E) ms) ≡ length ms → length (cond b (m ∷ filter (λ n. nat_lt n.epoch E) ms) (filter (λ n. nat_lt n.epoch E) ms)) ≡ suc (length ms)
    by true is same = ap suc same
    by false is same = absurd (cc is)

pub flush_call : (command : Command) (stamp : Option ℕ) → call_of command (answer.Reset stamp) ≡ record { command = as_call command; answer = answer.Reset stamp } ∷ []
flush_call command stamp = by (is_await command)
  where
    by : (b : Bool) → cond {A = List Call} (b && false) [] (record { command = as_call command; answer = answer.Reset stamp } ∷ []) ≡ record { command = as_call command; answer = answer.Reset stamp } ∷ []
    by true = refl
    by false = refl

-- after calls whose last one flushes, each name is of an earlier epoch
behind_flush : (ws : List Wire) (p : ℕ) (calls : List Call) (command : Command) (stamp : Option ℕ)
    → made_before ws p (calls ++ record { command = command; answer = answer.Reset stamp } ∷ []) ≡ length (made_in 0 (wired ws p) (calls ++ record { command = command; answer = answer.Reset stamp } ∷ []))
behind_flush ws p calls command stamp =
    let one : Call = record { command = command; answer = answer.Reset stamp } in
    let names : made_in 0 (wired ws p) (calls ++ one ∷ []) ≡ made_in 0 (wired ws p) calls = made_in-append 0 (wired ws p) calls (one ∷ []) ∙ ap (add_new (epoch_in 0 calls) (made_in 0 (wired ws p) calls)) (carried_flush command (answer.Reset stamp) refl) in
    let epoch : epoch_in 0 (calls ++ one ∷ []) ≡ suc (epoch_in 0 calls) = epoch_append 0 calls (one ∷ []) in
    let low = each-more (λ m. m.epoch ≤ epoch_in 0 calls) (λ m. m.epoch < epoch_in 0 (calls ++ one ∷ [])) (made_in 0 (wired ws p) calls) (λ m l. omega (arith, l, epoch)) (made_low 0 (wired ws p) calls (wired_low ws p)) in
    all_pass (epoch_in 0 (calls ++ one ∷ [])) (made_in 0 (wired ws p) (calls ++ one ∷ [])) (subst (Each (λ m. m.epoch < epoch_in 0 (calls ++ one ∷ []))) (sym names) low)

has_serial : (ns : List NodePart) (n : NodePart) → Has ns n → (i : ℕ) × (slice_get ns i ≡ Some n) × (i < length ns)
has_serial [] n h = absurd h
has_serial (m ∷ ms) n (inl same) = (0, ap Some (sym same), omega arith)
has_serial (m ∷ ms) n (inr further) = let k = has_serial ms n further in (suc k.0, k.1, omega (arith, k.2))

map_length : {X : Type 0} (f : X → ℕ) (xs : List X) → length (map f xs) ≡ length xs
map_length f [] = refl
map_length f (x ∷ xs) = ap suc (map_length f xs)

none_carried : (command : Command) (stamp : Option ℕ) → carried_open command (Flushing stamp) ≡ []
none_carried (cmd.Send c) stamp = refl
none_carried command stamp = refl

-- where a driver is at its flush, all nodes of its peer are destroyed
module _ {o : Opening} {s : State} (made : MadeNumbers o s) (old : OldNodesDestroyed o s) (p : ℕ) (d : DriverPart) (x : PeerPart) (is_driver : IsDriver s p d) (is_peer : IsPeer s p x) (command : Command) (stamp : Option ℕ) (is_open : d.doing ≡ Some (doing_in command (Flushing stamp))) where
  pub calls_are : calls_of (record_of_state s) p ≡ d.calls ++ record { command = as_call command; answer = answer.Reset stamp } ∷ []
  calls_are = recorded_calls s p x d is_peer is_driver ∙ ap (λ doing. d.calls ++ open_by doing) is_open ∙ ap (λ l. d.calls ++ l) (flush_call command stamp)

  pub all_first : first_now o s p ≡ length (all_names o.wires (record_of_state s) p)
  all_first = ap (made_before o.wires p) calls_are ∙ behind_flush o.wires p d.calls (as_call command) stamp ∙ ap (λ cs. length (made_in 0 (wired o.wires p) cs)) (sym calls_are)

  none_new : open_numbers d ≡ []
  none_new = ap (λ doing. elim doing [ None ↦ [] | Some one ↦ carried_open one.command one.phase ]) is_open ∙ none_carried command stamp

  pub as_many_nodes : length x.nodes ≡ first_now o s p
  as_many_nodes =
      sym (map_length (λ n. n.number) x.nodes) ∙ ap length (made.made p d x is_driver is_peer ∙ ap (λ ns. map (λ m. m.number) (add_new x.epoch (all_names o.wires (record_of_state s) p) ns)) none_new)
      ∙ map_length (λ m. m.number) (all_names o.wires (record_of_state s) p) ∙ sym all_first

  pub all_gone : Gone x.nodes
  all_gone n h = let k = has_serial x.nodes n h in old.destroyed p k.0 x n is_peer k.1 (let low = k.2 in omega (arith, low, as_many_nodes))

-- ---- a step

module _ {o : Opening} {s : State} {p : ℕ} {c : Option Command} {t : State} (sound : IsSound o s) (right : IsRight o s) (step : Step o s p c t) where
  empty_before : (r : ℕ) (d : DriverPart) (x : PeerPart) → IsDriver s r d → IsPeer s r x → d.shut ≡ true → Empty x
  empty_before r d x is_driver is_peer shut = record {
    queue = right.names.shut.queue r d x is_driver is_peer shut;
    handles = right.names.shut.handles r d x is_driver is_peer shut;
    nodes = λ n h. right.names.shut.nodes r d x n is_driver is_peer shut h;
  }

  me_is : step.driver.me ≡ p
  me_is = sound.numbered.drivers p step.driver step.is_driver

  shut_is : step.new_driver.shut ≡ shut_after (parts step).command step.driver.shut (going_answer step)
  shut_is = sym (ap (λ e. e.shut) (parts step).is_driver) ∙ took_shut step.driver (parts step).command (parts step).phase step.driver.owed (going_answer step)

  -- a driver that was shut
  was_shut : (y : PeerPart) → IsPeer t p y → step.driver.shut ≡ true → Empty y
  was_shut y is shut = elim (peer_cases step p y is) [
    | inl at_it ↦
        subst Empty ((parts step).is_peer ∙ sym at_it.1)
        (empty_event o step.local.memory (going step) (going_doing step) step.peer (empty_before p step.driver step.peer step.is_driver (subst (λ r. IsPeer s r step.peer) (sym at_it.0) step.is_peer) shut) (going_action step)
        (shut_harmless step.driver (parts step).command (parts step).phase step.driver.owed shut))
    | inr away ↦ empty_before p step.driver y step.is_driver away.1 shut
  ]

  flush_empty : (x : PeerPart) (phase : Phase) (owed : List OwedDrop) (stamp : Option ℕ) → phase ≡ Flushing stamp → owed ≡ [] → Gone x.nodes → Empty (answered o step.local.memory step.driver (parts step).command phase owed x).1
  flush_empty x (Flushing other) [] stamp is none gone = record { queue = refl; handles = refl; nodes = gone }
  flush_empty x phase (one ∷ rest) stamp is none gone = absurd (cc none)
  flush_empty x phase [] stamp is none gone = absurd (cc is)

  flush_here : (phase : Phase) (owed : List OwedDrop) (stamp : Option ℕ) → phase ≡ Flushing stamp → owed ≡ [] → peer_of step.driver.me (next_action (opened step.driver (parts step).command phase owed)) ≡ step.driver.me
  flush_here (Flushing other) [] stamp is none = refl
  flush_here phase (one ∷ rest) stamp is none = absurd (cc none)
  flush_here phase [] stamp is none = absurd (cc is)

  -- a driver that its flush shuts
  now_shut : (y : PeerPart) → IsPeer t p y → step.driver.shut ≡ false → step.new_driver.shut ≡ true → Empty y
  now_shut y is before after =
      let k = new_flush o step.local.memory step.driver (parts step).command step.peer (parts step).phase step.driver.owed (ap (λ b. shut_after (parts step).command b (going_answer step)) (sym before) ∙ sym shut_is ∙ after) in
      let at_own : step.at ≡ p = sym (parts step).is_at ∙ flush_here (parts step).phase step.driver.owed k.0 k.1 k.2 ∙ me_is in
      let own_peer = subst (λ r. IsPeer s r step.peer) at_own step.is_peer in
      elim (peer_cases step p y is) [
        | inl at_it ↦ subst Empty ((parts step).is_peer ∙ sym at_it.1) (flush_empty step.peer (parts step).phase step.driver.owed k.0 k.1 k.2 (gone k.0 k.1 own_peer))
        | inr away ↦ absurd (away.0 (sym at_own))
      ]
    where
      gone : (stamp : Option ℕ) → (parts step).phase ≡ Flushing stamp → IsPeer s p step.peer → Gone step.peer.nodes
      gone stamp is own_peer = elim (parts step).was [
        | inl open_is ↦ all_gone right.names.made right.names.old p step.driver step.peer step.is_driver own_peer (parts step).command stamp (open_is ∙ ap (λ ph. Some (doing_in (parts step).command ph)) is)
        | inr new ↦ let both : Starting ≡ Flushing stamp = sym new.1 ∙ is in absurd (cc both)
      ]

  own_after : (b : Bool) → step.driver.shut ≡ b → (y : PeerPart) → IsPeer t p y → step.new_driver.shut ≡ true → Empty y
  own_after true before y is after = was_shut y is before
  own_after false before y is after = now_shut y is before after

  other_after : (r : ℕ) (d : DriverPart) (y : PeerPart) → r ≢ p → IsDriver s r d → IsPeer t r y → d.shut ≡ true → Empty y
  other_after r d y apart is_driver is shut = elim (peer_cases step r y is) [
    | inl at_it ↦
        subst Empty ((parts step).is_peer ∙ sym at_it.1)
        (empty_event o step.local.memory (going step) (going_doing step) step.peer (empty_before r d step.peer is_driver (subst (λ q. IsPeer s q step.peer) (sym at_it.0) step.is_peer) shut) (going_action step)
        (away_harmless step.driver.me (going_action step) (λ same. apart (at_it.0 ∙ sym (parts step).is_at ∙ same ∙ me_is))))
    | inr away ↦ empty_before r d y is_driver away.1 shut
  ]

  after : (r : ℕ) (d : DriverPart) (y : PeerPart) → IsDriver t r d → IsPeer t r y → d.shut ≡ true → Empty y
  after r d y is_driver is shut = elim (driver_cases step r d is_driver) [
    | inl own ↦ own_after step.driver.shut refl y (subst (λ q. IsPeer t q y) own.0 is) (sym (ap (λ e. e.shut) own.1) ∙ shut)
    | inr other ↦ other_after r d y other.0 other.1 is shut
  ]

  pub shut_kept : ShutIsEmpty t
  shut_kept = record {
    queue = λ r d y is_driver is shut. (after r d y is_driver is shut).queue;
    handles = λ r d y is_driver is shut. (after r d y is_driver is shut).handles;
    nodes = λ r d y n is_driver is shut h. (after r d y is_driver is shut).nodes n h;
  }

pub shut_begins : (o : Opening) → ShutIsEmpty (opening_state o)
shut_begins o = record {
  queue = λ r d y is_driver is shut. absurd (none r d is_driver shut);
  handles = λ r d y is_driver is shut. absurd (none r d is_driver shut);
  nodes = λ r d y n is_driver is shut h. absurd (none r d is_driver shut);
}
  where
    none : (r : ℕ) (d : DriverPart) → IsDriver (opening_state o) r d → d.shut ≡ true → ⊥
    none r d is_driver shut = let both : false ≡ true = sym (ap (λ e. e.shut) (opening_idle o r d is_driver)) ∙ shut in absurd (cc both)
