-- A drop that a SEND owes has its stamp; any other one is of the driver's own peer, with a clock at most that peer's.
use Rattle.std.proofs.Common.{◌≡◌, refl, sym, ap, subst, ◌∙◌, inl, inr, ℕ, ◌+◌, ◌≤◌, Bool, true, false, cond, List, [], ◌∷◌, Option, Some, None, Ok}
use native.Mathlib.Omega.{arith}
use Rattle.b1_model.specs.declared.commands.Command.{Command}
use Rattle.b1_model.specs.declared.commands.Command.TheVariants as cmd
use Rattle.b1_model.specs.declared.commands.SendCmd.{SendCmd}
use Rattle.b1_model.specs.declared.naming.NodeRef.{NodeRef}
use Rattle.b1_model.specs.declared.naming.Opening.{Opening}
use Rattle.b1_model.specs.declared.answers.Reason.{Reason}
use Rattle.b1_model.specs.declared.events.Action.TheVariants as act
use Rattle.b1_model.specs.declared.answers.Answer.{Answer}
use Rattle.b1_model.specs.declared.events.Sending.{Sending}
use Rattle.b1_model.specs.declared.events.OwedDrop.{OwedDrop}
use Rattle.b1_model.specs.declared.events.Outcome.{Outcome}
use Rattle.b1_model.specs.declared.events.Outcome.TheVariants as out
use Rattle.b1_model.specs.declared.events.Phase.{Phase}
use Rattle.b1_model.specs.declared.events.Phase.TheVariants.{Starting, Staging, Syncing, Committing, Reaping, SyncingNotices, CommittingOwn, CommittingNotices}
use Rattle.b1_model.specs.Names.{is_given}
use Rattle.b1_model.specs.MachineParts.{PeerPart, DriverPart, State}
use Rattle.b1_model.specs.MachineTables.{held_node}
use Rattle.b1_model.specs.MachineSend.{send_refusal, is_committed}
use Rattle.b1_model.specs.MachineReceive.{has_dead, reaped_part, released_by}
use Rattle.b1_model.specs.MachineDriver.{accepted_from, first_action, next_action, peer_of}
use Rattle.b1_model.specs.MachineTook.{drops_of, owed_after, goes_by, is_done, answer_of, with_facts, took}
use Rattle.b1_model.specs.MachineEvents.{happens, begin_by, stage_by, destroy_by, begin_refusal, begin_serials}
use Rattle.b1_model.specs.MachineStep.{Step, opening_state}
use Rattle.b1_step.specs.Rights.{Has}
use Rattle.b1_step.proofs.Clocks.{rises}
use Rattle.b1_inv.specs.Words.{IsPeer, stamp_of_phase, fixed_stamp}
use Rattle.b1_inv.specs.Sound.{IsSound}
use Rattle.b1_inv_record.specs.Clocks.{OwedRight}
use Rattle.b1_inv_tools.proofs.Leaves.{driver_cases, new_peer}
use Rattle.b1_inv_tools.proofs.Openings.{opening_idle}
use Rattle.b1_inv_notices.proofs.Sets.{drop_has}
use Rattle.b1_inv_notices.proofs.Turns.{doing_in, opened, answered, parts, going, going_doing, going_action, going_answer}
use Rattle.b1_inv_notices.proofs.StampTurns.{fixed_in, Gave}
use Rattle.b1_inv_notices.proofs.StampsLaw.{fixed_before, stamp_after}
use Rattle.b1_inv_clocks.proofs.ClockTurns.{took_owed}
use Rattle.b1_inv_cover.proofs.Stamped.{peer_before, same_peer_at}

-- drops of one holder with one clock
drop_is : (holder clock : ℕ) (refs : List (NodeRef × ℕ)) (one : OwedDrop) → Has (drops_of holder clock refs) one → (one.holder ≡ holder) × (one.clock ≡ clock)
drop_is holder clock [] one h = absurd h
drop_is holder clock (r ∷ rest) one (inl same) = (ap {A = OwedDrop} (λ z. z.holder) same, ap {A = OwedDrop} (λ z. z.clock) same)
drop_is holder clock (r ∷ rest) one (inr further) = drop_is holder clock rest one further

module _ (o : Opening) (memory : Bool) (d : DriverPart) (command : Command) (x : PeerPart) (one : OwedDrop) where
  -- the drops that are owed after the next event
  abbrev Owes : Phase → List OwedDrop → Type 0
  Owes phase owed = Has (owed_after d.me phase owed (answered o memory d command phase owed x).0) one

  -- ---- where the stamp stays

  commit_owes : (found : Bool) (sending : Sending) (stamp place : ℕ) → Has (owed_after d.me (Committing sending stamp place) [] (out.Commit found)) one → one.clock ≡ stamp
  commit_owes true sending stamp place h = absurd h
  commit_owes false sending stamp place h = (drop_is _ stamp _ one h).1

  sent_after : (phase : Phase) (owed : List OwedDrop) (stamp : ℕ) → stamp_of_phase phase ≡ Some stamp → ((old : OwedDrop) → Has owed old → old.clock ≡ stamp) → Owes phase owed → one.clock ≡ stamp
  sent_after phase (first ∷ rest) stamp is old h = old one (drop_has 1 (first ∷ rest) one h)
  sent_after (Committing sending fixed place) [] stamp is old h = commit_owes (is_committed x d.me place) sending fixed place h ∙ cc is
  sent_after (Syncing sending fixed place) [] stamp is old h = absurd h
  sent_after (SyncingNotices destruction fixed at) [] stamp is old h = absurd h
  sent_after (CommittingOwn destruction fixed) [] stamp is old h = absurd h
  sent_after (CommittingNotices destruction fixed at) [] stamp is old h = absurd h
  sent_after phase [] stamp is old h = absurd (cc is)

  -- ---- where a stamp is given

  gave_nothing : (phase : Phase) (outcome : Outcome) (stamp : ℕ) → Gave outcome stamp → Has (owed_after d.me phase [] outcome) one → ⊥
  gave_nothing phase (out.Stamp given) stamp gave h = h
  gave_nothing phase (out.StampDestroy (Ok given)) stamp gave h = h
  gave_nothing phase outcome stamp gave h = gave

  given_after : (phase : Phase) (owed : List OwedDrop) (stamp : ℕ) → Gave (answered o memory d command phase owed x).0 stamp → Owes phase owed → ⊥
  given_after phase (first ∷ rest) stamp gave h = gave
  given_after phase [] stamp gave h = gave_nothing phase (answered o memory d command phase [] x).0 stamp gave h

  -- ---- where a stamped command ends

  still_open : (owed : List OwedDrop) (e : DriverPart) (phase : Phase) (stamp : ℕ) → Has owed one → stamp_of_phase phase ≡ Some stamp → fixed_in (goes_by (is_done owed e.told phase) (answer_of command phase) e command phase).doing ≡ None → ⊥
  still_open [] e phase stamp h is none = h
  still_open (first ∷ rest) e phase stamp h is none = let both : Some stamp ≡ None = sym is ∙ none in absurd (cc both)

  abbrev Ended : Phase → List OwedDrop → Type 0
  Ended phase owed = fixed_in (took (opened d command phase owed) (answered o memory d command phase owed x).0).doing ≡ None

  ended_after : (phase : Phase) (owed : List OwedDrop) (stamp : ℕ) → stamp_of_phase phase ≡ Some stamp → Owes phase owed → Ended phase owed → ⊥
  ended_after (Committing sending fixed place) (first ∷ rest) stamp is h none = still_open rest (with_facts (opened d command (Committing sending fixed place) (first ∷ rest)) (doing_in command (Committing sending fixed place)) out.DropRefs) (Committing sending fixed place) stamp h is none
  ended_after (Syncing sending fixed place) (first ∷ rest) stamp is h none = still_open rest (with_facts (opened d command (Syncing sending fixed place) (first ∷ rest)) (doing_in command (Syncing sending fixed place)) out.DropRefs) (Syncing sending fixed place) stamp h is none
  ended_after (SyncingNotices destruction fixed at) (first ∷ rest) stamp is h none = still_open rest (with_facts (opened d command (SyncingNotices destruction fixed at) (first ∷ rest)) (doing_in command (SyncingNotices destruction fixed at)) out.DropRefs) (SyncingNotices destruction fixed at) stamp h is none
  ended_after (CommittingOwn destruction fixed) (first ∷ rest) stamp is h none = still_open rest (with_facts (opened d command (CommittingOwn destruction fixed) (first ∷ rest)) (doing_in command (CommittingOwn destruction fixed)) out.DropRefs) (CommittingOwn destruction fixed) stamp h is none
  ended_after (CommittingNotices destruction fixed at) (first ∷ rest) stamp is h none = still_open rest (with_facts (opened d command (CommittingNotices destruction fixed at) (first ∷ rest)) (doing_in command (CommittingNotices destruction fixed at)) out.DropRefs) (CommittingNotices destruction fixed at) stamp h is none
  ended_after (Committing sending fixed place) [] stamp is h none =
      let got = out.Commit (is_committed x d.me place) in
      still_open (owed_after d.me (Committing sending fixed place) [] got) (with_facts (opened d command (Committing sending fixed place) []) (doing_in command (Committing sending fixed place)) got) (Committing sending fixed (accepted_from (place + 1) sending.places)) stamp h is none
  ended_after (Syncing sending fixed place) [] stamp is h none = absurd h
  ended_after (SyncingNotices destruction fixed at) [] stamp is h none = absurd h
  ended_after (CommittingOwn destruction fixed) [] stamp is h none = absurd h
  ended_after (CommittingNotices destruction fixed at) [] stamp is h none = absurd h
  ended_after phase owed stamp is h none = absurd (cc is)

  -- ---- where no stamp was there

  module _ (bound : ℕ) where
    -- of the driver's own peer, with a clock within the bound
    abbrev OwnDrop : OwedDrop → Type 0
    OwnDrop drop = (drop.holder ≡ d.me) × (drop.clock ≤ bound)

    own_drops : (refs : List (NodeRef × ℕ)) → x.clock ≤ bound → Has (drops_of d.me x.clock refs) one → OwnDrop one
    own_drops refs low h = let k = drop_is d.me x.clock refs one h in let clock = k.1 in (k.0, omega (arith, low, clock))

    release_owes : (b : Bool) (held : Option NodeRef) (number : ℕ) → x.clock ≤ bound → Has (owed_after d.me Starting [] (out.Release (released_by b held x number))) one → OwnDrop one
    release_owes false held number low h = absurd h
    release_owes true None number low h = absurd h
    release_owes true (Some node) number low h = own_drops ((node, 1) ∷ []) low h

    begin_owes : (r : Option Reason) (c : SendCmd) (wants : Bool) → Has (owed_after d.me Starting [] (begin_by r wants c x).0) one → ⊥
    begin_owes (Some r) c wants h = h
    begin_owes None c true h = h
    begin_owes None c false h = h

    destroy_owes : (r : Option Reason) (doomed : List ℕ) → Has (owed_after d.me Starting [] (destroy_by r doomed x).0) one → ⊥
    destroy_owes (Some r) doomed h = h
    destroy_owes None doomed h = h

    stage_owes : (r : Option Reason) (wants : Bool) (phase : Phase) (origin user place serial : ℕ) (payload : List ℕ) (nodes : List NodeRef) → Has (owed_after d.me phase [] (stage_by r wants origin user place serial payload nodes x).0) one → ⊥
    stage_owes (Some r) wants phase origin user place serial payload nodes h = h
    stage_owes None true phase origin user place serial payload nodes h = h
    stage_owes None false phase origin user place serial payload nodes h = h

    reap_owes : (got : Answer) (dead : List (List (NodeRef × ℕ))) (more : Bool) → x.clock ≤ bound → Has (owed_after d.me (Reaping got) [] (out.Reap (elim dead [ [] ↦ None | item ∷ rest ↦ Some (record { drops = item; clock = x.clock }) ]) more)) one → OwnDrop one
    reap_owes got [] more low h = absurd h
    reap_owes got (item ∷ rest) more low h = own_drops item low h

    first_owes : (shut : Bool) (begins : Command) → x.clock ≤ bound → Has (owed_after d.me Starting [] (happens o memory (opened d begins Starting []) (doing_in begins Starting) (cond shut act.Local (first_action begins)) x).0) one → OwnDrop one
    first_owes true begins low h = absurd h
    first_owes false (cmd.Release number) low h = release_owes (is_given number) (held_node number x.handles) number low h
    first_owes false (cmd.Send c) low h = absurd (begin_owes (send_refusal x c) c memory h)
    first_owes false (cmd.Destroy numbers) low h = absurd (destroy_owes (begin_refusal (cmd.Destroy numbers) x) (begin_serials (cmd.Destroy numbers) x) h)
    first_owes false (cmd.Reset limits) low h = absurd (destroy_owes (begin_refusal (cmd.Reset limits) x) (begin_serials (cmd.Reset limits) x) h)
    first_owes false cmd.Disconnect low h = absurd (destroy_owes (begin_refusal cmd.Disconnect x) (begin_serials cmd.Disconnect x) h)
    first_owes false begins low h = absurd h

    first_own : (shut : Bool) (begins : Command) → peer_of d.me (cond shut act.Local (first_action begins)) ≡ d.me
    first_own true begins = refl
    first_own false cmd.Disconnect = refl
    first_own false begins = refl

    own_after : (phase : Phase) (owed : List OwedDrop) → stamp_of_phase phase ≡ None → ((old : OwedDrop) → Has owed old → OwnDrop old) → (peer_of d.me (next_action (opened d command phase owed)) ≡ d.me → x.clock ≤ bound) → Owes phase owed → OwnDrop one
    own_after phase (first ∷ rest) none old low h = old one (drop_has 1 (first ∷ rest) one h)
    own_after Starting [] none old low h = first_owes d.shut command (low (first_own d.shut command)) h
    own_after (Staging begun places collected) [] none old low h = absurd (stage_owes _ memory (Staging begun places collected) _ _ _ _ _ _ h)
    own_after (Reaping got) [] none old low h = reap_owes got x.dead (has_dead (reaped_part x)) (low refl) h
    own_after (Committing sending fixed place) [] none old low h = absurd (cc none)
    own_after phase [] none old low h = absurd h

-- ---- a step

module _ {o : Opening} {s : State} {p : ℕ} {c : Option Command} {t : State} (sound : IsSound o s) (step : Step o s p c t) (right : OwedRight s) where
  is_me : step.driver.me ≡ p
  is_me = sound.numbered.drivers p step.driver step.is_driver

  owes : (one : OwedDrop) → Has step.new_driver.owed one → Has (owed_after step.driver.me (parts step).phase step.driver.owed (going_answer step)) one
  owes one h = subst (λ owed. Has owed one) (took_owed step.driver (parts step).command (parts step).phase step.driver.owed (going_answer step)) (subst (λ e. Has e.owed one) (sym (parts step).is_driver) h)

  sent_own : (stamp : ℕ) (one : OwedDrop) → Has step.new_driver.owed one → fixed_stamp step.new_driver ≡ Some stamp → one.clock ≡ stamp
  sent_own stamp one h is =
      elim (stamp_after sound step stamp is) [
        | inl same ↦ sent_after o step.local.memory step.driver (parts step).command step.peer one (parts step).phase step.driver.owed stamp same (λ old there. right.sent p stamp step.driver old step.is_driver there (fixed_before sound step stamp same)) (owes one h)
        | inr gave ↦ absurd (given_after o step.local.memory step.driver (parts step).command step.peer one (parts step).phase step.driver.owed stamp gave (owes one h))
      ]

  none_before : stamp_of_phase (parts step).phase ≡ None → fixed_stamp step.driver ≡ None
  none_before none = elim (parts step).was [ inl open_is ↦ ap fixed_in open_is ∙ none | inr new ↦ ap fixed_in new.0 ]

  own_own : (y : PeerPart) (one : OwedDrop) → IsPeer t p y → Has step.new_driver.owed one → fixed_stamp step.new_driver ≡ None → (one.holder ≡ p) × (one.clock ≤ y.clock)
  own_own y one is_peer h none = by (stamp_of_phase (parts step).phase) refl
    where
      old : stamp_of_phase (parts step).phase ≡ None → (drop : OwedDrop) → Has step.driver.owed drop → (drop.holder ≡ step.driver.me) × (drop.clock ≤ y.clock)
      old before drop there =
          let x = peer_before step p y is_peer in
          let k = right.own p step.driver x.0 drop step.is_driver x.1 there (none_before before) in
          let clock = k.1 in let rise = x.2 in (k.0 ∙ sym is_me, omega (arith, clock, rise))

      low : peer_of step.driver.me (going_action step) ≡ step.driver.me → step.peer.clock ≤ y.clock
      low here =
          let at : step.at ≡ p = sym (parts step).is_at ∙ here ∙ is_me in
          let same : step.new_peer ≡ y = same_peer_at t p step.new_peer y (subst (λ r. IsPeer t r step.new_peer) at (new_peer step)) is_peer in
          let rise = rises o step.local.memory (going step) (going_doing step) (going_action step) step.peer in
          let clock = ap (λ z. z.clock) ((parts step).is_peer ∙ same) in omega (arith, rise, clock)

      by : (fixed : Option ℕ) → stamp_of_phase (parts step).phase ≡ fixed → (one.holder ≡ p) × (one.clock ≤ y.clock)
      by None before = let k = own_after o step.local.memory step.driver (parts step).command step.peer one y.clock (parts step).phase step.driver.owed before (old before) low (owes one h) in (k.0 ∙ is_me, k.1)
      by (Some stamp) before = absurd (ended_after o step.local.memory step.driver (parts step).command step.peer one (parts step).phase step.driver.owed stamp before (owes one h) (ap (λ e. fixed_in e.doing) (parts step).is_driver ∙ none))

  pub owed_kept : OwedRight t
  owed_kept = record {
    sent = λ r stamp e one is_driver h is. elim (driver_cases step r e is_driver) [
      | inl own ↦ sent_own stamp one (subst (λ d. Has d.owed one) own.1 h) (ap fixed_stamp (sym own.1) ∙ is)
      | inr other ↦ right.sent r stamp e one other.1 h is
    ];
    own = λ r e y one is_driver is_peer h none. elim (driver_cases step r e is_driver) [
      | inl own ↦ let k = own_own y one (subst (λ q. IsPeer t q y) own.0 is_peer) (subst (λ d. Has d.owed one) own.1 h) (ap fixed_stamp (sym own.1) ∙ none) in (k.0 ∙ sym own.0, k.1)
      | inr other ↦ let x = peer_before step r y is_peer in let k = right.own r e x.0 one other.1 x.1 h none in let clock = k.1 in let rise = x.2 in (k.0, omega (arith, clock, rise))
    ];
  }

pub owed_begins : (o : Opening) → OwedRight (opening_state o)
owed_begins o = record {
  sent = λ p stamp d one is_driver h is. absurd (subst (λ owed. Has owed one) (ap (λ e. e.owed) (opening_idle o p d is_driver)) h);
  own = λ p d x one is_driver is_peer h none. absurd (subst (λ owed. Has owed one) (ap (λ e. e.owed) (opening_idle o p d is_driver)) h);
}
