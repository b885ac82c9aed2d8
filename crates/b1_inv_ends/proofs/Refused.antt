-- What stands in the queues is of open SENDs and of sent ones.
use Rattle.std.proofs.Common.{◌≡◌, refl, sym, ap, subst, ◌∙◌, inl, inr, ℕ, suc, Bool, true, false, List, [], take, Option, Some, None}
use Rattle.std.specs.Prelude.{slice_get, option_and_then}
use Rattle.std.proofs.lemmas.Bool.{eqb-true}
use Rattle.std.proofs.lemmas.Option.{same_Some}
use Rattle.b1_model.specs.declared.naming.Key.{Key}
use Rattle.b1_model.specs.declared.naming.Opening.{Opening}
use Rattle.b1_model.specs.declared.naming.Wire.{Wire}
use Rattle.b1_model.specs.declared.commands.Command.{Command}
use Rattle.b1_model.specs.declared.commands.Command.TheVariants as cmd
use Rattle.b1_model.specs.declared.answers.Reason.{Reason}
use Rattle.b1_model.specs.declared.answers.Sent.{Sent}
use Rattle.b1_model.specs.declared.answers.Answer.{Answer}
use Rattle.b1_model.specs.declared.answers.Answer.TheVariants as ans
use Rattle.b1_model.specs.declared.entries.Entry.{Entry}
use Rattle.b1_model.specs.declared.entries.Entry.TheVariants.{Message, OwnNotice, ForeignNotice, ReleaseNotice}
use Rattle.b1_model.specs.declared.events.Doing.{Doing}
use Rattle.b1_model.specs.declared.records.Call.{Call}
use Rattle.b1_model.specs.declared.records.Record.{Record}
use Rattle.b1_model.specs.Names.{Node, Name, calls_of, wired, made_in}
use Rattle.b1_model.specs.Ledger.{Table, Message as Sending, message, message_by, message_of, message_within, slots_by, table_in, start, is_send, sent_at, is_accepted}
use Rattle.b1_model.specs.MachineParts.{PeerPart, DriverPart, State, is_data, is_staged}
use Rattle.b1_model.specs.MachineStep.{record_of_state}
use Rattle.b1_step.specs.Rights.{Has}
use Rattle.b1_ledger.proofs.Walks.{sent_at-call}
use Rattle.b1_inv.specs.Words.{IsPeer, IsDriver, waits_at, phase_uncommitted, is_pending, is_uncommitted}
use Rattle.b1_inv.specs.Sound.{IsSound}
use Rattle.b1_inv_record.specs.Entries.{IsCallOf}
use Rattle.b1_inv_record.specs.Right.{IsRight}
use Rattle.b1_inv_ends.specs.Refused.{WasSent, RefusedLeavesNothing}

-- ---- the call of a message

module _ (q : ℕ) (known : List Name) (tab : Table) (stamp : ℕ) (m : Sending) where
  abbrev IsSentBy : Answer → Type 0
  IsSentBy answer = (b : Sent) × (answer ≡ ans.Sent b) × (b.stamp ≡ stamp) × (m.places ≡ b.places)

  sent_kind : (command : Command) (answer : Answer) → is_send stamp command answer ≡ true → message_by q known tab command answer ≡ Some m → IsSentBy answer
  sent_kind (cmd.Send s) (ans.Sent b) is same = (b, refl, sym (eqb-true stamp b.stamp is), sym (ap (λ z. z.places) (same_Some _ m same)))
  sent_kind command answer is same = absurd (cc is)

  sent_found : (found : Option Call) (c : Call) → found ≡ Some c → is_send stamp c.command c.answer ≡ true → message_of q known tab found ≡ Some m → IsSentBy c.answer
  sent_found found c at is same = sent_kind c.command c.answer is (sym (ap (message_of q known tab) at) ∙ same)

module _ (ws : List Wire) (r : Record) (stamp q : ℕ) (m : Sending) where
  abbrev look : Key → List (Option Node)
  look = slots_by (message_within ws r stamp) q

  -- a message of a record is a sent call of its origin
  message_call : message ws r stamp q ≡ Some m → (k : ℕ) × (c : Call) × (b : Sent) × (slice_get (calls_of r q) k ≡ Some c) × (c.answer ≡ ans.Sent b) × (b.stamp ≡ stamp) × (m.places ≡ b.places)
  message_call is = by (sent_at stamp (calls_of r q)) refl is
    where
      by : (found : Option ℕ) → sent_at stamp (calls_of r q) ≡ found
          → option_and_then (λ k. message_of q (made_in 0 (wired ws q) (take (suc k) (calls_of r q))) (table_in look (start ws q) (take k (calls_of r q))) (slice_get (calls_of r q) k)) found ≡ Some m
          → (k : ℕ) × (c : Call) × (b : Sent) × (slice_get (calls_of r q) k ≡ Some c) × (c.answer ≡ ans.Sent b) × (b.stamp ≡ stamp) × (m.places ≡ b.places)
      by None at none = absurd (cc none)
      by (Some k) at same =
          let call = sent_at-call stamp (calls_of r q) k at in
          let kind = sent_found q (made_in 0 (wired ws q) (take (suc k) (calls_of r q))) (table_in look (start ws q) (take k (calls_of r q))) stamp m (slice_get (calls_of r q) k) call.0 call.1 call.2 same in
          (k, call.0, kind.0, call.1, kind.1, kind.2, kind.3)

accepted_at : (place : Option (Option Reason)) → is_accepted place ≡ true → place ≡ Some None
accepted_at None is = absurd (cc is)
accepted_at (Some None) is = refl
accepted_at (Some (Some reason)) is = absurd (cc is)

call_accepted : (q : ℕ) (k : Key) (e : Entry) (m : Sending) → is_data e ≡ true → IsCallOf q k e m → slice_get m.places k.index ≡ Some None
call_accepted q k (Message origin user index serial offset len nodes slots handles payload) m is_message is = accepted_at (slice_get m.places k.index) is.0
call_accepted q k (OwnNotice serial index) m is_message is = absurd is
call_accepted q k (ForeignNotice node index) m is_message is = absurd is
call_accepted q k (ReleaseNotice serial) m is_message is = absurd is

-- ---- what is staged

-- an idle driver waits at no place, and has nothing to commit
no_wait : (d : DriverPart) (doing : Doing) → d.doing ≡ None → d.doing ≡ Some doing → ⊥
no_wait d doing idle is = let both : None ≡ Some doing = sym idle ∙ is in cc both

none_uncommitted : (d : DriverPart) (q : ℕ) → d.doing ≡ None → is_uncommitted d q ≡ false
none_uncommitted d q idle = ap (λ doing. elim doing [ None ↦ false | Some one ↦ phase_uncommitted d.me one.phase q ]) idle

module _ {o : Opening} {s : State} (sound : IsSound o s) (right : IsRight o s) where
  waits : (q : ℕ) (x : PeerPart) (f : Key × Entry) → IsPeer s q x → Has x.queue f → is_data f.1 ≡ true → is_staged f ≡ true → (d : DriverPart) × IsDriver s f.0.origin d × (is_pending d f.0.index ≡ true)
  waits q x f is has is_message odd =
      let sender = sound.stages.sender q x f is has is_message odd in
      (sender.driver, sender.is_driver, ap (λ doing. elim doing [ None ↦ false | Some one ↦ waits_at one.phase f.0.index ]) sender.is_open ∙ sender.waits)

  sent : (q : ℕ) (x : PeerPart) (f : Key × Entry) → IsPeer s q x → Has x.queue f → is_data f.1 ≡ true → is_staged f ≡ false → WasSent s f.0
  sent q x f is has is_message even =
      let m = right.entries.called.sent q x f is has is_message even in
      let call = message_call o.wires (record_of_state s) f.0.stamp f.0.origin m.0 m.1 in
      (call.0, call.1, call.2, call.3, call.4, call.5, ap (λ places. slice_get places f.0.index) (sym call.6) ∙ call_accepted q f.0 f.1 m.0 is_message m.2)

  module _ (p q : ℕ) (d : DriverPart) (x : PeerPart) (is_driver : IsDriver s p d) (idle : d.doing ≡ None) (is : IsPeer s q x) where
    same_driver : (r : ℕ) → r ≡ p → IsDriver s r d
    same_driver r same = subst (λ n. IsDriver s n d) (sym same) is_driver

    not_staged : (f : Key × Entry) → Has x.queue f → f.0.origin ≡ p → is_staged f ≡ true → ⊥
    not_staged (k, Message origin user index serial offset len nodes slots handles payload) has mine odd =
        let sender = sound.stages.sender q x (k, Message origin user index serial offset len nodes slots handles payload) is has refl odd in
        let same : sender.driver ≡ d = same_Some sender.driver d (sym sender.is_driver ∙ same_driver k.origin mine) in
        no_wait d sender.doing idle (ap (λ e. e.doing) (sym same) ∙ sender.is_open)
    not_staged (k, OwnNotice serial index) has mine odd =
        let shape = sound.notices.queued q x (k, OwnNotice serial index) is has in
        let waiting = shape.2 d (same_driver q (sym shape.0 ∙ mine)) odd in
        let both : true ≡ false = sym waiting.0 ∙ none_uncommitted d q idle in cc both
    not_staged (k, ForeignNotice node index) has mine odd =
        let shape = sound.notices.queued q x (k, ForeignNotice node index) is has in
        let waiting = shape.3 d (same_driver node.owner (sym shape.0 ∙ mine)) odd in
        let both : true ≡ false = sym waiting.0 ∙ none_uncommitted d q idle in cc both
    not_staged (k, ReleaseNotice serial) has mine odd =
        let shape = sound.notices.queued q x (k, ReleaseNotice serial) is has in
        let both : true ≡ false = sym odd ∙ shape.2 in cc both

    rests : (f : Key × Entry) → Has x.queue f → f.0.origin ≡ p → is_staged f ≡ false
    rests f has mine = by (is_staged f) refl
      where
        by : (b : Bool) → is_staged f ≡ b → b ≡ false
        by false even = refl
        by true odd = absurd (not_staged f has mine odd)

  owes : (p : ℕ) (d : DriverPart) → IsDriver s p d → d.doing ≡ None → d.owed ≡ []
  owes p d is idle = elim (sound.references.owing p d is) [
    | inl none ↦ none
    | inr (phase, is_phase, may) ↦ let both : None ≡ Some phase = sym (ap (λ doing. elim doing [ None ↦ None | Some one ↦ Some one.phase ]) idle) ∙ is_phase in absurd (cc both)
  ]

  pub refused_leaves_nothing : RefusedLeavesNothing s
  refused_leaves_nothing = record {
    waits = waits;
    sent = sent;
    rests = λ p q d x f is_driver idle is has mine. rests p q d x is_driver idle is f has mine;
    owes = owes;
  }
