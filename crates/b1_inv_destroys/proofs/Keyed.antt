-- A committed notice has the key of its node's destruction in the record.
use Rattle.std.proofs.Common.{◌≡◌, refl, sym, ap, subst, ◌∙◌, inl, inr, ℕ, ◌+◌, ◌%◌, ◌==◌, List, Bool, true, false, ◌&&◌, not, Option, Some, None}
use Rattle.std.specs.Prelude.{slice_get}
use Rattle.std.proofs.lemmas.Bool.{and_parts, eqb-true}
use native.Mathlib.Omega.{arith}
use Rattle.b1_model.specs.declared.commands.Command.{Command}
use Rattle.b1_model.specs.declared.naming.Key.{Key}
use Rattle.b1_model.specs.declared.naming.NodeRef.{NodeRef}
use Rattle.b1_model.specs.declared.naming.Opening.{Opening}
use Rattle.b1_model.specs.declared.entries.Entry.{Entry}
use Rattle.b1_model.specs.declared.entries.Entry.TheVariants.{Message, OwnNotice, ForeignNotice, ReleaseNotice}
use Rattle.b1_model.specs.declared.events.Action.{Action}
use Rattle.b1_model.specs.declared.events.Action.TheVariants as act
use Rattle.b1_model.specs.declared.parts.Slot.{Slot}
use Rattle.b1_model.specs.MachineParts.{PeerPart, State, is_staged, is_data, is_odd}
use Rattle.b1_model.specs.MachineTables.{is_staged_notice}
use Rattle.b1_model.specs.MachineSend.{with_slots}
use Rattle.b1_model.specs.MachineEvents.{slots_at}
use Rattle.b1_model.specs.MachineStep.{Step}
use Rattle.b1_step.specs.Rights.{Has}
use Rattle.b1_step.proofs.Orders.{find_has}
use Rattle.b1_inv.specs.Words.{IsPeer, IsDriver, stamp_of_phase}
use Rattle.b1_inv.specs.Notices.{NoticeShape, doomed_now}
use Rattle.b1_inv.specs.Sound.{IsSound}
use Rattle.b1_inv_record.specs.Destructions.{own_ref, doomed_key, DyingIsDoomed}
use Rattle.b1_inv_tools.proofs.Comes.{Comes, queue_comes}
use Rattle.b1_inv_tools.proofs.Leaves.{peer_cases}
use Rattle.b1_inv_notices.proofs.Turns.{parts, going, going_doing, going_action, ActionStamp, action_stamp}
use Rattle.b1_inv_notices.proofs.StampsLaw.{fixed_before}
use Rattle.b1_inv_record.specs.Numbers.{DestroysOwn}
use Rattle.b1_inv_destroys.proofs.Stays.{doomed_stays}
use Rattle.b1_model.specs.MachineTables.{is_stage}

-- the node that a notice in the queue of peer q is of
abbrev pub notice_node : ℕ → Entry → Option NodeRef
notice_node q (Message origin user index serial offset len nodes slots handles payload) = None
notice_node q (OwnNotice serial index) = Some (own_ref q serial)
notice_node q (ForeignNotice node index) = Some node
notice_node q (ReleaseNotice serial) = None

-- an entry in the queue of peer q, where it is a committed notice, has the key of its node
abbrev pub IsKeyed : Opening → State → ℕ → Key × Entry → Type 0
IsKeyed o s q f = (node : NodeRef) → notice_node q f.1 ≡ Some node → is_staged f ≡ false → doomed_key o s node ≡ Some f.0

-- the same of every entry of every queue
abbrev pub AllKeyed : Opening → State → Type 0
AllKeyed o s = (q : ℕ) (x : PeerPart) (f : Key × Entry) → IsPeer s q x → Has x.queue f → IsKeyed o s q f

pub odd_is : (n : ℕ) → n % 2 ≡ 0 → is_odd (n + 1) ≡ true
odd_is n even = let one : (n + 1) % 2 ≡ 1 = omega (arith, even) in ap (λ m. m == 1) one

pub message_none : (q : ℕ) (slots : List Slot) (e : Entry) → is_data e ≡ true → notice_node q (with_slots slots e) ≡ None
message_none q slots (Message origin user index serial offset len nodes old handles payload) is = refl
message_none q slots (OwnNotice serial index) is = absurd (cc is)
message_none q slots (ForeignNotice node index) is = absurd (cc is)
message_none q slots (ReleaseNotice serial) is = absurd (cc is)

pub stage_is_message : (origin index : ℕ) (f : Key × Entry) → is_stage origin index f ≡ true → is_data f.1 ≡ true
stage_is_message origin index f is = (and_parts (is_data f.1) (is_staged f) (and_parts (is_data f.1 && is_staged f) (f.0.origin == origin) (and_parts (is_data f.1 && is_staged f && (f.0.origin == origin)) (f.0.index == index) is).0).0).0

three : (a b c : Bool) → (not a && b && c) ≡ true → (b ≡ true) × (c ≡ true)
three false true true is = (refl, refl)
three true b c is = absurd (cc is)
three false false c is = absurd (cc is)
three false true false is = absurd (cc is)

-- the driver whose staged notice it is
staged_parts : (origin : ℕ) (g : Key × Entry) → is_staged_notice origin g ≡ true → (is_staged g ≡ true) × (g.0.origin ≡ origin)
staged_parts origin g is = let k = three (is_data g.1) (is_staged g) (g.0.origin == origin) is in (k.0, eqb-true g.0.origin origin k.1)

module _ {o : Opening} {s : State} {p : ℕ} {c : Option Command} {t : State} (sound : IsSound o s) (dying : DyingIsDoomed o s) (step : Step o s p c t) where
  number : step.driver.me ≡ p
  number = sound.numbered.drivers p step.driver step.is_driver

  driver_at : (q : ℕ) → q ≡ p → IsDriver s q step.driver
  driver_at q same = subst (λ r. IsDriver s r step.driver) (sym same) step.is_driver

  -- the key of a doomed node of the driver
  placed_at : (q i serial stamp : ℕ) (k : Key) → q ≡ p → stamp_of_phase (parts step).phase ≡ Some stamp → slice_get (doomed_now step.driver) i ≡ Some serial → k.origin ≡ q → k.index ≡ i
      → doomed_key o s (own_ref q serial) ≡ Some (record k { stamp = stamp })
  placed_at q i serial stamp k same fixed there origin index =
      dying.placed q i serial stamp step.driver (driver_at q same) (fixed_before sound step stamp fixed) there
      ∙ ap (λ n. Some (record { stamp = stamp; origin = n; index = i })) (sym origin)
      ∙ ap (λ n. Some (record { stamp = stamp; origin = k.origin; index = n })) (sym index)

  committed_keyed : (stamp : ℕ) (k : Key) (e : Entry) → stamp_of_phase (parts step).phase ≡ Some stamp → NoticeShape s step.at step.peer (k, e) → is_staged (k, e) ≡ true → k.origin ≡ p → (node : NodeRef) → notice_node step.at e ≡ Some node
      → doomed_key o s node ≡ Some (record k { stamp = stamp })
  committed_keyed stamp k (Message origin user index serial offset len nodes slots handles payload) fixed shape staged mine node is = absurd (cc is)
  committed_keyed stamp k (ReleaseNotice serial) fixed shape staged mine node is = absurd (cc is)
  committed_keyed stamp k (OwnNotice serial index) fixed shape staged mine node is =
      let same : own_ref step.at serial ≡ node = cc is in
      let here : step.at ≡ p = sym shape.0 ∙ mine in
      subst (λ n. doomed_key o s n ≡ Some (record k { stamp = stamp })) same
      (placed_at step.at index serial stamp k here fixed (shape.2 step.driver (driver_at step.at here) staged).1 shape.0 shape.1)
  committed_keyed stamp k (ForeignNotice of index) fixed shape staged mine node is =
      let same : of ≡ node = cc is in
      let here : of.owner ≡ p = sym shape.0 ∙ mine in
      subst (λ n. doomed_key o s n ≡ Some (record k { stamp = stamp })) same
      (placed_at of.owner index of.serial stamp k here fixed (shape.3 step.driver (driver_at of.owner here) staged).1 shape.0 shape.1)

  fresh_odd : is_odd (step.peer.clock + 1) ≡ true
  fresh_odd = odd_is step.peer.clock (sound.clocks.clock step.at step.peer step.is_peer).0

  comes_keyed : (action : Action) (f : Key × Entry) → ActionStamp (parts step).phase step.driver.owed action → Comes o (going step) (going_doing step) step.peer action f → IsKeyed o s step.at f
  comes_keyed (act.Stage peer place) f stamps comes node is even = let none : Some node ≡ None = sym is ∙ ap (λ z. notice_node step.at z.1) comes in absurd (cc none)
  comes_keyed (act.Commit peer place stamp) f stamps (g, found, same) node is even =
      let message = stage_is_message step.driver.me place g (find_has (is_stage step.driver.me place) step.peer.queue g found).1 in
      let none : Some node ≡ None = sym is ∙ ap (λ z. notice_node step.at z.1) same ∙ message_none step.at (slots_at (parts step).phase place) g.1 message in absurd (cc none)
  comes_keyed (act.CommitNotices peer stamp) f stamps (g, there, staged, same) node is even =
      let k = staged_parts step.driver.me g staged in
      committed_keyed stamp g.0 g.1 stamps (sound.notices.queued step.at step.peer g step.is_peer there) k.0 (k.1 ∙ number) node (ap (λ z. notice_node step.at z.1) (sym same) ∙ is)
      ∙ ap (λ z. Some z.0) (sym same)
  comes_keyed (act.DropRefs peer serial holder n clock) f stamps comes node is even = let none : Some node ≡ None = sym is ∙ ap (λ z. notice_node step.at z.1) comes.0 in absurd (cc none)
  comes_keyed act.BeginDestroy f stamps (index, serial, there, same, accepted) node is even = let odd : false ≡ true = sym even ∙ ap is_staged same ∙ fresh_odd in absurd (cc odd)
  comes_keyed (act.Visit peer) f stamps (index, serial, there, same) node is even = let odd : false ≡ true = sym even ∙ ap is_staged same ∙ fresh_odd in absurd (cc odd)
  comes_keyed action f stamps comes node is even = absurd comes

  module _ (own : DestroysOwn s) (keyed : AllKeyed o s) where
    here_keyed : (f : Key × Entry) → Has step.new_peer.queue f → IsKeyed o s step.at f
    here_keyed f has =
        elim (queue_comes o (going step) (going_doing step) f step.local.memory (going_action step) step.peer (subst (λ y. Has y.queue f) (sym (parts step).is_peer) has)) [
          | inl old ↦ keyed step.at step.peer f step.is_peer old.0
          | inr new ↦ comes_keyed (going_action step) f (action_stamp step.driver (parts step).command (parts step).phase step.driver.owed) new
        ]

    was_keyed : (q : ℕ) (y : PeerPart) (f : Key × Entry) → IsPeer t q y → Has y.queue f → IsKeyed o s q f
    was_keyed q y f is has = elim (peer_cases step q y is) [
      | inl here ↦ subst (λ r. IsKeyed o s r f) (sym here.0) (here_keyed f (subst (λ z. Has z.queue f) here.1 has))
      | inr other ↦ keyed q y f other.1 has
    ]

    pub keyed_kept : AllKeyed o t
    keyed_kept q y f is has node of even = doomed_stays sound own step node f.0 (was_keyed q y f is has node of even)
