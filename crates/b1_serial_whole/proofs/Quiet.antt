-- A reached state in which no command is open is quiet.
use Rattle.std.proofs.Common.{◌≡◌, refl, sym, ap, ◌∙◌, subst, inl, inr, ℕ, zero, suc, ◌<◌, true, false, List, [], ◌∷◌, length, Option, Some, None, arith}
use Rattle.std.specs.Prelude.{slice_get}
use Rattle.std.proofs.lemmas.Option.{slice_get_within, get_or_from_slice_get}
use Rattle.std.proofs.lemmas.Bool.{false_from_ne_true}
use Rattle.b1_model.specs.declared.naming.Key.{Key}
use Rattle.b1_model.specs.declared.naming.NodeRef.{NodeRef}
use Rattle.b1_model.specs.declared.naming.Opening.{Opening}
use Rattle.b1_model.specs.declared.entries.Entry.{Entry}
use Rattle.b1_model.specs.declared.entries.Entry.TheVariants.{Message, OwnNotice, ForeignNotice, ReleaseNotice}
use Rattle.b1_model.specs.Opening.{IsOpening}
use Rattle.b1_model.specs.MachineParts.{PeerPart, DriverPart, NodePart, HandleRecord, State, is_staged, is_dying, record_of, node_at, no_node, same_ref}
use Rattle.b1_model.specs.MachineStep.{Reached}
use Rattle.b1_step.specs.Rights.{Has}
use Rattle.b1_step.specs.Fixed.{IsNumbered}
use Rattle.b1_step.proofs.Orders.{same_ref_is}
use Rattle.b1_inv.specs.Words.{IsPeer, IsDriver, waits_at}
use Rattle.b1_inv.specs.Notices.{dying_of, dying_now}
use Rattle.b1_inv.specs.Sound.{IsSound}
use Rattle.b1_inv_refs.proofs.GivenUp.{found_has}
use Rattle.b1_inv_refs.proofs.Views.{or_none}
use Rattle.b1_inv_record.specs.Right.{IsRight}
use Rattle.b1_inv_ends.specs.Refused.{RefusedLeavesNothing}
use Rattle.b1_inv_ends.proofs.Refused.{refused_leaves_nothing}
use Rattle.b1_law.proofs.Reached.{reached_sound}
use Rattle.b1_legal.proofs.Reached.{reached_right}
use Rattle.b1_play_end.specs.Course.{OpenTold}
use Rattle.b1_serial_rest.specs.Rest.{IsQuiet}
use Rattle.b1_serial_whole.proofs.Told.{reached_told}

pub element_there : {X : Type 0} (xs : List X) (i : ℕ) → i < length xs → (x : X) × (slice_get xs i ≡ Some x)
element_there [] i below = absurd (omega (arith, below))
element_there (x ∷ rest) zero below = (x, refl)
element_there (x ∷ rest) (suc i) below = element_there rest i (omega (arith, below))

-- an element has an index
pub index_of : {X : Type 0} (xs : List X) (x : X) → Has xs x → (i : ℕ) × (slice_get xs i ≡ Some x)
index_of [] x there = absurd there
index_of (y ∷ rest) x (inl same) = (zero, ap Some (sym same))
index_of (y ∷ rest) x (inr there) = let i = index_of rest x there in (suc i.0, i.1)

-- each peer has a driver
pub driver_beside : {o : Opening} {s : State} → IsNumbered o s → (q : ℕ) (x : PeerPart) → IsPeer s q x → (d : DriverPart) × IsDriver s q d
driver_beside {o} {s} numbered q x is =
    let within = slice_get_within s.peers q x is in
    let peers = numbered.as_many_peers in
    let drivers = numbered.as_many_drivers in
    element_there s.drivers q (omega (arith, within, peers, drivers))

module _ {o : Opening} {s : State} (opens : IsOpening o) (reached : Reached o s) (idle : (p : ℕ) (d : DriverPart) → IsDriver s p d → d.doing ≡ None) where
  pub sound : IsSound o s
  sound = reached_sound o s opens reached

  pub right : IsRight o s
  right = reached_right o s opens reached

  left : RefusedLeavesNothing s
  left = refused_leaves_nothing sound right

  driver_of : (q : ℕ) (x : PeerPart) → IsPeer s q x → (d : DriverPart) × IsDriver s q d
  driver_of q x is = driver_beside sound.numbered q x is

  -- nothing of a driver's own is staged
  unstaged : (p q : ℕ) (x : PeerPart) (f : Key × Entry) → (d : DriverPart) × IsDriver s p d → IsPeer s q x → Has x.queue f → f.0.origin ≡ p → is_staged f ≡ false
  unstaged p q x f d is there origin = left.rests p q d.0 x f d.1 (idle p d.0 d.1) is there origin

  -- a foreign notice's node has an owner
  owner_there : (q : ℕ) (x : PeerPart) (k : Key) (node : NodeRef) (index : ℕ) → IsPeer s q x → Has x.queue (k, ForeignNotice node index) → (z : PeerPart) × IsPeer s node.owner z
  owner_there q x k node index is there = by (record_of node x.handles) refl
    where
      by : (r : Option HandleRecord) → record_of node x.handles ≡ r → (z : PeerPart) × IsPeer s node.owner z
      by None none = absurd (cc (sym (right.parts.marks.marked q index x k node is there) ∙ ap (λ r. (or_none node r).notice) none))
      by (Some h) some =
          let found = found_has (λ g. same_ref g.node node) x.handles h some in
          let made = sound.flights.made q x h is found.0 in
          (made.0, ap (λ n. slice_get s.peers n.owner) (sym (same_ref_is h.node node found.1)) ∙ made.1)

  -- no entry is staged
  committed : (q : ℕ) (x : PeerPart) (f : Key × Entry) → IsPeer s q x → Has x.queue f → is_staged f ≡ false
  committed q x (k, Message origin user index serial offset len nodes slots handles payload) is there = false_from_ne_true (is_staged (k, Message origin user index serial offset len nodes slots handles payload)) none
    where
      pending_none : (d : DriverPart) → d.doing ≡ None → elim d.doing [ None ↦ false | Some one ↦ waits_at one.phase k.index ] ≡ false
      pending_none d none = ap (λ r. elim r [ None ↦ false | Some one ↦ waits_at one.phase k.index ]) none

      none : is_staged (k, Message origin user index serial offset len nodes slots handles payload) ≡ true → ⊥
      none odd =
          let waits = left.waits q x (k, Message origin user index serial offset len nodes slots handles payload) is there refl odd in
          absurd (cc (sym waits.2 ∙ pending_none waits.0 (idle k.origin waits.0 waits.1)))
  committed q x (k, OwnNotice serial index) is there =
      let shape = sound.notices.queued q x (k, OwnNotice serial index) is there in
      unstaged q q x (k, OwnNotice serial index) (driver_of q x is) is there shape.0
  committed q x (k, ForeignNotice node index) is there =
      let shape = sound.notices.queued q x (k, ForeignNotice node index) is there in
      let owner = owner_there q x k node index is there in
      unstaged node.owner q x (k, ForeignNotice node index) (driver_of node.owner owner.0 owner.1) is there shape.0
  committed q x (k, ReleaseNotice serial) is there = (sound.notices.queued q x (k, ReleaseNotice serial) is there).2

  -- no driver's destruction dooms anything
  none_dying : (q : ℕ) (x : PeerPart) → IsPeer s q x → (d : DriverPart) × IsDriver s q d × (dying_now d ≡ [])
  none_dying q x is = let d = driver_of q x is in (d.0, d.1, ap (λ r. elim r [ None ↦ [] | Some doing ↦ dying_of doing.phase ]) (idle q d.0 d.1))

  in_time : (q : ℕ) (x : PeerPart) → IsPeer s q x → x.late ≡ []
  in_time q x is =
      let d = none_dying q x is in
      elim (sound.notices.late q d.0 x d.1 is).1 [
        | inl none ↦ none
        | inr some ↦ let nothing : length (dying_now d.0) ≡ 0 = ap length d.2 in absurd (omega (arith, some, nothing))
      ]

  stamped : (q : ℕ) (x : PeerPart) (n : NodePart) → IsPeer s q x → Has x.nodes n → is_dying n.state ≡ false
  stamped q x n is there = false_from_ne_true (is_dying n.state) none
    where
      none : is_dying n.state ≡ true → ⊥
      none dies =
          let d = none_dying q x is in
          let i = index_of x.nodes n there in
          let at : node_at x i.0 ≡ n = get_or_from_slice_get x.nodes i.0 n no_node i.1 in
          subst (λ l. Has l i.0) d.2 (sound.notices.dying q d.0 x i.0 d.1 is (ap (λ m. is_dying m.state) at ∙ dies))

  given_up : (q : ℕ) (x : PeerPart) → IsPeer s q x → x.dead ≡ []
  given_up q x is = let d = driver_of q x is in subst (OpenTold d.0 x) (idle q d.0 d.1) (reached_told o s opens reached q d.0 x d.1 is)

  pub is_quiet : IsQuiet s
  is_quiet = record {
    idle = idle;
    paid = λ p d is. left.owes p d is (idle p d is);
    given_up = given_up;
    in_time = in_time;
    committed = committed;
    stamped = stamped;
  }
