-- What holds of a peer's nodes and late set by its own driver's open command, and what answers leave of it.
use Rattle.std.proofs.Common.{◌≡◌, ◌≢◌, ◌⊎◌, refl, sym, ap, subst, ◌∙◌, inl, inr, ℕ, ◌+◌, ◌<◌, ◌≤◌, Bool, true, false, cond, List, [], ◌∷◌, drop, get_or, length, Option, Some, None, nat_lt}
use Rattle.std.proofs.lemmas.Bool.{cases_lt, ltb-true}
use native.Mathlib.Omega.{arith}
use Rattle.b1_model.specs.declared.commands.Command.{Command}
use Rattle.b1_model.specs.declared.answers.Answer.TheVariants as answer
use Rattle.b1_model.specs.declared.parts.NodeState.{NodeState}
use Rattle.b1_model.specs.declared.parts.NodeState.TheVariants.{Dying, Destroyed}
use Rattle.b1_model.specs.declared.parts.Visited.{Visited}
use Rattle.b1_model.specs.declared.events.Outcome.{Outcome}
use Rattle.b1_model.specs.declared.events.Outcome.TheVariants as out
use Rattle.b1_model.specs.declared.events.Phase.{Phase}
use Rattle.b1_model.specs.declared.events.Phase.TheVariants.{Starting, Staging, Unstaging, Attaching, Stamping, Syncing, Committing, Dropping, Reaping, Visiting, Dooming, SyncingNotices, CommittingOwn, CommittingNotices, Flushing}
use Rattle.b1_model.specs.declared.events.Doing.{Doing}
use Rattle.b1_model.specs.declared.events.Destruction.{Destruction}
use Rattle.b1_model.specs.MachineParts.{PeerPart, is_dying, node_at}
use Rattle.b1_model.specs.MachineTables.{with_peer}
use Rattle.b1_model.specs.MachineDriver.{visiting, with_visit, syncing_notices, committing_notices, is_flushing, turn, Turn, Goes, Ends}
use Rattle.b1_step.specs.Rights.{Has}
use Rattle.b1_inv.specs.Notices.{AreOthers, IsDestroying, IsDestruction, DestructionShape, dying_of}
use Rattle.b1_inv_notices.proofs.Turns.{doing_in, OnTurn, may_end}
use Rattle.b1_inv_notices.proofs.Calm.{is_destroying, begins_destroying, IsCalm, calm_turn}
use Rattle.b1_inv_notices.proofs.Sets.{has_at_place, others_with, others_drop}
use Rattle.b1_inv_notices.proofs.Nodes.{NodesKept}

-- the nodes that are dying by what is open
abbrev pub dying_in : Option Doing → List ℕ
dying_in doing = elim doing [ None ↦ [] | Some one ↦ dying_of one.phase ]

-- an open destruction has its shape, dying nodes are doomed by it, and the late set has other peers, and only then
pub record Own (doing : Option Doing) (x : PeerPart) : Type 0 where
  pub shape : (one : Doing) → doing ≡ Some one → DestructionShape x.peers x one.command one.phase
  pub dying : (serial : ℕ) → is_dying (node_at x serial).state ≡ true → Has (dying_in doing) serial
  pub others : AreOthers x.peers x.me x.late
  pub late : (x.late ≡ []) ⊎ (1 ≤ length (dying_in doing))

-- ---- where nothing is destroyed

calm_shape : (peers : ℕ) (x : PeerPart) (command : Command) (phase : Phase) → is_destroying phase ≡ false → DestructionShape peers x command phase
calm_shape peers x command (Visiting destruction left) is = absurd (cc is)
calm_shape peers x command (Dooming destruction) is = absurd (cc is)
calm_shape peers x command (SyncingNotices destruction stamp at) is = absurd (cc is)
calm_shape peers x command (CommittingOwn destruction stamp) is = absurd (cc is)
calm_shape peers x command (CommittingNotices destruction stamp at) is = absurd (cc is)
calm_shape peers x command phase is = tt

calm_dying : (phase : Phase) → is_destroying phase ≡ false → dying_of phase ≡ []
calm_dying (Visiting destruction left) is = absurd (cc is)
calm_dying (Dooming destruction) is = absurd (cc is)
calm_dying phase is = refl

pub none_dying : (doing : Option Doing) → IsCalm doing → dying_in doing ≡ []
none_dying None is = refl
none_dying (Some one) is = calm_dying one.phase is

shape_in : (doing : Option Doing) (x : PeerPart) → IsCalm doing → (one : Doing) → doing ≡ Some one → DestructionShape x.peers x one.command one.phase
shape_in None x calm one is = absurd (cc is)
shape_in (Some other) x calm one is = let same : other ≡ one = cc is in calm_shape x.peers x one.command one.phase (ap (λ z. is_destroying z.phase) (sym same) ∙ calm)

-- where the same nodes are dying and nothing is destroyed, the rest is the same
pub own_calm : (before after : Option Doing) (x : PeerPart) → dying_in before ≡ [] → IsCalm after → Own before x → Own after x
own_calm before after x none calm own = record {
  shape = shape_in after x calm;
  dying = λ serial is. subst (λ list. Has list serial) (none ∙ sym (none_dying after calm)) (own.dying serial is);
  others = own.others;
  late = elim own.late [ inl empty ↦ inl empty | inr some ↦ absurd (omega (arith, some, ap length none)) ];
}

-- ---- where the peer's part changes

destruction_kept : (peers : ℕ) (x y : PeerPart) (d : Destruction) (state : NodeState) → y.me ≡ x.me → NodesKept x.nodes y.nodes → IsDestruction peers x d state → IsDestruction peers y d state
destruction_kept peers x y d state me nodes is = record {
  some = is.some;
  apart = is.apart;
  made = λ serial h. let k = is.made serial h in (omega (arith, k.0, nodes.within), nodes.state serial k.0 ∙ k.1);
  staged = subst (λ n. AreOthers peers n d.staged) (sym me) is.staged;
}

shape_kept : (peers : ℕ) (x y : PeerPart) (command : Command) (phase : Phase) → y.me ≡ x.me → NodesKept x.nodes y.nodes → DestructionShape peers x command phase → DestructionShape peers y command phase
shape_kept peers x y command (Visiting d left) me nodes is = (is.0, destruction_kept peers x y d Dying me nodes is.1, is.2, subst (λ n. AreOthers peers n left) (sym me) is.3)
shape_kept peers x y command (Dooming d) me nodes is = (is.0, destruction_kept peers x y d Dying me nodes is.1)
shape_kept peers x y command (SyncingNotices d stamp at) me nodes is = (is.0, destruction_kept peers x y d (Destroyed stamp) me nodes is.1, is.2)
shape_kept peers x y command (CommittingOwn d stamp) me nodes is = (is.0, destruction_kept peers x y d (Destroyed stamp) me nodes is.1)
shape_kept peers x y command (CommittingNotices d stamp at) me nodes is = (is.0, destruction_kept peers x y d (Destroyed stamp) me nodes is.1, is.2)
shape_kept peers x y command phase me nodes is = tt

-- another late set, and nodes that keep their lives
module _ (doing : Option Doing) (x y : PeerPart) (me : y.me ≡ x.me) (peers : y.peers ≡ x.peers) (nodes : NodesKept x.nodes y.nodes) (own : Own doing x) where
  still_dying : (serial : ℕ) → is_dying (node_at y serial).state ≡ true → is_dying (node_at x serial).state ≡ true
  still_dying serial is =
      elim (cases_lt serial (length x.nodes)) [
        | inl within ↦ ap is_dying (sym (nodes.state serial within)) ∙ is
        | inr past ↦ let both : false ≡ true = sym (nodes.new serial past) ∙ is in absurd (cc both)
      ]

  pub own_with : AreOthers y.peers y.me y.late → ((y.late ≡ []) ⊎ (1 ≤ length (dying_in doing))) → Own doing y
  own_with others late = record {
    shape = λ one is. subst (λ n. DestructionShape n y one.command one.phase) (sym peers) (shape_kept x.peers x y one.command one.phase me nodes (own.shape one is));
    dying = λ serial is. own.dying serial (still_dying serial is);
    others = others;
    late = late;
  }

  pub own_same : y.late ≡ x.late → Own doing y
  own_same late =
      own_with
      (subst (λ list. AreOthers y.peers y.me list) (sym late) (subst (λ n. AreOthers n y.me x.late) (sym peers) (subst (λ n. AreOthers x.peers n x.late) (sym me) own.others)))
      (elim own.late [ inl empty ↦ inl (late ∙ empty) | inr some ↦ inr some ])

-- ---- what an answer leaves, but where a destruction begins or gets its stamp

-- the answers of those two events
abbrev pub dooming_answer : Outcome → Bool
dooming_answer (out.BeginDestroy got doomed) = true
dooming_answer (out.StampDestroy got) = true
dooming_answer outcome = false

not_begun : (outcome : Outcome) → dooming_answer outcome ≡ false → begins_destroying outcome ≡ false
not_begun (out.BeginDestroy got doomed) is = absurd (cc is)
not_begun outcome is = refl

module _ (command : Command) (x : PeerPart) where
  -- an open destruction that dooms the same nodes, in another phase
  own_next : (before after : Phase) → dying_of after ≡ dying_of before → DestructionShape x.peers x command after → Own (Some (doing_in command before)) x → Own (Some (doing_in command after)) x
  own_next before after same shape own = record {
    shape = λ one is. let k : doing_in command after ≡ one = cc is in subst (λ z. DestructionShape x.peers x z.command z.phase) k shape;
    dying = λ serial is. subst (λ list. Has list serial) (sym same) (own.dying serial is);
    others = own.others;
    late = elim own.late [ inl empty ↦ inl empty | inr some ↦ inr (omega (arith, some, ap length same)) ];
  }

  pub own_visiting : (before : Phase) (d : Destruction) (left : List ℕ) → dying_of before ≡ d.doomed → IsDestroying command → IsDestruction x.peers x d Dying → AreOthers x.peers x.me left → Own (Some (doing_in command before)) x → Own (Some (doing_in command (visiting d left))) x
  own_visiting before d [] same destroying is others own = own_next before (Dooming d) (sym same) (destroying, is) own
  own_visiting before d (peer ∷ rest) same destroying is others own = own_next before (Visiting d (peer ∷ rest)) (sym same) (destroying, is, omega arith, others) own

  staged_more : (d : Destruction) (peer : ℕ) (b : Bool) → peer < x.peers → peer ≢ x.me → AreOthers x.peers x.me d.staged → AreOthers x.peers x.me (cond b (with_peer peer d.staged) d.staged)
  staged_more d peer true within apart are = others_with x.peers x.me peer d.staged within apart are
  staged_more d peer false within apart are = are

  after_visit : (me : ℕ) (d : Destruction) (left : List ℕ) (got : Visited) → IsDestruction x.peers x d Dying → 1 ≤ length left → AreOthers x.peers x.me left → IsDestruction x.peers x (with_visit d (get_or left 0 me) got) Dying
  after_visit me d left got is some others =
      let k = others.others (get_or left 0 me) (has_at_place left 0 me (omega (arith, some))) in
      record { some = is.some; apart = is.apart; made = is.made; staged = staged_more d (get_or left 0 me) got.staged k.0 k.1 is.staged }

  pub own_syncing : (before : Phase) (d : Destruction) (stamp at : ℕ) → dying_of before ≡ [] → IsDestroying command → IsDestruction x.peers x d (Destroyed stamp) → Own (Some (doing_in command before)) x → Own (Some (doing_in command (syncing_notices d stamp at))) x
  own_syncing before d stamp at none destroying is own = by (nat_lt at (length d.staged)) refl
    where
      by : (b : Bool) → nat_lt at (length d.staged) ≡ b → Own (Some (doing_in command (cond b (SyncingNotices d stamp at) (CommittingOwn d stamp)))) x
      by true below = own_next before (SyncingNotices d stamp at) (sym none) (destroying, is, ltb-true at (length d.staged) below) own
      by false below = own_next before (CommittingOwn d stamp) (sym none) (destroying, is) own

  own_committing : (before : Phase) (d : Destruction) (stamp at : ℕ) → dying_of before ≡ [] → IsDestroying command → IsDestruction x.peers x d (Destroyed stamp) → Own (Some (doing_in command before)) x → OnTurn command (λ doing. Own doing x) (committing_notices command d stamp at)
  own_committing before d stamp at none destroying is own = by (nat_lt at (length d.staged)) (is_flushing command) refl
    where
      by : (b c : Bool) → nat_lt at (length d.staged) ≡ b → OnTurn command (λ doing. Own doing x) (cond b (Goes (CommittingNotices d stamp at)) (cond c (Goes (Flushing (Some stamp))) (Ends (answer.Destroyed stamp))))
      by true c below = own_next before (CommittingNotices d stamp at) (sym none) (destroying, is, ltb-true at (length d.staged) below) own
      by false true below = own_calm (Some (doing_in command before)) (Some (doing_in command (Flushing (Some stamp)))) x none refl own
      by false false below = own_calm (Some (doing_in command before)) None x none refl own

  on_calm : (before : Phase) (t : Turn) → is_destroying before ≡ false → OnTurn command IsCalm t → Own (Some (doing_in command before)) x → OnTurn command (λ doing. Own doing x) t
  on_calm before (Goes phase) calm after own = own_calm (Some (doing_in command before)) (Some (doing_in command phase)) x (calm_dying before calm) after own
  on_calm before (Ends got) calm after own = own_calm (Some (doing_in command before)) None x (calm_dying before calm) after own

  ends_own : (phase : Phase) → may_end phase ≡ true → Own (Some (doing_in command phase)) x → Own None x
  ends_own (Committing sending stamp place) is own = own_calm (Some (doing_in command (Committing sending stamp place))) None x refl refl own
  ends_own Dropping is own = own_calm (Some (doing_in command Dropping)) None x refl refl own
  ends_own (Reaping got) is own = own_calm (Some (doing_in command (Reaping got))) None x refl refl own
  ends_own phase is own = absurd (cc is)

  pub may_end_own : (phase : Phase) → may_end phase ≡ true → Own (Some (doing_in command phase)) x → Own None x
  may_end_own phase is own = ends_own phase is own

  at_calm : (me : ℕ) (phase : Phase) (outcome : Outcome) → is_destroying phase ≡ false → dooming_answer outcome ≡ false → Own (Some (doing_in command phase)) x → OnTurn command (λ doing. Own doing x) (turn me command phase outcome)
  at_calm me phase outcome calm is own = on_calm phase (turn me command phase outcome) calm (calm_turn command me phase outcome calm (not_begun outcome is)) own

  pub own_turn : (me : ℕ) (phase : Phase) (outcome : Outcome) → dooming_answer outcome ≡ false → Own (Some (doing_in command phase)) x → OnTurn command (λ doing. Own doing x) (turn me command phase outcome)
  own_turn me (Visiting d left) (out.Visit got) is own =
      let h = own.shape (doing_in command (Visiting d left)) refl in
      own_visiting (Visiting d left) (with_visit d (get_or left 0 me) got) (drop 1 left) refl h.0 (after_visit me d left got h.1 h.2 h.3) (others_drop x.peers x.me left h.3) own
  own_turn me (Dooming d) (out.StampDestroy got) is own = absurd (cc is)
  own_turn me (SyncingNotices d stamp at) out.Sync is own =
      let h = own.shape (doing_in command (SyncingNotices d stamp at)) refl in own_syncing (SyncingNotices d stamp at) d stamp (at + 1) refl h.0 h.1 own
  own_turn me (CommittingOwn d stamp) out.CommitNotices is own =
      let h = own.shape (doing_in command (CommittingOwn d stamp)) refl in own_committing (CommittingOwn d stamp) d stamp 0 refl h.0 h.1 own
  own_turn me (CommittingNotices d stamp at) out.CommitNotices is own =
      let h = own.shape (doing_in command (CommittingNotices d stamp at)) refl in own_committing (CommittingNotices d stamp at) d stamp (at + 1) refl h.0 h.1 own
  own_turn me Starting outcome is own = at_calm me Starting outcome refl is own
  own_turn me (Staging begun places collected) outcome is own = at_calm me (Staging begun places collected) outcome refl is own
  own_turn me (Unstaging begun places refused place) outcome is own = at_calm me (Unstaging begun places refused place) outcome refl is own
  own_turn me (Attaching sending place slot) outcome is own = at_calm me (Attaching sending place slot) outcome refl is own
  own_turn me (Stamping sending) outcome is own = at_calm me (Stamping sending) outcome refl is own
  own_turn me (Syncing sending stamp place) outcome is own = at_calm me (Syncing sending stamp place) outcome refl is own
  own_turn me (Committing sending stamp place) outcome is own = at_calm me (Committing sending stamp place) outcome refl is own
  own_turn me Dropping outcome is own = at_calm me Dropping outcome refl is own
  own_turn me (Reaping got) outcome is own = at_calm me (Reaping got) outcome refl is own
  own_turn me (Flushing stamp) outcome is own = at_calm me (Flushing stamp) outcome refl is own
  own_turn me phase outcome is own = own
