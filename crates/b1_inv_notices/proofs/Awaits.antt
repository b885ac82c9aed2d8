-- A staged notice waits for the open destruction of its driver, and answers leave it waiting until its commit.
use Rattle.std.proofs.Common.{◌≡◌, ◌≢◌, ◌⊎◌, refl, sym, subst, ◌∙◌, inl, inr, ℕ, ◌+◌, Bool, true, false, cond, List, [], ◌∷◌, drop, length, get_or, Option, Some, None, Ok, Err, nat_lt}
use Rattle.std.specs.Prelude.{slice_get, ⊤}
use Rattle.std.proofs.lemmas.Bool.{eq-eqb, lt-ltb}
use Rattle.b1_model.specs.declared.naming.Key.{Key}
use Rattle.b1_model.specs.declared.naming.Opening.{Opening}
use Rattle.b1_model.specs.declared.commands.Command.{Command}
use Rattle.b1_model.specs.declared.answers.Answer.TheVariants as answer
use Rattle.b1_model.specs.declared.entries.Entry.{Entry}
use Rattle.b1_model.specs.declared.entries.Entry.TheVariants.{Message, OwnNotice, ForeignNotice, ReleaseNotice}
use Rattle.b1_model.specs.declared.events.Action.{Action}
use Rattle.b1_model.specs.declared.events.Action.TheVariants as act
use Rattle.b1_model.specs.declared.events.Outcome.{Outcome}
use Rattle.b1_model.specs.declared.events.Outcome.TheVariants as out
use Rattle.b1_model.specs.declared.events.Phase.{Phase}
use Rattle.b1_model.specs.declared.events.Phase.TheVariants.{Starting, Staging, Unstaging, Attaching, Stamping, Syncing, Committing, Dropping, Reaping, Visiting, Dooming, SyncingNotices, CommittingOwn, CommittingNotices, Flushing}
use Rattle.b1_model.specs.declared.events.Doing.{Doing}
use Rattle.b1_model.specs.declared.events.Destruction.{Destruction}
use Rattle.b1_model.specs.declared.events.OwedDrop.{OwedDrop}
use Rattle.b1_model.specs.MachineParts.{PeerPart, DriverPart, is_staged, no_origin}
use Rattle.b1_model.specs.MachineTables.{with_peer, is_staged_notice}
use Rattle.b1_model.specs.MachineDriver.{next_action, peer_of, visiting, with_visit, syncing_notices, committing_notices, is_flushing, turn, Goes, Ends}
use Rattle.b1_model.specs.MachineTook.{took}
use Rattle.b1_model.specs.MachineEvents.{doomed_of}
use Rattle.b1_step.specs.Rights.{Has}
use Rattle.b1_inv.specs.Words.{staged_peers, phase_uncommitted}
use Rattle.b1_inv_notices.proofs.Turns.{doing_in, opened, answered, OnTurn, may_end, took_leaves}
use Rattle.b1_inv_notices.proofs.Sets.{among_has, has_among, has_with_peer, has_drop_more, some_left}

-- the nodes that are doomed by what is open, the peers where it staged notices, and where it hasn't committed yet
abbrev pub doomed_in : Option Doing → List ℕ
doomed_in doing = elim doing [ None ↦ [] | Some one ↦ doomed_of one.phase ]

abbrev pub staged_in : Option Doing → List ℕ
staged_in doing = elim doing [ None ↦ [] | Some one ↦ staged_peers one.phase ]

abbrev pub uncommitted_in : ℕ → Option Doing → ℕ → Bool
uncommitted_in me doing q = elim doing [ None ↦ false | Some one ↦ phase_uncommitted me one.phase q ]

-- a notice of a node at peer q waits for the commit of what is open
pub record Awaited (me : ℕ) (doing : Option Doing) (q index serial : ℕ) : Type 0 where
  pub waits : uncommitted_in me doing q ≡ true
  pub dooms : slice_get (doomed_in doing) index ≡ Some serial
  pub there : (q ≡ me) ⊎ Has (staged_in doing) q

-- a commit at another peer
abbrev pub Elsewhere : ℕ → Phase → Outcome → ℕ → Type 0
Elsewhere me (CommittingOwn d stamp) out.CommitNotices q = q ≢ me
Elsewhere me (CommittingNotices d stamp at) out.CommitNotices q = q ≢ get_or d.staged at me
Elsewhere me phase outcome q = ⊤

module _ (command : Command) (me q index serial : ℕ) where
  abbrev Waits : Option Doing → Type 0
  Waits doing = Awaited me doing q index serial

  staged_stays : (peer : ℕ) (staged : List ℕ) (b : Bool) → (q ≡ me) ⊎ Has staged q → (q ≡ me) ⊎ Has (cond b (with_peer peer staged) staged) q
  staged_stays peer staged b (inl own) = inl own
  staged_stays peer staged true (inr h) = inr (has_with_peer peer staged q h)
  staged_stays peer staged false (inr h) = inr h

  pub waits_visiting : (d : Destruction) (left : List ℕ) → slice_get d.doomed index ≡ Some serial → (q ≡ me) ⊎ Has d.staged q → Waits (Some (doing_in command (visiting d left)))
  waits_visiting d [] is there = record { waits = refl; dooms = is; there = there }
  waits_visiting d (peer ∷ rest) is there = record { waits = refl; dooms = is; there = there }

  waits_syncing : (d : Destruction) (stamp at : ℕ) → slice_get d.doomed index ≡ Some serial → (q ≡ me) ⊎ Has d.staged q → Waits (Some (doing_in command (syncing_notices d stamp at)))
  waits_syncing d stamp at is there = by (nat_lt at (length d.staged))
    where
      by : (b : Bool) → Waits (Some (doing_in command (cond b (SyncingNotices d stamp at) (CommittingOwn d stamp))))
      by true = record { waits = refl; dooms = is; there = there }
      by false = record { waits = refl; dooms = is; there = there }

  waits_committing : (d : Destruction) (stamp at : ℕ) → slice_get d.doomed index ≡ Some serial → (q ≡ me) ⊎ Has d.staged q → Has (drop at d.staged) q → OnTurn command Waits (committing_notices command d stamp at)
  waits_committing d stamp at is there left = by (nat_lt at (length d.staged)) (is_flushing command) refl
    where
      by : (b c : Bool) → nat_lt at (length d.staged) ≡ b → OnTurn command Waits (cond b (Goes (CommittingNotices d stamp at)) (cond c (Goes (Flushing (Some stamp))) (Ends (answer.Destroyed stamp))))
      by true c below = record { waits = has_among q (drop at d.staged) left; dooms = is; there = there }
      by false c below = let both : true ≡ false = sym (lt-ltb at (length d.staged) (some_left at d.staged q left)) ∙ below in absurd (cc both)

  in_staged : (d : Destruction) → (q ≡ me) ⊎ Has d.staged q → q ≢ me → Has d.staged q
  in_staged d (inl own) apart = absurd (apart own)
  in_staged d (inr h) apart = h

  pub waits_turn : (phase : Phase) (outcome : Outcome) → Elsewhere me phase outcome q → Waits (Some (doing_in command phase)) → OnTurn command Waits (turn me command phase outcome)
  waits_turn (Visiting d left) (out.Visit got) elsewhere w = waits_visiting (with_visit d (get_or left 0 me) got) (drop 1 left) w.dooms (staged_stays (get_or left 0 me) d.staged got.staged w.there)
  waits_turn (Dooming d) (out.StampDestroy (Ok stamp)) elsewhere w = waits_syncing d stamp 0 w.dooms w.there
  waits_turn (Dooming d) (out.StampDestroy (Err late)) elsewhere w = waits_visiting d late w.dooms w.there
  waits_turn (SyncingNotices d stamp at) out.Sync elsewhere w = waits_syncing d stamp (at + 1) w.dooms w.there
  waits_turn (CommittingOwn d stamp) out.CommitNotices elsewhere w = waits_committing d stamp 0 w.dooms w.there (in_staged d w.there elsewhere)
  waits_turn (CommittingNotices d stamp at) out.CommitNotices elsewhere w = waits_committing d stamp (at + 1) w.dooms w.there (has_drop_more at d.staged q me (among_has q (drop at d.staged) w.waits) elsewhere)
  waits_turn Starting outcome elsewhere w = absurd (cc w.waits)
  waits_turn (Staging begun places collected) outcome elsewhere w = absurd (cc w.waits)
  waits_turn (Unstaging begun places refused place) outcome elsewhere w = absurd (cc w.waits)
  waits_turn (Attaching sending place slot) outcome elsewhere w = absurd (cc w.waits)
  waits_turn (Stamping sending) outcome elsewhere w = absurd (cc w.waits)
  waits_turn (Syncing sending stamp place) outcome elsewhere w = absurd (cc w.waits)
  waits_turn (Committing sending stamp place) outcome elsewhere w = absurd (cc w.waits)
  waits_turn Dropping outcome elsewhere w = absurd (cc w.waits)
  waits_turn (Reaping got) outcome elsewhere w = absurd (cc w.waits)
  waits_turn (Flushing stamp) outcome elsewhere w = absurd (cc w.waits)
  waits_turn phase outcome elsewhere w = w

  waits_end : (phase : Phase) → may_end phase ≡ true → Waits (Some (doing_in command phase)) → Waits None
  waits_end (Committing sending stamp place) may w = absurd (cc w.waits)
  waits_end Dropping may w = absurd (cc w.waits)
  waits_end (Reaping got) may w = absurd (cc w.waits)
  waits_end phase may w = absurd (cc may)

  pub waits_took : (d : DriverPart) (phase : Phase) (owed : List OwedDrop) (outcome : Outcome) → d.me ≡ me → OnTurn command Waits (turn me command phase outcome) → Waits (took (opened d command phase owed) outcome).doing
  waits_took d phase owed outcome is h = took_leaves Waits command waits_end d phase owed outcome (subst (λ n. OnTurn command Waits (turn n command phase outcome)) (sym is) h)

-- the events that commit notices
abbrev pub commits_notices : Action → Bool
commits_notices (act.CommitNotices peer stamp) = true
commits_notices action = false

module _ (o : Opening) (memory : Bool) (d : DriverPart) (command : Command) (x : PeerPart) (q : ℕ) where
  drop_elsewhere : (phase : Phase) → Elsewhere d.me phase out.DropRefs q
  drop_elsewhere (CommittingOwn destruction stamp) = tt
  drop_elsewhere (CommittingNotices destruction stamp at) = tt
  drop_elsewhere phase = tt

  pub elsewhere : (phase : Phase) (owed : List OwedDrop) → (q ≢ peer_of d.me (next_action (opened d command phase owed))) ⊎ (commits_notices (next_action (opened d command phase owed)) ≡ false) → Elsewhere d.me phase (answered o memory d command phase owed x).0 q
  elsewhere phase (one ∷ rest) far = drop_elsewhere phase
  elsewhere (CommittingOwn destruction stamp) [] (inl far) = far
  elsewhere (CommittingOwn destruction stamp) [] (inr no_commit) = absurd (cc no_commit)
  elsewhere (CommittingNotices destruction stamp at) [] (inl far) = far
  elsewhere (CommittingNotices destruction stamp at) [] (inr no_commit) = absurd (cc no_commit)
  elsewhere phase [] far = tt

-- ---- entries

-- what a notice waits for, while it is staged
abbrev pub NoticeOf : ℕ → Option Doing → ℕ → Key × Entry → Type 0
NoticeOf me doing q (k, Message origin user index serial offset len nodes slots handles payload) = ⊤
NoticeOf me doing q (k, OwnNotice serial index) = is_staged (k, OwnNotice serial index) ≡ true → Awaited me doing q index serial
NoticeOf me doing q (k, ForeignNotice node index) = is_staged (k, ForeignNotice node index) ≡ true → Awaited me doing q index node.serial
NoticeOf me doing q (k, ReleaseNotice serial) = ⊤

-- the key of an entry at peer q has what the entry says
abbrev pub KeyRight : ℕ → Key × Entry → Type 0
KeyRight q (k, Message origin user index serial offset len nodes slots handles payload) = (k.origin ≡ origin) × (k.index ≡ index) × (origin ≢ no_origin)
KeyRight q (k, OwnNotice serial index) = (k.origin ≡ q) × (k.index ≡ index)
KeyRight q (k, ForeignNotice node index) = (k.origin ≡ node.owner) × (k.index ≡ index) × (node.owner ≢ q)
KeyRight q (k, ReleaseNotice serial) = (k.origin ≡ no_origin) × (k.index ≡ serial) × (is_staged (k, ReleaseNotice serial) ≡ false)

pub carry_notice : (me : ℕ) (before after : Option Doing) (q : ℕ) (f : Key × Entry) → ((index serial : ℕ) → Awaited me before q index serial → Awaited me after q index serial) → NoticeOf me before q f → NoticeOf me after q f
carry_notice me before after q (k, Message origin user index serial offset len nodes slots handles payload) carry n = tt
carry_notice me before after q (k, OwnNotice serial index) carry n = λ staged. carry index serial (n staged)
carry_notice me before after q (k, ForeignNotice node index) carry n = λ staged. carry index node.serial (n staged)
carry_notice me before after q (k, ReleaseNotice serial) carry n = tt

pub committed_notice : (me : ℕ) (doing : Option Doing) (q : ℕ) (f : Key × Entry) → is_staged f ≡ false → NoticeOf me doing q f
committed_notice me doing q (k, Message origin user index serial offset len nodes slots handles payload) is = tt
committed_notice me doing q (k, OwnNotice serial index) is = λ staged. let both : true ≡ false = sym staged ∙ is in absurd (cc both)
committed_notice me doing q (k, ForeignNotice node index) is = λ staged. let both : true ≡ false = sym staged ∙ is in absurd (cc both)
committed_notice me doing q (k, ReleaseNotice serial) is = tt

-- what isn't a staged notice of its driver doesn't wait
pub other_notice : (me : ℕ) (doing : Option Doing) (q : ℕ) (f : Key × Entry) → f.0.origin ≡ me → is_staged_notice me f ≡ false → NoticeOf me doing q f
other_notice me doing q (k, Message origin user index serial offset len nodes slots handles payload) own is = tt
other_notice me doing q (k, OwnNotice serial index) own is = λ staged. let both : true ≡ false = sym (rw (staged, eq-eqb k.origin me own) refl) ∙ is in absurd (cc both)
other_notice me doing q (k, ForeignNotice node index) own is = λ staged. let both : true ≡ false = sym (rw (staged, eq-eqb k.origin me own) refl) ∙ is in absurd (cc both)
other_notice me doing q (k, ReleaseNotice serial) own is = tt
