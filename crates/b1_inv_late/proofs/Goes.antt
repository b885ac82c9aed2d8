-- A command with a stamp goes on with it: it stays open until it has brought all clocks up, and loses no peer that it has reached.
use Rattle.std.proofs.Common.{◌≡◌, refl, sym, ap, subst, ◌∙◌, ℕ, ◌+◌, ◌≤◌, Bool, true, false, cond, not, nat_lt, List, [], ◌∷◌, length, Option, Some, Ok, Err}
use native.Mathlib.Omega.{arith}
use Rattle.b1_model.specs.declared.commands.Command.{Command}
use Rattle.b1_model.specs.declared.naming.Opening.{Opening}
use Rattle.b1_model.specs.declared.events.Destruction.{Destruction}
use Rattle.b1_model.specs.declared.events.Doing.{Doing}
use Rattle.b1_model.specs.declared.events.Outcome.TheVariants as out
use Rattle.b1_model.specs.declared.events.OwedDrop.{OwedDrop}
use Rattle.b1_model.specs.declared.events.Phase.{Phase}
use Rattle.b1_model.specs.declared.events.Phase.TheVariants.{Stamping, Syncing, Committing, Dropping, Reaping, Dooming, SyncingNotices, CommittingOwn}
use Rattle.b1_model.specs.declared.events.Sending.{Sending}
use Rattle.b1_model.specs.MachineParts.{PeerPart, DriverPart}
use Rattle.b1_model.specs.MachineSend.{final_stamp}
use Rattle.b1_model.specs.MachineDestroy.{doom_by}
use Rattle.b1_model.specs.MachineDriver.{accepted_from, is_place, syncing, syncing_notices, Goes, next_action, peer_of}
use Rattle.b1_model.specs.MachineTook.{goes_by, is_done, answer_of, turned, with_facts, took}
use Rattle.b1_model.specs.MachineEvents.{collected_of}
use Rattle.b1_step.specs.Rights.{Has}
use Rattle.b1_inv.specs.Words.{stamp_of_phase}
use Rattle.b1_inv_notices.proofs.Turns.{doing_in, opened, answered, may_end}
use Rattle.b1_inv_late.specs.Parties.{is_early, AcceptedAt, Reaches, is_syncing}
use Rattle.b1_inv_late.proofs.Turns.{first_accepted}
use Rattle.b1_inv_late.proofs.Tells.{Stamps}

-- a command is open with this stamp, and has reached this peer
abbrev pub OpenAt : ℕ → ℕ → Option Doing → Type 0
OpenAt stamp y doing = (one : Doing) × (doing ≡ Some one) × (stamp_of_phase one.phase ≡ Some stamp) × Reaches one.phase y

never_ends : (owed : List OwedDrop) (told : Bool) (phase : Phase) → may_end phase ≡ false → is_done owed told phase ≡ false
never_ends (one ∷ rest) told phase is = refl
never_ends [] told (Committing sending stamp place) is = absurd (cc is)
never_ends [] told Dropping is = absurd (cc is)
never_ends [] told (Reaping got) is = absurd (cc is)
never_ends [] told phase is = refl

goes_open : (e : DriverPart) (command : Command) (phase : Phase) → is_done e.owed e.told phase ≡ false → (turned e command (Goes phase)).doing ≡ Some (doing_in command phase)
goes_open e command phase is = ap (λ b. (goes_by b (answer_of command phase) e command phase).doing) is

stays_open : (e : DriverPart) (command : Command) (phase : Phase) → may_end phase ≡ false → (turned e command (Goes phase)).doing ≡ Some (doing_in command phase)
stays_open e command phase is = goes_open e command phase (never_ends e.owed e.told phase is)

-- a SEND with its stamp syncs from a place on, or commits
in_syncing : (e : DriverPart) (command : Command) (sending : Sending) (stamp next y : ℕ) → e.owed ≡ [] → AcceptedAt sending.begun.to sending.places y → OpenAt stamp y (turned e command (Goes (syncing sending stamp next))).doing
in_syncing e command sending stamp next y none reached = by (is_place next sending.places)
  where
    by : (b : Bool) → OpenAt stamp y (turned e command (Goes (cond b (Syncing sending stamp next) (Committing sending stamp (accepted_from 0 sending.places))))).doing
    by true = (doing_in command (Syncing sending stamp next), stays_open e command (Syncing sending stamp next) refl, refl, reached)
    by false =
        let commits = Committing sending stamp (accepted_from 0 sending.places) in
        (doing_in command commits, goes_open e command commits (ap (λ owed. is_done owed e.told commits) none ∙ ap not (first_accepted sending.places reached.0 reached.3)), refl, reached)

-- a destruction with its stamp syncs from a place of its peers on, or commits
in_notices : (e : DriverPart) (command : Command) (d : Destruction) (stamp at y : ℕ) → Has d.staged y → OpenAt stamp y (turned e command (Goes (syncing_notices d stamp at))).doing
in_notices e command d stamp at y reached = by (nat_lt at (length d.staged))
  where
    by : (b : Bool) → OpenAt stamp y (turned e command (Goes (cond b (SyncingNotices d stamp at) (CommittingOwn d stamp)))).doing
    by true = (doing_in command (SyncingNotices d stamp at), stays_open e command (SyncingNotices d stamp at) refl, refl, reached)
    by false = (doing_in command (CommittingOwn d stamp), stays_open e command (CommittingOwn d stamp) refl, refl, reached)

module _ (o : Opening) (memory : Bool) (d : DriverPart) (command : Command) (x : PeerPart) where
  -- what is open after the next event
  abbrev pub after : Phase → List OwedDrop → Option Doing
  after phase owed = (took (opened d command phase owed) (answered o memory d command phase owed x).0).doing

  -- while it brings clocks up it stays open
  pub still_open : (phase : Phase) (owed : List OwedDrop) (stamp y : ℕ) → is_syncing phase ≡ true → stamp_of_phase phase ≡ Some stamp → Reaches phase y → OpenAt stamp y (after phase owed)
  still_open (Syncing sending fixed place) [] stamp y is same reached =
      let k : fixed ≡ stamp = cc same in
      subst (λ n. OpenAt n y (after (Syncing sending fixed place) [])) k
      (in_syncing (with_facts (opened d command (Syncing sending fixed place) []) (doing_in command (Syncing sending fixed place)) out.Sync) command sending fixed (accepted_from (place + 1) sending.places) y refl reached)
  still_open (Syncing sending fixed place) (one ∷ rest) stamp y is same reached = (
    doing_in command (Syncing sending fixed place),
    stays_open (with_facts (opened d command (Syncing sending fixed place) (one ∷ rest)) (doing_in command (Syncing sending fixed place)) out.DropRefs) command (Syncing sending fixed place) refl,
    same,
    reached,
  )
  still_open (SyncingNotices destruction fixed at) [] stamp y is same reached =
      let k : fixed ≡ stamp = cc same in
      subst (λ n. OpenAt n y (after (SyncingNotices destruction fixed at) [])) k
      (in_notices (with_facts (opened d command (SyncingNotices destruction fixed at) []) (doing_in command (SyncingNotices destruction fixed at)) out.Sync) command destruction fixed (at + 1) y reached)
  still_open (SyncingNotices destruction fixed at) (one ∷ rest) stamp y is same reached = (
    doing_in command (SyncingNotices destruction fixed at),
    stays_open (with_facts (opened d command (SyncingNotices destruction fixed at) (one ∷ rest)) (doing_in command (SyncingNotices destruction fixed at)) out.DropRefs) command (SyncingNotices destruction fixed at) refl,
    same,
    reached,
  )
  still_open phase owed stamp y is same reached = absurd (cc is)

  -- what the event does that gives a stamp
  pub record Gives (phase : Phase) (owed : List OwedDrop) (stamp : ℕ) : Type 0 where
    pub early : is_early phase ≡ true
    pub own : peer_of d.me (next_action (opened d command phase owed)) ≡ d.me
    pub clock : x.clock + 2 ≤ stamp
    pub above : collected_of phase + 2 ≤ stamp
    pub high : stamp ≤ (answered o memory d command phase owed x).1.clock
    pub goes : (y : ℕ) → Reaches phase y → OpenAt stamp y (after phase owed)

  send_gives : (sending : Sending) (stamp : ℕ) → final_stamp x sending.collected ≡ stamp → Gives (Stamping sending) [] stamp
  send_gives sending stamp is = record {
    early = refl;
    own = refl;
    clock = omega (arith, is);
    above = omega (arith, is);
    high = omega (arith, is);
    goes = λ y reached. subst (λ n. OpenAt n y (after (Stamping sending) [])) is
        (in_syncing (with_facts (opened d command (Stamping sending) []) (doing_in command (Stamping sending)) (out.Stamp (final_stamp x sending.collected))) command sending (final_stamp x sending.collected) (accepted_from 0 sending.places) y refl reached);
  }

  doom_gives : (destruction : Destruction) (stamp : ℕ) → x.late ≡ [] → final_stamp x destruction.collected ≡ stamp → Gives (Dooming destruction) [] stamp
  doom_gives destruction stamp none is = record {
    early = refl;
    own = refl;
    clock = omega (arith, is);
    above = omega (arith, is);
    high = let clock : (answered o memory d command (Dooming destruction) [] x).1.clock ≡ final_stamp x destruction.collected = ap (λ late. (doom_by late x destruction.collected destruction.doomed).clock) none in omega (arith, is, clock);
    goes = λ y reached. subst (λ n. OpenAt n y (after (Dooming destruction) [])) is
        (subst (λ doing. OpenAt (final_stamp x destruction.collected) y doing) (sym (ap (λ late. (took (opened d command (Dooming destruction) []) (out.StampDestroy (elim late [ [] ↦ Ok (final_stamp x destruction.collected) | peer ∷ rest ↦ Err (peer ∷ rest) ]))).doing) none))
        (in_notices (with_facts (opened d command (Dooming destruction) []) (doing_in command (Dooming destruction)) (out.StampDestroy (Ok (final_stamp x destruction.collected)))) command destruction (final_stamp x destruction.collected) 0 y reached));
  }

  pub gives : (phase : Phase) (owed : List OwedDrop) (stamp : ℕ) → Stamps o memory d command x phase owed stamp → Gives phase owed stamp
  gives (Stamping sending) [] stamp is = send_gives sending stamp is
  gives (Dooming destruction) [] stamp is = doom_gives destruction stamp is.0 is.1
  gives phase owed stamp is = absurd is
