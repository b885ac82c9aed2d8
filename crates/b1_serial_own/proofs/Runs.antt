-- A schedule runs every command of one driver to its end, and so a whole command.
use Rattle.std.proofs.Common.{◌≡◌, ◌≢◌, ◌⊎◌, refl, sym, ap, ◌∙◌, subst, inl, inr, ℕ, zero, suc, ◌<◌, ◌≤◌, Bool, true, false, cond, List, [], ◌∷◌, length, get_or, All, Option, Some, None, is_some, arith}
use Rattle.std.specs.Prelude.{slice_get}
use Rattle.std.proofs.lemmas.Option.{same_Some, slice_get_within}
use Rattle.std.proofs.lemmas.List.{get_or_past}
use Rattle.std.proofs.lemmas.Bool.{cases_lt}
use Rattle.b1_model.specs.declared.naming.NodeRef.{NodeRef}
use Rattle.b1_model.specs.declared.naming.Opening.{Opening}
use Rattle.b1_model.specs.Opening.{IsOpening}
use Rattle.b1_model.specs.declared.commands.Command.{Command}
use Rattle.b1_model.specs.declared.commands.Command.TheVariants as cmd
use Rattle.b1_model.specs.declared.events.Action.TheVariants as act
use Rattle.b1_model.specs.declared.events.Doing.{Doing}
use Rattle.b1_model.specs.declared.events.OwedDrop.{OwedDrop}
use Rattle.b1_model.specs.declared.events.Phase.{Phase}
use Rattle.b1_model.specs.declared.events.Phase.TheVariants.{Starting, Staging, Unstaging, Attaching, Stamping, Syncing, Committing, Dropping, Reaping, Visiting, Dooming, SyncingNotices, CommittingOwn, CommittingNotices, Flushing}
use Rattle.b1_model.specs.MachineParts.{PeerPart, DriverPart, State}
use Rattle.b1_model.specs.MachineDriver.{no_ref, node_of_place, first_action, phase_action, next_action, peer_of}
use Rattle.b1_model.specs.MachineStep.{begun, begun_by, aimed, effect, stepped, stepped_by, stepped_to, stepped_at, with_parts, Reached}
use Rattle.b1_model.specs.Script.{resolved}
use Rattle.b1_schedule.specs.Shortage.{Shortage, is_short}
use Rattle.b1_schedule.specs.Schedule.{beginning, with_step}
use Rattle.b1_step.specs.Rights.{Has}
use Rattle.b1_step.proofs.Lists.{has_within}
use Rattle.b1_step.proofs.Steps.{step_of, reached_more}
use Rattle.b1_step.proofs.Locality.{own_driver}
use Rattle.b1_inv.specs.Words.{IsPeer, IsDriver, IsMade}
use Rattle.b1_inv.specs.Sends.{SendShape}
use Rattle.b1_inv.specs.Notices.{AreOthers, DestructionShape}
use Rattle.b1_inv.specs.Sound.{IsSound}
use Rattle.b1_inv_tools.proofs.Facts.{next_of, next_owed}
use Rattle.b1_law.proofs.Reached.{reached_sound}
use Rattle.b1_progress.specs.Work.{work}
use Rattle.b1_progress.proofs.Ends.{work_falls}
use Rattle.b1_serial_rest.specs.Whole.{own_step, own_steps, is_open_at, RunsWhole}
use Rattle.b1_serial_whole.proofs.Whole.{GoesOn, Whole}
use Rattle.b1_serial_whole.proofs.Quiet.{element_there}

-- ---- the peer of the next event is there

module _ {o : Opening} {s : State} (sound : IsSound o s) (p : ℕ) (d : DriverPart) (is_d : IsDriver s p d) where
  abbrev pub There : ℕ → Type 0
  There q = (x : PeerPart) × IsPeer s q x

  within : (q : ℕ) → q < length s.peers → There q
  within q less = element_there s.peers q less

  own_within : p < length s.peers
  own_within =
      let less = slice_get_within s.drivers p d is_d in
      let drivers = sound.numbered.as_many_drivers in
      let peers = sound.numbered.as_many_peers in
      omega (arith, less, drivers, peers)

  pub own_there : There p
  own_there = within p own_within

  me_is : d.me ≡ p
  me_is = sound.numbered.drivers p d is_d

  mine : There d.me
  mine = subst There (sym me_is) own_there

  -- the node at a place was made
  place_there : (nodes : List NodeRef) (place : ℕ) → All (IsMade s) nodes → There (node_of_place nodes place).owner
  place_there nodes place made = by (cases_lt place (length nodes))
    where
      by : (place < length nodes) ⊎ (length nodes ≤ place) → There (node_of_place nodes place).owner
      by (inl less) = let k = made place no_ref less in (k.0, k.1)
      by (inr past) = subst There (sym (ap (λ n. n.owner) (get_or_past nodes place no_ref past))) (within 0 (let less = own_within in omega (arith, less)))

  other_there : (x : PeerPart) (list : List ℕ) (at : ℕ) → IsPeer s p x → AreOthers x.peers x.me list → There (get_or list at d.me)
  other_there x list at is_x others = by (cases_lt at (length list))
    where
      by : (at < length list) ⊎ (length list ≤ at) → There (get_or list at d.me)
      by (inl less) =
          let k = (others.others (get_or list at d.me) (has_within list at d.me less)).0 in
          let many = (sound.numbered.peers p x is_x).peers in
          let peers = sound.numbered.as_many_peers in
          within (get_or list at d.me) (omega (arith, k, many, peers))
      by (inr past) = subst There (sym (get_or_past list at d.me past)) mine

  first_there : (command : Command) → There (peer_of d.me (first_action command))
  first_there cmd.Disconnect = mine
  first_there cmd.Query = mine
  first_there (cmd.Reset limits) = mine
  first_there (cmd.Limit limits) = mine
  first_there (cmd.Release number) = mine
  first_there (cmd.Destroy numbers) = mine
  first_there (cmd.SliceRelease offset) = mine
  first_there (cmd.Send c) = mine
  first_there cmd.Recv = mine
  first_there cmd.Await = mine

  start_there : (shut : Bool) (command : Command) → There (peer_of d.me (cond shut act.Local (first_action command)))
  start_there true command = mine
  start_there false command = first_there command

  module _ (doing : Doing) (is_open : d.doing ≡ Some doing) where
    shape : SendShape s doing.command doing.phase
    shape = sound.sends.shape p d doing is_d is_open

    destruction : DestructionShape own_there.0.peers own_there.0 doing.command doing.phase
    destruction = sound.notices.shape p d own_there.0 doing is_d own_there.1 is_open

    phase_there : (command : Command) (phase : Phase) → SendShape s command phase → DestructionShape own_there.0.peers own_there.0 command phase → There (peer_of d.me (phase_action d.me d.shut command phase))
    phase_there command Starting send destroy = start_there d.shut command
    phase_there command (Staging begun places collected) send destroy = place_there begun.to (length places) send.0.to
    phase_there command (Unstaging begun places refused place) send destroy = place_there begun.to place send.0.to
    phase_there command (Attaching sending place slot) send destroy = place_there sending.begun.with slot send.0.begun.with
    phase_there command (Stamping sending) send destroy = mine
    phase_there command (Syncing sending stamp place) send destroy = place_there sending.begun.to place send.0.begun.to
    phase_there command (Committing sending stamp place) send destroy = place_there sending.begun.to place send.0.begun.to
    phase_there command Dropping send destroy = mine
    phase_there command (Reaping answer) send destroy = mine
    phase_there command (Visiting destruction left) send destroy = other_there own_there.0 left 0 own_there.1 destroy.3
    phase_there command (Dooming destruction) send destroy = mine
    phase_there command (SyncingNotices destruction stamp at) send destroy = other_there own_there.0 destruction.staged at own_there.1 destroy.1.staged
    phase_there command (CommittingOwn destruction stamp) send destroy = mine
    phase_there command (CommittingNotices destruction stamp at) send destroy = other_there own_there.0 destruction.staged at own_there.1 destroy.1.staged
    phase_there command (Flushing stamp) send destroy = mine

    pub next_there : There (peer_of d.me (next_action d))
    next_there = by d.owed refl
      where
        by : (owed : List OwedDrop) → d.owed ≡ owed → There (peer_of d.me (next_action d))
        by [] owes = subst (λ a. There (peer_of d.me a)) (sym (next_of d doing is_open owes)) (phase_there doing.command doing.phase shape destruction)
        by (one ∷ more) owes =
            let made = (sound.references.owed p d one is_d (subst (λ l. Has l one) (sym owes) (inl refl))).made in
            subst (λ a. There (peer_of d.me a)) (sym (next_owed d doing one more is_open owes)) (made.0, made.1)

    -- so it goes on by a step
    pub steps_further : (memory : Bool) → (t : State) × (stepped o memory p None s ≡ Some t)
    steps_further memory =
        let x = next_there in (
          with_parts s p (peer_of d.me (next_action d)) (effect o memory d None x.0),
          ap (stepped_by o memory p None s) is_d
              ∙ ap (λ r. stepped_to o memory p None s d (elim (begun_by d r None) [ None ↦ None | Some e ↦ Some (aimed e) ])) is_open
              ∙ ap (stepped_at o memory p None s d (peer_of d.me (next_action d))) x.1,
        )

  -- a command begins by a step
  pub steps_first : (memory : Bool) (command : Command) → d.doing ≡ None → d.owed ≡ [] → (t : State) × (stepped o memory p (Some command) s ≡ Some t)
  steps_first memory command idle paid =
      let e : DriverPart = record d { doing = Some (record { command = command; phase = Starting }) } in
      let next = next_of e (record { command = command; phase = Starting }) refl paid in
      let x = start_there d.shut command in
      let there : slice_get s.peers (peer_of d.me (next_action e)) ≡ Some x.0 = ap (λ a. slice_get s.peers (peer_of d.me a)) next ∙ x.1 in (
        with_parts s p (peer_of d.me (next_action e)) (effect o memory d (Some command) x.0),
        ap (stepped_by o memory p (Some command) s) is_d
            ∙ ap (λ r. stepped_to o memory p (Some command) s d (elim (begun_by d r (Some command)) [ None ↦ None | Some f ↦ Some (aimed f) ])) idle
            ∙ ap (stepped_at o memory p (Some command) s d (peer_of d.me (next_action e))) there,
      )

-- ---- a schedule's steps of one driver

module _ (o : Opening) (m : Shortage) (p : ℕ) where
  open_shown : (s : State) (d : DriverPart) (b : Bool) → IsDriver s p d → is_some d.doing ≡ b → is_open_at p s ≡ b
  open_shown s d b is_d is = ap (λ r. elim r [ None ↦ false | Some e ↦ is_some e.doing ]) is_d ∙ is

  -- where a command is open it goes on
  own_further : (s t : State) (d : DriverPart) (doing : Doing) → IsDriver s p d → d.doing ≡ Some doing → stepped o (is_short m d None) p None s ≡ Some t → own_step o m p None s ≡ t
  own_further s t d doing is_d is_open same =
      ap (λ r. elim r [ None ↦ s | Some e ↦ with_step o m p (beginning None e) e s ]) is_d
      ∙ ap (λ r. with_step o m p (elim r [ Some one ↦ None | None ↦ None ]) d s) is_open
      ∙ ap (λ r. elim r [ None ↦ s | Some u ↦ u ]) same

  -- where none is, the next one begins, with its references resolved
  own_begins : (s t : State) (d : DriverPart) (command : Command) → IsDriver s p d → d.doing ≡ None → stepped o (is_short m d (Some (resolved command d.calls))) p (Some (resolved command d.calls)) s ≡ Some t → own_step o m p (Some command) s ≡ t
  own_begins s t d command is_d idle same =
      ap (λ r. elim r [ None ↦ s | Some e ↦ with_step o m p (beginning (Some command) e) e s ]) is_d
      ∙ ap (λ r. with_step o m p (elim r [ Some one ↦ None | None ↦ Some (resolved command d.calls) ]) d s) idle
      ∙ ap (λ r. elim r [ None ↦ s | Some u ↦ u ]) same

  -- the steps of an open command to its end
  pub record Finishes (s : State) : Type 0 where
    pub end : State
    pub count : ℕ
    pub leads : own_steps o m p count s ≡ end
    pub open_before : (n : ℕ) → n < count → is_open_at p (own_steps o m p n s) ≡ true
    pub goes_on : GoesOn o p count s end
    pub over : is_open_at p end ≡ false

  -- where none is open nothing follows
  finished : (s : State) (d : DriverPart) → IsDriver s p d → d.doing ≡ None → Finishes s
  finished s d is_d idle = record { end = s; count = 0; leads = refl; open_before = λ n less. absurd (omega (arith, less)); goes_on = refl; over = open_shown s d false is_d (ap is_some idle) }

  -- one step more
  one_more : (s t : State) (d : DriverPart) (doing : Doing) → IsDriver s p d → d.doing ≡ Some doing → stepped o (is_short m d None) p None s ≡ Some t → Finishes t → Finishes s
  one_more s t d doing is_d is_open same f =
      let one = own_further s t d doing is_d is_open same in
      record {
        end = f.end;
        count = suc f.count;
        leads = ap (own_steps o m p f.count) one ∙ f.leads;
        open_before = before one;
        goes_on = (t, step_of o (is_short m d None) p None s t same, f.goes_on);
        over = f.over;
      }
    where
      before : own_step o m p None s ≡ t → (n : ℕ) → n < suc f.count → is_open_at p (own_steps o m p n s) ≡ true
      before one zero less = open_shown s d true is_d (ap is_some is_open)
      before one (suc n) less = ap (λ u. is_open_at p (own_steps o m p n u)) one ∙ f.open_before n (omega (arith, less))

  -- from one state on, where what follows finishes
  module _ (s : State) (d : DriverPart) (x : PeerPart) (fuel : ℕ) (opens : IsOpening o) (reached : Reached o s) (is_d : IsDriver s p d) (is_x : IsPeer s p x) (less : work d x < suc fuel)
      (rest : (t : State) (e : DriverPart) (y : PeerPart) → Reached o t → IsDriver t p e → IsPeer t p y → work e y < fuel → Finishes t) where
    sound : IsSound o s
    sound = reached_sound o s opens reached

    by_open : (t : State) (e : DriverPart) (r : Option Doing) → e.doing ≡ r → IsDriver t p e → (e.doing ≢ None → Finishes t) → Finishes t
    by_open t e None idle there then = finished t e there idle
    by_open t e (Some one) opened there then = then (λ none. cc (sym opened ∙ none))

    further : (doing : Doing) (is_open : d.doing ≡ Some doing) (t : State) → stepped o (is_short m d None) p None s ≡ Some t → Finishes t
    further doing is_open t same =
        let step = step_of o (is_short m d None) p None s t same in
        let driver : step.driver ≡ d = same_Some step.driver d (sym step.is_driver ∙ is_d) in
        let then = reached_more o s t p None reached step in
        let y = own_there (reached_sound o t opens then) p step.new_driver (own_driver step) in
        by_open t step.new_driver step.new_driver.doing refl (own_driver step)
        (λ opened. rest t step.new_driver y.0 then (own_driver step) y.1 (
        let falls = work_falls sound.numbered sound.sends sound.notices step x y.0 is_x y.1 opened in
        let same_work = ap (λ e. work e x) driver in
        omega (arith, falls, same_work, less)))

    by_state : (r : Option Doing) → d.doing ≡ r → Finishes s
    by_state None idle = finished s d is_d idle
    by_state (Some doing) is_open =
        let t = steps_further sound p d is_d doing is_open (is_short m d None) in
        one_more s t.0 d doing is_d is_open t.1 (further doing is_open t.0 t.1)

  pub finishes : (fuel : ℕ) (s : State) (d : DriverPart) (x : PeerPart) → IsOpening o → Reached o s → IsDriver s p d → IsPeer s p x → work d x < fuel → Finishes s
  finishes zero s d x opens reached is_d is_x less = absurd (omega (arith, less))
  finishes (suc fuel) s d x opens reached is_d is_x less = by_state s d x fuel opens reached is_d is_x less (λ t e y then is_e is_y small. finishes fuel t e y opens then is_e is_y small) d.doing refl

  -- ---- a whole command

  -- a schedule runs it, and these are its steps
  pub record RunsSo (command : Command) (s : State) (d : DriverPart) : Type 0 where
    pub end : State
    pub runs : RunsWhole o m p command s end
    pub whole : Whole o s p (resolved command d.calls) end

  idle_then : (t : State) → is_open_at p t ≡ false → (e : DriverPart) → IsDriver t p e → e.doing ≡ None
  idle_then t over e is_e = by e.doing refl
    where
      by : (r : Option Doing) → e.doing ≡ r → r ≡ None
      by None idle = refl
      by (Some doing) opened = absurd (cc (sym over ∙ open_shown t e true is_e (ap is_some opened)))

  pub runs_so : (command : Command) (s : State) (d : DriverPart) → IsOpening o → Reached o s → IsDriver s p d → d.doing ≡ None → d.owed ≡ [] → RunsSo command s d
  runs_so command s d opens reached is_d idle paid =
      let sound = reached_sound o s opens reached in
      let first = steps_first sound p d is_d (is_short m d (Some (resolved command d.calls))) (resolved command d.calls) idle paid in
      let step = step_of o (is_short m d (Some (resolved command d.calls))) p (Some (resolved command d.calls)) s first.0 first.1 in
      let then = reached_more o s first.0 p (Some (resolved command d.calls)) reached step in
      let x = own_there (reached_sound o first.0 opens then) p step.new_driver (own_driver step) in
      let f = finishes (suc (work step.new_driver x.0)) first.0 step.new_driver x.0 opens then (own_driver step) x.1 (omega arith) in
      let one = own_begins s first.0 d command is_d idle first.1 in
      record {
        end = f.end;
        runs = record {
          count = f.count;
          leads = ap (own_steps o m p f.count) one ∙ f.leads;
          open_before = λ n less. ap (λ u. is_open_at p (own_steps o m p n u)) one ∙ f.open_before n less;
          over = f.over;
        };
        whole = record { first = first.0; begins = step; further = f.count; goes_on = f.goes_on; ends = idle_then f.end f.over };
      }
