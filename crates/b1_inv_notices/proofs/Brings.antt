-- The entries that an event brings have right keys, and each notice among them waits for its driver's destruction.
use Rattle.std.proofs.Common.{◌≡◌, ◌≢◌, ◌⊎◌, refl, sym, ap, subst, ◌∙◌, inl, inr, ℕ, ◌+◌, ◌%◌, ◌==◌, max, Bool, true, false, cond, ◌&&◌, ◌||◌, not, List, [], ◌∷◌, drop, get_or, Option, Some, None}
use Rattle.std.specs.Prelude.{slice_get}
use Rattle.std.specs.List.{list_any}
use Rattle.std.proofs.lemmas.Bool.{eqb-true}
use native.Mathlib.Omega.{arith}
use Rattle.b1_model.specs.declared.naming.Key.{Key}
use Rattle.b1_model.specs.declared.naming.Opening.{Opening}
use Rattle.b1_model.specs.declared.commands.Command.{Command}
use Rattle.b1_model.specs.declared.commands.Command.TheVariants as cmd
use Rattle.b1_model.specs.declared.answers.Reason.{Reason}
use Rattle.b1_model.specs.declared.parts.Slot.{Slot}
use Rattle.b1_model.specs.declared.entries.Entry.{Entry}
use Rattle.b1_model.specs.declared.entries.Entry.TheVariants.{Message, OwnNotice, ForeignNotice, ReleaseNotice}
use Rattle.b1_model.specs.declared.events.Action.TheVariants as act
use Rattle.b1_model.specs.declared.events.Phase.{Phase}
use Rattle.b1_model.specs.declared.events.Phase.TheVariants.{Starting, Staging, Committing, Visiting, CommittingOwn, CommittingNotices}
use Rattle.b1_model.specs.declared.events.Doing.{Doing}
use Rattle.b1_model.specs.declared.events.Destruction.{Destruction}
use Rattle.b1_model.specs.declared.events.OwedDrop.{OwedDrop}
use Rattle.b1_model.specs.MachineParts.{PeerPart, DriverPart, is_odd, is_staged, is_data, no_origin}
use Rattle.b1_model.specs.MachineTables.{with_peer, is_stage, is_staged_notice}
use Rattle.b1_model.specs.MachineSend.{find_stage, with_slots, with_stamp}
use Rattle.b1_model.specs.MachineDestroy.{needs_notice, notice_by, visited_from, visit_answer}
use Rattle.b1_model.specs.MachineDriver.{first_action, next_action, peer_of, with_visit, turn}
use Rattle.b1_model.specs.MachineTook.{took}
use Rattle.b1_model.specs.MachineEvents.{happens, destroy_by, begin_refusal, begin_serials}
use Rattle.b1_step.specs.Rights.{Has}
use Rattle.b1_step.proofs.Orders.{find_has}
use Rattle.b1_inv.specs.Words.{stamp_of_phase}
use Rattle.b1_inv_tools.proofs.Comes.{Comes, leaves, queue_comes}
use Rattle.b1_inv_notices.proofs.Turns.{doing_in, opened, answered, OnTurn}
use Rattle.b1_inv_notices.proofs.Sets.{has_peer_new}
use Rattle.b1_inv_notices.proofs.Awaits.{Awaited, NoticeOf, KeyRight, committed_notice, waits_visiting, waits_took}
use Rattle.b1_inv_tools.proofs.Facts.{even_is}

-- ---- even and odd stamps

pub even_max : (a b : ℕ) → a % 2 ≡ 0 → b % 2 ≡ 0 → max a b % 2 ≡ 0
even_max a b h k = omega (arith, h, k)

pub odd_is : (n : ℕ) → n % 2 ≡ 0 → is_odd (n + 1) ≡ true
odd_is n even = let odd : (n + 1) % 2 ≡ 1 = omega (arith, even) in ap (λ m. m == 1) odd

-- ---- the tests of entries

and_parts : (a b c e : Bool) → (a && b && c && e) ≡ true → (a ≡ true) × (c ≡ true) × (e ≡ true)
and_parts true true true true is = (refl, refl, refl)
and_parts true true true false is = absurd (cc is)
and_parts true true false e is = absurd (cc is)
and_parts true false c e is = absurd (cc is)
and_parts false b c e is = absurd (cc is)

-- a staged message of a driver for a place
pub stage_is : (origin index : ℕ) (f : Key × Entry) → is_stage origin index f ≡ true → (is_data f.1 ≡ true) × (f.0.origin ≡ origin) × (f.0.index ≡ index)
stage_is origin index f is = let k = and_parts (is_data f.1) (is_staged f) (f.0.origin == origin) (f.0.index == index) is in (k.0, eqb-true f.0.origin origin k.1, eqb-true f.0.index index k.2)

and_three : (a b c : Bool) → (a && b && c) ≡ true → (a ≡ true) × (b ≡ true) × (c ≡ true)
and_three true true true is = (refl, refl, refl)
and_three true true false is = absurd (cc is)
and_three true false c is = absurd (cc is)
and_three false b c is = absurd (cc is)

-- a staged notice of a driver
pub notice_is : (origin : ℕ) (f : Key × Entry) → is_staged_notice origin f ≡ true → (is_data f.1 ≡ false) × (is_staged f ≡ true) × (f.0.origin ≡ origin)
notice_is origin f is =
    let k = and_three (not (is_data f.1)) (is_staged f) (f.0.origin == origin) is in
    (by (is_data f.1) k.0, k.1, eqb-true f.0.origin origin k.2)
  where
    by : (b : Bool) → not b ≡ true → b ≡ false
    by true h = absurd (cc h)
    by false h = refl

-- ---- entries

-- nobody is waited for
abbrev pub Quiet : ℕ → Key × Entry → Type 0
Quiet q f = (me : ℕ) (doing : Option Doing) → NoticeOf me doing q f

-- a new entry at peer q, by the open command of its driver after the event
abbrev pub NewRight : ℕ → ℕ → Option Doing → Key × Entry → Type 0
NewRight q me doing f = KeyRight q f × (Quiet q f ⊎ ((f.0.origin ≡ me) × NoticeOf me doing q f))

slots_key : (q : ℕ) (slots : List Slot) (g : Key × Entry) (k : Key) → is_data g.1 ≡ true → k.origin ≡ g.0.origin → k.index ≡ g.0.index → KeyRight q g → KeyRight q (k, with_slots slots g.1) × Quiet q (k, with_slots slots g.1)
slots_key q slots (j, Message origin user index serial offset len nodes old handles payload) k is same place h = ((same ∙ h.0, place ∙ h.1, h.2), λ me doing. tt)
slots_key q slots (j, OwnNotice serial index) k is same place h = absurd (cc is)
slots_key q slots (j, ForeignNotice node index) k is same place h = absurd (cc is)
slots_key q slots (j, ReleaseNotice serial) k is same place h = absurd (cc is)

stamped_key : (q stamp : ℕ) (g : Key × Entry) → is_data g.1 ≡ false → is_staged g ≡ true → KeyRight q g → KeyRight q (with_stamp stamp g)
stamped_key q stamp (j, Message origin user index serial offset len nodes old handles payload) is staged h = absurd (cc is)
stamped_key q stamp (j, OwnNotice serial index) is staged h = h
stamped_key q stamp (j, ForeignNotice node index) is staged h = h
stamped_key q stamp (j, ReleaseNotice serial) is staged h = let both : true ≡ false = sym staged ∙ h.2 in absurd (cc both)

module _ (o : Opening) (memory : Bool) (d : DriverPart) (x : PeerPart) (q : ℕ) (f : Key × Entry) (named : d.me ≢ no_origin) (even : x.clock % 2 ≡ 0)
    (keys : (g : Key × Entry) → Has x.queue g → KeyRight q g) where
  -- what is open at the driver after the event
  abbrev After : Command → Phase → List OwedDrop → Option Doing
  After command phase owed = (took (opened d command phase owed) (answered o memory d command phase owed x).0).doing

  at_stage : (e : Entry) (k : Key) (doing : Option Doing) → f ≡ (k, e) → KeyRight q (k, e) → Quiet q (k, e) → NewRight q d.me doing f
  at_stage e k doing same key quiet = subst (NewRight q d.me doing) (sym same) (key, inl quiet)

  at_commit : (slots : List Slot) (stamp place : ℕ) (doing : Option Doing) → (g : Key × Entry) × (find_stage x d.me place ≡ Some g) × (f ≡ (record { stamp = stamp; origin = d.me; index = place }, with_slots slots g.1)) → NewRight q d.me doing f
  at_commit slots stamp place doing (g, found, same) =
      let there = find_has (is_stage d.me place) x.queue g found in
      let is = stage_is d.me place g there.1 in
      let k = slots_key q slots g (record { stamp = stamp; origin = d.me; index = place }) is.0 (sym is.1) (sym is.2) (keys g there.0) in
      at_stage (with_slots slots g.1) (record { stamp = stamp; origin = d.me; index = place }) doing same k.0 k.1

  at_notices : (stamp : ℕ) (doing : Option Doing) → stamp % 2 ≡ 0 → (g : Key × Entry) × Has x.queue g × (is_staged_notice d.me g ≡ true) × (f ≡ with_stamp stamp g) → NewRight q d.me doing f
  at_notices stamp doing is_even (g, there, notice, same) =
      let is = notice_is d.me g notice in
      subst (NewRight q d.me doing) (sym same) (stamped_key q stamp g is.0 is.1 (keys g there), inl (λ me one. committed_notice me one q (with_stamp stamp g) (even_is stamp is_even)))

  at_drop : (clock serial : ℕ) (doing : Option Doing) → clock % 2 ≡ 0 → f ≡ (record { stamp = max x.clock clock; origin = no_origin; index = serial }, ReleaseNotice serial) → NewRight q d.me doing f
  at_drop clock serial doing is_even same = subst (NewRight q d.me doing) (sym same) ((refl, refl, even_is (max x.clock clock) (even_max x.clock clock even is_even)), inl (λ me one. tt))

  -- a destruction begins
  at_begin : (command : Command) (r : Option Reason) (doomed : List ℕ) (index serial : ℕ) → q ≡ d.me → slice_get doomed index ≡ Some serial → r ≡ None → Awaited d.me (took (opened d command Starting []) (destroy_by r doomed x).0).doing q index serial
  at_begin command r doomed index serial own is accepted = waits_took command d.me q index serial d Starting [] (destroy_by r doomed x).0 refl (by r doomed is accepted)
    where
      by : (r : Option Reason) (doomed : List ℕ) → slice_get doomed index ≡ Some serial → r ≡ None → OnTurn command (λ doing. Awaited d.me doing q index serial) (turn d.me command Starting (destroy_by r doomed x).0)
      by (Some one) doomed is accepted = absurd (cc accepted)
      by None [] is accepted = absurd (cc is)
      by None (first ∷ rest) is accepted = waits_visiting command d.me q index serial (record { doomed = first ∷ rest; collected = 0; staged = [] }) _ is (inl own)

  own_new : (command : Command) → x.me ≡ q → q ≡ d.me → (index : ℕ) × (serial : ℕ) × (slice_get (begin_serials command x) index ≡ Some serial) × (f ≡ (record { stamp = x.clock + 1; origin = x.me; index = index }, OwnNotice serial index)) × (begin_refusal command x ≡ None)
      → NewRight q d.me (took (opened d command Starting []) (destroy_by (begin_refusal command x) (begin_serials command x) x).0).doing f
  own_new command me own (index, serial, is, same, accepted) =
      subst (NewRight q d.me (took (opened d command Starting []) (destroy_by (begin_refusal command x) (begin_serials command x) x).0).doing) (sym same)
      ((me, refl), inr (me ∙ own, λ staged. at_begin command (begin_refusal command x) (begin_serials command x) index serial own is accepted))

  starts : (b : Bool) (command : Command) → x.me ≡ peer_of d.me (cond b act.Local (first_action command)) → q ≡ peer_of d.me (cond b act.Local (first_action command)) → Comes o (opened d command Starting []) (doing_in command Starting) x (cond b act.Local (first_action command)) f
      → NewRight q d.me (took (opened d command Starting []) (happens o memory (opened d command Starting []) (doing_in command Starting) (cond b act.Local (first_action command)) x).0).doing f
  starts true command me own h = absurd h
  starts false (cmd.Destroy numbers) me own h = own_new (cmd.Destroy numbers) (me ∙ sym own) own h
  starts false (cmd.Reset limits) me own h = own_new (cmd.Reset limits) (me ∙ sym own) own h
  starts false cmd.Disconnect me own h = own_new cmd.Disconnect (me ∙ sym own) own h
  starts false command me own h = absurd h

  -- a visit that staged a notice
  foreign_new : (command : Command) (destruction : Destruction) (left : List ℕ) → q ≡ get_or left 0 d.me → q ≢ d.me → (visit_answer x d.me destruction.doomed).staged ≡ true
      → (index : ℕ) × (serial : ℕ) × (slice_get destruction.doomed index ≡ Some serial) × (f ≡ (record { stamp = x.clock + 1; origin = d.me; index = index }, ForeignNotice (record { owner = d.me; serial = serial }) index))
      → NewRight q d.me (After command (Visiting destruction left) []) f
  foreign_new command destruction left at apart visits (index, serial, is, same) =
      subst (NewRight q d.me (After command (Visiting destruction left) [])) (sym same) (
        (refl, refl, λ own. apart (sym own)),
        inr (
          refl,
          λ staged.
              waits_took command d.me q index serial d (Visiting destruction left) [] (answered o memory d command (Visiting destruction left) [] x).0 refl
              (waits_visiting command d.me q index serial (with_visit destruction (get_or left 0 d.me) (visit_answer x d.me destruction.doomed)) (drop 1 left) is
              (inr (subst (λ b. Has (cond b (with_peer (get_or left 0 d.me) destruction.staged) destruction.staged) q) (sym visits) (subst (Has (with_peer (get_or left 0 d.me) destruction.staged)) (sym at) (has_peer_new (get_or left 0 d.me) destruction.staged))))),
        ),
      )

  -- a visit that staged none
  visit_nothing : (doomed : List ℕ) (here : ℕ) → list_any (λ serial. needs_notice x (record { owner = d.me; serial = serial })) doomed ≡ false → visited_from d.me here doomed x ≡ x
  visit_nothing [] here none = refl
  visit_nothing (serial ∷ rest) here none =
      let k = or_false (needs_notice x (record { owner = d.me; serial = serial })) (list_any (λ n. needs_notice x (record { owner = d.me; serial = n })) rest) none in
      ap (visited_from d.me (here + 1) rest) (unneeded (needs_notice x (record { owner = d.me; serial = serial })) k.0) ∙ visit_nothing rest (here + 1) k.1
    where
      or_false : (a b : Bool) → (a || b) ≡ false → (a ≡ false) × (b ≡ false)
      or_false true b is = absurd (cc is)
      or_false false b is = (refl, is)

      unneeded : (b : Bool) → b ≡ false → notice_by b d.me x here (record { owner = d.me; serial = serial }) ≡ x
      unneeded true is = absurd (cc is)
      unneeded false is = refl

  came : (command : Command) (phase : Phase) (owed : List OwedDrop) → (Comes o (opened d command phase owed) (doing_in command phase) x (next_action (opened d command phase owed)) f → NewRight q d.me (After command phase owed) f)
      → Has (answered o memory d command phase owed x).1.queue f
      → (Has x.queue f × (leaves (opened d command phase owed) (next_action (opened d command phase owed)) f ≡ false)) ⊎ NewRight q d.me (After command phase owed) f
  came command phase owed new h = elim (queue_comes o (opened d command phase owed) (doing_in command phase) f memory (next_action (opened d command phase owed)) x h) [ inl old ↦ inl old | inr brought ↦ inr (new brought) ]

  -- an entry after the event stood there before and doesn't leave, or is right
  pub after_right : (command : Command) (phase : Phase) (owed : List OwedDrop)
      → ((stamp : ℕ) → stamp_of_phase phase ≡ Some stamp → stamp % 2 ≡ 0) → ((one : OwedDrop) → Has owed one → one.clock % 2 ≡ 0)
      → x.me ≡ peer_of d.me (next_action (opened d command phase owed)) → q ≡ peer_of d.me (next_action (opened d command phase owed))
      → ((destruction : Destruction) (left : List ℕ) → phase ≡ Visiting destruction left → get_or left 0 d.me ≢ d.me)
      → Has (answered o memory d command phase owed x).1.queue f
      → (Has x.queue f × (leaves (opened d command phase owed) (next_action (opened d command phase owed)) f ≡ false)) ⊎ NewRight q d.me (After command phase owed) f
  after_right command (Visiting destruction left) [] stamps clocks me at apart h = by (visit_answer x d.me destruction.doomed).staged refl
    where
      by : (b : Bool) → (visit_answer x d.me destruction.doomed).staged ≡ b → (Has x.queue f × (false ≡ false)) ⊎ NewRight q d.me (After command (Visiting destruction left) []) f
      by false none = inl (subst (λ y. Has y.queue f) (visit_nothing destruction.doomed 0 none) h, refl)
      by true some =
          elim (queue_comes o (opened d command (Visiting destruction left) []) (doing_in command (Visiting destruction left)) f memory (act.Visit (get_or left 0 d.me)) x h) [
            | inl old ↦ inl (old.0, refl)
            | inr new ↦ inr (foreign_new command destruction left at (λ own. apart destruction left refl (sym at ∙ own)) some new)
          ]
  after_right command phase (one ∷ rest) stamps clocks me at apart h = came command phase (one ∷ rest) (λ new. at_drop one.clock one.node.serial (After command phase (one ∷ rest)) (clocks one (inl refl)) new.0) h
  after_right command Starting [] stamps clocks me at apart h = came command Starting [] (λ new. starts d.shut command me at new) h
  after_right command (Staging begun places collected) [] stamps clocks me at apart h = came command (Staging begun places collected) [] (λ new. at_stage _ _ (After command (Staging begun places collected) []) new (refl, refl, named) (λ me one. tt)) h
  after_right command (Committing sending stamp place) [] stamps clocks me at apart h = came command (Committing sending stamp place) [] (λ new. at_commit _ stamp place (After command (Committing sending stamp place) []) new) h
  after_right command (CommittingOwn destruction stamp) [] stamps clocks me at apart h = came command (CommittingOwn destruction stamp) [] (λ new. at_notices stamp (After command (CommittingOwn destruction stamp) []) (stamps stamp refl) new) h
  after_right command (CommittingNotices destruction stamp place) [] stamps clocks me at apart h = came command (CommittingNotices destruction stamp place) [] (λ new. at_notices stamp (After command (CommittingNotices destruction stamp place) []) (stamps stamp refl) new) h
  after_right command phase [] stamps clocks me at apart h = came command phase [] (λ new. absurd new) h
