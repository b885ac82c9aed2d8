-- Which entries an event leaves in the queue: all but the one that it takes out, and at a RECV all but what stands at the front.
use Rattle.std.proofs.Common.{◌≡◌, ◌⊎◌, refl, sym, ap, subst, ◌∙◌, inl, inr, ℕ, ◌+◌, Bool, true, false, cond, ◌&&◌, not, List, [], ◌∷◌, length, Option, Some, None}
use Rattle.std.specs.Prelude.{take_while, drop, map, filter}
use Rattle.std.proofs.lemmas.List.Sums.{take_while-cons}
use Rattle.b1_model.specs.declared.naming.Key.{Key}
use Rattle.b1_model.specs.declared.naming.NodeRef.{NodeRef}
use Rattle.b1_model.specs.declared.naming.Opening.{Opening}
use Rattle.b1_model.specs.declared.parts.Attach.{Attach}
use Rattle.b1_model.specs.declared.parts.Attach.TheVariants as attach
use Rattle.b1_model.specs.declared.parts.Slot.{Slot}
use Rattle.b1_model.specs.declared.answers.Reason.{Reason}
use Rattle.b1_model.specs.declared.entries.Entry.{Entry}
use Rattle.b1_model.specs.declared.entries.Entry.TheVariants.{Message, OwnNotice, ForeignNotice, ReleaseNotice}
use Rattle.b1_model.specs.declared.events.Action.{Action}
use Rattle.b1_model.specs.declared.events.Action.TheVariants as act
use Rattle.b1_model.specs.declared.events.Doing.{Doing}
use Rattle.b1_model.specs.MachineParts.{PeerPart, DriverPart, is_staged, is_release_notice}
use Rattle.b1_model.specs.MachineOrder.{is_any_release_notice}
use Rattle.b1_model.specs.MachineTables.{without, is_stage, is_staged_notice}
use Rattle.b1_model.specs.MachineSend.{find_stage, unstaged_by, attached_by, attach_answer, committed_by, with_stamp, notices_committed}
use Rattle.b1_model.specs.MachineReceive.{is_for_nobody, discards, cleared, front_by, front_taken, received_part, with_release_notice, is_released, dropped_refs}
use Rattle.b1_model.specs.MachineDestroy.{with_own_notices, needs_notice, notice_by, visited_from}
use Rattle.b1_model.specs.MachineEvents.{happens, stage_by, destroy_by, slots_at, doomed_of, begin_refusal, begin_serials}
use Rattle.b1_step.specs.Rights.{Has}
use Rattle.b1_step.proofs.Changed.{changes}
use Rattle.b1_step.proofs.Queues.{has_put_old, has_put_all_old, has_without}
use Rattle.b1_inv_tools.proofs.Comes.{leaves}
use Rattle.b1_inv_tools.proofs.Received.{at_taken, at_cleared}
use Rattle.b1_inv_destroys.proofs.FirstNode.{is_flush_action}
use Rattle.b1_inv_destroys.proofs.Nodes.{is_recv}

module _ (f : Key × Entry) (lasting : is_any_release_notice f ≡ false) where
  no_release : (serial : ℕ) → is_release_notice serial f ≡ false
  no_release serial = by f lasting
    where
      by : (g : Key × Entry) → is_any_release_notice g ≡ false → is_release_notice serial g ≡ false
      by (k, Message origin user index dest offset len nodes slots handles payload) is = refl
      by (k, OwnNotice doomed index) is = refl
      by (k, ForeignNotice node index) is = refl
      by (k, ReleaseNotice mine) is = absurd (cc is)

  keeps_own : (x : PeerPart) (here : ℕ) (serials : List ℕ) (queue : List (Key × Entry)) → Has queue f → Has (with_own_notices x here serials queue) f
  keeps_own x here [] queue has = has
  keeps_own x here (serial ∷ rest) queue has = keeps_own x (here + 1) rest _ (has_put_old _ _ (without (is_release_notice serial) queue) f (has_without (is_release_notice serial) queue f has (no_release serial)))

  keeps_notice : (b : Bool) (origin here : ℕ) (node : NodeRef) (x : PeerPart) → Has x.queue f → Has (notice_by b origin x here node).queue f
  keeps_notice true origin here node x has = has_put_old _ _ x.queue f has
  keeps_notice false origin here node x has = has

  keeps_visit : (origin here : ℕ) (serials : List ℕ) (x : PeerPart) → Has x.queue f → Has (visited_from origin here serials x).queue f
  keeps_visit origin here [] x has = has
  keeps_visit origin here (serial ∷ rest) x has = keeps_visit origin (here + 1) rest _ (keeps_notice (needs_notice x (record { owner = origin; serial = serial })) origin here (record { owner = origin; serial = serial }) x has)

  keeps_drop : (b : Bool) (x : PeerPart) (serial : ℕ) → Has x.queue f → Has (with_release_notice b x serial).queue f
  keeps_drop true x serial has = has_put_old _ _ x.queue f has
  keeps_drop false x serial has = has

  keeps_stage : (r : Option Reason) (memory : Bool) (origin user place serial : ℕ) (payload : List ℕ) (nodes : List NodeRef) (x : PeerPart) → Has x.queue f → Has (stage_by r memory origin user place serial payload nodes x).1.queue f
  keeps_stage (Some r) memory origin user place serial payload nodes x has = has
  keeps_stage None true origin user place serial payload nodes x has = has
  keeps_stage None false origin user place serial payload nodes x has = has_put_old _ _ x.queue f has

  keeps_unstage : (g : Option (Key × Entry)) (x : PeerPart) (origin index : ℕ) → is_stage origin index f ≡ false → Has x.queue f → Has (unstaged_by g x origin index).queue f
  keeps_unstage None x origin index apart has = has
  keeps_unstage (Some g) x origin index apart has = has_without (is_stage origin index) x.queue f has apart

  keeps_attach : (a : Attach) (x : PeerPart) (serial dest : ℕ) → Has x.queue f → Has (attached_by a x serial dest).queue f
  keeps_attach attach.Counted x serial dest has = has_without (is_release_notice serial) x.queue f has (no_release serial)
  keeps_attach attach.Own x serial dest has = has
  keeps_attach (attach.Void stamp) x serial dest has = has

  keeps_commit : (g : Option (Key × Entry)) (x : PeerPart) (origin index stamp : ℕ) (slots : List Slot) → is_stage origin index f ≡ false → Has x.queue f → Has (committed_by g x origin index stamp slots).queue f
  keeps_commit None x origin index stamp slots apart has = has
  keeps_commit (Some g) x origin index stamp slots apart has = has_put_old _ _ (without (is_stage origin index) x.queue) f (has_without (is_stage origin index) x.queue f has apart)

  keeps_notices : (x : PeerPart) (origin stamp : ℕ) → is_staged_notice origin f ≡ false → Has x.queue f → Has (notices_committed x origin stamp).queue f
  keeps_notices x origin stamp apart has = has_put_all_old (map (with_stamp stamp) (filter (is_staged_notice origin) x.queue)) (without (is_staged_notice origin) x.queue) f (has_without (is_staged_notice origin) x.queue f has apart)

  keeps_destroy : (r : Option Reason) (doomed : List ℕ) (x : PeerPart) → Has x.queue f → Has (destroy_by r doomed x).1.queue f
  keeps_destroy (Some r) doomed x has = has
  keeps_destroy None doomed x has = keeps_own x 0 doomed x.queue has

  module _ (o : Opening) (memory : Bool) (d : DriverPart) (doing : Doing) (x : PeerPart) (has : Has x.queue f) where
    same_queue : (action : Action) → (happens o memory d doing action x).1.queue ≡ x.queue → Has (happens o memory d doing action x).1.queue f
    same_queue action same = subst (λ queue. Has queue f) (sym same) has

    -- an entry stays at every event that doesn't take it out, RECV and flush aside
    pub queue_keeps : (action : Action) → leaves d action f ≡ false → is_recv action ≡ false → is_flush_action action ≡ false → Has (happens o memory d doing action x).1.queue f
    queue_keeps act.Rest apart no_recv calm = has
    queue_keeps act.Begin apart no_recv calm = same_queue act.Begin (ap (λ y. y.queue) (changes o memory d doing act.Begin x))
    queue_keeps (act.Stage peer place) apart no_recv calm = keeps_stage _ memory _ _ place _ _ _ x has
    queue_keeps (act.Unstage peer place) apart no_recv calm = keeps_unstage (find_stage x d.me place) x d.me place apart has
    queue_keeps (act.Attach peer serial dest) apart no_recv calm = keeps_attach (attach_answer x serial dest) x serial dest has
    queue_keeps act.Stamp apart no_recv calm = has
    queue_keeps (act.Sync peer stamp) apart no_recv calm = has
    queue_keeps (act.Commit peer place stamp) apart no_recv calm = keeps_commit (find_stage x d.me place) x d.me place stamp (slots_at doing.phase place) apart has
    queue_keeps (act.CommitNotices peer stamp) apart no_recv calm = keeps_notices x d.me stamp apart has
    queue_keeps act.Recv apart no_recv calm = absurd (cc no_recv)
    queue_keeps act.Reap apart no_recv calm = has
    queue_keeps act.Release apart no_recv calm = same_queue act.Release (ap (λ y. y.queue) (changes o memory d doing act.Release x))
    queue_keeps (act.DropRefs peer serial holder k clock) apart no_recv calm = keeps_drop (is_released (dropped_refs x serial holder k clock) serial) (dropped_refs x serial holder k clock) serial has
    queue_keeps act.BeginDestroy apart no_recv calm = keeps_destroy (begin_refusal doing.command x) (begin_serials doing.command x) x has
    queue_keeps (act.Visit peer) apart no_recv calm = keeps_visit d.me 0 (doomed_of doing.phase) x has
    queue_keeps act.StampDestroy apart no_recv calm = same_queue act.StampDestroy (ap (λ y. y.queue) (changes o memory d doing act.StampDestroy x))
    queue_keeps act.Flush apart no_recv calm = absurd (cc calm)
    queue_keeps act.Local apart no_recv calm = same_queue act.Local (ap (λ y. y.queue) (changes o memory d doing act.Local x))

-- ---- RECV

-- an entry is one of those at the front that pass, or stands behind them
front_or_rest : (test : Key × Entry → Bool) (queue : List (Key × Entry)) (f : Key × Entry) → Has queue f → Has (take_while test queue) f ⊎ Has (drop (length (take_while test queue)) queue) f
front_or_rest test [] f has = absurd has
front_or_rest test (g ∷ rest) f has = subst (λ front. Has front f ⊎ Has (drop (length front) (g ∷ rest)) f) (sym (take_while-cons test g rest)) (by (test g) has (front_or_rest test rest f))
  where
    by : (b : Bool) → Has (g ∷ rest) f → (Has rest f → Has (take_while test rest) f ⊎ Has (drop (length (take_while test rest)) rest) f) → Has (cond b (g ∷ take_while test rest) []) f ⊎ Has (drop (length (cond b (g ∷ take_while test rest) [])) (g ∷ rest)) f
    by false h further = inr h
    by true (inl same) further = inl (inl same)
    by true (inr h) further = elim (further h) [ inl front ↦ inl (inr front) | inr behind ↦ inr behind ]

-- what passes a test at the front of a list passes it
passes : (test : Key × Entry → Bool) (queue : List (Key × Entry)) (f : Key × Entry) → Has (take_while test queue) f → Has queue f × (test f ≡ true)
passes test [] f has = absurd has
passes test (g ∷ rest) f has = by (test g) refl (subst (λ front. Has front f) (take_while-cons test g rest) has) (passes test rest f)
  where
    by : (b : Bool) → test g ≡ b → Has (cond b (g ∷ take_while test rest) []) f → (Has (take_while test rest) f → Has rest f × (test f ≡ true)) → Has (g ∷ rest) f × (test f ≡ true)
    by false is h further = absurd h
    by true is (inl same) further = (inl same, ap test same ∙ is)
    by true is (inr h) further = let k = further h in (inr k.0, k.1)

-- a committed entry for nobody, at the front
pub discard_is : (x : PeerPart) (f : Key × Entry) → Has (discards x) f → Has x.queue f × (is_staged f ≡ false) × (is_for_nobody x f.1 ≡ true)
discard_is x f has = let k = passes (λ g. not (is_staged g) && is_for_nobody x g.1) x.queue f has in let both = by (is_staged f) (is_for_nobody x f.1) k.1 in (k.0, both.0, both.1)
  where
    by : (a b : Bool) → (not a && b) ≡ true → (a ≡ false) × (b ≡ true)
    by false true is = (refl, refl)
    by false false is = absurd (cc is)
    by true b is = absurd (cc is)

-- the committed front that a RECV takes, behind the removals
abbrev pub IsTakenFront : PeerPart → Key × Entry → Type 0
IsTakenFront x f = (rest : List (Key × Entry)) × ((cleared x).queue ≡ f ∷ rest) × (is_staged f ≡ false)

at_front : (x y : PeerPart) (queue : List (Key × Entry)) (f : Key × Entry) → y.queue ≡ queue → Has queue f → Has (front_taken y queue).1.queue f ⊎ ((rest : List (Key × Entry)) × (y.queue ≡ f ∷ rest) × (is_staged f ≡ false))
at_front x y [] f is has = absurd has
at_front x y (g ∷ rest) f is has = by (is_staged g) refl has
  where
    by : (b : Bool) → is_staged g ≡ b → Has (g ∷ rest) f → Has (front_by b y g rest).1.queue f ⊎ ((behind : List (Key × Entry)) × (y.queue ≡ f ∷ behind) × (is_staged f ≡ false))
    by true odd h = inl (subst (λ queue. Has queue f) (sym is) h)
    by false even (inl same) = inr (rest, is ∙ ap (λ z. z ∷ rest) (sym same), ap is_staged same ∙ even)
    by false even (inr h) = inl (subst (λ queue. Has queue f) (sym (at_taken g.1 g.0 (record y { queue = rest })).0) h)

-- an entry stays at a RECV, or is removed at the front, or is taken
pub recv_keeps : (x : PeerPart) (f : Key × Entry) → Has x.queue f → Has (received_part x).queue f ⊎ (Has (discards x) f ⊎ IsTakenFront x f)
recv_keeps x f has = elim (front_or_rest (λ g. not (is_staged g) && is_for_nobody x g.1) x.queue f has) [
  | inl front ↦ inr (inl front)
  | inr behind ↦ elim (at_front x (cleared x) (cleared x).queue f refl (subst (λ queue. Has queue f) (sym (at_cleared x).0) behind)) [ inl stays ↦ inl stays | inr taken ↦ inr (inr taken) ]
]

-- a staged entry stays at a RECV
pub recv_staged : (x : PeerPart) (f : Key × Entry) → is_staged f ≡ true → Has x.queue f → Has (received_part x).queue f
recv_staged x f odd has = elim (recv_keeps x f has) [
  | inl stays ↦ stays
  | inr (inl front) ↦ let both : true ≡ false = sym odd ∙ (discard_is x f front).1 in absurd (cc both)
  | inr (inr taken) ↦ let both : true ≡ false = sym odd ∙ taken.2 in absurd (cc both)
]
