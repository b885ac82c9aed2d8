-- A SEND that is refused at a place without CONTINUE takes back what it staged.
use Rattle.std.proofs.Common.{◌≡◌, refl, sym, ap, ◌∙◌, subst, inl, inr, ℕ, ◌+◌, ◌≤◌, ◌==◌, ◌&&◌, ◌||◌, ◌-◌, nat_lt, Bool, true, false, cond, List, [], ◌∷◌, ◌++◌, find, length, zip, Option, Some, None, arith}
use Rattle.std.specs.Prelude.{slice_get}
use Rattle.std.proofs.lemmas.Bool.{eq-eqb, ne_eqb, lt-ltb, and_right}
use Rattle.std.proofs.lemmas.List.{length-append, append-nil}
use Rattle.std.proofs.lemmas.Option.{get_or_from_slice_get}
use Rattle.b1_model.specs.declared.naming.Key.{Key}
use Rattle.b1_model.specs.declared.naming.NodeRef.{NodeRef}
use Rattle.b1_model.specs.declared.naming.Opening.{Opening}
use Rattle.b1_model.specs.declared.commands.Command.TheVariants as cmd
use Rattle.b1_model.specs.declared.commands.SendCmd.{SendCmd}
use Rattle.b1_model.specs.declared.parts.Begun.{Begun}
use Rattle.b1_model.specs.declared.parts.Slot.{Slot}
use Rattle.b1_model.specs.declared.entries.Entry.{Entry}
use Rattle.b1_model.specs.declared.answers.Answer.TheVariants as ans
use Rattle.b1_model.specs.declared.answers.Reason.{Reason}
use Rattle.b1_model.specs.declared.answers.Refused.{Refused}
use Rattle.b1_model.specs.declared.events.Phase.TheVariants.{Starting, Unstaging}
use Rattle.b1_model.specs.MachineParts.{PeerPart, DriverPart, HandleRecord, Slice, State, is_odd, carried, same_ref}
use Rattle.b1_model.specs.MachinePool.{taken}
use Rattle.b1_model.specs.MachineTables.{without, is_stage, foreign, expected, unexpected, changed, changed_or_made, is_needed, more_flight, less_flight}
use Rattle.b1_model.specs.MachineSend.{staged, find_stage, unstaged_by, unstaged}
use Rattle.b1_model.specs.MachineDriver.{Turn, Goes, no_ref, node_of_place, accepted_from, unstaging}
use Rattle.b1_model.specs.MachineDriver as driver
use Rattle.b1_model.specs.MachineTook.{ended}
use Rattle.b1_schedule.specs.Shortage.{Shortage}
use Rattle.b1_inv_refs.proofs.Numbered.{EachRecord, each_changed, each_made}
use Rattle.b1_serial_bus.specs.Parts.{Bus}
use Rattle.b1_serial_bus.specs.Letters.{Letter, Places, letter_len}
use Rattle.b1_serial_rest.specs.Standing.{with_line, lines_of}
use Rattle.b1_serial_send.proofs.Midway.{Answered, over, stage_at, unstage_at, sending_driver, midway}
use Rattle.b1_serial_send.proofs.Lists.{over_keeps, over_one, over_none, over_nothing}
use Rattle.b1_serial_send.proofs.Parts.{Placed, at_keeps}
use Rattle.b1_serial_send.proofs.Goes.{WillEnd, goes, same_parts}
use Rattle.b1_serial_send.proofs.Accepted.{none_left, place_to, refused_from, accepted_at, is_place_at, places_back}
use Rattle.b1_serial_send.proofs.Staging.{turned_to, turned_so}
use Rattle.b1_serial_send.proofs.Keys.{NonePass, find_past, without_one}
use Rattle.b1_serial_send.proofs.Copies.{copy, copies, copies_all}
use Rattle.b1_serial_send.proofs.Finals.{bare}

-- ---- one part

-- what an unstage leaves
kept_found : {Y : Type 0} (view : PeerPart → Y) → ((x : PeerPart) (queue : List (Key × Entry)) (slices : List Slice) (handles : List HandleRecord) → view (record x { queue = queue; slices = slices; handles = handles }) ≡ view x)
    → (found : Option (Key × Entry)) (x : PeerPart) (origin index : ℕ) → view (unstaged_by found x origin index) ≡ view x
kept_found view keeps None x origin index = refl
kept_found view keeps (Some f) x origin index = keeps x _ _ _

pub unstage_keeps : {Y : Type 0} (view : PeerPart → Y) → ((x : PeerPart) (queue : List (Key × Entry)) (slices : List Slice) (handles : List HandleRecord) → view (record x { queue = queue; slices = slices; handles = handles }) ≡ view x)
    → (p place : ℕ) (to : NodeRef) (x : PeerPart) → view (unstage_at p place to x) ≡ view x
unstage_keeps view keeps p place to x = at_keeps view to.owner (λ y. unstaged y p place) x (kept_found view keeps (find_stage x p place) x p place)

-- ---- the lines

-- a record with a number is held
abbrev pub IsHeld : HandleRecord → Type 0
IsHeld h = (k : ℕ) → h.number ≡ Some k → 1 ≤ h.held

line_same : (r : Option ℕ) (h : HandleRecord) (rest : List HandleRecord) → with_line r (less_flight h) (lines_of rest) ≡ with_line r h (lines_of rest)
line_same None h rest = refl
line_same (Some number) h rest = refl

one_unexpected : (node : NodeRef) (hs : List HandleRecord) → EachRecord IsHeld hs → lines_of (changed node less_flight hs) ≡ lines_of hs
one_unexpected node [] held = refl
one_unexpected node (h ∷ rest) held = by (same_ref h.node node) (one_unexpected node rest (λ g there. held g (inr there)))
  where
    gone_line : (r : Option ℕ) → h.number ≡ r → is_needed (less_flight h) ≡ false → lines_of rest ≡ with_line r h (lines_of rest)
    gone_line None is none = refl
    gone_line (Some k) is none =
        let positive = held h (inl refl) k is in
        absurd (cc (sym (ap (λ b. b || nat_lt 0 (h.flight - 1) || h.notice) (lt-ltb 0 h.held positive)) ∙ none))

    own : (b : Bool) → is_needed (less_flight h) ≡ b → lines_of (cond b (less_flight h ∷ rest) rest) ≡ with_line h.number h (lines_of rest)
    own true needed = line_same h.number h rest
    own false none = gone_line h.number refl none

    by : (b : Bool) → lines_of (changed node less_flight rest) ≡ lines_of rest → lines_of (cond b (cond (is_needed (less_flight h)) (less_flight h ∷ rest) rest) (h ∷ changed node less_flight rest)) ≡ lines_of (h ∷ rest)
    by true further = own (is_needed (less_flight h)) refl
    by false further = ap (with_line h.number h) further

unexpected_held : (nodes : List NodeRef) (hs : List HandleRecord) → EachRecord IsHeld hs → EachRecord IsHeld (unexpected nodes hs)
unexpected_held [] hs held = held
unexpected_held (n ∷ rest) hs held = unexpected_held rest (changed n less_flight hs) (each_changed IsHeld n less_flight (λ h still. still) hs held)

lines_unexpected : (nodes : List NodeRef) (hs : List HandleRecord) → EachRecord IsHeld hs → lines_of (unexpected nodes hs) ≡ lines_of hs
lines_unexpected [] hs held = refl
lines_unexpected (n ∷ rest) hs held = lines_unexpected rest (changed n less_flight hs) (each_changed IsHeld n less_flight (λ h still. still) hs held) ∙ one_unexpected n hs held

expected_held : (nodes : List NodeRef) (hs : List HandleRecord) → EachRecord IsHeld hs → EachRecord IsHeld (expected nodes hs)
expected_held [] hs held = held
expected_held (n ∷ rest) hs held = expected_held rest (changed_or_made n more_flight hs) (each_made IsHeld n more_flight (λ h still. still) (λ k none. absurd (cc none)) hs held)

pub stages_held : (s : Letter) (place : ℕ) (ds : Answered) (x : PeerPart) → EachRecord IsHeld x.handles → EachRecord IsHeld (over (stage_at s) place ds x).handles
stages_held s place [] x held = held
stages_held s place ((to, Some r) ∷ rest) x held = stages_held s (place + 1) rest x held
stages_held s place ((to, None) ∷ rest) x held = by (to.owner == x.me) (stages_held s (place + 1) rest)
  where
    by : (b : Bool) → ((z : PeerPart) → EachRecord IsHeld z.handles → EachRecord IsHeld (over (stage_at s) (place + 1) rest z).handles) → EachRecord IsHeld (over (stage_at s) (place + 1) rest (cond b (staged x s.origin s.user place to.serial s.payload s.with) x)).handles
    by true further = further (staged x s.origin s.user place to.serial s.payload s.with) (expected_held (foreign x.me s.with) x.handles held)
    by false further = further x held

-- what the bus shows of a part, but for clock, slices and queue
found_bare : (w : DriverPart) (found : Option (Key × Entry)) (x : PeerPart) (origin index : ℕ) → EachRecord IsHeld x.handles → (bare w (unstaged_by found x origin index) ≡ bare w x) × EachRecord IsHeld (unstaged_by found x origin index).handles
found_bare w None x origin index held = (refl, held)
found_bare w (Some f) x origin index held = (ap (λ ls. record (bare w x) { lines = ls }) (lines_unexpected (foreign x.me (carried f.1)) x.handles held), unexpected_held (foreign x.me (carried f.1)) x.handles held)

pub unstages_bare : (w : DriverPart) (p place : ℕ) (ds : Answered) (x : PeerPart) → EachRecord IsHeld x.handles → bare w (over (unstage_at p) place ds x) ≡ bare w x
unstages_bare w p place [] x held = refl
unstages_bare w p place ((to, Some r) ∷ rest) x held = unstages_bare w p (place + 1) rest x held
unstages_bare w p place ((to, None) ∷ rest) x held = by (to.owner == x.me) (unstages_bare w p (place + 1) rest)
  where
    by : (b : Bool) → ((z : PeerPart) → EachRecord IsHeld z.handles → bare w (over (unstage_at p) (place + 1) rest z) ≡ bare w z) → bare w (over (unstage_at p) (place + 1) rest (cond b (unstaged x p place) x)) ≡ bare w x
    by true further = let k = found_bare w (find_stage x p place) x p place held in further (unstaged x p place) k.1 ∙ k.0
    by false further = further x held

-- ---- the queue

pub unstages_queue : (s : Letter) (stamp : ℕ) (none : List Slot) (odd : is_odd stamp ≡ true) (place : ℕ) (ds : Answered) (y : PeerPart) (slices : List Slice) (base : List (Key × Entry))
    → y.queue ≡ base ++ copies s y.me stamp none place slices ds → ((i : ℕ) → NonePass (is_stage s.origin i) base) → (over (unstage_at s.origin) place ds y).queue ≡ base
unstages_queue s stamp none odd place [] y slices base queue_is unstaged_base = queue_is ∙ append-nil base
unstages_queue s stamp none odd place ((to, Some r) ∷ rest) y slices base queue_is unstaged_base = unstages_queue s stamp none odd (place + 1) rest y slices base queue_is unstaged_base
unstages_queue s stamp none odd place ((to, None) ∷ rest) y slices base queue_is unstaged_base = by (to.owner == y.me) refl (unstages_queue s stamp none odd (place + 1) rest) queue_is
  where
    one : Key × Entry
    one = copy s stamp none place to slices

    left : List Slice → List (Key × Entry)
    left sl = copies s y.me stamp none (place + 1) sl rest

    itself : is_stage s.origin place one ≡ true
    itself = ap (λ b. b && (s.origin == s.origin) && (place == place)) odd ∙ ap (λ b. b && (place == place)) (eq-eqb s.origin s.origin refl) ∙ eq-eqb place place refl

    others : (sl : List Slice) → NonePass (is_stage s.origin place) (left sl)
    others sl = copies_all s y.me stamp none (λ f. is_stage s.origin place f ≡ false) (place + 1) sl rest (λ i t z low high. and_right (is_odd stamp && (s.origin == s.origin)) (i == place) (ne_eqb i place (λ e. absurd (omega (arith, e, low)))))

    Further : Type 0
    Further = (z : PeerPart) (sl : List Slice) (bs : List (Key × Entry)) → z.queue ≡ bs ++ copies s z.me stamp none (place + 1) sl rest → ((i : ℕ) → NonePass (is_stage s.origin i) bs) → (over (unstage_at s.origin) (place + 1) rest z).queue ≡ bs

    by : (b : Bool) → to.owner == y.me ≡ b → Further → y.queue ≡ base ++ cond b (one ∷ left (taken (letter_len s) slices)) (left slices)
        → (over (unstage_at s.origin) (place + 1) rest (cond b (unstaged y s.origin place) y)).queue ≡ base
    by true own further queue =
        let found : find_stage y s.origin place ≡ Some one = ap (find (is_stage s.origin place)) queue ∙ find_past (is_stage s.origin place) base one (left (taken (letter_len s) slices)) (unstaged_base place) itself in
        let then : unstaged y s.origin place ≡ unstaged_by (Some one) y s.origin place = ap (λ f. unstaged_by f y s.origin place) found in
        ap (λ z. (over (unstage_at s.origin) (place + 1) rest z).queue) then
        ∙ further (unstaged_by (Some one) y s.origin place) (taken (letter_len s) slices) base
        (ap (without (is_stage s.origin place)) queue ∙ without_one (is_stage s.origin place) base one (left (taken (letter_len s) slices)) (unstaged_base place) itself (others (taken (letter_len s) slices)))
        unstaged_base
    by false other further queue = further y slices base queue unstaged_base

-- ---- the steps

module _ (o : Opening) (m : Shortage) (target : Bus) (s : State) (d : DriverPart) (c : SendCmd) (begun : Begun)
    (placed : Placed s.peers) (is_driver : slice_get s.drivers d.me ≡ Some d) (answers : Places) (len : length answers ≤ length begun.to) (refused : Refused)
    (g : PeerPart → PeerPart) (g_keeps : (y : PeerPart) → (g y).me ≡ y.me)
    (owner : (before rest : Places) (to : NodeRef) → answers ≡ before ++ None ∷ rest → slice_get begun.to (length before) ≡ Some to → (x : PeerPart) × (slice_get s.peers to.owner ≡ Some x)) where
  abbrev letter : Letter
  letter = record { origin = 0; user = 0; to = begun.to; with = []; payload = [] }

  abbrev At : (PeerPart → PeerPart) → Turn → Type 0
  At h turn = WillEnd o m d.me target (midway s d.me (turned_to d c turn) h)

  -- a part where what was staged at the first places is taken back
  abbrev pub after_unstages : Places → PeerPart → PeerPart
  after_unstages before y = over (unstage_at d.me) 0 (zip begun.to before) (g y)

  unstages_keep : (before : Places) (y : PeerPart) → (after_unstages before y).me ≡ y.me
  unstages_keep before y = over_keeps (λ z. z.me) (unstage_at d.me) (λ place to x. unstage_keeps (λ z. z.me) (λ z queue slices handles. refl) d.me place to x) 0 (zip begun.to before) (g y) ∙ g_keeps y

  same_at : (h j : PeerPart → PeerPart) (turn : Turn) → ((y : PeerPart) → h y ≡ j y) → At h turn → At j turn
  same_at h j turn same = same_parts o m d.me target s (turned_to d c turn) h j same

  abbrev Back : Places → Type 0
  Back before = At (after_unstages before) (unstaging begun answers refused (accepted_from (length before) answers))

  back_refused : (before rest : Places) (r : Reason) → answers ≡ before ++ Some r ∷ rest → Back (before ++ Some r ∷ []) → Back before
  back_refused before rest r all next =
      let to = place_to answers before rest begun.to (Some r) len all in
      same_at (after_unstages (before ++ Some r ∷ [])) (after_unstages before) (unstaging begun answers refused (accepted_from (length before) answers)) (λ y. over_none letter before to.0 to.1 (unstage_at d.me) r (g y))
      (subst (λ k. At (after_unstages (before ++ Some r ∷ [])) (unstaging begun answers refused k)) (refused_from answers before rest r all) next)

  back_accepted : (before rest : Places) → answers ≡ before ++ None ∷ rest → Back (before ++ None ∷ []) → Back before
  back_accepted before rest all next =
      let to = place_to answers before rest begun.to None len all in
      let x = owner before rest to.0 all to.1 in
      let owner_is : (node_of_place begun.to (length before)).owner ≡ to.0.owner = ap (λ n. n.owner) (get_or_from_slice_get begun.to (length before) to.0 no_ref to.1) in
      subst (λ k. At (after_unstages before) (unstaging begun answers refused k)) (sym (accepted_at answers before rest all))
      (subst (λ b. At (after_unstages before) (cond b (Goes (Unstaging begun answers refused (length before))) (driver.Ends (ans.Refused refused)))) (sym (is_place_at answers before rest all))
      (goes o m d.me target s d c placed is_driver (Unstaging begun answers refused (length before)) (after_unstages before) (λ y. unstaged y d.me (length before)) (after_unstages (before ++ None ∷ []))
      to.0.owner x.0 _ (unstages_keep before) x.1 owner_is
      (ap (λ e. (e, unstaged (after_unstages before x.0) d.me (length before))) (turned_so d c (Unstaging begun answers refused (length before)) (unstaging begun answers refused (accepted_from (length before + 1) answers))))
      (λ y. sym (over_one letter before to.0 to.1 (unstage_at d.me) (g y)))
      (subst (λ k. At (after_unstages (before ++ None ∷ [])) (unstaging begun answers refused (accepted_from k answers))) (length-append before (None ∷ [])) next)))

  -- the SEND ends with its refusal
  pub unstages_go : WillEnd o m d.me target (midway s d.me (ended (sending_driver d c Starting) (cmd.Send c) (ans.Refused refused)) (after_unstages answers)) → At g (unstaging begun answers refused (accepted_from 0 answers))
  unstages_go last =
      same_at (after_unstages []) g (unstaging begun answers refused (accepted_from 0 answers)) (λ y. over_nothing (unstage_at d.me) begun.to (g y))
      (places_back answers Back back_refused back_accepted
      (subst (λ b. At (after_unstages answers) (cond b (Goes (Unstaging begun answers refused (accepted_from (length answers) answers))) (driver.Ends (ans.Refused refused)))) (sym (none_left answers)) last)
      answers [] refl)
