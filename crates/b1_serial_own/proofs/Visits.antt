-- A destruction of one driver alone: its visits, its stamp, its syncs and its commits, and what each peer has become behind them.
use Rattle.std.proofs.Common.{◌≡◌, ◌≢◌, ◌⊎◌, refl, sym, ap, ◌∙◌, subst, inl, inr, ℕ, ◌+◌, ◌<◌, ◌==◌, max, Bool, true, false, cond, ◌||◌, nat_lt, List, [], ◌∷◌, ◌++◌, length, get_or, fold, Option, Some, None, Ok, option_map, append-nil, append_assoc, if◌then◌else◌, arith}
use Rattle.std.specs.Prelude.{⊤, slice_get}
use Rattle.std.specs.List.{list_any}
use Rattle.std.proofs.lemmas.Option.{same_Some}
use Rattle.std.proofs.lemmas.Bool.{cases_eq, eq-eqb, ne_eqb, eqb-true, lt-ltb, le-ltb, false_from_ne_true}
use Rattle.std.proofs.lemmas.List.{length_push}
use Rattle.std.proofs.lemmas.List.Sums.{fold_push}
use Rattle.b1_model.specs.declared.naming.Opening.{Opening}
use Rattle.b1_model.specs.declared.commands.Command.{Command}
use Rattle.b1_model.specs.declared.parts.Visited.{Visited}
use Rattle.b1_model.specs.declared.answers.Answer.{Answer}
use Rattle.b1_model.specs.declared.answers.Answer.TheVariants as ans
use Rattle.b1_model.specs.declared.events.Action.TheVariants as act
use Rattle.b1_model.specs.declared.events.Outcome.TheVariants as out
use Rattle.b1_model.specs.declared.events.Destruction.{Destruction}
use Rattle.b1_model.specs.declared.events.Phase.{Phase}
use Rattle.b1_model.specs.declared.events.Phase.TheVariants.{Starting, Visiting, Dooming, SyncingNotices, CommittingOwn, CommittingNotices, Flushing}
use Rattle.b1_model.specs.MachineParts.{PeerPart, DriverPart, State}
use Rattle.b1_model.specs.MachineTables.{with_peer}
use Rattle.b1_model.specs.MachineSend.{synced, notices_committed}
use Rattle.b1_model.specs.MachineDestroy.{visit_set, doomed_part, needs_notice, visited, visit_answer, doom_answer, doom_stamped}
use Rattle.b1_model.specs.MachineDriver.{Turn, Goes, Ends, turn, phase_action, first_action, visiting, with_visit, syncing_notices, committing_notices, is_flushing}
use Rattle.b1_model.specs.MachineTook.{owed_after, is_done}
use Rattle.b1_model.specs.MachineEvents.{begin_refusal, begin_serials, destroy_by, visit_event, commit_notices_event, happens}
use Rattle.b1_model.specs.MachineStep.{Step, Reached}
use Rattle.b1_step.specs.Rights.{Has}
use Rattle.b1_inv.specs.Words.{IsPeer, IsDriver, is_among}
use Rattle.b1_inv.specs.Notices.{AllAbove, Rises}
use Rattle.b1_serial_whole.proofs.Whole.{GoesOn, Whole}
use Rattle.b1_serial_own.proofs.Moved.{begin_moved}
use Rattle.b1_serial_own.proofs.Amid.{Become, updated, Amid, Ended, recast, recast_end, advanced, steps_on, advance, finish}

-- ---- rising numbers

-- all are below a number
abbrev pub AllBelow : ℕ → List ℕ → Type 0
AllBelow n list = (m : ℕ) → Has list m → m < n

above_has : (n : ℕ) (list : List ℕ) (m : ℕ) → AllAbove n list → Has list m → n < m
above_has n [] m above there = absurd there
above_has n (k ∷ rest) m above (inl same) = let less = above.0 in omega (arith, less, same)
above_has n (k ∷ rest) m above (inr there) = above_has n rest m above.1 there

has_later : (xs ys : List ℕ) (m : ℕ) → Has ys m → Has (xs ++ ys) m
has_later [] ys m there = there
has_later (x ∷ xs) ys m there = inr (has_later xs ys m there)

pub rises_below : (done : List ℕ) (v : ℕ) (rest : List ℕ) → Rises (done ++ v ∷ rest) → AllBelow v done
rises_below [] v rest up m there = absurd there
rises_below (k ∷ done) v rest up m (inl same) = let less = above_has k (done ++ v ∷ rest) v up.0 (has_later done (v ∷ rest) v (inl refl)) in omega (arith, less, same)
rises_below (k ∷ done) v rest up m (inr there) = rises_below done v rest up.1 m there

-- a greater one joins last
pub joins_last : (v : ℕ) (done : List ℕ) → AllBelow v done → with_peer v done ≡ done ++ v ∷ []
joins_last v [] below = refl
joins_last v (k ∷ rest) below =
    let less = below k (inl refl) in
    ap (λ b. cond b (v ∷ k ∷ rest) (cond (v == k) (k ∷ rest) (k ∷ with_peer v rest))) (le-ltb v k (omega (arith, less)))
    ∙ ap (λ b. cond b (k ∷ rest) (k ∷ with_peer v rest)) (ne_eqb v k (λ e. absurd (omega (arith, less, e))))
    ∙ ap (λ l. k ∷ l) (joins_last v rest (λ m there. below m (inr there)))

-- one of a list
pub among_has : (q : ℕ) (list : List ℕ) → is_among q list ≡ true → Has list q
among_has q [] is = absurd (cc is)
among_has q (k ∷ rest) is = by (k == q) refl is (among_has q rest)
  where
    by : (b : Bool) → (k == q) ≡ b → b || is_among q rest ≡ true → (is_among q rest ≡ true → Has rest q) → (q ≡ k) ⊎ Has rest q
    by true same is further = inl (sym (eqb-true k q same))
    by false apart is further = inr (further is)

pub not_among : (q : ℕ) (list : List ℕ) → (Has list q → ⊥) → is_among q list ≡ false
not_among q list none = false_from_ne_true (is_among q list) (λ is. none (among_has q list is))

among_more : (q v : ℕ) (done : List ℕ) → is_among q (done ++ v ∷ []) ≡ is_among q done || (v == q)
among_more q v [] = elim (v == q) as (λ b. b || false ≡ b) [ true ↦ refl | false ↦ refl ]
among_more q v (k ∷ rest) = ap (λ b. (k == q) || b) (among_more q v rest) ∙ by (k == q)
  where
    by : (b : Bool) → b || (is_among q rest || (v == q)) ≡ (b || is_among q rest) || (v == q)
    by true = refl
    by false = refl

get_next : (done : List ℕ) (v : ℕ) (rest : List ℕ) (e : ℕ) → get_or (done ++ v ∷ rest) (length done) e ≡ v
get_next [] v rest e = refl
get_next (k ∷ done) v rest e = get_next done v rest e

length_more : (done : List ℕ) (v : ℕ) (rest : List ℕ) → length done < length (done ++ v ∷ rest)
length_more [] v rest = omega arith
length_more (k ∷ done) v rest = let less = length_more done v rest in omega (arith, less)

-- ---- each of a list changes once

-- those of a list have changed
abbrev pub changed_at : List ℕ → (PeerPart → PeerPart) → Become → Become
changed_at done f g q z = cond (is_among q done) (f (g q z)) (g q z)

-- one more, which isn't among them
changed_more : (done : List ℕ) (v : ℕ) (f : PeerPart → PeerPart) (g : Become) → (Has done v → ⊥) → (q : ℕ) (z : PeerPart) → updated v f (changed_at done f g) q z ≡ changed_at (done ++ v ∷ []) f g q z
changed_more done v f g new q z = elim (cases_eq q v) [ inl same ↦ here same | inr apart ↦ there apart ]
  where
    here : q ≡ v → updated v f (changed_at done f g) q z ≡ changed_at (done ++ v ∷ []) f g q z
    here same =
        let fresh : is_among q done ≡ false = not_among q done (subst (λ n. Has done n → ⊥) (sym same) new) in
        ap (λ b. cond b (f (changed_at done f g q z)) (changed_at done f g q z)) (eq-eqb q v same)
        ∙ ap (λ b. f (cond b (f (g q z)) (g q z))) fresh
        ∙ ap (λ b. cond b (f (g q z)) (g q z)) (sym (among_more q v done ∙ ap (λ b. b || (v == q)) fresh ∙ eq-eqb v q (sym same)))

    there : q ≢ v → updated v f (changed_at done f g) q z ≡ changed_at (done ++ v ∷ []) f g q z
    there apart =
        ap (λ b. cond b (f (changed_at done f g q z)) (changed_at done f g q z)) (ne_eqb q v apart)
        ∙ ap (λ b. cond b (f (g q z)) (g q z)) (sym (among_more q v done ∙ ap (λ b. is_among q done || b) (ne_eqb v q (λ e. apart (sym e))) ∙ or_false (is_among q done)))
      where
        or_false : (b : Bool) → b || false ≡ b
        or_false true = refl
        or_false false = refl

-- ---- what a destruction makes of each peer

-- of the owner p of doomed nodes, and of the peers of a list, with a stamp that is above what was collected
abbrev pub destroys : ℕ → List ℕ → ℕ → ℕ → List ℕ → Become
destroys p doomed collected stamp list q z =
    cond (q == p) (notices_committed (doom_stamped (doomed_part z doomed) collected doomed) p stamp)
    (cond (is_among q list) (notices_committed (synced (visited z p doomed) stamp) p stamp) z)

-- ---- a destruction

module _ (o : Opening) (s : State) (p : ℕ) (x : PeerPart) (d : DriverPart) (command : Command) (t : State) (is_x : IsPeer s p x) (is_d : IsDriver s p d)
    (idle_end : (e : DriverPart) → IsDriver t p e → e.doing ≡ None) (one : ℕ) (more : List ℕ) (list : List ℕ)
    (up : Rises list) (others : (q : ℕ) → Has list q → (q ≢ p) × ((z : PeerPart) × IsPeer s q z))
    (needs : (q : ℕ) (z : PeerPart) → Has list q → IsPeer s q z → list_any (λ serial. needs_notice z (record { owner = p; serial = serial })) (one ∷ more) ≡ true) where
  abbrev pub doomed : List ℕ
  doomed = one ∷ more

  -- the clock of a peer, if it is there
  abbrev pub clock_of : ℕ → ℕ
  clock_of q = elim (slice_get s.peers q) [ None ↦ 0 | Some z ↦ z.clock ]

  -- what the visits collect
  abbrev pub collects : List ℕ → ℕ
  collects done = fold (λ c q. max c (clock_of q)) 0 done

  abbrev pub so_far : List ℕ → Destruction
  so_far done = record { doomed = doomed; collected = collects done; staged = done }

  abbrev pub stamp : ℕ
  stamp = max x.clock (collects list) + 2

  -- what the peers become, one stage after another
  abbrev pub doom : Become
  doom = updated p (λ z. doomed_part z doomed) (λ q z. z)

  abbrev pub visit : List ℕ → Become
  visit done = changed_at done (λ z. visited z p doomed) doom

  abbrev pub stamps : Become
  stamps = updated p (λ z. doom_stamped z (collects list) doomed) (visit list)

  abbrev pub syncs : List ℕ → Become
  syncs done = changed_at done (λ z. synced z stamp) stamps

  abbrev pub commits_own : Become
  commits_own = updated p (λ z. notices_committed z p stamp) (syncs list)

  abbrev pub commits : List ℕ → Become
  commits done = changed_at done (λ z. notices_committed z p stamp) commits_own

  abbrev pub Within : State → Phase → Become → Type 0
  Within u phase g = Amid o s p d command u phase g

  -- a state on the way to the end, in a phase
  pub record Comes (phase : Phase) (g : Become) : Type 0 where
    pub state : State
    pub at : Within state phase g
    pub left : ℕ
    pub goes_on : GoesOn o p left state t

  never_done : (told : Bool) (destruction : Destruction) (left : List ℕ) → is_done [] told (visiting destruction left) ≡ false
  never_done told destruction [] = refl
  never_done told destruction (q ∷ rest) = refl

  -- a peer of the list is another one, which no stage before changed
  apart_doom : (v : ℕ) (z : PeerPart) → Has list v → doom v z ≡ z
  apart_doom v z there = ap (λ b. cond b (doomed_part z doomed) z) (ne_eqb v p (others v there).0)

  unvisited : (done rest : List ℕ) (v : ℕ) → list ≡ done ++ v ∷ rest → Has done v → ⊥
  unvisited done rest v is there = let less = rises_below done v rest (subst Rises is up) v there in absurd (omega (arith, less))

  listed : (done rest : List ℕ) (v : ℕ) → list ≡ done ++ v ∷ rest → Has list v
  listed done rest v is = subst (λ l. Has l v) (sym is) (has_later done (v ∷ rest) v (inl refl))

  next_split : (done rest : List ℕ) (v : ℕ) → list ≡ done ++ v ∷ rest → list ≡ (done ++ v ∷ []) ++ rest
  next_split done rest v is = is ∙ sym (append_assoc done (v ∷ []) rest)

  -- ---- the visits

  module _ (done rest : List ℕ) (v : ℕ) (is : list ≡ done ++ v ∷ rest) (u : State) (at : Within u (Visiting (so_far done) (v ∷ rest)) (visit done)) (w : State) (step : Step o u p None w) where
    abbrev there : Has list v
    there = listed done rest v is

    new : Has done v → ⊥
    new = unvisited done rest v is

    abbrev z : PeerPart
    z = (others v there).1.0

    is_z : IsPeer s v z
    is_z = (others v there).1.1

    z_still : visit done v z ≡ z
    z_still = ap (λ b. cond b (visited (doom v z) p doomed) (doom v z)) (not_among v done new) ∙ apart_doom v z there

    abbrev got : Visited
    got = visit_answer z p doomed

    does : (memory : Bool) (e : DriverPart) → e.me ≡ p → happens o memory e (record { command = command; phase = Visiting (so_far done) (v ∷ rest) }) (act.Visit v) (visit done v z) ≡ (out.Visit got, visited (visit done v z) p doomed)
    does memory e me = ap (λ n. visit_event n doomed (visit done v z)) me ∙ ap (λ y. (out.Visit (visit_answer y p doomed), visited (visit done v z) p doomed)) z_still

    visit_is : with_visit (so_far done) v got ≡ so_far (done ++ v ∷ [])
    visit_is =
        ap (λ b. record { doomed = doomed; collected = max (collects done) z.clock; staged = if b then with_peer v done else done }) (needs v z there is_z)
        ∙ ap (λ l. record { doomed = doomed; collected = max (collects done) z.clock; staged = l }) (joins_last v done (rises_below done v rest (subst Rises is up)))
        ∙ ap (λ n. record { doomed = doomed; collected = n; staged = done ++ v ∷ [] })
        (ap (λ r. max (collects done) (elim r [ None ↦ 0 | Some y ↦ y.clock ])) (sym is_z) ∙ sym (fold_push (λ c q. max c (clock_of q)) 0 done v))

    visited_one : Within w (visiting (so_far (done ++ v ∷ [])) rest) (visit (done ++ v ∷ []))
    visited_one =
        recast o s p d command (updated v (λ y. visited y p doomed) (visit done)) (visit (done ++ v ∷ [])) (λ q y is_y. changed_more done v (λ n. visited n p doomed) doom new q y)
        (advance o s p d command at step (act.Visit v) v z is_z (out.Visit got) (λ y. visited y p doomed) refl refl does refl (λ b. refl)
        (visiting (so_far (done ++ v ∷ [])) rest) (ap (λ k. Goes (visiting k rest)) visit_is) (λ told. never_done told (so_far (done ++ v ∷ [])) rest))

  all_visits : (left done : List ℕ) → list ≡ done ++ left → Comes (visiting (so_far done) left) (visit done) → Comes (Dooming (so_far list)) (visit list)
  all_visits [] done is c = subst (λ l. Comes (Dooming (so_far l)) (visit l)) (sym (is ∙ append-nil done)) c
  all_visits (v ∷ rest) done is c =
      let k = steps_on o s p d command c.at idle_end c.left c.goes_on in
      all_visits rest (done ++ v ∷ []) (next_split done rest v is) (record { state = k.middle; at = visited_one done rest v is c.state c.at k.middle k.step; left = k.left; goes_on = k.goes_on })

  -- ---- the stamp

  apart_list : Has list p → ⊥
  apart_list there = (others p there).0 refl

  own_visit : visit list p x ≡ doomed_part x doomed
  own_visit = ap (λ b. cond b (visited (doom p x) p doomed) (doom p x)) (not_among p list apart_list) ∙ ap (λ b. cond b (doomed_part x doomed) x) (eq-eqb p p refl)

  stamped : Comes (Dooming (so_far list)) (visit list) → Comes (syncing_notices (so_far list) stamp 0) stamps
  stamped c =
      let k = steps_on o s p d command c.at idle_end c.left c.goes_on in
      record {
        state = k.middle;
        at = advance o s p d command c.at k.step act.StampDestroy p x is_x (out.StampDestroy (Ok stamp)) (λ z. doom_stamped z (collects list) doomed) refl refl
            (λ memory e me. ap (λ z. (out.StampDestroy (doom_answer z (collects list)), doom_stamped (visit list p x) (collects list) doomed)) own_visit) refl (λ b. refl)
            (syncing_notices (so_far list) stamp 0) refl (λ told. left_over (nat_lt 0 (length list)) told);
        left = k.left;
        goes_on = k.goes_on;
      }
    where
      left_over : (b : Bool) (told : Bool) → is_done [] told (if b then SyncingNotices (so_far list) stamp 0 else CommittingOwn (so_far list) stamp) ≡ false
      left_over true told = refl
      left_over false told = refl

  -- ---- the syncs

  sync_phase : (done rest : List ℕ) (v : ℕ) → list ≡ done ++ v ∷ rest → syncing_notices (so_far list) stamp (length done) ≡ SyncingNotices (so_far list) stamp (length done)
  sync_phase done rest v is = ap (λ b. if b then SyncingNotices (so_far list) stamp (length done) else CommittingOwn (so_far list) stamp) (lt-ltb (length done) (length list) (subst (λ l. length done < length l) (sym is) (length_more done v rest)))

  sync_left : (n : ℕ) (told : Bool) → is_done [] told (syncing_notices (so_far list) stamp n) ≡ false
  sync_left n told = by (nat_lt n (length list))
    where
      by : (b : Bool) → is_done [] told (if b then SyncingNotices (so_far list) stamp n else CommittingOwn (so_far list) stamp) ≡ false
      by true = refl
      by false = refl

  sync_one : (done rest : List ℕ) (v : ℕ) → list ≡ done ++ v ∷ rest → (u w : State) → Within u (syncing_notices (so_far list) stamp (length done)) (syncs done) → Step o u p None w
      → Within w (syncing_notices (so_far list) stamp (length (done ++ v ∷ []))) (syncs (done ++ v ∷ []))
  sync_one done rest v is u w at step =
      let there = listed done rest v is in
      let z = (others v there).1 in
      recast o s p d command (updated v (λ y. synced y stamp) (syncs done)) (syncs (done ++ v ∷ [])) (λ q y is_y. changed_more done v (λ n. synced n stamp) stamps (unvisited done rest v is) q y)
      (advance o s p d command (subst (λ ph. Within u ph (syncs done)) (sync_phase done rest v is) at) step (act.Sync v stamp) v z.0 z.1 out.Sync (λ y. synced y stamp)
      (ap (λ n. act.Sync n stamp) (ap (λ l. get_or l (length done) p) is ∙ get_next done v rest p)) refl (λ memory e me. refl) refl (λ b. refl)
      (syncing_notices (so_far list) stamp (length (done ++ v ∷ []))) (ap (λ n. Goes (syncing_notices (so_far list) stamp n)) (sym (length_push done v))) (sync_left (length (done ++ v ∷ []))))

  all_syncs : (left done : List ℕ) → list ≡ done ++ left → Comes (syncing_notices (so_far list) stamp (length done)) (syncs done) → Comes (CommittingOwn (so_far list) stamp) (syncs list)
  all_syncs [] done is c = subst (λ ph. Comes ph (syncs list)) own_phase (subst (λ l. Comes (syncing_notices (so_far list) stamp (length l)) (syncs l)) (sym (is ∙ append-nil done)) c)
    where
      own_phase : syncing_notices (so_far list) stamp (length list) ≡ CommittingOwn (so_far list) stamp
      own_phase = ap (λ b. if b then SyncingNotices (so_far list) stamp (length list) else CommittingOwn (so_far list) stamp) (le-ltb (length list) (length list) (omega arith))
  all_syncs (v ∷ rest) done is c =
      let k = steps_on o s p d command c.at idle_end c.left c.goes_on in
      all_syncs rest (done ++ v ∷ []) (next_split done rest v is) (record { state = k.middle; at = sync_one done rest v is c.state k.middle c.at k.step; left = k.left; goes_on = k.goes_on })

  -- ---- the commits

  -- the end of the command
  pub record EndsIn (answer : Answer) (g : Become) : Type 0 where
    pub state : State
    pub at : Ended o s p d command state answer g
    pub left : ℕ
    pub goes_on : GoesOn o p left state t

  -- the next phase, or the end
  abbrev pub ComesBy : Turn → Become → Type 0
  ComesBy (Goes phase) g = Comes phase g
  ComesBy (Ends answer) g = EndsIn answer g

  -- something is left of the phase
  abbrev LeftOf : Turn → Type 0
  LeftOf (Goes phase) = (told : Bool) → is_done [] told phase ≡ false
  LeftOf (Ends answer) = ⊤

  -- behind the commits
  abbrev pub last : Turn
  last = if is_flushing command then Goes (Flushing (Some stamp)) else Ends (ans.Destroyed stamp)

  commit_turn : ℕ → Turn
  commit_turn n = committing_notices command (so_far list) stamp n

  turn_left : (n : ℕ) → LeftOf (committing_notices command (so_far list) stamp n)
  turn_left n = by (nat_lt n (length list)) (is_flushing command)
    where
      by : (b c : Bool) → LeftOf (if b then Goes (CommittingNotices (so_far list) stamp n) else (if c then Goes (Flushing (Some stamp)) else Ends (ans.Destroyed stamp)))
      by true c = λ told. refl
      by false true = λ told. refl
      by false false = tt

  -- one commit, at peer v
  module _ {u w : State} {phase : Phase} {g : Become} (at : Within u phase g) (step : Step o u p None w) (v : ℕ) (z : PeerPart) (is_z : IsPeer s v z)
      (next : phase_action p d.shut command phase ≡ act.CommitNotices v stamp)
      (owes : owed_after p phase [] out.CommitNotices ≡ []) (left : ℕ) (goes_on : GoesOn o p left w t) where
    commit_does : (memory : Bool) (e : DriverPart) → e.me ≡ p → happens o memory e (record { command = command; phase = phase }) (act.CommitNotices v stamp) (g v z) ≡ (out.CommitNotices, notices_committed (g v z) p stamp)
    commit_does memory e me = ap (λ n. commit_notices_event n stamp (g v z)) me

    committed_by : (to : Turn) → turn p command phase out.CommitNotices ≡ to → LeftOf to → ComesBy to (updated v (λ y. notices_committed y p stamp) g)
    committed_by (Goes ph) is more_left = record {
      state = w;
      at = advance o s p d command at step (act.CommitNotices v stamp) v z is_z out.CommitNotices (λ y. notices_committed y p stamp) next refl commit_does owes (λ b. refl) ph is more_left;
      left = left;
      goes_on = goes_on;
    }
    committed_by (Ends answer) is more_left = record {
      state = w;
      at = finish o s p d command at step (act.CommitNotices v stamp) v z is_z out.CommitNotices (λ y. notices_committed y p stamp) next refl commit_does owes (λ b. refl) answer is;
      left = left;
      goes_on = goes_on;
    }

  recast_by : (to : Turn) (g h : Become) → ((q : ℕ) (z : PeerPart) → IsPeer s q z → g q z ≡ h q z) → ComesBy to g → ComesBy to h
  recast_by (Goes ph) g h same c = record { state = c.state; at = recast o s p d command g h same c.at; left = c.left; goes_on = c.goes_on }
  recast_by (Ends answer) g h same c = record { state = c.state; at = recast_end o s p d command g h same c.at; left = c.left; goes_on = c.goes_on }

  own_committed : Comes (CommittingOwn (so_far list) stamp) (syncs list) → ComesBy (committing_notices command (so_far list) stamp 0) commits_own
  own_committed c =
      let k = steps_on o s p d command c.at idle_end c.left c.goes_on in
      committed_by c.at k.step p x is_x refl refl k.left k.goes_on (committing_notices command (so_far list) stamp 0) refl (turn_left 0)

  commit_one : (done rest : List ℕ) (v : ℕ) → list ≡ done ++ v ∷ rest → Comes (CommittingNotices (so_far list) stamp (length done)) (commits done) → ComesBy (committing_notices command (so_far list) stamp (length (done ++ v ∷ []))) (commits (done ++ v ∷ []))
  commit_one done rest v is c =
      let k = steps_on o s p d command c.at idle_end c.left c.goes_on in
      let z = (others v (listed done rest v is)).1 in
      recast_by (committing_notices command (so_far list) stamp (length (done ++ v ∷ []))) (updated v (λ y. notices_committed y p stamp) (commits done)) (commits (done ++ v ∷ [])) (λ q y is_y. changed_more done v (λ n. notices_committed n p stamp) commits_own (unvisited done rest v is) q y)
      (committed_by c.at k.step v z.0 z.1 (ap (λ n. act.CommitNotices n stamp) (ap (λ l. get_or l (length done) p) is ∙ get_next done v rest p)) refl k.left k.goes_on
      (committing_notices command (so_far list) stamp (length (done ++ v ∷ []))) (ap (λ n. committing_notices command (so_far list) stamp n) (sym (length_push done v))) (turn_left (length (done ++ v ∷ []))))

  all_commits : (left done : List ℕ) → list ≡ done ++ left → ComesBy (committing_notices command (so_far list) stamp (length done)) (commits done) → ComesBy last (commits list)
  all_commits [] done is c =
      subst (λ to. ComesBy to (commits list)) (ap (λ b. if b then Goes (CommittingNotices (so_far list) stamp (length list)) else last) (le-ltb (length list) (length list) (omega arith)))
      (subst (λ l. ComesBy (committing_notices command (so_far list) stamp (length l)) (commits l)) (sym (is ∙ append-nil done)) c)
  all_commits (v ∷ rest) done is c =
      let here = subst (λ to. ComesBy to (commits done)) (ap (λ b. if b then Goes (CommittingNotices (so_far list) stamp (length done)) else last) (lt-ltb (length done) (length list) (subst (λ l. length done < length l) (sym is) (length_more done v rest)))) c in
      all_commits rest (done ++ v ∷ []) (next_split done rest v is) (commit_one done rest v is here)

  -- ---- from its begin on

  module _ (reached : Reached o s) (whole : Whole o s p command t) (me : d.me ≡ p) (idle : d.doing ≡ None) (paid : d.owed ≡ []) (is_open : d.shut ≡ false)
      (first_event : first_action command ≡ act.BeginDestroy) (accepted : begin_refusal command x ≡ None) (serials : begin_serials command x ≡ doomed) (visits : visit_set x doomed ≡ list) where
    driver_is : whole.begins.driver ≡ d
    driver_is = same_Some whole.begins.driver d (sym whole.begins.is_driver ∙ is_d)

    begun : Comes (visiting (so_far []) list) doom
    begun = record {
      state = whole.first;
      at = advanced o s p d command reached whole.begins Starting (begin_moved whole.begins command refl (ap (λ z. z.doing) driver_is ∙ idle)) (ap (λ z. z.me) driver_is ∙ me) (ap (λ z. z.owed) driver_is ∙ paid) (ap (λ z. z.calls) driver_is) (ap (λ z. z.shut) driver_is)
          (λ r apart. refl) (λ q z. z) (λ q. same_as (slice_get s.peers q))
          act.BeginDestroy p x is_x (out.BeginDestroy (Ok list) doomed) (λ z. doomed_part z doomed)
          (ap (λ b. cond b act.Local (first_action command)) is_open ∙ first_event) refl
          (λ memory e same. ap (λ r. destroy_by r (begin_serials command x) x) accepted ∙ ap (λ l. destroy_by None l x) serials ∙ ap (λ l. (out.BeginDestroy (Ok l) doomed, doomed_part x doomed)) visits)
          refl (λ b. refl) (visiting (so_far []) list) refl (λ told. never_done told (so_far []) list);
      left = whole.further;
      goes_on = whole.goes_on;
    }
      where
        same_as : (r : Option PeerPart) → r ≡ option_map (λ z. z) r
        same_as None = refl
        same_as (Some z) = refl

    -- stage by stage, by whether a peer is the owner and whether it is of the list
    abbrev staged : Bool → Bool → PeerPart → PeerPart
    staged own among z =
        let a = cond own (doomed_part z doomed) z in
        let b = cond among (visited a p doomed) a in
        let c = cond own (doom_stamped b (collects list) doomed) b in
        let e = cond among (synced c stamp) c in
        let f = cond own (notices_committed e p stamp) e in
        cond among (notices_committed f p stamp) f

    commits_are : (q : ℕ) (z : PeerPart) → commits list q z ≡ destroys p doomed (collects list) stamp list q z
    commits_are q z = by (q == p) refl (is_among q list) refl
      where
        by : (own : Bool) → (q == p) ≡ own → (among : Bool) → is_among q list ≡ among
            → staged own among z ≡ cond own (notices_committed (doom_stamped (doomed_part z doomed) (collects list) doomed) p stamp) (cond among (notices_committed (synced (visited z p doomed) stamp) p stamp) z)
        by true own true among = absurd (apart_list (among_has p list (ap (λ n. is_among n list) (sym (eqb-true q p own)) ∙ among)))
        by true own false among = refl
        by false own true among = refl
        by false own false among = refl

    -- behind all commits
    pub destruction_done : ComesBy last (destroys p doomed (collects list) stamp list)
    destruction_done = recast_by last (commits list) (destroys p doomed (collects list) stamp list) (λ q z is_z. commits_are q z) (all_commits list [] refl (own_committed (all_syncs list [] refl (stamped (all_visits list [] refl begun)))))
