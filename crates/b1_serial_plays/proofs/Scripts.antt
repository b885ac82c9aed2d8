-- A script without turns comes on the machine to the end that it has on the serial bus.
use Rattle.std.proofs.Common.{◌≡◌, refl, sym, ap, ◌∙◌, subst, ℕ, zero, suc, ◌+◌, Bool, true, false, ◌||◌, not, cond, List, [], ◌∷◌, ◌++◌, length, map, filter, drop, Some, None, is_none, append_assoc, append-nil}
use Rattle.std.specs.Prelude.{slice_get, nat_lt, if◌then◌else◌, fold}
use Rattle.std.specs.List.{list_any, range_with_len}
use Rattle.std.proofs.lemmas.List.{length-append}
use native.Mathlib.Omega.{arith}
use Rattle.b1_model.specs.declared.naming.Opening.{Opening}
use Rattle.b1_model.specs.declared.commands.Command.{Command}
use Rattle.b1_model.specs.Opening.{IsOpening}
use Rattle.b1_model.specs.Script.{commands_of}
use Rattle.b1_model.specs.MachineParts.{PeerPart, DriverPart, State}
use Rattle.b1_model.specs.MachineOrder.{next_command}
use Rattle.b1_model.specs.MachineTook.{open_by, driver_calls}
use Rattle.b1_model.specs.MachineStep.{Reached, opening_state, peer_records, record_of_state}
use Rattle.b1_schedule.specs.Shortage.{Shortage}
use Rattle.b1_schedule.specs.Schedule.{waiting_peers as machine_waiting}
use Rattle.b1_schedule.specs.Schedule.{Turning, Round, Draining, is_left, round_end, drain_at, moved}
use Rattle.b1_schedule.specs.Schedule as machine
use Rattle.b1_inv.specs.Words.{IsDriver}
use Rattle.b1_serial_bus.specs.Parts.{Part, Bus, at_peer}
use Rattle.b1_serial_bus.specs.Rounds.{commands_left, round_at, round}
use Rattle.b1_serial_bus.specs.Drain.{is_full, pass}
use Rattle.b1_serial_bus.specs.Serial.{Stage, Rounds, Passes, Finished, Stalled, Play, waiting_peers, after_round, after_pass}
use Rattle.b1_serial_bus.specs.Serial as serial_moves
use Rattle.b1_serial_bus.specs.Report.{record_of, command_count, started, serial}
use Rattle.b1_serial_bus.proofs.Emptied.{passed}
use Rattle.b1_serial_rest.specs.Standing.{parts_of}
use Rattle.b1_serial_rest.specs.Rest.{AtRest}
use Rattle.b1_serial_rest.proofs.Begins.{begins}
use Rattle.b1_serial_plays.specs.Commands.{CommandsKeepRest}
use Rattle.b1_serial_plays.proofs.Rests.{driver_at, as_many}
use Rattle.b1_serial_plays.proofs.Moves.{at, Goes, goes_on, goes_once, goes_nowhere}
use Rattle.b1_serial_plays.proofs.Rounds.{first, next_of, round_runs}
use Rattle.b1_serial_plays.proofs.Drains.{pass_at}

-- the stage of the machine's schedule that a stage of the serial bus stands for
abbrev pub stage_of : Stage → machine.Stage
stage_of Rounds = Round 0 false
stage_of Passes = Draining 0 false
stage_of Finished = machine.Finished
stage_of Stalled = machine.Stalled

-- ---- lists

past : {X : Type 0} (xs : List X) → slice_get xs (length xs) ≡ None
past [] = refl
past (x ∷ xs) = past xs

-- ---- facts of a state at rest

module _ {o : Opening} {s : State} {bus : Bus} (rest : AtRest o s bus) where
  -- the bus has as many peers as the opening
  peers_are : length bus ≡ length o.peers
  peers_are = as_many rest ∙ rest.numbered.as_many_drivers

  -- behind the last peer there is no driver
  no_more : slice_get s.drivers (length o.peers) ≡ None
  no_more = ap (slice_get s.drivers) (sym rest.numbered.as_many_drivers) ∙ past s.drivers

-- ---- who waits

module _ (lists : List (List Command)) (s : State) where
  abbrev test : Part → Bool
  test y = nat_lt 0 (length (commands_left lists y))

  waiting_from : (q : ℕ) (bus : Bus) → ((i : ℕ) (y : Part) → slice_get bus i ≡ Some y → (y.me ≡ q + i) × (is_left lists s (q + i) ≡ test y)) → filter (is_left lists s) (range_with_len q (length bus)) ≡ map (λ x. x.me) (filter test bus)
  waiting_from q [] each = refl
  waiting_from q (y ∷ ys) each = by (waiting_from (q + 1) ys (λ i z is. let here = each (suc i) z is in let more : q + suc i ≡ (q + 1) + i = omega arith in (here.0 ∙ more, ap (is_left lists s) (sym more) ∙ here.1))) (test y) refl
    where
      none : q + 0 ≡ q
      none = omega arith

      me : y.me ≡ q
      me = (each 0 y refl).0 ∙ none

      left : is_left lists s q ≡ test y
      left = ap (is_left lists s) (sym none) ∙ (each 0 y refl).1

      by : filter (is_left lists s) (range_with_len (q + 1) (length ys)) ≡ map (λ x. x.me) (filter test ys) → (b : Bool) → test y ≡ b
          → cond (is_left lists s q) (q ∷ filter (is_left lists s) (range_with_len (q + 1) (length ys))) (filter (is_left lists s) (range_with_len (q + 1) (length ys))) ≡ map (λ x. x.me) (cond (test y) (y ∷ filter test ys) (filter test ys))
      by later true t = rw (left, t) (ap (λ n. n ∷ filter (is_left lists s) (range_with_len (q + 1) (length ys))) (sym me) ∙ ap (λ ns. y.me ∷ ns) later)
      by later false t = rw (left, t) later

-- a peer has commands left on the serial bus where its driver has
pub same_waiting : {o : Opening} {s : State} {bus : Bus} → AtRest o s bus → (lists : List (List Command)) → machine_waiting lists s ≡ waiting_peers lists bus
same_waiting {o} {s} {bus} rest lists = ap (λ n. filter (is_left lists s) (range_with_len 0 n)) (sym (as_many rest)) ∙ waiting_from lists s 0 bus each
  where
    left_so : (cs : List Command) → not (is_none (first cs)) ≡ nat_lt 0 (length cs)
    left_so [] = grind arith
    left_so (c ∷ cs) = more (length cs)
      where
        more : (n : ℕ) → true ≡ nat_lt 0 (suc n)
        more n = grind arith

    each : (i : ℕ) (y : Part) → slice_get bus i ≡ Some y → (y.me ≡ 0 + i) × (is_left lists s (0 + i) ≡ test lists s y)
    each i y is =
        let d = driver_at rest i y is in
        let here : 0 + i ≡ i = omega arith in (
          d.me ∙ sym here,
          ap (is_left lists s) here
              ∙ ap (λ found. elim found [ None ↦ false | Some e ↦ not (is_none (next_command lists i e)) ]) d.is_driver
              ∙ ap (λ next. not (is_none next)) (next_of (commands_of lists i) (length d.part.calls))
              ∙ ap (λ n. not (is_none (first (drop n (commands_of lists i))))) (ap length (sym d.calls))
              ∙ ap (λ q. not (is_none (first (drop (length y.calls) (commands_of lists q))))) (sym d.me)
              ∙ left_so (commands_left lists y),
        )

-- ---- one move of the serial bus

module _ (o : Opening) (lists : List (List Command)) (m : Shortage) (keeps : CommandsKeepRest o) where
  -- what follows a round, by who waits
  abbrev after_by : List ℕ → Bool → Bus → Play
  after_by waiting gained b = elim waiting [ [] ↦ record { bus = b; stage = Passes } | peer ∷ rest ↦ record { bus = b; stage = if gained then Rounds else Stalled } ]

  -- the machine has come from a stage to another one, at rest
  pub record ComesTo (s : State) (stage : machine.Stage) (bus : Bus) (to : machine.Stage) : Type 0 where
    pub state : State
    pub reached : Reached o state
    pub rests : AtRest o state bus
    pub goes : Goes o lists m (at s stage) (at state to)

  rounds_run : (n q : ℕ) (s : State) (bus : Bus) (gained : Bool) → q + n ≡ length o.peers → Reached o s → AtRest o s bus
      → ComesTo s (Round q gained) (fold (round_at lists m) (record { bus = bus; gained = gained }) (range_with_len q n)).bus (Round (q + n) (fold (round_at lists m) (record { bus = bus; gained = gained }) (range_with_len q n)).gained)
  rounds_run zero q s bus gained count reached rest =
      let none : q ≡ q + 0 = omega arith in
      record { state = s; reached = reached; rests = rest; goes = goes_nowhere o lists m _ _ (ap (λ r. at s (Round r gained)) none) }
  rounds_run (suc n) q s bus gained count reached rest =
      let all = peers_are rest in
      let k = round_runs o lists m keeps q s bus gained (omega (arith, count, all)) reached rest in
      let g = round_at lists m (record { bus = bus; gained = gained }) q in
      let last = rounds_run n (q + 1) k.state g.bus g.gained (omega (arith, count)) k.reached k.rests in
      let same : (q + 1) + n ≡ q + suc n = omega arith in
      let whole = fold (round_at lists m) g (range_with_len (q + 1) n) in
      record {
        state = last.state;
        reached = last.reached;
        rests = last.rests;
        goes = goes_on o lists m _ _ _ k.goes (subst (λ r. Goes o lists m (at k.state (Round (q + 1) g.gained)) (at last.state (Round r whole.gained))) same last.goes);
      }

  round_comes : (s : State) (bus : Bus) → Reached o s → AtRest o s bus → ComesTo s (Round 0 false) (after_round lists (round lists m bus)).bus (stage_of (after_round lists (round lists m bus)).stage)
  round_comes s bus reached rest =
      let g = round lists m bus in
      let k = rounds_run (length bus) 0 s bus false (let all = peers_are rest in omega (arith, all)) reached rest in
      let count : 0 + length bus ≡ length o.peers = let all = peers_are rest in omega (arith, all) in
      let end : moved o lists m (at k.state (Round (0 + length bus) g.gained)) ≡ at k.state (round_end lists k.state g.gained) =
      ap (λ n. moved o lists m (at k.state (Round n g.gained))) count
      ∙ ap (λ found. machine.round_at o lists m (length o.peers) g.gained k.state found) (no_more k.rests) in
      let stage_is : round_end lists k.state g.gained ≡ stage_of (after_round lists g).stage =
      ap (λ waiting. elim waiting [ [] ↦ Draining 0 false | peer ∷ rest ↦ if g.gained then Round 0 false else machine.Stalled ]) (same_waiting k.rests lists)
      ∙ same_stage (waiting_peers lists g.bus) g.gained g.bus in
      record {
        state = k.state;
        reached = k.reached;
        rests = subst (AtRest o k.state) (sym (same_bus (waiting_peers lists g.bus) g.gained g.bus)) k.rests;
        goes = goes_on o lists m _ _ _ k.goes (goes_once o lists m _ _ (end ∙ ap (at k.state) stage_is));
      }
    where
      same_stage : (waiting : List ℕ) (gained : Bool) (b : Bus)
          → (elim waiting [ [] ↦ Draining 0 false | peer ∷ rest ↦ if gained then Round 0 false else machine.Stalled ])
          ≡ stage_of (after_by waiting gained b).stage
      same_stage [] gained b = refl
      same_stage (p ∷ ps) true b = refl
      same_stage (p ∷ ps) false b = refl

      same_bus : (waiting : List ℕ) (gained : Bool) (b : Bus) → (after_by waiting gained b).bus ≡ b
      same_bus [] gained b = refl
      same_bus (p ∷ ps) gained b = refl

  -- ---- a pass

  middle : (before : Bus) (y : Part) (later : Bus) → slice_get (before ++ y ∷ later) (length before) ≡ Some y
  middle [] y later = refl
  middle (x ∷ xs) y later = middle xs y later

  change : (f : Part → Part) (before : Bus) (y : Part) (later : Bus) → at_peer (length before) f (before ++ y ∷ later) ≡ before ++ f y ∷ later
  change f [] y later = refl
  change f (x ∷ xs) y later = ap (λ zs. x ∷ zs) (change f xs y later)

  passes_run : (later : Bus) (before : Bus) (s : State) (gained : Bool) → Reached o s → AtRest o s (before ++ later)
      → ComesTo s (Draining (length before) gained) (before ++ map passed later) (Draining (length before + length later) (gained || list_any is_full later))
  passes_run [] before s gained reached rest =
      let none : length before ≡ length before + 0 = omega arith in
      record { state = s; reached = reached; rests = rest; goes = goes_nowhere o lists m _ _ (ap (λ r. at s (Draining r gained)) none ∙ ap (λ b. at s (Draining (length before + 0) b)) (or_false gained)) }
    where
      or_false : (b : Bool) → b ≡ (b || false)
      or_false true = refl
      or_false false = refl
  passes_run (y ∷ ys) before s gained reached rest =
      let k = pass_at o lists m keeps (length before) s (before ++ y ∷ ys) gained y reached rest (middle before y ys) in
      let longer : length (before ++ passed y ∷ []) ≡ length before + 1 = length-append before (passed y ∷ []) in
      let rests : AtRest o k.state ((before ++ passed y ∷ []) ++ ys) = subst (AtRest o k.state) (change passed before y ys ∙ sym (append_assoc before (passed y ∷ []) ys)) k.rests in
      let last = passes_run ys (before ++ passed y ∷ []) k.state (gained || is_full y) k.reached rests in
      let count : length (before ++ passed y ∷ []) + length ys ≡ length before + suc (length ys) = let l = longer in omega (arith, l) in
      record {
        state = last.state;
        reached = last.reached;
        rests = subst (AtRest o last.state) (append_assoc before (passed y ∷ []) (map passed ys)) last.rests;
        goes = goes_on o lists m _ _ _ k.goes
            (subst (λ n. Goes o lists m (at k.state (Draining n (gained || is_full y))) (at last.state (Draining (length before + suc (length ys)) (gained || (is_full y || list_any is_full ys))))) longer
            (subst (λ n. Goes o lists m (at k.state (Draining (length (before ++ passed y ∷ [])) (gained || is_full y))) (at last.state (Draining n (gained || (is_full y || list_any is_full ys))))) count
            (subst (λ b. Goes o lists m (at k.state (Draining (length (before ++ passed y ∷ [])) (gained || is_full y))) (at last.state (Draining (length (before ++ passed y ∷ []) + length ys) b))) (or_assoc gained (is_full y) (list_any is_full ys)) last.goes)));
      }
    where
      or_assoc : (a b c : Bool) → ((a || b) || c) ≡ (a || (b || c))
      or_assoc true b c = refl
      or_assoc false b c = refl

  pass_comes : (s : State) (bus : Bus) → Reached o s → AtRest o s bus → ComesTo s (Draining 0 false) (after_pass (pass bus)).bus (stage_of (after_pass (pass bus)).stage)
  pass_comes s bus reached rest =
      let k = passes_run bus [] s false reached rest in
      let g = pass bus in
      let count : 0 + length bus ≡ length o.peers = let all = peers_are rest in omega (arith, all) in
      let end : moved o lists m (at k.state (Draining (0 + length bus) g.gained)) ≡ at k.state (if g.gained then Draining 0 false else machine.Finished) =
      ap (λ n. moved o lists m (at k.state (Draining n g.gained))) count
      ∙ ap (λ found. drain_at o m (length o.peers) g.gained k.state found) (no_more k.rests) in
      record {
        state = k.state;
        reached = k.reached;
        rests = k.rests;
        goes = goes_on o lists m _ _ _ k.goes (goes_once o lists m _ _ (end ∙ ap (at k.state) (same_stage g.gained)));
      }
    where
      same_stage : (gained : Bool) → (if gained then Draining 0 false else machine.Finished) ≡ stage_of (if gained then Passes else Finished)
      same_stage true = refl
      same_stage false = refl

  -- ---- so many moves

  move_comes : (s : State) (bus : Bus) (stage : Stage) → Reached o s → AtRest o s bus
      → ComesTo s (stage_of stage) (serial_moves.moved lists m (record { bus = bus; stage = stage })).bus (stage_of (serial_moves.moved lists m (record { bus = bus; stage = stage })).stage)
  move_comes s bus Rounds reached rest = round_comes s bus reached rest
  move_comes s bus Passes reached rest = pass_comes s bus reached rest
  move_comes s bus Finished reached rest = record { state = s; reached = reached; rests = rest; goes = goes_nowhere o lists m _ _ refl }
  move_comes s bus Stalled reached rest = record { state = s; reached = reached; rests = rest; goes = goes_nowhere o lists m _ _ refl }

  moves_come : (n : ℕ) (s : State) (play : Play) → Reached o s → AtRest o s play.bus → ComesTo s (stage_of play.stage) (serial_moves.moves lists m n play).bus (stage_of (serial_moves.moves lists m n play).stage)
  moves_come zero s play reached rest = record { state = s; reached = reached; rests = rest; goes = goes_nowhere o lists m _ _ refl }
  moves_come (suc n) s play reached rest =
      let k = move_comes s play.bus play.stage reached rest in
      let last = moves_come n k.state (serial_moves.moved lists m play) k.reached k.rests in
      record { state = last.state; reached = last.reached; rests = last.rests; goes = goes_on o lists m _ _ _ k.goes last.goes }

  -- the schedule of the script comes to the serial bus's end
  pub script_comes : IsOpening o → ComesTo (opening_state o) (Turning []) (serial o lists m).bus (stage_of (serial o lists m).stage)
  script_comes valid =
      let k = moves_come (command_count lists + 3) (opening_state o) (started o) (record { steps = []; run = refl }) (begins o valid) in
      record { state = k.state; reached = k.reached; rests = k.rests; goes = goes_on o lists m _ _ _ (goes_once o lists m (at (opening_state o) (Turning [])) (at (opening_state o) (Round 0 false)) refl) k.goes }

-- ---- the record

-- a state at rest has the record of its bus
pub same_record : {o : Opening} {s : State} {bus : Bus} → AtRest o s bus → record_of_state s ≡ record_of bus
same_record {o} {s} {bus} rest = ap (λ peers. record { peers = peers }) (by s.peers s.drivers (λ d there. rest_idle d there) ∙ ap (map (λ x. record { epoch = x.epoch; clock = x.clock; calls = x.calls })) (sym rest.is_bus))
  where
    rest_idle : (d : DriverPart) → ((p : ℕ) × IsDriver s p d) → d.doing ≡ None
    rest_idle d there = rest.quiet.idle there.0 d there.1

    by : (xs : List PeerPart) (ds : List DriverPart) → ((d : DriverPart) → ((p : ℕ) × (slice_get ds p ≡ Some d)) → d.doing ≡ None) → peer_records xs ds ≡ map (λ x. record { epoch = x.epoch; clock = x.clock; calls = x.calls }) (parts_of xs ds)
    by [] ds idle = refl
    by (x ∷ xs) [] idle = refl
    by (x ∷ xs) (d ∷ ds) idle =
        let calls_are : driver_calls d ≡ d.calls = ap (λ doing. d.calls ++ open_by doing) (idle d (0, refl)) ∙ append-nil d.calls in
        ap (λ calls. record { epoch = x.epoch; clock = x.clock; calls = calls } ∷ peer_records xs ds) calls_are
        ∙ ap (λ rest. record { epoch = x.epoch; clock = x.clock; calls = d.calls } ∷ rest) (by xs ds (λ e there. idle e (suc there.0, there.1)))
