use Rattle.std.proofs.Common.{Ok, Err, Result}
use Rattle.std.specs.Prelude.{IfOk}
use Rattle.b1_play.specs.Plays.{PlaysAsPromised, PlaysScript}
use Rattle.b1_play.specs.declared.playing.Played.{Played}
use Rattle.b1_play.specs.declared.playing.Played.TheVariants.{Done, Stalled}
use Rattle.b1_play.proofs.playing.play_script.Goals as goal

-- what holds of each thing that was played holds of the result
each : {T E : Type 0} (P Q : T → Type 0) → ((t : T) → P t → Q t) → (r : Result T E) → IfOk r P → IfOk r Q
each P Q h (Ok t) is = h t is
each P Q h (Err e) is = tt

pub returns-clause-promises : goal.returns-clause-promises
returns-clause-promises g c =
    each (PlaysScript c.args.script.now) (PlaysAsPromised c.args.script.now) promised c.play_on.result c.play_on.ensures
  where
    promised : (played : Played) → PlaysScript c.args.script.now played → PlaysAsPromised c.args.script.now played
    promised (Done r) play =
        let s = c.args.script.now in
        record {
          legal = c.plays_are_legal.ensures.legal s.opening s.commands s.turns r c.requires.opening play;
          whole = c.plays_are_legal.ensures.whole s.opening s.commands s.turns r c.requires.opening play;
          script = c.what_is_played_is_scripted.ensures.played s.opening s.commands s.turns r c.requires.opening (λ t reached. c.every_reached_state_is_sound.ensures.reached s.opening t c.requires.opening reached) play;
          serial = λ none. c.plays_without_turns_are_serial.ensures.played s.opening s.commands s.turns r c.requires.opening none play;
          alone = λ none ample. c.plays_without_turns_are_serial.ensures.alone s.opening s.commands s.turns r c.requires.opening none play ample;
          unstalled = λ none stalls ample. c.plays_without_turns_are_serial.ensures.unstalled s.opening s.commands s.turns r c.requires.opening none play stalls ample;
        }
    promised (Stalled waiting reached) stall =
        let s = c.args.script.now in
        record {
          legal = c.plays_are_legal.ensures.stalled s.opening s.commands s.turns waiting reached c.requires.opening stall;
          serial = λ none. c.plays_without_turns_are_serial.ensures.stalled s.opening s.commands s.turns waiting reached c.requires.opening none stall;
        }
