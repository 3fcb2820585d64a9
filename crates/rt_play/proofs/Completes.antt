-- What a run does, by its answer; and what it answers where nothing outside fails.
use Rattle.std.proofs.Common.{◌≡◌, ℕ, List, [], length, Some, None, Result, Ok, Err, ap, sym, ◌∙◌, subst, arith}
use Rattle.rt_base.specs.declared.which.Which.TheVariants.{Input, Partitions, Servers, Controllers, Replication, Message, Events, Sent, Queries, Stored, Moment, Rows}
use Rattle.rt_base.specs.Sink.{SinkMeaning}
use Rattle.rt_base.specs.Source.{SourceMeaning, Rises}
use Rattle.rt_lines.specs.Lines.{script_lines}
use Rattle.rt_lines.proofs.Readings.{told_input, too_long}
use Rattle.rt_lines.specs.declared.play_fault.PlayFault.{PlayFault}
use Rattle.rt_lines.specs.declared.play_fault.PlayFault.TheVariants.{Usage, Refused, ReadFault, WriteFault, Memory, Limit}
use Rattle.rt_play.specs.declared.play_end.PlayEnd.{PlayEnd}
use Rattle.rt_lines.specs.Reading.{IsTooLong, ReadsInput, TakesSome}
use Rattle.rt_play.specs.Plays.{PlaysInput, RunsOut, TellsAll, TellsInput, Meets, IsAnswer, answer_by}
use Rattle.rt_play.specs.Report.{IsReport}
use Rattle.rt_play.proofs.Beginnings.{nothing_behind}
use Rattle.rt_play.proofs.InputLimits.{report_never}
use Rattle.rt_play.specs.Beginning.{beginning_of}
use Rattle.rt_play.proofs.Tellings.{nothing_put}

stop_answers : (fault : PlayFault) (from to : SourceMeaning) (old new : SinkMeaning) (input told : List ℕ) → from.left ≡ Some told → ReadsInput from to input
    → TellsAll (IsReport input) old new (Some fault) → IsAnswer told (Err fault)
stop_answers fault from to old new input told is reads all =
    subst (λ bytes. IsAnswer bytes (Err fault)) (told_input from to input told is reads)
    (record { within = reads.within; report = all.report; is = all.is; same = sym (ap (answer_by all.report) all.stop) })

end_answers : (end : PlayEnd) (from to : SourceMeaning) (old new : SinkMeaning) (input told : List ℕ) → from.left ≡ Some told → ReadsInput from to input
    → (all : TellsAll (IsReport input) old new None) → end.lines ≡ length all.report.texts → IsAnswer told (Ok end)
end_answers end from to old new input told is reads all count =
    subst (λ bytes. IsAnswer bytes (Ok end)) (told_input from to input told is reads)
    (record { within = reads.within; report = all.report; is = all.is; same = ap ended_with count ∙ sym (ap (answer_by all.report) all.stop) })
  where
    ended_with : ℕ → Result PlayEnd PlayFault
    ended_with n = Ok (record { lines = n })

pub completes : (result : Result PlayEnd PlayFault) (from to : SourceMeaning) (old new : SinkMeaning) (told : List ℕ) → PlaysInput from to old new result → from.left ≡ Some told →
    (Rises from.faults to.faults → ⊥) → (Rises old.faults new.faults → ⊥) → Meets told result
completes (Ok end) from to old new told plays is read wrote = end_answers end from to old new plays.input told is plays.reads plays.tells.0 plays.tells.1
completes (Err Usage) from to old new told plays is read wrote = absurd plays
completes (Err ReadFault) from to old new told plays is read wrote = absurd (read plays.counts)
completes (Err WriteFault) from to old new told plays is read wrote = absurd (wrote plays.tells.fails.counts)
completes (Err Memory) from to old new told plays is read wrote = tt
completes (Err (Refused line reason)) from to old new told plays is read wrote = stop_answers (Refused line reason) from to old new plays.input told is plays.reads plays.tells
completes (Err (Limit Input)) from to old new told plays is read wrote = too_long from to old new told is plays
completes (Err (Limit Partitions)) from to old new told plays is read wrote = stop_answers (Limit Partitions) from to old new plays.input told is plays.reads plays.tells
completes (Err (Limit Servers)) from to old new told plays is read wrote = stop_answers (Limit Servers) from to old new plays.input told is plays.reads plays.tells
completes (Err (Limit Controllers)) from to old new told plays is read wrote = stop_answers (Limit Controllers) from to old new plays.input told is plays.reads plays.tells
completes (Err (Limit Replication)) from to old new told plays is read wrote = stop_answers (Limit Replication) from to old new plays.input told is plays.reads plays.tells
completes (Err (Limit Message)) from to old new told plays is read wrote = stop_answers (Limit Message) from to old new plays.input told is plays.reads plays.tells
completes (Err (Limit Events)) from to old new told plays is read wrote = stop_answers (Limit Events) from to old new plays.input told is plays.reads plays.tells
completes (Err (Limit Sent)) from to old new told plays is read wrote = stop_answers (Limit Sent) from to old new plays.input told is plays.reads plays.tells
completes (Err (Limit Queries)) from to old new told plays is read wrote = stop_answers (Limit Queries) from to old new plays.input told is plays.reads plays.tells
completes (Err (Limit Stored)) from to old new told plays is read wrote = stop_answers (Limit Stored) from to old new plays.input told is plays.reads plays.tells
completes (Err (Limit Moment)) from to old new told plays is read wrote = stop_answers (Limit Moment) from to old new plays.input told is plays.reads plays.tells
completes (Err (Limit Rows)) from to old new told plays is read wrote = stop_answers (Limit Rows) from to old new plays.input told is plays.reads plays.tells

-- the limit of the input is passed by one that is too long alone
pub long_alone : (result : Result PlayEnd PlayFault) (from to : SourceMeaning) (old new : SinkMeaning) → PlaysInput from to old new result → result ≡ Err (Limit Input) → IsTooLong from to old new
long_alone result from to old new plays is = subst (PlaysInput from to old new) is plays

-- the report of the whole input was written
pub plays_all : (result : Result PlayEnd PlayFault) (from to : SourceMeaning) (old new : SinkMeaning) (input : List ℕ) → ReadsInput from to input → TellsInput input old new result → PlaysInput from to old new result
plays_all (Ok end) from to old new input reads tells = record { input = input; reads = reads; tells = tells }
plays_all (Err Usage) from to old new input reads tells = absurd tells
plays_all (Err ReadFault) from to old new input reads tells = absurd tells
plays_all (Err WriteFault) from to old new input reads tells = record { input = input; reads = reads; tells = tells }
plays_all (Err Memory) from to old new input reads tells = record { input = input; taken = reads.taken; lines = tells; ended = λ h. reads }
plays_all (Err (Refused line reason)) from to old new input reads tells = record { input = input; reads = reads; tells = tells }
plays_all (Err (Limit Input)) from to old new input reads tells = absurd (report_never input tells.report tells.is tells.stop)
plays_all (Err (Limit Partitions)) from to old new input reads tells = record { input = input; reads = reads; tells = tells }
plays_all (Err (Limit Servers)) from to old new input reads tells = record { input = input; reads = reads; tells = tells }
plays_all (Err (Limit Controllers)) from to old new input reads tells = record { input = input; reads = reads; tells = tells }
plays_all (Err (Limit Replication)) from to old new input reads tells = record { input = input; reads = reads; tells = tells }
plays_all (Err (Limit Message)) from to old new input reads tells = record { input = input; reads = reads; tells = tells }
plays_all (Err (Limit Events)) from to old new input reads tells = record { input = input; reads = reads; tells = tells }
plays_all (Err (Limit Sent)) from to old new input reads tells = record { input = input; reads = reads; tells = tells }
plays_all (Err (Limit Queries)) from to old new input reads tells = record { input = input; reads = reads; tells = tells }
plays_all (Err (Limit Stored)) from to old new input reads tells = record { input = input; reads = reads; tells = tells }
plays_all (Err (Limit Moment)) from to old new input reads tells = record { input = input; reads = reads; tells = tells }
plays_all (Err (Limit Rows)) from to old new input reads tells = record { input = input; reads = reads; tells = tells }

-- memory ran out before the first line
pub ran_out : (from to : SourceMeaning) (s : SinkMeaning) → TakesSome from to → RunsOut from to s s
ran_out from to s some = record {
  input = some.input;
  taken = some.taken;
  lines = record { texts = []; is = nothing_behind (beginning_of (script_lines some.input)); puts = nothing_put s };
  ended = λ h. absurd (omega (arith, h));
}
