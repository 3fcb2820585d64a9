-- What a run does, by its answer; and what it answers where nothing outside fails.
use Rattle.std.proofs.Common.{◌≡◌, ◌⊎◌, inl, inr, ℕ, Bool, List, Some, Result, Ok, Err, refl, subst, sym}
use Rattle.rt_base.specs.Sink.{SinkMeaning}
use Rattle.rt_base.specs.Source.{SourceMeaning, Rises}
use Rattle.rt_base.specs.declared.numbers.Offset.{Offset}
use Rattle.rt_base.specs.declared.which.Which.{Which}
use Rattle.rt_base.specs.declared.which.Which.TheVariants.{Input as InputLimit, Message}
use Rattle.rt_lines.proofs.HeaderLimits.{header_within}
use Rattle.rt_lines.proofs.Readings.{told_input, too_long}
use Rattle.rt_lines.specs.Header.{NumberedLine}
use Rattle.rt_lines.specs.Lines.{script_lines}
use Rattle.rt_lines.specs.Reading.{IsTooLong, ReadsInput, TakesSome}
use Rattle.rt_lines.specs.declared.play_fault.PlayFault.{PlayFault}
use Rattle.rt_lines.specs.declared.play_fault.PlayFault.TheVariants.{Usage, Refused, ReadFault, WriteFault, Memory, Limit}
use Rattle.rt_live_input.specs.Input.{IsRefused, ReadsInput as ReadsText, StopsAtChaos, StopsAtLine}
use Rattle.rt_model.specs.declared.setup.Setup.{Setup}
use Rattle.rt_live.specs.Lives.{HasRunOver, IsAnInput, LivesInput, LivesText, Meets, Writes}
use Rattle.rt_live.specs.declared.live_end.LiveEnd.{LiveEnd}

-- ---- what a text comes to

-- a text that isn't read leaves the sink as it was
pub refuses : (journal : Bool) (text : List ℕ) (sink : SinkMeaning) (fault : PlayFault) → ReadsText text (Err fault)
    → LivesText journal text sink sink (Err fault)
refuses journal text sink Usage k = absurd k
refuses journal text sink (Refused line reason) k = record { refused = k; nothing = refl }
refuses journal text sink ReadFault k = absurd k
refuses journal text sink WriteFault k = absurd k
refuses journal text sink Memory k = refl
refuses journal text sink (Limit which) k = record { refused = k; nothing = refl }

-- what a run over it came to is written
pub writes_run : (journal : Bool) (text : List ℕ) (old new : SinkMeaning) (ends : List Offset) (written : List ℕ)
    (result : Result LiveEnd PlayFault) → HasRunOver journal text ends written → Writes old new ends written result
    → LivesText journal text old new result
writes_run journal text old new ends written (Ok end) ran w = record {
  written = written;
  ran = subst (λ (es : List Offset). HasRunOver journal text es written) (sym w.0) ran;
  puts = w.1;
}
writes_run journal text old new ends written (Err Usage) ran w = absurd w
writes_run journal text old new ends written (Err (Refused line reason)) ran w = absurd w
writes_run journal text old new ends written (Err ReadFault) ran w = absurd w
writes_run journal text old new ends written (Err WriteFault) ran w = record { ends = ends; written = written; ran = ran; fails = w }
writes_run journal text old new ends written (Err Memory) ran w = absurd w
writes_run journal text old new ends written (Err (Limit which)) ran w = absurd w

-- ---- what an input comes to

-- it was read to its end
pub lives_whole : (journal : Bool) (from to : SourceMeaning) (old new : SinkMeaning) (text : List ℕ) (result : Result LiveEnd PlayFault)
    → ReadsInput from to text → LivesText journal text old new result → LivesInput journal from to old new result
lives_whole journal from to old new text (Ok end) reads lives = record { text = text; reads = reads; lives = lives }
lives_whole journal from to old new text (Err Usage) reads lives = absurd lives
lives_whole journal from to old new text (Err (Refused line reason)) reads lives = record { text = text; reads = reads; lives = lives }
lives_whole journal from to old new text (Err ReadFault) reads lives = absurd lives
lives_whole journal from to old new text (Err WriteFault) reads lives = record { text = text; reads = reads; lives = lives }
lives_whole journal from to old new text (Err Memory) reads lives = record {
  some = record { input = text; taken = reads.taken };
  nothing = lives;
}
lives_whole journal from to old new text (Err (Limit which)) reads lives = inr (record { text = text; reads = reads; lives = lives })

-- memory ran out as it was read
pub ran_out : (journal : Bool) (from to : SourceMeaning) (sink : SinkMeaning) → TakesSome from to
    → LivesInput journal from to sink sink (Err Memory)
ran_out journal from to sink some = record { some = some; nothing = refl }

-- the source failed
pub fails : (journal : Bool) (from to : SourceMeaning) (sink : SinkMeaning) → TakesSome from to → Rises from.faults to.faults
    → LivesInput journal from to sink sink (Err ReadFault)
fails journal from to sink some rises = record { input = some.input; taken = some.taken; counts = rises; nothing = refl }

-- ---- the answers

-- the words are those of the program
pub usage_never : (journal : Bool) (from to : SourceMeaning) (old new : SinkMeaning) (result : Result LiveEnd PlayFault)
    → LivesInput journal from to old new result → result ≡ Err Usage → ⊥
usage_never journal from to old new result lives is = subst (LivesInput journal from to old new) is lives

message_other : InputLimit ≡ Message → ⊥
message_other e = cc

stops_never : (setup : Setup) (lines : List NumberedLine)
    → StopsAtChaos setup lines (Limit InputLimit) ⊎ StopsAtLine setup lines (Limit InputLimit) → ⊥
stops_never setup lines (inl k) = k.refuses
stops_never setup lines (inr k) = message_other k.refuses.0

-- no line passes the limit of the input
refused_never : (text : List ℕ) → IsRefused text (Limit InputLimit) → ⊥
refused_never text (inl header) = header_within (script_lines text) header
refused_never text (inr k) = stops_never k.setup k.behind k.stops

long_by : (journal : Bool) (from to : SourceMeaning) (old new : SinkMeaning) → LivesInput journal from to old new (Err (Limit InputLimit))
    → IsTooLong from to old new
long_by journal from to old new (inl k) = k.1
long_by journal from to old new (inr k) = absurd (refused_never k.text k.lives.refused)

-- the limit of the input is passed by one that is too long alone
pub long_alone : (journal : Bool) (result : Result LiveEnd PlayFault) (from to : SourceMeaning) (old new : SinkMeaning)
    → LivesInput journal from to old new result → result ≡ Err (Limit InputLimit) → IsTooLong from to old new
long_alone journal result from to old new lives is = long_by journal from to old new (subst (LivesInput journal from to old new) is lives)

limit_meets : (journal : Bool) (which : Which) (from to : SourceMeaning) (old new : SinkMeaning) (told : List ℕ) → from.left ≡ Some told
    → LivesInput journal from to old new (Err (Limit which)) → Meets told (Err (Limit which))
limit_meets journal which from to old new told is (inl k) = inl (k.0, too_long from to old new told is k.1)
limit_meets journal which from to old new told is (inr k) =
    inr (subst (λ text. IsRefused text (Limit which)) (told_input from to k.text told is k.reads) k.lives.refused)

-- where nothing outside fails the answer is one of the input's own
pub completes : (journal : Bool) (result : Result LiveEnd PlayFault) (from to : SourceMeaning) (old new : SinkMeaning) (told : List ℕ)
    → LivesInput journal from to old new result → from.left ≡ Some told → (Rises from.faults to.faults → ⊥)
    → (Rises old.faults new.faults → ⊥) → Meets told result
completes journal (Ok end) from to old new told k is read wrote =
    subst IsAnInput (told_input from to k.text told is k.reads)
    (record { within = k.reads.within; input = k.lives.ran.input; read = k.lives.ran.read })
completes journal (Err Usage) from to old new told k is read wrote = absurd k
completes journal (Err (Refused line reason)) from to old new told k is read wrote =
    subst (λ text. IsRefused text (Refused line reason)) (told_input from to k.text told is k.reads) k.lives.refused
completes journal (Err ReadFault) from to old new told k is read wrote = absurd (read k.counts)
completes journal (Err WriteFault) from to old new told k is read wrote = absurd (wrote k.lives.fails.counts)
completes journal (Err Memory) from to old new told k is read wrote = tt
completes journal (Err (Limit which)) from to old new told k is read wrote = limit_meets journal which from to old new told is k
