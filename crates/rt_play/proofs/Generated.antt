-- How a generated run is told.
use Rattle.std.proofs.Common.{◌≡◌, inl, inr, ℕ, zero, suc, ◌+◌, List, [], ◌∷◌, ◌++◌, length, Result, Ok, Err, false, refl, ap, sym, ◌∙◌, subst, arith, append_assoc}
use Rattle.std.specs.List.{concat}
use Rattle.std.proofs.lemmas.List.{append-nil, length-append}
use Rattle.rt_base.specs.Sink.{SinkMeaning}
use Rattle.rt_events.specs.declared.refusal.Refusal.{Refusal}
use Rattle.rt_events.specs.declared.refusal.Refusal.TheVariants as refusal
use Rattle.rt_lines.specs.Header.{ReadsHeader, Says, header_of}
use Rattle.rt_lines.specs.Lines.{ScriptLines, script_lines}
use Rattle.rt_lines.specs.declared.play_fault.PlayFault.{PlayFault}
use Rattle.rt_lines.specs.declared.play_fault.PlayFault.TheVariants.{Usage, Refused, ReadFault, WriteFault, Memory, Limit}
use Rattle.rt_macros.specs.Doing.{Comes, Does, Reached, reached}
use Rattle.rt_model.specs.declared.setup.Setup.{Setup}
use Rattle.rt_play.proofs.Tellings.{nothing_put, put_in_part}
use Rattle.rt_play.specs.Generating.{IsGenerated, IsGeneratedBy, RunsGenerated, TellsGenerated, end_texts, generated_setup, report_by, report_texts, setup_read}
use Rattle.rt_writing.specs.Writing.{FailsWithin, Puts}
use Rattle.rt_play.specs.Report.{fault_at, stopped}
use Rattle.rt_play.specs.Writing.{WritesText, WritesTexts}
use Rattle.rt_play.specs.declared.generating.Generated.{Generated}
use Rattle.rt_play.specs.declared.play_end.PlayEnd.{PlayEnd}
use Rattle.rt_report.specs.MacroTexts.{end_text}
use Rattle.rt_world.specs.Kept.{Kept}
use Rattle.rt_world.specs.Reading.{end_in}
use Rattle.rt_state.specs.Start.{start}
use Rattle.rt_state.specs.declared.state.State.{State}

-- ---- texts

-- the text of a partition more
pub ends_more : (w : State) (at left next : ℕ) → left ≡ suc next → end_texts w at left ≡ end_text (record { 0 = at }) (end_in w (record { 0 = at })) ∷ end_texts w (at + 1) next
ends_more w at left next e = ap (end_texts w at) e

pub ends_none : (w : State) (at left : ℕ) → left ≡ 0 → end_texts w at left ≡ []
ends_none w at left e = ap (end_texts w at) e

ends_count : (w : State) (at count : ℕ) → length (end_texts w at count) ≡ count
ends_count w at zero = refl
ends_count w at (suc count) = ap suc (ends_count w (at + 1) count)

texts_count : (w : State) (count : ℕ) (answer : List ℕ) → count + 1 ≡ length (report_texts count w answer)
texts_count w count answer = omega (arith, ends_count w 0 count, length-append (end_texts w 0 count) (answer ∷ []))

-- texts of which some were written, and one more
pub written_more : (texts written rest : List (List ℕ)) (text : List ℕ) (left : List (List ℕ)) → texts ≡ written ++ left → left ≡ text ∷ rest → texts ≡ (written ++ text ∷ []) ++ rest
written_more texts written rest text left whole e = whole ∙ ap (λ ts. written ++ ts) e ∙ sym (append_assoc written (text ∷ []) rest)

-- all texts were written
pub written_all : (texts written left : List (List ℕ)) (old new : SinkMeaning) → texts ≡ written ++ left → left ≡ [] → Puts old new (concat written) → Puts old new (concat texts)
written_all texts written left old new whole e puts =
    subst (λ ts. Puts old new (concat ts)) (sym (whole ∙ ap (λ ts. written ++ ts) e ∙ append-nil written)) puts

-- a text that wasn't written whole
pub texts_stop : (fault : PlayFault) (texts written rest : List (List ℕ)) (text : List ℕ) (left : List (List ℕ)) (old mid new : SinkMeaning)
    → texts ≡ written ++ left → left ≡ text ∷ rest → Puts old mid (concat written) → WritesText text mid new (Err fault) → WritesTexts texts old new (Err fault)
texts_stop WriteFault texts written rest text left old mid new whole e puts fails =
    record { front = written ++ text ∷ []; rest = rest; whole = written_more texts written rest text left whole e; fails = put_in_part old mid new written text puts fails }
texts_stop Memory texts written rest text left old mid new whole e puts same =
    record { front = written; rest = left; whole = whole; puts = subst (λ s. Puts old s (concat written)) (sym same) puts }
texts_stop Usage texts written rest text left old mid new whole e puts h = absurd h
texts_stop ReadFault texts written rest text left old mid new whole e puts h = absurd h
texts_stop (Refused line reason) texts written rest text left old mid new whole e puts h = absurd h
texts_stop (Limit which) texts written rest text left old mid new whole e puts h = absurd h

more_whole : (texts front rest more : List (List ℕ)) → texts ≡ front ++ rest → texts ++ more ≡ front ++ (rest ++ more)
more_whole texts front rest more e = ap (λ ts. ts ++ more) e ∙ append_assoc front rest more

-- texts that weren't written whole, and others that would have come
pub texts_stopped : (fault : PlayFault) (texts more : List (List ℕ)) (old new : SinkMeaning) → WritesTexts texts old new (Err fault) → WritesTexts (texts ++ more) old new (Err fault)
texts_stopped WriteFault texts more old new h = record { front = h.front; rest = h.rest ++ more; whole = more_whole texts h.front h.rest more h.whole; fails = h.fails }
texts_stopped Memory texts more old new h = record { front = h.front; rest = h.rest ++ more; whole = more_whole texts h.front h.rest more h.whole; puts = h.puts }
texts_stopped Usage texts more old new h = absurd h
texts_stopped ReadFault texts more old new h = absurd h
texts_stopped (Refused line reason) texts more old new h = absurd h
texts_stopped (Limit which) texts more old new h = absurd h

-- the last text was written in part
pub last_stops : (texts : List (List ℕ)) (text : List ℕ) (old mid new : SinkMeaning) → Puts old mid (concat texts) → FailsWithin text mid new → WritesTexts (texts ++ text ∷ []) old new (Err WriteFault)
last_stops texts text old mid new puts fails =
    record { front = texts ++ text ∷ []; rest = []; whole = sym (append-nil (texts ++ text ∷ [])); fails = put_in_part old mid new texts text puts fails }

-- ---- the run

is_generated : (asked : Generated) (setup : Setup) (made : Kept) (v : Reached) (told : Result (List ℕ) Refusal)
    → generated_setup asked ≡ Ok setup → made ≡ record { state = start setup; spent = false } → RunsGenerated asked made.state v told → IsGenerated asked (report_by asked.partitions v.world told)
is_generated asked setup made v told e first run =
    subst (λ s. IsGeneratedBy asked s (report_by asked.partitions v.world told)) (sym e)
    (record { last = v; told = told; run = subst (λ (k : Kept). RunsGenerated asked k.state v told) first run; same = refl })

-- its report was written
pub generated_told : (asked : Generated) (setup : Setup) (made : Kept) (w : State) (answer : List ℕ) (old new : SinkMeaning)
    → generated_setup asked ≡ Ok setup → made ≡ record { state = start setup; spent = false } → Comes (RunsGenerated asked made.state) made.state w (Ok answer)
    → WritesTexts (report_texts asked.partitions w answer) old new (Ok tt) → TellsGenerated asked old new (Ok (record { lines = asked.partitions + 1 }))
generated_told asked setup made w answer old new e first c puts = (
  record {
    report = report_by asked.partitions w (Ok answer);
    is = is_generated asked setup made (reached c.turns w) (Ok answer) e first c.came;
    stop = refl;
    puts = puts;
  },
  texts_count w asked.partitions answer,
)

-- its report was written in part
pub generated_stopped : (fault : PlayFault) (asked : Generated) (setup : Setup) (made : Kept) (w : State) (answer : List ℕ) (old new : SinkMeaning)
    → generated_setup asked ≡ Ok setup → made ≡ record { state = start setup; spent = false } → Comes (RunsGenerated asked made.state) made.state w (Ok answer)
    → WritesTexts (report_texts asked.partitions w answer) old new (Err fault) → TellsGenerated asked old new (Err fault)
generated_stopped WriteFault asked setup made w answer old new e first c h = record {
  texts = h.front;
  is =
      inr
      (record {
        report = report_by asked.partitions w (Ok answer);
        rest = h.rest;
        is = is_generated asked setup made (reached c.turns w) (Ok answer) e first c.came;
        whole = h.whole;
      });
  fails = h.fails;
}
generated_stopped Memory asked setup made w answer old new e first c h = record {
  texts = h.front;
  is =
      inr
      (record {
        report = report_by asked.partitions w (Ok answer);
        rest = h.rest;
        is = is_generated asked setup made (reached c.turns w) (Ok answer) e first c.came;
        whole = h.whole;
      });
  puts = h.puts;
}
generated_stopped Usage asked setup made w answer old new e first c h = absurd h
generated_stopped ReadFault asked setup made w answer old new e first c h = absurd h
generated_stopped (Refused line reason) asked setup made w answer old new e first c h = absurd h
generated_stopped (Limit which) asked setup made w answer old new e first c h = absurd h

-- nothing of it was written where memory ran out
pub nothing_generated : (asked : Generated) (s : SinkMeaning) → TellsGenerated asked s s (Err Memory)
nothing_generated asked s = record { texts = []; is = inl refl; puts = nothing_put s }

-- an event of it was refused
pub generated_refused : (why : Refusal) (asked : Generated) (setup : Setup) (made v : Kept) (s : SinkMeaning)
    → generated_setup asked ≡ Ok setup → made ≡ record { state = start setup; spent = false } → Does (RunsGenerated asked) made.state v (Err why) → TellsGenerated asked s s (Err (fault_at 0 why))
generated_refused refusal.NoSuchMessage asked setup made v s e first d = record { report = stopped (fault_at 0 refusal.NoSuchMessage); is = is_generated asked setup made (reached d.1.turns v.state) (Err refusal.NoSuchMessage) e first d.1.came; stop = refl; puts = nothing_put s }
generated_refused refusal.NoSuchNode asked setup made v s e first d = record { report = stopped (fault_at 0 refusal.NoSuchNode); is = is_generated asked setup made (reached d.1.turns v.state) (Err refusal.NoSuchNode) e first d.1.came; stop = refl; puts = nothing_put s }
generated_refused refusal.NodeDown asked setup made v s e first d = record { report = stopped (fault_at 0 refusal.NodeDown); is = is_generated asked setup made (reached d.1.turns v.state) (Err refusal.NodeDown) e first d.1.came; stop = refl; puts = nothing_put s }
generated_refused refusal.NothingToDo asked setup made v s e first d = record { report = stopped (fault_at 0 refusal.NothingToDo); is = is_generated asked setup made (reached d.1.turns v.state) (Err refusal.NothingToDo) e first d.1.came; stop = refl; puts = nothing_put s }
generated_refused (refusal.Limit which) asked setup made v s e first d = record { report = stopped (fault_at 0 (refusal.Limit which)); is = is_generated asked setup made (reached d.1.turns v.state) (Err (refusal.Limit which)) e first d.1.came; stop = refl; puts = nothing_put s }
generated_refused refusal.Memory asked setup made v s e first d = nothing_generated asked s

-- no cluster was made
pub setup_stops : (fault : PlayFault) (asked : Generated) (s : SinkMeaning) → generated_setup asked ≡ Err fault → IsGenerated asked (stopped fault)
setup_stops fault asked s e = subst (λ found. IsGeneratedBy asked found (stopped fault)) (sym e) refl

-- no use of the program is refused by it
pub no_usage : (result : Result PlayEnd PlayFault) (asked : Generated) (old new : SinkMeaning) → TellsGenerated asked old new result → result ≡ Err Usage → ⊥
no_usage result asked old new tells e = subst (λ r. TellsGenerated asked old new r) e tells

-- the setup isn't read
pub setup_refused : (fault : PlayFault) (asked : Generated) (s : SinkMeaning) → Says (generated_setup asked) (Err fault) → TellsGenerated asked s s (Err fault)
setup_refused (Refused line reason) asked s e = record { report = stopped (Refused line reason); is = setup_stops (Refused line reason) asked s e; stop = refl; puts = nothing_put s }
setup_refused (Limit which) asked s e = record { report = stopped (Limit which); is = setup_stops (Limit which) asked s e; stop = refl; puts = nothing_put s }
setup_refused Memory asked s e = nothing_generated asked s
setup_refused Usage asked s e = absurd e
setup_refused ReadFault asked s e = absurd e
setup_refused WriteFault asked s e = absurd e

-- ---- the setup

header_as : (text input : List ℕ) (script : ScriptLines) → script ≡ script_lines input → input ≡ text → header_of (script_lines text) ≡ header_of script
header_as text input script is e = sym (ap header_of (is ∙ ap script_lines e))

-- the setup is what the header's text says
pub setup_says : (text input : List ℕ) (script new : ScriptLines) (result : Result Setup PlayFault) → script ≡ script_lines input → input ≡ text → ReadsHeader script new result
    → Says (setup_read (header_of (script_lines text))) result
setup_says text input script new (Ok setup) is e reads = ap setup_read (header_as text input script is e ∙ reads.0)
setup_says text input script new (Err (Refused line reason)) is e reads = ap setup_read (header_as text input script is e ∙ reads)
setup_says text input script new (Err (Limit which)) is e reads = ap setup_read (header_as text input script is e ∙ reads)
setup_says text input script new (Err Memory) is e reads = tt
setup_says text input script new (Err Usage) is e reads = absurd reads
setup_says text input script new (Err ReadFault) is e reads = absurd reads
setup_says text input script new (Err WriteFault) is e reads = absurd reads
