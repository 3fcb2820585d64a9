-- How a report is told, line by line.
use Rattle.std.proofs.Common.{◌≡◌, ℕ, List, [], ◌∷◌, ◌++◌, length, Option, Some, None, Ok, Err, refl, ap, sym, ◌∙◌, subst, arith, append_assoc}
use Rattle.std.specs.List.{concat}
use Rattle.std.proofs.lemmas.List.{append-nil}
use Rattle.rt_base.specs.Sink.{SinkMeaning, added}
use Rattle.rt_desk.specs.declared.desk.Desk.{Desk}
use Rattle.rt_lines.specs.Header.{NumberedLine}
use Rattle.rt_lines.specs.declared.play_fault.PlayFault.{PlayFault}
use Rattle.rt_lines.specs.declared.play_fault.PlayFault.TheVariants.{Usage, Refused, ReadFault, WriteFault, Memory, Limit}
use Rattle.rt_play.specs.declared.play_end.PlayEnd.{PlayEnd}
use Rattle.rt_play.specs.Going.{Going}
use Rattle.rt_play.specs.Plays.{HasRun, HasStopped, TellsFrom, TellsAll, TellsSome, PlaysLine, going}
use Rattle.rt_writing.specs.Writing.{Puts, FailsWithin}
use Rattle.rt_play.specs.Report.{FrontRuns, IsReportFrom, RunAll, Runs, said_at}
use Rattle.rt_macros.specs.Doing.{stays}
use Rattle.rt_safety.specs.Runs.{Turn}
use Rattle.rt_writing.proofs.Writes.{added_more}
use Rattle.rt_world.specs.Kept.{Kept}

concat-append : (xs ys : List (List ℕ)) → concat (xs ++ ys) ≡ concat xs ++ concat ys
concat-append [] ys = refl
concat-append (x ∷ xs) ys = ap (λ bytes. x ++ bytes) (concat-append xs ys) ∙ sym (append_assoc x (concat xs) (concat ys))

added_nothing : (taken : Option (List ℕ)) → taken ≡ added taken []
added_nothing None = refl
added_nothing (Some bytes) = ap Some (sym (append-nil bytes))

pub nothing_put : (s : SinkMeaning) → Puts s s []
nothing_put s = record { taken = added_nothing s.taken; counts = omega arith }

-- the bytes of the texts and one more
concat_one : (texts : List (List ℕ)) (text : List ℕ) → concat (texts ++ text ∷ []) ≡ concat texts ++ text
concat_one texts text = concat-append texts (text ∷ []) ∙ ap (λ x. concat texts ++ x) (append-nil text)

pub put_text : (old mid new : SinkMeaning) (texts : List (List ℕ)) (text : List ℕ) → Puts old mid (concat texts) → Puts mid new text → Puts old new (concat (texts ++ text ∷ []))
put_text old mid new texts text before now = record {
  taken = now.taken ∙ ap (λ x. added x text) before.taken ∙ added_more old.taken (concat texts) text ∙ ap (added old.taken) (sym (concat_one texts text));
  counts = omega (arith, before.counts, now.counts);
}

-- a text that was written in part
pub put_in_part : (old mid new : SinkMeaning) (texts : List (List ℕ)) (text : List ℕ) → Puts old mid (concat texts) → FailsWithin text mid new → FailsWithin (concat (texts ++ text ∷ [])) old new
put_in_part old mid new texts text puts fails = record {
  front = concat texts ++ fails.front;
  rest = fails.rest;
  whole = concat_one texts text ∙ ap (λ x. concat texts ++ x) fails.whole ∙ sym (append_assoc (concat texts) fails.front fails.rest);
  taken = fails.taken ∙ ap (λ x. added x fails.front) puts.taken ∙ added_more old.taken (concat texts) fails.front;
  counts = (omega (arith, puts.counts, fails.counts.0), λ h. omega (arith, puts.counts, fails.counts.0, fails.counts.1, h));
}

-- a line more runs behind those that ran
pub run_more : (done : List NumberedLine) (line : NumberedLine) (g : Going) (turns : List Turn) (x : Going) (own : List Turn) (h : Going) (texts : List (List ℕ)) (text : List ℕ)
    → RunAll done g turns x texts → Runs (said_at x line) x own h text → RunAll (done ++ line ∷ []) g (turns ++ own) h (texts ++ text ∷ [])
run_more [] line g turns x own h texts text run now = record {
  own = own;
  between = h;
  text = text;
  more = [];
  others = [];
  first = subst (λ (y : Going). Runs (said_at y line) y own h text) run.0 now;
  then_others = (refl, refl, refl);
  taken = ap (λ ts. ts ++ own) run.1 ∙ sym (append-nil own);
  whole = ap (λ ts. ts ++ text ∷ []) run.2;
}
run_more (d ∷ done) line g turns x own h texts text run now = record {
  own = run.own;
  between = run.between;
  text = run.text;
  more = run.more ++ own;
  others = run.others ++ text ∷ [];
  first = run.first;
  then_others = run_more done line run.between run.more x own h run.others text run.then_others now;
  taken = ap (λ ts. ts ++ own) run.taken ∙ append_assoc run.own run.more own;
  whole = ap (λ ts. ts ++ text ∷ []) run.whole;
}

-- what ran, and the next line
pub one_more : (lines done rest : List NumberedLine) (line : NumberedLine) (left : List NumberedLine) → lines ≡ done ++ rest → rest ≡ line ∷ left → lines ≡ (done ++ line ∷ []) ++ left
one_more lines done rest line left whole e = whole ∙ ap (λ ls. done ++ ls) e ∙ sym (append_assoc done (line ∷ []) left)

-- a run whose lines are at their end
pub tells_end : (lines done : List NumberedLine) (g : Going) (turns : List Turn) (x : Going) (texts : List (List ℕ)) (rest : List NumberedLine) (old now : SinkMeaning) (end : PlayEnd)
    → lines ≡ done ++ rest → rest ≡ [] → RunAll done g turns x texts → Puts old now (concat texts) → end.lines ≡ length texts → TellsFrom lines g old now (Ok end)
tells_end lines done g turns x texts rest old now end whole none run puts count = (
  record {
    report = record { texts = texts; stop = None };
    is =
        record {
          runs = record { front = done; rest = []; turns = turns; last = x; whole = whole ∙ ap (λ ls. done ++ ls) none; run = run };
          stopped_by = stays x.world;
          stops = (refl, refl);
        };
    stop = refl;
    puts = puts;
  },
  count,
)

stops_there : (lines done : List NumberedLine) (g : Going) (turns : List Turn) (x : Going) (texts : List (List ℕ)) (line : NumberedLine) (left : List NumberedLine) (old now : SinkMeaning) (fault : PlayFault)
    → lines ≡ done ++ (line ∷ left) → RunAll done g turns x texts → Puts old now (concat texts) → HasStopped line.0 (said_at x line) x fault → TellsAll (IsReportFrom lines g) old now (Some fault)
stops_there lines done g turns x texts line left old now fault whole run puts stops = record {
  report = record { texts = texts; stop = Some fault };
  is =
      record {
        runs = record { front = done; rest = line ∷ left; turns = turns; last = x; whole = whole; run = run };
        stopped_by = stops.behind;
        stops = (fault, stops.stops, refl);
      };
  stop = refl;
  puts = puts;
}

-- a line that stops the run
pub tells_stop : (fault : PlayFault) (lines done : List NumberedLine) (g : Going) (turns : List Turn) (x : Kept) (before : Desk) (v : Kept) (after : Desk) (texts : List (List ℕ)) (rest : List NumberedLine) (line : NumberedLine) (left : List NumberedLine) (text : List ℕ) (old now : SinkMeaning)
    → lines ≡ done ++ rest → rest ≡ line ∷ left → RunAll done g turns (going x before) texts → Puts old now (concat texts) → PlaysLine line.0 line.1 x before v after text (Err fault) → TellsFrom lines g old now (Err fault)
tells_stop (Refused at reason) lines done g turns x before v after texts rest line left text old now whole e run puts plays =
    stops_there lines done g turns (going x before) texts line left old now (Refused at reason) (whole ∙ ap (λ ls. done ++ ls) e) run puts plays
tells_stop (Limit which) lines done g turns x before v after texts rest line left text old now whole e run puts plays =
    stops_there lines done g turns (going x before) texts line left old now (Limit which) (whole ∙ ap (λ ls. done ++ ls) e) run puts plays
tells_stop Memory lines done g turns x before v after texts rest line left text old now whole e run puts plays =
    record { texts = texts; is = record { front = done; rest = rest; turns = turns; last = going x before; whole = whole; run = run }; puts = puts }
tells_stop Usage lines done g turns x before v after texts rest line left text old now whole e run puts plays = absurd plays
tells_stop ReadFault lines done g turns x before v after texts rest line left text old now whole e run puts plays = absurd plays
tells_stop WriteFault lines done g turns x before v after texts rest line left text old now whole e run puts plays = absurd plays

-- a line that ran, and whose text was written in part
pub tells_fault : (lines done : List NumberedLine) (g : Going) (turns : List Turn) (x h : Going) (texts : List (List ℕ)) (rest : List NumberedLine) (line : NumberedLine) (left : List NumberedLine) (text written : List ℕ) (old mid new : SinkMeaning)
    → lines ≡ done ++ rest → rest ≡ line ∷ left → RunAll done g turns x texts → Puts old mid (concat texts) → HasRun (said_at x line) x h text → written ≡ text → FailsWithin written mid new
    → TellsSome (FrontRuns lines g) old new
tells_fault lines done g turns x h texts rest line left text written old mid new whole e run puts now same fails = record {
  texts = texts ++ text ∷ [];
  is =
      record {
        front = done ++ line ∷ [];
        rest = left;
        turns = turns ++ now.turns;
        last = h;
        whole = one_more lines done rest line left whole e;
        run = run_more done line g turns x now.turns h texts text run now.runs;
      };
  fails = put_in_part old mid new texts text puts (subst (λ t. FailsWithin t mid new) same fails);
}
