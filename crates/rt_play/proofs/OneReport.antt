-- A script has one report.
use Rattle.std.proofs.Common.{◌≡◌, ℕ, List, [], ◌∷◌, ◌++◌, Option, Some, None, Result, Ok, Err, ◌⊎◌, inl, inr, refl, sym, ◌∙◌, ap, subst}
use Rattle.std.specs.Prelude.{IfSome}
use Rattle.rt_desk.specs.Telling.{told}
use Rattle.rt_desk.proofs.OneLine.{line_told}
use Rattle.rt_desk.proofs.OneTelling.{SameDesk, same_desk}
use Rattle.rt_exact.specs.Alike.{AreAlike}
use Rattle.rt_lines.specs.Header.{NumberedLine}
use Rattle.rt_macros.specs.Doing.{Reached, reached}
use Rattle.rt_safety.specs.Runs.{Turn}
use Rattle.rt_lines.specs.Lines.{ScriptLines, script_lines}
use Rattle.rt_lines.specs.declared.play_fault.PlayFault.{PlayFault}
use Rattle.rt_lines.proofs.Headers.{header_taken}
use Rattle.rt_play.specs.Beginning.{beginning_of, going_from}
use Rattle.rt_play.specs.Going.{Going}
use Rattle.rt_play.specs.Plays.{IsAnswer, answer_by}
use Rattle.rt_play.specs.Report.{IsFrontBehind, IsFrontOfReport, IsReport, IsReportBehind, IsReportFrom, IsStop, Report, RunAll, Runs, Stops, fault_at, said_at}
use Rattle.rt_play.specs.declared.beginning.Beginning.{Beginning}
use Rattle.rt_play.specs.declared.play_end.PlayEnd.{PlayEnd}
use Rattle.rt_play.proofs.Beginnings.{beginning_taken}
use Rattle.rt_script.specs.Line.{FitsLine, line_in}
use Rattle.rt_script.specs.declared.line.Line.{Line}
use Rattle.rt_script.proofs.LinesFit.{line_fits}
use Rattle.rt_state.specs.declared.state.State.{State}
use Rattle.rt_world.proofs.StartSafe.{start_safe}

-- alike worlds, with the same desk beside them
pub record GoAlike (g h : Going) : Type 0 where
  pub worlds : AreAlike g.world h.world
  pub desks : SameDesk g.desk h.desk

-- ---- what comes of the first of some lines, and then of the others

-- the first line runs, and then others
pub record GoesOn (line : NumberedLine) (later : Going → List (List ℕ) → Option PlayFault → Type 0) (w : Going) (texts : List (List ℕ)) (stop : Option PlayFault) : Type 0 where
  pub own : List Turn
  pub between : Going
  pub text : List ℕ
  pub others : List (List ℕ)
  pub first : Runs (said_at w line) w own between text
  pub then_others : later between others stop
  pub whole : texts ≡ text ∷ others

-- the first line stops the run
pub record StopsHere (line : NumberedLine) (w : Going) (texts : List (List ℕ)) (stop : Option PlayFault) : Type 0 where
  pub why : PlayFault
  pub behind : Reached
  pub stops : Stops line.0 (said_at w line) w behind why
  pub nothing : texts ≡ []
  pub so : stop ≡ Some why

abbrev Tells : List NumberedLine → Going → List (List ℕ) → Option PlayFault → Type 0
Tells [] w texts stop = (texts ≡ []) × (stop ≡ None)
Tells (line ∷ lines) w texts stop = GoesOn line (λ x others end. Tells lines x others end) w texts stop ⊎ StopsHere line w texts stop

stops_tell : (lines : List NumberedLine) (w : Going) (v : Reached) (texts : List (List ℕ)) (stop : Option PlayFault) → texts ≡ [] → IsStop lines w v stop
    → Tells lines w texts stop
stops_tell [] w v texts stop nothing h = (nothing, h.1)
stops_tell (line ∷ lines) w v texts stop nothing (why, stops, so) = inr (record { why = why; behind = v; stops = stops; nothing = nothing; so = so })

front_tells : (front rest : List NumberedLine) (w : Going) (turns : List Turn) (last : Going) (v : Reached) (texts : List (List ℕ)) (stop : Option PlayFault)
    → RunAll front w turns last texts → IsStop rest last v stop → Tells (front ++ rest) w texts stop
front_tells [] rest w turns last v texts stop (same, none, nothing) h = stops_tell rest w v texts stop nothing (subst (λ u. IsStop rest u v stop) same h)
front_tells (line ∷ front) rest w turns last v texts stop run h =
    inl (record {
      own = run.own;
      between = run.between;
      text = run.text;
      others = run.others;
      first = run.first;
      then_others = front_tells front rest run.between run.more last v run.others stop run.then_others h;
      whole = run.whole;
    })

report_tells : (lines : List NumberedLine) (w : Going) (report : Report) → IsReportFrom lines w report → Tells lines w report.texts report.stop
report_tells lines w report h =
    subst (λ ls. Tells ls w report.texts report.stop) (sym h.runs.whole) (front_tells h.runs.front h.runs.rest w h.runs.turns h.runs.last h.stopped_by report.texts report.stop h.runs.run h.stops)

-- ---- in alike worlds, with the same desk beside them

runs_one : (o : Option Line) (g h : Going) (ts us : List Turn) (x y : Going) (a b : List ℕ) → GoAlike g h → IfSome o (FitsLine g.world.setup.schema) → Runs o g ts x a
    → Runs o h us y b → (a ≡ b) × GoAlike x y
runs_one None g h ts us x y a b k fits p q = absurd p
runs_one (Some said) g h ts us x y a b k fits p q =
    let z = line_told said g.desk h.desk g.world h.world k.worlds k.desks fits (reached ts x.world) (reached us y.world) (Ok (told x.desk a)) (Ok (told y.desk b)) p q in
    (z.0.0, record { worlds = z.1.worlds; desks = z.0.1 })

never_stops : (number : ℕ) (o : Option Line) (g h : Going) (ts : List Turn) (x : Going) (v : Reached) (a : List ℕ) (why : PlayFault) → GoAlike g h
    → IfSome o (FitsLine g.world.setup.schema) → Runs o g ts x a → Stops number o h v why → ⊥
never_stops number None g h ts x v a why k fits p q = p
never_stops number (Some said) g h ts x v a why k fits p (refusal, tells, is) =
    (line_told said g.desk h.desk g.world h.world k.worlds k.desks fits (reached ts x.world) v (Ok (told x.desk a)) (Err refusal) p tells).0

never_runs : (number : ℕ) (o : Option Line) (g h : Going) (us : List Turn) (y : Going) (v : Reached) (b : List ℕ) (why : PlayFault) → GoAlike g h
    → IfSome o (FitsLine g.world.setup.schema) → Stops number o g v why → Runs o h us y b → ⊥
never_runs number None g h us y v b why k fits p q = q
never_runs number (Some said) g h us y v b why k fits (refusal, tells, is) q =
    (line_told said g.desk h.desk g.world h.world k.worlds k.desks fits v (reached us y.world) (Err refusal) (Ok (told y.desk b)) tells q).0

stops_one : (number : ℕ) (o : Option Line) (g h : Going) (v u : Reached) (a b : PlayFault) → GoAlike g h → IfSome o (FitsLine g.world.setup.schema)
    → Stops number o g v a → Stops number o h u b → a ≡ b
stops_one number None g h v u a b k fits p q = p.1 ∙ sym q.1
stops_one number (Some said) g h v u a b k fits (r, tells, is) (s, also, so) =
    let same = (line_told said g.desk h.desk g.world h.world k.worlds k.desks fits v u (Err r) (Err s) tells also).0 in
    is ∙ ap (λ z. fault_at number z) same ∙ sym so

-- ---- all lines

module _ (line : NumberedLine) (g h : Going) (k : GoAlike g h) where
  said_alike : said_at g line ≡ said_at h line
  said_alike = ap (λ (u : State). line_in u.setup line.1) k.worlds.same

  fits : IfSome (said_at g line) (FitsLine g.world.setup.schema)
  fits = line_fits g.world.setup.schema g.world.setup.table.name line.1

  first_one : (ts us : List Turn) (x y : Going) (a b : List ℕ) → Runs (said_at g line) g ts x a → Runs (said_at h line) h us y b → (a ≡ b) × GoAlike x y
  first_one ts us x y a b p q = runs_one (said_at g line) g h ts us x y a b k fits p (subst (λ o. Runs o h us y b) (sym said_alike) q)

  first_stays : (ts : List Turn) (x : Going) (v : Reached) (a : List ℕ) (why : PlayFault) → Runs (said_at g line) g ts x a → Stops line.0 (said_at h line) h v why → ⊥
  first_stays ts x v a why p q = never_stops line.0 (said_at g line) g h ts x v a why k fits p (subst (λ o. Stops line.0 o h v why) (sym said_alike) q)

  stop_stays : (us : List Turn) (y : Going) (v : Reached) (b : List ℕ) (why : PlayFault) → Stops line.0 (said_at g line) g v why → Runs (said_at h line) h us y b → ⊥
  stop_stays us y v b why p q = never_runs line.0 (said_at g line) g h us y v b why k fits p (subst (λ o. Runs o h us y b) (sym said_alike) q)

  stop_one : (v u : Reached) (a b : PlayFault) → Stops line.0 (said_at g line) g v a → Stops line.0 (said_at h line) h u b → a ≡ b
  stop_one v u a b p q = stops_one line.0 (said_at g line) g h v u a b k fits p (subst (λ o. Stops line.0 o h u b) (sym said_alike) q)

tells_one : (lines : List NumberedLine) (g h : Going) (s t : List (List ℕ)) (a b : Option PlayFault) → GoAlike g h → Tells lines g s a → Tells lines h t b
    → (s ≡ t) × (a ≡ b)
tells_one [] g h s t a b k p q = (p.0 ∙ sym q.0, p.1 ∙ sym q.1)
tells_one (line ∷ lines) g h s t a b k (inl p) (inl q) =
    let first = first_one line g h k p.own q.own p.between q.between p.text q.text p.first q.first in
    let others = tells_one lines p.between q.between p.others q.others a b first.1 p.then_others q.then_others in
    (p.whole ∙ (λ i. first.0 i ∷ others.0 i) ∙ sym q.whole, others.1)
tells_one (line ∷ lines) g h s t a b k (inl p) (inr q) = absurd (first_stays line g h k p.own p.between q.behind p.text q.why p.first q.stops)
tells_one (line ∷ lines) g h s t a b k (inr p) (inl q) = absurd (stop_stays line g h k q.own q.between p.behind q.text p.why p.stops q.first)
tells_one (line ∷ lines) g h s t a b k (inr p) (inr q) =
    let why = stop_one line g h k p.behind q.behind p.why q.why p.stops q.stops in
    (p.nothing ∙ sym q.nothing, p.so ∙ (λ i. Some (why i)) ∙ sym q.so)

reports_one : (lines : List NumberedLine) (g h : Going) (a b : Report) → GoAlike g h → IsReportFrom lines g a → IsReportFrom lines h b → a ≡ b
reports_one lines g h a b k p q =
    let z = tells_one lines g h a.texts b.texts a.stop b.stop k (report_tells lines g a p) (report_tells lines h b q) in
    λ i. record { texts = z.0 i; stop = z.1 i }

-- ---- a script

begins_alike : (script : ScriptLines) (x : Beginning) (lines : List NumberedLine) → beginning_of script ≡ Ok (x, lines) → GoAlike (going_from x) (going_from x)
begins_alike script x lines e =
    let safe = start_safe x.setup (header_taken script x.setup lines (beginning_taken script x lines e)) in
    record { worlds = record { left = safe; right = safe; same = refl }; desks = same_desk x.desk }

abbrev Begun : Type 0
Begun = Result (Beginning × List NumberedLine) PlayFault

pub report_one : (input : List ℕ) (a b : Report) → IsReport input a → IsReport input b → a ≡ b
report_one input a b p q = by_beginning (beginning_of (script_lines input)) refl p q
  where
    by_beginning : (begun : Begun) → beginning_of (script_lines input) ≡ begun → IsReportBehind begun a → IsReportBehind begun b → a ≡ b
    by_beginning (Ok (x, lines)) e p q = reports_one lines (going_from x) (going_from x) a b (begins_alike (script_lines input) x lines e) p q
    by_beginning (Err why) e p q = p ∙ sym q

-- ---- a front of it, and the answer

fronts_one : (front rest : List NumberedLine) (g : Going) (turns : List Turn) (h last : Going) (s t : List (List ℕ)) (stop : Option PlayFault) → GoAlike g h
    → RunAll front g turns last s
    → Tells (front ++ rest) h t stop → (more : List (List ℕ)) × (t ≡ s ++ more)
fronts_one [] rest g turns h last s t stop k (same, none, nothing) q = (t, ap (λ ss. ss ++ t) (sym nothing))
fronts_one (line ∷ front) rest g turns h last s t stop k run (inl q) =
    let first = first_one line g h k run.own q.own run.between q.between run.text q.text run.first q.first in
    let others = fronts_one front rest run.between run.more q.between last run.others q.others stop first.1 run.then_others q.then_others in
    (others.0, q.whole ∙ (λ i. sym first.0 i ∷ others.1 i) ∙ ap (λ ss. ss ++ others.0) (sym run.whole))
fronts_one (line ∷ front) rest g turns h last s t stop k run (inr q) = absurd (first_stays line g h k run.own run.between q.behind run.text q.why run.first q.stops)

pub front_of_one : (input : List ℕ) (texts : List (List ℕ)) (report : Report) → IsFrontOfReport input texts → IsReport input report
    → (more : List (List ℕ)) × (report.texts ≡ texts ++ more)
front_of_one input texts report p q = by_beginning (beginning_of (script_lines input)) refl p q
  where
    by_beginning : (begun : Begun) → beginning_of (script_lines input) ≡ begun → IsFrontBehind begun texts → IsReportBehind begun report
        → (more : List (List ℕ)) × (report.texts ≡ texts ++ more)
    by_beginning (Ok (x, lines)) e p q =
        let tells = subst (λ ls. Tells ls (going_from x) report.texts report.stop) p.whole (report_tells lines (going_from x) report q) in
        fronts_one p.front p.rest (going_from x) p.turns (going_from x) p.last texts report.texts report.stop (begins_alike (script_lines input) x lines e) p.run tells
    by_beginning (Err why) e p q = (report.texts, ap (λ ss. ss ++ report.texts) (sym p))

pub answer_one : (input : List ℕ) (r s : Result PlayEnd PlayFault) → IsAnswer input r → IsAnswer input s → r ≡ s
answer_one input r s p q =
    let same = report_one input p.report q.report p.is q.is in
    p.same ∙ ap (λ (z : Report). answer_by z z.stop) same ∙ sym q.same
