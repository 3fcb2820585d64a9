-- What the lines of a script tell of commits agrees with one range of each segment.
use Rattle.std.proofs.Common.{◌≡◌, ◌<◌, ◌≤◌, ◌==◌, ◌||◌, ℕ, true, false, List, [], ◌∷◌, ◌++◌, Option, Some, None, Ok, nat_lt, refl, sym, ◌∙◌, ap, subst, arith, ⊎_elim}
use Rattle.std.specs.Prelude.{Bool, IfSome}
use Rattle.rt_base.specs.declared.numbers.ControllerId.{ControllerId}
use Rattle.rt_base.specs.declared.numbers.Instance.{Instance}
use Rattle.rt_base.specs.declared.numbers.Partition.{Partition}
use Rattle.rt_base.specs.declared.numbers.Sequence.{Sequence}
use Rattle.rt_desk.specs.Saying.{EventLineTold, EventTold, LineTold, MacroTold, UnlessHeld, held_by}
use Rattle.rt_desk.specs.Telling.{Counts, told}
use Rattle.rt_desk.specs.declared.desk.Desk.{Desk}
use Rattle.rt_events.specs.Fits.{Fits}
use Rattle.rt_events.specs.declared.event.Event.{Event}
use Rattle.rt_events.specs.declared.event.Event.TheVariants as event
use Rattle.rt_events.specs.declared.outcome.Outcome.{Outcome}
use Rattle.rt_events.specs.declared.outcome.Outcome.TheVariants as came
use Rattle.rt_lines.specs.Header.{NumberedLine}
use Rattle.rt_lists.proofs.Members.{Has-front}
use Rattle.rt_macros.specs.Doing.{EachFrom, Gives, Happens, Reached, reached}
use Rattle.rt_macros.specs.Filling.{FillTold, Fills, FillsOne, TellsLength, numbered_text}
use Rattle.rt_model.specs.Lawful.{IsLawfulHistory}
use Rattle.rt_model.specs.Setup.{IsSetup}
use Rattle.rt_model.specs.Tiled.{mark_of}
use Rattle.rt_model.specs.declared.setup.Setup.{Setup}
use Rattle.rt_play.proofs.EventNotes.{noted, tells}
use Rattle.rt_play.proofs.ExchangeLines.{TellsExchange, exchange_told}
use Rattle.rt_play.proofs.BesideKept.{beside_keeps, counts_keeps, further_keeps}
use Rattle.rt_play.proofs.JobsKept.{Works, exchange_works, force_works, passing_works, settle_works}
use Rattle.rt_play.proofs.Keeping.{Keeps, choose_keeps, each_from_keeps, passed_keeps, stay_keeps, then_keeps}
use Rattle.rt_play.proofs.Known.{IsKnown, known_committed}
use Rattle.rt_play.proofs.Leading.{leads_then}
use Rattle.rt_play.proofs.LineReads.{beside, same_told, was_then}
use Rattle.rt_play.proofs.Noted.{Holds, WasCommitted, job_kept, lie_below, stays_and_more, stays_and_posted, stays_with_jobs}
use Rattle.rt_play.proofs.NotedAnswers.{names_so}
use Rattle.rt_play.proofs.Pairing.{paired}
use Rattle.rt_play.proofs.QueryLines.{query_answer}
use Rattle.rt_play.proofs.Ranged.{AreRanged, are_ranged, range_in}
use Rattle.rt_play.proofs.ScriptRuns.{line_leads, lines_lead}
use Rattle.rt_play.proofs.TellingWords.{fits_words}
use Rattle.rt_play.specs.Beginning.{going_from}
use Rattle.rt_play.specs.Going.{Going}
use Rattle.rt_play.specs.Ledger.{AllTellSo, CommitsStay, IsTold, LineTells, Marks, Notes, Ranges, Segment, Working, committed_if, event_noted, exchange_noted, exchange_posted, is_success_status, knows_commit, no_notes}
use Rattle.rt_play.specs.Report.{FrontRuns, RunAll, Runs as LineRuns, said_at}
use Rattle.rt_play.specs.declared.beginning.Beginning.{Beginning}
use Rattle.rt_report.specs.BrokerTexts.{noquery_text}
use Rattle.rt_report.specs.Outcome.{outcome_text}
use Rattle.rt_safety.proofs.Later.{committed_stays, leads_on, runs_are_safe}
use Rattle.rt_safety.proofs.Marks.{mark_stays}
use Rattle.rt_safety.specs.GoesOn.{GoesOn}
use Rattle.rt_safety.specs.Runs.{Runs, Turn}
use Rattle.rt_script.proofs.LinesFit.{line_fits}
use Rattle.rt_script.specs.Line.{FitsLine, line_in}
use Rattle.rt_script.specs.declared.line.Line.{Line}
use Rattle.rt_script.specs.declared.line.Line.TheVariants as line
use Rattle.rt_script.specs.declared.line.Macro.TheVariants as macro
use Rattle.rt_state.specs.IsSafeWorld.{IsSafeWorld}
use Rattle.rt_state.specs.Start.{start}
use Rattle.rt_state.specs.declared.state.State.{State}
use Rattle.rt_store.specs.Contents.{starting_of}
use Rattle.rt_world.specs.Reading.{length_of}
use Rattle.rt_world.specs.Step.{Steps}

-- ---- a line

-- what a line tells, where all that is said behind it follows from what is then noted
abbrev Says : Ranges → State → State → Notes → Option Line → List ℕ → Type 1
Says ranges w v notes said text =
    (later : Notes → Type 0) → ((more : Notes) → Holds ranges v more → later more) → LineTells w.setup ranges (mark_of w.store.writes) notes said text later

-- a segment alone
abbrev only : Partition → Sequence → List Segment
only p q = record { partition = p; sequence = q } ∷ []

-- an event's text is that of its outcome
event_text : (e : Event) (text : List ℕ) (o : Outcome) → text ≡ outcome_text e o → IsTold e text o
event_text (event.Consume i p q max) text o same = tt
event_text e text o same = same

-- nothing happens in place of a `consume` that is held
held_says : (ranges : Ranges) (w : State) (notes : Notes) (e : Event) (paused : Bool) (text : List ℕ) (at : Instance × Partition × Sequence) → held_by w paused e ≡ Some at
    → Holds ranges w notes → Says ranges w w notes (Some (line.Event e)) text
held_says ranges w notes (event.Consume i p q max) paused text at held k =
    λ later f. record { outcome = came.Noted; told = tt; paired = tt; words = tt; so = tt; behind = f notes k }
held_says ranges w notes e paused text at held k = absurd (cc)

-- ---- a fill

abbrev SameControllers : State → State → Type 0
SameControllers w u = u.controllers ≡ w.controllers

fill_one : (w : State) (p : Partition) (n : ℕ) → Keeps (SameControllers w) (FillsOne p n tt)
fill_one w p n u v r k h =
    passed_keeps (SameControllers w) (event.Produce p (numbered_text (length_of u p)))
    (λ x y o at steps. ap (λ (z : State × Outcome). z.0.controllers) steps.2 ∙ at) u v r k h

fills : (w : State) (p : Partition) (count : ℕ) → Keeps (SameControllers w) (Fills p count)
fills w p count u v r k h =
    choose_keeps (SameControllers w) u (nat_lt p.0 u.setup.partitions) _ _
    (choose_keeps (SameControllers w) u (count == 0) _ _
    (λ y q g. stay_keeps (SameControllers w) u y k g.0)
    (λ y q g. then_keeps (SameControllers w) (EachFrom (FillsOne p) 0 count tt) (TellsLength p)
    (each_from_keeps (SameControllers w) (FillsOne p) 0 count tt (λ n s. fill_one w p n)) (λ s x z t at gives. stay_keeps (SameControllers w) x z at gives.0) u y q k g))
    (λ y q g. stay_keeps (SameControllers w) u y k g.0) v r h

fill_keeps : (w : State) (p : Partition) (count : ℕ) → Keeps (SameControllers w) (FillTold p count)
fill_keeps w p count =
    then_keeps (SameControllers w) (Fills p count) (λ length. Gives _) (fills w p count) (λ length u v r k h. stay_keeps (SameControllers w) u v k h.0)

-- ---- any line

module _ (ranges : Ranges) (w : State) (notes : Notes) (safe : IsSafeWorld w) (k : Holds ranges w notes) where
  of_world : (u v : State) (said : Option Line) (text : List ℕ) → v ≡ u → Says ranges w u notes said text → Says ranges w v notes said text
  of_world u v said text same s = subst (λ (x : State). Says ranges w x notes said text) (sym same) s

  event_says : (e : Event) (u : Reached) (text : List ℕ) → Fits w.setup.schema e → GoesOn w u.world → AreRanged (starting_of u.world.setup) u.world.store.writes ranges
      → EventTold e w u (Ok text) → Says ranges w u.world notes (Some (line.Event e)) text
  event_says e u text fits goes ranged h =
      let t = was_then (Happens e) (λ outcome. Gives (outcome_text e outcome)) w u text h in
      let same : u.world ≡ t.between.world = ap (λ (x : Reached). x.world) t.whole ∙ ap (λ (x : Reached). x.world) t.further.0 in
      let steps : Steps w e u.world (Ok t.told) = subst (λ (x : State). Steps w e x (Ok t.told)) (sym same) t.came.by.0 in
      λ later f. record {
        outcome = t.told;
        told = event_text e text t.told (same_told text (outcome_text e t.told) t.further.1);
        paired = paired w u.world e t.told steps;
        words = fits_words w u.world e t.told safe fits steps;
        so = tells ranges w u.world notes safe goes ranged k e t.told steps;
        behind = f (event_noted e t.told notes) (noted ranges w u.world notes safe goes ranged k e t.told fits steps);
      }

  unless_says : (o : Option (Instance × Partition × Sequence)) (e : Event) (paused : Bool) (u : Reached) (text : List ℕ) → Fits w.setup.schema e → GoesOn w u.world
      → AreRanged (starting_of u.world.setup) u.world.store.writes ranges → held_by w paused e ≡ o → UnlessHeld o e w u (Ok text)
      → Says ranges w u.world notes (Some (line.Event e)) text
  unless_says None e paused u text fits goes ranged held h = event_says e u text fits goes ranged h
  unless_says (Some at) e paused u text fits goes ranged held h =
      of_world w u.world (Some (line.Event e)) text (ap (λ (x : Reached). x.world) h.0) (held_says ranges w notes e paused text at held k)

  -- where each known job goes on, all that was noted holds
  holds_on : (v : State) → GoesOn w v → ((x : Working) → Works x w → Works x v) → Holds ranges v notes
  holds_on v goes f = stays_with_jobs ranges w v notes goes (λ x has at. (f x (record { safe = safe; at = at })).at) k

  exchange_says : (i : Instance) (p : Partition) (q : Sequence) (c : ControllerId) (v : State) (text : List ℕ) → Holds ranges v notes
      → AreRanged (starting_of v.setup) v.store.writes ranges → TellsExchange v p q text → Says ranges w v notes (Some (line.Macro (macro.Exchange i p q c))) text
  exchange_says i p q c v text holds ranged t later f =
      let x = t.exchanged in
      record {
        request = x.request;
        reply = x.reply;
        status = x.status;
        stands = x.state;
        told = t.told;
        word = t.word;
        behind =
            f (exchange_noted p q x.request x.status x.state notes)
            (by_test (exchange_posted p q x.request notes) (stays_and_posted ranges v notes p q x.request holds t.posted) (is_success_status x.status) (knows_commit x.state)
            t.success t.knows);
      }
    where
      more : (now : Notes) → Holds ranges v now → IsKnown v p q → Holds ranges v (record now { committed = only p q ++ now.committed })
      more now holds known =
          stays_and_more ranges v now (only p q) holds
          (λ s has. ⊎_elim (λ same. subst (WasCommitted ranges v) same (known_committed ranges v p q ranged known)) (λ none. absurd none) has)

      by_test : (now : Notes) → Holds ranges v now → (a b : Bool) → (a ≡ true → IsKnown v p q) → (b ≡ true → IsKnown v p q)
          → Holds ranges v (committed_if (a || b) p q now)
      by_test now holds true b success knows = more now holds (success refl)
      by_test now holds false true success knows = more now holds (knows refl)
      by_test now holds false false success knows = holds

  line_says : (said : Line) (desk after : Desk) (v : Reached) (text : List ℕ) → FitsLine w.setup.schema said → GoesOn w v.world
      → AreRanged (starting_of v.world.setup) v.world.store.writes ranges → LineTold said desk w v (Ok (told after text)) → Says ranges w v.world notes (Some said) text
  line_says (line.Event e) desk after v text fits goes ranged h =
      let b = beside (EventLineTold desk.pause e) desk after w v text h in
      of_world b.between.world v.world (Some (line.Event e)) text b.same
      (unless_says (held_by w desk.pause e) e desk.pause b.between text fits (subst (GoesOn w) b.same goes)
      (subst (λ (x : State). AreRanged (starting_of x.setup) x.store.writes ranges) b.same ranged) refl b.came)
  line_says (line.Macro (macro.Query query)) desk after v text fits goes ranged h =
      let b = beside (MacroTold desk.pause (macro.Query query)) desk after w v text h in
      let a = query_answer query w b.between text safe fits b.came in
      let same = ap (λ (x : State). x.controllers) b.same ∙ a.found.kept in
      λ later f. record {
        answer = a.answer;
        told = a.told;
        words = a.found.words;
        so = names_so ranges w b.between.world notes a.answer safe k a.found;
        behind = f notes (stays_with_jobs ranges w v.world notes goes (λ x has at. job_kept w v.world x goes same at) k);
      }
  line_says (line.Macro (macro.Fill p count)) desk after v text fits goes ranged h =
      let b = beside (MacroTold desk.pause (macro.Fill p count)) desk after w v text h in
      let same = ap (λ (x : State). x.controllers) b.same ∙ fill_keeps w p count w b.between (Ok text) refl b.came in
      λ later f. f notes (stays_with_jobs ranges w v.world notes goes (λ x has at. job_kept w v.world x goes same at) k)
  line_says (line.Macro (macro.Exchange i p q c)) desk after v text fits goes ranged h =
      let b = beside (MacroTold desk.pause (macro.Exchange i p q c)) desk after w v text h in
      let tells = exchange_told i p q c w b.between text safe b.came in
      exchange_says i p q c v.world text
      (holds_on v.world goes
      (λ x on. beside_keeps (Works x) desk (MacroTold desk.pause (macro.Exchange i p q c)) (exchange_works x i p q c) w v (Ok (told after text)) on h))
      ranged (subst (λ (x : State). TellsExchange x p q text) (sym b.same) tells)
  line_says (line.Macro (macro.Settle rounds)) desk after v text fits goes ranged h = λ later f.
      f notes
      (holds_on v.world goes
      (λ x on. beside_keeps (Works x) desk (MacroTold desk.pause (macro.Settle rounds)) (settle_works x desk.pause rounds) w v (Ok (told after text)) on h))
  line_says (line.NoQuery number) desk after v text fits goes ranged h = λ later f.
      f notes
      (holds_on v.world goes
      (λ x on. beside_keeps (Works x) desk (Counts (noquery_text number)) (counts_keeps (Works x) (passing_works x) (noquery_text number)) w v (Ok (told after text)) on h))
  line_says (line.Further further) desk after v text fits goes ranged h = λ later f.
      f notes
      (holds_on v.world goes (λ x on. further_keeps (Works x) (passing_works x) (force_works x) further desk w v (Ok (told after text)) on h))

said_says : (ranges : Ranges) (o : Option Line) (g : Going) (turns : List Turn) (h : Going) (text : List ℕ) (notes : Notes) → IsSafeWorld g.world
    → Holds ranges g.world notes → IfSome o (FitsLine g.world.setup.schema) → GoesOn g.world h.world → AreRanged (starting_of h.world.setup) h.world.store.writes ranges
    → LineRuns o g turns h text → Says ranges g.world h.world notes o text
said_says ranges None g turns h text notes safe k fits goes ranged run = absurd run
said_says ranges (Some said) g turns h text notes safe k fits goes ranged run =
    line_says ranges g.world notes safe k said g.desk h.desk (reached turns h.world) text fits goes ranged run

-- ---- all lines

module _ (setup : Setup) (is : IsSetup setup) (ranges : Ranges) where
  -- what holds of the Done writes of a later world does of those of an earlier one
  ranged_before : (w v : State) → w.setup ≡ setup → GoesOn w v → AreRanged (starting_of setup) v.store.writes ranges
      → AreRanged (starting_of w.setup) w.store.writes ranges
  ranged_before w v same goes ranged =
      subst (λ (s : Setup). AreRanged (starting_of s) w.store.writes ranges) (sym same)
      (λ p q write within has of done. ranged p q write within (Has-front w.store.writes v.store.writes write goes.past.history has) of done)

  lines_say : (lines rest : List NumberedLine) (before : List Turn) (g : Going) (turns : List Turn) (h : Going) (texts : List (List ℕ)) (marks : Marks) (notes : Notes)
      → Runs setup before g.world → g.world.setup ≡ setup → ((p : Partition) → p.0 < setup.partitions → marks p ≤ mark_of g.world.store.writes p)
      → Holds ranges g.world notes → RunAll lines g turns h texts → AreRanged (starting_of setup) h.world.store.writes ranges
      → AllTellSo setup ranges marks notes (lines ++ rest) texts
  lines_say [] rest before g turns h texts marks notes started same low k run ranged = subst (AllTellSo setup ranges marks notes rest) (sym run.2) tt
  lines_say (first ∷ lines) rest before g turns h texts marks notes started same low k run ranged =
      let safe = runs_are_safe setup before g.world is started in
      let led = line_leads first g run.own run.between run.text run.first in
      let goes = leads_on g.world run.own run.between.world safe led in
      let now = leads_then before run.own (start setup) g.world run.between.world started led in
      let next = runs_are_safe setup (before ++ run.own) run.between.world is now in
      let same_then : run.between.world.setup ≡ setup = goes.setup ∙ same in
      let further = leads_on run.between.world run.more h.world next (lines_lead lines run.between run.more h run.others run.then_others) in
      let said : said_at g first ≡ line_in setup first.1 = ap (λ (s : Setup). line_in s first.1) same in
      let within : (p : Partition) → p.0 < setup.partitions → p.0 < g.world.setup.partitions = λ p lt. subst (λ (s : Setup). p.0 < s.partitions) (sym same) lt in
      let here : Marks = mark_of g.world.store.writes in
      let says = said_says ranges (said_at g first) g run.own run.between run.text notes safe k
      (line_fits g.world.setup.schema g.world.setup.table.name first.1) goes (ranged_before run.between.world h.world same_then further ranged) run.first in
      let later : Notes → Type 0 = λ more. AllTellSo setup ranges here more (lines ++ rest) run.others in
      let told = says later
      (λ more holds. lines_say lines rest (before ++ run.own) run.between run.more h run.others here more now same_then
      (λ p lt. (committed_stays g.world run.own run.between.world p safe (within p lt) led).mark) holds run.then_others ranged) in
      subst (AllTellSo setup ranges marks notes (first ∷ (lines ++ rest))) (sym run.whole)
      (record {
        now = here;
        rise = low;
        first = λ p lt none. mark_stays setup before g.world p is none started (within p lt);
        below = lie_below ranges g.world notes safe k;
        so =
            subst (λ (o : Option Line). LineTells setup ranges here notes o run.text later) said
            (subst (λ (s : Setup). LineTells s ranges here notes (said_at g first) run.text later) same told);
      })

-- nothing was noted before the first line
none_noted : (ranges : Ranges) (w : State) → Holds ranges w no_notes
none_noted ranges w = record { requests = λ x has. absurd has; jobs = λ x has. absurd has; committed = λ s has. absurd has; deleted = λ s has. absurd has }

pub front_commits : (beginning : Beginning) (lines : List NumberedLine) (texts : List (List ℕ)) → IsSetup beginning.setup → FrontRuns lines (going_from beginning) texts
    → CommitsStay beginning.setup lines texts
front_commits beginning lines texts is front =
    let setup = beginning.setup in
    let first = going_from beginning in
    let led = lines_lead front.front first front.turns front.last texts front.run in
    let safe = runs_are_safe setup front.turns front.last.world is led in
    let same = (leads_on (start setup) front.turns front.last.world (runs_are_safe setup [] (start setup) is refl) led).setup in
    let h = front.last.world.store.writes in
    let ranged = are_ranged (starting_of setup) h (subst (λ (s : Setup). IsLawfulHistory (starting_of s) h) same safe.safe.past.lawful) in
    record {
      ranges = range_in h;
      all =
          subst (λ ls. AllTellSo setup (range_in h) (λ p. 0) no_notes ls texts) (sym front.whole)
          (lines_say setup is (range_in h) front.front front.rest [] first front.turns front.last texts (λ p. 0) no_notes refl refl (λ p lt. omega arith)
          (none_noted (range_in h) (start setup)) front.run ranged);
    }

pub none_told : (setup : Setup) (lines : List NumberedLine) (texts : List (List ℕ)) → texts ≡ [] → CommitsStay setup lines texts
none_told setup lines texts e = record { ranges = range_in []; all = subst (AllTellSo setup (range_in []) (λ p. 0) no_notes lines) (sym e) tt }
