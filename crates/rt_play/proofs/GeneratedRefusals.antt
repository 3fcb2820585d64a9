-- A generated run is refused by a limit alone.
use Rattle.std.proofs.Common.{◌≡◌, ◌%◌, ◌≤◌, ◌<◌, ◌⊎◌, ◌&&◌, inl, inr, ℕ, Bool, true, false, cond, [], List, Option, Some, None, Result, Ok, Err, nat_le, length, refl, sym, ◌∙◌, ap, subst, arith}
use Rattle.std.proofs.lemmas.Bool.{and_parts, leb-true, lt-ltb}
use Rattle.std.proofs.lemmas.Nat.{mod_below}
use Rattle.rt_base.specs.declared.limits.TheConstants.{MOST_PARTITIONS, MOST_ROWS}
use Rattle.rt_base.specs.declared.numbers.Partition.{Partition}
use Rattle.rt_base.specs.declared.which.Which.{Which}
use Rattle.rt_base.specs.declared.which.Which.TheVariants.{Partitions, Rows}
use Rattle.rt_events.specs.declared.event.Event.{Event}
use Rattle.rt_events.specs.declared.event.Event.TheVariants.{Produce}
use Rattle.rt_events.specs.declared.refusal.Refusal.{Refusal}
use Rattle.rt_events.specs.declared.refusal.Refusal.TheVariants as refusal
use Rattle.rt_lines.proofs.Headers.{header_taken}
use Rattle.rt_lines.specs.Header.{header_of}
use Rattle.rt_lines.specs.Lines.{script_lines}
use Rattle.rt_lines.specs.declared.play_fault.PlayFault.{PlayFault}
use Rattle.rt_lines.specs.declared.play_fault.PlayFault.TheVariants.{Limit}
use Rattle.rt_macros.specs.Doing.{Act, EachFrom, Gives, Passed, Reached, Then}
use Rattle.rt_macros.specs.Querying.{Queries}
use Rattle.rt_macros.specs.Settling.{Settles}
use Rattle.rt_macros.specs.declared.settling.TheConstants.{MOST_ROUNDS}
use Rattle.rt_model.specs.Checked.{IsQuery}
use Rattle.rt_model.specs.Setup.{IsSetup}
use Rattle.rt_model.specs.declared.query.Query.{Query}
use Rattle.rt_model.specs.declared.setup.Setup.{Setup}
use Rattle.rt_play.proofs.GeneratedHeader.{header_read, query_read, the_setup}
use Rattle.rt_play.proofs.OneGenerated.{said_fits}
use Rattle.rt_play.specs.Generating.{Asks, AsksQuery, IsGenerated, IsGeneratedBy, ProducesRow, RunsGenerated, generated_query, header_text, next_number, query_said, report_by, row_text, setup_read}
use Rattle.rt_play.specs.Report.{Report, stopped}
use Rattle.rt_play.specs.declared.generating.Generated.{Generated}
use Rattle.rt_report.specs.BrokerTexts.{answer_line}
use Rattle.rt_safety.proofs.Later.{runs_are_safe}
use Rattle.rt_script.proofs.LinesFit.{line_fits}
use Rattle.rt_script.specs.Line.{line_in}
use Rattle.rt_state.specs.Finding.{has_partition}
use Rattle.rt_state.specs.Room.{message_cost, only_if, priced}
use Rattle.rt_state.specs.Start.{start}
use Rattle.rt_state.specs.declared.state.State.{State}
use Rattle.rt_unrefused.proofs.Exchanging.{IsIn, then_in}
use Rattle.rt_unrefused.proofs.Goes.{GoesTo, each_from_to, gives_to, passed_to, then_to}
use Rattle.rt_unrefused.proofs.Only.{Only, only_dropped, only_met, only_priced}
use Rattle.rt_unrefused.proofs.Querying.{queries_to}
use Rattle.rt_unrefused.proofs.Settling.{settles_to}
use Rattle.rt_unrefused.specs.Refused.{IsLimit}
use Rattle.rt_world.specs.Step.{due_of}

-- ---- the run, in the cluster of the header

module _ (s : Setup) where
  abbrev In : {A : Type 0} → A → State → Type 0
  In x u = IsIn s u

  -- so many rows, from one on
  abbrev Rows_from : ℕ → ℕ → ℕ → Act ℕ
  Rows_from first count x w = EachFrom (ProducesRow s.partitions) first count x w

  row_goes : (at x : ℕ) (u : State) → 1 ≤ s.partitions → IsIn s u → Only IsLimit (due_of u (Produce (record { 0 = at % s.partitions }) (row_text (next_number x))))
  row_goes at x u some k =
      let p : Partition = record { 0 = at % s.partitions } in
      let price = priced u (message_cost (length (row_text (next_number x)))) in
      let within : has_partition u p ≡ true =
      lt-ltb p.0 u.setup.partitions (subst (λ (y : Setup). p.0 < y.partitions) (sym k.setup) (mod_below at s.partitions (omega (arith, some)))) in
      only_dropped IsLimit (only_if (has_partition u p) refusal.NoSuchNode price)
      (only_met IsLimit (has_partition u p) refusal.NoSuchNode price within (only_priced u (message_cost (length (row_text (next_number x))))))

  row_to : (at x : ℕ) (u : State) → 1 ≤ s.partitions → IsIn s u → GoesTo (In {A = ℕ}) (ProducesRow s.partitions at x u)
  row_to at x u some k =
      let comes : Event = Produce (record { 0 = at % s.partitions }) (row_text (next_number x)) in
      then_to (In {A = Unit {0}}) (In {A = ℕ}) (Passed comes) (λ done. Gives (next_number x)) u
      (passed_to (IsIn s) comes u (row_goes at x u some k) (λ v o steps. then_in s u v comes o k tt steps))
      (λ done v l. gives_to (In {A = ℕ}) (next_number x) v l)

  rows_to : (count x : ℕ) (u : State) → 1 ≤ s.partitions → IsIn s u → GoesTo (In {A = ℕ}) (Rows_from 0 count x u)
  rows_to count x u some k =
      each_from_to (λ n. In {A = ℕ}) (ProducesRow s.partitions) 0 count x count u (omega arith) k (λ n y v lt l. row_to n y v some l)

  query_to : (query : Query) (u : State) → IsIn s u → IsQuery u.setup.schema query → GoesTo (In {A = List ℕ}) (AsksQuery (Some query) u)
  query_to query u k fits =
      then_to (λ answer v. IsIn u.setup v) (In {A = List ℕ}) (Queries query) (λ answer. Gives (answer_line answer)) u (queries_to query u k.safe fits)
      (λ answer v l. gives_to (In {A = List ℕ}) (answer_line answer) v (record { safe = l.safe; setup = l.setup ∙ k.setup }))

  asks_to : (query : Query) (u : State) → query_said (line_in s generated_query) ≡ Some query → IsIn s u → GoesTo (In {A = List ℕ}) (Asks u)
  asks_to query u said k =
      let here : query_said (line_in u.setup generated_query) ≡ Some query = ap (λ (y : Setup). query_said (line_in y generated_query)) k.setup ∙ said in
      subst (λ (o : Option Query). GoesTo (In {A = List ℕ}) (AsksQuery o u)) (sym here)
      (query_to query u k (said_fits u.setup.schema (line_in u.setup generated_query) query (line_fits u.setup.schema u.setup.table.name generated_query) here))

  run_to : (rounds rows seed : ℕ) (query : Query) (u : State) → 1 ≤ rounds → rounds ≤ MOST_ROUNDS → 1 ≤ s.partitions
      → query_said (line_in s generated_query) ≡ Some query → IsIn s u
      → GoesTo (In {A = List ℕ}) (Then (Rows_from 0 rows seed) (λ x. Then (Settles false rounds) (λ quiet. Asks)) u)
  run_to rounds rows seed query u most few some said k =
      then_to (In {A = ℕ}) (In {A = List ℕ}) (Rows_from 0 rows seed) (λ x. Then (Settles false rounds) (λ quiet. Asks)) u (rows_to rows seed u some k)
      (λ x v l.
      then_to (λ b y. IsIn v.setup y) (In {A = List ℕ}) (Settles false rounds) (λ quiet. Asks) v (settles_to false rounds v l.safe most few)
      (λ quiet y m. asks_to query y said (record { safe = m.safe; setup = m.setup ∙ l.setup })))

-- ---- its report

-- it is told whole, or it stops at a limit
abbrev EndsWell : Report → Type 0
EndsWell report = (report.stop ≡ None) ⊎ ((which : Which) × (report.stop ≡ Some (Limit which)))

limit_stops : (which : Which) (report : Report) → report ≡ stopped (Limit which) → EndsWell report
limit_stops which report e = inr (which, ap (λ (r : Report). r.stop) e)

refused_by : (partitions : ℕ) (w : State) (why : Refusal) (report : Report) → IsLimit why → report ≡ report_by partitions w (Err why) → EndsWell report
refused_by partitions w (refusal.Limit which) report k e = limit_stops which report e
refused_by partitions w refusal.NoSuchMessage report k e = absurd k
refused_by partitions w refusal.NoSuchNode report k e = absurd k
refused_by partitions w refusal.NodeDown report k e = absurd k
refused_by partitions w refusal.NothingToDo report k e = absurd k
refused_by partitions w refusal.Memory report k e = absurd k

told_well : (partitions : ℕ) (w : State) (told : Result (List ℕ) Refusal) (report : Report) → ((why : Refusal) → told ≡ Err why → IsLimit why)
    → report ≡ report_by partitions w told → EndsWell report
told_well partitions w (Ok answer) report f e = inl (ap (λ (r : Report). r.stop) e)
told_well partitions w (Err why) report f e = refused_by partitions w why report (f why refl) e

-- the cluster of the header, for a number of partitions that it may have
abbrev read_so : ℕ → Result Setup PlayFault
read_so n = setup_read (header_of (script_lines (header_text n)))

module _ (asked : Generated) (some : 1 ≤ asked.partitions) (few : asked.partitions ≤ 64) where
  abbrev n : ℕ
  n = asked.partitions

  read_is : read_so n ≡ Ok (the_setup n)
  read_is = ap setup_read (header_read n some few)

  is_setup : IsSetup (the_setup n)
  is_setup = header_taken (script_lines (header_text n)) (the_setup n) [] (header_read n some few)

  run_limited : (last : Reached) (why : Refusal) → RunsGenerated asked (start (the_setup n)) last (Err why) → IsLimit why
  run_limited last why run =
      let query = query_read n in
      run_to (the_setup n) MOST_ROUNDS asked.rows asked.seed query.0 (start (the_setup n)) (omega arith) (omega arith) some query.1
      (record { safe = runs_are_safe (the_setup n) [] (start (the_setup n)) is_setup refl; setup = refl }) last (Err why) run

  ends_well : (report : Report) → IsGeneratedBy asked (Ok (the_setup n)) report → EndsWell report
  ends_well report g =
      told_well n g.last.world g.told report
      (λ why is. run_limited g.last why (subst (λ t. RunsGenerated asked (start (the_setup n)) g.last t) is g.run)) g.same

pub generated_ends : (asked : Generated) (report : Report) → IsGenerated asked report → EndsWell report
generated_ends asked report is =
    by_tests (nat_le 1 asked.partitions && nat_le asked.partitions MOST_PARTITIONS) (nat_le asked.rows MOST_ROWS) refl is
  where
    by_tests : (b c : Bool) → (nat_le 1 asked.partitions && nat_le asked.partitions MOST_PARTITIONS) ≡ b
        → IsGeneratedBy asked (cond b (cond c (read_so asked.partitions) (Err (Limit Rows))) (Err (Limit Partitions))) report → EndsWell report
    by_tests true true e g =
        let parts = and_parts (nat_le 1 asked.partitions) (nat_le asked.partitions MOST_PARTITIONS) e in
        let some = leb-true 1 asked.partitions parts.0 in
        let few = leb-true asked.partitions 64 parts.1 in
        ends_well asked some few report (subst (λ (r : Result Setup PlayFault). IsGeneratedBy asked r report) (read_is asked some few) g)
    by_tests true false e g = limit_stops Rows report g
    by_tests false c e g = limit_stops Partitions report g
