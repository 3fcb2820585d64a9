-- The turns of a generated run are a run of its cluster.
use Rattle.std.proofs.Common.{◌≡◌, ◌%◌, ℕ, false, List, Option, Some, None, Result, refl}
use Rattle.rt_desk.proofs.Reaching.{Allowance, Goes, each_from_goes, gives_goes, leads_by, passed_goes, refuses_goes, then_goes}
use Rattle.rt_desk.proofs.ReachingMacros.{query_goes, settles_goes}
use Rattle.rt_events.specs.declared.event.Event.TheVariants.{Produce}
use Rattle.rt_events.specs.declared.refusal.Refusal.{Refusal}
use Rattle.rt_events.specs.declared.refusal.Refusal.TheVariants.{NothingToDo}
use Rattle.rt_macros.specs.Doing.{Gives, Passed, Reached, Then}
use Rattle.rt_macros.specs.Settling.{Settles}
use Rattle.rt_macros.specs.declared.settling.TheConstants.{MOST_ROUNDS}
use Rattle.rt_model.specs.Checked.{IsQuery}
use Rattle.rt_model.specs.declared.query.Query.{Query}
use Rattle.rt_model.specs.declared.setup.Setup.{Setup}
use Rattle.rt_play.proofs.OneGenerated.{said_fits}
use Rattle.rt_play.specs.Generating.{Asks, AsksQuery, ProducesRow, ProducesRows, RunsGenerated, generated_query, next_number, query_said, row_text}
use Rattle.rt_play.specs.declared.generating.Generated.{Generated}
use Rattle.rt_safety.specs.Runs.{Leads}
use Rattle.rt_script.specs.Line.{line_in}
use Rattle.rt_script.proofs.LinesFit.{line_fits}
use Rattle.rt_state.specs.Start.{start}
use Rattle.rt_state.specs.declared.state.State.{State}

-- any turn is allowed
abbrev anything : Allowance
anything = record { turn = λ w turn. Unit {0}; calm = λ w e outcome calm. tt; line = λ w. tt }

row_goes : (partitions at x : ℕ) (w : State) → Goes anything w (ProducesRow partitions at x w)
row_goes partitions at x w =
    let comes = Produce (record { 0 = at % partitions }) (row_text (next_number x)) in
    then_goes anything (Passed comes) (λ done. Gives (next_number x)) w (passed_goes anything comes w tt (λ outcome. tt)) (λ done u. gives_goes anything (next_number x) u)

rows_go : (asked : Generated) (w : State) → Goes anything w (ProducesRows asked w)
rows_go asked w = each_from_goes anything (ProducesRow asked.partitions) 0 asked.rows asked.seed w (λ at x u. row_goes asked.partitions at x u)

asks_query_goes : (o : Option Query) (w : State) → ((query : Query) → o ≡ Some query → IsQuery w.setup.schema query) → Goes anything w (AsksQuery o w)
asks_query_goes (Some query) w fits = query_goes anything query w (fits query refl) (λ outcome. tt)
asks_query_goes None w fits = refuses_goes anything NothingToDo w

asks_go : (text : List ℕ) (w : State) → Goes anything w (AsksQuery (query_said (line_in w.setup text)) w)
asks_go text w =
    asks_query_goes (query_said (line_in w.setup text)) w
    (λ query e. said_fits w.setup.schema (line_in w.setup text) query (line_fits w.setup.schema w.setup.table.name text) e)

runs_go : (rounds : ℕ) (asked : Generated) (w : State) → Goes anything w (Then (ProducesRows asked) (λ x. Then (Settles false rounds) (λ quiet. Asks)) w)
runs_go rounds asked w =
    then_goes anything (ProducesRows asked) (λ x. Then (Settles false rounds) (λ quiet. Asks)) w (rows_go asked w)
    (λ x u. then_goes anything (Settles false rounds) (λ quiet. Asks) u (settles_goes anything false rounds u (λ i segment max z ready outcome. tt))
    (λ quiet z. asks_go generated_query z))

pub generated_leads : (asked : Generated) (setup : Setup) (last : Reached) (told : Result (List ℕ) Refusal) → RunsGenerated asked (start setup) last told
    → Leads (start setup) last.turns last.world
generated_leads asked setup last told run =
    leads_by anything.turn last.turns (start setup) last.world (runs_go MOST_ROUNDS asked (start setup) last told run)
