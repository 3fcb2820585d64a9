-- A query over a world at rest is answered whole.
use Rattle.std.proofs.Common.{◌≡◌, ◌<◌, List, [], Ok, false, ◌∙◌, ap}
use Rattle.rt_base.specs.declared.numbers.Partition.{Partition}
use Rattle.rt_macros.specs.Doing.{Reached}
use Rattle.rt_macros.specs.Querying.{Queries}
use Rattle.rt_macros.specs.Settling.{Round}
use Rattle.rt_model.specs.Aggregate.{aggregate}
use Rattle.rt_model.specs.Checked.{IsQuery}
use Rattle.rt_model.specs.RightAnswer.{rows_of}
use Rattle.rt_model.specs.Setup.{IsSetup}
use Rattle.rt_model.specs.declared.answer.Answer.{Answer}
use Rattle.rt_model.specs.declared.query.Query.{Query}
use Rattle.rt_model.specs.declared.setup.Setup.{Setup}
use Rattle.rt_safety.proofs.Later.{runs_are_safe}
use Rattle.rt_safety.specs.Runs.{Turn, Runs}
use Rattle.rt_state.specs.IsSafeWorld.{IsSafeWorld}
use Rattle.rt_state.specs.declared.state.State.{State}
use Rattle.rt_heal.specs.Answered.{IsAnsweredWhole}
use Rattle.rt_heal.specs.AtRest.{AreUp, IsAtRest}
use Rattle.rt_heal.specs.Led.{IsLed}
use Rattle.rt_heal.specs.Mended.{GoesOn, NeedsNoRepair}
use Rattle.rt_heal.specs.Planned.{AreOnline, NoneDropped}
use Rattle.rt_heal.specs.Turned.{NoneHalfRetired}
use Rattle.rt_heal.proofs.Asking.{query_answered}
use Rattle.rt_heal.proofs.Dropped.{dropped_out, leads_told, runs_told}
use Rattle.rt_heal.proofs.Missing.{misses_nothing}
use Rattle.rt_heal.proofs.Online.{are_online}
use Rattle.rt_heal.proofs.Quiet.{round_leaves}
use Rattle.rt_heal.proofs.Ranges.{names_all}
use Rattle.rt_heal.proofs.TurnedRuns.{leads_turned, runs_turned}
use Rattle.rt_heal.proofs.Undropped.{none_dropped}
use Rattle.rt_heal.proofs.Wholes.{unneeding_goes_on}

pub answered_whole : (w : State) → IsSafeWorld w → IsAtRest w → w.store.faults.plan ≡ [] → ((p : Partition) → p.0 < w.setup.partitions → GoesOn w.store.writes p)
    → ((p : Partition) → p.0 < w.setup.partitions → AreOnline w.store.writes p) → ((p : Partition) → p.0 < w.setup.partitions → NoneDropped w p)
    → (query : Query) (v : Reached) (answer : Answer) → IsQuery w.setup.schema query → Queries query w v (Ok answer) → IsAnsweredWhole w query answer
answered_whole w s rest unplanned goes online kept query v answer fits h =
    let k = query_answered w v query answer s fits unplanned h in
    let missing = misses_nothing w s rest goes online kept k.asked k.now answer k.is in
    let ranges = names_all w s rest goes k.asked k.now answer k.is missing in
    record {
      missing = missing;
      ranges = ranges;
      rows = k.rows ∙ ap (λ rs. aggregate query (rows_of w.setup.schema w.log rs)) ranges;
    }

pub after_quiet : (setup : Setup) (turns : List Turn) (w : State) (v : Reached) → IsSetup setup → Runs setup turns w → AreUp w
    → w.store.faults.plan ≡ [] → IsLed w → Round false w v (Ok false)
    → ((p : Partition) → p.0 < v.world.setup.partitions → NeedsNoRepair v.world.setup v.world.store.writes v.world.moment p)
    → ((p : Partition) → p.0 < v.world.setup.partitions → NoneHalfRetired v.world.store.writes p)
    → (query : Query) (x : Reached) (answer : Answer) → IsQuery v.world.setup.schema query → Queries query v.world x (Ok answer)
    → IsAnsweredWhole v.world query answer
after_quiet setup turns w v is run up unplanned led round mended retired query x answer fits asked =
    let r = round_leaves w v (runs_are_safe setup turns w is run) up unplanned led round in
    let safe = runs_are_safe setup turns w is run in
    let turned = leads_turned w r.reached.0 v.world safe (runs_turned setup turns w is run) r.reached.1 in
    let out = leads_told w r.reached.0 v.world safe (runs_told setup turns w is run) r.reached.1 in
    let goes : (p : Partition) → p.0 < v.world.setup.partitions → GoesOn v.world.store.writes p =
    λ p within. unneeding_goes_on v.world p r.safe within (mended p within) in
    answered_whole v.world r.safe r.rest r.unplanned goes
    (λ p within. are_online v.world p r.safe turned within (goes p within) (retired p within)) (none_dropped v.world r.safe r.rest (dropped_out v.world out))
    query x answer fits asked
