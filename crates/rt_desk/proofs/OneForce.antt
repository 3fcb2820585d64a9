-- The forces of a line are one, and so is what is told of force jobs.
use Rattle.std.proofs.Common.{ℕ, true, false, List, [], ◌∷◌, ◌++◌, length, Option, Some, None, Result, Ok, Err, refl, ap, slice_get}
use Rattle.rt_desk.specs.Forcing.{AfterForce, ForceCommitTold, ForcesAll, ForcesOne, ForceStatusTold, GivesPending, Jobs, Noted, PauseTold, ResumeTold, StatusBy, nodes_in, with_job}
use Rattle.rt_desk.specs.Telling.{changed}
use Rattle.rt_desk.proofs.OneTelling.{Equal, OneBy, counts_as_by, gives_by, then_by}
use Rattle.rt_events.specs.declared.event.Event.TheVariants as event
use Rattle.rt_events.specs.declared.outcome.Outcome.{Outcome}
use Rattle.rt_events.specs.declared.refusal.Refusal.{Refusal}
use Rattle.rt_events.specs.declared.refusal.Refusal.TheVariants.{NoSuchMessage, NoSuchNode, NodeDown, NothingToDo, Limit, Memory}
use Rattle.rt_exact.specs.Acts.{AreOne}
use Rattle.rt_exact.specs.Alike.{AreAlike}
use Rattle.rt_exact.proofs.Acts.{each_one, gives_one, happens_one, passes_over_one, refuses_one, then_one, tries_one}
use Rattle.rt_exact.proofs.Macros.{reads}
use Rattle.rt_macros.specs.Doing.{Gives, Happens, PassesOver}
use Rattle.rt_pause.specs.Forced.{Segment, pending_of, segments_of}
use Rattle.rt_pause.specs.declared.replica_seen.ReplicaSeen.{ReplicaSeen}
use Rattle.rt_report.specs.FurtherTexts.{forced_text, paused_text, pending_text, resumed_text}
use Rattle.rt_world.specs.Reading.{replicas_seen}
use Rattle.rt_state.specs.declared.state.State.{State}

after_force_one : (replica : ReplicaSeen) (noted : Noted) (told : Result Outcome Refusal) (w v : State) → AreAlike w v
    → AreOne (AfterForce replica noted told w) (AfterForce replica noted told v)
after_force_one replica noted (Ok outcome) w v k = gives_one (noted ++ replica ∷ []) (noted ++ replica ∷ []) w v k refl
after_force_one replica noted (Err NothingToDo) w v k = gives_one noted noted w v k refl
after_force_one replica noted (Err NoSuchMessage) w v k = refuses_one NoSuchMessage w v k
after_force_one replica noted (Err NoSuchNode) w v k = refuses_one NoSuchNode w v k
after_force_one replica noted (Err NodeDown) w v k = refuses_one NodeDown w v k
after_force_one replica noted (Err (Limit which)) w v k = refuses_one (Limit which) w v k
after_force_one replica noted (Err Memory) w v k = refuses_one Memory w v k

force_one : (replica : ReplicaSeen) (noted : Noted) (w v : State) → AreAlike w v → AreOne (ForcesOne replica noted w) (ForcesOne replica noted v)
force_one replica noted w v k =
    let e = event.Force replica.instance replica.partition replica.sequence in
    tries_one (Happens e) (Happens e) (AfterForce replica noted) (AfterForce replica noted) w v (happens_one e w v k tt)
    (λ told u t l. after_force_one replica noted told u t l)

forces_one : (w v : State) → AreAlike w v → AreOne (ForcesAll w) (ForcesAll v)
forces_one w v k =
    each_one ForcesOne ForcesOne (replicas_seen w) (replicas_seen v) [] w v k (reads w v k).replicas (λ replica noted u t l. force_one replica noted u t l)

pub pause_one : (w v : State) → AreAlike w v → OneBy Equal (PauseTold w) (PauseTold v)
pause_one w v k =
    then_by Equal ForcesAll ForcesAll (λ forced. Gives (changed true (paused_text (length forced)))) (λ forced. Gives (changed true (paused_text (length forced)))) w v (forces_one w v k)
    (λ forced u t l. gives_by Equal true true (paused_text (length forced)) (paused_text (length forced)) u t l refl refl)

pub resume_one : (w v : State) → AreAlike w v → OneBy Equal (ResumeTold w) (ResumeTold v)
resume_one w v k = counts_as_by Equal false false resumed_text resumed_text w v k refl refl

pub force_commit_one : (jobs : Jobs) (w v : State) → AreAlike w v → OneBy Equal (ForceCommitTold jobs w) (ForceCommitTold jobs v)
force_commit_one jobs w v k =
    then_by Equal ForcesAll ForcesAll (λ forced. Gives (with_job jobs (segments_of forced))) (λ forced. Gives (with_job jobs (segments_of forced))) w v (forces_one w v k)
    (λ forced u t l.
    let more = segments_of forced in
    gives_by Equal (jobs ++ more ∷ []) (jobs ++ more ∷ []) (forced_text (length jobs) (length more)) (forced_text (length jobs) (length more)) u t l refl refl)

status_by : (job : ℕ) (o : Option (List Segment)) (w v : State) → AreAlike w v → AreOne (StatusBy job o w) (StatusBy job o v)
status_by job None w v k = refuses_one NoSuchMessage w v k
status_by job (Some segments) w v k =
    let text : State → List ℕ = λ u. pending_text job (pending_of (nodes_in u) segments) in
    then_one PassesOver PassesOver (GivesPending job segments) (GivesPending job segments) w v (passes_over_one w v k)
    (λ done u t l. gives_one (text u) (text t) u t l (ap text l.same))

pub force_status_one : (jobs : Jobs) (job : ℕ) (w v : State) → AreAlike w v → AreOne (ForceStatusTold jobs job w) (ForceStatusTold jobs job v)
force_status_one jobs job w v k = status_by job (slice_get jobs job) w v k
