-- What the parts of a call promise, put together.
use Rattle.std.proofs.Common.{◌≡◌, ℕ, ◌<◌, nat_le, not, inl, Bool, true, cond, List, Option, Some, None, Result, Ok, Err, refl, sym, ◌∙◌, ap, subst}
use Rattle.std.specs.Prelude.{slice_get, slice_set}
use Rattle.std.proofs.lemmas.Bool.{lt-leb}
use Rattle.rt_base.specs.declared.limits.TheConstants.{LAST_NUMBER}
use Rattle.rt_base.specs.declared.numbers.Moment.{Moment}
use Rattle.rt_model.specs.declared.completion.Ask.{Ask}
use Rattle.rt_model.specs.declared.job_step.JobStep.{JobStep}
use Rattle.rt_model.specs.declared.node.Key.TheVariants as key
use Rattle.rt_model.specs.declared.node.Seen.{Seen}
use Rattle.rt_model.specs.declared.asked.Asked.{Asked}
use Rattle.rt_model.specs.declared.request.Request.{Request}
use Rattle.rt_model.specs.declared.request.RequestKind.{RequestKind}
use Rattle.rt_store.specs.declared.refused.StoreRefused.{StoreRefused}
use Rattle.rt_store.specs.Calls.{Reads}
use Rattle.rt_store.specs.Meaning.{Meaning}
use Rattle.rt_commit.specs.declared.job.Job.{Job}
use Rattle.rt_commit.specs.declared.job.JobStage.{JobStage}
use Rattle.rt_commit.specs.declared.stepped.Stepped.{Stepped}
use Rattle.rt_commit.specs.Assignment.{is_replica}
use Rattle.rt_commit.specs.Calls.{Makes, DeepMeaning}
use Rattle.rt_commit.specs.Job.{at_stage, commits, job_call, job_step}
use Rattle.rt_commit.proofs.Making.{makes_then}
use Rattle.rt_controller.specs.declared.handled.Handled.{Handled}
use Rattle.rt_controller.specs.Controller.{Controlling, machine_place}
use Rattle.rt_controller.specs.Requests.{Turn, not_leading, not_assigned, past_last, has_none, by_place, asked_turn, kind_turn, turn_of, after_read}
use Rattle.rt_controller.specs.Steps.{HandlesAt, Handles, HandsRead}
use Rattle.rt_controller.specs.Working.{Working, settled, worked, work_at, work_call_at}
use Rattle.rt_controller.proofs.RunningOut.{read_ran_out}

-- ---- a request

-- a segment without a machine
pub asks_none :
    {E : Type 0} (s t : Meaning) (d : DeepMeaning) (c : Controlling) (r : Request) (now : Moment) (what : Ask)
    (answer : Result Seen StoreRefused) (after : Controlling) (result : Result Handled E)
    → Reads s t (key.Meta r.partition r.sequence) answer → HandsRead answer c (after_read c r now what answer) after result
    → HandlesAt s t d d c r now (has_none what) after result
asks_none s t d c r now what answer after (Ok did) m hands = (answer, m, refl, hands)
asks_none s t d c r now what answer after (Err refused) m hands =
    (hands.1, (read_ran_out s t (key.Meta r.partition r.sequence) answer m hands.0, inl refl))

turn_none : (c : Controlling) (r : Request) (what : Ask) → is_replica c.assigned r.partition r.number.instance ≡ true
    → r.sequence.0 < LAST_NUMBER → machine_place c.machines r.partition r.sequence ≡ None → asked_turn c r what ≡ has_none what
turn_none c r what assigned small none =
    let place = machine_place c.machines r.partition r.sequence in
    ap (λ (b : Bool). cond (not b) not_assigned (cond (nat_le LAST_NUMBER r.sequence.0) past_last (by_place place what))) assigned
    ∙ ap (λ (b : Bool). cond b past_last (by_place place what)) (lt-leb LAST_NUMBER r.sequence.0 small)
    ∙ ap (λ (o : Option ℕ). by_place o what) none

pub asked_none :
    {E : Type 0} (s t : Meaning) (d : DeepMeaning) (c : Controlling) (r : Request) (now : Moment) (what : Ask) (after : Controlling)
    (result : Result Handled E) → is_replica c.assigned r.partition r.number.instance ≡ true → r.sequence.0 < LAST_NUMBER
    → machine_place c.machines r.partition r.sequence ≡ None → HandlesAt s t d d c r now (has_none what) after result
    → HandlesAt s t d d c r now (asked_turn c r what) after result
asked_none s t d c r now what after result assigned small none handles =
    let P : Turn → Type 0 = λ turn. HandlesAt s t d d c r now turn after result in
    subst P (sym (turn_none c r what assigned small none)) handles

turn_by : (c : Controlling) (r : Request) (k : RequestKind) → c.leads ≡ true → r.kind ≡ k → turn_of c r ≡ kind_turn c r k
turn_by c r k leads is = ap (λ b. cond b (kind_turn c r r.kind) not_leading) leads ∙ ap (kind_turn c r) is

-- the rules from the second one on
pub handles_kind :
    {E : Type 0} (s t : Meaning) (d e : DeepMeaning) (c : Controlling) (r : Request) (now : Moment) (k : RequestKind)
    (after : Controlling) (result : Result Handled E) → c.leads ≡ true → r.kind ≡ k
    → HandlesAt s t d e c r now (kind_turn c r k) after result → Handles s t d e c r now after result
handles_kind s t d e c r now k after result leads is handles =
    let P : Turn → Type 0 = λ turn. HandlesAt s t d e c r now turn after result in
    subst P (sym (turn_by c r k leads is)) handles

-- ---- a step of a job

abbrev some_work : Working → Option Working
some_work w = Some w

-- the job at a place makes a step, and then stays or leaves
pub works_slot :
    (s t : Meaning) (d e : DeepMeaning) (c : Controlling) (now : Moment) (place : ℕ) (j : Job) (x : JobStage) (did : Stepped)
    (after : Controlling) (step : JobStep)
    → Makes s t d e (job_call c.assigned j now) (λ a. job_step j now a ≡ Some (record { stage = x; did = did }))
    → settled (record c { jobs = slice_set c.jobs place (at_stage j x) }) place j.asked (commits j.stage) did did.status
    ≡ record { controller = after; step = step }
    → Makes s t d e (job_call c.assigned j now) (λ a. worked c place j (job_step j now a) ≡ Some (record { controller = after; step = step }))
works_slot s t d e c now place j x did after step makes is =
    makes_then s t d e (job_call c.assigned j now)
    (λ a. job_step j now a ≡ Some (record { stage = x; did = did }))
    (λ a. worked c place j (job_step j now a) ≡ Some (record { controller = after; step = step }))
    (λ a f. ap (worked c place j) f ∙ ap (λ (w : Working). some_work w) is) makes

pub works_place :
    (s t : Meaning) (d e : DeepMeaning) (c : Controlling) (now : Moment) (place : ℕ) (j : Job) (js : List Job) (did : Stepped)
    (q : Asked) (b : Bool) (after : Controlling) (step : JobStep) → slice_get c.jobs place ≡ Some j → q ≡ j.asked → b ≡ commits j.stage
    → ((x : JobStage) × (js ≡ slice_set c.jobs place (at_stage j x))
    × Makes s t d e (job_call c.assigned j now) (λ a. job_step j now a ≡ Some (record { stage = x; did = did })))
    → settled (record c { jobs = js }) place q b did did.status ≡ record { controller = after; step = step }
    → Makes s t d e (work_call_at c now (slice_get c.jobs place)) (λ a.
    work_at c now a place (slice_get c.jobs place) ≡ Some (record { controller = after; step = step }))
works_place s t d e c now place j js did q b after step at asked commit (x, same, makes) is =
    let P : Option Job → Type 0 = λ o. Makes s t d e (work_call_at c now o) (λ a. work_at c now a place o ≡ Some (record { controller = after; step = step })) in
    subst P (sym at)
    (works_slot s t d e c now place j x did after step makes
    (ap (λ (ks : List Job). settled (record c { jobs = ks }) place j.asked (commits j.stage) did did.status) (sym same)
    ∙ ap (λ (y : Asked). settled (record c { jobs = js }) place y (commits j.stage) did did.status) (sym asked)
    ∙ ap (λ (y : Bool). settled (record c { jobs = js }) place q y did did.status) (sym commit) ∙ is))
