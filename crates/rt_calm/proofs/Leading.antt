-- Who leads goes on leading: neither a request nor a job changes what a controller believes.
use Rattle.std.proofs.Common.{◌≡◌, ◌⊎◌, inl, inr, ℕ, zero, suc, ◌&&◌, Bool, true, false, cond, List, [], ◌∷◌, length, nat_le, nat_lt, Option, Some, None, Result, Ok, Err, refl, sym, ◌∙◌, ap, subst, arith, get_or, slice_get}
use Rattle.std.specs.List.{position, position_or_len}
use Rattle.std.specs.Prelude.{slice_set}
use Rattle.std.proofs.lemmas.Bool.{and_from, and_parts, cond-true, le-leb, ltb-false, true≢false}
use Rattle.std.proofs.lemmas.List.{length-set}
use Rattle.std.proofs.lemmas.List.Folds.{position_or_len-set}
use Rattle.std.proofs.lemmas.List.Quantifiers.{position-Some}
use Rattle.std.proofs.lemmas.List.Sums.{fails_before_first}
use Rattle.std.proofs.lemmas.Option.{get_or_from_slice_get, none-some, same_Some, slice_get-get_or, slice_get_within}
use Rattle.rt_base.specs.declared.limits.TheConstants.{LAST_NUMBER}
use Rattle.rt_base.specs.declared.numbers.ControllerId.{ControllerId}
use Rattle.rt_base.specs.declared.numbers.Moment.{Moment}
use Rattle.rt_commit.specs.Job.{commits}
use Rattle.rt_commit.specs.Told.{answer_to, ToldDeep}
use Rattle.rt_commit.specs.declared.job.Job.{Job}
use Rattle.rt_commit.specs.declared.job.JobStage.{JobStage}
use Rattle.rt_commit.specs.declared.stepped.Stepped.{Stepped}
use Rattle.rt_controller.specs.Answers.{after_put, follows_by, Handling}
use Rattle.rt_controller.specs.Controller.{without_machine, Controlling}
use Rattle.rt_controller.specs.Requests.{after_read, at_machine, by_node, by_status, call_of, handled_at, has_machine, has_none, not_assigned, not_leading, past_last, turn_of, uploads, Turn as Rule}
use Rattle.rt_controller.specs.Right.{job_at, job_of}
use Rattle.rt_controller.specs.Steps.{Handles, Works}
use Rattle.rt_controller.specs.Working.{settled, with_stage, work_call, Working}
use Rattle.rt_controller.specs.declared.handled.Handled.{Handled}
use Rattle.rt_controller.specs.declared.segment_machine.SegmentMachine.{SegmentMachine}
use Rattle.rt_controller.proofs.Telling.{told_request, told_work}
use Rattle.rt_deep.specs.Memory.{means as deep_means}
use Rattle.rt_deep.specs.declared.refused.DeepRefused.{DeepRefused}
use Rattle.rt_deep.specs.declared.refused.DeepRefused.TheVariants as deep
use Rattle.rt_model.specs.declared.asked.Asked.{Asked}
use Rattle.rt_model.specs.declared.completion.Ask.{Ask}
use Rattle.rt_model.specs.declared.job_step.JobStep.{JobStep}
use Rattle.rt_model.specs.declared.node.Node.{Node}
use Rattle.rt_model.specs.declared.node.Node.TheVariants as node
use Rattle.rt_model.specs.declared.node.Seen.{Seen}
use Rattle.rt_model.specs.declared.reply.Reply.{Reply}
use Rattle.rt_model.specs.declared.reply.ReplyStatus.{ReplyStatus}
use Rattle.rt_model.specs.declared.request.Request.{Request}
use Rattle.rt_model.specs.declared.seg_meta.SeenMeta.{SeenMeta}
use Rattle.rt_model.specs.declared.status.Status.{Status}
use Rattle.rt_model.specs.declared.status.Status.TheVariants.{Abandoned, Done, InProgress}
use Rattle.rt_nodes.specs.declared.controller_node.ControllerNode.{ControllerNode}
use Rattle.rt_safety.proofs.SuccessEnds.{step_of}
use Rattle.rt_state.specs.IsSafeWorld.{IsSafeWorld}
use Rattle.rt_state.specs.declared.state.State.{State}
use Rattle.rt_store.specs.Meaning.{Told}
use Rattle.rt_store.specs.Memory.{means}
use Rattle.rt_store.specs.declared.refused.StoreRefused.{StoreRefused}
use Rattle.rt_store.specs.declared.refused.StoreRefused.TheVariants.{Exists, Failed, Memory, NoNode, VersionChanged}
use Rattle.rt_world.specs.Reading.{either, leader_in, leads, stands, then_at}
use Rattle.rt_heal.proofs.Seeing.{same_leader}
use Rattle.rt_calm.specs.Again.{IsLeading}

-- ---- a request

module _ (c : Controlling) (r : Request) (now : Moment) where
  abbrev Leads : Handling → Type 0
  Leads x = x.controller.leads ≡ c.leads

  abbrev LeadsBy : Option Handling → Type 0
  LeadsBy o = (x : Handling) → o ≡ Some x → Leads x

  made : (y : Handling) → Leads y → LeadsBy (Some y)
  made y k x e = subst Leads (same_Some y x e) k

  none_made : LeadsBy None
  none_made x e = absurd (none-some x e)

  follows_lead : (ms : List SegmentMachine) (o : Result JobStage ReplyStatus) → Leads (follows_by (record c { machines = ms }) r o)
  follows_lead ms (Ok s) = refl
  follows_lead ms (Err s) = refl

  machine_leads : (place : ℕ) (what : Ask) (o : Option SegmentMachine) → LeadsBy (at_machine c r now place what o)
  machine_leads place what None = none_made
  machine_leads place what (Some m) = made _ (follows_lead _ _)

  status_leads : (what : Ask) (seen : SeenMeta) (s : Status) → Leads (by_status c r now what seen s)
  status_leads what seen InProgress = follows_lead _ _
  status_leads what seen (Done commit) = refl
  status_leads what seen Abandoned = refl

  node_leads : (what : Ask) (version : ℕ) (n : Node) → Leads (by_node c r now what version n)
  node_leads what version (node.Meta meta) = status_leads what (record { version = version; meta = meta }) meta.status
  node_leads what version (node.Ideal i) = refl
  node_leads what version node.Boot = refl
  node_leads what version node.Gone = refl

  read_leads : (what : Ask) (answer : Result Seen StoreRefused) → LeadsBy (after_read c r now what answer)
  read_leads what (Ok w) = made _ (node_leads what w.version w.node)
  read_leads what (Err NoNode) = made _ refl
  read_leads what (Err (Exists found)) = made _ refl
  read_leads what (Err (VersionChanged expected found)) = made _ refl
  read_leads what (Err Failed) = made _ refl
  read_leads what (Err Memory) = none_made

  put_leads : (path : List ℕ) (answer : Result (Unit {0}) DeepRefused) → LeadsBy (after_put c r path answer)
  put_leads path (Ok u) = made _ refl
  put_leads path (Err deep.Absent) = made _ refl
  put_leads path (Err (deep.OtherBytes kept offered)) = made _ refl
  put_leads path (Err deep.Failed) = made _ refl
  put_leads path (Err deep.Memory) = none_made

  rule_leads : (t : Told) (d : ToldDeep) (rule : Rule) → LeadsBy (handled_at c r now rule (answer_to t d (call_of r rule)))
  rule_leads t d not_leading = made _ refl
  rule_leads t d (uploads path bytes) = put_leads path _
  rule_leads t d not_assigned = made _ refl
  rule_leads t d past_last = made _ refl
  rule_leads t d (has_machine place what) = machine_leads place what (slice_get c.machines place)
  rule_leads t d (has_none what) = read_leads what _

  pub handled_leads : (t u : Told) (d e : ToldDeep) (new : Controlling) (given : Handled)
      → Handles {E = Unit {0}} (means t) (means u) (deep_means d) (deep_means e) c r now new (Ok given) → new.leads ≡ c.leads
  handled_leads t u d e new given handles =
      let x : Handling = record { controller = new; handled = given } in
      rule_leads t d (turn_of c r) x (told_request t u d e c r now x handles).made

-- ---- a job

settled_leads : (c : Controlling) (place : ℕ) (a : Asked) (commit : Bool) (did : Stepped) (o : Option ReplyStatus)
    → (settled c place a commit did o).controller.leads ≡ c.leads
settled_leads c place a commit did None = refl
settled_leads c place a commit did (Some s) = refl

-- a commit job's machine ends with it
abbrev pub machines_after : List SegmentMachine → Asked → Bool → Option Reply → List SegmentMachine
machines_after ms a commit None = ms
machines_after ms a commit (Some r) = without_machine ms a commit

settled_machines : (c : Controlling) (place : ℕ) (a : Asked) (commit : Bool) (did : Stepped) (o : Option ReplyStatus)
    → (settled c place a commit did o).controller.machines ≡ machines_after c.machines a commit (settled c place a commit did o).step.reply
settled_machines c place a commit did None = refl
settled_machines c place a commit did (Some s) = refl

machines_by : (w : Working) (c : Controlling) (place : ℕ) (a : Asked) (commit : Bool) (did : Stepped) (o : Option ReplyStatus) → w ≡ settled c place a commit did o
    → w.controller.machines ≡ machines_after c.machines a commit w.step.reply
machines_by w c place a commit did o same =
    subst (λ (z : Working). z.controller.machines ≡ machines_after c.machines a commit z.step.reply) (sym same) (settled_machines c place a commit did o)

module _ (t u : Told) (d e : ToldDeep) (c new : Controlling) (j : ℕ) (now : Moment) (did : JobStep)
    (works : Works (means t) (means u) (deep_means d) (deep_means e) c j now new (Ok did)) where
  abbrev made_working : Working
  made_working = record { controller = new; step = did }

  pub worked_leads : new.leads ≡ c.leads
  worked_leads =
      let k = step_of c j now (answer_to t d (work_call c j now)) made_working (told_work t u d e c j now made_working works).made in
      ap (λ (z : Working). z.controller.leads) k.same
      ∙ settled_leads (with_stage c k.place k.job k.x.stage) k.place k.job.asked (commits k.job.stage) k.x.did k.x.did.status

  -- the machines behind a step of a job
  pub worked_machines : (job : Job) → job_of c j ≡ Some job → new.machines ≡ machines_after c.machines job.asked (commits job.stage) did.reply
  worked_machines job opened =
      let k = step_of c j now (answer_to t d (work_call c j now)) made_working (told_work t u d e c j now made_working works).made in
      let is : k.job ≡ job = same_Some k.job job (sym (ap (job_at c.jobs) k.found ∙ k.there) ∙ opened) in
      subst (λ (z : Job). new.machines ≡ machines_after c.machines z.asked (commits z.stage) did.reply) is
      (machines_by made_working (with_stage c k.place k.job k.x.stage) k.place k.job.asked (commits k.job.stage) k.x.did k.x.did.status k.same)

-- ---- a world

-- replicas ask the same controller, and who leads goes on leading
pub record KeepsLeads (w v : State) : Type 0 where
  pub leader : leader_in v ≡ leader_in w
  pub leading : IsLeading w → IsLeading v

pub leads_still : (w v : State) → v.controllers ≡ w.controllers → KeepsLeads w v
leads_still w v same =
    record {
      leader = same_leader v w same;
      leading = λ k. record {
        place = k.place;
        node = k.node;
        there = ap (λ (cs : List ControllerNode). slice_get cs k.place) same ∙ k.there;
        up = k.up;
        leads = k.leads;
      };
    }

pub leads_then : (w m v : State) → KeepsLeads w m → KeepsLeads m v → KeepsLeads w v
leads_then w m v x y = record { leader = y.leader ∙ x.leader; leading = λ k. y.leading (x.leading k) }

position_put : {X : Type 0} (p : X → Bool) (xs : List X) (i : ℕ) (x y : X) → slice_get xs i ≡ Some x → p y ≡ p x → position p (slice_set xs i y) ≡ position p xs
position_put p xs i x y at same =
    let first = position_or_len-set p xs i y x (same ∙ ap p (sym (get_or_from_slice_get xs i x x at))) in
    ap (λ k. cond (nat_lt k (length (slice_set xs i y))) (Some k) None) first
    ∙ ap (λ l. cond (nat_lt (position_or_len p xs) l) (Some (position_or_len p xs)) None) (length-set xs i y)

-- another one that is put in its place, or the one that was there
put_there : {X : Type 0} (xs : List X) (i j : ℕ) (x y z : X) → slice_get xs i ≡ Some x → slice_get xs j ≡ Some z
    → ((slice_get (slice_set xs i y) j ≡ Some y) × (z ≡ x)) ⊎ (slice_get (slice_set xs i y) j ≡ Some z)
put_there [] i j x y z at there = absurd (none-some x at)
put_there (k ∷ ks) zero zero x y z at there = inl (refl, sym (same_Some k z there) ∙ same_Some k x at)
put_there (k ∷ ks) zero (suc j) x y z at there = inr there
put_there (k ∷ ks) (suc i) zero x y z at there = inr there
put_there (k ∷ ks) (suc i) (suc j) x y z at there = put_there ks i j x y z at there

pub leads_put : (w v : State) (c : ControllerId) (n m : ControllerNode) → slice_get w.controllers c.0 ≡ Some n → v.controllers ≡ slice_set w.controllers c.0 m
    → m.up ≡ n.up → m.controller.leads ≡ n.controller.leads → KeepsLeads w v
leads_put w v c n m at controllers up leading = record { leader = leader; leading = goes_on }
  where
    leader : leader_in v ≡ leader_in w
    leader =
        ap (λ (cs : List ControllerNode). then_at (either (position leads cs) (position stands cs))) controllers
        ∙ ap (λ o. then_at (either o (position stands (slice_set w.controllers c.0 m))))
        (position_put leads w.controllers c.0 n m at (ap (λ (b : Bool). b && m.controller.leads) up ∙ ap (λ (b : Bool). n.up && b) leading))
        ∙ ap (λ o. then_at (either (position leads w.controllers) o)) (position_put stands w.controllers c.0 n m at up)

    goes_on : IsLeading w → IsLeading v
    goes_on k = by_place (put_there w.controllers c.0 k.place n m k.node at k.there)
      where
        by_place : ((slice_get (slice_set w.controllers c.0 m) k.place ≡ Some m) × (k.node ≡ n)) ⊎ (slice_get (slice_set w.controllers c.0 m) k.place ≡ Some k.node)
            → IsLeading v
        by_place (inl (there, is)) =
            record {
              place = k.place;
              node = m;
              there = ap (λ (cs : List ControllerNode). slice_get cs k.place) controllers ∙ there;
              up = up ∙ ap (λ (x : ControllerNode). x.up) (sym is) ∙ k.up;
              leads = leading ∙ ap (λ (x : ControllerNode). x.controller.leads) (sym is) ∙ k.leads;
            }
        by_place (inr there) =
            record {
              place = k.place;
              node = k.node;
              there = ap (λ (cs : List ControllerNode). slice_get cs k.place) controllers ∙ there;
              up = k.up;
              leads = k.leads;
            }

abbrev pub leads_in : Option ControllerNode → Bool
leads_in None = false
leads_in (Some n) = n.controller.leads

-- where any controller leads, one is found that does
module _ (w : State) (k : IsLeading w) where
  abbrev cs : List ControllerNode
  cs = w.controllers

  own_leads : leads k.node ≡ true
  own_leads = and_from k.node.up k.node.controller.leads k.up k.leads

  none_leads : position leads cs ≡ None → ⊥
  none_leads = by_test (nat_lt (position_or_len leads cs) (length cs)) refl
    where
      by_test : (b : Bool) → nat_lt (position_or_len leads cs) (length cs) ≡ b → cond b (Some (position_or_len leads cs)) None ≡ None → ⊥
      by_test true e none = absurd (cc)
      by_test false e none =
          let past = ltb-false (position_or_len leads cs) (length cs) e in
          let within = slice_get_within cs k.place k.node k.there in
          true≢false
          (sym own_leads ∙ ap leads (sym (get_or_from_slice_get cs k.place k.node k.node k.there))
          ∙ fails_before_first leads cs k.place k.node (omega (arith, past, within)))

  -- replicas ask one
  pub leader_there : IsSafeWorld w → (c : ControllerId) × (leader_in w ≡ Some c)
  leader_there safe = by_place (position leads cs) refl
    where
      by_place : (o : Option ℕ) → position leads cs ≡ o → (c : ControllerId) × (then_at (either o (position stands cs)) ≡ Some c)
      by_place None none = absurd (none_leads none)
      by_place (Some place) first =
          let there = position-Some leads cs place k.node first in (
            record { 0 = place },
            cond-true (nat_le place LAST_NUMBER) (Some (record { 0 = place })) None
                (le-leb place LAST_NUMBER (omega (arith, there.0, safe.safe.all_controllers, safe.safe.setup.few_controllers))),
          )

  -- and that one leads
  pub leader_leads : (c : ControllerId) → leader_in w ≡ Some c → leads_in (slice_get cs c.0) ≡ true
  leader_leads c led = by_place (position leads cs) refl led
    where
      by_test : (place : ℕ) → position leads cs ≡ Some place → (b : Bool) → cond b (Some (record { 0 = place })) None ≡ Some c
          → leads_in (slice_get cs c.0) ≡ true
      by_test place first false e = absurd (none-some c e)
      by_test place first true e =
          let here : place ≡ c.0 = ap (λ (x : ControllerId). x.0) (same_Some _ c e) in
          let there = position-Some leads cs place k.node first in
          ap (λ (n : ℕ). leads_in (slice_get cs n)) (sym here) ∙ ap leads_in (slice_get-get_or cs place k.node there.0)
          ∙ (and_parts (get_or cs place k.node).up (get_or cs place k.node).controller.leads there.1).1

      by_place : (o : Option ℕ) → position leads cs ≡ o → then_at (either o (position stands cs)) ≡ Some c → leads_in (slice_get cs c.0) ≡ true
      by_place None none e = absurd (none_leads none)
      by_place (Some place) first e = by_test place first (nat_le place LAST_NUMBER) e
