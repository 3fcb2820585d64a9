-- A step of a job keeps a world safe, and the reply with which the job ends is right.
use Rattle.std.proofs.Common.{◌≡◌, ℕ, ◌+◌, ◌≤◌, Bool, true, false, List, [], ◌∷◌, Ok, Option, Some, None, refl, sym, ap, subst, slice_get, length, nat_lt, cond, arith, length-append}
use Rattle.std.specs.Prelude.{slice_set}
use Rattle.rt_base.specs.declared.numbers.ControllerId.{ControllerId}
use Rattle.rt_controller.specs.Controller.{Controlling}
use Rattle.rt_controller.specs.Right.{IsReplied, WorksOver}
use Rattle.rt_controller.proofs.CallsOver.{works_over}
use Rattle.rt_deep.specs.Meaning.{Told as ToldDeep}
use Rattle.rt_deep.specs.Memory.{means as deep_means}
use Rattle.rt_model.specs.declared.job_step.JobStep.{JobStep}
use Rattle.rt_model.specs.declared.reply.Reply.{Reply}
use Rattle.rt_model.specs.declared.sent.Sent.TheVariants as sent
use Rattle.rt_past.specs.Past.{Past, with_files, with_history, with_reply as past_with_reply}
use Rattle.rt_store.specs.Meaning.{Told}
use Rattle.rt_store.specs.Memory.{means}
use Rattle.rt_state.specs.Applying.{Next}
use Rattle.rt_state.specs.IsSafe.{IsControllerAt, IsSafeOver, IsSafe, past_of}
use Rattle.rt_state.specs.IsSafeWorld.{IsFew, IsSafeWorld}
use Rattle.rt_state.specs.Jobs.{sets_of_job, noted_set, stepped_by, stepped, JobStepsAt, JobSteps}
use Rattle.rt_state.specs.Messages.{after_step}
use Rattle.rt_state.specs.Room.{set_cost, priced, with_set}
use Rattle.rt_nodes.specs.declared.controller_node.ControllerNode.{ControllerNode}
use Rattle.rt_state.specs.declared.cost.Cost.{Cost}
use Rattle.rt_state.specs.declared.counts.Counts.{Counts}
use Rattle.rt_state.specs.declared.state.State.{State}
use Rattle.rt_world.proofs.JobCounts.{works_started}
use Rattle.rt_world.proofs.Few.{GrowsFew, few_after, one_started}
use Rattle.rt_world.proofs.KeepsMessages.{reply_grows, stepped_at}
use Rattle.rt_state.proofs.Possible.{HasRoom, priced_room}
use Rattle.rt_world.proofs.Sets.{drawn_same, safe_grows, controller_set}

-- ---- what a step sets is counted

-- the entries that were counted are at most what the step costs, and nothing else of the counts changes
pub record CountsSet (k : Counts) (cost : Cost) (l : Counts) : Type 0 where
  pub events : l.events ≡ k.events
  pub uploads : l.uploads ≡ k.uploads
  pub unanswered : l.unanswered ≡ k.unanswered
  pub stored : l.stored ≤ k.stored + cost.stored

pub set_counted : (k : Counts) (cost : Cost) (before now : ℕ) → CountsSet k cost (with_set k cost before now)
set_counted k cost before now = by_test (nat_lt before now)
  where
    by_test : (b : Bool) → CountsSet k cost (cond b (record k { stored = k.stored + cost.stored }) k)
    by_test true = record { events = refl; uploads = refl; unanswered = refl; stored = omega arith }
    by_test false = record { events = refl; uploads = refl; unanswered = refl; stored = omega arith }

-- ---- a job

abbrev after_job : State → ControllerId → ControllerNode → Controlling → Told → ToldDeep → Cost → State
after_job w c n new store deep cost = noted_set (after_step w c n new store deep) cost (length w.store.writes)

job_safe : (w : State) (c : ControllerId) (n : ControllerNode) (new : Controlling) (j : ℕ) (store : Told) (deep : ToldDeep) (cost : Cost) (step : JobStep) → IsSafe w
    → IsControllerAt w.setup (past_of w) c.0 n → WorksOver w.setup (past_of w) w.store store w.deep deep n.controller new j step
    → IsSafe (stepped (after_job w c n new store deep cost) cost step).0
job_safe w c n new j store deep cost step s at k = by_reply step.reply k.reply
  where
    b : Past
    b = with_history (past_of w) store.writes

    cs : List ControllerNode
    cs = slice_set w.controllers c.0 (record n { controller = new })

    put : IsSafeOver w.setup b w.servers cs w.queries
    put =
        controller_set w.setup b w.servers w.controllers w.queries c.0 (record n { controller = new })
        (safe_grows w.setup (past_of w) b w.servers w.controllers w.queries s k.grows k.right (drawn_same (past_of w) b w.servers refl s.drawn))
        (stepped_at w (past_of w) b c.0 n new k.grows at k.over k.id)

    by_reply : (o : Option Reply) → IsReplied b o → IsSafe (stepped_by (after_job w c n new store deep cost) cost step o).0
    by_reply None right = subst (λ files. IsSafeOver w.setup (with_files b files) w.servers cs w.queries) (sym k.files) put
    by_reply (Some r) right =
        subst (λ files. IsSafeOver w.setup (past_with_reply (with_files b files) r) w.servers cs w.queries) (sym k.files) (reply_grows w b cs r put right)

job_few : (w : State) (c : ControllerId) (n : ControllerNode) (new : Controlling) (store : Told) (deep : ToldDeep) (cost : Cost) (sets : Option ℕ) (step : JobStep)
    (o : Option Reply) → IsFew w → length store.writes ≤ length w.store.writes + 1 → set_cost sets ≡ cost → new.started ≤ w.counts.events + 1
    → GrowsFew w (stepped_by (after_job w c n new store deep cost) cost step o).0 cost
job_few w c n new store deep cost sets step None f written is started =
    let set = set_counted w.counts cost (length w.store.writes) (length store.writes) in
    record {
      setup = refl;
      events = omega (arith, set.events);
      written = written;
      sent = omega arith;
      appended = omega arith;
      asked = omega arith;
      started = one_started w c.0 (record n { controller = new }) f started;
      unanswered = omega (arith, set.unanswered, f.unanswered, ap (λ (k : Cost). k.queries) is);
      few_unanswered = omega (arith, set.unanswered);
      uploads = omega (arith, set.uploads);
      stored = set.stored;
      moment = omega arith;
    }
job_few w c n new store deep cost sets step (Some r) f written is started =
    let set = set_counted w.counts cost (length w.store.writes) (length store.writes) in
    record {
      setup = refl;
      events = omega (arith, set.events);
      written = written;
      sent = omega (arith, length-append w.sent (sent.Reply r ∷ []));
      appended = omega arith;
      asked = omega arith;
      started = one_started w c.0 (record n { controller = new }) f started;
      unanswered = omega (arith, set.unanswered, f.unanswered, ap (λ (k : Cost). k.queries) is);
      few_unanswered = omega (arith, set.unanswered);
      uploads = omega (arith, set.uploads);
      stored = set.stored;
      moment = omega arith;
    }

pub job_keeps : (w : State) (c : ControllerId) (j : ℕ) (cost : Cost) (x : Next) → IsSafeWorld w → priced w (set_cost (sets_of_job w c j)) ≡ Ok cost
    → JobSteps w c j cost x → IsSafeWorld x.0
job_keeps w c j cost x s priced_so h = by_node (slice_get w.controllers c.0) refl h
  where
    by_node : (o : Option ControllerNode) → slice_get w.controllers c.0 ≡ o → JobStepsAt o w c j cost x → IsSafeWorld x.0
    by_node None there h = absurd h
    by_node (Some n) there (new, step, store, deep, works, is) =
        let room = priced_room w (set_cost (sets_of_job w c j)) cost priced_so in
        let node = s.safe.controllers c.0 n there in
        let k = works_over w.setup (past_of w) w.store store w.deep deep n.controller new j w.moment step s.safe.setup s.safe.past refl refl node.over works in
        subst (λ (y : Next). IsSafeWorld y.0) (sym is)
        (record {
          safe = job_safe w c n new j store deep cost step s.safe node k;
          few =
              few_after w (stepped (after_job w c n new store deep cost) cost step).0 cost (subst (HasRoom w) room.0 room.1)
              (job_few w c n new store deep cost (sets_of_job w c j) step step.reply s.few k.few room.0
              (omega (arith, works_started (means w.store) (means store) (deep_means w.deep) (deep_means deep) n.controller new j w.moment step works, s.few.started c.0 n there))) s.few;
        })
