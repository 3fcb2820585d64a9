-- Each turn of a run keeps a world safe and adds to it, and so do all its turns.
use Rattle.std.proofs.Common.{◌⊎◌, inl, inr, List, [], ◌∷◌, Ok, refl, sym, ◌∙◌, subst}
use Rattle.rt_controller.specs.Right.{IsPossibleStatus}
use Rattle.rt_events.specs.declared.event.Event.{Event}
use Rattle.rt_events.specs.declared.outcome.Outcome.{Outcome}
use Rattle.rt_lists.specs.Members.{Has}
use Rattle.rt_model.specs.declared.reply.Reply.{Reply}
use Rattle.rt_model.specs.declared.sent.Sent.TheVariants as sent
use Rattle.rt_past.proofs.Growth.{grows_same, grows_then}
use Rattle.rt_state.specs.Applying.{Next}
use Rattle.rt_state.specs.IsSafe.{past_of}
use Rattle.rt_state.specs.IsSafeWorld.{IsSafeWorld}
use Rattle.rt_state.specs.Room.{counted}
use Rattle.rt_safety.specs.Runs.{Turn, happens, passes, TurnsTo, Leads}
use Rattle.rt_world.specs.Step.{Steps, way_of}
use Rattle.rt_world.specs.Way.{Goes, Way}
use Rattle.rt_world.specs.Way as way
use Rattle.rt_state.specs.declared.cost.Cost.{Cost}
use Rattle.rt_state.specs.declared.state.State.{State}
use Rattle.rt_safety.proofs.Adds.{Adds, adds_quietly, controller_does_adds}
use Rattle.rt_safety.proofs.AddsEvents.{chore_adds, deliver_adds, job_adds}
use Rattle.rt_safety.proofs.Spares.{spares, spares_add}
use Rattle.rt_safety.proofs.Ways.{is_free, IsFree, Leaving, leaving}
use Rattle.rt_world.proofs.KeepsClock.{passed_keeps}
use Rattle.rt_world.proofs.SafeSteps.{steps_keep}

-- ---- an event

goes_add : (w : State) (y : Way) (cost : Cost) (x : Next) → IsSafeWorld w → IsFree cost y → Leaving w cost y → Goes w y cost x → Adds w x.0
goes_add w (way.turns c does told) cost x s free left h = controller_does_adds w c does told cost x h
goes_add w (way.handles m c) cost x s free left h = deliver_adds w m c cost x s h
goes_add w (way.works c j) cost x s free left h = job_adds w c j cost x s h
goes_add w (way.keeps c p chore) cost x s free left h = chore_adds w c p chore cost x s left h
goes_add w y cost x s free left h = spares_add w cost x.0 s (spares w cost x y tt free left h)

steps_add : (w : State) (e : Event) (new : State) (outcome : Outcome) → IsSafeWorld w → Steps w e new (Ok outcome) → Adds w new
steps_add w e new outcome s (cost, due, h) = goes_add w (way_of w e) cost (new, outcome) s (is_free w e cost due) (leaving w e cost due) h

-- ---- a turn

turn_safe : (old : State) (turn : Turn) (new : State) → IsSafeWorld old → TurnsTo old turn new → IsSafeWorld new
turn_safe old (happens e outcome) new s (fits, steps) = steps_keep old e new (Ok outcome) (λ h. cc) fits s steps
turn_safe old passes new s (cost, due, is) = subst IsSafeWorld (sym is) (passed_keeps old cost s due)

turn_adds : (old : State) (turn : Turn) (new : State) → IsSafeWorld old → TurnsTo old turn new → Adds old new
turn_adds old (happens e outcome) new s (fits, steps) = steps_add old e new outcome s steps
turn_adds old passes new s (cost, due, is) = subst (Adds old) (sym is) (adds_quietly old (counted old cost) refl refl (grows_same (past_of old)))

-- ---- turns

adds_then : (a b c : State) → Adds a b → Adds b c → Adds a c
adds_then a b c x y =
    record {
      goes = record { setup = y.goes.setup ∙ x.goes.setup; past = grows_then (past_of a) (past_of b) (past_of c) x.goes.past y.goes.past };
      replies = λ r has. earlier r (y.replies r has);
    }
  where
    earlier : (r : Reply) → Has b.sent (sent.Reply r) ⊎ IsPossibleStatus r.status → Has a.sent (sent.Reply r) ⊎ IsPossibleStatus r.status
    earlier r (inl has) = x.replies r has
    earlier r (inr possible) = inr possible

pub leads_safe : (from : State) (turns : List Turn) (to : State) → IsSafeWorld from → Leads from turns to → IsSafeWorld to
leads_safe from [] to s e = subst IsSafeWorld (sym e) s
leads_safe from (turn ∷ turns) to s (next, t, rest) = leads_safe next turns to (turn_safe from turn next s t) rest

pub leads_add : (from : State) (turns : List Turn) (to : State) → IsSafeWorld from → Leads from turns to → Adds from to
leads_add from [] to s e = subst (Adds from) (sym e) (adds_quietly from from refl refl (grows_same (past_of from)))
leads_add from (turn ∷ turns) to s (next, t, rest) =
    adds_then from next to (turn_adds from turn next s t) (leads_add next turns to (turn_safe from turn next s t) rest)
