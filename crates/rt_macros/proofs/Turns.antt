-- The turns of rounds and of jobs, and how far they have led.
use Rattle.std.proofs.Common.{◌≡◌, ℕ, suc, Bool, true, false, [], Option, Some, None, Result, Ok, Err, refl, sym, subst}
use Rattle.rt_base.specs.declared.numbers.ControllerId.{ControllerId}
use Rattle.rt_base.specs.declared.which.Which.TheVariants.{Events}
use Rattle.rt_events.specs.declared.refusal.Refusal.{Refusal}
use Rattle.rt_events.specs.declared.refusal.Refusal.TheVariants.{Limit}
use Rattle.rt_macros.proofs.Doing.{Leads, comes_refused, comes_then, leads_on, leads_stop, leads_to, then_behind}
use Rattle.rt_macros.specs.Doing.{Comes, Coming, Does, DoesFrom, after, reached, stays}
use Rattle.rt_macros.specs.Exchanging.{AfterStep, EndsJob, MakesStep}
use Rattle.rt_macros.specs.Settling.{AfterRound, Round, SettlesIn}
use Rattle.rt_macros.specs.declared.outcomes.Replied.{Replied}
use Rattle.rt_world.specs.Kept.{Kept}
use Rattle.rt_state.specs.declared.state.State.{State}

-- ---- steps of a job

job_behind : (c : ControllerId) (j left next : ℕ) (w m v : State) (told : Option Replied) (r : Result Replied Refusal)
    → left ≡ suc next → Comes (MakesStep c j w) w m (Ok told) → Comes (AfterStep (EndsJob c j next) told m) m v r → Comes (EndsJob c j left w) w v r
job_behind c j left next w m v told r e step rest =
    subst (λ n. Comes (EndsJob c j n w) w v r) (sym e) (comes_then (MakesStep c j) (AfterStep (EndsJob c j next)) w m v told r step rest)

pub job_goes_on : {from : State} (c : ControllerId) (j left next : ℕ) (w : State) (mid : Kept) (all : Coming Replied)
    → Leads (EndsJob c j left w) all from w → left ≡ suc next → Does (MakesStep c j) w mid (Ok None) → Leads (EndsJob c j next mid.state) all from mid.state
job_goes_on c j left next w mid all leads e d =
    leads_on (EndsJob c j left w) (EndsJob c j next mid.state) all d.1.turns mid.state leads d.1.led
    (λ v r rest. subst (λ n. EndsJob c j n w (after d.1.turns v) r) (sym e)
    (then_behind (MakesStep c j) (AfterStep (EndsJob c j next)) w (reached d.1.turns mid.state) v None r d.1.came rest))

pub job_ends : {from : State} (c : ControllerId) (j left next : ℕ) (w : State) (new : Kept) (replied : Replied) (all : Coming Replied)
    → Leads (EndsJob c j left w) all from w → left ≡ suc next → Does (MakesStep c j) w new (Ok (Some replied)) → DoesFrom all from new (Ok replied)
job_ends c j left next w new replied all leads e d = (
  d.0,
  leads_to (EndsJob c j left w) all new.state (Ok replied) leads
      (job_behind c j left next w new.state new.state (Some replied) (Ok replied) e d.1 (record { turns = []; came = (refl, refl); led = refl })),
)

pub job_stops : {from : State} (c : ControllerId) (j left next : ℕ) (w : State) (new : Kept) (refusal : Refusal) (all : Coming Replied)
    → Leads (EndsJob c j left w) all from w → left ≡ suc next → Does (MakesStep c j) w new (Err refusal) → DoesFrom all from new (Err refusal)
job_stops c j left next w new refusal all leads e d =
    leads_stop (MakesStep c j w) (EndsJob c j left w) all new refusal leads
    (λ r came. subst (λ n. Comes (EndsJob c j n w) w new.state (Err r)) (sym e)
    (comes_refused (MakesStep c j) (AfterStep (EndsJob c j next)) w new.state r came)) d

-- no event is left for a step
pub job_runs_out : {from : State} (c : ControllerId) (j left : ℕ) (w : State) (all : Coming Replied)
    → Leads (EndsJob c j left w) all from w → left ≡ 0 → Comes all from w (Err (Limit Events))
job_runs_out c j left w all leads e =
    leads_to (EndsJob c j left w) all w (Err (Limit Events)) leads
    (record { turns = []; came = subst (λ n. EndsJob c j n w (stays w) (Err (Limit Events))) (sym e) (refl, refl); led = refl })

-- ---- rounds

round_behind : (paused : Bool) (left next : ℕ) (w m v : State) (busy : Bool) (r : Result Bool Refusal)
    → left ≡ suc next → Comes (Round paused w) w m (Ok busy) → Comes (AfterRound (SettlesIn paused next) busy m) m v r → Comes (SettlesIn paused left w) w v r
round_behind paused left next w m v busy r e round rest =
    subst (λ n. Comes (SettlesIn paused n w) w v r) (sym e) (comes_then (Round paused) (AfterRound (SettlesIn paused next)) w m v busy r round rest)

pub rounds_go_on : {from : State} (paused : Bool) (left next : ℕ) (w : State) (mid : Kept) (all : Coming Bool)
    → Leads (SettlesIn paused left w) all from w → left ≡ suc next → Does (Round paused) w mid (Ok true) → Leads (SettlesIn paused next mid.state) all from mid.state
rounds_go_on paused left next w mid all leads e d =
    leads_on (SettlesIn paused left w) (SettlesIn paused next mid.state) all d.1.turns mid.state leads d.1.led
    (λ v r rest. subst (λ n. SettlesIn paused n w (after d.1.turns v) r) (sym e)
    (then_behind (Round paused) (AfterRound (SettlesIn paused next)) w (reached d.1.turns mid.state) v true r d.1.came rest))

pub rounds_end : {from : State} (paused : Bool) (left next : ℕ) (w : State) (new : Kept) (all : Coming Bool)
    → Leads (SettlesIn paused left w) all from w → left ≡ suc next → Does (Round paused) w new (Ok false) → DoesFrom all from new (Ok true)
rounds_end paused left next w new all leads e d = (
  d.0,
  leads_to (SettlesIn paused left w) all new.state (Ok true) leads
      (round_behind paused left next w new.state new.state false (Ok true) e d.1 (record { turns = []; came = (refl, refl); led = refl })),
)

-- no round is left
pub rounds_over : {from : State} (paused : Bool) (left : ℕ) (w : State) (all : Coming Bool) → Leads (SettlesIn paused left w) all from w → left ≡ 0 → Comes all from w (Ok false)
rounds_over paused left w all leads e =
    leads_to (SettlesIn paused left w) all w (Ok false) leads
    (record { turns = []; came = subst (λ n. SettlesIn paused n w (stays w) (Ok false)) (sym e) (refl, refl); led = refl })

pub rounds_stop : {from : State} (paused : Bool) (left next : ℕ) (w : State) (new : Kept) (refusal : Refusal) (all : Coming Bool)
    → Leads (SettlesIn paused left w) all from w → left ≡ suc next → Does (Round paused) w new (Err refusal) → DoesFrom all from new (Err refusal)
rounds_stop paused left next w new refusal all leads e d =
    leads_stop (Round paused w) (SettlesIn paused left w) all new refusal leads
    (λ r came. subst (λ n. Comes (SettlesIn paused n w) w new.state (Err r)) (sym e)
    (comes_refused (Round paused) (AfterRound (SettlesIn paused next)) w new.state r came)) d
