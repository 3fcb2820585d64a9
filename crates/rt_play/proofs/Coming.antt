-- What comes of several events in a world that a run of a cluster comes to: there is something, and it leads to such a world.
use Rattle.std.proofs.Common.{◌≡◌, ◌+◌, ◌++◌, ℕ, zero, suc, Bool, true, false, List, [], ◌∷◌, Result, Ok, Err, refl, ap}
use Rattle.rt_events.specs.Fits.{Fits}
use Rattle.rt_events.specs.declared.event.Event.{Event}
use Rattle.rt_events.specs.declared.outcome.Outcome.{Outcome}
use Rattle.rt_events.specs.declared.refusal.Refusal.{Refusal}
use Rattle.rt_events.specs.declared.refusal.Refusal.TheVariants.{Limit, Memory, NoSuchMessage, NoSuchNode, NodeDown, NothingToDo}
use Rattle.rt_macros.specs.Doing.{Act, Attempted, AttemptedBy, Choose, Coming, Each, EachFrom, Gives, Happens, Passed, PassesOver, Reached, Refuses, Then, Tries, after, reached, stays}
use Rattle.rt_model.specs.Setup.{IsSetup}
use Rattle.rt_model.specs.declared.setup.Setup.{Setup}
use Rattle.rt_made.proofs.Typed.{run_typed}
use Rattle.rt_made.specs.Named.{HasTextNames}
use Rattle.rt_play.proofs.Leading.{leads_then}
use Rattle.rt_safety.proofs.Can.{due_happens}
use Rattle.rt_safety.proofs.Runs.{leads_safe}
use Rattle.rt_safety.specs.Runs.{Leads, Runs, Turn, happens, passes}
use Rattle.rt_state.specs.Clock.{pass_due}
use Rattle.rt_state.specs.IsSafeWorld.{IsSafeWorld}
use Rattle.rt_state.specs.Room.{Due, Found, counted, dropped}
use Rattle.rt_state.specs.Start.{start}
use Rattle.rt_state.specs.declared.state.State.{State}
use Rattle.rt_world.proofs.StartSafe.{start_safe}
use Rattle.rt_world.specs.Step.{due_of}

-- a safe world to which a run of a cluster leads
pub record IsReached (w : State) : Type 0 where
  pub safe : IsSafeWorld w
  pub setup : Setup
  pub is : IsSetup setup
  pub named : HasTextNames setup.schema
  pub turns : List Turn
  pub runs : Runs setup turns w

pub first_reached : (setup : Setup) → IsSetup setup → HasTextNames setup.schema → IsReached (start setup)
first_reached setup is named = record { safe = start_safe setup is; setup = setup; is = is; named = named; turns = []; runs = refl }

pub turns_reached : (w v : State) (turns : List Turn) → IsReached w → Leads w turns v → IsReached v
turns_reached w v turns k led = record {
  safe = leads_safe w turns v k.safe led;
  setup = k.setup;
  is = k.is;
  named = k.named;
  turns = k.turns ++ turns;
  runs = leads_then k.turns turns (start k.setup) w v k.runs led;
}

pub record IsPossible {A : Type 0} (act : Coming A) : Type 0 where
  pub last : Reached
  pub told : Result A Refusal
  pub came : act last told
  pub safe : IsReached last.world

abbrev pub Comes : {A : Type 0} → State → Coming A → Type 0
Comes w act = IsReached w → IsPossible act

-- ---- one thing

pub gives_comes : {A : Type 0} (x : A) (w : State) → Comes w (Gives x w)
gives_comes x w safe = record { last = stays w; told = Ok x; came = (refl, refl); safe = safe }

pub refuses_comes : {A : Type 0} (refusal : Refusal) (w : State) → Comes {A = A} w (Refuses refusal w)
refuses_comes refusal w safe = record { last = stays w; told = Err refusal; came = (refl, refl); safe = safe }

pub event_comes : (event : Event) (w : State) → Fits w.setup.schema event → Comes w (Happens event w)
event_comes event w fits safe = by_due (due_of w event) refl
  where
    by_due : (due : Found) → due_of w event ≡ due → IsPossible (Happens event w)
    by_due (Ok tt) e =
        let x = due_happens w event safe.safe (run_typed safe.setup safe.turns w event safe.is safe.named safe.runs) e in
        record {
          last = reached (happens event x.1 ∷ []) x.0;
          told = Ok x.1;
          came = record { by = (x.2, refl) };
          safe = turns_reached w x.0 (happens event x.1 ∷ []) safe (x.0, (fits, x.2), refl);
        }
    by_due (Err refusal) e = record { last = stays w; told = Err refusal; came = record { by = (e, refl) }; safe = safe }

pub line_comes : (w : State) → Comes w (PassesOver w)
line_comes w safe = by_due (pass_due w) refl
  where
    dropped_err : (refusal : Refusal) → pass_due w ≡ Err refusal → IsPossible (PassesOver w)
    dropped_err refusal e = record { last = stays w; told = Err refusal; came = record { by = (ap (λ (d : Due). dropped d) e, refl) }; safe = safe }

    by_due : (due : Due) → pass_due w ≡ due → IsPossible (PassesOver w)
    by_due (Ok cost) e = record {
      last = reached (passes ∷ []) (counted w cost);
      told = Ok tt;
      came = record { by = ((cost, e, refl), refl) };
      safe = turns_reached w (counted w cost) (passes ∷ []) safe (counted w cost, (cost, e, refl), refl);
    }
    by_due (Err refusal) e = dropped_err refusal e

-- ---- several things

pub then_comes : {A B : Type 0} (first : Act A) (behind : A → Act B) (w : State) → Comes w (first w) → ((x : A) (u : State) → Comes u (behind x u))
    → Comes w (Then first behind w)
then_comes {A} {B} first behind w f g safe = let x = f safe in by_told x x.told x.came
  where
    by_told : (x : IsPossible (first w)) (told : Result A Refusal) → first w x.last told → IsPossible (Then first behind w)
    by_told x (Ok a) came =
        let y = g a x.last.world x.safe in
        record {
          last = after x.last.turns y.last;
          told = y.told;
          came = record { between = x.last; told = Ok a; last = y.last; came = came; further = y.came; whole = refl };
          safe = y.safe;
        }
    by_told x (Err refusal) came = record {
      last = after x.last.turns (stays x.last.world);
      told = Err refusal;
      came = record { between = x.last; told = Err refusal; last = stays x.last.world; came = came; further = (refl, refl); whole = refl };
      safe = x.safe;
    }

pub tries_comes : {A B : Type 0} (first : Act A) (behind : Result A Refusal → Act B) (w : State) → Comes w (first w)
    → ((told : Result A Refusal) (u : State) → Comes u (behind told u)) → Comes w (Tries first behind w)
tries_comes first behind w f g safe =
    let x = f safe in
    let y = g x.told x.last.world x.safe in
    record {
      last = after x.last.turns y.last;
      told = y.told;
      came = record { between = x.last; told = x.told; last = y.last; came = x.came; further = y.came; whole = refl };
      safe = y.safe;
    }

pub choose_comes : {A : Type 0} (b : Bool) (act other : Coming A) (w : State) → Comes w act → Comes w other → Comes w (Choose b act other)
choose_comes true act other w f g safe = let x = f safe in record { last = x.last; told = x.told; came = x.came; safe = x.safe }
choose_comes false act other w f g safe = let x = g safe in record { last = x.last; told = x.told; came = x.came; safe = x.safe }

pub each_comes : {A S : Type 0} (act : A → S → Act S) (xs : List A) (noted : S) (w : State) → ((x : A) (s : S) (u : State) → Comes u (act x s u))
    → Comes w (Each act xs noted w)
each_comes act [] noted w f = gives_comes noted w
each_comes act (x ∷ xs) noted w f = then_comes (act x noted) (Each act xs) w (f x noted w) (λ s u. each_comes act xs s u f)

pub each_from_comes : {S : Type 0} (act : ℕ → S → Act S) (first count : ℕ) (noted : S) (w : State) → ((n : ℕ) (s : S) (u : State) → Comes u (act n s u))
    → Comes w (EachFrom act first count noted w)
each_from_comes act first zero noted w f = gives_comes noted w
each_from_comes act first (suc count) noted w f =
    then_comes (act first noted) (EachFrom act (first + 1) count) w (f first noted w) (λ s u. each_from_comes act (first + 1) count s u f)

pub passed_comes : (event : Event) (w : State) → Fits w.setup.schema event → Comes w (Passed event w)
passed_comes event w fits = then_comes (Happens event) (λ outcome. Gives tt) w (event_comes event w fits) (λ x u. gives_comes tt u)

attempted_by_comes : (busy : Bool) (told : Result Outcome Refusal) (w : State) → Comes w (AttemptedBy busy told w)
attempted_by_comes busy (Ok outcome) w = gives_comes true w
attempted_by_comes busy (Err NothingToDo) w = gives_comes busy w
attempted_by_comes busy (Err NoSuchMessage) w = refuses_comes NoSuchMessage w
attempted_by_comes busy (Err NoSuchNode) w = refuses_comes NoSuchNode w
attempted_by_comes busy (Err NodeDown) w = refuses_comes NodeDown w
attempted_by_comes busy (Err (Limit which)) w = refuses_comes (Limit which) w
attempted_by_comes busy (Err Memory) w = refuses_comes Memory w

pub attempted_comes : (event : Event) (busy : Bool) (w : State) → Fits w.setup.schema event → Comes w (Attempted event busy w)
attempted_comes event busy w fits = tries_comes (Happens event) (AttemptedBy busy) w (event_comes event w fits) (λ told u. attempted_by_comes busy told u)
