-- A line that stops the run.
use Rattle.std.proofs.Common.{◌≡◌, ℕ, List, Option, Some, None, Err, refl, sym, subst}
use Rattle.rt_desk.specs.Saying.{LineTold}
use Rattle.rt_desk.specs.Telling.{DoesTold}
use Rattle.rt_desk.specs.declared.desk.Desk.{Desk}
use Rattle.rt_events.specs.declared.refusal.Refusal.{Refusal}
use Rattle.rt_events.specs.declared.refusal.Refusal.TheVariants.{NoSuchMessage, NoSuchNode, NodeDown, NothingToDo, Limit, Memory}
use Rattle.rt_lines.specs.declared.line_reason.LineReason.TheVariants as reason
use Rattle.rt_lines.specs.declared.play_fault.PlayFault.{PlayFault}
use Rattle.rt_lines.specs.declared.play_fault.PlayFault.TheVariants as fault
use Rattle.rt_macros.specs.Doing.{Comes, reached, stays}
use Rattle.rt_play.specs.Plays.{HasStopped, PlaysSaid, going}
use Rattle.rt_play.specs.Report.{fault_at}
use Rattle.rt_script.specs.declared.line.Line.{Line}
use Rattle.rt_world.specs.Kept.{Kept}

-- it is no line of a script
pub no_line : (number : ℕ) (o : Option Line) (old : Kept) (before : Desk) (text : List ℕ) (why : PlayFault) → o ≡ None
    → why ≡ fault.Refused number reason.BadLine → PlaysSaid number o old before old before text (Err why)
no_line number o old before text why none e =
    subst (λ (z : PlayFault). PlaysSaid number o old before old before text (Err z)) (sym e)
    (subst (λ (p : Option Line). HasStopped number p (going old before) (fault.Refused number reason.BadLine)) (sym none)
    (record { behind = stays old.state; stops = (refl, refl) }))

-- it was refused
module _ (number : ℕ) (said : Line) (old new : Kept) (before after : Desk) (text : List ℕ) where
  stopped : (r : Refusal) → Comes (LineTold said before old.state) old.state new.state (Err r) → HasStopped number (Some said) (going old before) (fault_at number r)
  stopped r came = record { behind = reached came.turns new.state; stops = (r, came.came, refl) }

  stops_at : (r : Refusal) → DoesTold (LineTold said before) old.state new text after (Err r)
      → PlaysSaid number (Some said) old before new after text (Err (fault_at number r))
  stops_at NoSuchMessage d = stopped NoSuchMessage d.1
  stops_at NoSuchNode d = stopped NoSuchNode d.1
  stops_at NodeDown d = stopped NodeDown d.1
  stops_at NothingToDo d = stopped NothingToDo d.1
  stops_at (Limit which) d = stopped (Limit which) d.1
  stops_at Memory d = tt

pub line_stops : (number : ℕ) (o : Option Line) (said : Line) (old new : Kept) (before after : Desk) (text : List ℕ) (r : Refusal) (why : PlayFault)
    → o ≡ Some said → why ≡ fault_at number r → DoesTold (LineTold said before) old.state new text after (Err r)
    → PlaysSaid number o old before new after text (Err why)
line_stops number o said old new before after text r why is e d =
    subst (λ (z : PlayFault). PlaysSaid number o old before new after text (Err z)) (sym e)
    (subst (λ (p : Option Line). PlaysSaid number p old before new after text (Err (fault_at number r))) (sym is)
    (stops_at number said old new before after text r d))
