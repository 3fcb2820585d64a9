-- How what a line does to the world, and to a part of the desk, is told.
use Rattle.std.proofs.Common.{◌≡◌, ℕ, List, Option, Result, Ok, Err, sym, subst}
use Rattle.std.specs.Prelude.{OnOk}
use Rattle.rt_desk.specs.Saying.{FurtherTold, LineTold, OfflineTold}
use Rattle.rt_desk.specs.Telling.{Beside, Changed, DoesChange, DoesTold, Puts, changed, told}
use Rattle.rt_desk.specs.declared.desk.Desk.{Desk}
use Rattle.rt_events.specs.declared.refusal.Refusal.{Refusal}
use Rattle.rt_macros.proofs.Doing.{does_refused, does_told}
use Rattle.rt_hybrid.specs.Table.{OfflineTable}
use Rattle.rt_macros.specs.Doing.{Act, DoesText, Gives}
use Rattle.rt_script.specs.declared.further.Further.{Further}
use Rattle.rt_script.specs.declared.line.Line.{Line}
use Rattle.rt_world.specs.Kept.{Kept}
use Rattle.rt_state.specs.declared.state.State.{State}

pub beside_does : (act : Act (List ℕ)) (desk : Desk) (w : State) (new : Kept) (text : List ℕ) (result : Result (Unit {0}) Refusal)
    → DoesText act w new text result → DoesTold (Beside desk act) w new text desk result
beside_does act desk w new text (Ok done) d = does_told act (told desk) w new text d
beside_does act desk w new text (Err refusal) d = does_refused act (λ x. Gives (told desk x)) w new refusal d

pub puts_does : {Part : Type 0} (put : Part → Desk) (act : Act (Changed Part)) (w : State) (new : Kept) (text : List ℕ) (part : Part) (result : Result (Unit {0}) Refusal)
    → DoesChange act w new text part result → DoesTold (Puts put act) w new text (put part) result
puts_does put act w new text part (Ok done) d = does_told act (λ x. told (put x.part) x.text) w new (changed part text) d
puts_does put act w new text part (Err refusal) d = does_refused act (λ x. Gives (told (put x.part) x.text)) w new refusal d

-- what holds however it went, holds where it went well
pub on_ok : {P : Type 0} (result : Result (Unit {0}) Refusal) → P → OnOk result P
on_ok (Ok done) p = p
on_ok (Err refusal) p = tt

-- what a line tells, by what it says
pub line_as : (said other : Line) (desk : Desk) (w : State) (new : Kept) (text : List ℕ) (after : Desk) (result : Result (Unit {0}) Refusal)
    → said ≡ other → DoesTold (LineTold other desk) w new text after result → DoesTold (LineTold said desk) w new text after result
line_as said other desk w new text after result e d = subst (λ line. DoesTold (LineTold line desk) w new text after result) (sym e) d

pub further_as : (said other : Further) (desk : Desk) (w : State) (new : Kept) (text : List ℕ) (after : Desk) (result : Result (Unit {0}) Refusal)
    → said ≡ other → DoesTold (FurtherTold other desk) w new text after result → DoesTold (FurtherTold said desk) w new text after result
further_as said other desk w new text after result e d = subst (λ line. DoesTold (FurtherTold line desk) w new text after result) (sym e) d

-- what is told of rows beside the stream, by whether there is a table
pub offline_as : (rows : List ℕ) (table other : Option OfflineTable) (desk : Desk) (w : State) (new : Kept) (text : List ℕ) (after : Desk) (result : Result (Unit {0}) Refusal)
    → table ≡ other → DoesTold (OfflineTold rows desk other) w new text after result → DoesTold (OfflineTold rows desk table) w new text after result
offline_as rows table other desk w new text after result e d = subst (λ t. DoesTold (OfflineTold rows desk t) w new text after result) (sym e) d
