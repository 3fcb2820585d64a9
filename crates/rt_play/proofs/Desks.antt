-- What a line leaves on the desk.
use Rattle.std.proofs.Common.{◌≡◌, ℕ, List, Ok, ap}
use Rattle.rt_desk.specs.Telling.{Beside, Changed, Puts, Told, told}
use Rattle.rt_desk.specs.declared.desk.Desk.{Desk}
use Rattle.rt_macros.specs.Doing.{Act, Gives, Reached}
use Rattle.rt_play.proofs.LineReads.{same_told, was_then}
use Rattle.rt_state.specs.declared.state.State.{State}

-- nothing else than what lay there
pub beside_desk : (desk after : Desk) (act : Act (List ℕ)) (w : State) (v : Reached) (text : List ℕ) → Beside desk act w v (Ok (told after text)) → after ≡ desk
beside_desk desk after act w v text h =
    let t = was_then act (λ x. Gives (told desk x)) w v (told after text) h in ap (λ (x : Told). x.part) (same_told (told after text) (told desk t.told) t.further.1)

-- the part that was put there
pub record IsPut {Part : Type 0} (put : Part → Desk) (act : Act (Changed Part)) (w : State) (after : Desk) : Type 0 where
  pub between : Reached
  pub part : Changed Part
  pub came : act w between (Ok part)
  pub same : after ≡ put part.part

pub puts_desk : {Part : Type 0} (put : Part → Desk) (after : Desk) (act : Act (Changed Part)) (w : State) (v : Reached) (text : List ℕ)
    → Puts put act w v (Ok (told after text)) → IsPut put act w after
puts_desk put after act w v text h =
    let t = was_then act (λ x. Gives (told (put x.part) x.text)) w v (told after text) h in
    record { between = t.between; part = t.told; came = t.came; same = ap (λ (x : Told). x.part) (same_told (told after text) (told (put t.told.part) t.told.text) t.further.1) }
