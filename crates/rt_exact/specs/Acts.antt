-- What comes of several events, one after the other, has one outcome.
use Rattle.std.specs.Prelude.{◌≡◌, Result}
use Rattle.rt_events.specs.declared.refusal.Refusal.{Refusal}
use Rattle.rt_exact.specs.Alike.{AreAlike}
use Rattle.rt_macros.specs.Doing.{Coming, Reached}

-- alike worlds that were reached by the same turns
pub record ReachedAlike (x y : Reached) : Type 0 where
  pub turns : x.turns ≡ y.turns
  pub worlds : AreAlike x.world y.world

-- two things tell the same, or are refused for the same reason, and lead to alike worlds by the same turns
abbrev pub AreOne : {A : Type 0} → Coming A → Coming A → Type 0
AreOne {A} act other = (x y : Reached) (r s : Result A Refusal) → act x r → other y s → (r ≡ s) × ReachedAlike x y
