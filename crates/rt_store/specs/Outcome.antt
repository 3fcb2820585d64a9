-- What an answered write call of a store that tells everything has done.
use Rattle.std.specs.Prelude.{◌≡◌, [], ◌∷◌, ◌++◌}
use Rattle.rt_model.specs.declared.node.Seen.{Seen}
use Rattle.rt_model.specs.Lawful.{Write, TakesEffect, written_by}
use Rattle.rt_store.specs.Meaning.{Told}
use Rattle.rt_store.specs.Answers.{after_call}
use Rattle.rt_store.specs.Calls.{told_on}

-- it took effect, the writes grew by that very write, and what was answered is told of it
pub record Wrote {X : Type 0} (t : Told) (call : Write) (tell : Seen → X) (x : X) : Type 0 where
  pub effect : TakesEffect t.writes call
  pub writes : (told_on t (after_call call)).writes ≡ t.writes ++ written_by t.writes call ∷ []
  pub told : x ≡ tell (written_by t.writes call)
