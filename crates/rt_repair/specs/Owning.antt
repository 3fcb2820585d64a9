-- What a step adds to its caller's own.
use Rattle.std.specs.Prelude.{◌≡◌, ◌⊎◌, [], ◌∷◌, ◌++◌, Option, Some, None}
use Rattle.rt_model.specs.declared.node.Seen.{Seen}
use Rattle.rt_model.specs.Metadata.{IsDone}
use Rattle.rt_store.specs.Meaning.{Own}

-- where callers are told apart: the caller's own stays, or gains one write, which makes no segment Done
abbrev pub GainsUndone : Option Own → Option Own → Type 0
GainsUndone None new = new ≡ None
GainsUndone (Some o) new =
    (new ≡ Some o)
    ⊎ ((w : Seen) × (new ≡ Some (record { numbers = o.numbers; writes = o.writes ++ w ∷ [] })) × (IsDone w.node → ⊥))
