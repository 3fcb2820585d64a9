-- The callers with which a ground is founded.
use Rattle.std.specs.Prelude.{ℕ, List, [], ◌∷◌, map}
use Rattle.std.specs.List.{range_with_len}
use Rattle.atomic_table.specs.Seated.{TableId}
use Rattle.rt_front.specs.Histories.{Known, known}
use Rattle.rt_ground.specs.declared.blanks.Blanks.{Blanks}
use Rattle.rt_ground.specs.declared.caller.Caller.{Caller}

-- a front that has seen nothing, with one number
abbrev pub new_front : {T : Type 0} → TableId → ℕ → Known T
new_front name k = known name [] (k ∷ [])

-- fronts with the numbers from one on
abbrev pub fronts_from : {T : Type 0} → TableId → ℕ → ℕ → List (Known T)
fronts_from name first count = map (new_front name) (range_with_len first count)

-- a caller that has seen nothing, with the same number in each history
abbrev pub new_caller : {R J : Type 0} → Blanks → ℕ → Caller R J
new_caller names k =
    record { store = new_front names.store k; deep = new_front names.deep k; stream = new_front names.stream k }
