-- Writes that commit no segment.
use Rattle.std.specs.Prelude.{List, All}
use Rattle.rt_model.specs.Metadata.{IsDone}
use Rattle.rt_model.specs.declared.node.Seen.{Seen}

abbrev pub AreUndone : List Seen → Type 0
AreUndone writes = All (λ w. IsDone w.node → ⊥) writes
