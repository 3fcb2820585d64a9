-- Entries that are added one after another.
use Rattle.std.proofs.Common.{◌≡◌, List, [], ◌∷◌, ◌++◌, refl, ap}
use Rattle.rt_base.specs.declared.numbers.Partition.{Partition}
use Rattle.rt_base.specs.declared.numbers.Sequence.{Sequence}
use Rattle.rt_base.specs.declared.numbers.Instance.{Instance}
use Rattle.rt_model.specs.declared.ideal_state.IdealEntry.{IdealEntry}
use Rattle.rt_model.specs.Ideal.{with_entry, consuming, with_consuming}

-- the last instance is added first
pub with_consuming_last :
    (es : List IdealEntry) (p : Partition) (s : Sequence) (is : List Instance) (i : Instance)
    → with_consuming es p s (is ++ i ∷ []) ≡ with_consuming (with_entry (consuming p s i) es) p s is
with_consuming_last es p s [] i = refl
with_consuming_last es p s (j ∷ is) i =
    ap (with_entry (consuming p s j)) (with_consuming_last es p s is i)
