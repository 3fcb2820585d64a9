-- Who comes, by a set of those who have their segment.
use Rattle.std.proofs.Common.{◌≡◌, Bool, true, false, cond, not, ◌||◌, List, [], ◌∷◌, Some, is_none, refl, ap, ◌∙◌}
use Rattle.std.specs.List.{count_by, list_any}
use Rattle.rt_base.specs.declared.numbers.Partition.{Partition}
use Rattle.rt_base.specs.declared.numbers.Sequence.{Sequence}
use Rattle.rt_base.specs.declared.numbers.Instance.{Instance}
use Rattle.rt_model.specs.declared.ideal_state.IdealEntry.{IdealEntry}
use Rattle.rt_model.specs.Ideal.{is_of_instance, mode_of}
use Rattle.rt_rebalance.specs.Replicas.{AreReplicas, Replica}
use Rattle.rt_dryrun.specs.Rehearsing.{comes, is_new, moves_of}

-- an instance has no mode exactly where no entry is its
no_mode : (es : List IdealEntry) (p : Partition) (s : Sequence) (i : Instance) → not (list_any (is_of_instance p s i) es) ≡ is_none (mode_of es p s i)
no_mode [] p s i = refl
no_mode (e ∷ es) p s i = by (is_of_instance p s i e) (no_mode es p s i)
  where
    by : (b : Bool) → not (list_any (is_of_instance p s i) es) ≡ is_none (mode_of es p s i)
        → not (b || list_any (is_of_instance p s i) es) ≡ is_none (cond b (Some e.mode) (mode_of es p s i))
    by true rest = refl
    by false rest = rest

one_comes : (had : List Replica) (now : List IdealEntry) (e : IdealEntry) → AreReplicas had now → is_new had e ≡ comes now e
one_comes had now e are = ap not (are e.partition e.sequence e.instance) ∙ no_mode now e.partition e.sequence e.instance

pub as_many : (had : List Replica) (now goal : List IdealEntry) → AreReplicas had now → count_by (is_new had) goal ≡ moves_of now goal
as_many had now goal are = λ i. count_by (λ e. one_comes had now e are i) goal
