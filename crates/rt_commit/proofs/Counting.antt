-- How many entries the steps of the ideal state leave.
use Rattle.std.proofs.Common.{◌≡◌, ◌+◌, List, [], ◌∷◌, Bool, true, false, cond, ◌&&◌, not, length, map, sym, refl, arith}
use Rattle.std.proofs.lemmas.List.{length-map}
use Rattle.std.proofs.lemmas.List.FromFn.{length-map-range_with_len}
use Rattle.rt_base.specs.declared.numbers.Instance.{Instance}
use Rattle.rt_base.specs.declared.numbers.Partition.{Partition}
use Rattle.rt_base.specs.declared.numbers.Sequence.{Sequence}
use Rattle.rt_model.specs.declared.ideal_state.IdealEntry.{IdealEntry}
use Rattle.rt_model.specs.Ideal.{is_before, with_entry, consuming, with_consuming, turned_online, turned_offline, has_entry, next_sequence, commit_step_of, set_offline_of}
use Rattle.rt_assign.specs.Placement.{replica_of}
use Rattle.rt_commit.specs.Assignment.{Assigned, replicas_in}
use Rattle.rt_commit.specs.Changes.{committed_count}

entry_counted : (x : IdealEntry) (es : List IdealEntry) → length (with_entry x es) ≡ length es + 1
entry_counted x [] = refl
entry_counted x (e ∷ es) = by_test (is_before x e) (entry_counted x es)
  where
    by_test : (b : Bool) → length (with_entry x es) ≡ length es + 1
        → length (cond b (x ∷ e ∷ es) (e ∷ with_entry x es)) ≡ length (e ∷ es) + 1
    by_test true before = omega arith
    by_test false before = omega (arith, before)

pub consuming_counted :
    (es : List IdealEntry) (p : Partition) (s : Sequence) (is : List Instance)
    → length (with_consuming es p s is) ≡ length es + length is
consuming_counted es p s [] = omega arith
consuming_counted es p s (i ∷ is) =
    omega (arith, entry_counted (consuming p s i) (with_consuming es p s is), consuming_counted es p s is)

pub replicas_counted : (a : Assigned) (p : Partition) → length (replicas_in a p) ≡ a.replication
replicas_counted a p = length-map-range_with_len (replica_of p a.replication a.servers) 0 a.replication

pub committed_counted :
    (a : Assigned) (es : List IdealEntry) (p : Partition) (s : Sequence)
    → committed_count es p s a.replication ≡ length (commit_step_of es p s (replicas_in a p))
committed_counted a es p s = by_tests (has_entry es p s) (has_entry es p (next_sequence s))
  where
    online : List IdealEntry
    online = map (turned_online p s) es

    same : length online ≡ length es
    same = length-map es (turned_online p s)

    by_tests :
        (b c : Bool)
        → cond (b && not c) (length es + a.replication) (length es)
        ≡ length (cond b (cond c online (with_consuming online p (next_sequence s) (replicas_in a p))) es)
    by_tests true true = sym same
    by_tests true false =
        omega (arith, consuming_counted online p (next_sequence s) (replicas_in a p), same, replicas_counted a p)
    by_tests false c = refl

pub offline_counted :
    (es : List IdealEntry) (p : Partition) (s : Sequence) (i : Instance)
    → length es ≡ length (set_offline_of es p s i)
offline_counted es p s i = sym (length-map es (turned_offline p s i))
