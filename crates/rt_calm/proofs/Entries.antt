-- What the steps of the ideal state add to what lies ahead at most, and to its CONSUMING entries.
use Rattle.std.proofs.Common.{◌≡◌, ℕ, ◌+◌, ◌*◌, ◌<◌, ◌≤◌, Bool, true, false, ◌&&◌, ◌||◌, cond, List, [], ◌∷◌, length, map, refl, ap, arith}
use Rattle.std.proofs.Math.Nat.{suc-mul}
use Rattle.std.proofs.lemmas.Bool.{false≢true}
use Rattle.rt_base.specs.declared.numbers.Instance.{Instance}
use Rattle.rt_base.specs.declared.numbers.Partition.{Partition}
use Rattle.rt_base.specs.declared.numbers.Sequence.{Sequence}
use Rattle.rt_commit.specs.Changes.{is_consuming, offline_changes}
use Rattle.rt_model.specs.Ideal.{commit_step_of, consuming, has_entry, is_before, is_of, is_of_instance, next_sequence, offline_mode, set_offline_of, turned_offline, turned_online, with_consuming, with_entry}
use Rattle.rt_model.specs.declared.ideal_state.IdealEntry.{IdealEntry}
use Rattle.rt_model.specs.declared.ideal_state.Mode.{Mode}
use Rattle.rt_model.specs.declared.ideal_state.Mode.TheVariants.{Consuming, Online, Offline}
use Rattle.rt_stream.specs.Log.{Log}
use Rattle.rt_calm.specs.Ahead.{most_ahead_of}
use Rattle.rt_calm.specs.Spent.{consuming_in, most_of, one_consuming}

-- ---- what lies ahead at most

module _ (log : Log) where
  entry_most : (x : IdealEntry) (es : List IdealEntry) → most_ahead_of log (with_entry x es) ≡ most_of log x.partition + most_ahead_of log es
  entry_most x [] = omega arith
  entry_most x (e ∷ es) = by_test (is_before x e) (entry_most x es)
    where
      by_test : (b : Bool) → most_ahead_of log (with_entry x es) ≡ most_of log x.partition + most_ahead_of log es
          → most_ahead_of log (cond b (x ∷ e ∷ es) (e ∷ with_entry x es)) ≡ most_of log x.partition + most_ahead_of log (e ∷ es)
      by_test true rest = omega arith
      by_test false rest = omega (arith, rest)

  added_most : (es : List IdealEntry) (p : Partition) (s : Sequence) (is : List Instance)
      → most_ahead_of log (with_consuming es p s is) ≡ length is * most_of log p + most_ahead_of log es
  added_most es p s [] = omega arith
  added_most es p s (i ∷ is) =
      omega (arith, entry_most (consuming p s i) (with_consuming es p s is), added_most es p s is, suc-mul (length is) (most_of log p))

  -- a step that leaves each entry its partition
  mapped_most : (f : IdealEntry → IdealEntry) → ((e : IdealEntry) → (f e).partition ≡ e.partition) → (es : List IdealEntry)
      → most_ahead_of log (map f es) ≡ most_ahead_of log es
  mapped_most f keeps [] = refl
  mapped_most f keeps (e ∷ es) = omega (arith, ap (most_of log) (keeps e), mapped_most f keeps es)

online_keeps : (p : Partition) (s : Sequence) (e : IdealEntry) → (turned_online p s e).partition ≡ e.partition
online_keeps p s e = by_test (is_of p s e)
  where
    by_test : (b : Bool) → (cond b (record e { mode = Online }) e).partition ≡ e.partition
    by_test true = refl
    by_test false = refl

offline_keeps : (p : Partition) (s : Sequence) (i : Instance) (e : IdealEntry) → (turned_offline p s i e).partition ≡ e.partition
offline_keeps p s i e = by_test (is_of_instance p s i e)
  where
    by_test : (b : Bool) → (cond b (record e { mode = offline_mode e.mode }) e).partition ≡ e.partition
    by_test true = refl
    by_test false = refl

pub offline_most : (log : Log) (es : List IdealEntry) (p : Partition) (s : Sequence) (i : Instance)
    → most_ahead_of log (set_offline_of es p s i) ≡ most_ahead_of log es
offline_most log es p s i = mapped_most log (turned_offline p s i) (offline_keeps p s i) es

pub commit_most : (log : Log) (es : List IdealEntry) (p : Partition) (s : Sequence) (next : List Instance)
    → most_ahead_of log (commit_step_of es p s next) ≤ length next * most_of log p + most_ahead_of log es
commit_most log es p s next = by_tests (has_entry es p s) (has_entry es p (next_sequence s))
  where
    online : List IdealEntry
    online = map (turned_online p s) es

    same : most_ahead_of log online ≡ most_ahead_of log es
    same = mapped_most log (turned_online p s) (online_keeps p s) es

    by_tests : (b c : Bool) → most_ahead_of log (cond b (cond c online (with_consuming online p (next_sequence s) next)) es)
        ≤ length next * most_of log p + most_ahead_of log es
    by_tests true true = omega (arith, same)
    by_tests true false = omega (arith, same, added_most log online p (next_sequence s) next)
    by_tests false c = omega arith

-- ---- CONSUMING entries

entry_consumes : (x : IdealEntry) (es : List IdealEntry) → consuming_in (with_entry x es) ≡ one_consuming x.mode + consuming_in es
entry_consumes x [] = refl
entry_consumes x (e ∷ es) = by_test (is_before x e) (entry_consumes x es)
  where
    by_test : (b : Bool) → consuming_in (with_entry x es) ≡ one_consuming x.mode + consuming_in es
        → consuming_in (cond b (x ∷ e ∷ es) (e ∷ with_entry x es)) ≡ one_consuming x.mode + consuming_in (e ∷ es)
    by_test true rest = refl
    by_test false rest = omega (arith, rest)

added_consume : (es : List IdealEntry) (p : Partition) (s : Sequence) (is : List Instance)
    → consuming_in (with_consuming es p s is) ≡ length is + consuming_in es
added_consume es p s [] = omega arith
added_consume es p s (i ∷ is) = omega (arith, entry_consumes (consuming p s i) (with_consuming es p s is), added_consume es p s is)

online_consumes : (p : Partition) (s : Sequence) (es : List IdealEntry) → consuming_in (map (turned_online p s) es) ≤ consuming_in es
online_consumes p s [] = omega arith
online_consumes p s (e ∷ es) = by_test (is_of p s e) (online_consumes p s es)
  where
    by_test : (b : Bool) → consuming_in (map (turned_online p s) es) ≤ consuming_in es
        → one_consuming (cond b (record e { mode = Online }) e).mode + consuming_in (map (turned_online p s) es) ≤ one_consuming e.mode + consuming_in es
    by_test true rest = omega (arith, rest)
    by_test false rest = omega (arith, rest)

pub commit_consumes : (es : List IdealEntry) (p : Partition) (s : Sequence) (next : List Instance)
    → consuming_in (commit_step_of es p s next) ≤ length next + consuming_in es
commit_consumes es p s next = by_tests (has_entry es p s) (has_entry es p (next_sequence s))
  where
    online : List IdealEntry
    online = map (turned_online p s) es

    by_tests : (b c : Bool) → consuming_in (cond b (cond c online (with_consuming online p (next_sequence s) next)) es) ≤ length next + consuming_in es
    by_tests true true = omega (arith, online_consumes p s es)
    by_tests true false = omega (arith, online_consumes p s es, added_consume online p (next_sequence s) next)
    by_tests false c = omega arith

module _ (p : Partition) (s : Sequence) (i : Instance) where
  mode_consumes : (m : Mode) → one_consuming (offline_mode m) ≡ 0
  mode_consumes Consuming = refl
  mode_consumes Online = refl
  mode_consumes Offline = refl

  one_falls : (m : Mode) → is_consuming m ≡ true → one_consuming m ≡ 1
  one_falls Consuming e = refl
  one_falls Online e = absurd (false≢true e)
  one_falls Offline e = absurd (false≢true e)

  offline_fewer : (es : List IdealEntry) → consuming_in (set_offline_of es p s i) ≤ consuming_in es
  offline_fewer [] = omega arith
  offline_fewer (e ∷ es) = by_test (is_of_instance p s i e) (offline_fewer es)
    where
      by_test : (b : Bool) → consuming_in (set_offline_of es p s i) ≤ consuming_in es
          → one_consuming (cond b (record e { mode = offline_mode e.mode }) e).mode + consuming_in (set_offline_of es p s i)
          ≤ one_consuming e.mode + consuming_in es
      by_test true rest = omega (arith, rest, mode_consumes e.mode)
      by_test false rest = omega (arith, rest)

  -- one that is turned OFFLINE consumes no more
  pub offline_consumes : (es : List IdealEntry) → offline_changes es p s i ≡ true → consuming_in (set_offline_of es p s i) < consuming_in es
  offline_consumes [] changes = absurd (false≢true changes)
  offline_consumes (e ∷ es) changes =
      by_test (is_of_instance p s i e) (is_consuming e.mode) refl (λ more. offline_consumes es more) (offline_fewer es) changes
    where
      turned : Bool → ℕ
      turned b = one_consuming (cond b (record e { mode = offline_mode e.mode }) e).mode + consuming_in (set_offline_of es p s i)

      by_test : (b c : Bool) → is_consuming e.mode ≡ c → (offline_changes es p s i ≡ true → consuming_in (set_offline_of es p s i) < consuming_in es)
          → consuming_in (set_offline_of es p s i) ≤ consuming_in es → ((b && c) || offline_changes es p s i) ≡ true
          → turned b < one_consuming e.mode + consuming_in es
      by_test true true is further fewer any = omega (arith, mode_consumes e.mode, one_falls e.mode is, fewer)
      by_test true false is further fewer any = omega (arith, mode_consumes e.mode, further any)
      by_test false c is further fewer any = omega (arith, further any)
