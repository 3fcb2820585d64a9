-- A job has nothing to change exactly where its step leaves the entries as they are.
use Rattle.std.proofs.Common.{◌≡◌, ◌≤◌, Bool, true, false, cond, ◌&&◌, ◌||◌, not, List, [], ◌∷◌, length, map, refl, sym, ◌∙◌, ap, arith}
use Rattle.std.specs.Prelude.{◌↔◌}
use Rattle.std.specs.List.{list_all, list_any}
use Rattle.std.proofs.lemmas.Bool.{and_parts, false≢true}
use Rattle.std.proofs.lemmas.List.{length-map}
use Rattle.rt_base.specs.declared.numbers.Instance.{Instance}
use Rattle.rt_base.specs.declared.numbers.Moment.{Moment}
use Rattle.rt_base.specs.declared.numbers.Partition.{Partition}
use Rattle.rt_base.specs.declared.numbers.Sequence.{Sequence}
use Rattle.rt_model.specs.declared.asked.Asked.{Asked}
use Rattle.rt_model.specs.declared.ideal_state.IdealEntry.{IdealEntry}
use Rattle.rt_model.specs.declared.ideal_state.Mode.{Mode}
use Rattle.rt_model.specs.declared.ideal_state.Mode.TheVariants.{Consuming, Online, Offline}
use Rattle.rt_model.specs.Ideal.{is_of, is_of_instance, has_entry, next_sequence, offline_mode, turned_offline, turned_online, with_consuming, commit_step_of}
use Rattle.rt_commit.specs.declared.job.Job.{Job}
use Rattle.rt_commit.specs.declared.job.JobStage.TheVariants as stage
use Rattle.rt_commit.specs.declared.job.JobStage.{JobStage}
use Rattle.rt_commit.specs.declared.work.Work.TheVariants as work
use Rattle.rt_commit.specs.declared.work.Work.{Work}
use Rattle.rt_commit.specs.Assignment.{Assigned, replicas_in}
use Rattle.rt_commit.specs.Calls.{entries_set}
use Rattle.rt_commit.specs.Changes.{are_online, commit_changes, is_consuming, is_online}
use Rattle.rt_commit.specs.Job.{call_at, changed_entries, changes, job_call, job_sets, sets_at}
use Rattle.rt_commit.proofs.Counting.{consuming_counted, replicas_counted}

-- ---- a list whose items all stay

head_same : {X : Type 0} (x y : X) (xs ys : List X) → x ∷ xs ≡ y ∷ ys → x ≡ y
head_same x y xs ys e = cc

tail_same : {X : Type 0} (x y : X) (xs ys : List X) → x ∷ xs ≡ y ∷ ys → xs ≡ ys
tail_same x y xs ys e = cc

all_stay : {X : Type 0} (f : X → X) (t : X → Bool) (xs : List X) → ((x : X) → t x ≡ true → f x ≡ x) → list_all t xs ≡ true → map f xs ≡ xs
all_stay f t [] stays e = refl
all_stay f t (x ∷ xs) stays e =
    let parts = and_parts (t x) (list_all t xs) e in
    ap (λ y. y ∷ map f xs) (stays x parts.0) ∙ ap (λ ys. x ∷ ys) (all_stay f t xs stays parts.1)

both : (a b : Bool) → a ≡ true → b ≡ true → (a && b) ≡ true
both a b e f = rw (e, f) refl

all_stayed : {X : Type 0} (f : X → X) (t : X → Bool) (xs : List X) → ((x : X) → f x ≡ x → t x ≡ true) → map f xs ≡ xs → list_all t xs ≡ true
all_stayed f t [] tests e = refl
all_stayed f t (x ∷ xs) tests e =
    both (t x) (list_all t xs) (tests x (head_same (f x) x (map f xs) xs e)) (all_stayed f t xs tests (tail_same (f x) x (map f xs) xs e))

either_false : (a b : Bool) → (a || b) ≡ false → (a ≡ false) × (b ≡ false)
either_false true b e = absurd (cc)
either_false false b e = (refl, e)

neither : (a b : Bool) → a ≡ false → b ≡ false → (a || b) ≡ false
neither a b e f = rw (e, f) refl

none_turn : {X : Type 0} (f : X → X) (t : X → Bool) (xs : List X) → ((x : X) → t x ≡ false → f x ≡ x) → list_any t xs ≡ false → map f xs ≡ xs
none_turn f t [] stays e = refl
none_turn f t (x ∷ xs) stays e =
    let parts = either_false (t x) (list_any t xs) e in
    ap (λ y. y ∷ map f xs) (stays x parts.0) ∙ ap (λ ys. x ∷ ys) (none_turn f t xs stays parts.1)

none_turned : {X : Type 0} (f : X → X) (t : X → Bool) (xs : List X) → ((x : X) → f x ≡ x → t x ≡ false) → map f xs ≡ xs → list_any t xs ≡ false
none_turned f t [] tests e = refl
none_turned f t (x ∷ xs) tests e =
    neither (t x) (list_any t xs) (tests x (head_same (f x) x (map f xs) xs e)) (none_turned f t xs tests (tail_same (f x) x (map f xs) xs e))

-- ---- an entry that is turned ONLINE

abbrev in_mode : IdealEntry → Mode → IdealEntry
in_mode e m = record e { mode = m }

online_is : (m : Mode) → is_online m ≡ true → m ≡ Online
online_is Consuming e = absurd (false≢true e)
online_is Online e = refl
online_is Offline e = absurd (false≢true e)

online_stays : (p : Partition) (s : Sequence) (x : IdealEntry) → (not (is_of p s x) || is_online x.mode) ≡ true → turned_online p s x ≡ x
online_stays p s x e = by_test (is_of p s x) e
  where
    by_test : (b : Bool) → (not b || is_online x.mode) ≡ true → cond b (in_mode x Online) x ≡ x
    by_test true f = ap (in_mode x) (sym (online_is x.mode f))
    by_test false f = refl

online_stayed : (p : Partition) (s : Sequence) (x : IdealEntry) → turned_online p s x ≡ x → (not (is_of p s x) || is_online x.mode) ≡ true
online_stayed p s x e = by_test (is_of p s x) e
  where
    by_test : (b : Bool) → cond b (in_mode x Online) x ≡ x → (not b || is_online x.mode) ≡ true
    by_test true f = ap (λ (y : IdealEntry). is_online y.mode) (sym f)
    by_test false f = refl

-- ---- an entry that is turned OFFLINE

mode_stays : (m : Mode) → is_consuming m ≡ false → offline_mode m ≡ m
mode_stays Consuming e = absurd (false≢true (sym e))
mode_stays Online e = refl
mode_stays Offline e = refl

mode_stayed : (m : Mode) → offline_mode m ≡ m → is_consuming m ≡ false
mode_stayed Consuming e = absurd (cc)
mode_stayed Online e = refl
mode_stayed Offline e = refl

offline_stays : (p : Partition) (s : Sequence) (i : Instance) (x : IdealEntry) → (is_of_instance p s i x && is_consuming x.mode) ≡ false
    → turned_offline p s i x ≡ x
offline_stays p s i x e = by_test (is_of_instance p s i x) e
  where
    by_test : (b : Bool) → (b && is_consuming x.mode) ≡ false → cond b (in_mode x (offline_mode x.mode)) x ≡ x
    by_test true f = ap (in_mode x) (mode_stays x.mode f)
    by_test false f = refl

offline_stayed : (p : Partition) (s : Sequence) (i : Instance) (x : IdealEntry) → turned_offline p s i x ≡ x
    → (is_of_instance p s i x && is_consuming x.mode) ≡ false
offline_stayed p s i x e = by_test (is_of_instance p s i x) e
  where
    by_test : (b : Bool) → cond b (in_mode x (offline_mode x.mode)) x ≡ x → (b && is_consuming x.mode) ≡ false
    by_test true f = mode_stayed x.mode (ap (λ (y : IdealEntry). y.mode) f)
    by_test false f = refl

-- ---- a commit

module _ (a : Assigned) (es : List IdealEntry) (p : Partition) (s : Sequence) (some : 1 ≤ a.replication) where
  abbrev online : List IdealEntry
  online = map (turned_online p s) es

  abbrev grown : List IdealEntry
  grown = with_consuming online p (next_sequence s) (replicas_in a p)

  abbrev left : Bool → Bool → List IdealEntry
  left b c = cond b (cond c online grown) es

  not_grown : grown ≡ es → ⊥
  not_grown e =
      omega (
        arith,
        some,
        ap length e,
        consuming_counted online p (next_sequence s) (replicas_in a p),
        replicas_counted a p,
        length-map es (turned_online p s),
      )

  commit_stays : commit_changes es p s ≡ false → commit_step_of es p s (replicas_in a p) ≡ es
  commit_stays e = by_tests (has_entry es p s) (has_entry es p (next_sequence s)) (are_online es p s) refl e
    where
      by_tests : (b c o : Bool) → are_online es p s ≡ o → (b && not (o && c)) ≡ false → left b c ≡ es
      by_tests false c o is f = refl
      by_tests true true true is f = all_stay (turned_online p s) (λ x. not (is_of p s x) || is_online x.mode) es (online_stays p s) is
      by_tests true true false is f = absurd (false≢true (sym f))
      by_tests true false true is f = absurd (false≢true (sym f))
      by_tests true false false is f = absurd (false≢true (sym f))

  commit_stayed : commit_step_of es p s (replicas_in a p) ≡ es → commit_changes es p s ≡ false
  commit_stayed e = by_tests (has_entry es p s) (has_entry es p (next_sequence s)) e
    where
      by_tests : (b c : Bool) → left b c ≡ es → (b && not (are_online es p s && c)) ≡ false
      by_tests false c f = refl
      by_tests true true f =
          let is = all_stayed (turned_online p s) (λ x. not (is_of p s x) || is_online x.mode) es (online_stayed p s) f in
          ap (λ o. not (o && true)) is
      by_tests true false f = absurd (not_grown f)

-- ---- a job

pub changes_nothing : (a : Assigned) (q : Asked) (w : Work) (es : List IdealEntry) → 1 ≤ a.replication
    → (changes q w es ≡ false) ↔ (changed_entries a q w es ≡ es)
changes_nothing a q (work.Commit done) es some =
    (commit_stays a es q.partition q.sequence some, commit_stayed a es q.partition q.sequence some)
changes_nothing a q work.Offline es some =
    let p = q.partition in
    let s = q.sequence in
    let i = q.number.instance in (
      none_turn (turned_offline p s i) (λ x. is_of_instance p s i x && is_consuming x.mode) es (offline_stays p s i),
      none_turned (turned_offline p s i) (λ x. is_of_instance p s i x && is_consuming x.mode) es (offline_stayed p s i),
    )

-- ---- the number of entries that a step sets

counts_at : (a : Assigned) (q : Asked) (now : Moment) (from : JobStage) → sets_at a q from ≡ entries_set (call_at a q now from)
counts_at a q now (stage.Check from end path) = refl
counts_at a q now (stage.Done from commit) = refl
counts_at a q now (stage.Next done) = refl
counts_at a q now (stage.IdealRead w found) = refl
counts_at a q now (stage.IdealSet w found ideal) = refl
counts_at a q now stage.Ended = refl

pub counts_set : (a : Assigned) (j : Job) (now : Moment) → job_sets a j ≡ entries_set (job_call a j now)
counts_set a j now = counts_at a j.asked now j.stage
