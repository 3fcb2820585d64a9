-- The job of a number, through a step of it.
use Rattle.std.proofs.Common.{◌≡◌, ℕ, ◌+◌, ◌<◌, ◌≤◌, Bool, true, false, cond, List, length, Option, Some, None, nat_lt, refl, sym, ◌∙◌, ap, subst, arith, get_or, ⊎_elim}
use Rattle.std.specs.Prelude.{slice_get, slice_set}
use Rattle.std.specs.List.{position, position_or_len, remove}
use Rattle.std.proofs.lemmas.Bool.{cases_lt, eqb-true, le-ltb, lt-ltb}
use Rattle.std.proofs.lemmas.List.{get_or-set_same, get_or-set_other, length-set}
use Rattle.std.proofs.lemmas.List.Edits.{get_or-remove_above, get_or-remove_below, length-remove}
use Rattle.std.proofs.lemmas.List.Quantifiers.{position-Some}
use Rattle.std.proofs.lemmas.List.Sums.{position_or_len_is}
use Rattle.std.proofs.lemmas.Option.{get_or_from_slice_get, slice_get-get_or, slice_get_within}
use Rattle.rt_model.specs.declared.reply.ReplyStatus.{ReplyStatus}
use Rattle.rt_commit.specs.declared.job.Job.{Job}
use Rattle.rt_commit.specs.declared.job.JobStage.{JobStage}
use Rattle.rt_commit.specs.Job.{at_stage, Stepping, commits}
use Rattle.rt_commit.specs.Laws.{IsTrying}
use Rattle.rt_commit.proofs.Ending.{Falls, some_left}
use Rattle.rt_controller.specs.Controller.{Controlling}
use Rattle.rt_controller.specs.Lasting.{AreNumbered}
use Rattle.rt_controller.specs.Right.{job_at, left_in, left_of}
use Rattle.rt_controller.specs.Working.{has_number, job_place, settled, with_stage}
use Rattle.rt_controller.proofs.Paired.{remove_set}

-- ---- places

pub position_at : {X : Type 0} (p : X → Bool) (xs : List X) (i : ℕ) → position_or_len p xs ≡ i → i < length xs → position p xs ≡ Some i
position_at p xs i e lt =
    ap (λ n. cond (nat_lt n (length xs)) (Some n) None) e ∙ ap (λ b. cond b (Some i) None) (lt-ltb i (length xs) lt)

position_past : {X : Type 0} (p : X → Bool) (xs : List X) → position_or_len p xs ≡ length xs → position p xs ≡ None
position_past p xs e =
    ap (λ n. cond (nat_lt n (length xs)) (Some n) None) e
    ∙ ap (λ b. cond b (Some (length xs)) None) (le-ltb (length xs) (length xs) (omega arith))

-- one that passes is put where the first one stood
position_set : {X : Type 0} (p : X → Bool) (xs : List X) (i : ℕ) (x y : X) → position p xs ≡ Some i → slice_get xs i ≡ Some x → p y ≡ true
    → position p (slice_set xs i y) ≡ Some i
position_set {X = X} p xs i x y e at passes =
    let found = position-Some p xs i x e in
    let size = length-set xs i y in
    let P : X → Type 0 = λ z. p z ≡ true in
    let F : X → Type 0 = λ z. p z ≡ false in
    position_at p (slice_set xs i y) i
    (position_or_len_is p (slice_set xs i y) i x (omega (arith, found.0, size))
    (λ k lt. subst F (sym (get_or-set_other xs i k y x (λ same. absurd (omega (arith, lt, same))))) (found.2 k lt))
    (λ lt. subst P (sym (get_or-set_same xs i y x found.0)) passes))
    (omega (arith, found.0, size))

pub got_set : {X : Type 0} (xs : List X) (i : ℕ) (y : X) → i < length xs → slice_get (slice_set xs i y) i ≡ Some y
got_set xs i y lt =
    slice_get-get_or (slice_set xs i y) i y (omega (arith, lt, length-set xs i y)) ∙ ap Some (get_or-set_same xs i y y lt)

-- ---- the job goes on

abbrev some_job : Job → Option Job
some_job j = Some j

module _ (js : List Job) (n place : ℕ) (j : Job) (found : job_place js n ≡ Some place) (at : slice_get js place ≡ Some j) where
  passes : has_number n j ≡ true
  passes =
      let P : Job → Type 0 = λ k. has_number n k ≡ true in
      subst P (get_or_from_slice_get js place j j at) (position-Some (has_number n) js place j found).1

  pub job_goes : (to : JobStage) → job_at (slice_set js place (at_stage j to)) (job_place (slice_set js place (at_stage j to)) n) ≡ Some (at_stage j to)
  job_goes to =
      let new = slice_set js place (at_stage j to) in
      ap (job_at new) (position_set (has_number n) js place j (at_stage j to) found at passes)
      ∙ got_set js place (at_stage j to) (slice_get_within js place j at)

  -- another job has another number
  other_number : (started i : ℕ) (d : Job) → AreNumbered js started → i < length js → (i ≡ place → ⊥) → has_number n (get_or js i d) ≡ false
  other_number started i d k lt other = by_test (has_number n (get_or js i d)) refl
    where
      here : (get_or js place d).number ≡ n
      here = ap (λ (x : Job). x.number) (get_or_from_slice_get js place j d at) ∙ eqb-true j.number n passes

      differs : (get_or js i d).number ≡ n → ⊥
      differs e =
          ⊎_elim
          (λ before. absurd (omega (arith, k.rising i place d before (slice_get_within js place j at), here, e)))
          (λ after. absurd (omega (arith, k.rising place i d (more after) lt, here, e)))
          (cases_lt i place)
        where
          more : place ≤ i → place < i
          more le = ⊎_elim (λ less. less) (λ ge. absurd (other (omega (arith, le, ge)))) (cases_lt place i)

      by_test : (b : Bool) → has_number n (get_or js i d) ≡ b → b ≡ false
      by_test true e = absurd (differs (eqb-true (get_or js i d).number n e))
      by_test false e = refl

  pub job_leaves : (started : ℕ) → AreNumbered js started → job_place (remove js place) n ≡ None
  job_leaves started k =
      let size = length-remove js place (slice_get_within js place j at) in
      let F : Job → Type 0 = λ x. has_number n x ≡ false in
      position_past (has_number n) (remove js place)
      (position_or_len_is (has_number n) (remove js place) (length (remove js place)) j (omega arith)
      (λ i lt. left i (omega (arith, lt, size)))
      (λ lt. absurd (omega (arith, lt))))
    where
      within : place < length js
      within = slice_get_within js place j at

      left : (i : ℕ) → i + 1 < length js + 0 → has_number n (get_or (remove js place) i j) ≡ false
      left i lt =
          let F : Job → Type 0 = λ x. has_number n x ≡ false in
          ⊎_elim
          (λ below.
          subst F (sym (get_or-remove_below js place j i below within))
          (other_number started i j k (omega (arith, lt)) (λ e. absurd (omega (arith, below, e)))))
          (λ above.
          subst F (sym (get_or-remove_above js place j i above within))
          (other_number started (i + 1) j k (omega (arith, lt)) (λ e. absurd (omega (arith, above, e)))))
          (cases_lt i place)

-- a job that ends is gone
pub job_gone : (js : List Job) (n place started : ℕ) (j : Job) (to : JobStage) → job_place js n ≡ Some place → slice_get js place ≡ Some j
    → AreNumbered js started
    → job_at (remove (slice_set js place (at_stage j to)) place) (job_place (remove (slice_set js place (at_stage j to)) place) n) ≡ None
job_gone js n place started j to found at k =
    let new = remove (slice_set js place (at_stage j to)) place in
    let none : job_place new n ≡ None =
    ap (λ (l : List Job). job_place l n) (remove_set js place (at_stage j to)) ∙ job_leaves js n place j found at started k in
    ap (job_at new) none

-- ---- the steps that are left

pub fewer_left : (c : Controlling) (n place : ℕ) (j : Job) (x : Stepping) (o : Option ReplyStatus) → job_place c.jobs n ≡ Some place
    → slice_get c.jobs place ≡ Some j → AreNumbered c.jobs c.started → IsTrying j.stage → (o ≡ None → Falls j.stage x.stage)
    → left_of (settled (with_stage c place j x.stage) place j.asked (commits j.stage) x.did o).controller n < left_of c n
fewer_left c n place j x None found at k trying falls =
    let was = ap left_in (ap (job_at c.jobs) found ∙ at) in
    let is = ap left_in (job_goes c.jobs n place j found at x.stage) in
    omega (arith, was, is, (falls refl).fewer)
fewer_left c n place j x (Some r) found at k trying falls =
    let was = ap left_in (ap (job_at c.jobs) found ∙ at) in
    let is = ap left_in (job_gone c.jobs n place c.started j x.stage found at k) in
    omega (arith, was, is, some_left j.stage trying)
