-- A job stays as it is through what doesn't step it.
use Rattle.std.proofs.Common.{◌≡◌, ℕ, ◌+◌, ◌-◌, ◌<◌, ◌==◌, Bool, true, false, List, length, Option, Some, None, refl, sym, ◌∙◌, ap, subst, arith, get_or, ⊎_elim}
use Rattle.std.specs.Prelude.{slice_get, slice_set}
use Rattle.std.specs.List.{remove}
use Rattle.std.proofs.lemmas.Bool.{cases_lt, eq-eqb, eqb-true}
use Rattle.std.proofs.lemmas.List.{get_or-set_other, length-set}
use Rattle.std.proofs.lemmas.List.Edits.{get_or-remove_above, get_or-remove_below, length-remove}
use Rattle.std.proofs.lemmas.List.Quantifiers.{position-Some}
use Rattle.std.proofs.lemmas.List.Sums.{position_or_len_is}
use Rattle.std.proofs.lemmas.Option.{get_or_from_slice_get, none-some, same_Some, slice_get-get_or, slice_get_within}
use Rattle.rt_lists.specs.Members.{Has}
use Rattle.rt_lists.proofs.Members.{Has-place, Has-same, place-Has}
use Rattle.rt_model.specs.declared.reply.ReplyStatus.{ReplyStatus}
use Rattle.rt_commit.specs.declared.job.Job.{Job}
use Rattle.rt_commit.specs.Job.{at_stage, Stepping, commits}
use Rattle.rt_controller.specs.Controller.{Controlling}
use Rattle.rt_controller.specs.Lasting.{AreNumbered}
use Rattle.rt_controller.specs.Right.{job_at}
use Rattle.rt_controller.specs.Working.{has_number, job_place, settled, with_stage}
use Rattle.rt_controller.proofs.JobOf.{position_at}
use Rattle.rt_controller.proofs.Paired.{remove_set}

-- ---- the job of a number is the one that has it

-- what is found has the number
pub job_found : (js : List Job) (n : ℕ) (o : Option ℕ) (k : Job) → job_place js n ≡ o → job_at js o ≡ Some k → Has js k × (k.number ≡ n)
job_found js n None k e f = absurd (none-some k f)
job_found js n (Some place) k e f =
    let at = position-Some (has_number n) js place k e in
    let same = get_or_from_slice_get js place k k f in
    let P : Job → Type 0 = λ j. has_number n j ≡ true in
    (place-Has js place k f, eqb-true k.number n (subst P same at.1))

has_other : (a b : ℕ) → a < b → (a == b) ≡ false
has_other a b lt = by_test (a == b) refl
  where
    by_test : (t : Bool) → (a == b) ≡ t → t ≡ false
    by_test true e = absurd (omega (arith, lt, eqb-true a b e))
    by_test false e = refl

-- and whatever has it is found
pub found_job : (js : List Job) (started n : ℕ) (k : Job) → AreNumbered js started → Has js k → k.number ≡ n → job_at js (job_place js n) ≡ Some k
found_job js started n k numbered has e =
    let at = Has-place js k has in
    let lt = slice_get_within js at.0 k at.1 in
    let here = get_or_from_slice_get js at.0 k k at.1 in
    let P : Job → Type 0 = λ j. has_number n j ≡ true in
    let first = position_or_len_is (has_number n) js at.0 k (omega (arith, lt))
    (λ i less.
    let before = numbered.rising i at.0 k less lt in
    let number = ap (λ (j : Job). j.number) here in
    has_other (get_or js i k).number n (omega (arith, before, number, e)))
    (λ within. subst P (sym here) (eq-eqb k.number n e)) in
    ap (job_at js) (position_at (has_number n) js at.0 first lt) ∙ at.1

-- so a job that is kept is still found
pub job_stays : (js ks : List Job) (started n : ℕ) (k : Job) → AreNumbered ks started → (Has js k → Has ks k)
    → job_at js (job_place js n) ≡ Some k → job_at ks (job_place ks n) ≡ Some k
job_stays js ks started n k numbered kept e =
    let was = job_found js n (job_place js n) k refl e in
    found_job ks started n k numbered (kept was.0) was.1

-- ---- another job than the one that is stepped

pub set_keeps : (js : List Job) (place : ℕ) (j k y : Job) → slice_get js place ≡ Some j → (k ≡ j → ⊥) → Has js k → Has (slice_set js place y) k
set_keeps js place j k y at other has =
    let i = Has-place js k has in
    let lt = slice_get_within js i.0 k i.1 in
    let apart : i.0 ≡ place → ⊥ = λ e. other (same_Some k j (sym i.1 ∙ ap (slice_get js) e ∙ at)) in
    let there = get_or-set_other js place i.0 y k apart ∙ get_or_from_slice_get js i.0 k k i.1 in
    place-Has (slice_set js place y) i.0 k
    (slice_get-get_or (slice_set js place y) i.0 k (omega (arith, lt, length-set js place y)) ∙ ap Some there)

pub remove_keeps : (js : List Job) (place : ℕ) (j k : Job) → slice_get js place ≡ Some j → (k ≡ j → ⊥) → Has js k → Has (remove js place) k
remove_keeps js place j k at other has =
    let i = Has-place js k has in
    let lt = slice_get_within js i.0 k i.1 in
    let within = slice_get_within js place j at in
    let apart : i.0 ≡ place → ⊥ = λ e. other (same_Some k j (sym i.1 ∙ ap (slice_get js) e ∙ at)) in
    by_place i.0 (get_or_from_slice_get js i.0 k k i.1) lt within apart
  where
    there : (n : ℕ) → n < length (remove js place) → get_or (remove js place) n k ≡ k → Has (remove js place) k
    there n less e = place-Has (remove js place) n k (slice_get-get_or (remove js place) n k less ∙ ap Some e)

    below : (i : ℕ) → get_or js i k ≡ k → i < length js → place < length js → i < place → Has (remove js place) k
    below i e lt within less =
        there i (omega (arith, less, within, length-remove js place within)) (get_or-remove_below js place k i less within ∙ e)

    above : (i : ℕ) → get_or js i k ≡ k → i < length js → place < length js → place < i → Has (remove js place) k
    above i e lt within more =
        let back : i - 1 + 1 ≡ i = omega (arith, more) in
        there (i - 1) (omega (arith, more, lt, length-remove js place within))
        (get_or-remove_above js place k (i - 1) (omega (arith, more)) within ∙ ap (λ n. get_or js n k) back ∙ e)

    by_place : (i : ℕ) → get_or js i k ≡ k → i < length js → place < length js → (i ≡ place → ⊥) → Has (remove js place) k
    by_place i e lt within apart =
        ⊎_elim (below i e lt within)
        (λ ge. ⊎_elim (above i e lt within) (λ le. absurd (apart (omega (arith, ge, le)))) (cases_lt place i)) (cases_lt i place)

pub settled_keeps : (c : Controlling) (place : ℕ) (j : Job) (x : Stepping) (o : Option ReplyStatus) (k : Job) → slice_get c.jobs place ≡ Some j
    → (k ≡ j → ⊥) → Has c.jobs k
    → Has (settled (with_stage c place j x.stage) place j.asked (commits j.stage) x.did o).controller.jobs k
settled_keeps c place j x None k at other has = set_keeps c.jobs place j k (at_stage j x.stage) at other has
settled_keeps c place j x (Some r) k at other has =
    Has-same (remove c.jobs place) (remove (slice_set c.jobs place (at_stage j x.stage)) place) k (sym (remove_set c.jobs place (at_stage j x.stage)))
    (remove_keeps c.jobs place j k at other has)
