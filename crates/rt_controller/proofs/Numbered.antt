-- Jobs keep the order of their numbers.
use Rattle.std.proofs.Common.{◌≡◌, ℕ, ◌+◌, ◌<◌, List, [], ◌∷◌, ◌++◌, Some, sym, ◌∙◌, ap, subst, arith, get_or, ⊎_elim}
use Rattle.std.specs.Prelude.{slice_get, slice_set}
use Rattle.std.specs.List.{remove}
use Rattle.std.proofs.lemmas.Bool.{cases_eq}
use Rattle.std.proofs.lemmas.List.{get_or-set_same, get_or-set_other, length-set}
use Rattle.std.proofs.lemmas.List.Elements.{All-push, All-set, All-weaker}
use Rattle.std.proofs.lemmas.List.Quantifiers.{all_pairs_push, all_pairs_remove}
use Rattle.std.proofs.lemmas.Option.{get_or_from_slice_get, slice_get_within}
use Rattle.rt_lists.proofs.Lists.{All-found}
use Rattle.rt_commit.specs.declared.job.Job.{Job}
use Rattle.rt_commit.specs.declared.job.JobStage.{JobStage}
use Rattle.rt_commit.specs.Job.{at_stage}
use Rattle.rt_controller.specs.Lasting.{AreNumbered}
use Rattle.rt_controller.proofs.Keeps.{All-remove}
use Rattle.rt_controller.proofs.Paired.{remove_set}

abbrev Below : ℕ → Job → Type 0
Below n j = j.number < n

abbrev Before : Job → Job → Type 0
Before j k = j.number < k.number

pub none_numbered : (n : ℕ) → AreNumbered [] n
none_numbered n = record { below = λ k d lt. absurd (omega (arith, lt)); rising = λ i j d lt within. absurd (omega (arith, within)) }

pub start_numbered : (js : List Job) (n : ℕ) (j : Job) → j.number ≡ n → AreNumbered js n → AreNumbered (js ++ j ∷ []) (n + 1)
start_numbered js n j e k =
    record {
      below =
          All-push (Below (n + 1)) js j (All-weaker (Below n) (Below (n + 1)) (λ i lt. omega (arith, lt)) js k.below)
          (omega (arith, e));
      rising = all_pairs_push Before js j k.rising (λ i d lt. omega (arith, e, k.below i d lt));
    }

-- a job keeps its number from stage to stage
number_at : (js : List Job) (place : ℕ) (j : Job) (to : JobStage) (i : ℕ) (d : Job) → slice_get js place ≡ Some j
    → (get_or (slice_set js place (at_stage j to)) i d).number ≡ (get_or js i d).number
number_at js place j to i d at = ⊎_elim here other (cases_eq i place)
  where
    here : i ≡ place → (get_or (slice_set js place (at_stage j to)) i d).number ≡ (get_or js i d).number
    here e =
        ap (λ n. (get_or (slice_set js place (at_stage j to)) n d).number) e
        ∙ ap (λ (x : Job). x.number) (get_or-set_same js place (at_stage j to) d (slice_get_within js place j at))
        ∙ ap (λ (x : Job). x.number) (sym (get_or_from_slice_get js place j d at))
        ∙ ap (λ n. (get_or js n d).number) (sym e)

    other : (i ≡ place → ⊥) → (get_or (slice_set js place (at_stage j to)) i d).number ≡ (get_or js i d).number
    other e = ap (λ (x : Job). x.number) (get_or-set_other js place i (at_stage j to) d e)

pub goes_numbered : (js : List Job) (n place : ℕ) (j : Job) (to : JobStage) → slice_get js place ≡ Some j → AreNumbered js n
    → AreNumbered (slice_set js place (at_stage j to)) n
goes_numbered js n place j to at k =
    record {
      below = All-set (Below n) js place (at_stage j to) (All-found (Below n) js place j k.below at) k.below;
      rising = λ a b d lt within.
          omega (
            arith,
            k.rising a b d lt (omega (arith, within, length-set js place (at_stage j to))),
            number_at js place j to a d at,
            number_at js place j to b d at,
          );
    }

pub ends_numbered : (js : List Job) (n place : ℕ) (j : Job) (to : JobStage) → slice_get js place ≡ Some j → AreNumbered js n
    → AreNumbered (remove (slice_set js place (at_stage j to)) place) n
ends_numbered js n place j to at k =
    let P : List Job → Type 0 = λ l. AreNumbered l n in
    subst P (sym (remove_set js place (at_stage j to)))
    (record {
      below = All-remove (Below n) js place k.below;
      rising = all_pairs_remove Before js place (slice_get_within js place j at) k.rising;
    })
