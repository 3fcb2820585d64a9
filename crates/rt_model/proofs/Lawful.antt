-- The laws of a lawful history, from what each write keeps.
use Rattle.std.proofs.Common.{◌≡◌, ℕ, ◌+◌, ◌-◌, ◌<◌, ◌≤◌, ◌⊎◌, inl, inr, List, [], ◌∷◌, ◌++◌, length, Some, refl, sym, ◌∙◌, ap, subst, arith}
use Rattle.std.specs.List.{range_with_len}
use Rattle.std.proofs.lemmas.Bool.{cases_lt}
use Rattle.std.proofs.lemmas.List.{append_assoc, append-nil}
use Rattle.std.proofs.lemmas.Option.{same_Some}
use Rattle.rt_base.specs.declared.numbers.Partition.{Partition}
use Rattle.rt_model.specs.declared.node.Node.TheVariants as node
use Rattle.rt_model.specs.declared.node.Seen.{Seen}
use Rattle.rt_lists.specs.Members.{Has}
use Rattle.rt_model.specs.History.{last_of, last_write, value_by, value_in, IsVersioned}
use Rattle.rt_model.specs.Metadata.{node_key, life_of, Ends, IsDeleted}
use Rattle.rt_model.specs.Chain.{IsLife, deletions_of}
use Rattle.rt_model.specs.Tiled.{done_ranges_of}
use Rattle.rt_model.specs.Starting.{Starting, starting_contents}
use Rattle.rt_model.specs.Lawful.{IsLawfulStep, AreLawfulAfter, IsLawfulHistory}
use Rattle.rt_model.specs.Laws.{Begins, HasChains, HasLives, IsEnding, IsGoneLast, EndsOnce, HasEndings, DeletesUpwards, HasDeletions, HasTiles, MarksRise, HasIdealState, HasGroundedEntries, HasUnbrokenRuns, HasRisingRuns, HasPassedDeletions}
use Rattle.rt_model.proofs.Histories.{Has-writes_of, writes_of-Has}
use Rattle.rt_model.proofs.Partitions.{InOrder, deleted_over}
use Rattle.rt_model.proofs.Chains.{InOrder-chain, open_first, final_second, IsEndOf, first_of}
use Rattle.rt_model.proofs.Tilings.{InOrder-tiled, mark_rises, Tiles-offsets}
use Rattle.rt_model.proofs.Kept.{lawful_kept}

-- ---- histories that go on

AreLawfulAfter-front :
    (s : Starting) (before xs ys : List Seen) → AreLawfulAfter s before (xs ++ ys) → AreLawfulAfter s before xs
AreLawfulAfter-front s before [] ys a = tt
AreLawfulAfter-front s before (x ∷ xs) ys a = (a.0, AreLawfulAfter-front s (before ++ x ∷ []) xs ys a.1)

AreLawfulAfter-more :
    (s : Starting) (before xs : List Seen) (w : Seen) → AreLawfulAfter s before xs → IsLawfulStep s (before ++ xs) w
    → AreLawfulAfter s before (xs ++ w ∷ [])
AreLawfulAfter-more s before [] w a step =
    let P : List Seen → Type 0 = λ h. IsLawfulStep s h w in (subst P (append-nil before) step, tt)
AreLawfulAfter-more s before (x ∷ xs) w a step =
    let P : List Seen → Type 0 = λ h. IsLawfulStep s h w in (
      a.0,
      AreLawfulAfter-more s (before ++ x ∷ []) xs w a.1
          (subst P (sym (append_assoc before (x ∷ []) xs)) step),
    )

-- lists that begin alike go on alike
same_rest : (xs ys zs : List Seen) → xs ++ ys ≡ xs ++ zs → ys ≡ zs
same_rest [] ys zs e = e
same_rest (x ∷ xs) ys zs e = same_rest xs ys zs (cc)

pub start_is_lawful : (s : Starting) → IsLawfulHistory s (starting_contents s)
start_is_lawful s =
    record { later = []; whole = sym (append-nil (starting_contents s)); lawful = tt }

pub step_is_lawful :
    (s : Starting) (h : List Seen) (w : Seen) → IsLawfulHistory s h → IsLawfulStep s h w
    → IsLawfulHistory s (h ++ w ∷ [])
step_is_lawful s h w l step =
    let P : List Seen → Type 0 = λ x. IsLawfulStep s x w in
    record {
      later = l.later ++ w ∷ [];
      whole = ap (λ (x : List Seen). x ++ w ∷ []) l.whole ∙ append_assoc (starting_contents s) l.later (w ∷ []);
      lawful = AreLawfulAfter-more s (starting_contents s) l.later w l.lawful (subst P l.whole step);
    }

pub prefix_is_lawful :
    (s : Starting) (h more : List Seen) → Begins s h → IsLawfulHistory s (h ++ more) → IsLawfulHistory s h
prefix_is_lawful s h more begins l =
    let rest : begins.0 ++ more ≡ l.later =
    same_rest (starting_contents s) (begins.0 ++ more) l.later
    (sym (append_assoc (starting_contents s) begins.0 more)
    ∙ ap (λ (x : List Seen). x ++ more) (sym begins.1)
    ∙ l.whole) in
    let P : List Seen → Type 0 = λ x. AreLawfulAfter s (starting_contents s) x in
    record {
      later = begins.0;
      whole = begins.1;
      lawful = AreLawfulAfter-front s (starting_contents s) begins.0 more (subst P (sym rest) l.lawful);
    }

-- ---- nodes

pub versions_count_writes : (s : Starting) (h : List Seen) → IsLawfulHistory s h → IsVersioned h
versions_count_writes s h l = (lawful_kept s h l).versions

pub has_chains : (s : Starting) (h : List Seen) → IsLawfulHistory s h → HasChains s h
has_chains s h l p lt = InOrder-chain h p ((lawful_kept s h l).order p lt)

pub has_lives : (s : Starting) (h : List Seen) → IsLawfulHistory s h → HasLives s h
has_lives s h l p q lt = ((lawful_kept s h l).order p lt).lives q

ends_last :
    (h : List Seen) (p : Partition) (q : ℕ) (ws : List Seen) (w : Seen) → life_of h p q ≡ ws → IsLife ws
    → IsEndOf ws w → (last_write h (node_key p q) ≡ Some w) ⊎ IsGoneLast h p q
ends_last h p q ws w same l e = at_rest e.rest (same ∙ e.lives) (subst P e.lives l)
  where
    P : List Seen → Type 0
    P = IsLife

    at_rest :
        (rest : List Seen) → life_of h p q ≡ e.created ∷ w ∷ rest → IsLife (e.created ∷ w ∷ rest)
        → (last_write h (node_key p q) ≡ Some w) ⊎ IsGoneLast h p q
    at_rest [] life l = inl (ap last_of life)
    at_rest (g ∷ []) life l = inr (g, ap last_of life, l.2)
    at_rest (g ∷ v ∷ rest) life l = absurd l

second_of : Seen → List Seen → Seen
second_of d [] = d
second_of d (c ∷ []) = d
second_of d (c ∷ e ∷ ws) = e

pub InOrder-endings : (h : List Seen) (p : Partition) (q : ℕ) → InOrder h p → EndsOnce h p q
unfolding second_of
InOrder-endings h p q o =
    record {
      once = λ v w a b.
          let x = end_of v a in
          let y = end_of w b in
          ap (second_of v) (sym x.lives ∙ y.lives);
      keeps = λ c w a b.
          let x = end_of w b in
          let first = open_first (life_of h p q) c (o.lives q) (Has-writes_of h c (node_key p q) a.has a.is_of) a.starts in
          let same : x.created ≡ c = same_Some x.created c (sym (ap first_of x.lives) ∙ first) in
          let P : Seen → Type 0 = λ y. Ends y.node w.node in
          subst P same x.ends;
      stays = λ w a. ends_last h p q (life_of h p q) w refl (o.lives q) (end_of w a);
    }
  where
    end_of : (w : Seen) → IsEnding h p q w → IsEndOf (life_of h p q) w
    end_of w a = final_second (life_of h p q) w (o.lives q) (Has-writes_of h w (node_key p q) a.has a.is_of) a.final

pub has_endings : (s : Starting) (h : List Seen) → IsLawfulHistory s h → HasEndings s h
has_endings s h l p q lt = InOrder-endings h p q ((lawful_kept s h l).order p lt)

-- a life that is over was ended by a deletion
pub over_deleted : (ws : List Seen) → IsLife ws → length ws ≡ 3 → (g : Seen) × Has ws g × (g.node ≡ node.Gone)
over_deleted [] l e = absurd (omega arith)
over_deleted (c ∷ []) l e = absurd (omega arith)
over_deleted (c ∷ d ∷ []) l e = absurd (omega arith)
over_deleted (c ∷ d ∷ g ∷ []) l e = (g, inr (inr (inl refl)), l.2)
over_deleted (c ∷ d ∷ g ∷ v ∷ ws) l e = absurd l

pub InOrder-deletions : (h : List Seen) (p : Partition) (q : ℕ) → InOrder h p → IsDeleted h p q → DeletesUpwards h p q
InOrder-deletions h p q o d =
    record {
      below = λ r lt.
          let g = over_deleted (life_of h p r) (o.lives r) (o.over r (omega (arith, low))) in
          let has = writes_of-Has h g.0 (node_key p r) g.1 in
          (g.0, has.0, has.1, g.2);
      above =
          let c = (InOrder-chain h p o).created (q + 1) (omega (arith, low, o.some)) in
          (c.0, c.1.has, c.1.is_of, c.1.starts);
      not_last = omega (arith, low, o.some);
    }
  where
    low_at : (q < deletions_of h p) ⊎ (deletions_of h p ≤ q) → q < deletions_of h p
    low_at (inl lt) = lt
    low_at (inr le) = absurd (omega (arith, o.present q le, deleted_over h p q o d))

    low : q < deletions_of h p
    low = low_at (cases_lt q (deletions_of h p))

pub has_deletions : (s : Starting) (h : List Seen) → IsLawfulHistory s h → HasDeletions s h
has_deletions s h l p q lt d = InOrder-deletions h p q ((lawful_kept s h l).order p lt) d

-- ---- ranges

pub has_tiles : (s : Starting) (h : List Seen) → IsLawfulHistory s h → HasTiles s h
has_tiles s h l p lt =
    let t = InOrder-tiled h p ((lawful_kept s h l).order p lt) in
    let zero_first : t.0 - 0 ≡ t.0 = omega arith in
    (t.0, t.1, Tiles-offsets 0 t.0 (done_ranges_of h p) t.1.all ∙ ap (range_with_len 0) zero_first)

pub marks_rise :
    (s : Starting) (h more : List Seen) → IsLawfulHistory s h → IsLawfulHistory s (h ++ more) → MarksRise s h more
marks_rise s h more l m p lt =
    mark_rises h more p ((lawful_kept s h l).order p lt) ((lawful_kept s (h ++ more) m).order p lt)

-- ---- the ideal state

pub has_ideal_state : (s : Starting) (h : List Seen) → IsLawfulHistory s h → HasIdealState h
has_ideal_state s h l =
    let r = (lawful_kept s h l).present in
    (r.0, r.1, ap value_in r.2 ∙ ap (λ n. value_by n r.0) r.3, r.3)

pub has_grounded_entries : (s : Starting) (h : List Seen) → IsLawfulHistory s h → HasGroundedEntries h
has_grounded_entries s h l = (lawful_kept s h l).grounded

pub has_unbroken_runs : (s : Starting) (h : List Seen) → IsLawfulHistory s h → HasUnbrokenRuns h
has_unbroken_runs s h l w p is = (lawful_kept s h l).unbroken w is p

pub has_rising_runs : (s : Starting) (h : List Seen) → IsLawfulHistory s h → HasRisingRuns h
has_rising_runs s h l w p is =
    let r = (lawful_kept s h l).onwards w is p in record { lowest = r.lowest; highest = r.highest }

pub has_passed_deletions : (s : Starting) (h : List Seen) → IsLawfulHistory s h → HasPassedDeletions h
has_passed_deletions s h l p q r d has = ((lawful_kept s h l).passed p q d).all r has

-- ---- nodes in order

pub nodes_are_in_order :
    (s : Starting) (h : List Seen) → IsLawfulHistory s h → (p : Partition) → p.0 < s.partitions → InOrder h p
nodes_are_in_order s h l p lt = (lawful_kept s h l).order p lt
