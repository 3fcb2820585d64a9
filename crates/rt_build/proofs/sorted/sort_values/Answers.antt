use Rattle.std.proofs.Common.{◌≡◌, ◌<◌, ℕ, List, All, Some, length, take, sym, ap, subst, ◌∙◌, arith, slice_get}
use Rattle.std.proofs.lemmas.List.{length-map}
use Rattle.rt_dict.specs.Values.{AreDistinctValues, AreIdsOf}
use Rattle.rt_mutable.specs.Arrivals.{arrivals_of, ids_of}
use Rattle.rt_build.specs.Renumbered.{next_id, renumbered}
use Rattle.rt_build.proofs.Fronts.{next_of, front_keys, front_ids, known_ids, are_sorted, few_keys}
use Rattle.rt_build.proofs.sorted.sort_values.Given.{Over}
use Rattle.rt_build.proofs.sorted.sort_values.Goals as goal
use Rattle.rt_build.proofs.sorted.sort_values.Goals.{After-count_used}

count : (g : Over) (c : After-count_used g) → c.count_used.result ≡ length (arrivals_of g.K.PartialEq.eq (take c.args.rows c.args.arrivals.now))
count g c =
    c.count_used.ensures ∙ ap (λ l. next_id (take c.args.rows l)) c.ids.ensures
    ∙ ap next_id (front_ids g.met.K.Eq.laws g.met.K.ColumnKey.exact c.args.arrivals.now c.args.rows)
    ∙ next_of g.met.K.Eq.laws g.met.K.ColumnKey.exact (take c.args.rows c.args.arrivals.now)

keys : (g : Over) (c : After-count_used g) → take c.count_used.result c.keys.result.now ≡ arrivals_of g.K.PartialEq.eq (take c.args.rows c.args.arrivals.now)
keys g c =
    (λ j. take (count g c j) (c.keys.ensures j)) ∙ front_keys g.met.K.Eq.laws g.met.K.ColumnKey.exact c.args.arrivals.now c.args.rows

ids : (g : Over) (c : After-count_used g) → take c.args.rows c.ids.result.now ≡ ids_of g.K.PartialEq.eq (take c.args.rows c.args.arrivals.now)
ids g c = ap (take c.args.rows) c.ids.ensures ∙ front_ids g.met.K.Eq.laws g.met.K.ColumnKey.exact c.args.arrivals.now c.args.rows

pub slice_bounds-keys-end : goal.slice_bounds-keys-end
slice_bounds-keys-end g c = count g c ∙ sym (ap length (keys g c))

pub identify-requires : goal.identify-requires
identify-requires g c =
    omega (arith, ap length (keys g c), few_keys g.met.K.Eq.laws g.met.K.ColumnKey.exact c.args.arrivals.now c.args.rows, c.ranges.rows)

pub renumber-requires : goal.renumber-requires
renumber-requires g c =
    let at = (goal.at.renumber-requires g c).After-count_used in
    let made = c.in_ok-identified.identified in
    let front = arrivals_of g.K.PartialEq.eq (take c.args.rows c.args.arrivals.now) in
    let size : length c.as_slice.result.now ≡ length front =
    ap length c.as_slice.ensures ∙ sym (length-map made.ids (slice_get made.dictionary))
    ∙ ap length c.in_ok-identified.ensures.ids ∙ length-map (take c.count_used.result c.keys.result.now) Some ∙ ap length (keys g at) in
    subst (λ (is : List ℕ). All (λ id. id < length c.as_slice.result.now) is) (sym (ids g at))
    (subst (λ (n : ℕ). All (λ id. id < n) (ids_of g.K.PartialEq.eq (take c.args.rows c.args.arrivals.now))) (sym size)
    (known_ids g.met.K.Eq.laws g.met.K.ColumnKey.exact (take c.args.rows c.args.arrivals.now)))

pub returns : goal.returns
returns g c =
    let at = (goal.at.returns g c).After-count_used in
    let made = c.in_ok-identified.identified in
    are_sorted g.met.K.Eq.laws g.met.K.ColumnKey.exact g.K.Key.below (take c.args.rows c.args.arrivals.now) made.dictionary made.ids c.in_ok-ids.ids
    (subst (λ (ks : List g.row.K.Denot). AreDistinctValues g.K.Key.below ks made.dictionary) (keys g at) c.in_ok-identified.ensures.distinct)
    (subst (λ (ks : List g.row.K.Denot). AreIdsOf made.dictionary ks made.ids) (keys g at) c.in_ok-identified.ensures.ids)
    (c.in_ok-ids.ensures ∙ (λ j. renumbered (c.as_slice.ensures j) (ids g at j)))
