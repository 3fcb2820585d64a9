use Rattle.std.proofs.Common.{◌++◌, ◌∷◌, [], ◌∙◌, ap, map, Some, slice_get}
use Rattle.std.specs.Map.{keys_of, lookup}
use Rattle.rt_agg.specs.Accumulators.{known_of}
use Rattle.rt_agg.specs.Grouped.{same_key}
use Rattle.rt_agg.proofs.Holding.{entry_of_key, key_last, known_of_entry}
use Rattle.rt_agg.proofs.Merges.{started_found, started_new}
use Rattle.rt_agg.proofs.merging.start_one.Goals as goal

pub returns-in-Some-clause-known : goal.returns-in-Some-clause-known
returns-in-Some-clause-known c q =
    let table = c.args.table.now in
    let there = entry_of_key table.entries c.in-Some.place c.args.key.now c.in-Some.ensures.some in
    started_found (map (known_of table.columns q []) table.items) table.entries q c.args.key.now there.0
    (known_of_entry table.entries c.in-Some.place c.args.key.now there.0 c.find.ensures.apart there.1)

pub start-requires : goal.start-requires
start-requires c = ap (λ k. lookup (same_key k) c.args.table.now.entries) c.in_ok-key-in-None.ensures ∙ c.in-None.ensures.none

pub returns-in_ok-place-in-None-clause-known :
    goal.returns-in_ok-place-in-None-clause-known
returns-in_ok-place-in-None-clause-known c q =
    let table = c.args.table.now in
    started_new (λ k. map (known_of table.columns k []) table.items) table.entries c.start.new.self.entries q c.args.key.now c.in-None.ensures.none
    (c.in_ok-place-in-None.ensures.entries
    ∙ (λ j. table.entries ++ (c.in_ok-key-in-None.ensures j, map (known_of table.columns (c.in_ok-key-in-None.ensures j) []) table.items) ∷ []))

pub returns-in_ok-place-in-None-clause-at : goal.returns-in_ok-place-in-None-clause-at
returns-in_ok-place-in-None-clause-at c =
    let table = c.args.table.now in
    let key = c.in_ok-key-in-None.key in
    (λ j. slice_get (keys_of (c.in_ok-place-in-None.ensures.entries j)) (c.in_ok-place-in-None.ensures.group j))
    ∙ key_last table.entries key (map (known_of table.columns key []) table.items) ∙ ap Some c.in_ok-key-in-None.ensures
