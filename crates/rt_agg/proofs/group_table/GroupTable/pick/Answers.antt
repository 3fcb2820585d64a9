use Rattle.std.proofs.Common.{◌≡◌, ◌∙◌, ℕ, ap, length, map, subst, sym}
use Rattle.std.specs.List.{AllByRecursion}
use Rattle.rt_agg.specs.GroupTable.{Tabled, entries_from}
use Rattle.rt_agg.specs.Picking.{IsAmong, PicksGroups, kept}
use Rattle.rt_agg.specs.ResultHolder.{HasStarted, item_of}
use Rattle.rt_agg.proofs.Entries.{keys_are}
use Rattle.rt_agg.proofs.Kept.{keys_kept, keys_long}
use Rattle.rt_agg.proofs.Picked.{all_among, all_started, picks_groups}
use Rattle.rt_agg.proofs.Tabling.{table_of}
use Rattle.rt_agg.proofs.group_table.GroupTable.pick.Goals as goal

pub invariant_of-result : goal.invariant_of-result
invariant_of-result c =
    let other = c.other.inside in
    let marks = c.args.marks.now in
    let es = entries_from other.columns other.holders 0 other.keys in
    let long : length c.args.keys ≡ length (kept marks other.keys) =
    c.requires.long ∙ ap (λ (s : Tabled). length (kept marks s.entries)) (sym c.other.view_is)
    ∙ sym (keys_long (kept marks es)) ∙ ap length (keys_kept marks es ∙ ap (kept marks) (keys_are other.columns other.holders 0 other.keys)) in
    record {
      apart = c.requires.apart;
      started = subst (λ (n : ℕ). AllByRecursion (HasStarted n) c.in_ok-holders.holders) (sym long)
          (all_started other.holders marks other.keys c.in_ok-holders.holders c.other.invariant.started c.in_ok-holders.ensures.picked);
    }

pub returns-clause-keys : goal.returns-clause-keys
returns-clause-keys c = keys_are c.in_ok-columns.columns c.in_ok-holders.holders 0 c.args.keys

pub returns-clause-among : goal.returns-clause-among
returns-clause-among c =
    subst (λ (s : Tabled). AllByRecursion (IsAmong s.items) (map item_of c.in_ok-holders.holders)) c.other.view_is
    (all_among c.other.inside.holders c.args.marks.now c.in_ok-holders.holders c.in_ok-holders.ensures.picked)

pub returns-clause-picks : goal.returns-clause-picks
returns-clause-picks c =
    let other = c.other.inside in
    subst (λ (s : Tabled). PicksGroups c.args.marks.now s (table_of c.in_ok-columns.columns c.in_ok-holders.holders c.args.keys)) c.other.view_is
    (picks_groups other.holders c.args.marks.now other.columns c.in_ok-columns.columns c.in_ok-holders.holders other.keys c.args.keys c.other.invariant.started c.in_ok-holders.ensures.picked)
