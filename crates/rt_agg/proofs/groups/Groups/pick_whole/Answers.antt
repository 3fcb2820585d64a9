use Rattle.std.proofs.Common.{◌≡◌, ◌∙◌, ap, arith, length, sym}
use Rattle.rt_agg.specs.Grouped.{Grouped, keys_in_order}
use Rattle.rt_agg.specs.Picking.{kept}
use Rattle.rt_agg.proofs.Kept.{keys_kept, keys_long}
use Rattle.rt_agg.proofs.Marked.{picks_none, picks_whole}
use Rattle.rt_agg.proofs.Untold.{one_marked}
use Rattle.rt_agg.proofs.groups.Groups.pick_whole.Goals as goal
use Rattle.rt_agg.proofs.groups.Groups.pick_whole.Goals.{In_ok-keys}

marked_keys : (c : In_ok-keys) → c.in_ok-keys.keys ≡ kept c.args.marks.now (keys_in_order c.args.others.now)
marked_keys c =
    c.in_ok-keys.ensures.keys ∙ ap (kept c.args.marks.now) c.keys.ensures ∙ ap (λ (g : Grouped). kept c.args.marks.now (keys_in_order g)) c.others.view_is

marked_count : (c : In_ok-keys) → length c.in_ok-keys.keys ≡ length (kept c.args.marks.now c.args.others.now.groups)
marked_count c =
    let groups = c.args.others.now.groups in
    ap length (marked_keys c ∙ sym (keys_kept c.args.marks.now groups)) ∙ keys_long (kept c.args.marks.now groups)

pub returns-in-0-clause-picks : goal.returns-in-0-clause-picks
returns-in-0-clause-picks c =
    let at = (goal.at.returns-in-0-clause-picks c).In_ok-keys in
    picks_none c.args.query.now c.args.marks.now c.args.others.now c.in_ok-groups-in-0.groups
    (sym (ap length (marked_keys at)) ∙ sym c.len.ensures.len ∙ c.in-0.is) c.in_ok-groups-in-0.ensures

pub pick_keys-requires-clause-long : goal.pick_keys-requires-clause-long
pick_keys-requires-clause-long c =
    let at = (goal.at.pick_keys-requires-clause-long c).In_ok-keys in
    ap length c.in_ok-whole-in-1.ensures.keys ∙ sym c.in-1.is ∙ c.len.ensures.len ∙ marked_count at

pub returns-in-1-clause-picks : goal.returns-in-1-clause-picks
returns-in-1-clause-picks c =
    let at = (goal.at.returns-in-1-clause-picks c).In_ok-keys in
    let groups = c.in_ok-groups-in-1 in
    picks_whole c.args.query.now c.args.marks.now c.args.others.now groups.groups groups.ensures.of groups.ensures.among groups.ensures.told
    c.requires (sym (marked_count at) ∙ sym c.len.ensures.len ∙ c.in-1.is) (groups.ensures.keys ∙ c.in_ok-whole-in-1.ensures.keys)

pub returns-clause-untold : goal.returns-clause-untold
returns-clause-untold c is tells =
    let at = (goal.at.returns-clause-untold c).In_ok-keys in
    omega (arith, one_marked c.args.query.now c.args.marks.now c.args.others.now c.requires tells, marked_count at, c.len.ensures.len)
