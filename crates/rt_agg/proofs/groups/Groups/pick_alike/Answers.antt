use Rattle.std.proofs.Common.{◌≡◌, ◌∙◌, ap, length, sym}
use Rattle.rt_agg.specs.Grouped.{Grouped, keys_in_order}
use Rattle.rt_agg.specs.Picking.{kept}
use Rattle.rt_agg.proofs.Kept.{keys_kept, keys_long}
use Rattle.rt_agg.proofs.Marked.{picks_alike}
use Rattle.rt_agg.proofs.groups.Groups.pick_alike.Goals as goal
use Rattle.rt_agg.proofs.groups.Groups.pick_alike.Goals.{In_ok-keys}

marked_keys : (c : In_ok-keys) → c.in_ok-keys.keys ≡ kept c.args.marks.now (keys_in_order c.args.others.now)
marked_keys c =
    c.in_ok-keys.ensures.keys ∙ ap (kept c.args.marks.now) c.keys.ensures ∙ ap (λ (g : Grouped). kept c.args.marks.now (keys_in_order g)) c.others.view_is

pub pick_keys-requires-clause-long : goal.pick_keys-requires-clause-long
pick_keys-requires-clause-long c =
    let groups = c.args.others.now.groups in
    ap length (marked_keys c ∙ sym (keys_kept c.args.marks.now groups)) ∙ keys_long (kept c.args.marks.now groups)

pub returns-clause-picks : goal.returns-clause-picks
returns-clause-picks c =
    let at = (goal.at.returns-clause-picks c).In_ok-keys in
    picks_alike c.args.query.now c.args.marks.now c.args.others.now c.in_ok-groups.groups c.in_ok-groups.ensures.of c.in_ok-groups.ensures.among c.in_ok-groups.ensures.told
    c.requires.alike c.requires.some (c.in_ok-groups.ensures.keys ∙ marked_keys at)
