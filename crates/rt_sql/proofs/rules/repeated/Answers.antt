use Rattle.std.proofs.Common.{◌∙◌, sym, ap, arith}
use Rattle.rt_schema.proofs.Names.{has_key}
use Rattle.rt_sql.proofs.Grouped.{came_more, came_again, first_later}
use Rattle.rt_sql.proofs.rules.repeated.Goals as goal

pub returns-then-not-branch : goal.returns-then-not-branch
returns-then-not-branch c =
    let came = c.loop-group.invariant.came in
    came_again c.args.groups.now c.loop-group.group-index c.group-item.result (omega arith) c.group-item.is c.as_str.result c.as_str.ensures c.loop-group.names.keys came
    (sym c.in_ok-insert.ensures.added ∙ c.if-not-branch.true) c.loop-group.invariant.first

pub loop-group-preserved : goal.loop-group-preserved
loop-group-preserved c =
    let came = c.loop-group.invariant.came in
    record {
      came = λ q. ap (λ keys. has_key keys q) c.in_ok-insert.ensures.keys
          ∙ came_more c.args.groups.now c.loop-group.group-index c.group-item.result (omega arith) c.group-item.is c.as_str.result c.as_str.ensures c.loop-group.names.keys came q;
      first = first_later c.args.groups.now c.loop-group.group-index c.group-item.result (omega arith) c.group-item.is c.as_str.result c.as_str.ensures c.loop-group.names.keys came
          (sym c.in_ok-insert.ensures.added ∙ c.if-not-branch.false) c.loop-group.invariant.first;
    }
