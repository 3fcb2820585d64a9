use Rattle.std.proofs.Common.{Some, string_bytes}
use Rattle.rt_desk.specs.Hybrid.{PushLine}
use Rattle.rt_desk.specs.Telling.{Counts}
use Rattle.rt_desk.proofs.Besides.{beside_does, offline_as, puts_does}
use Rattle.rt_desk.proofs.saying.play_offline.Goals as goal
use Rattle.rt_report.specs.FurtherTexts.{nooffline_text}

pub returns-in-Some-clause-told : goal.returns-in-Some-clause-told
returns-in-Some-clause-told c =
    offline_as c.args.rows.now c.args.desk.now.hybrid _ c.args.desk.now c.args.world.now.state c.push_line.new.world (string_bytes c.push_line.new.text) (record c.args.desk.now { hybrid = Some c.push_line.new.table }) c.push_line.result c.in-Some.is
    (puts_does (λ new. record c.args.desk.now { hybrid = Some new }) (PushLine c.args.rows.now c.in-Some.table) c.args.world.now.state c.push_line.new.world (string_bytes c.push_line.new.text) c.push_line.new.table c.push_line.result c.push_line.ensures.told)

pub returns-in-None-clause-told : goal.returns-in-None-clause-told
returns-in-None-clause-told c =
    offline_as c.args.rows.now c.args.desk.now.hybrid _ c.args.desk.now c.args.world.now.state c.pass_nooffline.new.world (string_bytes c.pass_nooffline.new.text) c.args.desk.now c.pass_nooffline.result c.in-None.is
    (beside_does (Counts (nooffline_text 1)) c.args.desk.now c.args.world.now.state c.pass_nooffline.new.world (string_bytes c.pass_nooffline.new.text) c.pass_nooffline.result c.pass_nooffline.ensures)
