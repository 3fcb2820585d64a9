use Rattle.std.proofs.Common.{Err, Ok, string_bytes, subst, sym}
use Rattle.rt_play.proofs.Generated.{generated_refused, generated_stopped, generated_told}
use Rattle.rt_play.specs.Generating.{TellsGenerated, report_texts}
use Rattle.rt_play.specs.Writing.{WritesTexts}
use Rattle.rt_play.proofs.generating.generate_in.Goals as goal

pub returns-in-Err : goal.returns-in-Err
returns-in-Err g c =
    let s = g.K.Sink.meaning c.args.sink.now in
    subst (λ why. TellsGenerated c.args.asked s s (Err why)) (sym c.fault.ensures)
    (generated_refused c.in-Err.refusal c.args.asked c.args.world.now.state.setup c.args.world.now c.run.new.world s c.requires.is c.requires.first c.in-Err.ensures)

pub returns-in-Ok-write_report : goal.returns-in-Ok-write_report
returns-in-Ok-write_report g c =
    generated_told c.args.asked c.args.world.now.state.setup c.args.world.now c.run.new.world.state (string_bytes c.run.new.answer) (g.K.Sink.meaning c.args.sink.now) (g.K.Sink.meaning c.write_report.new.sink)
    c.requires.is c.requires.first c.in-Ok.ensures.1
    (subst (λ t. WritesTexts (report_texts c.args.asked.partitions c.run.new.world.state t) (g.K.Sink.meaning c.args.sink.now) (g.K.Sink.meaning c.write_report.new.sink) (Ok tt))
    c.as_str.ensures.value c.in-Ok-write_report.ensures)

pub returns : goal.returns
returns g c =
    generated_stopped c.in-Err-write_report.fault c.args.asked c.args.world.now.state.setup c.args.world.now c.run.new.world.state (string_bytes c.run.new.answer) (g.K.Sink.meaning c.args.sink.now) (g.K.Sink.meaning c.write_report.new.sink)
    c.requires.is c.requires.first c.in-Ok.ensures.1
    (subst (λ t. WritesTexts (report_texts c.args.asked.partitions c.run.new.world.state t) (g.K.Sink.meaning c.args.sink.now) (g.K.Sink.meaning c.write_report.new.sink) (Err c.in-Err-write_report.fault))
    c.as_str.ensures.value c.in-Err-write_report.ensures)
