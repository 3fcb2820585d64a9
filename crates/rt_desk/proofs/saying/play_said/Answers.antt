use Rattle.std.proofs.Common.{string_bytes}
use Rattle.rt_desk.specs.Saying.{EventLineTold, MacroTold}
use Rattle.rt_desk.specs.Telling.{Counts}
use Rattle.rt_desk.proofs.Besides.{beside_does, line_as, on_ok}
use Rattle.rt_desk.proofs.saying.play_said.Goals as goal
use Rattle.rt_report.specs.BrokerTexts.{noquery_text}

pub returns-in-Event : goal.returns-in-Event
returns-in-Event c = record {
  told = line_as c.args.said _ c.args.desk.now c.args.world.now.state c.play_event_line.new.world (string_bytes c.play_event_line.new.text) c.args.desk.now c.play_event_line.result c.in-Event.is
      (beside_does (EventLineTold c.args.desk.now.pause c.in-Event.event) c.args.desk.now c.args.world.now.state c.play_event_line.new.world (string_bytes c.play_event_line.new.text) c.play_event_line.result c.play_event_line.ensures);
  desk = on_ok c.play_event_line.result c.requires.desk;
}

pub returns-in-Macro : goal.returns-in-Macro
returns-in-Macro c = record {
  told = line_as c.args.said _ c.args.desk.now c.args.world.now.state c.play_macro.new.world (string_bytes c.play_macro.new.text) c.args.desk.now c.play_macro.result c.in-Macro.is
      (beside_does (MacroTold c.args.desk.now.pause c.in-Macro.said) c.args.desk.now c.args.world.now.state c.play_macro.new.world (string_bytes c.play_macro.new.text) c.play_macro.result c.play_macro.ensures);
  desk = on_ok c.play_macro.result c.requires.desk;
}

pub returns-in-NoQuery : goal.returns-in-NoQuery
returns-in-NoQuery c = record {
  told = line_as c.args.said _ c.args.desk.now c.args.world.now.state c.pass_noquery.new.world (string_bytes c.pass_noquery.new.text) c.args.desk.now c.pass_noquery.result c.in-NoQuery.is
      (beside_does (Counts (noquery_text c.in-NoQuery.number)) c.args.desk.now c.args.world.now.state c.pass_noquery.new.world (string_bytes c.pass_noquery.new.text) c.pass_noquery.result c.pass_noquery.ensures);
  desk = on_ok c.pass_noquery.result c.requires.desk;
}
