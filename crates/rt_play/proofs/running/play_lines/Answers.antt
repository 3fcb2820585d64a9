use Rattle.std.proofs.Common.{◌++◌, ◌∷◌, [], ap, length, string_bytes, subst, sym, arith, refl}
use Rattle.std.proofs.lemmas.List.{length-append}
use Rattle.rt_desk.specs.IsDesk.{IsDesk}
use Rattle.rt_lines.specs.Header.{NumberedLine}
use Rattle.rt_model.specs.declared.setup.Setup.{Setup}
use Rattle.rt_play.specs.Plays.{going}
use Rattle.rt_writing.specs.Writing.{Puts}
use Rattle.rt_play.proofs.ScriptRuns.{line_keeps}
use Rattle.rt_play.proofs.Tellings.{nothing_put, one_more, put_text, run_more, tells_end, tells_fault, tells_stop}
use Rattle.rt_play.proofs.running.play_lines.Goals as goal

pub returns-in-Err : goal.returns-in-Err
returns-in-Err g c =
    let before = c.loop-number.invariant in
    tells_stop c.in-Err.fault c.args.lines.now.lines before.done (going c.args.world.now c.args.desk.now) before.turns c.loop-number.world c.loop-number.desk c.play_line.new.world c.play_line.new.desk before.written c.loop-number.lines.lines (c.in-Some.number, c.in-Some.line.now) c.next.new.self.lines (string_bytes c.play_line.new.text) _ _
    before.whole c.in-Some.ensures.line before.run before.puts c.in-Err.ensures.plays

pub returns-in-Err-write_all : goal.returns-in-Err-write_all
returns-in-Err-write_all g c =
    let before = c.loop-number.invariant in
    tells_fault c.args.lines.now.lines before.done (going c.args.world.now c.args.desk.now) before.turns (going c.loop-number.world c.loop-number.desk) (going c.play_line.new.world c.play_line.new.desk) before.written c.loop-number.lines.lines (c.in-Some.number, c.in-Some.line.now) c.next.new.self.lines (string_bytes c.play_line.new.text) c.as_bytes.result.now _ _ _
    before.whole c.in-Some.ensures.line before.run before.puts c.in-Ok.ensures.plays.1 c.as_bytes.ensures.value c.in-Err-write_all.ensures

pub loop-number-preserved : goal.loop-number-preserved
loop-number-preserved g c =
    let before = c.loop-number.invariant in
    let text = string_bytes c.play_line.new.text in
    let line : NumberedLine = (c.in-Some.number, c.in-Some.line.now) in
    let here = going c.loop-number.world c.loop-number.desk in
    let there = going c.play_line.new.world c.play_line.new.desk in
    let ran = c.in-Ok.ensures.plays.1 in
    let keeps = line_keeps line here ran.turns there text before.safe ran.runs in
    record {
      unspent = c.in-Ok.ensures.plays.0;
      safe = keeps.0;
      desk = subst (λ (s : Setup). IsDesk s.schema c.play_line.new.desk) (sym keeps.1) (c.in-Ok.ensures.desk);
      written = before.written ++ text ∷ [];
      done = before.done ++ line ∷ [];
      puts = put_text _ _ _ before.written text before.puts (subst (λ t. Puts (g.K.Sink.meaning c.loop-number.sink) (g.K.Sink.meaning c.write_all.new.sink) t) c.as_bytes.ensures.value c.in-Ok-write_all.ensures);
      whole = one_more c.args.lines.now.lines before.done c.loop-number.lines.lines line c.next.new.self.lines before.whole c.in-Some.ensures.line;
      turns = before.turns ++ ran.turns;
      run = run_more before.done line (going c.args.world.now c.args.desk.now) before.turns here ran.turns there before.written text before.run ran.runs;
      count = omega (arith, before.count, length-append before.written (text ∷ []));
      few = omega (arith, before.few, ap length c.in-Some.ensures.line);
    }

pub loop-number-init : goal.loop-number-init
loop-number-init g c = record {
  unspent = c.requires.unspent;
  safe = c.requires.safe;
  desk = c.requires.desk;
  written = [];
  done = [];
  puts = nothing_put (g.K.Sink.meaning c.args.sink.now);
  whole = refl;
  turns = [];
  run = (refl, refl, refl);
  count = refl;
  few = omega (arith, c.requires.few);
}

pub returns : goal.returns
returns g c =
    let before = c.loop-number.invariant in
    tells_end c.args.lines.now.lines before.done (going c.args.world.now c.args.desk.now) before.turns (going c.loop-number.world c.loop-number.desk) before.written c.loop-number.lines.lines _ _ _ before.whole c.in_default.ensures.none.0 before.run before.puts before.count
