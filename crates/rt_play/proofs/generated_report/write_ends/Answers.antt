use Rattle.std.proofs.Common.{◌≡◌, ◌+◌, ◌-◌, ◌++◌, ◌∷◌, [], ap, arith}
use Rattle.rt_play.specs.Generating.{end_texts}
use Rattle.rt_play.proofs.Generated.{ends_more, ends_none, texts_stop, written_all, written_more}
use Rattle.rt_play.proofs.Tellings.{nothing_put, put_text}
use Rattle.rt_play.proofs.generated_report.write_ends.Goals as goal
use Rattle.rt_report.specs.MacroTexts.{end_text}
use Rattle.rt_world.specs.Reading.{end_in}

pub loop-at-init : goal.loop-at-init
loop-at-init g c =
    let all : c.args.partitions ≡ c.args.partitions - 0 = omega arith in
    record { within = omega arith; written = []; whole = ap (λ n. end_texts c.args.world.now.state 0 n) all; puts = nothing_put (g.K.Sink.meaning c.args.sink.now) }

pub loop-at-preserved : goal.loop-at-preserved
loop-at-preserved g c =
    let before = c.loop-at.invariant in
    let w = c.args.world.now.state in
    let at = c.loop-at.at in
    let text = end_text (record { 0 = at }) (end_in w (record { 0 = at })) in
    let rest = end_texts w (at + 1) (c.args.partitions - (at + 1)) in
    record {
      within = omega (arith, c.loop-at-test.true);
      written = before.written ++ text ∷ [];
      whole = written_more (end_texts w 0 c.args.partitions) before.written rest text (end_texts w at (c.args.partitions - at)) before.whole (ends_more w at (c.args.partitions - at) (c.args.partitions - (at + 1)) (omega (arith, c.loop-at-test.true)));
      puts = put_text _ _ _ before.written text before.puts c.in-Ok.ensures;
    }

pub returns-in-Err : goal.returns-in-Err
returns-in-Err g c =
    let before = c.loop-at.invariant in
    let w = c.args.world.now.state in
    let at = c.loop-at.at in
    let text = end_text (record { 0 = at }) (end_in w (record { 0 = at })) in
    let rest = end_texts w (at + 1) (c.args.partitions - (at + 1)) in
    texts_stop c.in-Err.fault (end_texts w 0 c.args.partitions) before.written rest text (end_texts w at (c.args.partitions - at)) _ _ _
    before.whole (ends_more w at (c.args.partitions - at) (c.args.partitions - (at + 1)) (omega (arith, c.loop-at-test.true))) before.puts c.in-Err.ensures

pub returns : goal.returns
returns g c =
    let before = c.loop-at.invariant in
    let w = c.args.world.now.state in
    let at = c.loop-at.at in
    written_all (end_texts w 0 c.args.partitions) before.written (end_texts w at (c.args.partitions - at)) _ _ before.whole (ends_none w at (c.args.partitions - at) (omega (arith, c.loop-at-test.false))) before.puts
