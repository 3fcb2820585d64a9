use Rattle.std.proofs.Common.{◌++◌, take, arith}
use Rattle.std.proofs.lemmas.List.{length-take}
use Rattle.rt_lines.proofs.Readings.{takes_more}
use Rattle.rt_lines.proofs.reading.read_all.Goals as goal

pub returns-then-len-gt-MOST_INPUT : goal.returns-then-len-gt-MOST_INPUT
returns-then-len-gt-MOST_INPUT g c =
    let so = c.pieces.invariant in
    (record { input = c.pieces.input; taken = record { left = so.left; few = so.fits; counts = so.counts } }, omega (arith, c.if-len-gt-MOST_INPUT.true, c.len.ensures))

pub returns-in-Err-extend : goal.returns-in-Err-extend
returns-in-Err-extend g c =
    let so = c.pieces.invariant in
    record {
      input = c.pieces.input ++ take c.in-Ok.count c.read.new.into;
      taken = takes_more (g.S.Source.meaning c.args.source.now) (g.S.Source.meaning c.pieces.source) (g.S.Source.meaning c.read.new.self) c.pieces.input c.read.new.into c.in-Ok.count so.left so.counts c.in-Ok.ensures (omega (arith, (c.in-Ok.ensures {u = tt}).fits, length-take c.min-room.result c.pieces.piece));
    }
