use Rattle.std.proofs.Common.{take, sym, ap, ◌∙◌, arith}
use Rattle.std.proofs.lemmas.List.{length-take-le}
use Rattle.sha2.specs.Sha256.{sha256}
use Rattle.rt_segment.specs.Bodies.{segment_of}
use Rattle.rt_segment.specs.Reading.{body_at}
use Rattle.rt_segment.proofs.FileLaws.{body_read}
use Rattle.rt_segment.proofs.decoder.read_file.Goals as goal

pub slice_bounds-digest-end : goal.slice_bounds-digest-end
slice_bounds-digest-end c =
    let h = body_read c.args.bytes.now (segment_of c.in_ok-body.body) c.read_body.new.cursor (λ i. omega (arith, c.type_inv.bytes i)) (ap body_at (sym c.new-cursor.ensures) ∙ c.in_ok-body.ensures) in
    sym (length-take-le c.place-end.result c.args.bytes.now (omega (arith, h.long, c.place-end.ensures.place)))

pub of-requires-clause-is : goal.of-requires-clause-is
of-requires-clause-is c =
    (body_read c.args.bytes.now (segment_of c.in_ok-body.body) c.read_body.new.cursor (λ i. omega (arith, c.type_inv.bytes i)) (ap body_at (sym c.new-cursor.ensures) ∙ c.in_ok-body.ensures)).right

pub of-requires-clause-digest : goal.of-requires-clause-digest
of-requires-clause-digest c =
    let h = body_read c.args.bytes.now (segment_of c.in_ok-body.body) c.read_body.new.cursor (λ i. omega (arith, c.type_inv.bytes i)) (ap body_at (sym c.new-cursor.ensures) ∙ c.in_ok-body.ensures) in
    c.digest-sum.ensures ∙ ap sha256 (ap (λ n. take n c.args.bytes.now) c.place-end.ensures.place ∙ h.front)
