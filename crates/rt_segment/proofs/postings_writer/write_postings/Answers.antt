use Rattle.std.proofs.Common.{◌+◌, ◌++◌, take, sym, ap, ◌∙◌}
use Rattle.std.specs.List.{flat_map}
use Rattle.rt_segment.specs.Spelling.{word}
use Rattle.rt_segment.proofs.Rows.{numbered, nested, written_more}
use Rattle.rt_segment.proofs.postings_writer.write_postings.Goals as goal

pub loop-id-preserved : goal.loop-id-preserved
loop-id-preserved c =
    let lists = c.args.postings.now in
    let front = c.args.out.now.items in
    written_more (λ rows. flat_map word (numbered rows)) front c.loop-id.out.items c.write_docs.new.out.items lists c.loop-id.id c.docs.result.now c.docs.ensures
    (c.loop-id.invariant ∙ ap (λ t. front ++ t) (nested word numbered (take c.loop-id.id lists))) c.in_ok-write_docs.ensures
    ∙ ap (λ t. front ++ t) (sym (nested word numbered (take (c.loop-id.id + 1) lists)))
