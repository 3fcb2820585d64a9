use Rattle.std.proofs.Common.{slice_get, ap, sym, ◌∙◌}
use Rattle.rt_stream.proofs.Places.{get_rest}
use Rattle.rt_stream.proofs.partition_log.PartitionLog.get.Goals as goal

pub returns-clause-message : goal.returns-clause-message
returns-clause-message c =
    get_rest c.args.self.now c.page_of.result.now c.args.offset _ c.page_of.ensures.within c.page_of.ensures.rest
    ∙ ap (λ place. slice_get c.page_of.result.now place) (sym c.place_of.ensures)
    ∙ c.get.ensures.message
