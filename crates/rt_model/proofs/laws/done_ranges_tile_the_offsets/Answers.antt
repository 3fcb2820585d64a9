use Rattle.rt_model.proofs.Lawful.{has_tiles}
use Rattle.rt_model.proofs.laws.done_ranges_tile_the_offsets.Goals as goal

pub returns : goal.returns
returns c = has_tiles
