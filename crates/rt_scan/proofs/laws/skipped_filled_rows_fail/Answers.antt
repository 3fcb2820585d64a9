use Rattle.rt_scan.proofs.Skipped.{none_filled_passes}
use Rattle.rt_scan.proofs.laws.skipped_filled_rows_fail.Goals as goal

pub returns : goal.returns
returns c query schema sealed is parsed kinds e = none_filled_passes query schema sealed is parsed kinds e
