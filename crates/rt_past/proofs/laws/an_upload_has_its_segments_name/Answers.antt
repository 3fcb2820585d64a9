use Rattle.rt_past.proofs.Named.{upload_named}
use Rattle.rt_past.proofs.laws.an_upload_has_its_segments_name.Goals as goal

pub returns : goal.returns
returns c = upload_named
