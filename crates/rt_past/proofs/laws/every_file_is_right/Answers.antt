use Rattle.rt_past.proofs.Uploads.{right_upload}
use Rattle.rt_past.proofs.laws.every_file_is_right.Goals as goal

pub returns : goal.returns
returns c = right_upload
