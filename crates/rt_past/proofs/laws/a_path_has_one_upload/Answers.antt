use Rattle.rt_past.proofs.Uploads.{one_upload, own_bytes}
use Rattle.rt_past.proofs.laws.a_path_has_one_upload.Goals as goal

pub returns : goal.returns
returns c = record { one = one_upload; bytes = own_bytes }
