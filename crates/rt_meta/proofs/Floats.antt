-- No number of a segment's metadata is a float.
use Rattle.std.proofs.Common.{◌≡◌, false, refl}
use Rattle.serde_json.specs.Written.{has_float}
use Rattle.rt_model.specs.declared.seg_meta.SegMeta.{SegMeta}
use Rattle.rt_model.specs.declared.status.Status.{Status}
use Rattle.rt_model.specs.declared.status.Status.TheVariants.{InProgress, Done, Abandoned}
use Rattle.rt_meta.specs.Text.{data_at}

pub no_float : (meta : SegMeta) (status : Status) → has_float (data_at meta status) ≡ false
no_float meta InProgress = refl
no_float meta (Done commit) = refl
no_float meta Abandoned = refl
