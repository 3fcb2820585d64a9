-- The text of a segment's metadata: compact JSON, an object whose keys ascend.
use Rattle.std.specs.Prelude.{ℕ, List, codes}
use Rattle.hex.specs.Hex.{encode_lower}
use Rattle.serde_json.specs.Data.{Data, number, unsigned, string, object, no_members, member}
use Rattle.serde_json.specs.Written.{compact_text}
use Rattle.rt_model.specs.declared.commit.Commit.{Commit}
use Rattle.rt_model.specs.declared.seg_meta.SegMeta.{SegMeta}
use Rattle.rt_model.specs.declared.status.Status.{Status}
use Rattle.rt_model.specs.declared.status.Status.TheVariants.{InProgress, Done, Abandoned}

-- a segment with no commit, under the name of its status
abbrev pub open_data : SegMeta → List ℕ → Data
open_data meta status =
    object
    (member (codes "name") (string meta.name)
    (member (codes "start") (number (unsigned meta.start.0))
    (member (codes "status") (string status)
    (member (codes "written") (number (unsigned meta.written.0))
    no_members))))

-- a segment with its commit; the digest is in hexadecimal digits of lower case
abbrev pub done_data : SegMeta → Commit → Data
done_data meta commit =
    object
    (member (codes "digest") (string (encode_lower commit.digest))
    (member (codes "end") (number (unsigned commit.end.0))
    (member (codes "name") (string meta.name)
    (member (codes "path") (string commit.path)
    (member (codes "rows") (number (unsigned commit.rows))
    (member (codes "start") (number (unsigned meta.start.0))
    (member (codes "status") (string (codes "DONE"))
    (member (codes "written") (number (unsigned meta.written.0))
    no_members))))))))

abbrev pub data_at : SegMeta → Status → Data
data_at meta InProgress = open_data meta (codes "IN_PROGRESS")
data_at meta (Done commit) = done_data meta commit
data_at meta Abandoned = open_data meta (codes "ABANDONED")

-- the metadata as a JSON value
abbrev pub meta_data : SegMeta → Data
meta_data meta = data_at meta meta.status

-- the text of the metadata
abbrev pub meta_text : SegMeta → List ℕ
meta_text meta = compact_text (meta_data meta)
