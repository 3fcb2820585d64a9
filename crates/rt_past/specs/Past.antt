-- What only grows: the stream's messages, the store's writes, the deep store's files, and what was sent between replicas
-- and controllers.
use Rattle.std.specs.Prelude.{List, [], ◌∷◌, ◌++◌}
use Rattle.rt_lists.specs.Members.{IsFront}
use Rattle.rt_model.specs.declared.node.Seen.{Seen}
use Rattle.rt_model.specs.declared.reply.Reply.{Reply}
use Rattle.rt_model.specs.declared.request.Request.{Request}
use Rattle.rt_model.specs.declared.sent.Sent.{Sent}
use Rattle.rt_model.specs.declared.sent.Sent.TheVariants as sent
use Rattle.rt_stream.specs.Log.{Log}
use Rattle.rt_stream.specs.Feed.{Grows as GrowsLog}
use Rattle.rt_deep.specs.declared.deep_put.DeepPut.{DeepPut}

pub record Past : Type 0 where
  pub log : Log
  pub history : List Seen
  pub files : List DeepPut
  pub sent : List Sent

-- a later past begins with an earlier one
pub record Grows (old new : Past) : Type 0 where
  pub log : GrowsLog old.log new.log
  pub history : IsFront old.history new.history
  pub files : IsFront old.files new.files
  pub sent : IsFront old.sent new.sent

-- ---- the ways in which it grows

abbrev pub with_log : Past → Log → Past
with_log past log = record past { log = log }

abbrev pub with_history : Past → List Seen → Past
with_history past history = record past { history = history }

abbrev pub with_write : Past → Seen → Past
with_write past w = with_history past (past.history ++ w ∷ [])

abbrev pub with_files : Past → List DeepPut → Past
with_files past files = record past { files = files }

abbrev pub with_file : Past → DeepPut → Past
with_file past f = with_files past (past.files ++ f ∷ [])

abbrev pub with_sent : Past → Sent → Past
with_sent past m = record past { sent = past.sent ++ m ∷ [] }

abbrev pub with_request : Past → Request → Past
with_request past q = with_sent past (sent.Request q)

abbrev pub with_reply : Past → Reply → Past
with_reply past r = with_sent past (sent.Reply r)
