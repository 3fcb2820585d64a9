-- What a node of the store is read as: metadata, or entries of the ideal state.
use Rattle.std.specs.Prelude.{[]}
use Rattle.rt_base.specs.declared.numbers.Offset.{Offset}
use Rattle.rt_model.specs.declared.job_step.StepName.TheVariants as name
use Rattle.rt_model.specs.declared.node.Node.{Node}
use Rattle.rt_model.specs.declared.node.Node.TheVariants as node
use Rattle.rt_model.specs.declared.node.Seen.{Seen}
use Rattle.rt_model.specs.declared.reply.ReplyStatus.TheVariants as status
use Rattle.rt_model.specs.declared.seg_meta.SegMeta.{SegMeta}
use Rattle.rt_model.specs.declared.seg_meta.SeenMeta.{SeenMeta}
use Rattle.rt_model.specs.declared.status.Status.{Status}
use Rattle.rt_model.specs.declared.status.Status.TheVariants.{InProgress, Done, Abandoned}

-- what a node of another kind is read as
abbrev pub no_meta : SegMeta
no_meta = record { name = []; start = record { 0 = 0 }; status = InProgress; written = record { 0 = 0 } }

-- the metadata that a node is
abbrev pub meta_in : Node → SegMeta
meta_in (node.Meta meta) = meta
meta_in (node.Ideal i) = no_meta
meta_in node.Boot = no_meta
meta_in node.Gone = no_meta

abbrev pub seen_meta_of : Seen → SeenMeta
seen_meta_of w = record { version = w.version; meta = meta_in w.node }

abbrev pub end_by : Status → Offset
end_by InProgress = record { 0 = 0 }
end_by (Done commit) = commit.end
end_by Abandoned = record { 0 = 0 }

-- the end of a Done node
abbrev pub end_in : Node → Offset
end_in n = end_by (meta_in n).status
