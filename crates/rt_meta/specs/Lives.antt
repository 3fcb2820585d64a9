-- The metadata of a segment through its life.
use Rattle.std.specs.Prelude.{ℕ, List}
use Rattle.rt_base.specs.declared.numbers.Partition.{Partition}
use Rattle.rt_base.specs.declared.numbers.Sequence.{Sequence}
use Rattle.rt_base.specs.declared.numbers.Offset.{Offset}
use Rattle.rt_base.specs.declared.numbers.Moment.{Moment}
use Rattle.rt_model.specs.declared.commit.Commit.{Commit}
use Rattle.rt_model.specs.declared.seg_meta.SegMeta.{SegMeta}
use Rattle.rt_model.specs.declared.status.Status.{Status}
use Rattle.rt_model.specs.declared.status.Status.TheVariants.{InProgress, Done, Abandoned}
use Rattle.rt_names.specs.Name.{name_text, name_of}
use Rattle.rt_names.specs.Minute.{minute_text}

-- a new segment: in progress, under the name of its table, its place and the minute
abbrev pub first_of : List ℕ → Partition → Sequence → Offset → Moment → SegMeta
first_of table p s start now =
    record {
      name = name_text (name_of table p.0 s.0 (minute_text now.0));
      start = start;
      status = InProgress;
      written = now;
    }

-- another status, written at this moment; the name and the start stay
abbrev pub with_status : SegMeta → Status → Moment → SegMeta
with_status meta status now = record { name = meta.name; start = meta.start; status = status; written = now }

abbrev pub done_of : SegMeta → Commit → Moment → SegMeta
done_of meta commit now = with_status meta (Done commit) now

abbrev pub abandoned_of : SegMeta → Moment → SegMeta
abandoned_of meta now = with_status meta Abandoned now
