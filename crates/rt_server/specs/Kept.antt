-- What is true of every server.
use Rattle.std.specs.Prelude.{◌≡◌, All, List}
use Rattle.std.specs.List.Sorted.{IsStrictlySortedBy}
use Rattle.std.specs.Map.{keys_of, values_of}
use Rattle.rt_lists.specs.Members.{Has}
use Rattle.rt_model.specs.declared.setup.Setup.{Setup}
use Rattle.rt_model.specs.Setup.{IsSetup}
use Rattle.rt_entry.specs.declared.entry.Entry.{Entry}
use Rattle.rt_entry.specs.declared.entry.Entry.TheVariants.{Replica, Committed}
use Rattle.rt_entry.specs.Entry.{IsEntry}
use Rattle.rt_server.specs.Table.{Segment, Segments, segment_cmp, segment_of}

-- a replica is of the segment that its entry stands for
abbrev pub IsOfSegment : Segment → Entry → Type 0
IsOfSegment s (Replica r) = segment_of r ≡ s
IsOfSegment s (Committed c) = Unit {0}

abbrev pub AreOfSegments : List (Segment × Entry) → Type 0
AreOfSegments entries = (x : Segment × Entry) → Has entries x → IsOfSegment x.0 x.1

-- targets and entries ascend, so that a segment has at most one of each
pub record IsServer (setup : Setup) (t : Segments) : Type 0 where
  pub cluster : IsSetup setup
  pub entries : All (IsEntry setup) (values_of t.entries)
  pub targets : IsStrictlySortedBy segment_cmp (keys_of t.targets)
  pub ascending : IsStrictlySortedBy segment_cmp (keys_of t.entries)
  pub segments : AreOfSegments t.entries
