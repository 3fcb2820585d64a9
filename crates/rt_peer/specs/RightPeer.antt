-- When a peer is right.
use Rattle.std.specs.Prelude.{◌≡◌, ℕ, All, List, Option, Some, None, IfSome}
use Rattle.rt_base.specs.declared.header.Header.{Header}
use Rattle.rt_schema.specs.Schema.{is_among}
use Rattle.rt_model.specs.declared.setup.Setup.{Setup}
use Rattle.rt_segment.specs.FileRight.{FileRight}
use Rattle.rt_segment.specs.Column.{SealedColumn}
use Rattle.rt_segment.specs.Spelling.{header_of}
use Rattle.rt_peer.specs.Meaning.{Held, Meaning}

-- a column with an index exactly where the table's settings have one
abbrev pub IsIndexed : List (List ℕ) → SealedColumn → Type 0
IsIndexed names column = column.indexed ≡ is_among column.name names

-- a right file of the header's segment and range, built by the table's settings in the setup's format
pub record IsBuilt (setup : Setup) (messages : List (List ℕ)) (wanted : Header) (bytes : List ℕ) : Type 0 where
  pub file : FileRight setup.schema messages wanted.partition wanted.sequence wanted.range bytes
  pub format : file.segment.format ≡ setup.format
  pub indexed : All (IsIndexed setup.table.indexed) file.segment.columns

-- the same, and the header has its number of rows and its digest
pub record IsRightCopy (setup : Setup) (messages : List (List ℕ)) (wanted : Header) (bytes : List ℕ) : Type 0 where
  pub built : IsBuilt setup messages wanted bytes
  pub header : header_of built.file.segment ≡ wanted

abbrev pub IsRightHeld : Setup → List (List ℕ) → Header → Option Held → Type 0
IsRightHeld setup messages wanted None = ⊥
IsRightHeld setup messages wanted (Some held) = IfSome (held wanted.partition wanted.sequence) (IsRightCopy setup messages wanted)

-- what the peer is told to hold of the segment, if anything, is a right file with the header that the metadata names
abbrev pub IsRightPeer : Setup → List (List ℕ) → Header → Meaning → Type 0
IsRightPeer setup messages wanted peer = IsRightHeld setup messages wanted peer.told

abbrev pub IsHeld : Option Held → Header → List ℕ → Type 0
IsHeld None wanted bytes = ⊥
IsHeld (Some held) wanted bytes = held wanted.partition wanted.sequence ≡ Some bytes
