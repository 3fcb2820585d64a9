-- What the input of a running cluster is, by its text.
use Rattle.std.specs.Prelude.{◌≡◌, ◌≢◌, ◌⊎◌, ℕ, ◌<◌, ◌≤◌, List, [], ◌∷◌, ◌++◌, All, length, None, Some, IfSome, Result, Ok, Err, codes}
use Rattle.rt_base.specs.declared.which.Which.TheVariants.{Message}
use Rattle.rt_ground.specs.declared.appended.Appended.{Appended}
use Rattle.rt_lines.specs.Header.{NumberedLine, header_of}
use Rattle.rt_lines.specs.Lines.{script_lines}
use Rattle.rt_lines.specs.declared.line_reason.LineReason.{LineReason}
use Rattle.rt_lines.specs.declared.line_reason.LineReason.TheVariants as reason
use Rattle.rt_lines.specs.declared.play_fault.PlayFault.{PlayFault}
use Rattle.rt_lines.specs.declared.play_fault.PlayFault.TheVariants.{Usage, Refused, ReadFault, WriteFault, Memory, Limit}
use Rattle.rt_live_input.specs.Lines.{IsChaosLine, IsQueryLine, IsRowLine}
use Rattle.rt_live_input.specs.declared.chaos.Chaos.{Chaos}
use Rattle.rt_live_input.specs.declared.chaos.Crash.{Crash}
use Rattle.rt_live_input.specs.declared.input.Input.{Input}
use Rattle.rt_model.specs.Checked.{IsQuery}
use Rattle.rt_model.specs.Setup.{IsSetup}
use Rattle.rt_model.specs.declared.query.Query.{Query}
use Rattle.rt_model.specs.declared.setup.Setup.{Setup}
use Rattle.rt_script.specs.QueryTexts.{number_of}
use Rattle.rt_sql.specs.Parsing.{query_of}
use Rattle.rt_grammar.specs.declared.sql_refused.SqlRefused.{SqlRefused}

-- nothing is disturbed, and one controller leads
abbrev pub calm : Chaos
calm = record { drop = 0; repeat = 0; crash = None; leaders = 1 }

-- the server that crashes, where one does, is one of so many
abbrev pub CrashesOneOf : ℕ → Chaos → Type 0
CrashesOneOf servers chaos = IfSome chaos.crash (λ crash. crash.instance.0 < servers)

-- the lines behind a header begin with a chaos line
pub record BeginsWith (setup : Setup) (lines : List NumberedLine) (chaos : Chaos) (rest : List NumberedLine) : Type 0 where
  pub line : NumberedLine
  pub first : lines ≡ line ∷ rest
  pub is : IsChaosLine setup.controllers line.1 chaos
  pub within : CrashesOneOf setup.servers chaos

-- the first of these lines, where there is one, doesn't begin as a chaos line
abbrev pub BeginsCalm : List NumberedLine → Type 0
BeginsCalm [] = Unit {0}
BeginsCalm (line ∷ lines) = (text : List ℕ) → line.1 ≡ codes "chaos " ++ text → ⊥

-- the chaos of lines behind a header, and the lines behind it: there may be no such line
abbrev pub HasChaos : Setup → List NumberedLine → Chaos → List NumberedLine → Type 0
HasChaos setup lines chaos rest = BeginsWith setup lines chaos rest ⊎ (BeginsCalm lines × (chaos ≡ calm) × (rest ≡ lines))

-- a line gives a message of a partition
pub record GivesRow (setup : Setup) (line : List ℕ) (row : Appended) : Type 0 where
  pub is : IsRowLine line row
  pub partition : row.partition.0 < setup.partitions
  pub short : length row.message ≤ 65536

-- a line gives a query over the table
pub record GivesQuery (setup : Setup) (line : List ℕ) (query : Query) : Type 0 where
  pub text : List ℕ
  pub is : IsQueryLine line text
  pub read : query_of setup.schema setup.table.name text ≡ Ok query

-- a line gives a row or a query
abbrev pub Gives : Setup → List ℕ → List Appended → List Query → Type 0
Gives setup line rows queries =
    ((row : Appended) × GivesRow setup line row × (rows ≡ row ∷ []) × (queries ≡ []))
    ⊎ ((query : Query) × GivesQuery setup line query × (rows ≡ []) × (queries ≡ query ∷ []))

-- the first of these lines gives some, and the others give the rest
pub record GiveFirst (setup : Setup) (line : List ℕ) (Others : List Appended → List Query → Type 0) (rows : List Appended) (queries : List Query) : Type 0 where
  pub first_rows : List Appended
  pub first_queries : List Query
  pub gives : Gives setup line first_rows first_queries
  pub other_rows : List Appended
  pub other_queries : List Query
  pub others : Others other_rows other_queries
  pub rows_are : rows ≡ first_rows ++ other_rows
  pub queries_are : queries ≡ first_queries ++ other_queries

-- these lines give these rows and these queries, each in order
abbrev pub GiveAll : Setup → List NumberedLine → List Appended → List Query → Type 0
GiveAll setup [] rows queries = (rows ≡ []) × (queries ≡ [])
GiveAll setup (line ∷ lines) rows queries = GiveFirst setup line.1 (GiveAll setup lines) rows queries

-- a text is this input
pub record IsRead (text : List ℕ) (input : Input) : Type 0 where
  pub behind : List NumberedLine
  pub header : header_of (script_lines text) ≡ Ok (input.setup, behind)
  pub rest : List NumberedLine
  pub chaos : HasChaos input.setup behind input.chaos rest
  pub give : GiveAll input.setup rest input.rows input.queries

-- a line that is neither a row nor a query
pub record IsNoLine (line : List ℕ) : Type 0 where
  pub no_row : (row : Appended) → IsRowLine line row → ⊥
  pub no_query : (text : List ℕ) → IsQueryLine line text → ⊥

-- a row of a partition that there isn't
pub record IsAstray (setup : Setup) (line : List ℕ) : Type 0 where
  pub row : Appended
  pub is : IsRowLine line row
  pub astray : setup.partitions ≤ row.partition.0

-- a text that is no query, by the number of its refusal
pub record IsNoQuery (setup : Setup) (line : List ℕ) (number : ℕ) : Type 0 where
  pub text : List ℕ
  pub is : IsQueryLine line text
  pub why : SqlRefused
  pub refused : query_of setup.schema setup.table.name text ≡ Err why
  pub number_is : number ≡ number_of why

-- a message that is too long
pub record IsLong (setup : Setup) (line : List ℕ) : Type 0 where
  pub row : Appended
  pub is : IsRowLine line row
  pub partition : row.partition.0 < setup.partitions
  pub long : 65536 < length row.message

-- why a line behind the header is refused
abbrev pub RefusesFor : Setup → List ℕ → LineReason → Type 0
RefusesFor setup line reason.BadLine = IsNoLine line
RefusesFor setup line reason.NoSuchNode = IsAstray setup line
RefusesFor setup line (reason.Query number) = IsNoQuery setup line number
RefusesFor setup line (reason.Schema number) = ⊥
RefusesFor setup line (reason.Table number) = ⊥
RefusesFor setup line reason.NoSuchMessage = ⊥
RefusesFor setup line reason.NodeDown = ⊥
RefusesFor setup line reason.NothingToDo = ⊥
RefusesFor setup line (reason.Upsert number) = ⊥

abbrev pub Refuses : Setup → NumberedLine → PlayFault → Type 0
Refuses setup line (Refused number why) = (number ≡ line.0) × RefusesFor setup line.1 why
Refuses setup line (Limit which) = (which ≡ Message) × IsLong setup line.1
Refuses setup line Usage = ⊥
Refuses setup line ReadFault = ⊥
Refuses setup line WriteFault = ⊥
Refuses setup line Memory = ⊥

-- a line that begins as a chaos line, and is none
pub record IsNoChaos (setup : Setup) (line : List ℕ) : Type 0 where
  pub text : List ℕ
  pub begins : line ≡ codes "chaos " ++ text
  pub none : (chaos : Chaos) → IsChaosLine setup.controllers line chaos → ⊥

-- a chaos in which a server crashes that there isn't
pub record CrashesNone (setup : Setup) (line : List ℕ) : Type 0 where
  pub chaos : Chaos
  pub is : IsChaosLine setup.controllers line chaos
  pub crash : Crash
  pub crashes : chaos.crash ≡ Some crash
  pub astray : setup.servers ≤ crash.instance.0

-- why a line directly behind the header that begins with `chaos` is refused
abbrev pub RefusesChaosFor : Setup → List ℕ → LineReason → Type 0
RefusesChaosFor setup line reason.BadLine = IsNoChaos setup line
RefusesChaosFor setup line reason.NoSuchNode = CrashesNone setup line
RefusesChaosFor setup line (reason.Query number) = ⊥
RefusesChaosFor setup line (reason.Schema number) = ⊥
RefusesChaosFor setup line (reason.Table number) = ⊥
RefusesChaosFor setup line reason.NoSuchMessage = ⊥
RefusesChaosFor setup line reason.NodeDown = ⊥
RefusesChaosFor setup line reason.NothingToDo = ⊥
RefusesChaosFor setup line (reason.Upsert number) = ⊥

abbrev pub RefusesChaos : Setup → NumberedLine → PlayFault → Type 0
RefusesChaos setup line (Refused number why) = (number ≡ line.0) × RefusesChaosFor setup line.1 why
RefusesChaos setup line (Limit which) = ⊥
RefusesChaos setup line Usage = ⊥
RefusesChaos setup line ReadFault = ⊥
RefusesChaos setup line WriteFault = ⊥
RefusesChaos setup line Memory = ⊥

-- the first line behind the header is a chaos line that is refused
pub record StopsAtChaos (setup : Setup) (lines : List NumberedLine) (fault : PlayFault) : Type 0 where
  pub line : NumberedLine
  pub rest : List NumberedLine
  pub first : lines ≡ line ∷ rest
  pub refuses : RefusesChaos setup line fault

-- some lines are read, and the next one is refused
pub record StopsAtLine (setup : Setup) (lines : List NumberedLine) (fault : PlayFault) : Type 0 where
  pub chaos : Chaos
  pub rest : List NumberedLine
  pub has : HasChaos setup lines chaos rest
  pub front : List NumberedLine
  pub line : NumberedLine
  pub behind : List NumberedLine
  pub whole : rest ≡ front ++ line ∷ behind
  pub rows : List Appended
  pub queries : List Query
  pub give : GiveAll setup front rows queries
  pub refuses : Refuses setup line fault

-- a header that was read, and the line behind it that is refused
pub record StopsBehind (text : List ℕ) (fault : PlayFault) : Type 0 where
  pub setup : Setup
  pub behind : List NumberedLine
  pub header : header_of (script_lines text) ≡ Ok (setup, behind)
  pub stops : StopsAtChaos setup behind fault ⊎ StopsAtLine setup behind fault

-- a text is refused in its header, or at the first line behind it that is refused
abbrev pub IsRefused : List ℕ → PlayFault → Type 0
IsRefused text fault = (header_of (script_lines text) ≡ Err fault) ⊎ StopsBehind text fault

-- a text is read as what it says, or refused for its cause; want of memory is free
abbrev pub ReadsInput : List ℕ → Result Input PlayFault → Type 0
ReadsInput text (Ok input) = IsRead text input
ReadsInput text (Err (Refused line why)) = IsRefused text (Refused line why)
ReadsInput text (Err (Limit which)) = IsRefused text (Limit which)
ReadsInput text (Err Memory) = Unit {0}
ReadsInput text (Err Usage) = ⊥
ReadsInput text (Err ReadFault) = ⊥
ReadsInput text (Err WriteFault) = ⊥

-- a cluster within its limits, and all that comes to it is of its nodes, its partitions and its columns
pub record IsInput (input : Input) : Type 0 where
  pub setup : IsSetup input.setup
  pub drops_some : input.chaos.drop ≢ 1
  pub some_leader : 1 ≤ input.chaos.leaders
  pub few_leaders : input.chaos.leaders ≤ input.setup.controllers
  pub crash : CrashesOneOf input.setup.servers input.chaos
  pub rows : All (λ r. (r.partition.0 < input.setup.partitions) × (length r.message ≤ 65536)) input.rows
  pub queries : All (IsQuery input.setup.schema) input.queries
