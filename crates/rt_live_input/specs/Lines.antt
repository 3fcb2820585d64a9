-- Which lines spell a chaos, a row and a query, and which ones.
use Rattle.std.specs.Prelude.{◌≡◌, ◌≢◌, ℕ, ◌≤◌, List, ◌++◌, Option, None, Some, codes, true}
use Rattle.std.specs.Str.{is_utf8}
use Rattle.rt_ground.specs.declared.appended.Appended.{Appended}
use Rattle.rt_lines.specs.ClusterLine.{Spells}
use Rattle.rt_live_input.specs.declared.chaos.Chaos.{Chaos}
use Rattle.rt_live_input.specs.declared.chaos.Crash.{Crash}

-- `sK@T`, or `-` where no server crashes
abbrev pub SaysCrash : List ℕ → Option Crash → Type 0
SaysCrash piece None = piece ≡ codes "-"
SaysCrash piece (Some crash) =
    (server : List ℕ) × (turn : List ℕ) × (piece ≡ codes "s" ++ (server ++ (codes "@" ++ turn)))
    × Spells server crash.instance.0 × (crash.instance.0 ≤ 4294967294) × Spells turn crash.turn

-- `chaos drop=D repeat=E crash=sK@T leaders=N`, in a cluster of so many controllers: D isn't 1, and N is one of them
pub record IsChaosLine (controllers : ℕ) (line : List ℕ) (chaos : Chaos) : Type 0 where
  pub drop : List ℕ
  pub repeat : List ℕ
  pub crash : List ℕ
  pub leaders : List ℕ
  pub whole : line ≡ codes "chaos drop=" ++ (drop ++ (codes " repeat=" ++ (repeat ++ (codes " crash=" ++ (crash ++ (codes " leaders=" ++ leaders))))))
  pub says_drop : Spells drop chaos.drop
  pub says_repeat : Spells repeat chaos.repeat
  pub says_crash : SaysCrash crash chaos.crash
  pub says_leaders : Spells leaders chaos.leaders
  pub drops_some : chaos.drop ≢ 1
  pub some_leader : 1 ≤ chaos.leaders
  pub few_leaders : chaos.leaders ≤ controllers

-- `row P TEXT`
pub record IsRowLine (line : List ℕ) (row : Appended) : Type 0 where
  pub partition : List ℕ
  pub whole : line ≡ codes "row " ++ (partition ++ (codes " " ++ row.message))
  pub says : Spells partition row.partition.0
  pub last : row.partition.0 ≤ 4294967294

-- `query TEXT`
pub record IsQueryLine (line text : List ℕ) : Type 0 where
  pub whole : line ≡ codes "query " ++ text
  pub utf8 : is_utf8 text ≡ true
