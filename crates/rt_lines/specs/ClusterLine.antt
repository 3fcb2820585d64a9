-- Which lines spell a cluster, and which one.
use Rattle.std.specs.Prelude.{◌≡◌, ◌⊎◌, ℕ, ◌≤◌, List, [], ◌++◌, Option, None, Some, codes, true}
use Rattle.std.specs.Str.Parse.{digits_value}
use Rattle.rt_lines.specs.declared.cluster.Cluster.{Cluster}
use Rattle.rt_lines.specs.Words.{is_numeral}

-- a number: decimal digits without sign or leading zeros, whose value fits 64 bits
pub record Spells (text : List ℕ) (number : ℕ) : Type 0 where
  pub numeral : is_numeral text ≡ true
  pub value : number ≡ digits_value 10 text
  pub fits : number ≤ 18446744073709551615

-- ` retention=N`, or nothing, where there is none
abbrev pub SaysRetention : List ℕ → Option ℕ → Type 0
SaysRetention piece None = piece ≡ []
SaysRetention piece (Some number) = (word : List ℕ) × (piece ≡ codes " retention=" ++ word) × Spells word number

-- ` format=F`, where F is 1 or 2; or nothing, for format 2
abbrev pub SaysFormat : List ℕ → ℕ → Type 0
SaysFormat piece format = ((piece ≡ []) × (format ≡ 2)) ⊎ ((word : List ℕ) × (piece ≡ codes " format=" ++ word) × Spells word format × ((format ≡ 1) ⊎ (format ≡ 2)))

-- `cluster servers=N controllers=N partitions=N start=N grace=N`, behind which a retention and then a format may stand
pub record IsClusterLine (line : List ℕ) (cluster : Cluster) : Type 0 where
  pub servers : List ℕ
  pub controllers : List ℕ
  pub partitions : List ℕ
  pub start : List ℕ
  pub grace : List ℕ
  pub retention : List ℕ
  pub format : List ℕ
  pub whole : line ≡ codes "cluster servers=" ++ (servers ++ (codes " controllers=" ++ (controllers ++ (codes " partitions=" ++ (partitions ++ (codes " start=" ++ (start ++ (codes " grace=" ++ (grace ++ (retention ++ format))))))))))
  pub says_servers : Spells servers cluster.servers
  pub says_controllers : Spells controllers cluster.controllers
  pub says_partitions : Spells partitions cluster.partitions
  pub says_start : Spells start cluster.start
  pub says_grace : Spells grace cluster.grace
  pub says_retention : SaysRetention retention cluster.options.retention
  pub says_format : SaysFormat format cluster.options.format
