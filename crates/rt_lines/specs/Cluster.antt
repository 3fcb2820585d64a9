-- What a cluster line says: `cluster servers=N controllers=N partitions=N start=N grace=N`,
-- behind which ` retention=N` and then ` format=F` may stand.
use Rattle.std.specs.Prelude.{ℕ, Bool, not, List, Option, None, Some, codes, ◌==◌, nat_le, ◌&&◌, if◌then◌else◌}
use Rattle.rt_base.specs.declared.limits.TheConstants.{LAST_MOMENT, MOST_CONTROLLERS, MOST_PARTITIONS, MOST_REPLICATION, MOST_SERVERS}
use Rattle.rt_base.specs.declared.which.Which.{Which}
use Rattle.rt_base.specs.declared.which.Which.TheVariants.{Servers, Controllers, Partitions, Replication, Moment}
use Rattle.rt_lines.specs.declared.cluster.Cluster.{Cluster}
use Rattle.rt_lines.specs.declared.cluster.Options.{Options}
use Rattle.rt_lines.specs.Words.{then_some, after_prefix, field_of, parted_at}

-- the number of a text's first word `KEY=N`, and the words behind it
abbrev pub next_field : List ℕ → List ℕ → Option (ℕ × List ℕ)
next_field key text = then_some (parted_at 32 text) (λ parts. then_some (field_of key parts.0) (λ n. Some (n, parts.1)))

-- files have one of two formats
abbrev pub format_of : List ℕ → Option ℕ
format_of word = then_some (field_of (codes "format=") word) (λ f. if f == 1 then Some 1 else (if f == 2 then Some 2 else None))

abbrev pub no_options : Options
no_options = record { retention = None; format = 2 }

abbrev pub retained : ℕ → ℕ → Options
retained n format = record { retention = Some n; format = format }

abbrev pub formatted : ℕ → Options
formatted format = record { retention = None; format = format }

-- one word is a retention, or else a format
abbrev pub option_by : Option ℕ → List ℕ → Option Options
option_by (Some n) word = Some (retained n 2)
option_by None word = then_some (format_of word) (λ format. Some (formatted format))

-- of two words the first is a retention and the second a format
abbrev pub options_by : Option (List ℕ × List ℕ) → List ℕ → Option Options
options_by None word = option_by (field_of (codes "retention=") word) word
options_by (Some words) text = then_some (field_of (codes "retention=") words.0) (λ n. then_some (format_of words.1) (λ format. Some (retained n format)))

abbrev pub options_of : List ℕ → Option Options
options_of text = options_by (parted_at 32 text) text

-- the grace, with the options behind it, where there are any
abbrev pub end_by : Option (List ℕ × List ℕ) → List ℕ → Option (ℕ × Options)
end_by None word = then_some (field_of (codes "grace=") word) (λ grace. Some (grace, no_options))
end_by (Some parts) text = then_some (field_of (codes "grace=") parts.0) (λ grace. then_some (options_of parts.1) (λ options. Some (grace, options)))

abbrev pub end_of : List ℕ → Option (ℕ × Options)
end_of text = end_by (parted_at 32 text) text

-- what a cluster line says, or none where the line is outside the grammar
abbrev pub cluster_of : List ℕ → Option Cluster
cluster_of line =
    then_some (after_prefix (codes "cluster ") line) (λ text.
    then_some (next_field (codes "servers=") text) (λ servers.
    then_some (next_field (codes "controllers=") servers.1) (λ controllers.
    then_some (next_field (codes "partitions=") controllers.1) (λ partitions.
    then_some (next_field (codes "start=") partitions.1) (λ start.
    then_some (end_of start.1) (λ end.
    Some (record {
      servers = servers.0;
      controllers = controllers.0;
      partitions = partitions.0;
      start = start.0;
      grace = end.0;
      options = end.1;
    })))))))

abbrev pub is_within : ℕ → ℕ → ℕ → Bool
is_within least most n = nat_le least n && nat_le n most

-- the first limit that a cluster goes beyond, with a table of this replication
abbrev pub cluster_fault : Cluster → ℕ → Option Which
cluster_fault c replication =
    if not (is_within 1 MOST_SERVERS c.servers) then Some Servers else
    (if not (is_within 1 MOST_CONTROLLERS c.controllers) then Some Controllers else
    (if not (is_within 1 MOST_PARTITIONS c.partitions) then Some Partitions else
    (if not (nat_le replication MOST_REPLICATION && nat_le replication c.servers) then Some Replication else
    (if not (nat_le c.start LAST_MOMENT) then Some Moment else None))))
