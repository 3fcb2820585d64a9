-- What a cluster line says is within the limits that it doesn't break.
use Rattle.std.proofs.Common.{◌≡◌, ◌≤◌, ℕ, Bool, true, false, List, Option, Some, None, if◌then◌else◌, arith, refl}
use Rattle.std.specs.Prelude.{IfSome, codes, not, nat_le, ◌&&◌, ◌==◌}
use Rattle.std.proofs.lemmas.Bool.{leb-true, and_parts}
use Rattle.rt_base.specs.declared.limits.TheConstants.{LAST_MOMENT, MOST_CONTROLLERS, MOST_PARTITIONS, MOST_REPLICATION, MOST_SERVERS}
use Rattle.rt_base.specs.declared.which.Which.{Which}
use Rattle.rt_lines.specs.declared.cluster.Cluster.{Cluster}
use Rattle.rt_lines.specs.declared.cluster.Options.{Options}
use Rattle.rt_lines.specs.Cluster.{next_field, format_of, retained, formatted, no_options, option_by, options_by, options_of, end_by, end_of, cluster_of, is_within, cluster_fault}
use Rattle.rt_lines.specs.Words.{field_of, then_some, after_prefix, parted_at}

some_given : {A B : Type 0} (P : B → Type 0) (Q : A → Type 0) (o : Option A) (f : A → Option B) → IfSome o Q → ((x : A) → Q x → IfSome (f x) P) → IfSome (then_some o f) P
some_given P Q None f h k = tt
some_given P Q (Some x) f h k = k x h

some_any : {A B : Type 0} (P : B → Type 0) (o : Option A) (f : A → Option B) → ((x : A) → IfSome (f x) P) → IfSome (then_some o f) P
some_any P None f k = tt
some_any P (Some x) f k = k x

-- a format of files
abbrev IsFormat : ℕ → Type 0
IsFormat format = (1 ≤ format) × (format ≤ 2)

abbrev IsOption : Options → Type 0
IsOption options = IsFormat options.format

format_at : (first second : Bool) → IfSome (if first then Some 1 else (if second then Some 2 else None)) IsFormat
format_at true second = (omega arith, omega arith)
format_at false true = (omega arith, omega arith)
format_at false false = tt

format_has : (word : List ℕ) → IfSome (format_of word) IsFormat
format_has word = some_any IsFormat (field_of (codes "format=") word) _ (λ f. format_at (f == 1) (f == 2))

option_has : (o : Option ℕ) (word : List ℕ) → IfSome (option_by o word) IsOption
option_has (Some n) word = (omega arith, omega arith)
option_has None word = some_given IsOption IsFormat (format_of word) (λ format. Some (formatted format)) (format_has word) (λ format h. h)

options_has : (o : Option (List ℕ × List ℕ)) (word : List ℕ) → IfSome (options_by o word) IsOption
options_has None word = option_has (field_of (codes "retention=") word) word
options_has (Some words) text =
    some_any IsOption (field_of (codes "retention=") words.0) _
    (λ n. some_given IsOption IsFormat (format_of words.1) (λ format. Some (retained n format)) (format_has words.1) (λ format h. h))

abbrev IsEnd : ℕ × Options → Type 0
IsEnd end = IsOption end.1

end_has : (o : Option (List ℕ × List ℕ)) (word : List ℕ) → IfSome (end_by o word) IsEnd
end_has None word = some_any IsEnd (field_of (codes "grace=") word) (λ grace. Some (grace, no_options)) (λ grace. (omega arith, omega arith))
end_has (Some parts) text =
    some_any IsEnd (field_of (codes "grace=") parts.0) _
    (λ grace. some_given IsEnd IsOption (options_of parts.1) (λ options. Some (grace, options)) (options_has (parted_at 32 parts.1) parts.1) (λ options h. h))

abbrev pub HasFormat : Cluster → Type 0
HasFormat c = IsOption c.options

-- a cluster line names one of the two formats
pub cluster_has : (line : List ℕ) → IfSome (cluster_of line) HasFormat
cluster_has line =
    some_any HasFormat (after_prefix (codes "cluster ") line) _ (λ text.
    some_any HasFormat (next_field (codes "servers=") text) _ (λ servers.
    some_any HasFormat (next_field (codes "controllers=") servers.1) _ (λ controllers.
    some_any HasFormat (next_field (codes "partitions=") controllers.1) _ (λ partitions.
    some_any HasFormat (next_field (codes "start=") partitions.1) _ (λ start.
    some_given HasFormat IsEnd (end_of start.1) _ (end_has (parted_at 32 start.1) start.1) (λ end h. h))))))

kept : (b : Bool) (which : Which) (o : Option Which) → (if not b then Some which else o) ≡ None → (b ≡ true) × (o ≡ None)
kept true which o e = (refl, e)
kept false which o e = cc

within : (least most n : ℕ) → is_within least most n ≡ true → (least ≤ n) × (n ≤ most)
within least most n e =
    let both = and_parts (nat_le least n) (nat_le n most) e in
    (leb-true least n both.0, leb-true n most both.1)

-- what a cluster has that goes beyond no limit
pub record IsBounded (c : Cluster) (replication : ℕ) : Type 0 where
  pub servers : (1 ≤ c.servers) × (c.servers ≤ MOST_SERVERS)
  pub controllers : (1 ≤ c.controllers) × (c.controllers ≤ MOST_CONTROLLERS)
  pub partitions : (1 ≤ c.partitions) × (c.partitions ≤ MOST_PARTITIONS)
  pub few : replication ≤ MOST_REPLICATION
  pub enough : replication ≤ c.servers
  pub start : c.start ≤ LAST_MOMENT

pub bounded : (c : Cluster) (replication : ℕ) → cluster_fault c replication ≡ None → IsBounded c replication
bounded c replication e =
    let a = kept (is_within 1 MOST_SERVERS c.servers) _ _ e in
    let b = kept (is_within 1 MOST_CONTROLLERS c.controllers) _ _ a.1 in
    let d = kept (is_within 1 MOST_PARTITIONS c.partitions) _ _ b.1 in
    let r = kept (nat_le replication MOST_REPLICATION && nat_le replication c.servers) _ _ d.1 in
    let m = kept (nat_le c.start LAST_MOMENT) _ _ r.1 in
    let both = and_parts (nat_le replication MOST_REPLICATION) (nat_le replication c.servers) r.0 in
    record {
      servers = within 1 MOST_SERVERS c.servers a.0;
      controllers = within 1 MOST_CONTROLLERS c.controllers b.0;
      partitions = within 1 MOST_PARTITIONS c.partitions d.0;
      few = leb-true _ _ both.0;
      enough = leb-true _ _ both.1;
      start = leb-true _ _ m.0;
    }

-- a cluster that goes beyond no limit has few nodes and partitions
pub few_nodes : (c : Cluster) (replication : ℕ) → cluster_fault c replication ≡ None →
    (c.servers ≤ MOST_SERVERS) × (c.controllers ≤ MOST_CONTROLLERS) × (c.partitions ≤ MOST_PARTITIONS)
few_nodes c replication e = let b = bounded c replication e in (b.servers.1, b.controllers.1, b.partitions.1)
