-- The words by which a line names nodes, segments, messages, jobs and queries.
use Rattle.std.specs.Prelude.{ℕ, List, [], ◌∷◌, Option, None, Some, ◌==◌, if◌then◌else◌}
use Rattle.rt_base.specs.declared.gate.NodeId.{NodeId}
use Rattle.rt_base.specs.declared.gate.NodeId.TheVariants.{Server, Controller}
use Rattle.rt_base.specs.declared.limits.TheConstants.{LAST_NUMBER}
use Rattle.rt_base.specs.declared.numbers.ControllerId.{ControllerId}
use Rattle.rt_base.specs.declared.numbers.Instance.{Instance}
use Rattle.rt_base.specs.declared.numbers.Partition.{Partition}
use Rattle.rt_lines.specs.Words.{then_some, parted_at, number_of, number_up_to}
use Rattle.rt_script.specs.declared.words.ReplicaAt.{ReplicaAt}
use Rattle.rt_script.specs.declared.words.SegmentAt.{SegmentAt}

-- the number of a partition, a sequence, a node or a query leaves out the last one of 32 bits
abbrev pub index_of : List ℕ → Option ℕ
index_of word = number_up_to LAST_NUMBER word

-- what stands behind a word's first letter, where it is this one
abbrev pub behind_letter : ℕ → List ℕ → Option (List ℕ)
behind_letter letter [] = None
behind_letter letter (b ∷ rest) = if b == letter then Some rest else None

-- `P`
abbrev pub partition_of : List ℕ → Option Partition
partition_of word = then_some (index_of word) (λ n. Some (record { 0 = n }))

-- `P/Q`
abbrev pub segment_of : List ℕ → Option SegmentAt
segment_of word =
    then_some (parted_at 47 word) (λ parts.
    then_some (partition_of parts.0) (λ partition.
    then_some (index_of parts.1) (λ sequence.
    Some (record { partition = partition; sequence = record { 0 = sequence } }))))

-- `sK`
abbrev pub instance_of : List ℕ → Option Instance
instance_of word = then_some (then_some (behind_letter 115 word) index_of) (λ n. Some (record { 0 = n }))

-- `cK`
abbrev pub controller_of : List ℕ → Option ControllerId
controller_of word = then_some (then_some (behind_letter 99 word) index_of) (λ n. Some (record { 0 = n }))

abbrev pub node_by : Option Instance → Option ControllerId → Option NodeId
node_by (Some instance) controller = Some (Server instance)
node_by None controller = then_some controller (λ c. Some (Controller c))

-- `sK` or `cK`
abbrev pub node_of : List ℕ → Option NodeId
node_of word = node_by (instance_of word) (controller_of word)

-- `mN`
abbrev pub message_of : List ℕ → Option ℕ
message_of word = then_some (behind_letter 109 word) number_of

-- `jN`
abbrev pub job_of : List ℕ → Option ℕ
job_of word = then_some (behind_letter 106 word) number_of

-- `fN`
abbrev pub force_job_of : List ℕ → Option ℕ
force_job_of word = then_some (behind_letter 102 word) number_of

-- `qN`
abbrev pub query_of : List ℕ → Option ℕ
query_of word = then_some (behind_letter 113 word) index_of

-- `sK P/Q`
abbrev pub replica_of : List ℕ → Option ReplicaAt
replica_of text =
    then_some (parted_at 32 text) (λ parts.
    then_some (instance_of parts.0) (λ instance.
    then_some (segment_of parts.1) (λ segment.
    Some (record { instance = instance; segment = segment }))))
