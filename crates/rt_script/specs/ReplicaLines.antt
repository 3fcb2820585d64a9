-- The lines that name a replica.
use Rattle.std.specs.Prelude.{ℕ, List, Option, Some, nat_le, if◌then◌else◌}
use Rattle.rt_events.specs.declared.event.Event.{Event}
use Rattle.rt_events.specs.declared.event.Event.TheVariants.{Consume, Force, Stop, Build, Report, Extend, Transit, Download}
use Rattle.rt_lines.specs.Words.{then_some, parted_at, number_of}
use Rattle.rt_script.specs.declared.replica_lines.NumberedReplica.{NumberedReplica}
use Rattle.rt_script.specs.Words.{instance_of, replica_of, segment_of}

-- `sK P/Q N`
abbrev pub numbered_replica_of : List ℕ → Option NumberedReplica
numbered_replica_of text =
    then_some (parted_at 32 text) (λ first.
    then_some (instance_of first.0) (λ instance.
    then_some (parted_at 32 first.1) (λ second.
    then_some (segment_of second.0) (λ segment.
    then_some (number_of second.1) (λ number.
    Some (record { replica = record { instance = instance; segment = segment }; number = number }))))))

-- a batch of a number that no batch has is one of no message, at which there is nothing to do
abbrev pub batch_of : ℕ → ℕ
batch_of count = if nat_le count 4294967295 then count else 0

-- `sK P/Q N`
abbrev pub consume_of : List ℕ → Option Event
consume_of text =
    then_some (numbered_replica_of text) (λ at.
    Some (Consume at.replica.instance at.replica.segment.partition at.replica.segment.sequence (batch_of at.number)))

-- `sK P/Q`
abbrev pub force_of : List ℕ → Option Event
force_of text = then_some (replica_of text) (λ at. Some (Force at.instance at.segment.partition at.segment.sequence))

-- `sK P/Q`
abbrev pub stop_of : List ℕ → Option Event
stop_of text = then_some (replica_of text) (λ at. Some (Stop at.instance at.segment.partition at.segment.sequence))

-- `sK P/Q`
abbrev pub build_of : List ℕ → Option Event
build_of text = then_some (replica_of text) (λ at. Some (Build at.instance at.segment.partition at.segment.sequence))

-- `sK P/Q`
abbrev pub report_of : List ℕ → Option Event
report_of text = then_some (replica_of text) (λ at. Some (Report at.instance at.segment.partition at.segment.sequence))

-- `sK P/Q N`
abbrev pub extend_of : List ℕ → Option Event
extend_of text =
    then_some (numbered_replica_of text) (λ at.
    Some (Extend at.replica.instance at.replica.segment.partition at.replica.segment.sequence at.number))

-- `sK P/Q`
abbrev pub transit_of : List ℕ → Option Event
transit_of text = then_some (replica_of text) (λ at. Some (Transit at.instance at.segment.partition at.segment.sequence))

-- `sK P/Q`
abbrev pub download_of : List ℕ → Option Event
download_of text = then_some (replica_of text) (λ at. Some (Download at.instance at.segment.partition at.segment.sequence))
