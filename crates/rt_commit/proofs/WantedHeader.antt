-- A header that a job wants is the one that its commit names.
use Rattle.std.proofs.Common.{◌≡◌, ℕ, ◌==◌, ◌&&◌, Bool, true, List, Option, Some, ap, ◌∙◌}
use Rattle.std.proofs.lemmas.Bool.{and_parts, eqb-true}
use Rattle.rt_base.specs.declared.header.Header.{Header}
use Rattle.rt_base.specs.declared.numbers.Offset.{Offset}
use Rattle.rt_base.specs.declared.numbers.Partition.{Partition}
use Rattle.rt_base.specs.declared.numbers.Sequence.{Sequence}
use Rattle.rt_model.specs.declared.asked.Asked.{Asked}
use Rattle.rt_past.specs.Files.{header_named}
use Rattle.rt_commit.specs.Job.{is_wanted, commit_of}

abbrev pub some_header : Header → Option Header
some_header h = Some h

abbrev partition_of : ℕ → Partition
partition_of n = record { 0 = n }

abbrev sequence_of : ℕ → Sequence
sequence_of n = record { 0 = n }

abbrev offset_of : ℕ → Offset
offset_of n = record { 0 = n }

abbrev header_at : Header → Partition → Sequence → Offset → Offset → Header
header_at h p s start end =
    record { partition = p; sequence = s; range = record { start = start; end = end }; rows = h.rows; digest = h.digest }

abbrev is_of_segment : Asked → Header → Bool
is_of_segment q h = (h.partition.0 == q.partition.0) && (h.sequence.0 == q.sequence.0)

pub wanted_header : (q : Asked) (start end : Offset) (path : List ℕ) (h : Header) → is_wanted q start end h ≡ true
    → h ≡ header_named q.partition q.sequence start (commit_of end path h)
wanted_header q start end path h is =
    let all = and_parts (is_of_segment q h && (h.range.start.0 == start.0)) (h.range.end.0 == end.0) is in
    let rest = and_parts (is_of_segment q h) (h.range.start.0 == start.0) all.0 in
    let last = and_parts (h.partition.0 == q.partition.0) (h.sequence.0 == q.sequence.0) rest.0 in
    let p = ap partition_of (eqb-true h.partition.0 q.partition.0 last.0) in
    let s = ap sequence_of (eqb-true h.sequence.0 q.sequence.0 last.1) in
    let first = ap offset_of (eqb-true h.range.start.0 start.0 rest.1) in
    let second = ap offset_of (eqb-true h.range.end.0 end.0 all.1) in
    ap (λ (x : Partition). header_at h x h.sequence h.range.start h.range.end) p
    ∙ ap (λ (x : Sequence). header_at h q.partition x h.range.start h.range.end) s
    ∙ ap (λ (x : Offset). header_at h q.partition q.sequence x h.range.end) first
    ∙ ap (λ (x : Offset). header_at h q.partition q.sequence start x) second
