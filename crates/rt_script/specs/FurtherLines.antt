-- The lines that stand beside the events, but for those with the text of a query.
use Rattle.std.specs.Prelude.{ℕ, List, Option, None, Some, codes, bytes_eq, if◌then◌else◌}
use Rattle.std.specs.Str.{is_utf8}
use Rattle.rt_lines.specs.Words.{then_some, parted_at, field_of}
use Rattle.rt_script.specs.Words.{force_job_of, replica_of}
use Rattle.rt_script.specs.declared.further.Further.{Further}
use Rattle.rt_script.specs.declared.further.Further.TheVariants.{
  Offline,
  Pause,
  Resume,
  ForceCommit,
  ForceStatus,
  Peer,
  Rehearse,
  Loaded,
  Step,
}

-- a line of one word
abbrev pub bare_of : List ℕ → Option Further
bare_of line =
    if bytes_eq line (codes "pause") then Some Pause else
    (if bytes_eq line (codes "resume") then Some Resume else
    (if bytes_eq line (codes "forceCommit") then Some ForceCommit else None))

-- `TEXT` in UTF-8
abbrev pub offline_of : List ℕ → Option Further
offline_of text = if is_utf8 text then Some (Offline text) else None

-- `fN`
abbrev pub force_status_of : List ℕ → Option Further
force_status_of text = then_some (force_job_of text) (λ job. Some (ForceStatus job))

-- `sK P/Q`
abbrev pub peer_of : List ℕ → Option Further
peer_of text = then_some (replica_of text) (λ at. Some (Peer at.instance at.segment.partition at.segment.sequence))

-- `sK P/Q`
abbrev pub loaded_of : List ℕ → Option Further
loaded_of text = then_some (replica_of text) (λ at. Some (Loaded at.instance at.segment.partition at.segment.sequence))

-- `servers=N` and `keep=K`
abbrev pub plan_by : List ℕ → List ℕ → Option Further
plan_by first second =
    then_some (field_of (codes "servers=") first) (λ servers.
    then_some (field_of (codes "keep=") second) (λ keep.
    Some (Rehearse servers keep)))

-- `loaded sK P/Q` or `servers=N keep=K`, by the word and what follows it
abbrev pub rehearse_by : List ℕ → List ℕ → Option Further
rehearse_by word text = if bytes_eq word (codes "loaded") then loaded_of text else plan_by word text

-- `step`, `loaded sK P/Q` or `servers=N keep=K`
abbrev pub rehearse_of : List ℕ → Option Further
rehearse_of text =
    if bytes_eq text (codes "step") then Some Step else
    then_some (parted_at 32 text) (λ parts. rehearse_by parts.0 parts.1)
