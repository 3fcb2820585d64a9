-- How a chaos line is read, word by word.
use Rattle.std.specs.Prelude.{ℕ, Bool, true, List, Option, None, Some, Result, Ok, Err, codes, bytes_eq, nat_lt, ◌==◌, if◌then◌else◌}
use Rattle.rt_lines.specs.Cluster.{next_field}
use Rattle.rt_lines.specs.Header.{if_well_formed}
use Rattle.rt_lines.specs.Words.{after_prefix, number_of, number_up_to, parted_at, then_some}
use Rattle.rt_lines.specs.declared.line_reason.LineReason.TheVariants.{NoSuchNode}
use Rattle.rt_lines.specs.declared.play_fault.PlayFault.{PlayFault}
use Rattle.rt_lines.specs.declared.play_fault.PlayFault.TheVariants.{Refused}
use Rattle.rt_live_input.specs.declared.chaos.Chaos.{Chaos}
use Rattle.rt_live_input.specs.declared.chaos.Crash.{Crash}
use Rattle.rt_model.specs.declared.setup.Setup.{Setup}

abbrev pub crashing : ℕ → ℕ → Crash
crashing server turn = record { instance = record { 0 = server }; turn = turn }

-- `sK@T`
abbrev pub server_crash : List ℕ → Option Crash
server_crash word =
    then_some (after_prefix (codes "s") word) (λ text.
    then_some (parted_at 64 text) (λ parts.
    then_some (number_up_to 4294967294 parts.0) (λ server.
    then_some (number_of parts.1) (λ turn.
    Some (crashing server turn)))))

-- `sK@T`, or `-` where no server crashes
abbrev pub crash_of : List ℕ → Option (Option Crash)
crash_of word = if bytes_eq word (codes "-") then Some None else then_some (server_crash word) (λ crash. Some (Some crash))

-- `crash=C` and a space
abbrev pub next_crash : List ℕ → Option (Option Crash × List ℕ)
next_crash text =
    then_some (parted_at 32 text) (λ parts.
    then_some (after_prefix (codes "crash=") parts.0) (λ word.
    then_some (crash_of word) (λ crash.
    Some (crash, parts.1))))

abbrev pub some_leaders : ℕ → Option ℕ
some_leaders number = if number == 0 then None else Some number

-- `leaders=N`, one at least and at most all
abbrev pub leaders_of : ℕ → List ℕ → Option ℕ
leaders_of controllers text = then_some (after_prefix (codes "leaders=") text) (λ word. then_some (number_up_to controllers word) some_leaders)

abbrev pub chaos_with : ℕ → ℕ → Option Crash → ℕ → Option Chaos
chaos_with drop repeat crash leaders = if drop == 1 then None else Some (record { drop = drop; repeat = repeat; crash = crash; leaders = leaders })

-- `drop=D repeat=E crash=C leaders=N`, in a cluster of so many controllers
abbrev pub chaos_said : ℕ → List ℕ → Option Chaos
chaos_said controllers text =
    then_some (next_field (codes "drop=") text) (λ drop.
    then_some (next_field (codes "repeat=") drop.1) (λ repeat.
    then_some (next_crash repeat.1) (λ crash.
    then_some (leaders_of controllers crash.1) (λ leaders.
    chaos_with drop.0 repeat.0 crash.0 leaders))))

-- the server that crashes, where one does, is below their number
abbrev pub crash_within : ℕ → Option Crash → Bool
crash_within servers None = true
crash_within servers (Some crash) = nat_lt crash.instance.0 servers

abbrev pub chaos_within : ℕ → ℕ → Chaos → Result Chaos PlayFault
chaos_within servers number chaos = if crash_within servers chaos.crash then Ok chaos else Err (Refused number NoSuchNode)

-- what a line of this number says behind `chaos `
abbrev pub chaos_at : Setup → ℕ → List ℕ → Result Chaos PlayFault
chaos_at setup number text = if_well_formed number (chaos_said setup.controllers text) (chaos_within setup.servers number)
