use Rattle.std.proofs.Common.{◌≡◌, ℕ, ◌≤◌, length}
use Rattle.json.specs.Json.{members, value}
use Rattle.serde_json.specs.Data.{Members, no_members}
use Rattle.serde_json.specs.Read.{of_members, converted}
use Rattle.rt_schema.specs.Flat.{data_of, found_in}
use Rattle.rt_schema.proofs.flat_reader.read_members.Given as goal

-- the members read so far, and then those that are left, are all
abbrev pub invariant-members : goal.invariant-members
invariant-members l =
    (n : ℕ) × (ms : Members) × (length l.reader ≤ n)
    × (converted (λ js. of_members js no_members) (members (value 126) (length l.initial.reader) l.initial.reader) ≡ converted (λ js. of_members js ms) (members (value 126) n l.reader))
    × (data_of l.found ≡ found_in l.columns ms)

abbrev pub decreases-members : goal.decreases-members
decreases-members l = length l.reader
