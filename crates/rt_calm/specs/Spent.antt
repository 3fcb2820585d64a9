-- How often jobs can still write while nothing is produced, and what can lie ahead of replicas until then.
use Rattle.std.specs.Prelude.{◌≡◌, ◌⊎◌, ℕ, zero, suc, ◌+◌, ◌-◌, ◌*◌, ◌<◌, ◌≤◌, List, [], ◌∷◌, length}
use Rattle.rt_base.specs.declared.numbers.Partition.{Partition}
use Rattle.rt_model.specs.Entries.{entries_of}
use Rattle.rt_model.specs.declared.ideal_state.IdealEntry.{IdealEntry}
use Rattle.rt_model.specs.declared.ideal_state.Mode.{Mode}
use Rattle.rt_model.specs.declared.ideal_state.Mode.TheVariants.{Consuming, Online, Offline}
use Rattle.rt_model.specs.declared.node.Seen.{Seen}
use Rattle.rt_model.specs.declared.setup.Setup.{Setup}
use Rattle.rt_stream.specs.Log.{Log, messages_of}
use Rattle.rt_calm.specs.Ahead.{most_ahead_of}
use Rattle.rt_calm.specs.Commits.{commits_of}

-- the most that lies ahead of a replica of a partition: all its messages twice, and all steps
abbrev pub most_of : Log → Partition → ℕ
most_of log p = length (messages_of log p) + length (messages_of log p) + 10

-- the commits that a partition can still have
abbrev pub commits_left : Log → List Seen → Partition → ℕ
commits_left log h p = length (messages_of log p) - commits_of h p

-- those of the partitions below a number, each with the weight of its partition
abbrev pub weighed : Log → List Seen → (Partition → ℕ) → ℕ → ℕ
weighed log h weight zero = 0
weighed log h weight (suc n) = weighed log h weight n + commits_left log h (record { 0 = n }) * weight (record { 0 = n })

abbrev pub one_consuming : Mode → ℕ
one_consuming Consuming = 1
one_consuming Online = 0
one_consuming Offline = 0

-- the CONSUMING entries
abbrev pub consuming_in : List IdealEntry → ℕ
consuming_in [] = 0
consuming_in (e ∷ es) = one_consuming e.mode + consuming_in es

-- each commit that is left, with the CONSUMING entries that it makes, and each such entry that can be turned OFFLINE
abbrev pub writes_left : Setup → Log → List Seen → ℕ
writes_left setup log h = weighed log h (λ p. setup.table.replication + 1) setup.partitions + consuming_in (entries_of h)

-- what lies ahead at most by the ideal state, and by the entries that commits can still add
abbrev pub most_yet : Setup → Log → List Seen → ℕ
most_yet setup log h = weighed log h (λ p. setup.table.replication * most_of log p) setup.partitions + most_ahead_of log (entries_of h)

-- nothing was written, or fewer writes are left; and no more can lie ahead until they are made
abbrev pub Spends : Setup → Log → List Seen → List Seen → Type 0
Spends setup log old new =
    (new ≡ old) ⊎ ((writes_left setup log new < writes_left setup log old) × (most_yet setup log new ≤ most_yet setup log old))

-- the rounds of `settle` in which all writes that are left are made, and all that can lie ahead is done behind each
abbrev pub rounds_yet : Setup → Log → List Seen → ℕ
rounds_yet setup log h = writes_left setup log h * (most_yet setup log h + 2) + (most_yet setup log h + 1)

-- the rounds, where replicas may be told FAILED, and begin to commit again: two times more for each that can lie ahead
abbrev pub rounds_in_all : Setup → Log → List Seen → ℕ
rounds_in_all setup log h = writes_left setup log h * (3 * most_yet setup log h + 2) + (3 * most_yet setup log h + 1)
