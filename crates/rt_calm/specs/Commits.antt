-- The commits of a partition: the writes by which a segment of it becomes Done.
use Rattle.std.specs.Prelude.{ℕ, ◌+◌, ◌==◌, List, [], ◌∷◌, if◌then◌else◌, length, option_to_list}
use Rattle.rt_base.specs.declared.numbers.Partition.{Partition}
use Rattle.rt_model.specs.declared.node.Key.{Key}
use Rattle.rt_model.specs.declared.node.Key.TheVariants as key
use Rattle.rt_model.specs.declared.node.Seen.{Seen}
use Rattle.rt_model.specs.Tiled.{done_range}

-- a count where the key is one of a segment of the partition
abbrev pub count_at : Partition → Key → ℕ → ℕ
count_at p (key.Meta q s) n = if q.0 == p.0 then n else 0
count_at p key.Ideal n = 0
count_at p (key.Boot i) n = 0

-- 1 where a write makes a segment of the partition Done
abbrev pub commits_by : Partition → Seen → ℕ
commits_by p w = count_at p w.key (length (option_to_list (done_range w.node)))

-- the commits of a partition in a history
abbrev pub commits_of : List Seen → Partition → ℕ
commits_of [] p = 0
commits_of (w ∷ ws) p = commits_by p w + commits_of ws p
