-- Whether queues were drained.
use Rattle.std.specs.Prelude.{Bool, true, List, [], ◌∷◌, ◌&&◌, nat_eq}
use Rattle.rt_live_join.specs.Joined.{JoinedNow}
use Rattle.rt_live_output.specs.declared.journal.Queue.{Queue}

-- all that a queue accepted was taken
abbrev pub is_drained : Queue → Bool
is_drained queue = nat_eq queue.taken queue.accepted

-- and so of all queues of one sender
abbrev pub are_drained : List Queue → Bool
are_drained [] = true
are_drained (queue ∷ queues) = is_drained queue && are_drained queues

-- and of each sender
abbrev pub all_drained : List (List Queue) → Bool
all_drained [] = true
all_drained (queues ∷ rest) = are_drained queues && all_drained rest

-- all that the nodes accepted of each other was taken
abbrev pub was_drained : JoinedNow → Bool
was_drained joined = all_drained joined.to_controllers && all_drained joined.to_servers
