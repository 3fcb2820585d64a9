-- What a store, a deep store and a stream were to their caller at an earlier moment, by what they show now.
use Rattle.std.specs.Prelude.{◌≡◌, ℕ, ◌+◌, List, length, Some, None}
use Rattle.rt_deep.specs.Meaning as deep
use Rattle.rt_deep.specs.declared.deep_put.DeepPut.{DeepPut}
use Rattle.rt_front.specs.Histories.{Known}
use Rattle.rt_ground.specs.DeepCalls as deep_calls
use Rattle.rt_ground.specs.Histories.{whats}
use Rattle.rt_ground.specs.StoreCalls.{own_by, seen_by}
use Rattle.rt_ground.specs.StreamCalls as stream_calls
use Rattle.rt_ground.specs.declared.appended.Appended.{Appended}
use Rattle.rt_lists.specs.Members.{IsFront}
use Rattle.rt_model.specs.Starting.{Starting, starting_contents}
use Rattle.rt_model.specs.declared.node.Seen.{Seen}
use Rattle.rt_store.specs.Meaning.{Meaning, Own}
use Rattle.rt_stream.specs.Feed.{FeedMeaning, FeedOwn, Grows}
use Rattle.rt_stream.specs.Log.{Log}

-- what a store shows its caller: all that it has seen, and what is its own
pub record Shown : Type 0 where
  pub seen : List Seen
  pub own : Own

abbrev pub shown_by : Starting → Known Seen → Shown
shown_by s front = record { seen = seen_by s front; own = own_by front }

-- a caller has seen more, of which some may be its own
pub record ShowsMore (old new : Shown) : Type 0 where
  pub seen : IsFront old.seen new.seen
  pub numbers : new.own.numbers ≡ old.own.numbers
  pub writes : IsFront old.own.writes new.own.writes

-- the meaning that a store had for its caller when its front showed so many entries behind the starting contents, and so
-- many writes were its own
pub record Showed (s : Starting) (now : Shown) (told wrote : ℕ) (m : Meaning) : Type 0 where
  pub whole : IsFront m.seen now.seen
  pub told_is : length m.seen ≡ length (starting_contents s) + told
  pub writes : List Seen
  pub own : m.own ≡ Some (record { numbers = now.own.numbers; writes = writes })
  pub mine : IsFront writes now.own.writes
  pub count : length writes ≡ wrote
  pub free : (m.told ≡ None) × (m.faults ≡ 0)

-- ---- a deep store

pub record DeepShown : Type 0 where
  pub seen : List DeepPut
  pub own : deep.Own

abbrev pub deep_shown_by : Known DeepPut → DeepShown
deep_shown_by front = record { seen = whats front.seen; own = deep_calls.own_by front }

pub record DeepShowsMore (old new : DeepShown) : Type 0 where
  pub seen : IsFront old.seen new.seen
  pub numbers : new.own.numbers ≡ old.own.numbers
  pub files : IsFront old.own.files new.own.files

-- the meaning that a deep store had for its caller when its front showed so many files, of which so many were its own
pub record DeepShowed (now : DeepShown) (told put : ℕ) (m : deep.Meaning) : Type 0 where
  pub whole : IsFront m.seen now.seen
  pub told_is : length m.seen ≡ told
  pub files : List DeepPut
  pub own : m.own ≡ Some (record { numbers = now.own.numbers; files = files })
  pub mine : IsFront files now.own.files
  pub count : length files ≡ put
  pub free : (m.told ≡ None) × (m.faults ≡ 0)

-- ---- a stream, to a caller that appends nothing

pub record StreamShown : Type 0 where
  pub seen : Log
  pub own : FeedOwn

abbrev pub stream_shown_by : ℕ → Known Appended → StreamShown
stream_shown_by partitions front =
    record { seen = stream_calls.seen_by partitions front; own = stream_calls.own_by front }

pub record StreamShowsMore (old new : StreamShown) : Type 0 where
  pub seen : Grows old.seen new.seen
  pub own : new.own ≡ old.own

-- the meaning that a stream had for its caller when its front showed so many messages
pub record StreamShowed (partitions : ℕ) (now : StreamShown) (told : ℕ) (m : FeedMeaning) : Type 0 where
  pub whole : Grows m.seen now.seen
  pub entries : List Appended
  pub seen_is : m.seen ≡ stream_calls.log_of partitions entries
  pub told_is : length entries ≡ told
  pub own : m.own ≡ Some now.own
  pub free : m.told ≡ None
