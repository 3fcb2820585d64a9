-- What a caller has of the others that it met.
use Rattle.std.specs.Prelude.{◌≡◌, ℕ, true}
use Rattle.std.specs.List.{range_with_len}
use Rattle.rt_front.specs.Histories.{Known, mine, stands}
use Rattle.rt_ground.specs.Histories.{Meets, SeesMore}
use Rattle.rt_lists.specs.Members.{IsFront}
use Rattle.rt_live_names.specs.Fronts.{Fronts}

-- of one history a front knows all that another one did: what that had seen, its numbers, and all entries that are its
-- own
pub record KnowsAll {T : Type 0} (part whole : Known T) : Type 0 where
  pub seen : IsFront part.seen whole.seen
  pub numbers : (k : ℕ) → stands k part.numbers ≡ true → stands k whole.numbers ≡ true
  pub own : mine part.numbers whole.seen ≡ mine part.numbers part.seen

-- and so of all three
pub record HasMet (met part : Fronts) : Type 0 where
  pub store : KnowsAll part.store met.store
  pub deep : KnowsAll part.deep met.deep
  pub stream : KnowsAll part.stream met.stream

-- a caller takes in another one
pub record MeetsOne (old other new : Fronts) : Type 0 where
  pub store : Meets old.store other.store new.store
  pub deep : Meets old.deep other.deep new.deep
  pub stream : Meets old.stream other.stream new.stream

-- a caller is told what there is
pub record IsTold (old new : Fronts) : Type 0 where
  pub store : SeesMore old.store new.store
  pub deep : SeesMore old.deep new.deep
  pub stream : SeesMore old.stream new.stream

-- a caller is shown the store's whole history
pub record IsShown (old new : Fronts) : Type 0 where
  pub store : SeesMore old.store new.store
  pub deep : new.deep ≡ old.deep
  pub stream : new.stream ≡ old.stream

-- it has the numbers of so many callers, the first ones
pub record HasFirst (count : ℕ) (f : Fronts) : Type 0 where
  pub store : f.store.numbers ≡ range_with_len 0 count
  pub deep : f.deep.numbers ≡ range_with_len 0 count
  pub stream : f.stream.numbers ≡ range_with_len 0 count
