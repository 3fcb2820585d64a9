-- A caller that takes in others, one after the other.
use Rattle.std.specs.Prelude.{◌≡◌, ℕ, ◌+◌, List, [], ◌∷◌}
use Rattle.rt_deep.specs.Files.{AreOnce}
use Rattle.rt_ground.specs.Histories.{AreOfCallers, whats}
use Rattle.rt_ground.specs.Lawfulness.{IsLawfulStore}
use Rattle.rt_live_end.specs.Meeting.{IsTold, MeetsOne}
use Rattle.rt_live_names.specs.Fronts.{AreOfCaller, Fronts}
use Rattle.rt_model.specs.Starting.{Starting}

abbrev pub MeetsAll : Fronts → List Fronts → Fronts → Type 0
MeetsAll old [] new = new ≡ old
MeetsAll old (other ∷ others) new = (met : Fronts) × MeetsOne old other met × MeetsAll met others new

-- they are those of the callers of the numbers from this one on
abbrev pub AreOfCallersFrom : ℕ → List Fronts → Type 0
AreOfCallersFrom first [] = Unit {0}
AreOfCallersFrom first (f ∷ fs) = AreOfCaller first f × AreOfCallersFrom (first + 1) fs

-- it takes in these, and is then told what there is
pub record MeetsAndIsTold (old : Fronts) (others : List Fronts) (new : Fronts) : Type 0 where
  pub met : Fronts
  pub meets : MeetsAll old others met
  pub told : IsTold met new

-- each entry that it knows is of one of so many callers, its store is lawful, and no path has two files
pub record KnowsGround (s : Starting) (callers : ℕ) (f : Fronts) : Type 0 where
  pub store : AreOfCallers callers f.store.seen × IsLawfulStore s f.store.seen
  pub deep : AreOfCallers callers f.deep.seen × AreOnce (whats f.deep.seen)
  pub stream : AreOfCallers callers f.stream.seen
