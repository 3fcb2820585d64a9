-- What becomes of a history and of a front, whatever the entries are.
use Rattle.std.specs.Prelude.{◌≡◌, ℕ, ◌<◌, Bool, List, [], ◌∷◌, ◌++◌, map, length, All}
use Rattle.atomic_table.specs.Seated.{TableId}
use Rattle.rt_lists.specs.Members.{IsFront}
use Rattle.rt_front.specs.declared.entry.Entry.{Entry}
use Rattle.rt_front.specs.Histories.{Known, known, entry, first_of, mine}
use Rattle.rt_front.specs.Rules.{longer}
use Rattle.rt_ground.specs.declared.noted.Noted.{Noted}

-- a register: the name of the history, its entries, the number of fronts with which it was founded, and whether there is
-- room for an entry more
pub record Registered (T : Type 0) : Type 0 where
  pub chronicle : TableId
  pub log : List (Entry T)
  pub made : ℕ
  pub room : Bool

module _ {T : Type 0} where
  abbrev pub registered : TableId → List (Entry T) → ℕ → Bool → Registered T
  registered chronicle log made room = record { chronicle = chronicle; log = log; made = made; room = room }

  -- each entry was added for one of so many callers
  abbrev pub AreOfCallers : ℕ → List (Entry T) → Type 0
  AreOfCallers callers log = All (λ e. e.front < callers) log

  -- for whom an entry was added
  abbrev pub noted_of : Entry T → Noted
  noted_of e = record { front = e.front; told = e.told }

  -- what was added
  abbrev pub whats : List (Entry T) → List T
  whats log = map (λ e. e.what) log

  -- the entry that is added for a front
  abbrev pub next_entry : Known T → T → Entry T
  next_entry front what = entry (first_of front.numbers) (length front.seen) what

  -- an entry is added for a front: the history has it as its last, the front has seen the whole history, and of its own
  -- entries there is just this one more
  pub record Notes (old new : List (Entry T)) (before after : Known T) (what : T) : Type 0 where
    pub log : new ≡ old ++ next_entry before what ∷ []
    pub front : after ≡ known before.chronicle new before.numbers
    pub begins : IsFront before.seen old
    pub mine : mine after.numbers after.seen ≡ mine before.numbers before.seen ++ next_entry before what ∷ []

  -- a front is told: it has seen the whole history, in which there is no entry more of its own
  pub record Tells (log : List (Entry T)) (before after : Known T) : Type 0 where
    pub front : after ≡ known before.chronicle log before.numbers
    pub begins : IsFront before.seen log
    pub mine : mine after.numbers after.seen ≡ mine before.numbers before.seen

  -- a call that added nothing: the front has seen the whole history, as it was at a moment of the call
  pub record SeesMore (before after : Known T) : Type 0 where
    pub log : List (Entry T)
    pub told : Tells log before after

  -- a front takes in another one
  pub record Meets (old other new : Known T) : Type 0 where
    pub both : new ≡ known old.chronicle (longer old.seen other.seen) (old.numbers ++ other.numbers)
    pub begins : IsFront old.seen new.seen × IsFront other.seen new.seen
    pub mine : (mine old.numbers new.seen ≡ mine old.numbers old.seen)
        × (mine other.numbers new.seen ≡ mine other.numbers other.seen)
