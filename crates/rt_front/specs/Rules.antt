-- The rule of a history: what holds of its word and of all that its seats know.
use Rattle.std.specs.Prelude.{◌≡◌, ℕ, ◌+◌, ◌<◌, ◌≤◌, ◌||◌, Bool, true, false, List, [], ◌∷◌, ◌++◌, length, nat_le, if◌then◌else◌, All, Option as Maybe, Some, None}
use mathlib.Core.Option.{Option, some, none}
use lib.ListN.{get_elem?}
use Rattle.atomic_table.specs.Table.{State, Step, Me}
use Rattle.atomic_table.specs.Seated.{TableId}
use Rattle.atomic_table.specs.declared.shared.Seat.{Seat}
use Rattle.rt_front.specs.declared.entry.Entry.{Entry}
use Rattle.rt_front.specs.declared.rule.Hand.{Hand}
use Rattle.rt_front.specs.declared.rule.View.{View}
use Rattle.rt_front.specs.Histories.{Known, known, stands, AreBelow, ShareNone, first_of, entry, mine}
use Rattle.rt_lists.specs.Members.{IsFront as IsPrefix}

abbrev pub has_none : List ℕ → Bool
has_none [] = true
has_none (n ∷ numbers) = false

-- the name of no history
abbrev pub no_chronicle : TableId
no_chronicle = record { words = 0; slots = 0; views_name = 0; atom = 0; block = 0; offset = 0; slot_names = [] }

module _ {T : Type 0} where
  abbrev pub hand : List (Entry T) → List ℕ → Hand T
  hand seen numbers = record { seen = seen; numbers = numbers }

  abbrev pub knows : Bool → ℕ → Hand T → Hand T → View T
  knows keeps made own other = record { keeps = keeps; made = made; own = own; other = other }

  abbrev pub empty_hand : Hand T
  empty_hand = hand [] []

  -- the keeper without a guest
  abbrev pub keeper_view : ℕ → List (Entry T) → View T
  keeper_view made log = knows true made (hand log []) empty_hand

  abbrev pub beginner : View T
  beginner = keeper_view 0 []

  abbrev pub front_view : Hand T → View T
  front_view h = knows false 0 h empty_hand

  abbrev pub spent_view : View T
  spent_view = front_view empty_hand

  -- a front is a guest
  abbrev pub hosting : View T → View T → View T
  hosting v w = knows v.keeps v.made v.own w.own

  -- how many numbers there are after a hand-out, and which are handed out: the guest's, or a new one
  abbrev pub made_after : View T → ℕ
  made_after v = if has_none v.other.numbers then v.made + 1 else v.made

  abbrev pub given : View T → List ℕ
  given v = if has_none v.other.numbers then v.made ∷ [] else v.other.numbers

  abbrev pub alone : View T → View T
  alone v = knows v.keeps (made_after v) v.own empty_hand

  abbrev pub handed_out : View T → View T
  handed_out v = front_view (hand v.own.seen (given v))

  abbrev pub longer : List (Entry T) → List (Entry T) → List (Entry T)
  longer xs ys = if nat_le (length xs) (length ys) then ys else xs

  -- the history with an entry more, for the guest
  abbrev pub with_entry : View T → T → List (Entry T)
  with_entry v what = v.own.seen ++ entry (first_of v.other.numbers) (length v.other.seen) what ∷ []

  -- what the keeper learns of its guest
  pub record Learned (v : View T) : Type 0 where
    pub mine : mine v.other.numbers v.own.seen ≡ mine v.other.numbers v.other.seen
    pub begins : IsPrefix v.other.seen v.own.seen
    pub below : AreBelow v.made v.other.numbers

  abbrev pub Added : View T → Option T → View T → Type 0
  Added v none w = ⊥
  Added v (some what) w =
      (w ≡ knows true v.made (hand (with_entry v what) []) (hand (with_entry v what) v.other.numbers))
      × Learned v × All (λ e. e.front < v.made) w.own.seen

  abbrev pub Advances : Step T → Me T (View T) → ℕ → Me T (View T) → Type 0
  Advances s v found w = (w.1 ≡ v.1) × Added v.0 s.said w.0

  abbrev pub ShowsAll : Step T → Me T (View T) → ℕ → Me T (View T) → Type 0
  ShowsAll s v found w =
      (w.1 ≡ v.1) × (w.0 ≡ knows true v.0.made v.0.own (hand v.0.own.seen v.0.other.numbers))
      × Learned v.0 × All (λ e. e.front < v.0.made) v.0.own.seen

  abbrev pub SeesLength : Step T → Me T (View T) → ℕ → Me T (View T) → Type 0
  SeesLength s v found w = (w ≡ v) × (length v.0.own.seen ≤ found)

  -- two hands made one, and what is learned of each
  pub record Folded (a b : Hand T) (seen : List (Entry T)) : Type 0 where
    pub own : IsPrefix a.seen seen
    pub other : IsPrefix b.seen seen
    pub own_mine : mine a.numbers seen ≡ mine a.numbers a.seen
    pub other_mine : mine b.numbers seen ≡ mine b.numbers b.seen
    pub apart : ShareNone a.numbers b.numbers

  abbrev pub OneHand : Step T → Me T (View T) → ℕ → Me T (View T) → Type 0
  OneHand s v found w =
      (w.1 ≡ v.1)
      × (w.0 ≡ front_view (hand (longer v.0.own.seen v.0.other.seen) (v.0.own.numbers ++ v.0.other.numbers)))
      × Folded v.0.own v.0.other (longer v.0.own.seen v.0.other.seen)

  -- no entry carries one of these numbers
  abbrev pub NoneOf : List ℕ → List (Entry T) → Type 0
  NoneOf numbers [] = Unit {0}
  NoneOf numbers (e ∷ es) = (stands e.front numbers ≡ false) × NoneOf numbers es

  -- a hand of the seat k: a beginning of the history, behind which no entry carries its numbers, and these were made
  -- and are nowhere else
  pub record IsHand (log : List (Entry T)) (made : ℕ) (home : ℕ → ℕ) (k : ℕ) (h : Hand T) : Type 0 where
    pub rest : List (Entry T)
    pub begins : log ≡ h.seen ++ rest
    pub none_later : NoneOf h.numbers rest
    pub placed : (n : ℕ) → stands n h.numbers ≡ true → (n < made) × (home n ≡ k)

  pub record IsView (log : List (Entry T)) (made keeper : ℕ) (home : ℕ → ℕ) (k : ℕ) (v : View T) : Type 0 where
    pub keeps : v.keeps ≡ true → (k ≡ keeper) × (v.own ≡ hand log []) × (v.made ≡ made)
    pub own : IsHand log made home k v.own
    pub other : IsHand log made home k v.other
    pub apart : ShareNone v.own.numbers v.other.numbers

  -- a number stands in one of the hands
  abbrev pub carries : ℕ → Option (View T) → Bool
  carries n none = false
  carries n (some v) = stands n v.own.numbers || stands n v.other.numbers

  -- the word is the length of the history; each number that was made stands with one seat, and no entry carries
  -- another number
  pub record Kept (s : State T (View T)) : Type 0 where
    pub log : List (Entry T)
    pub made : ℕ
    pub keeper : ℕ
    pub home : ℕ → ℕ
    pub words : s.words ≡ length log ∷ []
    pub all_made : All (λ e. e.front < made) log
    pub somewhere : (n : ℕ) → n < made → carries n (get_elem? s.views (home n)) ≡ true
    pub views : (k : ℕ) (v : View T) → get_elem? s.views k ≡ some v → IsView log made keeper home k v

  -- a seat of a front
  abbrev pub IsSeat : Seat T (View T) → Type 0
  IsSeat seat = (seat.me ≡ (front_view seat.me.0.own, [])) × (has_none seat.me.0.own.numbers ≡ false)

  abbrev pub IsFront : Maybe (Seat T (View T)) → ℕ → ℕ → Type 0
  IsFront None number told = ⊥
  IsFront (Some seat) number told =
      IsSeat seat × (number ≡ first_of seat.me.0.own.numbers) × (told ≡ length seat.me.0.own.seen)

  abbrev pub known_by : Maybe (Seat T (View T)) → Known T
  known_by None = known no_chronicle [] []
  known_by (Some seat) = known seat.table_id seat.me.0.own.seen seat.me.0.own.numbers
