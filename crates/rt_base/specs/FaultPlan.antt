use Rattle.std.specs.Prelude.{
  ℕ,
  ◌+◌,
  Bool,
  true,
  false,
  List,
  Option,
  Some,
  None,
  nat_lt,
  ◌==◌,
  if◌then◌else◌,
  count_by,
}
use Rattle.std.specs.List.{list_any}

-- which calls fail, by their numbers from 0, and the number of the next call: none once each number
-- of 64 bits was used
pub record Plan : Type 0 where
  pub fails : List ℕ
  pub next : Option ℕ

-- a plan before the first call
abbrev pub planned : List ℕ → Plan
planned fails = record { fails = fails; next = Some 0 }

-- a call of this number fails
abbrev pub fails_at : List ℕ → Option ℕ → Bool
fails_at fails None = false
fails_at fails (Some number) = list_any (λ n. n == number) fails

-- the next call fails
abbrev pub fails_now : Plan → Bool
fails_now plan = fails_at plan.fails plan.next

-- the number after this one
abbrev pub number_after : Option ℕ → Option ℕ
number_after None = None
number_after (Some number) = if nat_lt number 18446744073709551615 then Some (number + 1) else None

-- a plan after one call more
abbrev pub after_call : Plan → Plan
after_call plan = record plan { next = number_after plan.next }

-- this number lies behind
abbrev pub is_past : Option ℕ → ℕ → Bool
is_past None n = true
is_past (Some number) n = nat_lt n number

-- how many of the planned faults lie behind
abbrev pub faults_of : Plan → ℕ
faults_of plan = count_by (is_past plan.next) plan.fails
