-- Several `settle`s, one after the other, up to the first that settled: each goes on for as many rounds as a line of it may.
use Rattle.std.specs.Prelude.{ℕ, zero, suc, Bool, true, false}
use Rattle.rt_macros.specs.Doing.{Act, Gives, Then}
use Rattle.rt_macros.specs.Settling.{Settles}

abbrev pub AfterSettle : Act Bool → Bool → Act Bool
AfterSettle further true w = Gives true w
AfterSettle further false w = further w

-- so many, of so many rounds each
abbrev pub SettlesOften : Bool → ℕ → ℕ → Act Bool
SettlesOften paused rounds zero w = Gives false w
SettlesOften paused rounds (suc times) w = Then (Settles paused rounds) (AfterSettle (SettlesOften paused rounds times)) w
