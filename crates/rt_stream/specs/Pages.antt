use Rattle.rt_base.specs.declared.limits.TheConstants.{LONGEST_MESSAGE}
use Rattle.std.specs.Prelude.{◌≡◌, ℕ, ◌+◌, ◌-◌, ◌≤◌, List, [], ◌∷◌, length, map, take, drop}

-- the messages of a page, one behind the other in its bytes, each up to the place of its end
abbrev pub cut : ℕ → List ℕ → List ℕ → List (List ℕ)
cut start [] bytes = []
cut start (end ∷ ends) bytes = take (end - start) (drop start bytes) ∷ cut end ends bytes

-- the ends of messages, none of which is too long, the last of them at the end of the bytes
abbrev pub AreEnds : ℕ → List ℕ → ℕ → Type 0
AreEnds start [] size = start ≡ size
AreEnds start (end ∷ ends) size = (start ≤ end) × (end ≤ start + LONGEST_MESSAGE) × AreEnds end ends size

-- places from a start on, as they are from a base on
abbrev pub shifted : ℕ → ℕ → List ℕ → List ℕ
shifted start base places = map (λ place. (place - start) + base) places

-- pages of 256 messages each
abbrev pub AreFull : List (List (List ℕ)) → Type 0
AreFull [] = Unit {0}
AreFull (page ∷ pages) = (length page ≡ 256) × AreFull pages
