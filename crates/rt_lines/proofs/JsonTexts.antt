use Rattle.std.proofs.Common.{◌≡◌, ◌≢◌, ℕ, ◌+◌, ◌/◌, ◌≤◌, Bool, true, false, ltb, List, [], ◌∷◌, ◌++◌, refl, arith}
use Rattle.std.specs.Prelude.{flat_map, cond}
use Rattle.std.specs.Str.{encode_utf8_all}
use lib.Utf8.{encode, next}
use Rattle.std.proofs.lemmas.Bool.Decides.{nat_tests}
use Rattle.std.proofs.lemmas.Str.{encodes-append}
use Rattle.std.proofs.lemmas.List.Concat.{flat_map-append}
use Rattle.std.proofs.lemmas.Grind.{common_steps}
use Rattle.rt_lines.specs.Answer.{escaped}

-- no quote, no backslash and no control character
record IsPlain (b : ℕ) : Type 0 where
  quote : b ≢ 34
  backslash : b ≢ 92
  low : 32 ≤ b

abbrev AllPlain : List ℕ → Type 0
AllPlain [] = Unit {0}
AllPlain (b ∷ bs) = IsPlain b × AllPlain bs

plain_byte : (b : ℕ) → b ≢ 34 → b ≢ 92 → 32 ≤ b → escaped b ≡ b ∷ []
plain_byte b quote backslash low = grind (arith, nat_tests)

plain_bytes : (bs : List ℕ) → AllPlain bs → flat_map escaped bs ≡ bs
plain_bytes [] all = refl
plain_bytes (b ∷ bs) (plain, all) = rw (plain_byte b plain.quote plain.backslash plain.low, plain_bytes bs all) refl

high : (b : ℕ) → 128 ≤ b → IsPlain b
high b h = record { quote = λ e. omega arith; backslash = λ e. omega arith; low = omega arith }

plain_encoded : (one two three : Bool) (c : ℕ) → IsPlain c →
    AllPlain (cond one (c ∷ []) (cond two ((192 + c / 64) ∷ next c ∷ []) (cond three ((224 + c / 4096) ∷ next (c / 64) ∷ next c ∷ []) ((240 + c / 262144) ∷ next (c / 4096) ∷ next (c / 64) ∷ next c ∷ []))))
plain_encoded true two three c plain = (plain, tt)
plain_encoded false true three c plain = (high _ (omega arith), (high _ (omega arith), tt))
plain_encoded false false true c plain = (high _ (omega arith), (high _ (omega arith), (high _ (omega arith), tt)))
plain_encoded false false false c plain = (high _ (omega arith), (high _ (omega arith), (high _ (omega arith), (high _ (omega arith), tt))))

pub plain_character : (c : ℕ) → c ≢ 34 → c ≢ 92 → 32 ≤ c → flat_map escaped (encode c) ≡ encode c
unfolding encode
plain_character c quote backslash low = plain_bytes _ (plain_encoded (ltb c 128) (ltb c 2048) (ltb c 65536) c (record { quote = quote; backslash = backslash; low = low }))

-- one character more of a JSON text
pub one_more : (start now : List ℕ) (cs : List ℕ) (c : ℕ) → now ≡ start ++ flat_map escaped (encode_utf8_all cs) →
    now ++ flat_map escaped (encode c) ≡ start ++ flat_map escaped (encode_utf8_all (cs ++ c ∷ []))
one_more start now cs c h = grind (arith, common_steps, encodes-append cs (c ∷ []), flat_map-append escaped (encode_utf8_all cs) (encode c), h)
