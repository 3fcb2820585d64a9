-- The lines that are read as a chaos are those that spell it.
use Rattle.std.proofs.Common.{◌≡◌, ◌≢◌, ℕ, ◌≤◌, ◌==◌, ◌&&◌, Bool, true, false, if◌then◌else◌, List, ◌∷◌, ◌++◌, Option, Some, None, refl, sym, ap, subst, ◌∙◌, arith, append_assoc}
use Rattle.std.specs.Prelude.{codes, nat_le, bytes_eq}
use Rattle.std.specs.Str.Parse.{digits_value}
use Rattle.std.proofs.lemmas.Bool.{and_parts, and_from, cond-true, cond-false, eqb-false, ne_eqb, le-leb, leb-true}
use Rattle.std.proofs.lemmas.Slice.Eq.{bytes_eq-Decides}
use Rattle.rt_lines.specs.Cluster.{next_field}
use Rattle.rt_lines.specs.ClusterLine.{Spells}
use Rattle.rt_lines.specs.Words.{after_prefix, is_numeral, number_of, number_up_to, parted_at, then_some}
use Rattle.rt_lines.proofs.PartsOfLines.{lacks, lacks_joined, next_read, next_said, number_spells, numeral_lacks, parted_read, parted_said, prefix_read, prefix_said, same_some, some_if, spelled_number, then_found}
use Rattle.rt_live_input.specs.ChaosWords.{chaos_said, chaos_with, crash_of, crashing, leaders_of, next_crash, server_crash, some_leaders}
use Rattle.rt_live_input.specs.Lines.{IsChaosLine, SaysCrash}
use Rattle.rt_live_input.specs.declared.chaos.Chaos.{Chaos}
use Rattle.rt_live_input.specs.declared.chaos.Crash.{Crash}

-- a number up to a bound
pub bounded_spells : (most : ℕ) (word : List ℕ) (n : ℕ) → most ≤ 18446744073709551615 → number_up_to most word ≡ Some n → Spells word n × (n ≤ most)
bounded_spells most word n fits e =
    let found = some_if (is_numeral word && nat_le (digits_value 10 word) most) (digits_value 10 word) n e in
    let parts = and_parts (is_numeral word) (nat_le (digits_value 10 word) most) found.0 in
    let within : n ≤ most = subst (λ k. k ≤ most) found.1 (leb-true _ _ parts.1) in
    (record { numeral = parts.0; value = sym found.1; fits = omega (arith, within, fits) }, within)

pub spelled_bounded : (most : ℕ) (word : List ℕ) (n : ℕ) → Spells word n → n ≤ most → number_up_to most word ≡ Some n
spelled_bounded most word n k within =
    cond-true _ _ _ (and_from _ _ k.numeral (le-leb (digits_value 10 word) most (subst (λ m. m ≤ most) k.value within)))
    ∙ ap Some (sym k.value)

-- a crash
abbrev crash_behind : List ℕ × List ℕ → ℕ → Option Crash
crash_behind parts server = then_some (number_of parts.1) (λ turn. Some (crashing server turn))

abbrev crash_in : List ℕ → Option Crash
crash_in text = then_some (parted_at 64 text) (λ parts. then_some (number_up_to 4294967294 parts.0) (crash_behind parts))

server_said : (word : List ℕ) (crash : Crash) → server_crash word ≡ Some crash → SaysCrash word (Some crash)
server_said word crash e =
    let (text, begun, behind) = then_found (after_prefix (codes "s") word) crash_in crash e in
    let (parts, apart, counted) = then_found (parted_at 64 text) (λ parts. then_some (number_up_to 4294967294 parts.0) (crash_behind parts)) crash behind in
    let (server, read, more) = then_found (number_up_to 4294967294 parts.0) (crash_behind parts) crash counted in
    let (turn, read_turn, same) = then_found (number_of parts.1) (λ turn. Some (crashing server turn)) crash more in
    let spelled = bounded_spells 4294967294 parts.0 server (omega arith) read in
    let made : SaysCrash word (Some (crashing server turn)) =
    (parts.0, parts.1, prefix_said (codes "s") word text begun ∙ ap (λ xs. codes "s" ++ xs) (parted_said 64 text parts apart), spelled.0, spelled.1, number_spells parts.1 turn read_turn) in
    subst (λ x. SaysCrash word (Some x)) (same_some (crashing server turn) crash same) made

server_read : (word : List ℕ) (crash : Crash) → SaysCrash word (Some crash) → server_crash word ≡ Some crash
server_read word crash (server, turn, whole, says_server, within, says_turn) =
    let text = server ++ 64 ∷ turn in
    ap server_crash whole
    ∙ ap (λ o. then_some o crash_in) (prefix_read (codes "s") text)
    ∙ ap (λ o. then_some o (λ parts. then_some (number_up_to 4294967294 parts.0) (crash_behind parts))) (parted_read 64 server turn (numeral_lacks 64 server refl says_server.numeral))
    ∙ ap (λ o. then_some o (crash_behind (server, turn))) (spelled_bounded 4294967294 server crash.instance.0 says_server within)
    ∙ ap (λ o. then_some o (λ t. Some (crashing crash.instance.0 t))) (spelled_number turn crash.turn says_turn)

-- `sK@T`, or `-`
is_dash : (word : List ℕ) → bytes_eq word (codes "-") ≡ true → word ≡ codes "-"
is_dash word is = (bytes_eq-Decides word (codes "-")).0 is

starts_apart : (word rest : List ℕ) → word ≡ codes "s" ++ rest → word ≡ codes "-" → ⊥
starts_apart word rest whole dash = let bad : codes "s" ++ rest ≡ codes "-" = sym whole ∙ dash in cc

no_dash_by : (word : List ℕ) (dash : Bool) (rest : List ℕ) → bytes_eq word (codes "-") ≡ dash → word ≡ codes "s" ++ rest → dash ≡ false
no_dash_by word false rest is whole = refl
no_dash_by word true rest is whole = absurd (starts_apart word rest whole (is_dash word is))

no_dash : (word : List ℕ) (crash : Crash) → SaysCrash word (Some crash) → bytes_eq word (codes "-") ≡ false
no_dash word crash (server, turn, whole, says_server, within, says_turn) = no_dash_by word (bytes_eq word (codes "-")) (server ++ (codes "@" ++ turn)) refl whole

word_said : (word : List ℕ) (crash : Option Crash) (dash : Bool) → bytes_eq word (codes "-") ≡ dash
    → (if dash then Some None else then_some (server_crash word) (λ crash. Some (Some crash))) ≡ Some crash → SaysCrash word crash
word_said word crash true is e = subst (SaysCrash word) (same_some None crash e) (is_dash word is)
word_said word crash false is e =
    let (found, read, same) = then_found (server_crash word) (λ crash. Some (Some crash)) crash e in
    subst (SaysCrash word) (same_some (Some found) crash same) (server_said word found read)

crash_said : (word : List ℕ) (crash : Option Crash) → crash_of word ≡ Some crash → SaysCrash word crash
crash_said word crash e = word_said word crash (bytes_eq word (codes "-")) refl e

crash_read : (word : List ℕ) (crash : Option Crash) → SaysCrash word crash → crash_of word ≡ Some crash
crash_read word None says = ap crash_of says
crash_read word (Some crash) says =
    cond-false _ _ _ (no_dash word crash says) ∙ ap (λ o. then_some o (λ crash. Some (Some crash))) (server_read word crash says)

-- a crash has no space
crash_lacks : (word : List ℕ) (crash : Option Crash) → SaysCrash word crash → lacks 32 word ≡ true
crash_lacks word None says = ap (lacks 32) says
crash_lacks word (Some crash) (server, turn, whole, says_server, within, says_turn) =
    ap (lacks 32) whole
    ∙ lacks_joined 32 (codes "s") (server ++ (codes "@" ++ turn)) refl
    (lacks_joined 32 server (codes "@" ++ turn) (numeral_lacks 32 server refl says_server.numeral)
    (lacks_joined 32 (codes "@") turn refl (numeral_lacks 32 turn refl says_turn.numeral)))

-- `crash=C` and a space
record IsCrashNext (text : List ℕ) (found : Option Crash × List ℕ) : Type 0 where
  word : List ℕ
  whole : text ≡ codes "crash=" ++ (word ++ 32 ∷ found.1)
  says : SaysCrash word found.0

abbrev with_crash : List ℕ → Option Crash → Option Crash × List ℕ
with_crash rest crash = (crash, rest)

abbrev crash_from : List ℕ → List ℕ → Option (Option Crash × List ℕ)
crash_from rest word = then_some (crash_of word) (λ crash. Some (with_crash rest crash))

abbrev crash_apart : List ℕ × List ℕ → Option (Option Crash × List ℕ)
crash_apart parts = then_some (after_prefix (codes "crash=") parts.0) (crash_from parts.1)

next_crash_said : (text : List ℕ) (found : Option Crash × List ℕ) → next_crash text ≡ Some found → IsCrashNext text found
next_crash_said text found e =
    let (parts, apart, behind) = then_found (parted_at 32 text) crash_apart found e in
    let (word, begun, in_word) = then_found (after_prefix (codes "crash=") parts.0) (crash_from parts.1) found behind in
    let (crash, read, same) = then_found (crash_of word) (λ crash. Some (with_crash parts.1 crash)) found in_word in
    let made : IsCrashNext text (with_crash parts.1 crash) =
    record {
      word = word;
      whole = parted_said 32 text parts apart ∙ ap (λ xs. xs ++ 32 ∷ parts.1) (prefix_said (codes "crash=") parts.0 word begun) ∙ append_assoc (codes "crash=") word (32 ∷ parts.1);
      says = crash_said word crash read;
    } in
    subst (IsCrashNext text) (same_some (with_crash parts.1 crash) found same) made

next_crash_read : (word rest : List ℕ) (crash : Option Crash) → SaysCrash word crash → next_crash (codes "crash=" ++ (word ++ 32 ∷ rest)) ≡ Some (with_crash rest crash)
next_crash_read word rest crash says =
    ap next_crash (sym (append_assoc (codes "crash=") word (32 ∷ rest)))
    ∙ ap (λ o. then_some o crash_apart) (parted_read 32 (codes "crash=" ++ word) rest (lacks_joined 32 (codes "crash=") word refl (crash_lacks word crash says)))
    ∙ ap (λ o. then_some o (crash_from rest)) (prefix_read (codes "crash=") word)
    ∙ ap (λ o. then_some o (λ crash. Some (with_crash rest crash))) (crash_read word crash says)

-- `leaders=N`
record IsLeaders (controllers : ℕ) (text : List ℕ) (leaders : ℕ) : Type 0 where
  word : List ℕ
  whole : text ≡ codes "leaders=" ++ word
  says : Spells word leaders
  some : 1 ≤ leaders
  few : leaders ≤ controllers

some_of : (n leaders : ℕ) → n ≡ leaders → n ≢ 0 → 1 ≤ leaders
some_of n leaders same apart = omega (arith, same, apart)

not_none : (n : ℕ) → 1 ≤ n → n ≢ 0
not_none n some zero = omega (arith, some, zero)

some_said : (n leaders : ℕ) (none : Bool) → (n == 0) ≡ none → (if none then None else Some n) ≡ Some leaders → (n ≡ leaders) × (1 ≤ leaders)
some_said n leaders true is e = cc
some_said n leaders false is e =
    let same : n ≡ leaders = same_some n leaders e in
    let apart : n ≢ 0 = eqb-false n 0 is in
    (same, some_of n leaders same apart)

leaders_said : (controllers : ℕ) (text : List ℕ) (leaders : ℕ) → controllers ≤ 18446744073709551615 → leaders_of controllers text ≡ Some leaders → IsLeaders controllers text leaders
leaders_said controllers text leaders fits e =
    let (word, begun, behind) = then_found (after_prefix (codes "leaders=") text) (λ word. then_some (number_up_to controllers word) some_leaders) leaders e in
    let (n, read, counted) = then_found (number_up_to controllers word) some_leaders leaders behind in
    let spelled = bounded_spells controllers word n fits read in
    let some = some_said n leaders (n == 0) refl counted in
    record {
      word = word;
      whole = prefix_said (codes "leaders=") text word begun;
      says = subst (Spells word) some.0 spelled.0;
      some = some.1;
      few = subst (λ k. k ≤ controllers) some.0 spelled.1;
    }

leaders_read : (controllers : ℕ) (word : List ℕ) (leaders : ℕ) → Spells word leaders → 1 ≤ leaders → leaders ≤ controllers → leaders_of controllers (codes "leaders=" ++ word) ≡ Some leaders
leaders_read controllers word leaders says some few =
    ap (λ o. then_some o (λ word. then_some (number_up_to controllers word) some_leaders)) (prefix_read (codes "leaders=") word)
    ∙ ap (λ o. then_some o some_leaders) (spelled_bounded controllers word leaders says few)
    ∙ cond-false _ _ _ (ne_eqb leaders 0 (not_none leaders some))

-- whole lines
abbrev from_crash : ℕ → ℕ → ℕ → Option Crash × List ℕ → Option Chaos
from_crash controllers drop repeat crash = then_some (leaders_of controllers crash.1) (chaos_with drop repeat crash.0)

abbrev from_repeat : ℕ → ℕ → ℕ × List ℕ → Option Chaos
from_repeat controllers drop repeat = then_some (next_crash repeat.1) (from_crash controllers drop repeat.0)

abbrev from_drop : ℕ → ℕ × List ℕ → Option Chaos
from_drop controllers drop = then_some (next_field (codes "repeat=") drop.1) (from_repeat controllers drop.0)

abbrev chaos_made : ℕ → ℕ → Option Crash → ℕ → Chaos
chaos_made drop repeat crash leaders = record { drop = drop; repeat = repeat; crash = crash; leaders = leaders }

with_said : (drop repeat leaders : ℕ) (crash : Option Crash) (chaos : Chaos) (one : Bool) → (drop == 1) ≡ one
    → (if one then None else Some (chaos_made drop repeat crash leaders)) ≡ Some chaos → (drop ≢ 1) × (chaos_made drop repeat crash leaders ≡ chaos)
with_said drop repeat leaders crash chaos true is e = cc
with_said drop repeat leaders crash chaos false is e = (eqb-false drop 1 is, same_some _ chaos e)

whole_line : (line text dv dt rv rt cv ct lv : List ℕ) → line ≡ codes "chaos " ++ text → text ≡ codes "drop=" ++ (dv ++ 32 ∷ dt) → dt ≡ codes "repeat=" ++ (rv ++ 32 ∷ rt)
    → rt ≡ codes "crash=" ++ (cv ++ 32 ∷ ct) → ct ≡ codes "leaders=" ++ lv
    → line ≡ codes "chaos drop=" ++ (dv ++ (codes " repeat=" ++ (rv ++ (codes " crash=" ++ (cv ++ (codes " leaders=" ++ lv))))))
whole_line line text dv dt rv rt cv ct lv a b c d e =
    a
    ∙ ap (λ xs. codes "chaos " ++ xs) b
    ∙ ap (λ xs. codes "chaos drop=" ++ (dv ++ 32 ∷ xs)) c
    ∙ ap (λ xs. codes "chaos drop=" ++ (dv ++ (codes " repeat=" ++ (rv ++ 32 ∷ xs)))) d
    ∙ ap (λ xs. codes "chaos drop=" ++ (dv ++ (codes " repeat=" ++ (rv ++ (codes " crash=" ++ (cv ++ 32 ∷ xs)))))) e

pub chaos_spelled : (controllers : ℕ) (line text : List ℕ) (chaos : Chaos) → controllers ≤ 18446744073709551615 → line ≡ codes "chaos " ++ text
    → chaos_said controllers text ≡ Some chaos → IsChaosLine controllers line chaos
chaos_spelled controllers line text chaos fits begins e =
    let (drop, has_drop, in_drop) = then_found (next_field (codes "drop=") text) (from_drop controllers) chaos e in
    let (repeat, has_repeat, in_repeat) = then_found (next_field (codes "repeat=") drop.1) (from_repeat controllers drop.0) chaos in_drop in
    let (crash, has_crash, in_crash) = then_found (next_crash repeat.1) (from_crash controllers drop.0 repeat.0) chaos in_repeat in
    let (leaders, has_leaders, made_of) = then_found (leaders_of controllers crash.1) (chaos_with drop.0 repeat.0 crash.0) chaos in_crash in
    let last = with_said drop.0 repeat.0 leaders crash.0 chaos (drop.0 == 1) refl made_of in
    let dv = next_said (codes "drop=") text drop has_drop in
    let rv = next_said (codes "repeat=") drop.1 repeat has_repeat in
    let cv = next_crash_said repeat.1 crash has_crash in
    let lv = leaders_said controllers crash.1 leaders fits has_leaders in
    let made : IsChaosLine controllers line (chaos_made drop.0 repeat.0 crash.0 leaders) =
    record {
      drop = dv.word;
      repeat = rv.word;
      crash = cv.word;
      leaders = lv.word;
      whole = whole_line line text dv.word drop.1 rv.word repeat.1 cv.word crash.1 lv.word begins dv.whole rv.whole cv.whole lv.whole;
      says_drop = dv.says;
      says_repeat = rv.says;
      says_crash = cv.says;
      says_leaders = lv.says;
      drops_some = last.0;
      some_leader = lv.some;
      few_leaders = lv.few;
    } in
    subst (IsChaosLine controllers line) last.1 made

abbrev chaos_in : ℕ → List ℕ → Option Chaos
chaos_in controllers line = then_some (after_prefix (codes "chaos ") line) (chaos_said controllers)

pub spelled_chaos : (controllers : ℕ) (line text : List ℕ) (chaos : Chaos) → after_prefix (codes "chaos ") line ≡ Some text → IsChaosLine controllers line chaos
    → chaos_said controllers text ≡ Some chaos
spelled_chaos controllers line text chaos begins k =
    let leaders = codes "leaders=" ++ k.leaders in
    let crash = codes "crash=" ++ (k.crash ++ 32 ∷ leaders) in
    let repeat = codes "repeat=" ++ (k.repeat ++ 32 ∷ crash) in
    let drop = codes "drop=" ++ (k.drop ++ 32 ∷ repeat) in
    sym (ap (λ o. then_some o (chaos_said controllers)) begins)
    ∙ ap (chaos_in controllers) k.whole
    ∙ ap (λ o. then_some o (chaos_said controllers)) (prefix_read (codes "chaos ") drop)
    ∙ ap (λ o. then_some o (from_drop controllers)) (next_read (codes "drop=") k.drop repeat chaos.drop refl k.says_drop)
    ∙ ap (λ o. then_some o (from_repeat controllers chaos.drop)) (next_read (codes "repeat=") k.repeat crash chaos.repeat refl k.says_repeat)
    ∙ ap (λ o. then_some o (from_crash controllers chaos.drop chaos.repeat)) (next_crash_read k.crash leaders chaos.crash k.says_crash)
    ∙ ap (λ o. then_some o (chaos_with chaos.drop chaos.repeat chaos.crash)) (leaders_read controllers k.leaders chaos.leaders k.says_leaders k.some_leader k.few_leaders)
    ∙ cond-false _ _ _ (ne_eqb chaos.drop 1 k.drops_some)
