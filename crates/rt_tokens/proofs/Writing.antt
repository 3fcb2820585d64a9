-- Tokens are read as they are written.
use Rattle.std.proofs.Common.{◌≡◌, inl, inr, ℕ, zero, suc, ◌+◌, ◌-◌, ◌<◌, ◌≤◌, ◌==◌, ◌&&◌, Bool, true, false, true≢false, is_some, List, [], ◌∷◌, ◌++◌, map, length, take, drop, get_or, slice_index, nat_le, codes, Option, Some, None, IfSome, option_map, if◌then◌else◌, refl, ap, sym, ◌∙◌, subst, append_assoc, length-append, take-suc, arith}
use Rattle.std.proofs.lemmas.Bool.{le-leb, eq-eqb, eqb-true}
use Rattle.std.proofs.lemmas.Bool.Decides.{nat_tests}
use Rattle.std.proofs.lemmas.List.{take-append-drop}
use Rattle.std.proofs.lemmas.List.Folds.{length-prefix_len}
use Rattle.std.proofs.lemmas.Slice.Eq.{bytes_eq-Decides}
use Rattle.std.proofs.Math.Seq.{drop-append_seam, get_or-append_seam}
use Rattle.std.specs.Char.{is_ascii_digit, to_ascii_lowercase}
use Rattle.std.specs.List.{prefix_len}
use Rattle.std.specs.Str.{bytes_eq}
use Rattle.rt_model.specs.declared.query_parts.Comparison.{Comparison as Compared}
use Rattle.rt_model.specs.declared.query_parts.Comparison.TheVariants.{Equal, NotEqual, Less, AtMost, Greater, AtLeast}
use Rattle.rt_tokens.specs.Tokens.{is_blank, is_name_start, is_name_byte, is_quotable, token, word_named, other_word_named, word_or_name, lexeme_of, named, numbered, quoted, behind, content, quoted_text, sign, comparison, less, greater, not_equal, first_token, begin, tokens_at, tokens_of}
use Rattle.rt_tokens.specs.Written.{Are, Ends, letters, doubled, is_quote, IsComparison, IsWritten, HasNoToken, Tile}
use Rattle.rt_tokens.specs.declared.content.Content.{Content}
use Rattle.rt_tokens.specs.declared.lexeme.Lexeme.{Lexeme}
use Rattle.rt_tokens.specs.declared.lexeme.Lexeme.TheVariants.{Word, Name, Number, Text, Comparison, Unread}
use Rattle.rt_tokens.specs.declared.lexeme.Word.{Word as Fixed}
use Rattle.rt_tokens.specs.declared.lexeme.Word.TheVariants as word
use Rattle.rt_tokens.specs.declared.lexer.Lexed.{Lexed}
use Rattle.rt_tokens.specs.declared.token.Token.{Token}
use Rattle.rt_tokens.proofs.Cutting.{cond_false, content_other}

-- what holds on both sides of a test holds of it
either : {A : Type 0} (P : A → Type 0) (t : Bool) (x y : A) → (t ≡ true → P x) → (t ≡ false → P y) → P (if t then x else y)
either P true x y h k = h refl
either P false x y h k = k refl

-- Tests

-- a test that holds chooses its first
test_true : {A : Type 0} (t : Bool) (x y : A) → t ≡ true → (if t then x else y) ≡ x
test_true t x y h = ap (λ c. if c then x else y) h

never : {A : Type 0} (t : Bool) → t ≡ true → t ≡ false → A
never t h k = absurd (true≢false (sym h ∙ k))

some_none : {X Y : Type 0} {x : X} → Some x ≡ None → Y
some_none e = cc

empty_full : {Y : Type 0} {b : ℕ} {bytes : List ℕ} → [] ≡ b ∷ bytes → Y
empty_full e = cc

bytes_same : (xs ys : List ℕ) → bytes_eq xs ys ≡ true → xs ≡ ys
bytes_same xs ys h = grind (arith, bytes_eq-Decides xs ys)

-- The longest beginning of which all pass

prefix_one : (p : ℕ → Bool) (b : ℕ) (bytes : List ℕ) → p b ≡ true → prefix_len p (b ∷ bytes) ≡ suc (prefix_len p bytes)
prefix_one p b bytes h =
    let more : 1 + prefix_len p bytes ≡ suc (prefix_len p bytes) = omega arith in
    test_true (p b) (1 + prefix_len p bytes) 0 h ∙ more

prefix_none : (p : ℕ → Bool) (b : ℕ) (bytes : List ℕ) → p b ≡ false → prefix_len p (b ∷ bytes) ≡ 0
prefix_none p b bytes h = cond_false (p b) (1 + prefix_len p bytes) 0 h

-- all before it pass, and what follows it doesn't
record Longest (p : ℕ → Bool) (bytes : List ℕ) (n : ℕ) : Type 0 where
  pub pass : Are p (take n bytes)
  pub ends : Ends p (drop n bytes)

longest_one : (p : ℕ → Bool) (t : Bool) (b : ℕ) (bytes : List ℕ) → p b ≡ t → Longest p bytes (prefix_len p bytes) → Longest p (b ∷ bytes) (prefix_len p (b ∷ bytes))
longest_one p true b bytes h l = subst (Longest p (b ∷ bytes)) (sym (prefix_one p b bytes h)) (record { pass = (h, l.pass); ends = l.ends })
longest_one p false b bytes h l = subst (Longest p (b ∷ bytes)) (sym (prefix_none p b bytes h)) (record { pass = tt; ends = h })

longest : (p : ℕ → Bool) (bytes : List ℕ) → Longest p bytes (prefix_len p bytes)
longest p [] = record { pass = tt; ends = tt }
longest p (b ∷ bytes) = longest_one p (p b) b bytes refl (longest p bytes)

prefix_all : (p : ℕ → Bool) (bytes later : List ℕ) (b : ℕ) → Are p bytes → p b ≡ false → prefix_len p (bytes ++ b ∷ later) ≡ length bytes
prefix_all p [] later b all h = prefix_none p b later h
prefix_all p (c ∷ bytes) later b (one, all) h = prefix_one p c (bytes ++ b ∷ later) one ∙ ap suc (prefix_all p bytes later b all h)

-- Words

-- a word's letters, or its sign
data Spelled (w : Fixed) : Type 0 where
  lettered : (b : ℕ) (more : List ℕ) → letters w ≡ b ∷ more → 97 ≤ b → b ≤ 122 → word_named (letters w) ≡ Some w → Spelled w
  signed : (b : ℕ) → letters w ≡ b ∷ [] → is_name_start b ≡ false → b < 65 → ((rest : List ℕ) → is_some (first_token (b ∷ rest)) ≡ true) → Spelled w

spelled : (w : Fixed) → Spelled w
spelled word.Select = lettered 115 (codes "elect") refl (omega arith) (omega arith) refl
spelled word.From = lettered 102 (codes "rom") refl (omega arith) (omega arith) refl
spelled word.Where = lettered 119 (codes "here") refl (omega arith) (omega arith) refl
spelled word.Group = lettered 103 (codes "roup") refl (omega arith) (omega arith) refl
spelled word.By = lettered 98 (codes "y") refl (omega arith) (omega arith) refl
spelled word.Order = lettered 111 (codes "rder") refl (omega arith) (omega arith) refl
spelled word.Limit = lettered 108 (codes "imit") refl (omega arith) (omega arith) refl
spelled word.Count = lettered 99 (codes "ount") refl (omega arith) (omega arith) refl
spelled word.Sum = lettered 115 (codes "um") refl (omega arith) (omega arith) refl
spelled word.Min = lettered 109 (codes "in") refl (omega arith) (omega arith) refl
spelled word.Max = lettered 109 (codes "ax") refl (omega arith) (omega arith) refl
spelled word.Ascending = lettered 97 (codes "sc") refl (omega arith) (omega arith) refl
spelled word.Descending = lettered 100 (codes "esc") refl (omega arith) (omega arith) refl
spelled word.Or = lettered 111 (codes "r") refl (omega arith) (omega arith) refl
spelled word.And = lettered 97 (codes "nd") refl (omega arith) (omega arith) refl
spelled word.Not = lettered 110 (codes "ot") refl (omega arith) (omega arith) refl
spelled word.Between = lettered 98 (codes "etween") refl (omega arith) (omega arith) refl
spelled word.In = lettered 105 (codes "n") refl (omega arith) (omega arith) refl
spelled word.True = lettered 116 (codes "rue") refl (omega arith) (omega arith) refl
spelled word.False = lettered 102 (codes "alse") refl (omega arith) (omega arith) refl
spelled word.Comma = signed 44 refl refl (omega arith) (λ rest. refl)
spelled word.Open = signed 40 refl refl (omega arith) (λ rest. refl)
spelled word.Close = signed 41 refl refl (omega arith) (λ rest. refl)
spelled word.Star = signed 42 refl refl (omega arith) (λ rest. refl)
spelled word.Minus = signed 45 refl refl (omega arith) (λ rest. refl)
spelled word.Semicolon = signed 59 refl refl (omega arith) (λ rest. refl)

-- what a name is a word by
record Named (name : List ℕ) (found : Option Fixed) : Type 0 where
  pub is : IfSome found (λ w. name ≡ letters w)

tried : (name : List ℕ) (w : Fixed) (found : Option Fixed) → Named name found → Named name (if bytes_eq name (letters w) then Some w else found)
tried name w found h = either (Named name) (bytes_eq name (letters w)) (Some w) found (λ e. record { is = bytes_same name (letters w) e }) (λ e. h)

other_is_spelled : (name : List ℕ) → Named name (other_word_named name)
other_is_spelled name =
    tried name word.Ascending _
    (tried name word.Descending _
    (tried name word.Or _
    (tried name word.And _
    (tried name word.Not _
    (tried name word.Between _
    (tried name word.In _
    (tried name word.True _
    (tried name word.False _
    (record { is = tt })))))))))

is_spelled : (name : List ℕ) → Named name (word_named name)
is_spelled name =
    tried name word.Select _
    (tried name word.From _
    (tried name word.Where _
    (tried name word.Group _
    (tried name word.By _
    (tried name word.Order _
    (tried name word.Limit _
    (tried name word.Count _
    (tried name word.Sum _
    (tried name word.Min _
    (tried name word.Max _
    (other_is_spelled name)))))))))))

lower_letter : (b c : ℕ) → to_ascii_lowercase b ≡ c → 97 ≤ c → c ≤ 122 → is_name_start b ≡ true
lower_letter b c h lo hi = grind (arith, nat_tests)

lower_sign : (b c : ℕ) → to_ascii_lowercase b ≡ c → c < 65 → b ≡ c
lower_sign b c h lo = grind (arith, nat_tests)

no_word_as : (b : ℕ) (name : List ℕ) (w : Fixed) → Spelled w → is_name_start b ≡ true → word_named (map to_ascii_lowercase (b ∷ name)) ≡ None → map to_ascii_lowercase (b ∷ name) ≡ letters w → ⊥
no_word_as b name w (lettered c more is lo hi found) first none h = some_none (sym found ∙ sym (ap word_named h) ∙ none)
no_word_as b name w (signed c is start low read) first none h =
    let both : to_ascii_lowercase b ∷ map to_ascii_lowercase name ≡ c ∷ [] = h ∙ is in
    let same : to_ascii_lowercase b ≡ c = ap (λ bs. get_or bs 0 0) both in
    never (is_name_start b) first (ap is_name_start (lower_sign b c same low) ∙ start)

-- a name of bytes that are no word
no_word : (b : ℕ) (name : List ℕ) (w : Fixed) → is_name_start b ≡ true → word_named (map to_ascii_lowercase (b ∷ name)) ≡ None → map to_ascii_lowercase (b ∷ name) ≡ letters w → ⊥
no_word b name w first none h = no_word_as b name w (spelled w) first none h

word_written : (b : ℕ) (name later : List ℕ) (found : Option Fixed) → word_named (map to_ascii_lowercase (b ∷ name)) ≡ found → is_name_start b ≡ true → Are is_name_byte (b ∷ name) → Ends is_name_byte later
    → IsWritten (word_or_name (b ∷ name) found) (b ∷ name) later
word_written b name later None e first all ends = inl (record { same = refl; first = first; rest = all; whole = ends; none = λ w h. no_word b name w first e h })
word_written b name later (Some w) e first all ends =
    record { letters = subst (λ (o : Option Fixed). IfSome o (λ w. map to_ascii_lowercase (b ∷ name) ≡ letters w)) e (is_spelled (map to_ascii_lowercase (b ∷ name))).is; whole = λ h. ends }

-- What is read is written

record IsRead (bytes : List ℕ) (l : Lexed) : Type 0 where
  pub written : List ℕ
  pub later : List ℕ
  pub split : bytes ≡ written ++ later
  pub size : length written ≡ l.length
  pub some : 1 ≤ l.length
  pub is : IsWritten l.lexeme written later

record Reads (bytes : List ℕ) (found : Option Lexed) : Type 0 where
  pub is : IfSome found (IsRead bytes)

start_goes_on : (b : ℕ) → is_name_start b ≡ true → is_name_byte b ≡ true
start_goes_on b h = grind (arith, nat_tests)

name_written : (b : ℕ) (bytes : List ℕ) (n : ℕ) → is_name_start b ≡ true → Longest is_name_byte (b ∷ bytes) (suc n) → IsWritten (lexeme_of (take (suc n) (b ∷ bytes))) (take (suc n) (b ∷ bytes)) (drop (suc n) (b ∷ bytes))
name_written b bytes n first l = word_written b (take n bytes) (drop n bytes) (word_named (map to_ascii_lowercase (b ∷ take n bytes))) refl first l.pass l.ends

name_read : (b : ℕ) (bytes : List ℕ) → is_name_start b ≡ true → IsRead (b ∷ bytes) (named (b ∷ bytes))
name_read b bytes first =
    let n = prefix_len is_name_byte (b ∷ bytes) in
    let k = prefix_len is_name_byte bytes in
    let more : n ≡ suc k = prefix_one is_name_byte b bytes (start_goes_on b first) in
    let all : Longest is_name_byte (b ∷ bytes) (suc k) = subst (Longest is_name_byte (b ∷ bytes)) more (longest is_name_byte (b ∷ bytes)) in
    record {
      written = take n (b ∷ bytes);
      later = drop n (b ∷ bytes);
      split = sym (take-append-drop n (b ∷ bytes));
      size = length-prefix_len is_name_byte (b ∷ bytes);
      some = omega (arith, more);
      is = subst (λ (m : ℕ). IsWritten (lexeme_of (take m (b ∷ bytes))) (take m (b ∷ bytes)) (drop m (b ∷ bytes))) (sym more) (name_written b bytes k first all);
    }

number_read : (b : ℕ) (bytes : List ℕ) → is_ascii_digit b ≡ true → IsRead (b ∷ bytes) (numbered (b ∷ bytes))
number_read b bytes digit =
    let n = prefix_len is_ascii_digit (b ∷ bytes) in
    let more : n ≡ suc (prefix_len is_ascii_digit bytes) = prefix_one is_ascii_digit b bytes digit in
    let size : length (take n (b ∷ bytes)) ≡ n = length-prefix_len is_ascii_digit (b ∷ bytes) in
    let all = longest is_ascii_digit (b ∷ bytes) in
    record {
      written = take n (b ∷ bytes);
      later = drop n (b ∷ bytes);
      split = sym (take-append-drop n (b ∷ bytes));
      size = size;
      some = omega (arith, more);
      is = record { digits = all.pass; some = omega (arith, more, size); whole = all.ends; value = refl };
    }

-- Quoted names

and_both : (a b : Bool) → (a && b) ≡ true → (a ≡ true) × (b ≡ true)
and_both true b h = (refl, h)
and_both false b h = never false h refl

found_within : (bytes : List ℕ) (n : ℕ) → get_or bytes n 0 ≡ 34 → n < length bytes
found_within [] n h = omega (arith, h)
found_within (b ∷ bytes) zero h = omega arith
found_within (b ∷ bytes) (suc n) h = let less : n < length bytes = found_within bytes n h in omega (arith, less)

at_least : (a b : ℕ) → nat_le a b ≡ true → a ≤ b
at_least a b h = grind (arith, nat_tests)

quoted_is_read : (bytes : List ℕ) (n : ℕ) → n ≡ prefix_len is_quotable bytes → get_or bytes n 0 ≡ 34 → 1 ≤ n → n ≤ 128 → IsRead (34 ∷ bytes) (token (n + 2) (Name (take n bytes)))
quoted_is_read bytes n is quote some few =
    let within : n < length bytes = found_within bytes n quote in
    let size : length (take n bytes) ≡ n = subst (λ (m : ℕ). length (take m bytes) ≡ m) (sym is) (length-prefix_len is_quotable bytes) in
    let all : Longest is_quotable bytes n = subst (Longest is_quotable bytes) (sym is) (longest is_quotable bytes) in
    let front : take (suc n) bytes ≡ take n bytes ++ 34 ∷ [] = take-suc bytes n 0 within ∙ ap (λ b. take n bytes ++ b ∷ []) quote in
    let whole : bytes ≡ (take n bytes ++ 34 ∷ []) ++ drop (suc n) bytes = sym (take-append-drop (suc n) bytes) ∙ ap (λ bs. bs ++ drop (suc n) bytes) front in
    let long : length (take n bytes ++ 34 ∷ []) ≡ length (take n bytes) + 1 = length-append (take n bytes) (34 ∷ []) in
    record {
      written = 34 ∷ take n bytes ++ 34 ∷ [];
      later = drop (suc n) bytes;
      split = ap (λ bs. 34 ∷ bs) whole;
      size = omega (arith, long, size);
      some = omega arith;
      is = inr (record { same = refl; rest = all.pass; some = omega (arith, size, some); few = omega (arith, size, few) });
    }

quoted_reads : (bytes : List ℕ) → Reads (34 ∷ bytes) (quoted bytes)
quoted_reads bytes =
    let n = prefix_len is_quotable bytes in
    either (Reads (34 ∷ bytes)) (slice_index bytes n == 34 && nat_le 1 n && nat_le n 128) (Some (token (n + 2) (Name (take n bytes)))) None
    (λ e.
    let ends = and_both (slice_index bytes n == 34 && nat_le 1 n) (nat_le n 128) e in
    let begins = and_both (slice_index bytes n == 34) (nat_le 1 n) ends.0 in
    record { is = quoted_is_read bytes n refl (eqb-true (slice_index bytes n) 34 begins.0) (at_least 1 n begins.1) (at_least n 128 ends.1) })
    (λ e. record { is = tt })

-- Texts in quotes

record IsContent (bytes : List ℕ) (c : Content) : Type 0 where
  pub later : List ℕ
  pub split : bytes ≡ (doubled c.text ++ 39 ∷ []) ++ later
  pub size : length (doubled c.text ++ 39 ∷ []) ≡ c.size
  pub ends : Ends is_quote later

record HasContent (bytes : List ℕ) (found : Option Content) : Type 0 where
  pub is : IfSome found (IsContent bytes)

content_ends : (b : ℕ) (bytes : List ℕ) → b ≡ 39 → Ends is_quote bytes → HasContent (b ∷ bytes) (Some (record { text = []; size = 1 }))
content_ends b bytes e ends = record { is = record { later = bytes; split = ap (λ k. k ∷ bytes) e; size = refl; ends = ends } }

content_doubles : (b c : ℕ) (bytes : List ℕ) (found : Option Content) → b ≡ 39 → c ≡ 39 → HasContent bytes found → HasContent (b ∷ c ∷ bytes) (behind (39 ∷ []) 2 found)
content_doubles b c bytes None e f h = record { is = tt }
content_doubles b c bytes (Some k) e f h = record {
  is = record {
    later = h.is.later;
    split = ap (λ n. n ∷ c ∷ bytes) e ∙ ap (λ n. 39 ∷ n ∷ bytes) f ∙ ap (λ bs. 39 ∷ 39 ∷ bs) h.is.split;
    size = (let size = h.is.size in omega (arith, size));
    ends = h.is.ends;
  };
}

content_begins : (b : ℕ) (bytes : List ℕ) (found : Option Content) → (b == 39) ≡ false → HasContent bytes found → HasContent (b ∷ bytes) (behind (b ∷ []) 1 found)
content_begins b bytes None e h = record { is = tt }
content_begins b bytes (Some k) e h =
    let once : doubled (b ∷ k.text) ≡ b ∷ doubled k.text = cond_false (b == 39) (39 ∷ 39 ∷ doubled k.text) (b ∷ doubled k.text) e in
    let long : length (doubled (b ∷ k.text) ++ 39 ∷ []) ≡ suc (length (doubled k.text ++ 39 ∷ [])) = ap (λ bs. length (bs ++ 39 ∷ [])) once in
    let size : length (doubled k.text ++ 39 ∷ []) ≡ k.size = h.is.size in
    record {
      is = record {
        later = h.is.later;
        split = ap (λ bs. b ∷ bs) h.is.split ∙ ap (λ bs. (bs ++ 39 ∷ []) ++ h.is.later) (sym once);
        size = long ∙ omega (arith, size);
        ends = h.is.ends;
      };
    }

has_content : (bytes : List ℕ) → HasContent bytes (content bytes)
has_content [] = record { is = tt }
has_content (b ∷ []) =
    either (HasContent (b ∷ [])) (b == 39) (Some (record { text = []; size = 1 })) None (λ e. content_ends b [] (eqb-true b 39 e) tt) (λ e. record { is = tt })
has_content (b ∷ c ∷ bytes) =
    either (HasContent (b ∷ c ∷ bytes)) (b == 39) (if c == 39 then behind (39 ∷ []) 2 (content bytes) else Some (record { text = []; size = 1 })) (behind (b ∷ []) 1 (content (c ∷ bytes)))
    (λ e. either (HasContent (b ∷ c ∷ bytes)) (c == 39) (behind (39 ∷ []) 2 (content bytes)) (Some (record { text = []; size = 1 }))
    (λ f. content_doubles b c bytes (content bytes) (eqb-true b 39 e) (eqb-true c 39 f) (has_content bytes))
    (λ f. content_ends b (c ∷ bytes) (eqb-true b 39 e) f))
    (λ e. content_begins b (c ∷ bytes) (content (c ∷ bytes)) e (has_content (c ∷ bytes)))

text_read : (bytes : List ℕ) (found : Option Content) → HasContent bytes found → Reads (39 ∷ bytes) (option_map (λ c. record { lexeme = Text c.text; length = c.size + 1 }) found)
text_read bytes None h = record { is = tt }
text_read bytes (Some c) h =
    let size : length (doubled c.text ++ 39 ∷ []) ≡ c.size = h.is.size in
    record {
      is = record {
        written = 39 ∷ doubled c.text ++ 39 ∷ [];
        later = h.is.later;
        split = ap (λ bs. 39 ∷ bs) h.is.split;
        size = omega (arith, size);
        some = omega arith;
        is = record { same = refl; whole = h.is.ends };
      };
    }

-- Signs

one_read : (b k : ℕ) (bytes : List ℕ) (lexeme : Lexeme) → b ≡ k → IsWritten lexeme (k ∷ []) bytes → IsRead (b ∷ bytes) (token 1 lexeme)
one_read b k bytes lexeme e h = record { written = k ∷ []; later = bytes; split = ap (λ n. n ∷ bytes) e; size = refl; some = omega arith; is = h }

two_read : (b c k l : ℕ) (bytes : List ℕ) (lexeme : Lexeme) → b ≡ k → c ≡ l → IsWritten lexeme (k ∷ l ∷ []) bytes → IsRead (b ∷ c ∷ bytes) (token 2 lexeme)
two_read b c k l bytes lexeme e f h =
    record { written = k ∷ l ∷ []; later = bytes; split = ap (λ n. n ∷ c ∷ bytes) e ∙ ap (λ n. k ∷ n ∷ bytes) f; size = refl; some = omega arith; is = h }

less_read : (b : ℕ) (bytes : List ℕ) → b ≡ 60 → IsRead (b ∷ bytes) (less (slice_index bytes 0))
less_read b [] e = one_read b 60 [] (Comparison Less) e (refl, tt, tt)
less_read b (c ∷ bytes) e =
    either (IsRead (b ∷ c ∷ bytes)) (c == 62) (token 2 (Comparison NotEqual)) (if c == 61 then token 2 (Comparison AtMost) else token 1 (Comparison Less))
    (λ f. two_read b c 60 62 bytes (Comparison NotEqual) e (eqb-true c 62 f) (inr refl))
    (λ f. either (IsRead (b ∷ c ∷ bytes)) (c == 61) (token 2 (Comparison AtMost)) (token 1 (Comparison Less))
    (λ g. two_read b c 60 61 bytes (Comparison AtMost) e (eqb-true c 61 g) refl)
    (λ g. one_read b 60 (c ∷ bytes) (Comparison Less) e (refl, g, f)))

greater_read : (b : ℕ) (bytes : List ℕ) → b ≡ 62 → IsRead (b ∷ bytes) (greater (slice_index bytes 0))
greater_read b [] e = one_read b 62 [] (Comparison Greater) e (refl, tt)
greater_read b (c ∷ bytes) e =
    either (IsRead (b ∷ c ∷ bytes)) (c == 61) (token 2 (Comparison AtLeast)) (token 1 (Comparison Greater))
    (λ f. two_read b c 62 61 bytes (Comparison AtLeast) e (eqb-true c 61 f) refl)
    (λ f. one_read b 62 (c ∷ bytes) (Comparison Greater) e (refl, f))

not_equal_reads : (b : ℕ) (bytes : List ℕ) → b ≡ 33 → Reads (b ∷ bytes) (not_equal (slice_index bytes 0))
not_equal_reads b [] e = record { is = tt }
not_equal_reads b (c ∷ bytes) e =
    either (Reads (b ∷ c ∷ bytes)) (c == 61) (Some (token 2 (Comparison NotEqual))) None
    (λ f. record { is = two_read b c 33 61 bytes (Comparison NotEqual) e (eqb-true c 61 f) (inl refl) })
    (λ f. record { is = tt })

comparison_reads : (b : ℕ) (bytes : List ℕ) → Reads (b ∷ bytes) (comparison b (slice_index bytes 0))
comparison_reads b bytes =
    let next = slice_index bytes 0 in
    either (Reads (b ∷ bytes)) (b == 61) (Some (token 1 (Comparison Equal))) (if b == 60 then Some (less next) else (if b == 62 then Some (greater next) else (if b == 33 then not_equal next else None)))
    (λ e. record { is = one_read b 61 bytes (Comparison Equal) (eqb-true b 61 e) refl })
    (λ _. either (Reads (b ∷ bytes)) (b == 60) (Some (less next)) (if b == 62 then Some (greater next) else (if b == 33 then not_equal next else None))
    (λ e. record { is = less_read b bytes (eqb-true b 60 e) })
    (λ _. either (Reads (b ∷ bytes)) (b == 62) (Some (greater next)) (if b == 33 then not_equal next else None)
    (λ e. record { is = greater_read b bytes (eqb-true b 62 e) })
    (λ _. either (Reads (b ∷ bytes)) (b == 33) (not_equal next) None
    (λ e. not_equal_reads b bytes (eqb-true b 33 e))
    (λ _. record { is = tt }))))

mark_read : (b k : ℕ) (bytes : List ℕ) (w : Fixed) (rest : Option Lexed) → k ∷ [] ≡ letters w → to_ascii_lowercase k ≡ k → is_name_start k ≡ false → Reads (b ∷ bytes) rest
    → Reads (b ∷ bytes) (if b == k then Some (token 1 (Word w)) else rest)
mark_read b k bytes w rest is same start h =
    either (Reads (b ∷ bytes)) (b == k) (Some (token 1 (Word w))) rest
    (λ e. record { is = one_read b k bytes (Word w) (eqb-true b k e) (record { letters = ap (λ n. n ∷ []) same ∙ is; whole = λ first. never (is_name_start k) first start }) })
    (λ _. h)

sign_reads : (b : ℕ) (bytes : List ℕ) → Reads (b ∷ bytes) (sign b (slice_index bytes 0))
sign_reads b bytes =
    mark_read b 44 bytes word.Comma _ refl refl refl
    (mark_read b 40 bytes word.Open _ refl refl refl
    (mark_read b 41 bytes word.Close _ refl refl refl
    (mark_read b 42 bytes word.Star _ refl refl refl
    (mark_read b 45 bytes word.Minus _ refl refl refl
    (mark_read b 59 bytes word.Semicolon _ refl refl refl (comparison_reads b bytes))))))

first_reads : (b : ℕ) (bytes : List ℕ) → Reads (b ∷ bytes) (first_token (b ∷ bytes))
first_reads b bytes =
    either (Reads (b ∷ bytes)) (is_name_start b) (Some (named (b ∷ bytes))) (if is_ascii_digit b then Some (numbered (b ∷ bytes)) else (if b == 34 then quoted bytes else (if b == 39 then quoted_text bytes else sign b (slice_index bytes 0))))
    (λ e. record { is = name_read b bytes e })
    (λ _. either (Reads (b ∷ bytes)) (is_ascii_digit b) (Some (numbered (b ∷ bytes))) (if b == 34 then quoted bytes else (if b == 39 then quoted_text bytes else sign b (slice_index bytes 0)))
    (λ e. record { is = number_read b bytes e })
    (λ _. either (Reads (b ∷ bytes)) (b == 34) (quoted bytes) (if b == 39 then quoted_text bytes else sign b (slice_index bytes 0))
    (λ e. subst (λ (k : ℕ). Reads (k ∷ bytes) (quoted bytes)) (sym (eqb-true b 34 e)) (quoted_reads bytes))
    (λ _. either (Reads (b ∷ bytes)) (b == 39) (quoted_text bytes) (sign b (slice_index bytes 0))
    (λ e. subst (λ (k : ℕ). Reads (k ∷ bytes) (quoted_text bytes)) (sym (eqb-true b 39 e)) (text_read bytes (content bytes) (has_content bytes)))
    (λ _. sign_reads b bytes))))

-- What is written is read

record Begun (found : Option Lexed) : Type 0 where
  pub is : is_some found ≡ true

start_read : (b : ℕ) (bytes : List ℕ) → is_name_start b ≡ true → is_some (first_token (b ∷ bytes)) ≡ true
start_read b bytes h = ap is_some (test_true (is_name_start b) (Some (named (b ∷ bytes))) _ h)

digit_read : (b : ℕ) (bytes : List ℕ) → is_ascii_digit b ≡ true → is_some (first_token (b ∷ bytes)) ≡ true
digit_read b bytes h =
    let found : Begun (first_token (b ∷ bytes)) = either Begun (is_name_start b) (Some (named (b ∷ bytes))) _ (λ _. record { is = refl })
    (λ _. either Begun (is_ascii_digit b) (Some (numbered (b ∷ bytes))) _ (λ _. record { is = refl }) (λ k. never (is_ascii_digit b) h k)) in
    found.is

word_read : (w : Fixed) (written later : List ℕ) → Spelled w → map to_ascii_lowercase written ≡ letters w → is_some (first_token (written ++ later)) ≡ true
word_read w [] later (lettered c more is lo hi found) h = empty_full (h ∙ is)
word_read w [] later (signed c is start low read) h = empty_full (h ∙ is)
word_read w (b ∷ written) later (lettered c more is lo hi found) h =
    start_read b (written ++ later) (lower_letter b c (ap (λ bs. get_or bs 0 0) (h ∙ is)) lo hi)
word_read w (b ∷ written) later (signed c is start low read) h =
    ap (λ k. is_some (first_token (k ∷ written ++ later))) (lower_sign b c (ap (λ bs. get_or bs 0 0) (h ∙ is)) low) ∙ read (written ++ later)

plain_read : (written later : List ℕ) → is_name_start (slice_index written 0) ≡ true → is_some (first_token (written ++ later)) ≡ true
plain_read [] later h = never (is_name_start 0) h refl
plain_read (b ∷ written) later h = start_read b (written ++ later) h

number_is_read : (written later : List ℕ) → Are is_ascii_digit written → 1 ≤ length written → is_some (first_token (written ++ later)) ≡ true
number_is_read [] later all some = absurd (omega (arith, some))
number_is_read (b ∷ written) later (one, all) some = digit_read b (written ++ later) one

both_hold : (a b : Bool) → a ≡ true → b ≡ true → (a && b) ≡ true
both_hold true b e f = f
both_hold false b e f = never false e refl

quoted_name_read : (name later : List ℕ) → Are is_quotable name → 1 ≤ length name → length name ≤ 128 → is_some (first_token ((34 ∷ name ++ 34 ∷ []) ++ later)) ≡ true
quoted_name_read name later all some few =
    let bytes = name ++ 34 ∷ later in
    let n = prefix_len is_quotable bytes in
    let same : n ≡ length name = prefix_all is_quotable name later 34 all refl in
    let quote : (slice_index bytes n == 34) ≡ true = eq-eqb (slice_index bytes n) 34 (ap (λ k. get_or bytes k 0) same ∙ get_or-append_seam name 34 later 0) in
    let low : nat_le 1 n ≡ true = le-leb 1 n (omega (arith, same, some)) in
    let high : nat_le n 128 ≡ true = le-leb n 128 (omega (arith, same, few)) in
    let passes : (slice_index bytes n == 34 && nat_le 1 n && nat_le n 128) ≡ true = both_hold (slice_index bytes n == 34 && nat_le 1 n) (nat_le n 128) (both_hold (slice_index bytes n == 34) (nat_le 1 n) quote low) high in
    ap (λ bs. is_some (first_token (34 ∷ bs))) (append_assoc name (34 ∷ []) later)
    ∙ ap is_some (test_true (slice_index bytes n == 34 && nat_le 1 n && nat_le n 128) (Some (token (n + 2) (Name (take n bytes)))) None passes)

behind_is_some : (front : List ℕ) (size : ℕ) (found : Option Content) → is_some found ≡ true → is_some (behind front size found) ≡ true
behind_is_some front size None h = never false h refl
behind_is_some front size (Some c) h = refl

content_is_read : (text later : List ℕ) → Ends is_quote later → is_some (content (doubled text ++ 39 ∷ later)) ≡ true
content_is_read [] [] h = refl
content_is_read [] (c ∷ later) h = ap is_some (cond_false (c == 39) (behind (39 ∷ []) 2 (content later)) (Some (record { text = []; size = 1 })) h)
content_is_read (b ∷ text) later h = content_goes_on (b == 39) b text later refl (content_is_read text later h)
  where
    content_goes_on : (t : Bool) (b : ℕ) (text later : List ℕ) → (b == 39) ≡ t → is_some (content (doubled text ++ 39 ∷ later)) ≡ true → is_some (content (doubled (b ∷ text) ++ 39 ∷ later)) ≡ true
    content_goes_on true b text later e h = ap (λ bs. is_some (content (bs ++ 39 ∷ later))) (test_true (b == 39) (39 ∷ 39 ∷ doubled text) (b ∷ doubled text) e) ∙ behind_is_some (39 ∷ []) 2 (content (doubled text ++ 39 ∷ later)) h
    content_goes_on false b text later e h =
        ap (λ bs. is_some (content (bs ++ 39 ∷ later))) (cond_false (b == 39) (39 ∷ 39 ∷ doubled text) (b ∷ doubled text) e)
        ∙ ap is_some (content_other b (doubled text ++ 39 ∷ later) (λ is. never (b == 39) (eq-eqb b 39 is) e))
        ∙ behind_is_some (b ∷ []) 1 (content (doubled text ++ 39 ∷ later)) h

text_found : (found : Option Content) → is_some found ≡ true → is_some (option_map (λ c. token (c.size + 1) (Text c.text)) found) ≡ true
text_found None h = h
text_found (Some c) h = refl

text_is_read : (text later : List ℕ) → Ends is_quote later → is_some (first_token ((39 ∷ doubled text ++ 39 ∷ []) ++ later)) ≡ true
text_is_read text later h =
    ap (λ bs. is_some (first_token (39 ∷ bs))) (append_assoc (doubled text) (39 ∷ []) later) ∙ text_found (content (doubled text ++ 39 ∷ later)) (content_is_read text later h)

comparison_is_read : (c : Compared) (written later : List ℕ) → IsComparison c written later → is_some (first_token (written ++ later)) ≡ true
comparison_is_read Equal written later h = ap (λ bs. is_some (first_token (bs ++ later))) h
comparison_is_read NotEqual written later (inl h) = ap (λ bs. is_some (first_token (bs ++ later))) h
comparison_is_read NotEqual written later (inr h) = ap (λ bs. is_some (first_token (bs ++ later))) h
comparison_is_read Less written later (h, equals, angle) = ap (λ bs. is_some (first_token (bs ++ later))) h
comparison_is_read AtMost written later h = ap (λ bs. is_some (first_token (bs ++ later))) h
comparison_is_read Greater written later (h, ends) = ap (λ bs. is_some (first_token (bs ++ later))) h
comparison_is_read AtLeast written later h = ap (λ bs. is_some (first_token (bs ++ later))) h

written_is_read : (lexeme : Lexeme) (written later : List ℕ) → IsWritten lexeme written later → is_some (first_token (written ++ later)) ≡ true
written_is_read (Word w) written later h = word_read w written later (spelled w) h.letters
written_is_read (Name name) written later (inl h) = plain_read written later h.first
written_is_read (Name name) written later (inr h) = ap (λ bs. is_some (first_token (bs ++ later))) h.same ∙ quoted_name_read name later h.rest h.some h.few
written_is_read (Number n) written later h = number_is_read written later h.digits h.some
written_is_read (Text text) written later h = ap (λ bs. is_some (first_token (bs ++ later))) h.same ∙ text_is_read text later h.whole
written_is_read (Comparison c) written later h = comparison_is_read c written later h
written_is_read Unread written later h = absurd h

-- All tokens

blank_before : (b at : ℕ) (bytes : List ℕ) (ts : List Token) → is_blank b ≡ true → Tile (suc at) bytes ts → Tile at (b ∷ bytes) ts
blank_before b at bytes [] h tile = (h, tile)
blank_before b at bytes (t ∷ ts) h (blanks, rest, all, split, place, more) =
    let moved : suc at + length blanks ≡ at + suc (length blanks) = omega arith in
    (b ∷ blanks, rest, (h, all), ap (λ bs. b ∷ bs) split, place ∙ moved, more)

GoesOn : ℕ → List ℕ → (ℕ → List Token) → Type 0
GoesOn byte bytes more = (n at : ℕ) → at ≡ suc byte + n → n ≤ length bytes → Tile at (drop n bytes) (more n)

token_tiles : (byte b : ℕ) (bytes : List ℕ) (found : Option Lexed) (more : ℕ → List Token) → first_token (b ∷ bytes) ≡ found → is_blank b ≡ false → GoesOn byte bytes more → Tile byte (b ∷ bytes) (begin byte found more)
unfolding GoesOn
token_tiles byte b bytes None more e blank goes =
    let here : byte ≡ byte + 0 = omega arith in
    let none : HasNoToken (b ∷ bytes) = record {
      some = omega arith;
      first = blank;
      none = λ lexeme written later split h. never false (sym (ap is_some (sym (ap first_token split) ∙ e)) ∙ written_is_read lexeme written later h) refl;
    } in
    ([], b ∷ bytes, tt, refl, here, inr (refl, none, refl))
token_tiles byte b bytes (Some l) more e blank goes =
    let here : byte ≡ byte + 0 = omega arith in
    let read : IsRead (b ∷ bytes) l = subst (λ (o : Option Lexed). IfSome o (IsRead (b ∷ bytes))) e (first_reads b bytes).is in
    let size : length read.written ≡ l.length = read.size in
    let some : 1 ≤ l.length = read.some in
    let n = l.length - 1 in
    let long : length (b ∷ bytes) ≡ length read.written + length read.later = ap length read.split ∙ length-append read.written read.later in
    let fits : n ≤ length bytes = omega (arith, long, size, some) in
    let step : length read.written ≡ suc n = omega (arith, size, some) in
    let rest : drop n bytes ≡ read.later = ap (λ k. drop k (b ∷ bytes)) (sym step) ∙ ap (drop (length read.written)) read.split ∙ drop-append_seam read.written read.later in
    let place : byte + length read.written ≡ suc byte + n = omega (arith, step) in
    let tile : Tile (byte + length read.written) read.later (more n) = subst (λ (bs : List ℕ). Tile (byte + length read.written) bs (more n)) rest (goes n (byte + length read.written) place fits) in
    ([], b ∷ bytes, tt, refl, here, inl (read.written, read.later, read.split, read.is, tile))

tile_from : (skip byte at : ℕ) (bytes : List ℕ) → at ≡ byte + skip → skip ≤ length bytes → Tile at (drop skip bytes) (tokens_at skip byte bytes)
unfolding GoesOn
tile_from zero byte at [] e fits = tt
tile_from (suc skip) byte at [] e fits = absurd (omega (arith, fits))
tile_from (suc skip) byte at (b ∷ bytes) e fits = tile_from skip (suc byte) at bytes (omega (arith, e)) (omega (arith, fits))
tile_from zero byte at (b ∷ bytes) e fits =
    let same : byte ≡ at = omega (arith, e) in
    let next : suc byte ≡ suc byte + 0 = omega arith in
    let tile : Tile byte (b ∷ bytes) (tokens_at 0 byte (b ∷ bytes)) =
    either (λ (ts : List Token). Tile byte (b ∷ bytes) ts) (is_blank b) (tokens_at 0 (suc byte) bytes) (begin byte (first_token (b ∷ bytes)) (λ skip. tokens_at skip (suc byte) bytes))
    (λ h. blank_before b byte bytes (tokens_at 0 (suc byte) bytes) h (tile_from 0 (suc byte) (suc byte) bytes next (omega arith)))
    (λ h. token_tiles byte b bytes (first_token (b ∷ bytes)) (λ skip. tokens_at skip (suc byte) bytes) refl h (λ n at e fits. tile_from n (suc byte) at bytes e fits)) in
    subst (λ (n : ℕ). Tile n (b ∷ bytes) (tokens_at 0 byte (b ∷ bytes))) same tile

pub text_tiles : (text : List ℕ) → Tile 0 text (tokens_of text)
text_tiles text = tile_from 0 0 0 text (omega arith) (omega arith)
