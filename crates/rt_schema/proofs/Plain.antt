-- Plain messages: what was matched member by member is what the whole text reads as.
use Rattle.std.proofs.Common.{rules, ◌≡◌, ℕ, ◌+◌, ◌-◌, ◌<◌, ◌≤◌, List, [], ◌∷◌, ◌++◌, length, get_or, take, drop, map, fold, Option, Some, None, option_map, option_and_then, Bool, true, false, not, nat_lt, bytes_eq, true≢false, append_assoc, append-nil, refl, sym, ap, ap₂, ◌∙◌, arith, subst}
use Rattle.std.specs.Prelude.{◌&&◌, ◌==◌, ◌*◌, ◌/◌, ◌%◌, ◌^◌, pos, decimal, nat_le, slice_get, cond}
use Rattle.std.specs.Str.{IsUtf8, is_utf8}
use Rattle.std.proofs.lemmas.Fmt.{IsAscii-decimal, decimal_digit, decimal_step}
use Rattle.std.proofs.lemmas.Str.{IsUtf8-append, IsUtf8-from_ascii, IsUtf8-nil, is_utf8-from_IsUtf8}
use Rattle.std.proofs.lemmas.Bool.{and_from, and_parts, eq-eqb, leb-true, lt-ltb, not-true, or_parts}
use Rattle.std.proofs.lemmas.List.{length-map, length-take, map-append, take-append-drop, take_all, take_more}
use Rattle.std.proofs.lemmas.Option.{none-some, same_Some}
use Rattle.json.specs.Token.{Token}
use Rattle.json.specs.Json.{members, value}
use Rattle.json.specs.Lex.{tokens}
use Rattle.json.specs.Print.{escape, escape_byte, quoted, token_text, ends, print_from, print, ArePrintable, IsPrintable}
use Rattle.json.proofs.Printed.Decimals.{IsNumber-decimal}
use Rattle.json.proofs.Printed.Strings.{escape_byte_plain}
use Rattle.json.proofs.Printed.Tokens.{tokens-print, print_from-append}
use Rattle.json.proofs.Printed.Utf8.{IsUtf8-are_ascii, IsUtf8-key, IsUtf8-quoted}
use Rattle.serde_json.specs.Data.{Data, object, number, string, unsigned, Members, no_members, put}
use Rattle.serde_json.specs.Find.{as_i64, get_member}
use Rattle.serde_json.specs.Read.{of_members, converted, read}
use Rattle.serde_json.specs.View.{view, number_view}
use Rattle.serde_json.specs.declared.number.Number.{Number}
use Rattle.serde_json.specs.declared.value.Value.{the_lemmas, Number as JsonNumber}
use Rattle.serde_json.proofs.Numbers.{number_of-decimal}
use Rattle.serde_json.proofs.Views.{get_member-put, get_member-put_other}
use Rattle.rt_schema.specs.Flat.{scalar_of, found_in, cells_from}
use Rattle.rt_schema.specs.Plain.{IsCellAt, comma_if, is_plain, are_plain, IsScalarAt, Piece, ArePieces, tokens_of, ArePlain}
use Rattle.rt_schema.specs.Row.{row_in}
use Rattle.rt_schema.specs.Schema.{is_among, names_of, are_distinct}
use Rattle.rt_schema.specs.Value.{cell_of, value_of}
use Rattle.rt_schema.specs.declared.column.Column.{Column}
use Rattle.rt_schema.specs.declared.column.Kind.{Kind}
use Rattle.rt_schema.specs.declared.value.Value.{Value as Cell}
use Rattle.rt_schema.specs.declared.value.Value.TheVariants.{Long, Text, Time}
use Rattle.rt_schema.proofs.Flat.{apart_bytes, cells_found, distinct_later, flat_read, member_read, members_over, none_later, scalar_read}

-- ---- bytes that stand for themselves

other_byte : (x y : ℕ) → not (x == y) ≡ true → x ≡ y → ⊥
other_byte x y e same = true≢false (sym (eq-eqb x y same) ∙ not-true (x == y) e)

plain_byte : (x : ℕ) → is_plain x ≡ true → escape_byte x ≡ x ∷ []
plain_byte x e =
    let parts = and_parts (not (x == 34) && not (x == 92)) (nat_le 32 x) e in
    let former = and_parts (not (x == 34)) (not (x == 92)) parts.0 in
    escape_byte_plain x (other_byte x 34 former.0) (other_byte x 92 former.1) (leb-true 32 x parts.1)

-- plain bytes are written as they are
pub plain_escape : (xs : List ℕ) → are_plain xs ≡ true → escape xs ≡ xs
plain_escape [] e = refl
plain_escape (x ∷ xs) e =
    let parts = and_parts (is_plain x) (are_plain xs) e in
    ap₂ (λ first later. first ++ later) (plain_byte x parts.0) (plain_escape xs parts.1)

-- one plain byte more
are_plain_more : (xs : List ℕ) (x : ℕ) → are_plain xs ≡ true → is_plain x ≡ true → are_plain (xs ++ x ∷ []) ≡ true
are_plain_more [] x e h = and_from (is_plain x) true h refl
are_plain_more (y ∷ ys) x e h =
    let parts = and_parts (is_plain y) (are_plain ys) e in
    and_from (is_plain y) (are_plain (ys ++ x ∷ [])) parts.0 (are_plain_more ys x parts.1 h)

pub plain_next : (text : List ℕ) (at : ℕ) → at < length text → is_plain (get_or text at 0) ≡ true → are_plain (take at text) ≡ true → are_plain (take (at + 1) text) ≡ true
plain_next text at within h e = ap are_plain (take_more text at 0 within) ∙ are_plain_more (take at text) (get_or text at 0) e h

-- a text in quotes, from its bytes between them
pub quoted_front : (text inner rest : List ℕ) (end : ℕ) → text ≡ 34 ∷ inner → are_plain (take end inner) ≡ true → drop end inner ≡ 34 ∷ rest → text ≡ quoted (take end inner) ++ rest
quoted_front text inner rest end first plain last =
    let whole : inner ≡ take end inner ++ 34 ∷ rest = sym (take-append-drop end inner) ∙ ap (λ xs. take end inner ++ xs) last in
    let back : (take end inner ++ 34 ∷ []) ++ rest ≡ take end inner ++ 34 ∷ rest = append_assoc (take end inner) (34 ∷ []) rest in
    first ∙ ap (λ xs. 34 ∷ xs) (whole ∙ sym back ∙ ap (λ xs. (xs ++ 34 ∷ []) ++ rest) (sym (plain_escape (take end inner) plain)))

-- a key, from its text in quotes
pub key_front : (later : Bool) (name key text inner behind rest : List ℕ) → text ≡ comma_if later ++ inner → inner ≡ quoted key ++ behind → key ≡ name → behind ≡ 58 ∷ rest
    → text ≡ comma_if later ++ (quoted name ++ 58 ∷ rest)
key_front later name key text inner behind rest first quotes same colon =
    first ∙ ap (λ xs. comma_if later ++ xs) (quotes ∙ ap₂ (λ k xs. quoted k ++ xs) same colon)

-- ---- numbers without a sign

above_ten : (n d : ℕ) → 0 < n → 10 ≤ n * 10 + d
above_ten n d some = omega arith

tens_of : (n d : ℕ) → d < 10 → (n * 10 + d) / 10 ≡ n
tens_of n d below = omega arith

last_of : (n d : ℕ) → d < 10 → (n * 10 + d) % 10 ≡ d
last_of n d below = omega arith

-- one digit more
pub decimal_more : (text : List ℕ) (at n d : ℕ) → at < length text → 0 < n → d < 10 → n * 10 + d < 2 ^ 64 → get_or text at 0 ≡ 48 + d → take at text ≡ decimal n → take (at + 1) text ≡ decimal (n * 10 + d)
decimal_more text at n d within some below fits is was =
    let step : decimal (n * 10 + d) ≡ decimal n ++ ((48 + d) ∷ []) =
    decimal_step (n * 10 + d) (above_ten n d some) fits ∙ ap₂ (λ m e. decimal m ++ ((48 + e) ∷ [])) (tens_of n d below) (last_of n d below) in
    take_more text at 0 within ∙ ap₂ (λ xs x. xs ++ x ∷ []) was is ∙ sym step

-- the first digit
pub decimal_first : (text : List ℕ) (x d : ℕ) → Some x ≡ slice_get text 0 → d < 10 → x ≡ 48 + d → take 1 text ≡ decimal d
decimal_first [] x d is below same = absurd (none-some x (sym is))
decimal_first (y ∷ ys) x d is below same = ap (λ z. z ∷ []) (sym (same_Some x y is) ∙ same) ∙ sym (decimal_digit d below)

view_number : (n : Number) → view (JsonNumber n) ≡ number (number_view n)
view_number n = search (rules, the_lemmas)

integer_token : (text rest : List ℕ) (n : ℕ) → n < 2 ^ 64 → text ≡ decimal n ++ rest → IsScalarAt text (number (unsigned n)) rest
integer_token text rest n fits is = (
  Token.number (decimal n),
  (is, IsNumber-decimal n fits, IsUtf8-from_ascii (decimal n) (IsAscii-decimal n fits)),
  ap (option_map number) (number_of-decimal n fits),
)

-- the value that is made of a number's digits
pub integer_at : (text rest : List ℕ) (n : ℕ) (made : Number) → n < 2 ^ 64 → text ≡ decimal n ++ rest → number_view made ≡ unsigned n → IsScalarAt text (view (JsonNumber made)) rest
integer_at text rest n made fits is same = subst (λ d. IsScalarAt text d rest) (ap number (sym same) ∙ sym (view_number made)) (integer_token text rest n fits is)

-- what a column of 64-bit numbers gets from one
long_of : (n : ℕ) → n < 2 ^ 63 → as_i64 (unsigned n) ≡ Some (pos n)
long_of n fits = ap (λ b. cond b (Some (pos n)) None) (lt-ltb n (2 ^ 63) fits)

wide : (n : ℕ) → n < 2 ^ 63 → n < 2 ^ 64
wide n fits = omega arith

pub long_at : (column : Column) (text rest : List ℕ) (n : ℕ) (value : Cell) → Kind.Long ≡ column.kind → n < 2 ^ 63 → text ≡ decimal n ++ rest → value ≡ Long (pos n) → IsCellAt column text value rest
long_at column text rest n value kind fits is made =
    let d = number (unsigned n) in
    (d, integer_token text rest n (wide n fits) is, ap (λ k. value_of k d) (sym kind) ∙ ap (option_map Long) (long_of n fits) ∙ ap Some (sym made))

pub time_at : (column : Column) (text rest : List ℕ) (n : ℕ) (value : Cell) → Kind.Time ≡ column.kind → n < 2 ^ 63 → text ≡ decimal n ++ rest → value ≡ Time (pos n) → IsCellAt column text value rest
time_at column text rest n value kind fits is made =
    let d = number (unsigned n) in
    (d, integer_token text rest n (wide n fits) is, ap (λ k. value_of k d) (sym kind) ∙ ap (option_map Time) (long_of n fits) ∙ ap Some (sym made))

-- what a column of texts gets from one
pub text_at : (column : Column) (text s copy rest : List ℕ) → Kind.Text ≡ column.kind → text ≡ quoted s ++ rest → IsUtf8 s → copy ≡ s → IsCellAt column text (Text copy) rest
text_at column text s copy rest kind is utf8 same = (
  string s,
  (Token.string s, (is, tt, IsUtf8-quoted s utf8), refl),
  ap (λ k. value_of k (string s)) (sym kind) ∙ ap (λ t. Some (Text t)) (sym same),
)

-- ---- one member more

ends_scalar : (t : Token) (d : Data) → scalar_of t ≡ Some d → ends t ≡ true
ends_scalar Token.begin_object d e = absurd (none-some d e)
ends_scalar Token.end_object d e = absurd (none-some d e)
ends_scalar Token.begin_array d e = absurd (none-some d e)
ends_scalar Token.end_array d e = absurd (none-some d e)
ends_scalar (Token.key s) d e = absurd (none-some d e)
ends_scalar (Token.string s) d e = refl
ends_scalar (Token.number s) d e = refl
ends_scalar (Token.boolean b) d e = refl
ends_scalar Token.null d e = refl
ends_scalar Token.bad d e = absurd (none-some d e)

-- whether a value has just ended
abbrev after_value : Bool → List Token → Bool
after_value c ts = fold (λ _ u. ends u) c ts

after_pieces : (c : Bool) (p : Piece) (ps : List Piece) → ArePieces (p ∷ ps) → after_value c (tokens_of (p ∷ ps)) ≡ true
after_pieces c p [] are = ends_scalar p.1.0 p.1.1 are.0.0
after_pieces c p (q ∷ qs) are = after_pieces (ends p.1.0) q qs are.1

after_front : (ps : List Piece) → ArePieces ps → after_value false (Token.begin_object ∷ tokens_of ps) ≡ nat_lt 0 (length ps)
after_front [] are = refl
after_front (p ∷ ps) are = after_pieces false p ps are ∙ sym (lt-ltb 0 (length (p ∷ ps)) (omega arith))

tokens_more : (ps : List Piece) (p : Piece) → tokens_of (ps ++ p ∷ []) ≡ tokens_of ps ++ (Token.key p.0 ∷ p.1.0 ∷ [])
tokens_more [] p = refl
tokens_more (q ∷ qs) p = ap (λ ts. Token.key q.0 ∷ q.1.0 ∷ ts) (tokens_more qs p)

pieces_more : (ps : List Piece) (p : Piece) → ArePieces ps → (scalar_of p.1.0 ≡ Some p.1.1) × IsPrintable p.1.0 → ArePieces (ps ++ p ∷ [])
pieces_more [] p are is = (is, tt)
pieces_more (q ∷ qs) p are is = (are.0, pieces_more qs p are.1 is)

member_behind : (name : List ℕ) (t : Token) (rest : List ℕ) → ((quoted name ++ 58 ∷ []) ++ (token_text t ++ [])) ++ rest ≡ quoted name ++ 58 ∷ (token_text t ++ rest)
member_behind name t rest =
    append_assoc (quoted name ++ 58 ∷ []) (token_text t ++ []) rest ∙ append_assoc (quoted name) (58 ∷ []) ((token_text t ++ []) ++ rest)
    ∙ ap (λ xs. quoted name ++ 58 ∷ (xs ++ rest)) (append-nil (token_text t))

-- a key and its value, as they are written
member_text : (later : Bool) (name : List ℕ) (t : Token) (rest : List ℕ)
    → print_from later (Token.key name ∷ t ∷ []) ++ rest ≡ comma_if later ++ (quoted name ++ 58 ∷ (token_text t ++ rest))
unfolding print_from
member_text true name t rest = ap (λ xs. 44 ∷ xs) (member_behind name t rest)
member_text false name t rest = member_behind name t rest

-- what is written of the members with one more
printed_more : (ps : List Piece) (p : Piece) → ArePieces ps
    → print (Token.begin_object ∷ tokens_of (ps ++ p ∷ [])) ≡ print (Token.begin_object ∷ tokens_of ps) ++ print_from (nat_lt 0 (length ps)) (Token.key p.0 ∷ p.1.0 ∷ [])
printed_more ps p are =
    let front = Token.begin_object ∷ tokens_of ps in
    let member = Token.key p.0 ∷ p.1.0 ∷ [] in
    ap (λ ts. print (Token.begin_object ∷ ts)) (tokens_more ps p) ∙ print_from-append false front member ∙ ap (λ c. print front ++ print_from c member) (after_front ps are)

front_more : (ps : List Piece) (p : Piece) (text rest behind later : List ℕ) → ArePieces ps → text ≡ print (Token.begin_object ∷ tokens_of ps) ++ rest
    → rest ≡ comma_if (nat_lt 0 (length ps)) ++ (quoted p.0 ++ 58 ∷ behind) → behind ≡ token_text p.1.0 ++ later
    → text ≡ print (Token.begin_object ∷ tokens_of (ps ++ p ∷ [])) ++ later
front_more ps p text rest behind later are was key is =
    let front = Token.begin_object ∷ tokens_of ps in
    let member = Token.key p.0 ∷ p.1.0 ∷ [] in
    let comma = nat_lt 0 (length ps) in
    let written : rest ≡ print_from comma member ++ later = key ∙ ap (λ xs. comma_if comma ++ (quoted p.0 ++ 58 ∷ xs)) is ∙ sym (member_text comma p.0 p.1.0 later) in
    was ∙ ap (λ xs. print front ++ xs) written ∙ sym (append_assoc (print front) (print_from comma member) later) ∙ ap (λ xs. xs ++ later) (sym (printed_more ps p are))

-- what the later columns give with one column more
abbrev EndsWith : List Column → List (Option Data) → Column → Option Data → Cell → Type 0
EndsWith columns ds column d v = (vs : List Cell) → cells_from columns ds ≡ Some vs → cells_from (columns ++ column ∷ []) (ds ++ d ∷ []) ≡ Some (vs ++ v ∷ [])

cells_with : (u : Cell) (o : Option (List Cell)) (columns : List Column) (ds : List (Option Data)) (values : List Cell) (column : Column) (d : Option Data) (v : Cell) → cells_from columns ds ≡ o
    → EndsWith columns ds column d v → option_map (λ vs. u ∷ vs) o ≡ Some values → option_map (λ vs. u ∷ vs) (cells_from (columns ++ column ∷ []) (ds ++ d ∷ [])) ≡ Some (values ++ v ∷ [])
cells_with u None columns ds values column d v are later e = absurd (none-some values e)
cells_with u (Some vs) columns ds values column d v are later e = ap (option_map (λ vs. u ∷ vs)) (later vs are) ∙ ap (λ ws. Some (ws ++ v ∷ [])) (same_Some (u ∷ vs) values e)

cells_behind : (o : Option Cell) (columns : List Column) (ds : List (Option Data)) (values : List Cell) (column : Column) (d : Option Data) (v : Cell) → EndsWith columns ds column d v
    → option_and_then (λ v. option_map (λ vs. v ∷ vs) (cells_from columns ds)) o ≡ Some values
    → option_and_then (λ v. option_map (λ vs. v ∷ vs) (cells_from (columns ++ column ∷ []) (ds ++ d ∷ []))) o ≡ Some (values ++ v ∷ [])
cells_behind None columns ds values column d v later e = absurd (none-some values e)
cells_behind (Some u) columns ds values column d v later e = cells_with u (cells_from columns ds) columns ds values column d v refl later e

cells_more : (columns : List Column) (ds : List (Option Data)) (column : Column) (d : Option Data) (v : Cell) → length columns ≡ length ds → cell_of column d ≡ Some v → EndsWith columns ds column d v
cells_more [] [] column d v same is values e = ap (λ o. option_and_then (λ v. option_map (λ vs. v ∷ vs) (Some [])) o) is ∙ ap (λ vs. Some (vs ++ v ∷ [])) (same_Some [] values e)
cells_more [] (o ∷ ds) column d v same is values e = absurd (omega (arith, same))
cells_more (c ∷ cs) [] column d v same is values e = absurd (omega (arith, same))
cells_more (c ∷ cs) (o ∷ ds) column d v same is values e = cells_behind (cell_of c o) cs ds values column d v (cells_more cs ds column d v (omega (arith, same)) is) e

abbrev names_in : List Piece → List (List ℕ)
names_in ps = map (λ p. p.0) ps

abbrev data_in : List Piece → List (Option Data)
data_in ps = map (λ p. Some p.1.1) ps

front_length : (columns : List Column) (i : ℕ) → i < length columns → length (take i columns) ≡ i
front_length columns i within = omega (arith, length-take i columns)

comma_utf8 : (later : Bool) → IsUtf8 (comma_if later)
comma_utf8 true = IsUtf8-are_ascii (44 ∷ []) refl
comma_utf8 false = IsUtf8-nil

-- a key and its value are UTF-8, as the name and the value are
member_utf8 : (later : Bool) (name : List ℕ) (t : Token) → IsUtf8 name → IsUtf8 (token_text t) → IsUtf8 (print_from later (Token.key name ∷ t ∷ []))
member_utf8 later name t key value =
    let inner : IsUtf8 ((quoted name ++ 58 ∷ []) ++ token_text t) = IsUtf8-append (quoted name ++ 58 ∷ []) (token_text t) (IsUtf8-key name key) value in
    let same : comma_if later ++ ((quoted name ++ 58 ∷ []) ++ token_text t) ≡ print_from later (Token.key name ∷ t ∷ []) =
    ap (λ xs. comma_if later ++ xs) (append_assoc (quoted name) (58 ∷ []) (token_text t) ∙ ap (λ xs. quoted name ++ 58 ∷ xs) (sym (append-nil (token_text t))))
    ∙ sym (member_text later name t []) ∙ append-nil (print_from later (Token.key name ∷ t ∷ [])) in
    subst IsUtf8 same (IsUtf8-append (comma_if later) ((quoted name ++ 58 ∷ []) ++ token_text t) (comma_utf8 later) inner)

-- one column more has its value
pub plain_more : (columns : List Column) (i : ℕ) (column : Column) (text : List ℕ) (values : List Cell) (rest behind later : List ℕ) (v : Cell) → i < length columns → column ≡ get_or columns i column → IsUtf8 column.name
    → ArePlain (take i columns) text values rest → rest ≡ comma_if (nat_lt 0 i) ++ (quoted column.name ++ 58 ∷ behind) → IsCellAt column behind v later
    → ArePlain (take (i + 1) columns) text (values ++ v ∷ []) later
plain_more columns i column text values rest behind later v within is name was key cell =
    let ps = was.0 in
    let d = cell.0 in
    let scalar = cell.1 in
    let t = scalar.0 in
    let p : Piece = (column.name, (t, d)) in
    let front = take i columns in
    let printed = Token.begin_object ∷ tokens_of ps in
    let member = Token.key column.name ∷ t ∷ [] in
    let comma = nat_lt 0 (length ps) in
    let more : take (i + 1) columns ≡ front ++ column ∷ [] = take_more columns i column within ∙ ap (λ c. front ++ c ∷ []) (sym is) in
    let count : length ps ≡ i = sym (length-map ps (λ p. p.0)) ∙ ap length was.2 ∙ length-map front (λ column. column.name) ∙ front_length columns i within in
    let same : length front ≡ length (data_in ps) = front_length columns i within ∙ sym count ∙ sym (length-map ps (λ p. Some p.1.1)) in
    let utf8 = IsUtf8-append (print printed) (print_from comma member) was.4 (member_utf8 comma column.name t name scalar.1.2) in (
      ps ++ p ∷ [],
      pieces_more ps p was.1 (scalar.2, scalar.1.1),
      map-append (λ p. p.0) ps (p ∷ []) ∙ ap (λ ns. ns ++ column.name ∷ []) was.2 ∙ sym (map-append (λ column. column.name) front (column ∷ [])) ∙ ap names_of (sym more),
      front_more ps p (123 ∷ text) rest behind later was.1 was.3 (key ∙ ap (λ n. comma_if (nat_lt 0 n) ++ (quoted column.name ++ 58 ∷ behind)) (sym count)) scalar.1.0,
      subst IsUtf8 (sym (printed_more ps p was.1)) utf8,
      ap₂ cells_from more (map-append (λ p. Some p.1.1) ps (p ∷ [])) ∙ cells_more front (data_in ps) column (Some d) v same cell.2 values was.5,
    )

-- nothing was read yet
pub plain_none : (columns : List Column) (text : List ℕ) → ArePlain (take 0 columns) text [] text
unfolding print_from
plain_none columns text = ([], tt, refl, refl, IsUtf8-are_ascii (123 ∷ []) refl, refl)

pub plain_all : (columns : List Column) (n : ℕ) (text : List ℕ) (values : List Cell) (rest : List ℕ) → length columns ≤ n → ArePlain (take n columns) text values rest → ArePlain columns text values rest
plain_all columns n text values rest all are = subst (λ cs. ArePlain cs text values rest) (take_all n columns all) are

-- ---- the whole text

-- the members one after another
abbrev put_all : List Piece → Members → Members
put_all [] ms = ms
put_all (p ∷ ps) ms = put_all ps (put p.0 p.1.1 ms)

abbrev over : List Piece → List Token
over ps = tokens_of ps ++ Token.end_object ∷ []

members_all : (ps : List Piece) (old : Members) (n : ℕ) → ArePieces ps → length (over ps) ≤ n → converted (λ js. of_members js old) (members (value 126) n (over ps)) ≡ Some (put_all ps old, [])
members_all [] old n are enough = members_over (value 126) old n (Token.end_object ∷ []) [] enough refl
members_all (p ∷ ps) old n are enough =
    let t = p.1.0 in
    let token = scalar_read 126 t p.1.1 (over ps) are.0.0 in
    let some : 0 < n = omega (arith, enough) in
    let fewer : length (over ps) ≤ n - 1 = omega (arith, enough) in
    member_read (value 126) old n p.0 (over (p ∷ ps)) (t ∷ over ps) (over ps) token.0 p.1.1 some refl token.1 token.2 ∙ members_all ps (put p.0 p.1.1 old) (n - 1) are.1 fewer

-- members of other names change nothing at a name
put_others : (ps : List Piece) (name : List ℕ) (ms : Members) → is_among name (names_in ps) ≡ false → get_member name (put_all ps ms) ≡ get_member name ms
put_others [] name ms e = refl
put_others (p ∷ ps) name ms e =
    let parts = or_parts (bytes_eq name p.0) (is_among name (names_in ps)) e in
    put_others ps name (put p.0 p.1.1 ms) parts.1 ∙ get_member-put_other name p.0 p.1.1 ms (λ same. apart_bytes name p.0 parts.0 (sym same))

first_same : (x y : List ℕ) (xs ys : List (List ℕ)) → x ∷ xs ≡ y ∷ ys → x ≡ y
first_same x y xs ys e = ap (λ l. get_or l 0 x) e

later_same : (x y : List ℕ) (xs ys : List (List ℕ)) → x ∷ xs ≡ y ∷ ys → xs ≡ ys
later_same x y xs ys e = ap (λ l. drop 1 l) e

found_all : (columns : List Column) (ps : List Piece) (ms : Members) → are_distinct (names_of columns) ≡ true → names_in ps ≡ names_of columns → found_in columns (put_all ps ms) ≡ data_in ps
found_all [] [] ms distinct same = refl
found_all [] (p ∷ ps) ms distinct same = absurd (omega (arith, ap length same))
found_all (c ∷ cs) [] ms distinct same = absurd (omega (arith, ap length same))
found_all (c ∷ cs) (p ∷ ps) ms distinct same =
    let first : p.0 ≡ c.name = first_same p.0 c.name (names_in ps) (names_of cs) same in
    let later : names_in ps ≡ names_of cs = later_same p.0 c.name (names_in ps) (names_of cs) same in
    let apart : is_among c.name (names_in ps) ≡ false = ap (is_among c.name) later ∙ none_later c cs distinct in
    ap₂ (λ x xs. x ∷ xs)
    (put_others ps c.name (put p.0 p.1.1 ms) apart ∙ ap (λ n. get_member c.name (put n p.1.1 ms)) first ∙ get_member-put c.name p.1.1 ms)
    (found_all cs ps (put p.0 p.1.1 ms) (distinct_later c cs distinct) later)

printable : (ps : List Piece) → ArePieces ps → ArePrintable (over ps)
unfolding ArePrintable
printable [] are = (tt, tt)
printable (p ∷ ps) are = (tt, (are.0.1, printable ps are.1))

all_printable : (ps : List Piece) → ArePieces ps → ArePrintable (Token.begin_object ∷ over ps)
unfolding ArePrintable
all_printable ps are = (tt, printable ps are)

closed : (c : Bool) → print_from c (Token.end_object ∷ []) ≡ 125 ∷ []
unfolding print_from
closed true = refl
closed false = refl

-- what is written of a text that was read to its end
plain_text : (columns : List Column) (message text : List ℕ) (values : List Cell) (rest : List ℕ) (are : ArePlain columns text values rest) → message ≡ 123 ∷ text → rest ≡ 125 ∷ []
    → message ≡ print (Token.begin_object ∷ tokens_of are.0) ++ 125 ∷ []
plain_text columns message text values rest are first ends = first ∙ are.3 ∙ ap (λ xs. print (Token.begin_object ∷ tokens_of are.0) ++ xs) ends

-- it is UTF-8
pub plain_utf8 : (columns : List Column) (message text : List ℕ) (values : List Cell) (rest : List ℕ) → message ≡ 123 ∷ text → ArePlain columns text values rest → rest ≡ 125 ∷ [] → is_utf8 message ≡ true
plain_utf8 columns message text values rest first are ends =
    let front = print (Token.begin_object ∷ tokens_of are.0) in
    is_utf8-from_IsUtf8 message (subst IsUtf8 (sym (plain_text columns message text values rest are first ends)) (IsUtf8-append front (125 ∷ []) are.4 (IsUtf8-are_ascii (125 ∷ []) refl)))

-- its row
pub plain_row : (columns : List Column) (message text : List ℕ) (values : List Cell) (rest : List ℕ) → are_distinct (names_of columns) ≡ true → message ≡ 123 ∷ text → ArePlain columns text values rest → rest ≡ 125 ∷ []
    → option_and_then (row_in columns) (read message) ≡ Some (record { values = values })
plain_row columns message text values rest distinct first are ends =
    let ps = are.0 in
    let front = Token.begin_object ∷ tokens_of ps in
    let ms = put_all ps no_members in
    let written : message ≡ print (Token.begin_object ∷ over ps) =
    plain_text columns message text values rest are first ends ∙ ap (λ xs. print front ++ xs) (sym (closed (after_value false front))) ∙ sym (print_from-append false front (Token.end_object ∷ [])) in
    let starts : tokens message ≡ Token.begin_object ∷ over ps = ap tokens written ∙ tokens-print (Token.begin_object ∷ over ps) (all_printable ps are.1) in
    let whole : read message ≡ Some (object ms) = flat_read message (over ps) ms starts (members_all ps no_members (length (over ps)) are.1 (omega arith)) in
    let cells = sym (cells_found columns ms) ∙ ap (cells_from columns) (found_all columns ps no_members distinct are.2) ∙ are.5 in
    ap (option_and_then (row_in columns)) whole ∙ ap (option_map (λ vs. record { values = vs })) cells
