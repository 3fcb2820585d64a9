-- The texts of a JSON value whose text is UTF-8 are UTF-8.
use Rattle.std.proofs.Common.{ℕ, zero, suc, ◌^◌, ◌≤◌, ◌==◌, ◌&&◌, Bool, true, false, List, [], ◌∷◌, length, drop, arith, leb-true, Option, Some, None, option_map, option_and_then, IsUtf8, Ordering, Less, Equal, Greater, nat_cmp}
use Rattle.std.specs.Prelude.{FitsSigned, IfSome, nat_le, nat_lt, slice_index}
use Rattle.std.specs.Int.{w64}
use Rattle.std.specs.Float.{binary64, float_is_finite}
use Rattle.std.proofs.lemmas.Bool.{and_parts}
use Rattle.fast_float.specs.Text.{Parts, digits_of, minus, nearest, scan, with_sign}
use Rattle.std.specs.Cmp.Lexicographic.{slice_cmp}
use Rattle.std.specs.Ordering.{match_ordering}
use Rattle.json.specs.Json as json
use Rattle.json.specs.Json.{Parse, parse_map, after_end_array, read_key, items_step, members_step, items, members, value_with, value, if_last}
use Rattle.json.specs.Lex.{tokens}
use Rattle.json.specs.Token.{Token}
use Rattle.serde_json.specs.Data.{Num, unsigned, negative, float, Data, null, boolean, number, string, array, object, Items, no_items, item, Members, no_members, member, put}
use Rattle.serde_json.specs.Find.{as_str, get, get_member}
use Rattle.serde_json.specs.Read.{float_of, is_integer, max_depth, number_from, number_of, of_json, of_items, of_members, read}
use Rattle.rt_made.proofs.Contents.{if_so}
use Rattle.rt_made.proofs.Tokens.{AreTexts, tokens_texts}

-- ---- what is read of tokens

abbrev mutual
  IsJson : json.Json → Type 0
  IsJson json.null = Unit {0}
  IsJson (json.boolean b) = Unit {0}
  IsJson (json.number s) = Unit {0}
  IsJson (json.string s) = IsUtf8 s
  IsJson (json.array js) = AreItems js
  IsJson (json.object ms) = AreMembers ms

  AreItems : json.Items → Type 0
  AreItems json.no_items = Unit {0}
  AreItems (json.item j js) = IsJson j × AreItems js

  AreMembers : json.Members → Type 0
  AreMembers json.no_members = Unit {0}
  AreMembers (json.member k j ms) = IsJson j × AreMembers ms

-- what is read is so, and so is what is left
abbrev Reads : {A : Type 0} → (A → Type 0) → Option (A × List Token) → Type 0
Reads P o = IfSome o (λ p. P p.0 × AreTexts p.1)

-- so it is of whatever is read
abbrev AllRead : {A : Type 0} → (A → Type 0) → Parse A → Type 0
AllRead P parse = (ts : List Token) → AreTexts ts → Reads P (parse ts)

mapped : {A B : Type 0} (P : A → Type 0) (Q : B → Type 0) (f : A → B) (o : Option (A × List Token)) → ((x : A) → P x → Q (f x)) → Reads P o → Reads Q (parse_map f o)
mapped P Q f None g h = tt
mapped P Q f (Some p) g h = (g p.0 h.0, h.1)

then_read : {A B : Type 0} (P : A → Type 0) (Q : B → Type 0) (f : A × List Token → Option (B × List Token)) (o : Option (A × List Token))
    → ((p : A × List Token) → P p.0 → AreTexts p.1 → Reads Q (f p)) → Reads P o → Reads Q (option_and_then f o)
then_read P Q f None g h = tt
then_read P Q f (Some p) g h = g p h.0 h.1

end_texts : (ts : List Token) → AreTexts ts → IfSome (after_end_array ts) AreTexts
end_texts [] h = tt
end_texts (Token.begin_object ∷ ts) h = tt
end_texts (Token.end_object ∷ ts) h = tt
end_texts (Token.begin_array ∷ ts) h = tt
end_texts (Token.end_array ∷ ts) h = h.1
end_texts (Token.key s ∷ ts) h = tt
end_texts (Token.string s ∷ ts) h = tt
end_texts (Token.number s ∷ ts) h = tt
end_texts (Token.boolean b ∷ ts) h = tt
end_texts (Token.null ∷ ts) h = tt
end_texts (Token.bad ∷ ts) h = tt

abbrev pub Whatever : {A : Type 0} → A → Type 0
Whatever x = Unit {0}

key_texts : AllRead Whatever read_key
key_texts [] h = tt
key_texts (Token.begin_object ∷ ts) h = tt
key_texts (Token.end_object ∷ ts) h = (tt, h.1)
key_texts (Token.begin_array ∷ ts) h = tt
key_texts (Token.end_array ∷ ts) h = tt
key_texts (Token.key s ∷ ts) h = (tt, h.1)
key_texts (Token.string s ∷ ts) h = tt
key_texts (Token.number s ∷ ts) h = tt
key_texts (Token.boolean b ∷ ts) h = tt
key_texts (Token.null ∷ ts) h = tt
key_texts (Token.bad ∷ ts) h = tt

module _ (v : Parse json.Json) (all : AllRead IsJson v) where
  item_texts : (more : Parse json.Items) (ts : List Token) (end : Option (List Token)) → AllRead AreItems more → AreTexts ts → IfSome end AreTexts
      → Reads AreItems (items_step v more ts end)
  item_texts more ts (Some rest) f h e = (tt, e)
  item_texts more ts None f h e =
      then_read IsJson AreItems (λ p. parse_map (json.item p.0) (more p.1)) (v ts)
      (λ p is rest. mapped AreItems AreItems (json.item p.0) (more p.1) (λ js are. (is, are)) (f p.1 rest)) (all ts h)

  items_texts : (fuel : ℕ) → AllRead AreItems (items v fuel)
  unfolding items
  items_texts zero ts h = tt
  items_texts (suc fuel) ts h = item_texts (items v fuel) ts (after_end_array ts) (items_texts fuel) h (end_texts ts h)

  member_texts : (more : Parse json.Members) (k : Option (List ℕ)) → AllRead AreMembers more → AllRead AreMembers (members_step v more k)
  member_texts more None f ts h = (tt, h)
  member_texts more (Some k) f ts h =
      then_read IsJson AreMembers (λ p. parse_map (json.member k p.0) (more p.1)) (v ts)
      (λ p is rest. mapped AreMembers AreMembers (json.member k p.0) (more p.1) (λ ms are. (is, are)) (f p.1 rest)) (all ts h)

  members_texts : (fuel : ℕ) → AllRead AreMembers (members v fuel)
  unfolding members
  members_texts zero ts h = tt
  members_texts (suc fuel) ts h =
      then_read Whatever AreMembers (λ p. members_step v (members v fuel) p.0 p.1) (read_key ts)
      (λ p _ rest. member_texts (members v fuel) p.0 (members_texts fuel) p.1 rest) (key_texts ts h)

value_texts : (a : Parse json.Items) (o : Parse json.Members) → AllRead AreItems a → AllRead AreMembers o → AllRead IsJson (value_with a o)
value_texts a o f g [] h = tt
value_texts a o f g (Token.begin_object ∷ ts) h = mapped AreMembers IsJson json.object (o ts) (λ ms are. are) (g ts h.1)
value_texts a o f g (Token.end_object ∷ ts) h = tt
value_texts a o f g (Token.begin_array ∷ ts) h = mapped AreItems IsJson json.array (a ts) (λ js are. are) (f ts h.1)
value_texts a o f g (Token.end_array ∷ ts) h = tt
value_texts a o f g (Token.key s ∷ ts) h = tt
value_texts a o f g (Token.string s ∷ ts) h = h
value_texts a o f g (Token.number s ∷ ts) h = h
value_texts a o f g (Token.boolean b ∷ ts) h = h
value_texts a o f g (Token.null ∷ ts) h = h
value_texts a o f g (Token.bad ∷ ts) h = tt

values_texts : (depth : ℕ) → AllRead IsJson (value depth)
unfolding value
values_texts zero ts h = value_texts (λ ts. None) (λ ts. None) (λ ts h. tt) (λ ts h. tt) ts h
values_texts (suc depth) ts h =
    value_texts (λ ts. items (value depth) (length ts) ts) (λ ts. members (value depth) (length ts) ts)
    (λ rest r. items_texts (value depth) (values_texts depth) (length rest) rest r) (λ rest r. members_texts (value depth) (values_texts depth) (length rest) rest r) ts h

last_text : (p : json.Json × List Token) → IsJson p.0 → IfSome (if_last p.0 p.1) IsJson
last_text (j, []) h = h
last_text (j, t ∷ ts) h = tt

pub then_some : {A B : Type 0} (P : A → Type 0) (Q : B → Type 0) (f : A → Option B) (o : Option A) → ((x : A) → P x → IfSome (f x) Q) → IfSome o P → IfSome (option_and_then f o) Q
then_some P Q f None g h = tt
then_some P Q f (Some x) g h = g x h

-- ---- what is made of it

-- a number below zero is one of 64 bits
abbrev pub IsNum : Num → Type 0
IsNum (unsigned n) = Unit {0}
IsNum (negative z) = FitsSigned w64 z
IsNum (float x) = Unit {0}

negative_fits : (n : ℕ) → n ≤ 2 ^ 63 → FitsSigned w64 (with_sign true n)
negative_fits zero h = record { sfits = omega arith }
negative_fits (suc n) h = record { sfits = omega (arith, h) }

float_num : (sign : Bool) (p : Parts) → IfSome (float_of sign p) IsNum
float_num sign p = if_so (λ o. IfSome o IsNum) (float_is_finite (nearest binary64 sign p)) _ _ (λ _. tt) (λ _. tt)

number_num : (sign : Bool) (p : Parts) → IfSome (number_from sign p) IsNum
number_num false p = if_so (λ o. IfSome o IsNum) (is_integer p && nat_lt (digits_of p) (2 ^ 64)) _ _ (λ _. tt) (λ _. float_num false p)
number_num true p =
    let fits = nat_le (digits_of p) (2 ^ 63) in
    if_so (λ o. IfSome o IsNum) (is_integer p && nat_lt 0 (digits_of p) && fits) _ _
    (λ e. negative_fits (digits_of p) (leb-true (digits_of p) (2 ^ 63) (and_parts (is_integer p && nat_lt 0 (digits_of p)) fits e).1)) (λ _. float_num true p)

read_num : (s : List ℕ) → IfSome (number_of s) IsNum
unfolding number_of
read_num s = if_so (λ o. IfSome o IsNum) (slice_index s 0 == minus) _ _ (λ _. number_num true (scan (drop 1 s))) (λ _. number_num false (scan s))

abbrev mutual
  pub IsData : Data → Type 0
  IsData null = Unit {0}
  IsData (boolean b) = Unit {0}
  IsData (number n) = IsNum n
  IsData (string s) = IsUtf8 s
  IsData (array ds) = AreDatas ds
  IsData (object ms) = HasDatas ms

  pub AreDatas : Items → Type 0
  AreDatas no_items = Unit {0}
  AreDatas (item d ds) = IsData d × AreDatas ds

  pub HasDatas : Members → Type 0
  HasDatas no_members = Unit {0}
  HasDatas (member k d ms) = IsData d × HasDatas ms

pub any : {A : Type 0} (o : Option A) → IfSome o Whatever
any None = tt
any (Some x) = tt

pub map_some : {A B : Type 0} (P : A → Type 0) (Q : B → Type 0) (f : A → B) (o : Option A) → ((x : A) → P x → Q (f x)) → IfSome o P → IfSome (option_map f o) Q
map_some P Q f None g h = tt
map_some P Q f (Some x) g h = g x h

ordered_datas : (o : Ordering) (x y z : Members) → HasDatas x → HasDatas y → HasDatas z → HasDatas (match_ordering o x y z)
ordered_datas Less x y z a b c = a
ordered_datas Equal x y z a b c = b
ordered_datas Greater x y z a b c = c

put_datas : (k : List ℕ) (d : Data) (ms : Members) → IsData d → HasDatas ms → HasDatas (put k d ms)
put_datas k d no_members h r = (h, tt)
put_datas k d (member l e ms) h r = ordered_datas (slice_cmp nat_cmp k l) _ _ _ (h, r) (h, r.1) (r.0, put_datas k d ms h r.1)

mutual
  json_data : (j : json.Json) → IsJson j → IfSome (of_json j) IsData
  json_data json.null h = tt
  json_data (json.boolean b) h = tt
  json_data (json.number s) h = map_some IsNum IsData number (number_of s) (λ n is. is) (read_num s)
  json_data (json.string s) h = h
  json_data (json.array js) h = map_some AreDatas IsData array (of_items js) (λ ds are. are) (items_data js h)
  json_data (json.object ms) h = map_some HasDatas IsData object (of_members ms no_members) (λ ms have. have) (members_data ms no_members h tt)

  items_data : (js : json.Items) → AreItems js → IfSome (of_items js) AreDatas
  items_data json.no_items h = tt
  items_data (json.item j js) h =
      then_some IsData AreDatas (λ d. option_map (item d) (of_items js)) (of_json j) (λ d is. map_some AreDatas AreDatas (item d) (of_items js) (λ ds are. (is, are)) (items_data js h.1))
      (json_data j h.0)

  members_data : (ms : json.Members) (found : Members) → AreMembers ms → HasDatas found → IfSome (of_members ms found) HasDatas
  members_data json.no_members found h r = r
  members_data (json.member k j ms) found h r =
      then_some IsData HasDatas (λ d. of_members ms (put k d found)) (of_json j) (λ d is. members_data ms (put k d found) h.1 (put_datas k d found is r)) (json_data j h.0)

pub read_texts : (text : List ℕ) → IsUtf8 text → IfSome (read text) IsData
read_texts text u =
    let given : IfSome (option_and_then (λ p. if_last p.0 p.1) (value max_depth (tokens text))) IsJson =
    then_some (λ p. IsJson p.0 × AreTexts p.1) IsJson (λ p. if_last p.0 p.1) (value max_depth (tokens text)) (λ p h. last_text p h.0)
    (values_texts max_depth (tokens text) (tokens_texts text u)) in
    then_some IsJson IsData of_json (option_and_then (λ p. if_last p.0 p.1) (value max_depth (tokens text))) json_data given

-- ---- what is found in it

found_data : (o : Ordering) (x y z : Option Data) → IfSome x IsData → IfSome y IsData → IfSome z IsData → IfSome (match_ordering o x y z) IsData
found_data Less x y z a b c = a
found_data Equal x y z a b c = b
found_data Greater x y z a b c = c

pub member_data : (k : List ℕ) (ms : Members) → HasDatas ms → IfSome (get_member k ms) IsData
member_data k no_members h = tt
member_data k (member l e ms) h = found_data (slice_cmp nat_cmp k l) (get_member k ms) (Some e) (get_member k ms) (member_data k ms h.1) h.0 (member_data k ms h.1)

pub get_data : (k : List ℕ) (d : Data) → IsData d → IfSome (get k d) IsData
get_data k null h = tt
get_data k (boolean b) h = tt
get_data k (number n) h = tt
get_data k (string s) h = tt
get_data k (array ds) h = tt
get_data k (object ms) h = member_data k ms h

pub str_utf8 : (d : Data) → IsData d → IfSome (as_str d) IsUtf8
str_utf8 null h = tt
str_utf8 (boolean b) h = tt
str_utf8 (number n) h = tt
str_utf8 (string s) h = h
str_utf8 (array ds) h = tt
str_utf8 (object ms) h = tt
