-- How values are ordered: whole numbers by value, texts by their bytes, and false before true.
use Rattle.std.specs.Prelude.{ℕ, ℤ, pos, Bool, false, List, [], Option, Some, None}
use Rattle.std.specs.declared.cmp.Ordering.{Ordering}
use Rattle.std.specs.Ordering.{ordering_then, nat_cmp, int_cmp, bool_cmp}
use Rattle.std.specs.Cmp.Lexicographic.{slice_cmp}
use Rattle.rt_schema.specs.declared.value.Value.{Value}
use Rattle.rt_schema.specs.declared.value.Value.TheVariants.{Int, Long, Text, Bool as Truth, Time}
use Rattle.rt_model.specs.declared.query_parts.Literal.{Literal}
use Rattle.rt_model.specs.declared.query_parts.Literal.TheVariants as literal

-- the number that a value is, where it is one
abbrev pub number_of : Value → ℤ
number_of (Int number) = number
number_of (Long number) = number
number_of (Text text) = pos 0
number_of (Truth truth) = pos 0
number_of (Time millis) = millis

abbrev pub text_of : Value → List ℕ
text_of (Int number) = []
text_of (Long number) = []
text_of (Text text) = text
text_of (Truth truth) = []
text_of (Time millis) = []

abbrev pub truth_of : Value → Bool
truth_of (Int number) = false
truth_of (Long number) = false
truth_of (Text text) = false
truth_of (Truth truth) = truth
truth_of (Time millis) = false

abbrev pub rank : Value → ℕ
rank (Int number) = 0
rank (Long number) = 1
rank (Text text) = 2
rank (Truth truth) = 3
rank (Time millis) = 4

-- a value and another of its kind
abbrev pub cmp_within : Value → Value → Ordering
cmp_within (Int number) w = int_cmp number (number_of w)
cmp_within (Long number) w = int_cmp number (number_of w)
cmp_within (Text text) w = slice_cmp nat_cmp text (text_of w)
cmp_within (Truth truth) w = bool_cmp truth (truth_of w)
cmp_within (Time millis) w = int_cmp millis (number_of w)

-- values of one kind by their order, and of different kinds by the kinds
abbrev pub value_cmp : Value → Value → Ordering
value_cmp v w = ordering_then (nat_cmp (rank v) (rank w)) (cmp_within v w)

abbrev pub key_cmp : List Value → List Value → Ordering
key_cmp = slice_cmp value_cmp

abbrev pub number_against : ℤ → Literal → Option Ordering
number_against number (literal.Int l) = Some (int_cmp number l)
number_against number (literal.Text l) = None
number_against number (literal.Bool l) = None

abbrev pub text_against : List ℕ → Literal → Option Ordering
text_against text (literal.Int l) = None
text_against text (literal.Text l) = Some (slice_cmp nat_cmp text l)
text_against text (literal.Bool l) = None

abbrev pub truth_against : Bool → Literal → Option Ordering
truth_against truth (literal.Int l) = None
truth_against truth (literal.Text l) = None
truth_against truth (literal.Bool l) = Some (bool_cmp truth l)

-- how a value stands to a literal; none where the literal isn't of its kind
abbrev pub against : Value → Literal → Option Ordering
against (Int number) l = number_against number l
against (Long number) l = number_against number l
against (Text text) l = text_against text l
against (Truth truth) l = truth_against truth l
against (Time millis) l = number_against millis l
