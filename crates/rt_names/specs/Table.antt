-- Names of tables.
use Rattle.std.specs.Prelude.{◌≡◌, ℕ, Bool, true, ◌&&◌, ◌||◌, ◌==◌, nat_le, List, [], ◌∷◌, length}
use Rattle.std.specs.Char.{is_ascii_alphanumeric}
use Rattle.rt_base.specs.declared.limits.TheConstants.{LONGEST_NAME}

-- a letter or a digit of ASCII, `_` or `-`
abbrev pub is_table_byte : ℕ → Bool
is_table_byte byte = is_ascii_alphanumeric byte || (byte == 95) || (byte == 45)

abbrev pub are_table_bytes : List ℕ → Bool
are_table_bytes [] = true
are_table_bytes (byte ∷ bytes) = is_table_byte byte && are_table_bytes bytes

-- whether a table can have this name: such bytes, from one to as many as a name has at most
abbrev pub is_table_name : List ℕ → Bool
is_table_name name = nat_le 1 (length name) && nat_le (length name) LONGEST_NAME && are_table_bytes name

abbrev pub IsTableName : List ℕ → Type 0
IsTableName name = is_table_name name ≡ true
