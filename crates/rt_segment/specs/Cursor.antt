-- Reading bytes from left to right, with the first fault that is met.
use Rattle.std.specs.Prelude.{◌≡◌, ℕ, ◌+◌, List, length, take, drop, Result, Ok, Err, nat_lt, if◌then◌else◌, slice_index}
use Rattle.std.specs.Int.{Width, byte_len, from_be_bytes}
use Rattle.rt_segment.specs.declared.segment_refused.SegmentRefused.{SegmentRefused}
use Rattle.rt_segment.specs.declared.segment_refused.SegmentRefused.TheVariants.{Truncated, Magic, NotCanonical, Digest, Limit, Memory}

-- the bytes that are left of a file, and the place of the first of them
pub record Cursor : Type 0 where
  pub place : ℕ
  pub left : List ℕ

-- what is read, and where reading goes on; or the first fault
abbrev pub Read : Type 0 → Type 0
Read X = Result (X × Cursor) SegmentRefused

infixl 10 ◌>>=◌
abbrev pub ◌>>=◌ : {A B : Type 0} → Result A SegmentRefused → (A → Result B SegmentRefused) → Result B SegmentRefused
(Ok x) >>= f = f x
(Err e) >>= f = Err e

-- a fault at the first byte that is left
abbrev pub breach : {A : Type 0} → Cursor → Result A SegmentRefused
breach c = Err (NotCanonical c.place)

-- a call refused a fault by reading, or memory ran out
abbrev pub Refuses : {Y : Type 0} → SegmentRefused → Result Y SegmentRefused → Type 0
Refuses Memory read = Unit {0}
Refuses Truncated read = read ≡ Err Truncated
Refuses Magic read = read ≡ Err Magic
Refuses (NotCanonical byte) read = read ≡ Err (NotCanonical byte)
Refuses Digest read = read ≡ Err Digest
Refuses Limit read = read ≡ Err Limit

-- what a call gave is what is read, unless memory ran out
abbrev pub Answers : {X Y : Type 0} → (X → Y) → Result X SegmentRefused → Result Y SegmentRefused → Type 0
Answers view (Ok x) read = read ≡ Ok (view x)
Answers view (Err e) read = Refuses e read

-- what a call gave and where its cursor stands are what is read, unless memory ran out
abbrev pub Gives : {X Y : Type 0} → (X → Y) → Result X SegmentRefused → Cursor → Read Y → Type 0
Gives view (Ok x) after read = read ≡ Ok (view x, after)
Gives view (Err e) after read = Refuses e read

abbrev pub bytes_at : ℕ → Cursor → Read (List ℕ)
bytes_at n c = if nat_lt (length c.left) n then Err Truncated else Ok (take n c.left, record { place = c.place + n; left = drop n c.left })

abbrev pub number_at : Width → Cursor → Read ℕ
number_at w c = bytes_at (byte_len w) c >>= λ b. Ok (from_be_bytes w b.0, b.1)

abbrev pub byte_in : Cursor → Read ℕ
byte_in c = bytes_at 1 c >>= λ b. Ok (slice_index b.0 0, b.1)
