-- The messages of a range, and their rows with their offsets.
use Rattle.std.proofs.Common.{◌≡◌, ◌+◌, ◌-◌, ◌≤◌, ◌<◌, ℕ, suc, Bool, true, false, cond, nat_lt, List, [], ◌∷◌, ◌++◌, length, map, take, drop, filter, Option, Some, None, refl, ap, sym, ◌∙◌, add-zero, append-nil, arith, lt_of_not-le}
use mathlib.Core.Logic.{dite}
use native.Mathlib.Decide.{dec_le}
use Rattle.std.specs.List.{filter_map, cons_option}
use Rattle.std.proofs.lemmas.Bool.{cond-true, lt-ltb}
use Rattle.std.proofs.lemmas.List.{length-drop, length-take-le, append_assoc, drop-drop, drop-append-le, take-append-le}
use Rattle.std.proofs.Math.Seq.{take-add}
use Rattle.rt_base.specs.declared.numbers.Offset.{Offset}
use Rattle.rt_schema.specs.declared.row.Row.{Row}
use Rattle.rt_schema.specs.declared.schema.Schema.{Schema}
use Rattle.rt_schema.specs.Row.{row_of}
use Rattle.rt_mutable.specs.Consuming.{Consuming, Placed, after_message, is_before}
use Rattle.rt_consumer.specs.Batch.{filled}
use Rattle.rt_replica.specs.Held.{placed_from, placed_row, messages_between}

-- the messages of two ranges that meet
pub between_append : (ms : List (List ℕ)) (a b c : ℕ) → a ≤ b → b ≤ c → messages_between ms a c ≡ messages_between ms a b ++ messages_between ms b c
between_append ms a b c h k =
    ap (λ n. take n (drop a ms)) (omega (arith, h, k))
    ∙ take-add (b - a) (c - b) (drop a ms)
    ∙ ap (λ rest. take (b - a) (drop a ms) ++ take (c - b) rest)
    (drop-drop (b - a) a ms ∙ ap (λ n. drop n ms) (omega (arith, h)))

pub length_between : (ms : List (List ℕ)) (a b : ℕ) → a ≤ b → b ≤ a + (length ms - a) → length (messages_between ms a b) ≡ b - a
length_between ms a b h k = length-take-le (b - a) (drop a ms) (omega (arith, h, k, length-drop a ms))

-- a range stays as it is when messages come behind it
pub between_more : (ms more : List (List ℕ)) (a b : ℕ) → a ≤ b → b ≤ a + (length ms - a) → messages_between (ms ++ more) a b ≡ messages_between ms a b
between_more ms more a b h k = dite (dec_le a (length ms)) inside past
  where
    inside : a ≤ length ms → messages_between (ms ++ more) a b ≡ messages_between ms a b
    inside le =
        ap (take (b - a)) (drop-append-le a ms more le)
        ∙ take-append-le (b - a) (drop a ms) more (omega (arith, h, k, le, length-drop a ms))

    past : (a ≤ length ms → ⊥) → messages_between (ms ++ more) a b ≡ messages_between ms a b
    past not =
        let none : b - a ≡ 0 = (let lt = lt_of_not-le not in omega (arith, h, k, lt)) in
        ap (λ n. take n (drop a (ms ++ more))) none ∙ sym (ap (λ n. take n (drop a ms)) none)

-- the rows of two lists of messages, one after the other
pub placed_append : (schema : Schema) (offset : ℕ) (ms ns : List (List ℕ)) → placed_from schema offset (ms ++ ns) ≡ placed_from schema offset ms ++ placed_from schema (offset + length ms) ns
placed_append schema offset [] ns = ap (λ k. placed_from schema k ns) (sym (add-zero offset))
placed_append schema offset (m ∷ ms) ns =
    let first = placed_row offset (row_of schema m) in
    ap (λ rest. first ++ rest)
    (placed_append schema (offset + 1) ms ns
    ∙ ap (λ k. placed_from schema (offset + 1) ms ++ placed_from schema k ns) (omega arith))
    ∙ sym (append_assoc first (placed_from schema (offset + 1) ms) (placed_from schema (offset + length (m ∷ ms)) ns))

-- the rows of messages, without their offsets
rows_placed_at : (o : Option Row) (offset : ℕ) (placed : List Placed) (rows : List Row) → map (λ p. p.row) placed ≡ rows → map (λ p. p.row) (placed_row offset o ++ placed) ≡ cons_option o rows
rows_placed_at None offset placed rows e = e
rows_placed_at (Some row) offset placed rows e = ap (λ rs. row ∷ rs) e

pub rows_placed : (schema : Schema) (offset : ℕ) (ms : List (List ℕ)) → map (λ p. p.row) (placed_from schema offset ms) ≡ filter_map (row_of schema) ms
rows_placed schema offset [] = refl
rows_placed schema offset (m ∷ ms) =
    rows_placed_at (row_of schema m) offset (placed_from schema (offset + 1) ms) (filter_map (row_of schema) ms) (rows_placed schema (offset + 1) ms)

-- rows of messages before an offset are before it
before_at : (end : Offset) (o : Option Row) (offset : ℕ) (placed : List Placed) → offset < end.0 → filter (is_before end) placed ≡ placed → filter (is_before end) (placed_row offset o ++ placed) ≡ placed_row offset o ++ placed
before_at end None offset placed lt e = e
before_at end (Some row) offset placed lt e =
    let here : Placed = record { offset = record { 0 = offset }; row = row } in
    cond-true _ _ _ (lt-ltb _ _ lt) ∙ ap (λ ps. here ∷ ps) e

pub all_before : (end : Offset) (schema : Schema) (offset : ℕ) (ms : List (List ℕ)) → offset + length ms ≤ end.0 → filter (is_before end) (placed_from schema offset ms) ≡ placed_from schema offset ms
all_before end schema offset [] le = refl
all_before end schema offset (m ∷ ms) le =
    before_at end (row_of schema m) offset (placed_from schema (offset + 1) ms) (omega (arith, le)) (all_before end schema (offset + 1) ms (omega (arith, le)))

-- how many messages a batch takes, and the rows that they give
pub record Takes (schema : Schema) (rows new : Consuming) (ms : List (List ℕ)) : Type 0 where
  pub count : ℕ
  pub most : count ≤ length ms
  pub end : new.end.0 ≡ rows.end.0 + count
  pub placed : new.rows ≡ rows.rows ++ placed_from schema rows.end.0 (take count ms)

one_more : (rows : Consuming) (o : Option Row) → (after_message rows o).rows ≡ rows.rows ++ placed_row rows.end.0 o
one_more rows None = sym (append-nil rows.rows)
one_more rows (Some row) = refl

one_further : (rows : Consuming) (o : Option Row) → (after_message rows o).end.0 ≡ rows.end.0 + 1
one_further rows None = refl
one_further rows (Some row) = refl

takes_none : (schema : Schema) (rows : Consuming) (ms : List (List ℕ)) → Takes schema rows rows ms
takes_none schema rows ms = record { count = 0; most = omega arith; end = omega arith; placed = sym (append-nil rows.rows) }

takes_at : (schema : Schema) (b : Bool) (rows last : Consuming) (m : List ℕ) (ms : List (List ℕ)) → Takes schema (after_message rows (row_of schema m)) last ms → Takes schema rows (cond b last rows) (m ∷ ms)
takes_at schema false rows last m ms t = takes_none schema rows (m ∷ ms)
takes_at schema true rows last m ms t =
    let next = after_message rows (row_of schema m) in
    let first = placed_row rows.end.0 (row_of schema m) in
    record {
      count = suc t.count;
      most = omega (arith, t.most);
      end = omega (arith, t.end, one_further rows (row_of schema m));
      placed = t.placed
          ∙ ap (λ ps. ps ++ placed_from schema next.end.0 (take t.count ms)) (one_more rows (row_of schema m))
          ∙ ap (λ n. (rows.rows ++ first) ++ placed_from schema n (take t.count ms)) (one_further rows (row_of schema m))
          ∙ append_assoc rows.rows first (placed_from schema (rows.end.0 + 1) (take t.count ms));
    }

pub filled_takes : (schema : Schema) (limit : ℕ) (rows : Consuming) (ms : List (List ℕ)) → Takes schema rows (filled schema limit rows ms) ms
filled_takes schema limit rows [] = takes_none schema rows []
filled_takes schema limit rows (m ∷ ms) =
    takes_at schema (nat_lt (length rows.rows) limit) rows (filled schema limit (after_message rows (row_of schema m)) ms) m ms
    (filled_takes schema limit (after_message rows (row_of schema m)) ms)
