-- Offsets that a replica can come to: a batch leads to such ones, and so they stay as the log grows.
use Rattle.std.proofs.Common.{◌≡◌, ℕ, zero, suc, ◌+◌, ◌-◌, ◌<◌, ◌≤◌, ◌⊎◌, inl, inr, Bool, true, false, cond, nat_lt, List, [], ◌∷◌, ◌++◌, Option, Some, None, length, map, take, drop, refl, sym, ◌∙◌, ap, subst, arith}
use Rattle.std.specs.List.{filter_map, cons_option}
use Rattle.std.proofs.lemmas.Bool.{ltb-true}
use Rattle.std.proofs.lemmas.List.{length-append, length-drop, length-map, length-take, take-take}
use Rattle.std.proofs.lemmas.List.Elements.{filter_map-append}
use Rattle.rt_base.specs.declared.limits.TheConstants.{MOST_ROWS}
use Rattle.rt_base.specs.declared.numbers.Offset.{Offset}
use Rattle.rt_base.specs.declared.numbers.Partition.{Partition}
use Rattle.rt_base.specs.declared.numbers.Sequence.{Sequence}
use Rattle.rt_consumer.specs.Batch.{filled}
use Rattle.rt_model.specs.declared.setup.Setup.{Setup}
use Rattle.rt_mutable.specs.Consuming.{after_message, Consuming, Placed}
use Rattle.rt_past.specs.Past.{Grows, Past}
use Rattle.rt_past.proofs.Growth.{begun_grows, length_grows, rows_grow}
use Rattle.rt_replica.specs.Held.{messages_between, HoldsRows}
use Rattle.rt_replica.proofs.Places.{between_append, rows_placed}
use Rattle.rt_schema.specs.Row.{row_of, rows_in}
use Rattle.rt_schema.specs.declared.row.Row.{Row}
use Rattle.rt_schema.specs.declared.schema.Schema.{Schema}
use Rattle.rt_stream.specs.Feed.{Grows as GrowsLog}
use Rattle.rt_stream.specs.Log.{messages_of, Log}
use Rattle.rt_heal.specs.Reachable.{ComesTo, IsReachable}

-- ---- rows of messages

row_more : (o : Option Row) (a b : List Row) → length a ≤ length b → length (cons_option o a) ≤ length (cons_option o b)
row_more None a b le = le
row_more (Some row) a b le = omega (arith, le)

-- fewer messages have no more rows
few_rows : (schema : Schema) (ms : List (List ℕ)) (a b : ℕ) → a ≤ b → length (filter_map (row_of schema) (take a ms)) ≤ length (filter_map (row_of schema) (take b ms))
few_rows schema ms zero b le = omega arith
few_rows schema [] (suc a) b le = omega arith
few_rows schema (m ∷ ms) (suc a) zero le = absurd (omega (arith, le))
few_rows schema (m ∷ ms) (suc a) (suc b) le =
    row_more (row_of schema m) (filter_map (row_of schema) (take a ms)) (filter_map (row_of schema) (take b ms)) (few_rows schema ms a b (omega (arith, le)))

pub rows_least : (schema : Schema) (ms : List (List ℕ)) (start a b : ℕ) → a ≤ b → length (rows_in schema ms start a) ≤ length (rows_in schema ms start b)
rows_least schema ms start a b le = few_rows schema (drop start ms) (a - start) (b - start) (omega (arith, le))

-- what is held are the rows from the start on
pub held_rows : (schema : Schema) (ms : List (List ℕ)) (start : Offset) (rows : Consuming) → HoldsRows schema ms start rows
    → length rows.rows ≡ length (rows_in schema ms start.0 rows.end.0)
held_rows schema ms start rows h =
    sym (length-map rows.rows (λ (p : Placed). p.row))
    ∙ ap (λ (ps : List Placed). length (map (λ (p : Placed). p.row) ps)) h.all
    ∙ ap (λ (rs : List Row). length rs) (rows_placed schema start.0 (messages_between ms start.0 rows.end.0))

-- ---- a message

pub message_end : (rows : Consuming) (row : Option Row) → (after_message rows row).end.0 ≡ rows.end.0 + 1
message_end rows None = refl
message_end rows (Some row) = refl

message_rows : (rows : Consuming) (o : Option Row) (rest : List Row) → length (after_message rows o).rows + length rest ≡ length rows.rows + length (cons_option o rest)
message_rows rows None rest = refl
message_rows rows (Some row) rest =
    let more : Placed = record { offset = rows.end; row = row } in omega (arith, length-append rows.rows (more ∷ []))

-- the last message of a batch, for which there was room
record TakesLast (schema : Schema) (limit : ℕ) (rows new : Consuming) (ms : List (List ℕ)) : Type 0 where
  before : ℕ
  below : before < length ms
  end : new.end.0 ≡ (rows.end.0 + before) + 1
  room : length rows.rows + length (filter_map (row_of schema) (take before ms)) < limit

filled_last : (schema : Schema) (limit : ℕ) (rows : Consuming) (ms : List (List ℕ))
    → (filled schema limit rows ms ≡ rows) ⊎ TakesLast schema limit rows (filled schema limit rows ms) ms
filled_last schema limit rows [] = inl refl
filled_last schema limit rows (m ∷ ms) = by_test (nat_lt (length rows.rows) limit) refl (filled_last schema limit next ms)
  where
    next : Consuming
    next = after_message rows (row_of schema m)

    new : Consuming
    new = filled schema limit next ms

    by_last : nat_lt (length rows.rows) limit ≡ true → (new ≡ next) ⊎ TakesLast schema limit next new ms → TakesLast schema limit rows new (m ∷ ms)
    by_last room (inl same) =
        record {
          before = 0;
          below = omega arith;
          end = omega (arith, ap (λ (x : Consuming). x.end.0) same, message_end rows (row_of schema m));
          room = omega (arith, ltb-true (length rows.rows) limit room);
        }
    by_last room (inr k) =
        record {
          before = suc k.before;
          below = omega (arith, k.below);
          end = omega (arith, k.end, message_end rows (row_of schema m));
          room = omega (arith, k.room, message_rows rows (row_of schema m) (filter_map (row_of schema) (take k.before ms)));
        }

    by_test : (b : Bool) → nat_lt (length rows.rows) limit ≡ b → (new ≡ next) ⊎ TakesLast schema limit next new ms
        → (cond b new rows ≡ rows) ⊎ TakesLast schema limit rows (cond b new rows) (m ∷ ms)
    by_test false e k = inl refl
    by_test true e k = inr (by_last e k)

-- ---- a batch

-- it stays where it was, or leads to where a replica can come
pub filled_reaches : (schema : Schema) (limit count : ℕ) (ms : List (List ℕ)) (start : Offset) (rows : Consuming) → limit ≤ MOST_ROWS → HoldsRows schema ms start rows
    → ((filled schema limit rows (take count (drop rows.end.0 ms))).end ≡ rows.end)
    ⊎ IsReachable schema ms start (filled schema limit rows (take count (drop rows.end.0 ms))).end
filled_reaches schema limit count ms start rows few h = by_last (filled_last schema limit rows batch)
  where
    batch : List (List ℕ)
    batch = take count (drop rows.end.0 ms)

    new : Consuming
    new = filled schema limit rows batch

    by_last : (new ≡ rows) ⊎ TakesLast schema limit rows new batch → (new.end ≡ rows.end) ⊎ IsReachable schema ms start new.end
    by_last (inl same) = inl (ap (λ (x : Consuming). x.end) same)
    by_last (inr k) =
        let last : ℕ = rows.end.0 + k.before in
        let small : k.before ≤ count = omega (arith, k.below, length-take count (drop rows.end.0 ms)) in
        let first : List Row = filter_map (row_of schema) (messages_between ms start.0 rows.end.0) in
        let rest : List Row = filter_map (row_of schema) (messages_between ms rows.end.0 last) in
        let parts : rows_in schema ms start.0 last ≡ first ++ rest =
        ap (filter_map (row_of schema)) (between_append ms start.0 rows.end.0 last h.ordered (omega arith))
        ∙ filter_map-append (row_of schema) (messages_between ms start.0 rows.end.0) (messages_between ms rows.end.0 last) in
        let taken : take k.before batch ≡ messages_between ms rows.end.0 last =
        take-take k.before count (drop rows.end.0 ms) small ∙ ap (λ (n : ℕ). take n (drop rows.end.0 ms)) (omega arith) in
        let same : length (filter_map (row_of schema) (take k.before batch)) ≡ length rest =
        ap (λ (xs : List (List ℕ)). length (filter_map (row_of schema) xs)) taken in
        let all : length (rows_in schema ms start.0 last) < MOST_ROWS =
        omega (
          arith,
          few,
          k.room,
          same,
          held_rows schema ms start rows h,
          length-append first rest,
          ap (λ (rs : List Row). length rs) parts,
        ) in
        inr (record {
          within = omega (arith, k.end, k.below, h.within, length-take count (drop rows.end.0 ms), length-drop rows.end.0 ms);
          room =
              subst (λ (n : ℕ). length (rows_in schema ms start.0 n) < MOST_ROWS)
              (let end : last ≡ new.end.0 - 1 = omega (arith, k.end) in end) all;
        })

-- ---- a past that grows

reachable_grows : (schema : Schema) (a b : Log) (p : Partition) (start x : Offset) → GrowsLog a b → start.0 < x.0
    → IsReachable schema (messages_of a p) start x → IsReachable schema (messages_of b p) start x
reachable_grows schema a b p start x g past k =
    record {
      within = omega (arith, k.within, length_grows a b p g);
      room =
          subst (λ (rs : List Row). length rs < MOST_ROWS)
          (sym (rows_grow schema a b p start.0 (x.0 - 1) g (omega (arith, past)) (omega (arith, k.within)))) k.room;
    }

pub comes_grows : (setup : Setup) (a b : Past) (p : Partition) (q : Sequence) (x : Offset) → Grows a b → ComesTo setup a p q x → ComesTo setup b p q x
comes_grows setup a b p q x g k =
    record {
      start = k.start;
      begun = begun_grows a.history b.history p q k.start g.history k.begun;
      reaches = λ past. reachable_grows setup.schema a.log b.log p k.start x g.log past (k.reaches past);
    }
