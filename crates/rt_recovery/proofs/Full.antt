-- Replicas that have as many rows as a segment has: a batch ends there, and of one segment all have the same end.
use Rattle.std.proofs.Common.{◌≡◌, ◌⊎◌, inl, inr, ℕ, zero, suc, ◌+◌, ◌-◌, ◌<◌, ◌≤◌, ◌++◌, Bool, true, false, cond, nat_lt, length, take, drop, List, [], ◌∷◌, Option, Some, None, refl, sym, ◌∙◌, ap, subst, arith, slice_get}
use Rattle.std.specs.List.{cons_option, filter_map}
use Rattle.std.proofs.lemmas.Bool.{cases_lt, ltb-true}
use Rattle.std.proofs.lemmas.List.{append-nil, length-append, length-take, length_push, take-take}
use Rattle.std.proofs.lemmas.List.Elements.{filter_map-append}
use Rattle.rt_base.specs.declared.numbers.Offset.{Offset}
use Rattle.rt_base.specs.declared.numbers.Partition.{Partition}
use Rattle.rt_consumer.specs.Batch.{filled}
use Rattle.rt_consumer.specs.declared.consumer.Consumer.{Consumer}
use Rattle.rt_entry.specs.declared.entry.Entry.TheVariants.{Replica}
use Rattle.rt_lists.specs.Members.{Has}
use Rattle.rt_mutable.specs.Consuming.{after_message, Consuming, Placed}
use Rattle.rt_nodes.specs.declared.server_node.ServerNode.{ServerNode}
use Rattle.rt_past.specs.Segments.{IsBegun}
use Rattle.rt_replica.specs.Held.{messages_between, placed_from, HoldsRows}
use Rattle.rt_replica.proofs.Answered.{one_start}
use Rattle.rt_replica.proofs.Batches.{one_further}
use Rattle.rt_replica.proofs.Places.{between_append, filled_takes, Takes}
use Rattle.rt_schema.specs.Row.{row_of, rows_in}
use Rattle.rt_schema.specs.declared.row.Row.{Row}
use Rattle.rt_schema.specs.declared.schema.Schema.{Schema}
use Rattle.rt_server.specs.Table.{Segment}
use Rattle.rt_server.proofs.LastingTables.{at}
use Rattle.rt_state.specs.IsSafe.{past_of}
use Rattle.rt_state.specs.IsSafeWorld.{IsSafeWorld}
use Rattle.rt_state.specs.declared.state.State.{State}
use Rattle.rt_stream.specs.Log.{messages_of}
use Rattle.rt_heal.proofs.Reaching.{held_rows, rows_least}
use Rattle.rt_recovery.specs.ByRows.{rows_to, IsFull}

-- ---- two of one segment

-- no offset at which there are fewer rows than at another lies behind that
pub first_full : (f : ℕ → ℕ) (limit x y : ℕ) → ((a b : ℕ) → a ≤ b → f a ≤ f b) → limit ≤ f x → f (y - 1) < limit → y ≤ x
first_full f limit x y grows full short = by_order (cases_lt x y)
  where
    by_order : (x < y) ⊎ (y ≤ x) → y ≤ x
    by_order (inl lt) = absurd (omega (arith, full, short, grows x (y - 1) (omega (arith, lt))))
    by_order (inr le) = le

module _ (w : State) (safe : IsSafeWorld w) (s : Segment) where
  -- the replicas of a segment are of its partition, and begin at one offset
  record Begins (r : Consumer) : Type 0 where
    partition : r.partition ≡ s.0
    within : s.0.0 < w.setup.partitions
    begun : IsBegun w.store.writes s.0 s.1 r.start

  begins : (i : ℕ) (n : ServerNode) (r : Consumer) → slice_get w.servers i ≡ Some n → Has n.server.table.entries (at s (Replica r)) → Begins r
  begins i n r there has =
      let over = (safe.safe.servers i n there).over.entries (at s (Replica r)) has in
      record {
        partition = ap (λ (x : Segment). x.0) over.0;
        within = subst (λ (x : Segment). x.0.0 < w.setup.partitions) over.0 over.1.partition;
        begun = subst (λ (x : Segment). IsBegun w.store.writes x.0 x.1 r.start) over.0 over.1.begun;
      }

  pub full_alike : (i j : ℕ) (n m : ServerNode) (r q : Consumer) (x y : Offset) → slice_get w.servers i ≡ Some n → slice_get w.servers j ≡ Some m
      → Has n.server.table.entries (at s (Replica r)) → Has m.server.table.entries (at s (Replica q)) → IsFull w r x → IsFull w q y → x ≡ y
  full_alike i j n m r q x y here there has also full full_also =
      let a = begins i n r here has in
      let b = begins j m q there also in
      let start : q.start ≡ r.start = one_start w.setup (past_of w) s.0 s.1 q.start r.start safe.safe.past a.within b.begun a.begun in
      let rows : (z : ℕ) → rows_to w q z ≡ rows_to w r z =
      λ z.
      ap (λ (p : Partition). length (rows_in w.setup.schema (messages_of w.log p) q.start.0 z)) (b.partition ∙ sym a.partition)
      ∙ ap (λ (o : Offset). length (rows_in w.setup.schema (messages_of w.log r.partition) o.0 z)) start in
      let least : (c d : ℕ) → c ≤ d → rows_to w r c ≤ rows_to w r d = rows_least w.setup.schema (messages_of w.log r.partition) r.start.0 in
      let first = first_full (rows_to w r) w.setup.table.rows x.0 y.0 least full.full (omega (arith, full_also.short, rows (y.0 - 1))) in
      let second = first_full (rows_to w r) w.setup.table.rows y.0 x.0 least (omega (arith, full_also.full, rows y.0)) full.short in
      ap (λ (n : ℕ). record { 0 = n }) (let same : x.0 ≡ y.0 = omega (arith, first, second) in same)

-- ---- a batch

module _ (schema : Schema) (limit : ℕ) where
  row_more : (rows : Consuming) (o : Option Row) (rest : List Row)
      → length (after_message rows o).rows + length rest ≡ length rows.rows + length (cons_option o rest)
  row_more rows None rest = refl
  row_more rows (Some row) rest =
      let more : Placed = record { offset = rows.end; row = row } in omega (arith, length_push rows.rows more)

  -- before its last message there was room for a row
  filled_room : (rows : Consuming) (ms : List (List ℕ)) (count : ℕ) → (filled schema limit rows ms).end.0 ≡ rows.end.0 + suc count
      → length rows.rows + length (filter_map (row_of schema) (take count ms)) < limit
  filled_room rows [] count e = absurd (omega (arith, e))
  filled_room rows (m ∷ ms) count e = by_test (nat_lt (length rows.rows) limit) refl count e (filled_room next ms)
    where
      next : Consuming
      next = after_message rows (row_of schema m)

      by_test : (b : Bool) → nat_lt (length rows.rows) limit ≡ b → (count : ℕ) → (cond b (filled schema limit next ms) rows).end.0 ≡ rows.end.0 + suc count
          → ((c : ℕ) → (filled schema limit next ms).end.0 ≡ next.end.0 + suc c → length next.rows + length (filter_map (row_of schema) (take c ms)) < limit)
          → length rows.rows + length (filter_map (row_of schema) (take count (m ∷ ms))) < limit
      by_test false full count e further = absurd (omega (arith, e))
      by_test true room zero e further = omega (arith, ltb-true (length rows.rows) limit room)
      by_test true room (suc c) e further =
          omega (
            arith,
            further c (omega (arith, e, one_further rows (row_of schema m))),
            row_more rows (row_of schema m) (filter_map (row_of schema) (take c ms)),
          )

  module _ (ms : List (List ℕ)) (start : Offset) (rows : Consuming) (holds : HoldsRows schema ms start rows) where
    -- the rows up to some messages further
    rows_further : (c count : ℕ) → c ≤ count → length (rows_in schema ms start.0 (rows.end.0 + c))
        ≡ length rows.rows + length (filter_map (row_of schema) (take c (take count (drop rows.end.0 ms))))
    rows_further c count few =
        let first = messages_between ms start.0 rows.end.0 in
        let rest = messages_between ms rows.end.0 (rows.end.0 + c) in
        let parts : rows_in schema ms start.0 (rows.end.0 + c) ≡ filter_map (row_of schema) first ++ filter_map (row_of schema) rest =
        ap (filter_map (row_of schema)) (between_append ms start.0 rows.end.0 (rows.end.0 + c) holds.ordered (omega arith))
        ∙ filter_map-append (row_of schema) first rest in
        let taken : take c (take count (drop rows.end.0 ms)) ≡ rest =
        take-take c count (drop rows.end.0 ms) few ∙ ap (λ (n : ℕ). take n (drop rows.end.0 ms)) (omega arith) in
        omega (
          arith,
          ap (λ (rs : List Row). length rs) parts,
          length-append (filter_map (row_of schema) first) (filter_map (row_of schema) rest),
          ap (λ (xs : List (List ℕ)). length (filter_map (row_of schema) xs)) taken,
          held_rows schema ms start rows holds,
        )

    -- one that fills up a segment ends with the message that does
    pub filled_short : (count : ℕ) → length rows.rows < limit → limit ≤ length (filled schema limit rows (take count (drop rows.end.0 ms))).rows
        → length (rows_in schema ms start.0 ((filled schema limit rows (take count (drop rows.end.0 ms))).end.0 - 1)) < limit
    filled_short count room full = by_count k.count k.end k.most k.placed
      where
        batch : List (List ℕ)
        batch = take count (drop rows.end.0 ms)

        new : Consuming
        new = filled schema limit rows batch

        k : Takes schema rows new batch
        k = filled_takes schema limit rows batch

        by_count : (c : ℕ) → new.end.0 ≡ rows.end.0 + c → c ≤ length batch → new.rows ≡ rows.rows ++ placed_from schema rows.end.0 (take c batch)
            → length (rows_in schema ms start.0 (new.end.0 - 1)) < limit
        by_count zero end most placed =
            absurd (omega (arith, room, full, ap (λ (ps : List Placed). length ps) (placed ∙ append-nil rows.rows)))
        by_count (suc c) end most placed =
            subst (λ (n : ℕ). length (rows_in schema ms start.0 n) < limit)
            (let last : rows.end.0 + c ≡ new.end.0 - 1 = omega (arith, end) in last)
            (omega (
              arith,
              filled_room rows batch c end,
              rows_further c count (omega (arith, most, length-take count (drop rows.end.0 ms))),
            ))
