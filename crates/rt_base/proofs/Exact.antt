-- What a source and a sink in memory do exactly is what a source and a sink owe.
use Rattle.std.proofs.Common.{
  ◌≡◌,
  ℕ,
  ◌+◌,
  ◌-◌,
  ◌<◌,
  ◌≤◌,
  Bool,
  true,
  false,
  List,
  ◌++◌,
  length,
  take,
  drop,
  min,
  Some,
  Result,
  Ok,
  Err,
  refl,
  sym,
  ap,
  ◌∙◌,
  ⊎_elim,
  arith,
  length-append,
  length-drop,
  append-nil,
  ltb,
}
use Rattle.std.specs.Prelude.{if◌then◌else◌, nat_lt, nat_le, ◌&&◌, ◌||◌}
use Rattle.std.proofs.lemmas.Bool.{and_parts, and_cases, leb-true, leb-false, ltb-false, cond_both}
use Rattle.std.proofs.lemmas.List.{length-take-le, take-append-drop, take_at, nil_from_length}
use Rattle.rt_base.specs.declared.failed.Failed.{Failed}
use Rattle.rt_base.specs.FaultPlan.{fails_now, after_call}
use Rattle.rt_base.specs.Source.{Reads, Came, FailsToRead, Rises, one_more}
use Rattle.rt_base.specs.Sink.{Writes}
use Rattle.rt_base.specs.MemorySink.{
  SinkTold,
  sink_meaning,
  fitting,
  is_full_for,
  write_answer,
  after_write,
}
use Rattle.rt_base.specs.MemorySource.{
  SourceTold,
  source_meaning,
  given,
  read_answer,
  after_read,
  filled,
}
use Rattle.rt_base.proofs.Faults.{faults_grow, faults_rise}

rises : (a b : ℕ) → a < b → Rises a b
rises a b h = (omega arith, λ e. absurd (omega arith))

fails_to_read : (told : SourceTold) → fails_now told.plan ≡ true
    → FailsToRead (source_meaning told) (source_meaning
    (record { left = told.left; plan = after_call told.plan }))
fails_to_read told e = record { left = refl; counts = rises _ _ (faults_rise told.plan e) }

-- the front of what is left, over the front of a piece
came : (told : SourceTold) (piece : List ℕ) (count : ℕ) → count
    ≡ min (length piece) (length told.left)
    → Came (source_meaning told) (source_meaning
    (record { left = drop count told.left; plan = after_call told.plan }))
    (take count told.left ++ drop count piece) count
came told piece count e =
    let within : count ≤ length told.left = omega arith in
    let front : length (take count told.left) ≡ count = length-take-le count told.left within in
    record {
      fits = omega (arith, length-append (take count told.left) (drop count piece), front);
      left = ap Some (sym (take-append-drop count told.left)
          ∙ ap (λ bytes. bytes ++ drop count told.left)
          (sym (take_at (take count told.left) (drop count piece) count front)));
      ended = λ none some. nil_from_length (drop count told.left)
          (omega (
            arith,
            length-drop count told.left,
            length-append (take count told.left) (drop count piece),
            length-drop count piece,
            front,
          ));
      counts = faults_grow told.plan;
    }

-- what a read is where its call fails, and where it does not
reads_by : (told : SourceTold) (piece : List ℕ) (fails : Bool) → fails_now told.plan ≡ fails
    → (count : ℕ) → count ≡ (if fails then 0 else min (length piece) (length told.left))
    → Reads (source_meaning told) (source_meaning
    (record { left = drop count told.left; plan = after_call told.plan }))
    (take count told.left ++ drop count piece) (if fails then Err (record {}) else Ok count)
reads_by told piece true e count none = let same : drop count told.left ≡ told.left = rw none refl in
    rw same (fails_to_read told e)
reads_by told piece false e count some = came told piece count some

-- a read that is exact is one that a source may make
pub reads_exactly : (old new : SourceTold) (piece now : List ℕ) (result : Result ℕ Failed) → result
    ≡ read_answer old (length piece)
    → new ≡ after_read old (length piece) → now ≡ filled old piece
    → Reads (source_meaning old) (source_meaning new) now result
reads_exactly old new piece now result answer after front =
    rw (answer, after, front) (reads_by old piece (fails_now old.plan) refl
    (given old (length piece)) refl)

one_more_rises : (before now full : ℕ) → before ≤ now → Rises (before + full) (now + one_more full)
one_more_rises before now full h =
    cond_both (ltb full 18446744073709551615) (full + 1) full
    (λ more. Rises (before + full) (now + more))
    (λ e. rises _ _ (omega arith))
    (λ e. let last : 18446744073709551615 ≤ full = ltb-false _ _ e in
    (omega arith, λ _. omega arith))

not_full : (size room taken count : ℕ) → count ≡ min size (room - taken) → 0 < size
    → (nat_lt 0 size && nat_le room taken) ≡ false → 0 < count
not_full size room taken count e some h =
    ⊎_elim
    (λ p. absurd (omega (arith, ltb-false 0 size p)))
    (λ p. omega (arith, leb-false room taken p))
    (and_cases (nat_lt 0 size) (nat_le room taken) h)

-- what a write is where its call fails, where the sink is full, and where neither is
writes_by : (told : SinkTold) (piece : List ℕ) (fails full : Bool) → fails_now told.plan ≡ fails
    → full ≡ (if fails then false else (nat_lt 0 (length piece) && nat_le told.room
    (length told.taken)))
    → (count : ℕ) → count ≡ (if fails then 0 else min (length piece)
    (told.room - length told.taken))
    → Writes (sink_meaning told)
    (sink_meaning
    (record { taken = told.taken ++ take count piece; room = told.room; plan = after_call told.plan; full = if full then one_more told.full else told.full }))
    piece (if fails || full then Err (record {}) else Ok count)
writes_by told piece true true e h count none = cc
writes_by told piece true false e h count none =
    let same : told.taken ++ take count piece ≡ told.taken = rw none (append-nil told.taken) in
    rw same (record { taken = refl; counts = rises _ _ (omega (arith, faults_rise told.plan e)) })
writes_by told piece false true e h count some =
    let facts : (nat_lt 0 (length piece) ≡ true) × (nat_le told.room (length told.taken) ≡ true) =
    and_parts _ _ (sym h) in
    let full : told.room ≤ length told.taken = leb-true _ _ facts.1 in
    let none : count ≡ 0 = omega arith in
    let same : told.taken ++ take count piece ≡ told.taken = rw none (append-nil told.taken) in
    rw same (record { taken = refl; counts = one_more_rises _ _ _ (faults_grow told.plan) })
writes_by told piece false false e h count some = record {
  fits = omega arith;
  some = λ bytes. not_full (length piece) told.room (length told.taken) count some bytes (sym h);
  taken = refl;
  counts = omega (arith, faults_grow told.plan);
}

-- a write that is exact is one that a sink may make
pub writes_exactly : (old new : SinkTold) (piece : List ℕ) (result : Result ℕ Failed) → result
    ≡ write_answer old (length piece)
    → new ≡ after_write old piece → Writes (sink_meaning old) (sink_meaning new) piece result
writes_exactly old new piece result answer after =
    rw (answer, after) (writes_by old piece (fails_now old.plan)
    (is_full_for old (length piece)) refl refl (fitting old (length piece)) refl)
