-- What the log of an input is: the messages of each partition in order, as many as the input has, and the rows of all of them.
use Rattle.std.proofs.Common.{◌≡◌, ℕ, zero, suc, ◌+◌, ◌-◌, ◌<◌, ◌≤◌, ◌==◌, Bool, true, false, cond, List, [], ◌∷◌, ◌++◌, length, map, fold, take, get_or, set, filter_map, replicate, refl, sym, ap, ◌∙◌, arith, length-append, append_assoc, append-nil, length-set, take_all}
use Rattle.std.specs.Prelude.{if◌then◌else◌}
use Rattle.std.specs.List.{filter}
use Rattle.std.proofs.lemmas.Bool.{eqb-false, eqb-true}
use Rattle.std.proofs.lemmas.List.{get_or-replicate, get_or-set_other, get_or-set_same, length-replicate, nil_from_length}
use Rattle.rt_base.specs.declared.numbers.Partition.{Partition}
use Rattle.rt_base.specs.declared.range.Range.{Range}
use Rattle.rt_broker.specs.IsAsked.{messages_in}
use Rattle.rt_ground.specs.StreamCalls.{log_of, with_appended}
use Rattle.rt_ground.specs.declared.appended.Appended.{Appended}
use Rattle.rt_model.specs.RightAnswer.{rows_of}
use Rattle.rt_schema.specs.Row.{row_of, rows_between}
use Rattle.rt_schema.specs.declared.row.Row.{Row}
use Rattle.rt_schema.specs.declared.schema.Schema.{Schema}
use Rattle.rt_stream.specs.Log.{Log, end_of, messages_of}
use Rattle.rt_live_end.specs.Input.{all_rows, messages_to}
use Rattle.rt_live_names.specs.Whole.{whole_from}

-- ---- how many messages there are

one_more : (log : Log) (i : ℕ) (message : List ℕ) → messages_in (set log i (get_or log i [] ++ message ∷ [])) ≤ messages_in log + 1
one_more [] i message = omega arith
one_more (ms ∷ log) zero message = omega (arith, length-append ms (message ∷ []))
one_more (ms ∷ log) (suc i) message = omega (arith, one_more log i message)

few_more : (rows : List Appended) (log : Log) → messages_in (fold with_appended log rows) ≤ messages_in log + length rows
few_more [] log = omega arith
few_more (a ∷ rows) log = omega (arith, one_more log a.partition.0 a.message, few_more rows (with_appended log a))

none_yet : (partitions : ℕ) → messages_in (replicate partitions []) ≡ 0
none_yet zero = refl
none_yet (suc k) = omega (arith, none_yet k)

pub few_messages : (partitions : ℕ) (rows : List Appended) → messages_in (log_of partitions rows) ≤ length rows
few_messages partitions rows = omega (arith, few_more rows (replicate partitions []), none_yet partitions)

-- ---- the messages of a partition

abbrev message_of : Appended → List ℕ
message_of a = a.message

one_sent : (log : Log) (a : Appended) (p : Partition) (rest : List Appended) (b : Bool) → (a.partition.0 == p.0) ≡ b → p.0 < length log
    → messages_of (with_appended log a) p ++ map message_of rest ≡ messages_of log p ++ map message_of (cond b (a ∷ rest) rest)
one_sent log a p rest true e within =
    let same : a.partition.0 ≡ p.0 = eqb-true a.partition.0 p.0 e in
    let grown : List (List ℕ) = messages_of log a.partition ++ a.message ∷ [] in
    let now : messages_of (with_appended log a) p ≡ messages_of log p ++ a.message ∷ [] =
    ap (λ (i : ℕ). get_or (set log a.partition.0 grown) i []) (sym same)
    ∙ get_or-set_same log a.partition.0 grown [] (omega (arith, same, within))
    ∙ ap (λ (i : ℕ). get_or log i [] ++ a.message ∷ []) same in
    ap (λ (ms : List (List ℕ)). ms ++ map message_of rest) now
    ∙ append_assoc (messages_of log p) (a.message ∷ []) (map message_of rest)
one_sent log a p rest false e within =
    let other : p.0 ≡ a.partition.0 → ⊥ = λ same. eqb-false a.partition.0 p.0 e (sym same) in
    ap (λ (ms : List (List ℕ)). ms ++ map message_of rest)
    (get_or-set_other log a.partition.0 p.0 (messages_of log a.partition ++ a.message ∷ []) [] other)

all_sent : (rows : List Appended) (log : Log) (p : Partition) → p.0 < length log
    → messages_of (fold with_appended log rows) p ≡ messages_of log p ++ messages_to p rows
all_sent [] log p within = sym (append-nil (messages_of log p))
all_sent (a ∷ rows) log p within =
    let long : length (with_appended log a) ≡ length log = length-set log a.partition.0 (messages_of log a.partition ++ a.message ∷ []) in
    all_sent rows (with_appended log a) p (omega (arith, long, within))
    ∙ one_sent log a p (filter (λ (x : Appended). x.partition.0 == p.0) rows) (a.partition.0 == p.0) refl within

pub messages_are_the_inputs : (partitions : ℕ) (rows : List Appended) (p : Partition) → p.0 < partitions → messages_of (log_of partitions rows) p ≡ messages_to p rows
messages_are_the_inputs partitions rows p within =
    all_sent rows (replicate partitions []) p (omega (arith, length-replicate {A = List (List ℕ)} partitions [], within))
    ∙ ap (λ (ms : List (List ℕ)). ms ++ messages_to p rows) (get_or-replicate partitions p.0 [] [] within)

-- ---- the rows of all messages

module _ (schema : Schema) (log : Log) where
  -- those of one partition
  part_rows : (n : ℕ) (ms : List (List ℕ)) → get_or log n [] ≡ ms → rows_between schema log n 0 (length ms) ≡ filter_map (row_of schema) ms
  part_rows n ms e =
      ap (λ (xs : List (List ℕ)). filter_map (row_of schema) (take (length ms - 0) xs)) e
      ∙ ap (λ (xs : List (List ℕ)). filter_map (row_of schema) xs) (take_all (length ms - 0) ms (omega arith))

  by_length : (n : ℕ) (ms : List (List ℕ)) (b : Bool) (rest : List (Partition × Range)) (rows : List Row) → (length ms == 0) ≡ b → get_or log n [] ≡ ms
      → rows_of schema log rest ≡ rows
      → rows_of schema log ((if b then [] else (record { 0 = n }, record { start = record { 0 = 0 }; end = end_of ms }) ∷ []) ++ rest) ≡ filter_map (row_of schema) ms ++ rows
  by_length n ms true rest rows e at further =
      let none : ms ≡ [] = nil_from_length ms (eqb-true (length ms) 0 e) in
      further ∙ ap (λ (xs : List (List ℕ)). filter_map (row_of schema) xs ++ rows) (sym none)
  by_length n ms false rest rows e at further =
      ap (λ (xs : List Row). xs ++ rows_of schema log rest) (part_rows n ms at) ∙ ap (λ (xs : List Row). filter_map (row_of schema) ms ++ xs) further

  rows_from : (n : ℕ) (rest : Log) → ((i : ℕ) → get_or log (n + i) [] ≡ get_or rest i []) → rows_of schema log (whole_from n (map end_of rest)) ≡ all_rows schema rest
  rows_from n [] same = refl
  rows_from n (ms ∷ rest) same =
      let here : n ≡ n + 0 = omega arith in
      by_length n ms (length ms == 0) (whole_from (n + 1) (map end_of rest)) (all_rows schema rest) refl
      (ap (λ (i : ℕ). get_or log i []) here ∙ same 0)
      (rows_from (n + 1) rest
      (λ i. let next : (n + 1) + i ≡ n + suc i = omega arith in ap (λ (j : ℕ). get_or log j []) next ∙ same (suc i)))

  pub whole_rows : rows_of schema log (whole_from 0 (map end_of log)) ≡ all_rows schema log
  whole_rows = rows_from 0 log (λ i. let same : 0 + i ≡ i = omega arith in ap (λ (j : ℕ). get_or log j []) same)
