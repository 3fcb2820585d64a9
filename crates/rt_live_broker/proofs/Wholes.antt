-- What an answer names that leaves nothing out.
use Rattle.std.proofs.Common.{◌≡◌, ℕ, zero, suc, ◌+◌, ◌<◌, Bool, true, false, ◌&&◌, nat_eq, List, [], ◌∷◌, ◌++◌, map, length, take, Some, None, refl, sym, ap, ◌∙◌, slice_get, slice_set, slice_index_or, replicate}
use Rattle.std.proofs.lemmas.Bool.{eqb-true}
use Rattle.std.proofs.lemmas.List.{length-append, length-map}
use Rattle.std.proofs.lemmas.List.Sums.{fold_more}
use Rattle.std.proofs.lemmas.Option.{get_or_from_slice_get}
use lib.Pointwise.{pointwise}
use Rattle.rt_base.specs.declared.numbers.Offset.{Offset}
use Rattle.rt_base.specs.declared.numbers.Partition.{Partition}
use Rattle.rt_base.specs.declared.range.Range.{Range}
use Rattle.rt_ground.specs.StreamCalls.{log_of, with_appended}
use Rattle.rt_ground.specs.declared.appended.Appended.{Appended}
use Rattle.rt_ground.proofs.Streams.{length_log}
use Rattle.rt_live_broker.specs.Counted.{counted}
use Rattle.rt_live_names.specs.Whole.{lengths_in, no_offset}
use Rattle.rt_stream.specs.Log.{Log, end_of}

-- ---- ranges are compared

abbrev same_offset : Offset → Offset → Bool
same_offset a b = nat_eq a.0 b.0

abbrev same_range : Range → Range → Bool
same_range a b = nat_eq a.start.0 b.start.0 && nat_eq a.end.0 b.end.0

abbrev same_named : Partition × Range → Partition × Range → Bool
same_named a b = nat_eq a.0.0 b.0.0 && same_range a.1 b.1

both_true : (a b : Bool) → (a && b) ≡ true → (a ≡ true) × (b ≡ true)
both_true true b e = (refl, e)
both_true false b e = absurd (cc)

abbrev offset : ℕ → Offset
offset n = record { 0 = n }

abbrev partition : ℕ → Partition
partition n = record { 0 = n }

abbrev range : Offset → Offset → Range
range start end = record { start = start; end = end }

ranges_same : (a b : Range) → same_range a b ≡ true → a ≡ b
ranges_same a b e =
    let both = both_true (nat_eq a.start.0 b.start.0) (nat_eq a.end.0 b.end.0) e in
    let start : a.start ≡ b.start = ap offset (eqb-true a.start.0 b.start.0 both.0) in
    let end : a.end ≡ b.end = ap offset (eqb-true a.end.0 b.end.0 both.1) in
    ap (λ (s : Offset). range s a.end) start ∙ ap (λ (t : Offset). range b.start t) end

named_same : (a b : Partition × Range) → same_named a b ≡ true → a ≡ b
named_same a b e =
    let both = both_true (nat_eq a.0.0 b.0.0) (same_range a.1 b.1) e in
    let here : a.0 ≡ b.0 = ap partition (eqb-true a.0.0 b.0.0 both.0) in
    let there : a.1 ≡ b.1 = ranges_same a.1 b.1 both.1 in
    ap (λ (p : Partition). (p, a.1)) here ∙ ap (λ (r : Range). (b.0, r)) there

pub all_same : (xs ys : List (Partition × Range)) → pointwise same_named xs ys ≡ true → xs ≡ ys
all_same [] [] e = refl
all_same [] (y ∷ ys) e = absurd (cc)
all_same (x ∷ xs) [] e = absurd (cc)
all_same (x ∷ xs) (y ∷ ys) e =
    let both = both_true (same_named x y) (pointwise same_named xs ys) e in
    ap (λ (z : Partition × Range). z ∷ xs) (named_same x y both.0) ∙ ap (λ (zs : List (Partition × Range)). y ∷ zs) (all_same xs ys both.1)

-- ---- messages are counted

set_past : {X : Type 0} (xs : List X) (i : ℕ) (x : X) → slice_get xs i ≡ None → slice_set xs i x ≡ xs
set_past [] i x e = refl
set_past (y ∷ ys) zero x e = absurd (cc)
set_past {X} (y ∷ ys) (suc i) x e = ap (λ (zs : List X). y ∷ zs) (set_past ys i x e)

pub counted_none : (lengths : List Offset) (p : Partition) → slice_get lengths p.0 ≡ None → lengths ≡ counted lengths p
counted_none lengths p e = sym (set_past lengths p.0 _ e)

pub counted_some : (lengths : List Offset) (p : Partition) (length : Offset) (more : ℕ) → slice_get lengths p.0 ≡ Some length → more ≡ length.0 + 1
    → slice_set lengths p.0 (record { 0 = more }) ≡ counted lengths p
counted_some lengths p length more at e =
    let same : more ≡ (slice_index_or lengths p.0 no_offset).0 + 1 =
    e ∙ ap (λ (l : Offset). l.0 + 1) (sym (get_or_from_slice_get lengths p.0 length no_offset at)) in
    ap (λ (k : ℕ). slice_set lengths p.0 (offset k)) same

count_at : (log : Log) (i : ℕ) (m : List ℕ) → map end_of (slice_set log i (slice_index_or log i [] ++ m ∷ [])) ≡ slice_set (map end_of log) i (offset ((slice_index_or (map end_of log) i no_offset).0 + 1))
count_at [] i m = refl
count_at (x ∷ log) zero m = ap (λ (k : ℕ). offset k ∷ map end_of log) (length-append x (m ∷ []))
count_at (x ∷ log) (suc i) m = ap (λ (ls : List Offset). end_of x ∷ ls) (count_at log i m)

pub count_more : (partitions : ℕ) (rows : List Appended) (k : ℕ) (row : Appended) (old new : List Offset) → slice_get rows k ≡ Some row → k < length rows
    → old ≡ lengths_in partitions (take k rows) → new ≡ counted old row.partition → new ≡ lengths_in partitions (take (k + 1) rows)
count_more partitions rows k row old new at within so_far more =
    let before = log_of partitions (take k rows) in
    let next : log_of partitions (take (k + 1) rows) ≡ with_appended before row =
    fold_more with_appended (replicate partitions []) rows k row within
    ∙ ap (λ (r : Appended). with_appended before r) (get_or_from_slice_get rows k row row at) in
    more
    ∙ ap (λ (ls : List Offset). counted ls row.partition) so_far
    ∙ sym (count_at before row.partition.0 row.message)
    ∙ ap (λ (log : Log). map end_of log) (sym next)

pub count_none : (partitions : ℕ) → replicate partitions no_offset ≡ lengths_in partitions []
count_none zero = refl
count_none (suc n) = ap (λ (ls : List Offset). no_offset ∷ ls) (count_none n)

-- each partition has its length
pub one_each : (partitions : ℕ) (rows : List Appended) → length (lengths_in partitions rows) ≡ partitions
one_each partitions rows = length-map (log_of partitions rows) end_of ∙ length_log partitions rows
