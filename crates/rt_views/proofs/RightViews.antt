-- Answers over the views of a safe world are right.
use Rattle.std.proofs.Common.{◌≡◌, ℕ, zero, suc, ◌+◌, ◌≤◌, ◌<◌, List, [], ◌∷◌, ◌++◌, length, map, Option, Some, None, IfSome, refl, sym, ap, subst, ◌∙◌, arith}
use Rattle.std.specs.Prelude.{All, option_map, option_to_list}
use Rattle.std.specs.List.{range_with_len}
use Rattle.std.proofs.lemmas.List.Elements.{All-append, All-cons, All-nil}
use Rattle.rt_base.specs.declared.numbers.Offset.{Offset}
use Rattle.rt_base.specs.declared.numbers.Partition.{Partition}
use Rattle.rt_base.specs.declared.range.Range.{Range}
use Rattle.rt_broker.proofs.Right.{order_from, rows_all, rows_at, rows_merged, rows_named, rows_of_append}
use Rattle.rt_broker.proofs.Rising.{AreOf, AreOrdered, ordered_after, plan_is_of}
use Rattle.rt_entry.specs.declared.served_rows.ServedRows.{ServedRows}
use Rattle.rt_hybrid.specs.Sides.{IsHybridAnswer, hybrid_rows}
use Rattle.rt_hybrid.specs.Table.{OfflineTable}
use Rattle.rt_model.specs.Aggregate.{aggregate}
use Rattle.rt_model.specs.Metadata.{metadata_of}
use Rattle.rt_model.specs.RightAnswer.{AreInOrder, IsServed, Routed, merged, named_in, named_ranges, rows_of, served_ranges}
use Rattle.rt_model.specs.declared.piece.Piece.{Piece}
use Rattle.rt_model.specs.declared.query.Query.{Query}
use Rattle.rt_schema.specs.declared.row.Row.{Row}
use Rattle.rt_schema.specs.declared.schema.Schema.{Schema}
use Rattle.rt_server.specs.LastingRows.{AreRightRows}
use Rattle.rt_stream.specs.Log.{messages_of}
use Rattle.rt_upconf.specs.declared.upsert_config.UpsertConfig.{UpsertConfig}
use Rattle.rt_upsert.specs.Latest.{latest_of, rows_in, start_of}
use Rattle.rt_upsert.specs.Placed.{PlacedRows}
use Rattle.rt_views.specs.Answers.{hybrid_answer, latest_answer}
use Rattle.rt_views.specs.Placing.{latest_viewed, put_all, put_from}
use Rattle.rt_views.specs.Plans.{pieces_now}
use Rattle.rt_views.specs.Streamed.{IsLatestAnswer, IsStreamed, IsViewOf, latest_routed, latest_streamed, put_streamed, streamed}
use Rattle.rt_views.specs.Views.{asked_of, found_each, found_whole, routed_of, rows_found, rows_if, rows_viewed, view_each, view_whole, views_each, views_whole}
use Rattle.rt_views.specs.declared.found.Found.{Found}
use Rattle.rt_views.specs.declared.view.View.{View}
use Rattle.rt_views.proofs.RightFound.{AreFound, AreRight, each_found, plan_now_ordered, served_rows_count, whole_found}
use Rattle.rt_state.specs.IsSafeWorld.{IsSafeWorld}
use Rattle.rt_state.specs.declared.state.State.{State}

abbrev piece_in : Found → Piece
piece_in f = f.piece

abbrev ranges_in : List Found → List Range
ranges_in fs = served_ranges (map asked_of fs)

abbrev IsRightIn : State → Found → ServedRows → Type 0
IsRightIn w f served = AreRightRows w.setup.schema (messages_of w.log f.piece.partition) f.piece served

-- ---- what was found of a partition, in order

nothing_left : (fs : List Found) (from : ℕ) → map piece_in fs ≡ [] → AreInOrder from (ranges_in fs)
nothing_left [] from e = tt
nothing_left (f ∷ fs) from e = absurd (cc)

after_served : (end : Option Offset) (start : ℕ) (fs : List Found) (at : Offset) → IfSome end (λ e. at ≡ e)
    → ordered_after end start (map piece_in fs) (λ to. AreOrdered to (map piece_in fs))
    → ((to : ℕ) → AreOrdered to (map piece_in fs) → AreInOrder to (ranges_in fs)) → AreInOrder at.0 (ranges_in fs)
after_served None start fs at is o further = nothing_left fs at.0 o
after_served (Some e) start fs at is o further = subst (λ (x : Offset). AreInOrder x.0 (ranges_in fs)) (sym is) (further e.0 o.1)

past_unserved : (end : Option Offset) (from start : ℕ) (fs : List Found) → from ≤ start
    → ordered_after end start (map piece_in fs) (λ to. AreOrdered to (map piece_in fs))
    → ((to : ℕ) → AreOrdered to (map piece_in fs) → AreInOrder to (ranges_in fs)) → AreInOrder from (ranges_in fs)
past_unserved None from start fs le o further = nothing_left fs from o
past_unserved (Some e) from start fs le o further = order_from from e.0 (ranges_in fs) (omega (arith, le, o.0)) (further e.0 o.1)

found_order : (w : State) (fs : List Found) (from : ℕ) → AreOrdered from (map piece_in fs) → AreRight w fs → AreInOrder from (ranges_in fs)
found_order w [] from o k = tt
found_order w (f ∷ fs) from o k = by_rows f.rows k.0 (λ to later. found_order w fs to later k.1)
  where
    by_rows : (rows : Option ServedRows) → IfSome rows (IsRightIn w f) → ((to : ℕ) → AreOrdered to (map piece_in fs) → AreInOrder to (ranges_in fs))
        → AreInOrder from (option_to_list (option_map (λ (s : ServedRows). s.range) rows) ++ ranges_in fs)
    by_rows None right further = past_unserved f.piece.end from f.piece.start.0 fs o.0 o.1 further
    by_rows (Some s) right further =
        (omega (arith, o.0, ap (λ (z : Offset). z.0) right.start), right.ordered, after_served f.piece.end f.piece.start.0 fs s.range.end right.end o.1 further)

-- ---- within the stream

abbrev IsWithin : State → Partition → Range → Type 0
IsWithin w p r = r.end.0 ≤ length (messages_of w.log p)

found_within : (w : State) (p : Partition) (fs : List Found) → AreOf p (map piece_in fs) → AreRight w fs → All (IsWithin w p) (ranges_in fs)
found_within w p [] of k = All-nil (IsWithin w p)
found_within w p (f ∷ fs) of k =
    All-append (IsWithin w p) (option_to_list (option_map (λ (s : ServedRows). s.range) f.rows)) (ranges_in fs) (by_rows f.rows k.0) (found_within w p fs of.1 k.1)
  where
    by_rows : (rows : Option ServedRows) → IfSome rows (IsRightIn w f) → All (IsWithin w p) (option_to_list (option_map (λ (s : ServedRows). s.range) rows))
    by_rows None right = All-nil (IsWithin w p)
    by_rows (Some s) right =
        All-cons (IsWithin w p) s.range [] (subst (λ q. IsWithin w q s.range) of.0 right.within) (All-nil (IsWithin w p))

-- ---- its rows

-- the rows of a piece are the stream's, of the range over which it was served
piece_streamed : (w : State) (p : Partition) (piece : Piece) (rows : Option ServedRows) → piece.partition ≡ p
    → IfSome rows (AreRightRows w.setup.schema (messages_of w.log piece.partition) piece)
    → rows_if w.setup.schema rows ≡ streamed w.setup.schema (messages_of w.log p) (option_map (λ (s : ServedRows). s.range) rows)
piece_streamed w p piece None of right = refl
piece_streamed w p piece (Some s) of right =
    served_rows_count w.setup.schema (messages_of w.log piece.partition) piece s right
    ∙ right.rows
    ∙ ap (λ (q : Partition). streamed w.setup.schema (messages_of w.log q) (Some s.range)) of

found_rows : (w : State) (p : Partition) (fs : List Found) → AreOf p (map piece_in fs) → AreRight w fs
    → rows_found w.setup.schema fs ≡ rows_all w.setup.schema w.log p (ranges_in fs)
found_rows w p [] of k = refl
found_rows w p (f ∷ fs) of k =
    ap (λ (rows : List Row). rows ++ rows_found w.setup.schema fs) (piece_streamed w p f.piece f.rows of.0 k.0)
    ∙ by_range (option_map (λ (s : ServedRows). s.range) f.rows) (found_rows w p fs of.1 k.1)
  where
    by_range : (range : Option Range) → rows_found w.setup.schema fs ≡ rows_all w.setup.schema w.log p (ranges_in fs)
        → streamed w.setup.schema (messages_of w.log p) range ++ rows_found w.setup.schema fs
        ≡ rows_all w.setup.schema w.log p (option_to_list range ++ ranges_in fs)
    by_range None rest = rest
    by_range (Some r) rest = ap (λ (rows : List Row). rows_at w.setup.schema w.log p r ++ rows) rest

-- all put at their places
found_put : (w : State) (p : Partition) (fs : List Found) (held : PlacedRows) → AreOf p (map piece_in fs) → AreRight w fs
    → put_all w.setup.schema held fs ≡ put_streamed w.setup.schema (messages_of w.log p) held (map asked_of fs)
found_put w p [] held of k = refl
found_put w p (f ∷ fs) held of k =
    ap (λ (rows : List Row). put_all w.setup.schema (put_from f.piece.sequence 0 held rows) fs) (piece_streamed w p f.piece f.rows of.0 k.0)
    ∙ found_put w p fs (put_from f.piece.sequence 0 held (streamed w.setup.schema (messages_of w.log p) (option_map (λ (s : ServedRows). s.range) f.rows))) of.1 k.1

-- ---- a view

-- a partition's pieces are in order and its own, and what was found of each is the stream's
record IsRightView (w : State) (v : View) : Type 0 where
  ordered : AreOrdered 0 (map piece_in v.found)
  of : AreOf v.partition (map piece_in v.found)
  right : AreRight w v.found

abbrev numbered : ℕ → Partition
numbered n = record { 0 = n }

abbrev view_of : ℕ → List Found → View
view_of n fs = record { partition = numbered n; found = fs }

found_view : (w : State) (n : ℕ) (fs : List Found) → IsSafeWorld w → n < w.setup.partitions → AreFound w (pieces_now w (numbered n)) fs → IsRightView w (view_of n fs)
found_view w n fs s within k =
    record {
      ordered = subst (AreOrdered 0) (sym k.pieces) (plan_now_ordered w (numbered n) s within);
      of = subst (AreOf (numbered n)) (sym k.pieces) (plan_is_of (numbered n) (metadata_of w.store.writes (numbered n)));
      right = k.right;
    }

view_served : (w : State) (v : View) → IsRightView w v → IsServed w.log (routed_of v)
view_served w v k = record { in_order = found_order w v.found 0 k.ordered k.right; within = found_within w v.partition v.found k.of k.right }

view_rows : (w : State) (v : View) → IsRightView w v → rows_found w.setup.schema v.found ≡ rows_of w.setup.schema w.log (named_in (routed_of v))
view_rows w v k =
    found_rows w v.partition v.found k.of k.right
    ∙ sym (rows_named w.setup.schema w.log v.partition (merged (ranges_in v.found))
    ∙ rows_merged w.setup.schema w.log v.partition 0 (ranges_in v.found) (found_order w v.found 0 k.ordered k.right))

-- ---- the views of all partitions

abbrev AreRightViews : State → List View → Type 0
AreRightViews w [] = Unit {0}
AreRightViews w (v ∷ vs) = IsRightView w v × AreRightViews w vs

views_served : (w : State) (vs : List View) → AreRightViews w vs → All (IsServed w.log) (map routed_of vs)
views_served w [] k = All-nil (IsServed w.log)
views_served w (v ∷ vs) k = All-cons (IsServed w.log) (routed_of v) (map routed_of vs) (view_served w v k.0) (views_served w vs k.1)

views_rows : (w : State) (vs : List View) → AreRightViews w vs → rows_viewed w.setup.schema vs ≡ rows_of w.setup.schema w.log (named_ranges (map routed_of vs))
views_rows w [] k = refl
views_rows w (v ∷ vs) k =
    ap (λ (rows : List Row). rows ++ rows_viewed w.setup.schema vs) (view_rows w v k.0)
    ∙ ap (λ (rows : List Row). rows_of w.setup.schema w.log (named_in (routed_of v)) ++ rows) (views_rows w vs k.1)
    ∙ sym (rows_of_append w.setup.schema w.log (named_in (routed_of v)) (named_ranges (map routed_of vs)))

views_latest : (w : State) (config : UpsertConfig) (vs : List View) → AreRightViews w vs
    → latest_viewed w.setup.schema config vs ≡ latest_routed w.setup.schema config w.log (map routed_of vs)
views_latest w config [] k = refl
views_latest w config (v ∷ vs) k =
    ap (λ (held : PlacedRows). rows_in (latest_of held) ++ latest_viewed w.setup.schema config vs)
    (found_put w v.partition v.found (start_of w.setup.schema config) k.0.of k.0.right)
    ∙ ap (λ (rows : List Row). latest_streamed w.setup.schema config (messages_of w.log v.partition) (map asked_of v.found) ++ rows) (views_latest w config vs k.1)

each_right : (w : State) (a n : ℕ) → IsSafeWorld w → a + n ≤ w.setup.partitions → AreRightViews w (map (view_each w) (range_with_len a n))
each_right w a zero s le = tt
each_right w a (suc n) s le = (
  found_view w a (map (found_each w (numbered a)) (pieces_now w (numbered a))) s (omega (arith, le)) (each_found w (numbered a) (pieces_now w (numbered a)) s),
  each_right w (a + 1) n s (omega (arith, le)),
)

whole_right : (w : State) (a n : ℕ) → IsSafeWorld w → a + n ≤ w.setup.partitions → AreRightViews w (map (view_whole w) (range_with_len a n))
whole_right w a zero s le = tt
whole_right w a (suc n) s le =
    (found_view w a (found_whole w (numbered a)) s (omega (arith, le)) (whole_found w (numbered a) s), whole_right w (a + 1) n s (omega (arith, le)))

abbrev number_of : Routed → ℕ
number_of r = r.partition.0

each_numbers : (w : State) (a n : ℕ) → map number_of (map routed_of (map (view_each w) (range_with_len a n))) ≡ range_with_len a n
each_numbers w a zero = refl
each_numbers w a (suc n) = ap (λ (ns : List ℕ). a ∷ ns) (each_numbers w (a + 1) n)

whole_numbers : (w : State) (a n : ℕ) → map number_of (map routed_of (map (view_whole w) (range_with_len a n))) ≡ range_with_len a n
whole_numbers w a zero = refl
whole_numbers w a (suc n) = ap (λ (ns : List ℕ). a ∷ ns) (whole_numbers w (a + 1) n)

-- ---- each has its plan

found_streamed : (w : State) (p : Partition) (fs : List Found) → AreOf p (map piece_in fs) → AreRight w fs → All (IsStreamed w p) fs
found_streamed w p [] of k = All-nil (IsStreamed w p)
found_streamed w p (f ∷ fs) of k =
    All-cons (IsStreamed w p) f fs (subst (λ (q : Partition). IfSome f.rows (AreRightRows w.setup.schema (messages_of w.log q) f.piece)) of.0 k.0)
    (found_streamed w p fs of.1 k.1)

view_is_of : (w : State) (n : ℕ) (fs : List Found) → AreFound w (pieces_now w (numbered n)) fs → IsViewOf w (view_of n fs)
view_is_of w n fs k =
    let p : Partition = numbered n in
    record {
      pieces = k.pieces;
      streamed = found_streamed w p fs (subst (AreOf p) (sym k.pieces) (plan_is_of p (metadata_of w.store.writes p))) k.right;
    }

each_have_plans : (w : State) (a n : ℕ) → IsSafeWorld w → All (IsViewOf w) (map (view_each w) (range_with_len a n))
each_have_plans w a zero s = All-nil (IsViewOf w)
each_have_plans w a (suc n) s =
    All-cons (IsViewOf w) (view_each w a) (map (view_each w) (range_with_len (a + 1) n))
    (view_is_of w a (map (found_each w (numbered a)) (pieces_now w (numbered a))) (each_found w (numbered a) (pieces_now w (numbered a)) s))
    (each_have_plans w (a + 1) n s)

whole_have_plans : (w : State) (a n : ℕ) → IsSafeWorld w → All (IsViewOf w) (map (view_whole w) (range_with_len a n))
whole_have_plans w a zero s = All-nil (IsViewOf w)
whole_have_plans w a (suc n) s =
    All-cons (IsViewOf w) (view_whole w a) (map (view_whole w) (range_with_len (a + 1) n))
    (view_is_of w a (found_whole w (numbered a)) (whole_found w (numbered a) s)) (whole_have_plans w (a + 1) n s)

pub views_each_have_plans : (w : State) → IsSafeWorld w → All (IsViewOf w) (views_each w)
views_each_have_plans w s = each_have_plans w 0 w.setup.partitions s

pub views_whole_have_plans : (w : State) → IsSafeWorld w → All (IsViewOf w) (views_whole w)
views_whole_have_plans w s = whole_have_plans w 0 w.setup.partitions s

-- ---- the answers

pub hybrid_right : (w : State) (table : OfflineTable) (query : Query) → IsSafeWorld w → table.schema ≡ w.setup.schema
    → IsHybridAnswer table w.log query (map routed_of (views_each w)) (hybrid_answer w table query)
hybrid_right w table query s same =
    let k = each_right w 0 w.setup.partitions s (omega arith) in
    record {
      partitions = each_numbers w 0 w.setup.partitions ∙ ap (range_with_len 0) (sym s.safe.past.partitions);
      served = views_served w (views_each w) k;
      ranges = refl;
      missing = refl;
      rows =
          ap (λ (rows : List Row). aggregate query (hybrid_rows table rows)) (views_rows w (views_each w) k)
          ∙ ap (λ (schema : Schema). aggregate query (hybrid_rows table (rows_of schema w.log (named_ranges (map routed_of (views_each w)))))) (sym same);
    }

pub latest_right : (w : State) (config : UpsertConfig) (query : Query) → IsSafeWorld w
    → IsLatestAnswer w.setup.schema config w.log query (map routed_of (views_whole w)) (latest_answer w config query)
latest_right w config query s =
    let k = whole_right w 0 w.setup.partitions s (omega arith) in
    record {
      partitions = whole_numbers w 0 w.setup.partitions ∙ ap (range_with_len 0) (sym s.safe.past.partitions);
      served = views_served w (views_whole w) k;
      ranges = refl;
      missing = refl;
      rows = ap (aggregate query) (views_latest w config (views_whole w) k);
    }
