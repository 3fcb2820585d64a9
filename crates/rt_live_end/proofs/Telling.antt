-- Where a run ended rightly, each partition is committed up to its length, and each query has its answer.
use Rattle.std.proofs.Common.{◌≡◌, ◌+◌, ◌<◌, ℕ, inl, List, [], length, get_or, map, option_map, Some, sym, ap, ◌∙◌, arith, slice_get}
use Rattle.std.specs.List.{range_with_len}
use Rattle.std.proofs.lemmas.List.{length-map}
use Rattle.std.proofs.lemmas.List.FromFn.{get_or-map-range_with_len, get_or-range_with_len, length-map-range_with_len, length-range_with_len}
use Rattle.std.proofs.lemmas.Option.{same_Some, slice_get-get_or, slice_get-map, slice_get_within}
use Rattle.rt_base.specs.declared.numbers.Offset.{Offset}
use Rattle.rt_base.specs.declared.numbers.Partition.{Partition}
use Rattle.rt_ground.specs.StoreCalls.{seen_by}
use Rattle.rt_ground.specs.StreamCalls.{log_of}
use Rattle.rt_ground.proofs.Streams.{length_log}
use Rattle.rt_lists.proofs.Members.{place-Has}
use Rattle.rt_live_names.specs.BrokerPart.{Answered}
use Rattle.rt_live_names.specs.Fronts.{Fronts}
use Rattle.rt_live_names.specs.Names.{Names}
use Rattle.rt_model.specs.Aggregate.{aggregate}
use Rattle.rt_model.specs.declared.answer.Answer.{Answer}
use Rattle.rt_model.specs.declared.node.Seen.{Seen}
use Rattle.rt_model.specs.declared.query.Query.{Query}
use Rattle.rt_store.specs.Contents.{starting_of}
use Rattle.rt_stream.specs.Log.{Log, end_of, messages_of}
use Rattle.rt_live_end.specs.Ends.{committed_end, end_in, ends_in}
use Rattle.rt_live_end.specs.Headline.{EndsRightly, IsAnsweredOverAll}
use Rattle.rt_live_end.specs.Input.{all_rows, messages_to}
use Rattle.rt_live_names.specs.Whole.{IsWhole, whole_ranges}
use Rattle.rt_live_end.proofs.Members.{all_has, some_at}
use Rattle.rt_live_end.proofs.Streaming.{messages_are_the_inputs}

-- ---- ends

end_there : (partitions : ℕ) (h : List Seen) (p : ℕ) → p < partitions → slice_get (ends_in partitions h) p ≡ Some (end_in h p)
end_there partitions h p inside =
    let long : length (ends_in partitions h) ≡ partitions = length-map-range_with_len (end_in h) 0 partitions in
    slice_get-get_or (ends_in partitions h) p (end_in h p) (omega (arith, long, inside))
    ∙ ap (λ (o : Offset). Some o) (get_or-map-range_with_len (end_in h) 0 partitions p p (end_in h p) inside (omega arith))

length_there : (log : Log) (p : ℕ) → p < length log → slice_get (map end_of log) p ≡ Some (end_of (get_or log p []))
length_there log p inside = slice_get-map end_of log p ∙ ap (option_map end_of) (slice_get-get_or log p [] inside)

-- where the ends are the lengths, each partition is committed up to its length
pub committed_whole : (partitions : ℕ) (h : List Seen) (log : Log) (p : Partition) → length log ≡ partitions → ends_in partitions h ≡ map end_of log → p.0 < partitions
    → committed_end h p ≡ length (messages_of log p)
committed_whole partitions h log p long same inside =
    ap (λ (o : Offset). o.0)
    (same_Some (end_in h p.0) (end_of (get_or log p.0 []))
    (sym (end_there partitions h p.0 inside) ∙ ap (λ (os : List Offset). slice_get os p.0) same ∙ length_there log p.0 (omega (arith, long, inside))))

module _ (n : Names) (met : Fronts) (answers : List Answer) (ends : List Offset) (k : EndsRightly n met answers ends) where
  abbrev log : Log
  log = log_of n.setup.partitions n.rows

  pub all_committed : (p : Partition) → p.0 < n.setup.partitions
      → committed_end (seen_by (starting_of n.setup) met.store) p ≡ length (messages_to p n.rows)
  all_committed p inside =
      committed_whole n.setup.partitions (seen_by (starting_of n.setup) met.store) log p (length_log n.setup.partitions n.rows) (sym k.committed ∙ k.lengths) inside
      ∙ ap (λ (ms : List (List ℕ)). length ms) (messages_are_the_inputs n.setup.partitions n.rows p inside)

  -- ---- answers

  abbrev given : List Answered
  given = k.runs.ended.broker.answers

  as_many : length given ≡ length n.queries
  as_many =
      sym (length-map given (λ (x : Answered). x.query))
      ∙ ap (λ (l : List ℕ). length l) k.queries
      ∙ length-range_with_len 0 (length n.queries)

  -- the answer at a place is that of the query of this place
  number_at : (i : ℕ) (x : Answered) → slice_get given i ≡ Some x → i < length n.queries → x.query ≡ i
  number_at i x at inside =
      let long : length (range_with_len 0 (length n.queries)) ≡ length n.queries = length-range_with_len 0 (length n.queries) in
      same_Some x.query i
      (sym (slice_get-map (λ (y : Answered). y.query) given i ∙ ap (option_map (λ (y : Answered). y.query)) at)
      ∙ ap (λ (l : List ℕ). slice_get l i) k.queries
      ∙ slice_get-get_or (range_with_len 0 (length n.queries)) i i (omega (arith, long, inside))
      ∙ ap (λ (j : ℕ). Some j) (get_or-range_with_len 0 (length n.queries) i i inside ∙ (let first : 0 + i ≡ i = omega arith in first)))

  pub all_answered : (i : ℕ) (query : Query) → slice_get n.queries i ≡ Some query → IsAnsweredOverAll n answers i query
  all_answered i query asked =
      let inside : i < length n.queries = slice_get_within n.queries i query asked in
      let y = some_at given i (omega (arith, as_many, inside)) in
      let x = y.0 in
      let has = place-Has given i x y.1 in
      let whole = all_has (λ (z : Answered). IsWhole (whole_ranges n) z.answer) given x k.whole has in
      let own = (k.runs.right.answers x (inl has)).query in
      let same : x.asked.query ≡ query =
      same_Some x.asked.query query (sym own ∙ ap (slice_get n.queries) (number_at i x y.1 inside) ∙ asked) in
      record {
        answer = x.answer;
        there =
            ap (λ (l : List Answer). slice_get l i) (sym k.answered)
            ∙ slice_get-map (λ (z : Answered). z.answer) given i
            ∙ ap (option_map (λ (z : Answered). z.answer)) y.1;
        whole = whole;
        rows =
            k.runs.right.whole x (inl has) whole
            ∙ ap (λ (q : Query). aggregate q (all_rows n.setup.schema log)) same;
      }
