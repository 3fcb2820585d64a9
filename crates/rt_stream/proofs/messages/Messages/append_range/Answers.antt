use Rattle.std.proofs.Common.{◌≡◌, ◌+◌, ◌-◌, ◌∷◌, ◌++◌, length, take, drop, get_or, ap, ◌∙◌, arith, length-append, length-drop}
use Rattle.std.proofs.lemmas.List.{length-take}
use Rattle.rt_stream.proofs.Ranges.{place_within, range_within, span_within, AreEnds-range, AreEnds-more, cut-range}
use Rattle.rt_stream.proofs.messages.Messages.append_range.Goals as goal

pub start_of-start-requires : goal.start_of-start-requires
start_of-start-requires c =
    let within = place_within c.page.inside.ends.items c.page.inside.bytes.items c.args.page.now
    c.args.to c.page.view_is c.requires.within in
    omega (arith, within, c.requires.order, ap (λ m. length m) c.deref.ensures.value)

pub start_of-end-requires : goal.start_of-end-requires
start_of-end-requires c =
    let within = place_within c.page.inside.ends.items c.page.inside.bytes.items c.args.page.now
    c.args.to c.page.view_is c.requires.within in
    omega (arith, within, ap (λ m. length m) c.deref-2.ensures.value)

pub overflow_sub-end : goal.overflow_sub-end
overflow_sub-end c =
    let ends = c.page.inside.ends.items in
    let start : c.start_of-start.result ≡ get_or (0 ∷ ends) c.args.from 0 =
    c.start_of-start.ensures
    ∙ ap (λ m. get_or (0 ∷ m) c.args.from 0) c.deref.ensures.value in
    let end : c.start_of-end.result ≡ get_or (0 ∷ ends) c.args.to 0 =
    c.start_of-end.ensures ∙ ap (λ m. get_or (0 ∷ m) c.args.to 0) c.deref-2.ensures.value in
    let facts = span_within ends c.page.inside.bytes.items c.args.page.now c.args.from c.args.to
    c.start_of-start.result c.start_of-end.result c.page.invariant c.page.view_is
    c.requires.order c.requires.within start end in
    facts.0

pub slice_bounds-extend_from_slice-count : goal.slice_bounds-extend_from_slice-count
slice_bounds-extend_from_slice-count c =
    let ends = c.page.inside.ends.items in
    let start : c.start_of-start.result ≡ get_or (0 ∷ ends) c.args.from 0 =
    c.start_of-start.ensures
    ∙ ap (λ m. get_or (0 ∷ m) c.args.from 0) c.deref.ensures.value in
    let end : c.start_of-end.result ≡ get_or (0 ∷ ends) c.args.to 0 =
    c.start_of-end.ensures ∙ ap (λ m. get_or (0 ∷ m) c.args.to 0) c.deref-2.ensures.value in
    let facts = span_within ends c.page.inside.bytes.items c.args.page.now c.args.from c.args.to
    c.start_of-start.result c.start_of-end.result c.page.invariant c.page.view_is
    c.requires.order c.requires.within start end in
    facts.0

pub slice_bounds-extend_from_slice-start : goal.slice_bounds-extend_from_slice-start
slice_bounds-extend_from_slice-start c =
    let ends = c.page.inside.ends.items in
    let start : c.start_of-start.result ≡ get_or (0 ∷ ends) c.args.from 0 =
    c.start_of-start.ensures
    ∙ ap (λ m. get_or (0 ∷ m) c.args.from 0) c.deref.ensures.value in
    let end : c.start_of-end.result ≡ get_or (0 ∷ ends) c.args.to 0 =
    c.start_of-end.ensures ∙ ap (λ m. get_or (0 ∷ m) c.args.to 0) c.deref-2.ensures.value in
    let facts = span_within ends c.page.inside.bytes.items c.args.page.now c.args.from c.args.to
    c.start_of-start.result c.start_of-end.result c.page.invariant c.page.view_is
    c.requires.order c.requires.within start end in
    omega (arith, facts.0, facts.1, ap (λ m. length m) c.deref-3.ensures.value)

pub slice_bounds-extend_from_slice-end : goal.slice_bounds-extend_from_slice-end
slice_bounds-extend_from_slice-end c =
    let ends = c.page.inside.ends.items in
    let start : c.start_of-start.result ≡ get_or (0 ∷ ends) c.args.from 0 =
    c.start_of-start.ensures
    ∙ ap (λ m. get_or (0 ∷ m) c.args.from 0) c.deref.ensures.value in
    let end : c.start_of-end.result ≡ get_or (0 ∷ ends) c.args.to 0 =
    c.start_of-end.ensures ∙ ap (λ m. get_or (0 ∷ m) c.args.to 0) c.deref-2.ensures.value in
    let facts = span_within ends c.page.inside.bytes.items c.args.page.now c.args.from c.args.to
    c.start_of-start.result c.start_of-end.result c.page.invariant c.page.view_is
    c.requires.order c.requires.within start end in
    omega (arith, facts.0, facts.1, ap (λ m. length m) c.deref-3.ensures.value)

pub offset_bounds-deref-from : goal.offset_bounds-deref-from
offset_bounds-deref-from c =
    let within = place_within c.page.inside.ends.items c.page.inside.bytes.items c.args.page.now
    c.args.to c.page.view_is c.requires.within in
    omega (arith, within, c.requires.order, c.page.inside.ends.ok.0)

pub slice_bounds-push_shifted-end : goal.slice_bounds-push_shifted-end
slice_bounds-push_shifted-end c =
    let within = place_within c.page.inside.ends.items c.page.inside.bytes.items c.args.page.now
    c.args.to c.page.view_is c.requires.within in
    omega (arith, within, c.requires.order, ap (λ m. length m) c.deref-4.ensures.value)

pub push_shifted-requires-clause-ends : goal.push_shifted-requires-clause-ends
push_shifted-requires-clause-ends c =
    let ends = c.page.inside.ends.items in
    let start : c.start_of-start.result ≡ get_or (0 ∷ ends) c.args.from 0 =
    c.start_of-start.ensures
    ∙ ap (λ m. get_or (0 ∷ m) c.args.from 0) c.deref.ensures.value in
    let end : c.start_of-end.result ≡ get_or (0 ∷ ends) c.args.to 0 =
    c.start_of-end.ensures ∙ ap (λ m. get_or (0 ∷ m) c.args.to 0) c.deref-2.ensures.value in
    let within = place_within c.page.inside.ends.items c.page.inside.bytes.items c.args.page.now
    c.args.to c.page.view_is c.requires.within in
    rw (start, end, c.deref-4.ensures.value)
    (AreEnds-range 0 ends (length c.page.inside.bytes.items) c.args.from c.args.to
    c.page.invariant c.requires.order within)

pub invariant_of-self-2 : goal.invariant_of-self-2
invariant_of-self-2 c =
    let ends = c.page.inside.ends.items in
    let start : c.start_of-start.result ≡ get_or (0 ∷ ends) c.args.from 0 =
    c.start_of-start.ensures
    ∙ ap (λ m. get_or (0 ∷ m) c.args.from 0) c.deref.ensures.value in
    let end : c.start_of-end.result ≡ get_or (0 ∷ ends) c.args.to 0 =
    c.start_of-end.ensures ∙ ap (λ m. get_or (0 ∷ m) c.args.to 0) c.deref-2.ensures.value in
    let within = place_within c.page.inside.ends.items c.page.inside.bytes.items c.args.page.now
    c.args.to c.page.view_is c.requires.within in
    let base : c.in_ok-base.base ≡ length c.self.inside.bytes.items =
    c.in_ok-base.ensures.0 ∙ c.len.ensures ∙ c.self.inside.bytes.ok.0 in
    let page = c.page.inside.bytes.items in
    let first = get_or (0 ∷ ends) c.args.from 0 in
    let last = get_or (0 ∷ ends) c.args.to 0 in
    let facts = range_within ends (length page) c.args.from c.args.to c.page.invariant
    c.requires.order within in
    let tail : length (take (last - first) (drop first page)) ≡ last - first =
    omega (arith, facts.0, facts.1, length-drop first page, length-take (last - first) (drop first page)) in
    let size : length (c.self.inside.bytes.items ++ take (last - first) (drop first page))
    ≡ length c.self.inside.bytes.items + (last - first) =
    length-append c.self.inside.bytes.items (take (last - first) (drop first page))
    ∙ ap (λ n. length c.self.inside.bytes.items + n) tail in
    rw (
      c.push_shifted.ensures,
      c.in_ok-reserve.ensures.items,
      c.deref-4.ensures.value,
      c.in_ok-extend_from_slice.ensures.items,
      c.deref-3.ensures.value,
      base,
      start,
      end,
      size,
    )
    (AreEnds-more c.self.inside.ends.items (length c.self.inside.bytes.items) ends (length page)
    c.args.from c.args.to c.self.invariant c.page.invariant c.requires.order within)

pub returns-clause-ok : goal.returns-clause-ok
returns-clause-ok c =
    let ends = c.page.inside.ends.items in
    let start : c.start_of-start.result ≡ get_or (0 ∷ ends) c.args.from 0 =
    c.start_of-start.ensures
    ∙ ap (λ m. get_or (0 ∷ m) c.args.from 0) c.deref.ensures.value in
    let end : c.start_of-end.result ≡ get_or (0 ∷ ends) c.args.to 0 =
    c.start_of-end.ensures ∙ ap (λ m. get_or (0 ∷ m) c.args.to 0) c.deref-2.ensures.value in
    let within = place_within c.page.inside.ends.items c.page.inside.bytes.items c.args.page.now
    c.args.to c.page.view_is c.requires.within in
    let base : c.in_ok-base.base ≡ length c.self.inside.bytes.items =
    c.in_ok-base.ensures.0 ∙ c.len.ensures ∙ c.self.inside.bytes.ok.0 in
    rw (
      c.push_shifted.ensures,
      c.in_ok-reserve.ensures.items,
      c.deref-4.ensures.value,
      c.in_ok-extend_from_slice.ensures.items,
      c.deref-3.ensures.value,
      base,
      start,
      end,
      ← c.self.view_is,
      ← c.page.view_is,
    )
    (cut-range c.self.inside.ends.items c.self.inside.bytes.items ends c.page.inside.bytes.items
    c.args.from c.args.to c.self.invariant c.page.invariant c.requires.order within)
