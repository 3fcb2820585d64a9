use Rattle.std.proofs.Common.{◌≡◌, ◌*◌, Some, sym, ap, ◌∙◌, arith}
use Rattle.rt_segment.specs.Reading.{first_past}
use Rattle.rt_segment.proofs.Ids.{past_within, bits_within}
use Rattle.rt_segment.proofs.ids_reader.check_ids.Goals as goal

pub overflow_add-result : goal.overflow_add-result
overflow_add-result c =
    let ids = c.in_ok-ids.ids.items in
    let found : first_past c.args.cardinality 0 ids ≡ Some c.in-Some.row = ap (first_past c.args.cardinality 0) (sym c.deref.ensures.value) ∙ sym c.past.ensures ∙ c.in-Some.is in
    let there = past_within c.args.cardinality 0 ids c.in-Some.row found in
    let most = bits_within c.args.width c.in-Some.row c.args.rows (omega (arith, there, c.in_ok-ids.ensures.row_count)) in
    let product : c.from.result * c.from-in-Some.result ≡ c.in-Some.row * c.args.width = ap (λ n. n * c.from-in-Some.result) c.from.ensures ∙ ap (λ n. c.in-Some.row * n) c.from-in-Some.ensures in
    rw product (omega (arith, most, c.requires.whole, c.requires.within))
