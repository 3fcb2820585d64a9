use Rattle.std.proofs.Common.{◌≡◌, ℕ, ◌↔◌, ◌<◌, ◌^◌, List, arith, sym, ◌∙◌, ap, subst, length, drop, zero-mul}
use Rattle.std.specs.Prelude.{All}
use Rattle.std.proofs.lemmas.List.{get_or_default}
use Rattle.rt_pack.specs.Bits.{all_bits, numbers_of, number_of}
use Rattle.rt_pack.specs.Packed.{packed, unpacked, spare_bits}
use Rattle.rt_pack.proofs.Writing.{unpack_more, left_more, left_enough}
use Rattle.rt_pack.proofs.BitLists.{AllFit}
use Rattle.rt_pack.proofs.Laws.{length_unpacked, AllFit_unpacked, packed_unpacked, spare_of_packed}
use Rattle.rt_pack.proofs.packing.unpack.Goals as goal
use Rattle.rt_pack.proofs.packing.unpack.Goals.{After-loop-row}

pub loop-row-init : goal.loop-row-init
loop-row-init c = record {
  ids = c.in_ok-ids.ensures.items;
  left = c.new-reader.ensures ∙ ap (λ n. drop n (all_bits 8 c.args.bytes.now)) (sym (zero-mul c.args.width));
}

pub take-requires-clause-there : goal.take-requires-clause-there
take-requires-clause-there c = left_enough c.args.width c.loop-row._row c.args.rows c.args.bytes.now c.loop-row.reader c.requires.there c.loop-row-test.true c.loop-row.invariant.left

pub loop-row-preserved : goal.loop-row-preserved
loop-row-preserved c =
    let bits = all_bits 8 c.args.bytes.now in
    record {
      ids = unpack_more c.args.width c.loop-row._row bits c.loop-row.ids.items c.push.new.self.items c.take.result c.loop-row.invariant.ids
          (c.take.ensures.value ∙ ap (λ left. number_of c.args.width left) c.loop-row.invariant.left) c.in_ok-push.ensures.items;
      left = left_more c.args.width c.loop-row._row bits c.loop-row.reader c.take.new.self c.loop-row.invariant.left c.take.ensures.rest;
    }

-- the ids that were read
all_read : (c : After-loop-row) → c.loop-row._row ≡ c.args.rows → c.loop-row.ids.items ≡ unpacked c.args.width c.args.rows c.args.bytes.now
all_read c e = c.loop-row.invariant.ids ∙ ap (λ rows. numbers_of c.args.width rows (all_bits 8 c.args.bytes.now)) e

pub returns-clause-value : goal.returns-clause-value
returns-clause-value c = all_read c (omega arith)

pub returns-clause-row_count : goal.returns-clause-row_count
returns-clause-row_count c = subst (λ ids. length ids ≡ c.args.rows) (sym (all_read c (omega arith))) (length_unpacked c.args.width c.args.rows c.args.bytes.now)

pub returns-clause-fit : goal.returns-clause-fit
returns-clause-fit c = subst (AllFit c.args.width) (sym (all_read c (omega arith))) (AllFit_unpacked c.args.width c.args.rows c.args.bytes.now)

pub returns-clause-packs : goal.returns-clause-packs
returns-clause-packs c len =
    let bytes = c.args.bytes.now in
    let width = c.args.width in
    let rows = c.args.rows in
    let P : List ℕ → Type 0 = λ ids. (packed width ids ≡ bytes) ↔ All (λ bit. bit ≡ 0) (spare_bits width rows bytes) in
    subst P (sym (all_read c (omega arith)))
    (spare_of_packed width rows bytes, packed_unpacked width rows bytes (λ k d l. subst (λ b. b < 2 ^ 8) (get_or_default bytes k 0 d l) (omega (arith, c.type_inv.bytes k))) len)
