use Rattle.std.proofs.Common.{◌≡◌, ◌∷◌, true, Some, None, arith}
use Rattle.json.specs.Json.{read_key}
use Rattle.json.specs.Reads.{token_of}
use Rattle.rt_schema.specs.Flat.{scalar_of, data_of, Puts}
use Rattle.rt_schema.proofs.Flat.{all_read, member_more, place_within}
use Rattle.rt_schema.proofs.flat_reader.read_members.Goals as goal

pub returns-in_default-key : goal.returns-in_default-key
returns-in_default-key c all =
    let l = c.members in
    let key : read_key l.reader ≡ Some (None, c.next_key.new.self) = grind (arith, c.in-Ok.ensures.value, c.in_default-key.is) in
    all_read c.args.columns.now c.args.reader.now l.reader c.next_key.new.self l.invariant.0 l.invariant.1 l.found l.invariant.2 key l.invariant.3 l.invariant.4

pub put-requires : goal.put-requires
put-requires c = let l = c.members in place_within c.args.columns.now c.in-Some.name.now c.place_of-place.result l.found l.invariant.1 c.place_of-place.ensures l.invariant.4

pub members-preserved : goal.members-preserved
members-preserved c =
    let l = c.members in
    let t = token_of c.in-Some-next.token in
    let key : read_key l.reader ≡ Some (Some c.in-Some.name.now, c.next_key.new.self) = grind (arith, c.in-Ok.ensures.value, c.in-Some.is) in
    let first : c.next_key.new.self ≡ t ∷ c.next.new.self = grind (arith, c.in-Some-next.ensures.value) in
    let scalar : c.in_ok-put.field-0 ≡ true = grind (arith, c.if-not-branch.false) in
    let puts : Puts c.place_of-place.result (scalar_of t) (data_of l.found) (data_of c.put.new.found) = c.in_ok-put.ensures {u = tt} scalar in
    member_more c.args.columns.now _ l.invariant.0 l.invariant.1 l.reader c.next_key.new.self c.next.new.self t c.in-Some.name.now c.place_of-place.result l.found c.put.new.found
    c.requires.names l.invariant.2 key first c.place_of-place.ensures puts l.invariant.3 l.invariant.4
