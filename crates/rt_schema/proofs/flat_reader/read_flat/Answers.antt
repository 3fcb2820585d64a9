use Rattle.std.proofs.Common.{◌≡◌, [], ◌∷◌, true, arith}
use Rattle.std.proofs.lemmas.Result.{IfOk-weaker}
use Rattle.json.specs.Lex.{tokens}
use Rattle.json.specs.Token.{Token}
use Rattle.rt_schema.specs.Flat.{IsRead}
use Rattle.rt_schema.proofs.Flat.{flat_row}
use Rattle.rt_schema.proofs.flat_reader.read_flat.Goals as goal

pub returns : goal.returns
returns c =
    let starts : tokens c.args.text.now ≡ Token.begin_object ∷ c.next.new.self = grind (arith, c.in_ok-reader.ensures.ok, c.in-Some-BeginObject.ensures.value, c.in-Some-BeginObject.is) in
    let all : c.in_ok-read_members.field-0 ≡ true = grind (arith, c.if-not-branch.false) in
    let reads : IsRead c.args.columns.now c.next.new.self c.read_members.new.reader c.read_members.new.found = c.in_ok-read_members.ensures {u = tt} all in
    let ends : c.read_members.new.reader ≡ [] = grind (arith, c.next-2.ensures.value, c.if-is_some.false) in
    IfOk-weaker c.row.result _ _ (λ row h. flat_row c.args.columns.now c.args.text.now c.next.new.self c.read_members.new.reader c.read_members.new.found row starts reads ends h) c.row.ensures
