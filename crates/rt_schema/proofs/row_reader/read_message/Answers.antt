use Rattle.std.proofs.Common.{◌≡◌, Option, Some, IfSome, option_and_then, refl, true, subst}
use Rattle.std.specs.Str.{is_utf8}
use Rattle.std.proofs.lemmas.Str.{IsUtf8-from_is_utf8}
use Rattle.serde_json.specs.Read.{read}
use Rattle.rt_schema.specs.Row.{row_in}
use Rattle.rt_schema.specs.declared.row.Row.{Row}
use Rattle.rt_schema.proofs.Decoding.{no_row, row_of_flat}
use Rattle.rt_schema.proofs.row_reader.read_message.Goals as goal

pub returns-in_default-from_utf8 : goal.returns-in_default-from_utf8
returns-in_default-from_utf8 c = no_row c.args.schema.now c.args.message.now (λ utf8. absurd (c.in_default-from_utf8.ensures.cases.0 utf8))

pub returns-in-Some : goal.returns-in-Some
returns-in-Some c =
    let columns = c.as_slice-columns.result.now in
    let message = c.args.message.now in
    let known = c.in_ok-plain.ensures {u = tt} in
    let found = subst (λ (o : Option Row). IfSome o (λ row. option_and_then (row_in columns) (read message) ≡ Some row)) c.in-Some.is known.row in
    let utf8 = subst (λ (o : Option Row). IfSome o (λ _. is_utf8 message ≡ true)) c.in-Some.is known.text in
    row_of_flat c.args.schema.now columns message message c.in-Some.plain c.as_slice-columns.ensures refl (IsUtf8-from_is_utf8 message utf8) found

pub returns-in-Some-2 : goal.returns-in-Some-2
returns-in-Some-2 c =
    let columns = c.as_slice-columns.result.now in
    let text = c.in-Ok.text.now in
    let found = subst (λ (o : Option Row). IfSome o (λ row. option_and_then (row_in columns) (read text) ≡ Some row)) c.in-Some-2.is (c.in_ok-row.ensures {u = tt}) in
    row_of_flat c.args.schema.now columns text c.args.message.now c.in-Some-2.row c.as_slice-columns.ensures c.in-Ok.ensures.cases.0 c.in-Ok.ensures.cases.1 found
