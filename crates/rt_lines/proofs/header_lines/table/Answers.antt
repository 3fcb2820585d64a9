use Rattle.std.proofs.Common.{◌≡◌, ◌∙◌, Err, sym, ap, subst}
use Rattle.rt_schema.specs.SchemaText.{Answers}
use Rattle.rt_schema.specs.TableText.{table_of}
use Rattle.rt_lines.specs.Header.{SchemaSaid, text_behind}
use Rattle.rt_lines.proofs.Headers.{table_refused}
use Rattle.rt_lines.proofs.header_lines.table.Goals as goal

pub returns : goal.returns
returns c =
    let behind = sym (ap (λ word. text_behind word c.args.line.now) c.as_slice.ensures) ∙ c.in-Some.ensures.some in
    let same : c.said.inside.schema ≡ c.args.said.schema = ap SchemaSaid.schema c.said.view_is in
    let answers = subst (λ schema. Answers (table_of schema c.in-Some.text.now) (Err c.in-Err.refused)) same c.in-Err.ensures.table in
    table_refused c.args.said c.args.number c.args.line.now c.in-Some.text.now c.in-Err.refused c.table_fault.result behind answers c.table_fault.ensures
