-- No header of a script is refused by the limit of the input, with the desk that it makes.
use Rattle.std.proofs.Common.{List, Option, Result, Ok, Err}
use Rattle.rt_desk.specs.declared.desk.Desk.{Desk}
use Rattle.rt_lines.proofs.HeaderLimits.{IsWithin, cluster_within, is_other, numbered_other, read_within, stopped_within, tables_within, then_within}
use Rattle.rt_lines.specs.Header.{NumberedLine, TableSaid, setup_in, tables_of}
use Rattle.rt_lines.specs.Lines.{ScriptLines}
use Rattle.rt_lines.specs.declared.line_reason.LineReason.TheVariants.{Upsert}
use Rattle.rt_lines.specs.declared.play_fault.PlayFault.{PlayFault}
use Rattle.rt_model.specs.declared.setup.Setup.{Setup}
use Rattle.rt_play.specs.Beginning.{beginning_behind, beginning_of, desk_by, desk_of, with_desk}
use Rattle.rt_upconf.specs.Refused.{number_of as upsert_number}
use Rattle.rt_upconf.specs.Upsert.{upsert_of}
use Rattle.rt_upconf.specs.declared.upsert_config.UpsertConfig.{UpsertConfig}
use Rattle.rt_upconf.specs.declared.upsert_refused.UpsertRefused.{UpsertRefused}

desk_within : (said : TableSaid) (r : Result (Option UpsertConfig) UpsertRefused) → IsWithin (desk_by said r)
desk_within said (Ok upsert) = read_within _
desk_within said (Err why) = stopped_within _ (numbered_other Upsert said.line (upsert_number why))

beside_within : (desk : Desk) (r : Result (Setup × List NumberedLine) PlayFault) → IsWithin r → IsWithin (with_desk desk r)
beside_within desk (Ok x) f = read_within _
beside_within desk (Err why) f = stopped_within why (is_other why f)

behind_within : (said : TableSaid) (script : ScriptLines) → IsWithin (beginning_behind said script)
behind_within said script =
    then_within (desk_of said) (λ desk. with_desk desk (setup_in said script)) (desk_within said (upsert_of said.schema said.schema_text said.table_text))
    (λ desk. beside_within desk (setup_in said script) (cluster_within said script))

pub beginning_within : (script : ScriptLines) → IsWithin (beginning_of script)
beginning_within script =
    then_within (tables_of script) (λ said. beginning_behind said.0 (record { lines = said.1; after = script.after })) (tables_within script)
    (λ said. behind_within said.0 (record { lines = said.1; after = script.after }))
