-- The desk that a script begins with, and desks whose settings and rows are of a schema.
use Rattle.std.specs.Prelude.{◌≡◌, [], false, Option, None, IfSome}
use Rattle.rt_desk.specs.declared.desk.Desk.{Desk}
use Rattle.rt_hybrid.specs.Table.{OfflineTable}
use Rattle.rt_schema.specs.declared.schema.Schema.{Schema}
use Rattle.rt_upconf.specs.Upsert.{IsUpsertConfig}
use Rattle.rt_upconf.specs.declared.upsert_config.UpsertConfig.{UpsertConfig}

-- by what the header says; no line left anything there
abbrev pub first_desk : Option UpsertConfig → Option OfflineTable → Desk
first_desk upsert hybrid = record { upsert = upsert; hybrid = hybrid; pause = false; jobs = []; rehearsing = None }

pub record IsDesk (schema : Schema) (desk : Desk) : Type 0 where
  pub upsert : IfSome desk.upsert (IsUpsertConfig schema)
  pub hybrid : IfSome desk.hybrid (λ table. table.schema ≡ schema)
