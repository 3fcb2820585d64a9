-- What a line that is passed over leaves as it was.
use Rattle.std.proofs.Common.{◌≡◌, Ok, ap, sym, ◌∙◌, subst}
use Rattle.rt_macros.specs.Doing.{Does, PassesOver}
use Rattle.rt_model.specs.Checked.{IsQuery}
use Rattle.rt_model.specs.declared.query.Query.{Query}
use Rattle.rt_schema.specs.declared.schema.Schema.{Schema}
use Rattle.rt_upconf.specs.Upsert.{IsUpsertConfig}
use Rattle.rt_upconf.specs.declared.upsert_config.UpsertConfig.{UpsertConfig}
use Rattle.rt_world.specs.Kept.{Kept}
use Rattle.rt_state.specs.declared.state.State.{State}

same_schema : (w : State) (new : Kept) → Does PassesOver w new (Ok tt) → w.setup.schema ≡ new.state.setup.schema
same_schema w new d = sym (ap (λ (s : State). s.setup.schema) d.1.came.by.0.2)

pub passed_schema : (schema : Schema) (w : State) (new : Kept) → Does PassesOver w new (Ok tt) → schema ≡ w.setup.schema → schema ≡ new.state.setup.schema
passed_schema schema w new d same = same ∙ same_schema w new d

pub passed_query : (query : Query) (w : State) (new : Kept) → Does PassesOver w new (Ok tt) → IsQuery w.setup.schema query → IsQuery new.state.setup.schema query
passed_query query w new d is = subst (λ schema. IsQuery schema query) (same_schema w new d) is

pub passed_config : (config : UpsertConfig) (w : State) (new : Kept) → Does PassesOver w new (Ok tt) → IsUpsertConfig w.setup.schema config
    → IsUpsertConfig new.state.setup.schema config
passed_config config w new d is = subst (λ schema. IsUpsertConfig schema config) (same_schema w new d) is
