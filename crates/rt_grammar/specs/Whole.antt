-- The query of all its parts.
use Rattle.std.specs.Prelude.{map}
use Rattle.rt_model.specs.declared.query.Query.{Query}
use Rattle.rt_grammar.specs.declared.parts.Parts.{Parts}

abbrev pub query_with : Parts → Query
query_with parts = record { items = map (λ i. i.item) parts.items; filter = parts.filter; groups = map (λ g. g.column) parts.groups; order = map (λ k. k.key) parts.order; limit = parts.limit }
