use Rattle.std.proofs.Common.{◌++◌, ◌∷◌, [], List, refl, sym, ap, ◌∙◌}
use Rattle.rt_model.specs.declared.node.Seen.{Seen}
use Rattle.rt_model.specs.History.{next_version}
use Rattle.rt_store.specs.Meaning.{Told}
use Rattle.rt_store.proofs.Latest.{index_noted}
use Rattle.rt_store.proofs.memory_store.MemoryStore.append.Goals as goal

pub invariant_of-self-2 : goal.invariant_of-self-2
invariant_of-self-2 c =
    let w : Seen = record { key = c.args.key; version = c.next_version-version.result; node = c.args.node } in
    index_noted c.self.inside.writes.items _ c.self.inside.index c.note.new.self w _ _
    (c.push_reserved.ensures.items ∙ ap (λ (ws : List Seen). ws ++ w ∷ []) c.reserve.ensures.items)
    c.self.invariant
    (c.len-place.ensures ∙ c.self.inside.writes.ok.0)
    refl
    (c.next_version-version.ensures ∙ ap (λ (t : Told). next_version t.writes c.args.key) (sym c.self.view_is))
    refl
    c.in_ok-note.ensures.ok
