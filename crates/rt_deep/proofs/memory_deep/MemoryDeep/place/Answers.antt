use Rattle.std.proofs.Common.{◌≡◌, ◌∙◌, ℕ, Option, sym, subst}
use Rattle.std.specs.BTreeMap.{get_by_text}
use Rattle.rt_deep.specs.Index.{IsPlaceIn}
use Rattle.rt_deep.specs.Meaning.{Told}
use Rattle.rt_deep.proofs.memory_deep.MemoryDeep.place.Goals as goal

pub returns : goal.returns
returns c =
    let P : Option ℕ → Type 0 = λ o. IsPlaceIn c.self.inside.files.items c.args.path.now o in
    let Q : Told → Type 0 = λ t. IsPlaceIn t.files c.args.path.now c.copied.result in
    let at : get_by_text c.self.inside.places c.args.path.now ≡ c.copied.result = sym (c.copied.ensures ∙ c.get.ensures.value) in
    subst Q c.self.view_is (subst P at (c.self.invariant.0 c.args.path.now))
