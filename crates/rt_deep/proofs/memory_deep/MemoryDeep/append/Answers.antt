use Rattle.std.proofs.Common.{◌≡◌, ◌++◌, ◌∷◌, [], List, None, sym, ap, subst, ◌∙◌}
use Rattle.rt_deep.specs.declared.deep_put.DeepPut.{DeepPut}
use Rattle.rt_deep.specs.Files.{file_of, AreOnce}
use Rattle.rt_deep.specs.Meaning.{Told}
use Rattle.rt_deep.proofs.Files.{once_more}
use Rattle.rt_deep.proofs.Index.{index_put}
use Rattle.rt_deep.proofs.memory_deep.MemoryDeep.append.Goals as goal

pub invariant_of-self-in-Ok : goal.invariant_of-self-in-Ok
invariant_of-self-in-Ok c =
    let files : List DeepPut = c.self.inside.files.items in
    let put : DeepPut = c.args.put in
    let items : c.push_reserved.new.self.items ≡ files ++ put ∷ [] =
    c.push_reserved.ensures.items ∙ ap (λ (xs : List DeepPut). xs ++ put ∷ []) c.reserve.ensures.items in
    let free : file_of files put.path ≡ None = ap (λ (t : Told). file_of t.files put.path) c.self.view_is ∙ c.requires.free in (
      index_put files _ c.self.inside.places c.insert.new.self c.args.key put _
          items
          c.self.invariant.0
          c.requires.key
          free
          (c.len-place.ensures ∙ c.self.inside.files.ok.0)
          c.in-Ok.ensures.updates,
      subst AreOnce (sym items) (once_more files put c.self.invariant.1 free),
    )
