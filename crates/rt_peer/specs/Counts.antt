-- Whose count of faults rose.
use Rattle.std.specs.Prelude.{◌<◌, ◌⊎◌, List, [], ◌∷◌}
use Rattle.rt_deep.specs.Meaning.{Meaning as DeepMeaning}
use Rattle.rt_peer.specs.Meaning.{Meaning}

-- that of a peer
abbrev pub AnyRose : List Meaning → List Meaning → Type 0
AnyRose [] news = ⊥
AnyRose (old ∷ olds) [] = ⊥
AnyRose (old ∷ olds) (new ∷ news) = (old.faults < new.faults) ⊎ AnyRose olds news

-- that of the deep store, or of a peer
abbrev pub Rose : DeepMeaning → DeepMeaning → List Meaning → List Meaning → Type 0
Rose before after olds news = (before.faults < after.faults) ⊎ AnyRose olds news
