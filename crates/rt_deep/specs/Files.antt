-- The files of a deep store, in the order in which they were put.
use Rattle.std.specs.Prelude.{◌≡◌, ℕ, List, [], ◌∷◌, Option, None}
use Rattle.std.specs.List.{find}
use Rattle.std.specs.Str.{bytes_eq}
use Rattle.rt_deep.specs.declared.deep_put.DeepPut.{DeepPut}

-- the file at a path, which is its first one
abbrev pub file_of : List DeepPut → List ℕ → Option DeepPut
file_of files path = find (λ file. bytes_eq file.path path) files

-- no path has two files
abbrev pub AreOnce : List DeepPut → Type 0
AreOnce [] = Unit {0}
AreOnce (file ∷ files) = (file_of files file.path ≡ None) × AreOnce files
