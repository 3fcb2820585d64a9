-- The map beside the list of files: where the file of each path stands.
use Rattle.std.specs.Prelude.{◌≡◌, ℕ, List, Option, Some, None, String, slice_get}
use Rattle.std.specs.BTreeMap.{BTreeMap, get_by_text}
use Rattle.rt_deep.specs.declared.deep_put.DeepPut.{DeepPut}
use Rattle.rt_deep.specs.Files.{file_of}

-- the file of a path, and that it stands at a place
pub record IsPlace (files : List DeepPut) (path : List ℕ) (place : ℕ) : Type 0 where
  pub file : DeepPut
  pub is : file_of files path ≡ Some file
  pub stands : slice_get files place ≡ Some file

abbrev pub IsPlaceIn : List DeepPut → List ℕ → Option ℕ → Type 0
IsPlaceIn files path None = file_of files path ≡ None
IsPlaceIn files path (Some place) = IsPlace files path place

-- the map has the place of each file, and no other path
abbrev pub IsIndex : {Z : Type 0} → List DeepPut → BTreeMap (String Z) ℕ → Type 0
IsIndex files m = (path : List ℕ) → IsPlaceIn files path (get_by_text m path)
