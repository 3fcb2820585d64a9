-- What a call answers and puts, over the files on which it stands.
use Rattle.std.specs.Prelude.{◌≡◌, ◌⊎◌, ℕ, List, [], ◌∷◌, ◌++◌, if◌then◌else◌, Option, Some, None, unwrap_or, Result, Ok, Err}
use Rattle.std.specs.Str.{bytes_eq}
use Rattle.sha2.specs.Sha256.{sha256}
use Rattle.rt_deep.specs.declared.deep_put.DeepPut.{DeepPut}
use Rattle.rt_deep.specs.declared.refused.DeepRefused.{DeepRefused}
use Rattle.rt_deep.specs.declared.refused.DeepRefused.TheVariants.{Absent, OtherBytes}
use Rattle.rt_deep.specs.Files.{file_of}

-- what a get finds
abbrev pub found_in : Option DeepPut → Result (List ℕ) DeepRefused
found_in None = Err Absent
found_in (Some file) = Ok file.bytes

abbrev pub getting : List ℕ → List DeepPut → Result (List ℕ) DeepRefused
getting path files = found_in (file_of files path)

-- what a put of these bytes answers where a file stands
abbrev pub compared : List ℕ → List ℕ → Result (Unit {0}) DeepRefused
compared kept offered =
    if bytes_eq kept offered then Ok tt else Err (OtherBytes (sha256 kept) (sha256 offered))

abbrev pub compared_in : Option DeepPut → List ℕ → Option (Result (Unit {0}) DeepRefused)
compared_in None offered = None
compared_in (Some file) offered = Some (compared file.bytes offered)

abbrev pub putting : DeepPut → List DeepPut → Result (Unit {0}) DeepRefused
putting put files = unwrap_or (compared_in (file_of files put.path) put.bytes) (Ok tt)

-- the files after a put: one more where nothing stood at its path
abbrev pub after_beside : Option DeepPut → List DeepPut → DeepPut → List DeepPut
after_beside None files put = files ++ put ∷ []
after_beside (Some file) files put = files

abbrev pub after_put : DeepPut → List DeepPut → List DeepPut
after_put put files = after_beside (file_of files put.path) files put

-- what a put may leave: what was there, or that and its own file, where nothing stood at its path
abbrev pub Leaves : DeepPut → List DeepPut → List DeepPut → Type 0
Leaves put base now = (now ≡ base) ⊎ ((file_of base put.path ≡ None) × (now ≡ base ++ put ∷ []))
