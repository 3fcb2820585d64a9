-- The file at a path, as the list of files grows.
use Rattle.std.proofs.Common.{◌≡◌, ℕ, List, [], ◌∷◌, ◌++◌, Option, Some, None, Bool, true, false, cond, bytes_eq, refl, ap, ◌∙◌}
use Rattle.std.specs.Option.{option_or}
use Rattle.std.proofs.lemmas.Cmp.{nat_list_eq_equiv}
use Rattle.std.proofs.lemmas.List.Folds.{find-append}
use Rattle.rt_lists.specs.Members.{IsFront}
use Rattle.rt_deep.specs.declared.deep_put.DeepPut.{DeepPut}
use Rattle.rt_deep.specs.Files.{file_of, AreOnce}

abbrev stands_at : List ℕ → DeepPut → Bool
stands_at path file = bytes_eq file.path path

-- a file that is put where nothing stands is there
pub file_of-put : (files : List DeepPut) (put : DeepPut) → file_of files put.path ≡ None → file_of (files ++ put ∷ []) put.path ≡ Some put
file_of-put files put free =
    find-append (stands_at put.path) files (put ∷ [])
    ∙ ap (λ (o : Option DeepPut). option_or o (file_of (put ∷ []) put.path)) free
    ∙ ap (λ b. cond b (Some put) None) (nat_list_eq_equiv.refl put.path)

option_or-none : (o : Option DeepPut) → option_or o None ≡ o
option_or-none None = refl
option_or-none (Some file) = refl

-- and changes nothing at another path
pub file_of-other : (files : List DeepPut) (put : DeepPut) (path : List ℕ) → bytes_eq put.path path ≡ false → file_of (files ++ put ∷ []) path ≡ file_of files path
file_of-other files put path other =
    find-append (stands_at path) files (put ∷ [])
    ∙ ap (λ b. option_or (file_of files path) (cond b (Some put) None)) other
    ∙ option_or-none (file_of files path)

-- what stands at a path stays there
pub file_of-stays : (old new : List DeepPut) (path : List ℕ) (file : DeepPut) → IsFront old new → file_of old path ≡ Some file → file_of new path ≡ Some file
file_of-stays old new path file g e =
    ap (λ (files : List DeepPut). file_of files path) g.1
    ∙ find-append (stands_at path) old g.0
    ∙ ap (λ (o : Option DeepPut). option_or o (file_of g.0 path)) e

not_first : (b : Bool) (file : DeepPut) (o : Option DeepPut) → cond b (Some file) o ≡ None → (b ≡ false) × (o ≡ None)
not_first true file o e = absurd (cc)
not_first false file o e = (refl, e)

-- a path has one file still
pub once_more : (files : List DeepPut) (put : DeepPut) → AreOnce files → file_of files put.path ≡ None → AreOnce (files ++ put ∷ [])
once_more [] put once free = (refl, tt)
once_more (file ∷ files) put once free =
    let both = not_first (bytes_eq file.path put.path) file (file_of files put.path) free in
    let apart : bytes_eq put.path file.path ≡ false = nat_list_eq_equiv.symm put.path file.path ∙ both.0 in
    (file_of-other files put file.path apart ∙ once.0, once_more files put once.1 both.1)
