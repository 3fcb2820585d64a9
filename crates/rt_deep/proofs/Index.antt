-- What the map beside the list says.
use Rattle.std.proofs.Common.{◌≡◌, ℕ, List, [], ◌∷◌, ◌++◌, length, Option, Some, None, slice_get, Bool, true, false, cond, BTreeMap, String, bytes_eq, refl, sym, ap, subst, ◌∙◌, string_cmp, string_bytes}
use Rattle.std.specs.BTreeMap.{get_by_text, Updates, IsEmpty}
use Rattle.std.proofs.lemmas.Map.Text.{btree_map_updates_text}
use Rattle.std.proofs.lemmas.Slice.Eq.{bytes_eq-Decides}
use Rattle.rt_lists.proofs.Members.{slice_get-append, slice_get-push}
use Rattle.rt_deep.specs.declared.deep_put.DeepPut.{DeepPut}
use Rattle.rt_deep.specs.Files.{file_of}
use Rattle.rt_deep.specs.Index.{IsPlace, IsPlaceIn, IsIndex}
use Rattle.rt_deep.proofs.Files.{file_of-put, file_of-other}

-- a path without a place has no file
pub place_none : (files : List DeepPut) (path : List ℕ) (o : Option ℕ) → IsPlaceIn files path o → o ≡ None → None ≡ file_of files path
place_none files path None i e = sym i
place_none files path (Some place) i e = absurd (cc)

-- where the file of a path stands
pub place_some : (files : List DeepPut) (path : List ℕ) (o : Option ℕ) (place : ℕ) → IsPlaceIn files path o → o ≡ Some place → slice_get files place ≡ file_of files path
place_some files path None place i e = absurd (cc)
place_some files path (Some other) place i e = let same : place ≡ other = cc in rw same (i.stands ∙ sym i.is)

-- ---- one file more

at_put : (files : List DeepPut) (put : DeepPut) (place : ℕ) → file_of files put.path ≡ None → place ≡ length files → IsPlace (files ++ put ∷ []) put.path place
at_put files put place free is = record {
  file = put;
  is = file_of-put files put free;
  stands = rw is (slice_get-push files put);
}

elsewhere : (files : List DeepPut) (put : DeepPut) (path : List ℕ) (o : Option ℕ) → bytes_eq put.path path ≡ false → IsPlaceIn files path o → IsPlaceIn (files ++ put ∷ []) path o
elsewhere files put path None other i = file_of-other files put path other ∙ i
elsewhere files put path (Some place) other i = record {
  file = i.file;
  is = file_of-other files put path other ∙ i.is;
  stands = slice_get-append files (put ∷ []) place i.file i.stands;
}

by_path : (b : Bool) (files : List DeepPut) (put : DeepPut) (path : List ℕ) (place : ℕ) (o : Option ℕ) → bytes_eq put.path path ≡ b
    → IsPlace (files ++ put ∷ []) put.path place → IsPlaceIn files path o → IsPlaceIn (files ++ put ∷ []) path (cond b (Some place) o)
by_path true files put path place o e here i =
    let P : List ℕ → Type 0 = λ x. IsPlace (files ++ put ∷ []) x place in
    subst P ((bytes_eq-Decides put.path path).0 e) here
by_path false files put path place o e here i = elsewhere files put path o e i

-- the map after a put, beside the list after it
pub index_put : {Z : Type 0} (files items : List DeepPut) (m n : BTreeMap (String Z) ℕ) (key : String Z) (put : DeepPut) (place : ℕ) → items ≡ files ++ put ∷ [] → IsIndex files m
    → string_bytes key ≡ put.path → file_of files put.path ≡ None → place ≡ length files → Updates string_cmp m n key (Some place) → IsIndex items n
index_put files items m n key put place e i named free is u path =
    let at : get_by_text n path ≡ cond (bytes_eq put.path path) (Some place) (get_by_text m path) =
    btree_map_updates_text (string_bytes key) m n (Some place) u path
    ∙ ap (λ bs. cond (bytes_eq bs path) (Some place) (get_by_text m path)) named in
    rw e (rw at (by_path (bytes_eq put.path path) files put path place (get_by_text m path) refl (at_put files put place free is) (i path)))

-- nothing was put
pub index_empty : {Z : Type 0} (m : BTreeMap (String Z) ℕ) → IsEmpty m → IsIndex [] m
index_empty m none path = rw none
