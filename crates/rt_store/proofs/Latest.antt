-- What the index beside the list says.
use Rattle.std.proofs.Common.{◌≡◌, ◌+◌, ◌≤◌, List, [], ◌∷◌, ◌++◌, length, Option, Some, None, is_some, slice_get, Bool, true, false, true≢false, Ordering, Less, Equal, Greater, cond, is_eq, refl, sym, ap, ◌∙◌, arith, length-append}
use Rattle.std.specs.BTreeMap.{get}
use Rattle.std.specs.BTreeSet.{contains}
use Rattle.std.proofs.lemmas.List.Sums.{length-filter, count_by-le-length}
use Rattle.rt_lists.proofs.Members.{slice_get-append, slice_get-push}
use Rattle.rt_model.specs.declared.node.Key.{Key}
use Rattle.rt_model.specs.declared.node.Node.{Node}
use Rattle.rt_model.specs.declared.node.Node.TheVariants as node
use Rattle.rt_model.specs.declared.node.Seen.{Seen}
use Rattle.rt_model.specs.History.{same_key, last_write, next_version, value_by, value_in, value_of}
use Rattle.rt_model.proofs.Histories.{writes_of-more, writes_of-other, last_write-more, last_write-other}
use Rattle.rt_store.specs.declared.index.Index.{Index}
use Rattle.rt_store.specs.declared.index.Latest.{Latest}
use Rattle.rt_store.specs.Order.{key_cmp}
use Rattle.rt_store.specs.Index.{IsLatest, IsLatestIn, IsIndex, IsBlank, Notes, is_there}
use Rattle.rt_store.proofs.Keys.{same_from_order, order_of_same}

equal_from_is_eq : (o : Ordering) → is_eq o ≡ true → o ≡ Equal
equal_from_is_eq Less e = absurd (cc)
equal_from_is_eq Equal e = refl
equal_from_is_eq Greater e = absurd (cc)

-- where the last write of a key stands
pub last_some : (h : List Seen) (k : Key) (o : Option Latest) (l : Latest) → IsLatestIn h k o → Some l ≡ o → slice_get h l.place ≡ last_write h k
last_some h k None l i e = absurd (cc)
last_some h k (Some x) l i e = let same : l ≡ x = cc in rw same (i.stands ∙ sym i.last)

pub count_none : (h : List Seen) (k : Key) (o : Option Latest) → IsLatestIn h k o → None ≡ o → 0 ≡ next_version h k
count_none h k None i e = sym (ap length i)
count_none h k (Some l) i e = absurd (cc)

pub count_some : (h : List Seen) (k : Key) (o : Option Latest) (l : Latest) → IsLatestIn h k o → Some l ≡ o → l.version + 1 ≡ next_version h k
count_some h k None l i e = absurd (cc)
count_some h k (Some x) l i e = let same : l ≡ x = cc in rw same i.count

-- a key has no more writes than there are
pub version_fits : (h : List Seen) (k : Key) (o : Option Latest) (l : Latest) → IsLatestIn h k o → Some l ≡ o → l.version + 1 ≤ length h
version_fits h k o l i e = omega (arith, count_some h k o l i e, length-filter (λ (w : Seen). same_key w.key k) h, count_by-le-length (λ (w : Seen). same_key w.key k) h)

-- ---- one write more

at_written : (h : List Seen) (w : Seen) (q : Key) (l : Latest) → w.key ≡ q → l.place ≡ length h → w.version ≡ l.version → l.version ≡ next_version h q
    → IsLatest (h ++ w ∷ []) q l
at_written h w q l is place version next = record {
  write = w;
  last = last_write-more h w q is;
  stands = rw place (slice_get-push h w);
  version = version;
  count = rw (writes_of-more h w q is, length-append) (omega (arith, next));
}

elsewhere : (h : List Seen) (w : Seen) (q : Key) (o : Option Latest) → (w.key ≡ q → ⊥) → IsLatestIn h q o → IsLatestIn (h ++ w ∷ []) q o
elsewhere h w q None other i = writes_of-other h w q other ∙ i
elsewhere h w q (Some l) other i = record {
  write = i.write;
  last = last_write-other h w q other ∙ i.last;
  stands = slice_get-append h (w ∷ []) l.place i.write i.stands;
  version = i.version;
  count = rw (writes_of-other h w q other) i.count;
}

by_tie : (b : Bool) (h : List Seen) (w : Seen) (q : Key) (l : Latest) (o : Option Latest) → is_eq (key_cmp w.key q) ≡ b
    → (w.key ≡ q → IsLatest (h ++ w ∷ []) q l) → IsLatestIn h q o → IsLatestIn (h ++ w ∷ []) q (cond b (Some l) o)
by_tie true h w q l o e here i = here (same_from_order w.key q (equal_from_is_eq (key_cmp w.key q) e))
by_tie false h w q l o e here i = elsewhere h w q o (λ same. true≢false (sym (ap is_eq (order_of_same w.key q same)) ∙ e)) i

-- ---- which keys are there

value_shown : (n : Node) (w : Seen) → is_some (value_by n w) ≡ is_there n
value_shown (node.Meta m) w = refl
value_shown (node.Ideal i) w = refl
value_shown node.Boot w = refl
value_shown node.Gone w = refl

at_tie : (b there : Bool) (h : List Seen) (w : Seen) (q : Key) (before : Bool) → is_eq (key_cmp w.key q) ≡ b
    → there ≡ is_there w.node → before ≡ is_some (value_of h q)
    → cond b there before ≡ is_some (value_of (h ++ w ∷ []) q)
at_tie true there h w q before e is was =
    let same : w.key ≡ q = same_from_order w.key q (equal_from_is_eq (key_cmp w.key q) e) in
    is ∙ sym (value_shown w.node w) ∙ ap (λ o. is_some (value_in o)) (sym (last_write-more h w q same))
at_tie false there h w q before e is was =
    let other : w.key ≡ q → ⊥ = λ same. true≢false (sym (ap is_eq (order_of_same w.key q same)) ∙ e) in
    was ∙ ap (λ o. is_some (value_in o)) (sym (last_write-other h w q other))

-- ---- the index after a write

-- beside the list after it
pub index_noted : (h items : List Seen) (i j : Index) (w : Seen) (l : Latest) (there : Bool) → items ≡ h ++ w ∷ [] → IsIndex h i → l.place ≡ length h → w.version ≡ l.version → l.version ≡ next_version h w.key
    → there ≡ is_there w.node → Notes i j w.key l there → IsIndex items j
index_noted h items i j w l there e index place version next is notes = (
  λ q. rw (e, (notes q).0) (by_tie (is_eq (key_cmp w.key q)) h w q l (get key_cmp i.latest q) refl (λ same. at_written h w q l same place version (next ∙ ap (next_version h) same)) (index.0 q)),
  λ q. (notes q).1 ∙ at_tie (is_eq (key_cmp w.key q)) there h w q (contains key_cmp i.present q) refl is (index.1 q) ∙ ap (λ (l : List Seen). is_some (value_of l q)) (sym e),
)

-- nothing was written
pub index_empty : (i : Index) → IsBlank i → IsIndex [] i
index_empty i blank = (λ k. rw ((blank k).0) refl, λ k. (blank k).1)

-- ---- the set, where the map could take no more

pub taken_back : (before after now : Bool) (same : Bool) → (same ≡ true → before ≡ false) → after ≡ cond same true before → now ≡ cond same false after → now ≡ before
taken_back before after now true is e f = f ∙ sym (is refl)
taken_back before after now false is e f = f ∙ e
