-- What a table's entries are after one of them is put, taken out or changed.
use Rattle.std.proofs.Common.{◌≡◌, ◌⊎◌, inl, inr, ℕ, Bool, true, false, cond, List, [], ◌∷◌, Option, Some, refl, sym, ap, ◌∙◌}
use Rattle.std.specs.declared.cmp.Ordering.{Ordering}
use Rattle.std.specs.declared.cmp.Ordering.TheVariants.{Less, Equal, Greater}
use Rattle.std.specs.BTreeMap.{insert_entry, is_at}
use Rattle.std.specs.Cmp.{IsTotalOrder}
use Rattle.std.specs.List.{AllByRecursion}
use Rattle.std.specs.List.Sorted.{IsStrictlySortedBy}
use Rattle.std.specs.Map.{keys_of, lookup, remove_entry, set_value}
use Rattle.std.specs.Ordering.{is_eq, match_ordering, nat_cmp, ordering_reverse, ordering_then}
use Rattle.std.proofs.lemmas.Cmp.{nat_cmp_total, on_total, then_total, ranked, tied_itself}
use Rattle.rt_lists.specs.Members.{Has}
use Rattle.rt_model.proofs.Histories.{same_partition, same_sequence}
use Rattle.rt_server.specs.Table.{Segment, segment_cmp}

-- ---- the order of segments

abbrev pub at : {K X : Type 0} → K → X → K × X
at k v = (k, v)

nat_equal : (x y : ℕ) → nat_cmp x y ≡ Equal → x ≡ y
nat_equal x y e = ranked x y Equal (sym e)

then_equal : (a b : Ordering) → ordering_then a b ≡ Equal → (a ≡ Equal) × (b ≡ Equal)
then_equal Less b e = absurd (cc)
then_equal Equal b e = (refl, e)
then_equal Greater b e = absurd (cc)

pub segment_total : IsTotalOrder segment_cmp
segment_total = then_total (on_total (λ (s : Segment). s.0.0) nat_cmp_total) (on_total (λ (s : Segment). s.1.0) nat_cmp_total)

pub segment_exact : (a b : Segment) → segment_cmp a b ≡ Equal → a ≡ b
segment_exact a b e =
    let both = then_equal (nat_cmp a.0.0 b.0.0) (nat_cmp a.1.0 b.1.0) e in
    ap (λ p. at p a.1) (same_partition a.0 b.0 (nat_equal a.0.0 b.0.0 both.0))
    ∙ ap (at b.0) (same_sequence a.1 b.1 (nat_equal a.1.0 b.1.0 both.1))

-- ---- an entry of a table

equal_from : (r : Ordering) → is_eq r ≡ true → r ≡ Equal
equal_from Less e = absurd (cc)
equal_from Equal e = refl
equal_from Greater e = absurd (cc)

abbrev the : {X : Type 0} → X → Option X
the x = Some x

same_some : {X : Type 0} (x y : X) → the x ≡ the y → x ≡ y
same_some x y e = cc

either_later : {X : Type 0} (e x : X) (es : List X) (P : Type 0) → Has es x ⊎ P → Has (e ∷ es) x ⊎ P
either_later e x es P (inl h) = inl (inr h)
either_later e x es P (inr p) = inr p

module _ {K X : Type 0} (cmp : K → K → Ordering) (exact : (a b : K) → cmp a b ≡ Equal → a ≡ b) where
  -- an entry after one was put is that one, or was there
  pub Has-insert_entry : (es : List (K × X)) (k : K) (v : X) (x : K × X) → Has (insert_entry cmp es k v) x → Has es x ⊎ (at k v ≡ x)
  Has-insert_entry [] k v x (inl e) = inr e
  Has-insert_entry [] k v x (inr h) = absurd h
  Has-insert_entry (e ∷ es) k v x h = by (cmp k e.0) refl (λ g. Has-insert_entry es k v x g) h
    where
      by : (r : Ordering) → cmp k e.0 ≡ r → (Has (insert_entry cmp es k v) x → Has es x ⊎ (at k v ≡ x))
          → Has (match_ordering r ((k, v) ∷ e ∷ es) ((e.0, v) ∷ es) (e ∷ insert_entry cmp es k v)) x → Has (e ∷ es) x ⊎ (at k v ≡ x)
      by Less c f (inl same) = inr same
      by Less c f (inr g) = inl g
      by Equal c f (inl same) = inr (ap (λ z. at z v) (exact k e.0 c) ∙ same)
      by Equal c f (inr g) = inl (inr g)
      by Greater c f (inl same) = inl (inl same)
      by Greater c f (inr g) = either_later e x es (at k v ≡ x) (f g)

  -- an entry after the value of a key was changed is the changed one, or was there
  pub Has-set_value : (es : List (K × X)) (k : K) (v : X) (x : K × X) → Has (set_value (is_at (cmp k)) es v) x → Has es x ⊎ (at k v ≡ x)
  Has-set_value [] k v x h = absurd h
  Has-set_value (e ∷ es) k v x h = by (is_at (cmp k) e.0) refl (λ g. Has-set_value es k v x g) h
    where
      by : (b : Bool) → is_at (cmp k) e.0 ≡ b → (Has (set_value (is_at (cmp k)) es v) x → Has es x ⊎ (at k v ≡ x))
          → Has (cond b ((e.0, v) ∷ es) (e ∷ set_value (is_at (cmp k)) es v)) x → Has (e ∷ es) x ⊎ (at k v ≡ x)
      by true c f (inl same) = inr (ap (λ z. at z v) (exact k e.0 (equal_from (cmp k e.0) c)) ∙ same)
      by true c f (inr g) = inl (inr g)
      by false c f (inl same) = inl (inl same)
      by false c f (inr g) = either_later e x es (at k v ≡ x) (f g)

  -- what a look-up finds is there
  pub lookup-Has : (es : List (K × X)) (k : K) (v : X) → lookup (is_at (cmp k)) es ≡ Some v → Has es (k, v)
  lookup-Has [] k v e = absurd (cc)
  lookup-Has (e ∷ es) k v found = by (is_at (cmp k) e.0) refl (λ g. lookup-Has es k v g) found
    where
      by : (b : Bool) → is_at (cmp k) e.0 ≡ b → (lookup (is_at (cmp k)) es ≡ Some v → Has es (k, v))
          → cond b (Some e.1) (lookup (is_at (cmp k)) es) ≡ Some v → Has (e ∷ es) (k, v)
      by true c f g = inl (ap (λ z. at z e.1) (sym (exact k e.0 (equal_from (cmp k e.0) c))) ∙ ap (at k) (same_some e.1 v g))
      by false c f g = inr (f g)

module _ {K X : Type 0} where
  -- an entry after one was taken out was there
  pub Has-remove_entry : (test : K → Bool) (es : List (K × X)) (x : K × X) → Has (remove_entry test es) x → Has es x
  Has-remove_entry test [] x h = absurd h
  Has-remove_entry test (e ∷ es) x h = by (test e.0) (λ g. Has-remove_entry test es x g) h
    where
      by : (b : Bool) → (Has (remove_entry test es) x → Has es x) → Has (cond b es (e ∷ remove_entry test es)) x → Has (e ∷ es) x
      by true f g = inr g
      by false f (inl same) = inl same
      by false f (inr g) = inr (f g)

-- ---- keys in order

pub none_sorted : {K : Type 0} (cmp : K → K → Ordering) → IsStrictlySortedBy cmp []
unfolding IsStrictlySortedBy
none_sorted cmp = tt

module _ {K X : Type 0} where
  above_remove : (P : K → Type 0) (test : K → Bool) (es : List (K × X)) → AllByRecursion P (keys_of es) → AllByRecursion P (keys_of (remove_entry test es))
  above_remove P test [] a = a
  above_remove P test (e ∷ es) a = by (test e.0) (above_remove P test es a.1)
    where
      by : (b : Bool) → AllByRecursion P (keys_of (remove_entry test es)) → AllByRecursion P (keys_of (cond b es (e ∷ remove_entry test es)))
      by true h = a.1
      by false h = (a.0, h)

  pub sorted-remove_entry : (cmp : K → K → Ordering) (test : K → Bool) (es : List (K × X)) → IsStrictlySortedBy cmp (keys_of es) → IsStrictlySortedBy cmp (keys_of (remove_entry test es))
  unfolding IsStrictlySortedBy
  sorted-remove_entry cmp test [] h = h
  sorted-remove_entry cmp test (e ∷ es) h = by (test e.0) (sorted-remove_entry cmp test es h.1)
    where
      by : (b : Bool) → IsStrictlySortedBy cmp (keys_of (remove_entry test es)) → IsStrictlySortedBy cmp (keys_of (cond b es (e ∷ remove_entry test es)))
      by true g = h.1
      by false g = (above_remove (λ y. cmp e.0 y ≡ Less) test es h.0, g)

module _ {K : Type 0} (cmp : K → K → Ordering) (o : IsTotalOrder cmp) where
  all_below : (j k : K) (ks : List K) → cmp j k ≡ Less → AllByRecursion (λ y. cmp k y ≡ Less) ks → AllByRecursion (λ y. cmp j y ≡ Less) ks
  all_below j k [] lt a = tt
  all_below j k (x ∷ ks) lt a = (o.trans j k x lt a.0, all_below j k ks lt a.1)

  back : (j k : K) → cmp j k ≡ Greater → cmp k j ≡ Less
  back j k gt = o.antisymm k j ∙ ap ordering_reverse gt

  forth : (j k : K) → cmp j k ≡ Less → cmp k j ≡ Greater
  forth j k lt = o.antisymm k j ∙ ap ordering_reverse lt

  same : (k : K) → cmp k k ≡ Equal
  same k = tied_itself o k

module _ {K X : Type 0} (cmp : K → K → Ordering) (o : IsTotalOrder cmp) where
  above_insert : (P : K → Type 0) (es : List (K × X)) (k : K) (v : X) → AllByRecursion P (keys_of es) → P k → AllByRecursion P (keys_of (insert_entry cmp es k v))
  above_insert P [] k v a p = (p, tt)
  above_insert P (e ∷ es) k v a p = by (cmp k e.0) (above_insert P es k v a.1 p)
    where
      by : (r : Ordering) → AllByRecursion P (keys_of (insert_entry cmp es k v))
          → AllByRecursion P (keys_of (match_ordering r ((k, v) ∷ e ∷ es) ((e.0, v) ∷ es) (e ∷ insert_entry cmp es k v)))
      by Less h = (p, a)
      by Equal h = a
      by Greater h = (a.0, h)

  pub sorted-insert_entry : (es : List (K × X)) (k : K) (v : X) → IsStrictlySortedBy cmp (keys_of es) → IsStrictlySortedBy cmp (keys_of (insert_entry cmp es k v))
  unfolding IsStrictlySortedBy
  sorted-insert_entry [] k v h = (tt, tt)
  sorted-insert_entry (e ∷ es) k v h = by (cmp k e.0) refl (sorted-insert_entry es k v h.1)
    where
      by : (r : Ordering) → cmp k e.0 ≡ r → IsStrictlySortedBy cmp (keys_of (insert_entry cmp es k v))
          → IsStrictlySortedBy cmp (keys_of (match_ordering r ((k, v) ∷ e ∷ es) ((e.0, v) ∷ es) (e ∷ insert_entry cmp es k v)))
      by Less c g = ((c, all_below cmp o k e.0 (keys_of es) c h.0), h)
      by Equal c g = h
      by Greater c g = (above_insert (λ y. cmp e.0 y ≡ Less) es k v h.0 (back cmp o k e.0 c), g)

-- ---- two entries are put in either order

module _ {K X : Type 0} (cmp : K → K → Ordering) (o : IsTotalOrder cmp) (exact : (a b : K) → cmp a b ≡ Equal → a ≡ b) where
  abbrev put : List (K × X) → K → X → List (K × X)
  put es k v = insert_entry cmp es k v

  put_less : (e : K × X) (es : List (K × X)) (k : K) (v : X) → cmp k e.0 ≡ Less → put (e ∷ es) k v ≡ at k v ∷ e ∷ es
  put_less e es k v c = ap (λ r. match_ordering r ((k, v) ∷ e ∷ es) ((e.0, v) ∷ es) (e ∷ insert_entry cmp es k v)) c

  put_equal : (e : K × X) (es : List (K × X)) (k : K) (v : X) → cmp k e.0 ≡ Equal → put (e ∷ es) k v ≡ at e.0 v ∷ es
  put_equal e es k v c = ap (λ r. match_ordering r ((k, v) ∷ e ∷ es) ((e.0, v) ∷ es) (e ∷ insert_entry cmp es k v)) c

  put_more : (e : K × X) (es : List (K × X)) (k : K) (v : X) → cmp k e.0 ≡ Greater → put (e ∷ es) k v ≡ e ∷ put es k v
  put_more e es k v c = ap (λ r. match_ordering r ((k, v) ∷ e ∷ es) ((e.0, v) ∷ es) (e ∷ insert_entry cmp es k v)) c

  abbrev Commutes : List (K × X) → K → X → K → X → Type 0
  Commutes es j v k w = put (put es j v) k w ≡ put (put es k w) j v

  -- both before all others
  both_first : (es : List (K × X)) (j : K) (v : X) (k : K) (w : X) (r : Ordering) → cmp k j ≡ r → (j ≡ k → v ≡ w)
      → put es j v ≡ at j v ∷ es → put es k w ≡ at k w ∷ es → Commutes es j v k w
  both_first es j v k w Less c one x y =
      ap (λ l. put l k w) x ∙ put_less (at j v) es k w c
      ∙ sym (ap (λ l. put l j v) y ∙ put_more (at k w) es j v (forth cmp o k j c) ∙ ap (λ l. at k w ∷ l) x)
  both_first es j v k w Equal c one x y =
      let is : j ≡ k = sym (exact k j c) in
      ap (λ l. put l k w) x ∙ put_equal (at j v) es k w c
      ∙ ap (λ z. at z w ∷ es) is ∙ ap (λ z. at k z ∷ es) (sym (one is))
      ∙ sym (ap (λ l. put l j v) y ∙ put_equal (at k w) es j v (ap (λ z. cmp z k) is ∙ same cmp o k))
  both_first es j v k w Greater c one x y =
      ap (λ l. put l k w) x ∙ put_more (at j v) es k w c ∙ ap (λ l. at j v ∷ l) y
      ∙ sym (ap (λ l. put l j v) y ∙ put_less (at k w) es j v (back cmp o k j c))

  -- once more
  pub put_again : (es : List (K × X)) (k : K) (v : X) → put (put es k v) k v ≡ put es k v
  put_again [] k v = put_equal (at k v) [] k v (same cmp o k)
  put_again (e ∷ es) k v = by (cmp k e.0) refl (put_again es k v)
    where
      by : (r : Ordering) → cmp k e.0 ≡ r → put (put es k v) k v ≡ put es k v → put (put (e ∷ es) k v) k v ≡ put (e ∷ es) k v
      by Less c f = ap (λ l. put l k v) (put_less e es k v c) ∙ put_equal (at k v) (e ∷ es) k v (same cmp o k) ∙ sym (put_less e es k v c)
      by Equal c f = ap (λ l. put l k v) (put_equal e es k v c) ∙ put_equal (at e.0 v) es k v c ∙ sym (put_equal e es k v c)
      by Greater c f = ap (λ l. put l k v) (put_more e es k v c) ∙ put_more e (put es k v) k v c ∙ ap (λ l. e ∷ l) f ∙ sym (put_more e es k v c)

  pub put_commutes : (es : List (K × X)) (j : K) (v : X) (k : K) (w : X) → (j ≡ k → v ≡ w) → Commutes es j v k w
  put_commutes [] j v k w one = both_first [] j v k w (cmp k j) refl one refl refl
  put_commutes (e ∷ es) j v k w one = by (cmp j e.0) (cmp k e.0) refl refl (put_commutes es j v k w one)
    where
      by : (a b : Ordering) → cmp j e.0 ≡ a → cmp k e.0 ≡ b → Commutes es j v k w → Commutes (e ∷ es) j v k w
      by Less Less c d f = both_first (e ∷ es) j v k w (cmp k j) refl one (put_less e es j v c) (put_less e es k w d)
      by Less Equal c d f =
          let further : cmp k j ≡ Greater = ap (λ z. cmp z j) (exact k e.0 d) ∙ forth cmp o j e.0 c in
          ap (λ l. put l k w) (put_less e es j v c) ∙ put_more (at j v) (e ∷ es) k w further ∙ ap (λ l. at j v ∷ l) (put_equal e es k w d)
          ∙ sym (ap (λ l. put l j v) (put_equal e es k w d) ∙ put_less (at e.0 w) es j v c)
      by Less Greater c d f =
          let further : cmp k j ≡ Greater = forth cmp o j k (o.trans j e.0 k c (back cmp o k e.0 d)) in
          ap (λ l. put l k w) (put_less e es j v c) ∙ put_more (at j v) (e ∷ es) k w further ∙ ap (λ l. at j v ∷ l) (put_more e es k w d)
          ∙ sym (ap (λ l. put l j v) (put_more e es k w d) ∙ put_less e (put es k w) j v c)
      by Equal Less c d f =
          let further : cmp j k ≡ Greater = ap (λ z. cmp z k) (exact j e.0 c) ∙ forth cmp o k e.0 d in
          ap (λ l. put l k w) (put_equal e es j v c) ∙ put_less (at e.0 v) es k w d
          ∙ sym (ap (λ l. put l j v) (put_less e es k w d) ∙ put_more (at k w) (e ∷ es) j v further ∙ ap (λ l. at k w ∷ l) (put_equal e es j v c))
      by Equal Equal c d f =
          let is : j ≡ k = exact j e.0 c ∙ sym (exact k e.0 d) in
          ap (λ l. put l k w) (put_equal e es j v c) ∙ put_equal (at e.0 v) es k w d
          ∙ ap (λ z. at e.0 z ∷ es) (sym (one is))
          ∙ sym (ap (λ l. put l j v) (put_equal e es k w d) ∙ put_equal (at e.0 w) es j v c)
      by Equal Greater c d f =
          ap (λ l. put l k w) (put_equal e es j v c) ∙ put_more (at e.0 v) es k w d
          ∙ sym (ap (λ l. put l j v) (put_more e es k w d) ∙ put_equal e (put es k w) j v c)
      by Greater Less c d f =
          let further : cmp j k ≡ Greater = forth cmp o k j (o.trans k e.0 j d (back cmp o j e.0 c)) in
          ap (λ l. put l k w) (put_more e es j v c) ∙ put_less e (put es j v) k w d
          ∙ sym (ap (λ l. put l j v) (put_less e es k w d) ∙ put_more (at k w) (e ∷ es) j v further ∙ ap (λ l. at k w ∷ l) (put_more e es j v c))
      by Greater Equal c d f =
          ap (λ l. put l k w) (put_more e es j v c) ∙ put_equal e (put es j v) k w d
          ∙ sym (ap (λ l. put l j v) (put_equal e es k w d) ∙ put_more (at e.0 w) es j v c)
      by Greater Greater c d f =
          ap (λ l. put l k w) (put_more e es j v c) ∙ put_more e (put es j v) k w d ∙ ap (λ l. e ∷ l) f
          ∙ sym (ap (λ l. put l j v) (put_more e es k w d) ∙ put_more e (put es k w) j v c)
