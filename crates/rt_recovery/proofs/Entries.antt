-- Entries of a table that stay where that of another segment is put, changed or taken out; and each one is found.
use Rattle.std.proofs.Common.{◌≡◌, ◌⊎◌, inl, inr, Bool, true, false, cond, List, [], ◌∷◌, Some, refl, sym, ◌∙◌, ap, subst}
use Rattle.std.specs.BTreeMap.{insert_entry}
use Rattle.std.specs.Map.{keys_of, lookup, remove_entry, set_value}
use Rattle.std.specs.Ordering.{is_eq, match_ordering}
use Rattle.std.specs.declared.cmp.Ordering.{Ordering}
use Rattle.std.specs.declared.cmp.Ordering.TheVariants.{Equal, Greater, Less}
use Rattle.std.proofs.lemmas.Bool.{true≢false}
use Rattle.std.proofs.lemmas.Option.{none-some}
use Rattle.rt_base.specs.declared.numbers.Partition.{Partition}
use Rattle.rt_base.specs.declared.numbers.Sequence.{Sequence}
use Rattle.rt_entry.specs.declared.entry.Entry.{Entry}
use Rattle.rt_lists.specs.Members.{Has}
use Rattle.rt_server.specs.Table.{is_segment, segment_cmp, Segment}
use Rattle.rt_server.proofs.LastingTables.{at}
use Rattle.rt_server.proofs.Merge.{first_below, it_is, itself, later_ascend, lookup_below, Ascending, Below}

-- an entry of a table that ascends is found
pub entry_found : (es : List (Segment × Entry)) (s : Segment) (e : Entry) → Ascending (keys_of es) → Has es (at s e) → lookup (is_segment s.0 s.1) es ≡ Some e
entry_found [] s e up has = absurd has
entry_found (x ∷ xs) s e up (inl same) =
    ap (λ (y : Segment × Entry). cond (is_segment s.0 s.1 y.0) (Some y.1) (lookup (is_segment s.0 s.1) xs)) same
    ∙ ap (λ (b : Bool). cond b (Some e) (lookup (is_segment s.0 s.1) xs)) (itself s)
entry_found (x ∷ xs) s e up (inr has) = by_test (is_segment s.0 s.1 x.0) refl (entry_found xs s e (later_ascend x.0 (keys_of xs) up) has)
  where
    by_test : (b : Bool) → is_segment s.0 s.1 x.0 ≡ b → lookup (is_segment s.0 s.1) xs ≡ Some e
        → cond b (Some x.1) (lookup (is_segment s.0 s.1) xs) ≡ Some e
    by_test false other further = further
    by_test true is further =
        let below = subst (λ (y : Segment). Below y (keys_of xs)) (sym (it_is s x.0 is)) (first_below x.0 (keys_of xs) up) in
        absurd (none-some e (sym (lookup_below xs s below) ∙ further))

module _ (p : Partition) (q : Sequence) (x : Segment × Entry) (other : is_segment p q x.0 ≡ false) where
  -- it isn't this one
  not_here : (e : Segment × Entry) → is_segment p q e.0 ≡ true → e ≡ x → ⊥
  not_here e is same = true≢false (sym is ∙ ap (λ (y : Segment × Entry). is_segment p q y.0) same ∙ other)

  pub put_stays : (es : List (Segment × Entry)) (new : Entry) → Has es x → Has (set_value (is_segment p q) es new) x
  put_stays [] new has = absurd has
  put_stays (e ∷ es) new has = by_test (is_segment p q e.0) refl has (put_stays es new)
    where
      by_test : (b : Bool) → is_segment p q e.0 ≡ b → (e ≡ x) ⊎ Has es x → (Has es x → Has (set_value (is_segment p q) es new) x)
          → Has (cond b ((e.0, new) ∷ es) (e ∷ set_value (is_segment p q) es new)) x
      by_test true is (inl same) further = absurd (not_here e is same)
      by_test true is (inr there) further = inr there
      by_test false is (inl same) further = inl same
      by_test false is (inr there) further = inr (further there)

  pub leave_stays : (es : List (Segment × Entry)) → Has es x → Has (remove_entry (is_segment p q) es) x
  leave_stays [] has = absurd has
  leave_stays (e ∷ es) has = by_test (is_segment p q e.0) refl has (leave_stays es)
    where
      by_test : (b : Bool) → is_segment p q e.0 ≡ b → (e ≡ x) ⊎ Has es x → (Has es x → Has (remove_entry (is_segment p q) es) x)
          → Has (cond b es (e ∷ remove_entry (is_segment p q) es)) x
      by_test true is (inl same) further = absurd (not_here e is same)
      by_test true is (inr there) further = there
      by_test false is (inl same) further = inl same
      by_test false is (inr there) further = inr (further there)

  pub add_stays : (es : List (Segment × Entry)) (new : Entry) → Has es x → Has (insert_entry segment_cmp es (p, q) new) x
  add_stays [] new has = absurd has
  add_stays (e ∷ es) new has = by_order (segment_cmp (p, q) e.0) refl has (add_stays es new)
    where
      by_order : (o : Ordering) → segment_cmp (p, q) e.0 ≡ o → (e ≡ x) ⊎ Has es x → (Has es x → Has (insert_entry segment_cmp es (p, q) new) x)
          → Has (match_ordering o (((p, q), new) ∷ e ∷ es) ((e.0, new) ∷ es) (e ∷ insert_entry segment_cmp es (p, q) new)) x
      by_order Less is there further = inr there
      by_order Equal is (inl same) further = absurd (not_here e (ap is_eq is) same)
      by_order Equal is (inr there) further = inr there
      by_order Greater is (inl same) further = inl same
      by_order Greater is (inr there) further = inr (further there)
