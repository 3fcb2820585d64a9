-- Each move of a seat keeps the rule of its history.
use Rattle.std.proofs.Common.{◌≡◌, ◌≢◌, ℕ, zero, suc, ◌+◌, ◌<◌, ◌≤◌, ◌==◌, Bool, true, false, cond, true≢false, List, [], ◌∷◌, ◌++◌, length, set, slice_index, All, sym, refl, ap, ◌∙◌, subst, ⊎_elim, arith, append-nil, append_assoc, length-append, length-set, eq-eqb, eqb-true}
use Rattle.std.proofs.lemmas.List.Elements.{All-nil, All-push, All-weaker, All-same}
use mathlib.Core.Option.{some, none, some-injective, some-ne-none}
use prog.Atomic.{either}
use lib.ListN.{get_elem?}
use Rattle.atomic_table.specs.Table.{Act, keeps, step, opening, Valid, Allows, Splits, Joins, homes_after, carried_after}
use Rattle.atomic_table.proofs.Lists.{set_here, set_else}
use Rattle.rt_front.specs.declared.entry.Entry.{Entry}
use Rattle.rt_front.specs.declared.rule.Hand.{Hand}
use Rattle.rt_front.specs.declared.rule.View.{View}
use Rattle.rt_front.specs.Histories.{stands, ShareNone, first_of, entry}
use Rattle.rt_front.specs.Rules.{has_none, hand, knows, empty_hand, beginner, front_view, spent_view, hosting, made_after, given, alone, handed_out, longer, with_entry, Learned, Folded, NoneOf, IsHand, IsView, carries, Kept, Advances, ShowsAll, SeesLength, OneHand}
use Rattle.rt_front.proofs.Numbers.{either_way, or_left, or_right, or_first, or_cases, stands_first, stands_nowhere, stands_append, all_standing, share_none, share_with_none, none_shares, none_of_none, none_push, none_left, none_right, none_of_both, mine_seen, between, by_longer}
use Rattle.rt_front.proofs.Views.{within, each_set, each_more, moved, moved_there, moved_not, moved_same, carry_set, carry_more, carry_last}

not_both : (home : ℕ → ℕ) (numbers : List ℕ) (n k j : ℕ) → (stands n numbers ≡ true → home n ≡ k) → home n ≡ j → j ≢ k → stands n numbers ≡ false
not_both home numbers n k j there here apart = ⊎_elim (λ e. absurd (apart (sym here ∙ there e))) (λ e. e) (either_way (stands n numbers))

exchanged : (old count next : ℕ) → count ≡ old → next ≡ old + 1 → set (count ∷ []) 0 (either (slice_index (count ∷ []) 0 == old) (old + 1) (slice_index (count ∷ []) 0)) ≡ next ∷ []
exchanged old count next e f = ap (λ b. either b (old + 1) count ∷ []) (eq-eqb count old e) ∙ ap (λ n. n ∷ []) (sym f)

one_number : (n m : ℕ) → stands n (m ∷ []) ≡ true → m ≡ n
one_number n m e = ⊎_elim (λ t. eqb-true m n t) (λ t. absurd (true≢false (sym t))) (or_cases (m == n) false e)

not_one : (n m : ℕ) → stands n (m ∷ []) ≡ false → n ≢ m
not_one n m e same = true≢false (sym (or_left (m == n) false (eq-eqb m n (sym same))) ∙ e)

module _ {T : Type 0} where
  -- ---- hands

  empty_fits : (log : List (Entry T)) (made : ℕ) (home : ℕ → ℕ) (k : ℕ) → IsHand log made home k empty_hand
  empty_fits log made home k = record { rest = log; begins = refl; none_later = none_of_none log; placed = λ n e. absurd (true≢false (sym e)) }

  -- a hand of the whole history, with these numbers
  whole_fits : (log seen : List (Entry T)) (made : ℕ) (home : ℕ → ℕ) (k : ℕ) (numbers : List ℕ) → seen ≡ log → ((n : ℕ) → stands n numbers ≡ true → (n < made) × (home n ≡ k)) → IsHand log made home k (hand seen numbers)
  whole_fits log seen made home k numbers e placed = record { rest = []; begins = sym e ∙ sym (append-nil seen); none_later = tt; placed = placed }

  hand_kept : {log : List (Entry T)} {made : ℕ} {home : ℕ → ℕ} {k : ℕ} {h : Hand T} (more : ℕ) (there : ℕ → ℕ) → IsHand log made home k h → made ≤ more
      → ((n : ℕ) → stands n h.numbers ≡ true → n < made → home n ≡ k → there n ≡ home n) → IsHand log more there k h
  hand_kept more there fits le same =
      record {
        rest = fits.rest;
        begins = fits.begins;
        none_later = fits.none_later;
        placed = λ n e. let p = fits.placed n e in (omega (arith, p.0, le), same n e p.0 p.1 ∙ p.1);
      }

  spent_fits : (log : List (Entry T)) (made keeper : ℕ) (home : ℕ → ℕ) (k : ℕ) → IsView log made keeper home k spent_view
  spent_fits log made keeper home k =
      record {
        keeps = λ e. absurd (true≢false (sym e));
        own = empty_fits log made home k;
        other = empty_fits log made home k;
        apart = share_with_none [];
      }

  -- ---- the start

  only : (v : View T) (k : ℕ) (u : View T) → get_elem? (v ∷ []) k ≡ some u → (k ≡ 0) × (v ≡ u)
  only v zero u e = (refl, some-injective v u e)
  only v (suc k) u e = absurd (some-ne-none u (sym e))

  pub begins : Kept {T = T} (opening (0 ∷ []) [] beginner)
  begins =
      let F : ℕ → View T → Type 0 = IsView [] 0 0 (λ n. 0) in
      let first : F 0 beginner = record { keeps = λ e. (refl, refl, refl); own = empty_fits [] 0 (λ n. 0) 0; other = empty_fits [] 0 (λ n. 0) 0; apart = share_with_none [] } in
      record {
        log = [];
        made = 0;
        keeper = 0;
        home = λ n. 0;
        words = refl;
        all_made = All-nil (λ e. e.front < 0);
        somewhere = λ n lt. absurd (omega (arith, lt));
        views = λ k v e. let o = only beginner k v e in subst (λ (y : ℕ × View T). F y.0 y.1) (λ i. (sym o.0 i, o.1 i)) first;
      }

  -- ---- joins

  no_other : (n : ℕ) (v : View T) → v.other ≡ empty_hand → carries n (some v) ≡ true → stands n v.own.numbers ≡ true
  no_other n v lone c = or_first _ _ (ap (λ (h : Hand T). stands n h.numbers) lone) c

  pub hosts : (id : ℕ) (v : View T) (other : ℕ) (w : View T) → v.other ≡ empty_hand → w.other ≡ empty_hand → Joins Kept id v other w (hosting v w) spent_view
  hosts id v other w lone guest s kept at apart at_other =
      let both : View T = hosting v w in
      let was : get_elem? s.views other ≡ some w = sym (set_else s.views id other both apart) ∙ at_other in
      let mine = kept.views id v at in
      let theirs = kept.views other w was in
      let goes : ℕ → Bool = λ n. stands n w.own.numbers in
      let home : ℕ → ℕ = moved goes id kept.home in
      let F : ℕ → View T → Type 0 = IsView kept.log kept.made kept.keeper home in
      let joined : F id both =
      record {
        keeps = mine.keeps;
        own = hand_kept kept.made home mine.own (omega arith) (λ n e lt h. moved_same goes id kept.home n h ∙ sym h);
        other = record {
          rest = theirs.own.rest;
          begins = theirs.own.begins;
          none_later = theirs.own.none_later;
          placed = λ n e. ((theirs.own.placed n e).0, moved_there goes id kept.home n e);
        };
        apart = share_none kept.home id other v.own.numbers w.own.numbers (λ e. apart (sym e)) (λ n e. (mine.own.placed n e).1) (λ n e. (theirs.own.placed n e).1);
      } in
      let left_alone : (j : ℕ) (u : View T) → j ≢ other → get_elem? s.views j ≡ some u → F j u = λ j u no_j e.
      let fits = kept.views j u e in
      let stays : (n : ℕ) → kept.home n ≡ j → home n ≡ kept.home n = λ n h. moved_not goes id kept.home n (not_both kept.home w.own.numbers n other j (λ t. (theirs.own.placed n t).1) h no_j) in
      record {
        keeps = fits.keeps;
        own = hand_kept kept.made home fits.own (omega arith) (λ n t lt h. stays n h);
        other = hand_kept kept.made home fits.other (omega arith) (λ n t lt h. stays n h);
        apart = fits.apart;
      } in
      let views : List (View T) = set (set s.views id both) other spent_view in
      let here : get_elem? views id ≡ some both = set_else (set s.views id both) other id spent_view (λ e. apart (sym e)) ∙ set_here s.views id both (within s.views id v at) in
      record {
        log = kept.log;
        made = kept.made;
        keeper = kept.keeper;
        home = home;
        words = kept.words;
        all_made = kept.all_made;
        somewhere = λ n lt. ⊎_elim
            (λ (e : stands n w.own.numbers ≡ true). ap (λ j. carries n (get_elem? views j)) (moved_there goes id kept.home n e) ∙ ap (carries n) here ∙ or_right _ _ e)
            (λ (e : stands n w.own.numbers ≡ false). ap (λ j. carries n (get_elem? views j)) (moved_not goes id kept.home n e)
            ∙ carry_set n (set s.views id both) other w spent_view at_other (λ c. absurd (true≢false (sym (no_other n w guest c) ∙ e))) (kept.home n)
            (carry_set n s.views id v both at (λ c. or_left _ _ (no_other n v lone c)) (kept.home n) (kept.somewhere n lt)))
            (either_way (stands n w.own.numbers));
        views = each_set F (set s.views id both) other spent_view (spent_fits kept.log kept.made kept.keeper home other)
            (λ j u no_j e. each_set (λ i x. i ≢ other → F i x) s.views id both (λ no. joined) (λ i x no_i f no. left_alone i x no f) j u e no_j);
      }

  -- ---- an entry more

  entry_behind : {log : List (Entry T)} {made : ℕ} {home : ℕ → ℕ} {k : ℕ} {h : Hand T} (e : Entry T) → IsHand log made home k h → stands e.front h.numbers ≡ false → IsHand (log ++ e ∷ []) made home k h
  entry_behind {log} {h = h} e fits other =
      record {
        rest = fits.rest ++ e ∷ [];
        begins = ap (λ l. l ++ e ∷ []) fits.begins ∙ append_assoc h.seen fits.rest (e ∷ []);
        none_later = none_push h.numbers fits.rest e fits.none_later other;
        placed = fits.placed;
      }

  learned : {log : List (Entry T)} {made keeper : ℕ} {home : ℕ → ℕ} {k : ℕ} (v : View T) → v.own.seen ≡ log → v.made ≡ made → IsView log made keeper home k v → Learned v
  learned v e m fits =
      record {
        mine = mine_seen v.other.numbers v.own.seen v.other.seen fits.other.rest (e ∙ fits.other.begins) fits.other.none_later;
        begins = (fits.other.rest, e ∙ fits.other.begins);
        below = all_standing (λ n. n < v.made) v.other.numbers (λ n t. let p = (fits.other.placed n t).0 in omega (arith, p, m));
      }

  pub advances : (slots id : ℕ) (v : View T) (c : List (ℕ × T)) (old : ℕ) (what : T) → v.keeps ≡ true → old ≡ length v.own.seen → has_none v.other.numbers ≡ false
      → Allows Kept slots id (v, c) 0 (λ n. either (n == old) (old + 1) n) (Advances (step slots 0 old (old + 1) (some what)) (v, c))
  advances slots id v c old what keeper count some_guest s kept len at small =
      let fits = kept.views id v at in
      let k = fits.keeps keeper in
      let log_is : v.own.seen ≡ kept.log = ap (λ (h : Hand T). h.seen) k.1 in
      let first = first_of v.other.numbers in
      let stands_here = stands_first v.other.numbers some_guest in
      let made_first = fits.other.placed first stands_here in
      let e : Entry T = entry first (length v.other.seen) what in
      let log : List (Entry T) = with_entry v what in
      let longer_is : kept.log ++ e ∷ [] ≡ log = ap (λ l. l ++ e ∷ []) (sym log_is) in
      let w : View T = knows true v.made (hand log []) (hand log v.other.numbers) in
      let F : ℕ → View T → Type 0 = IsView log kept.made kept.keeper kept.home in
      let mine_fits : F id w =
      record {
        keeps = λ t. (k.0, refl, k.2);
        own = whole_fits log log kept.made kept.home id [] refl (λ n t. absurd (true≢false (sym t)));
        other = whole_fits log log kept.made kept.home id v.other.numbers refl fits.other.placed;
        apart = none_shares v.other.numbers;
      } in
      let behind : (j : ℕ) (h : Hand T) → j ≢ id → IsHand kept.log kept.made kept.home j h → IsHand log kept.made kept.home j h = λ j h apart x.
      subst (λ l. IsHand l kept.made kept.home j h) longer_is
      (entry_behind e x (⊎_elim (λ (t : stands first h.numbers ≡ true). absurd (apart (sym (x.placed first t).1 ∙ made_first.1))) (λ t. t) (either_way (stands first h.numbers)))) in
      let others : (j : ℕ) (u : View T) → j ≢ id → get_elem? s.views j ≡ some u → F j u = λ j u apart x.
      let old_fits = kept.views j u x in
      record {
        keeps = λ t. absurd (apart ((old_fits.keeps t).0 ∙ sym k.0));
        own = behind j u.own apart old_fits.own;
        other = behind j u.other apart old_fits.other;
        apart = old_fits.apart;
      } in
      let all_made : All (λ x. x.front < kept.made) log = All-push (λ x. x.front < kept.made) v.own.seen e (All-same (λ x. x.front < kept.made) v.own.seen kept.log log_is kept.all_made) made_first.0 in
      let words = exchanged old (length kept.log) (length log) (ap length (sym log_is) ∙ sym count) (length-append v.own.seen (e ∷ []) ∙ ap (λ n. n + 1) (sym count)) in
      let P : List ℕ → Type 0 = λ ws. (x : View T) × (a : Act T) × Valid s.homes c a
      × Kept record { words = set ws 0 (either (slice_index ws 0 == old) (old + 1) (slice_index ws 0)); homes = homes_after s.homes c a; views = set s.views id x }
      × Advances (step slots 0 old (old + 1) (some what)) (v, c) (slice_index ws 0) (x, carried_after c a) in
      let next : Kept record { words = set (length kept.log ∷ []) 0 (either (slice_index (length kept.log ∷ []) 0 == old) (old + 1) (slice_index (length kept.log ∷ []) 0)); homes = s.homes; views = set s.views id w } =
      record {
        log = log;
        made = kept.made;
        keeper = kept.keeper;
        home = kept.home;
        words = words;
        all_made = all_made;
        somewhere = λ n lt. carry_set n s.views id v w at
            (λ t. ⊎_elim (λ (y : stands n v.own.numbers ≡ true). absurd (true≢false (sym y ∙ ap (λ (h : Hand T). stands n h.numbers) k.1))) (λ y. y) (or_cases _ _ t))
            (kept.home n) (kept.somewhere n lt);
        views = each_set F s.views id w mine_fits others;
      } in
      let below : All (λ x. x.front < v.made) log = subst (λ m. All (λ x. x.front < m) log) (sym k.2) all_made in
      subst P (sym kept.words) (w, keeps, tt, next, (refl, (refl, learned v log_is k.2 fits, below)))

  -- ---- a look at the history

  pub shows : (slots id : ℕ) (v : View T) (c : List (ℕ × T)) → v.keeps ≡ true → Allows Kept slots id (v, c) 0 (λ n. n) (ShowsAll (step slots 0 0 0 none) (v, c))
  shows slots id v c keeper s kept len at small =
      let fits = kept.views id v at in
      let k = fits.keeps keeper in
      let log_is : v.own.seen ≡ kept.log = ap (λ (h : Hand T). h.seen) k.1 in
      let w : View T = knows true v.made v.own (hand v.own.seen v.other.numbers) in
      let F : ℕ → View T → Type 0 = IsView kept.log kept.made kept.keeper kept.home in
      let mine_fits : F id w =
      record {
        keeps = λ t. k;
        own = fits.own;
        other = whole_fits kept.log v.own.seen kept.made kept.home id v.other.numbers log_is fits.other.placed;
        apart = fits.apart;
      } in
      let P : List ℕ → Type 0 = λ ws. (x : View T) × (a : Act T) × Valid s.homes c a
      × Kept record { words = set ws 0 (slice_index ws 0); homes = homes_after s.homes c a; views = set s.views id x }
      × ShowsAll (step slots 0 0 0 none) (v, c) (slice_index ws 0) (x, carried_after c a) in
      let next : Kept record { words = length kept.log ∷ []; homes = s.homes; views = set s.views id w } =
      record {
        log = kept.log;
        made = kept.made;
        keeper = kept.keeper;
        home = kept.home;
        words = refl;
        all_made = kept.all_made;
        somewhere = λ n lt. carry_set n s.views id v w at (λ t. t) (kept.home n) (kept.somewhere n lt);
        views = each_set F s.views id w mine_fits (λ j u apart x. kept.views j u x);
      } in
      let below : All (λ x. x.front < v.made) v.own.seen =
      subst (λ m. All (λ x. x.front < m) v.own.seen) (sym k.2) (All-same (λ x. x.front < kept.made) v.own.seen kept.log log_is kept.all_made) in
      subst P (sym kept.words) (w, keeps, tt, next, (refl, refl, learned v log_is k.2 fits, below))

  pub looks : (slots id : ℕ) (v : View T) (c : List (ℕ × T)) → Allows Kept slots id (v, c) 0 (λ n. n) (SeesLength (step slots 0 0 0 none) (v, c))
  looks slots id v c s kept len at small =
      let fits = kept.views id v at in
      let F : ℕ → View T → Type 0 = IsView kept.log kept.made kept.keeper kept.home in
      let P : List ℕ → Type 0 = λ ws. (x : View T) × (a : Act T) × Valid s.homes c a
      × Kept record { words = set ws 0 (slice_index ws 0); homes = homes_after s.homes c a; views = set s.views id x }
      × SeesLength (step slots 0 0 0 none) (v, c) (slice_index ws 0) (x, carried_after c a) in
      let next : Kept record { words = length kept.log ∷ []; homes = s.homes; views = set s.views id v } =
      record {
        log = kept.log;
        made = kept.made;
        keeper = kept.keeper;
        home = kept.home;
        words = refl;
        all_made = kept.all_made;
        somewhere = λ n lt. carry_set n s.views id v v at (λ t. t) (kept.home n) (kept.somewhere n lt);
        views = each_set F s.views id v fits (λ j u apart x. kept.views j u x);
      } in
      let whole : length kept.log ≡ length v.own.seen + length fits.own.rest = ap length fits.own.begins ∙ length-append v.own.seen fits.own.rest in
      let shorter : length v.own.seen ≤ length kept.log = omega (arith, whole) in
      subst P (sym kept.words) (v, keeps, tt, next, (refl, shorter))

  -- ---- two hands made one

  abbrev Makes : List (Entry T) → ℕ → (ℕ → ℕ) → ℕ → Hand T → Hand T → List (Entry T) → Type 0
  Makes log made home k a b seen = IsHand log made home k (hand seen (a.numbers ++ b.numbers)) × Folded a b seen

  both_placed : {log : List (Entry T)} {made : ℕ} {home : ℕ → ℕ} {k : ℕ} {a b : Hand T} → IsHand log made home k a → IsHand log made home k b
      → (n : ℕ) → stands n (a.numbers ++ b.numbers) ≡ true → (n < made) × (home n ≡ k)
  both_placed {a = a} {b = b} x y n e = ⊎_elim (λ t. x.placed n t) (λ t. y.placed n t) (or_cases _ _ (sym (stands_append n a.numbers b.numbers) ∙ e))

  folded_right : {log : List (Entry T)} {made : ℕ} {home : ℕ → ℕ} {k : ℕ} (a b : Hand T) → IsHand log made home k a → IsHand log made home k b → ShareNone a.numbers b.numbers → length a.seen ≤ length b.seen → Makes log made home k a b b.seen
  folded_right a b x y apart le =
      let i = between a.seen b.seen x.rest y.rest (sym x.begins ∙ y.begins) le in
      let none_a : NoneOf a.numbers (i.0 ++ y.rest) = subst (NoneOf a.numbers) i.2 x.none_later in (
        record {
          rest = y.rest;
          begins = y.begins;
          none_later = none_of_both a.numbers b.numbers y.rest (none_right a.numbers i.0 y.rest none_a) y.none_later;
          placed = both_placed x y;
        },
        record {
          own = (i.0, i.1);
          other = ([], sym (append-nil b.seen));
          own_mine = mine_seen a.numbers b.seen a.seen i.0 i.1 (none_left a.numbers i.0 y.rest none_a);
          other_mine = refl;
          apart = apart;
        },
      )

  folded_left : {log : List (Entry T)} {made : ℕ} {home : ℕ → ℕ} {k : ℕ} (a b : Hand T) → IsHand log made home k a → IsHand log made home k b → ShareNone a.numbers b.numbers → length b.seen ≤ length a.seen → Makes log made home k a b a.seen
  folded_left a b x y apart le =
      let i = between b.seen a.seen y.rest x.rest (sym y.begins ∙ x.begins) le in
      let none_b : NoneOf b.numbers (i.0 ++ x.rest) = subst (NoneOf b.numbers) i.2 y.none_later in (
        record {
          rest = x.rest;
          begins = x.begins;
          none_later = none_of_both a.numbers b.numbers x.rest x.none_later (none_right b.numbers i.0 x.rest none_b);
          placed = both_placed x y;
        },
        record {
          own = ([], sym (append-nil a.seen));
          other = (i.0, i.1);
          own_mine = refl;
          other_mine = mine_seen b.numbers a.seen b.seen i.0 i.1 (none_left b.numbers i.0 x.rest none_b);
          apart = apart;
        },
      )

  pub folds : (slots id : ℕ) (v : View T) (c : List (ℕ × T)) → Allows Kept slots id (v, c) 0 (λ n. n) (OneHand (step slots 0 0 0 none) (v, c))
  folds slots id v c s kept len at small =
      let fits = kept.views id v at in
      let seen : List (Entry T) = longer v.own.seen v.other.seen in
      let one = by_longer (Makes kept.log kept.made kept.home id v.own v.other) v.own.seen v.other.seen
      (λ le. folded_right v.own v.other fits.own fits.other fits.apart le) (λ le. folded_left v.own v.other fits.own fits.other fits.apart le) in
      let w : View T = front_view (hand seen (v.own.numbers ++ v.other.numbers)) in
      let F : ℕ → View T → Type 0 = IsView kept.log kept.made kept.keeper kept.home in
      let mine_fits : F id w =
      record {
        keeps = λ t. absurd (true≢false (sym t));
        own = one.0;
        other = empty_fits kept.log kept.made kept.home id;
        apart = share_with_none (v.own.numbers ++ v.other.numbers);
      } in
      let P : List ℕ → Type 0 = λ ws. (x : View T) × (a : Act T) × Valid s.homes c a
      × Kept record { words = set ws 0 (slice_index ws 0); homes = homes_after s.homes c a; views = set s.views id x }
      × OneHand (step slots 0 0 0 none) (v, c) (slice_index ws 0) (x, carried_after c a) in
      let next : Kept record { words = length kept.log ∷ []; homes = s.homes; views = set s.views id w } =
      record {
        log = kept.log;
        made = kept.made;
        keeper = kept.keeper;
        home = kept.home;
        words = refl;
        all_made = kept.all_made;
        somewhere = λ n lt. carry_set n s.views id v w at (λ t. or_left _ _ (stands_append n v.own.numbers v.other.numbers ∙ t)) (kept.home n) (kept.somewhere n lt);
        views = each_set F s.views id w mine_fits (λ j u apart x. kept.views j u x);
      } in
      subst P (sym kept.words) (w, keeps, tt, next, (refl, refl, one.1))

  -- ---- a guest handed out, or a new front

  -- what is known of the numbers that are handed out
  record AreGiven (v : View T) (made id : ℕ) (home : ℕ → ℕ) (more : ℕ) (numbers : List ℕ) : Type 0 where
    grows : made ≤ more
    below : (n : ℕ) → stands n numbers ≡ true → n < more
    before : (n : ℕ) → n < more → stands n numbers ≡ false → n < made
    elsewhere : (n j : ℕ) → stands n numbers ≡ true → n < made → home n ≡ j → j ≡ id
    guests : (n : ℕ) → stands n v.other.numbers ≡ true → stands n numbers ≡ true

  numbers_given : (v : View T) (made id : ℕ) (home : ℕ → ℕ) → v.made ≡ made → ((n : ℕ) → stands n v.other.numbers ≡ true → (n < made) × (home n ≡ id))
      → (t : Bool) → has_none v.other.numbers ≡ t → AreGiven v made id home (cond t (v.made + 1) v.made) (cond t (v.made ∷ []) v.other.numbers)
  numbers_given v made id home is placed true no_guest =
      record {
        grows = omega (arith, is);
        below = λ n e. let x = one_number n v.made e in omega (arith, x);
        before = λ n lt e. let x = not_one n v.made e in omega (arith, x, is, lt);
        elsewhere = λ n j e lt h. let x = one_number n v.made e in absurd (omega (arith, x, is, lt));
        guests = λ n e. absurd (true≢false (sym e ∙ stands_nowhere n v.other.numbers no_guest));
      }
  numbers_given v made id home is placed false some_guest =
      record {
        grows = omega (arith, is);
        below = λ n e. let x = (placed n e).0 in omega (arith, x, is);
        before = λ n lt e. omega (arith, is, lt);
        elsewhere = λ n j e lt h. sym h ∙ (placed n e).1;
        guests = λ n e. e;
      }

  pub hands_out : (id : ℕ) (v : View T) → v.keeps ≡ true → Splits Kept id v (alone v) (handed_out v)
  hands_out id v keeper s kept at =
      let fits = kept.views id v at in
      let k = fits.keeps keeper in
      let log_is : v.own.seen ≡ kept.log = ap (λ (h : Hand T). h.seen) k.1 in
      let numbers : List ℕ = given v in
      let more : ℕ = made_after v in
      let known = numbers_given v kept.made id kept.home k.2 fits.other.placed (has_none v.other.numbers) refl in
      let goes : ℕ → Bool = λ n. stands n numbers in
      let last : ℕ = length s.views in
      let home : ℕ → ℕ = moved goes last kept.home in
      let F : ℕ → View T → Type 0 = IsView kept.log more kept.keeper home in
      let left : F id (alone v) =
      record {
        keeps = λ t. (k.0, k.1, refl);
        own = subst (IsHand kept.log more home id) (sym k.1) (whole_fits kept.log kept.log more home id [] refl (λ n t. absurd (true≢false (sym t))));
        other = empty_fits kept.log more home id;
        apart = share_with_none v.own.numbers;
      } in
      let right : F last (handed_out v) =
      record {
        keeps = λ t. absurd (true≢false (sym t));
        own = whole_fits kept.log v.own.seen more home last numbers log_is (λ n e. (known.below n e, moved_there goes last kept.home n e));
        other = empty_fits kept.log more home last;
        apart = share_with_none numbers;
      } in
      let others : (j : ℕ) (u : View T) → j ≢ id → get_elem? s.views j ≡ some u → F j u = λ j u apart x.
      let old_fits = kept.views j u x in
      let stays : (n : ℕ) → n < kept.made → kept.home n ≡ j → home n ≡ kept.home n = λ n lt h.
      moved_not goes last kept.home n (⊎_elim (λ (t : stands n numbers ≡ true). absurd (apart (known.elsewhere n j t lt h))) (λ t. t) (either_way (stands n numbers))) in
      record {
        keeps = λ t. absurd (apart ((old_fits.keeps t).0 ∙ sym k.0));
        own = hand_kept more home old_fits.own known.grows (λ n t lt h. stays n lt h);
        other = hand_kept more home old_fits.other known.grows (λ n t lt h. stays n lt h);
        apart = old_fits.apart;
      } in
      let before : List (View T) = set s.views id (alone v) in
      let count : length before ≡ last = length-set s.views id (alone v) in
      let after : List (View T) = before ++ handed_out v ∷ [] in
      record {
        log = kept.log;
        made = more;
        keeper = kept.keeper;
        home = home;
        words = kept.words;
        all_made = All-weaker (λ x. x.front < kept.made) (λ x. x.front < more) (λ x lt. omega (arith, lt, known.grows)) kept.log kept.all_made;
        somewhere = λ n lt. ⊎_elim
            (λ (e : stands n numbers ≡ true). ap (λ j. carries n (get_elem? after j)) (moved_there goes last kept.home n e ∙ sym count) ∙ carry_last n before (handed_out v) (or_left _ _ e))
            (λ (e : stands n numbers ≡ false). ap (λ j. carries n (get_elem? after j)) (moved_not goes last kept.home n e)
            ∙ carry_more n before (handed_out v) (kept.home n)
            (carry_set n s.views id v (alone v) at
            (λ c. or_left _ _ (⊎_elim (λ t. t) (λ (t : stands n v.other.numbers ≡ true). absurd (true≢false (sym (known.guests n t) ∙ e))) (or_cases _ _ c)))
            (kept.home n) (kept.somewhere n (known.before n lt e))))
            (either_way (stands n numbers));
        views = each_more F before (handed_out v) (subst (λ j. F j (handed_out v)) (sym count) right) (each_set F s.views id (alone v) left others);
      }
