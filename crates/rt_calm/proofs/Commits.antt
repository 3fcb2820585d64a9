-- A partition has at most as many commits as messages: the ranges of its commits tile its offsets, and each holds one.
use Rattle.std.proofs.Common.{◌≡◌, ◌⊎◌, inl, inr, ℕ, zero, suc, ◌+◌, ◌<◌, ◌≤◌, ◌==◌, ◌&&◌, Bool, true, false, cond, List, [], ◌∷◌, ◌++◌, length, Option, Some, None, refl, sym, ◌∙◌, ap, subst, arith, option_to_list}
use Rattle.std.specs.List.{cons_option}
use Rattle.std.proofs.lemmas.Bool.{cases_lt, eq-eqb}
use Rattle.std.proofs.lemmas.List.{length-append}
use Rattle.std.proofs.lemmas.Option.{none-some, same_Some}
use Rattle.rt_base.specs.declared.numbers.Partition.{Partition}
use Rattle.rt_base.specs.declared.numbers.Sequence.{Sequence}
use Rattle.rt_base.specs.declared.range.Range.{Range}
use Rattle.rt_lists.specs.Members.{Has}
use Rattle.rt_lists.proofs.Members.{Has-append_cases, Has-filter}
use Rattle.rt_model.specs.History.{same_key}
use Rattle.rt_model.specs.Metadata.{life_of, node_key, past_key, sequences_of, IsDoneStatus}
use Rattle.rt_model.specs.Tiled.{done_range, done_ranges_below, done_ranges_in, done_ranges_of, range_by, IsTiled, Tiles}
use Rattle.rt_model.specs.declared.node.Key.{Key}
use Rattle.rt_model.specs.declared.node.Key.TheVariants as key
use Rattle.rt_model.specs.declared.node.Node.{Node}
use Rattle.rt_model.specs.declared.node.Node.TheVariants as node
use Rattle.rt_model.specs.declared.node.Seen.{Seen}
use Rattle.rt_model.specs.declared.status.Status.{Status}
use Rattle.rt_model.specs.declared.status.Status.TheVariants.{InProgress, Done, Abandoned}
use Rattle.rt_model.proofs.Histories.{same_key-true}
use Rattle.rt_safety.proofs.Worlds.{done_is_stored, is_tiled}
use Rattle.rt_state.specs.IsSafeWorld.{IsSafeWorld}
use Rattle.rt_state.specs.declared.state.State.{State}
use Rattle.rt_stream.specs.Log.{messages_of}
use Rattle.rt_calm.specs.Commits.{commits_by, commits_of, count_at}

-- ---- the commits of a history, and the ranges of its Done writes

pub commits_add : (h more : List Seen) (p : Partition) → commits_of (h ++ more) p ≡ commits_of h p + commits_of more p
commits_add [] more p = omega arith
commits_add (w ∷ h) more p = omega (arith, commits_add h more p)

abbrev done_size : Seen → ℕ
done_size w = length (option_to_list (done_range w.node))

abbrev size_in : List Seen → ℕ
size_in ws = length (done_ranges_in ws)

abbrev size_below : List Seen → Partition → ℕ → ℕ
size_below h p n = length (done_ranges_below h p n)

cons_size : (o : Option Range) (rs : List Range) → length (cons_option o rs) ≡ length (option_to_list o) + length rs
cons_size None rs = omega arith
cons_size (Some r) rs = omega arith

module _ (w : Seen) (h : List Seen) (p : Partition) where
  -- a life with one write more
  life_keeps : (s : ℕ) → size_in (life_of h p s) ≤ size_in (life_of (w ∷ h) p s)
  life_keeps s = by_key (same_key w.key (node_key p s))
    where
      by_key : (b : Bool) → size_in (life_of h p s) ≤ size_in (cond b (w ∷ life_of h p s) (life_of h p s))
      by_key true = omega (arith, cons_size (done_range w.node) (done_ranges_in (life_of h p s)))
      by_key false = omega arith

  life_gains : (s : ℕ) → same_key w.key (node_key p s) ≡ true → done_size w + size_in (life_of h p s) ≤ size_in (life_of (w ∷ h) p s)
  life_gains s e =
      subst (λ (b : Bool). done_size w + size_in (life_of h p s) ≤ size_in (cond b (w ∷ life_of h p s) (life_of h p s))) (sym e)
      (omega (arith, cons_size (done_range w.node) (done_ranges_in (life_of h p s))))

  below_keeps : (n : ℕ) → size_below h p n ≤ size_below (w ∷ h) p n
  below_keeps zero = omega arith
  below_keeps (suc n) =
      omega (
        arith,
        below_keeps n,
        life_keeps n,
        length-append (done_ranges_below h p n) (done_ranges_in (life_of h p n)),
        length-append (done_ranges_below (w ∷ h) p n) (done_ranges_in (life_of (w ∷ h) p n)),
      )

  below_gains : (s n : ℕ) → s < n → same_key w.key (node_key p s) ≡ true → done_size w + size_below h p n ≤ size_below (w ∷ h) p n
  below_gains s zero lt e = absurd (omega (arith, lt))
  below_gains s (suc n) lt e = by_order (λ k. below_gains s n k e) (cases_lt s n)
    where
      old : size_below h p (suc n) ≡ size_below h p n + size_in (life_of h p n)
      old = length-append (done_ranges_below h p n) (done_ranges_in (life_of h p n))

      new : size_below (w ∷ h) p (suc n) ≡ size_below (w ∷ h) p n + size_in (life_of (w ∷ h) p n)
      new = length-append (done_ranges_below (w ∷ h) p n) (done_ranges_in (life_of (w ∷ h) p n))

      by_order : (s < n → done_size w + size_below h p n ≤ size_below (w ∷ h) p n) → (s < n) ⊎ (n ≤ s)
          → done_size w + size_below h p (suc n) ≤ size_below (w ∷ h) p (suc n)
      by_order further (inl k) = omega (arith, further k, life_keeps n, old, new)
      by_order further (inr k) =
          let last : s ≡ n = omega (arith, lt, k) in
          omega (arith, below_keeps n, life_gains n (subst (λ (m : ℕ). same_key w.key (node_key p m) ≡ true) last e), old, new)

  -- so does what it counts
  more_below : (n : ℕ) → past_key p w.key ≤ n → commits_by p w + size_below h p n ≤ size_below (w ∷ h) p n
  more_below n past = by_key w.key refl past
    where
      by_key : (k : Key) → w.key ≡ k → past_key p k ≤ n → count_at p k (done_size w) + size_below h p n ≤ size_below (w ∷ h) p n
      by_key key.Ideal is within = omega (arith, below_keeps n)
      by_key (key.Boot i) is within = omega (arith, below_keeps n)
      by_key (key.Meta q s) is within = by_test (q.0 == p.0) refl within
        where
          by_test : (b : Bool) → (q.0 == p.0) ≡ b → cond b (s.0 + 1) 0 ≤ n → cond b (done_size w) 0 + size_below h p n ≤ size_below (w ∷ h) p n
          by_test false e most = omega (arith, below_keeps n)
          by_test true e most =
              below_gains s.0 n (omega (arith, most))
              (ap (λ (k : Key). same_key k (node_key p s.0)) is ∙ ap (λ (b : Bool). b && (s.0 == s.0)) e ∙ eq-eqb s.0 s.0 refl)

commits_below : (h : List Seen) (p : Partition) (n : ℕ) → sequences_of h p ≤ n → commits_of h p ≤ size_below h p n
commits_below [] p n most = omega arith
commits_below (w ∷ h) p n most = omega (arith, commits_below h p n (omega (arith, most)), more_below w h p n (omega (arith, most)))

-- ---- their ends

-- tiles that end within a log are no more than it has messages
tiles_few : (from to n : ℕ) (rs : List Range) → Tiles from rs to → ((r : Range) → Has rs r → r.end.0 ≤ n) → from ≤ n → length rs + from ≤ n
tiles_few from to n [] t ends le = omega (arith, le)
tiles_few from to n (r ∷ rs) t ends le =
    omega (arith, t.1, tiles_few r.end.0 to n rs t.2 (λ x has. ends x (inr has)) (ends r (inl refl)))

-- a range of Done writes is that of one
of_write : (ws : List Seen) (r : Range) → Has (done_ranges_in ws) r → (w : Seen) × Has ws w × (done_range w.node ≡ Some r)
of_write [] r has = absurd has
of_write (w ∷ ws) r has = by_range (done_range w.node) refl (λ k. of_write ws r k) has
  where
    Found : List Seen → Type 0
    Found xs = (x : Seen) × Has xs x × (done_range x.node ≡ Some r)

    by_range : (o : Option Range) → done_range w.node ≡ o → (Has (done_ranges_in ws) r → Found ws) → Has (cons_option o (done_ranges_in ws)) r
        → Found (w ∷ ws)
    by_range None e further k = let x = further k in (x.0, inr x.1, x.2)
    by_range (Some y) e further (inl same) = (w, inl refl, e ∙ ap (λ (z : Range). Some z) same)
    by_range (Some y) e further (inr k) = let x = further k in (x.0, inr x.1, x.2)

module _ (w : State) (p : Partition) (safe : IsSafeWorld w) where
  -- a Done write's range ends within the log
  write_within : (x : Seen) (s : ℕ) (r : Range) → Has w.store.writes x → x.key ≡ node_key p s → done_range x.node ≡ Some r
      → r.end.0 ≤ length (messages_of w.log p)
  write_within x s r has of_key e = by_node x.node refl e
    where
      by_node : (n : Node) → x.node ≡ n → done_range n ≡ Some r → r.end.0 ≤ length (messages_of w.log p)
      by_node (node.Ideal i) is f = absurd (none-some r f)
      by_node node.Boot is f = absurd (none-some r f)
      by_node node.Gone is f = absurd (none-some r f)
      by_node (node.Meta m) is f = by_status m.status refl f
        where
          sequence : Sequence
          sequence = record { 0 = s }

          same_write : (y : Seen) → y.key ≡ node_key p s → y.node ≡ node.Meta m → y ≡ record { key = node_key p s; version = y.version; node = node.Meta m }
          same_write y k n =
              let keyed : Key → Seen = λ j. record { key = j; version = y.version; node = y.node } in
              let noded : Node → Seen = λ m. record { key = node_key p s; version = y.version; node = m } in
              ap keyed k ∙ ap noded n

          listed : Has w.store.writes (record { key = node_key p s; version = x.version; node = node.Meta m })
          listed = subst (λ (y : Seen). Has w.store.writes y) (same_write x of_key is) has

          by_status : (t : Status) → m.status ≡ t → range_by m.start t ≡ Some r → r.end.0 ≤ length (messages_of w.log p)
          by_status InProgress at g = absurd (none-some r g)
          by_status Abandoned at g = absurd (none-some r g)
          by_status (Done commit) at g =
              let stored = done_is_stored w p sequence (record { version = x.version; meta = m }) commit safe (listed, subst IsDoneStatus (sym at) tt) at in
              omega (arith, stored.right.file.within.1, ap (λ (y : Range). y.end.0) (same_Some _ r g))

  range_within : (n : ℕ) (r : Range) → Has (done_ranges_below w.store.writes p n) r → r.end.0 ≤ length (messages_of w.log p)
  range_within zero r has = absurd has
  range_within (suc n) r has =
      by_place (λ k. range_within n r k) (Has-append_cases (done_ranges_below w.store.writes p n) (done_ranges_in (life_of w.store.writes p n)) r has)
    where
      by_place : (Has (done_ranges_below w.store.writes p n) r → r.end.0 ≤ length (messages_of w.log p))
          → Has (done_ranges_below w.store.writes p n) r ⊎ Has (done_ranges_in (life_of w.store.writes p n)) r → r.end.0 ≤ length (messages_of w.log p)
      by_place further (inl k) = further k
      by_place further (inr k) =
          let x = of_write (life_of w.store.writes p n) r k in
          let its = Has-filter (λ (y : Seen). same_key y.key (node_key p n)) w.store.writes x.0 x.1 in
          write_within x.0 n r its.0 (same_key-true x.0.key (node_key p n) its.1) x.2

  pub commits_within : p.0 < w.setup.partitions → commits_of w.store.writes p ≤ length (messages_of w.log p)
  commits_within inside =
      let t : IsTiled w.store.writes p = is_tiled w p safe inside in
      let few = tiles_few 0 t.0 (length (messages_of w.log p)) (done_ranges_of w.store.writes p) t.1.all
      (λ r has. range_within (sequences_of w.store.writes p) r has) (omega arith) in
      omega (arith, few, commits_below w.store.writes p (sequences_of w.store.writes p) (omega arith))
