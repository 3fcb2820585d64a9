-- The committed ranges of a sound past end within its log, at every moment of the store's history.
use Rattle.std.proofs.Common.{◌≡◌, ◌≤◌, ◌<◌, ◌==◌, ◌⊎◌, ℕ, zero, suc, Bool, true, false, inl, inr, fold, List, [], ◌∷◌, length, Some, refl, sym, ap, ◌∙◌, subst, arith}
use Rattle.std.specs.Prelude.{if◌then◌else◌}
use Rattle.std.proofs.lemmas.Bool.{cases_eq, cases_lt, eqb-true}
use Rattle.std.proofs.lemmas.Option.{none-some, same_Some}
use Rattle.rt_base.specs.declared.numbers.Offset.{Offset}
use Rattle.rt_base.specs.declared.numbers.Partition.{Partition}
use Rattle.rt_base.specs.declared.range.Range.{Range}
use Rattle.rt_lists.specs.Members.{Has, IsFront}
use Rattle.rt_lists.proofs.Members.{Has-append_cases, Has-append_left, Has-append_right, Has-front}
use Rattle.rt_model.specs.Lawful.{IsLawfulHistory}
use Rattle.rt_model.specs.Laws.{Begins}
use Rattle.rt_model.specs.Metadata.{IsDoneStatus, life_of, node_key, sequences_of}
use Rattle.rt_model.specs.Tiled.{IsTiledTo, Tiles, done_range, done_ranges_below, done_ranges_in, done_ranges_of, range_by}
use Rattle.rt_model.specs.declared.node.Key.{Key}
use Rattle.rt_model.specs.declared.node.Key.TheVariants as key
use Rattle.rt_model.specs.declared.node.Node.{Node}
use Rattle.rt_model.specs.declared.node.Node.TheVariants as node
use Rattle.rt_model.specs.declared.node.Seen.{Seen}
use Rattle.rt_model.specs.declared.seg_meta.SegMeta.{SegMeta}
use Rattle.rt_model.specs.declared.setup.Setup.{Setup}
use Rattle.rt_model.specs.declared.status.Status.{Status}
use Rattle.rt_model.specs.declared.status.Status.TheVariants.{InProgress, Done, Abandoned}
use Rattle.rt_model.proofs.Histories.{Has-writes_of, same_partition, writes_of-Has}
use Rattle.rt_model.proofs.Lawful.{has_tiles, prefix_is_lawful}
use Rattle.rt_model.proofs.Partitions.{past_same}
use Rattle.rt_model.proofs.Tilings.{Tiles-le}
use Rattle.rt_past.specs.Past.{Past}
use Rattle.rt_past.specs.View.{IsSound}
use Rattle.rt_store.specs.Contents.{starting_of}
use Rattle.rt_stream.specs.Log.{messages_of}
use Rattle.rt_live_end.specs.Ends.{committed_end, end_after, end_by, node_end, status_end}
use Rattle.rt_live_end.specs.Right.{IsTiledWithin}
use Rattle.rt_live_end.proofs.Members.{choice, chosen}

-- ---- whose range it is

-- a Done write of the partition, with its range
pub record IsRangeOf (h : List Seen) (p : Partition) (r : Range) : Type 0 where
  pub sequence : ℕ
  pub write : Seen
  pub has : Has h write
  pub is_of : write.key ≡ node_key p sequence
  pub range : done_range write.node ≡ Some r

pub range_of : (h : List Seen) (p : Partition) (count : ℕ) (r : Range) → Has (done_ranges_below h p count) r → IsRangeOf h p r
range_of h p zero r has = absurd has
range_of h p (suc s) r has =
    by_place (Has-append_cases (done_ranges_below h p s) (done_ranges_in (life_of h p s)) r has) (range_of h p s r)
  where
    by_place : Has (done_ranges_below h p s) r ⊎ Has (done_ranges_in (life_of h p s)) r → (Has (done_ranges_below h p s) r → IsRangeOf h p r) → IsRangeOf h p r
    by_place (inl below) further = further below
    by_place (inr here) further =
        let w = chosen (λ (v : Seen). done_range v.node) (life_of h p s) r here in
        let own = writes_of-Has h w.0 (node_key p s) w.1 in
        record { sequence = s; write = w.0; has = own.0; is_of = own.1; range = w.2 }

-- tiles end no further than each of them does
tiles_end : (from to most : ℕ) (rs : List Range) → Tiles from rs to → from ≤ most → ((r : Range) → Has rs r → r.end.0 ≤ most) → to ≤ most
tiles_end from to most [] t low each = omega (arith, t, low)
tiles_end from to most (r ∷ rs) t low each = tiles_end r.end.0 to most rs t.2 (each r (inl refl)) (λ x has. each x (inr has))

-- ---- the greatest end

abbrev write_at : Key → ℕ → Node → Seen
write_at key version n = record { key = key; version = version; node = n }

status_range : (start : Offset) (t : Status) (r : Range) → range_by start t ≡ Some r → status_end t ≡ r.end.0
status_range start InProgress r e = absurd (none-some r e)
status_range start (Done commit) r e = ap (λ (x : Range). x.end.0) (same_Some _ r e)
status_range start Abandoned r e = absurd (none-some r e)

node_range : (v : Node) (r : Range) → done_range v ≡ Some r → node_end v ≡ r.end.0
node_range (node.Meta m) r e = status_range m.start m.status r e
node_range (node.Ideal i) r e = absurd (none-some r e)
node_range node.Boot r e = absurd (none-some r e)
node_range node.Gone r e = absurd (none-some r e)

end_of_range : (p : Partition) (s : ℕ) (w : Seen) (r : Range) → w.key ≡ node_key p s → done_range w.node ≡ Some r → end_by p w ≡ r.end.0
end_of_range p s w r of is = ap (λ b. if b then node_end w.node else 0) (past_same p w.key s of).1 ∙ node_range w.node r is

low_end : (p : Partition) (h : List Seen) (from : ℕ) → from ≤ fold (end_after p) from h
low_end p [] from = omega arith
low_end p (w ∷ h) from = omega (arith, low_end p h (end_after p from w))

each_below : (p : Partition) (h : List Seen) (from : ℕ) (w : Seen) → Has h w → end_by p w ≤ fold (end_after p) from h
each_below p [] from w has = absurd has
each_below p (v ∷ h) from w (inl same) = omega (arith, low_end p h (end_after p from v), ap (end_by p) same)
each_below p (v ∷ h) from w (inr has) = each_below p h (end_after p from v) w has

none_above : (p : Partition) (h : List Seen) (from most : ℕ) → from ≤ most → ((w : Seen) → Has h w → end_by p w ≤ most) → fold (end_after p) from h ≤ most
none_above p [] from most low each = low
none_above p (w ∷ h) from most low each = none_above p h (end_after p from w) most (omega (arith, low, each w (inl refl))) (λ v has. each v (inr has))

pub counted : (h : List Seen) (p : Partition) (w : Seen) (s : ℕ) → Has h w → w.key ≡ node_key p s → s < sequences_of h p
counted [] p w s has of = absurd has
counted (v ∷ h) p w s (inl same) of = omega (arith, (past_same p v.key s (ap (λ (x : Seen). x.key) same ∙ of)).0)
counted (v ∷ h) p w s (inr has) of = omega (arith, counted h p w s has of)

-- the range of a write is among all
range_below : (h : List Seen) (p : Partition) (count s : ℕ) (r : Range) → s < count → Has (done_ranges_in (life_of h p s)) r → Has (done_ranges_below h p count) r
range_below h p zero s r lt has = absurd (omega (arith, lt))
range_below h p (suc n) s r lt has = by_last (cases_eq s n)
    (λ (other : s ≡ n → ⊥). Has-append_left (done_ranges_below h p n) (done_ranges_in (life_of h p n)) r (range_below h p n s r (lower other (cases_lt s n)) has))
  where
    lower : (s ≡ n → ⊥) → (s < n) ⊎ (n ≤ s) → s < n
    lower other (inl less) = less
    lower other (inr more) = absurd (other (omega (arith, lt, more)))

    by_last : (s ≡ n) ⊎ (s ≡ n → ⊥) → ((s ≡ n → ⊥) → Has (done_ranges_below h p (suc n)) r) → Has (done_ranges_below h p (suc n)) r
    by_last (inl same) further =
        Has-append_right (done_ranges_below h p n) (done_ranges_in (life_of h p n)) r (subst (λ (m : ℕ). Has (done_ranges_in (life_of h p m)) r) same has)
    by_last (inr other) further = further other

range_there : (h : List Seen) (p : Partition) (s : ℕ) (w : Seen) (r : Range) → Has h w → w.key ≡ node_key p s → done_range w.node ≡ Some r → Has (done_ranges_of h p) r
range_there h p s w r has of is =
    range_below h p (sequences_of h p) s r (counted h p w s has of)
    (choice (λ (v : Seen). done_range v.node) (life_of h p s) w r (Has-writes_of h w (node_key p s) has of) is)

tile_before : (from to : ℕ) (rs : List Range) (r : Range) → Tiles from rs to → Has rs r → r.end.0 ≤ to
tile_before from to [] r t has = absurd has
tile_before from to (x ∷ rs) r t (inl same) = omega (arith, Tiles-le x.end.0 to rs t.2, ap (λ (y : Range). y.end.0) same)
tile_before from to (x ∷ rs) r t (inr has) = tile_before x.end.0 to rs r t.2 has

module _ (h : List Seen) (p : Partition) (end : ℕ) (t : Tiles 0 (done_ranges_of h p) end) where
  status_below : (s version : ℕ) (m : SegMeta) (u : Status) → m.status ≡ u → Has h (write_at (node_key p s) version (node.Meta m)) → status_end u ≤ end
  status_below s version m InProgress is has = omega arith
  status_below s version m (Done commit) is has =
      let r : Range = record { start = m.start; end = commit.end } in
      tile_before 0 end (done_ranges_of h p) r t (range_there h p s (write_at (node_key p s) version (node.Meta m)) r has refl (ap (range_by m.start) is))
  status_below s version m Abandoned is has = omega arith

  node_below : (s version : ℕ) (v : Node) → Has h (write_at (node_key p s) version v) → node_end v ≤ end
  node_below s version (node.Meta m) has = status_below s version m m.status refl has
  node_below s version (node.Ideal i) has = omega arith
  node_below s version node.Boot has = omega arith
  node_below s version node.Gone has = omega arith

  write_below : (k : Key) (version : ℕ) (v : Node) → Has h (write_at k version v) → end_by p (write_at k version v) ≤ end
  write_below (key.Meta q s) version v has = by_test (q.0 == p.0) refl
    where
      by_test : (b : Bool) → (q.0 == p.0) ≡ b → (if b then node_end v else 0) ≤ end
      by_test true e =
          let same : q ≡ p = same_partition q p (eqb-true q.0 p.0 e) in
          node_below s.0 version v (subst (λ (z : Partition). Has h (write_at (key.Meta z s) version v)) same has)
      by_test false e = omega arith
  write_below key.Ideal version v has = omega arith
  write_below (key.Boot i) version v has = omega arith

  end_below : committed_end h p ≤ end
  end_below = none_above p h 0 end (omega arith) (λ w has. write_below w.key w.version w.node has)

  end_above : end ≤ committed_end h p
  end_above =
      tiles_end 0 end (committed_end h p) (done_ranges_of h p) t (omega arith)
      (λ r has.
      let x = range_of h p (sequences_of h p) r has in
      omega (arith, each_below p h 0 x.write x.has, end_of_range p x.sequence x.write r x.is_of x.range))

  pub greatest_end : end ≡ committed_end h p
  greatest_end = omega (arith, end_below, end_above)

-- ---- within the log

module _ (setup : Setup) (past : Past) (k : IsSound setup past) (p : Partition) (inside : p.0 < setup.partitions) where
  abbrev EndsWithin : Range → Type 0
  EndsWithin r = r.end.0 ≤ length (messages_of past.log p)

  status_within : (s version : ℕ) (m : SegMeta) (t : Status) (r : Range) → m.status ≡ t → Has past.history (write_at (node_key p s) version (node.Meta m))
      → range_by m.start t ≡ Some r → EndsWithin r
  status_within s version m InProgress r is has e = absurd (none-some r e)
  status_within s version m Abandoned r is has e = absurd (none-some r e)
  status_within s version m (Done commit) r is has e =
      let stored = k.done p (record { 0 = s }) (record { version = version; meta = m }) commit inside (has, subst IsDoneStatus (sym is) tt) is in
      let end : commit.end ≡ r.end = ap (λ (x : Range). x.end) (same_Some _ r e) in
      subst (λ (x : Offset). x.0 ≤ length (messages_of past.log p)) end stored.right.file.within.1

  node_within : (s version : ℕ) (v : Node) (r : Range) → Has past.history (write_at (node_key p s) version v) → done_range v ≡ Some r → EndsWithin r
  node_within s version (node.Meta m) r has e = status_within s version m m.status r refl has e
  node_within s version (node.Ideal i) r has e = absurd (none-some r e)
  node_within s version node.Boot r has e = absurd (none-some r e)
  node_within s version node.Gone r has e = absurd (none-some r e)

  ranges_within : (h : List Seen) → IsFront h past.history → (r : Range) → Has (done_ranges_of h p) r → EndsWithin r
  ranges_within h front r has =
      let x = range_of h p (sequences_of h p) r has in
      let w = x.write in
      let there : Has past.history (write_at (node_key p x.sequence) w.version w.node) =
      subst (λ (key : Key). Has past.history (write_at key w.version w.node)) x.is_of (Has-front h past.history w front x.has) in
      node_within x.sequence w.version w.node r there x.range

  pub tiled_within : (h : List Seen) → Begins (starting_of setup) h → IsFront h past.history → IsTiledWithin past.log h p
  tiled_within h begins front =
      let s = starting_of setup in
      let lawful : IsLawfulHistory s h = prefix_is_lawful s h front.0 begins (subst (IsLawfulHistory s) front.1 k.view.lawful) in
      let t = has_tiles s h lawful p inside in
      let same : t.0 ≡ committed_end h p = greatest_end h p t.0 t.1.all in
      record {
        tiled = subst (IsTiledTo h p) same t.1;
        within =
            subst (λ (end : ℕ). end ≤ length (messages_of past.log p)) same
            (tiles_end 0 t.0 (length (messages_of past.log p)) (done_ranges_of h p) t.1.all (omega arith) (ranges_within h front));
      }
