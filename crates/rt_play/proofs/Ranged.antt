-- The range with which a segment was committed, and where it stands: among the committed ranges of its partition, or below the mark.
use Rattle.std.proofs.Common.{◌≡◌, ◌<◌, ◌≤◌, ◌⊎◌, inl, inr, ℕ, List, [], ◌∷◌, ◌++◌, Option, Some, None, refl, sym, ◌∙◌, ap, subst, arith, ⊎_elim}
use Rattle.std.specs.List.{cons_option}
use Rattle.std.proofs.lemmas.Bool.{cases_lt}
use Rattle.std.proofs.lemmas.Option.{none-some, same_Some}
use Rattle.rt_base.specs.declared.numbers.Offset.{Offset}
use Rattle.rt_base.specs.declared.numbers.Partition.{Partition}
use Rattle.rt_base.specs.declared.numbers.Sequence.{Sequence}
use Rattle.rt_base.specs.declared.range.Range.{Range}
use Rattle.rt_lists.proofs.Members.{Has-append_cases, Has-same}
use Rattle.rt_lists.specs.Members.{Has}
use Rattle.rt_model.proofs.Histories.{Has-writes_of, writes_of-Has}
use Rattle.rt_model.proofs.Lawful.{has_chains, has_endings, has_tiles}
use Rattle.rt_model.proofs.Tilings.{Tiles-le}
use Rattle.rt_model.specs.Chain.{IsPastStart}
use Rattle.rt_model.specs.Lawful.{IsLawfulHistory}
use Rattle.rt_model.specs.Metadata.{IsDone, IsDoneStatus, IsEndFrom, IsFinal, IsFinalStatus, life_of, node_key, sequences_of}
use Rattle.rt_model.specs.Starting.{Starting}
use Rattle.rt_model.specs.Tiled.{Tiles, committed_of, done_range, done_ranges_in, done_ranges_of, mark_of, range_by}
use Rattle.rt_model.specs.declared.node.Node.{Node}
use Rattle.rt_model.specs.declared.node.Node.TheVariants as node
use Rattle.rt_model.specs.declared.node.Seen.{Seen}
use Rattle.rt_model.specs.declared.seg_meta.SegMeta.{SegMeta}
use Rattle.rt_model.specs.declared.status.Status.{Status}
use Rattle.rt_model.specs.declared.status.Status.TheVariants.{Abandoned, Done, InProgress}
use Rattle.rt_play.specs.Ledger.{IsDoneOver, Ranges, SaysDone}
use Rattle.rt_safety.proofs.Committed.{among_all}

-- ---- a node that says DONE

status_range : (r : Range) (m : SegMeta) (s : Status) → IsDoneOver r m s → range_by m.start s ≡ Some r
status_range r m InProgress k = absurd k
status_range r m (Done commit) k =
    let one : Offset → Range = λ x. record { start = x; end = commit.end } in
    let other : Offset → Range = λ x. record { start = r.start; end = x } in
    ap (λ x. Some (one x)) (sym k.0) ∙ ap (λ x. Some (other x)) (sym k.1)
status_range r m Abandoned k = absurd k

pub node_range : (r : Range) (n : Node) → SaysDone r n → done_range n ≡ Some r
node_range r (node.Meta m) k = status_range r m m.status k
node_range r (node.Ideal i) k = absurd k
node_range r node.Boot k = absurd k
node_range r node.Gone k = absurd k

status_says : (r : Range) (m : SegMeta) (s : Status) → range_by m.start s ≡ Some r → IsEndFrom m.start s → IsDoneOver r m s
status_says r m InProgress e k = absurd (none-some r e)
status_says r m (Done commit) e k =
    let same : record { start = m.start; end = commit.end } ≡ r = same_Some (record { start = m.start; end = commit.end }) r e in
    let start = ap (λ (x : Range). x.start) (sym same) in
    let end = ap (λ (x : Range). x.end) (sym same) in
    (start, end, omega (arith, k, ap (λ (x : Offset). x.0) start, ap (λ (x : Offset). x.0) end))
status_says r m Abandoned e k = absurd (none-some r e)

node_says : (r : Range) (n : Node) → done_range n ≡ Some r → IsPastStart n → SaysDone r n
node_says r (node.Meta m) e k = status_says r m m.status e k
node_says r (node.Ideal i) e k = absurd (none-some r e)
node_says r node.Boot e k = absurd (none-some r e)
node_says r node.Gone e k = absurd (none-some r e)

status_done : (start : Offset) (s : Status) (r : Range) → range_by start s ≡ Some r → IsDoneStatus s × IsFinalStatus s
status_done start InProgress r e = absurd (none-some r e)
status_done start (Done commit) r e = (tt, tt)
status_done start Abandoned r e = absurd (none-some r e)

range_done : (n : Node) (r : Range) → done_range n ≡ Some r → IsDone n × IsFinal n
range_done (node.Meta m) r e = status_done m.start m.status r e
range_done (node.Ideal i) r e = absurd (none-some r e)
range_done node.Boot r e = absurd (none-some r e)
range_done node.Gone r e = absurd (none-some r e)

done_some : (n : Node) → IsDone n → (r : Range) × (done_range n ≡ Some r)
done_some (node.Meta m) k = by_status m.status k
  where
    by_status : (s : Status) → IsDoneStatus s → (r : Range) × (range_by m.start s ≡ Some r)
    by_status InProgress k = absurd k
    by_status (Done commit) k = (record { start = m.start; end = commit.end }, refl)
    by_status Abandoned k = absurd k
done_some (node.Ideal i) k = absurd k
done_some node.Boot k = absurd k
done_some node.Gone k = absurd k

-- ---- the range of a segment

abbrev first_of : List Range → Range
first_of [] = record { start = record { 0 = 0 }; end = record { 0 = 0 } }
first_of (r ∷ rs) = r

-- that of its Done write, if there is one
abbrev pub range_in : List Seen → Ranges
range_in h p q = first_of (done_ranges_in (life_of h p q.0))

-- the range that comes first is that of some write
record IsFirst (ws : List Seen) : Type 0 where
  write : Seen
  has : Has ws write
  range : done_range write.node ≡ Some (first_of (done_ranges_in ws))

first_write : (ws : List Seen) (w : Seen) (r : Range) → Has ws w → done_range w.node ≡ Some r → IsFirst ws
first_write [] w r has e = absurd has
first_write (v ∷ ws) w r has e = by_range (done_range v.node) refl has (λ k. first_write ws w r k e)
  where
    by_range : (o : Option Range) → done_range v.node ≡ o → Has (v ∷ ws) w → (Has ws w → IsFirst ws) → IsFirst (v ∷ ws)
    by_range (Some x) f has further = record {
      write = v;
      has = inl refl;
      range = f ∙ ap (λ (o : Option Range). Some (first_of (cons_option o (done_ranges_in ws)))) (sym f);
    }
    by_range None f (inl same) further = absurd (none-some r (sym f ∙ ap (λ (x : Seen). done_range x.node) same ∙ e))
    by_range None f (inr has) further =
        let rest = further has in
        record {
          write = rest.write;
          has = inr rest.has;
          range = rest.range ∙ ap (λ (o : Option Range). Some (first_of (cons_option o (done_ranges_in ws)))) (sym f);
        }

-- each Done write of a segment has its range
abbrev pub AreRanged : Starting → List Seen → Ranges → Type 0
AreRanged s h ranges =
    (p : Partition) (q : Sequence) (w : Seen) → p.0 < s.partitions → Has h w → w.key ≡ node_key p q.0 → IsDone w.node → SaysDone (ranges p q) w.node

pub are_ranged : (s : Starting) (h : List Seen) → IsLawfulHistory s h → AreRanged s h (range_in h)
are_ranged s h lawful p q w within has of done =
    let r = done_some w.node done in
    let first = first_write (life_of h p q.0) w r.0 (Has-writes_of h w (node_key p q.0) has of) r.1 in
    let there = writes_of-Has h first.write (node_key p q.0) first.has in
    let ends = range_done first.write.node (first_of (done_ranges_in (life_of h p q.0))) first.range in
    let same : first.write ≡ w =
    (has_endings s h lawful p q.0 within).once first.write w (record { has = there.0; is_of = there.1; final = ends.1 })
    (record { has = has; is_of = of; final = (range_done w.node r.0 r.1).1 }) in
    subst (λ (x : Seen). SaysDone (range_in h p q) x.node) same
    (node_says (range_in h p q) first.write.node first.range
    ((has_chains s h lawful p within).past_start q.0 first.write there.0 there.1 ends.0))

-- ---- where it stands

among : (ws : List Seen) (w : Seen) (r : Range) → Has ws w → done_range w.node ≡ Some r → Has (done_ranges_in ws) r
among [] w r has e = absurd has
among (v ∷ ws) w r (inl same) e =
    subst (λ (o : Option Range). Has (cons_option o (done_ranges_in ws)) r) (sym (ap (λ (x : Seen). done_range x.node) same ∙ e)) (inl refl)
among (v ∷ ws) w r (inr has) e = behind (done_range v.node) (among ws w r has e)
  where
    behind : (o : Option Range) → Has (done_ranges_in ws) r → Has (cons_option o (done_ranges_in ws)) r
    behind None k = k
    behind (Some x) k = inr k

ends_before : (from to : ℕ) (rs : List Range) (r : Range) → Tiles from rs to → Has rs r → r.end.0 ≤ to
ends_before from to [] r t has = absurd has
ends_before from to (x ∷ rs) r t (inl same) = let le = Tiles-le x.end.0 to rs t.2 in omega (arith, le, ap (λ (y : Range). y.end.0) same)
ends_before from to (x ∷ rs) r t (inr has) = ends_before x.end.0 to rs r t.2 has

-- the range of a Done write is among the committed ones, or below the mark
pub range_stands : (s : Starting) (h : List Seen) → IsLawfulHistory s h → (p : Partition) (q : Sequence) (w : Seen) (r : Range) → p.0 < s.partitions → Has h w
    → w.key ≡ node_key p q.0 → SaysDone r w.node → Has (committed_of h p) r ⊎ (r.end.0 ≤ mark_of h p)
range_stands s h lawful p q w r within has of says =
    let range = node_range r w.node says in
    let chain = has_chains s h lawful p within in
    let tiles = (has_tiles s h lawful p within).1 in
    let lt : q.0 < sequences_of h p = ⊎_elim (λ k. k) (λ k. absurd (chain.uncreated q.0 w k has of)) (cases_lt q.0 (sequences_of h p)) in
    let all = among_all h p (sequences_of h p) q.0 r lt (among (life_of h p q.0) w r (Has-writes_of h w (node_key p q.0) has of) range) in
    by_place tiles.retired tiles.below_mark
    (Has-append_cases tiles.retired (committed_of h p) r (Has-same (done_ranges_of h p) (tiles.retired ++ committed_of h p) r tiles.suffix all))
  where
    by_place : (retired : List Range) → Tiles 0 retired (mark_of h p) → Has retired r ⊎ Has (committed_of h p) r
        → Has (committed_of h p) r ⊎ (r.end.0 ≤ mark_of h p)
    by_place retired below (inl k) = inr (ends_before 0 (mark_of h p) retired r below k)
    by_place retired below (inr k) = inl k
