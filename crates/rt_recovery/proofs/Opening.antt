-- A segment's node in progress has one write. So one that was begun before the history has grown was in progress then, and no node that
-- has become Done is.
use Rattle.std.proofs.Common.{◌≡◌, inl, inr, ℕ, ◌<◌, List, [], ◌∷◌, ◌++◌, Some, refl, sym, ◌∙◌, ap, subst}
use Rattle.std.proofs.lemmas.List.Elements.{filter-append}
use Rattle.std.proofs.lemmas.Option.{none-some, same_Some}
use Rattle.rt_base.specs.declared.numbers.Offset.{Offset}
use Rattle.rt_lists.specs.Members.{Has, IsFront}
use Rattle.rt_model.specs.Chain.{IsLife}
use Rattle.rt_model.specs.Entries.{entries_of}
use Rattle.rt_model.specs.History.{last_of, same_key, value_by, value_in, value_of, writes_of}
use Rattle.rt_model.specs.Ideal.{mode_of}
use Rattle.rt_model.specs.Metadata.{Ends, IsDone, IsDoneStatus, IsEndFrom, IsInProgress, IsOpen as IsOpenNode}
use Rattle.rt_model.specs.declared.node.Key.{Key}
use Rattle.rt_model.specs.declared.node.Key.TheVariants as key
use Rattle.rt_model.specs.declared.node.Node.{Node}
use Rattle.rt_model.specs.declared.node.Node.TheVariants as node
use Rattle.rt_model.specs.declared.node.Seen.{Seen}
use Rattle.rt_model.specs.declared.status.Status.{Status}
use Rattle.rt_model.specs.declared.status.Status.TheVariants.{Abandoned, Done, InProgress}
use Rattle.rt_model.proofs.Histories.{value_of-last, Has-writes_of}
use Rattle.rt_model.proofs.Lawful.{nodes_are_in_order}
use Rattle.rt_past.specs.Segments.{IsBegun}
use Rattle.rt_server.specs.Table.{Segment}
use Rattle.rt_state.specs.IsSafeWorld.{IsSafeWorld}
use Rattle.rt_state.specs.declared.state.State.{State}
use Rattle.rt_store.specs.Contents.{starting_of}
use Rattle.rt_recovery.specs.ByRows.{IsOpen, IsToConsume}
use Rattle.rt_recovery.proofs.Committing.{IsEnded}

-- ---- a life

-- what ends isn't in progress, and neither is what is gone
ends_shut : (a b : Node) → Ends a b → IsOpenNode b → ⊥
ends_shut (node.Meta a) (node.Meta b) ends opened = by_status b.status ends.3 opened
  where
    by_status : (s : Status) → IsEndFrom b.start s → IsInProgress s → ⊥
    by_status InProgress end opened = end
    by_status (Done commit) end opened = opened
    by_status Abandoned end opened = opened
ends_shut (node.Meta a) (node.Ideal i) ends opened = opened
ends_shut (node.Meta a) node.Boot ends opened = opened
ends_shut (node.Meta a) node.Gone ends opened = opened
ends_shut (node.Ideal i) b ends opened = ends
ends_shut node.Boot b ends opened = ends
ends_shut node.Gone b ends opened = ends

-- nor what is Done
done_shut : (n : Node) → IsOpenNode n → IsDone n → ⊥
done_shut (node.Meta m) opened done = by_status m.status opened done
  where
    by_status : (s : Status) → IsInProgress s → IsDoneStatus s → ⊥
    by_status InProgress opened done = done
    by_status (Done commit) opened done = opened
    by_status Abandoned opened done = opened
done_shut (node.Ideal i) opened done = opened
done_shut node.Boot opened done = opened
done_shut node.Gone opened done = opened

-- one whose last write is in progress has no other
alone : (ws : List Seen) (w : Seen) → IsLife ws → last_of ws ≡ Some w → IsOpenNode w.node → ws ≡ w ∷ []
alone [] w life last opened = absurd (none-some w last)
alone (c ∷ []) w life last opened = ap (λ (x : Seen). x ∷ []) (same_Some c w last)
alone (c ∷ e ∷ []) w life last opened =
    absurd (ends_shut c.node e.node life.1 (subst (λ (x : Seen). IsOpenNode x.node) (sym (same_Some e w last)) opened))
alone (c ∷ e ∷ g ∷ []) w life last opened =
    absurd (subst IsOpenNode life.2 (subst (λ (x : Seen). IsOpenNode x.node) (sym (same_Some g w last)) opened))
alone (c ∷ e ∷ g ∷ x ∷ ws) w life last opened = absurd life

-- ---- a node in progress

module _ (w : State) (s : Segment) (safe : IsSafeWorld w) (within : s.0.0 < w.setup.partitions) (o : IsOpen w s) where
  abbrev k : Key
  k = key.Meta s.0 s.1

  pub open_node : IsOpenNode o.write.node
  open_node = subst IsOpenNode (sym o.is) (subst IsInProgress (sym o.in_progress) tt)

  pub open_alone : writes_of w.store.writes k ≡ o.write ∷ []
  open_alone =
      alone (writes_of w.store.writes k) o.write
      ((nodes_are_in_order (starting_of w.setup) w.store.writes safe.safe.past.lawful s.0 within).lives s.1.0)
      (value_of-last w.store.writes k o.write o.there).0 open_node

  -- so it hasn't become Done
  pub not_ended : IsEnded w.store.writes s.0 s.1 → ⊥
  not_ended (done, is) =
      by_place (subst (λ (ws : List Seen). Has ws done) open_alone (Has-writes_of w.store.writes done k is.has is.of))
    where
      by_place : Has (o.write ∷ []) done → ⊥
      by_place (inl same) = done_shut done.node (subst (λ (x : Seen). IsOpenNode x.node) same open_node) is.done
      by_place (inr none) = none

-- ---- the same history

pub open_same : (w v : State) → v.store.writes ≡ w.store.writes → (s : Segment) → IsOpen w s → IsOpen v s
open_same w v same s o =
    record {
      write = o.write;
      there = ap (λ (h : List Seen). value_of h (key.Meta s.0 s.1)) same ∙ o.there;
      meta = o.meta;
      is = o.is;
      in_progress = o.in_progress;
    }

pub consumes_same : (w v : State) → v.store.writes ≡ w.store.writes → (i : ℕ) (s : Segment) → IsToConsume w i s → IsToConsume v i s
consumes_same w v same i s consumes = ap (λ (h : List Seen). mode_of (entries_of h) s.0 s.1 (record { 0 = i })) same ∙ consumes

-- ---- a history that has grown

first_of_one : (xs ys : List Seen) (v w : Seen) → Has xs v → xs ++ ys ≡ w ∷ [] → xs ≡ w ∷ []
first_of_one [] ys v w has e = absurd has
first_of_one (x ∷ []) ys v w has e = ap (λ (z : Seen). z ∷ []) (first x ys e)
  where
    first : (x : Seen) (ys : List Seen) → x ∷ ys ≡ w ∷ [] → x ≡ w
    first x ys f = cc
first_of_one (x ∷ y ∷ xs) ys v w has e = absurd (more x y (xs ++ ys) e)
  where
    more : (x y : Seen) (zs : List Seen) → x ∷ y ∷ zs ≡ w ∷ [] → ⊥
    more x y zs f = cc

value_here : (n : Node) (w : Seen) → IsOpenNode n → value_by n w ≡ Some w
value_here (node.Meta m) w opened = refl
value_here (node.Ideal i) w opened = absurd opened
value_here node.Boot w opened = absurd opened
value_here node.Gone w opened = absurd opened

pub open_before : (w v : State) (s : Segment) (start : Offset) → IsSafeWorld v → s.0.0 < v.setup.partitions → IsFront w.store.writes v.store.writes
    → IsBegun w.store.writes s.0 s.1 start → IsOpen v s → IsOpen w s
open_before w v s start safe within front begun o =
    record {
      write = o.write;
      there = ap (λ (ws : List Seen). value_in (last_of ws)) its ∙ value_here o.write.node o.write (open_node v s safe within o);
      meta = o.meta;
      is = o.is;
      in_progress = o.in_progress;
    }
  where
    its : writes_of w.store.writes (key.Meta s.0 s.1) ≡ o.write ∷ []
    its =
        first_of_one (writes_of w.store.writes (key.Meta s.0 s.1)) (writes_of front.0 (key.Meta s.0 s.1)) begun.0 o.write
        (Has-writes_of w.store.writes begun.0 (key.Meta s.0 s.1) begun.1 begun.2)
        (sym (filter-append (λ (x : Seen). same_key x.key (key.Meta s.0 s.1)) w.store.writes front.0)
        ∙ ap (λ (h : List Seen). writes_of h (key.Meta s.0 s.1)) (sym front.1) ∙ open_alone v s safe within o)
