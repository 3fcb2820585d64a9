-- A segment begins within the log.
use Rattle.std.proofs.Common.{◌≡◌, ◌≤◌, ◌<◌, ◌+◌, ℕ, zero, suc, Bool, true, false, nat_lt, length, add-one, refl, sym, ap, subst, arith}
use Rattle.std.proofs.lemmas.Bool.{ltb-true, ltb-false}
use Rattle.rt_base.specs.declared.numbers.Offset.{Offset}
use Rattle.rt_base.specs.declared.numbers.Partition.{Partition}
use Rattle.rt_base.specs.declared.numbers.Sequence.{Sequence}
use Rattle.rt_lists.specs.Members.{Has}
use Rattle.rt_stream.specs.Log.{messages_of}
use Rattle.rt_model.specs.declared.node.Key.{Key}
use Rattle.rt_model.specs.declared.node.Node.{Node}
use Rattle.rt_model.specs.declared.node.Node.TheVariants as node
use Rattle.rt_model.specs.declared.node.Seen.{Seen}
use Rattle.rt_model.specs.declared.seg_meta.SegMeta.{SegMeta}
use Rattle.rt_model.specs.declared.setup.Setup.{Setup}
use Rattle.rt_model.specs.declared.status.Status.{Status}
use Rattle.rt_model.specs.declared.status.Status.TheVariants.{InProgress, Done, Abandoned}
use Rattle.rt_model.specs.Chain.{IsChainOf, IsCreation, deletions_of, start_by}
use Rattle.rt_model.specs.Metadata.{Ends, Follows, IsDoneStatus, IsFinal, IsFinalStatus, StartsAfter, node_key, sequences_of}
use Rattle.rt_model.proofs.Lawful.{has_chains, has_endings}
use Rattle.rt_store.specs.Contents.{starting_of}
use Rattle.rt_past.specs.Past.{Past}
use Rattle.rt_past.specs.IsPast.{IsPast}
use Rattle.rt_past.specs.Segments.{IsBegun, WasMeta}
use Rattle.rt_past.specs.View.{IsSound}
use Rattle.rt_past.proofs.Sound.{past_sound}

same_start : (c v : Node) → Ends c v → start_by v ≡ start_by c
same_start (node.Meta a) (node.Meta b) e = ap (λ (x : Offset). x.0) e.2
same_start (node.Meta a) (node.Ideal i) e = absurd e
same_start (node.Meta a) node.Boot e = absurd e
same_start (node.Meta a) node.Gone e = absurd e
same_start (node.Ideal i) v e = absurd e
same_start node.Boot v e = absurd e
same_start node.Gone v e = absurd e

abbrev write_at : Key → ℕ → Node → Seen
write_at key version n = record { key = key; version = version; node = n }

module _ (setup : Setup) (past : Past) (p : Partition) (k : IsSound setup past) (inside : p.0 < setup.partitions) where
  abbrev end : ℕ
  end = length (messages_of past.log p)

  chain : IsChainOf past.history p (deletions_of past.history p) (sequences_of past.history p)
  chain = has_chains (starting_of setup) past.history k.view.lawful p inside

  -- the next segment begins where this one ended or began
  next_within : (s : Sequence) (version : ℕ) (a : SegMeta) (status : Status) (next : Offset) → StartsAfter status a.start next → a.status ≡ status
      → WasMeta past.history p s (record { version = version; meta = a }) → (IsFinalStatus status → a.start.0 ≤ end) → next.0 ≤ end
  next_within s version a InProgress next f is was h = absurd f
  next_within s version a (Done commit) next f is was h =
      let stored = k.done p s (record { version = version; meta = a }) commit inside (was, subst IsDoneStatus (sym is) tt) is in
      omega (arith, ap (λ (x : Offset). x.0) f, stored.right.file.within.1)
  next_within s version a Abandoned next f is was h = omega (arith, ap (λ (x : Offset). x.0) f, h tt)

  follows_within : (s : Sequence) (version : ℕ) (v w : Node) → Follows v w → Has past.history (write_at (node_key p s.0) version v) → (IsFinal v → start_by v ≤ end)
      → start_by w ≤ end
  follows_within s version (node.Meta a) (node.Meta b) f was h = next_within s version a a.status b.start f.1 refl was h
  follows_within s version (node.Meta a) (node.Ideal i) f was h = absurd f
  follows_within s version (node.Meta a) node.Boot f was h = absurd f
  follows_within s version (node.Meta a) node.Gone f was h = absurd f
  follows_within s version (node.Ideal i) w f was h = absurd f
  follows_within s version node.Boot w f was h = absurd f
  follows_within s version node.Gone w f was h = absurd f

  below_count : (n : ℕ) (w : Seen) (b : Bool) → nat_lt n (sequences_of past.history p) ≡ b → IsCreation past.history p (n + 1) w → n < sequences_of past.history p
  below_count n w true e c = ltb-true n (sequences_of past.history p) e
  below_count n w false e c = absurd (chain.uncreated (n + 1) w (omega (arith, ltb-false n (sequences_of past.history p) e)) c.has c.is_of)

  created_within : (n : ℕ) (w : Seen) → IsCreation past.history p n w → start_by w.node ≤ end
  created_within zero w c = omega (arith, chain.from_zero w c)
  created_within (suc n) w c =
      let here : IsCreation past.history p (n + 1) w = subst (λ m. IsCreation past.history p m w) (sym (add-one n)) c in
      let prior = chain.next n w here in
      let first = chain.created n (below_count n w (nat_lt n (sequences_of past.history p)) refl here) in
      let v = prior.0 in
      let was : Has past.history (write_at (node_key p n) v.version v.node) = subst (λ (key : Key). Has past.history (write_at key v.version v.node)) prior.2 prior.1 in
      follows_within (record { 0 = n }) v.version v.node w.node prior.3 was
      (λ final.
      let ends : Ends first.0.node v.node =
      (has_endings (starting_of setup) past.history k.view.lawful p n inside).keeps first.0 v first.1 (record { has = prior.1; is_of = prior.2; final = final }) in
      omega (arith, same_start first.0.node v.node ends, created_within n first.0 first.1))

  pub sound_begun_within : (s : Sequence) (start : Offset) → IsBegun past.history p s start → start.0 ≤ end
  sound_begun_within s start (w, has, of, opens) =
      omega (arith, opens.1, created_within s.0 w (record { has = has; is_of = of; starts = opens.0 }))

pub begun_within : (setup : Setup) (past : Past) (p : Partition) → IsPast setup past → p.0 < setup.partitions → (s : Sequence) (start : Offset)
    → IsBegun past.history p s start → start.0 ≤ length (messages_of past.log p)
begun_within setup past p k inside s start begun = sound_begun_within setup past p (past_sound setup past k) inside s start begun
