-- What a read of a segment's metadata tells of its end.
use Rattle.std.proofs.Common.{◌≡◌, ℕ, ◌<◌, List, Option, Some, None, Result, Ok, Err, refl, sym, ap, subst, ◌∙◌, arith}
use Rattle.rt_base.specs.declared.numbers.Offset.{Offset}
use Rattle.rt_base.specs.declared.numbers.Partition.{Partition}
use Rattle.rt_base.specs.declared.numbers.Sequence.{Sequence}
use Rattle.rt_lists.specs.Members.{Has}
use Rattle.rt_lists.proofs.Members.{Has-front}
use Rattle.rt_model.specs.declared.node.Key.TheVariants as key
use Rattle.rt_model.specs.declared.node.Node.{Node}
use Rattle.rt_model.specs.declared.node.Node.TheVariants as node
use Rattle.rt_model.specs.declared.node.Seen.{Seen}
use Rattle.rt_model.specs.declared.seg_meta.SeenMeta.{SeenMeta}
use Rattle.rt_model.specs.declared.seg_meta.SegMeta.{SegMeta}
use Rattle.rt_model.specs.declared.setup.Setup.{Setup}
use Rattle.rt_model.specs.declared.status.Status.{Status}
use Rattle.rt_model.specs.declared.status.Status.TheVariants.{InProgress, Done, Abandoned}
use Rattle.rt_model.specs.Chain.{start_by}
use Rattle.rt_model.specs.Lawful.{IsLawfulHistory}
use Rattle.rt_model.specs.Metadata.{Ends, IsEndFrom, IsFinal, IsFinalStatus}
use Rattle.rt_model.proofs.Lawful.{has_endings}
use Rattle.rt_store.specs.declared.refused.StoreRefused.{StoreRefused}
use Rattle.rt_store.specs.declared.refused.StoreRefused.TheVariants.{NoNode, Exists, VersionChanged, Failed, Memory}
use Rattle.rt_store.specs.Calls.{Reads}
use Rattle.rt_store.specs.Contents.{starting_of}
use Rattle.rt_store.specs.Meaning.{Meaning}
use Rattle.rt_store.proofs.Seeing.{read_grows, read_lawful, read_seen}
use Rattle.rt_past.specs.Segments.{IsBegun}
use Rattle.rt_consumer.specs.Consumer.{end_in, end_of}
use Rattle.rt_entry.specs.declared.refused.ServerRefused.{ServerRefused}
use Rattle.rt_server.specs.Past.{HasHistory, MayLearn, StartsWithItsNode}
use Rattle.rt_server.specs.Table.{ServerState}
use Rattle.rt_entry.specs.Transition.{metadata_by, metadata_in}

abbrev told : Option SeenMeta → Result (Option SeenMeta) ServerRefused
told o = Ok o

abbrev some_end : Offset → Option Offset
some_end end = Some end

abbrev some_meta : SeenMeta → Option SeenMeta
some_meta seen = Some seen

the_end : (a b : Offset) → some_end a ≡ some_end b → a ≡ b
the_end a b e = cc

-- a committed end is past the start of the node that was created
past_by : (c : SegMeta) (m : SegMeta) (status : Status) → m.start ≡ c.start → IsEndFrom m.start status → (end : Offset) → end_in status ≡ some_end end → c.start.0 < end.0
past_by c m InProgress same ends end e = absurd ends
past_by c m (Done commit) same past end e =
    omega (arith, past, ap (λ (x : Offset). x.0) same, ap (λ (x : Offset). x.0) (the_end commit.end end e))
past_by c m Abandoned same ends end e = absurd (no_end end e)
  where
    no_end : (end : Offset) → None ≡ some_end end → ⊥
    no_end end e = cc

past_start : (c : Node) (m : SegMeta) → Ends c (node.Meta m) → (end : Offset) → end_in m.status ≡ some_end end → start_by c < end.0
past_start (node.Meta c) m ends end e = past_by c m m.status ends.2 ends.3 end e
past_start (node.Ideal i) m ends end e = absurd ends
past_start node.Boot m ends end e = absurd ends
past_start node.Gone m ends end e = absurd ends

-- what is committed is final
final_by : (status : Status) (end : Offset) → end_in status ≡ some_end end → IsFinalStatus status
final_by InProgress end e = absurd (cc)
final_by (Done commit) end e = tt
final_by Abandoned end e = tt

-- what was read is a node with that metadata
read_meta : (version : ℕ) (n : Node) (seen : SeenMeta) → metadata_by version n ≡ some_meta seen → n ≡ node.Meta seen.meta
read_meta version (node.Meta m) seen e = ap (λ (s : SeenMeta). node.Meta s.meta) (the_meta (record { version = version; meta = m }) seen e)
  where
    the_meta : (a b : SeenMeta) → some_meta a ≡ some_meta b → a ≡ b
    the_meta a b e = cc
read_meta version (node.Ideal i) seen e = absurd (cc)
read_meta version node.Boot seen e = absurd (cc)
read_meta version node.Gone seen e = absurd (cc)

metadata_read : (answer : Result Seen StoreRefused) (seen : SeenMeta) → metadata_in answer ≡ told (Some seen) → (w : Seen) × (answer ≡ Ok w) × (w.node ≡ node.Meta seen.meta)
metadata_read (Ok w) seen e = (w, refl, read_meta w.version w.node seen (the_told (metadata_by w.version w.node) (Some seen) e))
  where
    the_told : (a b : Option SeenMeta) → told a ≡ told b → a ≡ b
    the_told a b e = cc
metadata_read (Err NoNode) seen e = absurd (cc)
metadata_read (Err (Exists found)) seen e = absurd (cc)
metadata_read (Err (VersionChanged expected found)) seen e = absurd (cc)
metadata_read (Err Failed) seen e = absurd (cc)
metadata_read (Err Memory) seen e = absurd (cc)

-- metadata that ends a node keeps its start
meta_start : (c : Node) (m : SegMeta) → Ends c (node.Meta m) → m.start.0 ≡ start_by c
meta_start (node.Meta c) m ends = ap (λ (x : Offset). x.0) ends.2
meta_start (node.Ideal i) m ends = absurd ends
meta_start node.Boot m ends = absurd ends
meta_start node.Gone m ends = absurd ends

same_offset : (a b : Offset) → a.0 ≡ b.0 → a ≡ b
same_offset a b e = ap (λ n. record { 0 = n }) e

-- in a lawful history a commit keeps the start of its node, and ends past it
pub meta_past : (setup : Setup) (h : List Seen) (p : Partition) (q : Sequence) (start end : Offset) (w : Seen) (seen : SeenMeta)
    → IsLawfulHistory (starting_of setup) h → p.0 < setup.partitions → IsBegun h p q start → Has h w → w.key ≡ key.Meta p q → w.node ≡ node.Meta seen.meta
    → end_of seen ≡ some_end end → (seen.meta.start ≡ start) × (start.0 < end.0)
meta_past setup h p q start end w seen lawful within (c, has, of, opens) there is_of is e =
    let ends = (has_endings (starting_of setup) h lawful p q.0 within).keeps c w
    (record { has = has; is_of = of; starts = opens.0 })
    (record { has = there; is_of = is_of; final = subst IsFinal (sym is) (final_by seen.meta.status end e) }) in
    let by_meta : Ends c.node (node.Meta seen.meta) = subst (Ends c.node) is ends in
    let past : start_by c.node < end.0 = past_start c.node seen.meta by_meta end e in
    (same_offset seen.meta.start start (meta_start c.node seen.meta by_meta ∙ opens.1), omega (arith, past, opens.1))

may_learn_some : (s : ServerState) (before after : Meaning) (p : Partition) (q : Sequence) (w : Seen) (seen : SeenMeta)
    → HasHistory s before → StartsWithItsNode s before p q → Reads before after (key.Meta p q) (Ok w) → w.node ≡ node.Meta seen.meta
    → MayLearn s.table p q (Some seen)
may_learn_some s before after p q w seen history starts reads is r end rep e =
    let begun = starts r rep in
    let c = begun.1 in
    let there = read_seen before after (key.Meta p q) w reads in
    (meta_past s.setup after.seen p q r.start end w seen (read_lawful (starting_of s.setup) before after (key.Meta p q) (Ok w) history reads) begun.0
    (c.0, Has-front before.seen after.seen c.0 (read_grows before after (key.Meta p q) (Ok w) reads) c.1, c.2, c.3)
    there.0 there.1 is e).1

-- the replica of a segment whose commit was read starts before the committed end
pub may_learn : (s : ServerState) (before after : Meaning) (p : Partition) (q : Sequence) (answer : Result Seen StoreRefused) (seen : Option SeenMeta)
    → HasHistory s before → StartsWithItsNode s before p q → Reads before after (key.Meta p q) answer → metadata_in answer ≡ told seen
    → MayLearn s.table p q seen
may_learn s before after p q answer None history starts reads e = tt
may_learn s before after p q answer (Some seen) history starts reads e =
    let m = metadata_read answer seen e in
    may_learn_some s before after p q m.0 seen history starts (subst (Reads before after (key.Meta p q)) m.1 reads) m.2

-- of the server whose fields these are
pub may_learn_in : (s t : ServerState) (before after : Meaning) (p : Partition) (q : Sequence) (answer : Result Seen StoreRefused) (seen : Option SeenMeta)
    → s ≡ t → HasHistory t before → StartsWithItsNode t before p q → Reads before after (key.Meta p q) answer → metadata_in answer ≡ told seen
    → MayLearn s.table p q seen
may_learn_in s t before after p q answer seen is history starts reads e =
    subst (λ (u : ServerState). MayLearn u.table p q seen) (sym is) (may_learn t before after p q answer seen history starts reads e)
