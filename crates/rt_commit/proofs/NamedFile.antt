-- The file that a CommitEnd names is the one that its segment wants.
use Rattle.std.proofs.Common.{◌≡◌, ℕ, ◌<◌, ◌==◌, ◌&&◌, Bool, true, List, Some, refl, sym, ◌∙◌, ap, subst}
use Rattle.std.proofs.lemmas.Bool.{eq-eqb}
use Rattle.std.proofs.lemmas.Option.{same_Some}
use Rattle.rt_base.specs.declared.numbers.Offset.{Offset}
use Rattle.rt_base.specs.declared.numbers.Partition.{Partition}
use Rattle.rt_base.specs.declared.numbers.Sequence.{Sequence}
use Rattle.rt_base.specs.declared.range.Range.{Range}
use Rattle.rt_model.specs.declared.asked.Asked.{Asked}
use Rattle.rt_model.specs.declared.node.Node.{Node}
use Rattle.rt_model.specs.declared.node.Node.TheVariants as node
use Rattle.rt_model.specs.declared.node.Seen.{Seen}
use Rattle.rt_model.specs.declared.request.Request.{Request}
use Rattle.rt_model.specs.declared.request.RequestKind.{RequestKind}
use Rattle.rt_model.specs.declared.request.RequestKind.TheVariants as kind
use Rattle.rt_model.specs.declared.setup.Setup.{Setup}
use Rattle.rt_model.specs.Chain.{start_by}
use Rattle.rt_model.specs.Metadata.{IsOpen}
use Rattle.rt_model.proofs.Lawful.{has_chains}
use Rattle.rt_deep.specs.declared.deep_put.DeepPut.{DeepPut}
use Rattle.rt_store.specs.Contents.{starting_of}
use Rattle.rt_segment.specs.Spelling.{header_of}
use Rattle.rt_segment.proofs.FileLaws.{spelled_read}
use Rattle.rt_past.specs.Files.{IsRightFile, Stands, header_by, header_in}
use Rattle.rt_past.specs.IsPast.{IsPast}
use Rattle.rt_past.specs.Past.{Past}
use Rattle.rt_past.specs.Requests.{IsKind}
use Rattle.rt_past.specs.Segments.{IsBegun}
use Rattle.rt_znodes.specs.Znodes.{meta_in}
use Rattle.rt_commit.specs.IsJob.{IsRead}
use Rattle.rt_commit.specs.Job.{is_wanted}
use Rattle.rt_commit.specs.Lasting.{WasNamed}

same_offset : (x y : Offset) → x.0 ≡ y.0 → x ≡ y
same_offset x y e = let offset : ℕ → Offset = λ n. record { 0 = n } in ap offset e

start_is : (n : Node) → IsOpen n → (meta_in n).start.0 ≡ start_by n
start_is (node.Meta m) o = refl
start_is (node.Ideal i) o = absurd o
start_is node.Boot o = absurd o
start_is node.Gone o = absurd o

-- a segment has one start
pub begun_at : (setup : Setup) (past : Past) (p : Partition) (s : Sequence) (from : Seen) (start : Offset) → p.0 < setup.partitions
    → IsPast setup past → IsRead past.history p s from → IsBegun past.history p s start → start ≡ (meta_in from.node).start
begun_at setup past p s from start within k read (w, has, of, opens) =
    let chain = has_chains (starting_of setup) past.history k.lawful p within in
    let one = chain.once s.0 w from (record { has = has; is_of = of; starts = opens.0 })
    (record { has = read.has; is_of = read.of; starts = read.consuming }) in
    same_offset start (meta_in from.node).start
    (sym opens.1 ∙ ap (λ (x : Seen). start_by x.node) one ∙ sym (start_is from.node read.consuming))

-- the file that stands at the path is the segment's, from its start up to the end
pub record IsChecked (setup : Setup) (past : Past) (a : Asked) (start end : Offset) (bytes : List ℕ) : Type 0 where
  pub right : IsRightFile setup past a.partition a.sequence start end bytes
  pub read : header_in bytes ≡ Some (header_of right.file.segment)
  pub fits : is_wanted a start end (header_of right.file.segment) ≡ true

all_four : (a b c d : Bool) → a ≡ true → b ≡ true → c ≡ true → d ≡ true → (a && b && c && d) ≡ true
all_four a b c d e f g h = rw (e, f, g, h) refl

checked_right : (setup : Setup) (past : Past) (a : Asked) (start end : Offset) (bytes : List ℕ)
    → IsRightFile setup past a.partition a.sequence start end bytes → IsChecked setup past a start end bytes
checked_right setup past a start end bytes r =
    let segment = r.file.segment in
    let of = r.file.header in
    record {
      right = r;
      read = ap header_in r.file.spelled ∙ ap header_by (spelled_read segment r.file.«sealed»);
      fits =
          all_four (segment.partition.0 == a.partition.0) (segment.sequence.0 == a.sequence.0) (segment.range.start.0 == start.0)
          (segment.range.end.0 == end.0)
          (eq-eqb segment.partition.0 a.partition.0 (ap (λ (x : Partition). x.0) of.0))
          (eq-eqb segment.sequence.0 a.sequence.0 (ap (λ (x : Sequence). x.0) of.1))
          (eq-eqb segment.range.start.0 start.0 (ap (λ (x : Range). x.start.0) of.2))
          (eq-eqb segment.range.end.0 end.0 (ap (λ (x : Range). x.end.0) of.2));
    }

kind_at : (setup : Setup) (past : Past) (q : Request) (start : Offset) (k : RequestKind) → q.kind ≡ k → IsKind setup past q start q.kind
    → IsKind setup past q start k
kind_at setup past q start k e is = subst (IsKind setup past q start) e is

module _ (setup : Setup) (past : Past) (k : IsPast setup past) (a : Asked) (from : Seen) (end : Offset) (path : List ℕ) (within : a.partition.0 < setup.partitions)
    (read : IsRead past.history a.partition a.sequence from) (named : WasNamed past a end path) where
  -- the file that the request names is right of what is asked
  right_at : (q : Request) (start : Offset) (bytes : List ℕ) (p : Partition) (s : Sequence) (x : Offset) → q.partition ≡ p → q.sequence ≡ s → q.offset ≡ x
      → IsRightFile setup past q.partition q.sequence start q.offset bytes → IsRightFile setup past p s start x bytes
  right_at q start bytes p s x e f g r =
      subst (λ (o : Offset). IsRightFile setup past p s start o bytes) g
      (subst (λ (t : Sequence). IsRightFile setup past p t start q.offset bytes) f
      (subst (λ (o : Partition). IsRightFile setup past o q.sequence start q.offset bytes) e r))

  pub named_file : (bytes : List ℕ) × Stands past.files path bytes × IsChecked setup past a (meta_in from.node).start end bytes
  named_file =
      let q = named.request in
      let right = k.requests q named.was_sent in
      let file = kind_at setup past q right.start (kind.CommitEnd path) named.names right.kind in
      let p : q.partition ≡ a.partition = ap (λ (x : Asked). x.partition) named.answers in
      let s : q.sequence ≡ a.sequence = ap (λ (x : Asked). x.sequence) named.answers in
      let r = right_at q right.start file.0 a.partition a.sequence end p s named.offset file.2 in
      let start = begun_at setup past a.partition a.sequence from right.start within k read r.begun in (
        file.0,
        file.1,
        checked_right setup past a (meta_in from.node).start end file.0
            (subst (λ (x : Offset). IsRightFile setup past a.partition a.sequence x end file.0) start r),
      )

abbrev pub put_at : List ℕ → List ℕ → DeepPut
put_at path bytes = record { path = path; bytes = bytes }

pub same_bytes : (files : List DeepPut) (path bytes other : List ℕ) → Stands files path bytes → Stands files path other → other ≡ bytes
same_bytes files path bytes other e f = ap (λ (x : DeepPut). x.bytes) (same_Some (put_at path other) (put_at path bytes) (sym f ∙ e))
