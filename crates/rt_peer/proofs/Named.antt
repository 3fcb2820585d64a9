-- Files with the wanted header.
use Rattle.std.proofs.Common.{◌≡◌, ℕ, ◌&&◌, Bool, true, false, cond, List, Option, Some, None, Result, Ok, Err, bytes_eq, eqb, refl, ap, subst, ◌∙◌}
use Rattle.std.proofs.lemmas.Bool.{and_parts, eqb-true, eq-eqb}
use Rattle.std.proofs.lemmas.Slice.Eq.{bytes_eq-Decides}
use Rattle.rt_base.specs.declared.header.Header.{Header}
use Rattle.rt_segment.specs.declared.segment_refused.SegmentRefused.{SegmentRefused}
use Rattle.rt_segment.specs.Reading.{read_file}
use Rattle.rt_segment.specs.Segment.{SealedSegment, IsSealed}
use Rattle.rt_segment.specs.Spelling.{file_of, header_of}
use Rattle.rt_segment.proofs.FileLaws.{spelled_read}
use Rattle.rt_peer.specs.Files.{file_in, fitting, same_header, IsWanted}

abbrev made : ℕ → ℕ → ℕ → ℕ → ℕ → List ℕ → Header
made p s start end rows digest =
    record {
      partition = record { 0 = p };
      sequence = record { 0 = s };
      range = record { start = record { 0 = start }; end = record { 0 = end } };
      rows = rows;
      digest = digest;
    }

-- headers that are found the same are the same
pub same_is : (a b : Header) → same_header a b ≡ true → a ≡ b
same_is a b e =
    let h = and_parts _ (bytes_eq a.digest b.digest) e in
    let i = and_parts _ (eqb a.rows b.rows) h.0 in
    let j = and_parts _ (eqb a.range.end.0 b.range.end.0) i.0 in
    let k = and_parts _ (eqb a.range.start.0 b.range.start.0) j.0 in
    let l = and_parts (eqb a.partition.0 b.partition.0) (eqb a.sequence.0 b.sequence.0) k.0 in
    let p : a.partition.0 ≡ b.partition.0 = eqb-true a.partition.0 b.partition.0 l.0 in
    let s : a.sequence.0 ≡ b.sequence.0 = eqb-true a.sequence.0 b.sequence.0 l.1 in
    let start : a.range.start.0 ≡ b.range.start.0 = eqb-true a.range.start.0 b.range.start.0 k.1 in
    let end : a.range.end.0 ≡ b.range.end.0 = eqb-true a.range.end.0 b.range.end.0 j.1 in
    let rows : a.rows ≡ b.rows = eqb-true a.rows b.rows i.1 in
    let digest : a.digest ≡ b.digest = (bytes_eq-Decides a.digest b.digest).0 h.1 in
    ap (λ x. made x a.sequence.0 a.range.start.0 a.range.end.0 a.rows a.digest) p
    ∙ ap (λ x. made b.partition.0 x a.range.start.0 a.range.end.0 a.rows a.digest) s
    ∙ ap (λ x. made b.partition.0 b.sequence.0 x a.range.end.0 a.rows a.digest) start
    ∙ ap (λ x. made b.partition.0 b.sequence.0 b.range.start.0 x a.rows a.digest) end
    ∙ ap (λ x. made b.partition.0 b.sequence.0 b.range.start.0 b.range.end.0 x a.digest) rows
    ∙ ap (made b.partition.0 b.sequence.0 b.range.start.0 b.range.end.0 b.rows) digest

both : (x y : Bool) → x ≡ true → y ≡ true → (x && y) ≡ true
both true y e h = h
both false y e h = absurd (cc)

eqb_same : (n : ℕ) → eqb n n ≡ true
eqb_same n = eq-eqb n n refl

pub same_itself : (a : Header) → same_header a a ≡ true
same_itself a =
    both _ (bytes_eq a.digest a.digest)
    (both _ (eqb a.rows a.rows)
    (both _ (eqb a.range.end.0 a.range.end.0)
    (both _ (eqb a.range.start.0 a.range.start.0)
    (both (eqb a.partition.0 a.partition.0) (eqb a.sequence.0 a.sequence.0) (eqb_same a.partition.0) (eqb_same a.sequence.0))
    (eqb_same a.range.start.0))
    (eqb_same a.range.end.0))
    (eqb_same a.rows))
    ((bytes_eq-Decides a.digest a.digest).1 refl)

abbrev file : SealedSegment → Option SealedSegment
file s = Some s

named_by : (b : Bool) (wanted : Header) (s t : SealedSegment) → same_header (header_of s) wanted ≡ b → cond b (file s) None ≡ file t → header_of t ≡ wanted
named_by true wanted s t same e =
    let is : s ≡ t = cc in
    subst (λ (x : SealedSegment). header_of x ≡ wanted) is (same_is (header_of s) wanted same)
named_by false wanted s t same e = absurd (cc)

-- what fits has the wanted header
pub fitting_named : (wanted : Header) (read : Result SealedSegment SegmentRefused) (t : SealedSegment) → fitting wanted read ≡ file t → header_of t ≡ wanted
fitting_named wanted (Ok s) t e = named_by (same_header (header_of s) wanted) wanted s t refl e
fitting_named wanted (Err refused) t e = absurd (cc)

pub file_named : (wanted : Header) (bytes : List ℕ) (t : SealedSegment) → file_in wanted bytes ≡ file t → header_of t ≡ wanted
file_named wanted bytes t e = fitting_named wanted (read_file bytes) t e

-- the file of a segment with the wanted header fits
pub file_fits : (wanted : Header) (bytes : List ℕ) (s : SealedSegment) → IsSealed s → bytes ≡ file_of s → header_of s ≡ wanted → file_in wanted bytes ≡ file s
file_fits wanted bytes s right spelled named =
    ap (fitting wanted) (ap read_file spelled ∙ spelled_read s right)
    ∙ ap (λ b. cond b (file s) None) (ap (λ (h : Header). same_header h wanted) named ∙ same_itself wanted)

pub wanted_fits : (wanted : Header) (bytes : List ℕ) (w : IsWanted wanted bytes) → file_in wanted bytes ≡ file w.segment
wanted_fits wanted bytes w = file_fits wanted bytes w.segment w.right w.spelled w.named
