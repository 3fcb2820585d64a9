-- Which bytes are the file that metadata names.
use Rattle.std.proofs.Common.{◌≡◌, Option, Result, Ok, Err, sym, ap, subst}
use Rattle.rt_base.specs.declared.header.Header.{Header}
use Rattle.rt_segment.specs.declared.segment_refused.SegmentRefused.{SegmentRefused}
use Rattle.rt_segment.specs.declared.segment_refused.SegmentRefused.TheVariants as segment
use Rattle.rt_segment.specs.Cursor.{Answers}
use Rattle.rt_segment.specs.Segment.{SealedSegment}
use Rattle.rt_peer.specs.declared.peer_fault.PeerFault.{PeerFault}
use Rattle.rt_peer.specs.declared.peer_fault.PeerFault.TheVariants.{Failed, Memory}
use Rattle.rt_peer.specs.Files.{Comes, decoded_as, fitting}

abbrev told : Option SealedSegment → Result (Option SealedSegment) PeerFault
told file = Ok file

abbrev no_memory : Result (Option SealedSegment) PeerFault
no_memory = Err Memory

same_step : (step other result : Result (Option SealedSegment) PeerFault) → other ≡ step → Comes step result → Comes other result
same_step step other result e h = subst (λ x. Comes x result) (sym e) h

-- where memory ran out, nothing else can have come of it
ran_out : (step result : Result (Option SealedSegment) PeerFault) → Comes no_memory result → Comes step result
ran_out step (Ok file) h = absurd (cc)
ran_out step (Err Failed) h = absurd (cc)
ran_out step (Err Memory) h = tt

-- what comes of decoded bytes is what comes of the bytes, unless memory ran out
pub decoded_is : (wanted : Header) (decoded read : Result SealedSegment SegmentRefused) (result : Result (Option SealedSegment) PeerFault)
    → Answers (λ s. s) decoded read → Comes (decoded_as wanted decoded) result → Comes (told (fitting wanted read)) result
decoded_is wanted (Ok file) read result e h = same_step (decoded_as wanted (Ok file)) (told (fitting wanted read)) result (ap (λ r. told (fitting wanted r)) e) h
decoded_is wanted (Err segment.Truncated) read result e h = same_step (decoded_as wanted (Err segment.Truncated)) (told (fitting wanted read)) result (ap (λ r. told (fitting wanted r)) e) h
decoded_is wanted (Err segment.Magic) read result e h = same_step (decoded_as wanted (Err segment.Magic)) (told (fitting wanted read)) result (ap (λ r. told (fitting wanted r)) e) h
decoded_is wanted (Err (segment.NotCanonical byte)) read result e h = same_step (decoded_as wanted (Err (segment.NotCanonical byte))) (told (fitting wanted read)) result (ap (λ r. told (fitting wanted r)) e) h
decoded_is wanted (Err segment.Digest) read result e h = same_step (decoded_as wanted (Err segment.Digest)) (told (fitting wanted read)) result (ap (λ r. told (fitting wanted r)) e) h
decoded_is wanted (Err segment.Limit) read result e h = same_step (decoded_as wanted (Err segment.Limit)) (told (fitting wanted read)) result (ap (λ r. told (fitting wanted r)) e) h
decoded_is wanted (Err segment.Memory) read result e h = ran_out (told (fitting wanted read)) result h
