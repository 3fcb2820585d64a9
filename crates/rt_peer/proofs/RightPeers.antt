-- What a fetch gives: a file with the wanted header, and from a right peer the one file of the range.
use Rattle.std.proofs.Common.{◌≡◌, ℕ, suc, ◌+◌, List, [], ◌∷◌, Bool, false, true, Option, Some, None, IfSome, IfOk, Result, Ok, Err, slice_get, refl, sym, ap, subst, ◌∙◌, arith}
use Rattle.rt_base.specs.declared.header.Header.{Header}
use Rattle.rt_model.specs.declared.setup.Setup.{Setup}
use Rattle.rt_segment.specs.Segment.{SealedSegment}
use Rattle.rt_segment.specs.Spelling.{file_of, header_of}
use Rattle.rt_deep.specs.declared.refused.DeepRefused.{DeepRefused}
use Rattle.rt_deep.specs.declared.refused.DeepRefused.TheVariants as deep
use Rattle.rt_deep.specs.Meaning.{Meaning as DeepMeaning}
use Rattle.rt_peer.specs.declared.got.Got.{Got}
use Rattle.rt_peer.specs.declared.peer_fault.PeerFault.{PeerFault}
use Rattle.rt_peer.specs.declared.peer_fault.PeerFault.TheVariants.{Failed, Memory}
use Rattle.rt_peer.specs.Calls.{Copies, Holds}
use Rattle.rt_peer.specs.Fetching.{After, AsksPeer, AsksPeers, Fetches, copied_in, found_in}
use Rattle.rt_peer.specs.Files.{Comes, file_in, IsWanted}
use Rattle.rt_peer.specs.Meaning.{Held, Meaning}
use Rattle.rt_peer.specs.RightPeer.{IsBuilt, IsHeld, IsRightCopy, IsRightHeld, IsRightPeer}
use Rattle.rt_peer.proofs.Named.{file_named, wanted_fits}
use Rattle.rt_peer.proofs.OneFile.{one_segment}
use Rattle.rt_peer.proofs.Refusing.{Answer, Came, give, there}

-- ---- the header

abbrev file : SealedSegment → Option SealedSegment
file s = Some s

abbrev given : Option SealedSegment → Came
given a = Ok a

given_same : (a b : Option SealedSegment) → given a ≡ given b → a ≡ b
given_same a b e = cc

deep_named : (wanted : Header) (answer : Result (List ℕ) DeepRefused) (s : SealedSegment) → found_in wanted answer ≡ there s → header_of s ≡ wanted
deep_named wanted (Ok bytes) s e = file_named wanted bytes s (given_same (file_in wanted bytes) (file s) e)
deep_named wanted (Err deep.Absent) s e = absurd (cc)
deep_named wanted (Err (deep.OtherBytes kept offered)) s e = absurd (cc)
deep_named wanted (Err deep.Failed) s e = absurd (cc)
deep_named wanted (Err deep.Memory) s e = absurd (cc)

peer_named : (wanted : Header) (answer : Result (Option (List ℕ)) PeerFault) (s : SealedSegment) → copied_in wanted answer ≡ there s → header_of s ≡ wanted
peer_named wanted (Ok None) s e = absurd (cc)
peer_named wanted (Ok (Some bytes)) s e = file_named wanted bytes s (given_same (file_in wanted bytes) (file s) e)
peer_named wanted (Err fault) s e = absurd (cc)

-- ---- who gave it

-- the peer of a number behind some that were asked has it
pub record Gave (wanted : Header) (olds : List Meaning) (n : ℕ) (got : Got) : Type 0 where
  pub place : ℕ
  pub from : got.from ≡ Some (n + place)
  pub old : Meaning
  pub new : Meaning
  pub is : slice_get olds place ≡ Some old
  pub asks : AsksPeer wanted old new (there got.sealed)

got_same : (a b : Got) → give a ≡ give b → a ≡ b
got_same a b e = cc

gave_here : (wanted : Header) (olds : List Meaning) (n : ℕ) (got : Got) (o m : Meaning) (s : SealedSegment)
    → give got ≡ give (record { from = Some n; sealed = s }) → AsksPeer wanted o m (there s) → Gave wanted (o ∷ olds) n got
gave_here wanted olds n got o m s e asks =
    let is : got ≡ record { from = Some n; sealed = s } = got_same got (record { from = Some n; sealed = s }) e in
    let at : n ≡ n + 0 = omega arith in
    record {
      place = 0;
      from = ap (λ (g : Got). g.from) is ∙ ap (λ (k : ℕ). Some k) at;
      old = o;
      new = m;
      is = refl;
      asks = subst (λ (x : SealedSegment). AsksPeer wanted o m (there x)) (sym (ap (λ (g : Got). g.sealed) is)) asks;
    }

gave_behind : (wanted : Header) (olds : List Meaning) (n : ℕ) (got : Got) (o : Meaning) → Gave wanted olds (n + 1) got → Gave wanted (o ∷ olds) n got
gave_behind wanted olds n got o g =
    let at : n + 1 + g.place ≡ n + suc g.place = omega arith in
    record {
      place = suc g.place;
      from = g.from ∙ ap (λ (k : ℕ). Some k) at;
      old = g.old;
      new = g.new;
      is = g.is;
      asks = g.asks;
    }

gave_by : (wanted : Header) (faulted : Bool) (n : ℕ) (o m : Meaning) (olds news : List Meaning) (got : Got) (came : Came) → AsksPeer wanted o m came
    → After (Some n) faulted (λ g. AsksPeers wanted g (n + 1) olds news (give got)) (news ≡ olds) came (give got)
    → ((g : Bool) → AsksPeers wanted g (n + 1) olds news (give got) → Gave wanted olds (n + 1) got) → Gave wanted (o ∷ olds) n got
gave_by wanted faulted n o m olds news got (Ok None) asks after goes = gave_behind wanted olds n got o (goes faulted after)
gave_by wanted faulted n o m olds news got (Ok (Some s)) asks after goes = gave_here wanted olds n got o m s after.0 asks
gave_by wanted faulted n o m olds news got (Err Failed) asks after goes = gave_behind wanted olds n got o (goes true after)
gave_by wanted faulted n o m olds news got (Err Memory) asks after goes = absurd (cc)

gave : (wanted : Header) (faulted : Bool) (n : ℕ) (olds news : List Meaning) (got : Got) → AsksPeers wanted faulted n olds news (give got) → Gave wanted olds n got
gave wanted faulted n [] [] got h = absurd (cc)
gave wanted faulted n [] (m ∷ news) got h = absurd h
gave wanted faulted n (o ∷ olds) [] got h = absurd h
gave wanted faulted n (o ∷ olds) (m ∷ news) got h =
    gave_by wanted faulted n o m olds news got h.0 h.1 h.2 (λ g further. gave wanted g (n + 1) olds news got further)

-- it was the deep store, or a peer
data Source (wanted : Header) (path : List ℕ) (before after : DeepMeaning) (olds : List Meaning) (got : Got) : Type 0 where
  from_deep : (answer : Result (List ℕ) DeepRefused) → got.from ≡ None → found_in wanted answer ≡ there got.sealed → Source wanted path before after olds got
  from_peer : Gave wanted olds 0 got → Source wanted path before after olds got

source_of : (wanted : Header) (path : List ℕ) (before after : DeepMeaning) (olds news : List Meaning) (got : Got)
    → Fetches wanted path before after olds news (give got) → Source wanted path before after olds got
source_of wanted path before after olds news got h = by h.0 h.1.comes h.2
  where
    by : (came : Came) → Comes (found_in wanted h.1.answer) came → After None false (λ g. AsksPeers wanted g 0 olds news (give got)) (news ≡ olds) came (give got)
        → Source wanted path before after olds got
    by (Ok None) comes after' = from_peer (gave wanted false 0 olds news got after')
    by (Ok (Some s)) comes after' =
        let is : got ≡ record { from = None; sealed = s } = got_same got (record { from = None; sealed = s }) after'.0 in
        from_deep h.1.answer (ap (λ (g : Got). g.from) is)
        (subst (λ (x : SealedSegment). found_in wanted h.1.answer ≡ there x) (sym (ap (λ (g : Got). g.sealed) is)) comes)
    by (Err Failed) comes after' = from_peer (gave wanted true 0 olds news got after')
    by (Err Memory) comes after' = absurd (cc)

-- ---- what it gave

pub fetched_named : (wanted : Header) (path : List ℕ) (before after : DeepMeaning) (olds news : List Meaning) (got : Got)
    → Fetches wanted path before after olds news (give got) → header_of got.sealed ≡ wanted
fetched_named wanted path before after olds news got h = by (source_of wanted path before after olds news got h)
  where
    by : Source wanted path before after olds got → header_of got.sealed ≡ wanted
    by (from_deep answer from found) = deep_named wanted answer got.sealed found
    by (from_peer g) = peer_named wanted g.asks.answer got.sealed g.asks.comes

pub file_named_by : (wanted : Header) (path : List ℕ) (before after : DeepMeaning) (olds news : List Meaning) (result : Answer)
    → Fetches wanted path before after olds news result → IfOk result (λ got. header_of got.sealed ≡ wanted)
file_named_by wanted path before after olds news (Ok got) h = fetched_named wanted path before after olds news got h
file_named_by wanted path before after olds news (Err e) h = tt

some_meaning : (a b : Meaning) → Some a ≡ Some b → a ≡ b
some_meaning a b e = cc

some_number : (a b : ℕ) → Some a ≡ Some b → a ≡ b
some_number a b e = cc

some_file : (a b : SealedSegment) → file a ≡ file b → a ≡ b
some_file a b e = cc

abbrev pub copy_wanted : (setup : Setup) (messages : List (List ℕ)) (wanted : Header) (bytes : List ℕ) (c : IsRightCopy setup messages wanted bytes) → IsWanted wanted bytes
copy_wanted setup messages wanted bytes c =
    record { segment = c.built.file.segment; right = c.built.file.sealed; spelled = c.built.file.spelled; named = c.header }

-- what a right peer answered, where that is the wanted file, is the one file
right_gave : (setup : Setup) (messages : List (List ℕ)) (wanted : Header) (told : Option Held) (old new : Meaning) (answer : Result (Option (List ℕ)) PeerFault)
    (s : SealedSegment) (bytes : List ℕ) → old.told ≡ told → IsRightHeld setup messages wanted told → Copies old new wanted.partition wanted.sequence answer
    → copied_in wanted answer ≡ there s → IsBuilt setup messages wanted bytes → file_of s ≡ bytes
right_gave setup messages wanted None old new answer s bytes tells right copies e built = absurd right
right_gave setup messages wanted (Some holds) old new (Ok None) s bytes tells right copies e built = absurd (cc)
right_gave setup messages wanted (Some holds) old new (Ok (Some copy)) s bytes tells right copies e built =
    let held : holds wanted.partition wanted.sequence ≡ Some copy =
    subst (λ (o : Option Held). Holds o wanted.partition wanted.sequence (Some copy)) tells copies.0 in
    let c : IsRightCopy setup messages wanted copy = subst (λ (o : Option (List ℕ)). IfSome o (IsRightCopy setup messages wanted)) held right in
    let is : s ≡ c.built.file.segment =
    some_file s c.built.file.segment
    (sym (given_same (file_in wanted copy) (file s) e) ∙ wanted_fits wanted copy (copy_wanted setup messages wanted copy c)) in
    ap file_of (is ∙ one_segment setup messages wanted copy bytes c.built built) ∙ sym built.file.spelled
right_gave setup messages wanted (Some holds) old new (Err fault) s bytes tells right copies e built = absurd (cc)

-- from a right peer comes the one file of the range
pub right_one : (setup : Setup) (messages : List (List ℕ)) (wanted : Header) (path : List ℕ) (before after : DeepMeaning) (olds news : List Meaning) (got : Got)
    (k : ℕ) (peer : Meaning) (bytes : List ℕ) → Fetches wanted path before after olds news (give got) → got.from ≡ Some k → slice_get olds k ≡ Some peer
    → IsRightPeer setup messages wanted peer → IsBuilt setup messages wanted bytes → file_of got.sealed ≡ bytes
right_one setup messages wanted path before after olds news got k peer bytes h from there right built = by (source_of wanted path before after olds news got h)
  where
    by : Source wanted path before after olds got → file_of got.sealed ≡ bytes
    by (from_deep answer deep found) = absurd (none_some k (sym deep ∙ from))
      where
        none_some : (n : ℕ) → None ≡ Some n → ⊥
        none_some n e = cc
    by (from_peer g) =
        let place : k ≡ g.place = some_number k (0 + g.place) (sym from ∙ g.from) ∙ (omega arith) in
        let same : g.old ≡ peer =
        some_meaning g.old peer (sym g.is ∙ ap (slice_get olds) (sym place) ∙ there) in
        right_gave setup messages wanted peer.told g.old g.new g.asks.answer got.sealed bytes
        (ap (λ (m : Meaning). m.told) same) right g.asks.copies g.asks.comes built

-- a right copy is the wanted file
pub held_wanted : (setup : Setup) (messages : List (List ℕ)) (wanted : Header) (told : Option Held) (bytes : List ℕ)
    → IsRightHeld setup messages wanted told → IsHeld told wanted bytes → IsWanted wanted bytes
held_wanted setup messages wanted None bytes right held = absurd held
held_wanted setup messages wanted (Some holds) bytes right held =
    copy_wanted setup messages wanted bytes (subst (λ (o : Option (List ℕ)). IfSome o (IsRightCopy setup messages wanted)) held right)
