-- What a refused fetch tells of those who were asked.
use Rattle.std.proofs.Common.{◌≡◌, ℕ, zero, suc, ◌+◌, ◌<◌, Bool, true, false, List, [], ◌∷◌, Option, Some, None, Result, Ok, Err, slice_get, refl, sym, ap, subst, ◌∙◌}
use Rattle.rt_base.specs.declared.fault.Fault.{Fault}
use Rattle.rt_base.specs.declared.header.Header.{Header}
use Rattle.rt_base.proofs.Planned.{without_fault}
use Rattle.rt_segment.specs.Segment.{SealedSegment}
use Rattle.rt_deep.specs.declared.deep_put.DeepPut.{DeepPut}
use Rattle.rt_deep.specs.declared.refused.DeepRefused.{DeepRefused}
use Rattle.rt_deep.specs.declared.refused.DeepRefused.TheVariants as deep
use Rattle.rt_deep.specs.Meaning.{Told, Meaning as DeepMeaning}
use Rattle.rt_deep.specs.Files.{file_of}
use Rattle.rt_deep.specs.Answers.{found_in as deep_found, getting}
use Rattle.rt_deep.specs.Calls.{Gets, Goes, AreAll}
use Rattle.rt_deep.proofs.Files.{file_of-stays}
use Rattle.rt_deep.proofs.Told.{get_rose}
use Rattle.rt_peer.specs.declared.got.Got.{Got}
use Rattle.rt_peer.specs.declared.peer_fault.PeerFault.{PeerFault}
use Rattle.rt_peer.specs.declared.peer_fault.PeerFault.TheVariants.{Failed, Memory}
use Rattle.rt_peer.specs.declared.peer_refused.PeerRefused.{PeerRefused}
use Rattle.rt_peer.specs.declared.peer_refused.PeerRefused.TheVariants as refused
use Rattle.rt_peer.specs.Calls.{Copies, Holds}
use Rattle.rt_peer.specs.Fetching.{After, AsksPeer, AsksPeers, Fetches, copied_in, found_in}
use Rattle.rt_peer.specs.Files.{Comes, file_in, IsWanted}
use Rattle.rt_peer.specs.Meaning.{Held, Meaning}
use Rattle.rt_peer.specs.RightPeer.{IsHeld}
use Rattle.rt_peer.proofs.Named.{wanted_fits}

abbrev pub Came : Type 0
Came = Result (Option SealedSegment) PeerFault

abbrev pub Answer : Type 0
Answer = Result Got PeerRefused

abbrev pub refuse : PeerRefused → Answer
refuse e = Err e

abbrev pub give : Got → Answer
give got = Ok got

-- the search goes on behind this
abbrev pub IsMiss : Came → Type 0
IsMiss (Ok None) = Unit {0}
IsMiss (Ok (Some file)) = ⊥
IsMiss (Err Failed) = Unit {0}
IsMiss (Err Memory) = ⊥

-- the file was there, as far as what came of it
abbrev pub there : SealedSegment → Came
there file = Ok (Some file)

abbrev pub no_memory : Came
no_memory = Err Memory

found_no_miss : (file : SealedSegment) (came : Came) → Comes (there file) came → IsMiss came → ⊥
found_no_miss file (Ok None) e miss = cc
found_no_miss file (Ok (Some other)) e miss = miss
found_no_miss file (Err Failed) e miss = cc
found_no_miss file (Err Memory) e miss = miss

memory_no_miss : (came : Came) → Comes no_memory came → IsMiss came → ⊥
memory_no_miss (Ok None) e miss = cc
memory_no_miss (Ok (Some other)) e miss = miss
memory_no_miss (Err Failed) e miss = cc
memory_no_miss (Err Memory) e miss = miss

-- ---- the deep store

abbrev file_at : List ℕ → List ℕ → DeepPut
file_at path bytes = record { path = path; bytes = bytes }

abbrev got : List ℕ → Result (List ℕ) DeepRefused
got bytes = Ok bytes

-- a get that met no fault gives what stands there
stands_got : (before after : DeepMeaning) (fault : Fault) (base : List DeepPut) (path bytes : List ℕ) (answer : Result (List ℕ) DeepRefused)
    → Goes before after fault base base (getting path base) answer → (answer ≡ Err deep.Failed → ⊥) → file_of base path ≡ Some (file_at path bytes) → answer ≡ got bytes
stands_got before after fault base path bytes answer goes other stands =
    (without_fault deep.Failed fault (getting path base) answer base base after.seen other goes.answered goes.seen).0 ∙ ap deep_found stands

deep_rose : (wanted : Header) (path bytes : List ℕ) (before after : DeepMeaning) (answer : Result (List ℕ) DeepRefused) (came : Came)
    (c : Gets before after path answer) → file_of c.base path ≡ Some (file_at path bytes) → (w : IsWanted wanted bytes)
    → Comes (found_in wanted answer) came → IsMiss came → before.faults < after.faults
deep_rose wanted path bytes before after (Ok other) came c stands w comes miss =
    let same : got other ≡ got bytes = stands_got before after c.fault c.base path bytes (Ok other) c.goes (λ e. cc) stands in
    absurd (found_no_miss w.segment came
    (subst (λ (x : Option SealedSegment). Comes (Ok x) came) (ap (λ (r : Result (List ℕ) DeepRefused). bytes_of r) same ∙ wanted_fits wanted bytes w) comes) miss)
  where
    bytes_of : Result (List ℕ) DeepRefused → Option SealedSegment
    bytes_of (Ok x) = file_in wanted x
    bytes_of (Err e) = None
deep_rose wanted path bytes before after (Err deep.Absent) came c stands w comes miss =
    let same : Err deep.Absent ≡ got bytes = stands_got before after c.fault c.base path bytes (Err deep.Absent) c.goes (λ e. cc) stands in
    absurd (cc)
deep_rose wanted path bytes before after (Err (deep.OtherBytes kept offered)) came c stands w comes miss =
    let same : Err (deep.OtherBytes kept offered) ≡ got bytes =
    stands_got before after c.fault c.base path bytes (Err (deep.OtherBytes kept offered)) c.goes (λ e. cc) stands in
    absurd (cc)
deep_rose wanted path bytes before after (Err deep.Failed) came c stands w comes miss = get_rose before after path c
deep_rose wanted path bytes before after (Err deep.Memory) came c stands w comes miss = absurd (memory_no_miss came comes miss)

-- ---- who was asked, where the fetch is refused

refused_misses : (from : Option ℕ) (faulted : Bool) (further : Bool → Type 0) (unasked : Type 0) (came : Came) (e : PeerRefused)
    → After from faulted further unasked came (refuse e) → (e ≡ refused.Memory → ⊥) → IsMiss came
refused_misses from faulted further unasked (Ok None) e after other = tt
refused_misses from faulted further unasked (Ok (Some file)) e after other = cc
refused_misses from faulted further unasked (Err Failed) e after other = tt
refused_misses from faulted further unasked (Err Memory) e after other = other (cc)

pub deep_missed : (wanted : Header) (path : List ℕ) (before after : DeepMeaning) (olds news : List Meaning) (e : PeerRefused)
    → (h : Fetches wanted path before after olds news (refuse e)) → (e ≡ refused.Memory → ⊥) → IsMiss h.0
deep_missed wanted path before after olds news e h other =
    refused_misses None false (λ failed. AsksPeers wanted failed 0 olds news (refuse e)) (news ≡ olds) h.0 e h.2 other

-- the deep store that has the file
pub passed_seen : (wanted : Header) (path bytes : List ℕ) (before after : DeepMeaning) (olds news : List Meaning) (e : PeerRefused)
    → Fetches wanted path before after olds news (refuse e) → (e ≡ refused.Memory → ⊥)
    → file_of before.seen path ≡ Some (file_at path bytes) → IsWanted wanted bytes → before.faults < after.faults
passed_seen wanted path bytes before after olds news e h other stands w =
    deep_rose wanted path bytes before after h.1.answer h.0 h.1.gets
    (file_of-stays before.seen h.1.gets.base path (file_at path bytes) h.1.gets.sees.grows stands) w h.1.comes
    (deep_missed wanted path before after olds news e h other)

pub passed_told : (wanted : Header) (path bytes : List ℕ) (t : Told) (before after : DeepMeaning) (olds news : List Meaning) (e : PeerRefused)
    → Fetches wanted path before after olds news (refuse e) → (e ≡ refused.Memory → ⊥)
    → before.told ≡ Some t → file_of t.files path ≡ Some (file_at path bytes) → IsWanted wanted bytes → before.faults < after.faults
passed_told wanted path bytes t before after olds news e h other told stands w =
    let all : h.1.gets.base ≡ t.files = subst (λ (o : Option Told). AreAll o h.1.gets.base) told h.1.gets.sees.all in
    deep_rose wanted path bytes before after h.1.answer h.0 h.1.gets
    (ap (λ (files : List DeepPut). file_of files path) all ∙ stands) w h.1.comes
    (deep_missed wanted path before after olds news e h other)

-- ---- the peers

-- a peer that was asked and has no such file
pub record Missed (wanted : Header) (old new : Meaning) : Type 0 where
  pub came : Came
  pub asks : AsksPeer wanted old new came
  pub miss : IsMiss came

some_same : (a b : Meaning) → Some a ≡ Some b → a ≡ b
some_same a b e = cc

no_peer : (k : ℕ) (old : Meaning) → slice_get [] k ≡ Some old → ⊥
no_peer zero old e = cc
no_peer (suc k) old e = cc

-- where the search goes on in this way, so does what is shown of it
refused_on : {X : Type 0} (from : Option ℕ) (faulted : Bool) (further : Bool → Type 0) (unasked : Type 0) (came : Came) (e : PeerRefused)
    → After from faulted further unasked came (refuse e) → (e ≡ refused.Memory → ⊥) → ((failed : Bool) → further failed → X) → X
refused_on from faulted further unasked (Ok None) e after other goes = goes faulted after
refused_on from faulted further unasked (Ok (Some file)) e after other goes = absurd (cc)
refused_on from faulted further unasked (Err Failed) e after other goes = goes true after
refused_on from faulted further unasked (Err Memory) e after other goes = absurd (other (cc))

missed_at : (wanted : Header) (faulted : Bool) (n : ℕ) (olds news : List Meaning) (e : PeerRefused) (k : ℕ) (old new : Meaning)
    → AsksPeers wanted faulted n olds news (refuse e) → (e ≡ refused.Memory → ⊥) → slice_get olds k ≡ Some old → slice_get news k ≡ Some new → Missed wanted old new
missed_at wanted faulted n [] news e k old new h other is now = absurd (no_peer k old is)
missed_at wanted faulted n (o ∷ olds) [] e k old new h other is now = absurd h
missed_at wanted faulted n (o ∷ olds) (m ∷ news) e zero old new h other is now =
    let miss : IsMiss h.0 = refused_misses (Some n) faulted (λ failed. AsksPeers wanted failed (n + 1) olds news (refuse e)) (news ≡ olds) h.0 e h.2 other in
    subst (λ (x : Meaning). Missed wanted x new) (some_same o old is)
    (subst (λ (x : Meaning). Missed wanted o x) (some_same m new now) (record { came = h.0; asks = h.1; miss = miss }))
missed_at wanted faulted n (o ∷ olds) (m ∷ news) e (suc k) old new h other is now =
    refused_on (Some n) faulted (λ failed. AsksPeers wanted failed (n + 1) olds news (refuse e)) (news ≡ olds) h.0 e h.2 other
    (λ failed further. missed_at wanted failed (n + 1) olds news e k old new further other is now)

fetch_misses : (wanted : Header) (path : List ℕ) (before after : DeepMeaning) (olds news : List Meaning) (e : PeerRefused) (k : ℕ) (old new : Meaning)
    → Fetches wanted path before after olds news (refuse e) → (e ≡ refused.Memory → ⊥) → slice_get olds k ≡ Some old → slice_get news k ≡ Some new → Missed wanted old new
fetch_misses wanted path before after olds news e k old new h other is now =
    refused_on None false (λ failed. AsksPeers wanted failed 0 olds news (refuse e)) (news ≡ olds) h.0 e h.2 other
    (λ failed further. missed_at wanted failed 0 olds news e k old new further other is now)

abbrev held_some : List ℕ → Option (List ℕ)
held_some bytes = Some bytes

bytes_same : (wanted : Header) (a b : List ℕ) → held_some a ≡ held_some b → file_in wanted a ≡ file_in wanted b
bytes_same wanted a b e = ap (λ (o : Option (List ℕ)). of o) e
  where
    of : Option (List ℕ) → Option SealedSegment
    of None = None
    of (Some x) = file_in wanted x

missed_rose : (wanted : Header) (bytes : List ℕ) (told : Option Held) (old new : Meaning) (answer : Result (Option (List ℕ)) PeerFault) (came : Came)
    → old.told ≡ told → Copies old new wanted.partition wanted.sequence answer → Comes (copied_in wanted answer) came → IsMiss came
    → IsHeld told wanted bytes → IsWanted wanted bytes → old.faults < new.faults
missed_rose wanted bytes None old new answer came tells copies comes miss held w = absurd held
missed_rose wanted bytes (Some holds) old new (Ok None) came tells copies comes miss held w =
    let is : holds wanted.partition wanted.sequence ≡ None =
    subst (λ (o : Option Held). Holds o wanted.partition wanted.sequence None) tells copies.0 in
    absurd (none_some bytes (sym is ∙ held))
  where
    none_some : (x : List ℕ) → None ≡ held_some x → ⊥
    none_some x e = cc
missed_rose wanted bytes (Some holds) old new (Ok (Some other)) came tells copies comes miss held w =
    let is : holds wanted.partition wanted.sequence ≡ Some other =
    subst (λ (o : Option Held). Holds o wanted.partition wanted.sequence (Some other)) tells copies.0 in
    absurd (found_no_miss w.segment came
    (subst (λ (x : Option SealedSegment). Comes (Ok x) came) (bytes_same wanted other bytes (sym is ∙ held) ∙ wanted_fits wanted bytes w) comes) miss)
missed_rose wanted bytes (Some holds) old new (Err Failed) came tells copies comes miss held w = copies.rose
missed_rose wanted bytes (Some holds) old new (Err Memory) came tells copies comes miss held w = absurd (memory_no_miss came comes miss)

-- a peer that holds the file
pub passed_peer : (wanted : Header) (path bytes : List ℕ) (before after : DeepMeaning) (olds news : List Meaning) (e : PeerRefused) (k : ℕ) (old new : Meaning)
    → Fetches wanted path before after olds news (refuse e) → (e ≡ refused.Memory → ⊥) → slice_get olds k ≡ Some old → slice_get news k ≡ Some new
    → IsHeld old.told wanted bytes → IsWanted wanted bytes → old.faults < new.faults
passed_peer wanted path bytes before after olds news e k old new h other is now held w =
    let m = fetch_misses wanted path before after olds news e k old new h other is now in
    missed_rose wanted bytes old.told old new m.asks.answer m.came refl m.asks.copies m.asks.comes m.miss held w
