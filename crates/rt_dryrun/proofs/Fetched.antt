-- What a fetch from the servers of a world comes to, where the deep store is empty.
use Rattle.std.proofs.Common.{◌≡◌, ℕ, suc, ◌+◌, ◌<◌, ◌⊎◌, inl, inr, Bool, false, List, [], ◌∷◌, map, Option, Some, None, Result, Ok, Err, slice_get, refl, sym, ap, subst, ◌∙◌, arith}
use Rattle.rt_base.specs.declared.header.Header.{Header}
use Rattle.rt_base.specs.declared.numbers.Instance.{Instance}
use Rattle.rt_base.specs.declared.numbers.Partition.{Partition}
use Rattle.rt_base.specs.declared.numbers.Sequence.{Sequence}
use Rattle.rt_events.specs.declared.refusal.Refusal.{Refusal}
use Rattle.rt_model.specs.Metadata.{IsDoneStatus}
use Rattle.rt_model.specs.declared.seg_meta.SegMeta.{SegMeta}
use Rattle.rt_model.specs.declared.status.Status.{Status}
use Rattle.rt_model.specs.declared.status.Status.TheVariants.{InProgress, Done, Abandoned}
use Rattle.rt_segment.specs.Segment.{SealedSegment}
use Rattle.rt_deep.specs.declared.refused.DeepRefused.{DeepRefused}
use Rattle.rt_deep.specs.declared.refused.DeepRefused.TheVariants as deep
use Rattle.rt_deep.specs.Answers.{getting}
use Rattle.rt_deep.specs.Calls.{IsExact}
use Rattle.rt_deep.specs.Meaning.{Told}
use Rattle.rt_deep.specs.Memory.{means}
use Rattle.rt_deep.proofs.Seeing.{told_exact}
use Rattle.rt_peer.specs.declared.got.Got.{Got}
use Rattle.rt_peer.specs.declared.peer_fault.PeerFault.{PeerFault}
use Rattle.rt_peer.specs.declared.peer_fault.PeerFault.TheVariants.{Failed, Memory}
use Rattle.rt_peer.specs.declared.peer_refused.PeerRefused.{PeerRefused}
use Rattle.rt_peer.specs.declared.peer_refused.PeerRefused.TheVariants as refused
use Rattle.rt_peer.specs.Calls.{Copies}
use Rattle.rt_peer.specs.Fetching.{After, AsksDeep, AsksPeer, AsksPeers, Fetches, FetchesBy, copied_in, found_in}
use Rattle.rt_peer.specs.Files.{Comes, file_in, header_by}
use Rattle.rt_peer.specs.Meaning.{Meaning}
use Rattle.rt_world.specs.Reading.{copy_in}
use Rattle.rt_state.specs.declared.state.State.{State}
use Rattle.rt_dryrun.specs.declared.peer_file.PeerFile.{PeerFile}
use Rattle.rt_dryrun.specs.Peers.{ServerCopy, file_among, file_by, file_of_copy, first_of, got_from, named_by, peer_meaning, placed_at, server_copy}

abbrev Came : Type 0
Came = Result (Option SealedSegment) PeerFault

abbrev Answer : Type 0
Answer = Result Got PeerRefused

abbrev there : SealedSegment → Came
there file = Ok (Some file)

abbrev nothing_there : Came
nothing_there = Ok None

abbrev failed : Came
failed = Err Failed

abbrev no_memory : Came
no_memory = Err Memory

abbrev give : Got → Answer
give got = Ok got

abbrev refuse : PeerRefused → Answer
refuse e = Err e

-- ---- the deep store is empty

abbrev pub empty : Told
empty = record { files = []; faults = record { plan = []; met = 0 } }

abbrev absent : Result (List ℕ) DeepRefused
absent = Err deep.Absent

empty_by : (path : List ℕ) (new : Told) (answer : Result (List ℕ) DeepRefused) → IsExact empty new (getting path) (λ base. base) answer
    → (answer ≡ absent) ⊎ (answer ≡ Err deep.Memory)
empty_by path new answer (inl h) = inr h.0
empty_by path new answer (inr h) = inl h.0

-- it has no file
deep_none : (wanted : Header) (path : List ℕ) (after : Told) (came : Came) → AsksDeep wanted path (means empty) (means after) came
    → (came ≡ nothing_there) ⊎ (came ≡ no_memory)
deep_none wanted path after came asks = by (empty_by path after asks.answer (told_exact empty after (getting path) (λ base. base) asks.answer asks.gets)) came asks.comes
  where
    by : (asks.answer ≡ absent) ⊎ (asks.answer ≡ Err deep.Memory) → (c : Came) → Comes (found_in wanted asks.answer) c → (c ≡ nothing_there) ⊎ (c ≡ no_memory)
    by e (Err Memory) comes = inr refl
    by (inl e) (Ok x) comes = inl (sym comes ∙ ap (found_in wanted) e)
    by (inr e) (Ok x) comes = absurd (let g : no_memory ≡ Ok x = sym (ap (found_in wanted) e) ∙ comes in cc)
    by (inl e) (Err Failed) comes = absurd (let g : nothing_there ≡ failed = sym (ap (found_in wanted) e) ∙ comes in cc)
    by (inr e) (Err Failed) comes = absurd (let g : no_memory ≡ failed = sym (ap (found_in wanted) e) ∙ comes in cc)

-- ---- one server

abbrev ask_at : State → Header → Instance → Option SealedSegment
ask_at w wanted i = file_of_copy wanted (copy_in w i wanted.partition wanted.sequence)

abbrev given : Option SealedSegment → Came
given file = Ok file

given_same : (a b : Option SealedSegment) → given a ≡ given b → a ≡ b
given_same a b e = cc

-- what a server gives is what its copy is
server_gives : (w : State) (wanted : Header) (i : Instance) (x : ServerCopy) (answer : Result (Option (List ℕ)) PeerFault) (file : Option SealedSegment)
    → Copies (peer_meaning (server_copy w i)) (peer_meaning x) wanted.partition wanted.sequence answer → copied_in wanted answer ≡ Ok file
    → ask_at w wanted i ≡ file
server_gives w wanted i x (Ok None) file copies e =
    ap (file_of_copy wanted) copies.0 ∙ given_same None file e
server_gives w wanted i x (Ok (Some bytes)) file copies e =
    ap (file_of_copy wanted) copies.0 ∙ given_same (file_in wanted bytes) file e
server_gives w wanted i x (Err fault) file copies e = absurd (cc)

-- it never fails
server_never : (w : State) (wanted : Header) (i : Instance) (x : ServerCopy) (answer : Result (Option (List ℕ)) PeerFault)
    → Copies (peer_meaning (server_copy w i)) (peer_meaning x) wanted.partition wanted.sequence answer → copied_in wanted answer ≡ failed → ⊥
server_never w wanted i x (Ok None) copies e = cc
server_never w wanted i x (Ok (Some bytes)) copies e = cc
server_never w wanted i x (Err Failed) copies e = let rose : 0 < 0 = copies.rose in omega arith
server_never w wanted i x (Err Memory) copies e = cc

-- ---- one after the other

abbrev asked : State → List Instance → List Meaning
asked w is = map peer_meaning (map (server_copy w) is)

-- what was found by the place of its server
pub record IsPlaced (w : State) (wanted : Header) (n : ℕ) (is : List Instance) (got : Got) : Type 0 where
  pub place : ℕ
  pub from : got.from ≡ Some (n + place)
  pub named : named_by (slice_get is place) got.sealed ≡ file_among w wanted is

got_same : (a b : Got) → give a ≡ give b → a ≡ b
got_same a b e = cc

placed_here : (w : State) (wanted : Header) (n : ℕ) (i : Instance) (later : List Instance) (got : Got) (file : SealedSegment)
    → give got ≡ give (record { from = Some n; sealed = file }) → ask_at w wanted i ≡ Some file → IsPlaced w wanted n (i ∷ later) got
placed_here w wanted n i later got file e is =
    let same : got ≡ record { from = Some n; sealed = file } = got_same got (record { from = Some n; sealed = file }) e in
    let at : n ≡ n + 0 = omega arith in
    record {
      place = 0;
      from = ap (λ (g : Got). g.from) same ∙ ap (λ (k : ℕ). Some k) at;
      named = ap (λ (g : Got). named_by (Some i) g.sealed) same ∙ sym (ap (λ o. first_of i o (file_among w wanted later)) is);
    }

placed_behind : (w : State) (wanted : Header) (n : ℕ) (i : Instance) (later : List Instance) (got : Got) → ask_at w wanted i ≡ None
    → IsPlaced w wanted (n + 1) later got → IsPlaced w wanted n (i ∷ later) got
placed_behind w wanted n i later got none h =
    let at : n + 1 + h.place ≡ n + suc h.place = omega arith in
    record {
      place = suc h.place;
      from = h.from ∙ ap (λ (k : ℕ). Some k) at;
      named = h.named ∙ sym (ap (λ o. first_of i o (file_among w wanted later)) none);
    }

placed_by : (w : State) (wanted : Header) (faulted : Bool) (n : ℕ) (i : Instance) (later : List Instance) (x : ServerCopy) (news : List Meaning) (got : Got) (came : Came)
    → AsksPeer wanted (peer_meaning (server_copy w i)) (peer_meaning x) came
    → After (Some n) faulted (λ g. AsksPeers wanted g (n + 1) (asked w later) news (give got)) (news ≡ asked w later) came (give got)
    → ((g : Bool) → AsksPeers wanted g (n + 1) (asked w later) news (give got) → IsPlaced w wanted (n + 1) later got)
    → IsPlaced w wanted n (i ∷ later) got
placed_by w wanted faulted n i later x news got (Ok None) asks after goes =
    placed_behind w wanted n i later got (server_gives w wanted i x asks.answer None asks.copies asks.comes) (goes faulted after)
placed_by w wanted faulted n i later x news got (Ok (Some file)) asks after goes =
    placed_here w wanted n i later got file after.0 (server_gives w wanted i x asks.answer (Some file) asks.copies asks.comes)
placed_by w wanted faulted n i later x news got (Err Failed) asks after goes = absurd (server_never w wanted i x asks.answer asks.copies asks.comes)
placed_by w wanted faulted n i later x news got (Err Memory) asks after goes = absurd (cc)

placed : (w : State) (wanted : Header) (faulted : Bool) (n : ℕ) (is : List Instance) (news : List ServerCopy) (got : Got)
    → AsksPeers wanted faulted n (asked w is) (map peer_meaning news) (give got) → IsPlaced w wanted n is got
placed w wanted faulted n [] [] got h = absurd (cc)
placed w wanted faulted n [] (x ∷ news) got h = absurd h
placed w wanted faulted n (i ∷ is) [] got h = absurd h
placed w wanted faulted n (i ∷ is) (x ∷ news) got h =
    placed_by w wanted faulted n i is x (map peer_meaning news) got h.0 h.1 h.2 (λ g further. placed w wanted g (n + 1) is news got further)

none_by : (w : State) (wanted : Header) (faulted : Bool) (n : ℕ) (i : Instance) (later : List Instance) (x : ServerCopy) (news : List Meaning) (e : PeerRefused) (came : Came)
    → AsksPeer wanted (peer_meaning (server_copy w i)) (peer_meaning x) came
    → After (Some n) faulted (λ g. AsksPeers wanted g (n + 1) (asked w later) news (refuse e)) (news ≡ asked w later) came (refuse e) → (e ≡ refused.Memory → ⊥)
    → ((g : Bool) → AsksPeers wanted g (n + 1) (asked w later) news (refuse e) → file_among w wanted later ≡ None)
    → file_among w wanted (i ∷ later) ≡ None
none_by w wanted faulted n i later x news e (Ok None) asks after other goes =
    ap (λ o. first_of i o (file_among w wanted later)) (server_gives w wanted i x asks.answer None asks.copies asks.comes) ∙ goes faulted after
none_by w wanted faulted n i later x news e (Ok (Some file)) asks after other goes = absurd (cc)
none_by w wanted faulted n i later x news e (Err Failed) asks after other goes = absurd (server_never w wanted i x asks.answer asks.copies asks.comes)
none_by w wanted faulted n i later x news e (Err Memory) asks after other goes = absurd (other (cc))

none_among : (w : State) (wanted : Header) (faulted : Bool) (n : ℕ) (is : List Instance) (news : List ServerCopy) (e : PeerRefused)
    → AsksPeers wanted faulted n (asked w is) (map peer_meaning news) (refuse e) → (e ≡ refused.Memory → ⊥) → file_among w wanted is ≡ None
none_among w wanted faulted n [] news e h other = refl
none_among w wanted faulted n (i ∷ is) [] e h other = absurd h
none_among w wanted faulted n (i ∷ is) (x ∷ news) e h other =
    none_by w wanted faulted n i is x (map peer_meaning news) e h.0 h.1 h.2 other (λ g further. none_among w wanted g (n + 1) is news e further other)

-- ---- the fetch

peers_asked : (w : State) (wanted : Header) (path : List ℕ) (after : Told) (is : List Instance) (news : List Meaning) (result : Answer)
    → Fetches wanted path (means empty) (means after) (asked w is) news result → (result ≡ refuse refused.Memory → ⊥)
    → AsksPeers wanted false 0 (asked w is) news result
peers_asked w wanted path after is news result h other = by h.0 (deep_none wanted path after h.0 h.1) h.2
  where
    by : (came : Came) → (came ≡ nothing_there) ⊎ (came ≡ no_memory)
        → After None false (λ g. AsksPeers wanted g 0 (asked w is) news result) (news ≡ asked w is) came result → AsksPeers wanted false 0 (asked w is) news result
    by (Ok None) e after' = after'
    by (Ok (Some file)) (inl e) after' = absurd (cc)
    by (Ok (Some file)) (inr e) after' = absurd (cc)
    by (Err Failed) (inl e) after' = absurd (cc)
    by (Err Failed) (inr e) after' = absurd (cc)
    by (Err Memory) e after' = absurd (other after'.0)

abbrev finds : Option PeerFile → Result (Option PeerFile) Refusal
finds file = Ok file

fetched_named : (w : State) (wanted : Header) (path : List ℕ) (after : Told) (is : List Instance) (news : List ServerCopy) (got : Got)
    → Fetches wanted path (means empty) (means after) (asked w is) (map peer_meaning news) (give got) → file_among w wanted is ≡ got_from is got
fetched_named w wanted path after is news got h =
    let p = placed w wanted false 0 is news got (peers_asked w wanted path after is (map peer_meaning news) (give got) h (λ e. cc)) in
    let at : 0 + p.place ≡ p.place = omega arith in
    sym (ap (λ o. placed_at is o got.sealed) (p.from ∙ ap (λ (k : ℕ). Some k) at) ∙ p.named)

-- what was got is the first server's file
pub fetched_is : (w : State) (p : Partition) (q : Sequence) (meta : SegMeta) (status : Status) (after : Told) (is : List Instance) (news : List ServerCopy) (got : Got)
    → IsDoneStatus status → FetchesBy status p q meta (means empty) (means after) (asked w is) (map peer_meaning news) (give got)
    → file_by status w p q meta is ≡ finds (got_from is got)
fetched_is w p q meta InProgress after is news got done h = absurd done
fetched_is w p q meta (Done commit) after is news got done h =
    ap finds (fetched_named w (header_by p q meta commit) commit.path after is news got h)
fetched_is w p q meta Abandoned after is news got done h = absurd done

-- where none was got, no server has it
pub unfetched_is : (w : State) (p : Partition) (q : Sequence) (meta : SegMeta) (status : Status) (after : Told) (is : List Instance) (news : List ServerCopy) (e : PeerRefused)
    → IsDoneStatus status → FetchesBy status p q meta (means empty) (means after) (asked w is) (map peer_meaning news) (refuse e) → (e ≡ refused.Memory → ⊥)
    → file_by status w p q meta is ≡ finds None
unfetched_is w p q meta InProgress after is news e done h other = absurd done
unfetched_is w p q meta (Done commit) after is news e done h other =
    ap finds (none_among w (header_by p q meta commit) false 0 is news e
    (peers_asked w (header_by p q meta commit) commit.path after is (map peer_meaning news) (refuse e) h (λ f. other (cc))) other)
unfetched_is w p q meta Abandoned after is news e done h other = absurd done

-- ---- by what the call began with

module _ (w : State) (p : Partition) (q : Sequence) (meta : SegMeta) (is : List Instance) (before after : Told) (olds news : List ServerCopy)
    (none : before ≡ empty) (same : olds ≡ map (server_copy w) is) (done : IsDoneStatus meta.status) where
  begun : (result : Answer) → FetchesBy meta.status p q meta (means before) (means after) (map peer_meaning olds) (map peer_meaning news) result
      → FetchesBy meta.status p q meta (means empty) (means after) (asked w is) (map peer_meaning news) result
  begun result h =
      subst (λ (t : Told). FetchesBy meta.status p q meta (means t) (means after) (asked w is) (map peer_meaning news) result) none
      (subst (λ (xs : List ServerCopy). FetchesBy meta.status p q meta (means before) (means after) (map peer_meaning xs) (map peer_meaning news) result) same h)

  pub found_is : (got : Got) (told : Option PeerFile) → told ≡ got_from is got
      → FetchesBy meta.status p q meta (means before) (means after) (map peer_meaning olds) (map peer_meaning news) (give got)
      → file_by meta.status w p q meta is ≡ finds told
  found_is got told e h = fetched_is w p q meta meta.status after is news got done (begun (give got) h) ∙ ap finds (sym e)

  pub none_is : (e other : PeerRefused) → e ≡ other → (other ≡ refused.Memory → ⊥)
      → FetchesBy meta.status p q meta (means before) (means after) (map peer_meaning olds) (map peer_meaning news) (refuse e)
      → file_by meta.status w p q meta is ≡ finds None
  none_is e other same never h =
      unfetched_is w p q meta meta.status after is news e done (begun (refuse e) h) (λ f. never (sym same ∙ f))
