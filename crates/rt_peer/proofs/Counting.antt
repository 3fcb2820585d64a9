-- What Nowhere and Faulted tell of the counts of faults.
use Rattle.std.proofs.Common.{◌≡◌, ℕ, ◌+◌, ◌<◌, ◌⊎◌, inl, inr, true, false, List, [], ◌∷◌, Option, Some, None, Result, Ok, Err, refl, sym, ap, ◌∙◌}
use Rattle.rt_base.specs.declared.fault.Fault.{Fault}
use Rattle.rt_base.specs.declared.fault.Fault.TheVariants as fault
use Rattle.rt_base.specs.declared.header.Header.{Header}
use Rattle.rt_base.specs.Faults.{Planned, answer_under, fault_of, left_under, met_by}
use Rattle.rt_deep.specs.declared.deep_put.DeepPut.{DeepPut}
use Rattle.rt_deep.specs.declared.refused.DeepRefused.{DeepRefused}
use Rattle.rt_deep.specs.declared.refused.DeepRefused.TheVariants as deep
use Rattle.rt_deep.specs.Meaning.{Told, Meaning as DeepMeaning}
use Rattle.rt_deep.specs.Memory.{means}
use Rattle.rt_deep.specs.Answers.{getting}
use Rattle.rt_deep.specs.Calls.{Gets, IsExact}
use Rattle.rt_deep.proofs.Seeing.{told_exact}
use Rattle.rt_deep.proofs.Told.{get_rose}
use Rattle.rt_peer.specs.declared.peer_fault.PeerFault.{PeerFault}
use Rattle.rt_peer.specs.declared.peer_fault.PeerFault.TheVariants.{Failed, Memory}
use Rattle.rt_peer.specs.declared.peer_refused.PeerRefused.{PeerRefused}
use Rattle.rt_peer.specs.declared.peer_refused.PeerRefused.TheVariants as refused
use Rattle.rt_peer.specs.Calls.{Copies}
use Rattle.rt_peer.specs.Counts.{AnyRose, Rose}
use Rattle.rt_peer.specs.Fetching.{After, AsksPeer, AsksPeers, Fetches, copied_in, found_in}
use Rattle.rt_peer.specs.Files.{Comes}
use Rattle.rt_peer.specs.Meaning.{Meaning}
use Rattle.rt_peer.proofs.Refusing.{Answer, Came}

abbrev nowhere : Answer
nowhere = Err refused.Nowhere

abbrev faulted : Answer
faulted = Err refused.Faulted

abbrev failed : Came
failed = Err Failed

abbrev without_file : Came
without_file = Ok None

-- ---- one who was asked

peer_failed : (wanted : Header) (old new : Meaning) (answer : Result (Option (List ℕ)) PeerFault)
    → Copies old new wanted.partition wanted.sequence answer → copied_in wanted answer ≡ failed → old.faults < new.faults
peer_failed wanted old new (Ok None) copies e = absurd (cc)
peer_failed wanted old new (Ok (Some bytes)) copies e = absurd (cc)
peer_failed wanted old new (Err Failed) copies e = copies.rose
peer_failed wanted old new (Err Memory) copies e = absurd (cc)

peer_answered : (wanted : Header) (old new : Meaning) (answer : Result (Option (List ℕ)) PeerFault)
    → Copies old new wanted.partition wanted.sequence answer → copied_in wanted answer ≡ without_file → new ≡ old
peer_answered wanted old new (Ok None) copies e = copies.1
peer_answered wanted old new (Ok (Some bytes)) copies e = copies.1
peer_answered wanted old new (Err Failed) copies e = absurd (cc)
peer_answered wanted old new (Err Memory) copies e = absurd (cc)

deep_failed : (wanted : Header) (path : List ℕ) (before after : DeepMeaning) (answer : Result (List ℕ) DeepRefused)
    → Gets before after path answer → found_in wanted answer ≡ failed → before.faults < after.faults
deep_failed wanted path before after (Ok bytes) c e = absurd (cc)
deep_failed wanted path before after (Err deep.Absent) c e = absurd (cc)
deep_failed wanted path before after (Err (deep.OtherBytes kept offered)) c e = absurd (cc)
deep_failed wanted path before after (Err deep.Failed) c e = get_rose before after path c
deep_failed wanted path before after (Err deep.Memory) c e = absurd (cc)

-- ---- Faulted

rose_by : (wanted : Header) (n : ℕ) (o m : Meaning) (olds news : List Meaning) (came : Came) → AsksPeer wanted o m came
    → After (Some n) false (λ g. AsksPeers wanted g (n + 1) olds news faulted) (news ≡ olds) came faulted
    → (AsksPeers wanted false (n + 1) olds news faulted → AnyRose olds news) → (o.faults < m.faults) ⊎ AnyRose olds news
rose_by wanted n o m olds news (Ok None) asks after goes = inr (goes after)
rose_by wanted n o m olds news (Ok (Some file)) asks after goes = absurd (cc)
rose_by wanted n o m olds news (Err Failed) asks after goes = inl (peer_failed wanted o m asks.answer asks.copies asks.comes)
rose_by wanted n o m olds news (Err Memory) asks after goes = absurd (cc)

-- where no fault was met before, one of the peers failed
peers_rose : (wanted : Header) (n : ℕ) (olds news : List Meaning) → AsksPeers wanted false n olds news faulted → AnyRose olds news
peers_rose wanted n [] [] h = absurd (cc)
peers_rose wanted n [] (m ∷ news) h = absurd h
peers_rose wanted n (o ∷ olds) [] h = absurd h
peers_rose wanted n (o ∷ olds) (m ∷ news) h = rose_by wanted n o m olds news h.0 h.1 h.2 (λ further. peers_rose wanted (n + 1) olds news further)

pub faulted_rose : (wanted : Header) (path : List ℕ) (before after : DeepMeaning) (olds news : List Meaning)
    → Fetches wanted path before after olds news faulted → Rose before after olds news
faulted_rose wanted path before after olds news h = by h.0 h.1.comes h.2
  where
    by : (came : Came) → Comes (found_in wanted h.1.answer) came → After None false (λ g. AsksPeers wanted g 0 olds news faulted) (news ≡ olds) came faulted
        → Rose before after olds news
    by (Ok None) comes after' = inr (peers_rose wanted 0 olds news after')
    by (Ok (Some file)) comes after' = absurd (cc)
    by (Err Failed) comes after' = inl (deep_failed wanted path before after h.1.answer h.1.gets comes)
    by (Err Memory) comes after' = absurd (cc)

-- ---- Nowhere

stays_by : (wanted : Header) (n : ℕ) (olds news : List Meaning) (came : Came)
    → After (Some n) true (λ g. AsksPeers wanted g (n + 1) olds news nowhere) (news ≡ olds) came nowhere
    → (AsksPeers wanted true (n + 1) olds news nowhere → ⊥) → ⊥
stays_by wanted n olds news (Ok None) after goes = goes after
stays_by wanted n olds news (Ok (Some file)) after goes = cc
stays_by wanted n olds news (Err Failed) after goes = goes after
stays_by wanted n olds news (Err Memory) after goes = cc

-- a fault that was met is never forgotten
fault_stays : (wanted : Header) (n : ℕ) (olds news : List Meaning) → AsksPeers wanted true n olds news nowhere → ⊥
fault_stays wanted n [] [] h = cc
fault_stays wanted n [] (m ∷ news) h = h
fault_stays wanted n (o ∷ olds) [] h = h
fault_stays wanted n (o ∷ olds) (m ∷ news) h = stays_by wanted n olds news h.0 h.2 (λ further. fault_stays wanted (n + 1) olds news further)

stay_by : (wanted : Header) (n : ℕ) (o m : Meaning) (olds news : List Meaning) (came : Came) → AsksPeer wanted o m came
    → After (Some n) false (λ g. AsksPeers wanted g (n + 1) olds news nowhere) (news ≡ olds) came nowhere
    → (AsksPeers wanted false (n + 1) olds news nowhere → news ≡ olds) → m ∷ news ≡ o ∷ olds
stay_by wanted n o m olds news (Ok None) asks after goes =
    ap (λ (x : Meaning). x ∷ news) (peer_answered wanted o m asks.answer asks.copies asks.comes)
    ∙ ap (λ (xs : List Meaning). o ∷ xs) (goes after)
stay_by wanted n o m olds news (Ok (Some file)) asks after goes = absurd (cc)
stay_by wanted n o m olds news (Err Failed) asks after goes = absurd (fault_stays wanted (n + 1) olds news after)
stay_by wanted n o m olds news (Err Memory) asks after goes = absurd (cc)

peers_stay : (wanted : Header) (n : ℕ) (olds news : List Meaning) → AsksPeers wanted false n olds news nowhere → news ≡ olds
peers_stay wanted n [] [] h = refl
peers_stay wanted n [] (m ∷ news) h = absurd h
peers_stay wanted n (o ∷ olds) [] h = absurd h
peers_stay wanted n (o ∷ olds) (m ∷ news) h = stay_by wanted n o m olds news h.0 h.1 h.2 (λ further. peers_stay wanted (n + 1) olds news further)

-- the deep store answered, and what came of it isn't the file
pub record DeepAnswered (wanted : Header) (path : List ℕ) (before after : DeepMeaning) : Type 0 where
  pub answer : Result (List ℕ) DeepRefused
  pub gets : Gets before after path answer
  pub comes : found_in wanted answer ≡ without_file

pub nowhere_asked : (wanted : Header) (path : List ℕ) (before after : DeepMeaning) (olds news : List Meaning)
    → Fetches wanted path before after olds news nowhere → DeepAnswered wanted path before after × (news ≡ olds)
nowhere_asked wanted path before after olds news h = by h.0 h.1.comes h.2
  where
    by : (came : Came) → Comes (found_in wanted h.1.answer) came → After None false (λ g. AsksPeers wanted g 0 olds news nowhere) (news ≡ olds) came nowhere
        → DeepAnswered wanted path before after × (news ≡ olds)
    by (Ok None) comes after' = (record { answer = h.1.answer; gets = h.1.gets; comes = comes }, peers_stay wanted 0 olds news after')
    by (Ok (Some file)) comes after' = absurd (cc)
    by (Err Failed) comes after' = absurd (fault_stays wanted 0 olds news after')
    by (Err Memory) comes after' = absurd (cc)

pub nowhere_stays : (wanted : Header) (path : List ℕ) (before after : DeepMeaning) (olds news : List Meaning)
    → Fetches wanted path before after olds news nowhere → news ≡ olds
nowhere_stays wanted path before after olds news h = (nowhere_asked wanted path before after olds news h).1

abbrev told : List DeepPut → Planned → Told
told files faults = record { files = files; faults = faults }

-- no fault is planned for the call that met none
quiet : (t : Told) (f : Fault) → f ≡ fault.Nothing → told (left_under f t.files t.files) (met_by f t.faults) ≡ t
quiet t fault.Nothing e = refl
quiet t fault.Lost e = absurd (cc)
quiet t fault.Kept e = absurd (cc)

answered_quiet : (wanted : Header) (f : Fault) (answer result : Result (List ℕ) DeepRefused)
    → result ≡ answer_under deep.Failed f answer → found_in wanted result ≡ without_file → f ≡ fault.Nothing
answered_quiet wanted fault.Nothing answer result e comes = refl
answered_quiet wanted fault.Lost answer result e comes = absurd (let g : failed ≡ without_file = sym (ap (found_in wanted) e) ∙ comes in cc)
answered_quiet wanted fault.Kept answer result e comes = absurd (let g : failed ≡ without_file = sym (ap (found_in wanted) e) ∙ comes in cc)

exact_stays : (wanted : Header) (path : List ℕ) (t new : Told) (answer : Result (List ℕ) DeepRefused)
    → IsExact t new (getting path) (λ base. base) answer → found_in wanted answer ≡ without_file → new ≡ t
exact_stays wanted path t new answer (inl h) comes = h.1
exact_stays wanted path t new answer (inr h) comes =
    h.1 ∙ quiet t (fault_of t.faults.plan) (answered_quiet wanted (fault_of t.faults.plan) (getting path t.files) answer h.0 comes)

-- a deep store in memory is as before
pub nowhere_told : (wanted : Header) (path : List ℕ) (t new : Told) (olds news : List Meaning)
    → Fetches wanted path (means t) (means new) olds news nowhere → new ≡ t
nowhere_told wanted path t new olds news h =
    let d = (nowhere_asked wanted path (means t) (means new) olds news h).0 in
    exact_stays wanted path t new d.answer (told_exact t new (getting path) (λ base. base) d.answer d.gets) d.comes
