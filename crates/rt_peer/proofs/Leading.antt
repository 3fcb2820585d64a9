-- The peers are asked one after the other.
use Rattle.std.proofs.Common.{◌≡◌, ℕ, ◌+◌, ◌<◌, ◌≤◌, Bool, List, [], ◌∷◌, ◌++◌, length, map, take, drop, get_or, set, Option, Some, None, Result, Ok, Err, refl, sym, ap, subst, ◌∙◌, arith, append_assoc, add-one, length-set}
use Rattle.std.proofs.lemmas.List.{drop_more, drop_all, take_all, take_more_set, set_split, drop-set-lt, map-append, append-nil}
use Rattle.rt_base.specs.declared.header.Header.{Header}
use Rattle.rt_segment.specs.Segment.{SealedSegment}
use Rattle.rt_peer.specs.declared.got.Got.{Got}
use Rattle.rt_peer.specs.declared.peer_fault.PeerFault.{PeerFault}
use Rattle.rt_peer.specs.declared.peer_fault.PeerFault.TheVariants.{Memory}
use Rattle.rt_peer.specs.declared.peer_refused.PeerRefused.{PeerRefused}
use Rattle.rt_peer.specs.declared.peer_refused.PeerRefused.TheVariants as refused
use Rattle.rt_peer.specs.Fetching.{After, AsksPeer, AsksPeers, unfound}
use Rattle.rt_peer.specs.Meaning.{Meaning}

abbrev Came : Type 0
Came = Result (Option SealedSegment) PeerFault

abbrev Answer : Type 0
Answer = Result Got PeerRefused

-- before the peer of a number those in front of it were asked, and where what is left leads, all of it leads
pub record Leads {P : Type 0} (f : P → Meaning) (wanted : Header) (faulted : Bool) (olds : List P) (failed : Bool) (number : ℕ) (now : List P) : Type 0 where
  pub many : length now ≡ length olds
  pub rest : drop number now ≡ drop number olds
  pub leads : (news : List Meaning) (result : Answer) → AsksPeers wanted failed number (map f (drop number olds)) news result
      → AsksPeers wanted faulted 0 (map f olds) (map f (take number now) ++ news) result

-- every peer was asked
pub leads_last : {P : Type 0} (f : P → Meaning) (wanted : Header) (faulted : Bool) (olds : List P) (failed : Bool) (number : ℕ) (now : List P)
    → Leads f wanted faulted olds failed number now → length now ≤ number
    → AsksPeers wanted faulted 0 (map f olds) (map f now) (Err (unfound failed))
leads_last {P} f wanted faulted olds failed number now l past =
    let few : length olds ≤ number = omega (arith, l.many) in
    let none : drop number olds ≡ [] = drop_all number olds few in
    let ended : AsksPeers wanted failed number (map f (drop number olds)) [] (Err (unfound failed)) =
    subst (λ (xs : List P). AsksPeers wanted failed number (map f xs) [] (Err (unfound failed))) (sym none) refl in
    subst (λ (xs : List Meaning). AsksPeers wanted faulted 0 (map f olds) xs (Err (unfound failed)))
    (append-nil (map f (take number now)) ∙ ap (map f) (take_all number now past))
    (l.leads [] (Err (unfound failed)) ended)

-- a peer is asked, and this comes of it
module _ {P : Type 0} (f : P → Meaning) (wanted : Header) (faulted : Bool) (olds : List P) (failed : Bool) (number : ℕ) (now : List P) (d y : P)
    (l : Leads f wanted faulted olds failed number now) (within : number < length now) where
  abbrev x : P
  x = get_or now number d

  abbrev left : List P
  left = drop (number + 1) now

  here : drop number olds ≡ x ∷ left
  here = sym l.rest ∙ drop_more now number d within

  left_is : left ≡ drop (number + 1) olds
  left_is = tails x (get_or olds number d) left (drop (number + 1) olds) (sym here ∙ drop_more olds number d (omega (arith, within, l.many)))
    where
      tails : (a b : P) (xs ys : List P) → a ∷ xs ≡ b ∷ ys → xs ≡ ys
      tails a b xs ys e = cc

  abbrev before : List Meaning
  before = map f (take number now)

  asked : (came : Came) (news : List Meaning) (result : Answer) → AsksPeer wanted (f x) (f y) came
      → After (Some number) failed (λ g. AsksPeers wanted g (number + 1) (map f left) news result) (news ≡ map f left) came result
      → AsksPeers wanted faulted 0 (map f olds) (before ++ f y ∷ news) result
  asked came news result asks after =
      l.leads (f y ∷ news) result
      (subst (λ (xs : List P). AsksPeers wanted failed number (map f xs) (f y ∷ news) result) (sym here) (came, asks, after))

  moved : (news : List Meaning) → before ++ f y ∷ news ≡ map f (take (number + 1) (set now number y)) ++ news
  moved news =
      sym (append_assoc before (f y ∷ []) news)
      ∙ ap (λ (xs : List Meaning). xs ++ news) (sym (map-append f (take number now) (y ∷ [])))
      ∙ ap (λ (xs : List P). map f xs ++ news) (sym (take_more_set now number y within))

  -- it goes on behind it, with a fault noted or not
  pub on : (again : Bool) (came : Came) → AsksPeer wanted (f x) (f y) came
      → ((news : List Meaning) (result : Answer) → AsksPeers wanted again (number + 1) (map f left) news result
      → After (Some number) failed (λ g. AsksPeers wanted g (number + 1) (map f left) news result) (news ≡ map f left) came result)
      → Leads f wanted faulted olds again (number + 1) (set now number y)
  on again came asks after =
      record {
        many = length-set now number y ∙ l.many;
        rest = drop-set-lt (number + 1) now number y (omega arith) ∙ left_is;
        leads = λ news result further.
            subst (λ (xs : List Meaning). AsksPeers wanted faulted 0 (map f olds) xs result) (moved news)
            (asked came news result asks (after news result (subst (λ (xs : List P). AsksPeers wanted again (number + 1) (map f xs) news result) (sym left_is) further)));
      }

  -- it ends there
  pub ends : (came : Came) (result : Answer) → AsksPeer wanted (f x) (f y) came
      → After (Some number) failed (λ g. AsksPeers wanted g (number + 1) (map f left) (map f left) result) (map f left ≡ map f left) came result
      → AsksPeers wanted faulted 0 (map f olds) (map f (set now number y)) result
  ends came result asks after =
      subst (λ (xs : List Meaning). AsksPeers wanted faulted 0 (map f olds) xs result)
      (sym (map-append f (take number now) (y ∷ left))
      ∙ ap (λ (i : ℕ). map f (take number now ++ y ∷ drop i now)) (add-one number)
      ∙ ap (map f) (sym (set_split now number y within)))
      (asked came (map f left) result asks after)

-- a peer has no such file
pub goes_on : {P : Type 0} (f : P → Meaning) (wanted : Header) (faulted : Bool) (olds : List P) (failed : Bool) (number : ℕ) (now : List P) (d y : P)
    → Leads f wanted faulted olds failed number now → number < length now → AsksPeer wanted (f (get_or now number d)) (f y) (Ok None)
    → Leads f wanted faulted olds failed (number + 1) (set now number y)
goes_on f wanted faulted olds failed number now d y l within asks =
    on f wanted faulted olds failed number now d y l within failed (Ok None) asks (λ news result further. further)

-- a peer has the file
pub ends_found : {P : Type 0} (f : P → Meaning) (wanted : Header) (faulted : Bool) (olds : List P) (failed : Bool) (number : ℕ) (now : List P) (d y : P) (n : ℕ)
    (told : Option SealedSegment) (file : SealedSegment) → Leads f wanted faulted olds failed number now → number < length now
    → AsksPeer wanted (f (get_or now number d)) (f y) (Ok told) → told ≡ Some file → n ≡ number
    → AsksPeers wanted faulted 0 (map f olds) (map f (set now number y)) (Ok (record { from = Some n; sealed = file }))
ends_found {P} f wanted faulted olds failed number now d y n told file l within asks is at =
    let has : AsksPeer wanted (f (get_or now number d)) (f y) (Ok (Some file)) =
    subst (λ (o : Option SealedSegment). AsksPeer wanted (f (get_or now number d)) (f y) (Ok o)) is asks in
    subst (λ (k : ℕ). AsksPeers wanted faulted 0 (map f olds) (map f (set now number y)) (Ok (record { from = Some k; sealed = file }))) (sym at)
    (ends f wanted faulted olds failed number now d y l within (Ok (Some file)) (Ok (record { from = Some number; sealed = file })) has (refl, refl))

-- memory ran out
pub ends_memory : {P : Type 0} (f : P → Meaning) (wanted : Header) (faulted : Bool) (olds : List P) (failed : Bool) (number : ℕ) (now : List P) (d y : P)
    (told : PeerFault) → Leads f wanted faulted olds failed number now → number < length now
    → AsksPeer wanted (f (get_or now number d)) (f y) (Err told) → told ≡ Memory
    → AsksPeers wanted faulted 0 (map f olds) (map f (set now number y)) (Err refused.Memory)
ends_memory f wanted faulted olds failed number now d y told l within asks is =
    ends f wanted faulted olds failed number now d y l within (Err Memory) (Err refused.Memory)
    (subst (λ (e : PeerFault). AsksPeer wanted (f (get_or now number d)) (f y) (Err e)) is asks) (refl, refl)
