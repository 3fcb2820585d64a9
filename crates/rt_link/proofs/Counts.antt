-- What is of a sender, and how many.
use Rattle.std.proofs.Common.{◌≡◌, ◌≢◌, ℕ, zero, suc, ◌+◌, ◌<◌, ◌==◌, Bool, true, false, cond, List, [], ◌∷◌, ◌++◌, length, map, slice_index_or, slice_set, sym, refl, ap, ◌∙◌, arith, append-nil, length-append, length-set, subst, Option, eq-eqb, ne_eqb, get_or-set_same, get_or-set_other}
use mathlib.Core.Logic.{dite}
use native.Mathlib.Decide.{ℕ_discrete}
use Rattle.std.specs.List.{range_with_len}
use Rattle.std.proofs.lemmas.List.Elements.{All-weaker}
use Rattle.std.proofs.lemmas.List.FromFn.{map-range_with_len_more}
use Rattle.atomic_table.specs.Seated.{TableId}
use Rattle.crossbeam_queue.specs.Passes.{Pass, view, IsSamePass}
use Rattle.crossbeam_queue.specs.declared.array_queue.Doing.{Doing}
use Rattle.crossbeam_queue.specs.declared.array_queue.Slotted.{Slotted}
use Rattle.rt_lists.specs.Members.{IsFront}
use Rattle.rt_link.specs.declared.envelope.Envelope.{Envelope}
use Rattle.rt_link.specs.declared.rule.Sent.{Sent}
use Rattle.rt_link.specs.declared.rule.Account.{Account}
use Rattle.rt_link.specs.declared.rule.Knows.{Knows}
use Rattle.rt_link.specs.Delivery.{of, owner, TakesOne, AddsUp, TookInOrder, TookOfSenders}
use Rattle.rt_link.specs.Ends.{Sending, Taking, sending, taking, AreCounts, IsOwner, WasDrained}

-- a list with its first item put before it, or not
abbrev with_first : Bool → Envelope → List Envelope → List Envelope
with_first b e es = cond b (e ∷ es) es

first_append : (b : Bool) (e : Envelope) (xs ys : List Envelope) → with_first b e xs ++ ys ≡ with_first b e (xs ++ ys)
first_append true e xs ys = refl
first_append false e xs ys = refl

pub of_append : (p : ℕ) (xs ys : List Sent) → of p (xs ++ ys) ≡ of p xs ++ of p ys
of_append p [] ys = refl
of_append p (x ∷ xs) ys =
    ap (λ l. with_first (x.sender == p) x.envelope l) (of_append p xs ys) ∙ sym (first_append (x.sender == p) x.envelope (of p xs) (of p ys))

pub of_here : (x : Sent) (xs : List Sent) → of x.sender (xs ++ x ∷ []) ≡ of x.sender xs ++ x.envelope ∷ []
of_here x xs =
    of_append x.sender xs (x ∷ [])
    ∙ ap (λ b. of x.sender xs ++ with_first b x.envelope []) (eq-eqb x.sender x.sender refl)

pub of_else : (p : ℕ) (x : Sent) (xs : List Sent) → p ≢ x.sender → of p (xs ++ x ∷ []) ≡ of p xs
of_else p x xs apart =
    of_append p xs (x ∷ [])
    ∙ ap (λ b. of p xs ++ with_first b x.envelope []) (ne_eqb x.sender p (λ e. apart (sym e)))
    ∙ append-nil (of p xs)

not_nil : (xs ys : List Envelope) (e : Envelope) → xs ++ e ∷ ys ≡ [] → ⊥
not_nil [] ys e same = cc
not_nil (x ∷ xs) ys e same = cc

-- what is of a sender isn't nothing, where an envelope of it is there
pub of_some : (x : Sent) (xs ys : List Sent) → of x.sender (xs ++ x ∷ ys) ≡ [] → ⊥
of_some x xs ys none =
    not_nil (of x.sender xs) (of x.sender ys) x.envelope
    (ap (λ b. of x.sender xs ++ with_first b x.envelope (of x.sender ys)) (sym (eq-eqb x.sender x.sender refl))
    ∙ sym (of_append x.sender xs (x ∷ ys)) ∙ none)

nil_left : (xs ys : List Envelope) → xs ++ ys ≡ [] → xs ≡ []
nil_left [] ys e = refl
nil_left (x ∷ xs) ys e = absurd (not_nil [] (xs ++ ys) x e)

pub of_left : (p : ℕ) (xs ys : List Sent) → of p (xs ++ ys) ≡ [] → of p xs ≡ []
of_left p xs ys e = nil_left (of p xs) (of p ys) (sym (of_append p xs ys) ∙ e)

-- ---- how many

pub counts_more : (counts : List ℕ) (taken : List Sent) (x : Sent) → AreCounts counts taken → x.sender < length counts
    → AreCounts (slice_set counts x.sender (slice_index_or counts x.sender 0 + 1)) (taken ++ x ∷ [])
counts_more counts taken x are within p =
    dite (ℕ_discrete p x.sender)
    (λ e. ap (λ q. slice_index_or (slice_set counts x.sender (slice_index_or counts x.sender 0 + 1)) q 0) e
    ∙ get_or-set_same counts x.sender (slice_index_or counts x.sender 0 + 1) 0 within
    ∙ ap (λ n. n + 1) (are x.sender)
    ∙ sym (length-append (of x.sender taken) (x.envelope ∷ []))
    ∙ ap length (sym (of_here x taken))
    ∙ ap (λ q. length (of q (taken ++ x ∷ []))) (sym e))
    (λ ne. get_or-set_other counts x.sender p (slice_index_or counts x.sender 0 + 1) 0 ne ∙ are p ∙ ap length (sym (of_else p x taken ne)))

nothing_at : (counts : List ℕ) (p : ℕ) → ((q : ℕ) → slice_index_or counts q 0 ≡ 0) → slice_index_or (counts ++ 0 ∷ []) p 0 ≡ 0
nothing_at [] zero none = refl
nothing_at [] (suc p) none = refl
nothing_at (c ∷ counts) zero none = none 0
nothing_at (c ∷ counts) (suc p) none = nothing_at counts p (λ q. none (suc q))

-- ---- what was taken

pub drained : (made : ℕ) (taken : List Sent) (gathered : List Account) (items : List Sent) → length items ≡ 0 → AddsUp made taken gathered items → WasDrained taken gathered
drained made taken gathered [] e adds =
    All-weaker (λ a. a.accepted ≡ of a.from (taken ++ [])) (λ a. a.accepted ≡ of a.from taken) (λ a h. h ∙ ap (of a.from) (append-nil taken)) gathered adds.whole
drained made taken gathered (x ∷ items) e adds = absurd (omega (arith, e))

pub in_order : (made : ℕ) (taken : List Sent) (gathered : List Account) (items : List Sent) → AddsUp made taken gathered items → TookInOrder taken gathered
in_order made taken gathered items adds =
    All-weaker (λ a. a.accepted ≡ of a.from (taken ++ items)) (λ a. IsFront (of a.from taken) a.accepted) (λ a h. (of a.from items, h ∙ of_append a.from taken items)) gathered adds.whole

pub of_senders : (made : ℕ) (taken : List Sent) (gathered : List Account) (items : List Sent) → AddsUp made taken gathered items → TookOfSenders made taken
of_senders made taken gathered items adds p past = of_left p taken items (adds.none_else p past)

-- ---- the posts, one after another

abbrev new_posts : TableId → ℕ → ℕ → List Sending
new_posts line capacity n = map (λ k. sending line capacity k []) (range_with_len 0 n)

posts_more : (line : TableId) (capacity n : ℕ) (before after : List Sending) (x : Sending) → x ≡ sending line capacity n [] → after ≡ before ++ x ∷ [] → before ≡ new_posts line capacity n
    → after ≡ new_posts line capacity (n + 1)
posts_more line capacity n before after x is pushed so_far =
    pushed
    ∙ ap (λ l. l ++ x ∷ []) so_far
    ∙ ap (λ y. new_posts line capacity n ++ y ∷ []) is
    ∙ sym (map-range_with_len_more (λ k. sending line capacity k []) 0 n n (omega arith))

-- an inbox that made a post
pub inbox_more : (capacity n : ℕ) (old new : Taking) → old ≡ taking old.line capacity n [] [] → new ≡ taking old.line old.capacity (n + 1) [] [] → new ≡ taking new.line capacity (n + 1) [] []
inbox_more capacity n old new is made =
    let here : new ≡ taking old.line capacity (n + 1) [] [] = made ∙ ap (λ (i : Taking). taking old.line i.capacity (n + 1) [] []) is in
    here ∙ ap (λ (i : Taking). taking i.line capacity (n + 1) [] []) (sym here)

-- the posts with the one that it made
pub links_more : (capacity n : ℕ) (old new : Taking) (before after : List Sending) (x : Sending) → old ≡ taking old.line capacity n [] [] → new ≡ taking old.line old.capacity (n + 1) [] []
    → x ≡ sending old.line old.capacity n [] → after ≡ before ++ x ∷ [] → before ≡ new_posts old.line capacity n → after ≡ new_posts new.line capacity (n + 1)
links_more capacity n old new before after x is made posted pushed so_far =
    posts_more old.line capacity n before after x (posted ∙ ap (λ (i : Taking). sending old.line i.capacity n []) is) pushed so_far
    ∙ ap (λ (i : Taking). new_posts i.line capacity (n + 1)) (sym made)

-- ---- the owner's end, after a taking

pub owner_takes : {Q A : Type 0} (line : Slotted (Option Sent) (Doing Sent Knows) Q A) (old new : Pass Sent Knows) (counts after : List ℕ) (x : Sent)
    → IsOwner line old counts → IsSamePass old new → TakesOne (view old) x (view new)
    → after ≡ slice_set counts x.sender (slice_index_or counts x.sender 0 + 1) → IsOwner line new after
owner_takes line old new counts after x owns same took counted =
    let within : x.sender < length counts = (let m = owns.made_is in let lt = took.1 in omega (arith, m, lt)) in
    let more : List ℕ = slice_set counts x.sender (slice_index_or counts x.sender 0 + 1) in
    record {
      of_line = (same.0 ∙ owns.of_line.0, same.2 ∙ owns.of_line.1);
      knows = took.0 ∙ sym (ap (λ (v : Knows). owner v.made v.taken v.gathered) took.0);
      made_is = ap length counted ∙ length-set counts x.sender (slice_index_or counts x.sender 0 + 1) ∙ owns.made_is ∙ sym (ap (λ (v : Knows). v.made) took.0);
      counted = subst (λ (c : List ℕ). AreCounts c (view new).taken) (sym counted)
          (subst (λ (v : Knows). AreCounts more v.taken) (sym took.0) (counts_more counts (view old).taken x owns.counted within));
    }
