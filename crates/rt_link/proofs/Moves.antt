-- Each step on a queue keeps that it delivers.
use Rattle.std.proofs.Common.{◌≡◌, ◌≢◌, ℕ, zero, suc, ◌+◌, ◌<◌, ◌==◌, true, false, cond, true≢false, List, [], ◌∷◌, ◌++◌, length, set, sym, refl, ap, ◌∙◌, subst, arith, append_assoc, eq-eqb, ne_eqb, lt_of_not-le}
use Rattle.std.specs.Bool.{⊤}
use mathlib.Core.Option.{some, some-injective, some-ne-none}
use lib.ListN.{get_elem?}
use Rattle.std.proofs.lemmas.List.Elements.{All-nil, All-push, All-weaker}
use Rattle.atomic_table.proofs.Lists.{set_else}
use Rattle.crossbeam_queue.specs.Fifo.{Pushes, Pops, Forks, Merges, Learns}
use Rattle.rt_link.specs.declared.envelope.Envelope.{Envelope}
use Rattle.rt_link.specs.declared.rule.Sent.{Sent}
use Rattle.rt_link.specs.declared.rule.Account.{Account}
use Rattle.rt_link.specs.declared.rule.Knows.{Knows}
use Rattle.rt_link.specs.Delivery.{of, account, owner, sender, idle, maker, next_sender, gatherer, Accepts, TakesOne, AddsUp, Fits, Delivers}
use Rattle.rt_link.proofs.Counts.{of_here, of_else, of_some}
use Rattle.rt_link.proofs.Views.{each_set, each_more}

-- the one view, at its place
only : (v : Knows) (k : ℕ) (u : Knows) → get_elem? (v ∷ []) k ≡ some u → (k ≡ 0) × (v ≡ u)
only v zero u e = (refl, some-injective v u e)
only v (suc k) u e = absurd (some-ne-none u (sym e))

-- what the owner knows of a sender that it gathered
abbrev IsGathered : ℕ → (ℕ → ℕ) → List Sent → ℕ → Account → Type 0
IsGathered made seat all pass a = (seat a.from ≡ pass) × (a.accepted ≡ of a.from all) × (a.from < made)

idle_fits : (made place : ℕ) (seat : ℕ → ℕ) (all taken : List Sent) (pass : ℕ) → Fits made place seat all taken pass idle
idle_fits made place seat all taken pass = record { sends = λ e. absurd (true≢false (sym e)); owns = λ e. absurd (true≢false (sym e)) }

pub begins : Delivers [] (owner 0 [] [] ∷ [])
begins =
    let seat : ℕ → ℕ = λ n. 0 in
    let F : ℕ → Knows → Type 0 = Fits 0 0 seat [] [] in
    let first : F 0 (owner 0 [] []) =
    record {
      sends = λ e. absurd (true≢false (sym e));
      owns = λ e. record { here = refl; made_is = refl; taken_is = refl; gathered = All-nil (IsGathered 0 seat [] 0) };
    } in
    record {
      made = 0;
      place = 0;
      seat = seat;
      taken = [];
      none_else = λ p past. refl;
      passes = λ k v e. let o = only (owner 0 [] []) k v e in subst (λ (y : ℕ × Knows). F y.0 y.1) (λ i. (sym o.0 i, o.1 i)) first;
    }

-- ---- a post

-- what is of another sender stays
account_kept : (made pass : ℕ) (seat : ℕ → ℕ) (all : List Sent) (x : Sent) (j : ℕ) → seat x.sender ≡ pass → j ≢ pass → (a : Account)
    → IsGathered made seat all j a → IsGathered made seat (all ++ x ∷ []) j a
account_kept made pass seat all x j here apart a fits =
    (fits.0, fits.1 ∙ sym (of_else a.from x all (λ e. apart (sym fits.0 ∙ ap seat e ∙ here))), fits.2)

pub posts : (n pass : ℕ) (from : ℕ) (accepted : List Envelope) (x : Sent) → x.sender ≡ from
    → Pushes Delivers n pass (sender from accepted) x (Accepts (sender from accepted) x)
posts n pass from accepted x is items views room d at =
    let fits = (d.passes pass (sender from accepted) at).sends refl in
    let all : List Sent = d.taken ++ items in
    let more : List Sent = d.taken ++ (items ++ x ∷ []) in
    let more_is : all ++ x ∷ [] ≡ more = append_assoc d.taken items (x ∷ []) in
    let here : d.seat x.sender ≡ pass = ap d.seat is ∙ fits.here in
    let w : Knows = sender from (accepted ++ x.envelope ∷ []) in
    let F : ℕ → Knows → Type 0 = Fits d.made d.place d.seat (all ++ x ∷ []) d.taken in
    let mine : F pass w =
    record {
      sends = λ e. record {
        here = fits.here;
        accepted = ap (λ l. l ++ x.envelope ∷ []) (fits.accepted ∙ ap (λ q. of q all) (sym is)) ∙ sym (of_here x all) ∙ ap (λ q. of q (all ++ x ∷ [])) is;
        known = fits.known;
      };
      owns = λ e. absurd (true≢false (sym e));
    } in
    let others : (j : ℕ) (u : Knows) → j ≢ pass → get_elem? views j ≡ some u → F j u = λ j u apart e.
    let f = d.passes j u e in
    record {
      sends = λ t. let s = f.sends t in
          record {
            here = s.here;
            accepted = s.accepted ∙ sym (of_else u.mine.from x all (λ same. apart (sym s.here ∙ ap d.seat same ∙ here)));
            known = s.known;
          };
      owns = λ t. let o = f.owns t in
          record {
            here = o.here;
            made_is = o.made_is;
            taken_is = o.taken_is;
            gathered = All-weaker (IsGathered d.made d.seat all j) (IsGathered d.made d.seat (all ++ x ∷ []) j) (λ a g. account_kept d.made pass d.seat all x j here apart a g) u.gathered o.gathered;
          };
    } in (
      w,
      record {
        made = d.made;
        place = d.place;
        seat = d.seat;
        taken = d.taken;
        none_else = λ p past. ap (of p) (sym more_is)
            ∙ of_else p x all (λ e. let k = fits.known in omega (arith, past, e, is, k))
            ∙ d.none_else p past;
        passes = subst (λ l. (j : ℕ) (u : Knows) → get_elem? (set views pass w) j ≡ some u → Fits d.made d.place d.seat l d.taken j u) more_is
            (each_set F views pass w mine others);
      },
      refl,
    )

pub posts_as : (n pass : ℕ) (v : Knows) (from : ℕ) (accepted : List Envelope) (x : Sent) → v ≡ sender from accepted → x.sender ≡ from
    → Pushes Delivers n pass v x (Accepts v x)
posts_as n pass v from accepted x known is = subst (λ u. Pushes Delivers n pass u x (Accepts u x)) (sym known) (posts n pass from accepted x is)

pub nothing_learned : (pass : ℕ) (v : Knows) → Learns Delivers pass v (λ items. ⊤)
nothing_learned pass v items views d at = tt

-- ---- a taking

pub takes : (pass made : ℕ) (taken : List Sent) (gathered : List Account) → Pops Delivers pass (owner made taken gathered) (TakesOne (owner made taken gathered))
takes pass made taken gathered x items views d at =
    let fits = (d.passes pass (owner made taken gathered) at).owns refl in
    let all : List Sent = d.taken ++ x ∷ items in
    let after : List Sent = d.taken ++ x ∷ [] in
    let same : after ++ items ≡ all = append_assoc d.taken (x ∷ []) items in
    let w : Knows = owner made (taken ++ x ∷ []) gathered in
    let F : ℕ → Knows → Type 0 = Fits d.made d.place d.seat all after in
    let mine : F pass w =
    record {
      sends = λ e. absurd (true≢false (sym e));
      owns = λ e. record { here = fits.here; made_is = fits.made_is; taken_is = ap (λ l. l ++ x ∷ []) fits.taken_is; gathered = fits.gathered };
    } in
    let others : (j : ℕ) (u : Knows) → j ≢ pass → get_elem? views j ≡ some u → F j u = λ j u apart e.
    let f = d.passes j u e in
    record { sends = f.sends; owns = λ t. absurd (apart ((f.owns t).here ∙ sym fits.here)) } in (
      w,
      record {
        made = d.made;
        place = d.place;
        seat = d.seat;
        taken = after;
        none_else = λ p past. ap (of p) same ∙ d.none_else p past;
        passes = subst (λ l. (j : ℕ) (u : Knows) → get_elem? (set views pass w) j ≡ some u → Fits d.made d.place d.seat l after j u) (sym same)
            (each_set F views pass w mine others);
      },
      (refl, lt_of_not-le (λ past. of_some x d.taken items (d.none_else x.sender (let k = fits.made_is in omega (arith, past, k))))),
    )

pub takes_as : (pass : ℕ) (v : Knows) (made : ℕ) (taken : List Sent) (gathered : List Account) → v ≡ owner made taken gathered → Pops Delivers pass v (TakesOne v)
takes_as pass v made taken gathered known = subst (λ u. Pops Delivers pass u (TakesOne u)) (sym known) (takes pass made taken gathered)

pub adds_up : (pass made : ℕ) (taken : List Sent) (gathered : List Account) → Learns Delivers pass (owner made taken gathered) (AddsUp made taken gathered)
adds_up pass made taken gathered items views d at =
    let fits = (d.passes pass (owner made taken gathered) at).owns refl in
    record {
      whole = All-weaker (IsGathered d.made d.seat (d.taken ++ items) pass) (λ a. a.accepted ≡ of a.from (taken ++ items)) (λ a g. g.1 ∙ ap (λ l. of a.from (l ++ items)) (sym fits.taken_is)) gathered fits.gathered;
      none_else = λ p past. ap (λ l. of p (l ++ items)) fits.taken_is ∙ d.none_else p (let k = fits.made_is in omega (arith, past, k));
    }

pub adds_up_as : (pass : ℕ) (v : Knows) (made : ℕ) (taken : List Sent) (gathered : List Account) → v ≡ owner made taken gathered → Learns Delivers pass v (AddsUp v.made v.taken v.gathered)
adds_up_as pass v made taken gathered known = subst (λ u. Learns Delivers pass u (AddsUp u.made u.taken u.gathered)) (sym known) (adds_up pass made taken gathered)

-- ---- a new sender

moved : ℕ → ℕ → (ℕ → ℕ) → ℕ → ℕ
moved from pass seat n = cond (n == from) pass (seat n)

moved_there : (from pass : ℕ) (seat : ℕ → ℕ) (n : ℕ) → n ≡ from → moved from pass seat n ≡ pass
unfolding moved
moved_there from pass seat n e = ap (λ b. cond b pass (seat n)) (eq-eqb n from e)

moved_not : (from pass : ℕ) (seat : ℕ → ℕ) (n : ℕ) → n ≢ from → moved from pass seat n ≡ seat n
unfolding moved
moved_not from pass seat n e = ap (λ b. cond b pass (seat n)) (ne_eqb n from e)

pub makes : (pass made : ℕ) (taken : List Sent) (gathered : List Account)
    → Forks Delivers pass (owner made taken gathered) (maker (owner made taken gathered)) (next_sender (owner made taken gathered))
makes pass made taken gathered items views d at =
    let fits = (d.passes pass (owner made taken gathered) at).owns refl in
    let all : List Sent = d.taken ++ items in
    let left : Knows = maker (owner made taken gathered) in
    let right : Knows = next_sender (owner made taken gathered) in
    let before : List Knows = set views pass left in
    let last : ℕ = length before in
    let seat : ℕ → ℕ = moved made last d.seat in
    let F : ℕ → Knows → Type 0 = Fits (made + 1) d.place seat all d.taken in
    let older : (n : ℕ) → n < d.made → n ≢ made = λ n lt e. let k = fits.made_is in absurd (omega (arith, lt, e, k)) in
    let kept : (j : ℕ) (a : Account) → IsGathered d.made d.seat all j a → IsGathered (made + 1) seat all j a = λ j a g. (moved_not made last d.seat a.from (older a.from g.2) ∙ g.0, g.1, (let k = fits.made_is in let lt = g.2 in omega (arith, k, lt))) in
    let mine : F pass left =
    record {
      sends = λ e. absurd (true≢false (sym e));
      owns = λ e. record { here = fits.here; made_is = refl; taken_is = fits.taken_is; gathered = All-weaker (IsGathered d.made d.seat all pass) (IsGathered (made + 1) seat all pass) (λ a g. kept pass a g) gathered fits.gathered };
    } in
    let theirs : F last right =
    record {
      sends = λ e. record {
        here = moved_there made last d.seat made refl;
        accepted = sym (d.none_else made (let k = fits.made_is in omega (arith, k)));
        known = omega arith;
      };
      owns = λ e. absurd (true≢false (sym e));
    } in
    let others : (j : ℕ) (u : Knows) → j ≢ pass → get_elem? views j ≡ some u → F j u = λ j u apart e.
    let f = d.passes j u e in
    record {
      sends = λ t. let s = f.sends t in
          record {
            here = moved_not made last d.seat u.mine.from (older u.mine.from s.known) ∙ s.here;
            accepted = s.accepted;
            known = let k = fits.made_is in let lt = s.known in omega (arith, k, lt);
          };
      owns = λ t. absurd (apart ((f.owns t).here ∙ sym fits.here));
    } in
    record {
      made = made + 1;
      place = d.place;
      seat = seat;
      taken = d.taken;
      none_else = λ p past. d.none_else p (let k = fits.made_is in omega (arith, past, k));
      passes = each_more F before right theirs (each_set F views pass left mine others);
    }

pub makes_as : (pass : ℕ) (v : Knows) (made : ℕ) (taken : List Sent) (gathered : List Account) → v ≡ owner made taken gathered → Forks Delivers pass v (maker v) (next_sender v)
makes_as pass v made taken gathered known = subst (λ u. Forks Delivers pass u (maker u) (next_sender u)) (sym known) (makes pass made taken gathered)

-- ---- a sender taken in

pub gathers : (pass made : ℕ) (taken : List Sent) (gathered : List Account) (other from : ℕ) (accepted : List Envelope)
    → Merges Delivers pass (owner made taken gathered) other (sender from accepted) (gatherer (owner made taken gathered) (sender from accepted)) idle
gathers pass made taken gathered other from accepted items views d at apart at_other =
    let fits = (d.passes pass (owner made taken gathered) at).owns refl in
    let all : List Sent = d.taken ++ items in
    let both : Knows = gatherer (owner made taken gathered) (sender from accepted) in
    let was : get_elem? views other ≡ some (sender from accepted) = sym (set_else views pass other both apart) ∙ at_other in
    let theirs = (d.passes other (sender from accepted) was).sends refl in
    let seat : ℕ → ℕ = moved from pass d.seat in
    let F : ℕ → Knows → Type 0 = Fits d.made d.place seat all d.taken in
    let kept : (a : Account) → IsGathered d.made d.seat all pass a → IsGathered d.made seat all pass a = λ a g. (moved_not from pass d.seat a.from (λ e. apart (sym theirs.here ∙ ap d.seat (sym e) ∙ g.0)) ∙ g.0, g.1, g.2) in
    let mine : F pass both =
    record {
      sends = λ e. absurd (true≢false (sym e));
      owns = λ e. record {
        here = fits.here;
        made_is = fits.made_is;
        taken_is = fits.taken_is;
        gathered = All-push (IsGathered d.made seat all pass) gathered (account from accepted) (All-weaker (IsGathered d.made d.seat all pass) (IsGathered d.made seat all pass) (λ a g. kept a g) gathered fits.gathered)
            (moved_there from pass d.seat from refl, theirs.accepted, theirs.known);
      };
    } in
    let left_alone : (j : ℕ) (u : Knows) → j ≢ pass → j ≢ other → get_elem? views j ≡ some u → F j u = λ j u no_pass no_other e.
    let f = d.passes j u e in
    record {
      sends = λ t. let s = f.sends t in
          record {
            here = moved_not from pass d.seat u.mine.from (λ same. no_other (sym s.here ∙ ap d.seat same ∙ theirs.here)) ∙ s.here;
            accepted = s.accepted;
            known = s.known;
          };
      owns = λ t. absurd (no_pass ((f.owns t).here ∙ sym fits.here));
    } in
    record {
      made = d.made;
      place = d.place;
      seat = seat;
      taken = d.taken;
      none_else = d.none_else;
      passes = each_set F (set views pass both) other idle (idle_fits d.made d.place seat all d.taken other)
          (λ j u no_other e. each_set (λ i x. i ≢ other → F i x) views pass both (λ no. mine) (λ i x no_pass f no. left_alone i x no_pass no f) j u e no_other);
    }

pub gathers_as : (pass : ℕ) (v : Knows) (made : ℕ) (taken : List Sent) (gathered : List Account) (other : ℕ) (w : Knows) (from : ℕ) (accepted : List Envelope)
    → v ≡ owner made taken gathered → w ≡ sender from accepted → Merges Delivers pass v other w (gatherer v w) idle
gathers_as pass v made taken gathered other w from accepted owns sends =
    subst (λ u. Merges Delivers pass u other w (gatherer u w) idle) (sym owns)
    (subst (λ x. Merges Delivers pass (owner made taken gathered) other x (gatherer (owner made taken gathered) x) idle) (sym sends)
    (gathers pass made taken gathered other from accepted))
