-- The replicas of a server are seen one after the other.
use Rattle.std.proofs.Common.{◌≡◌, ◌+◌, ◌<◌, ◌≤◌, ◌++◌, ℕ, suc, List, ◌∷◌, length, length-append, take, drop, drop-cons, get_or, append_assoc, add-one, arith, refl, sym, ap, ◌∙◌}
use Rattle.std.proofs.lemmas.List.{take-append-le, take_at}
use Rattle.rt_base.specs.declared.numbers.Instance.{Instance}
use Rattle.rt_pause.specs.declared.replica_seen.ReplicaSeen.{ReplicaSeen}
use Rattle.rt_server.specs.Table.{Segment, Segments, replica_of}
use Rattle.rt_nodes.specs.Reading.{seen_among, seen_as}

pub one_seen : (i : Instance) (t : Segments) (seen next total : List ReplicaSeen) (ss : List Segment) (k : ℕ) (d : Segment) → k < length ss
    → seen ++ seen_among i t (drop k ss) ≡ total
    → next ≡ seen ++ seen_as i (get_or ss k d) (replica_of t (get_or ss k d).0 (get_or ss k d).1)
    → next ++ seen_among i t (drop (k + 1) ss) ≡ total
one_seen i t seen next total ss k d within so_far added =
    let x = get_or ss k d in
    let rest = seen_among i t (drop (k + 1) ss) in
    let tail : drop (k + 1) ss ≡ drop (suc k) ss = ap (λ (n : ℕ). drop n ss) (add-one k) in
    ap (λ (r : List ReplicaSeen). r ++ rest) added ∙ append_assoc seen (seen_as i x (replica_of t x.0 x.1)) rest
    ∙ ap (λ (xs : List Segment). seen ++ seen_among i t (x ∷ xs)) tail
    ∙ ap (λ (xs : List Segment). seen ++ seen_among i t xs) (sym (drop-cons ss k d within)) ∙ so_far

pub still_longer : (first seen next more : List ReplicaSeen) → length first ≤ length seen → next ≡ seen ++ more → length first ≤ length next
still_longer first seen next more longer added = omega (arith, longer, ap (λ (xs : List ReplicaSeen). length xs) added, length-append seen more)

-- what stood there first is what is left of as many
pub earlier_kept : (first seen rest all : List ReplicaSeen) → length first ≤ length seen → seen ++ rest ≡ first ++ all → take (length first) seen ≡ first
earlier_kept first seen rest all longer so_far =
    sym (take-append-le (length first) seen rest longer) ∙ ap (take (length first)) so_far ∙ take_at first all (length first) refl
