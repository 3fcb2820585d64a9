-- What a call adds to its caller's own.
use Rattle.std.proofs.Common.{◌≡◌, List, [], ◌∷◌, ◌++◌, Option, Some, None, append-nil, sym, ap, ◌∙◌}
use Rattle.std.proofs.lemmas.List.{append_cancel_left}
use Rattle.rt_model.specs.declared.node.Seen.{Seen}
use Rattle.rt_store.specs.Meaning.{Own}
use Rattle.rt_store.specs.Calls.{Gains}

abbrev pub with_own : Own → List Seen → Option Own
with_own o more = Some (record { numbers = o.numbers; writes = o.writes ++ more })

-- where there is nothing more, the caller's own stays
pub gains_nothing : (o n : Option Own) (base seen : List Seen) → Gains o n base seen → seen ≡ base → n ≡ o
gains_nothing None n base seen g e = g
gains_nothing (Some o) n base seen g e =
    let none : g.0 ≡ [] = append_cancel_left base g.0 [] (sym g.1 ∙ e ∙ sym (append-nil base)) in
    g.2 ∙ ap (with_own o) none ∙ ap (λ xs. Some (record { numbers = o.numbers; writes = xs })) (append-nil o.writes)

-- and where there is one more, this one alone is the caller's own
pub gains_one : (o : Own) (n : Option Own) (base seen : List Seen) (x : Seen) → Gains (Some o) n base seen → seen ≡ base ++ x ∷ [] → n ≡ with_own o (x ∷ [])
gains_one o n base seen x g e =
    g.2 ∙ ap (with_own o) (append_cancel_left base g.0 (x ∷ []) (sym g.1 ∙ e))
