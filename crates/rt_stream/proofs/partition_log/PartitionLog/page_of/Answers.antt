use Rattle.std.proofs.Common.{◌<◌, ◌/◌, ℕ, List, slice_get, length, ap, sym, subst, ◌∙◌}
use Rattle.rt_stream.proofs.Places.{full_rest, last_rest}
use Rattle.rt_stream.proofs.partition_log.PartitionLog.page_of.Goals as goal

pub returns-in-Some-clause-within : goal.returns-in-Some-clause-within
returns-in-Some-clause-within c =
    let found = ap (λ pages. slice_get pages (c.args.offset / 256)) (sym c.deref.ensures.value)
    ∙ c.in-Some.ensures.some in
    (full_rest c.self.inside.full.items c.self.inside.last c.args.offset c.in-Some.page.now c.self.invariant.0 found).0

pub returns-in-Some-clause-rest : goal.returns-in-Some-clause-rest
returns-in-Some-clause-rest c =
    let found = ap (λ pages. slice_get pages (c.args.offset / 256)) (sym c.deref.ensures.value)
    ∙ c.in-Some.ensures.some in
    rw (← c.self.view_is)
    (full_rest c.self.inside.full.items c.self.inside.last c.args.offset c.in-Some.page.now c.self.invariant.0 found).1

pub returns-in-None-clause-within : goal.returns-in-None-clause-within
returns-in-None-clause-within c =
    let missing = ap (λ pages. slice_get pages (c.args.offset / 256)) (sym c.deref.ensures.value)
    ∙ c.in-None.ensures.none in
    let within = subst (λ (m : List (List ℕ)). c.args.offset < length m)
    (sym c.self.view_is) c.requires in
    (last_rest c.self.inside.full.items c.self.inside.last c.args.offset c.self.invariant.0 c.self.invariant.1 missing within).0

pub returns-in-None-clause-rest : goal.returns-in-None-clause-rest
returns-in-None-clause-rest c =
    let missing = ap (λ pages. slice_get pages (c.args.offset / 256)) (sym c.deref.ensures.value)
    ∙ c.in-None.ensures.none in
    let within = subst (λ (m : List (List ℕ)). c.args.offset < length m)
    (sym c.self.view_is) c.requires in
    rw (← c.self.view_is)
    (last_rest c.self.inside.full.items c.self.inside.last c.args.offset c.self.invariant.0 c.self.invariant.1 missing within).1
