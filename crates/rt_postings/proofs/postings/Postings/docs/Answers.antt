use Rattle.std.proofs.Common.{◌<◌, ◌≡◌, arith, ap, sym, ◌∙◌, length, Some}
use Rattle.std.specs.Prelude.{slice_get}
use Rattle.rt_postings.specs.Runs.{run_of}
use Rattle.rt_postings.proofs.Sorting.{length_runs, run_at}
use Rattle.rt_postings.proofs.postings.Postings.docs.Goals as goal

pub run_in-requires-clause-known : goal.run_in-requires-clause-known
run_in-requires-clause-known c = omega (arith, ap length c.deref.ensures.value, length_runs c.self.inside.ends.items c.self.inside.rows.items, ap length c.self.view_is, c.requires)

pub returns : goal.returns
returns c =
    let ends = c.self.inside.ends.items in
    let rows = c.self.inside.rows.items in
    let known : c.args.id < length ends = omega (arith, length_runs ends rows, ap length c.self.view_is, c.requires) in
    let run : c.run_in.result.now ≡ run_of ends rows c.args.id = c.run_in.ensures ∙ ap (λ es. run_of es c.deref-2.result.now c.args.id) c.deref.ensures.value ∙ ap (λ rs. run_of ends rs c.args.id) c.deref-2.ensures.value in
    ap (λ s. slice_get s c.args.id) (sym c.self.view_is) ∙ run_at ends rows c.args.id known ∙ ap (λ r. Some r) (sym run)
