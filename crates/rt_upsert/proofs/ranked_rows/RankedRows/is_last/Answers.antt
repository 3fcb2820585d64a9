use Rattle.std.proofs.Common.{rules, not, nat_eq, subst}
use Rattle.std.proofs.lemmas.Bool.{not-true, not-false, eqb-true, eqb-false}
use Rattle.rt_upsert.proofs.Ranging.{IsAbove, tells}
use Rattle.rt_upsert.proofs.ranked_rows.RankedRows.is_last.Goals as goal

pub returns-in-Some : goal.returns-in-Some
returns-in-Some c =
    let above : IsAbove c.args.self.now.ranks c.args.rank c.range.result = c.range.ensures.in_range (search rules) in
    tells c.args.self.now.ranks c.args.rank c.in-Some.next.now c.next.new.self (subst (IsAbove c.args.self.now.ranks c.args.rank) c.in-Some.ensures.steps above)
    (not (nat_eq c.in-Some.next.now.key c.args.rank.key))
    (λ e. eqb-false c.in-Some.next.now.key c.args.rank.key (not-true (nat_eq c.in-Some.next.now.key c.args.rank.key) e))
    (λ e. eqb-true c.in-Some.next.now.key c.args.rank.key (not-false (nat_eq c.in-Some.next.now.key c.args.rank.key) e))
