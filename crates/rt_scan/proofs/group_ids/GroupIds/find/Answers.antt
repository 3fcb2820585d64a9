use Rattle.std.proofs.Common.{subst, sym}
use Rattle.std.specs.List.{Contains}
use Rattle.rt_scan.specs.GroupIds.{IsAbsent, Met}
use Rattle.rt_scan.proofs.Noted.{found_entry, absent}
use Rattle.rt_scan.proofs.group_ids.GroupIds.find.Goals as goal

pub returns-in-Some-clause-some : goal.returns-in-Some-clause-some
returns-in-Some-clause-some c =
    subst (λ (m : Met). Contains m.by_ids (c.args.ids.now, c.in-Some.index.now)) c.self.view_is
    (found_entry c.args.ids.now c.in-Some._ids.now c.in-Some.index.now c.in-Some._at c.self.inside.indices.entries (sym (c.in-Some.ensures.key)) c.in-Some.ensures.entry)

pub returns-in-None-clause-none : goal.returns-in-None-clause-none
returns-in-None-clause-none c =
    subst (λ (m : Met). IsAbsent m.by_ids c.args.ids.now) c.self.view_is
    (absent c.args.ids.now c.self.inside.indices.entries (sym (c.in-None.ensures.key)))
