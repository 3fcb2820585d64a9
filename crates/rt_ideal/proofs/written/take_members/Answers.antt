use Rattle.std.proofs.Common.{◌∙◌, ap, option_map}
use Rattle.serde_json.specs.View.{view}
use Rattle.rt_ideal.specs.Text.{members_in}
use Rattle.rt_ideal.proofs.Members.{put_removed, view_found}
use Rattle.rt_ideal.proofs.written.take_members.Goals as goal

pub returns-clause-members : goal.returns-clause-members
returns-clause-members c =
    c.members_of.ensures
    ∙ ap (λ o. members_in (option_map view o)) c.remove-found.ensures.value
    ∙ ap members_in (view_found c.args.segment.now c.args.segments.now.entries)

pub returns-clause-rest : goal.returns-clause-rest
returns-clause-rest c d =
    rw c.remove-found.ensures.entries (put_removed c.args.segment.now d c.args.segments.now.entries c.requires)
