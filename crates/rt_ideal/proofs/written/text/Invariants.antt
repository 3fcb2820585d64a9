use Rattle.std.proofs.Common.{◌≡◌, drop, false, string_cmp}
use Rattle.std.specs.BTreeMap.{IsOrdered}
use Rattle.serde_json.specs.Data.{no_members}
use Rattle.serde_json.specs.View.{members_view}
use Rattle.serde_json.specs.Written.{members_have_float}
use Rattle.rt_ideal.specs.Text.{with_entries_text}
use Rattle.rt_ideal.proofs.written.text.Given as goal

-- what is left to be put is put into what stands there, and no number stands there
abbrev pub invariant-loop-entry : goal.invariant-loop-entry
invariant-loop-entry l = record {
  left : with_entries_text no_members l.state.entries ≡ with_entries_text (members_view l.segments.entries) (drop l.entry-index l.entry-items);
  no_float : members_have_float (members_view l.segments.entries) ≡ false;
  ordered : IsOrdered string_cmp l.segments;
}
