-- What a report tells of queries, and of nodes that are looked at.
use Rattle.std.specs.Prelude.{ℕ, List, ◌++◌, Option, None, Some, codes, decimal}
use Rattle.rt_base.specs.declared.range.Range.{Range}
use Rattle.rt_events.specs.declared.event.Event.{Event}
use Rattle.rt_ideal.specs.Text.{state_text}
use Rattle.rt_lines.specs.Answer.{answer_bytes}
use Rattle.rt_meta.specs.Text.{meta_text}
use Rattle.rt_model.specs.declared.answer.Answer.{Answer}
use Rattle.rt_model.specs.declared.node.Node.{Node}
use Rattle.rt_model.specs.declared.node.Node.TheVariants as node
use Rattle.rt_model.specs.declared.node.Seen.{Seen}
use Rattle.rt_report.specs.Heads.{told_of, worded_text}

abbrev pub asked_text : Event → ℕ → List ℕ
asked_text event query = told_of event (codes "q" ++ (decimal query ++ codes "\n"))

-- the line that is reported of a text that is no query, by the number of its refusal
abbrev pub noquery_text : ℕ → List ℕ
noquery_text number = codes "noquery " ++ (decimal number ++ codes "\n")

abbrev pub routed_text : Event → ℕ → List ℕ
routed_text event pieces = told_of event (codes " " ++ (decimal pieces ++ codes "\n"))

abbrev pub served_text : Event → Range → List ℕ
served_text event range = told_of event (codes " " ++ (decimal range.start.0 ++ (codes " " ++ (decimal range.end.0 ++ codes "\n"))))

abbrev pub unserved_text : Event → List ℕ
unserved_text event = worded_text (codes "notserved") event (codes "\n")

abbrev pub node_down_text : Event → List ℕ
node_down_text event = worded_text (codes "nodedown") event (codes "\n")

abbrev pub answer_line : Answer → List ℕ
answer_line answer = codes "answer " ++ (answer_bytes answer ++ codes "\n")

-- a node as it is stored; what carries nothing is a dash
abbrev pub stored_text : Node → List ℕ
stored_text (node.Meta meta) = meta_text meta
stored_text (node.Ideal state) = state_text state.entries
stored_text node.Boot = codes "-"
stored_text node.Gone = codes "-"

abbrev pub shown_text : Event → Option Seen → List ℕ
shown_text event None = worded_text (codes "nonode") event (codes "\n")
shown_text event (Some seen) = told_of event (codes " " ++ (decimal seen.version ++ (codes " " ++ (stored_text seen.node ++ codes "\n"))))
