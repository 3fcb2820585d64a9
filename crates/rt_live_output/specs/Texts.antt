-- The text that a running cluster writes.
use Rattle.std.specs.Prelude.{ℕ, ◌+◌, List, [], ◌∷◌, ◌++◌, Option, None, Some, codes, decimal}
use Rattle.rt_base.specs.declared.numbers.Offset.{Offset}
use Rattle.rt_live_output.specs.declared.journal.Heard.{Heard}
use Rattle.rt_live_output.specs.declared.journal.Journal.{Journal}
use Rattle.rt_live_output.specs.declared.journal.Queue.{Queue}
use Rattle.rt_lines.specs.Answer.{answer_bytes}
use Rattle.rt_model.specs.declared.answer.Answer.{Answer}
use Rattle.rt_model.specs.declared.node.Key.{Key}
use Rattle.rt_model.specs.declared.node.Key.TheVariants as key
use Rattle.rt_model.specs.declared.node.Seen.{Seen}
use Rattle.rt_model.specs.declared.reply.ReplyStatus.{ReplyStatus}
use Rattle.rt_msgs.specs.StatusText.{status_text}
use Rattle.rt_report.specs.BrokerTexts.{answer_line, stored_text}
use Rattle.rt_report.specs.MacroTexts.{end_text}

-- the texts of these, one after the other, the first by this number and each further one by the next
abbrev pub texts_from : {X : Type 0} → (ℕ → X → List ℕ) → ℕ → List X → List ℕ
texts_from text n [] = []
texts_from text n (x ∷ xs) = text n x ++ texts_from text (n + 1) xs

-- the texts of these, numbered from 0
abbrev pub texts : {X : Type 0} → (ℕ → X → List ℕ) → List X → List ℕ
texts text xs = texts_from text 0 xs

-- `meta/P/Q`, `ideal` or `boot/K`
abbrev pub key_text : Key → List ℕ
key_text (key.Meta partition sequence) = codes "meta/" ++ (decimal partition.0 ++ (codes "/" ++ decimal sequence.0))
key_text key.Ideal = codes "ideal"
key_text (key.Boot instance) = codes "boot/" ++ decimal instance.0

-- `write N KEY VERSION TEXT`
abbrev pub write_line : ℕ → Seen → List ℕ
write_line n seen =
    codes "write " ++ (decimal n ++ (codes " " ++ (key_text seen.key ++ (codes " " ++ (decimal seen.version ++ (codes " " ++ (stored_text seen.node ++ codes "\n")))))))

-- the status of an answer, or `none` where there is none yet
abbrev pub answered_text : Option ReplyStatus → List ℕ
answered_text None = codes "none"
answered_text (Some status) = status_text status

-- `heard cK N REQUEST -> STATUS`
abbrev pub heard_line : ℕ → ℕ → Heard → List ℕ
heard_line k n heard =
    codes "heard c" ++ (decimal k ++ (codes " " ++ (decimal n ++ (codes " " ++ (heard.request ++ (codes " -> " ++ (answered_text heard.status ++ codes "\n")))))))

-- the nodes at the two ends of a queue: the letter before each node's number
pub record Ends : Type 0 where
  pub from : List ℕ
  pub to : List ℕ

abbrev pub between : List ℕ → List ℕ → Ends
between from to = record { from = from; to = to }

abbrev pub to_controller : Ends
to_controller = between (codes "s") (codes "c")

abbrev pub to_server : Ends
to_server = between (codes "c") (codes "s")

-- `queue FROM TO accepted=A taken=B`
abbrev pub queue_line : Ends → ℕ → ℕ → Queue → List ℕ
queue_line ends k j queue =
    codes "queue " ++ (ends.from ++ (decimal k ++ (codes " " ++ (ends.to ++ (decimal j ++ (codes " accepted=" ++ (decimal queue.accepted ++ (codes " taken=" ++ (decimal queue.taken ++ codes "\n")))))))))

-- the queues of each sender, ascending, to each receiver, ascending
abbrev pub queue_lines : Ends → List (List Queue) → List ℕ
queue_lines ends queues = texts (λ k of. texts (queue_line ends k) of) queues

-- what each controller heard: all of the first, then all of the next
abbrev pub heard_lines : List (List Heard) → List ℕ
heard_lines heard = texts (λ k of. texts (heard_line k) of) heard

-- `mid ANSWER`
abbrev pub mid_line : ℕ → Answer → List ℕ
mid_line n answer = codes "mid " ++ (answer_bytes answer ++ codes "\n")

-- `answer ANSWER`
abbrev pub numbered_answer : ℕ → Answer → List ℕ
numbered_answer n answer = answer_line answer

-- `end P E`
abbrev pub numbered_end : ℕ → Offset → List ℕ
numbered_end n end = end_text (record { 0 = n }) end

-- the answers in the order of their queries, and then how far each partition is committed
abbrev pub output_text : List Answer → List Offset → List ℕ
output_text answers ends = texts numbered_answer answers ++ texts numbered_end ends

-- the writes of the store, what the controllers heard, the queues of the servers and of the controllers, and the first
-- answers
abbrev pub journal_text : Journal → List ℕ
journal_text journal =
    texts write_line journal.writes
    ++ (heard_lines journal.heard
    ++ (queue_lines to_controller journal.to_controllers ++ (queue_lines to_server journal.to_servers ++ texts mid_line journal.mids)))
