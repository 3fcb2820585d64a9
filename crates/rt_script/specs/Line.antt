-- What a line of a script says, behind the header.
use Rattle.std.specs.Prelude.{ℕ, List, Option, None, Some, option_map, codes, bytes_eq, if◌then◌else◌}
use Rattle.rt_events.specs.declared.event.Event.TheVariants.{Ask}
use Rattle.rt_events.specs.Fits.{Fits}
use Rattle.rt_lines.specs.Words.{then_some, parted_at}
use Rattle.rt_model.specs.Checked.{IsQuery}
use Rattle.rt_model.specs.declared.setup.Setup.{Setup}
use Rattle.rt_schema.specs.declared.schema.Schema.{Schema}
use Rattle.rt_script.specs.BrokerLines.{route_of, piece_of, answer_of}
use Rattle.rt_script.specs.Command.{command_of}
use Rattle.rt_script.specs.FurtherLines.{bare_of, force_status_of, offline_of, peer_of, rehearse_of}
use Rattle.rt_script.specs.MacroLines.{fill_of, exchange_of, settle_of}
use Rattle.rt_script.specs.MessageLines.{deliver_of, job_line_of, reply_of}
use Rattle.rt_script.specs.NodeLines.{crash_of, restart_of, see_of, repair_of, retain_of}
use Rattle.rt_script.specs.OutsideLines.{produce_of, tick_of, lead_of, fault_of, show_of}
use Rattle.rt_script.specs.QueryTexts.{FitsText, text_of}
use Rattle.rt_script.specs.ReplicaLines.{consume_of, force_of, stop_of, build_of, report_of, extend_of, transit_of, download_of}
use Rattle.rt_script.specs.declared.command.Command.{Command}
use Rattle.rt_script.specs.declared.command.Command.TheVariants as command
use Rattle.rt_script.specs.declared.further.Further.{Further}
use Rattle.rt_script.specs.declared.further.Further.TheVariants as further
use Rattle.rt_script.specs.declared.line.Line.{Line}
use Rattle.rt_script.specs.declared.line.Line.TheVariants as line
use Rattle.rt_script.specs.declared.line.Macro.{Macro}
use Rattle.rt_script.specs.declared.line.Macro.TheVariants as macro
use Rattle.rt_script.specs.declared.query_text.QueryText.{QueryText}
use Rattle.rt_script.specs.declared.query_text.QueryText.TheVariants as text

-- a line whose words have a grammar of their own
abbrev pub plain_of : Command → List ℕ → Option Line
plain_of command.Tick text = option_map line.Event (tick_of text)
plain_of command.Lead text = option_map line.Event (lead_of text)
plain_of command.Fault text = option_map line.Event (fault_of text)
plain_of command.Show text = option_map line.Event (show_of text)
plain_of command.Consume text = option_map line.Event (consume_of text)
plain_of command.Force text = option_map line.Event (force_of text)
plain_of command.Stop text = option_map line.Event (stop_of text)
plain_of command.Build text = option_map line.Event (build_of text)
plain_of command.Report text = option_map line.Event (report_of text)
plain_of command.Extend text = option_map line.Event (extend_of text)
plain_of command.Transit text = option_map line.Event (transit_of text)
plain_of command.Download text = option_map line.Event (download_of text)
plain_of command.Deliver text = option_map line.Event (deliver_of text)
plain_of command.Job text = option_map line.Event (job_line_of text)
plain_of command.Reply text = option_map line.Event (reply_of text)
plain_of command.Crash text = option_map line.Event (crash_of text)
plain_of command.Restart text = option_map line.Event (restart_of text)
plain_of command.See text = option_map line.Event (see_of text)
plain_of command.Repair text = option_map line.Event (repair_of text)
plain_of command.Retain text = option_map line.Event (retain_of text)
plain_of command.Route text = option_map line.Event (route_of text)
plain_of command.Piece text = option_map line.Event (piece_of text)
plain_of command.Answer text = option_map line.Event (answer_of text)
plain_of command.Fill text = option_map line.Macro (fill_of text)
plain_of command.Exchange text = option_map line.Macro (exchange_of text)
plain_of command.Settle text = option_map line.Macro (settle_of text)
plain_of command.ForceStatus text = option_map line.Further (force_status_of text)
plain_of command.Peer text = option_map line.Further (peer_of text)
plain_of command.Rehearse text = option_map line.Further (rehearse_of text)

-- what a text behind `ask` says: a query, or none, by the number of its refusal
abbrev pub ask_line : QueryText → Line
ask_line (text.Query query) = line.Event (Ask query)
ask_line (text.Refused number) = line.NoQuery number

-- what a text behind `query` says
abbrev pub query_line : QueryText → Line
query_line (text.Query query) = line.Macro (macro.Query query)
query_line (text.Refused number) = line.NoQuery number

-- what a text behind `latest` says, and one behind `hybrid`; a text that is no query stays with its line
abbrev pub latest_line : QueryText → Line
latest_line asked = line.Further (further.Latest asked)

abbrev pub hybrid_line : QueryText → Line
hybrid_line asked = line.Further (further.Hybrid asked)

-- a line's first word, and what follows the space behind it
abbrev pub line_by : Schema → List ℕ → List ℕ → List ℕ → Option Line
line_by schema table word text =
    if bytes_eq word (codes "produce") then option_map line.Event (produce_of text) else
    (if bytes_eq word (codes "ask") then option_map ask_line (text_of schema table text) else
    (if bytes_eq word (codes "query") then option_map query_line (text_of schema table text) else
    (if bytes_eq word (codes "latest") then option_map latest_line (text_of schema table text) else
    (if bytes_eq word (codes "hybrid") then option_map hybrid_line (text_of schema table text) else
    (if bytes_eq word (codes "offline") then option_map line.Further (offline_of text) else
    then_some (command_of word) (λ command. plain_of command text))))))

-- a line of one word, or of more
abbrev pub line_from : Schema → List ℕ → List ℕ → Option (List ℕ × List ℕ) → Option Line
line_from schema table text None = option_map line.Further (bare_of text)
line_from schema table text (Some parts) = line_by schema table parts.0 parts.1

-- what a line says in the script of a table, or none where it is outside the grammar
abbrev pub line_of : Schema → List ℕ → List ℕ → Option Line
line_of schema table text = line_from schema table text (parted_at 32 text)

abbrev pub line_in : Setup → List ℕ → Option Line
line_in setup text = line_of setup.schema setup.table.name text

abbrev pub FitsMacro : Schema → Macro → Type 0
FitsMacro schema (macro.Fill partition count) = Unit {0}
FitsMacro schema (macro.Query query) = IsQuery schema query
FitsMacro schema (macro.Exchange instance partition sequence controller) = Unit {0}
FitsMacro schema (macro.Settle rounds) = Unit {0}

abbrev pub FitsFurther : Schema → Further → Type 0
FitsFurther schema (further.Latest asked) = FitsText schema asked
FitsFurther schema (further.Offline text) = Unit {0}
FitsFurther schema (further.Hybrid asked) = FitsText schema asked
FitsFurther schema further.Pause = Unit {0}
FitsFurther schema further.Resume = Unit {0}
FitsFurther schema further.ForceCommit = Unit {0}
FitsFurther schema (further.ForceStatus job) = Unit {0}
FitsFurther schema (further.Peer instance partition sequence) = Unit {0}
FitsFurther schema (further.Rehearse servers keep) = Unit {0}
FitsFurther schema (further.Loaded instance partition sequence) = Unit {0}
FitsFurther schema further.Step = Unit {0}

-- what a line says fits the columns of the table: its query is one over them
abbrev pub FitsLine : Schema → Line → Type 0
FitsLine schema (line.Event event) = Fits schema event
FitsLine schema (line.Macro macro) = FitsMacro schema macro
FitsLine schema (line.NoQuery number) = Unit {0}
FitsLine schema (line.Further further) = FitsFurther schema further
