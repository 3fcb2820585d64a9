-- Lines whose words have a grammar of their own ask for no query, so that they fit any table.
use Rattle.std.proofs.Common.{◌≡◌, ℕ, List, Bool, true, false, Option, Some, None, sym, subst}
use Rattle.std.specs.Prelude.{IfSome, option_map, codes, bytes_eq, cond}
use Rattle.std.specs.Str.{is_utf8}
use Rattle.rt_base.specs.declared.gate.NodeId.{NodeId}
use Rattle.rt_base.specs.declared.gate.NodeId.TheVariants.{Server, Controller, Repairer, Broker, Producer}
use Rattle.rt_events.specs.declared.event.Event.{Event}
use Rattle.rt_events.specs.declared.event.Event.TheVariants.{FaultStore, FaultDeep, ShowIdeal}
use Rattle.rt_events.specs.Fits.{Fits}
use Rattle.rt_lines.specs.Words.{field_of, then_some, parted_at, number_of}
use Rattle.rt_schema.specs.declared.schema.Schema.{Schema}
use Rattle.rt_script.specs.FurtherLines.{bare_of, offline_of, plan_by}
use Rattle.rt_script.specs.Line.{FitsFurther, FitsLine, FitsMacro, plain_of}
use Rattle.rt_script.specs.NodeLines.{crash_at, restart_at, led_partition_of}
use Rattle.rt_script.specs.OutsideLines.{fault_by, kept_of, meta_of, on_of}
use Rattle.rt_script.specs.ReplicaLines.{numbered_replica_of}
use Rattle.rt_script.specs.Words.{controller_of, force_job_of, instance_of, job_of, message_of, node_of, partition_of, query_of, replica_of, segment_of}
use Rattle.rt_script.specs.declared.command.Command.{Command}
use Rattle.rt_script.specs.declared.command.Command.TheVariants as command
use Rattle.rt_script.specs.declared.further.Further.{Further}
use Rattle.rt_script.specs.declared.further.Further.TheVariants.{Offline, Pause, Resume, ForceCommit, Step}
use Rattle.rt_script.specs.declared.line.Line.{Line}
use Rattle.rt_script.specs.declared.line.Line.TheVariants as line
use Rattle.rt_script.specs.declared.line.Macro.{Macro}

pub all_some : {A B : Type 0} (P : B → Type 0) (o : Option A) (f : A → Option B) → ((x : A) → IfSome (f x) P) → IfSome (then_some o f) P
all_some P (Some x) f each = each x
all_some P None f each = tt

pub events_fit : (schema : Schema) (o : Option Event) → IfSome o (Fits schema) → IfSome (option_map line.Event o) (FitsLine schema)
events_fit schema (Some event) fits = fits
events_fit schema None fits = tt

macros_fit : (schema : Schema) (o : Option Macro) → IfSome o (FitsMacro schema) → IfSome (option_map line.Macro o) (FitsLine schema)
macros_fit schema (Some macro) fits = fits
macros_fit schema None fits = tt

pub furthers_fit : (schema : Schema) (o : Option Further) → IfSome o (FitsFurther schema) → IfSome (option_map line.Further o) (FitsLine schema)
furthers_fit schema (Some further) fits = fits
furthers_fit schema None fits = tt

pub either_fits : {A : Type 0} (P : A → Type 0) (b : Bool) (x y : Option A) → IfSome x P → IfSome y P → IfSome (cond b x y) P
either_fits P true x y a b = a
either_fits P false x y a b = b

fault_fits : (schema : Schema) (word : List ℕ) (kept : Bool) → IfSome (fault_by word kept) (Fits schema)
fault_fits schema word kept =
    either_fits (Fits schema) (bytes_eq word (codes "store")) (Some (FaultStore kept)) _ tt
    (either_fits (Fits schema) (bytes_eq word (codes "deep")) (Some (FaultDeep kept)) None tt tt)

meta_fits : (schema : Schema) (word : List ℕ) → IfSome (meta_of word) (Fits schema)
meta_fits schema word = all_some (Fits schema) (segment_of word) _ (λ segment. tt)

crash_fits : (schema : Schema) (node : NodeId) → IfSome (crash_at node) (Fits schema)
crash_fits schema (Server instance) = tt
crash_fits schema (Controller controller) = tt
crash_fits schema Repairer = tt
crash_fits schema Broker = tt
crash_fits schema Producer = tt

restart_fits : (schema : Schema) (node : NodeId) → IfSome (restart_at node) (Fits schema)
restart_fits schema (Server instance) = tt
restart_fits schema (Controller controller) = tt
restart_fits schema Repairer = tt
restart_fits schema Broker = tt
restart_fits schema Producer = tt

pub bare_fits : (schema : Schema) (text : List ℕ) → IfSome (bare_of text) (FitsFurther schema)
bare_fits schema text =
    either_fits (FitsFurther schema) (bytes_eq text (codes "pause")) (Some Pause) _ tt
    (either_fits (FitsFurther schema) (bytes_eq text (codes "resume")) (Some Resume) _ tt
    (either_fits (FitsFurther schema) (bytes_eq text (codes "forceCommit")) (Some ForceCommit) None tt tt))

pub offline_fits : (schema : Schema) (text : List ℕ) → IfSome (offline_of text) (FitsFurther schema)
offline_fits schema text = either_fits (FitsFurther schema) (is_utf8 text) (Some (Offline text)) None tt tt

plan_fits : (schema : Schema) (first second : List ℕ) → IfSome (plan_by first second) (FitsFurther schema)
plan_fits schema first second =
    all_some (FitsFurther schema) (field_of (codes "servers=") first) _ (λ servers. all_some (FitsFurther schema) (field_of (codes "keep=") second) _ (λ keep. tt))

pub plain_fits : (schema : Schema) (command : Command) (text : List ℕ) → IfSome (plain_of command text) (FitsLine schema)
plain_fits schema command.Tick text = events_fit schema _ (all_some (Fits schema) (number_of text) _ (λ n. tt))
plain_fits schema command.Lead text =
    events_fit schema _ (all_some (Fits schema) (parted_at 32 text) _ (λ parts. all_some (Fits schema) (controller_of parts.0) _ (λ c. all_some (Fits schema) (on_of parts.1) _ (λ on. tt))))
plain_fits schema command.Fault text =
    events_fit schema _ (all_some (Fits schema) (parted_at 32 text) _ (λ parts. all_some (Fits schema) (kept_of parts.1) _ (fault_fits schema parts.0)))
plain_fits schema command.Show text =
    events_fit schema _ (either_fits (Fits schema) (bytes_eq text (codes "ideal")) (Some ShowIdeal) _ tt
    (all_some (Fits schema) (parted_at 32 text) _ (λ parts. either_fits (Fits schema) (bytes_eq parts.0 (codes "meta")) _ None (meta_fits schema parts.1) tt)))
plain_fits schema command.Consume text = events_fit schema _ (all_some (Fits schema) (numbered_replica_of text) _ (λ at. tt))
plain_fits schema command.Force text = events_fit schema _ (all_some (Fits schema) (replica_of text) _ (λ at. tt))
plain_fits schema command.Stop text = events_fit schema _ (all_some (Fits schema) (replica_of text) _ (λ at. tt))
plain_fits schema command.Build text = events_fit schema _ (all_some (Fits schema) (replica_of text) _ (λ at. tt))
plain_fits schema command.Report text = events_fit schema _ (all_some (Fits schema) (replica_of text) _ (λ at. tt))
plain_fits schema command.Extend text = events_fit schema _ (all_some (Fits schema) (numbered_replica_of text) _ (λ at. tt))
plain_fits schema command.Transit text = events_fit schema _ (all_some (Fits schema) (replica_of text) _ (λ at. tt))
plain_fits schema command.Download text = events_fit schema _ (all_some (Fits schema) (replica_of text) _ (λ at. tt))
plain_fits schema command.Deliver text =
    events_fit schema _ (all_some (Fits schema) (parted_at 32 text) _ (λ parts. all_some (Fits schema) (message_of parts.0) _ (λ m. all_some (Fits schema) (controller_of parts.1) _ (λ c. tt))))
plain_fits schema command.Job text =
    events_fit schema _ (all_some (Fits schema) (parted_at 32 text) _ (λ parts. all_some (Fits schema) (controller_of parts.0) _ (λ c. all_some (Fits schema) (job_of parts.1) _ (λ j. tt))))
plain_fits schema command.Reply text = events_fit schema _ (all_some (Fits schema) (message_of text) _ (λ m. tt))
plain_fits schema command.Crash text = events_fit schema _ (all_some (Fits schema) (node_of text) crash_at (crash_fits schema))
plain_fits schema command.Restart text = events_fit schema _ (all_some (Fits schema) (node_of text) restart_at (restart_fits schema))
plain_fits schema command.See text = events_fit schema _ (all_some (Fits schema) (instance_of text) _ (λ i. tt))
plain_fits schema command.Repair text = events_fit schema _ (all_some (Fits schema) (led_partition_of text) _ (λ at. tt))
plain_fits schema command.Retain text = events_fit schema _ (all_some (Fits schema) (led_partition_of text) _ (λ at. tt))
plain_fits schema command.Route text =
    events_fit schema _ (all_some (Fits schema) (parted_at 32 text) _ (λ parts. all_some (Fits schema) (query_of parts.0) _ (λ q. all_some (Fits schema) (partition_of parts.1) _ (λ p. tt))))
plain_fits schema command.Piece text =
    events_fit schema _ (all_some (Fits schema) (parted_at 32 text) _ (λ a. all_some (Fits schema) (query_of a.0) _ (λ q.
    all_some (Fits schema) (parted_at 32 a.1) _ (λ b. all_some (Fits schema) (segment_of b.0) _ (λ s. all_some (Fits schema) (instance_of b.1) _ (λ i. tt))))))
plain_fits schema command.Answer text = events_fit schema _ (all_some (Fits schema) (query_of text) _ (λ q. tt))
plain_fits schema command.Fill text =
    macros_fit schema _ (all_some (FitsMacro schema) (parted_at 32 text) _ (λ parts. all_some (FitsMacro schema) (partition_of parts.0) _ (λ p. all_some (FitsMacro schema) (number_of parts.1) _ (λ n. tt))))
plain_fits schema command.Exchange text =
    macros_fit schema _ (all_some (FitsMacro schema) (parted_at 32 text) _ (λ a. all_some (FitsMacro schema) (instance_of a.0) _ (λ i.
    all_some (FitsMacro schema) (parted_at 32 a.1) _ (λ b. all_some (FitsMacro schema) (segment_of b.0) _ (λ s. all_some (FitsMacro schema) (controller_of b.1) _ (λ c. tt))))))
plain_fits schema command.Settle text = macros_fit schema _ (all_some (FitsMacro schema) (number_of text) _ (λ n. tt))
plain_fits schema command.ForceStatus text = furthers_fit schema _ (all_some (FitsFurther schema) (force_job_of text) _ (λ job. tt))
plain_fits schema command.Peer text = furthers_fit schema _ (all_some (FitsFurther schema) (replica_of text) _ (λ at. tt))
plain_fits schema command.Rehearse text =
    furthers_fit schema _ (either_fits (FitsFurther schema) (bytes_eq text (codes "step")) (Some Step) _ tt
    (all_some (FitsFurther schema) (parted_at 32 text) _ (λ parts. either_fits (FitsFurther schema) (bytes_eq parts.0 (codes "loaded")) _ _
    (all_some (FitsFurther schema) (replica_of parts.1) _ (λ at. tt)) (plan_fits schema parts.0 parts.1))))

pub fits_by : (schema : Schema) (command : Command) (text : List ℕ) (said : Option Line) → said ≡ plain_of command text → IfSome said (FitsLine schema)
fits_by schema command text said e = subst (λ o. IfSome o (FitsLine schema)) (sym e) (plain_fits schema command text)
