-- The lines of messages and jobs.
use Rattle.std.specs.Prelude.{ℕ, List, Option, Some}
use Rattle.rt_events.specs.declared.event.Event.{Event}
use Rattle.rt_events.specs.declared.event.Event.TheVariants.{Deliver, Job, Reply}
use Rattle.rt_lines.specs.Words.{then_some, parted_at}
use Rattle.rt_script.specs.Words.{controller_of, job_of, message_of}

-- `mN cK`
abbrev pub deliver_of : List ℕ → Option Event
deliver_of text =
    then_some (parted_at 32 text) (λ parts.
    then_some (message_of parts.0) (λ message.
    then_some (controller_of parts.1) (λ controller.
    Some (Deliver message controller))))

-- `cK jN`
abbrev pub job_line_of : List ℕ → Option Event
job_line_of text =
    then_some (parted_at 32 text) (λ parts.
    then_some (controller_of parts.0) (λ controller.
    then_some (job_of parts.1) (λ job.
    Some (Job controller job))))

-- `mN`
abbrev pub reply_of : List ℕ → Option Event
reply_of text = then_some (message_of text) (λ message. Some (Reply message))
