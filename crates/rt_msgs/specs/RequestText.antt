-- The texts of requests.
use Rattle.std.specs.Prelude.{ℕ, List, ◌++◌, codes}
use Rattle.std.specs.Fmt.{decimal}
use Rattle.rt_base.specs.declared.numbers.Offset.{Offset}
use Rattle.rt_model.specs.declared.request.Reason.{Reason}
use Rattle.rt_model.specs.declared.request.Reason.TheVariants.{RowLimit, TimeLimit, Force}
use Rattle.rt_model.specs.declared.request.RequestKind.{RequestKind}
use Rattle.rt_model.specs.declared.request.RequestKind.TheVariants.{Consumed, Stopped, CommitStart, Upload, CommitEnd, Extend}
use Rattle.rt_model.specs.declared.request.Request.{Request}

abbrev pub reason_text : Reason → List ℕ
reason_text RowLimit = codes "rowLimit"
reason_text TimeLimit = codes "timeLimit"
reason_text Force = codes "force"

-- what is asked, and the offset; then what else the request carries
abbrev pub kind_text : Offset → RequestKind → List ℕ
kind_text x (Consumed reason) = codes "consumed " ++ decimal x.0 ++ codes " " ++ reason_text reason
kind_text x Stopped = codes "stopped " ++ decimal x.0
kind_text x CommitStart = codes "commitStart " ++ decimal x.0
kind_text x (Upload path bytes) = codes "upload " ++ decimal x.0 ++ codes " " ++ path
kind_text x (CommitEnd path) = codes "commitEnd " ++ decimal x.0 ++ codes " " ++ path
kind_text x (Extend millis) = codes "extend " ++ decimal x.0 ++ codes " " ++ decimal millis

abbrev pub request_text : Request → List ℕ
request_text r = kind_text r.offset r.kind
