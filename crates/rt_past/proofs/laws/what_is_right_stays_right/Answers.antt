use Rattle.rt_past.proofs.Growth.{request_within, reply_within, right_write_within, right_file_within, stored_within, named_grows}
use Rattle.rt_past.proofs.laws.what_is_right_stays_right.Goals as goal

pub returns : goal.returns
returns c =
    record {
      requests = request_within;
      replies = reply_within;
      writes = right_write_within;
      files = right_file_within;
      stored = stored_within;
      named = λ a b p s start commit w. named_grows a.files b.files p s start commit w.files;
    }
