use Rattle.rt_upsert.proofs.Adding.{put_back}
use Rattle.rt_upsert.proofs.ranked_rows.RankedRows.put.Goals as goal

pub returns-clause-err : goal.returns-clause-err
returns-clause-err c =
    record {
      rows = c.in-Err.ensures.err;
      ranks = put_back c.args.self.now.ranks c.insert.new.self c.take_back.new.ranks c.args.rank c.in_ok-is_new.is_new c.in_ok-is_new.ensures.added c.in_ok-is_new.ensures.updates.0 c.take_back.ensures;
    }
