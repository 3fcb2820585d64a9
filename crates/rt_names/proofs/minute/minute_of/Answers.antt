use Rattle.std.proofs.Common.{arith}
use Rattle.std.proofs.lemmas.Int.{ints}
use Rattle.jiff_core.proofs.DateLemmas.{civil}
use Rattle.rt_names.proofs.Dates.{date_of_day_is}
use Rattle.rt_names.specs.Minute.{IsMinuteOf}
use Rattle.rt_names.proofs.Minutes.{minute_is}
use Rattle.rt_names.proofs.Text.{minute_text_is}
use Rattle.rt_names.proofs.minute.minute_of.Goals as goal

pub overflow_cast-year : goal.overflow_cast-year
overflow_cast-year c =
    let date = date_of_day_is _ _ _ _ (civil c.date_of_day-date.result) c.date_of_day-date.ensures in
    let year = date.year_is in
    let last = date.exists.last_year in
    let is = c.year-year.ensures in
    omega (arith, ints)

pub returns : goal.returns
returns c =
    let date = date_of_day_is _ _ _ _ (civil c.date_of_day-date.result) c.date_of_day-date.ensures in
    let year_is = date.year_is in
    let last = date.exists.last_year in
    let year = c.year-year.ensures in
    let calendar : IsMinuteOf c.args.millis c.form.result = minute_is c.args.millis c.form.result c.date_of_day-date.result.year c.date_of_day-date.result.month c.date_of_day-date.result.day _ _ _ date (omega (arith, ints)) (omega (arith, ints)) (omega (arith, ints)) c.form.ensures in
    record {
      calendar = calendar;
      text = minute_text_is c.args.millis c.form.result calendar;
      exists = record { millis = c.args.millis; in_range = c.requires; of_moment = calendar };
    }
