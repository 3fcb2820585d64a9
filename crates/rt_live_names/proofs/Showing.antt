-- What was shown is still shown when more is.
use Rattle.std.proofs.Common.{ℕ, List, ap, sym, ◌∙◌}
use Rattle.std.specs.Prelude.{Option, Some}
use Rattle.rt_deep.specs.Meaning as deep
use Rattle.rt_deep.specs.declared.deep_put.DeepPut.{DeepPut}
use Rattle.rt_live_names.specs.Showed.{DeepShowed, DeepShown, DeepShowsMore, Showed, Shown, ShowsMore, StreamShowed, StreamShown, StreamShowsMore}
use Rattle.rt_model.specs.Starting.{Starting}
use Rattle.rt_model.specs.declared.node.Seen.{Seen}
use Rattle.rt_store.specs.Meaning.{Meaning, Own}
use Rattle.rt_stream.specs.Feed.{FeedMeaning, FeedOwn}
use Rattle.rt_stream.proofs.Growth.{log_then}
use Rattle.rt_lists.proofs.Members.{front_then}

abbrev own_with : List Seen → List ℕ → Option Own
own_with writes numbers = Some (record { numbers = numbers; writes = writes })

pub showed_grows : (s : Starting) (old new : Shown) (told wrote : ℕ) (m : Meaning) → ShowsMore old new → Showed s old told wrote m → Showed s new told wrote m
showed_grows s old new told wrote m more k = record {
  whole = front_then m.seen old.seen new.seen k.whole more.seen;
  told_is = k.told_is;
  writes = k.writes;
  own = k.own ∙ ap (own_with k.writes) (sym more.numbers);
  mine = front_then k.writes old.own.writes new.own.writes k.mine more.writes;
  count = k.count;
  free = k.free;
}

abbrev deep_own_with : List DeepPut → List ℕ → Option deep.Own
deep_own_with files numbers = Some (record { numbers = numbers; files = files })

pub deep_showed_grows : (old new : DeepShown) (told put : ℕ) (m : deep.Meaning) → DeepShowsMore old new → DeepShowed old told put m → DeepShowed new told put m
deep_showed_grows old new told put m more k = record {
  whole = front_then m.seen old.seen new.seen k.whole more.seen;
  told_is = k.told_is;
  files = k.files;
  own = k.own ∙ ap (deep_own_with k.files) (sym more.numbers);
  mine = front_then k.files old.own.files new.own.files k.mine more.files;
  count = k.count;
  free = k.free;
}

pub stream_showed_grows : (partitions : ℕ) (old new : StreamShown) (told : ℕ) (m : FeedMeaning) → StreamShowsMore old new → StreamShowed partitions old told m → StreamShowed partitions new told m
stream_showed_grows partitions old new told m more k = record {
  whole = log_then m.seen old.seen new.seen k.whole more.seen;
  entries = k.entries;
  seen_is = k.seen_is;
  told_is = k.told_is;
  own = k.own ∙ ap (λ (o : FeedOwn). Some o) (sym more.own);
  free = k.free;
}
