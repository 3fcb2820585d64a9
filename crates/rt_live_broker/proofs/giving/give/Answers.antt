use Rattle.std.proofs.Common.{refl, subst}
use Rattle.std.proofs.lemmas.Option.{slice_get_read}
use Rattle.rt_ground.specs.Histories.{whats}
use Rattle.rt_lists.specs.Members.{Has}
use Rattle.rt_live_broker.specs.Asks.{Opened}
use Rattle.rt_live_broker.proofs.Feeding.{feeds_set, gave, gives_more}
use Rattle.rt_live_broker.proofs.giving.give.Goals as goal

pub returns-in_err-got-clause-more : goal.returns-in_err-got-clause-more
returns-in_err-got-clause-more g c =
    let item = c.in-Some-get_mut.ensures.item in
    let at = slice_get_read c.args.feeds.now.items _ c.args.from.0 c.in-Some-get_mut.front.now refl item.3.0 item.1 in
    gives_more c.args.feeds.now.items c.args.from.0 c.in-Some-get_mut.front.now c.give.new.front at c.give.ensures.grows

pub returns-clause-feeds : goal.returns-clause-feeds
returns-clause-feeds g c =
    let item = c.in-Some-get_mut.ensures.item in
    let at = slice_get_read c.args.feeds.now.items _ c.args.from.0 c.in-Some-get_mut.front.now refl item.3.0 item.1 in
    feeds_set g.K.Cluster.names c.args.feeds.now.items c.args.from.0 c.in-Some-get_mut.front.now c.give.new.front c.requires.feeds at c.give.ensures.name

pub returns-clause-more : goal.returns-clause-more
returns-clause-more g c =
    let item = c.in-Some-get_mut.ensures.item in
    let at = slice_get_read c.args.feeds.now.items _ c.args.from.0 c.in-Some-get_mut.front.now refl item.3.0 item.1 in
    gives_more c.args.feeds.now.items c.args.from.0 c.in-Some-get_mut.front.now c.give.new.front at c.give.ensures.grows

pub returns-clause-given : goal.returns-clause-given
returns-clause-given g c =
    let item = c.in-Some-get_mut.ensures.item in
    let at = slice_get_read c.args.feeds.now.items _ c.args.from.0 c.in-Some-get_mut.front.now refl item.3.0 item.1 in
    let given = subst (λ (o : Opened). Has (whats c.give.new.front.seen) (record { query = o.query; asking = o.asking; piece = c.args.piece; got = c.in_ok-got.got })) c.begun.view_is c.in_ok-got.ensures.given in
    gave c.args.feeds.now.items c.args.from.0 c.in-Some-get_mut.front.now c.give.new.front _ at given
