use Rattle.std.proofs.Common.{◌∙◌, ◌≡◌, ap, length, arith}
use Rattle.rt_ground.proofs.Callers.{all_left, some_left, took, took_name, callers_more, all_made}
use Rattle.rt_ground.proofs.ground.Ground.callers.Goals as goal

pub loop-number-init : goal.loop-number-init
loop-number-init g c =
    record {
      stores = all_left g.J.Naming.names.store c.args.count _ (c.into_iter-stores.ensures.rest ∙ c.requires.stores);
      deeps = all_left g.J.Naming.names.deep c.args.count _ (c.into_iter-deeps.ensures.rest ∙ c.requires.deeps);
      streams = all_left g.J.Naming.names.stream c.args.count _ (c.into_iter-streams.ensures.rest ∙ c.requires.streams);
      stores_left = omega (arith, c.into_iter-stores.ensures.len, ap length c.into_iter-stores.ensures.rest, c.args.stores.ok.0);
      deeps_left = omega (arith, c.into_iter-deeps.ensures.len, ap length c.into_iter-deeps.ensures.rest, c.args.deeps.ok.0);
      streams_left = omega (arith, c.into_iter-streams.ensures.len, ap length c.into_iter-streams.ensures.rest, c.args.streams.ok.0);
      callers = c.in_ok-callers.ensures.items;
      made = c.in_ok-callers.ensures.len;
      room = c.in_ok-callers.ensures.capacity;
    }

pub next_of-store-requires-clause-some : goal.next_of-store-requires-clause-some
next_of-store-requires-clause-some g c =
    some_left g.J.Naming.names.store c.loop-number._number c.args.count _ c.loop-number-test.true c.loop-number.invariant.stores

pub next_of-deep-requires-clause-some : goal.next_of-deep-requires-clause-some
next_of-deep-requires-clause-some g c =
    some_left g.J.Naming.names.deep c.loop-number._number c.args.count _ c.loop-number-test.true c.loop-number.invariant.deeps

pub next_of-stream-requires-clause-some : goal.next_of-stream-requires-clause-some
next_of-stream-requires-clause-some g c =
    some_left g.J.Naming.names.stream c.loop-number._number c.args.count _ c.loop-number-test.true c.loop-number.invariant.streams

pub caller-requires : goal.caller-requires
caller-requires g c =
    let at = c.loop-number in
    let lt = c.loop-number-test.true in (
      took_name _ _ _ _ _ (took g.J.Naming.names.store at._number c.args.count _ _ _ lt at.invariant.stores c.next_of-store.ensures.items),
      took_name _ _ _ _ _ (took g.J.Naming.names.deep at._number c.args.count _ _ _ lt at.invariant.deeps c.next_of-deep.ensures.items),
      took_name _ _ _ _ _ (took g.J.Naming.names.stream at._number c.args.count _ _ _ lt at.invariant.streams c.next_of-stream.ensures.items),
    )

pub loop-number-preserved : goal.loop-number-preserved
loop-number-preserved g c =
    let at = c.loop-number in
    let lt = c.loop-number-test.true in
    let store = took g.J.Naming.names.store at._number c.args.count _ _ _ lt at.invariant.stores c.next_of-store.ensures.items in
    let deep = took g.J.Naming.names.deep at._number c.args.count _ _ _ lt at.invariant.deeps c.next_of-deep.ensures.items in
    let stream = took g.J.Naming.names.stream at._number c.args.count _ _ _ lt at.invariant.streams c.next_of-stream.ensures.items in
    let pushed = c.push_reserved.ensures in
    record {
      stores = store.left;
      deeps = deep.left;
      streams = stream.left;
      stores_left = c.next_of-store.ensures.left;
      deeps_left = c.next_of-deep.ensures.left;
      streams_left = c.next_of-stream.ensures.left;
      callers = callers_more g.J.Naming.names at._number _ _ _ _ _ _ store.front deep.front stream.front c.in_ok-caller.ensures pushed.items at.invariant.callers;
      made = omega (arith, pushed.len, at.invariant.made);
      room = omega (arith, pushed.capacity, at.invariant.room);
    }

pub returns : goal.returns
returns g c =
    let all : c.loop-number._number ≡ c.args.count = omega (arith, c.loop-number-test.false, c.loop-number.auto._number-end) in
    all_made g.J.Naming.names _ _ _ all c.loop-number.invariant.callers
