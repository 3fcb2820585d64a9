use Rattle.std.proofs.Common.{◌≡◌, ◌∙◌, ◌<◌, ℕ, List, length, slice_get, Ok, Err, Some, ap, subst, sym, arith}
use Rattle.rt_segment.specs.Segment.{SealedSegment}
use Rattle.rt_hybrid.specs.Pushes.{IsOffline, Pushes}
use Rattle.rt_hybrid.specs.Table.{OfflineTable}
use Rattle.rt_hybrid.proofs.Pushed.{asks_few, asks_rows, asks_schema, asks_short, now_offline, now_pushes, refused_pushes}
use Rattle.rt_hybrid.proofs.hybrid.Hybrid.push.Goals as goal

pub count-count-requires : goal.count-count-requires
count-count-requires c = (asks_few (record { schema = c.self.inside.schema; time = c.self.inside.time; files = c.self.inside.files }) c.time_column-time.result.now c.self.inside.greatest c.args.text.now c.in-Ok.batch c.self.invariant c.in-Ok.ensures.reads).1

pub seal-requires-clause-schema : goal.seal-requires-clause-schema
seal-requires-clause-schema c = asks_schema (record { schema = c.self.inside.schema; time = c.self.inside.time; files = c.self.inside.files }) c.time_column-time.result.now c.self.inside.greatest c.args.text.now c.in-Ok.batch c.self.invariant c.in-Ok.ensures.reads

pub seal-requires-clause-some : goal.seal-requires-clause-some
seal-requires-clause-some c = (asks_few (record { schema = c.self.inside.schema; time = c.self.inside.time; files = c.self.inside.files }) c.time_column-time.result.now c.self.inside.greatest c.args.text.now c.in-Ok.batch c.self.invariant c.in-Ok.ensures.reads).0

pub seal-requires-clause-few : goal.seal-requires-clause-few
seal-requires-clause-few c = (asks_few (record { schema = c.self.inside.schema; time = c.self.inside.time; files = c.self.inside.files }) c.time_column-time.result.now c.self.inside.greatest c.args.text.now c.in-Ok.batch c.self.invariant c.in-Ok.ensures.reads).1

pub seal-requires-clause-fit : goal.seal-requires-clause-fit
seal-requires-clause-fit c = asks_rows (record { schema = c.self.inside.schema; time = c.self.inside.time; files = c.self.inside.files }) c.time_column-time.result.now c.self.inside.greatest c.args.text.now c.in-Ok.batch c.self.invariant c.in-Ok.ensures.reads

pub seal-requires-clause-short : goal.seal-requires-clause-short
seal-requires-clause-short c = asks_short (record { schema = c.self.inside.schema; time = c.self.inside.time; files = c.self.inside.files }) c.time_column-time.result.now c.self.inside.greatest c.args.text.now c.in-Ok.batch c.self.invariant c.in-Ok.ensures.reads

pub invariant_of-self-in-Ok : goal.invariant_of-self-in-Ok
invariant_of-self-in-Ok c =
    let few : length c.self.inside.files < 4294967295 = omega (arith, c.requires, ap (λ (t : OfflineTable). length t.files) c.self.view_is) in
    let at : slice_get c.self.inside.schema.columns c.self.inside.time ≡ Some c.time_column-time.result.now =
    subst (λ (t : OfflineTable). slice_get t.schema.columns t.time ≡ Some c.time_column-time.result.now) (sym c.self.view_is) c.time_column-time.ensures in
    subst (λ (fs : List SealedSegment). IsOffline (record { schema = c.self.inside.schema; time = c.self.inside.time; files = fs }) c.in-Ok.batch.greatest) (sym c.in_ok-push-in-Ok.ensures.ok)
    (now_offline (record { schema = c.self.inside.schema; time = c.self.inside.time; files = c.self.inside.files }) c.time_column-time.result.now c.self.inside.greatest c.args.text.now c.in-Ok.batch c.self.invariant c.in-Ok.ensures.reads
    c.pushes-sequence.result c.in_ok-file-in-Ok.file (c.in_ok-file-in-Ok.ensures {u = tt}) few at)

pub returns-in_ok-push-in-Ok : goal.returns-in_ok-push-in-Ok
returns-in_ok-push-in-Ok c =
    let number : c.pushes-sequence.result ≡ length c.self.inside.files = c.pushes-sequence.ensures ∙ sym (ap (λ (t : OfflineTable). length t.files) c.self.view_is) in
    let inside : OfflineTable = record { schema = c.self.inside.schema; time = c.self.inside.time; files = c.self.inside.files } in
    subst (λ (t : OfflineTable). Pushes c.args.text.now t (record { schema = c.self.inside.schema; time = c.self.inside.time; files = c.push.new.self }) (Ok c.count-count.result)) c.self.view_is
    (subst (λ (n : ℕ). Pushes c.args.text.now inside (record { schema = c.self.inside.schema; time = c.self.inside.time; files = c.push.new.self }) (Ok n)) (sym c.count-count.ensures)
    (subst (λ (fs : List SealedSegment). Pushes c.args.text.now inside (record { schema = c.self.inside.schema; time = c.self.inside.time; files = fs }) (Ok (length c.in-Ok.batch.rows))) (sym c.in_ok-push-in-Ok.ensures.ok)
    (now_pushes (record { schema = c.self.inside.schema; time = c.self.inside.time; files = c.self.inside.files }) c.time_column-time.result.now c.self.inside.greatest c.args.text.now c.in-Ok.batch c.self.invariant c.in-Ok.ensures.reads
    c.pushes-sequence.result c.in_ok-file-in-Ok.file (c.in_ok-file-in-Ok.ensures {u = tt}) number)))

pub returns-in-Err : goal.returns-in-Err
returns-in-Err c =
    subst (λ (t : OfflineTable). Pushes c.args.text.now t t (Err c.in-Err.refused)) c.self.view_is
    (refused_pushes (record { schema = c.self.inside.schema; time = c.self.inside.time; files = c.self.inside.files }) c.time_column-time.result.now c.self.inside.greatest c.args.text.now c.in-Err.refused c.in-Err.ensures.reads)
