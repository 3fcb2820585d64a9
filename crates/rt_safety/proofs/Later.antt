-- What is true of all worlds of a run, and of a later world with respect to an earlier one.
use Rattle.std.proofs.Common.{◌≡◌, ◌<◌, ◌⊎◌, inl, inr, List, ◌++◌, sym, subst}
use Rattle.rt_base.specs.declared.numbers.Partition.{Partition}
use Rattle.rt_base.specs.declared.numbers.Sequence.{Sequence}
use Rattle.rt_controller.specs.Right.{IsPossibleStatus}
use Rattle.rt_lists.specs.Members.{Has}
use Rattle.rt_model.specs.Lawful.{IsLawfulHistory}
use Rattle.rt_model.specs.Setup.{IsSetup}
use Rattle.rt_model.specs.declared.node.Seen.{Seen}
use Rattle.rt_model.specs.declared.reply.Reply.{Reply}
use Rattle.rt_model.specs.declared.seg_meta.SeenMeta.{SeenMeta}
use Rattle.rt_model.specs.declared.sent.Sent.TheVariants as sent
use Rattle.rt_model.specs.declared.setup.Setup.{Setup}
use Rattle.rt_past.specs.Segments.{WasDone}
use Rattle.rt_past.proofs.Growth.{done_grows}
use Rattle.rt_store.specs.Contents.{starting_of}
use Rattle.rt_safety.specs.GoesOn.{GoesOn}
use Rattle.rt_state.specs.IsSafeWorld.{IsSafeWorld}
use Rattle.rt_safety.specs.Later.{KeepsCommitted}
use Rattle.rt_safety.specs.Runs.{Turn, Leads, Runs}
use Rattle.rt_state.specs.Start.{start}
use Rattle.rt_state.specs.declared.state.State.{State}
use Rattle.rt_safety.proofs.Committed.{keeps_committed}
use Rattle.rt_safety.proofs.Runs.{leads_safe, leads_add}
use Rattle.rt_world.proofs.StartSafe.{start_safe}

-- ---- all worlds

pub runs_are_safe : (setup : Setup) (turns : List Turn) (w : State) → IsSetup setup → Runs setup turns w → IsSafeWorld w
runs_are_safe setup turns w is run = leads_safe (start setup) turns w (start_safe setup is) run

-- ---- a later one

pub leads_on : (from : State) (turns : List Turn) (to : State) → IsSafeWorld from → Leads from turns to → GoesOn from to
leads_on from turns to s run = (leads_add from turns to s run).goes

pub done_stays : (from : State) (turns : List Turn) (to : State) (p : Partition) (q : Sequence) (done : SeenMeta) → IsSafeWorld from → Leads from turns to
    → WasDone from.store.writes p q done → WasDone to.store.writes p q done
done_stays from turns to p q done s run was = done_grows from.store.writes to.store.writes p q done (leads_on from turns to s run).past.history was

pub committed_stays : (from : State) (turns : List Turn) (to : State) (p : Partition) → IsSafeWorld from → p.0 < from.setup.partitions → Leads from turns to
    → KeepsCommitted from.store.writes to.store.writes p
committed_stays from turns to p s within run =
    let goes = leads_on from turns to s run in
    let more = goes.past.history.0 in
    let is : to.store.writes ≡ from.store.writes ++ more = goes.past.history.1 in
    let lawful = (leads_safe from turns to s run).safe.past.lawful in
    let same : IsLawfulHistory (starting_of from.setup) to.store.writes = subst (λ (x : Setup). IsLawfulHistory (starting_of x) to.store.writes) goes.setup lawful in
    subst (λ (h : List Seen). KeepsCommitted from.store.writes h p) (sym is)
    (keeps_committed (starting_of from.setup) from.store.writes more p within s.safe.past.lawful
    (subst (λ (h : List Seen). IsLawfulHistory (starting_of from.setup) h) is same))

-- ---- replies

pub replies_are_possible : (setup : Setup) (turns : List Turn) (w : State) (r : Reply) → IsSetup setup → Runs setup turns w → Has w.sent (sent.Reply r)
    → IsPossibleStatus r.status
replies_are_possible setup turns w r is run has = by_place ((leads_add (start setup) turns w (start_safe setup is) run).replies r has)
  where
    by_place : Has (start setup).sent (sent.Reply r) ⊎ IsPossibleStatus r.status → IsPossibleStatus r.status
    by_place (inl none) = absurd none
    by_place (inr possible) = possible
