-- What is told of a peer's file and of a rehearsal is one.
use Rattle.std.proofs.Common.{◌≡◌, ℕ, zero, suc, Bool, true, false, ◌&&◌, if◌then◌else◌, List, [], ◌∷◌, ◌++◌, Option, Some, None, Result, Ok, Err, refl, sym, ◌∙◌, ap, subst}
use Rattle.rt_base.specs.declared.header.Header.{Header}
use Rattle.rt_base.specs.declared.numbers.Instance.{Instance}
use Rattle.rt_base.specs.declared.numbers.Partition.{Partition}
use Rattle.rt_base.specs.declared.numbers.Sequence.{Sequence}
use Rattle.rt_desk.specs.Rehearsing.{IsNamed, LoadedTold, PeerBy, PeerTold, PlanTold, RehearseTold, StepTold, found_text, planned_text, stepped_text}
use Rattle.rt_desk.proofs.OneTelling.{Agree, Equal, OneBy, counts_as_by, counts_one, refuses_by}
use Rattle.rt_dryrun.specs.Peers.{file_among, file_at, file_by, file_of_copy, first_of, has_server, is_other, meta_in, numbered, others_below, others_of, peer_of}
use Rattle.rt_dryrun.specs.Rehearsing.{Going as Plan, PlansBy, PlansIf, StepsGoing, StepsOn, after_loaded, capped, entries_now, goal_of, going_on, is_fit, loaded_of, moves_of, plan_in, planned_as, stepped_as, stepped_on}
use Rattle.rt_dryrun.specs.declared.planned.Planned.{Planned}
use Rattle.rt_dryrun.specs.declared.stepped.Stepped.{Stepped}
use Rattle.rt_events.specs.declared.refusal.Refusal.{Refusal}
use Rattle.rt_events.specs.declared.refusal.Refusal.TheVariants.{NoSuchMessage, NoSuchNode, NodeDown, NothingToDo, Limit, Memory}
use Rattle.rt_exact.specs.Acts.{AreOne, ReachedAlike}
use Rattle.rt_exact.specs.Alike.{AreAlike}
use Rattle.rt_exact.specs.Shown.{shown}
use Rattle.rt_exact.proofs.Acts.{refuses_one}
use Rattle.rt_model.specs.Metadata.{metadata_of}
use Rattle.rt_model.specs.declared.seg_meta.SegMeta.{SegMeta}
use Rattle.rt_model.specs.declared.status.Status.{Status}
use Rattle.rt_model.specs.declared.status.Status.TheVariants.{InProgress, Done, Abandoned}
use Rattle.rt_peer.specs.Files.{header_by}
use Rattle.rt_dryrun.specs.declared.peer_file.PeerFile.{PeerFile}
use Rattle.rt_report.specs.FurtherTexts.{rehearsed_text}
use Rattle.rt_rebalance.specs.Rehearsed.{step}
use Rattle.rt_state.specs.Finding.{has_partition, is_server_up}
use Rattle.rt_world.specs.Reading.{copy_in}
use Rattle.rt_state.specs.Room.{only_if}
use Rattle.rt_state.specs.declared.state.State.{State}

-- ---- a peer's file

-- what a world shows is all that a peer's file depends on
others_shown : (w : State) (i : Instance) (n : ℕ) → others_below (shown w) i n ≡ others_below w i n
others_shown w i zero = refl
others_shown w i (suc n) = ap (λ others. others ++ (if is_other w i n then numbered n ∷ [] else [])) (others_shown w i n)

among_shown : (w : State) (wanted : Header) (others : List Instance) → file_among (shown w) wanted others ≡ file_among w wanted others
among_shown w wanted [] = refl
among_shown w wanted (i ∷ later) = ap (λ found. first_of i (file_of_copy wanted (copy_in w i wanted.partition wanted.sequence)) found) (among_shown w wanted later)

abbrev found_of : Option PeerFile → Result (Option PeerFile) Refusal
found_of found = Ok found

by_shown : (status : Status) (w : State) (p : Partition) (q : Sequence) (meta : SegMeta) (others : List Instance)
    → file_by status (shown w) p q meta others ≡ file_by status w p q meta others
by_shown InProgress w p q meta others = refl
by_shown (Done commit) w p q meta others = ap found_of (among_shown w (header_by p q meta commit) others)
by_shown Abandoned w p q meta others = refl

at_shown : (o : Option SegMeta) (w : State) (i : Instance) (p : Partition) (q : Sequence) → file_at o (shown w) i p q ≡ file_at o w i p q
at_shown None w i p q = refl
at_shown (Some meta) w i p q =
    ap (λ others. file_by meta.status (shown w) p q meta others) (others_shown w i w.setup.servers) ∙ by_shown meta.status w p q meta (others_of w i)

peer_shown : (w : State) (i : Instance) (p : Partition) (q : Sequence) → peer_of (shown w) i p q ≡ peer_of w i p q
peer_shown w i p q =
    ap (λ found. only_if (has_server w i && has_partition w p) NoSuchNode (only_if (is_server_up w i) NodeDown found))
    (at_shown (meta_in (metadata_of w.store.writes p) q) w i p q)

peer_same : (i : Instance) (p : Partition) (q : Sequence) (w v : State) → AreAlike w v → peer_of w i p q ≡ peer_of v i p q
peer_same i p q w v k = sym (peer_shown w i p q) ∙ ap (λ u. peer_of u i p q) k.same ∙ peer_shown v i p q

pub peer_one : (i : Instance) (p : Partition) (q : Sequence) (w v : State) → AreAlike w v → AreOne (PeerTold i p q w) (PeerTold i p q v)
peer_one i p q w v k x y r s h g = by_found (peer_of v i p q) (subst (λ o. PeerBy i p q o w x r) (peer_same i p q w v k) h) g
  where
    by_found : (o : Result (Option PeerFile) Refusal) → PeerBy i p q o w x r → PeerBy i p q o v y s → (r ≡ s) × ReachedAlike x y
    by_found (Ok file) m n = counts_one (found_text i p q file) w v k x y r s m n
    by_found (Err refusal) m n = refuses_one refusal w v k x y r s m n

-- ---- what is loaded

-- what is told of a plan, by what was found
plan_by : {A : Type 0} (text : A → List ℕ) (plan other : Option Plan) (found given : Result A Refusal) (w v : State) → AreAlike w v → plan ≡ other → found ≡ given
    → OneBy Equal (PlanTold text plan found w) (PlanTold text other given v)
plan_by {A} text plan other found given w v k plans answers x y r s h g =
    by_found given (subst (λ o. PlanTold text plan o w x r) answers h) g
  where
    by_found : (o : Result A Refusal) → PlanTold text plan o w x r → PlanTold text other o v y s → Agree Equal r s × ReachedAlike x y
    by_found (Ok a) m n = counts_as_by Equal plan other (text a) (text a) w v k refl plans x y r s m n
    by_found (Err refusal) m n = refuses_by Equal refusal w v k x y r s m n

pub loaded_one : (i : Instance) (p : Partition) (q : Sequence) (old : Option Plan) (w v : State) → AreAlike w v
    → OneBy Equal (LoadedTold i p q old w) (LoadedTold i p q old v)
loaded_one i p q old w v k =
    plan_by rehearsed_text (after_loaded w old i p q) (after_loaded v old i p q) (loaded_of w old i p q) (loaded_of v old i p q) w v k
    (ap (λ u. after_loaded u old i p q) k.same) (ap (λ u. loaded_of u old i p q) k.same)

-- ---- a plan

-- what is there behind a call, and what it answered
pub record SamePlans {X : Type 0} (a b : Option Plan) (r s : Result X Refusal) : Type 0 where
  pub plans : a ≡ b
  pub answers : r ≡ s

abbrev plan_told : State → ℕ → ℕ → Result Planned Refusal
plan_told w servers keep = Ok (planned_as (moves_of (entries_now w) (goal_of w servers)) (plan_in w servers keep))

by_plan : (w : State) (servers keep : ℕ) (old new : Option Plan) (r : Result Planned Refusal) → IsNamed r → PlansBy w servers keep old new r
    → SamePlans new (going_on servers old (plan_in w servers keep)) r (plan_told w servers keep)
by_plan w servers keep old new (Ok planned) room h =
    let at : Planned → Result Planned Refusal = λ x. Ok x in
    record { plans = h.1; answers = ap at h.0 }
by_plan w servers keep old new (Err Memory) room h = absurd room
by_plan w servers keep old new (Err NoSuchMessage) room h = absurd h
by_plan w servers keep old new (Err NoSuchNode) room h = absurd h
by_plan w servers keep old new (Err NodeDown) room h = absurd h
by_plan w servers keep old new (Err NothingToDo) room h = absurd h
by_plan w servers keep old new (Err (Limit which)) room h = absurd h

plans_if : (b : Bool) (w v : State) (servers keep : ℕ) (old new next : Option Plan) (r s : Result Planned Refusal) → IsNamed r → IsNamed s
    → plan_in w servers keep ≡ plan_in v servers keep → plan_told w servers keep ≡ plan_told v servers keep
    → PlansIf b w servers keep old new r → PlansIf b v servers keep old next s → SamePlans new next r s
plans_if true w v servers keep old new next r s room room' plans answers h g =
    let x = by_plan w servers keep old new r room h in
    let y = by_plan v servers keep old next s room' g in
    record { plans = x.plans ∙ ap (λ states. going_on servers old states) plans ∙ sym y.plans; answers = x.answers ∙ answers ∙ sym y.answers }
plans_if false w v servers keep old new next r s room room' plans answers h g = record { plans = h.1 ∙ sym g.1; answers = h.0 ∙ sym g.0 }

pub rehearse_one : (servers keep : ℕ) (old : Option Plan) (w v : State) → AreAlike w v → OneBy Equal (RehearseTold servers keep old w) (RehearseTold servers keep old v)
rehearse_one servers keep old w v k x y r s h g =
    let fit : is_fit w servers ≡ is_fit v servers = ap (λ u. is_fit u servers) k.same in
    let made = subst (λ b. PlansIf b w servers (capped keep) old h.plan h.found) fit h.made in
    let z = plans_if (is_fit v servers) w v servers (capped keep) old h.plan g.plan h.found g.found h.named g.named (ap (λ u. plan_in u servers (capped keep)) k.same)
    (ap (λ u. plan_told u servers (capped keep)) k.same) made g.made in
    plan_by planned_text h.plan g.plan h.found g.found w v k z.plans z.answers x y r s h.tells g.tells

-- ---- a step of it

by_step : (old new : Plan) (r : Result Stepped Refusal) → IsNamed r → StepsGoing old new r
    → (new ≡ stepped_on old (step old.rehearsed)) × (r ≡ Ok (stepped_as old.steps (step old.rehearsed)))
by_step old new (Ok stepped) room h =
    let at : Stepped → Result Stepped Refusal = λ x. Ok x in
    (h.1, ap at h.0)
by_step old new (Err Memory) room h = absurd room
by_step old new (Err NoSuchMessage) room h = absurd h
by_step old new (Err NoSuchNode) room h = absurd h
by_step old new (Err NodeDown) room h = absurd h
by_step old new (Err NothingToDo) room h = absurd h
by_step old new (Err (Limit which)) room h = absurd h

abbrev some_plan : Plan → Option Plan
some_plan plan = Some plan

steps_on : (old new next : Option Plan) (r s : Result Stepped Refusal) → IsNamed r → IsNamed s → StepsOn old new r → StepsOn old next s → SamePlans new next r s
steps_on None new next r s room room' h g = record { plans = h.1 ∙ sym g.1; answers = h.0 ∙ sym g.0 }
steps_on (Some old) None next r s room room' h g = absurd h
steps_on (Some old) (Some new) None r s room room' h g = absurd g
steps_on (Some old) (Some new) (Some next) r s room room' h g =
    let x = by_step old new r room h in
    let y = by_step old next s room' g in
    record { plans = ap some_plan (x.0 ∙ sym y.0); answers = x.1 ∙ sym y.1 }

pub step_one : (old : Option Plan) (w v : State) → AreAlike w v → OneBy Equal (StepTold old w) (StepTold old v)
step_one old w v k x y r s h g =
    let z = steps_on old h.plan g.plan h.found g.found h.named g.named h.made g.made in
    plan_by stepped_text h.plan g.plan h.found g.found w v k z.plans z.answers x y r s h.tells g.tells
