-- What an `exchange` line tells of a commit is of its own segment.
use Rattle.std.proofs.Common.{◌≡◌, ◌∷◌, ◌++◌, [], ℕ, zero, suc, false, true, List, length, Option, Some, None, Ok, Err, refl, sym, ◌∙◌, ap, subst, arith}
use Rattle.std.proofs.lemmas.Option.{none-some, same_Some}
use Rattle.rt_base.specs.declared.numbers.ControllerId.{ControllerId}
use Rattle.rt_base.specs.declared.numbers.Instance.{Instance}
use Rattle.rt_base.specs.declared.numbers.Partition.{Partition}
use Rattle.rt_base.specs.declared.numbers.Sequence.{Sequence}
use Rattle.rt_desk.proofs.Reaching.{leads_by, pausing}
use Rattle.rt_desk.proofs.ReachingMacros.{exchange_goes}
use Rattle.rt_desk.specs.Paused.{Allowed}
use Rattle.rt_events.specs.Fits.{Fits}
use Rattle.rt_events.specs.declared.event.Event.{Event}
use Rattle.rt_events.specs.declared.event.Event.TheVariants as event
use Rattle.rt_events.specs.declared.outcome.Outcome.{Outcome}
use Rattle.rt_events.specs.declared.outcome.Outcome.TheVariants as came
use Rattle.rt_macros.specs.Doing.{Gives, Happens, Reached}
use Rattle.rt_macros.specs.Exchanging.{AfterDelivery, AfterReply, AfterReport, AfterStep, EndsJob, ExchangeTold, Exchanges, Handles as HandlesRequest, IfDue, MakesStep, ReportsAndFinishes, SendsAndTakes, TakesAnswer, exchange_due, exchange_text}
use Rattle.rt_macros.specs.Outcomes.{delivered_in, ended_in, state_in}
use Rattle.rt_macros.specs.declared.exchanging.Exchanged.{Exchanged}
use Rattle.rt_macros.specs.declared.outcomes.Delivered.{Delivered}
use Rattle.rt_macros.specs.declared.outcomes.Delivered.TheVariants as delivered
use Rattle.rt_macros.specs.declared.outcomes.Replied.{Replied}
use Rattle.rt_model.specs.Messages.{asked_of}
use Rattle.rt_model.specs.declared.asked.Asked.{Asked}
use Rattle.rt_model.specs.declared.replica_state.ReplicaState.{ReplicaState}
use Rattle.rt_model.specs.declared.reply.Reply.{Reply}
use Rattle.rt_model.specs.declared.request.Request.{Request}
use Rattle.rt_play.proofs.Known.{IsKnown, known_stays, reply_knows, taken}
use Rattle.rt_play.proofs.LineReads.{same_told, told_or, was_then}
use Rattle.rt_play.proofs.Noted.{IsPosted, request_stays}
use Rattle.rt_play.specs.AnswerTexts.{IsWord}
use Rattle.rt_play.specs.Ledger.{Posted, Segment, is_success_status, knows_commit}
use Rattle.rt_safety.proofs.Later.{leads_on}
use Rattle.rt_safety.proofs.Runs.{leads_safe}
use Rattle.rt_safety.specs.Runs.{Leads, Turn, happens}
use Rattle.rt_state.proofs.Bounds.{few_sent}
use Rattle.rt_state.specs.Finding.{request_at}
use Rattle.rt_state.specs.IsSafeWorld.{IsSafeWorld}
use Rattle.rt_state.specs.Room.{Found}
use Rattle.rt_state.specs.declared.state.State.{State}
use Rattle.rt_unrefused.proofs.Answered.{Behind, Delivers, IsAnswer, IsFor, delivers, job_steps}
use Rattle.rt_unrefused.proofs.Requested.{requested}
use Rattle.rt_world.proofs.KeepsMessages.{reply_sent}
use Rattle.rt_world.specs.Reading.{events_left_in}
use Rattle.rt_world.specs.Step.{Steps}

abbrev world_of : Reached → State
world_of v = v.world

abbrev turns_of : Reached → List Turn
turns_of v = v.turns

happened_safe : (w v : State) (e : Event) (o : Outcome) → IsSafeWorld w → Fits w.setup.schema e → Steps w e v (Ok o) → IsSafeWorld v
happened_safe w v e o safe fits steps = leads_safe w (happens e o ∷ []) v safe (v, (fits, steps), refl)

-- ---- a reply

-- the request is answered, in a safe world
record Answers (v : State) (a : Asked) (r : Replied) : Type 0 where
  safe : IsSafeWorld v
  answer : IsAnswer v a r

-- what is given as it was
gives_it : (u : State) (x : Reached) (a : Asked) (r y : Replied) → IsSafeWorld u → IsAnswer u a y → Gives y u x (Ok r) → Answers x.world a r
gives_it u x a r y safe is h =
    subst (λ (z : State). Answers z a r) (sym (ap world_of h.0)) (subst (Answers u a) (sym (same_told r y h.1)) (record { safe = safe; answer = is }))

-- ---- a job

makes_step : (c : ControllerId) (j : ℕ) (a : Asked) (w : State) (v : Reached) (o : Option Replied) → IsSafeWorld w → IsFor w c j a → MakesStep c j w v (Ok o)
    → IsSafeWorld v.world × Behind v.world c j a o
makes_step c j a w v o safe is h =
    let t = was_then (Happens (event.Job c j)) (λ outcome. Gives (ended_in outcome)) w v o h in
    let same : v.world ≡ t.between.world = ap world_of t.whole ∙ ap world_of t.further.0 in
    let steps : Steps w (event.Job c j) v.world (Ok t.told) = subst (λ (x : State). Steps w (event.Job c j) x (Ok t.told)) (sym same) t.came.by.0 in (
      happened_safe w v.world (event.Job c j) t.told safe tt steps,
      subst (Behind v.world c j a) (sym (same_told o (ended_in t.told) t.further.1)) (job_steps w v.world c j a t.told safe is steps),
    )

-- what is left of it, as further steps have it end
abbrev Ends : ControllerId → ℕ → Asked → ℕ → Replied → Type 0
Ends c j a left r = (w : State) (v : Reached) → IsSafeWorld w → IsFor w c j a → EndsJob c j left w v (Ok r) → Answers v.world a r

steps_end : (c : ControllerId) (j : ℕ) (a : Asked) (left : ℕ) (r : Replied) → Ends c j a left r → (o : Option Replied) (u : State) (x : Reached) → IsSafeWorld u
    → Behind u c j a o → AfterStep (EndsJob c j left) o u x (Ok r) → Answers x.world a r
steps_end c j a left r further None u x safe is h = further u x safe is h
steps_end c j a left r further (Some y) u x safe is h = gives_it u x a r y safe is h

ends_job : (c : ControllerId) (j : ℕ) (a : Asked) (left : ℕ) (r : Replied) → Ends c j a left r
ends_job c j a zero r w v safe is h = absurd (told_or r _ h.1)
ends_job c j a (suc left) r w v safe is h =
    let t = was_then (MakesStep c j) (AfterStep (EndsJob c j left)) w v r h in
    let s = makes_step c j a w t.between t.told safe is t.came in
    subst (λ (x : State). Answers x a r) (sym (ap world_of t.whole))
    (steps_end c j a left r (ends_job c j a left r) t.told t.between.world t.last s.0 s.1 t.further)

-- ---- a delivery

by_delivered : (c : ControllerId) (q : Request) (r : Replied) (d : Delivered) (u : State) (x : Reached) → IsSafeWorld u → Delivers u c q d
    → AfterDelivery c d u x (Ok r) → Answers x.world (asked_of q) r
by_delivered c q r (delivered.Replied y) u x safe is h = gives_it u x (asked_of q) r y safe is h
by_delivered c q r (delivered.Started j) u x safe is h = ends_job c j (asked_of q) (events_left_in u) r u x safe is h
by_delivered c q r delivered.Neither u x safe is h = absurd is

handles_request : (c : ControllerId) (m : ℕ) (q : Request) (w : State) (v : Reached) (r : Replied) → IsSafeWorld w → request_at w m ≡ Some q
    → HandlesRequest c m w v (Ok r) → Answers v.world (asked_of q) r
handles_request c m q w v r safe asks h =
    let t = was_then (Happens (event.Deliver m c)) (λ outcome. AfterDelivery c (delivered_in outcome)) w v r h in
    let u = t.between.world in
    subst (λ (x : State). Answers x (asked_of q) r) (sym (ap world_of t.whole))
    (by_delivered c q r (delivered_in t.told) u t.last (happened_safe w u (event.Deliver m c) t.told safe tt t.came.by.0)
    (delivers w u m c q t.told safe asks t.came.by.0) t.further)

-- ---- the answer is taken

-- what is told of the exchange tells the request, and of a commit
pub record IsExchanged (request : ℕ) (v : State) (p : Partition) (q : Sequence) (x : Exchanged) : Type 0 where
  pub number : x.request ≡ request
  pub success : is_success_status x.status ≡ true → IsKnown v p q
  pub knows : knows_commit x.state ≡ true → IsKnown v p q

-- a reply was taken
record Took (o : Outcome) (stands : ReplicaState) : Type 0 where
  instance : Instance
  partition : Partition
  sequence : Sequence
  told : o ≡ came.Took instance partition sequence stands

took_so : (o : Outcome) (stands : ReplicaState) → state_in o ≡ Some stands → Took o stands
took_so (came.Took i p q state) stands e = record { instance = i; partition = p; sequence = q; told = ap (came.Took i p q) (same_Some state stands e) }
took_so other stands e = absurd (none-some stands e)

abbrev told_of : ℕ → Replied → ReplicaState → Exchanged
told_of request y stands = record { request = request; reply = y.message; status = y.status; state = stands }

takes_answer : (request : ℕ) (p : Partition) (q : Sequence) (a : Asked) (y : Replied) (w : State) (v : Reached) (x : Exchanged)
    → (a.partition ≡ p) × (a.sequence ≡ q) → Answers w a y → TakesAnswer request y w v (Ok x) → IsExchanged request v.world p q x
takes_answer request p q a y w v x own k h =
    let t = was_then (Happens (event.Reply y.message)) (λ outcome. AfterReply request y (state_in outcome)) w v x h in
    subst (λ (z : State). IsExchanged request z p q x) (sym (ap world_of t.whole)) (by_state t.between.world t.last t.told (state_in t.told) t.came.by.0 refl t.further)
  where
    of_segment : (v : State) → IsKnown v k.answer.reply.partition k.answer.reply.sequence → IsKnown v p q
    of_segment v known =
        subst (IsKnown v p) (k.answer.sequence ∙ own.1) (subst (λ (s : Partition). IsKnown v s k.answer.reply.sequence) (k.answer.partition ∙ own.0) known)

    in_world : (u : State) (o : Outcome) (stands : ReplicaState) → Steps w (event.Reply y.message) u (Ok o) → state_in o ≡ Some stands
        → IsExchanged request u p q (told_of request y stands)
    in_world u o stands steps e =
        let took = took_so o stands e in
        let its = taken w u y.message o took.instance took.partition took.sequence stands steps took.told in
        let same : its.reply ≡ k.answer.reply = same_Some its.reply k.answer.reply (sym its.there ∙ k.answer.there) in
        let goes = leads_on w (happens (event.Reply y.message) o ∷ []) u k.safe (u, (tt, steps), refl) in
        let next = happened_safe w u (event.Reply y.message) o k.safe tt steps in
        record {
          number = refl;
          success =
              λ success.
              known_stays w u p q goes
              (of_segment w
              (reply_knows w k.answer.reply k.safe (reply_sent w y.message k.answer.reply k.answer.there)
              (ap is_success_status (sym k.answer.status) ∙ success)));
          knows =
              λ knows.
              of_segment u
              (subst (λ (r : Reply). IsKnown u r.partition r.sequence) same
              (subst (IsKnown u its.reply.partition) (sym its.sequence)
              (subst (λ (s : Partition). IsKnown u s took.sequence) (sym its.partition) (its.knows next knows))));
        }

    by_state : (u : State) (z : Reached) (o : Outcome) (s : Option ReplicaState) → Steps w (event.Reply y.message) u (Ok o) → state_in o ≡ s
        → AfterReply request y s u z (Ok x) → IsExchanged request z.world p q x
    by_state u z o None steps e g = absurd (told_or x _ g.1)
    by_state u z o (Some stands) steps e g =
        subst (λ (s : State). IsExchanged request s p q x) (sym (ap world_of g.0))
        (subst (IsExchanged request u p q) (sym (same_told x (told_of request y stands) g.1)) (in_world u o stands steps e))

-- ---- an exchange

sends_and_takes : (c : ControllerId) (m : ℕ) (p : Partition) (q : Sequence) (request : Request) (w : State) (v : Reached) (x : Exchanged) → IsSafeWorld w
    → request_at w m ≡ Some request → ((asked_of request).partition ≡ p) × ((asked_of request).sequence ≡ q) → SendsAndTakes c m w v (Ok x) → IsExchanged m v.world p q x
sends_and_takes c m p q request w v x safe asks own h =
    let t = was_then (HandlesRequest c m) (TakesAnswer m) w v x h in
    subst (λ (z : State). IsExchanged m z p q x) (sym (ap world_of t.whole))
    (takes_answer m p q (asked_of request) t.told t.between.world t.last x own (handles_request c m request w t.between t.told safe asks t.came) t.further)

exchanges : (i : Instance) (p : Partition) (q : Sequence) (c : ControllerId) (w : State) (v : Reached) (x : Exchanged) → IsSafeWorld w
    → ReportsAndFinishes (event.Report i p q) c w v (Ok x) → IsExchanged (length w.sent) v.world p q x
exchanges i p q c w v x safe h =
    let report = event.Report i p q in
    let t = was_then (Happens report) (AfterReport c) w v x h in
    let u = t.between.world in
    let its = requested w u i p q t.told safe t.came.by.0 in
    subst (λ (z : State). IsExchanged (length w.sent) z p q x) (sym (ap world_of t.whole))
    (sends_and_takes c (length w.sent) p q its.request u t.last x (happened_safe w u report t.told safe tt t.came.by.0) its.there its.segment
    (subst (λ (o : Outcome). AfterReport c o u t.last (Ok x)) its.told t.further))

if_due : (f : Found) (report : Event) (c : ControllerId) (w : State) (v : Reached) (x : Exchanged) → IfDue f (ReportsAndFinishes report c) w v (Ok x)
    → ReportsAndFinishes report c w v (Ok x)
if_due (Ok u) report c w v x h = h
if_due (Err refusal) report c w v x h = absurd (told_or x refusal h.1)

-- ---- its request

-- the report is its first turn
report_first : (report : Event) (c : ControllerId) (w : State) (v : Reached) (x : Exchanged) → ReportsAndFinishes report c w v (Ok x)
    → (o : Outcome) × (rest : List Turn) × (v.turns ≡ happens report o ∷ rest)
report_first report c w v x h =
    let t = was_then (Happens report) (AfterReport c) w v x h in
    (t.told, t.last.turns, ap turns_of t.whole ∙ ap (λ (ts : List Turn). ts ++ t.last.turns) t.came.by.1)

abbrev sent_by : ℕ → Partition → Sequence → Posted
sent_by message p q = record { message = message; segment = record { partition = p; sequence = q }; end = None }

-- what was sent in it stays
sent_first : (i : Instance) (p : Partition) (q : Sequence) (w v : State) (o : Outcome) (rest : List Turn) → IsSafeWorld w
    → Leads w (happens (event.Report i p q) o ∷ rest) v → IsPosted v (sent_by (length w.sent) p q)
sent_first i p q w v o rest safe (u, t, further) =
    let its = requested w u i p q o safe t.1 in
    let goes = leads_on u rest v (happened_safe w u (event.Report i p q) o safe tt t.1) further in
    let one : Partition → Segment = λ s. record { partition = s; sequence = its.request.sequence } in
    let other : Sequence → Segment = λ s. record { partition = p; sequence = s } in
    record {
      request = its.request;
      there = request_stays u v (length w.sent) its.request goes its.there;
      segment = ap one its.segment.0 ∙ ap other its.segment.1;
      end = tt;
    }

-- ---- what the text of the line tells

pub record TellsExchange (v : State) (p : Partition) (q : Sequence) (text : List ℕ) : Type 0 where
  pub exchanged : Exchanged
  pub told : text ≡ exchange_text exchanged
  pub word : IsWord exchanged.request
  pub posted : IsPosted v (record { message = exchanged.request; segment = record { partition = p; sequence = q }; end = None })
  pub success : is_success_status exchanged.status ≡ true → IsKnown v p q
  pub knows : knows_commit exchanged.state ≡ true → IsKnown v p q

pub exchange_told : (i : Instance) (p : Partition) (q : Sequence) (c : ControllerId) (w : State) (v : Reached) (text : List ℕ) → IsSafeWorld w
    → ExchangeTold i p q c w v (Ok text) → TellsExchange v.world p q text
exchange_told i p q c w v text safe h =
    let t = was_then (Exchanges i p q c) (λ x. Gives (exchange_text x)) w v text h in
    let same : v.world ≡ t.between.world = ap world_of t.whole ∙ ap world_of t.further.0 in
    let report = event.Report i p q in
    let made = if_due (exchange_due w report c) report c w t.between t.told t.came in
    let is = subst (λ (z : State). IsExchanged (length w.sent) z p q t.told) (sym same) (exchanges i p q c w t.between t.told safe made) in
    let first = report_first report c w t.between t.told made in
    let rest : List Turn = first.1 ++ t.last.turns in
    let turns : v.turns ≡ happens report first.0 ∷ rest = ap turns_of t.whole ∙ ap (λ (ts : List Turn). ts ++ t.last.turns) first.2 in
    let led = leads_by (Allowed false) v.turns w v.world (exchange_goes (pausing false) i p q c w v (Ok text) h) in
    let word : IsWord (length w.sent) = omega (arith, few_sent w safe) in
    record {
      exchanged = t.told;
      told = same_told text (exchange_text t.told) t.further.1;
      word = subst IsWord (sym is.number) word;
      posted =
          subst (λ (m : ℕ). IsPosted v.world (sent_by m p q)) (sym is.number)
          (sent_first i p q w v.world first.0 rest safe (subst (λ (ts : List Turn). Leads w ts v.world) turns led));
      success = is.success;
      knows = is.knows;
    }
