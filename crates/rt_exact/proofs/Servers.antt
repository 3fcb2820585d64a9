-- Each call of a server that calls a store has one outcome.
use Rattle.std.proofs.Common.{◌≡◌, ℕ, List, Bool, true, false, ◌||◌, Option, Some, None, Result, refl, sym, ◌∙◌, ap}
use Rattle.std.proofs.lemmas.Option.{same_Some}
use Rattle.rt_base.specs.declared.numbers.Moment.{Moment}
use Rattle.rt_base.specs.declared.numbers.Partition.{Partition}
use Rattle.rt_base.specs.declared.numbers.Sequence.{Sequence}
use Rattle.rt_commit.proofs.Telling.{same_deep_means, same_means}
use Rattle.rt_deep.specs.Answers.{getting}
use Rattle.rt_deep.specs.declared.refused.DeepRefused.{DeepRefused}
use Rattle.rt_deep.specs.Meaning.{Told as ToldDeep}
use Rattle.rt_deep.specs.Memory.{means as deep_means}
use Rattle.rt_entry.specs.Download.{LoadsOf, got, header_by, loaded_by}
use Rattle.rt_entry.specs.Entry.{wanted_by}
use Rattle.rt_entry.specs.declared.entry.CommittedSegment.{CommittedSegment}
use Rattle.rt_entry.specs.declared.entry.Entry.TheVariants.{Committed}
use Rattle.rt_entry.specs.declared.refused.ServerRefused.{ServerRefused}
use Rattle.rt_events.specs.declared.outcome.Outcome.{Outcome}
use Rattle.rt_events.specs.declared.outcome.Outcome.TheVariants as told
use Rattle.rt_model.specs.declared.commit.Commit.{Commit}
use Rattle.rt_model.specs.declared.ideal_state.Mode.{Mode}
use Rattle.rt_model.specs.declared.node.Key.TheVariants as key
use Rattle.rt_model.specs.declared.replica_state.ReplicaState.{ReplicaState}
use Rattle.rt_model.specs.declared.reply.Reply.{Reply}
use Rattle.rt_model.specs.declared.node.Seen.{Seen}
use Rattle.rt_model.specs.Lawful.{bump}
use Rattle.rt_schema.specs.declared.schema.Schema.{Schema}
use Rattle.rt_server.specs.Calls.{TransitsIf, TransitsTo, restarted_by, seen_by, stepped_by}
use Rattle.rt_server.specs.Download.{DownloadsAt, committed_at}
use Rattle.rt_server.specs.Table.{Segments, ServerState, entry_of, put_back, target_of}
use Rattle.rt_server.specs.Transition.{transit_due, transited}
use Rattle.rt_store.specs.declared.refused.StoreRefused.{StoreRefused}
use Rattle.rt_store.specs.Answers.{after_call, answer_of, reading}
use Rattle.rt_store.specs.Meaning.{Told}
use Rattle.rt_store.specs.Memory.{means}
use Rattle.rt_state.specs.Lives.{NodeCrashes, NodeRestarts, is_answered, up_in_incarnation}
use Rattle.rt_state.specs.Finding.{reply_at}
use Rattle.rt_state.specs.Messages.{Replies, RepliesAt, node_took}
use Rattle.rt_nodes.specs.Refused.{outcome_by}
use Rattle.rt_state.specs.Servers.{NodeLoads, NodeMoves, NodeSees}
use Rattle.rt_nodes.specs.declared.server_node.ServerNode.{ServerNode}
use Rattle.rt_state.specs.declared.state.State.{State}
use Rattle.rt_exact.proofs.Ones.{IsOne, IsOneCall, IsOneStep, server_does_one}
use Rattle.rt_exact.proofs.Replicas.{node_by_table, same_node}
use Rattle.rt_exact.proofs.Told.{AreOne, HasRoom, deep_left, deep_ones, has_room, told_left, told_ones}

-- what is told of one answer is one
told_one : {X : Type 0} (tell : X → Outcome) (r s : Result X ServerRefused) (a b : Outcome) → r ≡ s → outcome_by tell r ≡ Some a → outcome_by tell s ≡ Some b → a ≡ b
told_one tell r s a b same e f = same_Some a b (sym e ∙ ap (outcome_by tell) same ∙ f)

-- ---- crash, and an answer that is taken

pub crashes_one : IsOneStep NodeCrashes
crashes_one old m n a b h k = (h.0 ∙ sym k.0, h.1 ∙ sym k.1)

took_one : (r : Reply) → IsOneStep (λ old new outcome. (outcome, new) ≡ node_took old r)
took_one r old m n a b h k =
    let e : Outcome × ServerNode → ServerNode = λ x. x.1 in
    let f : Outcome × ServerNode → Outcome = λ x. x.0 in
    (ap e (h ∙ sym k), ap f (h ∙ sym k))

pub replies_one : (w : State) (m : ℕ) → IsOne (Replies w m)
replies_one w m cost x y h k = by_reply (reply_at w m) h k
  where
    by_reply : (o : Option Reply) → RepliesAt o w cost x → RepliesAt o w cost y → x ≡ y
    by_reply None h k = absurd h
    by_reply (Some r) h k = server_does_one w r.number.instance (λ old new outcome. (outcome, new) ≡ node_took old r) (took_one r) cost x y h k

-- ---- the ideal state is seen

pub sees_one : IsOneCall NodeSees
sees_one t s u old m n a b (r, x, tells, up) (r', y, tells', up') =
    let room = has_room told.SawIdeal r a tells in
    let room' = has_room told.SawIdeal r' b tells' in
    let left = told_left t s (reading key.Ideal) (λ base. base) (seen_by old.server) old.server m.server x.0 r refl room x.1 x.2 in
    let right = told_left t u (reading key.Ideal) (λ base. base) (seen_by old.server) old.server n.server y.0 r' refl room' y.1 y.2 in
    let z = told_ones t s u (reading key.Ideal) (λ base. base) (seen_by old.server) old.server m.server n.server r r' left right in
    (z.outside, same_node m n z.node (up ∙ sym up'), told_one told.SawIdeal r r' a b z.answer tells tells')

-- ---- a restart

pub restarts_one : IsOneCall NodeRestarts
restarts_one t s u old m n a b (r, x, tells, up) (r', y, tells', up') =
    let room = has_room up_in_incarnation r a tells in
    let room' = has_room up_in_incarnation r' b tells' in
    let call = bump old.server.numbers.instance in
    let left = told_left t s (answer_of (λ w. w.version) call) (after_call call) (restarted_by old.server) old.server m.server x.0 r refl room x.1 x.2 in
    let right = told_left t u (answer_of (λ w. w.version) call) (after_call call) (restarted_by old.server) old.server n.server y.0 r' refl room' y.1 y.2 in
    let z = told_ones t s u (answer_of (λ w. w.version) call) (after_call call) (restarted_by old.server) old.server m.server n.server r r' left right in (
      z.outside,
      same_node m n z.node (up ∙ ap (λ (g : Result ℕ ServerRefused). is_answered g || old.up) z.answer ∙ sym up'),
      told_one up_in_incarnation r r' a b z.answer tells tells',
    )

-- ---- a transition

module _ (t s u : Told) (old m n : ServerState) (p : Partition) (q : Sequence) (now : Moment) (r r' : Result ReplicaState ServerRefused) (room : HasRoom r) (room' : HasRoom r') where
  to_one : (o : Option Mode) → TransitsTo o (means t) (means s) old m p q now r → TransitsTo o (means t) (means u) old n p q now r' → AreOne s u m n r r'
  to_one None h k =
      record {
        outside = same_means t s h.0 ∙ sym (same_means t u k.0);
        node = h.2 ∙ sym k.2;
        answer = h.1 ∙ sym k.1;
      }
  to_one (Some mode) h k =
      let go = λ (answer : Result Seen StoreRefused). stepped_by old (transited old.setup old.table p q now mode answer) in
      let left = told_left t s (reading (key.Meta p q)) (λ base. base) go old m h.0 r refl room h.1 h.2 in
      let right = told_left t u (reading (key.Meta p q)) (λ base. base) go old n k.0 r' refl room' k.1 k.2 in
      told_ones t s u (reading (key.Meta p q)) (λ base. base) go old m n r r' left right

  if_one : (b : Bool) → TransitsIf b (means t) (means s) old m p q now r → TransitsIf b (means t) (means u) old n p q now r' → AreOne s u m n r r'
  if_one false h k =
      record {
        outside = same_means t s h.0 ∙ sym (same_means t u k.0);
        node = h.2 ∙ sym k.2;
        answer = h.1 ∙ sym k.1;
      }
  if_one true h k = to_one (target_of old.table p q) h k

pub moves_one : (p : Partition) (q : Sequence) (now : Moment) → IsOneCall (NodeMoves p q now)
moves_one p q now t s u old m n a b (r, x, tells, up) (r', y, tells', up') =
    let room = has_room told.Stands r a tells in
    let room' = has_room told.Stands r' b tells' in
    let z = if_one t s u old.server m.server n.server p q now r r' room room' (transit_due old.server.table p q) x y in
    (z.outside, same_node m n z.node (up ∙ sym up'), told_one told.Stands r r' a b z.answer tells tells')

-- ---- a download

module _ (t s u : ToldDeep) (schema : Schema) (old m n : Segments) (p : Partition) (q : Sequence) (r r' : Result ℕ ServerRefused) (room : HasRoom r) (room' : HasRoom r') where
  of_one : (c a b : CommittedSegment) (o : Option Commit) → LoadsOf o (deep_means t) (deep_means s) schema p q c a r
      → LoadsOf o (deep_means t) (deep_means u) schema p q c b r' → AreOne s u a b r r'
  of_one c a b None h k =
      record {
        outside = same_deep_means t s h.0 ∙ sym (same_deep_means t u k.0);
        node = h.2 ∙ sym k.2;
        answer = h.1 ∙ sym k.1;
      }
  of_one c a b (Some commit) h k =
      let go = λ (answer : Result (List ℕ) DeepRefused). loaded_by c (got schema (header_by p q c.done commit) answer) in
      let left = deep_left t s (getting commit.path) (λ base. base) go c a h.0 r refl room h.1 h.2 in
      let right = deep_left t u (getting commit.path) (λ base. base) go c b k.0 r' refl room' k.1 k.2 in
      deep_ones t s u (getting commit.path) (λ base. base) go c a b r r' left right

  at_one : (o : Option CommittedSegment) → DownloadsAt o (deep_means t) (deep_means s) schema old m p q r
      → DownloadsAt o (deep_means t) (deep_means u) schema old n p q r' → AreOne s u m n r r'
  at_one None h k =
      record {
        outside = same_deep_means t s h.0 ∙ sym (same_deep_means t u k.0);
        node = h.2 ∙ sym k.2;
        answer = h.1 ∙ sym k.1;
      }
  at_one (Some c) (a, h, put) (b, k, put') =
      let z = of_one c a b (wanted_by c.file c.done.meta.status) h k in
      record {
        outside = z.outside;
        node = put ∙ ap (λ (x : CommittedSegment). put_back old p q (Committed x)) z.node ∙ sym put';
        answer = z.answer;
      }

pub loads_one : (p : Partition) (q : Sequence) → IsOneCall (NodeLoads p q)
loads_one p q t s u old m n a b (r, x, table, tells, up) (r', y, table', tells', up') =
    let room = has_room told.Loaded r a tells in
    let room' = has_room told.Loaded r' b tells' in
    let z = at_one t s u old.server.setup.schema old.server.table m.server.table n.server.table p q r r' room room' (committed_at (entry_of old.server.table p q)) x y in
    (z.outside, node_by_table old m n table table' up up' z.node, told_one told.Loaded r r' a b z.answer tells tells')
