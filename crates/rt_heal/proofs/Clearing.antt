-- What a transition and a download leave due at their server: theirs is done, and no other one comes.
use Rattle.std.proofs.Common.{◌≡◌, ◌⊎◌, inl, inr, ℕ, Bool, true, false, cond, List, [], ◌∷◌, Option, Some, None, Result, Ok, Err, refl, sym, ◌∙◌, ap, subst}
use Rattle.std.specs.Map.{keys_of, lookup, remove_entry}
use Rattle.std.specs.Prelude.{is_some}
use Rattle.std.proofs.lemmas.Bool.{false≢true}
use Rattle.std.proofs.lemmas.Option.{none-some, same_Some}
use Rattle.rt_base.specs.Faults.{answer_under, fault_of}
use Rattle.rt_base.specs.declared.header.Header.{Header}
use Rattle.rt_base.specs.declared.numbers.Moment.{Moment}
use Rattle.rt_base.specs.declared.numbers.Partition.{Partition}
use Rattle.rt_base.specs.declared.numbers.Sequence.{Sequence}
use Rattle.rt_consumer.specs.Consumer.{started_of}
use Rattle.rt_deep.specs.Answers.{found_in, getting}
use Rattle.rt_deep.specs.Calls.{Gets, IsExact as IsExactGet}
use Rattle.rt_deep.specs.Meaning.{Told as ToldDeep}
use Rattle.rt_deep.specs.Memory.{means as deep_means}
use Rattle.rt_deep.specs.declared.deep_put.DeepPut.{DeepPut}
use Rattle.rt_deep.specs.declared.refused.DeepRefused.{DeepRefused}
use Rattle.rt_deep.specs.declared.refused.DeepRefused.TheVariants as deep
use Rattle.rt_deep.specs.Files.{file_of}
use Rattle.rt_deep.proofs.Seeing.{told_exact as deep_exact}
use Rattle.rt_entry.specs.Calls.{Comes}
use Rattle.rt_entry.specs.Download.{checked, got, header_by, is_right, loaded_by, LoadsOf}
use Rattle.rt_entry.specs.Entry.{wanted_by, wanting}
use Rattle.rt_entry.specs.Transition.{is_due, is_open_entry, metadata_in, told}
use Rattle.rt_entry.specs.declared.entry.CommittedSegment.{CommittedSegment}
use Rattle.rt_entry.specs.declared.entry.Entry.{Entry}
use Rattle.rt_entry.specs.declared.entry.Entry.TheVariants.{Replica, Committed}
use Rattle.rt_entry.specs.declared.refused.ServerRefused.{ServerRefused}
use Rattle.rt_entry.specs.declared.refused.ServerRefused.TheVariants as refused
use Rattle.rt_events.specs.declared.outcome.Outcome.{Outcome}
use Rattle.rt_events.specs.declared.outcome.Outcome.TheVariants as outcome
use Rattle.rt_model.specs.declared.commit.Commit.{Commit}
use Rattle.rt_model.specs.declared.ideal_state.Mode.{Mode}
use Rattle.rt_model.specs.declared.ideal_state.Mode.TheVariants as mode
use Rattle.rt_model.specs.declared.replica_state.ReplicaState.{ReplicaState}
use Rattle.rt_model.specs.declared.seg_meta.SeenMeta.{SeenMeta}
use Rattle.rt_model.specs.declared.setup.Setup.{Setup}
use Rattle.rt_model.specs.declared.status.Status.{Status}
use Rattle.rt_model.specs.declared.status.Status.TheVariants.{InProgress, Done, Abandoned}
use Rattle.rt_nodes.specs.Refused.{outcome_by}
use Rattle.rt_schema.specs.declared.schema.Schema.{Schema}
use Rattle.rt_segment.specs.Reading.{read_file}
use Rattle.rt_segment.specs.Segment.{SealedSegment}
use Rattle.rt_segment.specs.Spelling.{header_of}
use Rattle.rt_segment.specs.declared.segment_refused.SegmentRefused.{SegmentRefused}
use Rattle.rt_server.proofs.LastingEntries.{segment}
use Rattle.rt_server.proofs.Listed.{lookup_put as lookup_new}
use Rattle.rt_server.proofs.Merge.{is_it, it_is, Ascending}
use Rattle.rt_server.proofs.Stepped.{comes_keep, stepped}
use Rattle.rt_server.specs.Calls.{stepped_by, Transits, TransitsIf, TransitsTo}
use Rattle.rt_server.specs.Download.{committed_at, Downloads, DownloadsAt}
use Rattle.rt_server.specs.Table.{entry_of, is_segment, put_back, target_of, wants_at, with_entry, without, Segment, Segments, ServerState}
use Rattle.rt_server.specs.Transition.{committed, moved_by, moved_to, opened, transit_due, transited, transition}
use Rattle.rt_store.specs.Meaning.{Meaning}
use Rattle.rt_heal.proofs.LessWorld.{lookup_put}
use Rattle.rt_heal.proofs.Moving.{found_set, moved_targets, told_shut}

-- ---- a table

-- no other transition is due
abbrev pub NoMoreDue : Segments → Segments → Type 0
NoMoreDue old new = (p : Partition) (q : Sequence) → transit_due new p q ≡ true → transit_due old p q ≡ true

-- no other file is wanted
abbrev pub NoMoreWanted : Segments → Segments → Type 0
NoMoreWanted old new = (p : Partition) (q : Sequence) → wants_at (entry_of new p q) ≡ true → wants_at (entry_of old p q) ≡ true

same_due : (old new : Segments) → new ≡ old → NoMoreDue old new
same_due old new e p q due = ap (λ (t : Segments). transit_due t p q) (sym e) ∙ due

-- an entry that isn't to be left is due where one was
shut_due : (o : Option Mode) (e old : Entry) → is_open_entry e ≡ false → is_due o (Some e) ≡ true → is_due o (Some old) ≡ true
shut_due None e old shut due = refl
shut_due (Some mode.Consuming) e old shut due = absurd (false≢true due)
shut_due (Some mode.Online) e old shut due = absurd (false≢true (sym shut ∙ due))
shut_due (Some mode.Offline) e old shut due = refl

module _ (t : Segments) (p : Partition) (q : Sequence) where
  -- it is put back in its place
  back_due : (old e : Entry) → entry_of t p q ≡ Some old → is_open_entry e ≡ false → NoMoreDue t (put_back t p q e)
  back_due old e found shut o s due = by_place (lookup_put (is_segment p q) (is_segment o s) t.entries old e found)
    where
      by_place : (entry_of (put_back t p q e) o s ≡ entry_of t o s) ⊎ ((entry_of (put_back t p q e) o s ≡ Some e) × (entry_of t o s ≡ Some old))
          → transit_due t o s ≡ true
      by_place (inl same) = ap (is_due (target_of t o s)) (sym same) ∙ due
      by_place (inr (now, was)) =
          ap (is_due (target_of t o s)) was ∙ shut_due (target_of t o s) e old shut (ap (is_due (target_of t o s)) (sym now) ∙ due)

  module _ (due_here : transit_due t p q ≡ true) where
    -- what is due of this segment was
    same_segment : (o : Partition) (s : Sequence) → segment o s ≡ segment p q → transit_due t o s ≡ true
    same_segment o s is = subst (λ (x : Segment). transit_due t x.0 x.1 ≡ true) (sym is) due_here

    -- it is new
    new_due : (e : Entry) → NoMoreDue t (with_entry t p q e)
    new_due e o s due = by_test (is_it (o, s) (p, q)) refl
      where
        by_test : (b : Bool) → is_it (o, s) (p, q) ≡ b → transit_due t o s ≡ true
        by_test true is = same_segment o s (it_is (o, s) (p, q) is)
        by_test false is =
            ap (is_due (target_of t o s)) (sym (lookup_new t.entries (p, q) (o, s) e ∙ ap (λ (b : Bool). cond b (Some e) (entry_of t o s)) is)) ∙ due

    -- it is gone
    gone_due : NoMoreDue t (without t p q)
    gone_due o s due = by_place (removed t.entries)
      where
        Other : List (Segment × Entry) → Type 0
        Other es = (lookup (is_segment o s) (remove_entry (is_segment p q) es) ≡ lookup (is_segment o s) es) ⊎ (segment o s ≡ segment p q)

        removed : (es : List (Segment × Entry)) → Other es
        removed [] = inl refl
        removed (e ∷ es) = by_test (is_segment p q e.0) refl (removed es)
          where
            here_by : is_segment p q e.0 ≡ true → (c : Bool) → is_segment o s e.0 ≡ c
                → (lookup (is_segment o s) es ≡ cond c (Some e.1) (lookup (is_segment o s) es)) ⊎ (segment o s ≡ segment p q)
            here_by is true other = inr (it_is (o, s) e.0 other ∙ sym (it_is (p, q) e.0 is))
            here_by is false other = inl refl

            there_by : Other es → (c : Bool)
                → (cond c (Some e.1) (lookup (is_segment o s) (remove_entry (is_segment p q) es)) ≡ cond c (Some e.1) (lookup (is_segment o s) es)) ⊎ (segment o s ≡ segment p q)
            there_by (inl same) true = inl refl
            there_by (inl same) false = inl same
            there_by (inr is) c = inr is

            by_test : (b : Bool) → is_segment p q e.0 ≡ b → Other es
                → (lookup (is_segment o s) (cond b es (e ∷ remove_entry (is_segment p q) es)) ≡ lookup (is_segment o s) (e ∷ es)) ⊎ (segment o s ≡ segment p q)
            by_test true is further = here_by is (is_segment o s e.0) refl
            by_test false is further = there_by further (is_segment o s e.0)

        by_place : Other t.entries → transit_due t o s ≡ true
        by_place (inl same) = ap (is_due (target_of t o s)) (sym same) ∙ due
        by_place (inr is) = same_segment o s is

    -- ---- a transition

    module _ (setup : Setup) (now : Moment) where
      opened_due : (seen : SeenMeta) (o : Option Entry) → NoMoreDue t (opened setup t p q now seen o).1
      opened_due seen None = new_due (Replica (started_of setup p q seen.meta now))
      opened_due seen (Some e) = same_due t t refl

      committed_due : (done : SeenMeta) (commit : Commit) (o : Option Entry) → entry_of t p q ≡ o → NoMoreDue t (committed t p q done commit.end o).1
      committed_due done commit None found = new_due (wanting done)
      committed_due done commit (Some e) found = back_due e (told e done commit.end) found (told_shut e done commit.end)

      moved_due : (seen : SeenMeta) (status : Status) → NoMoreDue t (moved_by setup t p q now seen status).1
      moved_due seen InProgress = opened_due seen (entry_of t p q)
      moved_due seen (Done commit) = committed_due seen commit (entry_of t p q) refl
      moved_due seen Abandoned = gone_due

      to_due : (seen : Option SeenMeta) → NoMoreDue t (moved_to setup t p q now seen).1
      to_due None = gone_due
      to_due (Some seen) = moved_due seen seen.meta.status

      transition_due : (m : Mode) (seen : Option SeenMeta) → NoMoreDue t (transition setup t p q now m seen).1
      transition_due mode.Offline seen = gone_due
      transition_due mode.Consuming seen = to_due seen
      transition_due mode.Online seen = to_due seen

-- ---- a server's transition

-- the targets stay, and no other transition is due
pub record IsLessDue (old new : ServerState) : Type 0 where
  pub targets : new.table.targets ≡ old.table.targets
  pub numbers : new.numbers ≡ old.numbers
  pub due : NoMoreDue old.table new.table

module _ (before after : Meaning) (old new : ServerState) (p : Partition) (q : Sequence) (now : Moment) (up : Ascending (keys_of old.table.entries)) where
  still_due : (s : ServerState) → s ≡ old → IsLessDue old s
  still_due s e = subst (IsLessDue old) (sym e) (record { targets = refl; numbers = refl; due = same_due old.table old.table refl })

  pub transits_due : (result : Result ReplicaState ServerRefused) → Transits before after old new p q now result → IsLessDue old new
  transits_due result h = by_due (transit_due old.table p q) refl h
    where
      by_target : transit_due old.table p q ≡ true → (o : Option Mode) → TransitsTo o before after old new p q now result → IsLessDue old new
      by_target due None k =
          subst (IsLessDue old) (sym k.2) (record { targets = refl; numbers = refl; due = gone_due old.table p q due })
      by_target due (Some m) k =
          comes_keep (IsLessDue old) old new (stepped_by old (transited old.setup old.table p q now m k.0)) result (still_due old refl)
          (λ x step.
          let moves = stepped old new p q now m (metadata_in k.0) x step in
          subst (IsLessDue old) (sym moves.2)
          (record {
            targets = moved_targets old.setup old.table p q now up m moves.0;
            numbers = refl;
            due = transition_due old.table p q due old.setup now m moves.0;
          })) k.2

      by_due : (b : Bool) → transit_due old.table p q ≡ b → TransitsIf b before after old new p q now result → IsLessDue old new
      by_due true due k = by_target due (target_of old.table p q) k
      by_due false due k = still_due new k.2

-- ---- a download

abbrev loaded : ℕ × CommittedSegment → Result (ℕ × CommittedSegment) ServerRefused
loaded x = Ok x

abbrev not_loaded : ServerRefused → Result (ℕ × CommittedSegment) ServerRefused
not_loaded e = Err e

same_loaded : (x y : ℕ × CommittedSegment) → loaded x ≡ loaded y → x ≡ y
same_loaded x y e = cc

loaded_apart : (x : ℕ × CommittedSegment) (e : ServerRefused) → loaded x ≡ not_loaded e → ⊥
loaded_apart x e h = cc

same_not : (a b : ServerRefused) → not_loaded a ≡ not_loaded b → a ≡ b
same_not a b e = cc

-- its file is there, and all else stays
pub record HasLoaded (old new : Segments) (p : Partition) (q : Sequence) : Type 0 where
  pub before : CommittedSegment
  pub next : CommittedSegment
  pub file : SealedSegment
  pub found : entry_of old p q ≡ Some (Committed before)
  pub has : next.file ≡ Some file
  pub put : new ≡ put_back old p q (Committed next)

-- what was got, where a read is refused for a fault that is planned alone
module _ (schema : Schema) (wanted : Header) where
  checked_not : (r : Result SealedSegment SegmentRefused) (e : ServerRefused) → checked schema wanted r ≡ Err e → e ≡ refused.StoreFault → ⊥
  checked_not (Ok file) e h is = by_test (is_right schema wanted file) h
    where
      by_test : (b : Bool) → cond b (Ok file) (Err (refused.BadFile wanted (Some (header_of file)))) ≡ Err e → ⊥
      by_test true f = absurd (cc)
      by_test false f = absurd (cc)
  checked_not (Err r) e h is = absurd (cc)

module _ (t u : ToldDeep) (path : List ℕ) (answer : Result (List ℕ) DeepRefused) (unplanned : t.faults.plan ≡ []) (gets : Gets (deep_means t) (deep_means u) path answer) where
  abbrev failing : Result (List ℕ) DeepRefused
  failing = Err deep.Failed

  get_not : answer ≡ failing → ⊥
  get_not e = by_exact (deep_exact t u (getting path) (λ base. base) answer gets)
    where
      by_file : (o : Option DeepPut) → found_in o ≡ failing → ⊥
      by_file None f = cc
      by_file (Some file) f = cc

      by_exact : IsExactGet t u (getting path) (λ base. base) answer → ⊥
      by_exact (inl (ran_out, same)) = absurd (let f = sym ran_out ∙ e in cc)
      by_exact (inr (is, left)) =
          by_file (file_of t.files path)
          (ap (λ (ps : List Bool). answer_under deep.Failed (fault_of ps) (getting path t.files)) (sym unplanned) ∙ sym is ∙ e)

module _ (t u : ToldDeep) (unplanned : t.faults.plan ≡ []) (schema : Schema) (p : Partition) (q : Sequence) (o : Outcome) where
  abbrev HasFile : CommittedSegment → Type 0
  HasFile next = (file : SealedSegment) × (next.file ≡ Some file)

  abbrev fault : Result SealedSegment ServerRefused
  fault = Err refused.StoreFault

  got_not : (wanted : Header) (path : List ℕ) (answer : Result (List ℕ) DeepRefused) → Gets (deep_means t) (deep_means u) path answer
      → got schema wanted answer ≡ fault → ⊥
  got_not wanted path (Ok bytes) gets e = checked_not schema wanted (read_file bytes) refused.StoreFault e refl
  got_not wanted path (Err deep.Absent) gets e = absurd (cc)
  got_not wanted path (Err (deep.OtherBytes kept offered)) gets e = absurd (cc)
  got_not wanted path (Err deep.Failed) gets e = get_not t u path (Err deep.Failed) unplanned gets refl
  got_not wanted path (Err deep.Memory) gets e = absurd (cc)

  comes_loaded : (c next : CommittedSegment) (wanted : Header) (path : List ℕ) (answer : Result (List ℕ) DeepRefused)
      → Gets (deep_means t) (deep_means u) path answer → (result : Result ℕ ServerRefused) → Comes (loaded_by c (got schema wanted answer)) c next result
      → outcome_by outcome.Loaded result ≡ Some o → HasFile next
  comes_loaded c next wanted path answer gets (Ok rows) h told_it = by_got (got schema wanted answer) h
    where
      by_got : (g : Result SealedSegment ServerRefused) → loaded_by c g ≡ loaded (rows, next) → HasFile next
      by_got (Ok file) e = (
        file,
        sym (ap (λ (x : ℕ × CommittedSegment). x.1.file) (same_loaded (file.rows, record c { file = Some file }) (rows, next) e)),
      )
      by_got (Err e) f = absurd (loaded_apart (rows, next) e (sym f))
  comes_loaded c next wanted path answer gets (Err refused.StoreFault) h told_it = absurd (by_got (got schema wanted answer) refl h.0)
    where
      by_got : (g : Result SealedSegment ServerRefused) → got schema wanted answer ≡ g → loaded_by c g ≡ not_loaded refused.StoreFault → ⊥
      by_got (Ok file) is f = loaded_apart _ refused.StoreFault f
      by_got (Err e) is f =
          got_not wanted path answer gets (is ∙ ap (λ (x : ServerRefused). Err x) (same_not e refused.StoreFault f))
  comes_loaded c next wanted path answer gets (Err refused.NotDue) h told_it = absurd (none-some o told_it)
  comes_loaded c next wanted path answer gets (Err (refused.BadFile w f)) h told_it = absurd (none-some o told_it)
  comes_loaded c next wanted path answer gets (Err refused.Memory) h told_it = absurd (none-some o told_it)

  undue : (result : Result ℕ ServerRefused) → result ≡ Err refused.NotDue → outcome_by outcome.Loaded result ≡ Some o → ⊥
  undue result e told_it = none-some o (ap (outcome_by outcome.Loaded) (sym e) ∙ told_it)

  of_loaded : (c next : CommittedSegment) (wanted : Option Commit) (result : Result ℕ ServerRefused)
      → LoadsOf wanted (deep_means t) (deep_means u) schema p q c next result → outcome_by outcome.Loaded result ≡ Some o → HasFile next
  of_loaded c next None result h told_it = absurd (undue result h.1 told_it)
  of_loaded c next (Some commit) result h told_it =
      comes_loaded c next (header_by p q c.done commit) commit.path h.0 h.1 result h.2 told_it

  committed_found : (e : Option Entry) (c : CommittedSegment) → committed_at e ≡ Some c → e ≡ Some (Committed c)
  committed_found None c is = absurd (none-some c is)
  committed_found (Some (Replica r)) c is = absurd (none-some c is)
  committed_found (Some (Committed d)) c is = ap (λ (x : CommittedSegment). Some (Committed x)) (same_Some d c is)

  pub downloads_loaded : (old new : Segments) (result : Result ℕ ServerRefused) → Downloads (deep_means t) (deep_means u) schema old new p q result
      → outcome_by outcome.Loaded result ≡ Some o → HasLoaded old new p q
  downloads_loaded old new result h told_it = by_entry (committed_at (entry_of old p q)) refl h
    where
      by_entry : (c : Option CommittedSegment) → committed_at (entry_of old p q) ≡ c
          → DownloadsAt c (deep_means t) (deep_means u) schema old new p q result → HasLoaded old new p q
      by_entry None is k = absurd (undue result k.1 told_it)
      by_entry (Some c) is (next, loads, put) =
          let k = of_loaded c next (wanted_by c.file c.done.meta.status) result loads told_it in
          record { before = c; next = next; file = k.0; found = committed_found (entry_of old p q) c is; has = k.1; put = put }

module _ (old new : Segments) (p : Partition) (q : Sequence) (k : HasLoaded old new p q) where
  -- its file is wanted no more
  unwanted : wants_at (Some (Committed k.next)) ≡ false
  unwanted = ap (λ (o : Option SealedSegment). is_some (wanted_by o k.next.done.meta.status)) k.has

  pub loaded_due : NoMoreDue old new
  loaded_due =
      subst (NoMoreDue old) (sym k.put) (back_due old p q (Committed k.before) (Committed k.next) k.found refl)

  pub loaded_wants : NoMoreWanted old new
  loaded_wants = subst (NoMoreWanted old) (sym k.put) back
    where
      back : NoMoreWanted old (put_back old p q (Committed k.next))
      back o s wanted = by_place (lookup_put (is_segment p q) (is_segment o s) old.entries (Committed k.before) (Committed k.next) k.found)
        where
          now : Option Entry
          now = entry_of (put_back old p q (Committed k.next)) o s

          by_place : (now ≡ entry_of old o s) ⊎ ((now ≡ Some (Committed k.next)) × (entry_of old o s ≡ Some (Committed k.before)))
              → wants_at (entry_of old o s) ≡ true
          by_place (inl same) = ap wants_at (sym same) ∙ wanted
          by_place (inr (is, was)) = absurd (false≢true (sym unwanted ∙ ap wants_at (sym is) ∙ wanted))

  pub loaded_here : wants_at (entry_of new p q) ≡ false
  loaded_here =
      subst (λ (x : Segments). wants_at (entry_of x p q) ≡ false) (sym k.put)
      (ap wants_at (found_set (is_segment p q) old.entries (Committed k.before) (Committed k.next) k.found) ∙ unwanted)

  pub loaded_targets : new.targets ≡ old.targets
  loaded_targets = ap (λ (x : Segments). x.targets) k.put
