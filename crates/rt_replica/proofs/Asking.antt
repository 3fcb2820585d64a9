-- What a replica asks is right by what its server has itself, and is waited for.
use Rattle.std.proofs.Common.{◌≡◌, ◌≤◌, ◌<◌, ℕ, Bool, true, false, cond, List, [], ◌∷◌, map, All, Some, None, refl, sym, ap, subst, ◌∙◌, arith}
use Rattle.std.proofs.lemmas.Bool.{false≢true}
use Rattle.std.proofs.lemmas.List.Elements.{All-nil, All-cons}
use Rattle.rt_base.specs.declared.numbers.Instance.{Instance}
use Rattle.rt_base.specs.declared.numbers.Offset.{Offset}
use Rattle.rt_lists.proofs.Members.{Has-push}
use Rattle.rt_schema.specs.declared.schema.Schema.{Schema}
use Rattle.rt_schema.specs.Row.{rows_in}
use Rattle.rt_schema.specs.Schema.{is_among}
use Rattle.rt_mutable.specs.Column.{Shape}
use Rattle.rt_mutable.specs.Consuming.{Consuming}
use Rattle.rt_segment.specs.Column.{SealedColumn}
use Rattle.rt_segment.specs.Segment.{SealedSegment, are_columns}
use Rattle.rt_segment.specs.Spelling.{file_of}
use Rattle.rt_build.specs.Sealing.{marked, shape_in}
use Rattle.rt_stream.specs.Log.{messages_of}
use Rattle.rt_model.specs.declared.request.RequestKind.{RequestKind}
use Rattle.rt_model.specs.declared.request.RequestKind.TheVariants as kind
use Rattle.rt_model.specs.declared.request.RequestNumber.{RequestNumber}
use Rattle.rt_model.specs.declared.seg_meta.SeenMeta.{SeenMeta}
use Rattle.rt_model.specs.declared.sent.Sent.TheVariants as sent
use Rattle.rt_model.specs.declared.setup.Setup.{Setup}
use Rattle.rt_msgs.specs.Numbered.{upload_path}
use Rattle.rt_past.specs.Files.{IsIndexed, IsRightFile}
use Rattle.rt_past.specs.Past.{Past, with_request}
use Rattle.rt_consumer.specs.declared.phase.Phase.{Phase}
use Rattle.rt_consumer.specs.declared.phase.Phase.TheVariants as phase
use Rattle.rt_consumer.specs.declared.settings.Settings.{Settings}
use Rattle.rt_consumer.specs.declared.stage.Stage.{Stage}
use Rattle.rt_consumer.specs.declared.stage.Stage.TheVariants.{InitialConsuming, CatchingUp, Holding, ConsumingToOnline, Retaining, Building, Starting, Uploading, Ending}
use Rattle.rt_consumer.specs.declared.waited.Waited.TheVariants.{Step}
use Rattle.rt_consumer.specs.declared.consumer.Consumer.{Consumer}
use Rattle.rt_consumer.specs.Consumer.{IsPhase, IsStage, IsBuilt, AreRows, cur, cur_in, extends_at, extends_in}
use Rattle.rt_consumer.specs.Requests.{kind_at, kind_in, request_with}
use Rattle.rt_replica.specs.HeldSoFar.{HoldsInSoFar, HoldsSoFar}
use Rattle.rt_replica.specs.Lasting.{IsAskedIn, ToldAt, ToldIn, WasAsked}
use Rattle.rt_replica.specs.Own.{IsOwnKind, IsOwnReplica, IsUp, WasTold}
use Rattle.rt_replica.proofs.Answered.{same_kind, some_kind}
use Rattle.rt_replica.proofs.HoldingSoFar.{file_held}

no_kind : (k : RequestKind) → None ≡ some_kind k → ⊥
no_kind k e = cc

-- ---- the indexes of a file that was built

empty_marked : (x : Shape) (xs : List Shape) → [] ≡ x ∷ xs → ⊥
empty_marked x xs e = cc

first_shape : (x y : Shape) (xs ys : List Shape) → x ∷ xs ≡ y ∷ ys → x ≡ y
first_shape x y xs ys e = cc

other_shapes : (x y : Shape) (xs ys : List Shape) → x ∷ xs ≡ y ∷ ys → xs ≡ ys
other_shapes x y xs ys e = cc

all_indexed : (names : List (List ℕ)) (columns : List SealedColumn) (shapes : List Shape) → map shape_in columns ≡ map (marked names) shapes
    → All (IsIndexed names) columns
all_indexed names [] shapes e = All-nil (IsIndexed names)
all_indexed names (c ∷ cs) [] e = absurd (empty_marked (shape_in c) (map shape_in cs) (sym e))
all_indexed names (c ∷ cs) (x ∷ xs) e =
    let first = first_shape (shape_in c) (marked names x) (map shape_in cs) (map (marked names) xs) e in
    let named : x.name ≡ c.name = sym (ap (λ (y : Shape). y.name) first) in
    All-cons (IsIndexed names) c cs
    (ap (λ (y : Shape). y.indexed) first ∙ ap (λ (n : List ℕ). is_among n names) named)
    (all_indexed names cs xs (other_shapes (shape_in c) (marked names x) (map shape_in cs) (map (marked names) xs) e))

module _ (setup : Setup) (view : Past) (i : Instance) (incarnation : ℕ) (r : Consumer) (k : IsOwnReplica setup view i incarnation r) (number : RequestNumber)
    (mine : number.instance ≡ i) (now : number.incarnation ≡ incarnation) where
  abbrev Was : SeenMeta → Type 0
  Was = WasTold view r.partition r.sequence

  abbrev Up : Offset → SealedSegment → List ℕ → Type 0
  Up = IsUp setup view i incarnation r.partition r.sequence r.start

  -- it is right to ask this at an offset
  abbrev IsRight : Offset → RequestKind → Type 0
  IsRight x q = IsOwnKind setup view (record { number = number; partition = r.partition; sequence = r.sequence; offset = x; kind = q }) r.start q

  abbrev ms : List (List ℕ)
  ms = messages_of view.log r.partition

  file_right : (rows : Consuming) (built : SealedSegment) → AreRows r.settings r.start rows → rows.start.0 < rows.end.0 → IsBuilt r.settings r.partition r.sequence rows built
      → HoldsSoFar r.settings.schema ms r.start rows → IsRightFile setup view r.partition r.sequence r.start rows.end (file_of built)
  file_right rows built a past_start b h =
      let f = file_held r.settings r.partition r.sequence ms r.start rows built b h in
      let end : built.range.end ≡ rows.end = ap (λ g. g.end) b.seals.range in
      let schema_is : r.settings.schema ≡ setup.schema = ap (λ (s : Settings). s.schema) k.settings in
      let first = ap (λ (x : Offset). x.0) a.first in
      record {
        file = record {
          segment = built;
          sealed = b.whole;
          spelled = refl;
          header = (b.seals.partition, b.seals.sequence, b.seals.range ∙ ap (λ x. record { start = x; end = rows.end }) a.first);
          within = (omega (arith, past_start, first), omega (arith, past_start, first, h.within));
          columns = subst (λ (s : Schema). are_columns built.columns s.columns ≡ true) schema_is b.columns;
          rows = f.rows ∙ ap (λ (n : Offset). rows_in r.settings.schema ms r.start.0 n.0) end ∙ ap (λ s. rows_in s ms r.start.0 rows.end.0) schema_is;
        };
        begun = k.begun;
        format = b.seals.format ∙ ap (λ (s : Settings). s.format) k.settings;
        indexed = subst (λ (names : List (List ℕ)). All (IsIndexed names) built.columns) (ap (λ (s : Settings). s.indexed) k.settings)
            (all_indexed r.settings.indexed built.columns rows.columns b.seals.columns);
      }

  past_first : (rows : Consuming) → AreRows r.settings r.start rows → rows.start.0 < rows.end.0 → r.start.0 < rows.end.0
  past_first rows a lt = omega (arith, lt, ap (λ (x : Offset). x.0) a.first)

  end_right : (x : Offset) (built : SealedSegment) (path : List ℕ) → Up x built path → IsRight x (kind.CommitEnd path)
  end_right x built path up = (
    built,
    subst (λ n. IsUp setup view number.instance n r.partition r.sequence r.start x built path) (sym now)
        (subst (λ j. IsUp setup view j incarnation r.partition r.sequence r.start x built path) (sym mine) up),
  )

  kind_at_right : (rows : Consuming) (stage : Stage) (q : RequestKind) → kind_at r.name number stage ≡ some_kind q → AreRows r.settings r.start rows
      → IsStage r.settings r.partition r.sequence rows stage → HoldsSoFar r.settings.schema ms r.start rows
      → ToldAt Was Up rows.end stage → IsRight rows.end q
  kind_at_right rows (Holding reason) q e a s h t = subst (IsRight rows.end) (same_kind (kind.Consumed reason) q e) (past_first rows a s)
  kind_at_right rows (Starting reason built) q e a s h t = subst (IsRight rows.end) (same_kind kind.CommitStart q e) (past_first rows a s.0)
  kind_at_right rows (Uploading reason built) q e a s h t =
      let path = upload_path r.name number in
      subst (IsRight rows.end) (same_kind (kind.Upload path (file_of built)) q e)
      (record { name = r.name; begun = k.named; spelled = refl }, file_right rows built a s.0 s.1 h)
  kind_at_right rows (Ending reason built path) q e a s h t = subst (IsRight rows.end) (same_kind (kind.CommitEnd path) q e) (end_right rows.end built path t)
  kind_at_right rows InitialConsuming q e a s h t = absurd (no_kind q e)
  kind_at_right rows (CatchingUp target reason) q e a s h t = absurd (no_kind q e)
  kind_at_right rows (ConsumingToOnline end done) q e a s h t = absurd (no_kind q e)
  kind_at_right rows (Retaining done) q e a s h t = absurd (no_kind q e)
  kind_at_right rows (Building reason) q e a s h t = absurd (no_kind q e)

  stopped_right : (b : Bool) (x : Offset) (q : RequestKind) → cond b (some_kind kind.Stopped) None ≡ some_kind q → r.start.0 ≤ x.0 → IsRight x q
  stopped_right true x q e le = subst (IsRight x) (same_kind kind.Stopped q e) le
  stopped_right false x q e le = absurd (no_kind q e)

  pub kind_in_right : (ph : Phase) (q : RequestKind) → kind_in r.name number ph ≡ some_kind q → IsPhase r.settings r.partition r.sequence r.start ph
      → HoldsInSoFar r.settings.schema ms r.start ph → ToldIn Was Up ph → IsRight (cur_in ph) q
  kind_in_right (phase.Unsealed o) q e p h t = kind_at_right o.rows o.stage q e p.0 p.1 h t
  kind_in_right (phase.Discarded d) q e p h t = stopped_right d.stopped d.cur q e h.0
  kind_in_right (phase.Retained kept) q e p h t = absurd (no_kind q e)
  kind_in_right (phase.Committed kept) q e p h t = absurd (no_kind q e)

  extend_at_right : (rows : Consuming) (stage : Stage) (millis : ℕ) → extends_at stage ≡ true → AreRows r.settings r.start rows
      → IsStage r.settings r.partition r.sequence rows stage → IsRight rows.end (kind.Extend millis)
  extend_at_right rows (Building reason) millis e a s = past_first rows a s
  extend_at_right rows (Starting reason built) millis e a s = past_first rows a s.0
  extend_at_right rows InitialConsuming millis e a s = absurd (false≢true e)
  extend_at_right rows (CatchingUp target reason) millis e a s = absurd (false≢true e)
  extend_at_right rows (Holding reason) millis e a s = absurd (false≢true e)
  extend_at_right rows (ConsumingToOnline end done) millis e a s = absurd (false≢true e)
  extend_at_right rows (Retaining done) millis e a s = absurd (false≢true e)
  extend_at_right rows (Uploading reason built) millis e a s = absurd (false≢true e)
  extend_at_right rows (Ending reason built path) millis e a s = absurd (false≢true e)

  pub extend_in_right : (ph : Phase) (millis : ℕ) → extends_in ph ≡ true → IsPhase r.settings r.partition r.sequence r.start ph → IsRight (cur_in ph) (kind.Extend millis)
  extend_in_right (phase.Unsealed o) millis e p = extend_at_right o.rows o.stage millis e p.0 p.1
  extend_in_right (phase.Retained kept) millis e p = absurd (false≢true e)
  extend_in_right (phase.Committed kept) millis e p = absurd (false≢true e)
  extend_in_right (phase.Discarded d) millis e p = absurd (false≢true e)

-- ---- once it is asked it is waited for

step_at_asked : (b : Bool) (asks : RequestKind) → cond b (some_kind kind.Stopped) None ≡ some_kind asks → asks ≡ kind.Stopped
step_at_asked true asks e = sym (same_kind kind.Stopped asks e)
step_at_asked false asks e = absurd (no_kind asks e)

-- what is due is what the next number waits for
pub step_asked : (name : List ℕ) (ph : Phase) (number : RequestNumber) (asks : RequestKind) → kind_in name number ph ≡ Some asks → IsAskedIn name ph (Step number) asks
step_asked name (phase.Unsealed o) number asks e = e
step_asked name (phase.Discarded d) number asks e = step_at_asked d.stopped asks e
step_asked name (phase.Retained kept) number asks e = absurd (no_kind asks e)
step_asked name (phase.Committed kept) number asks e = absurd (no_kind asks e)

pub just_asked : (past : Past) (i : Instance) (incarnation : ℕ) (r : Consumer) (number : RequestNumber) (q : RequestKind) → number.instance ≡ i → number.incarnation ≡ incarnation
    → WasAsked (with_request past (request_with r number q)) i incarnation r.partition r.sequence (cur r) number q
just_asked past i incarnation r number q mine now = record {
  own = (mine, now);
  request = request_with r number q;
  was_sent = Has-push past.sent (sent.Request (request_with r number q));
  numbered = refl;
  segment = (refl, refl);
  offset = refl;
  kind = refl;
}
