-- The ways in which a past grows.
use Rattle.std.proofs.Common.{◌≡◌, ◌⊎◌, inl, inr, List, [], ◌∷◌, ◌++◌, sym, ap, ◌∙◌, subst}
use Rattle.rt_lists.specs.Members.{Has, IsFront}
use Rattle.rt_lists.proofs.Members.{Has-front, Has-push_cases, Has-same, front_same, front_push}
use Rattle.rt_model.specs.declared.node.Seen.{Seen}
use Rattle.rt_model.specs.declared.reply.Reply.{Reply}
use Rattle.rt_model.specs.declared.request.Request.{Request}
use Rattle.rt_model.specs.declared.sent.Sent.{Sent}
use Rattle.rt_model.specs.declared.sent.Sent.TheVariants as sent
use Rattle.rt_model.specs.declared.setup.Setup.{Setup}
use Rattle.rt_model.specs.Lawful.{Write, IsLawful, IsLawfulHistory, written_by}
use Rattle.rt_stream.specs.Log.{Log}
use Rattle.rt_stream.specs.Feed.{Grows as GrowsLog}
use Rattle.rt_stream.proofs.Growth.{log_same}
use Rattle.rt_deep.specs.declared.deep_put.DeepPut.{DeepPut}
use Rattle.rt_deep.specs.Answers.{Leaves as LeavesFiles}
use Rattle.rt_deep.specs.Files.{AreOnce}
use Rattle.rt_deep.proofs.Seeing.{put_grows, put_once}
use Rattle.rt_store.specs.Answers.{Leaves}
use Rattle.rt_store.specs.Contents.{starting_of}
use Rattle.rt_store.proofs.Seeing.{lawful_write, wrote_grows}
use Rattle.rt_past.specs.Past.{Past, Grows, with_log, with_history, with_files, with_sent, with_request, with_reply}
use Rattle.rt_past.specs.Requests.{AreUnique, IsFresh, IsRequest}
use Rattle.rt_past.specs.Replies.{IsReply}
use Rattle.rt_past.specs.Writes.{IsRightWrite}
use Rattle.rt_past.specs.IsPast.{IsPast, IsUploaded}
use Rattle.rt_past.proofs.Growth.{request_grows, reply_grows, right_write_grows}

uploaded_grows : (a b : List Sent) (f : DeepPut) → IsFront a b → IsUploaded a f → IsUploaded b f
uploaded_grows a b f g (q, has, is) = (q, Has-front a b _ g has, is)

-- ---- the stream

pub past_logs : (setup : Setup) (a : Past) (log : Log) → GrowsLog a.log log → IsPast setup a
    → Grows a (with_log a log) × IsPast setup (with_log a log)
past_logs setup a log g k =
    let b = with_log a log in
    let grows : Grows a b = record { log = g; history = front_same a.history; files = front_same a.files; sent = front_same a.sent } in (
      grows,
      record {
        partitions = g.partitions ∙ k.partitions;
        lawful = k.lawful;
        writes = λ w has. right_write_grows setup a b w grows (k.writes w has);
        once = k.once;
        files = k.files;
        requests = λ q has. request_grows setup a b q grows (k.requests q has);
        replies = λ r has. reply_grows a b r grows (k.replies r has);
        unique = k.unique;
      },
    )

-- ---- the store

pub past_writes : (setup : Setup) (a : Past) (h : List Seen) → IsFront a.history h → IsLawfulHistory (starting_of setup) h
    → ((w : Seen) → Has h w → IsRightWrite setup (with_history a h) w) → IsPast setup a
    → Grows a (with_history a h) × IsPast setup (with_history a h)
past_writes setup a h g lawful right k =
    let b = with_history a h in
    let grows : Grows a b = record { log = log_same a.log; history = g; files = front_same a.files; sent = front_same a.sent } in (
      grows,
      record {
        partitions = k.partitions;
        lawful = lawful;
        writes = right;
        once = k.once;
        files = k.files;
        requests = λ q has. request_grows setup a b q grows (k.requests q has);
        replies = λ r has. reply_grows a b r grows (k.replies r has);
        unique = k.unique;
      },
    )

-- ---- the deep store

pub past_files : (setup : Setup) (a : Past) (files : List DeepPut) → IsFront a.files files → AreOnce files
    → ((f : DeepPut) → Has files f → IsUploaded a.sent f) → IsPast setup a
    → Grows a (with_files a files) × IsPast setup (with_files a files)
past_files setup a files g once uploaded k =
    let b = with_files a files in
    let grows : Grows a b = record { log = log_same a.log; history = front_same a.history; files = g; sent = front_same a.sent } in (
      grows,
      record {
        partitions = k.partitions;
        lawful = k.lawful;
        writes = λ w has. right_write_grows setup a b w grows (k.writes w has);
        once = once;
        files = uploaded;
        requests = λ q has. request_grows setup a b q grows (k.requests q has);
        replies = λ r has. reply_grows a b r grows (k.replies r has);
        unique = k.unique;
      },
    )

-- ---- messages

sends : (a : Past) (m : Sent) → Grows a (with_sent a m)
sends a m =
    record { log = log_same a.log; history = front_same a.history; files = front_same a.files; sent = front_push a.sent m }

pub one_request : (q r : Request) → sent.Request q ≡ sent.Request r → q ≡ r
one_request q r e = cc

pub one_reply : (q r : Reply) → sent.Reply q ≡ sent.Reply r → q ≡ r
one_reply q r e = cc

by_request : (setup : Setup) (b : Past) (ms : List Sent) (q r : Request) → ((x : Request) → Has ms (sent.Request x) → IsRequest setup b x)
    → IsRequest setup b q → Has ms (sent.Request r) ⊎ (sent.Request q ≡ sent.Request r) → IsRequest setup b r
by_request setup b ms q r old new (inl h) = old r h
by_request setup b ms q r old new (inr e) = subst (λ x. IsRequest setup b x) (one_request q r e) new

by_reply : (b : Past) (ms : List Sent) (q r : Reply) → ((x : Reply) → Has ms (sent.Reply x) → IsReply b x)
    → IsReply b q → Has ms (sent.Reply r) ⊎ (sent.Reply q ≡ sent.Reply r) → IsReply b r
by_reply b ms q r old new (inl h) = old r h
by_reply b ms q r old new (inr e) = subst (λ x. IsReply b x) (one_reply q r e) new

-- a message of the one kind is none of the other
pub no_request : (ms : List Sent) (y : Reply) (q : Request) → Has ms (sent.Request q) ⊎ (sent.Reply y ≡ sent.Request q) → Has ms (sent.Request q)
no_request ms y q (inl h) = h
no_request ms y q (inr e) = absurd (cc)

pub no_reply : (ms : List Sent) (q : Request) (y : Reply) → Has ms (sent.Reply y) ⊎ (sent.Request q ≡ sent.Reply y) → Has ms (sent.Reply y)
no_reply ms q y (inl h) = h
no_reply ms q y (inr e) = absurd (cc)

unique_push : (ms : List Sent) (new q r : Request) → AreUnique ms → IsFresh ms new.number
    → Has ms (sent.Request q) ⊎ (sent.Request new ≡ sent.Request q) → Has ms (sent.Request r) ⊎ (sent.Request new ≡ sent.Request r)
    → q.number ≡ r.number → q ≡ r
unique_push ms new q r unique fresh (inl h) (inl i) e = unique q r h i e
unique_push ms new q r unique fresh (inl h) (inr i) e = absurd (fresh q h (e ∙ sym (ap (λ (x : Request). x.number) (one_request new r i))))
unique_push ms new q r unique fresh (inr h) (inl i) e = absurd (fresh r i (sym e ∙ sym (ap (λ (x : Request). x.number) (one_request new q h))))
unique_push ms new q r unique fresh (inr h) (inr i) e = sym (one_request new q h) ∙ one_request new r i

pub past_requests : (setup : Setup) (a : Past) (q : Request) → IsRequest setup a q → IsFresh a.sent q.number → IsPast setup a
    → Grows a (with_request a q) × IsPast setup (with_request a q)
past_requests setup a q right fresh k =
    let b = with_request a q in
    let grows = sends a (sent.Request q) in (
      grows,
      record {
        partitions = k.partitions;
        lawful = k.lawful;
        writes = λ w has. right_write_grows setup a b w grows (k.writes w has);
        once = k.once;
        files = λ f has. uploaded_grows a.sent b.sent f grows.sent (k.files f has);
        requests = λ r has.
            by_request setup b a.sent q r (λ x h. request_grows setup a b x grows (k.requests x h)) (request_grows setup a b q grows right)
            (Has-push_cases a.sent (sent.Request q) (sent.Request r) has);
        replies = λ r has.
            reply_grows a b r grows (k.replies r (no_reply a.sent q r (Has-push_cases a.sent (sent.Request q) (sent.Reply r) has)));
        unique = λ x y hx hy.
            unique_push a.sent q x y k.unique fresh
            (Has-push_cases a.sent (sent.Request q) (sent.Request x) hx) (Has-push_cases a.sent (sent.Request q) (sent.Request y) hy);
      },
    )

pub past_replies : (setup : Setup) (a : Past) (r : Reply) → IsReply a r → IsPast setup a
    → Grows a (with_reply a r) × IsPast setup (with_reply a r)
past_replies setup a r right k =
    let b = with_reply a r in
    let grows = sends a (sent.Reply r) in
    let was : (q : Request) → Has b.sent (sent.Request q) → Has a.sent (sent.Request q) =
    λ q has. no_request a.sent r q (Has-push_cases a.sent (sent.Reply r) (sent.Request q) has) in (
      grows,
      record {
        partitions = k.partitions;
        lawful = k.lawful;
        writes = λ w has. right_write_grows setup a b w grows (k.writes w has);
        once = k.once;
        files = λ f has. uploaded_grows a.sent b.sent f grows.sent (k.files f has);
        requests = λ q has. request_grows setup a b q grows (k.requests q (was q has));
        replies = λ y has.
            by_reply b a.sent r y (λ x h. reply_grows a b x grows (k.replies x h)) (reply_grows a b r grows right)
            (Has-push_cases a.sent (sent.Reply r) (sent.Reply y) has);
        unique = λ x y hx hy. k.unique x y (was x hx) (was y hy);
      },
    )

-- ---- as the calls of the stores go

-- a lawful write call, whether it takes effect or not
pub past_called : (setup : Setup) (a : Past) (call : Write) (now : List Seen) → Leaves call a.history now → IsLawful a.history call
    → IsRightWrite setup a (written_by a.history call) → IsPast setup a → Grows a (with_history a now) × IsPast setup (with_history a now)
past_called setup a call now leaves may right k =
    let b = with_history a now in
    let g = wrote_grows call a.history a.history now (front_same a.history) leaves in
    let grows : Grows a b = record { log = log_same a.log; history = g; files = front_same a.files; sent = front_same a.sent } in
    let old : (x : Seen) → Has a.history x → IsRightWrite setup b x = λ x has. right_write_grows setup a b x grows (k.writes x has) in
    past_writes setup a now g (lawful_write (starting_of setup) a.history a.history now call k.lawful (front_same a.history) k.lawful may leaves)
    (λ x has. by_leaves setup b a.history call now x old (right_write_grows setup a b (written_by a.history call) grows right) has leaves) k
  where
    by_push : (setup : Setup) (b : Past) (h : List Seen) (w x : Seen) → ((y : Seen) → Has h y → IsRightWrite setup b y) → IsRightWrite setup b w
        → Has h x ⊎ (w ≡ x) → IsRightWrite setup b x
    by_push setup b h w x old new (inl has) = old x has
    by_push setup b h w x old new (inr e) = subst (λ y. IsRightWrite setup b y) e new

    by_leaves : (setup : Setup) (b : Past) (h : List Seen) (call : Write) (now : List Seen) (x : Seen) → ((y : Seen) → Has h y → IsRightWrite setup b y)
        → IsRightWrite setup b (written_by h call) → Has now x → Leaves call h now → IsRightWrite setup b x
    by_leaves setup b h call now x old new has (inl e) = old x (Has-same now h x e has)
    by_leaves setup b h call now x old new has (inr w) =
        by_push setup b h (written_by h call) x old new
        (Has-push_cases h (written_by h call) x (Has-same now (h ++ written_by h call ∷ []) x w.1 has))

-- a put of an upload, whether it puts a file or not
pub past_put : (setup : Setup) (a : Past) (put : DeepPut) (now : List DeepPut) → LeavesFiles put a.files now → IsUploaded a.sent put → IsPast setup a
    → Grows a (with_files a now) × IsPast setup (with_files a now)
past_put setup a put now leaves uploaded k =
    past_files setup a now (put_grows put a.files a.files now (front_same a.files) leaves) (put_once put a.files now k.once leaves)
    (λ x has. by_leaves a.sent a.files put now x k.files uploaded has leaves) k
  where
    by_push : (ms : List Sent) (files : List DeepPut) (f x : DeepPut) → ((y : DeepPut) → Has files y → IsUploaded ms y) → IsUploaded ms f
        → Has files x ⊎ (f ≡ x) → IsUploaded ms x
    by_push ms files f x old new (inl has) = old x has
    by_push ms files f x old new (inr e) = subst (λ y. IsUploaded ms y) e new

    by_leaves : (ms : List Sent) (files : List DeepPut) (put : DeepPut) (now : List DeepPut) (x : DeepPut)
        → ((y : DeepPut) → Has files y → IsUploaded ms y) → IsUploaded ms put → Has now x → LeavesFiles put files now → IsUploaded ms x
    by_leaves ms files put now x old new has (inl e) = old x (Has-same now files x e has)
    by_leaves ms files put now x old new has (inr w) =
        by_push ms files put x old new (Has-push_cases files put x (Has-same now (files ++ put ∷ []) x w.1 has))
