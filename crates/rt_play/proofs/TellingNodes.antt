-- What the text of a node that is shown tells: whether it is DONE, and over which range.
use Rattle.std.proofs.Common.{◌≡◌, ◌==◌, ◌||◌, ℕ, Bool, true, false, cond, List, [], ◌∷◌, ◌++◌, decimal, codes, Option, Some, None, Ordering, Less, Equal, Greater, nat_cmp, if◌then◌else◌, refl, sym, ◌∙◌, ap, append_assoc, eqb-true}
use Rattle.std.proofs.lemmas.Bool.{false≢true, true≢false}
use Rattle.std.proofs.lemmas.List.{append_cancel_left, append_cancel_right}
use Rattle.std.proofs.lemmas.Option.{same_Some}
use Rattle.std.specs.Cmp.Lexicographic.{slice_cmp}
use Rattle.std.specs.Ordering.{match_ordering}
use Rattle.hex.specs.Hex.{encode_lower}
use Rattle.json.proofs.Printed.Strings.{content-escape}
use Rattle.json.specs.Print.{escape, quoted}
use Rattle.json.specs.Text.{content, plain}
use Rattle.rt_base.specs.declared.numbers.Partition.{Partition}
use Rattle.rt_base.specs.declared.numbers.Sequence.{Sequence}
use Rattle.rt_base.specs.declared.range.Range.{Range}
use Rattle.rt_events.specs.declared.event.Event.{Event}
use Rattle.rt_events.specs.declared.event.Event.TheVariants as event
use Rattle.rt_events.specs.declared.outcome.Outcome.{Outcome}
use Rattle.rt_events.specs.declared.outcome.Outcome.TheVariants as came
use Rattle.rt_ideal.specs.Text.{instance_text, members_in, mode_text, segment_text, with_entries_text, with_entry_text}
use Rattle.rt_meta.specs.Text.{data_at, done_data}
use Rattle.rt_model.specs.declared.commit.Commit.{Commit}
use Rattle.rt_model.specs.declared.ideal_state.IdealEntry.{IdealEntry}
use Rattle.rt_model.specs.declared.node.Node.{Node}
use Rattle.rt_model.specs.declared.node.Node.TheVariants as node
use Rattle.rt_model.specs.declared.node.Seen.{Seen}
use Rattle.rt_model.specs.declared.seg_meta.SegMeta.{SegMeta}
use Rattle.rt_model.specs.declared.status.Status.{Status}
use Rattle.rt_model.specs.declared.status.Status.TheVariants.{Abandoned, Done, InProgress}
use Rattle.rt_play.proofs.TellingEvents.{same_offset, space}
use Rattle.rt_play.proofs.TellingFronts.{begins, is_digit, number_starts, same_number, starts_digit}
use Rattle.rt_play.proofs.TellingKinds.{AreApart, IsIdle, all_alike, kind_in, kind_of, kind_told, same_tail}
use Rattle.rt_play.proofs.ToldItems.{comma}
use Rattle.rt_play.proofs.ToldNumbers.{same_decimal, tails}
use Rattle.rt_play.specs.AnswerTexts.{IsWord}
use Rattle.rt_play.specs.Ledger.{IsDoneOver, SaysDone, committed_if, is_done_node, is_done_status}
use Rattle.rt_play.specs.NotedWords.{FitsWords, IsDoneWord, IsNodeWord}
use Rattle.rt_play.specs.Telling.{AreAlike}
use Rattle.rt_repair.specs.declared.retiring.RetireStep.TheVariants as retire
use Rattle.rt_report.specs.BrokerTexts.{shown_text, stored_text}
use Rattle.rt_report.specs.Outcome.{outcome_text}
use Rattle.serde_json.specs.Data.{Data, Members, member, no_members, number, object, put, string, unsigned}
use Rattle.serde_json.specs.Find.{get_member}
use Rattle.serde_json.specs.Written.{comma_if, compact_text, members_text}

-- ---- the first key of an object

abbrev pub key_in : List ℕ → Option (List ℕ)
key_in [] = None
key_in (x ∷ []) = None
key_in (x ∷ y ∷ xs) = if y == 34 then content plain xs else None

-- the text of a DONE segment begins with its digest
abbrev is_done_key : Option (List ℕ) → Bool
is_done_key None = false
is_done_key (Some key) = begins (codes "d") key

pub object_key : (k : List ℕ) (d : Data) (ms : Members) (xs : List ℕ) → key_in (compact_text (object (member k d ms)) ++ xs) ≡ Some k
object_key k d ms xs =
    let behind = 58 ∷ (compact_text d ++ members_text true ms) in
    ap (content plain) (append_assoc (escape k ++ 34 ∷ []) behind xs ∙ append_assoc (escape k) (34 ∷ []) (behind ++ xs)) ∙ content-escape k (behind ++ xs)

-- an ideal state begins with the number of a partition
abbrev pub AreNumbered : Members → Type 0
AreNumbered no_members = Unit {0}
AreNumbered (member k d ms) = starts_digit k ≡ true

put_numbered : (k : List ℕ) (d : Data) (ms : Members) → starts_digit k ≡ true → AreNumbered ms → AreNumbered (put k d ms)
put_numbered k d no_members is are = is
put_numbered k d (member l e ms) is are = by_order (slice_cmp nat_cmp k l)
  where
    by_order : (o : Ordering) → AreNumbered (match_ordering o (member k d (member l e ms)) (member l d ms) (member l e (put k d ms)))
    by_order Less = is
    by_order Equal = are
    by_order Greater = are

pub entries_numbered : (es : List IdealEntry) (ms : Members) → AreNumbered ms → AreNumbered (with_entries_text ms es)
entries_numbered [] ms are = are
entries_numbered (e ∷ es) ms are =
    let key = segment_text e.partition e.sequence in
    entries_numbered es (with_entry_text ms e)
    (put_numbered key (object (put (instance_text e.instance) (string (mode_text e.mode)) (members_in (get_member key ms)))) ms
    (number_starts e.partition.0 (codes "/" ++ decimal e.sequence.0)) are)

no_done_key : (k : List ℕ) → starts_digit k ≡ true → begins (codes "d") k ≡ false
no_done_key [] is = absurd (false≢true is)
no_done_key (c ∷ cs) is = by_test (c == 100) refl
  where
    by_test : (t : Bool) → (c == 100) ≡ t → cond (c == 100) true false ≡ false
    by_test false e = ap (λ (b : Bool). cond b true false) e
    by_test true e = absurd (false≢true (ap is_digit (sym (eqb-true c 100 e)) ∙ is))

members_key : (ms : Members) (x : ℕ) → AreNumbered ms → is_done_key (key_in (compact_text (object ms) ++ x ∷ [])) ≡ false
members_key no_members x are = refl
members_key (member k d ms) x are = ap is_done_key (object_key k d ms (x ∷ [])) ∙ no_done_key k are

-- the members of a segment, from one of them on
abbrev pub written_on : SegMeta → Members
written_on m = member (codes "written") (number (unsigned m.written.0)) no_members

abbrev pub status_on : SegMeta → List ℕ → Members
status_on m status = member (codes "status") (string status) (written_on m)

abbrev pub start_on : SegMeta → List ℕ → Members
start_on m status = member (codes "start") (number (unsigned m.start.0)) (status_on m status)

abbrev pub rows_on : SegMeta → Commit → Members
rows_on m c = member (codes "rows") (number (unsigned c.rows)) (start_on m (codes "DONE"))

abbrev pub path_on : SegMeta → Commit → Members
path_on m c = member (codes "path") (string c.path) (rows_on m c)

abbrev pub name_on : SegMeta → Commit → Members
name_on m c = member (codes "name") (string m.name) (path_on m c)

abbrev pub end_on : SegMeta → Commit → Members
end_on m c = member (codes "end") (number (unsigned c.end.0)) (name_on m c)

-- the text of a node tells whether it is DONE
done_told : (n : Node) → is_done_key (key_in (stored_text n ++ codes "\n")) ≡ is_done_node n
done_told (node.Meta m) = by_status m.status
  where
    by_status : (s : Status) → is_done_key (key_in (compact_text (data_at m s) ++ codes "\n")) ≡ is_done_status s
    by_status InProgress = ap is_done_key (object_key (codes "name") (string m.name) (start_on m (codes "IN_PROGRESS")) (codes "\n"))
    by_status (Done commit) = ap is_done_key (object_key (codes "digest") (string (encode_lower commit.digest)) (end_on m commit) (codes "\n"))
    by_status Abandoned = ap is_done_key (object_key (codes "name") (string m.name) (start_on m (codes "ABANDONED")) (codes "\n"))
done_told (node.Ideal ideal) = members_key (with_entries_text no_members ideal.entries) 10 (entries_numbered ideal.entries no_members tt)
done_told node.Boot = refl
done_told node.Gone = refl

-- ---- the range of a DONE segment

pub string_split : (s t xs ys : List ℕ) → quoted s ++ xs ≡ quoted t ++ ys → (s ≡ t) × (xs ≡ ys)
string_split s t xs ys same =
    let whole : escape s ++ 34 ∷ xs ≡ escape t ++ 34 ∷ ys =
    sym (append_assoc (escape s) (34 ∷ []) xs) ∙ tails 34 34 _ _ same ∙ append_assoc (escape t) (34 ∷ []) ys
    in
    let one = same_Some s t (sym (content-escape s xs) ∙ ap (content plain) whole ∙ content-escape t ys) in
    (one, tails 34 34 xs ys (append_cancel_left (escape s) (34 ∷ xs) (34 ∷ ys) (whole ∙ ap (λ (u : List ℕ). escape u ++ 34 ∷ ys) (sym one))))

pub member_behind : (later : Bool) (k : List ℕ) (d e : Data) (ms ns : Members) → members_text later (member k d ms) ≡ members_text later (member k e ns)
    → compact_text d ++ members_text true ms ≡ compact_text e ++ members_text true ns
member_behind later k d e ms ns same =
    tails 58 58 _ _
    (append_cancel_left (quoted k) (58 ∷ (compact_text d ++ members_text true ms)) (58 ∷ (compact_text e ++ members_text true ns))
    (append_cancel_left (comma_if later) _ _ same))

module _ (m n : SegMeta) (c d : Commit) (v : IsWord m.start.0 × IsWord c.end.0) (w : IsWord n.start.0 × IsWord d.end.0)
    (same : compact_text (done_data m c) ≡ compact_text (done_data n d)) where
  behind_digest : members_text true (end_on m c) ≡ members_text true (end_on n d)
  behind_digest =
      (string_split (encode_lower c.digest) (encode_lower d.digest) _ _
      (member_behind false (codes "digest") (string (encode_lower c.digest)) (string (encode_lower d.digest)) (end_on m c) (end_on n d) (tails 123 123 _ _ same))).1

  ends : (c.end.0 ≡ d.end.0) × (members_text true (name_on m c) ≡ members_text true (name_on n d))
  ends =
      same_number c.end.0 d.end.0 (members_text true (name_on m c)) (members_text true (name_on n d)) v.1 w.1 comma comma
      (member_behind true (codes "end") (number (unsigned c.end.0)) (number (unsigned d.end.0)) (name_on m c) (name_on n d) behind_digest)

  behind_path : members_text true (rows_on m c) ≡ members_text true (rows_on n d)
  behind_path =
      (string_split c.path d.path _ _
      (member_behind true (codes "path") (string c.path) (string d.path) (rows_on m c) (rows_on n d)
      (string_split m.name n.name _ _ (member_behind true (codes "name") (string m.name) (string n.name) (path_on m c) (path_on n d) ends.1)).1)).1

  behind_rows : members_text true (start_on m (codes "DONE")) ≡ members_text true (start_on n (codes "DONE"))
  behind_rows =
      (same_decimal c.rows d.rows (members_text true (start_on m (codes "DONE"))) (members_text true (start_on n (codes "DONE"))) comma comma
      (member_behind true (codes "rows") (number (unsigned c.rows)) (number (unsigned d.rows)) (start_on m (codes "DONE")) (start_on n (codes "DONE")) behind_path)).1

  starts : m.start.0 ≡ n.start.0
  starts =
      (same_number m.start.0 n.start.0 (members_text true (status_on m (codes "DONE"))) (members_text true (status_on n (codes "DONE"))) v.0 w.0 comma comma
      (member_behind true (codes "start") (number (unsigned m.start.0)) (number (unsigned n.start.0)) (status_on m (codes "DONE")) (status_on n (codes "DONE")) behind_rows)).0

  same_over : (r : Range) → IsDoneOver r m (Done c) → IsDoneOver r n (Done d)
  same_over r k = (k.0 ∙ same_offset m.start n.start starts, k.1 ∙ same_offset c.end d.end ends.0, k.2)

over_done : (r : Range) (m : SegMeta) (s : Status) → IsDoneOver r m s → is_done_status s ≡ true
over_done r m InProgress k = absurd k
over_done r m (Done commit) k = refl
over_done r m Abandoned k = absurd k

says_over : (m n : SegMeta) (s t : Status) → IsDoneWord m s → IsDoneWord n t → compact_text (data_at m s) ≡ compact_text (data_at n t) → is_done_status s ≡ is_done_status t
    → (r : Range) → IsDoneOver r m s → IsDoneOver r n t
says_over m n InProgress t v w same e r k = absurd k
says_over m n Abandoned t v w same e r k = absurd k
says_over m n (Done c) InProgress v w same e r k = absurd (true≢false e)
says_over m n (Done c) Abandoned v w same e r k = absurd (true≢false e)
says_over m n (Done c) (Done d) v w same e r k = same_over m n c d v w same r k

says_same : (a b : Node) → IsNodeWord a → IsNodeWord b → stored_text a ≡ stored_text b → is_done_node a ≡ is_done_node b → (r : Range) → SaysDone r a → SaysDone r b
says_same (node.Meta m) (node.Meta n) v w same e r k = says_over m n m.status n.status v w same e r k
says_same (node.Meta m) (node.Ideal ideal) v w same e r k = absurd (true≢false (sym (over_done r m m.status k) ∙ e))
says_same (node.Meta m) node.Boot v w same e r k = absurd (true≢false (sym (over_done r m m.status k) ∙ e))
says_same (node.Meta m) node.Gone v w same e r k = absurd (true≢false (sym (over_done r m m.status k) ∙ e))
says_same (node.Ideal ideal) b v w same e r k = absurd k
says_same node.Boot b v w same e r k = absurd k
says_same node.Gone b v w same e r k = absurd k

-- ---- a node that is shown

pub same_stored : (e : Event) (s t : Seen) → shown_text e (Some s) ≡ shown_text e (Some t)
    → (decimal s.version ≡ decimal t.version) × (stored_text s.node ++ codes "\n" ≡ stored_text t.node ++ codes "\n")
same_stored e s t same =
    let behind = append_cancel_left (codes " ") _ _ (same_tail e _ _ same) in
    let split = same_decimal s.version t.version (32 ∷ (stored_text s.node ++ codes "\n")) (32 ∷ (stored_text t.node ++ codes "\n")) space space behind in
    (split.0, tails 32 32 _ _ split.1)

module _ (p : Partition) (q : Sequence) where
  apart : AreApart (event.ShowMeta p q)
  apart (came.Replied message reply) is = refl
  apart (came.Started job) is = refl
  apart came.Ignored is = refl
  apart came.Failed is = refl
  apart came.NotServed is = refl
  apart came.NodeDown is = refl
  apart (came.Answered answer) is = refl
  apart (came.Shown None) is = refl
  apart other is = absurd is

  abbrev is_shown : Outcome → Bool
  is_shown (came.Shown seen) = true
  is_shown other = false

  abbrev text : Outcome → List ℕ
  text o = outcome_text (event.ShowMeta p q) o

  abbrev shows_node : List ℕ → Bool
  shows_node xs = (kind_in (event.ShowMeta p q) xs == 5) || begins (codes "nonode") xs

  by_kind : (o : Outcome) → ((kind_of o == 5) || begins (codes "nonode") (text o)) ≡ is_shown o
  by_kind (came.Shown None) = refl
  by_kind (came.Shown (Some seen)) = refl
  by_kind (came.Up None) = refl
  by_kind (came.Up (Some incarnation)) = refl
  by_kind (came.Retired (retire.Deleted sequence)) = refl
  by_kind (came.Retired other) = refl
  by_kind other = refl

  shown_told : (o : Outcome) → shows_node (text o) ≡ is_shown o
  shown_told o = ap (λ (k : ℕ). (k == 5) || begins (codes "nonode") (text o)) (kind_told (event.ShowMeta p q) apart o) ∙ by_kind o

  both_nodes : (s t : Seen) → IsNodeWord s.node → IsNodeWord t.node → text (came.Shown (Some s)) ≡ text (came.Shown (Some t))
      → AreAlike (event.ShowMeta p q) (came.Shown (Some s)) (came.Shown (Some t))
  both_nodes s t v w same =
      let stored = (same_stored (event.ShowMeta p q) s t same).1 in
      let done = sym (done_told s.node) ∙ ap (λ (xs : List ℕ). is_done_key (key_in xs)) stored ∙ done_told t.node in
      let says = says_same s.node t.node v w (append_cancel_right (stored_text s.node) (stored_text t.node) (codes "\n") stored) done in
      record {
        noted = λ notes. ap (λ (b : Bool). committed_if b p q notes) done;
        tells = λ ranges marks notes so. (
          λ has. (says (ranges p q) (so.0 has).0, (so.0 has).1),
          λ is. (says (ranges p q) (so.1 (done ∙ is)).0, (so.1 (done ∙ is)).1),
          so.2,
        );
      }

  own : (a b : Outcome) → is_shown a ≡ true → is_shown b ≡ true → FitsWords (event.ShowMeta p q) a → FitsWords (event.ShowMeta p q) b → text a ≡ text b → AreAlike (event.ShowMeta p q) a b
  own (came.Shown None) (came.Shown None) k l v w same = record { noted = λ notes. refl; tells = λ ranges marks notes so. so }
  own (came.Shown None) (came.Shown (Some t)) k l v w same = absurd (true≢false (ap (begins (codes "nonode")) same))
  own (came.Shown (Some s)) (came.Shown None) k l v w same = absurd (false≢true (ap (begins (codes "nonode")) same))
  own (came.Shown (Some s)) (came.Shown (Some t)) k l v w same = both_nodes s t v w same
  own (came.Shown None) other k l v w same = absurd (false≢true l)
  own (came.Shown (Some s)) other k l v w same = absurd (false≢true l)
  own other b k l v w same = absurd (false≢true k)

  idle : (o : Outcome) → is_shown o ≡ false → IsIdle (event.ShowMeta p q) o
  idle (came.Shown None) e = absurd (true≢false e)
  idle (came.Shown (Some seen)) e = absurd (true≢false e)
  idle other e = record { noted = λ notes. refl; tells = λ ranges marks notes. tt }

  pub nodes_alike : (a b : Outcome) → FitsWords (event.ShowMeta p q) a → FitsWords (event.ShowMeta p q) b → text a ≡ text b → AreAlike (event.ShowMeta p q) a b
  nodes_alike =
      all_alike (event.ShowMeta p q) is_shown (FitsWords (event.ShowMeta p q)) (λ a b same. sym (shown_told a) ∙ ap shows_node same ∙ shown_told b) own idle
