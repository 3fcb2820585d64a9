-- The text of a node that is shown tells all of a segment's metadata.
use Rattle.std.proofs.Common.{◌≡◌, ◌<◌, ◌⊎◌, inr, ℕ, Bool, true, false, List, [], ◌∷◌, ◌++◌, codes, Option, Some, None, refl, sym, ◌∙◌, ap, arith}
use Rattle.std.proofs.lemmas.Bool.{false≢true, true≢false}
use Rattle.std.proofs.lemmas.Fmt.{decimal_injective}
use Rattle.std.proofs.lemmas.List.{append_cancel_right}
use Rattle.std.proofs.lemmas.Option.{same_Some}
use Rattle.hex.specs.Hex.{encode_lower}
use Rattle.rt_base.specs.declared.numbers.Moment.{Moment}
use Rattle.rt_events.specs.declared.event.Event.{Event}
use Rattle.rt_ideal.specs.Text.{with_entries_text}
use Rattle.rt_meta.specs.Text.{data_at, done_data, open_data}
use Rattle.rt_model.specs.declared.commit.Commit.{Commit}
use Rattle.rt_model.specs.declared.node.Node.{Node}
use Rattle.rt_model.specs.declared.node.Node.TheVariants as node
use Rattle.rt_model.specs.declared.node.Seen.{Seen}
use Rattle.rt_model.specs.declared.seg_meta.SegMeta.{SegMeta}
use Rattle.rt_model.specs.declared.status.Status.{Status}
use Rattle.rt_model.specs.declared.status.Status.TheVariants.{Abandoned, Done, InProgress}
use Rattle.rt_play.proofs.TellingEvents.{same_offset}
use Rattle.rt_play.proofs.TellingFronts.{same_number, starts_digit}
use Rattle.rt_play.proofs.TellingNodes.{AreNumbered, end_on, entries_numbered, key_in, member_behind, object_key, path_on, rows_on, same_stored, start_on, status_on, string_split, written_on}
use Rattle.rt_play.proofs.ToldItems.{comma}
use Rattle.rt_play.proofs.ToldNumbers.{heads, tails}
use Rattle.rt_play.specs.AnswerTexts.{IsWord}
use Rattle.rt_play.specs.Telling.{IsNodeFit, IsSeenFit, IsStatusFit, SameCommit, SameNode, SameSeen, SameStatus}
use Rattle.rt_report.specs.BrokerTexts.{shown_text, stored_text}
use Rattle.serde_json.specs.Data.{Data, Members, member, no_members, number, object, string, unsigned}
use Rattle.serde_json.specs.Written.{compact_text, members_text}

same_moment : (a b : Moment) → a.0 ≡ b.0 → a ≡ b
same_moment a b e = let one : ℕ → Moment = λ n. record { 0 = n } in ap one e

-- the end of an object
brace : 125 < 48 ⊎ 57 < 125
brace = inr (omega arith)

-- ---- members, one after the other

string_then : (later : Bool) (k s t : List ℕ) (ms ns : Members) → members_text later (member k (string s) ms) ≡ members_text later (member k (string t) ns)
    → (s ≡ t) × (members_text true ms ≡ members_text true ns)
string_then later k s t ms ns same = string_split s t (members_text true ms) (members_text true ns) (member_behind later k (string s) (string t) ms ns same)

-- a number, behind which there is another member
number_then : (k l : List ℕ) (m n : ℕ) (d e : Data) (ms ns : Members) → IsWord m → IsWord n
    → members_text true (member k (number (unsigned m)) (member l d ms)) ≡ members_text true (member k (number (unsigned n)) (member l e ns))
    → (m ≡ n) × (members_text true (member l d ms) ≡ members_text true (member l e ns))
number_then k l m n d e ms ns v w same =
    same_number m n (members_text true (member l d ms)) (members_text true (member l e ns)) v w comma comma
    (member_behind true k (number (unsigned m)) (number (unsigned n)) (member l d ms) (member l e ns) same)

-- the start, the status and when it was written
record SameRest (m n : SegMeta) (s t : List ℕ) : Type 0 where
  start : m.start ≡ n.start
  status : s ≡ t
  written : m.written ≡ n.written

same_rest : (m n : SegMeta) (s t : List ℕ) → IsWord m.start.0 × IsWord m.written.0 → IsWord n.start.0 × IsWord n.written.0
    → members_text true (start_on m s) ≡ members_text true (start_on n t) → SameRest m n s t
same_rest m n s t v w same =
    let start = number_then (codes "start") (codes "status") m.start.0 n.start.0 (string s) (string t) (written_on m) (written_on n) v.0 w.0 same in
    let status = string_then true (codes "status") s t (written_on m) (written_on n) start.1 in
    let written = same_number m.written.0 n.written.0 (codes "}") (codes "}") v.1 w.1 brace brace
    (member_behind true (codes "written") (number (unsigned m.written.0)) (number (unsigned n.written.0)) no_members no_members status.1) in
    record { start = same_offset m.start n.start start.0; status = status.0; written = same_moment m.written n.written written.0 }

-- ---- a segment

abbrev AreFit : SegMeta → Type 0
AreFit m = IsWord m.start.0 × IsWord m.written.0

module _ (m n : SegMeta) (v : AreFit m) (w : AreFit n) where
  both_done : (c d : Commit) → IsStatusFit (Done c) → IsStatusFit (Done d) → compact_text (done_data m c) ≡ compact_text (done_data n d)
      → (m.name ≡ n.name) × SameCommit c d × SameRest m n (codes "DONE") (codes "DONE")
  both_done c d x y same =
      let digest = string_then false (codes "digest") (encode_lower c.digest) (encode_lower d.digest) (end_on m c) (end_on n d) (tails 123 123 _ _ same) in
      let end = number_then (codes "end") (codes "name") c.end.0 d.end.0 (string m.name) (string n.name) (path_on m c) (path_on n d) x.0 y.0 digest.1 in
      let name = string_then true (codes "name") m.name n.name (path_on m c) (path_on n d) end.1 in
      let path = string_then true (codes "path") c.path d.path (rows_on m c) (rows_on n d) name.1 in
      let rows = number_then (codes "rows") (codes "start") c.rows d.rows (number (unsigned m.start.0)) (number (unsigned n.start.0)) (status_on m (codes "DONE"))
      (status_on n (codes "DONE")) x.1 y.1 path.1 in (
        name.0,
        record { end = same_offset c.end d.end end.0; path = path.0; digest = digest.0; rows = rows.0 },
        same_rest m n (codes "DONE") (codes "DONE") v w rows.1,
      )

  both_open : (s t : List ℕ) → compact_text (open_data m s) ≡ compact_text (open_data n t) → (m.name ≡ n.name) × SameRest m n s t
  both_open s t same =
      let name = string_then false (codes "name") m.name n.name (start_on m s) (start_on n t) (tails 123 123 _ _ same) in
      (name.0, same_rest m n s t v w name.1)

  -- the first key of a segment without a commit isn't that of one with one
  other_key : (k l : List ℕ) (d e : Data) (ms ns : Members) → compact_text (object (member k d ms)) ≡ compact_text (object (member l e ns)) → k ≡ l
  other_key k l d e ms ns same =
      same_Some k l (sym (object_key k d ms (codes "\n")) ∙ ap (λ (xs : List ℕ). key_in (xs ++ codes "\n")) same ∙ object_key l e ns (codes "\n"))

  not_done : (s : List ℕ) (d : Commit) → compact_text (open_data m s) ≡ compact_text (done_data n d) → ⊥
  not_done s d same =
      let keys = other_key (codes "name") (codes "digest") (string m.name) (string (encode_lower d.digest)) (start_on m s) (end_on n d) same in
      omega (arith, heads 110 100 _ _ keys)

  not_open : (c : Commit) (t : List ℕ) → compact_text (done_data m c) ≡ compact_text (open_data n t) → ⊥
  not_open c t same =
      let keys = other_key (codes "digest") (codes "name") (string (encode_lower c.digest)) (string n.name) (end_on m c) (start_on n t) same in
      omega (arith, heads 100 110 _ _ keys)

  other_words : codes "IN_PROGRESS" ≡ codes "ABANDONED" → ⊥
  other_words e = omega (arith, heads 73 65 _ _ e)

  abbrev Same : Status → Status → Type 0
  Same s t = (m.name ≡ n.name) × (m.start ≡ n.start) × SameStatus s t × (m.written ≡ n.written)

  opened : (s t : Status) (a b : List ℕ) → SameStatus s t → (m.name ≡ n.name) × SameRest m n a b → Same s t
  opened s t a b status rest = (rest.0, rest.1.start, status, rest.1.written)

  by_status : (s t : Status) → IsStatusFit s → IsStatusFit t → compact_text (data_at m s) ≡ compact_text (data_at n t) → Same s t
  by_status InProgress InProgress x y same = opened InProgress InProgress (codes "IN_PROGRESS") (codes "IN_PROGRESS") tt (both_open (codes "IN_PROGRESS") (codes "IN_PROGRESS") same)
  by_status InProgress Abandoned x y same = absurd (other_words (both_open (codes "IN_PROGRESS") (codes "ABANDONED") same).1.status)
  by_status InProgress (Done d) x y same = absurd (not_done (codes "IN_PROGRESS") d same)
  by_status Abandoned InProgress x y same = absurd (other_words (sym (both_open (codes "ABANDONED") (codes "IN_PROGRESS") same).1.status))
  by_status Abandoned Abandoned x y same = opened Abandoned Abandoned (codes "ABANDONED") (codes "ABANDONED") tt (both_open (codes "ABANDONED") (codes "ABANDONED") same)
  by_status Abandoned (Done d) x y same = absurd (not_done (codes "ABANDONED") d same)
  by_status (Done c) InProgress x y same = absurd (not_open c (codes "IN_PROGRESS") same)
  by_status (Done c) Abandoned x y same = absurd (not_open c (codes "ABANDONED") same)
  by_status (Done c) (Done d) x y same = let r = both_done c d x y same in (r.0, r.2.start, r.1, r.2.written)

-- ---- a node

-- the text of a segment's node begins with a word, and no other's does
abbrev is_numbered : Option (List ℕ) → Bool
is_numbered None = true
is_numbered (Some key) = starts_digit key

abbrev is_other : Node → Bool
is_other (node.Meta meta) = false
is_other other = true

members_other : (ms : Members) (x : ℕ) → AreNumbered ms → is_numbered (key_in (compact_text (object ms) ++ x ∷ [])) ≡ true
members_other no_members x are = refl
members_other (member k d ms) x are = ap is_numbered (object_key k d ms (x ∷ [])) ∙ are

other_told : (n : Node) → is_numbered (key_in (stored_text n ++ codes "\n")) ≡ is_other n
other_told (node.Meta m) = of_status m.status
  where
    of_status : (s : Status) → is_numbered (key_in (compact_text (data_at m s) ++ codes "\n")) ≡ false
    of_status InProgress = ap is_numbered (object_key (codes "name") (string m.name) (start_on m (codes "IN_PROGRESS")) (codes "\n"))
    of_status (Done commit) = ap is_numbered (object_key (codes "digest") (string (encode_lower commit.digest)) (end_on m commit) (codes "\n"))
    of_status Abandoned = ap is_numbered (object_key (codes "name") (string m.name) (start_on m (codes "ABANDONED")) (codes "\n"))
other_told (node.Ideal ideal) = members_other (with_entries_text no_members ideal.entries) 10 (entries_numbered ideal.entries no_members tt)
other_told node.Boot = refl
other_told node.Gone = refl

same_node : (a b : Node) → IsNodeFit a → IsNodeFit b → stored_text a ≡ stored_text b → is_other a ≡ is_other b → SameNode a b
same_node (node.Meta m) (node.Meta n) v w same e =
    let r = by_status m n (v.0, v.1) (w.0, w.1) m.status n.status v.2 w.2 same in
    record { name = r.0; start = r.1; status = r.2; written = r.3 }
same_node (node.Meta m) other v w same e = absurd (false≢true e)
same_node other (node.Meta n) v w same e = absurd (true≢false e)
same_node a b v w same e = tt

pub same_seen : (event : Event) (s t : Seen) → IsSeenFit s → IsSeenFit t → shown_text event (Some s) ≡ shown_text event (Some t) → SameSeen s t
same_seen event s t v w same =
    let told = same_stored event s t same in
    let others = sym (other_told s.node) ∙ ap (λ (xs : List ℕ). is_numbered (key_in xs)) told.1 ∙ other_told t.node in
    record {
      version = decimal_injective s.version t.version v.0 w.0 told.0;
      node = same_node s.node t.node v.1 w.1 (append_cancel_right (stored_text s.node) (stored_text t.node) (codes "\n") told.1) others;
    }
