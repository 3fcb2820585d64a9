-- The lists of segments that a server has something to do for, ascending.
use Rattle.std.specs.Prelude.{Bool, List, [], ◌∷◌, if◌then◌else◌, Option, Some, None}
use Rattle.std.specs.Borrow.{Bor}
use Rattle.std.specs.BTreeSet.{insert_key}
use Rattle.std.specs.List.{filter}
use Rattle.std.specs.Map.{keys_of}
use Rattle.std.specs.Map.Iter.{deref_pair}
use Rattle.std.specs.Ordering.{match_ordering}
use Rattle.rt_model.specs.declared.ideal_state.Mode.{Mode}
use Rattle.rt_entry.specs.declared.entry.Entry.{Entry}
use Rattle.rt_server.specs.Table.{Segment, Segments, segment_cmp}
use Rattle.rt_server.specs.Transition.{transit_due}
use Rattle.rt_entry.specs.Entry.{is_replica, is_wanting}
use Rattle.rt_entry.specs.Transition.{is_due}

abbrev pub segments_where : (Entry → Bool) → List (Segment × Entry) → List Segment
segments_where test entries = keys_of (filter (λ e. test e.1) entries)

-- those that have a replica
abbrev pub held_of : Segments → List Segment
held_of t = segments_where is_replica t.entries

-- those whose file is wanted
abbrev pub wanted_of : Segments → List Segment
wanted_of t = segments_where is_wanting t.entries

-- those of some segments whose transition is due, each in its place among those found before
abbrev pub due_among : Segments → List Segment → List Segment → List Segment
due_among t [] found = found
due_among t (s ∷ ss) found = due_among t ss (if transit_due t s.0 s.1 then insert_key segment_cmp found s else found)

-- those whose transition is due
abbrev pub due_of : Segments → List Segment
due_of t = due_among t (keys_of t.targets) (due_among t (keys_of t.entries) [])

-- ---- the same by one walk of targets and entries side by side

-- a segment, where it is due, before others
abbrev pub due_before : Bool → Segment → List Segment → List Segment
due_before due s rest = if due then s ∷ rest else rest

-- the entries before a target have none; `rest` is what is due of the later targets and some entries
abbrev pub due_from : Segment × Mode → (List (Segment × Entry) → List Segment) → List (Segment × Entry) → List Segment
due_from t rest [] = due_before (is_due (Some t.1) None) t.0 (rest [])
due_from t rest (e ∷ es) =
    match_ordering (segment_cmp t.0 e.0)
    (due_before (is_due (Some t.1) None) t.0 (rest (e ∷ es)))
    (due_before (is_due (Some t.1) (Some e.1)) t.0 (rest es))
    (due_before (is_due None (Some e.1)) e.0 (due_from t rest es))

abbrev pub due_merged : List (Segment × Mode) → List (Segment × Entry) → List Segment
due_merged [] es = keys_of es
due_merged (t ∷ ts) es = due_from t (due_merged ts) es

-- what is left of a walk of a map, with its next
abbrev pub left : {K X : Type 0} → Option (Bor K × Bor X) → List (K × X) → List (K × X)
left None later = []
left (Some next) later = deref_pair next ∷ later
