-- What servers of a safe world serve of pieces are the stream's rows.
use Rattle.std.proofs.Common.{◌≡◌, ◌<◌, ◌≤◌, ℕ, Bool, true, false, cond, List, [], ◌∷◌, map, Option, Some, None, Result, Ok, Err, IfSome, refl, sym, ap, subst, ◌∙◌, inl, inr}
use Rattle.std.specs.Prelude.{option_and_then, option_map, slice_get, unwrap_or}
use Rattle.std.specs.List.{list_all}
use Rattle.std.proofs.lemmas.Bool.{le-leb}
use Rattle.rt_base.specs.declared.numbers.Instance.{Instance}
use Rattle.rt_base.specs.declared.numbers.Offset.{Offset}
use Rattle.rt_base.specs.declared.numbers.Partition.{Partition}
use Rattle.rt_broker.proofs.Rising.{AreOrdered, ordered_after, plan_ordered}
use Rattle.rt_entry.specs.declared.refused.ServeRefused.{ServeRefused}
use Rattle.rt_entry.specs.declared.served_rows.ServedRows.{ServedRows}
use Rattle.rt_lists.specs.Members.{Has}
use Rattle.rt_model.proofs.Lawful.{nodes_are_in_order}
use Rattle.rt_model.specs.declared.piece.Piece.{Piece}
use Rattle.rt_safety.proofs.Worlds.{served_is_right}
use Rattle.rt_schema.specs.declared.schema.Schema.{Schema}
use Rattle.rt_server.specs.LastingRows.{AreRightRows}
use Rattle.rt_server.specs.Serving.{serve}
use Rattle.rt_store.specs.Contents.{starting_of}
use Rattle.rt_stream.specs.Log.{messages_of}
use Rattle.rt_views.specs.Plans.{assigned_to, ends_behind, first_of, or_else, pieces_now, rows_from}
use Rattle.rt_views.specs.Views.{all_from, found_each, found_whole, is_row_of, rows_if, unfound}
use Rattle.rt_views.specs.declared.found.Found.{Found}
use Rattle.rt_views.proofs.Served.{in_order}
use Rattle.rt_views.proofs.StreamRows.{stream_rows_are}
use Rattle.rt_views.proofs.ViewRows.{if_all}
use Rattle.rt_world.specs.Reading.{rows_by, rows_of_node}
use Rattle.rt_state.specs.IsSafeWorld.{IsSafeWorld}
use Rattle.rt_nodes.specs.declared.server_node.ServerNode.{ServerNode}
use Rattle.rt_state.specs.declared.state.State.{State}

-- ---- a piece of a plan ends behind its start

ordered_end : (end : Option Offset) (start : Offset) (ps : List Piece) → ordered_after end start.0 ps (λ to. AreOrdered to ps) → ends_behind start end ≡ true
ordered_end None start ps o = refl
ordered_end (Some e) start ps o = le-leb start.0 e.0 o.0

ordered_in : (from : ℕ) (ps : List Piece) (piece : Piece) → AreOrdered from ps → Has ps piece → ends_behind piece.start piece.end ≡ true
ordered_in from [] piece o has = absurd has
ordered_in from (p ∷ ps) piece o (inl same) =
    subst (λ (x : Piece). ends_behind x.start x.end ≡ true) same (ordered_end p.end p.start ps o.1)
ordered_in from (p ∷ ps) piece o (inr has) = later p.end o.1 (λ to k. ordered_in to ps piece k has)
  where
    later : (end : Option Offset) → ordered_after end p.start.0 ps (λ to. AreOrdered to ps)
        → ((to : ℕ) → AreOrdered to ps → ends_behind piece.start piece.end ≡ true) → ends_behind piece.start piece.end ≡ true
    later None none further = absurd (subst (λ (xs : List Piece). Has xs piece) none has)
    later (Some e) k further = further e.0 k.1

pub plan_now_ordered : (w : State) (p : Partition) → IsSafeWorld w → p.0 < w.setup.partitions → AreOrdered 0 (pieces_now w p)
plan_now_ordered w p s within = plan_ordered w.store.writes p (nodes_are_in_order (starting_of w.setup) w.store.writes s.safe.past.lawful p within)

pub none_left_out : (w : State) (p : Partition) (piece : Piece) (i : Instance) → IsSafeWorld w → p.0 < w.setup.partitions → Has (pieces_now w p) piece
    → rows_from w piece i ≡ rows_of_node (slice_get w.servers i.0) piece
none_left_out w p piece i s within has =
    ap (λ b. cond b (rows_of_node (slice_get w.servers i.0) piece) None) (ordered_in 0 (pieces_now w p) piece (plan_now_ordered w p s within) has)

-- ---- what is served is right

abbrev IsRight : State → Piece → ServedRows → Type 0
IsRight w piece served = AreRightRows w.setup.schema (messages_of w.log piece.partition) piece served

pub node_right : (w : State) (piece : Piece) (i : Instance) → IsSafeWorld w → IfSome piece.end (λ end. piece.start.0 ≤ end.0)
    → IfSome (rows_of_node (slice_get w.servers i.0) piece) (IsRight w piece)
node_right w piece i s order = by_node (slice_get w.servers i.0) refl
  where
    by_answer : (n : ServerNode) → slice_get w.servers i.0 ≡ Some n → (r : Result ServedRows ServeRefused) → serve n.server.table piece ≡ r → IfSome (rows_by r) (IsRight w piece)
    by_answer n there (Ok served) e = served_is_right w i n s there piece served order e
    by_answer n there (Err refused) e = tt

    by_up : (n : ServerNode) → slice_get w.servers i.0 ≡ Some n → (b : Bool) → IfSome (cond b (rows_by (serve n.server.table piece)) None) (IsRight w piece)
    by_up n there true = by_answer n there (serve n.server.table piece) refl
    by_up n there false = tt

    by_node : (o : Option ServerNode) → slice_get w.servers i.0 ≡ o → IfSome (rows_of_node o piece) (IsRight w piece)
    by_node None there = tt
    by_node (Some n) there = by_up n there n.up

pub from_right : (w : State) (piece : Piece) (i : Instance) → IsSafeWorld w → IfSome (rows_from w piece i) (IsRight w piece)
from_right w piece i s = by_order (ends_behind piece.start piece.end) refl
  where
    by_order : (b : Bool) → ends_behind piece.start piece.end ≡ b → IfSome (cond b (rows_of_node (slice_get w.servers i.0) piece) None) (IsRight w piece)
    by_order true e = node_right w piece i s (in_order piece.start piece.end e)
    by_order false e = tt

pub served_rows_count : (schema : Schema) (messages : List (List ℕ)) (piece : Piece) (served : ServedRows) → AreRightRows schema messages piece served
    → rows_if schema (Some served) ≡ served.rows
served_rows_count schema messages piece served right =
    sym (if_all schema (Some served) served refl
    (ap (list_all (is_row_of schema)) right.rows ∙ stream_rows_are schema messages served.range.start.0 served.range.end.0))

-- ---- the first server that has something

first_right : {X : Type 0} (P : X → Type 0) (f : Instance → Option X) (is : List Instance) → ((i : Instance) → IfSome (f i) P) → IfSome (first_of f is) P
first_right P f [] each = tt
first_right {X = X} P f (i ∷ is) each = by_first (f i) (each i) (first_of f is) (first_right P f is each)
  where
    by_first : (o : Option X) → IfSome o P → (later : Option X) → IfSome later P → IfSome (or_else o later) P
    by_first None k later l = l
    by_first (Some x) k later l = k

-- ---- what is found

-- what was found of each piece is the stream's
abbrev pub AreRight : State → List Found → Type 0
AreRight w [] = Unit {0}
AreRight w (f ∷ fs) = IfSome f.rows (IsRight w f.piece) × AreRight w fs

-- of all these pieces something was looked for, and what was found is the stream's
pub record AreFound (w : State) (ps : List Piece) (fs : List Found) : Type 0 where
  pub pieces : map (λ f. f.piece) fs ≡ ps
  pub right : AreRight w fs

pub each_found : (w : State) (p : Partition) (ps : List Piece) → IsSafeWorld w → AreFound w ps (map (found_each w p) ps)
each_found w p [] s = record { pieces = refl; right = tt }
each_found w p (piece ∷ ps) s =
    let rest = each_found w p ps s in
    record {
      pieces = ap (λ (xs : List Piece). piece ∷ xs) rest.pieces;
      right = (first_right (IsRight w piece) (rows_from w piece) (assigned_to w p) (λ i. from_right w piece i s), rest.right);
    }

none_found : (w : State) (ps : List Piece) → AreFound w ps (map unfound ps)
none_found w [] = record { pieces = refl; right = tt }
none_found w (piece ∷ ps) =
    let rest = none_found w ps in
    record { pieces = ap (λ (xs : List Piece). piece ∷ xs) rest.pieces; right = (tt, rest.right) }

all_found : (w : State) (i : Instance) (ps : List Piece) → IsSafeWorld w → IfSome (all_from w ps i) (AreFound w ps)
all_found w i [] s = record { pieces = refl; right = tt }
all_found w i (piece ∷ ps) s = by_first (rows_from w piece i) (from_right w piece i s) (all_from w ps i) (all_found w i ps s)
  where
    by_first : (o : Option ServedRows) → IfSome o (IsRight w piece) → (rest : Option (List Found)) → IfSome rest (AreFound w ps)
        → IfSome (option_and_then (λ (y : Found). option_map (λ (ys : List Found). y ∷ ys) rest) (option_map (λ (rows : ServedRows). record { piece = piece; rows = Some rows }) o)) (AreFound w (piece ∷ ps))
    by_first None k rest l = tt
    by_first (Some served) k None l = tt
    by_first (Some served) k (Some fs) l = record { pieces = ap (λ (xs : List Piece). piece ∷ xs) l.pieces; right = (k, l.right) }

pub whole_found : (w : State) (p : Partition) → IsSafeWorld w → AreFound w (pieces_now w p) (found_whole w p)
whole_found w p s =
    by_first (first_of (all_from w (pieces_now w p)) (assigned_to w p))
    (first_right (AreFound w (pieces_now w p)) (all_from w (pieces_now w p)) (assigned_to w p) (λ i. all_found w i (pieces_now w p) s))
  where
    by_first : (o : Option (List Found)) → IfSome o (AreFound w (pieces_now w p)) → AreFound w (pieces_now w p) (unwrap_or o (map unfound (pieces_now w p)))
    by_first None k = none_found w (pieces_now w p)
    by_first (Some fs) k = k

-- ---- the law of one piece

pub taken_is_right : (w : State) (piece : Piece) (i : Instance) (served : ServedRows) → IsSafeWorld w → rows_from w piece i ≡ Some served
    → AreRightRows w.setup.schema (messages_of w.log piece.partition) piece served
taken_is_right w piece i served s is = subst (λ (o : Option ServedRows). IfSome o (IsRight w piece)) is (from_right w piece i s)

pub taken_is_counted : (w : State) (piece : Piece) (i : Instance) (served : ServedRows) → IsSafeWorld w → rows_from w piece i ≡ Some served
    → rows_if w.setup.schema (Some served) ≡ served.rows
taken_is_counted w piece i served s is = served_rows_count w.setup.schema (messages_of w.log piece.partition) piece served (taken_is_right w piece i served s is)
