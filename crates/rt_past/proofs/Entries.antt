-- The steps of the ideal state keep its entries right.
use Rattle.std.proofs.Common.{◌<◌, refl, Bool, true, false, cond, inl, inr, List, [], ◌∷◌, subst, not}
use Rattle.std.specs.Prelude.{map}
use Rattle.rt_base.specs.declared.numbers.Instance.{Instance}
use Rattle.rt_base.specs.declared.numbers.Partition.{Partition}
use Rattle.rt_base.specs.declared.numbers.Sequence.{Sequence}
use Rattle.rt_lists.specs.Members.{Has}
use Rattle.rt_lists.proofs.Members.{Has-filter, Has-map}
use Rattle.rt_model.specs.declared.ideal_state.IdealEntry.{IdealEntry}
use Rattle.rt_model.specs.declared.ideal_state.Mode.TheVariants.{Online}
use Rattle.rt_model.specs.declared.setup.Setup.{Setup}
use Rattle.rt_model.specs.Ideal.{is_of, is_of_instance, is_before, has_entry, goes_on, offline_mode, with_entry, consuming, with_consuming, turned_online, turned_offline, next_sequence, commit_step_of, add_consuming_of, set_offline_of, remove_segment_of}
use Rattle.rt_assign.specs.Placement.{replicas_of}
use Rattle.rt_past.specs.Writes.{IsRightEntry, AreRightEntries}

abbrev Each : (IdealEntry → Type 0) → List IdealEntry → Type 0
Each P es = (e : IdealEntry) → Has es e → P e

each_at : (P : IdealEntry → Type 0) (x d : IdealEntry) (es : List IdealEntry) → P x → Each P (d ∷ es) → Each P (with_entry x es)
    → (b : Bool) → Each P (cond b (x ∷ d ∷ es) (d ∷ with_entry x es))
each_at P x d es px all further true e (inl same) = subst P same px
each_at P x d es px all further true e (inr h) = all e h
each_at P x d es px all further false e (inl same) = all e (inl same)
each_at P x d es px all further false e (inr h) = further e h

each_with : (P : IdealEntry → Type 0) (x : IdealEntry) (es : List IdealEntry) → P x → Each P es → Each P (with_entry x es)
each_with P x [] px all e (inl same) = subst P same px
each_with P x [] px all e (inr h) = absurd h
each_with P x (d ∷ es) px all e h =
    each_at P x d es px all (each_with P x es px (λ f has. all f (inr has))) (is_before x d) e h

pub each_consuming : (P : IdealEntry → Type 0) (es : List IdealEntry) (p : Partition) (s : Sequence) (is : List Instance)
    → ((i : Instance) → Has is i → P (consuming p s i)) → Each P es → Each P (with_consuming es p s is)
each_consuming P es p s [] new all = all
each_consuming P es p s (i ∷ is) new all =
    let inl_same : Has (i ∷ is) i = inl refl in
    each_with P (consuming p s i) (with_consuming es p s is) (new i inl_same)
    (each_consuming P es p s is (λ j has. new j (inr has)) all)

either : (P : IdealEntry → Type 0) (b : Bool) (xs ys : List IdealEntry) → Each P xs → Each P ys → Each P (cond b xs ys)
either P true xs ys f g = f
either P false xs ys f g = g

one_of : (setup : Setup) (b : Bool) (x y : IdealEntry) → IsRightEntry setup x → IsRightEntry setup y → IsRightEntry setup (cond b x y)
one_of setup true x y f g = f
one_of setup false x y f g = g

each_map : (setup : Setup) (f : IdealEntry → IdealEntry) (es : List IdealEntry) → ((e : IdealEntry) → IsRightEntry setup e → IsRightEntry setup (f e))
    → AreRightEntries setup es → AreRightEntries setup (map f es)
each_map setup f es keeps all e h =
    let r = Has-map f es e h in
    subst (IsRightEntry setup) r.2 (keeps r.0 (all r.0 r.1))

abbrev assigned : Setup → Partition → List Instance
assigned setup p = replicas_of p setup.table.replication setup.servers

pub consuming_right : (setup : Setup) (es : List IdealEntry) (p : Partition) (s : Sequence) → p.0 < setup.partitions
    → AreRightEntries setup es → AreRightEntries setup (with_consuming es p s (assigned setup p))
consuming_right setup es p s within all =
    each_consuming (IsRightEntry setup) es p s (assigned setup p) (λ i has. (within, has)) all

online_right : (setup : Setup) (p : Partition) (s : Sequence) (e : IdealEntry) → IsRightEntry setup e → IsRightEntry setup (turned_online p s e)
online_right setup p s e r = one_of setup (is_of p s e) (record e { mode = Online }) e r r

pub commit_right : (setup : Setup) (es : List IdealEntry) (p : Partition) (s : Sequence) → p.0 < setup.partitions
    → AreRightEntries setup es → AreRightEntries setup (commit_step_of es p s (assigned setup p))
commit_right setup es p s within all =
    let P = IsRightEntry setup in
    let online = map (turned_online p s) es in
    let turned : AreRightEntries setup online = each_map setup (turned_online p s) es (online_right setup p s) all in
    let new = with_consuming online p (next_sequence s) (assigned setup p) in
    either P (has_entry es p s) (cond (has_entry es p (next_sequence s)) online new) es
    (either P (has_entry es p (next_sequence s)) online new turned (consuming_right setup online p (next_sequence s) within turned)) all

pub add_right : (setup : Setup) (es : List IdealEntry) (p : Partition) (s : Sequence) → p.0 < setup.partitions
    → AreRightEntries setup es → AreRightEntries setup (add_consuming_of es p s (assigned setup p))
add_right setup es p s within all =
    let P = IsRightEntry setup in
    let new = with_consuming es p s (assigned setup p) in
    either P (has_entry es p s) es (cond (goes_on es p s.0) new es) all
    (either P (goes_on es p s.0) new es (consuming_right setup es p s within all) all)

pub offline_right : (setup : Setup) (es : List IdealEntry) (p : Partition) (s : Sequence) (i : Instance)
    → AreRightEntries setup es → AreRightEntries setup (set_offline_of es p s i)
offline_right setup es p s i all =
    each_map setup (turned_offline p s i) es
    (λ e r. one_of setup (is_of_instance p s i e) (record e { mode = offline_mode e.mode }) e r r) all

pub remove_right : (setup : Setup) (es : List IdealEntry) (p : Partition) (s : Sequence)
    → AreRightEntries setup es → AreRightEntries setup (remove_segment_of es p s)
remove_right setup es p s all e h = all e (Has-filter (λ x. not (is_of p s x)) es e h).0
