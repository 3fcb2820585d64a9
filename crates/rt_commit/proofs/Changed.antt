-- What a set that found another version shows, and that none is found after a segment's Done metadata.
use Rattle.std.proofs.Common.{◌≡◌, ◌⊎◌, inl, inr, ℕ, ◌<◌, ◌≤◌, ◌==◌, Bool, true, false, cond, List, [], ◌∷◌, ◌++◌, length, map, Option, Some, None, Result, Err, refl, sym, ◌∙◌, ap, subst, arith, get_or, ⊎_elim}
use Rattle.std.specs.Prelude.{All}
use Rattle.std.proofs.lemmas.Bool.{cases_lt, eq-eqb, false≢true}
use Rattle.std.proofs.lemmas.List.{get_or-map, length-map, map-append}
use Rattle.std.proofs.lemmas.List.Elements.{All-push, All-get_or, All-nil}
use Rattle.std.proofs.lemmas.List.Quantifiers.{all_pairs_push}
use Rattle.std.proofs.lemmas.Option.{none-some, same_Some, slice_get_within}
use Rattle.rt_base.proofs.Planned.{without_fault}
use Rattle.rt_base.specs.declared.numbers.Partition.{Partition}
use Rattle.rt_lists.specs.Members.{Has}
use Rattle.rt_lists.proofs.Members.{Has-place, Has-same}
use Rattle.rt_model.specs.declared.node.Key.{Key}
use Rattle.rt_model.specs.declared.node.Key.TheVariants as key
use Rattle.rt_model.specs.declared.node.Node.{Node}
use Rattle.rt_model.specs.declared.node.Node.TheVariants as node
use Rattle.rt_model.specs.declared.node.Seen.{Seen}
use Rattle.rt_model.specs.History.{IsVersioned, last_write, value_by, value_in, value_of, writes_of}
use Rattle.rt_model.specs.Laws.{IsGoneLast}
use Rattle.rt_model.specs.Lawful.{Write, set, create_after, written_by, IsLawfulHistory}
use Rattle.rt_model.specs.Metadata.{IsDone, node_key}
use Rattle.rt_model.specs.Starting.{Starting}
use Rattle.rt_model.proofs.Chains.{IsDone-final}
use Rattle.rt_model.proofs.Histories.{Has-writes_of, last_of-place, value_of-last}
use Rattle.rt_model.proofs.Lawful.{has_endings, versions_count_writes}
use Rattle.rt_store.specs.declared.refused.StoreRefused.{StoreRefused}
use Rattle.rt_store.specs.declared.refused.StoreRefused.TheVariants.{NoNode, VersionChanged, Failed}
use Rattle.rt_store.specs.Answers.{change_in, presence_in, first_of, refusal_of, answer_by, answer_of, after_call}
use Rattle.rt_store.specs.Calls.{Calls, SetsFrom, CreatesAfter}
use Rattle.rt_store.specs.Meaning.{Meaning}
use Rattle.rt_store.proofs.Told.{refused_nothing}
use Rattle.rt_commit.specs.Lasting.{WasIdeal, Try, IsTry, AreTries}

-- ---- the value has the greatest version

pub value_latest : (h : List Seen) (k : Key) (w v : Seen) → IsVersioned h → Has h w → w.key ≡ k → value_of h k ≡ Some v → w.version ≤ v.version
value_latest h k w v versions has of value =
    let at = Has-place (writes_of h k) w (Has-writes_of h w k has of) in
    let last = last_of-place (writes_of h k) v (value_of-last h k v value).0 in
    omega (
      arith,
      versions k at.0 w at.1,
      versions k last.0 v last.2,
      slice_get_within (writes_of h k) at.0 w at.1,
      last.1,
    )

-- ---- a refusal by another version

abbrev refused_as : {X : Type 0} → StoreRefused → Result X StoreRefused
refused_as e = Err e

abbrev some_refusal : StoreRefused → Option StoreRefused
some_refusal e = Some e

refused_by : {X : Type 0} (o : Option StoreRefused) (x : X) (e : StoreRefused) → refused_as e ≡ answer_by o x → o ≡ some_refusal e
refused_by None x e f = absurd (cc)
refused_by (Some refused) x e f = cc

changed_told : {X : Type 0} (tell : Seen → X) (old new : Meaning) (call : Write) (expected found : ℕ)
    (c : Calls old new (answer_of tell call) (after_call call) (refused_as (VersionChanged expected found)))
    → refusal_of c.base call ≡ some_refusal (VersionChanged expected found)
changed_told tell old new call expected found c =
    refused_by (refusal_of c.base call) (tell (written_by c.base call)) (VersionChanged expected found)
    (without_fault Failed c.fault (answer_of tell call c.base) (refused_as (VersionChanged expected found)) c.base (after_call call c.base) new.seen
    (λ e. cc) c.goes.answered c.goes.seen).0

-- the key that was set has another version than the write that was read
pub record IsChanged (h : List Seen) (k : Key) (read expected found : ℕ) : Type 0 where
  pub there : Seen
  pub value : value_of h k ≡ Some there
  pub is_found : there.version ≡ found
  pub is_expected : read ≡ expected
  pub differs : expected ≡ found → ⊥

changed_in : (h : List Seen) (k : Key) (read expected found : ℕ) (o : Option Seen) → value_of h k ≡ o
    → change_in read o ≡ some_refusal (VersionChanged expected found) → IsChanged h k read expected found
changed_in h k read expected found None v e = absurd (cc)
changed_in h k read expected found (Some w) v e = by_test (w.version == read) refl e
  where
    by_test :
        (b : Bool) → (w.version == read) ≡ b → cond b None (some_refusal (VersionChanged read w.version)) ≡ some_refusal (VersionChanged expected found)
        → IsChanged h k read expected found
    by_test true is f = absurd (cc)
    by_test false is f =
        let first : read ≡ expected = cc in
        let second : w.version ≡ found = cc in
        record {
          there = w;
          value = v;
          is_found = second;
          is_expected = first;
          differs = λ same. false≢true (sym is ∙ eq-eqb w.version read (second ∙ sym same ∙ sym first));
        }

pub set_changed : (old new : Meaning) (from : Seen) (n : Node) (expected found : ℕ) → SetsFrom old new from n (Err (VersionChanged expected found))
    → IsChanged new.seen from.key from.version expected found
set_changed old new from n expected found c =
    let told = changed_told (λ w. w.version) old new (set from n) expected found c in
    let same = refused_nothing (λ w. w.version) old new (set from n) (VersionChanged expected found) c (λ e. cc) in
    subst (λ (h : List Seen). IsChanged h from.key from.version expected found) (sym same)
    (changed_in c.base from.key from.version expected found (value_of c.base from.key) refl told)

-- ---- a refusal since the node is gone

gone_in : (read : ℕ) (o : Option Seen) → change_in read o ≡ some_refusal NoNode → o ≡ None
gone_in read None e = refl
gone_in read (Some w) e = absurd (by_test (w.version == read) e)
  where
    by_test : (b : Bool) → cond b None (some_refusal (VersionChanged read w.version)) ≡ some_refusal NoNode → ⊥
    by_test true f = cc
    by_test false f = cc

pub set_gone : (old new : Meaning) (from : Seen) (n : Node) → SetsFrom old new from n (Err NoNode) → value_of new.seen from.key ≡ None
set_gone old new from n c =
    let call = set from n in
    let told =
    refused_by (refusal_of c.base call) (written_by c.base call).version NoNode
    (without_fault Failed c.fault (answer_of (λ w. w.version) call c.base) (refused_as NoNode) c.base (after_call call c.base) new.seen (λ e. cc)
    c.goes.answered c.goes.seen).0 in
    let same = refused_nothing (λ w. w.version) old new call NoNode c (λ e. cc) in
    ap (λ (h : List Seen). value_of h from.key) same ∙ gone_in from.version (value_of c.base from.key) told

-- ---- a later version

-- what is found in place of what was read is later, since that has the greatest version of its time
pub set_later : (old new : Meaning) (from : Seen) (n : Node) (expected found : ℕ) → IsVersioned new.seen → Has new.seen from
    → SetsFrom old new from n (Err (VersionChanged expected found)) → expected < found
set_later old new from n expected found versions has c =
    let change = set_changed old new from n expected found c in
    let latest = value_latest new.seen from.key from change.there versions has refl change.value in
    less expected found (omega (arith, latest, change.is_found, change.is_expected)) change.differs
  where
    less : (a b : ℕ) → a ≤ b → (a ≡ b → ⊥) → a < b
    less a b le ne = ⊎_elim (λ lt. lt) (λ ge. absurd (ne (omega (arith, le, ge)))) (cases_lt a b)

-- ---- the Done metadata of a segment stays

change_first : (a b : Option StoreRefused) (expected found : ℕ) → (b ≡ some_refusal (VersionChanged expected found) → ⊥)
    → first_of a b ≡ some_refusal (VersionChanged expected found) → a ≡ some_refusal (VersionChanged expected found)
change_first None b expected found never e = absurd (never e)
change_first (Some refused) b expected found never e = e

presence_other : (o : Option Seen) (expected found : ℕ) → presence_in o ≡ some_refusal (VersionChanged expected found) → ⊥
presence_other None expected found e = cc
presence_other (Some w) expected found e = cc

value_done : (w : Seen) → IsDone w.node → value_by w.node w ≡ Some w
value_done w d = by_node w.node w d
  where
    by_node : (n : Node) (w : Seen) → IsDone n → value_by n w ≡ Some w
    by_node (node.Meta m) w d = refl
    by_node (node.Ideal i) w d = absurd d
    by_node node.Boot w d = absurd d
    by_node node.Gone w d = absurd d

gone_none : (o : Option Seen) (g w : Seen) → o ≡ Some g → g.node ≡ node.Gone → value_in o ≡ Some w → ⊥
gone_none o g w e gone v = absurd (none-some w (sym (ap value_in e ∙ ap (λ n. value_by n g) gone) ∙ v))

-- so whatever comes after it finds its version, or finds it gone
pub done_stays : (s : Starting) (h : List Seen) (p : Partition) (q : ℕ) (done w : Seen) → p.0 < s.partitions → IsLawfulHistory s h → Has h done
    → done.key ≡ node_key p q → IsDone done.node → value_of h (node_key p q) ≡ Some w → w ≡ done
done_stays s h p q done w within l has of is v =
    by_cases ((has_endings s h l p q within).stays done (record { has = has; is_of = of; final = IsDone-final done.node is }))
  where
    by_cases : (last_write h (node_key p q) ≡ Some done) ⊎ IsGoneLast h p q → w ≡ done
    by_cases (inl e) = same_Some w done (sym v ∙ ap value_in e ∙ value_done done is)
    by_cases (inr g) = absurd (gone_none (last_write h (node_key p q)) g.0 w g.1 g.2 v)

pub next_unchanged : (s : Starting) (old new : Meaning) (p : Partition) (q : ℕ) (k : Key) (n : Node) (done : Seen) (expected found : ℕ)
    → p.0 < s.partitions → IsLawfulHistory s new.seen → Has new.seen done → done.key ≡ node_key p q → IsDone done.node
    → CreatesAfter old new k n done (Err (VersionChanged expected found)) → ⊥
next_unchanged s old new p q k n done expected found within l has of is c =
    let call = create_after k n done in
    let told = changed_told (λ w. tt) old new call expected found c in
    let change = change_first (change_in done.version (value_of c.base done.key)) (presence_in (value_of c.base k)) expected found
    (presence_other (value_of c.base k) expected found) told in
    let same = refused_nothing (λ w. tt) old new call (VersionChanged expected found) c (λ e. cc) in
    let at = changed_in c.base done.key done.version expected found (value_of c.base done.key) refl change in
    let lawful = subst (IsLawfulHistory s) same l in
    let there = Has-same new.seen c.base done same has in
    let value : value_of c.base (node_key p q) ≡ Some at.there = ap (value_of c.base) (sym of) ∙ at.value in
    let stays = done_stays s c.base p q done at.there within lawful there of is value in
    at.differs (sym at.is_expected ∙ ap (λ (w : Seen). w.version) (sym stays) ∙ at.is_found)

-- ---- one version more was found

abbrev found_of : Try → ℕ
found_of t = t.found

-- what a job holds is no newer than the value
pub was_before : (s : Starting) (h : List Seen) (version : ℕ) (w : Seen) → IsLawfulHistory s h → WasIdeal h version → value_of h key.Ideal ≡ Some w
    → version ≤ w.version
was_before s h version w l (v, is, e) value =
    omega (arith, e, value_latest h key.Ideal v w (versions_count_writes s h l) is.has is.is_ideal value)

tries_before : (tries : List Try) (versions : List ℕ) (limit : ℕ) → map found_of tries ≡ versions → All (λ version. version ≤ limit) versions
    → (i : ℕ) (d : Try) → i < length tries → (get_or tries i d).found ≤ limit
tries_before tries versions limit e few i d lt =
    let P : ℕ → Type 0 = λ n. n ≤ limit in
    let all : All P (map found_of tries) = subst (All P) (sym e) few in
    let here = All-get_or P (map found_of tries) i 0 (omega (arith, lt, length-map tries found_of)) all in
    subst P (get_or-map found_of tries i d 0 lt) here

pub more_tries : (h : List Seen) (versions : List ℕ) (expected found : ℕ) → AreTries h versions → All (λ version. version ≤ expected) versions
    → WasIdeal h expected → WasIdeal h found → expected < found → AreTries h (versions ++ found ∷ [])
more_tries h versions expected found k before read there later =
    let t : Try = record { expected = expected; found = found } in
    record {
      tries = k.tries ++ t ∷ [];
      found = map-append found_of k.tries (t ∷ []) ∙ ap (λ xs. xs ++ found ∷ []) k.found;
      each = All-push (IsTry h) k.tries t k.each (record { expected = read; found = there; later = later });
      ordered =
          all_pairs_push (λ (a b : Try). a.found ≤ b.expected) k.tries t k.ordered
          (λ i d lt. tries_before k.tries versions expected k.found before i d lt);
    }

-- and each that was found is a version of the ideal state
pub found_before : (s : Starting) (h : List Seen) (versions : List ℕ) (w : Seen) → IsLawfulHistory s h → AreTries h versions
    → value_of h key.Ideal ≡ Some w → All (λ version. version ≤ w.version) versions
found_before s h versions w l k value =
    let P : ℕ → Type 0 = λ n. n ≤ w.version in
    subst (All P) k.found
    (λ i d lt.
    let inside : i < length k.tries = omega (arith, lt, length-map k.tries found_of) in
    let none : Try = record { expected = 0; found = 0 } in
    let at = (All-get_or (IsTry h) k.tries i none inside k.each).found in
    subst P (sym (get_or-map found_of k.tries i none d inside)) (was_before s h (get_or k.tries i none).found w l at value))

-- ---- what lasts beside what was read

pub no_tries : (h : List Seen) → AreTries h []
no_tries h =
    record { tries = []; found = refl; each = All-nil _; ordered = λ i j d lt within. absurd (omega (arith, within)) }
