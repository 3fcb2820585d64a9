-- What each step of the ideal state does to its entries.
use Rattle.std.proofs.Common.{◌≡◌, ℕ, ◌+◌, ◌<◌, ◌≤◌, Bool, true, false, cond, ◌==◌, ◌⊎◌, inl, inr, List, [], ◌∷◌, refl, sym, ◌∙◌, ap, subst, arith}
use Rattle.std.proofs.lemmas.Bool.{eqb-true, eq-eqb, both_ways, cases_eq, or_cases, or_left, or_right, and_parts, and_from}
use Rattle.rt_base.specs.declared.numbers.Partition.{Partition}
use Rattle.rt_base.specs.declared.numbers.Sequence.{Sequence}
use Rattle.rt_base.specs.declared.numbers.Instance.{Instance}
use Rattle.rt_model.specs.declared.ideal_state.IdealEntry.{IdealEntry}
use Rattle.rt_model.specs.declared.ideal_state.Mode.TheVariants.{Consuming}
use Rattle.rt_model.specs.Ideal.{is_of, has_entry, is_before, with_entry, with_consuming}
use Rattle.rt_lists.specs.Members.{Has}
use Rattle.rt_model.proofs.Histories.{same_partition}

-- ---- an entry of a segment, by itself

abbrev pub Names : List IdealEntry → Partition → ℕ → Type 0
Names es p s = (e : IdealEntry) × Has es e × (e.partition ≡ p) × (e.sequence.0 ≡ s)

pub is_of-true : (p : Partition) (s : Sequence) (e : IdealEntry) → is_of p s e ≡ true → (e.partition ≡ p) × (e.sequence.0 ≡ s.0)
is_of-true p s e h =
    let both = and_parts (e.partition.0 == p.0) (e.sequence.0 == s.0) h in
    (same_partition e.partition p (eqb-true e.partition.0 p.0 both.0), eqb-true e.sequence.0 s.0 both.1)

pub is_of-same :
    (p : Partition) (s : Sequence) (e : IdealEntry) → e.partition ≡ p → e.sequence.0 ≡ s.0 → is_of p s e ≡ true
is_of-same p s e same_p same_s =
    and_from
    (e.partition.0 == p.0)
    (e.sequence.0 == s.0)
    (eq-eqb e.partition.0 p.0 (ap (λ (x : Partition). x.0) same_p))
    (eq-eqb e.sequence.0 s.0 same_s)

names_more : (e : IdealEntry) (es : List IdealEntry) (p : Partition) (s : ℕ) → Names es p s → Names (e ∷ es) p s
names_more e es p s (d, has, same_p, same_s) = (d, inr has, same_p, same_s)

entry_names_at :
    (e : IdealEntry) (es : List IdealEntry) (p : Partition) (s : Sequence)
    → (has_entry es p s ≡ true → Names es p s.0)
    → (is_of p s e ≡ true) ⊎ (has_entry es p s ≡ true) → Names (e ∷ es) p s.0
entry_names_at e es p s further (inl h) = let r = is_of-true p s e h in (e, inl refl, r.0, r.1)
entry_names_at e es p s further (inr h) = names_more e es p s.0 (further h)

pub entry_names : (es : List IdealEntry) (p : Partition) (s : Sequence) → has_entry es p s ≡ true → Names es p s.0
entry_names [] p s h = absurd (both_ways false refl h)
entry_names (e ∷ es) p s h =
    entry_names_at e es p s (entry_names es p s) (or_cases (is_of p s e) (has_entry es p s) h)

pub names_entry : (es : List IdealEntry) (p : Partition) (s : Sequence) → Names es p s.0 → has_entry es p s ≡ true
names_entry [] p s (e, has, same_p, same_s) = absurd has
names_entry (d ∷ es) p s (e, inl same, same_p, same_s) =
    or_left (is_of p s d) (has_entry es p s)
    (is_of-same p s d
    (ap (λ (x : IdealEntry). x.partition) same ∙ same_p)
    (ap (λ (x : IdealEntry). x.sequence.0) same ∙ same_s))
names_entry (d ∷ es) p s (e, inr has, same_p, same_s) =
    or_right (is_of p s d) (has_entry es p s) (names_entry es p s (e, has, same_p, same_s))

-- ---- the lists

with_entry_at :
    (x d : IdealEntry) (es : List IdealEntry) (e : IdealEntry) (b : Bool)
    → (Has (with_entry x es) e → (x ≡ e) ⊎ Has es e)
    → Has (cond b (x ∷ d ∷ es) (d ∷ with_entry x es)) e → (x ≡ e) ⊎ Has (d ∷ es) e
with_entry_at x d es e true further (inl a) = inl a
with_entry_at x d es e true further (inr a) = inr a
with_entry_at x d es e false further (inl a) = inr (inl a)
with_entry_at x d es e false further (inr a) = past (further a)
  where
    past : (x ≡ e) ⊎ Has es e → (x ≡ e) ⊎ Has (d ∷ es) e
    past (inl a) = inl a
    past (inr a) = inr (inr a)

at_with_entry :
    (x d : IdealEntry) (es : List IdealEntry) (e : IdealEntry) (b : Bool)
    → ((x ≡ e) ⊎ Has es e → Has (with_entry x es) e)
    → (x ≡ e) ⊎ Has (d ∷ es) e → Has (cond b (x ∷ d ∷ es) (d ∷ with_entry x es)) e
at_with_entry x d es e true further (inl a) = inl a
at_with_entry x d es e true further (inr a) = inr a
at_with_entry x d es e false further (inl a) = inr (further (inl a))
at_with_entry x d es e false further (inr (inl a)) = inl a
at_with_entry x d es e false further (inr (inr a)) = inr (further (inr a))

Has-with_entry :
    (x : IdealEntry) (es : List IdealEntry) (e : IdealEntry) → Has (with_entry x es) e → (x ≡ e) ⊎ Has es e
Has-with_entry x [] e (inl a) = inl a
Has-with_entry x [] e (inr a) = absurd a
Has-with_entry x (d ∷ es) e a = with_entry_at x d es e (is_before x d) (Has-with_entry x es e) a

pub with_entry-Has :
    (x : IdealEntry) (es : List IdealEntry) (e : IdealEntry) → (x ≡ e) ⊎ Has es e → Has (with_entry x es) e
with_entry-Has x [] e (inl a) = inl a
with_entry-Has x [] e (inr a) = absurd a
with_entry-Has x (d ∷ es) e a = at_with_entry x d es e (is_before x d) (with_entry-Has x es e) a

new_or_old :
    (es : List IdealEntry) (p : Partition) (s : Sequence) (i : Instance) (is : List Instance) (e : IdealEntry)
    → (Has (with_consuming es p s is) e → Has es e ⊎ ((e.partition ≡ p) × (e.sequence ≡ s) × (e.mode ≡ Consuming)))
    → (record { partition = p; sequence = s; instance = i; mode = Consuming } ≡ e) ⊎ Has (with_consuming es p s is) e
    → Has es e ⊎ ((e.partition ≡ p) × (e.sequence ≡ s) × (e.mode ≡ Consuming))
new_or_old es p s i is e further (inl a) =
    inr (
      ap (λ (x : IdealEntry). x.partition) (sym a),
      ap (λ (x : IdealEntry). x.sequence) (sym a),
      ap (λ (x : IdealEntry). x.mode) (sym a),
    )
new_or_old es p s i is e further (inr a) = further a

-- an entry of a list with CONSUMING ones was there, or is one of them
pub Has-with_consuming :
    (es : List IdealEntry) (p : Partition) (s : Sequence) (is : List Instance) (e : IdealEntry)
    → Has (with_consuming es p s is) e
    → Has es e ⊎ ((e.partition ≡ p) × (e.sequence ≡ s) × (e.mode ≡ Consuming))
Has-with_consuming es p s [] e a = inl a
Has-with_consuming es p s (i ∷ is) e a =
    new_or_old es p s i is e (Has-with_consuming es p s is e)
    (Has-with_entry
    (record { partition = p; sequence = s; instance = i; mode = Consuming }) (with_consuming es p s is) e a)

pub with_consuming-Has :
    (es : List IdealEntry) (p : Partition) (s : Sequence) (is : List Instance) (e : IdealEntry)
    → Has es e → Has (with_consuming es p s is) e
with_consuming-Has es p s [] e a = a
with_consuming-Has es p s (i ∷ is) e a =
    with_entry-Has
    (record { partition = p; sequence = s; instance = i; mode = Consuming })
    (with_consuming es p s is)
    e
    (inr (with_consuming-Has es p s is e a))

-- ---- what a step may do to the sequences of a partition

abbrev pub HasNoGap : (ℕ → Type 0) → Type 0
HasNoGap N = (a b c : ℕ) → a ≤ b → b ≤ c → N a → N c → N b

pub record Onwards (old new : ℕ → Type 0) : Type 0 where
  pub lowest : (s t : ℕ) → old s → new t → (u : ℕ) × (u ≤ t) × old u
  pub highest : (s : ℕ) → old s → (t : ℕ) × (s ≤ t) × new t

-- a step changes no sequence, adds one after the last, adds the first one, or removes the lowest
pub data Moves (old new : ℕ → Type 0) : Type 0 where
  stays : ((t : ℕ) → old t → new t) → ((t : ℕ) → new t → old t) → Moves old new
  extends :
      (s : ℕ) → old s
      → ((t : ℕ) → old t → new t)
      → ((t : ℕ) → new t → old t ⊎ (t ≡ s + 1))
      → Moves old new
  opens : (s : ℕ) → ((t : ℕ) → old t → ⊥) → ((t : ℕ) → new t → t ≡ s) → Moves old new
  leaves :
      (s : ℕ) → old (s + 1)
      → ((t : ℕ) → t < s → old t → ⊥)
      → ((t : ℕ) → new t → old t × (t ≡ s → ⊥))
      → ((t : ℕ) → old t → (t ≡ s) ⊎ new t)
      → Moves old new

extends_gap :
    (old new : ℕ → Type 0) (s : ℕ) → HasNoGap old → old s → ((t : ℕ) → old t → new t)
    → (a b c : ℕ) → a ≤ b → b ≤ c → new c → old a ⊎ (a ≡ s + 1) → old c ⊎ (c ≡ s + 1) → new b
extends_gap old new s whole at_s keeps a b c ab bc new_c (inl x) (inl y) = keeps b (whole a b c ab bc x y)
extends_gap old new s whole at_s keeps a b c ab bc new_c (inl x) (inr y) = at_case (cases_eq b c)
  where
    at_case : (b ≡ c) ⊎ (b ≡ c → ⊥) → new b
    at_case (inl e) = subst new (sym e) new_c
    at_case (inr ne) = keeps b (whole a b s ab (omega arith) x at_s)
extends_gap old new s whole at_s keeps a b c ab bc new_c (inr x) (inl y) =
    keeps b (whole s b c (omega arith) bc at_s y)
extends_gap old new s whole at_s keeps a b c ab bc new_c (inr x) (inr y) =
    let e : c ≡ b = omega arith in subst new e new_c

leaves_gap :
    (new : ℕ → Type 0) (b s : ℕ) → ((b ≡ s) ⊎ new b) → (b ≡ s → ⊥) → new b
leaves_gap new b s (inl e) ne = absurd (ne e)
leaves_gap new b s (inr n) ne = n

above_lowest :
    (old : ℕ → Type 0) (a s : ℕ) → a ≤ s → (a ≡ s → ⊥) → (a < s → old a → ⊥) → old a → ⊥
above_lowest old a s le ne below x = below (omega arith) x

pub Moves-gap : (old new : ℕ → Type 0) → HasNoGap old → Moves old new → HasNoGap new
Moves-gap old new whole (stays keeps back) =
    λ a b c ab bc x y. keeps b (whole a b c ab bc (back a x) (back c y))
Moves-gap old new whole (extends s at_s keeps back) =
    λ a b c ab bc x y. extends_gap old new s whole at_s keeps a b c ab bc y (back a x) (back c y)
Moves-gap old new whole (opens s none only) =
    λ a b c ab bc x y.
    let at_a = only a x in
    let at_c = only c y in
    let e : a ≡ b = omega arith in
    subst new e x
Moves-gap old new whole (leaves s next below back keeps) =
    λ a b c ab bc x y.
    let at_a = back a x in
    let at_c = back c y in
    leaves_gap new b s (keeps b (whole a b c ab bc at_a.0 at_c.0))
    (λ e. above_lowest old a s (omega arith) at_a.1 (below a) at_a.0)

extends_low :
    (old : ℕ → Type 0) (s t : ℕ) → old s → old t ⊎ (t ≡ s + 1) → (u : ℕ) × (u ≤ t) × old u
extends_low old s t at_s (inl x) = (t, omega arith, x)
extends_low old s t at_s (inr e) = (s, omega arith, at_s)

leaves_high :
    (new : ℕ → Type 0) (s t : ℕ) → ((s + 1 ≡ s) ⊎ new (s + 1)) → (t ≡ s) ⊎ new t
    → (u : ℕ) × (t ≤ u) × new u
leaves_high new s t (inl e) h = absurd (omega arith)
leaves_high new s t (inr next) (inl e) = (s + 1, omega arith, next)
leaves_high new s t (inr next) (inr x) = (t, omega arith, x)

pub Moves-onwards : (old new : ℕ → Type 0) → Moves old new → Onwards old new
Moves-onwards old new (stays keeps back) =
    record { lowest = λ s t x y. (t, omega arith, back t y); highest = λ s x. (s, omega arith, keeps s x) }
Moves-onwards old new (extends s at_s keeps back) =
    record {
      lowest = λ r t x y. extends_low old s t at_s (back t y);
      highest = λ t x. (t, omega arith, keeps t x);
    }
Moves-onwards old new (opens s none only) =
    record { lowest = λ r t x y. absurd (none r x); highest = λ t x. absurd (none t x) }
Moves-onwards old new (leaves s next below back keeps) =
    record {
      lowest = λ r t x y. (t, omega arith, (back t y).0);
      highest = λ t x. leaves_high new s t (keeps (s + 1) next) (keeps t x);
    }
