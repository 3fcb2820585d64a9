-- What is read of an input, by its text.
use Rattle.std.proofs.Common.{◌≡◌, ◌≢◌, ◌⊎◌, inl, inr, ℕ, ◌<◌, ◌≤◌, Bool, true, false, if◌then◌else◌, List, [], ◌∷◌, ◌++◌, All, length, Option, Some, None, Result, Ok, Err, refl, sym, ap, subst, ◌∙◌, arith, append_assoc}
use Rattle.std.specs.Prelude.{IfOk, IfSome, codes}
use Rattle.std.proofs.lemmas.Bool.{ltb-true, ltb-false}
use Rattle.std.proofs.lemmas.List.{append-nil}
use Rattle.std.proofs.lemmas.List.Elements.{All-append, All-cons, All-nil, All-same}
use Rattle.rt_ground.specs.declared.appended.Appended.{Appended}
use Rattle.rt_lines.specs.Header.{NumberedLine, Says, header_of, if_well_formed, then_ok}
use Rattle.rt_lines.specs.Lines.{script_lines}
use Rattle.rt_lines.specs.Words.{after_prefix}
use Rattle.rt_lines.specs.declared.line_reason.LineReason.TheVariants as reason
use Rattle.rt_lines.specs.declared.play_fault.PlayFault.{PlayFault}
use Rattle.rt_lines.specs.declared.play_fault.PlayFault.TheVariants.{Limit, Memory, ReadFault, Refused, Usage, WriteFault}
use Rattle.rt_lines.proofs.PartsOfLines.{prefix_read, prefix_said}
use Rattle.rt_live_input.proofs.Chaoses.{chaos_spelled, spelled_chaos}
use Rattle.rt_live_input.proofs.Entered.{IsEntry, Reads, entry_reads}
use Rattle.rt_live_input.specs.ChaosWords.{chaos_at, chaos_said, chaos_within, crash_within}
use Rattle.rt_live_input.specs.Entries.{entry_at}
use Rattle.rt_live_input.specs.Gathering.{added, behind_first, behind_of, empty, gathered, with_entry}
use Rattle.rt_live_input.specs.Input.{CrashesOneOf, GiveAll, Gives, HasChaos, IsInput, IsRead, ReadsInput, Refuses, RefusesChaos, StopsAtChaos, StopsAtLine, calm}
use Rattle.rt_live_input.specs.Lines.{IsChaosLine}
use Rattle.rt_live_input.specs.declared.chaos.Chaos.{Chaos}
use Rattle.rt_live_input.specs.declared.chaos.Crash.{Crash}
use Rattle.rt_live_input.specs.declared.entry.Entry.{Entry}
use Rattle.rt_live_input.specs.declared.entry.Entry.TheVariants as entry
use Rattle.rt_live_input.specs.declared.input.Input.{Input}
use Rattle.rt_model.specs.Checked.{IsQuery}
use Rattle.rt_model.specs.Setup.{IsSetup}
use Rattle.rt_model.specs.declared.query.Query.{Query}
use Rattle.rt_model.specs.declared.setup.Setup.{Setup}
use Rattle.rt_sql.proofs.Fitting.{answered_fits}

-- these rows and queries stand behind those that were there
pub record IsMore (setup : Setup) (old : Input) (lines : List NumberedLine) (new : Input) : Type 0 where
  pub rows : List Appended
  pub queries : List Query
  pub give : GiveAll setup lines rows queries
  pub whole : new ≡ record old { rows = old.rows ++ rows; queries = old.queries ++ queries }

-- some lines are read, and the next is refused
pub record Stops (setup : Setup) (lines : List NumberedLine) (fault : PlayFault) : Type 0 where
  pub front : List NumberedLine
  pub line : NumberedLine
  pub behind : List NumberedLine
  pub whole : lines ≡ front ++ line ∷ behind
  pub rows : List Appended
  pub queries : List Query
  pub give : GiveAll setup front rows queries
  pub refuses : Refuses setup line fault

abbrev pub Gathers : Setup → Input → List NumberedLine → Result Input PlayFault → Type 0
Gathers setup input lines (Ok new) = IsMore setup input lines new
Gathers setup input lines (Err fault) = Stops setup lines fault

abbrev rows_by : Entry → List Appended
rows_by (entry.Row row) = row ∷ []
rows_by (entry.Query query) = []

abbrev queries_by : Entry → List Query
queries_by (entry.Row row) = []
queries_by (entry.Query query) = query ∷ []

entry_gives : (setup : Setup) (line : List ℕ) (found : Entry) → IsEntry setup line found → Gives setup line (rows_by found) (queries_by found)
entry_gives setup line (entry.Row row) k = inl (row, k, refl, refl)
entry_gives setup line (entry.Query query) k = inr (query, k, refl, refl)

abbrev both : Input → List Appended → List Query → Input
both input rows queries = record input { rows = rows; queries = queries }

entry_with : (input : Input) (found : Entry) → with_entry input found ≡ both input (input.rows ++ rows_by found) (input.queries ++ queries_by found)
entry_with input (entry.Row row) = ap (both input (input.rows ++ row ∷ [])) (sym (append-nil input.queries))
entry_with input (entry.Query query) = ap (λ rows. both input rows (input.queries ++ query ∷ [])) (sym (append-nil input.rows))

same_setup : (input : Input) (found : Entry) → (with_entry input found).setup ≡ input.setup
same_setup input (entry.Row row) = refl
same_setup input (entry.Query query) = refl

given_first : (setup : Setup) (line : NumberedLine) (found : Entry) (lines : List NumberedLine) (rows : List Appended) (queries : List Query) → IsEntry setup line.1 found
    → GiveAll setup lines rows queries → GiveAll setup (line ∷ lines) (rows_by found ++ rows) (queries_by found ++ queries)
given_first setup line found lines rows queries k others = record {
  first_rows = rows_by found;
  first_queries = queries_by found;
  gives = entry_gives setup line.1 found k;
  other_rows = rows;
  other_queries = queries;
  others = others;
  rows_are = refl;
  queries_are = refl;
}

more_first : (setup : Setup) (input : Input) (line : NumberedLine) (lines : List NumberedLine) (found : Entry) (result : Result Input PlayFault) → IsEntry setup line.1 found
    → Gathers setup (with_entry input found) lines result → Gathers setup input (line ∷ lines) result
more_first setup input line lines found (Ok new) k h = record {
  rows = rows_by found ++ h.rows;
  queries = queries_by found ++ h.queries;
  give = given_first setup line found lines h.rows h.queries k h.give;
  whole =
      h.whole
      ∙ ap (λ (i : Input). both i (i.rows ++ h.rows) (i.queries ++ h.queries)) (entry_with input found)
      ∙ ap (λ rows. both input rows ((input.queries ++ queries_by found) ++ h.queries)) (append_assoc input.rows (rows_by found) h.rows)
      ∙ ap (both input (input.rows ++ (rows_by found ++ h.rows))) (append_assoc input.queries (queries_by found) h.queries);
}
more_first setup input line lines found (Err fault) k h = record {
  front = line ∷ h.front;
  line = h.line;
  behind = h.behind;
  whole = ap (λ xs. line ∷ xs) h.whole;
  rows = rows_by found ++ h.rows;
  queries = queries_by found ++ h.queries;
  give = given_first setup line found h.front h.rows h.queries k h.give;
  refuses = h.refuses;
}

first_gathers : (setup : Setup) (input : Input) (line : NumberedLine) (lines : List NumberedLine) (read : Result Entry PlayFault) → Reads setup line read
    → ((more : Input) → more.setup ≡ setup → Gathers setup more lines (gathered more lines)) → input.setup ≡ setup
    → Gathers setup input (line ∷ lines) (then_ok (added input read) (λ more. gathered more lines))
first_gathers setup input line lines (Ok found) k others same =
    more_first setup input line lines found (gathered (with_entry input found) lines) k (others (with_entry input found) (same_setup input found ∙ same))
first_gathers setup input line lines (Err fault) k others same =
    record { front = []; line = line; behind = lines; whole = refl; rows = []; queries = []; give = (refl, refl); refuses = k }

nothing_more : (input : Input) → input ≡ both input (input.rows ++ []) (input.queries ++ [])
nothing_more input =
    ap (λ rows. both input rows input.queries) (sym (append-nil input.rows)) ∙ ap (both input (input.rows ++ [])) (sym (append-nil input.queries))

pub gathers : (setup : Setup) (lines : List NumberedLine) (input : Input) → input.setup ≡ setup → Gathers setup input lines (gathered input lines)
gathers setup [] input same = record { rows = []; queries = []; give = (refl, refl); whole = nothing_more input }
gathers setup (line ∷ lines) input same =
    subst (λ (s : Setup). Gathers setup input (line ∷ lines) (then_ok (added input (entry_at s line)) (λ more. gathered more lines))) (sym same)
    (first_gathers setup input line lines (entry_at setup line) (entry_reads setup line) (λ more is. gathers setup lines more is) same)

-- a chaos line, or why it is refused
abbrev ReadsChaos : Setup → NumberedLine → Result Chaos PlayFault → Type 0
ReadsChaos setup line (Ok chaos) = IsChaosLine setup.controllers line.1 chaos × CrashesOneOf setup.servers chaos
ReadsChaos setup line (Err fault) = RefusesChaos setup line fault

within_reads : (setup : Setup) (line : NumberedLine) (chaos : Chaos) (crash : Option Crash) (within : Bool) → IsChaosLine setup.controllers line.1 chaos → chaos.crash ≡ crash
    → crash_within setup.servers crash ≡ within → ReadsChaos setup line (if within then Ok chaos else Err (Refused line.0 reason.NoSuchNode))
within_reads setup line chaos None true k is e = (k, subst (λ (c : Option Crash). IfSome c (λ crash. crash.instance.0 < setup.servers)) (sym is) tt)
within_reads setup line chaos None false k is e = cc
within_reads setup line chaos (Some crash) true k is e = (k, subst (λ (c : Option Crash). IfSome c (λ crash. crash.instance.0 < setup.servers)) (sym is) (ltb-true _ _ e))
within_reads setup line chaos (Some crash) false k is e = (refl, record { chaos = chaos; is = k; crash = crash; crashes = is; astray = ltb-false _ _ e })

no_chaos : (controllers : ℕ) (line text : List ℕ) → after_prefix (codes "chaos ") line ≡ Some text → chaos_said controllers text ≡ None → (chaos : Chaos) → IsChaosLine controllers line chaos → ⊥
no_chaos controllers line text begins none chaos k = let read : None ≡ Some chaos = sym none ∙ spelled_chaos controllers line text chaos begins k in cc

said_reads : (setup : Setup) (line : NumberedLine) (text : List ℕ) (said : Option Chaos) → setup.controllers ≤ 18446744073709551615 → after_prefix (codes "chaos ") line.1 ≡ Some text
    → chaos_said setup.controllers text ≡ said → ReadsChaos setup line (if_well_formed line.0 said (chaos_within setup.servers line.0))
said_reads setup line text (Some chaos) fits begins e =
    within_reads setup line chaos chaos.crash (crash_within setup.servers chaos.crash) (chaos_spelled setup.controllers line.1 text chaos fits (prefix_said (codes "chaos ") line.1 text begins) e) refl refl
said_reads setup line text None fits begins e =
    (refl, record { text = text; begins = prefix_said (codes "chaos ") line.1 text begins; none = no_chaos setup.controllers line.1 text begins e })

-- what stands behind a header, or why it is refused
pub record IsBehind (setup : Setup) (lines : List NumberedLine) (input : Input) : Type 0 where
  pub of_setup : input.setup ≡ setup
  pub rest : List NumberedLine
  pub chaos : HasChaos setup lines input.chaos rest
  pub give : GiveAll setup rest input.rows input.queries

abbrev pub Behind : Setup → List NumberedLine → Result Input PlayFault → Type 0
Behind setup lines (Ok input) = IsBehind setup lines input
Behind setup lines (Err fault) = StopsAtChaos setup lines fault ⊎ StopsAtLine setup lines fault

rest_reads : (setup : Setup) (lines rest : List NumberedLine) (chaos : Chaos) (result : Result Input PlayFault) → HasChaos setup lines chaos rest
    → Gathers setup (empty setup chaos) rest result → Behind setup lines result
rest_reads setup lines rest chaos (Ok input) has h =
    let made : IsBehind setup lines (record (empty setup chaos) { rows = h.rows; queries = h.queries }) =
    record { of_setup = refl; rest = rest; chaos = has; give = h.give } in
    subst (IsBehind setup lines) (sym h.whole) made
rest_reads setup lines rest chaos (Err fault) has h = inr (record {
  chaos = chaos;
  rest = rest;
  has = has;
  front = h.front;
  line = h.line;
  behind = h.behind;
  whole = h.whole;
  rows = h.rows;
  queries = h.queries;
  give = h.give;
  refuses = h.refuses;
})

chaos_reads : (setup : Setup) (line : NumberedLine) (lines : List NumberedLine) (read : Result Chaos PlayFault) → ReadsChaos setup line read
    → Behind setup (line ∷ lines) (then_ok read (λ chaos. gathered (empty setup chaos) lines))
chaos_reads setup line lines (Ok chaos) k =
    rest_reads setup (line ∷ lines) lines chaos (gathered (empty setup chaos) lines) (inl (record { line = line; first = refl; is = k.0; within = k.1 })) (gathers setup lines (empty setup chaos) refl)
chaos_reads setup line lines (Err fault) k = inl (record { line = line; rest = lines; first = refl; refuses = k })

begins_calm : (line text : List ℕ) → after_prefix (codes "chaos ") line ≡ None → line ≡ codes "chaos " ++ text → ⊥
begins_calm line text none begins = let read : None ≡ Some text = sym none ∙ ap (after_prefix (codes "chaos ")) begins ∙ prefix_read (codes "chaos ") text in cc

first_reads : (setup : Setup) (line : NumberedLine) (lines : List NumberedLine) (text : Option (List ℕ)) → setup.controllers ≤ 18446744073709551615 → after_prefix (codes "chaos ") line.1 ≡ text
    → Behind setup (line ∷ lines) (behind_first (empty setup calm) line lines text)
first_reads setup line lines (Some text) fits begins =
    chaos_reads setup line lines (chaos_at setup line.0 text) (said_reads setup line text (chaos_said setup.controllers text) fits begins refl)
first_reads setup line lines None fits none =
    rest_reads setup (line ∷ lines) (line ∷ lines) calm (gathered (empty setup calm) (line ∷ lines)) (inr (λ text. begins_calm line.1 text none, refl, refl)) (gathers setup (line ∷ lines) (empty setup calm) refl)

pub behind_reads : (setup : Setup) (lines : List NumberedLine) → setup.controllers ≤ 18446744073709551615 → Behind setup lines (behind_of setup lines)
behind_reads setup [] fits = record { of_setup = refl; rest = []; chaos = inr (tt, refl, refl); give = (refl, refl) }
behind_reads setup (line ∷ lines) fits = first_reads setup line lines (after_prefix (codes "chaos ") line.1) fits refl

few_controllers : (setup : Setup) → IsSetup setup → setup.controllers ≤ 18446744073709551615
few_controllers setup is = omega (arith, is.few_controllers)

read_over : (text : List ℕ) (setup : Setup) (lines : List NumberedLine) (input : Input) → header_of (script_lines text) ≡ Ok (setup, lines) → IsBehind setup lines input → IsRead text input
read_over text setup lines input header k = record {
  behind = lines;
  header = header ∙ ap (λ (s : Setup). Ok (s, lines)) (sym k.of_setup);
  rest = k.rest;
  chaos = subst (λ (s : Setup). HasChaos s lines input.chaos k.rest) (sym k.of_setup) k.chaos;
  give = subst (λ (s : Setup). GiveAll s k.rest input.rows input.queries) (sym k.of_setup) k.give;
}

-- the text whose header was read
pub behind_is_read : (text : List ℕ) (setup : Setup) (lines : List NumberedLine) (result : Result Input PlayFault) → header_of (script_lines text) ≡ Ok (setup, lines) → IsSetup setup
    → Says (behind_of setup lines) result → ReadsInput text result
behind_is_read text setup lines (Ok input) header is says =
    let k = subst (Behind setup lines) says (behind_reads setup lines (few_controllers setup is)) in
    read_over text setup lines input header k
behind_is_read text setup lines (Err (Refused number why)) header is says =
    inr (record { setup = setup; behind = lines; header = header; stops = subst (Behind setup lines) says (behind_reads setup lines (few_controllers setup is)) })
behind_is_read text setup lines (Err (Limit which)) header is says =
    inr (record { setup = setup; behind = lines; header = header; stops = subst (Behind setup lines) says (behind_reads setup lines (few_controllers setup is)) })
behind_is_read text setup lines (Err Memory) header is says = tt
behind_is_read text setup lines (Err Usage) header is says = says
behind_is_read text setup lines (Err ReadFault) header is says = says
behind_is_read text setup lines (Err WriteFault) header is says = says

-- what an input that is read has
abbrev RowFits : Setup → Appended → Type 0
RowFits setup row = (row.partition.0 < setup.partitions) × (length row.message ≤ 65536)

gives_fit : (setup : Setup) (line : List ℕ) (rows : List Appended) (queries : List Query) → Gives setup line rows queries
    → All (RowFits setup) rows × All (IsQuery setup.schema) queries
gives_fit setup line rows queries (inl (row, k, rows_are, queries_are)) = (
  All-same (RowFits setup) rows (row ∷ []) rows_are (All-cons (RowFits setup) row [] (k.partition, k.short) (All-nil (RowFits setup))),
  All-same (IsQuery setup.schema) queries [] queries_are (All-nil (IsQuery setup.schema)),
)
gives_fit setup line rows queries (inr (query, k, rows_are, queries_are)) =
    let fits = answered_fits setup.schema setup.table.name k.text (Ok query) (sym k.read) in (
      All-same (RowFits setup) rows [] rows_are (All-nil (RowFits setup)),
      All-same (IsQuery setup.schema) queries (query ∷ []) queries_are (All-cons (IsQuery setup.schema) query [] fits (All-nil (IsQuery setup.schema))),
    )

all_fit : (setup : Setup) (lines : List NumberedLine) (rows : List Appended) (queries : List Query) → GiveAll setup lines rows queries
    → All (RowFits setup) rows × All (IsQuery setup.schema) queries
all_fit setup [] rows queries (rows_are, queries_are) =
    (All-same (RowFits setup) rows [] rows_are (All-nil (RowFits setup)), All-same (IsQuery setup.schema) queries [] queries_are (All-nil (IsQuery setup.schema)))
all_fit setup (line ∷ lines) rows queries k =
    let first = gives_fit setup line.1 k.first_rows k.first_queries k.gives in
    let others = all_fit setup lines k.other_rows k.other_queries k.others in (
      All-same (RowFits setup) rows _ k.rows_are (All-append (RowFits setup) k.first_rows k.other_rows first.0 others.0),
      All-same (IsQuery setup.schema) queries _ k.queries_are (All-append (IsQuery setup.schema) k.first_queries k.other_queries first.1 others.1),
    )

-- a chaos that a cluster can have
record ChaosFits (setup : Setup) (chaos : Chaos) : Type 0 where
  drops_some : chaos.drop ≢ 1
  some_leader : 1 ≤ chaos.leaders
  few_leaders : chaos.leaders ≤ setup.controllers
  crash : CrashesOneOf setup.servers chaos

none_drops : (n : ℕ) → n ≡ 0 → n ≢ 1
none_drops n none one = omega (arith, none, one)

calm_fits : (setup : Setup) → IsSetup setup → ChaosFits setup calm
calm_fits setup is = record { drops_some = none_drops 0 refl; some_leader = omega arith; few_leaders = is.some_controllers; crash = tt }

chaos_fits : (setup : Setup) (lines rest : List NumberedLine) (chaos : Chaos) → IsSetup setup → HasChaos setup lines chaos rest → ChaosFits setup chaos
chaos_fits setup lines rest chaos is (inl k) =
    record { drops_some = k.is.drops_some; some_leader = k.is.some_leader; few_leaders = k.is.few_leaders; crash = k.within }
chaos_fits setup lines rest chaos is (inr (begins, calmly, same)) = subst (ChaosFits setup) (sym calmly) (calm_fits setup is)

pub input_fits : (text : List ℕ) (input : Input) → IsSetup input.setup → IsRead text input → IsInput input
input_fits text input is k =
    let chaos = chaos_fits input.setup k.behind k.rest input.chaos is k.chaos in
    let all = all_fit input.setup k.rest input.rows input.queries k.give in
    record {
      setup = is;
      drops_some = chaos.drops_some;
      some_leader = chaos.some_leader;
      few_leaders = chaos.few_leaders;
      crash = chaos.crash;
      rows = all.0;
      queries = all.1;
    }

fits_over : (text : List ℕ) (setup : Setup) (lines : List NumberedLine) (input : Input) → header_of (script_lines text) ≡ Ok (setup, lines) → IsSetup setup → IsBehind setup lines input → IsInput input
fits_over text setup lines input header is k = input_fits text input (subst IsSetup (sym k.of_setup) is) (read_over text setup lines input header k)

pub behind_fits : (text : List ℕ) (setup : Setup) (lines : List NumberedLine) (result : Result Input PlayFault) → header_of (script_lines text) ≡ Ok (setup, lines) → IsSetup setup
    → Says (behind_of setup lines) result → IfOk result IsInput
behind_fits text setup lines (Ok input) header is says =
    fits_over text setup lines input header is (subst (Behind setup lines) says (behind_reads setup lines (few_controllers setup is)))
behind_fits text setup lines (Err fault) header is says = tt
