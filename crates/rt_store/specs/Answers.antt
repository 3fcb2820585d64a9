-- What a call answers and writes, over the writes on which it stands.
use Rattle.std.specs.Prelude.{◌≡◌, ℕ, ◌==◌, ◌⊎◌, List, [], ◌∷◌, ◌++◌, if◌then◌else◌, Option, Some, None, Result, Ok, Err}
use Rattle.rt_base.specs.declared.numbers.Partition.{Partition}
use Rattle.rt_model.specs.declared.node.Key.{Key}
use Rattle.rt_model.specs.declared.node.Seen.{Seen}
use Rattle.rt_model.specs.declared.node.Listed.{Listed}
use Rattle.rt_model.specs.History.{value_of}
use Rattle.rt_model.specs.Metadata.{metadata_of}
use Rattle.rt_model.specs.Lawful.{Write, create, set, delete, create_after, bump, written_by}
use Rattle.rt_store.specs.declared.refused.StoreRefused.{StoreRefused}
use Rattle.rt_store.specs.declared.refused.StoreRefused.TheVariants.{NoNode, Exists, VersionChanged}

-- what a read finds
abbrev pub found_in : Option Seen → Result Seen StoreRefused
found_in None = Err NoNode
found_in (Some w) = Ok w

abbrev pub reading : Key → List Seen → Result Seen StoreRefused
reading k h = found_in (value_of h k)

abbrev pub listing : Partition → List Seen → Result (List Listed) StoreRefused
listing p h = Ok (metadata_of h p)

-- why a node that was read no longer stands as it was read
abbrev pub change_in : ℕ → Option Seen → Option StoreRefused
change_in expected None = Some NoNode
change_in expected (Some w) =
    if w.version == expected then None else Some (VersionChanged expected w.version)

-- why a node can't be created
abbrev pub presence_in : Option Seen → Option StoreRefused
presence_in None = None
presence_in (Some w) = Some (Exists w.version)

abbrev pub first_of : Option StoreRefused → Option StoreRefused → Option StoreRefused
first_of None later = later
first_of (Some refused) later = Some refused

-- why a write call is refused, if it is
abbrev pub refusal_of : List Seen → Write → Option StoreRefused
refusal_of h (create k n) = presence_in (value_of h k)
refusal_of h (set from n) = change_in from.version (value_of h from.key)
refusal_of h (delete from) = change_in from.version (value_of h from.key)
refusal_of h (create_after k n prior) =
    first_of (change_in prior.version (value_of h prior.key)) (presence_in (value_of h k))
refusal_of h (bump i) = None

abbrev pub answer_by : {X : Type 0} → Option StoreRefused → X → Result X StoreRefused
answer_by None x = Ok x
answer_by (Some refused) x = Err refused

abbrev pub after_by : Option StoreRefused → List Seen → Seen → List Seen
after_by None h w = h ++ w ∷ []
after_by (Some refused) h w = h

-- what a write call answers, and the writes after it
abbrev pub answer_of : {X : Type 0} → (Seen → X) → Write → List Seen → Result X StoreRefused
answer_of tell call h = answer_by (refusal_of h call) (tell (written_by h call))

abbrev pub after_call : Write → List Seen → List Seen
after_call call h = after_by (refusal_of h call) h (written_by h call)

-- what a write call may leave: what was there, or that and its own write, where it isn't refused
abbrev pub Leaves : Write → List Seen → List Seen → Type 0
Leaves call base now =
    (now ≡ base) ⊎ ((refusal_of base call ≡ None) × (now ≡ base ++ written_by base call ∷ []))
