-- The numbers of the requests of one incarnation.
use Rattle.std.specs.Prelude.{ℕ, zero, suc, ◌+◌, List, [], ◌∷◌, ◌++◌, codes}
use Rattle.std.specs.Fmt.{decimal}
use Rattle.rt_base.specs.declared.numbers.Instance.{Instance}
use Rattle.rt_model.specs.declared.request.RequestNumber.{RequestNumber}

-- who draws them, in which incarnation, and how many were drawn
pub record Numbered : Type 0 where
  pub instance : Instance
  pub incarnation : ℕ
  pub made : ℕ

-- the number at a count
abbrev pub number_at : Numbered → ℕ → RequestNumber
number_at n count = record { instance = n.instance; incarnation = n.incarnation; count = count }

-- so many numbers, drawn from here on
abbrev pub drawn : Numbered → ℕ → List RequestNumber
drawn n zero = []
drawn n (suc count) = number_at n n.made ∷ drawn (record n { made = n.made + 1 }) count

-- the path of an upload: the segment's name, and the number of the request
abbrev pub upload_path : List ℕ → RequestNumber → List ℕ
upload_path name number =
    name ++ codes "." ++ decimal number.instance.0 ++ codes "." ++ decimal number.incarnation ++ codes "." ++ decimal number.count
