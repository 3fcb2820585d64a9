-- What the laws speak of.
use Rattle.std.specs.Prelude.{◌≡◌, true}
use Rattle.rt_lists.specs.Members.{Has}
use Rattle.rt_upsert.specs.Latest.{key_of, same_key, latest_of}
use Rattle.rt_upsert.specs.Placed.{Placed, PlacedRows}

-- two rows have equal key values
abbrev pub SharesKey : PlacedRows → Placed → Placed → Type 0
SharesKey held x y = same_key (key_of held.keys x.row) (key_of held.keys y.row) ≡ true

abbrev pub IsLatestRow : PlacedRows → Placed → Type 0
IsLatestRow held x = Has (latest_of held) x
