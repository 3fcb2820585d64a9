-- What lasts of a query over what its broker has seen: each plan is that of a metadata list of the
-- store, and all that was noted of a piece was given so, in this asking of this query, by the server
-- that it is noted of. Whether what was given is right is for the servers to say.
use Rattle.std.specs.Prelude.{◌≡◌, ℕ, List}
use Rattle.rt_base.specs.declared.numbers.Instance.{Instance}
use Rattle.rt_base.specs.declared.numbers.Partition.{Partition}
use Rattle.rt_base.specs.declared.numbers.Sequence.{Sequence}
use Rattle.rt_lists.specs.Members.{Has}
use Rattle.rt_model.specs.declared.piece.Piece.{Piece}
use Rattle.rt_model.specs.declared.query.Query.{Query}
use Rattle.rt_model.specs.declared.setup.Setup.{Setup}
use Rattle.rt_past.specs.Past.{Past}
use Rattle.rt_broker.specs.declared.piece_asked.PieceAnswer.{PieceAnswer}
use Rattle.rt_broker.specs.declared.piece_given.PieceGiven.{PieceGiven}
use Rattle.rt_broker.specs.declared.piece_got.PieceGot.{PieceGot}
use Rattle.rt_broker.specs.Answering.{IsRefusal}
use Rattle.rt_broker.specs.Asking.{Asking, assigned_at}
use Rattle.rt_broker.specs.IsAsked.{IsAskedKnowing, IsRightGot}

-- what each server was asked and gave, by the server's number and in order
abbrev pub Given : Type 0
Given = ℕ → List PieceGiven

-- each server's list has all of an earlier one
abbrev pub GivesMore : Given → Given → Type 0
GivesMore given more = (i : ℕ) (g : PieceGiven) → Has (given i) g → Has (more i) g

-- the server was asked for the piece in this asking of the query, and gave this
abbrev pub IsGiven : Given → ℕ → ℕ → Piece → PieceAnswer → Type 0
IsGiven given query asking piece y =
    Has (given y.from.0) (record { query = query; asking = asking; piece = piece; got = y.got })

abbrev pub IsAskedBy : Setup → Past → Given → ℕ → ℕ → Asking → Type 0
IsAskedBy setup past given query asking a = IsAskedKnowing setup past (IsGiven given query asking) a

-- all that was given in this asking is right over a past, for a query of this text
abbrev pub AreRightGiven : Setup → Past → Given → ℕ → ℕ → Query → Type 0
AreRightGiven setup past given query asking text =
    (i : ℕ) (g : PieceGiven) → Has (given i) g → g.query ≡ query → g.asking ≡ asking
    → IsRightGot setup past text g.piece g.got

-- the server was asked for the piece in this asking of the query, and gave no rows
pub record GaveNothing (given : Given) (query asking : ℕ) (piece : Piece) (i : Instance) : Type 0 where
  pub got : PieceGot
  pub gave : Has (given i.0) (record { query = query; asking = asking; piece = piece; got = got })
  pub refused : IsRefusal got

-- so it is of every server that is assigned to the segment of a piece
pub record IsRefusedBy (given : Given) (query asking : ℕ) (a : Asking) (p : Partition) (s : Sequence) : Type 0 where
  pub piece : Piece
  pub partition : piece.partition ≡ p
  pub sequence : piece.sequence ≡ s
  pub refused : (i : Instance) → Has (assigned_at a p) i → GaveNothing given query asking piece i
