-- How a test of a column is read, token by token.
use Rattle.std.specs.Prelude.{Bool, true, false, List, [], ◌∷◌, ◌++◌, Result, Ok, Err}
use Rattle.rt_model.specs.Tree.{Tree, Compare, Between, OneOf, NoneOf}
use Rattle.rt_model.specs.declared.query_parts.ColumnAt.{ColumnAt}
use Rattle.rt_model.specs.declared.query_parts.Literal.{Literal}
use Rattle.rt_model.specs.declared.query_parts.Literal.TheVariants as value
use Rattle.rt_tokens.specs.Literals.{whole, or_zero}
use Rattle.rt_tokens.specs.declared.lexeme.Lexeme.{Lexeme}
use Rattle.rt_tokens.specs.declared.lexeme.Lexeme.TheVariants.{Word, Number, Text, Comparison}
use Rattle.rt_tokens.specs.declared.lexeme.Word.TheVariants as word
use Rattle.rt_grammar.specs.declared.stop.Stop.{Stop}
use Rattle.rt_grammar.specs.declared.stop.Stop.TheVariants.{Stuck}
use Rattle.rt_grammar.specs.declared.test.Test.{Test}
use Rattle.rt_grammar.specs.declared.test.Test.TheVariants as test
use Rattle.rt_grammar.specs.declared.test.Asked.{Asked}
use Rattle.rt_grammar.specs.declared.test.Asked.TheVariants as asked
use Rattle.rt_grammar.specs.declared.test.Tested.{Tested}
use Rattle.rt_grammar.specs.declared.test.Tested.TheVariants.{More, Whole}

-- IN, or NOT IN
abbrev pub among : ColumnAt → Bool → List Literal → Tree
among column false literals = OneOf column literals
among column true literals = NoneOf column literals

-- a test once its literal is read
abbrev pub with_literal : Asked → Literal → Tested
with_literal (asked.Compare column comparison) l = Whole (Compare column comparison l)
with_literal (asked.Lower column) l = More (test.Upper column l)
with_literal (asked.Upper column low) l = Whole (Between column low l)
with_literal (asked.Among column none literals) l = More (test.AfterLiteral column none (literals ++ l ∷ []))

abbrev pub operator : ColumnAt → Lexeme → Result Tested Stop
operator column (Comparison comparison) = Ok (More (test.Literal (asked.Compare column comparison)))
operator column (Word word.Between) = Ok (More (test.Literal (asked.Lower column)))
operator column (Word word.In) = Ok (More (test.List column false))
operator column (Word word.Not) = Ok (More (test.AfterNot column))
operator column other = Err Stuck

abbrev pub after_not : ColumnAt → Lexeme → Result Tested Stop
after_not column (Word word.In) = Ok (More (test.List column true))
after_not column other = Err Stuck

abbrev pub list : ColumnAt → Bool → Lexeme → Result Tested Stop
list column none (Word word.Open) = Ok (More (test.Literal (asked.Among column none [])))
list column none other = Err Stuck

abbrev pub literal : Asked → Lexeme → Result Tested Stop
literal asked (Word word.Minus) = Ok (More (test.Digits asked))
literal asked (Word word.True) = Ok (with_literal asked (value.Bool true))
literal asked (Word word.False) = Ok (with_literal asked (value.Bool false))
literal asked (Number n) = Ok (with_literal asked (value.Int (or_zero (whole false n))))
literal asked (Text text) = Ok (with_literal asked (value.Text text))
literal asked other = Err Stuck

abbrev pub digits : Asked → Lexeme → Result Tested Stop
digits asked (Number n) = Ok (with_literal asked (value.Int (or_zero (whole true n))))
digits asked other = Err Stuck

abbrev pub upper : ColumnAt → Literal → Lexeme → Result Tested Stop
upper column low (Word word.And) = Ok (More (test.Literal (asked.Upper column low)))
upper column low other = Err Stuck

abbrev pub after_literal : ColumnAt → Bool → List Literal → Lexeme → Result Tested Stop
after_literal column none literals (Word word.Comma) = Ok (More (test.Literal (asked.Among column none literals)))
after_literal column none literals (Word word.Close) = Ok (Whole (among column none literals))
after_literal column none literals other = Err Stuck

-- a test after one more token
abbrev pub tested : Test → Lexeme → Result Tested Stop
tested (test.Operator column) lexeme = operator column lexeme
tested (test.AfterNot column) lexeme = after_not column lexeme
tested (test.List column none) lexeme = list column none lexeme
tested (test.Literal asked) lexeme = literal asked lexeme
tested (test.Digits asked) lexeme = digits asked lexeme
tested (test.Upper column low) lexeme = upper column low lexeme
tested (test.AfterLiteral column none literals) lexeme = after_literal column none literals lexeme
