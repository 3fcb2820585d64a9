use Rattle.std.proofs.lemmas.Result.{IfOk-weaker}
use Rattle.std.proofs.Common.{sym, subst}
use Rattle.rt_tokens.specs.Written.{Tile}
use Rattle.rt_tokens.proofs.Writing.{text_tiles}
use Rattle.rt_tokens.proofs.lexer.tokens_of.Goals as goal

pub returns-clause-tiled : goal.returns-clause-tiled
returns-clause-tiled c = IfOk-weaker c.read.result _ _ (λ tokens h. subst (Tile 0 c.args.text.now) (sym h) (text_tiles c.args.text.now)) c.read.ensures
