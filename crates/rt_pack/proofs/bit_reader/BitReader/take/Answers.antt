use Rattle.std.proofs.Common.{arith, sym, subst}
use Rattle.rt_pack.specs.declared.bit_reader.BitReader.TheInside.{Inside}
use Rattle.rt_pack.proofs.Words.{IsReady, filled, taken, ready_number}
use Rattle.rt_pack.proofs.bit_reader.BitReader.take.Goals as goal
use Rattle.rt_pack.proofs.bit_reader.BitReader.take.Goals.{then-self-width, else-self-width, After-way_told-2-1}

-- the bits in hand after the test
ready : (c : After-way_told-2-1) → let a = c.if-self-width.self-inside in IsReady c.args.width c.args.self.now a.bytes.now a.at a.held a.count
ready c =
    elim c.if-self-width.branch [
      | then-self-width w ↦
          subst (λ (a : Inside). IsReady c.args.width c.args.self.now a.bytes.now a.at a.held a.count) (sym w.self-inside-is)
          (filled c.args.width c.args.self.now c.self.inside.bytes.now c.self.inside.at c.self.inside.held c.self.inside.count w.min-end.result w.number_in.result
          c.requires.narrow c.requires.there c.self.invariant.0 c.self.invariant.1 c.self.invariant.2 c.self.view_is w.min-end.ensures w.number_in.ensures)
      | else-self-width w ↦
          subst (λ (a : Inside). IsReady c.args.width c.args.self.now a.bytes.now a.at a.held a.count) (sym w.self-inside-is)
          (record { enough = w.if-self-width.false; few = omega (arith, c.self.invariant.1); below = c.self.invariant.2; bits = c.self.view_is })
    ]

pub overflow_sub-self : goal.overflow_sub-self
overflow_sub-self c = (ready c).enough

pub overflow_cast-number-2 : goal.overflow_cast-number-2
overflow_cast-number-2 c =
    let a = c.if-self-width.self-inside in
    omega (arith, ready_number c.args.width c.args.self.now a.bytes.now a.at a.held a.count c.requires.narrow (ready (goal.at.overflow_cast-number-2 c).After-way_told-2-1))

pub returns-clause-value : goal.returns-clause-value
returns-clause-value c = (taken _ _ _ _ _ _ (ready (goal.at.returns-clause-value c).After-way_told-2-1)).0

pub returns-clause-rest : goal.returns-clause-rest
returns-clause-rest c = (taken _ _ _ _ _ _ (ready (goal.at.returns-clause-rest c).After-way_told-2-1)).1
