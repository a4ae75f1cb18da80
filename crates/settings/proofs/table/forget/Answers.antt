use Rattle.std.proofs.Common.{refl, arith}
use Rattle.settings.proofs.Tables.{forgotten_none, forgotten_set, forgotten_other, forgotten_all}
use Rattle.settings.proofs.table.forget.Goals as goal
use Rattle.settings.proofs.table.forget.Goals.{then-table-at, else-table-at}

pub loop-at-init : goal.loop-at-init
loop-at-init c = forgotten_none c.args.table.now c.args.id

pub loop-at-preserved : goal.loop-at-preserved
loop-at-preserved c =
    elim c.if-table-at.branch [
      | then-table-at w ↦ rw w.table-is (forgotten_set c.args.table.now c.loop-at.table c.args.id c.loop-at.at _ c.index-table-at.result (omega (arith, c.loop-at-test.true)) c.loop-at.invariant w.if-table-at.true refl)
      | else-table-at w ↦ rw w.table-is (forgotten_other c.args.table.now c.loop-at.table c.args.id c.loop-at.at c.index-table-at.result (omega (arith, c.loop-at-test.true)) c.loop-at.invariant w.if-table-at.false)
    ]

pub returns-clause-forgotten : goal.returns-clause-forgotten
returns-clause-forgotten c = forgotten_all c.args.table.now c.loop-at.table c.args.id c.loop-at.at (omega (arith, c.loop-at-test.false)) c.loop-at.invariant
