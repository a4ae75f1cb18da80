use Rattle.std.proofs.Common.{◌∙◌, arith}
use Rattle.kbsim.proofs.OutputLemmas.{run_on, run_whole, stopped_at}
use Rattle.kbsim.proofs.run.run_each.Goals as goal

pub loop-line-preserved : goal.loop-line-preserved
loop-line-preserved g c = record {
  ran = λ start refines. run_on start c.args.lines.now c.loop-line.line-index c.loop-line.world c.run_line.new.world _ _ _ c.line-item.result c.in-Ok.outcome
      c.loop-line-test.true c.line-item.is (c.loop-line.invariant.ran start refines) c.in-Ok.ensures c.in-Ok-put.ensures.printed;
  same_writer = c.in-Ok-put.ensures.same_writer ∙ c.loop-line.invariant.same_writer;
}

pub returns-in_default-clause-stopped : goal.returns-in_default-clause-stopped
returns-in_default-clause-stopped g c is =
    λ start refines. stopped_at start c.args.lines.now c.loop-line.line-index c.loop-line.world _ _ (c.loop-line.invariant.ran start refines) c.loop-line-test.true

pub returns-clause-printed : goal.returns-clause-printed
returns-clause-printed g c start refines =
    run_whole start c.args.lines.now c.loop-line.line-index c.loop-line.world _ _ (omega (arith, c.loop-line-test.false, c.loop-line.auto.line-index-end)) (c.loop-line.invariant.ran start refines)
