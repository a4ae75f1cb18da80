use Rattle.std.proofs.Common.{refl, arith, ◌∙◌}
use Rattle.debounce.proofs.Fed.{by_rows, fed_none, fed_more, refines-fed, flips-fed}
use Rattle.debounce.proofs.matrix.Matrix.feed.Goals as goal

pub loop-pair-init : goal.loop-pair-init
loop-pair-init c = fed_none c.args.scan.now c.args.self.now _ refl

pub loop-pair-preserved : goal.loop-pair-preserved
loop-pair-preserved c =
    fed_more c.args.scan.now c.args.self.now c.loop-pair.self _ c.loop-pair.flips c.loop-pair.pair c.pair-before.result c.sampled-after.result c.joined.result _
    c.loop-pair-test.true c.loop-pair.invariant c.pair-before.ensures c.joined.ensures c.sampled-after.ensures refl c.keep.ensures.kept c.keep.ensures.others

pub returns-clause-refines : goal.returns-clause-refines
returns-clause-refines c scans h =
    refines-fed scans c.args.scan.now c.args.self.now c.loop-pair.self c.loop-pair.flips c.loop-pair.pair (omega (arith, c.loop-pair-test.false)) c.loop-pair.invariant h

pub returns-clause-flips : goal.returns-clause-flips
returns-clause-flips c scans h key l =
    by_rows c.of_words.result _ key c.of_words.ensures
    ∙ flips-fed scans c.args.scan.now c.args.self.now c.loop-pair.self c.loop-pair.flips c.loop-pair.pair key (omega (arith, c.loop-pair-test.false)) c.loop-pair.invariant h l
