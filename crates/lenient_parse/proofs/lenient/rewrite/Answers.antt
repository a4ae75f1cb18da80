use Rattle.std.proofs.lemmas.List.{drop-drop, drop_all}
use Rattle.std.specs.Prelude.{map}
use Rattle.descriptor_parse.specs.ItemViews.{item_view}
use Rattle.lenient_parse.proofs.GoesLemmas.{goes_text, goes_origins, goes_passed}
use Rattle.lenient_parse.proofs.lenient.rewrite.Goals as goal

pub loop-at-preserved : goal.loop-at-preserved
loop-at-preserved c =
    let next = rw c.split_at.ensures.back at c.in_ok-step.ensures in
    rw (← drop-drop 1 c.loop-at.at c.args.items.now) (next (map item_view c.args.items.now) c.loop-at.invariant)

pub returns-clause-text : goal.returns-clause-text
returns-clause-text c =
    let all = drop_all c.loop-at.at c.args.items.now c.loop-at-test.false in
    goes_text (map item_view c.args.items.now) c.loop-at.output c.loop-at.state (rw all at c.loop-at.invariant)

pub returns-clause-origins : goal.returns-clause-origins
returns-clause-origins c =
    let all = drop_all c.loop-at.at c.args.items.now c.loop-at-test.false in
    goes_origins (map item_view c.args.items.now) c.loop-at.output c.loop-at.state (rw all at c.loop-at.invariant)

pub returns-clause-passed : goal.returns-clause-passed
returns-clause-passed c =
    let all = drop_all c.loop-at.at c.args.items.now c.loop-at-test.false in
    goes_passed (map item_view c.args.items.now) c.loop-at.output c.loop-at.state (rw all at c.loop-at.invariant)
