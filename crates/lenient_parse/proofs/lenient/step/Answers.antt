use Rattle.std.specs.Prelude.{map}
use Rattle.descriptor_parse.specs.ItemViews.{item_view}
use Rattle.lenient_parse.proofs.GoesLemmas.{Adds, goes_more}
use Rattle.lenient_parse.proofs.lenient.step.Goals as goal

pub returns : goal.returns
returns c = λ items g.
    let adds : Adds (item_view c.in-Some.item.now) (map item_view c.in-Some.more.now) c.args.output.now c.take.new.self c.args.state.now c.take-2.new.self = record {
      text = c.in_ok-take.ensures.text;
      origins = c.in_ok-take.ensures.origins;
      passed = c.in_ok-take.ensures.passed;
      late = c.in_ok-take-2.ensures.late;
      set = c.in_ok-take-2.ensures.set;
      refines = c.in_ok-take-2.ensures.refines;
    } in
    let e = c.in-Some.ensures.cases.0 in
    rw e (goes_more items (item_view c.in-Some.item.now) (map item_view c.in-Some.more.now) c.args.output.now c.take.new.self c.args.state.now c.take-2.new.self adds (rw e at g))
