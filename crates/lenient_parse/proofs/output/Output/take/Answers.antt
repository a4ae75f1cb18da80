use Rattle.std.proofs.Common.{List, ℕ, ◌++◌, ◌∙◌, ap}
use Rattle.std.specs.Prelude.{map}
use Rattle.descriptor_parse.specs.ItemViews.{item_view}
use Rattle.lenient_parse.proofs.GoesLemmas.{padded_bytes}
use Rattle.lenient_parse.proofs.output.Output.take.Goals as goal

pub returns-in_ok-put-in-Padding-clause-text : goal.returns-in_ok-put-in-Padding-clause-text
returns-in_ok-put-in-Padding-clause-text c = λ before s.
    let f : List ℕ → List ℕ = λ p. c.args.self.now.text.items ++ p in
    let put = rw c.in_ok-tell.ensures.text at c.in_ok-put-in-Padding.ensures.text in
    put ∙ ap f (c.padding-padding.ensures ∙ padded_bytes before (item_view c.args.item.now) (map item_view c.args.more.now) c.args.state.now s (c.in-Padding.ensures before s))
