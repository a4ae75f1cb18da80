use Rattle.std.proofs.Common.{◌≡◌, ◌∙◌, sym, rules, []}
use Rattle.page_turnover.specs.Words.{words}
use Rattle.settings.proofs.Reading.{at_start, at_end}
use Rattle.settings.proofs.lookup.value_in.Goals as goal

pub loop-word-init : goal.loop-word-init
loop-word-init g c =
    let image = g.F.NorFlash.image c.args.flash.now in
    let all : c.into_iter-word-iterator.result ≡ words image = search rules in
    rw c.ended-reading.ensures (tt, rw all (at_start c.args.id image))

pub returns : goal.returns
returns g c =
    let none : c.loop-word.word-iterator ≡ [] = search rules in
    sym (at_end c.args.id c.loop-word.reading c.loop-word.invariant.0) ∙ (rw none at c.loop-word.invariant.1)
