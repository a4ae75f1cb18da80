use Rattle.std.proofs.Common.{◌∙◌}
use Rattle.std.proofs.lemmas.Bool.{false≢true}
use Rattle.steady_flash.proofs.Finding.{found_page}
use Rattle.steady_flash.proofs.Telling.{read_page}
use Rattle.steady_flash.proofs.Bumping.{reads_page}
use Rattle.steady_flash.proofs.starting.find_claims.Goals as goal

pub loop-at-preserved : goal.loop-at-preserved
loop-at-preserved g c = record {
  placed = c.find_on.ensures.placed;
  same_pages = c.find_on.ensures.same_pages ∙ c.loop-at.invariant.same_pages;
  found = λ before k f. found_page _ _ before c.find_on.new.layout c.loop-at.at k (c.in_ok-find_on.ensures.found before k (c.loop-at.invariant.found before k f));
  read = λ f. read_page _ _ c.find_on.new.layout c.loop-at.at (c.in_ok-find_on.ensures.read (c.loop-at.invariant.read f));
  reads = λ r. reads_page _ (g.F.MarkedFlash.marks c.args.flash.now) c.find_on.new.layout c.loop-at.at (c.in_ok-find_on.ensures.reads (c.loop-at.invariant.reads r));
}

pub returns-in_err-find_on-clause-ours : goal.returns-in_err-find_on-clause-ours
returns-in_err-find_on-clause-ours g c = λ o. absurd (false≢true (c.in_err-find_on.ensures.ours (rw c.loop-at.invariant.same_pages o)))
