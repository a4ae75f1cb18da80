use Rattle.std.proofs.Common.{arith, ◌≡◌, ◌+◌, ◌*◌, ◌<◌, ◌∙◌, sym}
use Rattle.std.proofs.lemmas.Grind.{common_steps}
use Rattle.std.proofs.lemmas.Bool.{false≢true}
use Rattle.steady_flash.specs.Marked.{IsMarkReading}
use Rattle.steady_flash.proofs.Finding.{found_step}
use Rattle.steady_flash.proofs.Telling.{read_step}
use Rattle.steady_flash.proofs.Bumping.{reads_step}
use Rattle.steady_flash.proofs.starting.find_on.Goals as goal

pub returns-in_err-take_claim-clause-placed : goal.returns-in_err-take_claim-clause-placed
returns-in_err-take_claim-clause-placed g c =
    let in_page : c.loop-index.index < (g.F.MarkedFlash.size c.args.flash.now).triples = grind (arith, common_steps) in
    c.take_claim.ensures.placed (g.F.MarkedFlash.size c.args.flash.now) c.loop-index.invariant.placed in_page

pub loop-index-preserved : goal.loop-index-preserved
loop-index-preserved g c =
    let in_page : c.loop-index.index < (g.F.MarkedFlash.size c.args.flash.now).triples = grind (arith, common_steps) in
    let in_pages : c.args.at < (g.F.MarkedFlash.size c.args.flash.now).pages = omega (arith, c.requires.placed.served.count) in
    let same : c.take_claim.new.layout.pages ≡ c.args.layout.now.pages = grind (arith, common_steps) in
    let read : IsMarkReading (g.F.MarkedFlash.marks c.args.flash.now c.args.at (1 + 3 * c.loop-index.index)) c.read_mark-read.result = rw c.claim.ensures at c.read_mark-read.ensures in
    record {
      placed = c.take_claim.ensures.placed (g.F.MarkedFlash.size c.args.flash.now) c.loop-index.invariant.placed in_page;
      same_pages = same;
      found = λ before k f. found_step (g.F.MarkedFlash.size c.args.flash.now) (g.F.MarkedFlash.marks c.args.flash.now) before c.loop-index.layout c.take_claim.new.layout c.args.at c.loop-index.index c.read_mark-read.result k in_pages in_page read (c.loop-index.invariant.found before k f) c.take_claim.ensures.same_pages c.in_ok-take_claim.ensures.taken c.in_ok-take_claim.ensures.greatest;
      read = λ f. read_step (g.F.MarkedFlash.size c.args.flash.now) (g.F.MarkedFlash.marks c.args.flash.now) c.loop-index.layout c.take_claim.new.layout c.args.at c.loop-index.index c.read_mark-read.result read (c.loop-index.invariant.read f) c.take_claim.ensures.same_pages c.in_ok-take_claim.ensures.taken c.in_ok-take_claim.ensures.greatest;
      reads = λ r. reads_step (g.F.MarkedFlash.size c.args.flash.now) (g.F.MarkedFlash.marks c.args.flash.now) c.loop-index.layout c.take_claim.new.layout c.args.at c.loop-index.index c.read_mark-read.result read c.take_claim.ensures.same_pages c.in_ok-take_claim.ensures.taken c.in_ok-take_claim.ensures.greatest (c.loop-index.invariant.reads r);
    }

pub returns-in_err-take_claim-clause-ours : goal.returns-in_err-take_claim-clause-ours
returns-in_err-take_claim-clause-ours g c = λ ours.
    let in_page : c.loop-index.index < (g.F.MarkedFlash.size c.args.flash.now).triples = grind (arith, common_steps) in
    let in_pages : c.args.at < (g.F.MarkedFlash.size c.args.flash.now).pages = omega (arith, c.requires.placed.served.count) in
    let read : IsMarkReading (g.F.MarkedFlash.marks c.args.flash.now c.args.at (1 + 3 * c.loop-index.index)) c.read_mark-read.result = rw c.claim.ensures at c.read_mark-read.ensures in
    absurd (false≢true (c.in_err-take_claim.ensures.ours (λ pages at page number s.
    (let o = ours c.args.at c.loop-index.index pages at page number c.read_mark-read.result in_pages in_page (read.no_other_word s.word) s in (o.0 ∙ sym c.loop-index.invariant.same_pages, o.1)))))
