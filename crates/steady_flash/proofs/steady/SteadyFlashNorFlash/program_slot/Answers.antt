use Rattle.std.proofs.Common.{arith, sym, ◌∙◌, ◌<◌}
use Rattle.steady_flash.proofs.Doubts.{count_as, whole_as}
use Rattle.steady_flash.proofs.steady.SteadyFlashNorFlash.program_slot.Goals as goal

pub returns-then-is_err-clause-outcome : goal.returns-then-is_err-clause-outcome
returns-then-is_err-clause-outcome g c =
    let b : c.args.page < c.args.self.now.layout.pages = rw (count_as (g.F.MarkedFlash.slots c.args.self.now.flash) c.args.self.now.layout c.args.self.now.in_doubt) at c.requires.in_pages in
    c.program-done.ensures.outcome b c.requires.in_page

pub returns-then-is_err-clause-whole : goal.returns-then-is_err-clause-whole
returns-then-is_err-clause-whole g c = whole_as _ (g.F.MarkedFlash.slots c.program-done.new.self.flash) c.program-done.new.self.layout c.program-done.new.self.in_doubt c.program-done.new.self.laid_out c.program-done.new.self.settled

pub returns-then-is_err-clause-same_pages : goal.returns-then-is_err-clause-same_pages
returns-then-is_err-clause-same_pages g c = count_as (g.F.MarkedFlash.slots c.program-done.new.self.flash) c.program-done.new.self.layout c.program-done.new.self.in_doubt ∙ c.program-done.ensures.same_pages ∙ sym (count_as (g.F.MarkedFlash.slots c.args.self.now.flash) c.args.self.now.layout c.args.self.now.in_doubt)

pub returns-else-is_err-clause-outcome : goal.returns-else-is_err-clause-outcome
returns-else-is_err-clause-outcome g c =
    let b : c.args.page < c.args.self.now.layout.pages = rw (count_as (g.F.MarkedFlash.slots c.args.self.now.flash) c.args.self.now.layout c.args.self.now.in_doubt) at c.requires.in_pages in
    c.program-done.ensures.outcome b c.requires.in_page

pub returns-else-is_err-clause-whole : goal.returns-else-is_err-clause-whole
returns-else-is_err-clause-whole g c = whole_as _ (g.F.MarkedFlash.slots c.program-done.new.self.flash) c.program-done.new.self.layout c.program-done.new.self.in_doubt c.program-done.new.self.laid_out c.program-done.new.self.settled

pub returns-else-is_err-clause-same_pages : goal.returns-else-is_err-clause-same_pages
returns-else-is_err-clause-same_pages g c = count_as (g.F.MarkedFlash.slots c.program-done.new.self.flash) c.program-done.new.self.layout c.program-done.new.self.in_doubt ∙ c.program-done.ensures.same_pages ∙ sym (count_as (g.F.MarkedFlash.slots c.args.self.now.flash) c.args.self.now.layout c.args.self.now.in_doubt)

pub returns-then-is_err-clause-faultless : goal.returns-then-is_err-clause-faultless
returns-then-is_err-clause-faultless g c n f assured =
    let b : c.args.page < c.args.self.now.layout.pages = rw (count_as (g.F.MarkedFlash.slots c.args.self.now.flash) c.args.self.now.layout c.args.self.now.in_doubt) at c.requires.in_pages in
    let done = c.program-done.ensures.healthy f.0 f.1 f.2 b c.requires.in_page (omega (arith, f.3 c.args.page b)) in
    (done.0, (done.1, done.2, done.3, λ p d. omega (arith, f.3 p (rw c.program-done.ensures.same_pages at d), c.program-done.ensures.numbers p)))

pub returns-else-is_err-clause-faultless : goal.returns-else-is_err-clause-faultless
returns-else-is_err-clause-faultless g c n f assured =
    let b : c.args.page < c.args.self.now.layout.pages = rw (count_as (g.F.MarkedFlash.slots c.args.self.now.flash) c.args.self.now.layout c.args.self.now.in_doubt) at c.requires.in_pages in
    let done = c.program-done.ensures.healthy f.0 f.1 f.2 b c.requires.in_page (omega (arith, f.3 c.args.page b)) in
    (done.0, (done.1, done.2, done.3, λ p d. omega (arith, f.3 p (rw c.program-done.ensures.same_pages at d), c.program-done.ensures.numbers p)))
