use Rattle.std.proofs.Common.{rules, ◌≡◌, ◌+◌, ◌*◌}
use Rattle.steady_flash.specs.Cells.{IsReading, blank}
use Rattle.steady_flash.specs.Layout.{held_at}
use Rattle.steady_flash.proofs.Bumping.{nothing_above}
use Rattle.steady_flash.proofs.starting.bump_where_begun.Goals as goal

pub returns-then-not-is_about-clause-sound : goal.returns-then-not-is_about-clause-sound
returns-then-not-is_about-clause-sound g c = λ before s pages found.
    let held = held_at c.args.layout.now.held c.args.page in
    let size = g.F.MarkedFlash.size c.args.flash.now in
    let marks = g.F.MarkedFlash.marks c.args.flash.now in
    let is_done : c.read_mark.result ≡ c.done_bytes.result = search rules in
    let is_blank : c.read_mark-2.result ≡ blank = search rules in
    let done : IsReading (marks held.page (2 + 3 * held.index)).cells c.done_bytes.result = rw is_done at (rw c.done.ensures at c.read_mark.ensures.cells) in
    let about : IsReading (marks held.page (3 + 3 * held.index)).cells blank = rw is_blank at (rw c.about.ensures at c.read_mark-2.ensures.cells) in
    nothing_above size marks before c.args.page held c.done_bytes.result (rw pages c.requires.in_pages) (c.requires.laid_out.placed.index c.args.page c.requires.in_pages) s found done c.done_bytes.ensures.word about
