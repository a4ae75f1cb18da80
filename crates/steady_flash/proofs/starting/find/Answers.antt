use Rattle.std.proofs.Common.{rules, sym, true, ◌≡◌}
use Rattle.steady_flash.proofs.Finding.{found_none, found_all, found_elsewhere, no_number, number_found, apart_found, unheld_found}
use Rattle.steady_flash.proofs.Telling.{read_none, read_all}
use Rattle.steady_flash.proofs.Bumping.{reads_none, found_read}
use Rattle.std.proofs.lemmas.Bool.{false≢true}
use Rattle.steady_flash.proofs.starting.find.Goals as goal

pub returns-clause-found : goal.returns-clause-found
returns-clause-found g c = λ before k e.
    let f = c.in_ok-find_claims.ensures.found before k (found_none _ _ before _ k (sym e) no_number) in
    found_elsewhere before c.find_claims.new.layout _ (found_all _ _ before c.find_claims.new.layout c.args.pages k e f)

pub returns-in_err-find_claims-clause-complete : goal.returns-in_err-find_claims-clause-complete
returns-in_err-find_claims-clause-complete g c = λ h before k e o. absurd (false≢true (c.in_err-find_claims.ensures.ours o))

pub returns-then-not-is_whole-clause-complete : goal.returns-then-not-is_whole-clause-complete
returns-then-not-is_whole-clause-complete g c = λ h before k e o.
    let f = found_all _ _ before c.find_claims.new.layout c.args.pages k e (c.in_ok-find_claims.ensures.found before k (found_none _ _ before _ k (sym e) no_number)) in
    let whole = c.is_whole.ensures.whole (number_found _ _ before c.find_claims.new.layout k f) (apart_found _ _ before c.find_claims.new.layout k f) (unheld_found _ _ before c.find_claims.new.layout _ k f c.spare_of.ensures.free) in
    absurd (search rules)

pub returns-clause-read : goal.returns-clause-read
returns-clause-read g c =
    let f = c.in_ok-find_claims.ensures.read (read_none _ _ _ no_number) in
    let whole : c.is_whole.result ≡ true = search rules in
    (c.find_claims.ensures.same_pages, read_all _ _ c.find_claims.new.layout c.spare_of.result c.args.pages c.requires.count f (c.is_whole.ensures.numbered whole))

pub returns-clause-sound : goal.returns-clause-sound
returns-clause-sound g c = λ before s e.
    let placed = c.find_claims.ensures.placed in
    found_read _ (g.F.MarkedFlash.marks c.args.flash.now) before c.find_claims.new.layout c.args.pages s e placed c.find_claims.ensures.same_pages (c.in_ok-find_claims.ensures.reads (reads_none _ (g.F.MarkedFlash.marks c.args.flash.now) _ no_number))
