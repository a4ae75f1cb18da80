use Rattle.std.proofs.Common.{refl}
use Rattle.page_turnover.proofs.Making.{assured_or, programmed, program_checked}
use Rattle.page_turnover.proofs.attempt.program.Goals as goal

pub returns-in-Ok-clause-made : goal.returns-in-Ok-clause-made
returns-in-Ok-clause-made g c =
    programmed (g.F.NorFlash.image c.args.flash.now) (g.F.NorFlash.image c.program_slot.new.self) c.args.page c.args.slot c.args.word
    c.pages-pages.ensures.whole c.in-Ok.ensures.whole c.requires (rw c.encode.ensures at c.in-Ok.ensures.outcome)

pub returns-in-Err-clause-made : goal.returns-in-Err-clause-made
returns-in-Err-clause-made g c =
    program_checked (g.F.NorFlash.image c.args.flash.now) (g.F.NorFlash.image c.program_slot.new.self) c.args.page c.args.slot c.args.word c.holds.result
    c.holds.ensures c.pages-pages.ensures.whole c.in-Err.ensures.whole c.requires (rw c.encode.ensures at c.in-Err.ensures.outcome)

pub returns-in-Ok-clause-faultless : goal.returns-in-Ok-clause-faultless
returns-in-Ok-clause-faultless g c n f s =
    let a = assured_or _ (g.F.NorFlash.image c.args.flash.now) c.args.page c.args.slot c.args.word c.pages-pages.ensures.whole c.requires s in
    let h = rw c.encode.ensures at c.in-Ok.ensures.faultless in
    ((h n f a).1, refl)

pub returns-in-Err-clause-faultless : goal.returns-in-Err-clause-faultless
returns-in-Err-clause-faultless g c n f s =
    let a = assured_or _ (g.F.NorFlash.image c.args.flash.now) c.args.page c.args.slot c.args.word c.pages-pages.ensures.whole c.requires s in
    let h = rw c.encode.ensures at c.in-Err.ensures.faultless in
    let e = (h n f a).0 in
    cc
