use Rattle.steady_flash.specs.Claims.{IsClaim}
use Rattle.steady_flash.proofs.Words.{no_blank}
use Rattle.steady_flash.proofs.moving.claim_spare.Goals as goal

pub returns-in-Ok-clause-outcome : goal.returns-in-Ok-clause-outcome
returns-in-Ok-clause-outcome g c =
    let said : IsClaim c.args.layout.now.pages c.args.layout.now.spare c.args.page c.args.number c.claim_bytes.result = rw (c.place.ensures.pages, c.place.ensures.at) at c.claim_bytes.ensures in
    let outcome = rw c.claim.ensures at c.in-Ok.ensures.outcome in
    (c.claim_bytes.result, said, λ torn. outcome torn (no_blank c.claim_bytes.result said.word))

pub returns-in-Err-clause-outcome : goal.returns-in-Err-clause-outcome
returns-in-Err-clause-outcome g c =
    let said : IsClaim c.args.layout.now.pages c.args.layout.now.spare c.args.page c.args.number c.claim_bytes.result = rw (c.place.ensures.pages, c.place.ensures.at) at c.claim_bytes.ensures in
    let outcome = rw c.claim.ensures at c.in-Err.ensures.outcome in
    (c.claim_bytes.result, said, λ torn. outcome torn (no_blank c.claim_bytes.result said.word))

pub returns-in-Ok-clause-marks : goal.returns-in-Ok-clause-marks
returns-in-Ok-clause-marks g c = rw c.claim.ensures at c.program_mark.ensures.marks

pub returns-in-Err-clause-marks : goal.returns-in-Err-clause-marks
returns-in-Err-clause-marks g c = rw c.claim.ensures at c.program_mark.ensures.marks
