use Rattle.std.proofs.Common.{refl}
use Rattle.descriptor_parse.proofs.ReportLemmas.{refine_data}
use Rattle.descriptor_parse.proofs.reports.Reports.take.Goals as goal

pub returns-clause-taken : goal.returns-clause-taken
returns-clause-taken c = λ before item e flags g ls fits few s.
    refine_data before item c.args.kind c.args.globals.now c.args.locals.now c.args.self.now _ _ c.in_ok-bit.bit _ e g ls fits few
    c.saturating_mul-more.ensures c.in_ok-bit.ensures.was (λ k i. c.in_ok-bit.ensures.added k i) (λ k i. c.in_ok-bit.ensures.first k i) refl refl refl refl refl refl
    (rw (← flags) at c.in_ok-declare.ensures.declared) s
