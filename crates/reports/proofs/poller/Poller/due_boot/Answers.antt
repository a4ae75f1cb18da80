use Rattle.std.proofs.Common.{ℕ, List, Some, sym, refl, ap, ◌∙◌}
use Rattle.reports.proofs.Due.{rule_answer-boot}
use Rattle.reports.proofs.poller.Poller.due_boot.Goals as goal

pub returns-then-boot_is_due : goal.returns-then-boot_is_due
returns-then-boot_is_due c past bytes e r =
    let f = rw (← c.self.view_is) at e in
    sym (rule_answer-boot bytes past c.boot_is_due.result (c.boot_is_due.ensures past bytes e r) ∙ rw (c.if-boot_is_due.true, f) (ap (λ (b : List ℕ). Some b) (sym (c.copy.ensures ∙ c.made.ensures))))

pub returns-else-boot_is_due : goal.returns-else-boot_is_due
returns-else-boot_is_due c past bytes e r =
    sym (rule_answer-boot bytes past c.boot_is_due.result (c.boot_is_due.ensures past bytes e r) ∙ rw c.if-boot_is_due.false refl)
