use Rattle.std.proofs.Common.{◌≡◌, ◌∙◌, not, sym, refl, ap, ℕ, List, Some}
use Rattle.std.specs.Str.{bytes_eq}
use Rattle.reports.specs.declared.Input.{Input}
use Rattle.reports.specs.declared.Input.TheVariants.{One, Two}
use Rattle.reports.specs.Calls.{PollerCall}
use Rattle.reports.specs.representation.Kept.{SentValue}
use Rattle.reports.specs.Poll.{is_changed}
use Rattle.reports.specs.representation.Relation.{SentRefines}
use Rattle.reports.proofs.Due.{rule_answer-report, never_boot}
use Rattle.reports.proofs.poller.Poller.due_report.Goals as goal

changed : (report : Input) (past : List PollerCall) (bytes : Input → List ℕ) (wanted : List ℕ) (sent : SentValue) → bytes report ≡ wanted → SentRefines report past sent
    → is_changed bytes past report ≡ not (bytes_eq wanted sent.bytes)
changed report past bytes wanted sent e s = rw (e, ← s.bytes) refl

pub returns-in-Some-One : goal.returns-in-Some-One
returns-in-Some-One c past bytes e1 e2 r =
    let h = rw (← c.self.view_is) at r in
    let f1 = rw (← c.self.view_is) at e1 in
    let f2 = rw (← c.self.view_is) at e2 in
    let found = c.chosen.ensures past bytes (changed One past bytes _ _ f1 h.one ∙ sym c.is_changed.ensures) (changed Two past bytes _ _ f2 h.two ∙ sym c.is_changed-2.ensures) r in
    sym (rule_answer-report bytes past c.chosen.result found ∙ rw (c.in-Some-One.is, c.in-Some-One.field-0-is, f1) (ap (λ (b : List ℕ). Some b) (sym (c.copy.ensures ∙ c.made.ensures))))

pub returns-in-Some-Two : goal.returns-in-Some-Two
returns-in-Some-Two c past bytes e1 e2 r =
    let h = rw (← c.self.view_is) at r in
    let f1 = rw (← c.self.view_is) at e1 in
    let f2 = rw (← c.self.view_is) at e2 in
    let found = c.chosen.ensures past bytes (changed One past bytes _ _ f1 h.one ∙ sym c.is_changed.ensures) (changed Two past bytes _ _ f2 h.two ∙ sym c.is_changed-2.ensures) r in
    sym (rule_answer-report bytes past c.chosen.result found ∙ rw (c.in-Some-Two.is, c.in-Some-Two.field-0-is, f2) (ap (λ (b : List ℕ). Some b) (sym (c.copy-in-Some-Two.ensures ∙ c.made-in-Some-Two.ensures))))

pub returns-in-Some-Boot : goal.returns-in-Some-Boot
returns-in-Some-Boot c past bytes e1 e2 r =
    let h = rw (← c.self.view_is) at r in
    let f1 = rw (← c.self.view_is) at e1 in
    let f2 = rw (← c.self.view_is) at e2 in
    let found = c.chosen.ensures past bytes (changed One past bytes _ _ f1 h.one ∙ sym c.is_changed.ensures) (changed Two past bytes _ _ f2 h.two ∙ sym c.is_changed-2.ensures) r in
    absurd (never_boot bytes past (sym found ∙ c.in-Some-Boot.is ∙ ap Some c.in-Some-Boot.field-0-is))

pub returns-in-None : goal.returns-in-None
returns-in-None c past bytes e1 e2 r =
    let h = rw (← c.self.view_is) at r in
    let f1 = rw (← c.self.view_is) at e1 in
    let f2 = rw (← c.self.view_is) at e2 in
    let found = c.chosen.ensures past bytes (changed One past bytes _ _ f1 h.one ∙ sym c.is_changed.ensures) (changed Two past bytes _ _ f2 h.two ∙ sym c.is_changed-2.ensures) r in
    sym (rule_answer-report bytes past c.chosen.result found ∙ rw c.in-None.is refl)
