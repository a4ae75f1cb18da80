use Rattle.std.proofs.Common.{sym, ◌∙◌}
use Rattle.world.proofs.Sending.{answer_is_due, sent_is_wanted}
use Rattle.world.proofs.sessions.sent_is_wanted.Goals as goal

pub returns-clause-wanted : goal.returns-clause-wanted
returns-clause-wanted c defaults start past bytes answered = sent_is_wanted defaults start past bytes answered

pub returns-clause-due : goal.returns-clause-due
returns-clause-due c defaults start past answer = (λ e. e ∙ answer_is_due defaults start past, λ e. e ∙ sym (answer_is_due defaults start past))
