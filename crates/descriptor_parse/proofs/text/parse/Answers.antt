use Rattle.std.proofs.Common.{ℕ, List, [], arith}
use Rattle.std.proofs.lemmas.List.{append-nil}
use Rattle.std.proofs.lemmas.Result.{err_from_is_err_and}
use Rattle.descriptor_parse.specs.declared.state.State.{State}
use Rattle.descriptor_parse.specs.Parse.{Refuses}
use Rattle.descriptor_parse.specs.representation.Fed.{IsAt}
use Rattle.descriptor_parse.specs.representation.StateRefines.{StateRefines}
use Rattle.descriptor_parse.proofs.ReadingLemmas.{at_start, at_more, ends_well, ends_known, ends_counted, ends_linkable}
use Rattle.descriptor_parse.proofs.text.parse.Goals as goal

-- nothing of the text is read
begins : (text : List ℕ) (state : State) → StateRefines [] state → IsAt text text 0 state
begins text state s = at_more [] [] text 0 state (at_start state s)

pub returns-in_err-offset-clause-first : goal.returns-in_err-offset-clause-first
returns-in_err-offset-clause-first c =
    let p = err_from_is_err_and c.from_residual.result c.from_residual.ensures.1 in
    let refuses : Refuses c.args.text.now c.in_err-offset.field-0.0 =
    (rw (append-nil c.args.text.now) at (c.in_err-offset.ensures.refused c.args.text.now (begins c.args.text.now c.new-state.result c.new-state.ensures) [])) in
    rw (p.1, p.2) refuses.first

pub returns-in_err-offset-clause-memory : goal.returns-in_err-offset-clause-memory
returns-in_err-offset-clause-memory c =
    let p = err_from_is_err_and c.from_residual.result c.from_residual.ensures.1 in
    let refuses : Refuses c.args.text.now c.in_err-offset.field-0.0 =
    (rw (append-nil c.args.text.now) at (c.in_err-offset.ensures.refused c.args.text.now (begins c.args.text.now c.new-state.result c.new-state.ensures) [])) in
    rw (p.1, p.2) refuses.memory

pub returns-in-Some-clause-first : goal.returns-in-Some-clause-first
returns-in-Some-clause-first c =
    let refuses : Refuses c.args.text.now c.in-Some.error = c.in-Some.ensures.refused c.args.text.now (c.in_ok-offset.ensures.read c.args.text.now (begins c.args.text.now c.new-state.result c.new-state.ensures)) in
    refuses.first

pub returns-in-Some-clause-memory : goal.returns-in-Some-clause-memory
returns-in-Some-clause-memory c =
    let refuses : Refuses c.args.text.now c.in-Some.error = c.in-Some.ensures.refused c.args.text.now (c.in_ok-offset.ensures.read c.args.text.now (begins c.args.text.now c.new-state.result c.new-state.ensures)) in
    refuses.memory

pub new-requires-clause-known : goal.new-requires-clause-known
new-requires-clause-known c = rw c.into_reports.ensures (∣ (ends_known c.args.text.now _ _ _ (λ i. omega (arith, c.type_inv.text i))
    (c.in_ok-offset.ensures.read c.args.text.now (begins c.args.text.now c.new-state.result c.new-state.ensures)) c.in_default.ensures.whole c.in_default.ensures.closed) ∣₁)

pub new-requires-clause-counted : goal.new-requires-clause-counted
new-requires-clause-counted c = rw c.into_reports.ensures (∣ (ends_counted c.args.text.now _ _ _ (λ i. omega (arith, c.type_inv.text i))
    (c.in_ok-offset.ensures.read c.args.text.now (begins c.args.text.now c.new-state.result c.new-state.ensures)) c.in_default.ensures.whole c.in_default.ensures.closed) ∣₁)

pub new-requires-clause-linkable : goal.new-requires-clause-linkable
new-requires-clause-linkable c = rw c.into_reports.ensures (ends_linkable c.args.text.now _ _ _ (λ i. omega (arith, c.type_inv.text i))
    (c.in_ok-offset.ensures.read c.args.text.now (begins c.args.text.now c.new-state.result c.new-state.ensures)) c.in_default.ensures.whole c.in_default.ensures.closed)

pub returns-clause-faultless : goal.returns-clause-faultless
returns-clause-faultless c = (ends_well c.args.text.now _ _ _ (c.in_ok-offset.ensures.read c.args.text.now (begins c.args.text.now c.new-state.result c.new-state.ensures)) c.in_default.ensures.whole c.in_default.ensures.closed).0

pub returns-clause-described : goal.returns-clause-described
returns-clause-described c = rw (c.new.ensures, c.into_reports.ensures)
    ((ends_well c.args.text.now _ _ _ (c.in_ok-offset.ensures.read c.args.text.now (begins c.args.text.now c.new-state.result c.new-state.ensures)) c.in_default.ensures.whole c.in_default.ensures.closed).1)
