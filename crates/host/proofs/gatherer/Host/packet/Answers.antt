use Rattle.std.proofs.Common.{◌≡◌, false, Option, None, Some, Result, Ok, Err, refl, sym, ◌∙◌}
use Rattle.std.specs.Prelude.{IsErr, is_ok}
use Rattle.host.specs.declared.gathering.Gathering.{Gathering}
use Rattle.host.specs.Kept.{Fetch, gathering, kept}
use Rattle.host.specs.representation.Relation.{Gathers, GathersSome, Becomes}
use Rattle.host.proofs.CallLemmas.{after-none, after-refused, after-part, after-text, after-nothing}
use Rattle.host.proofs.gatherer.Host.packet.Goals as goal

not-ok : {T E : Type 0} (r : Result T E) → IsErr r → is_ok r ≡ false
not-ok (Ok x) e = cc
not-ok (Err x) e = refl

pub returns-in_default-clause-refines : goal.returns-in_default-clause-refines
returns-in_default-clause-refines c past s =
    let none : c.args.self.now.gathering ≡ None = sym c.take.ensures.value ∙ c.in_default.is in
    let now = after-none past c.args.packet.now _ c.args.self.now.kept (rw none at s.gathering) s.kept in
    rw c.take.ensures.after (record { gathering = now.0; kept = now.1 })

pub returns-in_err-gathering-clause-refines : goal.returns-in_err-gathering-clause-refines
returns-in_err-gathering-clause-refines c past s =
    let now = after-refused past c.args.packet.now c.in-Some.gathering c.args.self.now.kept (rw (sym c.in-Some.ensures.value) at s.gathering) s.kept in
    rw (c.in-Some.ensures.after, not-ok c.from_residual.result c.from_residual.ensures.0) (record { gathering = now.0; kept = now.1 })

pub returns-in-Part-clause-refines : goal.returns-in-Part-clause-refines
returns-in-Part-clause-refines c past s =
    let e = rw c.in-Part.is at c.in_ok-gathering.ensures in
    let now = after-part past c.args.packet.now c.in-Some.gathering c.in-Part.gathering c.args.self.now.kept e (rw (sym c.in-Some.ensures.value) at s.gathering) s.kept in
    record { gathering = now.0; kept = now.1 }

pub returns-in-Text-clause-refines : goal.returns-in-Text-clause-refines
returns-in-Text-clause-refines c past s =
    let e = rw c.in-Text.is at c.in_ok-gathering.ensures in
    let now = after-text past c.args.packet.now c.in-Some.gathering c.in-Text.descriptor e (rw (sym c.in-Some.ensures.value) at s.gathering) in
    rw c.in-Some.ensures.after (record { gathering = now.0; kept = now.1 })

pub returns-in-Nothing-clause-refines : goal.returns-in-Nothing-clause-refines
returns-in-Nothing-clause-refines c past s =
    let e = rw c.in-Nothing.is at c.in_ok-gathering.ensures in
    let now = after-nothing past c.args.packet.now c.in-Some.gathering c.args.self.now.kept e (rw (sym c.in-Some.ensures.value) at s.gathering) s.kept in
    rw c.in-Some.ensures.after (record { gathering = now.0; kept = now.1 })
