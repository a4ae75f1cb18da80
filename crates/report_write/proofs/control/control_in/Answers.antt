use Rattle.std.proofs.Common.{◌≡◌, ◌∙◌, sym, ap, arith, refl, true, false}
use Rattle.std.proofs.lemmas.List.{length-map}
use Rattle.std.specs.Prelude.{is_some}
use Rattle.descriptor_parse.specs.Descriptor.{usage_list}
use Rattle.report_write.specs.declared.control.Control.TheVariants.{Place}
use Rattle.report_write.specs.Controls.{places_with}
use Rattle.report_write.proofs.Controls.{listed_is, one_usage, no_usage, its_places, mapped_at}
use Rattle.report_write.proofs.control.control_in.Goals as goal

pub returns-then-not-is_some-clause-past : goal.returns-then-not-is_some-clause-past
returns-then-not-is_some-clause-past c =
    let usages = usage_list c.args.declared.now.ranges.now in
    let array : c.args.kept.now.field.array ≡ true = rw c.requires.same at c.if-declared.true in
    let listed = listed_is usages c.args.usage _ c.number_of_usage_from.ensures in
    let none = no_usage c.args.kept.now usages c.args.usage array (ap is_some listed ∙ sym c.is_some.ensures ∙ c.if-not-is_some.true) in
    rw none (omega arith)

pub returns-then-number-eq0-clause-here : goal.returns-then-number-eq0-clause-here
returns-then-number-eq0-clause-here c =
    let usages = usage_list c.args.declared.now.ranges.now in
    let array : c.args.kept.now.field.array ≡ true = rw c.requires.same at c.if-declared.true in
    let listed = listed_is usages c.args.usage _ c.number_of_usage_from.ensures in
    let one = one_usage c.args.kept.now usages c.args.usage array (ap is_some listed ∙ sym c.is_some.ensures ∙ c.if-not-is_some.false) in
    rw (one, c.if-number-eq0.true) refl

pub returns-else-number-eq0-clause-past : goal.returns-else-number-eq0-clause-past
returns-else-number-eq0-clause-past c =
    let usages = usage_list c.args.declared.now.ranges.now in
    let array : c.args.kept.now.field.array ≡ true = rw c.requires.same at c.if-declared.true in
    let listed = listed_is usages c.args.usage _ c.number_of_usage_from.ensures in
    let one = one_usage c.args.kept.now usages c.args.usage array (ap is_some listed ∙ sym c.is_some.ensures ∙ c.if-not-is_some.false) in
    rw one (omega (arith, c.if-number-eq0.false))

pub returns-in-Ok-clause-here : goal.returns-in-Ok-clause-here
returns-in-Ok-clause-here c =
    let usages = usage_list c.args.declared.now.ranges.now in
    let variable : c.args.kept.now.field.array ≡ false = rw c.requires.same at c.if-declared.false in
    let its = its_places c.args.kept.now usages c.args.usage variable in
    let here = rw c.requires.same at c.in-Ok.ensures.here in
    rw its (mapped_at (λ place. Place c.args.kept.now place) (places_with c.args.kept.now.field usages c.args.usage c.args.kept.now.field.count) c.args.number c.in-Ok.place here)

pub returns-in-Err-clause-past : goal.returns-in-Err-clause-past
returns-in-Err-clause-past c =
    let usages = usage_list c.args.declared.now.ranges.now in
    let variable : c.args.kept.now.field.array ≡ false = rw c.requires.same at c.if-declared.false in
    let its = its_places c.args.kept.now usages c.args.usage variable in
    let past = rw c.requires.same at c.in-Err.ensures.past in
    let long = length-map (places_with c.args.kept.now.field usages c.args.usage c.args.kept.now.field.count) (λ place. Place c.args.kept.now place) in
    rw its (omega (arith, long, past))
