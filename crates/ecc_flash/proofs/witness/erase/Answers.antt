use Rattle.std.proofs.Common.{◌≡◌, ℕ, ◌+◌, ◌*◌, ◌<◌, [], false, get_or, length, arith, ap, subst}
use Rattle.std.proofs.lemmas.List.{get_or_default}
use Rattle.ecc_flash.specs.Witness.{never}
use Rattle.ecc_flash.specs.declared.witness.HeldUnit.{HeldUnit}
use Rattle.ecc_flash.proofs.Witnessing.{SoFar, erased, none_yet, one_more, all_erased, all_blank, others_kept}
use Rattle.ecc_flash.proofs.witness.erase.Goals as goal

pub loop-unit-init : goal.loop-unit-init
loop-unit-init c = none_yet c.args.units.now c.args.page

pub loop-unit-preserved : goal.loop-unit-preserved
loop-unit-preserved c =
    let at : ℕ = 1024 * c.args.page + c.loop-unit.unit in
    let there : at < length c.loop-unit.units = omega arith in
    let none : HeldUnit = record { meant = []; is_blank = false } in
    one_more c.args.units.now c.loop-unit.units c.args.page c.loop-unit.unit (erased (get_or c.loop-unit.units at none)) c.loop-unit.invariant there (ap erased (get_or_default c.loop-unit.units at none never there))

pub returns-clause-blank : goal.returns-clause-blank
returns-clause-blank c u l =
    let all : c.loop-unit.unit ≡ 1024 = omega arith in
    all_blank c.args.units.now c.loop-unit.units c.args.page (subst (λ (i : ℕ). SoFar c.args.units.now c.args.page i c.loop-unit.units) all c.loop-unit.invariant) u l

pub returns-clause-outcome : goal.returns-clause-outcome
returns-clause-outcome c u l =
    let all : c.loop-unit.unit ≡ 1024 = omega arith in
    all_erased c.args.units.now c.loop-unit.units c.args.page (subst (λ (i : ℕ). SoFar c.args.units.now c.args.page i c.loop-unit.units) all c.loop-unit.invariant) u l

pub returns-clause-others : goal.returns-clause-others
returns-clause-others c p u apart =
    let all : c.loop-unit.unit ≡ 1024 = omega arith in
    others_kept c.args.units.now c.loop-unit.units c.args.page (subst (λ (i : ℕ). SoFar c.args.units.now c.args.page i c.loop-unit.units) all c.loop-unit.invariant) p u apart
