use Rattle.std.proofs.Common.{sym, arith, ap, ◌≡◌, ◌∙◌, ◌<◌, ◌-◌, ℕ, None}
use Rattle.flash_model.specs.Image.{page_count}
use Rattle.settings_log.specs.Values.{history, last_of}
use Rattle.settings_log.proofs.History.{none_more, no_place, history_none}
use Rattle.settings_log.proofs.Lookup.{found, stands, last_none, last_from, value_none}
use Rattle.settings_log.proofs.store.value_place.Goals as goal

pub returns-in_default-clause-none : goal.returns-in_default-clause-none
returns-in_default-clause-none g c e =
    value_none (g.F.NorFlash.image c.args.flash.now) c.args.id (last_none (g.F.NorFlash.image c.args.flash.now) c.args.id (sym c.in_default.is ∙ c.newest.ensures.value))

pub loop-back-init : goal.loop-back-init
loop-back-init g c = history_none (g.F.NorFlash.image c.args.flash.now) c.args.id c.in-Some.newest

pub returns-in-Some-last_on-clause-none : goal.returns-in-Some-last_on-clause-none
returns-in-Some-last_on-clause-none g c =
    let image = g.F.NorFlash.image c.args.flash.now in
    let near : c.loop-back.back < page_count image - 1 = omega (arith, c.loop-back-test.true, c.pages-back-end.ensures.count) in
    let f = found image c.args.id c.in-Some.newest c.loop-back.back c.in-Some-last_on.place (sym c.in-Some.is ∙ c.newest.ensures.value) c.pages-back-end.ensures.whole.least near
    c.loop-back.invariant (sym c.in-Some-last_on.is ∙ c.last_on.ensures (omega (arith, near))) in
    (stands image c.args.id c.in-Some-last_on.place c.value_at.result f c.value_at.ensures.head).0

pub returns-in-Some-last_on-clause-some : goal.returns-in-Some-last_on-clause-some
returns-in-Some-last_on-clause-some g c =
    let image = g.F.NorFlash.image c.args.flash.now in
    let near : c.loop-back.back < page_count image - 1 = omega (arith, c.loop-back-test.true, c.pages-back-end.ensures.count) in
    let f = found image c.args.id c.in-Some.newest c.loop-back.back c.in-Some-last_on.place (sym c.in-Some.is ∙ c.newest.ensures.value) c.pages-back-end.ensures.whole.least near
    c.loop-back.invariant (sym c.in-Some-last_on.is ∙ c.last_on.ensures (omega (arith, near))) in
    (stands image c.args.id c.in-Some-last_on.place c.value_at.result f c.value_at.ensures.head).1

pub loop-back-preserved : goal.loop-back-preserved
loop-back-preserved g c =
    let image = g.F.NorFlash.image c.args.flash.now in
    let near : c.loop-back.back < page_count image - 1 = omega (arith, c.loop-back-test.true, c.pages-back-end.ensures.count) in
    none_more image c.args.id c.in-Some.newest c.loop-back.back c.loop-back.invariant (no_place _ (sym c.in_default-last_on.is ∙ c.last_on.ensures (omega (arith, near))))

pub returns-clause-none : goal.returns-clause-none
returns-clause-none g c e =
    let image = g.F.NorFlash.image c.args.flash.now in
    let all : c.loop-back.back ≡ page_count image - 1 = omega (arith, c.loop-back-test.false, c.loop-back.auto.back-end, c.pages-back-end.ensures.count) in
    value_none image c.args.id (last_from image c.args.id c.in-Some.newest None (sym c.in-Some.is ∙ c.newest.ensures.value)
    (ap (λ (n : ℕ). last_of c.args.id (history image c.in-Some.newest n)) (sym all) ∙ c.loop-back.invariant))
