use Rattle.std.proofs.Common.{◌+◌, ◌≤◌, ◌<◌, ◌^◌, ◌∙◌, ap, arith, refl, inl}
use Rattle.layers.specs.Copies.{places}
use Rattle.page_turnover.specs.Turn.{IsWaiting, with_copy}
use Rattle.page_turnover.specs.Value.{LogValue}
use Rattle.keymap_store.specs.Left.{target_of}
use Rattle.keymap_store.proofs.Offering.{go_on_copy, copy_target, seal_target, copy_described, offer_refines, seal_refines, not_waiting_refines}
use Rattle.keymap_store.proofs.Short.{offered_short, word_short}
use Rattle.keymap_store.proofs.store.step_turn.Goals as goal

pub returns-then-not-wants-clause-steps : goal.returns-then-not-wants-clause-steps
returns-then-not-wants-clause-steps g c entries command h o j =
    let old = g.F.NorFlash.image c.args.flash.now in
    record {
      log = c.args.log.now;
      from = c.args.from;
      offered = not_waiting_refines g.D.Defaults.defaults entries old c.args.log.now c.args.from (λ w. let t = c.wants.ensures.1 w in let f = c.if-not-wants.true in cc) c.requires.describes o;
      within = c.requires.within;
      target = refl;
      steps = c.step_turn.ensures.steps;
      job_is = j;
      faultless = λ n f. c.step_turn.ensures.faultless n f (inl (offered_short g.D.Defaults.defaults entries c.args.from old c.args.log.now.task c.requires.within o));
      operated = c.step_turn.ensures.operated;
    }

pub returns-in-Some-clause-steps : goal.returns-in-Some-clause-steps
returns-in-Some-clause-steps g c entries command h o j =
    let old = g.F.NorFlash.image c.args.flash.now in
    let log = c.args.log.now in
    let place = c.in-Some.place in
    let w : IsWaiting log.task = c.wants.ensures.0 c.if-not-wants.false in
    let next = c.in-Some.ensures.entries entries h in
    let within : place + 1 ≤ places = omega (arith, next.within) in
    let short = word_short c.in-Some.command c.in-Some.ensures.a_command in
    let fits : c.word.result < 2 ^ 32 = omega (arith, short, c.word.ensures.value) in
    let given : LogValue = record log { task = with_copy log.task c.word.result } in
    let described = copy_described old log c.word.result (go_on_copy log.task c.requires.goes_on w) fits c.requires.describes in
    let offered = offer_refines g.D.Defaults.defaults entries old log given c.args.from place c.word.result c.in-Some.command w c.requires.describes described o next c.in-Some.ensures.a_command refl c.word.ensures.value in
    record {
      log = given;
      from = place + 1;
      offered = offered;
      within = within;
      target = copy_target log.task c.word.result;
      steps = c.step_copy.ensures.steps;
      job_is = c.go_on.ensures command c.args.from j;
      faultless = λ n f. c.step_copy.ensures.faultless n f (inl (offered_short g.D.Defaults.defaults entries (place + 1) old given.task within offered.offers));
      operated = c.step_copy.ensures.operated;
    }

pub returns-in-None-clause-steps : goal.returns-in-None-clause-steps
returns-in-None-clause-steps g c entries command h o j =
    let old = g.F.NorFlash.image c.args.flash.now in
    let log = c.args.log.now in
    let w : IsWaiting log.task = c.wants.ensures.0 c.if-not-wants.false in
    let offered = seal_refines g.D.Defaults.defaults entries old log c.seal.new.self c.args.from c.requires.within w c.requires.describes (c.seal.ensures.describes old c.requires.describes) o (c.in-None.ensures.entries entries h) c.seal.ensures.pending in
    record {
      log = c.seal.new.self;
      from = c.args.from;
      offered = offered;
      within = c.requires.within;
      target = ap (λ (l : LogValue). target_of l.task) c.seal.ensures.pending ∙ seal_target log.task;
      steps = c.step_turn-in-None.ensures.steps;
      job_is = j;
      faultless = λ n f. c.step_turn-in-None.ensures.faultless n f (inl (offered_short g.D.Defaults.defaults entries c.args.from old c.seal.new.self.task c.requires.within offered.offers));
      operated = c.step_turn-in-None.ensures.operated;
    }
