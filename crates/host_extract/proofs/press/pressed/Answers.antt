use Rattle.std.proofs.Common.{◌≡◌, take, get_or, arith, refl, sym, pos}
use Rattle.std.specs.Prelude.{OnErr, Result, Ok, Err}
use Rattle.std.proofs.lemmas.List.{take_more, take_all}
use Rattle.std.proofs.lemmas.List.Elements.{Contains-get_or}
use Rattle.host_extract.proofs.Pressing.{gathers-more, gathers-less}
use Rattle.host_extract.proofs.press.pressed.Goals as goal
use Rattle.host_extract.proofs.press.pressed.Goals.{then-is_on+in_ok-push, else-is_on}

on_err : {T E : Type 0} {P : Type 0} (r : Result T E) → P → OnErr r P
on_err (Ok x) p = tt
on_err (Err e) p = p

pub returns-in_err-push-clause-refused : goal.returns-in_err-push-clause-refused
returns-in_err-push-clause-refused c =
    let r = get_or c.args.found.now c.loop-reading.reading-index (record { usage = 0; value = pos 0 }) in
    on_err c.from_residual.result (r.usage, (r, Contains-get_or c.args.found.now c.loop-reading.reading-index (record { usage = 0; value = pos 0 }) c.loop-reading-test.true, refl, c.if-is_on.ensures))

pub loop-reading-preserved : goal.loop-reading-preserved
loop-reading-preserved c =
    let r = get_or c.args.found.now c.loop-reading.reading-index (record { usage = 0; value = pos 0 }) in
    let more = take_more c.args.found.now c.loop-reading.reading-index (record { usage = 0; value = pos 0 }) c.loop-reading-test.true in
    let i = c.loop-reading.reading-index in
    elim c.if-is_on.branch [
      | then-is_on+in_ok-push w ↦ (let k = w.in_ok-push.ensures in
          rw (more, w.usages-is) (rw (sym k.items) at (gathers-more (take i c.args.found.now) c.loop-reading.usages.items r c.loop-reading.invariant w.if-is_on.ensures)))
      | else-is_on w ↦ (let z : r.value ≡ pos 0 = w.if-is_on.ensures in
          rw (more, w.usages-is) (gathers-less (take i c.args.found.now) c.loop-reading.usages.items r c.loop-reading.invariant z))
    ]

pub returns-clause-pressed : goal.returns-clause-pressed
returns-clause-pressed c =
    let all : take c.loop-reading.reading-index c.args.found.now ≡ c.args.found.now = take_all c.loop-reading.reading-index c.args.found.now (omega arith) in
    let gathered = rw all at c.loop-reading.invariant in
    record {
      rising = c.make_rising.ensures.rising;
      members = λ u. ((λ k. (gathered u).0 ((c.make_rising.ensures.members u).0 k)), λ r. (c.make_rising.ensures.members u).1 ((gathered u).1 r));
    }
