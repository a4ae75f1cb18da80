-- Each step that is not idle makes one operation that loses nothing.
use Rattle.std.proofs.Common.{◌≡◌, ◌≢◌, ℕ, ◌+◌, ◌<◌, ◌≤◌, inl, inr, List, refl, arith}
use Rattle.page_turnover.specs.Value.{Task}
use Rattle.page_turnover.specs.Value.{Rest, Append, Wait, Copy, Seal}
use Rattle.page_turnover.specs.declared.log.stepping.Step.{Step}
use Rattle.page_turnover.specs.declared.log.stepping.Step.TheVariants.{Idle, Failed}
use Rattle.page_turnover.specs.Value.{LogValue}
use Rattle.page_turnover.specs.representation.Log.{Describes}
use Rattle.page_turnover.specs.Turn.{copied, target_page, next_seq}
use Rattle.page_turnover.specs.representation.Turn.{Turning, Copying, Appending, HoldsCopies}
use Rattle.page_turnover.specs.Steps.{StepsFor, EndsAs}
use Rattle.page_turnover.specs.Header.{header_word}
use Rattle.page_turnover.specs.Operates.{Operates, programs, erases}
use Rattle.page_turnover.proofs.Describing.{held_active, held_inside}
use Rattle.page_turnover.proofs.Headers.{header_word-small}
use Rattle.page_turnover.proofs.Turns.{target_inside, ready_holds}
use Rattle.page_turnover.proofs.Endings.{under_way, apart, append_room}

operates_for : (task : Task) (old : List ℕ) (before : LogValue) (step : Step) (new : List ℕ) (after : LogValue) → Describes old before → before.task ≡ task → step ≢ Idle → StepsFor task old before step new after → Operates old new
operates_for Rest old before step new after d t n s = absurd (n s.answer)
operates_for (Wait target) old before step new after d t n s = absurd (n s.answer)
operates_for (Append word) old before step new after d t n s =
    let u : Appending old word = under_way old before (Append word) d t in
    let held = held_active old before s.place d s.is_active in
    let low : s.place.tail ≤ 511 = append_room old before word s.place d t s.is_active in
    programs u.usable s.place.page s.place.tail word (held_inside old before s.place d s.is_active) (omega arith) u.fits (held.is_tail.free s.place.tail (omega arith) (omega arith)) s.programmed
operates_for (Copy target word) old before step new after d t n (inl a) =
    let u : Copying old target word = under_way old before (Copy target word) d t in
    erases u.turning.can.usable (target_page old) (target_inside old d.whole) (apart old before d) a.erased
operates_for (Copy target word) old before step new after d t n (inr a) =
    let u : Copying old target word = under_way old before (Copy target word) d t in
    let few : copied target < 511 = u.few in
    let h : HoldsCopies old (target_page old) (copied target) = ready_holds old target u.turning.target_is a.ready in
    programs u.turning.can.usable (target_page old) (copied target + 1) word (target_inside old d.whole) (omega arith) u.fits (h.rest (copied target + 1) (omega arith) (omega arith)) a.programmed
operates_for (Seal target) old before step new after d t n (inl a) =
    let u : Turning old target = under_way old before (Seal target) d t in
    erases u.can.usable (target_page old) (target_inside old d.whole) (apart old before d) a.erased
operates_for (Seal target) old before step new after d t n (inr a) =
    let u : Turning old target = under_way old before (Seal target) d t in
    let h : HoldsCopies old (target_page old) (copied target) = ready_holds old target u.target_is a.ready in
    programs u.can.usable (target_page old) 0 (header_word 2 (next_seq old)) (target_inside old d.whole) (omega arith) (header_word-small (next_seq old) u.can.numbered) h.header a.programmed

pub operates : (old : List ℕ) (before : LogValue) (step : Step) (new : List ℕ) (after : LogValue) → Describes old before → EndsAs old before step new after → step ≢ Idle → step ≢ Failed → Operates old new
operates old before step new after d e n f = operates_for before.task old before step new after d refl n (e.done f)
