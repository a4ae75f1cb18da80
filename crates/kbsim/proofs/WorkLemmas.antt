-- The flash work of a command ends in time: steps that each needed more are fewer than the most that a command takes.
use Rattle.std.proofs.Common.{◌≡◌, ℕ, suc, ◌+◌, ◌<◌, ◌≤◌, IsSome, Bool, Option, Some, None, List, [], ◌∷◌, ◌++◌, length, refl, ap, subst, ◌∙◌, arith}
use Rattle.flash_model.specs.Sim.{SimValue}
use Rattle.layers.specs.Standard.{standard}
use Rattle.layers.specs.declared.command.Command.{Command}
use Rattle.keymap_store.specs.declared.store.Work.{Work as WorkAnswer}
use Rattle.keymap_store.specs.declared.store.Work.TheVariants.{Working}
use Rattle.keymap_store.specs.Keymap.{SameEntries}
use Rattle.keyboard.specs.Calls.{Call, Worked as CalledWork, EachCall, keymap, image_after}
use Rattle.keyboard.specs.Commands.{working}
use Rattle.keyboard.specs.Bounded.{most_steps, steps_since, IsInTime}
use Rattle.keyboard.specs.Conforming as keyboard
use Rattle.keyboard.proofs.Accepting.{ended_by-working}
use Rattle.keyboard.proofs.Bounding.{steps_since-more}
use Rattle.keyboard.proofs.Effects.{accepts-work}
use Rattle.keyboard.proofs.Sessions.{orderly, working_after, after_stays}
use Rattle.world.specs.declared.event.Event.{Event}
use Rattle.world.specs.declared.event.Event.TheVariants.{Work}
use Rattle.world.specs.declared.event.Answer.{Answer}
use Rattle.world.specs.declared.event.Answer.TheVariants.{Worked}
use Rattle.world.specs.Kinds.{Step, Kind, calls, kind_of}
use Rattle.world.specs.History.{Session, session, session_with, host_calls, flash_after, EachStep}
use Rattle.world.specs.Bounded.{StaysInTime}
use Rattle.world.specs.Conforming.{IsAnswered, Answered}
use Rattle.world.proofs.Here.{here}
use Rattle.kbsim.specs.Outputs.{AllWorking}

-- the calls of the keyboard that such steps are
abbrev calls_in : List Step → List Call
calls_in [] = []
calls_in (step ∷ before) = CalledWork Working step.flash.image ∷ calls_in before

kind_by : (e : Event) (a : Answer) (image : List ℕ) → e ≡ Work → a ≡ Worked Working → kind_of e a image ≡ calls (CalledWork Working image)
kind_by e a image is needs = rw (is, needs) refl

-- they begin no session
session-working : (start : SimValue) (past steps : List Step) → AllWorking steps
    → session start (steps ++ past) ≡ record { first = (session start past).first; past = calls_in steps ++ (session start past).past }
session-working start past [] all = refl
session-working start past (step ∷ before) (is_work, needs, all) =
    ap (λ (k : Kind). session_with k step.flash.image (session start (before ++ past))) (kind_by step.event step.answer step.flash.image is_work needs)
    ∙ ap (λ (s : Session). session_with (calls (CalledWork Working step.flash.image)) step.flash.image s) (session-working start past before all)

-- they accept nothing, and each is counted
steps_since-working : (steps : List Step) (past : List Call) → steps_since (calls_in steps ++ past) ≡ length steps + steps_since past
steps_since-working [] past = omega arith
steps_since-working (step ∷ before) past =
    let call : Call = CalledWork Working step.flash.image in
    let more : steps_since (call ∷ calls_in before ++ past) ≡ suc (steps_since (calls_in before ++ past))
    = steps_since-more call (calls_in before ++ past) (λ n. refl) (accepts-work (calls_in before ++ past) Working step.flash.image) in
    let earlier : steps_since (calls_in before ++ past) ≡ length before + steps_since past = steps_since-working before past in
    omega (arith, more, earlier)

-- a step needs more only while a command works, and leaves the keymap
works_before : (first : List ℕ) (past : List Call) (w : Option Command) (image : List ℕ) → keyboard.WorkedOn standard first past w Working image
    → IsSome w × SameEntries (keymap standard image) (keymap standard (image_after first past))
works_before first past None image (idle, same) = cc
works_before first past (Some command) image on = (refl, on.outcome)

-- and the command still works then
works_after : (first : List ℕ) (past : List Call) (image : List ℕ) → EachCall (keyboard.IsAnswered standard) first past
    → keyboard.IsAnswered standard first past (CalledWork Working image) → IsSome (working standard first (CalledWork Working image ∷ past))
works_after first past image conforming answered =
    let call : Call = CalledWork Working image in
    let (some, kept) = works_before first past (working standard first past) image answered in
    let after : working standard first (call ∷ past) ≡ working standard first past = working_after standard first past call (working standard first past)
    (after_stays standard first past call (orderly standard first past conforming) (record { keeps = ended_by-working standard image }) (accepts-work past Working image) kept) in
    rw after some

-- the call of such a step is answered as it has to be
conforming_call : (start : SimValue) (past : List Step) (step : Step) → IsAnswered standard start past step → step.event ≡ Work → step.answer ≡ Worked Working
    → keyboard.IsAnswered standard (session start past).first (session start past).past (CalledWork Working step.flash.image)
conforming_call start past step answered is_work needs =
    let (work, is, worked, none) =
    subst (λ (e : Event). Answered standard (session start past) (host_calls past) (flash_after start past) e step.answer step.refused step.flash) is_work answered in
    let same : work ≡ Working = cc in
    subst (λ (w : WorkAnswer). keyboard.IsAnswered standard (session start past).first (session start past).past (CalledWork w step.flash.image)) same worked.conforming

pub working_few : (start : SimValue) (past steps : List Step) → EachStep (IsAnswered standard) start (steps ++ past) → EachStep (StaysInTime standard) start (steps ++ past)
    → AllWorking steps → length steps < most_steps
working_few start past [] answered timely all = omega arith
working_few start past (step ∷ before) (answered, earlier) (timely, others) (is_work, needs, all) =
    let s : Session = session start (before ++ past) in
    let p : Session = session start past in
    let call : Call = CalledWork Working step.flash.image in
    let some : IsSome (working standard s.first (call ∷ s.past))
    = works_after s.first s.past step.flash.image (here standard start (before ++ past) earlier).conforming (conforming_call start (before ++ past) step answered is_work needs) in
    let in_time : IsInTime standard s.first (call ∷ s.past)
    = subst (λ (k : Kind). let now = session_with k step.flash.image s in IsInTime standard now.first now.past) (kind_by step.event step.answer step.flash.image is_work needs) timely in
    let few : suc (steps_since (call ∷ s.past)) ≤ 387 = in_time some in
    let count : steps_since (call ∷ s.past) ≡ length (step ∷ before) + steps_since p.past
    = ap (λ (t : Session). steps_since (call ∷ t.past)) (session-working start past before all) ∙ steps_since-working (step ∷ before) p.past in
    omega (arith, few, count)
