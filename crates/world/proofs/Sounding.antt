-- Slots 0 stay sound, and with one that is not nothing is operated.
use Rattle.std.proofs.lemmas.Grind.{common_steps}
use Rattle.std.proofs.Common.{◌≡◌, Bool, Option, None, Some, List, [], ◌∷◌, refl, sym, ◌∙◌, subst, arith}
use Rattle.flash_model.specs.Sim.{SimValue}
use Rattle.layers.specs.Codes.{DefaultCodes}
use Rattle.layers.specs.declared.command.Command.{Command}
use Rattle.page_turnover.specs.Usable.{IsUsable}
use Rattle.keymap_store.specs.declared.store.Work.{Work as WorkAnswer}
use Rattle.keymap_store.specs.declared.store.Work.TheVariants.{Idle, Working, Settled, Failed}
use Rattle.host.specs.Calls.{HostCall}
use Rattle.keyboard.specs.Calls.{image_after}
use Rattle.keyboard.specs.Commands.{working}
use Rattle.keyboard.specs.Conforming.{WorkedOn}
use Rattle.world.specs.declared.event.Event.{Event}
use Rattle.world.specs.declared.event.Answer.{Answer}
use Rattle.world.specs.Kinds.{Step}
use Rattle.world.specs.History.{Session, session, host_calls, flash_after, EachStep}
use Rattle.world.specs.Conforming.{Answered, IsAnswered, OperatedAs, WorksIn}
use Rattle.world.specs.Sound.{KeepsSound}
use Rattle.world.proofs.Here.{Here, here}

-- the flash is as it was, or was sound and is
data Touches (old new : SimValue) : Type 0 where
  untouched : new ≡ old → Touches old new
  stays_sound : IsUsable old.image → IsUsable new.image → Touches old new

one_more : (start : SimValue) (before : List Step) (step : Step) → Touches (flash_after start before) step.flash → KeepsSound start before → KeepsSound start (step ∷ before)
one_more start before step (untouched e) k = record { sound = λ u. subst (λ (f : SimValue). IsUsable f.image) (sym e) (k.sound u); untouched = λ n. e ∙ k.untouched n }
one_more start before step (stays_sound u v) k = record {
  sound = λ _. v;
  untouched = λ n. absurd (n (subst (λ (f : SimValue). IsUsable f.image) (k.untouched n) u));
}

module _ (defaults : DefaultCodes) where
  idle_same : (now : Session) (old armed : SimValue) (work : WorkAnswer) (new : SimValue) → work ≡ Idle → OperatedAs defaults now old armed work new → new ≡ old
  idle_same now old armed Idle new e o = o
  idle_same now old armed Working new e o = cc
  idle_same now old armed Settled new e o = cc
  idle_same now old armed Failed new e o = cc

  worked : (now : Session) (w : Option Command) (old armed : SimValue) (work : WorkAnswer) (new : SimValue) → image_after now.first now.past ≡ old.image
      → WorkedOn defaults now.first now.past w work new.image → OperatedAs defaults now old armed work new → Touches old new
  worked now None old armed work new i (idle, same) o = untouched (idle_same now old armed work new idle o)
  worked now (Some command) old armed work new i on o =
      stays_sound (subst IsUsable i on.usable) on.sound

  worked_in : (now : Session) (old armed : SimValue) (work : WorkAnswer) (new : SimValue) → Here defaults now old → WorksIn defaults now old armed work new → Touches old new
  worked_in now old armed work new h w = worked now (working defaults now.first now.past) old armed work new h.image w.conforming w.operated

  touches : (now : Session) (heard : List HostCall) (old : SimValue) (event : Event) (answer : Answer) (refused : Bool) (new : SimValue) → Here defaults now old
      → Answered defaults now heard old event answer refused new → Touches old new
  touches now heard old event answer refused new h a = grind (arith, common_steps, worked_in, untouched)

  pub keeps_sound : (start : SimValue) (past : List Step) → EachStep (IsAnswered defaults) start past → KeepsSound start past
  keeps_sound start [] h = record { sound = λ u. u; untouched = λ n. refl }
  keeps_sound start (step ∷ before) h =
      one_more start before step
      (touches (session start before) (host_calls before) (flash_after start before) step.event step.answer step.refused step.flash (here defaults start before h.1) h.0)
      (keeps_sound start before h.1)
