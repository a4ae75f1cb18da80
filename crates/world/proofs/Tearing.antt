-- A torn step leaves what the next operation may leave.
use Rattle.std.proofs.lemmas.Grind.{common_steps}
use Rattle.std.proofs.Common.{◌≡◌, ℕ, Bool, Option, None, Some, IsSome, List, [], ◌∷◌, refl, sym, ap, subst, arith}
use Rattle.flash_model.specs.Operated.{Outcome}
use Rattle.flash_model.specs.Sim.{SimValue}
use Rattle.flash_model.proofs.ByMask.{may_program, may_erase}
use Rattle.layers.specs.Codes.{DefaultCodes}
use Rattle.layers.specs.declared.command.Command.{Command}
use Rattle.page_turnover.specs.declared.operation.Operation.{Operation}
use Rattle.page_turnover.specs.declared.operation.Operation.TheVariants.{Program, Erase}
use Rattle.page_turnover.specs.Next.{on_flash, MayMake}
use Rattle.keymap_store.specs.declared.store.Work.{Work as WorkAnswer}
use Rattle.host.specs.Calls.{HostCall}
use Rattle.keyboard.specs.Commands.{working}
use Rattle.keyboard.specs.Feature.{Where, yes, no}
use Rattle.keyboard.specs.Conforming.{WorkedOn}
use Rattle.keyboard.specs.Single.{MayBeTorn}
use Rattle.world.specs.declared.event.Event.{Event}
use Rattle.world.specs.declared.event.Event.TheVariants.{Work}
use Rattle.world.specs.declared.event.Answer.{Answer}
use Rattle.world.specs.declared.event.Answer.TheVariants.{Worked}
use Rattle.world.specs.Flash.{armed_by}
use Rattle.world.specs.Kinds.{Step}
use Rattle.world.specs.History.{Session, session, host_calls, flash_after, EachStep}
use Rattle.world.specs.Conforming.{Answered, IsConforming, WorksIn}
use Rattle.world.specs.Order.{IsNextOperation}
use Rattle.world.specs.Torn.{IsTorn, LeavesTorn}
use Rattle.world.proofs.Here.{Here, here}
use Rattle.world.proofs.Ordering.{worked}
use Rattle.world.proofs.Single.{idle_end}

by_mask : (old : List ℕ) (operation : Operation) (mask new : List ℕ) → Outcome old (on_flash operation) (Some mask) new → MayMake old operation new
by_mask old (Program page slot word) mask new o = may_program old page slot _ mask new o
by_mask old (Erase page) mask new o = may_erase old page mask new o

none_works : IsSome {T = Command} None → ⊥
none_works s = cc

module _ (defaults : DefaultCodes) where
  next_torn : (now : Session) (command : Command) (old : SimValue) (mask : List ℕ) (event : Event) (answer : Answer) (new : SimValue) → working defaults now.first now.past ≡ Some command → Here defaults now old
      → IsNextOperation defaults now command (armed_by mask old) event answer new → MayBeTorn defaults now.first now.past new.image
  next_torn now command old mask event answer new w h n = record {
    command = command;
    is_working = w;
    operation = n.operation;
    is_next = n.is_next;
    torn = subst (λ (image : List ℕ). MayMake image n.operation new.image) (sym h.image) (by_mask old.image n.operation mask new.image n.makes.outcome);
  }

  torn_by : (now : Session) (w : Option Command) (old : SimValue) (mask : List ℕ) (work : WorkAnswer) (new : SimValue) → working defaults now.first now.past ≡ w → Here defaults now old → WorksIn defaults now old (armed_by mask old) work new
      → Where (IsSome w) (MayBeTorn defaults now.first now.past new.image) (new.image ≡ old.image)
  torn_by now None old mask work new w h on =
      let idle : WorkedOn defaults now.first now.past None work new.image = subst (λ (o : Option Command). WorkedOn defaults now.first now.past o work new.image) w on.conforming in
      no none_works (ap (λ (x : SimValue). x.image) (idle_end defaults now old (armed_by mask old) work new idle.0 on.operated))
  torn_by now (Some command) old mask work new w h on =
      yes refl (next_torn now command old mask Work (Worked work) new w h (worked defaults now command old (armed_by mask old) (armed_by mask old) work Work (Worked work) new w (λ reported. refl) refl on))

  torn : (now : Session) (heard : List HostCall) (old : SimValue) (event : Event) (answer : Answer) (refused : Bool) (new : SimValue) → Here defaults now old → Answered defaults now heard old event answer refused new → IsTorn event
      → Where (IsSome (working defaults now.first now.past)) (MayBeTorn defaults now.first now.past new.image) (new.image ≡ old.image)
  torn now heard old event answer refused new h a t = grind (arith, common_steps, torn_by)

  pub leaves_torn : (start : SimValue) (history : List Step) → IsConforming defaults start history → EachStep (LeavesTorn defaults) start history
  leaves_torn start [] h = tt
  leaves_torn start (step ∷ before) h = (
    torn (session start before) (host_calls before) (flash_after start before) step.event step.answer step.refused step.flash (here defaults start before h.1) h.0,
    leaves_torn start before h.1,
  )
