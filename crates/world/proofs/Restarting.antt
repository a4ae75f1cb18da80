-- Each restart is legal, and each look shows the settled commands.
use Rattle.std.proofs.lemmas.Grind.{common_steps}
use Rattle.std.proofs.Common.{◌≡◌, ℕ, ◌<◌, Bool, Option, Some, None, List, [], ◌∷◌, sym, ◌∙◌, ap, subst, arith}
use Rattle.flash_model.specs.Sim.{SimValue}
use Rattle.layers.specs.Codes.{layers, keys, DefaultCodes}
use Rattle.layers.specs.Entries.{changed}
use Rattle.layers.specs.declared.command.Command.{Command}
use Rattle.keymap_store.specs.declared.store.Work.{Work as WorkAnswer}
use Rattle.host.specs.Calls.{HostCall}
use Rattle.keyboard.specs.Calls.{Call, Worked as KeyboardWorked, keymap, EachCall}
use Rattle.keyboard.specs.Commands.{accepted, settled_of}
use Rattle.keyboard.specs.Conforming.{WorkedOn, IsAnswered as IsCallAnswered}
use Rattle.keyboard.specs.Restart.{RestartsLegally}
use Rattle.keyboard.proofs.Restarting.{restarts_legally}
use Rattle.keyboard.proofs.Sessions.{orderly}
use Rattle.keyboard.proofs.Working.{cuts_legally}
use Rattle.world.specs.declared.event.Event.{Event}
use Rattle.world.specs.declared.event.Event.TheVariants.{Entry}
use Rattle.world.specs.declared.event.Answer.{Answer}
use Rattle.world.specs.declared.event.Answer.TheVariants.{EntryIs}
use Rattle.world.specs.Kinds.{Step, starts, kind_of}
use Rattle.world.specs.History.{Session, session, host_calls, flash_after, EachStep}
use Rattle.world.specs.Conforming.{Answered, IsAnswered}
use Rattle.world.specs.Restart.{StartsLegally, ShowsSettled}
use Rattle.world.proofs.Here.{Here, here}

module _ (defaults : DefaultCodes) where
  -- the power was cut inside a step of the flash work
  by_step : (first : List ℕ) (past : List Call) (w : Option Command) (work : WorkAnswer) (image : List ℕ) → EachCall (IsCallAnswered defaults) first past
      → IsCallAnswered defaults first past (KeyboardWorked work image) → WorkedOn defaults first past w work image → RestartsLegally defaults first past image
  by_step first past None work image h a (idle, same) = subst (λ (x : List ℕ). RestartsLegally defaults first past x) (sym same) (restarts_legally defaults first past h)
  by_step first past (Some command) work image h a on = (cuts_legally defaults first past work image h a on.attempts.not_idle).left

  legal_by : (now : Session) (heard : List HostCall) (old : SimValue) (event : Event) (answer : Answer) (refused : Bool) (new : SimValue) → Here defaults now old
      → Answered defaults now heard old event answer refused new → kind_of event answer new.image ≡ starts → RestartsLegally defaults now.first now.past new.image
  legal_by now heard old event answer refused new h a e = grind (arith, common_steps, by_step, restarts_legally)

  pub starts_legally : (start : SimValue) (past : List Step) → EachStep (IsAnswered defaults) start past → EachStep (StartsLegally defaults) start past
  starts_legally start [] h = tt
  starts_legally start (step ∷ before) h = (
    λ s. legal_by (session start before) (host_calls before) (flash_after start before) step.event step.answer step.refused step.flash (here defaults start before h.1) h.0 s,
    starts_legally start before h.1,
  )

  shows_by : (now : Session) (heard : List HostCall) (old : SimValue) (event : Event) (answer : Answer) (refused : Bool) (new : SimValue) (layer key : ℕ) → Here defaults now old
      → Answered defaults now heard old event answer refused new → layer < layers → key < keys → event ≡ Entry layer key
      → answer ≡ EntryIs (changed defaults (keymap defaults now.first) (settled_of (accepted defaults now.first now.past)) layer key)
  shows_by now heard old event answer refused new layer key h a l k e =
      let shown = subst (λ (x : Event). Answered defaults now heard old x answer refused new) e a in
      shown.0
      ∙ ap (λ (x : List ℕ). EntryIs (keymap defaults x layer key)) (sym h.image)
      ∙ ap (λ (x : ℕ). EntryIs x) ((orderly defaults now.first now.past h.conforming).kept layer key l k)

  pub shows_settled : (start : SimValue) (past : List Step) → EachStep (IsAnswered defaults) start past → EachStep (ShowsSettled defaults) start past
  shows_settled start [] h = tt
  shows_settled start (step ∷ before) h = (
    λ layer key l k e. shows_by (session start before) (host_calls before) (flash_after start before) step.event step.answer step.refused step.flash layer key (here defaults start before h.1) h.0 l k e,
    shows_settled start before h.1,
  )
