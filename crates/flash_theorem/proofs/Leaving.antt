-- What an event leaves of the flash, by the operation that the world names.
use Rattle.std.proofs.Common.{◌≡◌, ◌≢◌, ◌∙◌, ℕ, Option, List, refl, sym, ap, subst}
use Rattle.flash_model.specs.FlashOperation.{FlashOperation}
use Rattle.flash_model.specs.Sim.{SimValue}
use Rattle.layers.specs.Codes.{DefaultCodes}
use Rattle.page_turnover.specs.declared.operation.Operation.{Operation}
use Rattle.page_turnover.specs.Next.{on_flash}
use Rattle.keymap_store.specs.declared.store.Work.{Work as WorkAnswer}
use Rattle.keymap_store.specs.declared.store.Work.TheVariants.{Idle, Working, Settled, Failed}
use Rattle.keyboard.specs.Commands.{working}
use Rattle.keyboard.specs.Feature.{yes, no}
use Rattle.keyboard.specs.Conforming.{WorkedOn, MakesSuch}
use Rattle.world.specs.declared.event.Answer.{Answer}
use Rattle.world.specs.declared.event.Event.{Event}
use Rattle.world.specs.Erases.{next_in, made_in, operation_of}
use Rattle.world.specs.History.{Session, session, flash_after}
use Rattle.world.specs.Kinds.{Step}
use Rattle.world.specs.Order.{found_by}
use Rattle.flash_theorem.specs.declared.board.Happening.{Happening}
use Rattle.flash_theorem.specs.declared.board.Happening.TheVariants.{Scan, Setup, OutPacket, InPacket, Poll, Work, Cut, CutInWork, BusReset, Entry, Leds}
use Rattle.flash_theorem.specs.Happenings.{IsAs, Works, CutsIn, Leaves}
use Rattle.flash_theorem.specs.WorkCut.{WorkIsCut, idles, fails}
use Rattle.flash_theorem.specs.representation.Relation.{next_of}
use Rattle.flash_theorem.proofs.Inside.{idle_rests}

module _ (defaults : DefaultCodes) {F : Type 0} (operates : F → FlashOperation → F → Type 0) where
  made : (start : SimValue) (past : List Step) (work : WorkAnswer) (left : List ℕ) (old new : F)
      → MakesSuch defaults (session start past).first (session start past).past work left (λ operation. operates old (on_flash operation) new)
      → Works operates (next_of defaults start past) old new
  made start past work left old new m =
      subst (λ (o : Option Operation). Works operates o old new) (sym (ap (next_in defaults (session start past)) m.works_on ∙ m.step.advances.in_order)) m.is_such

  -- a step of the flash work
  pub work_leaves : (start : SimValue) (past : List Step) (work : WorkAnswer) (left : List ℕ) (old new : F)
      → WorkedOn defaults (session start past).first (session start past).past (working defaults (session start past).first (session start past).past) work left
      → (work ≢ Idle → MakesSuch defaults (session start past).first (session start past).past work left (λ operation. operates old (on_flash operation) new))
      → (work ≡ Idle → new ≡ old) → Works operates (next_of defaults start past) old new
  work_leaves start past Idle left old new w such idle =
      let now : Session = session start past in
      subst (λ (o : Option Operation). Works operates o old new) (sym (ap (next_in defaults now) (idle_rests defaults now.first now.past (working defaults now.first now.past) left w))) (idle refl)
  work_leaves start past Working left old new w such idle = made start past Working left old new (such (λ e. cc))
  work_leaves start past Settled left old new w such idle = made start past Settled left old new (such (λ e. cc))
  work_leaves start past Failed left old new w such idle = made start past Failed left old new (such (λ e. cc))

module _ (defaults : DefaultCodes) {F : Type 0} (rests : F → F → Type 0) (cuts : F → FlashOperation → ℕ → F → Type 0) where
  -- one that the power is cut in
  pub cut_leaves : (start : SimValue) (past : List Step) (old : F) (whole : ℕ) (new : F) → WorkIsCut defaults rests cuts (session start past).first (session start past).past old whole new
      → CutsIn rests cuts whole (next_of defaults start past) old new
  cut_leaves start past old whole new (idles n same) =
      subst (λ (o : Option Operation). CutsIn rests cuts whole o old new) (sym (ap (next_in defaults (session start past)) n)) same
  cut_leaves start past old whole new (fails command operation on is cut) =
      subst (λ (o : Option Operation). CutsIn rests cuts whole o old new) (sym (ap (next_in defaults (session start past)) on ∙ is)) cut

module _ (defaults : DefaultCodes) {F : Type 0} (image : F → List ℕ) (operates : F → FlashOperation → F → Type 0) (rests : F → F → Type 0) (cuts : F → FlashOperation → ℕ → F → Type 0) where
  by_event : (start : SimValue) (past : List Step) (h : Happening) (old new : F) (happened like : Event) → happened ≡ like
      → Leaves image operates rests cuts h (made_in defaults (session start past) (found_by like (flash_after start past))) old new
      → Leaves image operates rests cuts h (made_in defaults (session start past) (found_by happened (flash_after start past))) old new
  by_event start past h old new happened like e l =
      subst (λ (x : Event). Leaves image operates rests cuts h (made_in defaults (session start past) (found_by x (flash_after start past))) old new) (sym e) l

  -- the operation that the world names of the step is the next one of the command at work
  pub leaves_named : (start : SimValue) (past : List Step) (h : Happening) (reported : Answer) (step : Step) (old new : F) → IsAs h reported step.event → Leaves image operates rests cuts h (next_of defaults start past) old new
      → Leaves image operates rests cuts h (operation_of defaults start past step) old new
  leaves_named start past (Scan scan) reported step old new i l = l
  leaves_named start past (Setup bytes) reported step old new i l = l
  leaves_named start past (OutPacket packet) reported step old new i l = l
  leaves_named start past InPacket reported step old new i l = l
  leaves_named start past Poll reported step old new i l = l
  leaves_named start past Work reported step old new (yes f (mask, is, e)) l = by_event start past Work old new step.event _ e l
  leaves_named start past Work reported step old new (no f e) l = by_event start past Work old new step.event _ e l
  leaves_named start past (Cut cut_starts) reported step old new i l = l
  leaves_named start past (CutInWork whole cut_starts) reported step old new (mask, is, e) l = by_event start past (CutInWork whole cut_starts) old new step.event _ e l
  leaves_named start past BusReset reported step old new i l = l
  leaves_named start past (Entry layer key) reported step old new i l = l
  leaves_named start past Leds reported step old new i l = l
