-- Between two steps that commit a header, over all sessions, at least 127 write to the tail.
use Rattle.std.proofs.lemmas.Grind.{common_steps}
use Rattle.std.proofs.Common.{◌≡◌, ◌≢◌, ℕ, zero, suc, ◌≤◌, ◌<◌, Bool, Option, Some, None, List, [], ◌∷◌, ◌++◌, refl, sym, ◌∙◌, subst, arith, ◌⊎◌, inl, inr, append_assoc}
use Rattle.std.specs.Str.{bytes_eq}
use Rattle.std.proofs.lemmas.Bool.{cases_eq, cases_Bool}
use Rattle.std.proofs.lemmas.Slice.Eq.{bytes_eq-Decides}
use Rattle.records.specs.declared.Slot.TheVariants.{Free}
use Rattle.records.specs.Slots.{slot_of}
use Rattle.flash_model.specs.Image.{slot_at}
use Rattle.flash_model.specs.Operations.{OneSlot, OnePage}
use Rattle.flash_model.specs.Sim.{SimValue}
use Rattle.layers.specs.Codes.{DefaultCodes}
use Rattle.layers.specs.declared.command.Command.{Command}
use Rattle.page_turnover.specs.declared.operation.Operation.{Operation}
use Rattle.page_turnover.specs.declared.operation.Operation.TheVariants.{Program, Erase}
use Rattle.page_turnover.specs.Active.{active, format}
use Rattle.page_turnover.specs.Next.{Makes, MayMake}
use Rattle.page_turnover.specs.Steps.{Attempts}
use Rattle.page_turnover.specs.Turn.{target_page}
use Rattle.page_turnover.specs.Words.{IsActiveTail}
use Rattle.page_turnover.proofs.Headers.{is_active}
use Rattle.keymap_store.specs.declared.store.Work.{Work as WorkAnswer}
use Rattle.keymap_store.specs.declared.store.Work.TheVariants.{Idle, Working, Settled, Failed}
use Rattle.keymap_store.specs.Turnovers.{TurnsOver, Spares, Fills, Wears, over, spares, fills, Follows, begin, spare, fill}
use Rattle.keymap_store.proofs.Between.{between}
use Rattle.host.specs.Calls.{HostCall}
use Rattle.keyboard.specs.Bounded.{steps_since}
use Rattle.keyboard.specs.Calls.{Call, image_after as call_image}
use Rattle.keyboard.specs.Commands.{working}
use Rattle.keyboard.specs.Conforming.{WorkedOn}
use Rattle.keyboard.specs.Operated.{IsOfTurn, erases, copies, heads, IsRecord, LosesNothing, Works}
use Rattle.keyboard.proofs.Steps.{in_target}
use Rattle.world.specs.declared.event.Event.{Event}
use Rattle.world.specs.declared.event.Answer.{Answer}
use Rattle.world.specs.Kinds.{Step}
use Rattle.world.specs.History.{Session, session, host_calls, flash_after, image_after, EachStep}
use Rattle.world.specs.Conforming.{Answered, IsAnswered, WorksIn}
use Rattle.world.specs.Wear.{CommitsHeader, WritesTail, TailWrites, at_first, one_more, passes, WearsSlowly}
use Rattle.world.proofs.Here.{Here, here}

untouched : (image : List ℕ) → Spares image image
untouched image = record { active_is = refl; format_is = refl; same = λ page seq s a l. refl }

-- a page that begins with a Free slot is not the active one
no_header : (old : List ℕ) (page seq : ℕ) → slot_of (slot_at old page 0) ≡ Free → active old ≡ Some (page, seq) → ⊥
no_header old page seq f a = (let good = (is_active old page seq a).header.good in cc)

pub spared_by : (old new : List ℕ) → OnePage old (target_page old) new → ((seq : ℕ) → active old ≡ Some (target_page old, seq) → ⊥) → active new ≡ active old → format new ≡ format old → Spares old new
spared_by old new o n a f = record {
  active_is = a;
  format_is = f;
  same = λ page seq s e l. o.others page s l (λ t. n seq (rw t at e));
}

written_by : (old : List ℕ) (operation : Operation) (work : WorkAnswer) (new : List ℕ) (page tail word : ℕ) → operation ≡ Program page tail word → Attempts old operation (work ≡ Idle) (work ≡ Failed) new → OneSlot old page tail new
written_by old operation Idle new page tail word e a = absurd (a.not_idle refl)
written_by old operation Working new page tail word e a = (let made : Makes old (Program page tail word) new = subst (λ (o : Operation). Makes old o new) e (a.done (λ f. cc)).0 in made.rest)
written_by old operation Settled new page tail word e a = (let made : Makes old (Program page tail word) new = subst (λ (o : Operation). Makes old o new) e (a.done (λ f. cc)).0 in made.rest)
written_by old operation Failed new page tail word e a = (let torn : MayMake old (Program page tail word) new = subst (λ (o : Operation). MayMake old o new) e (a.torn refl).0 in torn.rest)

same_or_not : (new old : List ℕ) → (new ≡ old) ⊎ (new ≢ old)
same_or_not new old = elim (cases_Bool (bytes_eq new old)) [
  | inl e ↦ inl ((bytes_eq-Decides new old).0 e)
  | inr e ↦ inr (λ s. (let same = (bytes_eq-Decides new old).1 s in cc))
]

fewer : (start : SimValue) (past : List Step) (n m : ℕ) (steps : List Step) → m ≤ n → TailWrites start past n steps → TailWrites start past m steps
fewer start past zero zero [] l at_first = at_first
fewer start past zero (suc m) [] l at_first = absurd (omega (arith, l))
fewer start past (suc n) m [] l h = elim h [ ]
fewer start past (suc n) zero (step ∷ before) l (one_more k s b w h) = passes zero step before (fewer start past n zero before (omega arith) h)
fewer start past (suc n) (suc m) (step ∷ before) l (one_more k s b w h) = one_more m step before w (fewer start past n m before (omega (arith, l)) h)
fewer start past n m (step ∷ before) l (passes k s b h) = passes m step before (fewer start past n m before l h)

-- since a commit: none more was committed, and so many wrote to the tail; or there are enough of them
data Since (start : SimValue) (past : List Step) (first : List ℕ) (steps : List Step) (now : List ℕ) : Type 0 where
  counts : (n : ℕ) → Follows first n now → TailWrites start past n steps → Since start past first steps now
  enough : TailWrites start past 127 steps → Since start past first steps now

module _ (defaults : DefaultCodes) where
  -- what a step does to the log: it compacts, spares the active page, or writes to the tail
  data Wearing (old new : List ℕ) : Type 0 where
    turns_over : TurnsOver defaults old new → Wearing old new
    leaves_page : Spares old new → Wearing old new
    writes : Fills old new → WritesTail old new → Wearing old new

  pub not_active : (start : List ℕ) (past : List Call) (command : Command) (old : List ℕ) (work : WorkAnswer) (new : List ℕ) (w : Works defaults start past command old work new) → IsOfTurn defaults old w.operation
      → (seq : ℕ) → active old ≡ Some (target_page old, seq) → ⊥
  not_active start past command old work new w (erases e used) seq a = (let loses : LosesNothing old (Erase (target_page old)) = subst (λ (o : Operation). LosesNothing old o) e w.loses_nothing in loses.1 seq a)
  not_active start past command old work new w (copies n l e h) seq a = no_header old (target_page old) seq h.header a
  not_active start past command old work new w (heads e h) seq a = no_header old (target_page old) seq h.header a

  of_turn : (old new : List ℕ) → OnePage old (target_page old) new → ((seq : ℕ) → active old ≡ Some (target_page old, seq) → ⊥) → Wears defaults old new → Wearing old new
  of_turn old new o n (over t) = turns_over t
  of_turn old new o n (spares s) = leaves_page s
  of_turn old new o n (fills f) = leaves_page (spared_by old new o n f.active_is f.format_is)

  by_change : (old new : List ℕ) (page tail : ℕ) (place : IsActiveTail old page tail) → OneSlot old page tail new → Fills old new → (new ≡ old) ⊎ (new ≢ old) → Wearing old new
  by_change old new page tail place o f (inl e) = leaves_page (subst (λ (x : List ℕ). Spares old x) (sym e) (untouched old))
  by_change old new page tail place o f (inr n) = writes f (record { page = page; tail = tail; place = place; only = o; changes = n })

  of_record : (command : Command) (old : List ℕ) (operation : Operation) (work : WorkAnswer) (new : List ℕ) → IsRecord command old operation → Attempts old operation (work ≡ Idle) (work ≡ Failed) new → Wears defaults old new → Wearing old new
  of_record command old operation work new r a (over t) = turns_over t
  of_record command old operation work new r a (spares s) = leaves_page s
  of_record command old operation work new r a (fills f) = by_change old new r.page r.tail r.place (written_by old operation work new r.page r.tail _ r.operation_is a) f (same_or_not new old)

  works_wear : (start : List ℕ) (past : List Call) (command : Command) (old : List ℕ) (work : WorkAnswer) (new : List ℕ) → Works defaults start past command old work new → Wearing old new
  works_wear start past command old work new w =
      elim (cases_eq (suc (steps_since past)) w.advances.needed) [
        | inl e ↦ of_record command old w.operation work new (w.advances.record_last e) w.attempts w.wears
        | inr n ↦ (let l : suc (steps_since past) < w.advances.needed = omega (arith, n, w.advances.within) in
            of_turn old new (in_target defaults start past command old work new w l) (not_active start past command old work new w (w.advances.turn_before l)) w.wears)
      ]

  worked : (now : Session) (w : Option Command) (old : List ℕ) (work : WorkAnswer) (new : List ℕ) → call_image now.first now.past ≡ old → WorkedOn defaults now.first now.past w work new → Wearing old new
  worked now None old work new i (idle, same) = leaves_page (subst (λ (x : List ℕ). Spares old x) (sym (same ∙ i)) (untouched old))
  worked now (Some command) old work new i on = subst (λ (x : List ℕ). Wearing x new) i (works_wear now.first now.past command (call_image now.first now.past) work new on)

  worked_in : (now : Session) (old armed : SimValue) (work : WorkAnswer) (new : SimValue) → Here defaults now old → WorksIn defaults now old armed work new → Wearing old.image new.image
  worked_in now old armed work new h w = worked now (working defaults now.first now.past) old.image work new.image h.image w.conforming

  same_flash : (old new : SimValue) → new ≡ old → Wearing old.image new.image
  same_flash old new e = leaves_page (subst (λ (x : SimValue). Spares old.image x.image) (sym e) (untouched old.image))

  wearing : (now : Session) (heard : List HostCall) (old : SimValue) (event : Event) (answer : Answer) (refused : Bool) (new : SimValue) → Here defaults now old
      → Answered defaults now heard old event answer refused new → Wearing old.image new.image
  wearing now heard old event answer refused new h a = grind (arith, common_steps, worked_in, same_flash)

  wears_at : (start : SimValue) (step : Step) (before : List Step) → EachStep (IsAnswered defaults) start (step ∷ before) → Wearing (image_after start before) step.flash.image
  wears_at start step before h =
      wearing (session start before) (host_calls before) (flash_after start before) step.event step.answer step.refused step.flash (here defaults start before h.1) h.0

  -- ---- how many lie between two commits

  at_commit : (old new : List ℕ) → CommitsHeader old new → Wearing old new → TurnsOver defaults old new
  at_commit old new n (turns_over t) = t
  at_commit old new n (leaves_page s) = absurd (n s.active_is)
  at_commit old new n (writes f w) = absurd (n f.active_is)

  since_more : (start : SimValue) (past : List Step) (older first : List ℕ) (step : Step) (before : List Step) → TurnsOver defaults older first → Wearing (image_after start (before ++ past)) step.flash.image
      → Since start past first before (image_after start (before ++ past)) → Since start past first (step ∷ before) step.flash.image
  since_more start past older first step before t w (enough e) = enough (passes 127 step before e)
  since_more start past older first step before t (turns_over u) (counts n f c) =
      enough (passes 127 step before (fewer start past n 127 before (between defaults older first (image_after start (before ++ past)) step.flash.image n t f u) c))
  since_more start past older first step before t (leaves_page s) (counts n f c) = counts n (spare n (image_after start (before ++ past)) step.flash.image f s) (passes n step before c)
  since_more start past older first step before t (writes g w) (counts n f c) = counts (suc n) (fill n (image_after start (before ++ past)) step.flash.image f g) (one_more n step before w c)

  since : (start : SimValue) (past : List Step) (older : List ℕ) (steps : List Step) → TurnsOver defaults older (image_after start past) → EachStep (IsAnswered defaults) start (steps ++ past)
      → Since start past (image_after start past) steps (image_after start (steps ++ past))
  since start past older [] t h = counts 0 begin at_first
  since start past older (step ∷ before) t h =
      since_more start past older (image_after start past) step before t (wears_at start step (before ++ past) h) (since start past older before t h.1)

  at_last : (start : SimValue) (past : List Step) (older first now last : List ℕ) (steps : List Step) → TurnsOver defaults older first → TurnsOver defaults now last → Since start past first steps now → TailWrites start past 127 steps
  at_last start past older first now last steps t u (enough e) = e
  at_last start past older first now last steps t u (counts n f c) = fewer start past n 127 steps (between defaults older first now last n t f u) c

  later : (start : SimValue) (after past : List Step) → EachStep (IsAnswered defaults) start (after ++ past) → EachStep (IsAnswered defaults) start past
  later start [] past h = h
  later start (step ∷ after) past h = later start after past h.1

  pub wears_slowly : (start : SimValue) (history : List Step) → EachStep (IsAnswered defaults) start history → WearsSlowly start history
  wears_slowly start history h after steps before last first is begins ends =
      let past : List Step = first ∷ before in
      let split : history ≡ after ++ (last ∷ (steps ++ past)) = is ∙ append_assoc after (last ∷ steps) past in
      let all : EachStep (IsAnswered defaults) start (after ++ (last ∷ (steps ++ past))) = subst (λ (xs : List Step). EachStep (IsAnswered defaults) start xs) split h in
      let to_last : EachStep (IsAnswered defaults) start (last ∷ (steps ++ past)) = later start after (last ∷ (steps ++ past)) all in
      let to_first : EachStep (IsAnswered defaults) start past = later start steps past to_last.1 in
      let t : TurnsOver defaults (image_after start before) first.flash.image = at_commit (image_after start before) first.flash.image begins (wears_at start first before to_first) in
      let u : TurnsOver defaults (image_after start (steps ++ past)) last.flash.image = at_commit (image_after start (steps ++ past)) last.flash.image ends (wears_at start last (steps ++ past) to_last) in
      at_last start past (image_after start before) first.flash.image (image_after start (steps ++ past)) last.flash.image steps t u (since start past (image_after start before) steps t to_last.1)
