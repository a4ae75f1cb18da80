-- Events on a flash that can be cut, one by one.
use Rattle.std.proofs.Common.{◌≡◌, ◌∙◌, ℕ, ◌+◌, ◌<◌, ◌≤◌, true, Result, Ok, Err, IfOk, is_ok, OnErr, List, [], ◌∷◌, ◌++◌, map, reverse, length, take, get_or, refl, arith, sym, ap, subst, append_assoc}
use Rattle.std.proofs.lemmas.List.{take_more, map-append}
use Rattle.std.proofs.lemmas.Grind.{reverse_onto}
use Rattle.flash_model.specs.FlashOperation.{FlashOperation}
use Rattle.flash_model.specs.Sim.{SimValue}
use Rattle.host.specs.declared.gatherer.Host.{Host}
use Rattle.layers.specs.Codes.{DefaultCodes}
use Rattle.keyboard.specs.representation.Value.{KeyboardValue}
use Rattle.world.specs.Kinds.{Step}
use Rattle.world.proofs.Erasing.{erases_seldom}
use Rattle.world.proofs.Promising.{promise}
use Rattle.flash_theorem.specs.declared.board.Happening.{Happening}
use Rattle.flash_theorem.specs.declared.board.Reported.{Reported}
use Rattle.flash_theorem.specs.Happenings.{Leaves, IsTaken, IsPromised}
use Rattle.flash_theorem.specs.Sessions.{Taken, steps_of, flash_of, EachTaken, AllTaken, AllTakenBefore}
use Rattle.flash_theorem.specs.representation.Relation.{Refines, GoesOn, Takes, next_of}
use Rattle.flash_theorem.proofs.Leaving.{leaves_named}

mapped_more : {A B : Type 0} (f : A → B) (s : A) (steps : List A) → map f (reverse (s ∷ steps)) ≡ map f (reverse steps) ++ f s ∷ []
mapped_more f s steps = rw (reverse_onto steps s []) (map-append f (reverse steps) (s ∷ []))

-- what has room is pushed
pub fits : {A E : Type 0} (r : Result A E) (room len : ℕ) → OnErr r (room ≤ len) → len < room → is_ok r ≡ true
fits (Ok x) room len e l = refl
fits (Err x) room len e l = absurd (omega (arith, e, l))

module _ (defaults : DefaultCodes) {F : Type 0} (image : F → List ℕ) (operates : F → FlashOperation → F → Type 0) (rests : F → F → Type 0) (cuts : F → FlashOperation → ℕ → F → Type 0) where
  is_taken : (start : SimValue) (past : List Step) (h : Happening) (reported : Reported) (keyboard : KeyboardValue) (host : Host) (old new : F) (g : GoesOn defaults start past h reported keyboard host (image new))
      → Leaves image operates rests cuts h (next_of defaults start past) old new → IsTaken image operates rests cuts defaults start past h reported old new g.step
  is_taken start past h reported keyboard host old new g l = record {
    event_is = g.event_is;
    answer_is = g.answer_is;
    refused_is = g.refused_is;
    image_is = g.refines.image_is;
    flash_is = leaves_named defaults image operates rests cuts start past h reported.answer g.step old new g.event_is l;
  }

  -- what is guaranteed of the longer history
  pub promised : (start : SimValue) (past : List Step) (h : Happening) (reported : Reported) (keyboard : KeyboardValue) (host : Host) (old new : F) → GoesOn defaults start past h reported keyboard host (image new)
      → Leaves image operates rests cuts h (next_of defaults start past) old new → IsPromised image operates rests cuts defaults start past h reported old new
  promised start past h reported keyboard host old new g l = record {
    step = g.step;
    is_taken = is_taken start past h reported keyboard host old new g l;
    promise = promise defaults start (g.step ∷ past) g.refines.world.answered;
    erases = erases_seldom defaults start (g.step ∷ past) g.refines.world.answered;
  }

  pub promised_ok : {E : Type 0} (r : Result (F × Reported) E) (h : Happening) (keyboard next : KeyboardValue) (host next_host : Host) (old : F) → IfOk r (λ t. Takes defaults h keyboard host (image old) t.1 next next_host (image t.0))
      → IfOk r (λ t. (start : SimValue) (past : List Step) → Refines defaults start past keyboard host (image old) → Leaves image operates rests cuts h (next_of defaults start past) old t.0)
      → IfOk r (λ t. (start : SimValue) (past : List Step) → Refines defaults start past keyboard host (image old) → IsPromised image operates rests cuts defaults start past h t.1 old t.0)
  promised_ok (Ok t) h keyboard next host next_host old takes leaves = λ start past s. promised start past h t.1 next next_host old t.0 (takes start past s) (leaves start past s)
  promised_ok (Err e) h keyboard next host next_host old takes leaves = tt

  -- the first n events were taken
  pub record Going (start : SimValue) (past : List Step) (n : ℕ) (keyboard : KeyboardValue) (host : Host) (old new : F) (happenings : List Happening) (before after : List Reported) : Type 0 where
    pub taken : List (Taken F)
    pub each : EachTaken image operates rests cuts defaults start past old taken
    pub happened : map (λ (t : Taken F). t.happening) (reverse taken) ≡ take n happenings
    pub reported : after ≡ before ++ map (λ (t : Taken F). t.reported) (reverse taken)
    pub flash_is : flash_of old taken ≡ new
    pub refines : Refines defaults start (steps_of taken ++ past) keyboard host (image new)

  pub going_more : (start : SimValue) (past : List Step) (n : ℕ) (keyboard next : KeyboardValue) (host next_host : Host) (old now new : F) (happenings : List Happening) (before after : List Reported) (happening : Happening) (reported : Reported)
      → n < length happenings → happening ≡ get_or happenings n happening → Going start past n keyboard host old now happenings before after
      → Takes defaults happening keyboard host (image now) reported next next_host (image new)
      → ((first : SimValue) (steps : List Step) → Refines defaults first steps keyboard host (image now) → Leaves image operates rests cuts happening (next_of defaults first steps) now new)
      → Going start past (n + 1) next next_host old new happenings before (after ++ reported ∷ [])
  going_more start past n keyboard next host next_host old now new happenings before after happening reported l e g takes leaves =
      let steps : List Step = steps_of g.taken ++ past in
      let goes : GoesOn defaults start steps happening reported next next_host (image new) = takes start steps g.refines in
      let last : Taken F = record { happening = happening; reported = reported; step = goes.step; flash = new } in
      let one : IsTaken image operates rests cuts defaults start steps happening reported now new goes.step = is_taken start steps happening reported next next_host now new goes (leaves start steps g.refines) in
      record {
        taken = last ∷ g.taken;
        each = (subst (λ (x : F). IsTaken image operates rests cuts defaults start steps happening reported x new goes.step) (sym g.flash_is) one, g.each);
        happened = mapped_more (λ (t : Taken F). t.happening) last g.taken ∙ ap (λ (xs : List Happening). xs ++ happening ∷ []) g.happened ∙ sym (take_more happenings n happening l ∙ ap (λ (x : Happening). take n happenings ++ x ∷ []) (sym e));
        reported = ap (λ (xs : List Reported). xs ++ reported ∷ []) g.reported ∙ append_assoc before (map (λ (t : Taken F). t.reported) (reverse g.taken)) (reported ∷ []) ∙ ap (λ (xs : List Reported). before ++ xs) (sym (mapped_more (λ (t : Taken F). t.reported) last g.taken));
        flash_is = refl;
        refines = goes.refines;
      }

  pub went_all : (start : SimValue) (past : List Step) (n : ℕ) (keyboard : KeyboardValue) (host : Host) (old new : F) (happenings : List Happening) (before after : List Reported) → take n happenings ≡ happenings
      → Going start past n keyboard host old new happenings before after → AllTaken image operates rests cuts defaults start past keyboard host old new happenings before after
  went_all start past n keyboard host old new happenings before after all g = record {
    taken = g.taken;
    each = g.each;
    happened = g.happened ∙ all;
    reported = g.reported;
    flash_is = g.flash_is;
    refines = g.refines;
    promise = promise defaults start (steps_of g.taken ++ past) g.refines.world.answered;
    erases = erases_seldom defaults start (steps_of g.taken ++ past) g.refines.world.answered;
  }

  -- the events before one behind which the flash did not start
  pub went_before : (start : SimValue) (past : List Step) (n : ℕ) (keyboard : KeyboardValue) (host : Host) (old new : F) (happenings : List Happening) (before after : List Reported) → n < length happenings
      → Going start past n keyboard host old new happenings before after → AllTakenBefore image operates rests cuts defaults start past old happenings before after
  went_before start past n keyboard host old new happenings before after l g = record {
    count = n;
    within = l;
    keyboard = keyboard;
    host = host;
    flash = new;
    all = record {
      taken = g.taken;
      each = g.each;
      happened = g.happened;
      reported = g.reported;
      flash_is = g.flash_is;
      refines = g.refines;
      promise = promise defaults start (steps_of g.taken ++ past) g.refines.world.answered;
      erases = erases_seldom defaults start (steps_of g.taken ++ past) g.refines.world.answered;
    };
  }
