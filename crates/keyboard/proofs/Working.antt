-- A step of the flash work, whole or torn.
use Rattle.std.proofs.Common.{◌≡◌, ◌≢◌, ◌⊎◌, inl, inr, ℕ, suc, ◌+◌, ◌≤◌, arith, Option, Some, None, IsSome, zero, List, [], ◌∷◌, drop, refl, ap, sym, ◌∙◌, subst}
use Rattle.std.specs.Prelude.{slice_get}
use Rattle.flash_model.specs.Image.{IsImage}
use Rattle.flash_model.proofs.ByMask.{whole_program, whole_erase}
use Rattle.layers.specs.Codes.{DefaultCodes}
use Rattle.layers.specs.Entries.{changed}
use Rattle.layers.specs.Keymaps.{HasEntries}
use Rattle.layers.specs.declared.command.Command.{Command}
use Rattle.page_turnover.specs.declared.operation.Operation.{Operation}
use Rattle.page_turnover.specs.declared.operation.Operation.TheVariants.{Program, Erase}
use Rattle.page_turnover.specs.Next.{Makes, MayMake}
use Rattle.page_turnover.specs.Operates.{Operates, programs, erases, MayOperate, may_program, may_erase}
use Rattle.page_turnover.specs.Steps.{Attempts, AttemptsNext}
use Rattle.page_turnover.specs.Usable.{IsUsable}
use Rattle.keymap_store.specs.declared.store.Job.{Job}
use Rattle.keymap_store.specs.declared.store.Job.TheVariants.{Resting, Appending, Turning}
use Rattle.keymap_store.specs.declared.store.Work.{Work as WorkAnswer}
use Rattle.keymap_store.specs.declared.store.Work.TheVariants.{Idle, Working, Settled, Failed}
use Rattle.keymap_store.specs.Cut.{KeymapAfter, recorded, as_before, CutLeaves}
use Rattle.keymap_store.specs.Keymap.{SameEntries}
use Rattle.keymap_store.specs.Left.{left, Needs}
use Rattle.keymap_store.specs.Next.{next_operation_of}
use Rattle.keymap_store.specs.Operations.{operations_of}
use Rattle.keymap_store.specs.representation.Rest.{rest_of}
use Rattle.keymap_store.specs.Store.{working as working_in}
use Rattle.keymap_store.specs.representation.Store.{Mirrors}
use Rattle.keymap_store.specs.Value.{StoreValue}
use Rattle.keymap_store.specs.Works.{WorksAs, IsAppendedFor}
use Rattle.keymap_store.proofs.Cutting.{cut_leaves}
use Rattle.keymap_store.proofs.Ordering.{needs_all, needed_once, next_is_first}
use Rattle.control_ep.specs.Calls.{Settle, Fail}
use Rattle.control_ep.specs.Transfers.{Stage}
use Rattle.control_ep.specs.representation.Relation as control_ep
use Rattle.keyboard.specs.Calls.{Call, Worked, image_after, keymap, EachCall}
use Rattle.keyboard.specs.Effects.{leds_after, selected, protocol_after}
use Rattle.keyboard.specs.Keys.{key_calls}
use Rattle.keyboard.specs.Commands.{accepts, working}
use Rattle.keyboard.specs.Endpoint.{ep_calls}
use Rattle.keyboard.specs.Bounded.{most_steps, steps_since, accepted_image}
use Rattle.keyboard.specs.Operated.{Works, ComesTo, Advances, IsCutShort}
use Rattle.keyboard.specs.Conforming.{WorkedOn, IsAnswered, MakesSuch}
use Rattle.keyboard.specs.representation.Private.{Operating}
use Rattle.keyboard.specs.Restart.{RestartsLegally, CutsLegally}
use Rattle.keyboard.proofs.Restarting.{restarts_with, restarts_without}
use Rattle.keyboard.specs.representation.Value.{KeyboardValue, at_work}
use Rattle.keyboard.specs.representation.Relation.{Refines}
use Rattle.keyboard.proofs.Accepting.{ended_by-idle, ended_by-working}
use Rattle.keyboard.proofs.Bounding.{needs_more, steps_since-more, nothing_left, accepted_image-same, nothing_needed, none_works}
use Rattle.keyboard.proofs.Effects.{accepts-work}
use Rattle.keyboard.proofs.Operation.{due_last, due_before, due_no_room, loses_by}
use Rattle.keyboard.proofs.Sessions.{After, orderly, working_after, after_stays, after_settles, after_fails}

-- two keymaps that have the same codes
same_entries : (a b : ℕ → ℕ → ℕ) (codes : List ℕ) → HasEntries a codes → HasEntries b codes → SameEntries a b
same_entries a b codes h g layer key l k = sym (h.each layer key l k) ∙ g.each layer key l k

same_command : (w : Option Command) (a b : Command) → w ≡ Some a → w ≡ Some b → a ≡ b
same_command w a b e f = cc

not_some : (w : Option Command) (command : Command) → w ≡ None → w ≡ Some command → ⊥
not_some w command n s = cc

not_both : (w : Option Command) → IsSome w → w ≡ None → ⊥
not_both w s n = (let none : IsSome {T = Command} None = rw n at s in cc)

appended_for : (old : List ℕ) (o : Option Command) (command : Command) (new : List ℕ) → o ≡ Some command → IsAppendedFor old o new → IsAppendedFor old (Some command) new
appended_for old o command new e p = let P : Option Command → Type 0 = λ x. IsAppendedFor old x new in subst P e p

-- the first of what is left after n is the n-th
first_left : (operations : List Operation) (n : ℕ) → slice_get operations n ≡ slice_get (drop n operations) 0
first_left [] zero = refl
first_left [] (suc n) = refl
first_left (operation ∷ more) zero = refl
first_left (operation ∷ more) (suc n) = first_left more n

one_less : (operations : List Operation) (n : ℕ) → drop (suc n) operations ≡ drop 1 (drop n operations)
one_less [] zero = refl
one_less [] (suc n) = refl
one_less (operation ∷ more) zero = refl
one_less (operation ∷ more) (suc n) = one_less more n

-- a whole operation is one that may be left
may_make : (old : List ℕ) (operation : Operation) (new : List ℕ) → IsImage old → Makes old operation new → MayMake old operation new
may_make old (Program page slot word) new i m = whole_program old page slot _ new m
may_make old (Erase page) new i m = whole_erase old page new i m

pub made : (old : List ℕ) (operation : Operation) (work : WorkAnswer) (new : List ℕ) → IsImage old → Attempts old operation (work ≡ Idle) (work ≡ Failed) new → MayMake old operation new
made old operation Idle new i a = absurd (a.not_idle refl)
made old operation Working new i a = may_make old operation new i (a.done (λ e. cc)).0
made old operation Settled new i a = may_make old operation new i (a.done (λ e. cc)).0
made old operation Failed new i a = (a.torn refl).0

-- the command of a record that is being appended
appending : (job : Job) (a b : Command) → job ≡ Appending a → working_in job ≡ Some b → a ≡ b
appending Resting a b e w = cc
appending (Appending other) a b e w = cc
appending (Turning other from) a b e w = cc

was_usable : (old new : List ℕ) → Operates old new → IsUsable old
was_usable old new (programs u page slot word p l f s g) = u
was_usable old new (erases u page p n e) = u

was_usable_torn : (old new : List ℕ) → MayOperate old new → IsUsable old
was_usable_torn old new (may_program u page slot word p l f s g) = u
was_usable_torn old new (may_erase u page p n e) = u

module _ (defaults : DefaultCodes) where
  -- what the operation is, by the store's clauses
  outcome : (command : Command) (image : List ℕ) (store : StoreValue) (work : WorkAnswer) (after : List ℕ) (new : StoreValue) → Mirrors defaults image store → Operating defaults image store work after new → working_in store.job ≡ Some command
      → WorksAs defaults image store work after new → ComesTo defaults command image work after
  outcome command image store Idle after new m o w a = not_some (working_in store.job) command a.none w
  outcome command image store Working after new m o w a =
      same_entries (keymap defaults after) (keymap defaults image) store.keymap (subst (λ (codes : List ℕ). HasEntries (keymap defaults after) codes) a.same_keymap o.leaves.mirrors.keymap_is) m.keymap_is
  outcome command image store Settled after new m o w a =
      let same : a.command ≡ command = same_command (working_in store.job) a.command command a.was w in
      let entries : SameEntries (keymap defaults after) (changed defaults (keymap defaults image) (a.command ∷ [])) =
      same_entries (keymap defaults after) (changed defaults (keymap defaults image) (a.command ∷ [])) new.keymap o.leaves.mirrors.keymap_is (a.changes (keymap defaults image) m.keymap_is) in
      record {
        record_is = appended_for image (working_in store.job) command after w (o.leaves.writes.appended refl);
        entries = subst (λ (c : Command). SameEntries (keymap defaults after) (changed defaults (keymap defaults image) (c ∷ []))) same entries;
      }
  outcome command image store Failed after new m o w a =
      same_entries (keymap defaults after) (keymap defaults image) store.keymap (subst (λ (codes : List ℕ). HasEntries (keymap defaults after) codes) a.same_keymap o.leaves.mirrors.keymap_is) m.keymap_is

  not_idle : (command : Command) (image : List ℕ) (store : StoreValue) (work : WorkAnswer) (after : List ℕ) (new : StoreValue) → working_in store.job ≡ Some command → WorksAs defaults image store work after new → work ≢ Idle
  not_idle command image store Idle after new w a e = not_some (working_in store.job) command a.none w
  not_idle command image store Working after new w a e = cc
  not_idle command image store Settled after new w a e = cc
  not_idle command image store Failed after new w a e = cc

  -- which step of its command it is
  advances : (start : List ℕ) (before : List Call) (command : Command) (old : KeyboardValue) (operation : Operation) (work : WorkAnswer) (after : List ℕ) (new : StoreValue) → Refines defaults start before old
      → Operating defaults (image_after start before) old.store work after new → at_work old ≡ Some command → next_operation_of defaults (image_after start before) old.store ≡ Some operation → (work ≡ Working → IsSome (working_in new.job))
      → Advances defaults (accepted_image start before) (steps_since before) command (image_after start before) operation work after
  advances start before command old operation work after new s o v n on =
      let there : IsSome (at_work old) = rw v refl in
      let more : 1 ≤ left defaults (image_after start before) old.store = needs_more defaults (image_after start before) old.store there in
      record {
        needed = left defaults (image_after start before) old.store + steps_since before;
        needed_is = needed_once defaults (accepted_image start before) _ _ (s.now.needs there) (needs_all defaults (accepted_image start before) command);
        within = omega (arith, more);
        in_order =
            first_left (operations_of defaults (accepted_image start before) command) (steps_since before)
            ∙ ap (λ (left : List Operation). slice_get left 0) (s.now.order command v) ∙ sym (next_is_first defaults (image_after start before) old.store s.now.store) ∙ n;
        record_last = λ e. due_last defaults old.store.job (image_after start before) old.store command operation refl s.now.store n v (omega (arith, e));
        turn_before = λ e. due_before defaults old.store.job (image_after start before) old.store command operation refl s.now.store n v (omega (arith, e));
        no_room = λ e. due_no_room defaults old.store.job (image_after start before) old.store command operation refl s.now.store n v (omega (arith, e));
        last = λ e. (let one : left defaults (image_after start before) old.store ≡ 1 = o.down.last e in omega (arith, one));
        before_last = λ e. (
          (let some : 1 ≤ left defaults after new = needs_more defaults after new (on e) in omega (arith, o.down.fewer e, some)),
          o.leaves.writes.turns e,
        );
        fails = o.leaves.writes.kept;
      }

  works_for : (command : Command) (image : List ℕ) (store : StoreValue) (work : WorkAnswer) (after : List ℕ) (new : StoreValue) → WorksAs defaults image store work after new → working_in store.job ≡ Some command
      → work ≡ Working → working_in new.job ≡ Some command
  works_for command image store Working after new a w e = a.same_command ∙ w
  works_for command image store Idle after new a w e = cc
  works_for command image store Settled after new a w e = cc
  works_for command image store Failed after new a w e = cc

  -- the keymap where the operation is cut short
  cut_keymap : (old : List ℕ) (job : Job) (operation : Operation) (cut : List ℕ) (command : Command) → working_in job ≡ Some command → KeymapAfter defaults old job operation cut
      → SameEntries (keymap defaults cut) (keymap defaults old) ⊎ SameEntries (keymap defaults cut) (changed defaults (keymap defaults old) (command ∷ []))
  cut_keymap old job operation cut command w (recorded other r e) = inr (subst (λ (c : Command). SameEntries (keymap defaults cut) (changed defaults (keymap defaults old) (c ∷ []))) (appending job other command r.0 w) e)
  cut_keymap old job operation cut command w (as_before n e) = inl e

  cut_short : (old : List ℕ) (store : StoreValue) (operation : Operation) (command : Command) (cut : List ℕ) → Mirrors defaults old store → next_operation_of defaults old store ≡ Some operation → working_in store.job ≡ Some command
      → IsImage cut → MayMake old operation cut → IsCutShort defaults command old cut
  cut_short old store operation command cut m e w i t =
      let leaves : CutLeaves defaults old store operation cut = cut_leaves defaults old cut store operation m e i t in
      (leaves.usable, cut_keymap old store.job operation cut command w leaves.keymap)

  usable_by : (image : List ℕ) (store : StoreValue) (work : WorkAnswer) (after : List ℕ) (new : StoreValue) → Operating defaults image store work after new → work ≢ Idle → IsUsable image
  usable_by image store Idle after new o n = absurd (n refl)
  usable_by image store Working after new o n = was_usable image after (o.leaves.operates (λ e. cc) (λ e. cc))
  usable_by image store Settled after new o n = was_usable image after (o.leaves.operates (λ e. cc) (λ e. cc))
  usable_by image store Failed after new o n = was_usable_torn image after (o.leaves.torn refl)

  -- a step while a command works, that makes this operation
  record WorksBy (start : List ℕ) (before : List Call) (command : Command) (work : WorkAnswer) (after : List ℕ) (operation : Operation) : Type 0 where
    step : Works defaults start before command (image_after start before) work after
    operation_is : step.operation ≡ operation

  works_of : (operation : Operation) (start : List ℕ) (before : List Call) (command : Command) (old : KeyboardValue) (work : WorkAnswer) (after : List ℕ) (new : StoreValue) → next_operation_of defaults (image_after start before) old.store ≡ Some operation → Refines defaults start before old
      → Operating defaults (image_after start before) old.store work after new → at_work old ≡ Some command → work ≢ Idle → Attempts (image_after start before) operation (work ≡ Idle) (work ≡ Failed) after → WorksBy start before command work after operation
  works_of operation start before command old work after new n s o v some a =
      let image : List ℕ = image_after start before in
      let held : Mirrors defaults image old.store = s.now.store in
      let usable : IsUsable image = usable_by image old.store work after new o some in
      record {
        step = record {
          operation = operation;
          usable = usable;
          loses_nothing = loses_by defaults old.store.job image old.store command operation refl held n v;
          attempts = a;
          advances = advances start before command old operation work after new s o v n (λ e. rw (works_for command image old.store work after new o.leaves.works v e) refl);
          outcome = outcome command image old.store work after new held o v o.leaves.works;
          sound = o.leaves.sound usable;
          wears = (cut_leaves defaults image after old.store operation held n o.leaves.mirrors.log_is.whole (made image operation work after held.log_is.whole a)).wears;
          cut = λ cut i t. cut_short image old.store operation command cut held n v i t;
        };
        operation_is = refl;
      }

  -- by the operation that is next
  works_by : (next : Option Operation) (start : List ℕ) (before : List Call) (command : Command) (old : KeyboardValue) (work : WorkAnswer) (after : List ℕ) (new : StoreValue) → next_operation_of defaults (image_after start before) old.store ≡ next → Refines defaults start before old
      → Operating defaults (image_after start before) old.store work after new → at_work old ≡ Some command → work ≢ Idle → AttemptsNext next (image_after start before) (work ≡ Idle) (work ≡ Failed) after → Works defaults start before command (image_after start before) work after
  works_by None start before command old work after new n s o v some (idle, same) = absurd (some idle)
  works_by (Some operation) start before command old work after new n s o v some a = (works_of operation start before command old work after new n s o v some a).step

  -- what holds of the operation that is next holds of the step's
  such_by : (next : Option Operation) (start : List ℕ) (before : List Call) (command : Command) (old : KeyboardValue) (work : WorkAnswer) (after : List ℕ) (new : StoreValue) (such : Operation → Type 0) → next_operation_of defaults (image_after start before) old.store ≡ next → Refines defaults start before old
      → Operating defaults (image_after start before) old.store work after new → working defaults start before ≡ Some command → work ≢ Idle → AttemptsNext next (image_after start before) (work ≡ Idle) (work ≡ Failed) after
      → ((operation : Operation) → next_operation_of defaults (image_after start before) old.store ≡ Some operation → such operation) → MakesSuch defaults start before work after such
  such_by None start before command old work after new such n s o w some (idle, same) h = absurd (some idle)
  such_by (Some operation) start before command old work after new such n s o w some a h =
      let by : WorksBy start before command work after operation = works_of operation start before command old work after new n s o (s.now.works ∙ w) some a in
      record { command = command; works_on = w; step = by.step; is_such = subst such (sym by.operation_is) (h operation n) }

  works : (start : List ℕ) (before : List Call) (command : Command) (old : KeyboardValue) (work : WorkAnswer) (after : List ℕ) (new : StoreValue) → Refines defaults start before old
      → Operating defaults (image_after start before) old.store work after new → at_work old ≡ Some command → Works defaults start before command (image_after start before) work after
  works start before command old work after new s o v =
      works_by (next_operation_of defaults (image_after start before) old.store) start before command old work after new refl s o v (not_idle command (image_after start before) old.store work after new v o.leaves.works) o.leaves.attempts

  idle_same : (image : List ℕ) (store : StoreValue) (work : WorkAnswer) (after : List ℕ) (new : StoreValue) → working_in store.job ≡ None → WorksAs defaults image store work after new → (work ≡ Idle) × (after ≡ image)
  idle_same image store Idle after new n a = (refl, a.same_image)
  idle_same image store Working after new n a = absurd (not_both (working_in store.job) a.some n)
  idle_same image store Settled after new n a = absurd (not_some (working_in store.job) a.command n a.was)
  idle_same image store Failed after new n a = absurd (not_both (working_in store.job) a.some n)

  worked_by : (start : List ℕ) (before : List Call) (w : Option Command) (old : KeyboardValue) (work : WorkAnswer) (after : List ℕ) (new : StoreValue) → Refines defaults start before old
      → Operating defaults (image_after start before) old.store work after new → at_work old ≡ w → WorkedOn defaults start before w work after
  worked_by start before None old work after new s o v = idle_same (image_after start before) old.store work after new v o.leaves.works
  worked_by start before (Some command) old work after new s o v = works start before command old work after new s o v

  -- what a step of the flash work makes of the flash is conforming
  pub worked_on : (start : List ℕ) (before : List Call) (old : KeyboardValue) (work : WorkAnswer) (after : List ℕ) (new : StoreValue) → Refines defaults start before old
      → Operating defaults (image_after start before) old.store work after new → IsAnswered defaults start before (Worked work after)
  worked_on start before old work after new s o = worked_by start before (working defaults start before) old work after new s o s.now.works

  such_in : (start : List ℕ) (before : List Call) (w : Option Command) (old : KeyboardValue) (work : WorkAnswer) (after : List ℕ) (new : StoreValue) (such : Operation → Type 0) → Refines defaults start before old
      → Operating defaults (image_after start before) old.store work after new → working defaults start before ≡ w → work ≢ Idle
      → ((operation : Operation) → next_operation_of defaults (image_after start before) old.store ≡ Some operation → such operation) → MakesSuch defaults start before work after such
  such_in start before None old work after new such s o w some h = absurd (some (idle_same (image_after start before) old.store work after new (s.now.works ∙ w) o.leaves.works).0)
  such_in start before (Some command) old work after new such s o w some h = such_by (next_operation_of defaults (image_after start before) old.store) start before command old work after new such refl s o w some o.leaves.attempts h

  -- the operation of a step of the flash work is the one that the store asks for
  pub makes_such : (start : List ℕ) (before : List Call) (old : KeyboardValue) (work : WorkAnswer) (after : List ℕ) (new : StoreValue) (such : Operation → Type 0) → Refines defaults start before old
      → Operating defaults (image_after start before) old.store work after new → work ≢ Idle
      → ((operation : Operation) → next_operation_of defaults (image_after start before) old.store ≡ Some operation → such operation) → MakesSuch defaults start before work after such
  makes_such start before old work after new such s o some h = such_in start before (working defaults start before) old work after new such s o refl some h

  -- the keyboard after it, once it is known which command works
  refines_after : (start : List ℕ) (before : List Call) (work : WorkAnswer) (after : List ℕ) (ep : Stage) (new : StoreValue) (old : KeyboardValue) → Refines defaults start before old
      → Operating defaults (image_after start before) old.store work after new → control_ep.Refines (ep_calls defaults start (Worked work after ∷ before)) ep
      → working_in new.job ≡ working defaults start (Worked work after ∷ before)
      → (IsSome (working_in new.job) → left defaults after new + steps_since (Worked work after ∷ before) ≤ most_steps)
      → (IsSome (working_in new.job) → Needs defaults (accepted_image start (Worked work after ∷ before)) (left defaults after new + steps_since (Worked work after ∷ before)))
      → ((command : Command) → working_in new.job ≡ Some command → drop (steps_since (Worked work after ∷ before)) (operations_of defaults (accepted_image start (Worked work after ∷ before)) command) ≡ rest_of defaults after new)
      → Refines defaults start (Worked work after ∷ before) (record old { ep = ep; store = new })
  unfolding key_calls leds_after selected protocol_after accepts
  refines_after start before work after ep new old s o e works few needs order = record {
    now = record {
      ep = e;
      keys = s.now.keys;
      store = o.leaves.mirrors;
      works = works;
      protocol = s.now.protocol;
      leds = s.now.leds;
      layer = s.now.layer;
      key = s.now.key;
      few = few;
      needs = needs;
      order = order;
    };
    answered = (worked_on start before old work after new s o, s.answered);
  }

  -- where none works later
  rests_after : (start : List ℕ) (before : List Call) (work : WorkAnswer) (after : List ℕ) (ep : Stage) (new : StoreValue) (old : KeyboardValue) → Refines defaults start before old
      → Operating defaults (image_after start before) old.store work after new → control_ep.Refines (ep_calls defaults start (Worked work after ∷ before)) ep
      → working_in new.job ≡ None → After defaults start before (Worked work after) None → Refines defaults start (Worked work after ∷ before) (record old { ep = ep; store = new })
  rests_after start before work after ep new old s o e rests later =
      refines_after start before work after ep new old s o e (rests ∙ sym (working_after defaults start before (Worked work after) None later))
      (λ x. nothing_left (working_in new.job) (left defaults after new + steps_since (Worked work after ∷ before)) rests x)
      (λ x. nothing_needed (working_in new.job) (Needs defaults (accepted_image start (Worked work after ∷ before)) (left defaults after new + steps_since (Worked work after ∷ before))) rests x)
      (λ command x. none_works (working_in new.job) command (drop (steps_since (Worked work after ∷ before)) (operations_of defaults (accepted_image start (Worked work after ∷ before)) command) ≡ rest_of defaults after new) rests x)

  -- where the command works on
  works_on : (start : List ℕ) (before : List Call) (command : Command) (after : List ℕ) (ep : Stage) (new : StoreValue) (old : KeyboardValue) → Refines defaults start before old
      → Operating defaults (image_after start before) old.store Working after new → control_ep.Refines (ep_calls defaults start (Worked Working after ∷ before)) ep
      → at_work old ≡ Some command → working_in new.job ≡ Some command → After defaults start before (Worked Working after) (Some command)
      → Refines defaults start (Worked Working after ∷ before) (record old { ep = ep; store = new })
  works_on start before command after ep new old s o e v w later =
      let call : Call = Worked Working after in
      let none : accepts before call ≡ None = accepts-work before Working after in
      let there : IsSome (at_work old) = rw v refl in
      let count : steps_since (call ∷ before) ≡ suc (steps_since before) = steps_since-more call before (λ n. refl) none in
      let sums : left defaults (image_after start before) old.store + steps_since before ≡ left defaults after new + steps_since (call ∷ before) = omega (arith, o.down.fewer refl, count) in
      refines_after start before Working after ep new old s o e (w ∙ sym (working_after defaults start before call (Some command) later))
      (λ x. subst (λ (n : ℕ). n ≤ most_steps) sums (s.now.few there))
      (λ x. subst (λ (image : List ℕ). Needs defaults image (left defaults after new + steps_since (call ∷ before))) (sym (accepted_image-same start call before none))
      (subst (λ (n : ℕ). Needs defaults (accepted_image start before) n) sums (s.now.needs there)))
      (λ other x. (let same : other ≡ command = same_command (working_in new.job) other command x w in
      let list : List Operation = operations_of defaults (accepted_image start before) other in
      let was : drop (steps_since before) list ≡ rest_of defaults (image_after start before) old.store = s.now.order other (rw same v) in
      rw (count, accepted_image-same start call before none) (one_less list (steps_since before) ∙ ap (λ (left : List Operation). drop 1 left) was ∙ sym (o.order.goes_on refl))))

  ended : (start : List ℕ) (before : List Call) (command : Command) (work : WorkAnswer) (after : List ℕ) (ep : Stage) (new : StoreValue) (old : KeyboardValue) → Refines defaults start before old
      → Operating defaults (image_after start before) old.store work after new → control_ep.Refines (ep_calls defaults start (Worked work after ∷ before)) ep
      → at_work old ≡ Some command → ComesTo defaults command (image_after start before) work after → WorksAs defaults (image_after start before) old.store work after new
      → Refines defaults start (Worked work after ∷ before) (record old { ep = ep; store = new })
  ended start before command Idle after ep new old s o e v c a = absurd c
  ended start before command Settled after ep new old s o e v c a =
      rests_after start before Settled after ep new old s o e a.done
      (after_settles defaults start before (Worked Settled after) command (orderly defaults start before s.answered) refl (accepts-work before Settled after) (sym s.now.works ∙ v) c.entries)
  ended start before command Failed after ep new old s o e v c a =
      rests_after start before Failed after ep new old s o e a.gone
      (after_fails defaults start before (Worked Failed after) command (orderly defaults start before s.answered) refl (accepts-work before Failed after) (sym s.now.works ∙ v) c)
  ended start before command Working after ep new old s o e v c a =
      let was : working defaults start before ≡ Some command = sym s.now.works ∙ v in
      let later : After defaults start before (Worked Working after) (working defaults start before) =
      after_stays defaults start before (Worked Working after) (orderly defaults start before s.answered) (record { keeps = ended_by-working defaults after }) (accepts-work before Working after) c in
      works_on start before command after ep new old s o e v (a.same_command ∙ v)
      (subst (λ (w : Option Command). After defaults start before (Worked Working after) w) was later)

  idled : (start : List ℕ) (before : List Call) (work : WorkAnswer) (after : List ℕ) (ep : Stage) (new : StoreValue) (old : KeyboardValue) → Refines defaults start before old
      → Operating defaults (image_after start before) old.store work after new → control_ep.Refines (ep_calls defaults start (Worked work after ∷ before)) ep
      → at_work old ≡ None → work ≡ Idle → after ≡ image_after start before → WorksAs defaults (image_after start before) old.store work after new
      → Refines defaults start (Worked work after ∷ before) (record old { ep = ep; store = new })
  idled start before Working after ep new old s o e v i f a = cc
  idled start before Settled after ep new old s o e v i f a = cc
  idled start before Failed after ep new old s o e v i f a = cc
  idled start before Idle after ep new old s o e v i f a =
      let was : working defaults start before ≡ None = sym s.now.works ∙ v in
      let later : After defaults start before (Worked Idle after) (working defaults start before) =
      after_stays defaults start before (Worked Idle after) (orderly defaults start before s.answered) (record { keeps = ended_by-idle defaults after }) (accepts-work before Idle after)
      (λ layer key l k. ap (λ (image : List ℕ). keymap defaults image layer key) f) in
      rests_after start before Idle after ep new old s o e (ap (λ (x : StoreValue). working_in x.job) a.same_store ∙ v)
      (subst (λ (w : Option Command). After defaults start before (Worked Idle after) w) was later)

  worked_refines : (start : List ℕ) (before : List Call) (work : WorkAnswer) (w : Option Command) (after : List ℕ) (ep : Stage) (new : StoreValue) (old : KeyboardValue) → Refines defaults start before old
      → Operating defaults (image_after start before) old.store work after new → control_ep.Refines (ep_calls defaults start (Worked work after ∷ before)) ep
      → at_work old ≡ w → WorkedOn defaults start before w work after → Refines defaults start (Worked work after ∷ before) (record old { ep = ep; store = new })
  worked_refines start before work None after ep new old s o e v (idle, same) = idled start before work after ep new old s o e v idle same o.leaves.works
  worked_refines start before work (Some command) after ep new old s o e v on = ended start before command work after ep new old s o e v on.outcome o.leaves.works

  refines_worked : (start : List ℕ) (before : List Call) (work : WorkAnswer) (after : List ℕ) (ep : Stage) (new : StoreValue) (old : KeyboardValue) → Refines defaults start before old
      → Operating defaults (image_after start before) old.store work after new → control_ep.Refines (ep_calls defaults start (Worked work after ∷ before)) ep
      → Refines defaults start (Worked work after ∷ before) (record old { ep = ep; store = new })
  refines_worked start before work after ep new old s o e =
      worked_refines start before work (at_work old) after ep new old s o e refl (worked_by start before (at_work old) old work after new s o refl)

  -- a step that settles the command, one that fails it, and others
  pub refines_settled : (start : List ℕ) (before : List Call) (after : List ℕ) (ep : Stage) (new : StoreValue) (old : KeyboardValue) → Refines defaults start before old
      → Operating defaults (image_after start before) old.store Settled after new → control_ep.Refines (Settle ∷ ep_calls defaults start before) ep
      → Refines defaults start (Worked Settled after ∷ before) (record old { ep = ep; store = new })
  unfolding ep_calls
  refines_settled start before after ep new old s o e = refines_worked start before Settled after ep new old s o e

  pub refines_failed : (start : List ℕ) (before : List Call) (after : List ℕ) (ep : Stage) (new : StoreValue) (old : KeyboardValue) → Refines defaults start before old
      → Operating defaults (image_after start before) old.store Failed after new → control_ep.Refines (Fail ∷ ep_calls defaults start before) ep
      → Refines defaults start (Worked Failed after ∷ before) (record old { ep = ep; store = new })
  unfolding ep_calls
  refines_failed start before after ep new old s o e = refines_worked start before Failed after ep new old s o e

  pub refines_working : (start : List ℕ) (before : List Call) (after : List ℕ) (new : StoreValue) (old : KeyboardValue) → Refines defaults start before old
      → Operating defaults (image_after start before) old.store Working after new → Refines defaults start (Worked Working after ∷ before) (record old { store = new })
  unfolding ep_calls
  refines_working start before after new old s o = refines_worked start before Working after old.ep new old s o s.now.ep

  pub refines_idle : (start : List ℕ) (before : List Call) (after : List ℕ) (new : StoreValue) (old : KeyboardValue) → Refines defaults start before old
      → Operating defaults (image_after start before) old.store Idle after new → Refines defaults start (Worked Idle after ∷ before) (record old { store = new })
  unfolding ep_calls
  refines_idle start before after new old s o = refines_worked start before Idle after old.ep new old s o s.now.ep

  pub refines_other : (start : List ℕ) (before : List Call) (work : WorkAnswer) (after : List ℕ) (new : StoreValue) (old : KeyboardValue) → Refines defaults start before old
      → Operating defaults (image_after start before) old.store work after new → (work ≡ Idle) ⊎ (work ≡ Working) → Refines defaults start (Worked work after ∷ before) (record old { store = new })
  refines_other start before work after new old s o (inl i) = rw i (refines_idle start before after new old s (rw i at o))
  refines_other start before work after new old s o (inr w) = rw w (refines_working start before after new old s (rw w at o))

  -- the store works on the image that these calls left
  pub operating_on : (here image : List ℕ) (store : StoreValue) (work : WorkAnswer) (after : List ℕ) (new : StoreValue) → here ≡ image → Operating defaults image store work after new → Operating defaults here store work after new
  operating_on here image store work after new e o = subst (λ (x : List ℕ). Operating defaults x store work after new) (sym e) o

  -- a cut of the power inside the operation
  pub cut_legal : (start : List ℕ) (past : List Call) (command : Command) (cut : List ℕ) → EachCall (IsAnswered defaults) start past → working defaults start past ≡ Some command
      → SameEntries (keymap defaults cut) (keymap defaults (image_after start past)) ⊎ SameEntries (keymap defaults cut) (changed defaults (keymap defaults (image_after start past)) (command ∷ []))
      → RestartsLegally defaults start past cut
  cut_legal start past command cut h w (inl e) = restarts_without defaults start past cut h e
  cut_legal start past command cut h w (inr e) = restarts_with defaults start past command cut h w e

  left_by : (start : List ℕ) (past : List Call) (command : Command) (work : WorkAnswer) (new : List ℕ) → EachCall (IsAnswered defaults) start past → working defaults start past ≡ Some command
      → ComesTo defaults command (image_after start past) work new → RestartsLegally defaults start past new
  left_by start past command Settled new h w c = restarts_with defaults start past command new h w c.entries
  left_by start past command Working new h w c = restarts_without defaults start past new h c
  left_by start past command Failed new h w c = restarts_without defaults start past new h c
  left_by start past command Idle new h w c = absurd c

  cuts_by : (start : List ℕ) (past : List Call) (w : Option Command) (work : WorkAnswer) (new : List ℕ) → EachCall (IsAnswered defaults) start past → working defaults start past ≡ w → WorkedOn defaults start past w work new → work ≢ Idle
      → CutsLegally defaults start past work new
  cuts_by start past None work new h w (idle, same) n = absurd (n idle)
  cuts_by start past (Some command) work new h w on n = record {
    command = command;
    is_working = w;
    works = on;
    legal = λ cut i m. cut_legal start past command cut h w (on.cut cut i m).1;
    left = left_by start past command work new h w on.outcome;
  }

  pub cuts_legally : (start : List ℕ) (past : List Call) (work : WorkAnswer) (new : List ℕ) → EachCall (IsAnswered defaults) start past → IsAnswered defaults start past (Worked work new) → work ≢ Idle
      → CutsLegally defaults start past work new
  cuts_legally start past work new h a n = cuts_by start past (working defaults start past) work new h refl a n
