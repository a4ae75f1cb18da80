-- What a step of the log is for the store.
use Rattle.std.proofs.Common.{◌≡◌, ℕ, ◌≤◌, List, [], ◌∷◌, ◌++◌, refl, sym, subst, Some, arith, length}
use Rattle.layers.specs.Codes.{DefaultCodes}
use Rattle.layers.specs.declared.command.Command.{Command}
use Rattle.layers.specs.Commands.{command_of, word_of}
use Rattle.layers.specs.Formats.{command_by_format}
use Rattle.layers.specs.Copies.{places}
use Rattle.layers.specs.Keymaps.{Refines}
use Rattle.layers.proofs.Copying.{AreCopies-length}
use Rattle.flash_model.specs.Operations.{OnePage}
use Rattle.page_turnover.specs.declared.log.stepping.Step.{Step}
use Rattle.page_turnover.specs.declared.log.stepping.Step.TheVariants.{Moved, Committed, Failed}
use Rattle.page_turnover.specs.Value.{LogValue, Unread, Task, Rest, Append, Wait, Copy, Seal}
use Rattle.page_turnover.specs.Log.{HasTailRoom}
use Rattle.page_turnover.specs.representation.Log.{Describes}
use Rattle.page_turnover.specs.Words.{HasRoom}
use Rattle.page_turnover.specs.Usable.{IsUsable}
use Rattle.page_turnover.specs.Turn.{target_page, copies}
use Rattle.page_turnover.specs.representation.Turn.{UnderWay}
use Rattle.page_turnover.specs.Steps.{Appends, StepsFor, CommitsWord, Commits, EndsAs, Moves}
use Rattle.page_turnover.proofs.Describing.{tail_room, held_active}
use Rattle.page_turnover.proofs.Effects.{committed_rests}
use Rattle.keymap_store.specs.declared.store.Job.{Job}
use Rattle.keymap_store.specs.declared.store.Job.TheVariants.{Resting, Appending, Turning}
use Rattle.keymap_store.specs.Value.{StoreValue}
use Rattle.keymap_store.specs.Keymap.{entries_of}
use Rattle.keymap_store.specs.representation.Store.{Mirrors, JobIs, IsAppending, IsTurning, OffersBelow}
use Rattle.keymap_store.specs.representation.Offers.{CanGoOn}
use Rattle.keymap_store.specs.Turnovers.{Prepares, TurnsOver}
use Rattle.keymap_store.specs.Works.{IsPlacedAt}
use Rattle.keymap_store.proofs.Keymaps.{entries_of-keeps, keymap_recorded, keymap_kept}
use Rattle.keymap_store.proofs.Offering.{few_copies, moved_on, committed_turn, nothing_offered}
use Rattle.keymap_store.proofs.Elsewhere.{turn_spares, no_room_kept}

-- a step of a compaction that commits nothing
pub prepares : (old : List ℕ) (before : Task) (new : List ℕ) (after : Task) → Moves old before new after → OnePage old (target_page old) new → Prepares old new
prepares old before new after m o = record { keeps = m.keeps; elsewhere = o }

module _ (defaults : DefaultCodes) where
  -- the job of a store that appends, and of one that compacts
  pub appending : (image : List ℕ) (store : StoreValue) (command : Command) → Mirrors defaults image store → store.job ≡ Appending command → IsAppending store.log command
  appending image store command m e = rw e at m.job_is

  pub turning : (image : List ℕ) (store : StoreValue) (command : Command) (from : ℕ) → Mirrors defaults image store → store.job ≡ Turning command from → IsTurning defaults image store.log from
  turning image store command from m e = rw e at m.job_is

  -- while a command works, all slots 0 are sound
  usable_offering : (entries : ℕ → ℕ → ℕ) (from : ℕ) (image : List ℕ) (task : Task) → OffersBelow defaults entries from image task → UnderWay image task → IsUsable image
  usable_offering entries from image Rest o u = absurd o
  usable_offering entries from image (Append word) o u = absurd o
  usable_offering entries from image (Wait target) o u = u.can.usable
  usable_offering entries from image (Copy target word) o u = u.turning.can.usable
  usable_offering entries from image (Seal target) o u = u.can.usable

  resting_if_unusable : (image : List ℕ) (log : LogValue) (job : Job) → JobIs defaults image log job → UnderWay image log.task → (IsUsable image → ⊥) → job ≡ Resting
  resting_if_unusable image log Resting j u n = refl
  resting_if_unusable image log (Appending command) j u n =
      let U : Task → Type 0 = λ t. UnderWay image t in absurd (n (subst U j.task_is u).usable)
  resting_if_unusable image log (Turning command from) j u n = absurd (n (usable_offering (entries_of defaults image) from image log.task j.offers u))

  pub rests_if_unusable : (image : List ℕ) (store : StoreValue) → Mirrors defaults image store → (IsUsable image → ⊥) → store.job ≡ Resting
  rests_if_unusable image store m n = resting_if_unusable image store.log store.job m.job_is m.log_is.task_is n

  -- there is room for the record of a command
  pub appending_room : (image : List ℕ) (store : StoreValue) (command : Command) → Mirrors defaults image store → store.job ≡ Appending command → HasRoom image
  appending_room image store command m e =
      let U : Task → Type 0 = λ t. UnderWay image t in
      (subst U (appending image store command m e).task_is m.log_is.task_is).room

  pub appended_word : (old : List ℕ) (store : StoreValue) (command : Command) (new : List ℕ) → Mirrors defaults old store → store.job ≡ Appending command → Commits old store.log.task new → CommitsWord old (word_of command) new
  appended_word old store command new m e c =
      let C : Task → Type 0 = λ t. Commits old t new in
      subst C (appending old store command m e).task_is c

  -- the record of a command is appended
  pub appended : (old : List ℕ) (store : StoreValue) (command : Command) (step : Step) (new : List ℕ) (after : LogValue) (keymap : List ℕ) → Mirrors defaults old store → store.job ≡ Appending command → step ≡ Committed → EndsAs old store.log step new after → Commits old store.log.task new
      → ((number : ℕ) (ws : List ℕ) (word : ℕ) → Refines defaults number ws store.keymap → command_by_format number word ≡ Some command → Refines defaults number (ws ++ word ∷ []) keymap) → Mirrors defaults new (record { log = after; keymap = keymap; job = Resting })
  appended old store command step new after keymap m e s ends c applies = record {
    log_is = ends.describes;
    keymap_is = keymap_recorded defaults old new (word_of command) command store.keymap keymap (appending_room old store command m e).current (appended_word old store command new m e c) (appending old store command m e).reads_back m.keymap_is applies;
    job_is = committed_rests old store.log step new after s ends;
  }

  -- a step that failed
  pub failed : (old : List ℕ) (store : StoreValue) (log : LogValue) (step : Step) (new : List ℕ) (after : LogValue) → Mirrors defaults old store → step ≡ Failed → EndsAs old log step new after → Mirrors defaults new (record { log = after; keymap = store.keymap; job = Resting })
  failed old store log step new after m s ends = record {
    log_is = ends.describes;
    keymap_is = keymap_kept defaults old new store.keymap (ends.kept s) m.keymap_is;
    job_is = ends.rests s;
  }

  -- a compaction that begins
  pub begins_turn : (image : List ℕ) (store : StoreValue) (command : Command) (log : LogValue) → Mirrors defaults image store → (HasRoom image → ⊥) → Describes image log → log ≡ record store.log { task = Wait Unread } → Mirrors defaults image (record { log = log; keymap = store.keymap; job = Turning command 0 })
  begins_turn image store command log m n d e =
      let t : log.task ≡ Wait Unread = rw e refl in
      let O : Task → Type 0 = λ x. OffersBelow defaults (entries_of defaults image) 0 image x in
      record {
        log_is = d;
        keymap_is = m.keymap_is;
        job_is = record { no_room = n; within = omega arith; offers = subst O (sym t) (nothing_offered defaults (entries_of defaults image) image) };
      }

  -- a compaction can offer one copy more
  pub turn_few : (image : List ℕ) (store : StoreValue) (command : Command) (from : ℕ) → Mirrors defaults image store → store.job ≡ Turning command from → CanGoOn store.log.task
  turn_few image store command from m e =
      let j = turning image store command from m e in
      few_copies defaults (entries_of defaults image) from image store.log.task j.within m.log_is.task_is j.offers

  -- a compaction that goes on
  pub turn_moves : (old : List ℕ) (store : StoreValue) (command : Command) (from : ℕ) (log : LogValue) (step : Step) (new : List ℕ) (after : LogValue) → Mirrors defaults old store → (HasRoom old → ⊥) → from ≤ places → Describes old log → OffersBelow defaults (entries_of defaults old) from old log.task → step ≡ Moved
      → EndsAs old log step new after → Moves old log.task new after.task → OnePage old (target_page old) new → Mirrors defaults new (record { log = after; keymap = store.keymap; job = Turning command from })
  turn_moves old store command from log step new after m n l d o s ends moves in_target =
      let k = moves.keeps in
      record {
        log_is = ends.describes;
        keymap_is = keymap_kept defaults old new store.keymap k m.keymap_is;
        job_is = record {
          no_room = no_room_kept old new (turn_spares old log new d k in_target) n;
          within = l;
          offers = rw (entries_of-keeps defaults old new k) (moved_on defaults (entries_of defaults old) from old log step new after o s ends moves);
        };
      }

  -- a compaction that is committed
  pub turn_room : (old : List ℕ) (store : StoreValue) (from : ℕ) (log : LogValue) (new : List ℕ) (after : LogValue) → Mirrors defaults old store → OffersBelow defaults (entries_of defaults old) from old log.task → Describes new after → Commits old log.task new → HasTailRoom after
  turn_room old store from log new after m o d c = tail_room new after d (committed_turn defaults (entries_of defaults old) from old log.task new store.keymap o m.keymap_is c).room

  pub turn_commits : (old : List ℕ) (store : StoreValue) (command : Command) (word from : ℕ) (log : LogValue) (new : List ℕ) (after next : LogValue) → Mirrors defaults old store → OffersBelow defaults (entries_of defaults old) from old log.task → Commits old log.task new → Describes new next
      → next ≡ record after { task = Append word } → word ≡ word_of command → command_of word ≡ Some command → Mirrors defaults new (record { log = next; keymap = store.keymap; job = Appending command })
  turn_commits old store command word from log new after next m o c d n w r =
      let t : next.task ≡ Append word = rw n refl in
      record {
        log_is = d;
        keymap_is = (committed_turn defaults (entries_of defaults old) from old log.task new store.keymap o m.keymap_is c).refines;
        job_is = record { task_is = rw w at t; reads_back = rw w at r };
      }

  -- the record of a command goes to the tail slot
  pub placed : (old : List ℕ) (store : StoreValue) (command : Command) (step : Step) (new : List ℕ) (after : LogValue) → Mirrors defaults old store → store.job ≡ Appending command → step ≡ Committed → EndsAs old store.log step new after
      → IsPlacedAt old command new
  placed old store command step new after m e s ends =
      let j = appending old store command m e in
      let S : Task → Type 0 = λ t. StepsFor t old store.log step new after in
      let a : Appends old store.log (word_of command) step new after = subst S j.task_is (ends.done (λ f. cc)) in
      let held = held_active old store.log a.place m.log_is a.is_active in
      record { page = a.place.page; tail = a.place.tail; place = record { seq = a.place.seq; is_active = held.is_active; is_tail = held.is_tail }; programs = a.programmed }

  -- the commit of a compaction
  pub turned : (from : ℕ) (old : List ℕ) (task : Task) (new : List ℕ) → (HasRoom old → ⊥) → OffersBelow defaults (entries_of defaults old) from old task → Commits old task new → OnePage old (target_page old) new → TurnsOver defaults old new
  turned from old Rest new n o c p = absurd o
  turned from old (Append word) new n o c p = absurd o
  turned from old (Wait target) new n o c p = absurd c
  turned from old (Copy target word) new n o c p = absurd c
  turned from old (Seal target) new n o c p =
      let few : length (copies old (Seal target)) ≤ places = AreCopies-length defaults (entries_of defaults old) places (copies old (Seal target)) o in
      record {
        no_room = n;
        active_is = c.active_is;
        format_is = c.format_is;
        copies = rw c.words_are o;
        free = λ s a b. c.rest s (omega arith) b;
        elsewhere = p;
      }
