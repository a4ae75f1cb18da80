-- A step of the log as a call of `work`.
use Rattle.std.proofs.Common.{◌≡◌, ◌≢◌, ◌∙◌, ℕ, refl, sym, ap, List, Option, Some, None}
use Rattle.layers.specs.Codes.{DefaultCodes}
use Rattle.layers.specs.declared.command.Command.{Command}
use Rattle.layers.specs.Commands.{word_of}
use Rattle.flash_model.specs.Operations.{OnePage}
use Rattle.page_turnover.specs.declared.log.ActivePage.{ActivePage}
use Rattle.page_turnover.specs.declared.operation.Operation.{Operation}
use Rattle.page_turnover.specs.declared.log.stepping.Step.{Step}
use Rattle.page_turnover.specs.declared.log.stepping.Step.TheVariants as Steps
use Rattle.page_turnover.specs.Value.{LogValue, Task, Rest, Append, Wait, Copy, Seal}
use Rattle.page_turnover.specs.representation.Log.{Describes}
use Rattle.page_turnover.specs.Words.{HasRoom}
use Rattle.page_turnover.specs.Turn.{IsPending, target_page}
use Rattle.page_turnover.specs.Next.{next_operation, append_operation}
use Rattle.page_turnover.specs.Steps.{EndsAs, Moves, Keeps, CommitsWord, Commits, AttemptsNext}
use Rattle.page_turnover.proofs.Describing.{held_active}
use Rattle.keymap_store.specs.declared.store.Job.TheVariants.{Appending, Turning}
use Rattle.keymap_store.specs.declared.store.Work.{Work}
use Rattle.keymap_store.specs.declared.store.Work.TheVariants.{Idle, Working, Settled, Failed}
use Rattle.keymap_store.specs.Value.{StoreValue}
use Rattle.keymap_store.specs.Keymap.{entries_of}
use Rattle.keymap_store.specs.representation.Store.{Mirrors, OffersBelow}
use Rattle.keymap_store.specs.representation.Offers.{IsOffered}
use Rattle.keymap_store.specs.Next.{next_operation_of}
use Rattle.keymap_store.specs.Turnovers.{stays, turns, Wears, over, spares, fills}
use Rattle.keymap_store.specs.Works.{WritesAs, IsPlacedAt, IsTornAt}
use Rattle.keymap_store.proofs.Working.{appending, appended_word, placed, prepares, turned}
use Rattle.keymap_store.proofs.Elsewhere.{IsOfTurn, turn_in_target, turn_spares, tail_filled}

-- a step of the log, and a call of `work`, that attempts the operation
abbrev pub AttemptsStep : Option Operation → List ℕ → Step → List ℕ → Type 0
AttemptsStep operation old step new = AttemptsNext operation old (step ≡ Steps.Idle) (step ≡ Steps.Failed) new

abbrev pub AttemptsWork : Option Operation → List ℕ → Work → List ℕ → Type 0
AttemptsWork operation old work new = AttemptsNext operation old (work ≡ Idle) (work ≡ Failed) new

attempt_done : (operation : Option Operation) (old : List ℕ) (step : Step) (work : Work) (new : List ℕ) → AttemptsStep operation old step new → step ≢ Steps.Idle → step ≢ Steps.Failed → work ≢ Idle → work ≢ Failed → AttemptsWork operation old work new
attempt_done None old step work new a i f w g = absurd (i a.0)
attempt_done (Some operation) old step work new a i f w g = record { not_idle = w; done = λ x. a.done f; torn = λ x. absurd (g x) }

attempt_failed : (operation : Option Operation) (old : List ℕ) (step : Step) (new : List ℕ) → AttemptsStep operation old step new → step ≡ Steps.Failed → AttemptsWork operation old Failed new
attempt_failed None old step new a e = let z = a.0 in cc
attempt_failed (Some operation) old step new a e = record { not_idle = λ x. cc; done = λ x. absurd (x refl); torn = λ x. a.torn e }

-- the record's slot after a fault
torn_for : (active : Option ActivePage) (old : List ℕ) (log : LogValue) (command : Command) (step : Step) (new : List ℕ) → Describes old log → log.active ≡ active → AttemptsStep (append_operation active (word_of command)) old step new → step ≡ Steps.Failed → IsTornAt old command new
torn_for None old log command step new d e a s = let z = a.0 in cc
torn_for (Some place) old log command step new d e a s =
    let held = held_active old log place d e in
    let f = a.torn s in
    record { page = place.page; tail = place.tail; place = record { seq = place.seq; is_active = held.is_active; is_tail = held.is_tail }; torn = f.0; unread = f.1 }

module _ (defaults : DefaultCodes) where
  -- the operation of an append, and of a compaction that was offered what it wants
  pub append_next : (old : List ℕ) (store : StoreValue) (command : Command) → Mirrors defaults old store → store.job ≡ Appending command → next_operation_of defaults old store ≡ next_operation old store.log
  append_next old store command m e = let t = (appending defaults old store command m e).task_is in rw t refl

  turn_next : (old : List ℕ) (store : StoreValue) (log : LogValue) (from : ℕ) → IsOffered defaults (entries_of defaults old) old store.log log from → next_operation_of defaults old store ≡ next_operation old log
  turn_next old store log from o = ap (λ (l : LogValue). next_operation old l) (sym o.next)

  -- what the store asks of the flash is what its log asks
  pub turn_asks : (old : List ℕ) (store : StoreValue) (log : LogValue) (from : ℕ) (operation : Operation) → Mirrors defaults old store → IsOffered defaults (entries_of defaults old) old store.log log from → next_operation_of defaults old store ≡ Some operation → next_operation old log ≡ Some operation
  turn_asks old store log from operation m o e = sym (turn_next old store log from o) ∙ e

  pub append_settled : (old : List ℕ) (store : StoreValue) (command : Command) (step : Step) (new : List ℕ) → Mirrors defaults old store → store.job ≡ Appending command → AttemptsStep (next_operation old store.log) old step new → step ≡ Steps.Committed → AttemptsWork (next_operation_of defaults old store) old Settled new
  append_settled old store command step new m e a s = rw (append_next old store command m e) (attempt_done (next_operation old store.log) old step Settled new a (λ x. cc) (λ x. cc) (λ x. cc) (λ x. cc))

  pub append_failed : (old : List ℕ) (store : StoreValue) (command : Command) (step : Step) (new : List ℕ) → Mirrors defaults old store → store.job ≡ Appending command → AttemptsStep (next_operation old store.log) old step new → step ≡ Steps.Failed → AttemptsWork (next_operation_of defaults old store) old Failed new
  append_failed old store command step new m e a s = rw (append_next old store command m e) (attempt_failed (next_operation old store.log) old step new a s)

  pub turn_working : (old : List ℕ) (store : StoreValue) (log : LogValue) (from : ℕ) (step : Step) (new : List ℕ) → Mirrors defaults old store → IsOffered defaults (entries_of defaults old) old store.log log from → AttemptsStep (next_operation old log) old step new → step ≢ Steps.Idle → step ≢ Steps.Failed → AttemptsWork (next_operation_of defaults old store) old Working new
  turn_working old store log from step new m o a i f = rw (turn_next old store log from o) (attempt_done (next_operation old log) old step Working new a i f (λ x. cc) (λ x. cc))

  pub turn_failed : (old : List ℕ) (store : StoreValue) (log : LogValue) (from : ℕ) (step : Step) (new : List ℕ) → Mirrors defaults old store → IsOffered defaults (entries_of defaults old) old store.log log from → AttemptsStep (next_operation old log) old step new → step ≡ Steps.Failed → AttemptsWork (next_operation_of defaults old store) old Failed new
  turn_failed old store log from step new m o a s = rw (turn_next old store log from o) (attempt_failed (next_operation old log) old step new a s)

  -- a compaction that was offered something is at a copy or its commit header
  of_turn : (entries : ℕ → ℕ → ℕ) (from : ℕ) (image : List ℕ) (task : Task) → OffersBelow defaults entries from image task → IsPending task → IsOfTurn task
  of_turn entries from image Rest o p = absurd o
  of_turn entries from image (Append word) o p = absurd o
  of_turn entries from image (Wait target) o p = absurd p
  of_turn entries from image (Copy target word) o p = tt
  of_turn entries from image (Seal target) o p = tt

  pub in_target : (old : List ℕ) (before log : LogValue) (from : ℕ) (step : Step) (new : List ℕ) → IsOffered defaults (entries_of defaults old) old before log from → AttemptsStep (next_operation old log) old step new → OnePage old (target_page old) new
  in_target old before log from step new o a = turn_in_target old log step new (of_turn (entries_of defaults old) from old log.task o.offers o.pending) a

  torn_at : (old : List ℕ) (store : StoreValue) (command : Command) (step : Step) (new : List ℕ) → Mirrors defaults old store → store.job ≡ Appending command → AttemptsStep (next_operation old store.log) old step new → step ≡ Steps.Failed → IsTornAt old command new
  torn_at old store command step new m e a s =
      let t = (appending defaults old store command m e).task_is in
      torn_for store.log.active old store.log command step new m.log_is refl (rw t at a) s

  -- what an append does to the active page
  appended_wears : (old new : List ℕ) (command : Command) → IsPlacedAt old command new → CommitsWord old (word_of command) new → Wears defaults old new
  appended_wears old new command p c = fills (tail_filled old p.page p.tail new p.place c.active_is c.format_is p.programs.rest)

  torn_wears : (old new : List ℕ) (command : Command) → IsTornAt old command new → Keeps old new → Wears defaults old new
  torn_wears old new command t k = fills (tail_filled old t.page t.tail new t.place k.active_is k.format_is t.torn.rest)

  -- what each answer says of the flash
  pub append_writes : (old : List ℕ) (store : StoreValue) (command : Command) (step : Step) (new : List ℕ) (after : LogValue) → Mirrors defaults old store → store.job ≡ Appending command → step ≡ Steps.Committed → EndsAs old store.log step new after → Commits old store.log.task new → WritesAs defaults old store.job Settled new
  append_writes old store command step new after m e s ends c =
      rw e (record {
        turns = λ f. cc;
        appended = λ f. (appended_word defaults old store command new m e c).words_are;
        placed = λ f. placed defaults old store command step new after m e s ends;
        kept = λ f. cc;
        fails = λ f. cc;
        wears = λ f. appended_wears old new command (placed defaults old store command step new after m e s ends) (appended_word defaults old store command new m e c);
      })

  pub append_fails : (old : List ℕ) (store : StoreValue) (command : Command) (step : Step) (new : List ℕ) (after : LogValue) → Mirrors defaults old store → store.job ≡ Appending command → step ≡ Steps.Failed → EndsAs old store.log step new after → AttemptsStep (next_operation old store.log) old step new → WritesAs defaults old store.job Failed new
  append_fails old store command step new after m e s ends a =
      rw e (record {
        turns = λ f. cc;
        appended = λ f. cc;
        placed = λ f. cc;
        kept = λ f. ends.kept s;
        fails = λ f. torn_at old store command step new m e a s;
        wears = λ f. torn_wears old new command (torn_at old store command step new m e a s) (ends.kept s);
      })

  pub turn_prepares : (old : List ℕ) (store : StoreValue) (log : LogValue) (from : ℕ) (step : Step) (new : List ℕ) (after : LogValue) → Mirrors defaults old store → IsOffered defaults (entries_of defaults old) old store.log log from → AttemptsStep (next_operation old log) old step new → Moves old log.task new after.task → WritesAs defaults old store.job Working new
  turn_prepares old store log from step new after m o a moves = record {
    turns = λ f. stays (prepares old log.task new after.task moves (in_target old store.log log from step new o a));
    appended = λ f. cc;
    placed = λ f. cc;
    kept = λ f. cc;
    fails = λ f. cc;
    wears = λ f. spares (turn_spares old log new o.describes moves.keeps (in_target old store.log log from step new o a));
  }

  pub turn_over : (old : List ℕ) (store : StoreValue) (log : LogValue) (from : ℕ) (step : Step) (new : List ℕ) → (HasRoom old → ⊥) → Mirrors defaults old store → IsOffered defaults (entries_of defaults old) old store.log log from → AttemptsStep (next_operation old log) old step new → Commits old log.task new → WritesAs defaults old store.job Working new
  turn_over old store log from step new n m o a c = record {
    turns = λ f. turns (turned defaults from old log.task new n o.offers c (in_target old store.log log from step new o a));
    appended = λ f. cc;
    placed = λ f. cc;
    kept = λ f. cc;
    fails = λ f. cc;
    wears = λ f. over (turned defaults from old log.task new n o.offers c (in_target old store.log log from step new o a));
  }

  pub turn_fails : (old : List ℕ) (store : StoreValue) → Mirrors defaults old store → (command : Command) (at : ℕ) (log : LogValue) (from : ℕ) (step : Step) (new : List ℕ) (after : LogValue) → store.job ≡ Turning command at → step ≡ Steps.Failed → EndsAs old log step new after → IsOffered defaults (entries_of defaults old) old store.log log from → AttemptsStep (next_operation old log) old step new → WritesAs defaults old store.job Failed new
  turn_fails old store m command at log from step new after e s ends o a =
      rw e (record {
        turns = λ f. cc;
        appended = λ f. cc;
        placed = λ f. cc;
        kept = λ f. ends.kept s;
        fails = λ f. in_target old store.log log from step new o a;
        wears = λ f. spares (turn_spares old log new o.describes (ends.kept s) (in_target old store.log log from step new o a));
      })
