-- What the next operation of a store leaves where the power is cut inside it.
use Rattle.std.proofs.Common.{◌≡◌, ℕ, ◌/◌, ◌%◌, ◌≤◌, ◌<◌, ◌⊎◌, refl, sym, subst, arith, true, List, length, get_or, Option, Some, None, inl, inr}
use Rattle.std.proofs.lemmas.Bool.{cases_eq, cases_lt, cases_Bool}
use Rattle.records.specs.declared.Slot.{Slot}
use Rattle.records.specs.declared.Slot.TheVariants.{Free, Good, Spoiled}
use Rattle.records.specs.Slots.{slot_of}
use Rattle.layers.specs.declared.command.Command.{Command}
use Rattle.layers.specs.Codes.{keys, is_code, DefaultCodes}
use Rattle.layers.specs.Commands.{word_of}
use Rattle.layers.specs.Copies.{AreCopies, places, entry_at}
use Rattle.flash_model.specs.Image.{IsImage, slot_at}
use Rattle.flash_model.specs.Operations.{OnePage}
use Rattle.page_turnover.specs.declared.log.ActivePage.{ActivePage}
use Rattle.page_turnover.specs.declared.operation.Operation.{Operation}
use Rattle.page_turnover.specs.declared.operation.Operation.TheVariants.{Program, Erase}
use Rattle.page_turnover.specs.Value.{LogValue, Target, Task, Rest, Append, Wait, Copy, Seal}
use Rattle.page_turnover.specs.representation.Log.{Describes}
use Rattle.page_turnover.specs.Active.{active, format}
use Rattle.page_turnover.specs.Blank.{is_blank}
use Rattle.page_turnover.specs.Words.{HasRoom}
use Rattle.page_turnover.specs.Turn.{copied, copies, target_page}
use Rattle.page_turnover.specs.representation.Turn.{UnderWay, Copying}
use Rattle.page_turnover.specs.Next.{next_operation, append_operation, is_ready, MayMake, ReadsBack}
use Rattle.page_turnover.specs.Steps.{Keeps, CommitsWord, CommitsTurn}
use Rattle.page_turnover.specs.Leaves.{Leaves, IsEffect}
use Rattle.page_turnover.proofs.Blanks.{blank_of, is_blank-blank}
use Rattle.page_turnover.proofs.Describing.{held_active}
use Rattle.page_turnover.proofs.Endings.{waiting_count}
use Rattle.page_turnover.proofs.Leaving.{leaves}
use Rattle.keymap_store.specs.declared.store.Job.{Job}
use Rattle.keymap_store.specs.declared.store.Job.TheVariants.{Resting, Appending, Turning}
use Rattle.keymap_store.specs.Value.{StoreValue}
use Rattle.keymap_store.specs.Keymap.{entries_of, SameEntries}
use Rattle.keymap_store.specs.representation.Store.{Mirrors, IsAppending, IsTurning, OffersBelow}
use Rattle.keymap_store.specs.Next.{all_copies, next_task, with_task, next_operation_of}
use Rattle.keymap_store.specs.Turnovers.{Wears, over, spares, fills}
use Rattle.keymap_store.specs.Cut.{recorded, as_before, CutLeaves}
use Rattle.keymap_store.proofs.Keymaps.{entries_of-keeps, entries_of-is_code, entries_of-recorded, entries_of-copies}
use Rattle.keymap_store.proofs.NextTasks.{next_task-copy, next_task-seal, copies_small, copies_of_all}
use Rattle.keymap_store.proofs.Offering.{few_copies}
use Rattle.keymap_store.proofs.Elsewhere.{IsOfTurn, torn_in_target, turn_spares, tail_filled}
use Rattle.keymap_store.proofs.Working.{turned}

-- whether an operation's target reads as intended
good_or : (slot : Slot) (word : ℕ) → (slot ≡ Good word) ⊎ (slot ≡ Good word → ⊥)
good_or Free word = inr (λ e. cc)
good_or Spoiled word = inr (λ e. cc)
good_or (Good other) word =
    elim (cases_eq other word) [
      | inl e ↦ inl (rw e refl)
      | inr n ↦ inr (λ e. n cc)
    ]

reads_or : (operation : Operation) (image : List ℕ) → ReadsBack operation image ⊎ (ReadsBack operation image → ⊥)
reads_or (Program page slot word) image = good_or (slot_of (slot_at image page slot)) word
reads_or (Erase page) image =
    elim (cases_Bool (is_blank image page)) [
      | inl e ↦ inl (blank_of image page e)
      | inr e ↦ inr (λ b. let t = is_blank-blank image page b in cc)
    ]

some_operation : (a b : Operation) → Some a ≡ Some b → a ≡ b
some_operation a b e = cc

-- a cut inside an operation of a compaction touches its target alone
cut_in_target : (task : Task) (old : List ℕ) (log : LogValue) (operation : Operation) (new : List ℕ) → log.task ≡ task → IsOfTurn task → next_operation old log ≡ Some operation → MayMake old operation new → OnePage old (target_page old) new
cut_in_target Rest old log operation new e t n m = absurd t
cut_in_target (Append word) old log operation new e t n m = absurd t
cut_in_target (Wait target) old log operation new e t n m = absurd t
cut_in_target (Copy target word) old log operation new e t n m =
    let s = some_operation _ operation (rw e at n) in
    torn_in_target (is_ready old target) old _ word new (rw (← s) at m)
cut_in_target (Seal target) old log operation new e t n m =
    let s = some_operation _ operation (rw e at n) in
    torn_in_target (is_ready old target) old 0 _ new (rw (← s) at m)

same_of : (a b : ℕ → ℕ → ℕ) → a ≡ b → SameEntries a b
same_of a b e layer key l k = rw e refl

module _ (defaults : DefaultCodes) where
  -- a compaction at a copy or its commit header, which comes after all copies
  abbrev SealsAll : (ℕ → ℕ → ℕ) → List ℕ → Task → Type 0
  SealsAll entries image Rest = Unit {0}
  SealsAll entries image (Append word) = Unit {0}
  SealsAll entries image (Wait target) = Unit {0}
  SealsAll entries image (Copy target word) = Unit {0}
  SealsAll entries image (Seal target) = AreCopies defaults entries places (copies image (Seal target))

  record IsGiven (entries : ℕ → ℕ → ℕ) (image : List ℕ) (task : Task) : Type 0 where
    under_way : UnderWay image task
    of_turn : IsOfTurn task
    seals : SealsAll entries image task

  given : (entries : ℕ → ℕ → ℕ) (from : ℕ) (image : List ℕ) (task : Task) → from ≤ places → ((other : ℕ) → other < places → is_code (entry_at entries other) ≡ true) → UnderWay image task → OffersBelow defaults entries from image task → IsGiven entries image (next_task defaults entries task)
  given entries from image Rest l c u o = absurd o
  given entries from image (Append word) l c u o = absurd o
  given entries from image (Copy target word) l c u o = record { under_way = u; of_turn = tt; seals = tt }
  given entries from image (Seal target) l c u o = record { under_way = u; of_turn = tt; seals = o }
  given entries from image (Wait target) l c u o =
      let P : Task → Type 0 = λ t. IsGiven entries image t in
      let count : length (copies image (Wait target)) ≡ copied target = waiting_count image target u.target_is in
      let few : copied target < 511 = few_copies defaults entries from image (Wait target) l u o in
      elim (cases_lt (length (copies image (Wait target))) (length (all_copies defaults entries))) [
        | inl more ↦ (let e = next_task-copy defaults entries target (copies image (Wait target)) (get_or (all_copies defaults entries) (length (copies image (Wait target))) 0) count (record { more = more; is = refl }) in
            let whole : places ≤ places = omega arith in
            let next : Copying image target (get_or (all_copies defaults entries) (length (copies image (Wait target))) 0) =
            record { turning = u; few = few; fits = copies_small defaults entries places (length (copies image (Wait target))) whole c } in
            subst P (sym e) (record { under_way = next; of_turn = tt; seals = tt }))
        | inr all ↦ (let e : next_task defaults entries (Wait target) ≡ Seal target = next_task-seal defaults entries target (rw (← count) all) in
            subst P (sym e) (record { under_way = u; of_turn = tt; seals = copies_of_all defaults entries from (copies image (Wait target)) l c o all }))
      ]

  -- what is left of a compaction: all is as before, or it is committed
  turn_kept : (old : List ℕ) (store : StoreValue) (log : LogValue) (command : Command) (from : ℕ) (operation : Operation) (new : List ℕ) (left : Leaves old log operation new) → Describes old log → store.job ≡ Turning command from → OnePage old (target_page old) new → Keeps old new → CutLeaves defaults old store operation new
  turn_kept old store log command from operation new left d e one k = record {
    operates = left.operates;
    usable = left.usable;
    keymap = as_before (λ c r. let x = r.0 in cc) (same_of (entries_of defaults new) (entries_of defaults old) (entries_of-keeps defaults old new k));
    wears = spares (turn_spares old log new d k one);
  }

  turn_over : (old : List ℕ) (store : StoreValue) (log : LogValue) (command : Command) (from : ℕ) (target : Target) (operation : Operation) (new : List ℕ) (left : Leaves old log operation new) → store.job ≡ Turning command from → (HasRoom old → ⊥) → AreCopies defaults (entries_of defaults old) places (copies old (Seal target)) → OnePage old (target_page old) new → CommitsTurn old (Seal target) new → CutLeaves defaults old store operation new
  turn_over old store log command from target operation new left e n a one c = record {
    operates = left.operates;
    usable = left.usable;
    keymap = as_before (λ x r. let y = r.0 in cc) (entries_of-copies defaults (entries_of defaults old) new c.format_is (rw c.words_are a));
    wears = over (turned defaults from old (Seal target) new n a c one);
  }

  turn_effect : (task : Task) (old : List ℕ) (store : StoreValue) (log : LogValue) (command : Command) (from : ℕ) (operation : Operation) (new : List ℕ) (left : Leaves old log operation new) → Describes old log → store.job ≡ Turning command from → (HasRoom old → ⊥) → IsGiven (entries_of defaults old) old task → OnePage old (target_page old) new → IsEffect old task operation new → CutLeaves defaults old store operation new
  turn_effect Rest old store log command from operation new left d e n g one f = absurd f
  turn_effect (Append word) old store log command from operation new left d e n g one f = absurd g.of_turn
  turn_effect (Wait target) old store log command from operation new left d e n g one f = absurd f
  turn_effect (Copy target word) old store log command from operation new left d e n g one f = turn_kept old store log command from operation new left d e one f
  turn_effect (Seal target) old store log command from (Program page slot word) new left d e n g one f = turn_over old store log command from target (Program page slot word) new left e n g.seals one f
  turn_effect (Seal target) old store log command from (Erase page) new left d e n g one f = turn_kept old store log command from (Erase page) new left d e one f

  cut_turn : (old new : List ℕ) (store : StoreValue) (command : Command) (from : ℕ) (operation : Operation) → Mirrors defaults old store → store.job ≡ Turning command from → next_operation_of defaults old store ≡ Some operation → IsImage new → MayMake old operation new → CutLeaves defaults old store operation new
  cut_turn old new store command from operation m e n i t =
      let j : IsTurning defaults old store.log from = rw e at m.job_is in
      let entries : ℕ → ℕ → ℕ = entries_of defaults old in
      let task : Task = next_task defaults entries store.log.task in
      let log : LogValue = with_task store.log task in
      let g : IsGiven entries old task = given entries from old store.log.task j.within (λ other l. entries_of-is_code defaults old (other / keys) (other % keys) (omega arith)) m.log_is.task_is j.offers in
      let d : Describes old log = record { whole = m.log_is.whole; active_is = m.log_is.active_is; unsound_is = m.log_is.unsound_is; task_is = g.under_way } in
      let left : Leaves old log operation new = leaves old new log operation d n i t in
      let one : OnePage old (target_page old) new = cut_in_target task old log operation new refl g.of_turn n t in
      elim (reads_or operation new) [
        | inl r ↦ turn_effect task old store log command from operation new left d e j.no_room g one (left.effect r)
        | inr k ↦ turn_kept old store log command from operation new left d e one (left.kept k)
      ]

  -- what is left of an append: the record is there as a whole, or all is as before
  tail_touched : (held : Option ActivePage) (old : List ℕ) (log : LogValue) (word : ℕ) (operation : Operation) (new : List ℕ) → Describes old log → log.active ≡ held → append_operation held word ≡ Some operation → MayMake old operation new → active new ≡ active old → format new ≡ format old → Wears defaults old new
  tail_touched None old log word operation new d e n m a f = cc
  tail_touched (Some place) old log word operation new d e n m a f =
      let h = held_active old log place d e in
      let s = some_operation _ operation n in
      let p = rw (← s) at m in
      fills (tail_filled old place.page place.tail new (record { seq = place.seq; is_active = h.is_active; is_tail = h.is_tail }) a f p.rest)

  cut_append : (old new : List ℕ) (store : StoreValue) (command : Command) (operation : Operation) → Mirrors defaults old store → store.job ≡ Appending command → next_operation_of defaults old store ≡ Some operation → IsImage new → MayMake old operation new → CutLeaves defaults old store operation new
  cut_append old new store command operation m e n i t =
      let j : IsAppending store.log command = rw e at m.job_is in
      let U : Task → Type 0 = λ x. UnderWay old x in
      let under = subst U j.task_is m.log_is.task_is in
      let log : LogValue = with_task store.log (Append (word_of command)) in
      let d : Describes old log = record { whole = m.log_is.whole; active_is = m.log_is.active_is; unsound_is = m.log_is.unsound_is; task_is = under } in
      let next : append_operation store.log.active (word_of command) ≡ Some operation = rw j.task_is at n in
      let left : Leaves old log operation new = leaves old new log operation d next i t in
      elim (reads_or operation new) [
        | inl r ↦ (let c : CommitsWord old (word_of command) new = left.effect r in record {
          operates = left.operates;
          usable = left.usable;
          keymap = recorded command (e, r) (entries_of-recorded defaults old new (word_of command) command under.room.current c j.reads_back);
          wears = tail_touched store.log.active old store.log (word_of command) operation new m.log_is refl next t c.active_is c.format_is;
        })
        | inr k ↦ (let c : Keeps old new = left.kept k in record {
          operates = left.operates;
          usable = left.usable;
          keymap = as_before (λ x r. k r.1) (same_of (entries_of defaults new) (entries_of defaults old) (entries_of-keeps defaults old new c));
          wears = tail_touched store.log.active old store.log (word_of command) operation new m.log_is refl next t c.active_is c.format_is;
        })
      ]

  by_job : (job : Job) (old new : List ℕ) (store : StoreValue) (operation : Operation) → store.job ≡ job → Mirrors defaults old store → next_operation_of defaults old store ≡ Some operation → IsImage new → MayMake old operation new → CutLeaves defaults old store operation new
  by_job Resting old new store operation e m n i t =
      let r : store.log.task ≡ Rest = rw e at m.job_is in
      let none = rw r at n in
      cc
  by_job (Appending command) old new store operation e m n i t = cut_append old new store command operation m e n i t
  by_job (Turning command from) old new store operation e m n i t = cut_turn old new store command from operation m e n i t

  pub cut_leaves : (old new : List ℕ) (store : StoreValue) (operation : Operation) → Mirrors defaults old store → next_operation_of defaults old store ≡ Some operation → IsImage new → MayMake old operation new → CutLeaves defaults old store operation new
  cut_leaves old new store operation m n i t = by_job store.job old new store operation refl m n i t
