-- The operations of a command come in their order: what a store has still to make begins as the list of the command, the next
-- operation is its first, and a step that goes on takes that off.
use Rattle.std.proofs.Common.{◌≡◌, ◌∙◌, ℕ, zero, suc, ◌+◌, ◌-◌, ◌≤◌, ◌<◌, ◌==◌, refl, sym, ap, subst, arith, Bool, true, false, Option, Some, None, List, [], ◌∷◌, ◌++◌, length, length-append, get_or, drop, inl, inr}
use Rattle.std.specs.Prelude.{slice_get}
use Rattle.std.proofs.lemmas.Bool.{cases_eq, cases_lt, cases_Bool, and_parts, ne_eqb, lt-ltb, le-ltb}
use Rattle.std.proofs.lemmas.List.{drop_all}
use Rattle.std.proofs.Math.Seq.{drop-cons}
use Rattle.records.specs.declared.Slot.{Slot}
use Rattle.records.specs.declared.Slot.TheVariants.{Free, Good, Spoiled}
use Rattle.records.specs.Blocks.{is_free}
use Rattle.records.specs.Slots.{slot_of}
use Rattle.flash_model.specs.Image.{slot_at, page_count}
use Rattle.flash_model.specs.Operations.{OnePage}
use Rattle.flash_model.proofs.Places.{page_count-one_page}
use Rattle.layers.specs.Codes.{DefaultCodes}
use Rattle.layers.specs.Commands.{word_of}
use Rattle.layers.specs.Copies.{places, AreCopies}
use Rattle.layers.specs.declared.command.Command.{Command}
use Rattle.page_turnover.specs.declared.log.ActivePage.{ActivePage}
use Rattle.page_turnover.specs.declared.log.stepping.Step.{Step}
use Rattle.page_turnover.specs.declared.log.stepping.Step.TheVariants.{Moved, Committed}
use Rattle.page_turnover.specs.declared.operation.Operation.{Operation}
use Rattle.page_turnover.specs.declared.operation.Operation.TheVariants.{Program, Erase}
use Rattle.page_turnover.specs.Active.{active, format}
use Rattle.page_turnover.specs.Blank.{is_blank}
use Rattle.page_turnover.specs.Header.{header_word}
use Rattle.page_turnover.specs.representation.Log.{Describes}
use Rattle.page_turnover.specs.Next.{is_ready, turn_operation, append_operation, next_operation}
use Rattle.page_turnover.specs.Steps.{StepsFor, Steps, IsReady, Keeps, EndsAs}
use Rattle.page_turnover.specs.Turn.{target_page, next_seq, copied, copies}
use Rattle.page_turnover.specs.representation.Turn.{UnderWay, TargetIs}
use Rattle.page_turnover.specs.Value.{LogValue, Target, Unread, Holds, Task, Rest, Append, Wait, Copy, Seal}
use Rattle.page_turnover.specs.Words.{FreeFrom, IsBlank, IsTail, HasRoom}
use Rattle.page_turnover.proofs.Blanks.{is_blank-blank, is_blank-used}
use Rattle.page_turnover.proofs.Describing.{held_active, room_of_none}
use Rattle.page_turnover.proofs.Endings.{waiting_count}
use Rattle.keymap_store.specs.declared.store.Job.{Job}
use Rattle.keymap_store.specs.declared.store.Job.TheVariants.{Resting, Appending, Turning}
use Rattle.keymap_store.specs.declared.store.Work.TheVariants.{Idle, Working, Settled, Failed}
use Rattle.keymap_store.specs.Keymap.{entries_of}
use Rattle.keymap_store.specs.Left.{differing, target_of, Needs}
use Rattle.keymap_store.specs.Next.{all_copies, next_task, with_task, next_operation_of}
use Rattle.keymap_store.specs.Operations.{tail_up_to, has_room_on, has_room, record_on, erase_if_used, programs_from, header_and_record, turn_and_record, operations_of}
use Rattle.keymap_store.specs.representation.Rest.{append_rest, erase_rest, copies_rest, turn_rest, rest_for, rest_of, TakesFirst}
use Rattle.keymap_store.specs.representation.Store.{Mirrors, OffersBelow, IsTurning}
use Rattle.keymap_store.specs.Value.{StoreValue}
use Rattle.keymap_store.proofs.Counting.{copies_below-count, differing-is}
use Rattle.keymap_store.proofs.Elsewhere.{one_tail}
use Rattle.keymap_store.proofs.Keymaps.{entries_of-keeps}
use Rattle.keymap_store.proofs.NextTasks.{IsAfter, ComesFirst, first_of_all, after_first}

-- ---- the tail and the room of an image, as values

free_of : (slot : Slot) → is_free slot ≡ true → slot ≡ Free
free_of Free e = refl
free_of (Good word) e = cc
free_of Spoiled e = cc

not_free : (slot : Slot) → is_free slot ≡ false → slot ≡ Free → ⊥
not_free slot e f = (let t : is_free slot ≡ true = rw f refl in cc)

tail_is_tail : (image : List ℕ) (page n : ℕ) → n ≤ 511 → FreeFrom image page (suc n) → IsTail image page (tail_up_to image page n)
unfolding tail_up_to
tail_is_tail image page zero l f = record { low = omega arith; high = omega arith; free = f; used = λ m. absurd (omega arith) }
tail_is_tail image page (suc n) l f = elim (cases_Bool (is_free (slot_of (slot_at image page (suc n))))) [
  | inl e ↦ rw e (tail_is_tail image page n (omega arith) (λ s a b. elim (cases_eq s (suc n)) [
    | inl q ↦ rw q (free_of (slot_of (slot_at image page (suc n))) e)
    | inr d ↦ f s (omega arith) b
  ]))
  | inr e ↦ rw e (record {
    low = omega arith;
    high = omega arith;
    free = λ s a b. f s (omega arith) b;
    used = λ m g. (let t : n + 2 - 1 ≡ suc n = omega arith in not_free (slot_of (slot_at image page (suc n))) e (rw t at g));
  })
]

tail_is : (image : List ℕ) (page tail : ℕ) → IsTail image page tail → tail_up_to image page 511 ≡ tail
tail_is image page tail t =
    let h : IsTail image page (tail_up_to image page 511) = tail_is_tail image page 511 (omega arith) (λ s a b. absurd (omega arith)) in
    let l = one_tail image page (tail_up_to image page 511) tail h t in
    let m = one_tail image page tail (tail_up_to image page 511) t h in
    omega arith

room_true : (image : List ℕ) → HasRoom image → has_room image ≡ true
unfolding has_room
room_true image r = rw (r.is_active, r.current, r.free) refl

room_on : (image : List ℕ) (place : Option (ℕ × ℕ)) (number : Option ℕ) → active image ≡ place → format image ≡ number → has_room_on image place number ≡ true → HasRoom image
room_on image None None a f e = cc
room_on image None (Some number) a f e = cc
room_on image (Some place) None a f e = cc
room_on image (Some place) (Some number) a f e =
    let p = and_parts (number == 2) (is_free (slot_of (slot_at image place.0 511))) e in
    elim (cases_eq number 2) [
      | inl q ↦ record { page = place.0; seq = place.1; is_active = a; current = rw q at f; free = free_of (slot_of (slot_at image place.0 511)) p.1 }
      | inr d ↦ (let g : (number == 2) ≡ false = ne_eqb number 2 d in let h = p.0 in cc)
    ]

room_false : (image : List ℕ) → (HasRoom image → ⊥) → has_room image ≡ false
unfolding has_room
room_false image n = elim (cases_Bool (has_room_on image (active image) (format image))) [
  | inl e ↦ absurd (n (room_on image (active image) (format image) refl refl e))
  | inr e ↦ e
]

erase_none : (image : List ℕ) (page : ℕ) → is_blank image page ≡ true → erase_if_used image page ≡ []
unfolding erase_if_used
erase_none image page e = rw e refl

erase_one : (image : List ℕ) (page : ℕ) → is_blank image page ≡ false → erase_if_used image page ≡ Erase page ∷ []
unfolding erase_if_used
erase_one image page e = rw e refl

-- ---- a command that was just taken has all of them to make

held_rest : (image : List ℕ) (log : LogValue) (held : Option ActivePage) (word : ℕ) → Describes image log → HasRoom image → log.active ≡ held → append_rest held word ≡ record_on image (active image) word
held_rest image log None word d r e = absurd (room_of_none image log d e r)
held_rest image log (Some place) word d r e =
    let h = held_active image log place d e in
    rw (h.is_active, tail_is image place.page place.tail h.is_tail) refl

programs_count : (page slot : ℕ) (words : List ℕ) → length (programs_from page slot words) ≡ length words
programs_count page slot [] = refl
programs_count page slot (word ∷ words) = ap suc (programs_count page (suc slot) words)

turn_count : (image copies : List ℕ) (word : ℕ) → length (turn_and_record image copies word) ≡ length (erase_if_used image (target_page image)) + (length copies + 2)
turn_count image copies word =
    let all : length (turn_and_record image copies word) ≡ length (erase_if_used image (target_page image)) + length (programs_from (target_page image) 1 copies ++ header_and_record image (length copies) word) =
    length-append (erase_if_used image (target_page image)) (programs_from (target_page image) 1 copies ++ header_and_record image (length copies) word) in
    let more : length (programs_from (target_page image) 1 copies ++ header_and_record image (length copies) word) ≡ length (programs_from (target_page image) 1 copies) + 2 =
    length-append (programs_from (target_page image) 1 copies) (header_and_record image (length copies) word) in
    let few : length (programs_from (target_page image) 1 copies) ≡ length copies = programs_count (target_page image) 1 copies in
    omega (arith, all, more, few)

-- of a target that is ready the operations are left that this list has, and of another one its erase comes before them
first_by : (ready : Bool) (image : List ℕ) (target : Target) (slot word : ℕ) (more : List Operation) → is_ready image target ≡ ready
    → Some (turn_operation ready image slot word) ≡ slice_get (erase_rest image target ++ Program (target_page image) slot word ∷ more) 0
first_by true image Unread slot word more e = rw (erase_none image (target_page image) e) refl
first_by false image Unread slot word more e = rw (erase_one image (target_page image) e) refl
first_by true image (Holds n) slot word more e = refl
first_by false image (Holds n) slot word more e = cc

left_copies : (image : List ℕ) (n : ℕ) (all : List ℕ) → n < length all → copies_rest image n all ≡ Program (target_page image) (suc n) (get_or all n 0) ∷ copies_rest image (suc n) all
left_copies image n all l = rw (drop-cons all n 0 l) refl

no_copies : (image : List ℕ) (n : ℕ) (all : List ℕ) → length all ≤ n → copies_rest image n all ≡ []
no_copies image n all l = rw (drop_all n all l) refl

copy_first : (image : List ℕ) (target : Target) (all : List ℕ) (word other : ℕ) → copied target < length all → get_or all (copied target) 0 ≡ word
    → Some (turn_operation (is_ready image target) image (copied target + 1) word) ≡ slice_get (turn_rest image target all other) 0
copy_first image target all word other l e =
    let s : copied target + 1 ≡ suc (copied target) = omega arith in
    rw (left_copies image (copied target) all l, e, s) (first_by (is_ready image target) image target (suc (copied target)) word (copies_rest image (suc (copied target)) all ++ header_and_record image (length all) other) refl)

seal_first : (image : List ℕ) (target : Target) (all : List ℕ) (other : ℕ) → length all ≤ copied target
    → Some (turn_operation (is_ready image target) image 0 (header_word 2 (next_seq image))) ≡ slice_get (turn_rest image target all other) 0
seal_first image target all other l =
    rw (no_copies image (copied target) all l) (first_by (is_ready image target) image target 0 (header_word 2 (next_seq image)) (Program (target_page image) (suc (length all)) other ∷ []) refl)

append_first : (held : Option ActivePage) (word : ℕ) → append_operation held word ≡ slice_get (append_rest held word) 0
append_first None word = refl
append_first (Some place) word = refl

same_target : (old new : List ℕ) → Keeps old new → page_count new ≡ page_count old → target_page new ≡ target_page old
unfolding target_page
same_target old new k p = rw (k.active_is, p) refl

same_number : (old new : List ℕ) → Keeps old new → next_seq new ≡ next_seq old
unfolding next_seq
same_number old new k = rw k.active_is refl

erase_ready : (image : List ℕ) (target : Target) → IsReady image target → erase_rest image target ≡ []
erase_ready image Unread r = erase_none image (target_page image) (is_blank-blank image (target_page image) r)
erase_ready image (Holds n) r = refl

one_append : (held : Option ActivePage) (word : ℕ) → drop 1 (append_rest held word) ≡ []
one_append None word = refl
one_append (Some place) word = refl

pub failed_order : (before : List Operation) → TakesFirst Failed before []
failed_order before = record { goes_on = λ w. cc; last = λ w. cc; ends = λ w. refl }

pub idle_order : (before after : List Operation) → after ≡ [] → TakesFirst Idle before after
idle_order before after e = record { goes_on = λ w. cc; last = λ w. cc; ends = λ w. e }

module _ (defaults : DefaultCodes) where
  with_room : (image : List ℕ) (command : Command) → HasRoom image → operations_of defaults image command ≡ record_on image (active image) (word_of command)
  unfolding operations_of
  with_room image command r = rw (room_true image r) refl

  without_room : (image : List ℕ) (command : Command) → (HasRoom image → ⊥) → operations_of defaults image command ≡ turn_and_record image (all_copies defaults (entries_of defaults image)) (word_of command)
  unfolding operations_of
  without_room image command n = rw (room_false image n) refl

  pub append_begins : (image : List ℕ) (store : StoreValue) (log : LogValue) (word : ℕ) (command : Command) → Mirrors defaults image store → log ≡ record store.log { task = Append word } → HasRoom image → rest_for defaults image log (Appending command) ≡ operations_of defaults image command
  append_begins image store log word command m e r =
      let a : log.active ≡ store.log.active = rw e refl in
      rw a (held_rest image store.log store.log.active (word_of command) m.log_is r refl) ∙ sym (with_room image command r)

  pub turn_begins : (image : List ℕ) (store : StoreValue) (log : LogValue) (command : Command) → Mirrors defaults image store → log ≡ record store.log { task = Wait Unread } → (HasRoom image → ⊥) → rest_for defaults image log (Turning command 0) ≡ operations_of defaults image command
  turn_begins image store log command m e n =
      let t : log.task ≡ Wait Unread = rw e refl in
      rw t refl ∙ sym (without_room image command n)

  -- ---- a command needs as many as there are

  copies_count : (image : List ℕ) → length (all_copies defaults (entries_of defaults image)) ≡ differing defaults image
  copies_count image = copies_below-count defaults (entries_of defaults image) places ∙ sym (differing-is defaults image)

  pub needs_all : (image : List ℕ) (command : Command) → Needs defaults image (length (operations_of defaults image command))
  needs_all image command = record {
    room = λ r. rw (with_room image command r, r.is_active) refl;
    blank = λ f b. (let none : length (erase_if_used image (target_page image)) ≡ 0 = rw (erase_none image (target_page image) (is_blank-blank image (target_page image) b)) refl in
        let all = turn_count image (all_copies defaults (entries_of defaults image)) (word_of command) in
        let copies = copies_count image in
        rw (without_room image command f) (omega (arith, none, all, copies)));
    used = λ f u. (let one : length (erase_if_used image (target_page image)) ≡ 1 = rw (erase_one image (target_page image) (is_blank-used image (target_page image) u)) refl in
        let all = turn_count image (all_copies defaults (entries_of defaults image)) (word_of command) in
        let copies = copies_count image in
        rw (without_room image command f) (omega (arith, one, all, copies)));
  }

  -- and no other number
  pub needed_once : (image : List ℕ) (a b : ℕ) → Needs defaults image a → Needs defaults image b → a ≡ b
  needed_once image a b n m = elim (cases_eq a b) [
    | inl e ↦ e
    | inr d ↦ (let full : HasRoom image → ⊥ = λ r. d (n.room r ∙ sym (m.room r)) in
        let used : IsBlank image (target_page image) → ⊥ = λ x. d (n.blank full x ∙ sym (m.blank full x)) in
        absurd (d (n.used full used ∙ sym (m.used full used))))
  ]

  -- ---- the next operation is the first

  -- the word that was offered is the one after those that were copied
  offered_is : (entries : ℕ → ℕ → ℕ) (from : ℕ) (image : List ℕ) (target : Target) (word : ℕ) → from ≤ places → TargetIs image target → AreCopies defaults entries from (copies image (Wait target) ++ word ∷ [])
      → (copied target < length (all_copies defaults entries)) × (get_or (all_copies defaults entries) (copied target) 0 ≡ word)
  offered_is entries from image target word l t o =
      let count : length (copies image (Wait target)) ≡ copied target = waiting_count image target t in
      let f : ComesFirst (copies image (Wait target) ++ word ∷ []) (all_copies defaults entries) = rw (← o.listed) at (first_of_all defaults entries from l) in
      let a : IsAfter (copies image (Wait target)) (all_copies defaults entries) word = after_first (copies image (Wait target)) (all_copies defaults entries) word f in
      (rw count at a.more, rw count at a.is)

  all_copied : (entries : ℕ → ℕ → ℕ) (image : List ℕ) (target : Target) → TargetIs image target → AreCopies defaults entries places (copies image (Wait target)) → length (all_copies defaults entries) ≡ copied target
  all_copied entries image target t o = rw (← o.listed) (waiting_count image target t)

  turn_first : (from : ℕ) (image : List ℕ) (log : LogValue) (task : Task) (word : ℕ) → from ≤ places → UnderWay image task → OffersBelow defaults (entries_of defaults image) from image task
      → next_operation image (with_task log (next_task defaults (entries_of defaults image) task)) ≡ slice_get (turn_rest image (target_of task) (all_copies defaults (entries_of defaults image)) word) 0
  turn_first from image log Rest word l u o = absurd o
  turn_first from image log (Append other) word l u o = absurd o
  turn_first from image log (Wait target) word l u o = elim (cases_lt (copied target) (length (all_copies defaults (entries_of defaults image)))) [
    | inl more ↦ rw (lt-ltb (copied target) (length (all_copies defaults (entries_of defaults image))) more) (copy_first image target (all_copies defaults (entries_of defaults image)) (get_or (all_copies defaults (entries_of defaults image)) (copied target) 0) word more refl)
    | inr none ↦ rw (le-ltb (copied target) (length (all_copies defaults (entries_of defaults image))) none) (seal_first image target (all_copies defaults (entries_of defaults image)) word none)
  ]
  turn_first from image log (Copy target other) word l u o =
      let a = offered_is (entries_of defaults image) from image target other l u.turning.target_is o in
      copy_first image target (all_copies defaults (entries_of defaults image)) other word a.0 a.1
  turn_first from image log (Seal target) word l u o =
      let e = all_copied (entries_of defaults image) image target u.target_is o in
      seal_first image target (all_copies defaults (entries_of defaults image)) word (omega (arith, e))

  first_for : (image : List ℕ) (store : StoreValue) (job : Job) → Mirrors defaults image store → store.job ≡ job → next_operation_of defaults image store ≡ slice_get (rest_for defaults image store.log job) 0
  first_for image store Resting m e = (let t = rw e at m.job_is in rw t refl)
  first_for image store (Appending command) m e = (let j = rw e at m.job_is in rw j.task_is (append_first store.log.active (word_of command)))
  first_for image store (Turning command from) m e =
      let j : IsTurning defaults image store.log from = rw e at m.job_is in
      turn_first from image store.log store.log.task (word_of command) j.within m.log_is.task_is j.offers

  pub next_is_first : (image : List ℕ) (store : StoreValue) → Mirrors defaults image store → next_operation_of defaults image store ≡ slice_get (rest_of defaults image store) 0
  next_is_first image store m = first_for image store store.job m refl

  -- ---- a step that goes on takes the first one off

  rest_kept : (old new : List ℕ) (n word : ℕ) → Keeps old new → page_count new ≡ page_count old
      → turn_rest new (Holds n) (all_copies defaults (entries_of defaults new)) word ≡ copies_rest old n (all_copies defaults (entries_of defaults old)) ++ header_and_record old (length (all_copies defaults (entries_of defaults old))) word
  rest_kept old new n word k p = rw (same_target old new k p, same_number old new k, entries_of-keeps defaults old new k) refl

  after_erase : (old new : List ℕ) (target : Target) (word : ℕ) → target ≡ Unread → (IsBlank old (target_page old) → ⊥) → Keeps old new → page_count new ≡ page_count old
      → turn_rest new (Holds 0) (all_copies defaults (entries_of defaults new)) word ≡ drop 1 (turn_rest old target (all_copies defaults (entries_of defaults old)) word)
  after_erase old new target word e used k p =
      rest_kept old new 0 word k p ∙ rw (e, erase_one old (target_page old) (is_blank-used old (target_page old) used)) refl

  after_copy : (old new : List ℕ) (target : Target) (word : ℕ) → copied target < length (all_copies defaults (entries_of defaults old)) → IsReady old target → Keeps old new → page_count new ≡ page_count old
      → turn_rest new (Holds (copied target + 1)) (all_copies defaults (entries_of defaults new)) word ≡ drop 1 (turn_rest old target (all_copies defaults (entries_of defaults old)) word)
  after_copy old new target word l r k p =
      let s : copied target + 1 ≡ suc (copied target) = omega arith in
      rest_kept old new (copied target + 1) word k p ∙ rw (s, erase_ready old target r, left_copies old (copied target) (all_copies defaults (entries_of defaults old)) l) refl

  pub moved_rest : (from : ℕ) (old : List ℕ) (before : LogValue) (task : Task) (new : List ℕ) (after : LogValue) (word : ℕ) → from ≤ places → UnderWay old task → OffersBelow defaults (entries_of defaults old) from old task → StepsFor task old before Moved new after → Keeps old new
      → page_count new ≡ page_count old → turn_rest new (target_of after.task) (all_copies defaults (entries_of defaults new)) word ≡ drop 1 (turn_rest old (target_of task) (all_copies defaults (entries_of defaults old)) word)
  moved_rest from old before Rest new after word l u o s k p = absurd o
  moved_rest from old before (Append other) new after word l u o s k p = absurd o
  moved_rest from old before (Wait target) new after word l u o s k p = let f = s.answer in cc
  moved_rest from old before (Copy target other) new after word l u o s k p =
      let P : Task → Type 0 = λ t. turn_rest new (target_of t) (all_copies defaults (entries_of defaults new)) word ≡ drop 1 (turn_rest old target (all_copies defaults (entries_of defaults old)) word) in
      elim s [
        | inl a ↦ (let t : after.task ≡ Copy (Holds 0) other = rw a.next refl in subst P (sym t) (after_erase old new target word a.unread a.used k p))
        | inr a ↦ (let t : after.task ≡ Wait (Holds (copied target + 1)) = rw a.next refl in
            let b = offered_is (entries_of defaults old) from old target other l u.turning.target_is o in
            subst P (sym t) (after_copy old new target word b.0 a.ready k p))
      ]
  moved_rest from old before (Seal target) new after word l u o s k p =
      let P : Task → Type 0 = λ t. turn_rest new (target_of t) (all_copies defaults (entries_of defaults new)) word ≡ drop 1 (turn_rest old target (all_copies defaults (entries_of defaults old)) word) in
      elim s [
        | inl a ↦ (let t : after.task ≡ Seal (Holds 0) = rw a.next refl in subst P (sym t) (after_erase old new target word a.unread a.used k p))
        | inr a ↦ (let f = a.answer in cc)
      ]

  pub committed_rest : (from : ℕ) (old : List ℕ) (before : LogValue) (task : Task) (new : List ℕ) (after : LogValue) (word : ℕ) → UnderWay old task → OffersBelow defaults (entries_of defaults old) from old task → StepsFor task old before Committed new after
      → append_rest after.active word ≡ drop 1 (turn_rest old (target_of task) (all_copies defaults (entries_of defaults old)) word)
  committed_rest from old before Rest new after word u o s = absurd o
  committed_rest from old before (Append other) new after word u o s = absurd o
  committed_rest from old before (Wait target) new after word u o s = let f = s.answer in cc
  committed_rest from old before (Copy target other) new after word u o s = elim s [
    | inl a ↦ (let f = a.answer in cc)
    | inr a ↦ (let f = a.answer in cc)
  ]
  committed_rest from old before (Seal target) new after word u o s = elim s [
    | inl a ↦ (let f = a.answer in cc)
    | inr a ↦ (let all : List ℕ = all_copies defaults (entries_of defaults old) in
        let e : length all ≡ copied target = all_copied (entries_of defaults old) old target u.target_is o in
        let t : copied target + 1 ≡ suc (length all) = omega (arith, e) in
        let h : after.active ≡ Some (record { page = target_page old; seq = next_seq old; format = 2; tail = copied target + 1 }) = rw a.next refl in
        rw (h, erase_ready old target a.ready, no_copies old (copied target) all (omega (arith, e)), t) refl)
  ]

  -- ---- as calls of a store

  pub moved_order : (from at : ℕ) (old : List ℕ) (store : StoreValue) (command : Command) (before : LogValue) (step : Step) (new : List ℕ) (after : LogValue) → Mirrors defaults old store → store.job ≡ Turning command at → target_of before.task ≡ target_of store.log.task → from ≤ places
      → UnderWay old before.task → OffersBelow defaults (entries_of defaults old) from old before.task → step ≡ Moved → EndsAs old before step new after → Keeps old new → OnePage old (target_page old) new
      → TakesFirst Working (rest_of defaults old store) (rest_of defaults new (record { log = after; keymap = store.keymap; job = Turning command from }))
  moved_order from at old store command before step new after m j t l u o e ends k p =
      let S : Step → Type 0 = λ s. Steps old before s new after in
      let T : Target → Type 0 = λ x. turn_rest new (target_of after.task) (all_copies defaults (entries_of defaults new)) (word_of command) ≡ drop 1 (turn_rest old x (all_copies defaults (entries_of defaults old)) (word_of command)) in
      let r = subst T t (moved_rest from old before before.task new after (word_of command) l u o (subst S e (ends.done (λ f. cc))) k (page_count-one_page old (target_page old) new p)) in
      record { goes_on = λ w. rw j r; last = λ w. cc; ends = λ w. absurd (w refl) }

  pub committed_order : (from at : ℕ) (old : List ℕ) (store : StoreValue) (command : Command) (before : LogValue) (step : Step) (new : List ℕ) (after next : LogValue) (other : ℕ) → Mirrors defaults old store → store.job ≡ Turning command at → target_of before.task ≡ target_of store.log.task
      → UnderWay old before.task → OffersBelow defaults (entries_of defaults old) from old before.task → step ≡ Committed → EndsAs old before step new after → next ≡ record after { task = Append other }
      → TakesFirst Working (rest_of defaults old store) (rest_of defaults new (record { log = next; keymap = store.keymap; job = Appending command }))
  committed_order from at old store command before step new after next other m j t u o e ends n =
      let S : Step → Type 0 = λ s. Steps old before s new after in
      let T : Target → Type 0 = λ x. append_rest after.active (word_of command) ≡ drop 1 (turn_rest old x (all_copies defaults (entries_of defaults old)) (word_of command)) in
      let r = subst T t (committed_rest from old before before.task new after (word_of command) u o (subst S e (ends.done (λ f. cc)))) in
      let a : next.active ≡ after.active = rw n refl in
      record { goes_on = λ w. rw (j, a) r; last = λ w. cc; ends = λ w. absurd (w refl) }

  pub settled_order : (old : List ℕ) (store : StoreValue) (command : Command) → Mirrors defaults old store → store.job ≡ Appending command → TakesFirst Settled (rest_of defaults old store) []
  settled_order old store command m j = record { goes_on = λ w. cc; last = λ w. rw j (one_append store.log.active (word_of command)); ends = λ w. refl }
