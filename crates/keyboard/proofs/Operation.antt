-- Which operation a step of the flash work makes, by what the store has under way.
use Rattle.std.proofs.Common.{◌≡◌, ◌∙◌, ℕ, zero, suc, ◌+◌, ◌-◌, ◌/◌, ◌%◌, ◌<◌, ◌≤◌, arith, Bool, true, false, Option, Some, None, List, [], ◌∷◌, ◌++◌, length, length-append, get_or, refl, sym, subst, inl, inr}
use Rattle.std.proofs.lemmas.List.{append-nil}
use Rattle.std.proofs.lemmas.Bool.{cases_eq, cases_lt, lt-ltb, le-ltb}
use Rattle.std.proofs.lemmas.List.{get_or_append_left}
use Rattle.std.proofs.Math.Seq.{get_or-append_seam}
use Rattle.records.specs.declared.Slot.{Slot}
use Rattle.records.specs.declared.Slot.TheVariants.{Free, Good, Spoiled}
use Rattle.records.specs.Slots.{slot_of}
use Rattle.flash_model.specs.Image.{slot_at}
use Rattle.layers.specs.Codes.{keys, is_code, default_at, DefaultCodes}
use Rattle.layers.specs.Commands.{word_of}
use Rattle.layers.specs.Copies.{places, entry_at, set_key_at, copies_below, AreCopies}
use Rattle.layers.specs.declared.command.Command.{Command}
use Rattle.layers.proofs.Copying.{copies_below-same, copies_below-other}
use Rattle.page_turnover.specs.declared.log.ActivePage.{ActivePage}
use Rattle.page_turnover.specs.declared.operation.Operation.{Operation}
use Rattle.page_turnover.specs.declared.operation.Operation.TheVariants.{Program, Erase}
use Rattle.page_turnover.specs.Header.{header_word}
use Rattle.page_turnover.specs.representation.Log.{Describes}
use Rattle.page_turnover.specs.representation.Made.{CanMake}
use Rattle.page_turnover.specs.Next.{next_operation, append_operation, turn_operation, is_ready}
use Rattle.page_turnover.specs.Turn.{copied, copies as copies_in, target_page, next_seq}
use Rattle.page_turnover.specs.representation.Turn.{UnderWay, Copying, TargetIs, IsGood}
use Rattle.page_turnover.specs.Words.{word_of as words_of, words_up_to, IsBlank, HasRoom}
use Rattle.page_turnover.specs.Value.{LogValue, Target, Unread, Holds, Task, Rest, Append, Wait, Copy, Seal}
use Rattle.page_turnover.proofs.Blanks.{blank_of, is_blank-blank}
use Rattle.page_turnover.proofs.Describing.{held_active}
use Rattle.page_turnover.proofs.Endings.{apart, waiting_count}
use Rattle.page_turnover.proofs.Planning.{can_make}
use Rattle.page_turnover.proofs.WordLists.{up_to_more, words_none}
use Rattle.keymap_store.specs.declared.store.Job.{Job}
use Rattle.keymap_store.specs.declared.store.Job.TheVariants.{Resting, Appending, Turning}
use Rattle.keymap_store.specs.Left.{left_for}
use Rattle.keymap_store.specs.Next.{all_copies, next_task, with_task, next_operation_of}
use Rattle.keymap_store.specs.Store.{working as working_in}
use Rattle.keymap_store.specs.representation.Store.{Mirrors, IsAppending, IsTurning, OffersBelow}
use Rattle.keymap_store.specs.Value.{StoreValue}
use Rattle.keymap_store.proofs.Keymaps.{entries_of-is_code}
use Rattle.keymap_store.proofs.NextTasks.{copies_small}
use Rattle.keymap_store.proofs.Offering.{few_copies}
use Rattle.keyboard.specs.Calls.{keymap}
use Rattle.keyboard.specs.Operated.{LosesNothing, IsRecord, HoldsFirst, IsOfTurn, erases, copies, heads}

-- the copies below a place stand first among those below a later one
record RefinesIn (xs ys : List ℕ) (k : ℕ) : Type 0 where
  more : k < length ys
  same : get_or ys k 0 ≡ get_or xs k 0

-- the word of a Good slot
record GoodWord (s : Slot) : Type 0 where
  word : ℕ
  is : s ≡ Good word

good_word : (s : Slot) → IsGood s → GoodWord s
good_word Free g = absurd g
good_word (Good word) g = record { word = word; is = refl }
good_word Spoiled g = absurd g

-- the words of n Good slots, one a slot
record ReadsAs (image : List ℕ) (page n : ℕ) : Type 0 where
  count : length (words_up_to image page n) ≡ n
  at : (k : ℕ) → k < n → slot_of (slot_at image page (k + 1)) ≡ Good (get_or (words_up_to image page n) k 0)

seam_at : (made : List ℕ) (word n : ℕ) → length made ≡ n → get_or (made ++ word ∷ []) n 0 ≡ word
seam_at made word n e = rw (← e) (get_or-append_seam made word [] 0)

reads_as : (image : List ℕ) (page n : ℕ) → ((s : ℕ) → 1 ≤ s → s ≤ n → IsGood (slot_of (slot_at image page s))) → ReadsAs image page n
reads_as image page zero h = record { count = rw (words_none image page) refl; at = λ k l. absurd (omega arith) }
reads_as image page (suc n) h =
    let before : ReadsAs image page n = reads_as image page n (λ s a b. h s a (omega arith)) in
    let made : List ℕ = words_up_to image page n in
    let g : GoodWord (slot_of (slot_at image page (suc n))) = good_word (slot_of (slot_at image page (suc n))) (h (suc n) (omega arith) (omega arith)) in
    let same : suc n - 1 ≡ n = omega arith in
    let more : words_up_to image page (suc n) ≡ made ++ words_of (slot_of (slot_at image page (suc n))) = rw same at (up_to_more image page (suc n) (omega arith)) in
    let now : words_up_to image page (suc n) ≡ made ++ g.word ∷ [] = rw g.is at more in
    record {
      count = rw now (simp length-append (omega (arith, before.count)));
      at = λ k l. elim (cases_lt k n) [
        | inl below ↦ rw (now, get_or_append_left made (g.word ∷ []) 0 k (rw before.count below)) (before.at k below)
        | inr last ↦ (let e : k ≡ n = omega arith in
            let next : n + 1 ≡ suc n = omega arith in
            let seam : get_or (made ++ g.word ∷ []) n 0 ≡ g.word = seam_at made g.word n before.count in
            rw (e, next, now, seam) g.is)
      ];
    }

few_of : (n m : ℕ) → ((k : ℕ) → k < n → k < m) → n ≤ m
few_of zero m h = omega arith
few_of (suc n) m h = let l : n < m = h n (omega arith) in omega arith

some_operation : (a b : Operation) → Some a ≡ Some b → b ≡ a
some_operation a b e = cc

unready : (old : List ℕ) (target : Target) → is_ready old target ≡ false → IsBlank old (target_page old) → ⊥
unready old Unread r b = (let e = is_blank-blank old (target_page old) b in cc)
unready old (Holds n) r b = cc

-- a compaction is made on the page after the active one, which is another
erase_same : (p q : ℕ) → Erase p ≡ Erase q → p ≡ q
erase_same p q e = cc

loses_nothing : (old : List ℕ) (log : LogValue) (operation : Operation) → Describes old log → CanMake old operation → ((page : ℕ) → operation ≡ Erase page → page ≡ target_page old) → LosesNothing old operation
loses_nothing old log (Program page slot word) d c e = c
loses_nothing old log (Erase page) d c e = (c, λ seq a. let same : page ≡ target_page old = e page refl in apart old log d seq (rw same at a))

-- a record that is next
pub record IsNextRecord (command : Command) (old : List ℕ) (operation : Operation) : Type 0 where
  pub is : IsRecord command old operation
  pub loses : LosesNothing old operation

record_in : (held : Option ActivePage) (command : Command) (old : List ℕ) (log : LogValue) (operation : Operation) → HasRoom old → Describes old log → log.active ≡ held → append_operation held (word_of command) ≡ Some operation → IsRecord command old operation
record_in None command old log operation room d e n = cc
record_in (Some place) command old log operation room d e n =
    let h = held_active old log place d e in
    record { room = room; page = place.page; tail = place.tail; place = record { seq = place.seq; is_active = h.is_active; is_tail = h.is_tail }; operation_is = some_operation _ operation n }

no_erase : (command : Command) (old : List ℕ) (operation : Operation) → IsRecord command old operation → (page : ℕ) → operation ≡ Erase page → page ≡ target_page old
no_erase command old operation r page e = (let f = r.operation_is in cc)

module _ (defaults : DefaultCodes) where
  refines_below : (entries : ℕ → ℕ → ℕ) (from n k : ℕ) → k < length (copies_below defaults entries from) → RefinesIn (copies_below defaults entries from) (copies_below defaults entries (from + n)) k
  refines_below entries from zero k l = let e : from + 0 ≡ from = omega arith in record { more = rw e l; same = rw e refl }
  refines_below entries from (suc n) k l =
      let e : from + suc n ≡ suc (from + n) = omega arith in
      let h = refines_below entries from n k l in
      elim (cases_eq (entry_at entries (from + n)) (default_at defaults (from + n))) [
        | inl s ↦ record {
          more = rw (e, copies_below-same defaults entries (from + n) s) h.more;
          same = rw (e, copies_below-same defaults entries (from + n) s) h.same;
        }
        | inr d ↦ record {
          more = rw (e, copies_below-other defaults entries (from + n) d) (simp length-append (omega (arith, h.more)));
          same = rw (e, copies_below-other defaults entries (from + n) d, get_or_append_left (copies_below defaults entries (from + n)) (word_of (set_key_at entries (from + n)) ∷ []) 0 k h.more) h.same;
        }
      ]

  refines_in_all : (entries : ℕ → ℕ → ℕ) (from k : ℕ) → from ≤ places → k < length (copies_below defaults entries from) → RefinesIn (copies_below defaults entries from) (all_copies defaults entries) k
  refines_in_all entries from k l b =
      let e : from + (places - from) ≡ places = omega arith in
      rw e at (refines_below entries from (places - from) k b)

  -- the last of them
  last_of : (entries : ℕ → ℕ → ℕ) (from n word : ℕ) (made : List ℕ) → from ≤ places → AreCopies defaults entries from (made ++ word ∷ []) → length made ≡ n
      → (n < length (all_copies defaults entries)) × (word ≡ get_or (all_copies defaults entries) n 0)
  last_of entries from n word made l a c =
      let b : n < length (made ++ word ∷ []) = simp length-append (omega (arith, c)) in
      let s : RefinesIn (copies_below defaults entries from) (all_copies defaults entries) n = refines_in_all entries from n l (rw (← a.listed) b) in
      let w : get_or (made ++ word ∷ []) n 0 ≡ word = rw (← c) (get_or-append_seam made word [] 0) in
      (s.more, sym w ∙ rw a.listed refl ∙ sym s.same)

  -- a target holds the first of the copies
  record HoldsSo (entries : ℕ → ℕ → ℕ) (image : List ℕ) (target : Target) : Type 0 where
    few : copied target ≤ length (all_copies defaults entries)
    same : (k : ℕ) → k < copied target → get_or (words_up_to image (target_page image) (copied target)) k 0 ≡ get_or (all_copies defaults entries) k 0

  holds_so : (entries : ℕ → ℕ → ℕ) (from : ℕ) (image : List ℕ) (target : Target) (more : List ℕ) → from ≤ places → AreCopies defaults entries from (words_up_to image (target_page image) (copied target) ++ more)
      → length (words_up_to image (target_page image) (copied target)) ≡ copied target → HoldsSo entries image target
  holds_so entries from image target more l a c = record { few = few_of (copied target) (length (all_copies defaults entries)) (λ k b. (refines k b).more); same = λ k b. same_at k b }
    where
      made : List ℕ
      made = words_up_to image (target_page image) (copied target)

      refines : (k : ℕ) → k < copied target → RefinesIn (copies_below defaults entries from) (all_copies defaults entries) k
      refines k b =
          let within : k < length (made ++ more) = simp length-append (omega (arith, c)) in
          refines_in_all entries from k l (rw (← a.listed) within)

      same_at : (k : ℕ) → k < copied target → get_or made k 0 ≡ get_or (all_copies defaults entries) k 0
      same_at k b =
          let within : k < length made = rw c b in
          let here : get_or (made ++ more) k 0 ≡ get_or made k 0 = get_or_append_left made more 0 k within in
          let s : get_or (all_copies defaults entries) k 0 ≡ get_or (copies_below defaults entries from) k 0 = (refines k b).same in
          sym here ∙ rw a.listed refl ∙ sym s

  -- a compaction that was offered the copy after those that it has made, or its commit header after the last
  abbrev CopiesNext : (ℕ → ℕ → ℕ) → List ℕ → Task → Type 0
  CopiesNext entries image Rest = ⊥
  CopiesNext entries image (Append word) = ⊥
  CopiesNext entries image (Wait target) = ⊥
  CopiesNext entries image (Copy target word) =
      (copied target < length (all_copies defaults entries)) × (word ≡ get_or (all_copies defaults entries) (copied target) 0) × HoldsSo entries image target
  CopiesNext entries image (Seal target) = (copied target ≡ length (all_copies defaults entries)) × HoldsSo entries image target

  record IsGiven (entries : ℕ → ℕ → ℕ) (image : List ℕ) (task : Task) : Type 0 where
    under_way : UnderWay image task
    next : CopiesNext entries image task

  given : (entries : ℕ → ℕ → ℕ) (from : ℕ) (image : List ℕ) (task : Task) → from ≤ places → ((other : ℕ) → other < places → is_code (entry_at entries other) ≡ true) → UnderWay image task → OffersBelow defaults entries from image task
      → IsGiven entries image (next_task defaults entries task)
  given entries from image Rest l c u o = absurd o
  given entries from image (Append word) l c u o = absurd o
  given entries from image (Copy target word) l c u o =
      let count : length (words_up_to image (target_page image) (copied target)) ≡ copied target = waiting_count image target u.turning.target_is in
      let last = last_of entries from (copied target) word (copies_in image (Copy target word)) l o count in
      record { under_way = u; next = (last.0, last.1, holds_so entries from image target (word ∷ []) l o count) }
  given entries from image (Seal target) l c u o =
      let made : List ℕ = words_up_to image (target_page image) (copied target) in
      let count : length made ≡ copied target = waiting_count image target u.target_is in
      let whole : places ≤ places = omega arith in
      let all : length made ≡ length (all_copies defaults entries) = rw o.listed refl in
      let h : HoldsSo entries image target = holds_so entries places image target [] whole (subst (λ (xs : List ℕ). AreCopies defaults entries places xs) (sym (append-nil made)) o) count in
      record { under_way = u; next = (sym count ∙ all, h) }
  given entries from image (Wait target) l c u o =
      let P : Task → Type 0 = λ t. IsGiven entries image t in
      let few : copied target < 511 = few_copies defaults entries from image (Wait target) l u o in
      let made : List ℕ = words_up_to image (target_page image) (copied target) in
      let h : HoldsSo entries image target = holds_so entries from image target [] l (subst (λ (xs : List ℕ). AreCopies defaults entries from xs) (sym (append-nil made)) o) (waiting_count image target u.target_is) in
      elim (cases_lt (copied target) (length (all_copies defaults entries))) [
        | inl more ↦ (let e : next_task defaults entries (Wait target) ≡ Copy target (get_or (all_copies defaults entries) (copied target) 0) = rw (lt-ltb (copied target) (length (all_copies defaults entries)) more) refl in
            let whole : places ≤ places = omega arith in
            let next : Copying image target (get_or (all_copies defaults entries) (copied target) 0) = record { turning = u; few = few; fits = copies_small defaults entries places (copied target) whole c } in
            subst P (sym e) (record { under_way = next; next = (more, refl, h) }))
        | inr all ↦ (let e : next_task defaults entries (Wait target) ≡ Seal target = rw (le-ltb (copied target) (length (all_copies defaults entries)) all) refl in
            let same : copied target ≡ length (all_copies defaults entries) = omega (arith, h.few) in
            subst P (sym e) (record { under_way = u; next = (same, h) }))
      ]

  -- a target that is ready holds its copies and nothing else, and one that is not is not blank
  holds_first : (old : List ℕ) (target : Target) → is_ready old target ≡ true → TargetIs old target → HoldsSo (keymap defaults old) old target → HoldsFirst defaults old (copied target)
  holds_first old Unread r t h =
      let blank : IsBlank old (target_page old) = blank_of old (target_page old) r in
      record { header = blank 0 (omega arith) (omega arith); copied = λ k l. absurd (omega arith); rest = λ s a b. blank s (omega arith) b }
  holds_first old (Holds n) r t h =
      let reads : ReadsAs old (target_page old) n = reads_as old (target_page old) n t.full in
      record { header = t.header; copied = λ k l. rw (← h.same k l) (reads.at k l); rest = t.rest }

  -- the operations of a compaction
  copy_is : (ready : Bool) (old : List ℕ) (target : Target) (word : ℕ) (operation : Operation) → is_ready old target ≡ ready → TargetIs old target → CopiesNext (keymap defaults old) old (Copy target word) → Some (turn_operation ready old (copied target + 1) word) ≡ Some operation
      → IsOfTurn defaults old operation
  copy_is true old target word operation r t c e = copies (copied target) c.0 (some_operation _ operation e ∙ rw c.1 refl) (holds_first old target r t c.2)
  copy_is false old target word operation r t c e = erases (some_operation _ operation e) (unready old target r)

  seal_is : (ready : Bool) (old : List ℕ) (target : Target) (operation : Operation) → is_ready old target ≡ ready → TargetIs old target → CopiesNext (keymap defaults old) old (Seal target)
      → Some (turn_operation ready old 0 (header_word 2 (next_seq old))) ≡ Some operation → IsOfTurn defaults old operation
  seal_is true old target operation r t c e =
      heads (some_operation _ operation e) (subst (λ (n : ℕ). HoldsFirst defaults old n) c.0 (holds_first old target r t c.1))
  seal_is false old target operation r t c e = erases (some_operation _ operation e) (unready old target r)

  of_turn : (old : List ℕ) (log : LogValue) (operation : Operation) (task : Task) → log.task ≡ task → UnderWay old task → CopiesNext (keymap defaults old) old task → next_operation old log ≡ Some operation → IsOfTurn defaults old operation
  of_turn old log operation Rest t u c n = absurd c
  of_turn old log operation (Append word) t u c n = absurd c
  of_turn old log operation (Wait target) t u c n = absurd c
  of_turn old log operation (Copy target word) t u c n = copy_is (is_ready old target) old target word operation refl u.turning.target_is c (rw t at n)
  of_turn old log operation (Seal target) t u c n = seal_is (is_ready old target) old target operation refl u.target_is c (rw t at n)

  erases_target : (old : List ℕ) (operation : Operation) → IsOfTurn defaults old operation → (page : ℕ) → operation ≡ Erase page → page ≡ target_page old
  erases_target old operation (erases f used) page e = erase_same page (target_page old) (sym e ∙ f)
  erases_target old operation (copies n l f h) page e = cc
  erases_target old operation (heads f h) page e = cc

  -- a compaction that is next
  pub record IsNextOfTurn (old : List ℕ) (operation : Operation) : Type 0 where
    pub is : IsOfTurn defaults old operation
    pub no_room : HasRoom old → ⊥
    pub loses : LosesNothing old operation

  pub next_of_turn : (old : List ℕ) (store : StoreValue) (command : Command) (from : ℕ) (operation : Operation) → Mirrors defaults old store → store.job ≡ Turning command from → next_operation_of defaults old store ≡ Some operation → IsNextOfTurn old operation
  next_of_turn old store command from operation m e n =
      let j : IsTurning defaults old store.log from = rw e at m.job_is in
      let entries : ℕ → ℕ → ℕ = keymap defaults old in
      let task : Task = next_task defaults entries store.log.task in
      let log : LogValue = with_task store.log task in
      let g : IsGiven entries old task = given entries from old store.log.task j.within (λ other l. entries_of-is_code defaults old (other / keys) (other % keys) (omega arith)) m.log_is.task_is j.offers in
      let d : Describes old log = record { whole = m.log_is.whole; active_is = m.log_is.active_is; unsound_is = m.log_is.unsound_is; task_is = g.under_way } in
      let is : IsOfTurn defaults old operation = of_turn old log operation task refl g.under_way g.next n in
      record { is = is; no_room = j.no_room; loses = loses_nothing old log operation d (can_make old log operation d n) (erases_target old operation is) }

  pub next_record : (old : List ℕ) (store : StoreValue) (command : Command) (operation : Operation) → Mirrors defaults old store → store.job ≡ Appending command → next_operation_of defaults old store ≡ Some operation → IsNextRecord command old operation
  next_record old store command operation m e n =
      let j : IsAppending store.log command = rw e at m.job_is in
      let U : Task → Type 0 = λ x. UnderWay old x in
      let under = subst U j.task_is m.log_is.task_is in
      let log : LogValue = with_task store.log (Append (word_of command)) in
      let d : Describes old log = record { whole = m.log_is.whole; active_is = m.log_is.active_is; unsound_is = m.log_is.unsound_is; task_is = under } in
      let next : append_operation store.log.active (word_of command) ≡ Some operation = rw j.task_is at n in
      let is : IsRecord command old operation = record_in store.log.active command old store.log operation under.room m.log_is refl next in
      record { is = is; loses = loses_nothing old log operation d (can_make old log operation d next) (no_erase command old operation is) }

  -- by what is left to do: the record alone, or a compaction before it
  pub due_last : (job : Job) (image : List ℕ) (store : StoreValue) (command : Command) (operation : Operation) → store.job ≡ job → Mirrors defaults image store → next_operation_of defaults image store ≡ Some operation → working_in job ≡ Some command
      → left_for defaults image store.log job ≡ 1 → IsRecord command image operation
  due_last Resting image store command operation e m n w l = cc
  due_last (Appending other) image store command operation e m n w l =
      let same : other ≡ command = cc in
      subst (λ (c : Command). IsRecord c image operation) same (next_record image store other operation m e n).is
  due_last (Turning other from) image store command operation e m n w l = absurd (omega (arith, l))

  pub due_before : (job : Job) (image : List ℕ) (store : StoreValue) (command : Command) (operation : Operation) → store.job ≡ job → Mirrors defaults image store → next_operation_of defaults image store ≡ Some operation → working_in job ≡ Some command
      → 1 < left_for defaults image store.log job → IsOfTurn defaults image operation
  due_before Resting image store command operation e m n w l = cc
  due_before (Appending other) image store command operation e m n w l = absurd (omega (arith, l))
  due_before (Turning other from) image store command operation e m n w l = (next_of_turn image store other from operation m e n).is

  pub due_no_room : (job : Job) (image : List ℕ) (store : StoreValue) (command : Command) (operation : Operation) → store.job ≡ job → Mirrors defaults image store → next_operation_of defaults image store ≡ Some operation → working_in job ≡ Some command
      → 1 < left_for defaults image store.log job → HasRoom image → ⊥
  due_no_room Resting image store command operation e m n w l = cc
  due_no_room (Appending other) image store command operation e m n w l = absurd (omega (arith, l))
  due_no_room (Turning other from) image store command operation e m n w l = (next_of_turn image store other from operation m e n).no_room

  pub loses_by : (job : Job) (image : List ℕ) (store : StoreValue) (command : Command) (operation : Operation) → store.job ≡ job → Mirrors defaults image store → next_operation_of defaults image store ≡ Some operation → working_in job ≡ Some command
      → LosesNothing image operation
  loses_by Resting image store command operation e m n w = cc
  loses_by (Appending other) image store command operation e m n w = (next_record image store other operation m e n).loses
  loses_by (Turning other from) image store command operation e m n w = (next_of_turn image store other from operation m e n).loses
