-- No step but a header's makes a header, and that one only its own.
use Rattle.std.proofs.Common.{◌≡◌, ◌∙◌, ℕ, suc, ◌+◌, ◌<◌, ◌≤◌, ap, refl, subst, arith, List, length, Option, Some, None, inl, inr}
use Rattle.std.specs.Prelude.{slice_get}
use Rattle.std.proofs.lemmas.Bool.{cases_eq}
use Rattle.records.specs.declared.Slot.TheVariants.{Good}
use Rattle.records.specs.Slots.{slot_of}
use Rattle.records.proofs.SlotLemmas.{good_within}
use Rattle.flash_model.specs.Image.{IsImage, slot_at, page_count}
use Rattle.flash_model.specs.Operations.{OneSlot, MayErase}
use Rattle.flash_model.proofs.Places.{page_count-one_page}
use Rattle.layers.specs.Codes.{DefaultCodes}
use Rattle.layers.specs.declared.command.Command.{Command}
use Rattle.page_turnover.specs.declared.operation.Operation.{Operation}
use Rattle.page_turnover.specs.declared.operation.Operation.TheVariants.{Program, Erase}
use Rattle.page_turnover.specs.Header.{HasHeader, header_word}
use Rattle.page_turnover.specs.Next.{MayMake}
use Rattle.page_turnover.specs.Turn.{target_page, next_seq}
use Rattle.page_turnover.specs.Usable.{IsUsable}
use Rattle.page_turnover.specs.Words.{HasRoom}
use Rattle.page_turnover.proofs.Operating.{slot_is}
use Rattle.page_turnover.proofs.Torn.{TornSlot, torn_slot}
use Rattle.keymap_store.specs.declared.store.Work.{Work as WorkAnswer}
use Rattle.keymap_store.specs.Next.{all_copies}
use Rattle.keymap_store.specs.Operations.{operations_of}
use Rattle.keyboard.specs.Bounded.{accepted_image, steps_since}
use Rattle.keyboard.specs.Calls.{Call, Worked, image_after, keymap}
use Rattle.keyboard.specs.Commands.{working}
use Rattle.keyboard.specs.Headers.{ComesBy, stood, is_own, OwnHeaders}
use Rattle.keyboard.specs.Conforming.{IsAnswered, WorkedOn}
use Rattle.keyboard.specs.Operated.{LosesNothing, IsRecord, HoldsFirst, IsOfTurn, erases, copies, heads, Works}
use Rattle.keyboard.proofs.Working.{made}

-- a program of another slot than a header's leaves each header
other_slot : (old new : List ℕ) (page slot other : ℕ) → 1 ≤ slot → OneSlot old other slot new → slot_at new page 0 ≡ slot_at old page 0
other_slot old new page slot other l o = o.others page 0 (omega arith) (λ p s. absurd (omega arith))

-- an erase, whole or torn, makes no header
erased : (old new : List ℕ) (page other seq : ℕ) → IsImage old → IsImage new → IsUsable old → other < page_count old → MayErase old other new → HasHeader new page seq → slot_at new page 0 ≡ slot_at old page 0
erased old new page other seq i j u l g h = elim (cases_eq page other) [
  | inl e ↦ (let pages : page_count new ≡ page_count old = page_count-one_page old other new g.rest in
      let same : slot_at new other 0 ≡ slot_at old other 0 =
      good_within (slot_at old other 0) (slot_at new other 0) (header_word h.format seq) (slot_is old other 0 i l (omega arith)) (slot_is new other 0 j (omega arith) (omega arith)) (u.sound other l) (g.torn 0 (omega arith)) (rw e at h.good) in
      rw e same)
  | inr d ↦ g.rest.others page 0 (omega arith) d
]

module _ (defaults : DefaultCodes) where
  -- a step that makes this operation, and leaves this, whole or torn
  record Made (start : List ℕ) (before : List Call) (command : Command) (old : List ℕ) (operation : Operation) (new : List ℕ) : Type 0 where
    old_is : old ≡ image_after start before
    works_on : working defaults start before ≡ Some command
    old_image : IsImage old
    new_image : IsImage new
    usable : IsUsable old
    loses_nothing : LosesNothing old operation
    in_order : slice_get (operations_of defaults (accepted_image start before) command) (steps_since before) ≡ Some operation
    leaves : MayMake old operation new

  by_erase : (start : List ℕ) (before : List Call) (command : Command) (operation : Operation) (new : List ℕ) (page seq : ℕ) → Made start before command (image_after start before) operation new → operation ≡ Erase (target_page (image_after start before))
      → HasHeader new page seq → ComesBy defaults start before page new
  by_erase start before command operation new page seq m e h =
      let old : List ℕ = image_after start before in
      let inside = subst (λ (o : Operation). LosesNothing old o) e m.loses_nothing in
      let g = subst (λ (o : Operation). MayMake old o new) e m.leaves in
      stood (erased old new page (target_page old) seq m.old_image m.new_image m.usable inside.0 g h)

  by_program : (start : List ℕ) (before : List Call) (command : Command) (operation : Operation) (new : List ℕ) (page seq other slot word : ℕ) → Made start before command (image_after start before) operation new → operation ≡ Program other slot word → 1 ≤ slot
      → ComesBy defaults start before page new
  by_program start before command operation new page seq other slot word m e l =
      let old : List ℕ = image_after start before in
      let g = subst (λ (o : Operation). MayMake old o new) e m.leaves in
      stood (other_slot old new page slot other l g.rest)

  by_header : (start : List ℕ) (before : List Call) (command : Command) (operation : Operation) (new : List ℕ) (page seq : ℕ) → Made start before command (image_after start before) operation new
      → operation ≡ Program (target_page (image_after start before)) 0 (header_word 2 (next_seq (image_after start before))) → (HasRoom (image_after start before) → ⊥)
      → HoldsFirst defaults (image_after start before) (length (all_copies defaults (keymap defaults (image_after start before)))) → HasHeader new page seq → ComesBy defaults start before page new
  by_header start before command operation new page seq m e n all h =
      let old : List ℕ = image_after start before in
      let target : ℕ = target_page old in
      let word : ℕ = header_word 2 (next_seq old) in
      let can = subst (λ (o : Operation). LosesNothing old o) e m.loses_nothing in
      let g = subst (λ (o : Operation). MayMake old o new) e m.leaves in
      elim (cases_eq page target) [
        | inl q ↦ (let t : TornSlot new target 0 word = torn_slot old new target 0 word can.2 m.old_image m.new_image can.0 can.1 can.3 g in
            let good : slot_of (slot_at new target 0) ≡ Good (header_word h.format seq) = rw q at h.good in
            let same : header_word h.format seq ≡ word = t.word_is (header_word h.format seq) good in
            is_own (record {
              command = command;
              works_on = m.works_on;
              operation = rw q (m.in_order ∙ ap (λ (o : Operation). Some o) e);
              target = q;
              no_room = n;
              all_copied = all;
              header = rw q (good ∙ ap (λ (w : ℕ). Good w) same);
              only = rw q g.rest;
            }))
        | inr d ↦ stood (g.rest.others page 0 (omega arith) (λ p s. d p))
      ]

  by_turn : (start : List ℕ) (before : List Call) (command : Command) (operation : Operation) (new : List ℕ) (page seq : ℕ) → Made start before command (image_after start before) operation new → IsOfTurn defaults (image_after start before) operation
      → (HasRoom (image_after start before) → ⊥) → HasHeader new page seq → ComesBy defaults start before page new
  by_turn start before command operation new page seq m (erases e used) n h = by_erase start before command operation new page seq m e h
  by_turn start before command operation new page seq m (copies k l e all) n h = by_program start before command operation new page seq _ (k + 1) _ m e (omega arith)
  by_turn start before command operation new page seq m (heads e all) n h = by_header start before command operation new page seq m e n all h

  by_record : (start : List ℕ) (before : List Call) (command : Command) (operation : Operation) (new : List ℕ) (page seq : ℕ) → Made start before command (image_after start before) operation new → IsRecord command (image_after start before) operation
      → ComesBy defaults start before page new
  by_record start before command operation new page seq m r = by_program start before command operation new page seq r.page r.tail _ m r.operation_is r.place.is_tail.low

  -- whatever the operation of a step leaves
  pub own_headers : (start : List ℕ) (before : List Call) (command : Command) (work : WorkAnswer) (new left : List ℕ) → working defaults start before ≡ Some command → (w : Works defaults start before command (image_after start before) work new)
      → MayMake (image_after start before) w.operation left → OwnHeaders defaults start before left
  own_headers start before command work new left on w g i j page seq l h =
      let old : List ℕ = image_after start before in
      let m : Made start before command old w.operation left = record {
        old_is = refl;
        works_on = on;
        old_image = i;
        new_image = j;
        usable = w.usable;
        loses_nothing = w.loses_nothing;
        in_order = w.advances.in_order;
        leaves = g;
      } in
      elim (cases_eq (suc (steps_since before)) w.advances.needed) [
        | inl e ↦ by_record start before command w.operation left page seq m (w.advances.record_last e)
        | inr d ↦ (let few : suc (steps_since before) < w.advances.needed = omega (arith, d, w.advances.within) in
            by_turn start before command w.operation left page seq m (w.advances.turn_before few) (w.advances.no_room few) h)
      ]

  worked : (start : List ℕ) (before : List Call) (o : Option Command) (work : WorkAnswer) (new : List ℕ) → working defaults start before ≡ o → WorkedOn defaults start before o work new → OwnHeaders defaults start before new
  worked start before None work new on (idle, same) i j page seq l h = stood (ap (λ (image : List ℕ). slot_at image page 0) same)
  worked start before (Some command) work new on w i j page seq l h =
      own_headers start before command work new new on w (made (image_after start before) w.operation work new i w.attempts) i j page seq l h

  pub headers_are_own : (start : List ℕ) (before : List Call) (work : WorkAnswer) (new : List ℕ) → IsAnswered defaults start before (Worked work new) → OwnHeaders defaults start before new
  headers_are_own start before work new a = worked start before (working defaults start before) work new refl a
