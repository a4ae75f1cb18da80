-- What an operation that is next leaves, whole or torn.
use Rattle.std.proofs.Common.{◌≡◌, ◌∙◌, ℕ, zero, suc, ◌+◌, ◌≤◌, ◌<◌, ◌^◌, refl, sym, subst, arith, List, [], Option, Some, None}
use Rattle.std.proofs.lemmas.List.{append-nil}
use Rattle.records.specs.declared.Slot.TheVariants.{Free, Good}
use Rattle.records.specs.Slots.{slot_of, encoded}
use Rattle.flash_model.specs.Image.{slot_at, page_count, IsImage}
use Rattle.flash_model.specs.Operations.{OneSlot, OnePage, Programs, MayProgram}
use Rattle.page_turnover.specs.declared.log.ActivePage.{ActivePage}
use Rattle.page_turnover.specs.declared.operation.Operation.{Operation}
use Rattle.page_turnover.specs.declared.operation.Operation.TheVariants.{Program, Erase}
use Rattle.page_turnover.specs.Value.{LogValue, Append, Copy, Seal}
use Rattle.page_turnover.specs.Header.{header_word}
use Rattle.page_turnover.specs.Active.{active}
use Rattle.page_turnover.specs.Words.{words_up_to, word_of}
use Rattle.page_turnover.specs.Usable.{IsUsable}
use Rattle.page_turnover.specs.Turn.{target_page, next_seq, copied, IsPending}
use Rattle.page_turnover.specs.representation.Turn.{Appending, Copying, Turning, HoldsCopies}
use Rattle.page_turnover.specs.representation.Log.{Describes, IsHeld}
use Rattle.page_turnover.specs.Next.{next_operation, Makes, MayMake, ReadsBack}
use Rattle.page_turnover.specs.Steps.{Keeps}
use Rattle.page_turnover.specs.representation.Made.{CanMake}
use Rattle.page_turnover.specs.Operates.{MayOperate, may_program, may_erase, FillsAtMostOne}
use Rattle.page_turnover.specs.Leaves.{Leaves, IsEffect, MakesNoHeader}
use Rattle.page_turnover.proofs.Headers.{is_active, header_word-small, format-same}
use Rattle.page_turnover.proofs.WordLists.{words_appended, word_of_none}
use Rattle.page_turnover.proofs.Describing.{held_active, words_active}
use Rattle.page_turnover.proofs.Operating.{SameHeaders, Appended, active-same, usable_same, other_than_header}
use Rattle.page_turnover.proofs.Torn.{TornSlot, torn_slot, program_whole, erase_whole}
use Rattle.page_turnover.proofs.Turns.{target_inside, ready_holds}
use Rattle.page_turnover.proofs.Kept.{KeepsActive, words_kept, format_kept, page_keeps, page_usable, in_one_page, torn_erase_keeps, torn_erase_sound, torn_no_headers}
use Rattle.page_turnover.proofs.Endings.{under_way, apart, append_room, append_fact, copy_keep, erased_keep, usable_of}
use Rattle.page_turnover.proofs.Effects.{turn_committed}
use Rattle.page_turnover.proofs.Planning.{NextIs, appends, copies_word, seals_turn, erases_copy, erases_seal, next_is, can_make}

-- what stays where an operation does not read as intended: all but one slot of the active page, and that one has no word
pub record Spares (old new : List ℕ) (slot : ℕ) : Type 0 where
  pub keeps : Keeps old new
  pub slots : (p s k : ℕ) → active old ≡ Some (p, s) → k < 512 → (k ≡ slot → ⊥) → slot_at new p k ≡ slot_at old p k
  pub usable : IsUsable old → IsUsable new

keeps_of : (old new : List ℕ) → KeepsActive old new → Keeps old new
keeps_of old new k = record { words_are = words_kept old new k; active_is = k.active_is; format_is = format_kept old new k }

spares_of : (old new : List ℕ) (slot : ℕ) → KeepsActive old new → Spares old new slot
spares_of old new slot k = record { keeps = keeps_of old new k; slots = λ p s j e l n. k.slots p s j e l; usable = k.usable }

-- a record that is torn, and is not Good with its word
torn_append : (old new : List ℕ) (page seq tail word : ℕ) → word < 2 ^ 32 → IsImage old → IsImage new → active old ≡ Some (page, seq) → 1 ≤ tail → tail ≤ 511 → ((s : ℕ) → tail ≤ s → s < 512 → slot_of (slot_at old page s) ≡ Free)
    → MayProgram old page tail (encoded word) new → (slot_of (slot_at new page tail) ≡ Good word → ⊥) → Spares old new tail
torn_append old new page seq tail word w i j a low high free g n =
    let inside : page < page_count old = (is_active old page seq a).in_pages in
    let t : TornSlot new page tail word = torn_slot old new page tail word w i j inside (omega arith) (free tail (omega arith) (omega arith)) g in
    let h : SameHeaders old new = other_than_header old page tail new low g.rest in
    let same : active new ≡ active old = active-same old new h in
    let none : word_of (slot_of (slot_at new page tail)) ≡ [] = word_of_none (slot_of (slot_at new page tail)) (λ v e. let f : v ≡ word = t.word_is v e in let P : ℕ → Type 0 = λ x. slot_of (slot_at new page tail) ≡ Good x in n (subst P f e)) in
    let more : words_up_to new page 511 ≡ words_up_to old page 511 = words_appended old new page tail low high free g.rest ∙ rw none (append-nil (words_up_to old page 511)) in
    record {
      keeps = record {
        words_are = words_active new page seq (same ∙ a) ∙ more ∙ sym (words_active old page seq a);
        active_is = same;
        format_is = format-same old new same (λ p s e. h.slots p (is_active old p s e).in_pages);
      };
      slots = λ p s k e l m. g.rest.others p k l (λ x y. m y);
      usable = usable_same old new h;
    }

-- a header that is torn, and is not Good with its word
torn_seal : (old new : List ℕ) (page word slot : ℕ) → word < 2 ^ 32 → IsImage old → IsImage new → ((s : ℕ) → active old ≡ Some (page, s) → ⊥) → page < page_count old → slot_of (slot_at old page 0) ≡ Free
    → MayProgram old page 0 (encoded word) new → (slot_of (slot_at new page 0) ≡ Good word → ⊥) → Spares old new slot
torn_seal old new page word slot w i j other inside free g n =
    let t : TornSlot new page 0 word = torn_slot old new page 0 word w i j inside (omega arith) free g in
    let P : ℕ → Type 0 = λ x. slot_of (slot_at new page 0) ≡ Good x in
    spares_of old new slot (page_keeps old page new other (in_one_page old page 0 new g.rest)
    (λ s h. absurd (n (subst P (t.word_is (header_word h.format s) h.good) h.good))) (λ u. t.sound))

-- the tail that a log holds
abbrev pub tail_in : Option ActivePage → ℕ
tail_in (Some a) = a.tail
tail_in None = 0

spares_for : (old : List ℕ) (log : LogValue) (operation : Operation) (new : List ℕ) → Describes old log → NextIs old log operation → IsImage new → MayMake old operation new → (ReadsBack operation new → ⊥) → Spares old new (tail_in log.active)
spares_for old log operation new d (appends word a t h e) j g n =
    let u : Appending old word = under_way old log (Append word) d t in
    let held : IsHeld old a = held_active old log a d h in
    let M : Operation → Type 0 = λ o. MayMake old o new in
    let R : Operation → Type 0 = λ o. ReadsBack o new → ⊥ in
    rw h (torn_append old new a.page a.seq a.tail word u.fits d.whole j held.is_active held.is_tail.low (append_room old log word a d t h) held.is_tail.free (subst M e g) (subst R e n))
spares_for old log operation new d (copies_word target word t r e) j g n =
    let M : Operation → Type 0 = λ o. MayMake old o new in
    let m : MayProgram old (target_page old) (copied target + 1) (encoded word) new = subst M e g in
    spares_of old new (tail_in log.active) (copy_keep old log (copied target) new d m.rest)
spares_for old log operation new d (seals_turn target t r e) j g n =
    let u : Turning old target = under_way old log (Seal target) d t in
    let h : HoldsCopies old (target_page old) (copied target) = ready_holds old target u.target_is r in
    let M : Operation → Type 0 = λ o. MayMake old o new in
    let R : Operation → Type 0 = λ o. ReadsBack o new → ⊥ in
    torn_seal old new (target_page old) (header_word 2 (next_seq old)) (tail_in log.active) (header_word-small (next_seq old) u.can.numbered) d.whole j (apart old log d) (target_inside old d.whole) h.header (subst M e g) (subst R e n)
spares_for old log operation new d (erases_copy target word t e) j g n =
    let u : Copying old target word = under_way old log (Copy target word) d t in
    let M : Operation → Type 0 = λ o. MayMake old o new in
    spares_of old new (tail_in log.active) (torn_erase_keeps old (target_page old) new d.whole j (apart old log d) (target_inside old d.whole) u.turning.can.usable (subst M e g))
spares_for old log operation new d (erases_seal target t e) j g n =
    let u : Turning old target = under_way old log (Seal target) d t in
    let M : Operation → Type 0 = λ o. MayMake old o new in
    spares_of old new (tail_in log.active) (torn_erase_keeps old (target_page old) new d.whole j (apart old log d) (target_inside old d.whole) u.can.usable (subst M e g))

pub spares : (old : List ℕ) (log : LogValue) (operation : Operation) (new : List ℕ) → Describes old log → next_operation old log ≡ Some operation → IsImage new → MayMake old operation new → (ReadsBack operation new → ⊥) → Spares old new (tail_in log.active)
spares old log operation new d e j g n = spares_for old log operation new d (next_is old log operation e) j g n

-- what is next is next on an image whose slots 0 are sound
pub next_pending : (old : List ℕ) (log : LogValue) (operation : Operation) → NextIs old log operation → IsPending log.task
next_pending old log operation (appends word a t h e) = rw t tt
next_pending old log operation (copies_word target word t r e) = rw t tt
next_pending old log operation (seals_turn target t r e) = rw t tt
next_pending old log operation (erases_copy target word t e) = rw t tt
next_pending old log operation (erases_seal target t e) = rw t tt

next_usable : (old : List ℕ) (log : LogValue) (operation : Operation) → Describes old log → NextIs old log operation → IsUsable old
next_usable old log operation d n = usable_of old log.task (next_pending old log operation n) d.task_is

-- an operation changes one slot, or one page
abbrev pub Frame : List ℕ → Operation → List ℕ → Type 0
Frame old (Program page slot word) new = OneSlot old page slot new
Frame old (Erase page) new = OnePage old page new

pub frame_whole : (old : List ℕ) (operation : Operation) (new : List ℕ) → Makes old operation new → Frame old operation new
frame_whole old (Program page slot word) new g = g.rest
frame_whole old (Erase page) new g = g.rest

pub frame_torn : (old : List ℕ) (operation : Operation) (new : List ℕ) → MayMake old operation new → Frame old operation new
frame_torn old (Program page slot word) new g = g.rest
frame_torn old (Erase page) new g = g.rest

erase_page : (p q : ℕ) → Erase p ≡ Erase q → p ≡ q
erase_page p q e = cc

-- a page that is erased is not the active one
erased_apart : (old : List ℕ) (log : LogValue) (page : ℕ) → Describes old log → NextIs old log (Erase page) → (s : ℕ) → active old ≡ Some (page, s) → ⊥
erased_apart old log page d (appends word a t h e) s f = cc
erased_apart old log page d (copies_word target word t r e) s f = cc
erased_apart old log page d (seals_turn target t r e) s f = cc
erased_apart old log page d (erases_copy target word t e) s f = let same : page ≡ target_page old = erase_page page (target_page old) e in apart old log d s (rw same at f)
erased_apart old log page d (erases_seal target t e) s f = let same : page ≡ target_page old = erase_page page (target_page old) e in apart old log d s (rw same at f)

fills_for : (old : List ℕ) (log : LogValue) (operation : Operation) (new : List ℕ) → Describes old log → NextIs old log operation → Frame old operation new → FillsAtMostOne old new
fills_for old log (Program page slot word) new d n one = record { slot = slot; others = λ p seq s e l m. one.others p s l (λ x y. m y) }
fills_for old log (Erase page) new d n one = record { slot = 0; others = λ p seq s e l m. one.others p s l (λ same. erased_apart old log page d n seq (rw same at e)) }

pub fills : (old : List ℕ) (log : LogValue) (operation : Operation) (new : List ℕ) → Describes old log → next_operation old log ≡ Some operation → Frame old operation new → FillsAtMostOne old new
fills old log operation new d e f = fills_for old log operation new d (next_is old log operation e) f

-- a torn operation that reads as intended is the whole one
whole_for : (old : List ℕ) (operation : Operation) (new : List ℕ) → IsImage old → IsImage new → CanMake old operation → MayMake old operation new → ReadsBack operation new → Makes old operation new
whole_for old (Program page slot word) new i j c g r = program_whole old new page slot word i j c.0 c.1 c.3 g r
whole_for old (Erase page) new i j c g r = erase_whole old new page j c g r

-- and has the effect that is meant
effect_for : (old : List ℕ) (log : LogValue) (operation : Operation) (new : List ℕ) → Describes old log → NextIs old log operation → IsImage new → Makes old operation new → IsEffect old log.task operation new
effect_for old log operation new d (appends word a t h e) j g =
    let M : Operation → Type 0 = λ o. Makes old o new in
    let f : Appended old a.page a.tail word new = append_fact old log word a new d t h j (subst M e g) in
    rw t (record { words_are = f.words_are; active_is = f.active_is; format_is = f.format_is })
effect_for old log operation new d (copies_word target word t r e) j g =
    let M : Operation → Type 0 = λ o. Makes old o new in
    let m : Programs old (target_page old) (copied target + 1) (encoded word) new = subst M e g in
    rw t (keeps_of old new (copy_keep old log (copied target) new d m.rest))
effect_for old log operation new d (seals_turn target t r e) j g =
    let M : Operation → Type 0 = λ o. Makes old o new in
    rw (t, e) (turn_committed old log target new d t r j (subst M e g))
effect_for old log operation new d (erases_copy target word t e) j g =
    let M : Operation → Type 0 = λ o. Makes old o new in
    rw t (keeps_of old new (erased_keep old log new d j (subst M e g)))
effect_for old log operation new d (erases_seal target t e) j g =
    let M : Operation → Type 0 = λ o. Makes old o new in
    rw (t, e) (keeps_of old new (erased_keep old log new d j (subst M e g)))

-- it is one operation, torn
operates_for : (old : List ℕ) (log : LogValue) (operation : Operation) (new : List ℕ) → Describes old log → NextIs old log operation → CanMake old operation → MayMake old operation new → MayOperate old new
operates_for old log (Program page slot word) new d n c g = may_program (next_usable old log (Program page slot word) d n) page slot word c.0 c.1 c.2 c.3 g
operates_for old log (Erase page) new d n c g = may_erase (next_usable old log (Erase page) d n) page c (erased_apart old log page d n) g

-- no slot 0 is made unsound
torn_program_usable : (old new : List ℕ) (page slot word : ℕ) → IsImage old → IsImage new → CanMake old (Program page slot word) → MayProgram old page slot (encoded word) new → IsUsable old → IsUsable new
torn_program_usable old new page zero word i j c g u = page_usable old page new (in_one_page old page 0 new g.rest) (torn_slot old new page 0 word c.2 i j c.0 c.1 c.3 g).sound u
torn_program_usable old new page (suc slot) word i j c g u = usable_same old new (other_than_header old page (suc slot) new (omega arith) g.rest) u

usable_for : (old : List ℕ) (operation : Operation) (new : List ℕ) → IsImage old → IsImage new → CanMake old operation → MayMake old operation new → IsUsable old → IsUsable new
usable_for old (Program page slot word) new i j c g u = torn_program_usable old new page slot word i j c g u
usable_for old (Erase page) new i j c g u = torn_erase_sound old page new i j c u g

no_header_for : (old : List ℕ) (operation : Operation) (new : List ℕ) → IsImage old → IsImage new → IsUsable old → CanMake old operation → MayMake old operation new → MakesNoHeader old operation new
no_header_for old (Program page slot word) new i j u c g = tt
no_header_for old (Erase page) new i j u c g = torn_no_headers old page new i j c u g

pub leaves : (old new : List ℕ) (log : LogValue) (operation : Operation) → Describes old log → next_operation old log ≡ Some operation → IsImage new → MayMake old operation new → Leaves old log operation new
leaves old new log operation d e j g =
    let n : NextIs old log operation = next_is old log operation e in
    let c : CanMake old operation = can_make old log operation d e in
    let u : IsUsable old = next_usable old log operation d n in
    record {
      operates = operates_for old log operation new d n c g;
      usable = usable_for old operation new d.whole j c g u;
      fills = fills_for old log operation new d n (frame_torn old operation new g);
      no_header = no_header_for old operation new d.whole j u c g;
      whole = λ r. whole_for old operation new d.whole j c g r;
      effect = λ r. effect_for old log operation new d n j (whole_for old operation new d.whole j c g r);
      kept = λ r. (spares_for old log operation new d n j g r).keeps;
    }
