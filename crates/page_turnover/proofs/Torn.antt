-- What a torn operation leaves of a slot, and that one whose slot or page reads as intended is whole.
use Rattle.std.proofs.Common.{◌≡◌, ◌∙◌, ℕ, ◌<◌, ◌^◌, sym, ap, arith, List, replicate}
use Rattle.records.specs.declared.Slot.TheVariants.{Free, Good}
use Rattle.records.specs.Slots.{IsSlot, IsSound, slot_of, encoded}
use Rattle.records.proofs.SlotLemmas.{good_within, sound_within, program_within, encoded_slot, encoded_sound, slot_of-encoded, good_is_encoded, free_is_blank, and_encoded}
use Rattle.flash_model.specs.Image.{slot_at, page_count, IsImage}
use Rattle.flash_model.specs.Operations.{Programs, MayProgram, Erases, MayErase}
use Rattle.flash_model.proofs.Places.{page_count-one_slot, page_count-one_page}
use Rattle.page_turnover.specs.Words.{IsBlank}
use Rattle.page_turnover.proofs.Operating.{slot_is, good_same}

-- a torn program of a Free slot
pub record TornSlot (image : List ℕ) (page slot word : ℕ) : Type 0 where
  pub word_is : (other : ℕ) → slot_of (slot_at image page slot) ≡ Good other → other ≡ word
  pub sound : IsSound (slot_at image page slot)

pub torn_slot : (old new : List ℕ) (page slot word : ℕ) → word < 2 ^ 32 → IsImage old → IsImage new → page < page_count old → slot < 512 → slot_of (slot_at old page slot) ≡ Free → MayProgram old page slot (encoded word) new → TornSlot new page slot word
torn_slot old new page slot word w i j p s free g =
    let pages : page_count new ≡ page_count old = page_count-one_slot old page slot new g.rest in
    let x : List ℕ = slot_at old page slot in
    let y : List ℕ = slot_at new page slot in
    let sx : IsSlot x = slot_is old page slot i p s in
    let sy : IsSlot y = slot_is new page slot j (omega arith) s in
    record {
      word_is = λ other e.
          let same : y ≡ encoded word = good_within (encoded word) y other (encoded_slot word) sy (encoded_sound word w) (program_within word x y sx free g.torn) e in
          let f : slot_of y ≡ Good word = rw same (slot_of-encoded word w) in
          good_same other word (sym e ∙ f);
      sound = sound_within (encoded word) y (encoded_sound word w) (program_within word x y sx free g.torn);
    }

pub program_whole : (old new : List ℕ) (page slot word : ℕ) → IsImage old → IsImage new → page < page_count old → slot < 512 → slot_of (slot_at old page slot) ≡ Free → MayProgram old page slot (encoded word) new → slot_of (slot_at new page slot) ≡ Good word → Programs old page slot (encoded word) new
program_whole old new page slot word i j p s free g good =
    let pages : page_count new ≡ page_count old = page_count-one_slot old page slot new g.rest in
    let blank : slot_at old page slot ≡ replicate 8 255 = free_is_blank (slot_at old page slot) (slot_is old page slot i p s) free in
    let is : slot_at new page slot ≡ encoded word = good_is_encoded (slot_at new page slot) word (slot_is new page slot j (omega arith) s) good in
    record { rest = g.rest; bytes = λ k l. rw (blank, is) (sym (and_encoded word k l)) }

pub erase_whole : (old new : List ℕ) (page : ℕ) → IsImage new → page < page_count old → MayErase old page new → IsBlank new page → Erases old page new
erase_whole old new page j p g blank =
    let pages : page_count new ≡ page_count old = page_count-one_page old page new g.rest in
    record { rest = g.rest; blank = λ s l. free_is_blank (slot_at new page s) (slot_is new page s j (omega arith) l) (blank s (omega arith) l) }

-- a torn erase of a page with a sound slot 0
pub record TornHeader (old : List ℕ) (page : ℕ) (new : List ℕ) : Type 0 where
  pub same : (word : ℕ) → slot_of (slot_at new page 0) ≡ Good word → slot_of (slot_at old page 0) ≡ Good word
  pub sound : IsSound (slot_at new page 0)

pub torn_header : (old new : List ℕ) (page : ℕ) → IsImage old → IsImage new → page < page_count old → IsSound (slot_at old page 0) → MayErase old page new → TornHeader old page new
torn_header old new page i j p sound g =
    let pages : page_count new ≡ page_count old = page_count-one_page old page new g.rest in
    let x : List ℕ = slot_at old page 0 in
    let y : List ℕ = slot_at new page 0 in
    let sx : IsSlot x = slot_is old page 0 i p (omega arith) in
    let sy : IsSlot y = slot_is new page 0 j (omega arith) (omega arith) in
    record {
      same = λ word e. let f : y ≡ x = good_within x y word sx sy sound (g.torn 0 (omega arith)) e in sym (ap slot_of f) ∙ e;
      sound = sound_within x y sound (g.torn 0 (omega arith));
    }
