use Rattle.std.proofs.Common.{◌≡◌, ℕ, ◌<◌, ◌^◌, ◌∙◌, List, get_or, sym, ap}
use Rattle.flash_model.specs.Image.{slot_at, page_count, IsImage}
use Rattle.flash_model.specs.Operations.{Programs, MayProgram, Erases, MayErase}
use Rattle.flash_model.proofs.Places.{slot_length, slot_bytes, page_count-one_slot, page_count-one_page}
use Rattle.records.specs.Slots.{IsSlot, slot_of, encoded}
use Rattle.records.specs.declared.Slot.TheVariants.{Free, Good}
use Rattle.records.proofs.SlotLemmas.{all_eight, ones_and, encoded_byte, good_is_encoded, programmed_free, slot_of-encoded, free_is_blank, slot_of-blank}

-- a slot of an image is a slot
pub is_slot : (image : List ℕ) (p s : ℕ) → IsImage image → p < page_count image → s < 512 → IsSlot (slot_at image p s)
is_slot image p s i l m = record { eight = slot_length image p s i l m; each = slot_bytes image p s i }

-- a Free slot that reads Good with the word after a program of it was wholly programmed
pub good_is_programmed : (old new : List ℕ) (p s word : ℕ) → IsImage old → IsImage new → p < page_count old → s < 512 → slot_of (slot_at old p s) ≡ Free → MayProgram old p s (encoded word) new → slot_of (slot_at new p s) ≡ Good word → Programs old p s (encoded word) new
good_is_programmed old new p s word io inew l m free t e =
    let q : p < page_count new = rw (page_count-one_slot old p s new t.rest) l in
    let y : slot_at new p s ≡ encoded word = good_is_encoded (slot_at new p s) word (is_slot new p s inew q m) e in
    record {
      rest = t.rest;
      bytes = λ k b. ap (λ xs. get_or xs k 0) y ∙ rw (all_eight (slot_at old p s) (is_slot old p s io l m) free k b) (sym (ones_and (get_or (encoded word) k 0) (encoded_byte word k)));
    }

pub programmed_is_good : (old new : List ℕ) (p s word : ℕ) → word < 2 ^ 32 → IsImage old → IsImage new → p < page_count old → s < 512 → slot_of (slot_at old p s) ≡ Free → Programs old p s (encoded word) new → slot_of (slot_at new p s) ≡ Good word
programmed_is_good old new p s word w io inew l m free t =
    let q : p < page_count new = rw (page_count-one_slot old p s new t.rest) l in
    ap slot_of (programmed_free word (slot_at old p s) (slot_at new p s) (is_slot old p s io l m) free (slot_length new p s inew q m) t.bytes) ∙ slot_of-encoded word w

-- a page that reads Free after an erase of it was wholly erased
pub free_is_erased : (old new : List ℕ) (p : ℕ) → IsImage new → p < page_count old → MayErase old p new → ((s : ℕ) → s < 512 → slot_of (slot_at new p s) ≡ Free) → Erases old p new
free_is_erased old new p inew l t free =
    let q : p < page_count new = rw (page_count-one_page old p new t.rest) l in
    record { rest = t.rest; blank = λ s m. free_is_blank (slot_at new p s) (is_slot new p s inew q m) (free s m) }

pub erased_is_free : (old new : List ℕ) (p : ℕ) → Erases old p new → (s : ℕ) → s < 512 → slot_of (slot_at new p s) ≡ Free
erased_is_free old new p t s m = ap slot_of (t.blank s m) ∙ slot_of-blank
