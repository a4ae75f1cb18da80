-- An operation that was made: whole and read as intended, or torn and read otherwise.
use Rattle.std.proofs.Common.{◌≡◌, ◌↔◌, ℕ, ◌^◌, ◌<◌, ◌⊎◌, refl, arith, Bool, true, false, List, Some, inl, inr}
use Rattle.records.specs.declared.Slot.TheVariants.{Good}
use Rattle.records.specs.Slots.{slot_of, encoded}
use Rattle.flash_model.specs.Image.{slot_at, IsImage}
use Rattle.records.proofs.ReadBack.{is_slot}
use Rattle.records.proofs.SlotLemmas.{encoded_slot, first_is, first_half-encoded, free_is_blank, good_pairs, slot_of-encoded}
use Rattle.flash_model.specs.Assured.{IsAssured}
use Rattle.flash_model.specs.Operations.{Programs, MayProgram, MayErase}
use Rattle.page_turnover.specs.declared.operation.Operation.TheVariants.{Program, Erase}
use Rattle.page_turnover.specs.Value.{LogValue}
use Rattle.page_turnover.specs.Turn.{HasShortWord}
use Rattle.page_turnover.specs.Next.{next_operation, TakesNext}
use Rattle.page_turnover.specs.Words.{IsBlank}
use Rattle.page_turnover.specs.representation.Made.{CanMake, IsMade}
use Rattle.page_turnover.proofs.Operating.{programmed_good}
use Rattle.page_turnover.proofs.Torn.{program_whole, erase_whole}

pub program_checked : (old new : List ℕ) (page slot word : ℕ) (held : Bool) → ((held ≡ true) ↔ (slot_of (slot_at new page slot) ≡ Good word)) → IsImage old → IsImage new → CanMake old (Program page slot word) → MayProgram old page slot (encoded word) new → IsMade old (Program page slot word) held new
program_checked old new page slot word true h i j c g = (program_whole old new page slot word i j c.0 c.1 c.3 g (h.0 refl), h.0 refl)
program_checked old new page slot word false h i j c g = (g, λ r. let f = h.1 r in cc)

pub erase_read : (old new : List ℕ) (page : ℕ) (blank : Bool) → ((blank ≡ true) ↔ IsBlank new page) → IsImage new → CanMake old (Erase page) → MayErase old page new → IsMade old (Erase page) blank new
erase_read old new page true h j c g = (erase_whole old new page j c g (h.0 refl), h.0 refl)
erase_read old new page false h j c g = (g, λ r. let f = h.1 r in cc)

-- each healthy flash is sure to make the program of a short word
assured : (old : List ℕ) (page slot word : ℕ) → IsImage old → CanMake old (Program page slot word) → word < 2 ^ 31 → IsAssured old page slot (encoded word)
assured old page slot word i k short =
    let e_first = first_is (encoded word) in
    let e_word = first_half-encoded word k.2 in
    record {
      erased = free_is_blank (slot_at old page slot) (is_slot old page slot i k.0 k.1) k.3;
      word = record {
        eight = (encoded_slot word).eight;
        pairs = good_pairs (encoded word) word (encoded_slot word) (slot_of-encoded word k.2);
        clear = omega (arith, e_first, e_word, short);
      };
    }

-- and this one makes those that it takes besides
pub assured_or : (takes : Type 0) (old : List ℕ) (page slot word : ℕ) → IsImage old → CanMake old (Program page slot word) → (word < 2 ^ 31) ⊎ takes → IsAssured old page slot (encoded word) ⊎ takes
assured_or takes old page slot word i k (inl short) = inl (assured old page slot word i k short)
assured_or takes old page slot word i k (inr also) = inr also

-- the next program of a log, whose word is short or which a flash takes besides
pub next_taken : (takes : ℕ → ℕ → List ℕ → Type 0) (image : List ℕ) (log : LogValue) (page slot word : ℕ) → (HasShortWord log.task → word < 2 ^ 31) → next_operation image log ≡ Some (Program page slot word)
    → HasShortWord log.task ⊎ TakesNext takes image log → (word < 2 ^ 31) ⊎ takes page slot (encoded word)
next_taken takes image log page slot word short e (inl s) = inl (short s)
next_taken takes image log page slot word short e (inr t) = inr (t page slot word e)

pub programmed : (old new : List ℕ) (page slot word : ℕ) → IsImage old → IsImage new → CanMake old (Program page slot word) → Programs old page slot (encoded word) new → IsMade old (Program page slot word) true new
programmed old new page slot word i j k g = (g, programmed_good old new page slot word k.2 i j k.0 k.1 k.3 g)
