-- The bytes of pages by their slots.
use Rattle.std.proofs.Common.{◌≡◌, ℕ, ◌+◌, ◌*◌, ◌/◌, ◌%◌, ◌<◌, ◌≤◌, List, length, get_or, arith, sym, ◌∙◌, ap, inl, inr, refl}
use Rattle.std.proofs.lemmas.Bool.{cases_lt}
use Rattle.std.proofs.lemmas.List.{get_or_past}
use Rattle.std.proofs.lemmas.List.FromFn.{length-map-range_with_len, get_or-map-range_with_len}
use Rattle.std.proofs.lemmas.Grind.{same_number_lists}
use Rattle.flash_model.specs.Image.{place_of, slot_at, page_count, IsImage}
use Rattle.flash_model.specs.Operations.{OneSlot, OnePage}
use Rattle.flash_model.proofs.Places.{slot_byte, slot_room}
use Rattle.flash_model.proofs.Writes.{one_slot, one_page}
use Rattle.steady_flash.specs.Cells.{IsEight}
use Rattle.steady_flash.specs.Shown.{bytes_of}

pub length-bytes_of : (slot : ℕ → ℕ → List ℕ) (n : ℕ) → length (bytes_of slot n) ≡ 4096 * n
unfolding bytes_of
length-bytes_of slot n = length-map-range_with_len (λ j. get_or (slot (j / 4096) (j % 4096 / 8)) (j % 8) 0) 0 (4096 * n)

image_byte : (slot : ℕ → ℕ → List ℕ) (n j : ℕ) → j < 4096 * n → get_or (bytes_of slot n) j 0 ≡ get_or (slot (j / 4096) (j % 4096 / 8)) (j % 8) 0
unfolding bytes_of
image_byte slot n j l = get_or-map-range_with_len (λ i. get_or (slot (i / 4096) (i % 4096 / 8)) (i % 8) 0) 0 (4096 * n) j j 0 l (omega arith)

-- a slot of the image
pub slot_at-bytes_of : (slot : ℕ → ℕ → List ℕ) (n p s : ℕ) → p < n → s < 512 → IsEight (slot p s) → slot_at (bytes_of slot n) p s ≡ slot p s
slot_at-bytes_of slot n p s l m e =
    let r = slot_room (bytes_of slot n) p s in
    let w = length-bytes_of slot n in
    same_number_lists (slot_at (bytes_of slot n) p s) (slot p s) (omega (arith, e.eight))
    (λ k h.
    let b : k < 8 = omega arith in
    let j : ℕ = place_of p s + k in
    let page : j / 4096 ≡ p = omega arith in
    let at : j % 4096 / 8 ≡ s = omega arith in
    let byte : j % 8 ≡ k = omega arith in
    slot_byte (bytes_of slot n) p s k b ∙ image_byte slot n j (omega arith) ∙ rw (page, at, byte) refl)

same_byte : (slot slot' : ℕ → ℕ → List ℕ) (n j : ℕ) → (j < 4096 * n → slot' (j / 4096) (j % 4096 / 8) ≡ slot (j / 4096) (j % 4096 / 8)) → get_or (bytes_of slot' n) j 0 ≡ get_or (bytes_of slot n) j 0
same_byte slot slot' n j same =
    let e = length-bytes_of slot n in
    let f = length-bytes_of slot' n in
    elim (cases_lt j (4096 * n)) [
      | inl b ↦ image_byte slot' n j b ∙ rw (same b) (sym (image_byte slot n j b))
      | inr b ↦ get_or_past {X = ℕ} (bytes_of slot' n) j 0 (rw f b) ∙ sym (get_or_past {X = ℕ} (bytes_of slot n) j 0 (rw e b))
    ]

-- a change of one slot, and of one page
pub one_slot_of : (slot slot' : ℕ → ℕ → List ℕ) (n p s : ℕ) → s < 512 → ((q t : ℕ) → q < n → t < 512 → (q ≡ p → t ≡ s → ⊥) → slot' q t ≡ slot q t) → OneSlot (bytes_of slot n) p s (bytes_of slot' n)
one_slot_of slot slot' n p s l kept =
    one_slot (bytes_of slot n) (bytes_of slot' n) p s l (length-bytes_of slot' n ∙ sym (length-bytes_of slot n))
    (λ j apart. same_byte slot slot' n j (λ b. kept (j / 4096) (j % 4096 / 8) (omega arith) (omega arith) (λ x y. apart (omega arith) (omega arith))))

pub one_page_of : (slot slot' : ℕ → ℕ → List ℕ) (n p : ℕ) → ((q t : ℕ) → q < n → t < 512 → (q ≡ p → ⊥) → slot' q t ≡ slot q t) → OnePage (bytes_of slot n) p (bytes_of slot' n)
one_page_of slot slot' n p kept =
    one_page (bytes_of slot n) (bytes_of slot' n) p (length-bytes_of slot' n ∙ sym (length-bytes_of slot n))
    (λ j apart. same_byte slot slot' n j (λ b. kept (j / 4096) (j % 4096 / 8) (omega arith) (omega arith) (λ x. apart (omega arith) (omega arith))))

pub same_image : (slot slot' : ℕ → ℕ → List ℕ) (n : ℕ) → ((q t : ℕ) → q < n → t < 512 → slot' q t ≡ slot q t) → bytes_of slot' n ≡ bytes_of slot n
same_image slot slot' n same =
    same_number_lists (bytes_of slot' n) (bytes_of slot n) (length-bytes_of slot' n ∙ sym (length-bytes_of slot n))
    (λ j l. same_byte slot slot' n j (λ b. same (j / 4096) (j % 4096 / 8) (omega arith) (omega arith)))

-- the image is one of whole pages
pub page_count-bytes_of : (slot : ℕ → ℕ → List ℕ) (n : ℕ) → page_count (bytes_of slot n) ≡ n
page_count-bytes_of slot n = rw (length-bytes_of slot n) (omega arith)

pub is_image : (slot : ℕ → ℕ → List ℕ) (n : ℕ) → ((p s : ℕ) → p < n → s < 512 → IsEight (slot p s)) → 2 ≤ n → n ≤ 8 → IsImage (bytes_of slot n)
is_image slot n e l m =
    let c = page_count-bytes_of slot n in
    let w = length-bytes_of slot n in
    record {
      whole = w ∙ ap (λ i. 4096 * i) (sym c);
      least = rw c l;
      most = rw c m;
      bytes = λ j. elim (cases_lt j (4096 * n)) [
        | inl b ↦ rw (image_byte slot n j b) ((e (j / 4096) (j % 4096 / 8) (omega arith) (omega arith)).each (j % 8))
        | inr b ↦ rw (get_or_past {X = ℕ} (bytes_of slot n) j 0 (rw w b)) (omega arith)
      ];
    }
