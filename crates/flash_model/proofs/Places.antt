use Rattle.std.proofs.Common.{◌≡◌, ◌≢◌, ℕ, ◌+◌, ◌-◌, ◌*◌, ◌/◌, ◌%◌, ◌<◌, ◌≤◌, min, List, [], length, get_or, drop, arith, sym, ◌∙◌, length-take, length-drop, replicate, inl, inr, ap}
use Rattle.std.proofs.lemmas.List.{get_or-take, get_or-drop, get_or_past, get_or-replicate, length-replicate}
use Rattle.std.proofs.lemmas.Grind.{same_number_lists}
use Rattle.std.proofs.lemmas.Bool.{cases_lt}
use Rattle.flash_model.specs.Image.{place_of, slot_at, page_count, IsImage}
use Rattle.flash_model.specs.Operations.{OneSlot, OnePage}

-- a byte of a slot
pub slot_byte : (image : List ℕ) (p s k : ℕ) → k < 8 → get_or (slot_at image p s) k 0 ≡ get_or image (place_of p s + k) 0
unfolding slot_at
slot_byte image p s k l = get_or-take 8 (drop (place_of p s) image) k 0 l ∙ get_or-drop (place_of p s) image k 0

-- how many bytes are left there for it
pub slot_room : (image : List ℕ) (p s : ℕ) → length (slot_at image p s) ≡ min 8 (length image - place_of p s)
unfolding slot_at
slot_room image p s = simp (length-take, length-drop)

-- a slot within the pages has eight bytes
pub slot_length : (image : List ℕ) (p s : ℕ) → IsImage image → p < page_count image → s < 512 → length (slot_at image p s) ≡ 8
slot_length image p s i l m = let r = slot_room image p s in let w = i.whole in omega arith

-- past its eight bytes there is none
pub slot_past : (image : List ℕ) (p s k : ℕ) → 8 ≤ k → get_or (slot_at image p s) k 0 ≡ 0
slot_past image p s k l = let r = slot_room image p s in get_or_past (slot_at image p s) k 0 (omega arith)

pub slot_bytes : (image : List ℕ) (p s : ℕ) → IsImage image → (k : ℕ) → get_or (slot_at image p s) k 0 < 256
slot_bytes image p s i k =
    elim (cases_lt k 8) [
      | inl b ↦ rw (slot_byte image p s k b) (i.bytes (place_of p s + k))
      | inr b ↦ rw (slot_past image p s k b) (omega arith)
    ]

-- slots of the same bytes are equal
pub same_slot : (old new : List ℕ) (p s : ℕ) → length new ≡ length old → ((k : ℕ) → k < 8 → get_or new (place_of p s + k) 0 ≡ get_or old (place_of p s + k) 0) → slot_at new p s ≡ slot_at old p s
same_slot old new p s e h =
    let a = slot_room new p s in
    let b = slot_room old p s in
    same_number_lists (slot_at new p s) (slot_at old p s) (omega arith)
    (λ k l. let m : k < 8 = omega arith in slot_byte new p s k m ∙ h k m ∙ sym (slot_byte old p s k m))

pub page_count-one_slot : (old : List ℕ) (page slot : ℕ) (new : List ℕ) → OneSlot old page slot new → page_count new ≡ page_count old
page_count-one_slot old page slot new o = ap (λ n. n / 4096) o.same_length

pub page_count-one_page : (old : List ℕ) (page : ℕ) (new : List ℕ) → OnePage old page new → page_count new ≡ page_count old
page_count-one_page old page new o = ap (λ n. n / 4096) o.same_length

-- images of the same slots are equal
same_byte : (old new : List ℕ) → ((p s : ℕ) → s < 512 → slot_at new p s ≡ slot_at old p s) → (j : ℕ) → get_or new j 0 ≡ get_or old j 0
same_byte old new h j =
    let p : ℕ = j / 4096 in
    let s : ℕ = j % 4096 / 8 in
    let k : ℕ = j % 8 in
    let b : k < 8 = omega arith in
    let l : s < 512 = omega arith in
    let at : place_of p s + k ≡ j = omega arith in
    let e : get_or new (place_of p s + k) 0 ≡ get_or old (place_of p s + k) 0 = sym (slot_byte new p s k b) ∙ ap (λ xs. get_or xs k 0) (h p s l) ∙ slot_byte old p s k b in
    rw at at e

pub same_images : (old new : List ℕ) → length new ≡ length old → ((p s : ℕ) → s < 512 → slot_at new p s ≡ slot_at old p s) → new ≡ old
same_images old new e h = same_number_lists new old e (λ k l. same_byte old new h k)

-- a blank image
pub page_count-blank : (n : ℕ) → page_count (replicate (4096 * n) 255) ≡ n
page_count-blank n = rw (length-replicate {A = ℕ} (4096 * n) 255) (omega arith)

pub slot_at-blank : (n p s : ℕ) → p < n → s < 512 → slot_at (replicate (4096 * n) 255) p s ≡ replicate 8 255
slot_at-blank n p s l m =
    let e : length (replicate {A = ℕ} (4096 * n) 255) ≡ 4096 * n = length-replicate {A = ℕ} (4096 * n) 255 in
    let r = slot_room (replicate (4096 * n) 255) p s in
    same_number_lists (slot_at (replicate (4096 * n) 255) p s) (replicate 8 255) (omega (arith, length-replicate {A = ℕ} 8 255))
    (λ k h.
    let b : k < 8 = omega arith in
    slot_byte (replicate (4096 * n) 255) p s k b ∙ get_or-replicate {A = ℕ} (4096 * n) (place_of p s + k) 255 0 (omega arith) ∙ sym (get_or-replicate {A = ℕ} 8 k 255 0 b))
