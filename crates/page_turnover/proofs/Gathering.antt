-- Eight slots in one list of bytes.
use Rattle.std.proofs.Common.{◌≡◌, ◌∙◌, ℕ, zero, suc, [], ◌+◌, ◌-◌, ◌*◌, ◌/◌, ◌%◌, ◌<◌, List, ◌++◌, length, take, drop, get_or, replicate, refl, sym, ap, subst, arith, inl, inr}
use Rattle.std.proofs.Math.Seq.{take-append_seam}
use Rattle.std.proofs.lemmas.Bool.{cases_lt}
use Rattle.std.proofs.lemmas.List.{length-append, drop-drop, drop_at, get_or-take, get_or-drop, get_or-replicate}
use Rattle.std.proofs.lemmas.Grind.{same_number_lists}
use Rattle.records.specs.declared.Slot.TheVariants.{Free}
use Rattle.records.specs.Slots.{IsSlot, slot_of}
use Rattle.records.specs.Blocks.{slot_in}
use Rattle.flash_model.specs.Image.{slot_at}
use Rattle.page_turnover.specs.Words.{FreeFrom}
use Rattle.records.proofs.SlotLemmas.{slot_of-blank, all_eight}

first_slot : (x rest : List ℕ) → length x ≡ 8 → slot_in (x ++ rest) 0 ≡ x
first_slot x rest e = let P : ℕ → Type 0 = λ n. take n (x ++ rest) ≡ x in subst P e (take-append_seam x rest)

later_slot : (x rest : List ℕ) (i : ℕ) → length x ≡ 8 → slot_in (x ++ rest) (suc i) ≡ slot_in rest i
later_slot x rest i e =
    let q : 8 * suc i ≡ 8 + 8 * i = omega arith in
    ap (take 8) (ap (λ (n : ℕ). drop n (x ++ rest)) q ∙ sym (drop-drop (8 * i) 8 (x ++ rest)) ∙ ap (drop (8 * i)) (drop_at x rest 8 e))

-- the bytes of the first n slots, one after the other
abbrev pub in_line : (ℕ → List ℕ) → ℕ → List ℕ
in_line at zero = []
in_line at (suc n) = at 0 ++ in_line (λ k. at (suc k)) n

pub gathered : (at : ℕ → List ℕ) (n : ℕ) → ((k : ℕ) → k < n → length (at k) ≡ 8) → (i : ℕ) → i < n → slot_in (in_line at n) i ≡ at i
gathered at zero h i l = absurd (omega arith)
gathered at (suc n) h zero l = first_slot (at 0) (in_line (λ k. at (suc k)) n) (h 0 (omega arith))
gathered at (suc n) h (suc i) l =
    later_slot (at 0) (in_line (λ k. at (suc k)) n) i (h 0 (omega arith)) ∙ gathered (λ k. at (suc k)) n (λ k m. h (suc k) (omega arith)) i (omega arith)

pub in_line-length : (at : ℕ → List ℕ) (n : ℕ) → ((k : ℕ) → k < n → length (at k) ≡ 8) → length (in_line at n) ≡ 8 * n
in_line-length at zero h = refl
in_line-length at (suc n) h =
    let here : length (at 0) ≡ 8 = h 0 (omega arith) in
    let rest : length (in_line (λ k. at (suc k)) n) ≡ 8 * n = in_line-length (λ k. at (suc k)) n (λ k m. h (suc k) (omega arith)) in
    simp (length-append) (omega (arith, here, rest))

-- a byte of a slot among them
pub byte_in : (bytes : List ℕ) (i j : ℕ) → j < 8 → get_or (slot_in bytes i) j 0 ≡ get_or bytes (8 * i + j) 0
byte_in bytes i j l = get_or-take 8 (drop (8 * i) bytes) j 0 l ∙ get_or-drop (8 * i) bytes j 0

free_of_ones : (x : List ℕ) → length x ≡ 8 → ((j : ℕ) → j < 8 → get_or x j 0 ≡ 255) → slot_of x ≡ Free
free_of_ones x e h = ap slot_of (same_number_lists x (replicate 8 255) e (λ j l. let b : j < 8 = omega arith in h j b ∙ sym (get_or-replicate 8 j 255 0 b))) ∙ slot_of-blank

-- 64 bytes are FFh exactly where the eight slots are Free
pub free_slots : (bytes : List ℕ) (at : ℕ → List ℕ) → ((i : ℕ) → i < 8 → slot_in bytes i ≡ at i) → ((i : ℕ) → i < 8 → IsSlot (at i)) → ((k : ℕ) → k < 64 → get_or bytes k 0 ≡ 255) → (i : ℕ) → i < 8 → slot_of (at i) ≡ Free
free_slots bytes at is slots ones i l =
    free_of_ones (at i) (slots i l).eight (λ j m. rw (← is i l) (byte_in bytes i j m ∙ ones (8 * i + j) (omega arith)))

pub one_bytes : (bytes : List ℕ) (at : ℕ → List ℕ) → ((i : ℕ) → i < 8 → slot_in bytes i ≡ at i) → ((i : ℕ) → i < 8 → IsSlot (at i)) → ((i : ℕ) → i < 8 → slot_of (at i) ≡ Free) → (k : ℕ) → k < 64 → get_or bytes k 0 ≡ 255
one_bytes bytes at is slots free k l =
    let i : k / 8 < 8 = omega arith in
    let j : k % 8 < 8 = omega arith in
    let e : 8 * (k / 8) + k % 8 ≡ k = omega arith in
    let P : ℕ → Type 0 = λ n. get_or bytes n 0 ≡ 255 in
    let byte : get_or (slot_in bytes (k / 8)) (k % 8) 0 ≡ 255 = rw (is (k / 8) i) (all_eight (at (k / 8)) (slots (k / 8) i) (free (k / 8) i) (k % 8) j) in
    subst P e (sym (byte_in bytes (k / 8) (k % 8) j) ∙ byte)
