-- The words of marks by their parts.
use Rattle.std.proofs.Common.{◌≡◌, ℕ, ◌+◌, ◌-◌, ◌*◌, ◌/◌, ◌%◌, ◌<◌, ◌≤◌, ◌^◌, List, [], ◌∷◌, ◌++◌, bit_and, length, length-drop, get_or, take, drop, inl, inr, arith, sym, ◌∙◌, ap, ap₂, refl}
use Rattle.std.specs.Int.{from_le_bytes, rotate_left, bit_not, w32}
use Rattle.std.proofs.lemmas.List.{take-append-drop, length-take-le, get_or-drop, get_or-take, get_or_past, take_more}
use Rattle.std.proofs.lemmas.Nat.{and_mask}
use Rattle.std.proofs.lemmas.Nat.{le_bytes_4}
use Rattle.std.proofs.lemmas.Bool.{cases_lt}
use Rattle.steady_flash.specs.Cells.{IsEight, blank}
use Rattle.steady_flash.specs.Marked.{IsMarkWord}
use Rattle.steady_flash.specs.Claims.{IsClaim, word_of}

placed_parts : (w pages at page number : ℕ) → 2 ≤ pages → pages ≤ 8 → at ≤ pages → number < 2097152 → w ≡ 268435456 * page + 33554432 * (pages - 1) + 2097152 * at + number
    → (1 < w / 33554432 % 8 + 1) × (w / 2097152 % 16 ≤ w / 33554432 % 8 + 1)
placed_parts w pages at page number b m f l e =
    let places : w / 2097152 ≡ 128 * page + 16 * (pages - 1) + at = omega arith in
    let of_pages : w / 33554432 ≡ 8 * page + (pages - 1) = omega arith in
    (omega arith, omega arith)

-- two lists of four bytes that read as one number
same_four : (x y : List ℕ) → length x ≡ 4 → length y ≡ 4 → ((i : ℕ) → get_or x i 0 < 256) → ((i : ℕ) → get_or y i 0 < 256) → from_le_bytes w32 x ≡ from_le_bytes w32 y → x ≡ y
same_four x y l m b d e = sym (le_bytes_4 x (from_le_bytes w32 x) l b refl) ∙ le_bytes_4 y (from_le_bytes w32 x) m d e

byte_of_take : (x : List ℕ) (i : ℕ) → IsEight x → get_or (take 4 x) i 0 < 256
byte_of_take x i e = elim (cases_lt i 4) [
  | inl b ↦ rw (get_or-take 4 x i 0 b) (e.each i)
  | inr b ↦ rw (get_or_past {X = ℕ} (take 4 x) i 0 (rw (length-take-le 4 x (omega (arith, e.eight))) b)) (omega arith)
]

byte_of_drop : (x : List ℕ) (i : ℕ) → IsEight x → get_or (drop 4 x) i 0 < 256
byte_of_drop x i e = rw (get_or-drop 4 x i 0) (e.each (4 + i))

-- a mark's word is all of its bytes
pub same_word : (x y : List ℕ) → IsMarkWord x → IsMarkWord y → word_of x ≡ word_of y → x ≡ y
same_word x y a b e =
    let t : take 4 x ≡ take 4 y = same_four (take 4 x) (take 4 y) (length-take-le 4 x (omega (arith, a.eight.eight))) (length-take-le 4 y (omega (arith, b.eight.eight))) (λ i. byte_of_take x i a.eight) (λ i. byte_of_take y i b.eight) e in
    let turned : from_le_bytes w32 (drop 4 x) ≡ from_le_bytes w32 (drop 4 y) = a.turned ∙ ap (λ (w : ℕ). rotate_left w32 (bit_not w32 w) 1) e ∙ sym b.turned in
    let d : drop 4 x ≡ drop 4 y = same_four (drop 4 x) (drop 4 y) (omega (arith, length-drop 4 x, a.eight.eight)) (omega (arith, length-drop 4 y, b.eight.eight)) (λ i. byte_of_drop x i a.eight) (λ i. byte_of_drop y i b.eight) turned in
    sym (take-append-drop 4 x) ∙ ap₂ ◌++◌ t d ∙ take-append-drop 4 y

-- what a word says
pub claim_of_word : (w : ℕ) (bytes : List ℕ) → IsMarkWord bytes → word_of bytes ≡ w → IsClaim (bit_and (w / 33554432) 7 + 1) (bit_and (w / 2097152) 15) (w / 268435456) (bit_and w 2097151) bytes
claim_of_word w bytes m e = record {
  word = m;
  says = e ∙ rw (and_mask (w / 33554432) 3, and_mask (w / 2097152) 4, and_mask w 21) (omega arith);
  small = rw (and_mask w 21) (omega arith);
}

four : (bytes : List ℕ) → 4 ≤ length bytes → take 4 bytes ≡ get_or bytes 0 0 ∷ get_or bytes 1 0 ∷ get_or bytes 2 0 ∷ get_or bytes 3 0 ∷ []
four bytes l =
    let a : take 1 bytes ≡ get_or bytes 0 0 ∷ [] = take_more bytes 0 0 (omega arith) in
    let b : take 2 bytes ≡ get_or bytes 0 0 ∷ get_or bytes 1 0 ∷ [] = take_more bytes 1 0 (omega arith) ∙ ap (λ (t : List ℕ). t ++ get_or bytes 1 0 ∷ []) a in
    let d : take 3 bytes ≡ get_or bytes 0 0 ∷ get_or bytes 1 0 ∷ get_or bytes 2 0 ∷ [] = take_more bytes 2 0 (omega arith) ∙ ap (λ (t : List ℕ). t ++ get_or bytes 2 0 ∷ []) b in
    take_more bytes 3 0 (omega arith) ∙ ap (λ (t : List ℕ). t ++ get_or bytes 3 0 ∷ []) d

pub word_of_four : (bytes : List ℕ) → IsEight bytes → word_of bytes ≡ from_le_bytes w32 (get_or bytes 0 0 ∷ get_or bytes 1 0 ∷ get_or bytes 2 0 ∷ get_or bytes 3 0 ∷ [])
word_of_four bytes e = ap (from_le_bytes w32) (four bytes (omega (arith, e.eight)))

-- where it does not, no claim is read
pub no_claim : (w pages at page number : ℕ) (bytes : List ℕ) → word_of bytes ≡ w → 2 ≤ pages → pages ≤ 8 → at ≤ pages → number < 2 ^ 21 → IsClaim pages at page number bytes
    → (1 < bit_and (w / 33554432) 7 + 1) × (bit_and (w / 2097152) 15 ≤ bit_and (w / 33554432) 7 + 1)
no_claim w pages at page number bytes e b m f l c =
    let says : w ≡ 268435456 * page + 33554432 * (pages - 1) + 2097152 * at + number = sym e ∙ c.says in
    rw (and_mask (w / 33554432) 3, and_mask (w / 2097152) 4) (placed_parts w pages at page number b m f l says)

-- no word is blank
pub no_blank : (bytes : List ℕ) → IsMarkWord bytes → bytes ≡ blank → ⊥
no_blank bytes m e = (let t = rw e at m.turned in omega (arith, t))
