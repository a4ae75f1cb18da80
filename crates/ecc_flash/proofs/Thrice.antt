-- Three copies of eight bytes correct one cell.
use Rattle.std.proofs.Common.{◌≡◌, ℕ, ◌+◌, ◌<◌, List, ◌++◌, get_or, length, arith, ◌∙◌, ap, sym, refl, ◌⊎◌, inl, inr, length-append, subst}
use Rattle.std.specs.Int.{bit_at}
use Rattle.std.proofs.lemmas.Bool.Decides.{eqb_tells}
use Rattle.std.proofs.lemmas.Grind.{same_number_lists}
use Rattle.std.proofs.lemmas.List.{get_or_append_left, get_or-append-add}
use Rattle.std.proofs.lemmas.Nat.Bits.{same_from_bits_below}
use Rattle.ecc_flash.specs.Reading.{blank}
use Rattle.ecc_flash.specs.Units.{IsEight}
use Rattle.ecc_flash.specs.Cells.{IsNear, IsCode, code_word}
use Rattle.ecc_flash.specs.Witness.{twice}

-- the first, the second and the third copy of a byte
first_copy : (x : List ℕ) (k : ℕ) → length x ≡ 8 → k < 8 → get_or (code_word twice x) k 0 ≡ get_or x k 0
first_copy x k e l = get_or_append_left x (x ++ x) 0 k (rw e l)

second_copy : (x : List ℕ) (k : ℕ) → length x ≡ 8 → k < 8 → get_or (code_word twice x) (8 + k) 0 ≡ get_or x k 0
second_copy x k e l =
    let a : get_or (x ++ (x ++ x)) (length x + k) 0 ≡ get_or (x ++ x) k 0 = get_or-append-add x (x ++ x) k 0 in
    let P : ℕ → Type 0 = λ n. get_or (x ++ (x ++ x)) (n + k) 0 ≡ get_or (x ++ x) k 0 in
    let b : P 8 = subst P e a in
    b ∙ get_or_append_left x x 0 k (rw e l)

third_copy : (x : List ℕ) (k : ℕ) → length x ≡ 8 → k < 8 → get_or (code_word twice x) (8 + (8 + k)) 0 ≡ get_or x k 0
third_copy x k e l =
    let a : get_or (x ++ (x ++ x)) (length x + (length x + k)) 0 ≡ get_or (x ++ x) (length x + k) 0 = get_or-append-add x (x ++ x) (length x + k) 0 in
    let b : get_or (x ++ x) (length x + k) 0 ≡ get_or x k 0 = get_or-append-add x x k 0 in
    let P : ℕ → Type 0 = λ n. get_or (x ++ (x ++ x)) (n + (n + k)) 0 ≡ get_or x k 0 in
    subst P e (a ∙ b)

-- a copy that neither of two places is in
clear_of : (k p q : ℕ) → ((k ≡ p → ⊥) × (k ≡ q → ⊥)) ⊎ (((8 + k ≡ p → ⊥) × (8 + k ≡ q → ⊥)) ⊎ ((8 + (8 + k) ≡ p → ⊥) × (8 + (8 + k) ≡ q → ⊥)))
clear_of k p q =
    elim (eqb_tells k p) [
      | inl there ↦ elim (eqb_tells (8 + k) q) [
        | inl also ↦ inr (inr ((λ e. omega (arith, e, there.1)), (λ e. omega (arith, e, also.1))))
        | inr apart ↦ inr (inl ((λ e. omega (arith, e, there.1)), (λ e. apart.1 e)))
      ]
      | inr away ↦ elim (eqb_tells k q) [
        | inl there ↦ elim (eqb_tells (8 + k) p) [
          | inl also ↦ inr (inr ((λ e. omega (arith, e, also.1)), (λ e. omega (arith, e, there.1))))
          | inr apart ↦ inr (inl ((λ e. apart.1 e), (λ e. omega (arith, e, there.1))))
        ]
        | inr apart ↦ inl ((λ e. away.1 e), (λ e. apart.1 e))
      ]
    ]

by_copy : (one two cells : List ℕ) (n : IsNear (code_word twice one) cells) (m : IsNear (code_word twice two) cells) (at k i : ℕ)
    → get_or (code_word twice one) at 0 ≡ get_or one k 0 → get_or (code_word twice two) at 0 ≡ get_or two k 0
    → (at ≡ n.byte → ⊥) → (at ≡ m.byte → ⊥) → bit_at (get_or one k 0) i ≡ bit_at (get_or two k 0) i
by_copy one two cells n m at k i a b p q =
    ap (λ (v : ℕ). bit_at v i) (sym a) ∙ sym (n.rest at i (λ e _. p e)) ∙ m.rest at i (λ e _. q e) ∙ ap (λ (v : ℕ). bit_at v i) b

same_bit : (one two cells : List ℕ) (k i : ℕ) → length one ≡ 8 → length two ≡ 8 → k < 8 → IsNear (code_word twice one) cells → IsNear (code_word twice two) cells → bit_at (get_or one k 0) i ≡ bit_at (get_or two k 0) i
same_bit one two cells k i d e l n m =
    elim (clear_of k n.byte m.byte) [
      | inl c ↦ by_copy one two cells n m k k i (first_copy one k d l) (first_copy two k e l) c.0 c.1
      | inr more ↦ elim more [
        | inl c ↦ by_copy one two cells n m (8 + k) k i (second_copy one k d l) (second_copy two k e l) c.0 c.1
        | inr c ↦ by_copy one two cells n m (8 + (8 + k)) k i (third_copy one k d l) (third_copy two k e l) c.0 c.1
      ]
    ]

one_of : (one two cells : List ℕ) → IsEight one → IsEight two → IsNear (code_word twice one) cells → IsNear (code_word twice two) cells → one ≡ two
one_of one two cells d e n m =
    same_number_lists one two (omega (arith, d.eight, e.eight))
    (λ k l. same_from_bits_below 8 _ _ (d.each k) (e.each k) (λ i _. same_bit one two cells k i d.eight e.eight (omega (arith, d.eight, l)) n m))

pub is_code : IsCode 16 twice
unfolding blank
is_code = record {
  all_checks = λ bytes e. omega (arith, length-append bytes bytes, e.eight);
  of_blank = refl;
  apart = λ one two cells d e n m. one_of one two cells d e n m;
}
