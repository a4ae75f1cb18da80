-- Sets of numbers as bits, `size` to a cell.
use Rattle.std.proofs.Common.{◌≡◌, ◌≢◌, ℕ, ◌+◌, ◌-◌, ◌*◌, ◌/◌, ◌%◌, ◌^◌, ◌<◌, ◌≤◌, ◌==◌, ◌||◌, ◌&&◌, not, true, false, Bool, Option, Some, None, MatchOption, List, length, get_or, replicate, refl, arith, bit_or, bit_and, inl, inr, w32, sym, ap, ◌∙◌}
use Rattle.std.specs.Int.{bit_at, bit_not, trailing_zeros}
use Rattle.std.proofs.Math.ListN.{set}
use Rattle.std.proofs.lemmas.Bool.{cases_Bool, cases_eq, cases_lt, eq-eqb, ne_eqb}
use Rattle.std.proofs.lemmas.List.{get_or-set_same, get_or-set_other, get_or-replicate, get_or_past, length-replicate}
use Rattle.std.proofs.lemmas.Nat.Bits.{bit_at_set_same, bit_at_set_other, bit_at_clear_same, bit_at_clear_other, bit_at-zero, bit_at_above, bit_at-trailing_zeros, bit_at_cat_low}
use Rattle.std.proofs.lemmas.Nat.{pow-add}
use Rattle.std.proofs.Math.Nat.{div-div-eq-div-mul, div-le_self, div-one}
use Rattle.layers.specs.Usages.{has_bit, AreMarked, IsNext, PassesNoneFrom}

same_place : (size a b : ℕ) → 0 < size → a / size ≡ b / size → a % size ≡ b % size → a ≡ b
same_place size a b l d m =
    let x : size * (a / size) + a % size ≡ a = omega arith in
    let y : size * (b / size) + b % size ≡ b = omega arith in
    sym x ∙ rw (d, m) y

-- a cell in which one bit more is set
has_bit-set : (size : ℕ) (cells : List ℕ) (number other cell : ℕ) → 0 < size → number / size < length cells → bit_at cell (number % size) ≡ 1
    → ((i : ℕ) → i ≢ number % size → bit_at cell i ≡ bit_at (get_or cells (number / size) 0) i)
    → has_bit size (set cells (number / size) cell) other ≡ (number == other || has_bit size cells other)
has_bit-set size cells number other cell p l s o =
    elim (cases_eq number other) [
      | inl e ↦ rw (← e, eq-eqb number number refl, get_or-set_same cells (number / size) cell 0 l, s) refl
      | inr n ↦ elim (cases_eq (other / size) (number / size)) [
        | inl e ↦
            rw (ne_eqb number other n, e, get_or-set_same cells (number / size) cell 0 l, o (other % size) (λ m. n (sym (same_place size other number p e m)))) refl
        | inr m ↦ rw (ne_eqb number other n, get_or-set_other cells (number / size) (other / size) cell 0 m) refl
      ]
    ]

pub has_bit-set_word : (words : List ℕ) (number other : ℕ) → number / 32 < length words → has_bit 32 (set words (number / 32) (bit_or (get_or words (number / 32) 0) (1 * 2 ^ (number % 32) % 2 ^ 32))) other ≡ (number == other || has_bit 32 words other)
has_bit-set_word words number other l =
    has_bit-set 32 words number other _ (omega arith) l (bit_at_set_same w32 (get_or words (number / 32) 0) (number % 32) (omega arith)) (λ i d. bit_at_set_other w32 (get_or words (number / 32) 0) (number % 32) (omega arith) i d)

-- a cell in which one bit is cleared
has_bit-cleared : (cells : List ℕ) (number other cell : ℕ) → number / 32 < length cells → bit_at cell (number % 32) ≡ 0
    → ((i : ℕ) → i < 32 → i ≢ number % 32 → bit_at cell i ≡ bit_at (get_or cells (number / 32) 0) i)
    → has_bit 32 (set cells (number / 32) cell) other ≡ (not (number == other) && has_bit 32 cells other)
has_bit-cleared cells number other cell l s o =
    elim (cases_eq number other) [
      | inl e ↦ rw (← e, eq-eqb number number refl, get_or-set_same cells (number / 32) cell 0 l, s) refl
      | inr n ↦ elim (cases_eq (other / 32) (number / 32)) [
        | inl e ↦
            rw (ne_eqb number other n, e, get_or-set_same cells (number / 32) cell 0 l, o (other % 32) (omega arith) (λ m. n (sym (same_place 32 other number (omega arith) e m)))) refl
        | inr m ↦ rw (ne_eqb number other n, get_or-set_other cells (number / 32) (other / 32) cell 0 m) refl
      ]
    ]

pub has_bit-cleared_word : (words : List ℕ) (number other : ℕ) → number / 32 < length words → has_bit 32 (set words (number / 32) (bit_and (get_or words (number / 32) 0) (bit_not w32 (1 * 2 ^ (number % 32) % 2 ^ 32)))) other ≡ (not (number == other) && has_bit 32 words other)
has_bit-cleared_word words number other l =
    has_bit-cleared words number other _ l (bit_at_clear_same w32 (get_or words (number / 32) 0) (number % 32) (omega arith)) (λ i m d. bit_at_clear_other w32 (get_or words (number / 32) 0) (number % 32) (omega arith) i m d)

pub has_bit-past : (size : ℕ) (cells : List ℕ) (number : ℕ) → length cells ≤ number / size → has_bit size cells number ≡ false
has_bit-past size cells number l = rw (get_or_past cells (number / size) 0 l, bit_at-zero (number % size)) refl

pub has_bit-zeros : (size n number : ℕ) → has_bit size (replicate n 0) number ≡ false
has_bit-zeros size n number =
    elim (cases_lt (number / size) n) [
      | inl l ↦ rw (get_or-replicate {A = ℕ} n (number / size) 0 0 l, bit_at-zero (number % size)) refl
      | inr m ↦ has_bit-past size (replicate n 0) number (rw (length-replicate {A = ℕ} n 0) m)
    ]

-- the low byte of a word
pub has_bit-low_byte : (words : List ℕ) (place i : ℕ) → i < 8 → (bit_at (get_or words place 0 % 256) i == 1) ≡ has_bit 32 words (32 * place + i)
has_bit-low_byte words place i l =
    let word = get_or words place 0 in
    let whole : word / 256 * 2 ^ 8 + word % 256 ≡ word = omega arith in
    let low : bit_at (word % 256) i ≡ bit_at word i = sym (bit_at_cat_low (word / 256) 8 (word % 256) i l) ∙ ap (λ (w : ℕ). bit_at w i) whole in
    let q : (32 * place + i) / 32 ≡ place = omega arith in
    let r : (32 * place + i) % 32 ≡ i = omega arith in
    rw (q, r, low) refl

-- no mark
pub zero_marks : (occupied : List ℕ) → length occupied ≡ 1 → get_or occupied 0 0 ≡ 0 → (number : ℕ) → has_bit 32 occupied number ≡ false
zero_marks occupied one z number = elim (cases_lt (number / 32) 1) [
  | inl l ↦ (let first : number / 32 ≡ 0 = omega arith in rw (first, z, bit_at-zero (number % 32)) refl)
  | inr m ↦ has_bit-past 32 occupied number (omega arith)
]

-- a set of which no word is marked
pub none_unmarked : (words occupied : List ℕ) (number : ℕ) → AreMarked words occupied → ((other : ℕ) → has_bit 32 occupied other ≡ false) → has_bit 32 words number ≡ false
none_unmarked words occupied number m n = elim (cases_Bool (has_bit 32 words number)) [
  | inl on ↦ (let c : true ≡ false = sym (m.each number on) ∙ n (number / 32) in cc)
  | inr off ↦ off
]

bit_at_shr : (n k i : ℕ) → bit_at (n / 2 ^ k) i ≡ bit_at n (k + i)
bit_at_shr n k i = rw (div-div-eq-div-mul n (2 ^ k) (2 ^ i), ← pow-add 2 k i) refl

-- a number at or after another in the cell of that other
same_cell : (from other : ℕ) → from ≤ other → other / 32 ≡ from / 32 → other % 32 ≡ from % 32 + (other - from)
same_cell from other l e = omega arith

-- no number from `from` on in its own cell, whose bits from there on are all clear
pub has_bit-clear_cell : (words : List ℕ) (from other : ℕ) → from ≤ other → other / 32 ≡ from / 32 → get_or words (from / 32) 0 / 2 ^ (from % 32) ≡ 0 → has_bit 32 words other ≡ false
has_bit-clear_cell words from other l e z =
    rw (e, same_cell from other l e, ← bit_at_shr (get_or words (from / 32) 0) (from % 32) (other - from), z, bit_at-zero (other - from)) refl

-- the least number of a cell from `from` on
pub record IsLeast (words : List ℕ) (from number : ℕ) : Type 0 where
  pub here : number / 32 ≡ from / 32
  pub next : IsNext (has_bit 32 words) from number

within_cell : (word k t : ℕ) → word < 2 ^ 32 → bit_at word (k + t) ≡ 1 → k + t < 32
within_cell word k t fits b =
    elim (cases_lt (k + t) 32) [
      | inl l ↦ l
      | inr m ↦ let z : bit_at word (k + t) ≡ 0 = bit_at_above word 32 (k + t) fits m in absurd (omega arith)
    ]

pub least_in_cell : (words : List ℕ) (from bits t : ℕ) → bits ≡ get_or words (from / 32) 0 / 2 ^ (from % 32) → get_or words (from / 32) 0 < 2 ^ 32 → (bits ≡ 0 → ⊥) → t ≡ trailing_zeros w32 bits → IsLeast words from (from + t)
least_in_cell words from bits t e word_fits none is =
    let some : 0 < bits = omega arith in
    let fits : bits < 2 ^ 32 = rw e (omega (arith, word_fits, div-le_self (get_or words (from / 32) 0) (2 ^ (from % 32)))) in
    let lowest = bit_at-trailing_zeros w32 bits some fits in
    let set : bit_at (get_or words (from / 32) 0) (from % 32 + t) ≡ 1 = sym (bit_at_shr (get_or words (from / 32) 0) (from % 32) t) ∙ rw (← e, is) lowest.1 in
    let within : from % 32 + t < 32 = within_cell (get_or words (from / 32) 0) (from % 32) t word_fits set in
    let here : (from + t) / 32 ≡ from / 32 = omega arith in
    let place : (from + t) % 32 ≡ from % 32 + t = omega arith in
    record {
      here = here;
      next = record {
        after = omega arith;
        is = rw (here, place, set) refl;
        first = λ other l m.
            let there : other / 32 ≡ from / 32 = omega arith in
            let at : other - from < trailing_zeros w32 bits = rw (← is) (omega arith) in
            rw (there, same_cell from other l there, ← bit_at_shr (get_or words (from / 32) 0) (from % 32) (other - from), ← e, lowest.2 (other - from) at) refl;
      };
    }

-- the least number of a cell from its start on
pub least_of_cell : (words : List ℕ) (word bits : ℕ) → bits ≡ get_or words word 0 → bits < 2 ^ 32 → (bits ≡ 0 → ⊥) → IsLeast words (32 * word) (32 * word + trailing_zeros w32 bits)
least_of_cell words word bits e fits none =
    let cell : 32 * word / 32 ≡ word = omega arith in
    let start : 32 * word % 32 ≡ 0 = omega arith in
    let same : bits ≡ get_or words (32 * word / 32) 0 / 2 ^ (32 * word % 32) = rw (cell, start) (e ∙ sym (div-one (get_or words word 0))) in
    let word_fits : get_or words (32 * word / 32) 0 < 2 ^ 32 = rw (cell, ← e) fits in
    least_in_cell words (32 * word) bits (trailing_zeros w32 bits) same word_fits none refl

-- none from `from` on, if none below a cell and all cells are below it
pub passes_none : (words : List ℕ) (from : ℕ) → ((other : ℕ) → from ≤ other → other / 32 < length words → has_bit 32 words other ≡ false) → PassesNoneFrom (has_bit 32 words) from
passes_none words from h = record {
  each = λ number l.
      elim (cases_lt (number / 32) (length words)) [
        | inl b ↦ h number l b
        | inr b ↦ has_bit-past 32 words number b
      ];
}

-- the least of a later cell, if none below it is one
pub next_later : (words : List ℕ) (from place number : ℕ) → from / 32 < place → ((other : ℕ) → from ≤ other → other / 32 < place → has_bit 32 words other ≡ false) → IsLeast words (32 * place) number → IsNext (has_bit 32 words) from number
next_later words from place number l h least = record {
  after = omega (arith, least.next.after);
  is = least.next.is;
  first = λ other a b.
      elim (cases_lt (other / 32) place) [
        | inl c ↦ h other a c
        | inr c ↦ least.next.first other (omega arith) b
      ];
}

-- a set without a number
pub marked_none : (words occupied : List ℕ) → ((number : ℕ) → has_bit 32 words number ≡ false) → AreMarked words occupied
marked_none words occupied h = record { each = λ number e. (let f : false ≡ true = sym (h number) ∙ e in cc) }

or_true : (b : Bool) → (b || true) ≡ true
or_true true = refl
or_true false = refl

-- one number more, and its word
pub marked_more : (words occupied more marks : List ℕ) (number : ℕ) → ((other : ℕ) → has_bit 32 more other ≡ (number == other || has_bit 32 words other))
    → ((other : ℕ) → has_bit 32 marks other ≡ (number / 32 == other || has_bit 32 occupied other)) → AreMarked words occupied → AreMarked more marks
marked_more words occupied more marks number w o a = record {
  each = λ other e.
      elim (cases_eq number other) [
        | inl s ↦ o (other / 32) ∙ rw (← s, eq-eqb (number / 32) (number / 32) refl) refl
        | inr d ↦
            let was : has_bit 32 words other ≡ true = sym (w other ∙ rw (ne_eqb number other d) refl) ∙ e in
            o (other / 32) ∙ rw (a.each other was) (or_true (number / 32 == other / 32))
      ];
}

unmarked : (words occupied : List ℕ) (number : ℕ) → AreMarked words occupied → has_bit 32 occupied (number / 32) ≡ false → has_bit 32 words number ≡ false
unmarked words occupied number a f =
    elim (cases_Bool (has_bit 32 words number)) [
      | inl t ↦ let no : false ≡ true = sym f ∙ a.each number t in cc
      | inr n ↦ n
    ]

-- where to look on: at the next word that is marked, or at `from` itself, whichever is later
pub record LooksOn (from place start : ℕ) : Type 0 where
  pub first : from ≤ start
  pub least : (n : ℕ) → n < start → from ≤ n → n < 32 * place

skipped : (words occupied : List ℕ) (from place start other : ℕ) → AreMarked words occupied → IsNext (has_bit 32 occupied) (from / 32) place → LooksOn from place start
    → from ≤ other → other < start → has_bit 32 words other ≡ false
skipped words occupied from place start other a n s l m =
    let below : other < 32 * place = s.least other m l in
    unmarked words occupied other a (n.first (other / 32) (omega arith) (omega arith))

pub next_marked : (words occupied : List ℕ) (from place start number : ℕ) → AreMarked words occupied → IsNext (has_bit 32 occupied) (from / 32) place → LooksOn from place start
    → IsNext (has_bit 32 words) start number → IsNext (has_bit 32 words) from number
next_marked words occupied from place start number a n s h = record {
  after = omega (arith, s.first, h.after);
  is = h.is;
  first = λ other l m.
      elim (cases_lt other start) [
        | inl b ↦ skipped words occupied from place start other a n s l b
        | inr b ↦ h.first other b m
      ];
}

pub none_marked : (words occupied : List ℕ) (from place start : ℕ) → AreMarked words occupied → IsNext (has_bit 32 occupied) (from / 32) place → LooksOn from place start
    → PassesNoneFrom (has_bit 32 words) start → PassesNoneFrom (has_bit 32 words) from
none_marked words occupied from place start a n s h = record {
  each = λ number l.
      elim (cases_lt number start) [
        | inl b ↦ skipped words occupied from place start number a n s l b
        | inr b ↦ h.each number b
      ];
}

pub none_in_marked : (words occupied : List ℕ) (from : ℕ) → AreMarked words occupied → PassesNoneFrom (has_bit 32 occupied) (from / 32) → PassesNoneFrom (has_bit 32 words) from
none_in_marked words occupied from a h = record { each = λ number l. unmarked words occupied number a (h.each (number / 32) (omega arith)) }

-- what is known of an answer, said anew
pub map_match : {P R : Type 0} {Q S : ℕ → Type 0} (o : Option ℕ) → (P → R) → ((n : ℕ) → Q n → S n) → MatchOption o P Q → MatchOption o R S
map_match None f g m = f m
map_match (Some n) f g m = g n m
