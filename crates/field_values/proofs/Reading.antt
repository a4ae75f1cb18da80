-- What is read where bits stay.
use Rattle.std.proofs.Common.{◌≡◌, ◌≢◌, ℕ, zero, suc, ◌+◌, ◌-◌, ◌*◌, ◌/◌, ◌%◌, ◌^◌, ◌<◌, ◌≤◌, Bool, true, false, List, [], ◌∷◌, length, get_or, arith, refl, sym, ◌∙◌, ap, inl, inr, Some, None}
use Rattle.std.specs.Prelude.{Option, ◌⊎◌, ℤ, pos, ◌+ℤ◌, ◌-ℤ◌, int_lt, nat_lt, not, ◌&&◌, ◌||◌, if◌then◌else◌, slice_get, slice_index}
use Rattle.std.specs.Int.{bit_at, int_gap}
use Rattle.std.proofs.lemmas.Bool.{cases_lt, cases_Bool}
use Rattle.std.proofs.lemmas.Int.{ints}
use Rattle.std.proofs.Math.Nat.{mul-le-mul_left}
use Rattle.std.proofs.lemmas.Nat.Bits.{same_from_bits_below}
use Rattle.descriptor_parse.specs.declared.field.Field.{Field}
use Rattle.descriptor_parse.specs.Descriptor.{usage_of_place}
use Rattle.host_extract.specs.Found.{value_at, named, in_array, reading_at}
use Rattle.host_extract.specs.Numbers.{report_bit, number_at, value_under}
use Rattle.host_extract.proofs.NumberLemmas.{number-lt, number-bit}
use Rattle.field_values.specs.Places.{IsOutside}
use Rattle.field_values.specs.Held.{place_bit, is_within}
use Rattle.field_values.specs.Values.{usage_read}

pub same_number : (old now : List ℕ) (bit size : ℕ) → ((i : ℕ) → i < size → report_bit now (bit + i) ≡ report_bit old (bit + i))
    → number_at now bit size ≡ number_at old bit size
same_number old now bit size h =
    same_from_bits_below size (number_at now bit size) (number_at old bit size) (number-lt now size bit) (number-lt old size bit)
    (λ i l. number-bit now size bit i l ∙ h i l ∙ sym (number-bit old size bit i l))

-- places of a field lie apart
pub next_place : (size place : ℕ) → size * (place + 1) ≡ size * place + size
next_place size place = omega arith

pub later_place : (size place other : ℕ) → place < other → size * place + size ≤ size * other
later_place size place other l =
    let far : place + 1 ≤ other = omega arith in
    rw (sym (next_place size place)) (mul-le-mul_left size far)

pub apart : (field : Field) (place other i : ℕ) → place ≢ other → i < field.size → IsOutside (place_bit field place) field.size (place_bit field other + i)
apart field place other i n l = elim (cases_lt place other) [
  | inl before ↦ inr (omega (arith, later_place field.size place other before))
  | inr after ↦ inl (omega (arith, later_place field.size other place (omega arith)))
]

pub others_stay : (field : Field) (old now : List ℕ) (place other : ℕ) → place ≢ other
    → ((bit : ℕ) → IsOutside (place_bit field place) field.size bit → report_bit now bit ≡ report_bit old bit)
    → value_at field now other ≡ value_at field old other
others_stay field old now place other n h =
    ap (value_under field.min field.size) (same_number old now (place_bit field other) field.size (λ i l. h (place_bit field other + i) (apart field place other i n l)))

-- ---- what is extracted

by_kind : (array under over : Bool) (own listed : Option ℕ) (value : ℤ)
    → (if array then (if under || over then [] else named listed (pos 1)) else named own value)
    ≡ named (if array then (if not under && not over then listed else None) else own) (if array then pos 1 else value)
by_kind false under over own listed value = refl
by_kind true true over own listed value = refl
by_kind true false true own listed value = refl
by_kind true false false own listed value = refl

pub extracted : (field : Field) (usages bytes : List ℕ) (place : ℕ)
    → reading_at field usages bytes place
    ≡ named (usage_read field usages place (value_at field bytes place)) (if field.array then pos 1 else value_at field bytes place)
extracted field usages bytes place =
    let value = value_at field bytes place in
    by_kind field.array (int_lt value field.min) (int_lt field.max value) (usage_of_place field usages place) (slice_get usages (int_gap field.min value)) value

-- ---- a place that holds what it held

-- two numbers of so many bits that have one value are one
one_value : (signed x y : Bool) (m n p : ℕ) → m < p → n < p
    → (if signed && not x then pos m -ℤ pos p else pos m) ≡ (if signed && not y then pos n -ℤ pos p else pos n) → m ≡ n
one_value false x y m n p a b e = omega (arith, ints)
one_value true true true m n p a b e = omega (arith, ints)
one_value true true false m n p a b e = omega (arith, ints)
one_value true false true m n p a b e = omega (arith, ints)
one_value true false false m n p a b e = omega (arith, ints)

same_list : (xs ys : List ℕ) → length xs ≡ length ys → ((i : ℕ) → get_or xs i 0 ≡ get_or ys i 0) → xs ≡ ys
same_list [] [] l h = refl
same_list [] (y ∷ ys) l h = absurd (omega arith)
same_list (x ∷ xs) [] l h = absurd (omega arith)
same_list (x ∷ xs) (y ∷ ys) l h =
    let first : x ≡ y = h 0 in
    let rest : xs ≡ ys = same_list xs ys (omega arith) (λ i. h (suc i)) in
    rw (first, rest) refl

pub same_bytes : (old now : List ℕ) → ((i : ℕ) → slice_index old i < 256) → ((i : ℕ) → slice_index now i < 256) → length now ≡ length old
    → ((bit : ℕ) → report_bit now bit ≡ report_bit old bit) → now ≡ old
same_bytes old now a b l h = same_list now old l (λ k.
    let x : get_or now k 0 < 2 ^ 8 = b k in
    let y : get_or old k 0 < 2 ^ 8 = a k in
    same_from_bits_below 8 (get_or now k 0) (get_or old k 0) x y (λ i m.
    let d : (8 * k + i) / 8 ≡ k = omega arith in
    let r : (8 * k + i) % 8 ≡ i = omega arith in
    rw (d, r) at (h (8 * k + i))))

-- where a place holds what it held, and the other bits stay, each bit does
pub all_same : (field : Field) (old now : List ℕ) (place : ℕ)
    → ((bit : ℕ) → IsOutside (place_bit field place) field.size bit → report_bit now bit ≡ report_bit old bit)
    → value_at field now place ≡ value_at field old place → (bit : ℕ) → report_bit now bit ≡ report_bit old bit
all_same field old now place h e bit =
    let from = place_bit field place in
    let m = number_at now from field.size in
    let n = number_at old from field.size in
    let same : m ≡ n = one_value (int_lt field.min (pos 0)) (nat_lt (2 * m) (2 ^ field.size)) (nat_lt (2 * n) (2 ^ field.size)) m n (2 ^ field.size)
    (number-lt now field.size from) (number-lt old field.size from) e in
    elim (cases_lt bit from) [
      | inl low ↦ h bit (inl low)
      | inr above ↦ elim (cases_lt bit (from + field.size)) [
        | inr high ↦ h bit (inr high)
        | inl inside ↦ (let i : from + (bit - from) ≡ bit = omega arith in
            let k : bit - from < field.size = omega arith in
            rw i at (sym (number-bit now field.size from (bit - from) k) ∙ ap (λ x. bit_at x (bit - from)) same ∙ number-bit old field.size from (bit - from) k))
      ]
    ]

pub written_back : (field : Field) (old now : List ℕ) (place : ℕ)
    → ((i : ℕ) → slice_index old i < 256) → ((i : ℕ) → slice_index now i < 256) → length now ≡ length old
    → ((bit : ℕ) → IsOutside (place_bit field place) field.size bit → report_bit now bit ≡ report_bit old bit)
    → value_at field now place ≡ value_at field old place → now ≡ old
written_back field old now place a b l h e = same_bytes old now a b l (all_same field old now place h e)
