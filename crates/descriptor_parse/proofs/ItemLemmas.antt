use Rattle.std.proofs.lemmas.Grind.{common_steps}
use Rattle.std.proofs.Common.{◌≡◌, ℕ, zero, suc, ◌+◌, ◌-◌, ◌*◌, ◌/◌, ◌%◌, ◌^◌, ◌<◌, ◌≤◌, List, [], ◌∷◌, length, drop, refl, ap, ◌∙◌, arith, length-drop, cond}
use Rattle.std.specs.Prelude.{nat_lt, Result, Ok, Err, ◌==◌, slice_index, if◌then◌else◌}
use Rattle.std.proofs.lemmas.Bool.{le-ltb, cond_both}
use Rattle.descriptor_parse.specs.declared.fault.ParseError.{ParseError}
use Rattle.descriptor_parse.specs.declared.fault.ParseFault.TheVariants.{Truncated}
use Rattle.descriptor_parse.specs.Items.{ItemValue, data_size, item_size, front_item, first_items, items_at}

-- an item takes a byte at least
pub size_pos : (text : List ℕ) → 0 < item_size text
size_pos text = cond_both (slice_index text 0 == 254) (3 + slice_index text 1) (1 + data_size (slice_index text 0)) (λ n. 0 < n) (λ e. omega arith) (λ e. omega arith)

-- a shift gives the sizes 0, 1, 2 and 4
pub shifted : (n : ℕ) → n < 4 → 1 * 2 ^ n % 18446744073709551616 / 2 ≡ (if n == 3 then 4 else n)
shifted zero l = refl
shifted (suc zero) l = refl
shifted (suc (suc zero)) l = refl
shifted (suc (suc (suc zero))) l = refl
shifted (suc (suc (suc (suc n)))) l = absurd (omega arith)

pub shifted_few : (n : ℕ) → n < 4 → 1 * 2 ^ n % 18446744073709551616 / 2 ≤ 4
shifted_few zero l = omega arith
shifted_few (suc zero) l = omega arith
shifted_few (suc (suc zero)) l = omega arith
shifted_few (suc (suc (suc zero))) l = omega arith
shifted_few (suc (suc (suc (suc n)))) l = absurd (omega arith)

-- room for more items than there are bytes changes nothing
pub first_items_enough : (n m offset : ℕ) (text : List ℕ) → length text ≤ n → length text ≤ m → first_items n offset text ≡ first_items m offset text
unfolding first_items
first_items_enough zero zero offset text a b = refl
first_items_enough zero (suc m) offset [] a b = refl
first_items_enough zero (suc m) offset (x ∷ xs) a b = absurd (omega arith)
first_items_enough (suc n) zero offset [] a b = refl
first_items_enough (suc n) zero offset (x ∷ xs) a b = absurd (omega arith)
first_items_enough (suc n) (suc m) offset [] a b = refl
first_items_enough (suc n) (suc m) offset (x ∷ xs) a b =
    let some : 0 < item_size (x ∷ xs) = size_pos (x ∷ xs) in
    let size = item_size (x ∷ xs) in
    let shorter : length (drop size (x ∷ xs)) ≡ length (x ∷ xs) - size = length-drop size (x ∷ xs) in
    ap (λ more. cond (nat_lt (length (x ∷ xs)) size) (Err (record { fault = Truncated; offset = offset }) ∷ []) (Ok (front_item offset (x ∷ xs)) ∷ more))
    (first_items_enough n m (offset + size) (drop size (x ∷ xs)) (omega arith) (omega arith))

pub items_end : (offset : ℕ) → items_at offset [] ≡ []
unfolding items_at first_items
items_end offset = refl

-- a text that ends within its first item
pub items_short : (offset : ℕ) (text : List ℕ) → 0 < length text → length text < item_size text → items_at offset text ≡ Err (record { fault = Truncated; offset = offset }) ∷ []
unfolding items_at first_items
items_short offset text h1 h2 = grind (arith, common_steps)

-- a text that begins with a whole item
pub items_more : (offset : ℕ) (text : List ℕ) → 0 < length text → item_size text ≤ length text
    → items_at offset text ≡ Ok (front_item offset text) ∷ items_at (offset + item_size text) (drop (item_size text) text)
unfolding items_at first_items
items_more offset [] some whole = absurd (omega arith)
items_more offset (x ∷ xs) some whole =
    let size = item_size (x ∷ xs) in
    let pos : 0 < size = size_pos (x ∷ xs) in
    let shorter : length (drop size (x ∷ xs)) ≡ length (x ∷ xs) - size = length-drop size (x ∷ xs) in
    rw (le-ltb _ _ whole) (ap (λ more. Ok (front_item offset (x ∷ xs)) ∷ more)
    (first_items_enough (length xs) (length (drop size (x ∷ xs))) (offset + size) (drop size (x ∷ xs)) (omega arith) (omega arith)))

-- the same, of an item and a rest that are known by equations
pub items_next : (offset : ℕ) (text rest : List ℕ) (item : ItemValue) → 0 < length text → item_size text ≤ length text
    → rest ≡ drop (item_size text) text → item ≡ front_item offset text
    → items_at offset text ≡ Ok item ∷ items_at (offset + (length text - length rest)) rest
items_next offset text rest item some whole e f =
    let len : length rest ≡ length text - item_size text = ap length e ∙ length-drop (item_size text) text in
    let step : offset + (length text - length rest) ≡ offset + item_size text = omega arith in
    rw (step, e, f) (items_more offset text some whole)

-- an item fewer is to come
pub items_fewer : (all more : List (Result ItemValue ParseError)) (first : Result ItemValue ParseError) → all ≡ first ∷ more → length more < length all
items_fewer all more first e = let len : length all ≡ suc (length more) = ap length e in omega arith

pub items_none : (offset : ℕ) (text : List ℕ) → length text ≡ 0 → items_at offset text ≡ []
items_none offset [] e = items_end offset
items_none offset (x ∷ xs) e = absurd (omega arith)
