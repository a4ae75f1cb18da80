use Rattle.std.proofs.lemmas.Grind.{common_steps}
use Rattle.std.proofs.Common.{◌≡◌, ℕ, ◌+◌, ◌-◌, ◌*◌, ◌<◌, ◌≤◌, ◌^◌, ◌==◌, suc, zero, Bool, true, false, List, [], ◌∷◌, length, get_or, drop, map, arith, lit<, ◌++◌, sym, ◌∙◌, ap, refl, bit_and, bit_xor, w32, eqb, cond, if◌then◌else◌, ◌&&◌, inl, inr, zero-add}
use Rattle.std.specs.Int.{bit_at}
use Rattle.std.proofs.lemmas.Simd.{bit_mask_l, mask_l-lt, get_or_wider, get_or-chunk}
use Rattle.std.proofs.lemmas.List.{get_or-map, get_or-take, get_or-drop, length-map}
use Rattle.std.proofs.lemmas.Nat.Bits.{bit_at_not, bit_at_xor, bit_at_ones, bit_at-lt, same_from_bits_below}
use Rattle.std.proofs.lemmas.Nat.{and_comm, and_le_l, xor_of_32, pow_pos}
use Rattle.std.proofs.lemmas.Bool.Decides.{eqb_tells}
use Rattle.records.specs.Slots.{slot_of, first_half, second_half}
use Rattle.records.specs.Blocks.{slot_in, is_good, is_free}
use Rattle.records.specs.representation.Blocks.{number_at}
use Rattle.records.specs.declared.Slot.{Slot}
use Rattle.std.specs.Simd.Lanes.{zip2, pick_l, chunk, digits_l, number_l, mask_l, Each1}
use Rattle.std.proofs.lemmas.Simd.{pick_l_left, pick_l-range_with_len, length-chunk, length-zip2, get_or-zip2}
use Rattle.std.specs.List.{range_with_len}
use Rattle.std.proofs.lemmas.Bool.{cases_lt, ne_eqb}
use Rattle.records.specs.declared.Slot.TheVariants.{Free, Good, Spoiled}
use Rattle.records.proofs.SlotLemmas.{first_is, second_is}

-- two 32-bit numbers are complements where their XOR is all ones
xor_ones : (w c : ℕ) → w < 2 ^ 32 → c < 2 ^ 32 → bit_xor w c ≡ 2 ^ 32 - 1 → c ≡ 2 ^ 32 - 1 - w
xor_ones w c lw lc e =
    same_from_bits_below 32 c (2 ^ 32 - 1 - w) lc (omega arith)
    (λ i l.
    let o : bit_at (bit_xor w c) i ≡ 1 = rw e (bit_at_ones 32 i l) in
    let n : bit_at (2 ^ 32 - 1 - w) i ≡ 1 - bit_at w i = bit_at_not w32 w i lw l in
    omega (arith, o, n, bit_at_xor w c i, bit_at-lt w i, bit_at-lt c i))

complement_xor : (w c : ℕ) → w < 2 ^ 32 → c ≡ 2 ^ 32 - 1 - w → bit_xor w c ≡ 2 ^ 32 - 1
complement_xor w c lw e =
    same_from_bits_below 32 (bit_xor w c) (2 ^ 32 - 1) (xor_of_32 w c lw (omega arith)) (omega arith)
    (λ i l.
    let n : bit_at (2 ^ 32 - 1 - w) i ≡ 1 - bit_at w i = bit_at_not w32 w i lw l in
    let m : bit_at c i ≡ 1 - bit_at w i = rw e n in
    omega (arith, m, bit_at_ones 32 i l, bit_at_xor w c i, bit_at-lt w i, bit_at-lt c i))

-- and both are all ones where their AND is
and_ones : (w c : ℕ) → w < 2 ^ 32 → c < 2 ^ 32 → bit_and w c ≡ 2 ^ 32 - 1 → (w ≡ 2 ^ 32 - 1) × (c ≡ 2 ^ 32 - 1)
and_ones w c h1 h2 h3 = grind (arith, common_steps, and_le_l, and_comm)

ones_and_ones : bit_and (2 ^ 32 - 1) (2 ^ 32 - 1) ≡ 2 ^ 32 - 1
ones_and_ones = refl

-- 1 where a test passes
abbrev pub bit_of : Bool → ℕ
bit_of b = if b then 1 else 0

-- tests that are known
yes : (a b : ℕ) → a ≡ b → (a == b) ≡ true
yes a b e = elim (eqb_tells a b) [ inl t ↦ t.0 | inr t ↦ absurd (t.1 e) ]

-- the kind of a slot with the halves p and q
abbrev pub kind_of : ℕ → ℕ → Slot
kind_of p q = if (p == 2 ^ 32 - 1) && (q == 2 ^ 32 - 1) then Free else (if q == 2 ^ 32 - 1 - p then Good p else Spoiled)

not_both : (p q : ℕ) → q ≡ 2 ^ 32 - 1 - p → ((p == 2 ^ 32 - 1) && (q == 2 ^ 32 - 1)) ≡ false
not_both p q h1 = grind (arith, common_steps, eqb_tells, ne_eqb)

good_test : (x p q : ℕ) → (x ≡ 2 ^ 32 - 1 → q ≡ 2 ^ 32 - 1 - p) → (q ≡ 2 ^ 32 - 1 - p → x ≡ 2 ^ 32 - 1) → bit_of (x == 2 ^ 32 - 1) ≡ bit_of (is_good (kind_of p q))
good_test x p q h1 h2 = grind (arith, common_steps, eqb_tells, yes, not_both, ne_eqb)

free_test : (x p q : ℕ) → (x ≡ 2 ^ 32 - 1 → (p ≡ 2 ^ 32 - 1) × (q ≡ 2 ^ 32 - 1)) → (p ≡ 2 ^ 32 - 1 → q ≡ 2 ^ 32 - 1 → x ≡ 2 ^ 32 - 1) → bit_of (x == 2 ^ 32 - 1) ≡ bit_of (is_free (kind_of p q))
free_test x p q h1 h2 = grind (arith, common_steps, eqb_tells, yes, ne_eqb)

-- what the kernels test of the halves of a slot
pub good_by_xor : (p q : ℕ) → p < 2 ^ 32 → q < 2 ^ 32 → bit_of (bit_xor p q == 2 ^ 32 - 1) ≡ bit_of (is_good (kind_of p q))
good_by_xor p q lp lq = good_test (bit_xor p q) p q (λ e. xor_ones p q lp lq e) (λ e. complement_xor p q lp e)

pub free_by_and : (p q : ℕ) → p < 2 ^ 32 → q < 2 ^ 32 → bit_of (bit_and p q == 2 ^ 32 - 1) ≡ bit_of (is_free (kind_of p q))
free_by_and p q lp lq = free_test (bit_and p q) p q (λ e. and_ones p q lp lq e) (λ e f. rw (e, f) ones_and_ones)

-- a number of four bytes in lanes
number_four : (ys : List ℕ) → length ys ≡ 4 → number_l 256 ys ≡ number_at ys 0
number_four ys h1 = grind (arith, common_steps)

pub wide_lane : (xs : List ℕ) (j : ℕ) → length xs ≡ 64 → Each1 (λ x. x < 256) xs → j < 16 → get_or (digits_l (2 ^ 32) 16 (number_l 256 xs)) j 0 ≡ number_at xs (4 * j)
wide_lane xs j e each l =
    let ys : List ℕ = chunk (4 * j) 4 xs in
    let w : get_or (digits_l (2 ^ 32) 16 (number_l 256 xs)) j 0 ≡ number_l 256 ys = get_or_wider 256 4 (2 ^ 32) 16 xs j refl each l in
    let n : number_l 256 ys ≡ number_at ys 0 = number_four ys (length-chunk (4 * j) 4 xs (omega (arith, e))) in
    let z : get_or xs (4 * j + 0) 0 ≡ get_or xs (4 * j) 0 = ap (λ k. get_or xs k 0) (omega arith) in
    w ∙ n ∙ omega (arith, z, get_or-chunk (4 * j) 4 xs 0 0 (lit< tt), get_or-chunk (4 * j) 4 xs 1 0 (lit< tt), get_or-chunk (4 * j) 4 xs 2 0 (lit< tt), get_or-chunk (4 * j) 4 xs 3 0 (lit< tt))

-- the halves of a slot among others
in_slot : (xs : List ℕ) (i k m : ℕ) → k < 8 → 8 * i + k ≡ m → get_or (slot_in xs i) k 0 ≡ get_or xs m 0
in_slot xs i k m l e = get_or-take 8 (drop (8 * i) xs) k 0 l ∙ get_or-drop (8 * i) xs k 0 ∙ ap (λ n. get_or xs n 0) e

pub first_in : (xs : List ℕ) (i : ℕ) → first_half (slot_in xs i) ≡ number_at xs (4 * (2 * i))
first_in xs i =
    first_is (slot_in xs i) ∙ omega (arith, in_slot xs i 0 (4 * (2 * i)) (lit< tt) (omega arith), in_slot xs i 1 (4 * (2 * i) + 1) (lit< tt) (omega arith), in_slot xs i 2 (4 * (2 * i) + 2) (lit< tt) (omega arith), in_slot xs i 3 (4 * (2 * i) + 3) (lit< tt) (omega arith))

pub second_in : (xs : List ℕ) (i : ℕ) → second_half (slot_in xs i) ≡ number_at xs (4 * (2 * i + 1))
second_in xs i =
    second_is (slot_in xs i) ∙ omega (arith, in_slot xs i 4 (4 * (2 * i + 1)) (lit< tt) (omega arith), in_slot xs i 5 (4 * (2 * i + 1) + 1) (lit< tt) (omega arith), in_slot xs i 6 (4 * (2 * i + 1) + 2) (lit< tt) (omega arith), in_slot xs i 7 (4 * (2 * i + 1) + 3) (lit< tt) (omega arith))

pub kind_in : (xs : List ℕ) (i : ℕ) → slot_of (slot_in xs i) ≡ kind_of (number_at xs (4 * (2 * i))) (number_at xs (4 * (2 * i + 1)))
unfolding slot_of
kind_in xs i = rw (first_in xs i, second_in xs i) refl

-- every second lane
abbrev pub evens : List ℕ
evens = 0 ∷ 2 ∷ 4 ∷ 6 ∷ 8 ∷ 10 ∷ 12 ∷ 14 ∷ []

abbrev pub odds : List ℕ
odds = 1 ∷ 3 ∷ 5 ∷ 7 ∷ 9 ∷ 11 ∷ 13 ∷ 15 ∷ []

below_eight : (P : ℕ → Type 0) → P 0 → P 1 → P 2 → P 3 → P 4 → P 5 → P 6 → P 7 → (k : ℕ) → k < 8 → P k
below_eight P a b c d e f g h zero l = a
below_eight P a b c d e f g h (suc zero) l = b
below_eight P a b c d e f g h (suc (suc zero)) l = c
below_eight P a b c d e f g h (suc (suc (suc zero))) l = d
below_eight P a b c d e f g h (suc (suc (suc (suc zero)))) l = e
below_eight P a b c d e f g h (suc (suc (suc (suc (suc zero))))) l = f
below_eight P a b c d e f g h (suc (suc (suc (suc (suc (suc zero)))))) l = g
below_eight P a b c d e f g h (suc (suc (suc (suc (suc (suc (suc zero))))))) l = h
below_eight P a b c d e f g h (suc (suc (suc (suc (suc (suc (suc (suc k)))))))) l = absurd (omega arith)

pub paired_lane : (f : ℕ → ℕ → ℕ) (h : List ℕ) → length h ≡ 16 → (i : ℕ) → i < 8 → get_or (zip2 f (pick_l 0 (h ++ h) evens) (pick_l 0 (h ++ h) odds)) i 0 ≡ f (get_or h (2 * i) 0) (get_or h (2 * i + 1) 0)
paired_lane f h e i l =
    let a : pick_l 0 (h ++ h) evens ≡ pick_l 0 h evens = pick_l_left 0 h h 16 evens e tt in
    let b : pick_l 0 (h ++ h) odds ≡ pick_l 0 h odds = pick_l_left 0 h h 16 odds e tt in
    let P : ℕ → Type 0 = λ k. get_or (zip2 f (pick_l 0 h evens) (pick_l 0 h odds)) k 0 ≡ f (get_or h (2 * k) 0) (get_or h (2 * k + 1) 0) in
    ap (λ u. get_or (zip2 f u (pick_l 0 (h ++ h) odds)) i 0) a ∙ ap (λ u. get_or (zip2 f (pick_l 0 h evens) u) i 0) b ∙ below_eight P refl refl refl refl refl refl refl refl i l

-- the bits of a mask of lanes
pub lane_bit : (p : ℕ → Bool) (xs : List ℕ) (i : ℕ) → i < length xs → bit_at (mask_l (map p xs)) i ≡ bit_of (p (get_or xs i 0))
lane_bit p xs i l = bit_mask_l (map p xs) i ∙ ap (λ b. cond b 1 0) (get_or-map p xs i 0 false l)

pub number_bound : (xs : List ℕ) (at : ℕ) → ((k : ℕ) → get_or xs k 0 < 256) → number_at xs at < 2 ^ 32
number_bound xs at b = omega (arith, b at, b (at + 1), b (at + 2), b (at + 3))

-- FFh in each byte of an AND
pub and_byte : (a b : ℕ) → a < 256 → b < 256 → bit_and a b ≡ 255 → (a ≡ 255) × (b ≡ 255)
and_byte a b h1 h2 h3 = grind (arith, common_steps, and_le_l, and_comm)

ones_lt : (n : ℕ) → 2 ^ n - 1 < 2 ^ n
ones_lt n = let p = pow_pos n in omega arith

-- a mask of lanes that all pass
one_tells : (b : Bool) → bit_of b ≡ 1 → b ≡ true
one_tells b h1 = grind (arith, common_steps)

pub mask_full : (n : ℕ) (p : ℕ → Bool) (xs : List ℕ) → length xs ≡ n → mask_l (map p xs) ≡ 2 ^ n - 1 → (i : ℕ) → i < n → p (get_or xs i 0) ≡ true
mask_full n p xs e f i l =
    let o : bit_at (mask_l (map p xs)) i ≡ 1 = rw f (bit_at_ones n i l) in
    one_tells (p (get_or xs i 0)) (sym (lane_bit p xs i (omega (arith, e))) ∙ o)

pub full_mask : (n : ℕ) (p : ℕ → Bool) (xs : List ℕ) → length xs ≡ n → ((i : ℕ) → i < n → p (get_or xs i 0) ≡ true) → mask_l (map p xs) ≡ 2 ^ n - 1
full_mask n p xs e h =
    let long : length (map p xs) ≡ n = length-map xs p ∙ e in
    let b : mask_l (map p xs) < 2 ^ n = rw long at (mask_l-lt (map p xs)) in
    let o : 2 ^ n - 1 < 2 ^ n = ones_lt n in
    same_from_bits_below n (mask_l (map p xs)) (2 ^ n - 1) b o
    (λ i l. lane_bit p xs i (omega (arith, e)) ∙ ap bit_of (h i l) ∙ sym (bit_at_ones n i l))

-- the AND of four quarters, lane by lane
part : (h : List ℕ) (a : ℕ) → a + 16 ≤ length h → pick_l 0 (h ++ h) (range_with_len a 16) ≡ pick_l 0 h (range_with_len a 16) → pick_l 0 (h ++ h) (range_with_len a 16) ≡ chunk a 16 h
part h a room e = e ∙ pick_l-range_with_len 0 h a 16 room

abbrev anded : List ℕ → List ℕ → List ℕ → List ℕ → List ℕ
anded u v w x = zip2 bit_and (zip2 bit_and u v) (zip2 bit_and w x)

pub quarter_lane : (h : List ℕ) → length h ≡ 64 → (k : ℕ) → k < 16 → get_or (anded (pick_l 0 (h ++ h) (range_with_len 0 16)) (pick_l 0 (h ++ h) (range_with_len 16 16)) (pick_l 0 (h ++ h) (range_with_len 32 16)) (pick_l 0 (h ++ h) (range_with_len 48 16))) k 0 ≡ bit_and (bit_and (get_or h k 0) (get_or h (16 + k) 0)) (bit_and (get_or h (32 + k) 0) (get_or h (48 + k) 0))
quarter_lane h e k l =
    let a = part h 0 (omega (arith, e)) (pick_l_left 0 h h 64 (range_with_len 0 16) e tt) in
    let b = part h 16 (omega (arith, e)) (pick_l_left 0 h h 64 (range_with_len 16 16) e tt) in
    let c = part h 32 (omega (arith, e)) (pick_l_left 0 h h 64 (range_with_len 32 16) e tt) in
    let d = part h 48 (omega (arith, e)) (pick_l_left 0 h h 64 (range_with_len 48 16) e tt) in
    let u = chunk 0 16 h in
    let v = chunk 16 16 h in
    let w = chunk 32 16 h in
    let x = chunk 48 16 h in
    let lu : length u ≡ 16 = length-chunk 0 16 h (omega (arith, e)) in
    let lv : length v ≡ 16 = length-chunk 16 16 h (omega (arith, e)) in
    let lw : length w ≡ 16 = length-chunk 32 16 h (omega (arith, e)) in
    let lx : length x ≡ 16 = length-chunk 48 16 h (omega (arith, e)) in
    let uv : length (zip2 bit_and u v) ≡ 16 = length-zip2 bit_and u v (lu ∙ sym lv) ∙ lu in
    let wx : length (zip2 bit_and w x) ≡ 16 = length-zip2 bit_and w x (lw ∙ sym lx) ∙ lw in
    let left : get_or (zip2 bit_and u v) k 0 ≡ bit_and (get_or h k 0) (get_or h (16 + k) 0) = get_or-zip2 bit_and u v k 0 0 0 (omega (arith, lu)) (omega (arith, lv)) ∙ ap (λ n. bit_and n (get_or v k 0)) (get_or-chunk 0 16 h k 0 l ∙ ap (λ n. get_or h n 0) (zero-add k)) ∙ ap (λ n. bit_and (get_or h k 0) n) (get_or-chunk 16 16 h k 0 l) in
    let right : get_or (zip2 bit_and w x) k 0 ≡ bit_and (get_or h (32 + k) 0) (get_or h (48 + k) 0) = get_or-zip2 bit_and w x k 0 0 0 (omega (arith, lw)) (omega (arith, lx)) ∙ ap (λ n. bit_and n (get_or x k 0)) (get_or-chunk 32 16 h k 0 l) ∙ ap (λ n. bit_and (get_or h (32 + k) 0) n) (get_or-chunk 48 16 h k 0 l) in
    ap (λ y. get_or (anded y (pick_l 0 (h ++ h) (range_with_len 16 16)) (pick_l 0 (h ++ h) (range_with_len 32 16)) (pick_l 0 (h ++ h) (range_with_len 48 16))) k 0) a
    ∙ ap (λ y. get_or (anded u y (pick_l 0 (h ++ h) (range_with_len 32 16)) (pick_l 0 (h ++ h) (range_with_len 48 16))) k 0) b
    ∙ ap (λ y. get_or (anded u v y (pick_l 0 (h ++ h) (range_with_len 48 16))) k 0) c
    ∙ ap (λ y. get_or (anded u v w y) k 0) d
    ∙ get_or-zip2 bit_and (zip2 bit_and u v) (zip2 bit_and w x) k 0 0 0 (omega (arith, uv)) (omega (arith, wx))
    ∙ ap (λ n. bit_and n (get_or (zip2 bit_and w x) k 0)) left
    ∙ ap (λ n. bit_and (bit_and (get_or h k 0) (get_or h (16 + k) 0)) n) right

-- four bytes that are FFh, by their AND
pub and_four : (a b c d : ℕ) → a < 256 → b < 256 → c < 256 → d < 256 → bit_and (bit_and a b) (bit_and c d) ≡ 255 → (a ≡ 255) × (b ≡ 255) × (c ≡ 255) × (d ≡ 255)
and_four a b c d h1 h2 h3 h4 h5 = grind (arith, common_steps, and_byte, and_le_l)

-- each lane of 64, by its quarter
pub by_quarters : (h : List ℕ) → ((k : ℕ) → k < 16 → (get_or h k 0 ≡ 255) × (get_or h (16 + k) 0 ≡ 255) × (get_or h (32 + k) 0 ≡ 255) × (get_or h (48 + k) 0 ≡ 255)) → (m : ℕ) → m < 64 → get_or h m 0 ≡ 255
by_quarters h f m l =
    elim (cases_lt m 32) [
      | inl b ↦ elim (cases_lt m 16) [
        | inl b2 ↦ (f m b2).0
        | inr c ↦ (let e : 16 + (m - 16) ≡ m = omega arith in ap (λ n. get_or h n 0) (sym e) ∙ (f (m - 16) (omega arith)).1)
      ]
      | inr b ↦ elim (cases_lt m 48) [
        | inl b2 ↦ (let e : 32 + (m - 32) ≡ m = omega arith in ap (λ n. get_or h n 0) (sym e) ∙ (f (m - 32) (omega arith)).2)
        | inr c ↦ (let e : 48 + (m - 48) ≡ m = omega arith in ap (λ n. get_or h n 0) (sym e) ∙ (f (m - 48) (omega arith)).3)
      ]
    ]

pub eq_of_true : (a b : ℕ) → eqb a b ≡ true → a ≡ b
eq_of_true a b t = elim (eqb_tells a b) [ inl y ↦ y.1 | inr n ↦ cc ]

pub true_of_eq : (a b : ℕ) → a ≡ b → eqb a b ≡ true
true_of_eq a b e = yes a b e
