-- A scan is taken by pairs of rows.
use Rattle.std.proofs.Common.{◌≡◌, ℕ, zero, suc, ◌+◌, ◌-◌, ◌*◌, ◌<◌, ◌≤◌, ◌/◌, ◌%◌, ◌^◌, ◌==◌, ◌&&◌, min, not, Bool, true, false, List, [], ◌∷◌, length, get_or, refl, arith, ◌∙◌, sym, ap, subst, inl, inr, bit_and, bit_xor, w32}
use Rattle.std.specs.Int.{bit_at}
use Rattle.std.proofs.Math.ListN.{set}
use Rattle.std.proofs.lemmas.Bool.{cases_lt}
use Rattle.std.proofs.lemmas.List.{length-set, get_or-set_same, get_or-set_other}
use Rattle.std.proofs.lemmas.Nat.Bits.{bit_at_and, bit_at_xor, bit_at_not, bit_at-lt, bit_at_cat_low, bit_at_cat_high}
use Rattle.debounce.specs.declared.Scan.{Scan}
use Rattle.debounce.specs.declared.row.Row.{Row}
use Rattle.debounce.specs.Scans.{has}
use Rattle.debounce.specs.Samples.{samples, down, same, equal_latest}
use Rattle.debounce.specs.declared.row.Count.{Count}
use Rattle.debounce.specs.representation.Kept.{Kept, row_of}
use Rattle.debounce.specs.representation.Rows.{KeyRefines, Sampled, bits_of, parts, rows_of}
use Rattle.debounce.specs.representation.Relation.{Refines}
use Rattle.debounce.specs.representation.Counted.{Counted, IsCounted, Recounted, plane_bit}
use Rattle.debounce.specs.representation.Counted as counted

-- ---- the halves of a word

low_bit : (word i : ℕ) → i < 16 → bit_at (word % 65536) i ≡ bit_at word i
low_bit word i l =
    let whole : word / 65536 * 2 ^ 16 + word % 65536 ≡ word = omega arith in
    sym (bit_at_cat_low (word / 65536) 16 (word % 65536) i l) ∙ ap (λ (w : ℕ). bit_at w i) whole

high_bit : (word i : ℕ) → bit_at (word / 65536) i ≡ bit_at word (16 + i)
high_bit word i =
    let whole : word / 65536 * 2 ^ 16 + word % 65536 ≡ word = omega arith in
    let less : 16 + i - 16 ≡ i = omega arith in
    ap (λ (k : ℕ). bit_at (word / 65536) k) (sym less)
    ∙ sym (bit_at_cat_high (word / 65536) 16 (word % 65536) (16 + i) (omega arith) (omega arith)) ∙ ap (λ (w : ℕ). bit_at w (16 + i)) whole

-- the rows of a pair are the halves of a word
pub record AreHalves (rows : List ℕ) (pair word : ℕ) : Type 0 where
  pub low : get_or rows (2 * pair) 0 ≡ word % 65536
  pub high : get_or rows (2 * pair + 1) 0 ≡ word / 65536

pub half_bit : (rows : List ℕ) (pair word key : ℕ) → AreHalves rows pair word → key / 32 ≡ pair → bit_at (get_or rows (key / 16) 0) (key % 16) ≡ bit_at word (key % 32)
half_bit rows pair word key h at = elim (cases_lt (key % 32) 16) [
  | inl l ↦ (let r : key / 16 ≡ 2 * pair = omega arith in
      let c : key % 16 ≡ key % 32 = omega arith in
      rw (r, h.low, c) (low_bit word (key % 32) l))
  | inr m ↦ (let r : key / 16 ≡ 2 * pair + 1 = omega arith in
      let c : 16 + key % 16 ≡ key % 32 = omega arith in
      rw (r, h.high) (high_bit word (key % 16) ∙ ap (λ (k : ℕ). bit_at word k) c))
]

pub joined_halves : (rows : List ℕ) (pair low high : ℕ) → get_or rows (2 * pair) 0 ≡ low → get_or rows (2 * pair + 1) 0 ≡ high → low < 65536
    → AreHalves rows pair (low + 65536 * high)
joined_halves rows pair low high l h fits = record { low = l ∙ omega arith; high = h ∙ omega arith }

pub parts_first : (a b c : ℕ) → AreHalves (parts a b c) 0 a
parts_first a b c = record { low = refl; high = refl }

pub parts_second : (a b c : ℕ) → AreHalves (parts a b c) 1 b
parts_second a b c = record { low = refl; high = refl }

pub parts_third : (a b c : ℕ) → AreHalves (parts a b c) 2 c
parts_third a b c = record { low = refl; high = refl }

half_of : (words : List ℕ) (key pair word : ℕ) → key / 32 ≡ pair → get_or words pair 0 ≡ word → AreHalves (rows_of words) pair word
    → bit_at (get_or (rows_of words) (key / 16) 0) (key % 16) ≡ bit_at (get_or words (key / 32) 0) (key % 32)
half_of words key pair word at e h =
    half_bit (rows_of words) pair word key h at ∙ ap (λ (w : ℕ). bit_at w (key % 32)) (sym e) ∙ ap (λ (p : ℕ). bit_at (get_or words p 0) (key % 32)) (sym at)

of_word : (words : List ℕ) (key pair word : ℕ) → key / 32 ≡ pair → get_or words pair 0 ≡ word → AreHalves (rows_of words) pair word
    → (bit_at (get_or (rows_of words) (key / 16) 0) (key % 16) == 1) ≡ (bit_at (get_or words (key / 32) 0) (key % 32) == 1)
of_word words key pair word at e h = ap (λ (b : ℕ). b == 1) (half_of words key pair word at e h)

-- a scan by its rows
pub by_rows : (scan : Scan) (rows : List ℕ) (key : ℕ) → scan.rows ≡ rows → has scan key ≡ has (record { rows = rows }) key
unfolding has
by_rows scan rows key e = ap (λ (r : List ℕ). bit_at (get_or r (key / 16) 0) (key % 16) == 1) e

-- words of the rows of a scan
pub of_halves : (scan : Scan) (a b c key : ℕ) → ((key : ℕ) → key / 32 ≡ 0 → bit_at a (key % 32) ≡ bit_at (get_or scan.rows (key / 16) 0) (key % 16))
    → ((key : ℕ) → key / 32 ≡ 1 → bit_at b (key % 32) ≡ bit_at (get_or scan.rows (key / 16) 0) (key % 16))
    → ((key : ℕ) → key / 32 ≡ 2 → bit_at c (key % 32) ≡ bit_at (get_or scan.rows (key / 16) 0) (key % 16)) → key < 96
    → has (record { rows = rows_of (a ∷ b ∷ c ∷ []) }) key ≡ has scan key
unfolding has
of_halves scan a b c key x y z l = elim (cases_lt key 32) [
  | inl m ↦ (let e : key / 32 ≡ 0 = omega arith in
      ap (λ (n : ℕ). n == 1) (half_bit (rows_of (a ∷ b ∷ c ∷ [])) 0 a key (parts_first a b c) e ∙ x key e))
  | inr m ↦ elim (cases_lt key 64) [
    | inl n ↦ (let e : key / 32 ≡ 1 = omega arith in
        ap (λ (n : ℕ). n == 1) (half_bit (rows_of (a ∷ b ∷ c ∷ [])) 1 b key (parts_second a b c) e ∙ y key e))
    | inr n ↦ (let e : key / 32 ≡ 2 = omega arith in
        ap (λ (n : ℕ). n == 1) (half_bit (rows_of (a ∷ b ∷ c ∷ [])) 2 c key (parts_third a b c) e ∙ z key e))
  ]
]

-- the keys of three words
pub has_word : (words : List ℕ) (key : ℕ) → key < 96 → has (record { rows = rows_of words }) key ≡ (bit_at (get_or words (key / 32) 0) (key % 32) == 1)
unfolding has
has_word words key l = elim (cases_lt key 32) [
  | inl a ↦ of_word words key 0 (get_or words 0 0) (omega arith) refl (parts_first _ _ _)
  | inr a ↦ elim (cases_lt key 64) [
    | inl b ↦ of_word words key 1 (get_or words 1 0) (omega arith) refl (parts_second _ _ _)
    | inr b ↦ of_word words key 2 (get_or words 2 0) (omega arith) refl (parts_third _ _ _)
  ]
]

-- ---- a pair of rows

-- a pair of rows has had its sample, and its flips are those of its keys that changed
pub record PairFed (scan : Scan) (old new : Kept) (flips : List ℕ) (pair : ℕ) : Type 0 where
  pub sample : ℕ
  pub sample_is : (key : ℕ) → key / 32 ≡ pair → bit_at sample (key % 32) ≡ bit_at (get_or scan.rows (key / 16) 0) (key % 16)
  pub sampled : Sampled (row_of old pair) sample (row_of new pair)
  pub flips_are : get_or flips pair 0 ≡ bit_xor (get_or old.down pair 0) (get_or new.down pair 0)

-- the pairs below n have, and the others are as they were
pub record FedSoFar (scan : Scan) (old new : Kept) (flips : List ℕ) (n : ℕ) : Type 0 where
  pub size : length flips ≡ 3
  pub done : (pair : ℕ) → pair < n → PairFed scan old new flips pair
  pub rest : (pair : ℕ) → n ≤ pair → row_of new pair ≡ row_of old pair

pub fed_none : (scan : Scan) (old : Kept) (flips : List ℕ) → length flips ≡ 3 → FedSoFar scan old old flips 0
fed_none scan old flips e = record { size = e; done = λ pair l. absurd (omega arith); rest = λ pair l. refl }

pub fed_more : (scan : Scan) (old mid new : Kept) (flips : List ℕ) (n : ℕ) (before after : Row) (sample word : ℕ) → n < 3 → FedSoFar scan old mid flips n
    → before ≡ row_of mid n → ((key : ℕ) → key / 32 ≡ n → bit_at sample (key % 32) ≡ bit_at (get_or scan.rows (key / 16) 0) (key % 16))
    → Sampled before sample after → word ≡ bit_xor before.down after.down
    → row_of new n ≡ after → ((other : ℕ) → (other ≡ n → ⊥) → row_of new other ≡ row_of mid other) → FedSoFar scan old new (set flips n word) (n + 1)
fed_more scan old mid new flips n before after sample word l s was sample_is sampled word_is is others =
    let in_flips : n < length flips = omega (arith, s.size) in
    let was_old : before ≡ row_of old n = was ∙ s.rest n (omega arith) in
    record {
      size = length-set flips n word ∙ s.size;
      done = λ pair m. elim (cases_lt pair n) [
        | inl less ↦ (let p = s.done pair less in
            let same = others pair (λ e. omega arith) in
            record {
              sample = p.sample;
              sample_is = p.sample_is;
              sampled = subst (λ (r : Row). Sampled (row_of old pair) p.sample r) (sym same) p.sampled;
              flips_are = get_or-set_other flips n pair word 0 (λ e. omega arith) ∙ p.flips_are ∙ ap (λ (r : Row). bit_xor (get_or old.down pair 0) r.down) (sym same);
            })
        | inr more ↦ (let e : n ≡ pair = omega arith in
            subst (λ (k : ℕ). PairFed scan old new (set flips n word) k) e (record {
              sample = sample;
              sample_is = sample_is;
              sampled = subst (λ (r : Row). Sampled (row_of old n) sample r) (sym is) (subst (λ (r : Row). Sampled r sample after) was_old sampled);
              flips_are = get_or-set_same flips n word 0 in_flips ∙ word_is ∙ ap (λ (r : Row). bit_xor r.down after.down) was_old ∙ ap (λ (r : Row). bit_xor (get_or old.down n 0) r.down) (sym is);
            }))
      ];
      rest = λ pair m. others pair (λ e. omega arith) ∙ s.rest pair (omega arith);
    }

pub refines-fed : (scans : List Scan) (scan : Scan) (old new : Kept) (flips : List ℕ) (n : ℕ) → 3 ≤ n → FedSoFar scan old new flips n → Refines scans old → Refines (scan ∷ scans) new
unfolding has
refines-fed scans scan old new flips n all s h = record {
  each = λ key l. (let f = s.done (key / 32) (omega arith) in
      subst (λ (b : ℕ). KeyRefines ((b == 1) ∷ samples scans key) (bits_of (row_of new (key / 32)) (key % 32))) (f.sample_is key refl)
      (f.sampled.each (key % 32) (omega arith) (samples scans key) (h.each key l)));
}

-- ---- the keys that changed

two_of : (P : ℕ → Type 0) → P 0 → P 1 → (n : ℕ) → n < 2 → P n
two_of P a b zero l = a
two_of P a b (suc zero) l = b
two_of P a b (suc (suc n)) l = absurd (omega arith)

flip_test : (x y : ℕ) → x < 2 → y < 2 → ((x + y) % 2 == 1) ≡ not (same (x == 1) (y == 1))
flip_test x y l m =
    two_of (λ x. (y : ℕ) → y < 2 → ((x + y) % 2 == 1) ≡ not (same (x == 1) (y == 1)))
    (two_of (λ y. ((0 + y) % 2 == 1) ≡ not (same (0 == 1) (y == 1))) refl refl)
    (two_of (λ y. ((1 + y) % 2 == 1) ≡ not (same (1 == 1) (y == 1))) refl refl) x l y m

up_test : (f d : ℕ) → f < 2 → d < 2 → (min f (1 - d) == 1) ≡ ((f == 1) && not (d == 1))
up_test f d l m =
    two_of (λ f. (d : ℕ) → d < 2 → (min f (1 - d) == 1) ≡ ((f == 1) && not (d == 1)))
    (two_of (λ d. (min 0 (1 - d) == 1) ≡ ((0 == 1) && not (d == 1))) refl refl)
    (two_of (λ d. (min 1 (1 - d) == 1) ≡ ((1 == 1) && not (d == 1))) refl refl) f l d m

down_test : (f d : ℕ) → f < 2 → d < 2 → (min f d == 1) ≡ ((f == 1) && (d == 1))
down_test f d l m =
    two_of (λ f. (d : ℕ) → d < 2 → (min f d == 1) ≡ ((f == 1) && (d == 1)))
    (two_of (λ d. (min 0 d == 1) ≡ ((0 == 1) && (d == 1))) refl refl)
    (two_of (λ d. (min 1 d == 1) ≡ ((1 == 1) && (d == 1))) refl refl) f l d m

-- whether a key is down, by its bit
down_is : (scans : List Scan) (kept : Kept) (key : ℕ) → key < 96 → Refines scans kept → (bit_at (get_or kept.down (key / 32) 0) (key % 32) == 1) ≡ down scans key
unfolding down
down_is scans kept key l h = (h.each key l).down

pub flips-fed : (scans : List Scan) (scan : Scan) (old new : Kept) (flips : List ℕ) (n key : ℕ) → 3 ≤ n → FedSoFar scan old new flips n → Refines scans old → key < 96
    → has (record { rows = rows_of flips }) key ≡ not (same (down scans key) (down (scan ∷ scans) key))
flips-fed scans scan old new flips n key all s h l =
    let f = s.done (key / 32) (omega arith) in
    let x = get_or old.down (key / 32) 0 in
    let y = get_or new.down (key / 32) 0 in
    has_word flips key l
    ∙ rw (f.flips_are, bit_at_xor x y (key % 32), ← down_is scans old key l h, ← down_is (scan ∷ scans) new key l (refines-fed scans scan old new flips n all s h))
    (flip_test (bit_at x (key % 32)) (bit_at y (key % 32)) (bit_at-lt x (key % 32)) (bit_at-lt y (key % 32)))

-- the words of those that are up, and of those that are down
abbrev ups : List ℕ → List ℕ → ℕ → ℕ
ups flips downs pair = bit_and (get_or flips pair 0) (4294967295 - get_or downs pair 0)

abbrev downs_of : List ℕ → List ℕ → ℕ → ℕ
downs_of flips downs pair = bit_and (get_or flips pair 0) (get_or downs pair 0)

three_of : (P : ℕ → ℕ → Type 0) (a b c : ℕ) → P 0 a → P 1 b → P 2 c → (pair : ℕ) → pair < 3 → P pair (get_or (a ∷ b ∷ c ∷ []) pair 0)
three_of P a b c x y z zero l = x
three_of P a b c x y z (suc zero) l = y
three_of P a b c x y z (suc (suc zero)) l = z
three_of P a b c x y z (suc (suc (suc n))) l = absurd (omega arith)

fits_at : (words : List ℕ) → get_or words 0 0 < 2 ^ 32 → get_or words 1 0 < 2 ^ 32 → get_or words 2 0 < 2 ^ 32 → (pair : ℕ) → pair < 3 → get_or words pair 0 < 2 ^ 32
fits_at words x y z zero l = x
fits_at words x y z (suc zero) l = y
fits_at words x y z (suc (suc zero)) l = z
fits_at words x y z (suc (suc (suc n))) l = absurd (omega arith)

pub released-of : (scans : List Scan) (kept : Kept) (flips : List ℕ) (set result : Scan) (key : ℕ) → set.rows ≡ rows_of flips
    → result.rows ≡ rows_of (ups flips kept.down 0 ∷ ups flips kept.down 1 ∷ ups flips kept.down 2 ∷ []) → get_or kept.down 0 0 < 2 ^ 32 → get_or kept.down 1 0 < 2 ^ 32 → get_or kept.down 2 0 < 2 ^ 32
    → Refines scans kept → key < 96
    → has result key ≡ (has set key && not (down scans key))
released-of scans kept flips set result key e r x0 x1 x2 h l =
    let x = get_or flips (key / 32) 0 in
    let d = get_or kept.down (key / 32) 0 in
    let words = ups flips kept.down 0 ∷ ups flips kept.down 1 ∷ ups flips kept.down 2 ∷ [] in
    let is : get_or words (key / 32) 0 ≡ ups flips kept.down (key / 32) =
    three_of (λ pair word. word ≡ ups flips kept.down pair) (ups flips kept.down 0) (ups flips kept.down 1) (ups flips kept.down 2) refl refl refl (key / 32) (omega arith) in
    by_rows result (rows_of words) key r
    ∙ has_word words key l
    ∙ rw (is, by_rows set (rows_of flips) key e, has_word flips key l, ← down_is scans kept key l h, bit_at_and x (4294967295 - d) (key % 32), bit_at_not w32 d (key % 32) (fits_at kept.down x0 x1 x2 (key / 32) (omega arith)) (omega arith))
    (up_test (bit_at x (key % 32)) (bit_at d (key % 32)) (bit_at-lt x (key % 32)) (bit_at-lt d (key % 32)))

pub pressed-of : (scans : List Scan) (kept : Kept) (flips : List ℕ) (set result : Scan) (key : ℕ) → set.rows ≡ rows_of flips
    → result.rows ≡ rows_of (downs_of flips kept.down 0 ∷ downs_of flips kept.down 1 ∷ downs_of flips kept.down 2 ∷ []) → Refines scans kept → key < 96
    → has result key ≡ (has set key && down scans key)
pressed-of scans kept flips set result key e r h l =
    let x = get_or flips (key / 32) 0 in
    let d = get_or kept.down (key / 32) 0 in
    let words = downs_of flips kept.down 0 ∷ downs_of flips kept.down 1 ∷ downs_of flips kept.down 2 ∷ [] in
    let is : get_or words (key / 32) 0 ≡ downs_of flips kept.down (key / 32) =
    three_of (λ pair word. word ≡ downs_of flips kept.down pair) (downs_of flips kept.down 0) (downs_of flips kept.down 1) (downs_of flips kept.down 2) refl refl refl (key / 32) (omega arith) in
    by_rows result (rows_of words) key r
    ∙ has_word words key l
    ∙ rw (is, by_rows set (rows_of flips) key e, has_word flips key l, ← down_is scans kept key l h, bit_at_and x d (key % 32))
    (down_test (bit_at x (key % 32)) (bit_at d (key % 32)) (bit_at-lt x (key % 32)) (bit_at-lt d (key % 32)))

-- the edges of the keys that changed
pub was_down : (was is f : Bool) → f ≡ not (same was is) → (f && not is) ≡ (was && not is)
was_down true true f e = rw e refl
was_down true false f e = rw e refl
was_down false true f e = rw e refl
was_down false false f e = rw e refl

pub is_down_now : (was is f : Bool) → f ≡ not (same was is) → (f && is) ≡ (is && not was)
is_down_now true true f e = rw e refl
is_down_now true false f e = rw e refl
is_down_now false true f e = rw e refl
is_down_now false false f e = rw e refl

-- ---- the planes

pub planes-refine : (scans : List Scan) (kept : Counted) (plane key : ℕ) → counted.Refines scans kept → plane < 3 → key < 96
    → plane_bit kept.planes plane key ≡ bit_at (equal_latest (samples scans key)) plane
planes-refine scans kept zero key h p l = (h.each key l).ones
planes-refine scans kept (suc zero) key h p l = (h.each key l).twos
planes-refine scans kept (suc (suc zero)) key h p l = (h.each key l).fours
planes-refine scans kept (suc (suc (suc n))) key h p l = absurd (omega arith)

-- a pair of rows is counted
pub pair-counted : (past : List Bool) (kept : Counted) (scan : Scan) (key latest sample : ℕ) (before after : Count) → Recounted before latest sample after
    → bit_at before.ones (key % 32) ≡ plane_bit kept.planes 0 key → bit_at before.twos (key % 32) ≡ plane_bit kept.planes 1 key → bit_at before.fours (key % 32) ≡ plane_bit kept.planes 2 key
    → bit_at latest (key % 32) ≡ bit_at (get_or kept.latest.rows (key / 16) 0) (key % 16) → bit_at sample (key % 32) ≡ bit_at (get_or scan.rows (key / 16) 0) (key % 16)
    → IsCounted past (has kept.latest key) (plane_bit kept.planes 0 key) (plane_bit kept.planes 1 key) (plane_bit kept.planes 2 key)
    → IsCounted (has scan key ∷ past) (has scan key) (bit_at after.ones (key % 32)) (bit_at after.twos (key % 32)) (bit_at after.fours (key % 32))
unfolding has
pair-counted past kept scan key latest sample before after r o t f l s h =
    rw s at (r.each (key % 32) (omega arith) past (rw (o, t, f, l) h))

-- three pairs are the planes
pub all-counted : (P : ℕ → ℕ → ℕ → Type 0) (a b c : Count) (key : ℕ) → key < 96 → (key / 32 ≡ 0 → P (bit_at a.ones (key % 32)) (bit_at a.twos (key % 32)) (bit_at a.fours (key % 32)))
    → (key / 32 ≡ 1 → P (bit_at b.ones (key % 32)) (bit_at b.twos (key % 32)) (bit_at b.fours (key % 32)))
    → (key / 32 ≡ 2 → P (bit_at c.ones (key % 32)) (bit_at c.twos (key % 32)) (bit_at c.fours (key % 32)))
    → P (bit_at (get_or (parts a.ones b.ones c.ones) (key / 16) 0) (key % 16)) (bit_at (get_or (parts a.twos b.twos c.twos) (key / 16) 0) (key % 16)) (bit_at (get_or (parts a.fours b.fours c.fours) (key / 16) 0) (key % 16))
all-counted P a b c key l x y z = elim (cases_lt key 32) [
  | inl m ↦ (let e : key / 32 ≡ 0 = omega arith in
      rw (half_bit (parts a.ones b.ones c.ones) 0 a.ones key (parts_first a.ones b.ones c.ones) e, half_bit (parts a.twos b.twos c.twos) 0 a.twos key (parts_first a.twos b.twos c.twos) e, half_bit (parts a.fours b.fours c.fours) 0 a.fours key (parts_first a.fours b.fours c.fours) e) (x e))
  | inr m ↦ elim (cases_lt key 64) [
    | inl n ↦ (let e : key / 32 ≡ 1 = omega arith in
        rw (half_bit (parts a.ones b.ones c.ones) 1 b.ones key (parts_second a.ones b.ones c.ones) e, half_bit (parts a.twos b.twos c.twos) 1 b.twos key (parts_second a.twos b.twos c.twos) e, half_bit (parts a.fours b.fours c.fours) 1 b.fours key (parts_second a.fours b.fours c.fours) e) (y e))
    | inr n ↦ (let e : key / 32 ≡ 2 = omega arith in
        rw (half_bit (parts a.ones b.ones c.ones) 2 c.ones key (parts_third a.ones b.ones c.ones) e, half_bit (parts a.twos b.twos c.twos) 2 c.twos key (parts_third a.twos b.twos c.twos) e, half_bit (parts a.fours b.fours c.fours) 2 c.fours key (parts_third a.fours b.fours c.fours) e) (z e))
  ]
]
