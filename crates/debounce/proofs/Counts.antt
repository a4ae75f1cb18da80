-- The two counts of a key, of equal samples and of unlike ones, and what one more sample makes of them.
use Rattle.std.proofs.Common.{◌≡◌, ℕ, zero, suc, ◌+◌, ◌-◌, ◌<◌, ◌≤◌, ◌%◌, ◌==◌, min, max, not, Bool, true, false, List, [], ◌∷◌, refl, arith, ◌∙◌, sym, ap, nat_le, inl, inr}
use Rattle.std.specs.Int.{bit_at}
use Rattle.std.proofs.lemmas.Bool.{cases_lt}
use Rattle.std.proofs.lemmas.Bool.Decides.{nat_tests}
use Rattle.debounce.specs.Samples.{run_of, debounced, equal_latest}
use Rattle.debounce.specs.representation.Counted.{IsCounted}
use Rattle.debounce.specs.representation.Rows.{KeyBits, KeyRefines, unlike}

pub le_test : (a b : ℕ) → a ≤ b → nat_le a b ≡ true
le_test a b l = grind (arith, nat_tests)

pub gt_test : (a b : ℕ) → b < a → nat_le a b ≡ false
gt_test a b l = grind (arith, nat_tests)

to_five : (P : ℕ → Type 0) → P 0 → P 1 → P 2 → P 3 → P 4 → P 5 → (n : ℕ) → n ≤ 5 → P n
to_five P a b c d e f zero l = a
to_five P a b c d e f (suc zero) l = b
to_five P a b c d e f (suc (suc zero)) l = c
to_five P a b c d e f (suc (suc (suc zero))) l = d
to_five P a b c d e f (suc (suc (suc (suc zero)))) l = e
to_five P a b c d e f (suc (suc (suc (suc (suc zero))))) l = f
to_five P a b c d e f (suc (suc (suc (suc (suc (suc n)))))) l = absurd (omega arith)

below_two : (P : ℕ → Type 0) → P 0 → P 1 → (n : ℕ) → n < 2 → P n
below_two P a b zero l = a
below_two P a b (suc zero) l = b
below_two P a b (suc (suc n)) l = absurd (omega arith)

-- the bits of a count after one sample more, which differs from the one before where `changed` is 1
abbrev pub ones_after : ℕ → ℕ → ℕ → ℕ
ones_after ones fours changed = max (max (1 - ones) fours) changed

abbrev pub twos_after : ℕ → ℕ → ℕ → ℕ → ℕ
twos_after ones twos fours changed = min (min ((twos + ones) % 2) (1 - fours)) (1 - changed)

abbrev pub fours_after : ℕ → ℕ → ℕ → ℕ → ℕ
fours_after ones twos fours changed = min (max fours (min twos ones)) (1 - changed)

record IsCount (n ones twos fours : ℕ) : Type 0 where
  pub first : ones ≡ bit_at n 0
  pub second : twos ≡ bit_at n 1
  pub third : fours ≡ bit_at n 2

counts_up : (n : ℕ) → n ≤ 5 → IsCount (min 5 (n + 1)) (ones_after (bit_at n 0) (bit_at n 2) 0) (twos_after (bit_at n 0) (bit_at n 1) (bit_at n 2) 0) (fours_after (bit_at n 0) (bit_at n 1) (bit_at n 2) 0)
counts_up =
    to_five (λ n. IsCount (min 5 (n + 1)) (ones_after (bit_at n 0) (bit_at n 2) 0) (twos_after (bit_at n 0) (bit_at n 1) (bit_at n 2) 0) (fours_after (bit_at n 0) (bit_at n 1) (bit_at n 2) 0))
    (record { first = refl; second = refl; third = refl })
    (record { first = refl; second = refl; third = refl })
    (record { first = refl; second = refl; third = refl })
    (record { first = refl; second = refl; third = refl })
    (record { first = refl; second = refl; third = refl })
    (record { first = refl; second = refl; third = refl })

starts_again : (n : ℕ) → n ≤ 5 → IsCount 1 (ones_after (bit_at n 0) (bit_at n 2) 1) (twos_after (bit_at n 0) (bit_at n 1) (bit_at n 2) 1) (fours_after (bit_at n 0) (bit_at n 1) (bit_at n 2) 1)
starts_again =
    to_five (λ n. IsCount 1 (ones_after (bit_at n 0) (bit_at n 2) 1) (twos_after (bit_at n 0) (bit_at n 1) (bit_at n 2) 1) (fours_after (bit_at n 0) (bit_at n 1) (bit_at n 2) 1))
    (record { first = refl; second = refl; third = refl })
    (record { first = refl; second = refl; third = refl })
    (record { first = refl; second = refl; third = refl })
    (record { first = refl; second = refl; third = refl })
    (record { first = refl; second = refl; third = refl })
    (record { first = refl; second = refl; third = refl })

-- the count of the latest equal samples
pub equal_latest-run : (x : Bool) (past : List Bool) → run_of (not x) past ≡ 0 → equal_latest past ≡ min 5 (run_of x past)
unfolding equal_latest
equal_latest-run x [] e = refl
equal_latest-run true (true ∷ past) e = refl
equal_latest-run false (false ∷ past) e = refl
equal_latest-run true (false ∷ past) e = absurd (omega arith)
equal_latest-run false (true ∷ past) e = absurd (omega arith)

pub equal_latest-cons : (x : Bool) (past : List Bool) → equal_latest (x ∷ past) ≡ min 5 (run_of x past + 1)
unfolding equal_latest
equal_latest-cons true past = refl
equal_latest-cons false past = refl

pub equal_latest-le : (past : List Bool) → equal_latest past ≤ 5
unfolding equal_latest
equal_latest-le [] = omega arith
equal_latest-le (x ∷ past) = omega arith

pub run_of-same : (x : Bool) (past : List Bool) → run_of x (x ∷ past) ≡ run_of x past + 1
run_of-same true past = refl
run_of-same false past = refl

pub run_of-other : (x : Bool) (past : List Bool) → run_of (not x) (x ∷ past) ≡ 0
run_of-other true past = refl
run_of-other false past = refl

-- a full run decides
pub debounced_run : (x : Bool) (past : List Bool) → 5 ≤ run_of x past → debounced past ≡ x
unfolding debounced
debounced_run x [] l = absurd (omega arith)
debounced_run true (true ∷ past) l = rw (le_test 5 (run_of true past + 1) l) refl
debounced_run true (false ∷ past) l = absurd (omega arith)
debounced_run false (true ∷ past) l = absurd (omega arith)
debounced_run false (false ∷ past) l = rw (le_test 5 (run_of false past + 1) l) refl

-- a run too short decides nothing
pub debounced_short : (x : Bool) (past : List Bool) → run_of x (x ∷ past) < 5 → debounced (x ∷ past) ≡ debounced past
unfolding debounced
debounced_short x past l = rw (gt_test 5 (run_of x (x ∷ past)) l) refl

-- ---- equal samples

more : (x : Bool) (past : List Bool) (latest : Bool) (ones twos fours : ℕ) → x ≡ latest → IsCounted past latest ones twos fours
    → IsCounted (x ∷ past) x (ones_after ones fours 0) (twos_after ones twos fours 0) (fours_after ones twos fours 0)
more x past latest ones twos fours e h =
    let none : run_of (not x) past ≡ 0 = rw e h.other in
    let n : equal_latest (x ∷ past) ≡ min 5 (equal_latest past + 1) = omega (arith, equal_latest-cons x past, equal_latest-run x past none) in
    let c = counts_up (equal_latest past) (equal_latest-le past) in
    rw (h.ones, h.twos, h.fours) (record { other = run_of-other x past; ones = rw n c.first; twos = rw n c.second; fours = rw n c.third })

again : (x : Bool) (past : List Bool) (latest : Bool) (ones twos fours : ℕ) → x ≡ not latest → IsCounted past latest ones twos fours
    → IsCounted (x ∷ past) x (ones_after ones fours 1) (twos_after ones twos fours 1) (fours_after ones twos fours 1)
again x past latest ones twos fours e h =
    let none : run_of x past ≡ 0 = rw e h.other in
    let n : equal_latest (x ∷ past) ≡ 1 = omega (arith, equal_latest-cons x past) in
    let c = starts_again (equal_latest past) (equal_latest-le past) in
    rw (h.ones, h.twos, h.fours) (record { other = run_of-other x past; ones = rw n c.first; twos = rw n c.second; fours = rw n c.third })

-- with the bits of two samples
pub counted-after : (past : List Bool) (s l ones twos fours : ℕ) → s < 2 → l < 2 → IsCounted past (l == 1) ones twos fours
    → IsCounted ((s == 1) ∷ past) (s == 1) (ones_after ones fours ((s + l) % 2)) (twos_after ones twos fours ((s + l) % 2)) (fours_after ones twos fours ((s + l) % 2))
counted-after past s l ones twos fours =
    let P : ℕ → ℕ → Type 0 = λ s l. IsCounted past (l == 1) ones twos fours
    → IsCounted ((s == 1) ∷ past) (s == 1) (ones_after ones fours ((s + l) % 2)) (twos_after ones twos fours ((s + l) % 2)) (fours_after ones twos fours ((s + l) % 2)) in
    λ ls ll. below_two (λ s. P s l)
    (below_two (λ l. P 0 l) (more false past false ones twos fours refl) (again false past true ones twos fours refl) l ll)
    (below_two (λ l. P 1 l) (again true past false ones twos fours refl) (more true past true ones twos fours refl) l ll) s ls

-- ---- unlike samples

not_self : (x : Bool) → x ≡ not x → ⊥
not_self true e = cc
not_self false e = cc

twice : (x : Bool) → not (not x) ≡ x
twice true = refl
twice false = refl

unlike-le : (past : List Bool) → unlike past ≤ 4
unlike-le past = elim (cases_lt (unlike past) 5) [
  | inl l ↦ omega arith
  | inr m ↦ absurd (not_self (debounced past) (debounced_run (not (debounced past)) past m))
]

-- a sample like the value
like-debounced : (x : Bool) (past : List Bool) → debounced past ≡ x → debounced (x ∷ past) ≡ x
like-debounced x past e = elim (cases_lt (run_of x (x ∷ past)) 5) [
  | inl short ↦ debounced_short x past short ∙ e
  | inr full ↦ debounced_run x (x ∷ past) full
]

like-none : (x : Bool) (past : List Bool) → debounced past ≡ x → unlike (x ∷ past) ≡ 0
like-none x past e = ap (λ (y : Bool). run_of (not y) (x ∷ past)) (like-debounced x past e) ∙ run_of-other x past

like : (x : Bool) (past : List Bool) (down : ℕ) → (down == 1) ≡ x → debounced past ≡ x
    → KeyRefines (x ∷ past) (record { first = 0; second = 0; third = 0; down = down })
like x past down d e =
    let n = like-none x past e in
    record { first = rw n refl; second = rw n refl; third = rw n refl; down = d ∙ sym (like-debounced x past e) }

-- an unlike one
abbrev pub first_after : ℕ → ℕ → ℕ
first_after third unlike = min unlike (1 - third)

abbrev pub second_after : ℕ → ℕ → ℕ
second_after first unlike = min unlike first

abbrev pub third_after : ℕ → ℕ → ℕ → ℕ
third_after first second unlike = min (min unlike first) second

abbrev pub fifth : ℕ → ℕ → ℕ → ℕ
fifth first second unlike = min (min unlike second) (1 - first)

abbrev pub after : KeyBits → ℕ → KeyBits
after key unlike = record {
  first = first_after key.third unlike;
  second = second_after key.first unlike;
  third = third_after key.first key.second unlike;
  down = (key.down + fifth key.first key.second unlike) % 2;
}

record IsNext (n m f : ℕ) : Type 0 where
  pub first : first_after (bit_at 0b11000 n) 1 ≡ bit_at 0b01110 m
  pub second : second_after (bit_at 0b01110 n) 1 ≡ bit_at 0b11100 m
  pub third : third_after (bit_at 0b01110 n) (bit_at 0b11100 n) 1 ≡ bit_at 0b11000 m
  pub fifth : fifth (bit_at 0b01110 n) (bit_at 0b11100 n) 1 ≡ f

next : (n : ℕ) → n < 4 → IsNext n (n + 1) 0
next zero l = record { first = refl; second = refl; third = refl; fifth = refl }
next (suc zero) l = record { first = refl; second = refl; third = refl; fifth = refl }
next (suc (suc zero)) l = record { first = refl; second = refl; third = refl; fifth = refl }
next (suc (suc (suc zero))) l = record { first = refl; second = refl; third = refl; fifth = refl }
next (suc (suc (suc (suc n)))) l = absurd (omega arith)

last : IsNext 4 0 1
last = record { first = refl; second = refl; third = refl; fifth = refl }

-- the value that an unlike sample leaves, and the count
unlike-run : (x : Bool) (past : List Bool) → debounced past ≡ not x → unlike past ≡ run_of x past
unlike-run x past e = ap (λ (y : Bool). run_of y past) (ap not e ∙ twice x)

unlike-short : (x : Bool) (past : List Bool) → debounced past ≡ not x → unlike past < 4 → debounced (x ∷ past) ≡ not x
unlike-short x past e l =
    let n : unlike past ≡ run_of x past = unlike-run x past e in
    debounced_short x past (rw (run_of-same x past) (omega arith)) ∙ e

short-count : (x : Bool) (past : List Bool) → debounced past ≡ not x → unlike past < 4 → unlike (x ∷ past) ≡ unlike past + 1
short-count x past e l =
    ap (λ (y : Bool). run_of (not y) (x ∷ past)) (unlike-short x past e l) ∙ ap (λ (y : Bool). run_of y (x ∷ past)) (twice x) ∙ run_of-same x past
    ∙ ap (λ (n : ℕ). n + 1) (sym (unlike-run x past e))

unlike-full : (x : Bool) (past : List Bool) → debounced past ≡ not x → 4 ≤ unlike past → debounced (x ∷ past) ≡ x
unlike-full x past e l =
    let n : unlike past ≡ run_of x past = unlike-run x past e in
    debounced_run x (x ∷ past) (rw (run_of-same x past) (omega arith))

full-count : (x : Bool) (past : List Bool) → debounced past ≡ not x → 4 ≤ unlike past → unlike (x ∷ past) ≡ 0
full-count x past e l = ap (λ (y : Bool). run_of (not y) (x ∷ past)) (unlike-full x past e l) ∙ run_of-other x past

is_next : (x : Bool) (past : List Bool) (key : KeyBits) (m f : ℕ) → KeyRefines past key → unlike (x ∷ past) ≡ m → IsNext (unlike past) m f
    → ((key.down + f) % 2 == 1) ≡ debounced (x ∷ past) → KeyRefines (x ∷ past) (after key 1)
is_next x past key m f h e n d = rw (h.first, h.second, h.third) (record {
  first = rw e n.first;
  second = rw e n.second;
  third = rw e n.third;
  down = rw n.fifth d;
})

unlike-after : (x : Bool) (past : List Bool) (key : KeyBits) → debounced past ≡ not x → ((key.down + 0) % 2 == 1) ≡ not x → ((key.down + 1) % 2 == 1) ≡ x
    → KeyRefines past key → KeyRefines (x ∷ past) (after key 1)
unlike-after x past key e kept turned h = elim (cases_lt (unlike past) 4) [
  | inl l ↦ is_next x past key (unlike past + 1) 0 h (short-count x past e l) (next (unlike past) l) (kept ∙ sym (unlike-short x past e l))
  | inr m ↦ (let four : unlike past ≡ 4 = omega (arith, unlike-le past) in
      is_next x past key 0 1 h (full-count x past e m) (rw four last) (turned ∙ sym (unlike-full x past e m)))
]

least : (n : ℕ) → min 0 n ≡ 0
least n = omega arith

like-after : (x : Bool) (past : List Bool) (key : KeyBits) → debounced past ≡ x → ((key.down + 0) % 2 == 1) ≡ x → KeyRefines (x ∷ past) (after key 0)
like-after x past key e kept = rw (least (1 - key.third), least key.first, least key.second, least (1 - key.first)) (like x past ((key.down + 0) % 2) kept e)

-- with the bits as the row's words have them
pub after_sample : (past : List Bool) (key : KeyBits) (s : ℕ) → s < 2 → key.down < 2 → KeyRefines past key → KeyRefines ((s == 1) ∷ past) (after key ((s + key.down) % 2))
after_sample past key s =
    let P : ℕ → ℕ → Type 0 = λ s d. key.down ≡ d → KeyRefines past key → KeyRefines ((s == 1) ∷ past) (after key ((s + d) % 2)) in
    λ ls ld h. (let p = below_two (λ s. P s key.down)
    (below_two (λ d. P 0 d)
    (λ e h. like-after false past key (sym h.down ∙ rw e refl) (rw e refl))
    (λ e h. unlike-after false past key (sym h.down ∙ rw e refl) (rw e refl) (rw e refl) h) key.down ld)
    (below_two (λ d. P 1 d)
    (λ e h. unlike-after true past key (sym h.down ∙ rw e refl) (rw e refl) (rw e refl) h)
    (λ e h. like-after true past key (sym h.down ∙ rw e refl) (rw e refl)) key.down ld) s ls in p refl h)
