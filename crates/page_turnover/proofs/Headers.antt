use Rattle.std.proofs.Common.{◌≡◌, ◌∙◌, ℕ, ◌+◌, ◌*◌, ◌/◌, ◌%◌, ◌^◌, ◌≤◌, ◌<◌, ◌⊎◌, suc, zero, Bool, true, false, ◌==◌, ◌||◌, if◌then◌else◌, List, Option, Some, None, refl, arith, sym, ap, subst, inl, inr, MatchOption, nat_lt}
use Rattle.std.specs.Prelude.{⊤}
use Rattle.std.proofs.lemmas.Bool.{cases_lt}
use Rattle.std.proofs.lemmas.Bool.Decides.{nat_tests}
use Rattle.records.specs.declared.Slot.{Slot}
use Rattle.records.specs.declared.Slot.TheVariants.{Free, Good, Spoiled}
use Rattle.records.specs.Slots.{slot_of}
use Rattle.flash_model.specs.Image.{slot_at, page_count}
use Rattle.page_turnover.specs.Header.{HasHeader, IsFormat, header_word, header_of, format_of}
use Rattle.page_turnover.specs.Active.{IsNewest, IsActive, NoneActive, HasFormat, newer, newest, active, format, format_on}

some_if : (a b : Bool) (x y : ℕ) → (if a || b then Some x else None) ≡ Some y → ((a ≡ true) ⊎ (b ≡ true)) × (x ≡ y)
some_if true b x y e = (inl refl, cc)
some_if false true x y e = (inr refl, cc)
some_if false false x y e = cc

eq_of : (a b : ℕ) → (a == b) ≡ true → a ≡ b
eq_of a b e = grind (arith, nat_tests)

word_of_parts : (word format seq : ℕ) → word / 2 ^ 28 ≡ format → word % 2 ^ 28 ≡ seq → word ≡ format * 2 ^ 28 + seq
word_of_parts word format seq e f = omega arith

-- a number read from a header is that of its word
pub header_of_some : (slot : Slot) (seq : ℕ) → header_of slot ≡ Some seq → (seq < 2 ^ 28) × ((slot ≡ Good (header_word 1 seq)) ⊎ (slot ≡ Good (header_word 2 seq)))
unfolding header_of header_word
header_of_some (Good word) seq e =
    let f : ((word / 2 ^ 28 == 1) ≡ true ⊎ (word / 2 ^ 28 == 2) ≡ true) × (word % 2 ^ 28 ≡ seq) = some_if (word / 2 ^ 28 == 1) (word / 2 ^ 28 == 2) (word % 2 ^ 28) seq e in (
      omega (arith, f.1),
      elim f.0 [
        | inl t ↦ inl (ap Good (word_of_parts word 1 seq (eq_of (word / 2 ^ 28) 1 t) f.1))
        | inr t ↦ inr (ap Good (word_of_parts word 2 seq (eq_of (word / 2 ^ 28) 2 t) f.1))
      ],
    )
header_of_some Free seq e = cc
header_of_some Spoiled seq e = cc

header_of-first : (seq : ℕ) → seq < 2 ^ 28 → header_of (Good (header_word 1 seq)) ≡ Some seq
unfolding header_of header_word
header_of-first seq l =
    let one : (1 * 2 ^ 28 + seq) / 2 ^ 28 ≡ 1 = omega arith in
    let same : (1 * 2 ^ 28 + seq) % 2 ^ 28 ≡ seq = omega arith in
    rw (one, same) refl

header_of-second : (seq : ℕ) → seq < 2 ^ 28 → header_of (Good (header_word 2 seq)) ≡ Some seq
unfolding header_of header_word
header_of-second seq l =
    let two : (2 * 2 ^ 28 + seq) / 2 ^ 28 ≡ 2 = omega arith in
    let same : (2 * 2 ^ 28 + seq) % 2 ^ 28 ≡ seq = omega arith in
    rw (two, same) refl

pub header_of-word : (format seq : ℕ) → IsFormat format → seq < 2 ^ 28 → header_of (Good (header_word format seq)) ≡ Some seq
header_of-word format seq (inl e) l = rw e (header_of-first seq l)
header_of-word format seq (inr e) l = rw e (header_of-second seq l)

pub header_word-small : (seq : ℕ) → seq < 2 ^ 28 → header_word 2 seq < 2 ^ 32
unfolding header_word
header_word-small seq l = omega arith

pub header_word-short : (seq : ℕ) → seq < 2 ^ 28 → header_word 2 seq < 2 ^ 31
unfolding header_word
header_word-short seq l = omega arith

pub header_of-has : (image : List ℕ) (page seq : ℕ) → HasHeader image page seq → header_of (slot_of (slot_at image page 0)) ≡ Some seq
header_of-has image page seq h = rw h.good (header_of-word h.format seq h.known h.bits)

pub has_of-header : (image : List ℕ) (page seq : ℕ) → header_of (slot_of (slot_at image page 0)) ≡ Some seq → HasHeader image page seq
has_of-header image page seq e =
    let f = header_of_some (slot_of (slot_at image page 0)) seq e in
    elim f.1 [
      | inl g ↦ record { format = 1; known = inl refl; bits = f.0; good = g }
      | inr g ↦ record { format = 2; known = inr refl; bits = f.0; good = g }
    ]

-- the best of the first n pages
abbrev pub IsBest : List ℕ → ℕ → Option (ℕ × ℕ) → Type 0
IsBest image n best = MatchOption best ((p s : ℕ) → p < n → HasHeader image p s → ⊥) (λ a. IsNewest image n a.0 a.1)

-- what holds of the pages below n and of n holds below n + 1
below_last : (image : List ℕ) (n : ℕ) (P : ℕ → ℕ → Type 0) → ((p s : ℕ) → p < n → HasHeader image p s → P p s) → ((s : ℕ) → HasHeader image n s → P n s) → (p s : ℕ) → p < suc n → HasHeader image p s → P p s
below_last image n P below last p s l h =
    elim (cases_lt p n) [
      | inl a ↦ below p s a h
      | inr b ↦ (let e : n ≡ p = omega arith in let Q : ℕ → Type 0 = λ q. HasHeader image q s → P q s in subst Q e (last s) h)
    ]

lt_of : (a b : ℕ) → nat_lt a b ≡ true → a < b
lt_of a b e = grind (arith, nat_tests)

ge_of : (a b : ℕ) → nat_lt a b ≡ false → b ≤ a
ge_of a b e = grind (arith, nat_tests)

-- of two headers the one with the greater number, the lower page among equals
better : (image : List ℕ) (n : ℕ) (best : ℕ × ℕ) (seq : ℕ) (test : Bool) → nat_lt best.1 seq ≡ test → header_of (slot_of (slot_at image n 0)) ≡ Some seq → IsNewest image n best.0 best.1 → IsBest image (suc n) (if test then Some (n, seq) else Some best)
better image n best seq true t e h =
    let more : best.1 < seq = lt_of best.1 seq t in record {
      in_pages = omega arith;
      header = has_of-header image n seq e;
      greatest = below_last image n (λ p s. s ≤ seq) (λ p s l has. omega (arith, h.greatest p s l has)) (λ s has. let f = header_of-has image n s has in let g : s ≡ seq = cc in omega arith);
      lowest = λ p l has. let m = h.greatest p seq l has in absurd (omega arith);
    }
better image n best seq false t e h =
    let less : seq ≤ best.1 = ge_of best.1 seq t in record {
      in_pages = omega (arith, h.in_pages);
      header = h.header;
      greatest = below_last image n (λ p s. s ≤ best.1) h.greatest (λ s has. let f = header_of-has image n s has in let g : s ≡ seq = cc in omega arith);
      lowest = h.lowest;
    }

pub newer_is : (image : List ℕ) (n : ℕ) (best : Option (ℕ × ℕ)) (seq : Option ℕ) → header_of (slot_of (slot_at image n 0)) ≡ seq → IsBest image n best → IsBest image (suc n) (newer best n seq)
unfolding newer
newer_is image n None None e h = below_last image n (λ p s. ⊥) h (λ s has. let f = header_of-has image n s has in cc)
newer_is image n (Some best) None e h = record {
  in_pages = omega (arith, h.in_pages);
  header = h.header;
  greatest = below_last image n (λ p s. s ≤ best.1) h.greatest (λ s has. let f = header_of-has image n s has in cc);
  lowest = h.lowest;
}
newer_is image n None (Some seq) e h = record {
  in_pages = omega arith;
  header = has_of-header image n seq e;
  greatest = below_last image n (λ p s. s ≤ seq) (λ p s l has. absurd (h p s l has)) (λ s has. let f = header_of-has image n s has in let g : s ≡ seq = cc in omega arith);
  lowest = λ p l has. h p seq l has;
}
newer_is image n (Some best) (Some seq) e h = better image n best seq (nat_lt best.1 seq) refl e h

pub newest_is : (image : List ℕ) (n : ℕ) → IsBest image n (newest image n)
unfolding newest
newest_is image zero = λ p s l h. absurd (omega arith)
newest_is image (suc n) = newer_is image n (newest image n) (header_of (slot_of (slot_at image n 0))) refl (newest_is image n)

-- the active page as a value is the one that the relation names
best_is : (image : List ℕ) (n page seq : ℕ) (best : Option (ℕ × ℕ)) → IsBest image n best → IsNewest image n page seq → best ≡ Some (page, seq)
best_is image n page seq None b h = absurd (b page seq h.in_pages h.header)
best_is image n page seq (Some best) b h =
    let up : seq ≤ best.1 = b.greatest page seq h.in_pages h.header in
    let down : best.1 ≤ seq = h.greatest best.0 best.1 b.in_pages b.header in
    let s : best.1 ≡ seq = omega arith in
    let P : ℕ → Type 0 = λ m. HasHeader image best.0 m in
    let Q : ℕ → Type 0 = λ m. HasHeader image page m in
    let c = h.lowest best.0 in
    let d = b.lowest page in
    let p : best.0 ≡ page = elim (cases_lt best.0 page) [
      | inl l ↦ absurd (c l (subst P s b.header))
      | inr g ↦ elim (cases_lt page best.0) [
        | inl m ↦ absurd (d m (subst Q (sym s) h.header))
        | inr k ↦ omega arith
      ]
    ] in
    let f : best ≡ (page, seq) = rw (← p, ← s) refl in
    rw f refl

pub active_of : (image : List ℕ) (page seq : ℕ) → IsActive image page seq → active image ≡ Some (page, seq)
unfolding active
active_of image page seq h = best_is image (page_count image) page seq (newest image (page_count image)) (newest_is image (page_count image)) h

pub is_active : (image : List ℕ) (page seq : ℕ) → active image ≡ Some (page, seq) → IsActive image page seq
unfolding active
is_active image page seq e = rw e at (newest_is image (page_count image))

none_best : (image : List ℕ) (n : ℕ) (best : Option (ℕ × ℕ)) → IsBest image n best → ((p s : ℕ) → p < n → HasHeader image p s → ⊥) → best ≡ None
none_best image n None b h = refl
none_best image n (Some best) b h = absurd (h best.0 best.1 b.in_pages b.header)

pub active_none : (image : List ℕ) → NoneActive image → active image ≡ None
unfolding active
active_none image h = none_best image (page_count image) (newest image (page_count image)) (newest_is image (page_count image)) h

pub is_none : (image : List ℕ) → active image ≡ None → NoneActive image
unfolding active
is_none image e = rw e at (newest_is image (page_count image))

pub newest-none : (image : List ℕ) → newest image 0 ≡ None
unfolding newest
newest-none image = refl

pub newest-more : (image : List ℕ) (n : ℕ) → newest image (n + 1) ≡ newer (newest image n) n (header_of (slot_of (slot_at image n 0)))
unfolding newest
newest-more image n = let e : n + 1 ≡ suc n = omega arith in rw e refl

pub active-newest : (image : List ℕ) (n : ℕ) → n ≡ page_count image → newest image n ≡ active image
unfolding active
active-newest image n e = rw e refl

-- the format of a header is read off its word
pub format_of-word : (format seq : ℕ) → seq < 2 ^ 28 → format_of (Good (header_word format seq)) ≡ format
unfolding format_of header_word
format_of-word format seq l = omega arith

some_number : (x y : ℕ) → Some x ≡ Some y → x ≡ y
some_number x y e = cc

has_format_by : (image : List ℕ) (number : ℕ) (place : Option (ℕ × ℕ)) → active image ≡ place → format_on image place ≡ Some number → HasFormat image number
has_format_by image number None e f = cc
has_format_by image number (Some place) e f =
    let a : IsActive image place.0 place.1 = is_active image place.0 place.1 e in
    let read : format_of (slot_of (slot_at image place.0 0)) ≡ a.header.format = rw a.header.good (format_of-word a.header.format place.1 a.header.bits) in
    let same : a.header.format ≡ number = sym read ∙ some_number _ _ f in
    let P : ℕ → Type 0 = λ n. slot_of (slot_at image place.0 0) ≡ Good (header_word n place.1) in
    record { page = place.0; seq = place.1; is_active = a; known = subst IsFormat same a.header.known; good = subst P same a.header.good }

pub has_format : (image : List ℕ) (number : ℕ) → format image ≡ Some number → HasFormat image number
unfolding format
has_format image number e = has_format_by image number (active image) refl e

pub format_is : (image : List ℕ) (number : ℕ) → HasFormat image number → format image ≡ Some number
unfolding format
format_is image number h = rw (active_of image h.page h.seq h.is_active, h.good, format_of-word number h.seq h.is_active.header.bits) refl

pub format-none : (image : List ℕ) → active image ≡ None → format image ≡ None
unfolding format
format-none image e = rw e refl

pub format-some : (image : List ℕ) (page seq : ℕ) → active image ≡ Some (page, seq) → format image ≡ Some (format_of (slot_of (slot_at image page 0)))
unfolding format
format-some image page seq e = rw e refl

format_by : (old new : List ℕ) (place : Option (ℕ × ℕ)) → active old ≡ place → active new ≡ place → ((p s : ℕ) → active old ≡ Some (p, s) → slot_at new p 0 ≡ slot_at old p 0) → format new ≡ format old
format_by old new None e f h = format-none new f ∙ sym (format-none old e)
format_by old new (Some place) e f h = format-some new place.0 place.1 f ∙ rw (h place.0 place.1 e) (sym (format-some old place.0 place.1 e))

-- the same active page, with the same slot 0
pub format-same : (old new : List ℕ) → active new ≡ active old → ((p s : ℕ) → active old ≡ Some (p, s) → slot_at new p 0 ≡ slot_at old p 0) → format new ≡ format old
format-same old new e h = format_by old new (active old) refl e h

-- the word that is kept of a page is that of its slot 0
pub still_words : (image : List ℕ) (page : ℕ) (slot : Slot) (best next : Option (ℕ × ℕ)) → slot ≡ slot_of (slot_at image page 0) → MatchOption best ⊤ (λ r. slot_of (slot_at image r.0 0) ≡ Good r.1) → MatchOption next ⊤ (λ r. (best ≡ Some r) ⊎ ((r.0 ≡ page) × (slot ≡ Good r.1))) → MatchOption next ⊤ (λ r. slot_of (slot_at image r.0 0) ≡ Good r.1)
still_words image page slot best None e h n = tt
still_words image page slot best (Some r) e h n = elim n [
  | inl s ↦ rw s at h
  | inr p ↦ rw p.0 (sym e ∙ p.1)
]
