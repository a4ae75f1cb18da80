-- The bytes of a value from its words.
use Rattle.std.proofs.lemmas.Grind.{common_steps}
use Rattle.std.proofs.Common.{◌≡◌, ◌∙◌, ℕ, suc, ◌+◌, ◌*◌, ◌^◌, ◌<◌, ◌≤◌, true, false, refl, sym, ap, arith, List, [], ◌∷◌, ◌++◌, length, take, get_or, Some, None, inl, inr, append_assoc}
use Rattle.std.proofs.lemmas.Bool.{cases_Bool, lt-leb}
use Rattle.std.proofs.lemmas.List.{append-nil, length-append, take_all}
use Rattle.page_turnover.proofs.Describing.{le_test}
use Rattle.settings.specs.Words.{data_word, packed, is_data, word_bytes}
use Rattle.settings.specs.Settings.{gathered}
use Rattle.settings.proofs.Formats.{is_data-data, word_bytes-data}

pub gathered-enough : (len : ℕ) (bytes words : List ℕ) → len ≤ length bytes → gathered len bytes words ≡ Some (take len bytes)
unfolding gathered
gathered-enough len bytes [] l = rw (le_test len (length bytes) l) refl
gathered-enough len bytes (word ∷ rest) l = rw (le_test len (length bytes) l) refl

pub gathered-more : (len : ℕ) (bytes : List ℕ) (word : ℕ) (rest : List ℕ) → length bytes < len → is_data word ≡ true → gathered len bytes (word ∷ rest) ≡ gathered len (bytes ++ word_bytes word) rest
unfolding gathered
gathered-more len bytes word rest l d = rw (lt-leb len (length bytes) l, d) refl

pub gathered-other : (len : ℕ) (bytes : List ℕ) (word : ℕ) (rest : List ℕ) → length bytes < len → is_data word ≡ false → gathered len bytes (word ∷ rest) ≡ None
unfolding gathered
gathered-other len bytes word rest l d = rw (lt-leb len (length bytes) l, d) refl

pub gathered-end : (len : ℕ) (bytes : List ℕ) → length bytes < len → gathered len bytes [] ≡ None
unfolding gathered
gathered-end len bytes l = rw (lt-leb len (length bytes) l) refl

-- too few words
pub gathered-few : (len : ℕ) (bytes words : List ℕ) → length bytes + 3 * length words < len → gathered len bytes words ≡ None
gathered-few len bytes [] l = gathered-end len bytes (omega arith)
gathered-few len bytes (word ∷ rest) l =
    elim (cases_Bool (is_data word)) [
      | inl d ↦ (let n : length (bytes ++ word_bytes word) ≡ length bytes + 3 = length-append bytes (word_bytes word) in
          gathered-more len bytes word rest (omega arith) d ∙ gathered-few len (bytes ++ word_bytes word) rest (omega (arith, n)))
      | inr d ↦ gathered-other len bytes word rest (omega arith) d
    ]

-- a word that begins a change ends the words before it
pub gathered-stop : (len : ℕ) (bytes words : List ℕ) (head : ℕ) (rest : List ℕ) → is_data head ≡ false → gathered len bytes (words ++ head ∷ rest) ≡ gathered len bytes words
unfolding gathered
gathered-stop len bytes [] head rest d = rw d refl
gathered-stop len bytes (word ∷ words) head rest d = rw (gathered-stop len (bytes ++ word_bytes word) words head rest d) refl

abbrev pub AreBytes : List ℕ → Type 0
AreBytes bytes = (k : ℕ) → get_or bytes k 0 < 2 ^ 8

one_more : (bytes : List ℕ) (a b c : ℕ) → take (length bytes + 1) (bytes ++ a ∷ b ∷ c ∷ []) ≡ bytes ++ a ∷ []
one_more [] a b c = refl
one_more (x ∷ bytes) a b c = let e : length (x ∷ bytes) + 1 ≡ suc (length bytes + 1) = omega arith in rw (e, one_more bytes a b c) refl

two_more : (bytes : List ℕ) (a b c : ℕ) → take (length bytes + 2) (bytes ++ a ∷ b ∷ c ∷ []) ≡ bytes ++ a ∷ b ∷ []
two_more [] a b c = refl
two_more (x ∷ bytes) a b c = let e : length (x ∷ bytes) + 2 ≡ suc (length bytes + 2) = omega arith in rw (e, two_more bytes a b c) refl

-- one word of three bytes
with_word : (len : ℕ) (bytes : List ℕ) (a b c : ℕ) (rest : List ℕ) → length bytes < len → a < 2 ^ 8 → b < 2 ^ 8 → c < 2 ^ 8 → gathered len bytes (data_word a b c ∷ rest) ≡ gathered len (bytes ++ a ∷ b ∷ c ∷ []) rest
with_word len bytes a b c rest h1 h2 h3 h4 = grind (arith, common_steps, gathered-more, is_data-data, word_bytes-data)

-- the words of some bytes give them back
pub gathered-packed : (bytes more rest : List ℕ) → AreBytes more → gathered (length bytes + length more) bytes (packed more ++ rest) ≡ Some (bytes ++ more)
unfolding packed
gathered-packed bytes [] rest h =
    let z : length bytes + 0 ≡ length bytes = omega arith in
    rw z (gathered-enough (length bytes) bytes rest (omega arith) ∙ ap Some (take_all (length bytes) bytes (omega arith) ∙ sym (append-nil bytes)))
gathered-packed bytes (a ∷ []) rest h =
    let n : length (bytes ++ a ∷ 0 ∷ 0 ∷ []) ≡ length bytes + 3 = length-append bytes (a ∷ 0 ∷ 0 ∷ []) in
    with_word (length bytes + 1) bytes a 0 0 rest (omega arith) (h 0) (omega arith) (omega arith) ∙ gathered-enough (length bytes + 1) (bytes ++ a ∷ 0 ∷ 0 ∷ []) rest (omega (arith, n)) ∙ ap Some (one_more bytes a 0 0)
gathered-packed bytes (a ∷ b ∷ []) rest h =
    let n : length (bytes ++ a ∷ b ∷ 0 ∷ []) ≡ length bytes + 3 = length-append bytes (a ∷ b ∷ 0 ∷ []) in
    with_word (length bytes + 2) bytes a b 0 rest (omega arith) (h 0) (h 1) (omega arith) ∙ gathered-enough (length bytes + 2) (bytes ++ a ∷ b ∷ 0 ∷ []) rest (omega (arith, n)) ∙ ap Some (two_more bytes a b 0)
gathered-packed bytes (a ∷ b ∷ c ∷ more) rest h =
    let n : length (bytes ++ a ∷ b ∷ c ∷ []) ≡ length bytes + 3 = length-append bytes (a ∷ b ∷ c ∷ []) in
    let m : length bytes + length (a ∷ b ∷ c ∷ more) ≡ length (bytes ++ a ∷ b ∷ c ∷ []) + length more = omega (arith, n) in
    let t : (bytes ++ a ∷ b ∷ c ∷ []) ++ more ≡ bytes ++ a ∷ b ∷ c ∷ more = append_assoc bytes (a ∷ b ∷ c ∷ []) more in
    with_word (length bytes + length (a ∷ b ∷ c ∷ more)) bytes a b c (packed more ++ rest) (omega arith) (h 0) (h 1) (h 2)
    ∙ ap (λ (k : ℕ). gathered k (bytes ++ a ∷ b ∷ c ∷ []) (packed more ++ rest)) m
    ∙ gathered-packed (bytes ++ a ∷ b ∷ c ∷ []) more rest (λ k. h (suc (suc (suc k)))) ∙ ap Some t
