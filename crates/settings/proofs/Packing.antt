-- The words of some bytes.
use Rattle.std.proofs.lemmas.Grind.{common_steps}
use Rattle.std.proofs.Common.{◌≡◌, ℕ, zero, suc, ◌+◌, ◌-◌, ◌*◌, ◌/◌, ◌<◌, refl, arith, List, [], ◌∷◌, length, get_or, Option, Some, None}
use Rattle.settings.specs.declared.change.Change.{Change}
use Rattle.settings.specs.Words.{data_word, value_word, removal_word, packed, words_of, words_with}

pub length-packed : (bytes : List ℕ) → length (packed bytes) ≡ (length bytes + 2) / 3
unfolding packed
length-packed [] = refl
length-packed (a ∷ []) = refl
length-packed (a ∷ b ∷ []) = refl
length-packed (a ∷ b ∷ c ∷ rest) = let ih = length-packed rest in omega (arith, ih)

-- the word at a place has the three bytes from thrice that place on
pub packed-get : (bytes : List ℕ) (k : ℕ) → k < length (packed bytes) → get_or (packed bytes) k 0 ≡ data_word (get_or bytes (3 * k) 0) (get_or bytes (3 * k + 1) 0) (get_or bytes (3 * k + 2) 0)
unfolding packed
packed-get [] k l = absurd (omega arith)
packed-get (a ∷ []) zero l = refl
packed-get (a ∷ []) (suc k) l = absurd (omega arith)
packed-get (a ∷ b ∷ []) zero l = refl
packed-get (a ∷ b ∷ []) (suc k) l = absurd (omega arith)
packed-get (a ∷ b ∷ c ∷ rest) zero l = refl
packed-get (a ∷ b ∷ c ∷ rest) (suc k) l =
    let z : 3 * suc k + 2 ≡ suc (suc (suc (3 * k + 2))) = omega arith in
    let y : 3 * suc k + 1 ≡ suc (suc (suc (3 * k + 1))) = omega arith in
    let x : 3 * suc k ≡ suc (suc (suc (3 * k))) = omega arith in
    rw (z, y, x) (packed-get rest k (omega arith))

-- how many words a change has
pub size_some : (change : Change) (bytes : List ℕ) → change.value ≡ Some bytes → 1 + (length bytes + 2) / 3 ≡ length (words_of change)
unfolding words_of
size_some change bytes e = rw e (let p = length-packed bytes in omega (arith, p))

pub size_none : (change : Change) → change.value ≡ None → 1 ≡ length (words_of change)
unfolding words_of
size_none change e = rw e refl

-- the words of a change at a place
pub word_none : (change : Change) (at : ℕ) → change.value ≡ None → at < length (words_of change) → removal_word change.id ≡ get_or (words_of change) at 0
unfolding words_of
word_none change at e l = let z : at ≡ 0 = (let m = rw e at l in omega arith) in rw (e, z) refl

pub word_first : (id : ℕ) (bytes : List ℕ) (at : ℕ) → at ≡ 0 → value_word id (length bytes) ≡ get_or (words_with id (Some bytes)) at 0
word_first id bytes at z = rw z refl

pub word_later : (id : ℕ) (bytes : List ℕ) (at : ℕ) → (at ≡ 0 → ⊥) → at < 1 + (length bytes + 2) / 3
    → data_word (get_or bytes (3 * (at - 1)) 0) (get_or bytes (3 * (at - 1) + 1) 0) (get_or bytes (3 * (at - 1) + 2) 0) ≡ get_or (words_with id (Some bytes)) at 0
word_later id bytes at h1 h2 = grind (arith, common_steps, length-packed, packed-get)

pub word_with : (change : Change) (bytes : List ℕ) (at : ℕ) → change.value ≡ Some bytes → get_or (words_with change.id (Some bytes)) at 0 ≡ get_or (words_of change) at 0
unfolding words_of
word_with change bytes at e = rw e refl

pub at_with : (change : Change) (bytes : List ℕ) (at : ℕ) → change.value ≡ Some bytes → at < length (words_of change) → at < 1 + (length bytes + 2) / 3
at_with change bytes at e l = rw (size_some change bytes e) l

-- a change has a word
some_with : (id : ℕ) (value : Option (List ℕ)) → 0 < length (words_with id value)
some_with id value = grind (arith, common_steps)

pub some_words : (change : Change) → 0 < length (words_of change)
unfolding words_of
some_words change = some_with change.id change.value
