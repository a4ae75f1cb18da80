-- The changes that some words hold, after more words.
use Rattle.std.proofs.lemmas.Grind.{common_steps}
use Rattle.std.proofs.Common.{◌≡◌, ◌∙◌, ℕ, zero, suc, ◌+◌, ◌/◌, ◌^◌, ◌<◌, true, false, refl, sym, arith, List, [], ◌∷◌, ◌++◌, length, take, Option, Some, None, append_assoc, ◌==◌, if◌then◌else◌}
use Rattle.std.proofs.lemmas.List.{append-nil, length-take-le, take_all}
use Rattle.settings.specs.declared.words.Head.{Head}
use Rattle.settings.specs.declared.change.Change.{Change}
use Rattle.settings.specs.Words.{data_word, value_word, removal_word, packed, is_data, head_of, words_of, words_with, IsValue, IsChange}
use Rattle.settings.specs.Settings.{gathered, change_with, change_at, changes_in, after}
use Rattle.settings.proofs.Formats.{is_data-data, head_of-data, head_of-value, head_of-removal, is_data-value, is_data-removal}
use Rattle.settings.proofs.Packing.{length-packed}
use Rattle.settings.proofs.Gathering.{gathered-stop, gathered-few, gathered-packed, AreBytes}

pub changes_in-none : changes_in [] ≡ []
unfolding changes_in
changes_in-none = refl

pub changes_in-word : (word : ℕ) (rest : List ℕ) → changes_in (word ∷ rest) ≡ change_at (head_of word) rest ++ changes_in rest
unfolding changes_in
changes_in-word word rest = refl

change_with-stop : (id : ℕ) (len : Option ℕ) (words : List ℕ) (head : ℕ) (rest : List ℕ) → is_data head ≡ false → change_with id len (words ++ head ∷ rest) ≡ change_with id len words
change_with-stop id len words head rest h1 = grind (arith, common_steps, gathered-stop)

change_at-stop : (begins : Option Head) (words : List ℕ) (head : ℕ) (rest : List ℕ) → is_data head ≡ false → change_at begins (words ++ head ∷ rest) ≡ change_at begins words
change_at-stop begins words head rest h1 = grind (arith, common_steps, change_with-stop)

-- a word that begins a change leaves what was before it
pub changes_in-stop : (words : List ℕ) (head : ℕ) (rest : List ℕ) → is_data head ≡ false → changes_in (words ++ head ∷ rest) ≡ changes_in words ++ changes_in (head ∷ rest)
changes_in-stop [] head rest d = rw changes_in-none refl
changes_in-stop (word ∷ words) head rest d =
    changes_in-word word (words ++ head ∷ rest)
    ∙ rw (change_at-stop (head_of word) words head rest d, changes_in-stop words head rest d, changes_in-word word words) (sym (append_assoc (change_at (head_of word) words) (changes_in words) (changes_in (head ∷ rest))))

take_none : (n : ℕ) → take {A = ℕ} n [] ≡ []
take_none n = grind (arith, common_steps)

-- a word of bytes is no change
pub changes_in-data : (word : ℕ) (rest : List ℕ) → is_data word ≡ true → changes_in (word ∷ rest) ≡ changes_in rest
changes_in-data word rest d = changes_in-word word rest ∙ rw (head_of-data word d) refl

pub changes_in-packed : (bytes : List ℕ) (n : ℕ) → AreBytes bytes → changes_in (take n (packed bytes)) ≡ []
unfolding packed
changes_in-packed [] n h = rw (take_none n) changes_in-none
changes_in-packed (a ∷ []) zero h = changes_in-none
changes_in-packed (a ∷ []) (suc n) h = rw (take_none n) (changes_in-data (data_word a 0 0) [] (is_data-data a 0 0 (h 0) (omega arith) (omega arith)) ∙ changes_in-none)
changes_in-packed (a ∷ b ∷ []) zero h = changes_in-none
changes_in-packed (a ∷ b ∷ []) (suc n) h = rw (take_none n) (changes_in-data (data_word a b 0) [] (is_data-data a b 0 (h 0) (h 1) (omega arith)) ∙ changes_in-none)
changes_in-packed (a ∷ b ∷ c ∷ bytes) zero h = changes_in-none
changes_in-packed (a ∷ b ∷ c ∷ bytes) (suc n) h =
    changes_in-data (data_word a b c) (take n (packed bytes)) (is_data-data a b c (h 0) (h 1) (h 2)) ∙ changes_in-packed bytes n (λ k. h (suc (suc (suc k))))

all_packed : (bytes : List ℕ) → AreBytes bytes → changes_in (packed bytes) ≡ []
all_packed bytes h = rw (take_all (length (packed bytes)) (packed bytes) (omega arith)) at (changes_in-packed bytes (length (packed bytes)) h)

-- the word before a value, and some of the words behind it
changes_in-begun : (id : ℕ) (bytes : List ℕ) (n : ℕ) → id < 2 ^ 16 → IsValue bytes → n < length (packed bytes) → changes_in (value_word id (length bytes) ∷ take n (packed bytes)) ≡ []
changes_in-begun id bytes n h1 h2 h3 = grind (arith, common_steps, length-packed, length-take-le, gathered-few, changes_in-word, head_of-value, changes_in-packed)

changes_in-whole : (id : ℕ) (bytes : List ℕ) → id < 2 ^ 16 → IsValue bytes → changes_in (value_word id (length bytes) ∷ packed bytes) ≡ record { id = id; value = Some bytes } ∷ []
changes_in-whole id bytes l v =
    let z : 0 + length bytes ≡ length bytes = omega arith in
    let all : gathered (length bytes) [] (packed bytes) ≡ Some bytes = rw (z, append-nil (packed bytes)) at (gathered-packed [] bytes [] v.bytes_are) in
    changes_in-word (value_word id (length bytes)) (packed bytes) ∙ rw (head_of-value id (length bytes) l v.short, all, all_packed bytes v.bytes_are) refl

changes_in-removal : (id : ℕ) → id < 2 ^ 16 → changes_in (removal_word id ∷ []) ≡ record { id = id; value = None } ∷ []
changes_in-removal id l = changes_in-word (removal_word id) [] ∙ rw (head_of-removal id l, changes_in-none) refl

absent_with : (words : List ℕ) (id : ℕ) (value : Option (List ℕ)) (n : ℕ) → IsChange (record { id = id; value = value }) → n < length (words_with id value) → changes_in (words ++ take n (words_with id value)) ≡ changes_in words
absent_with words id value n h1 h2 = grind (arith, common_steps, append-nil, changes_in-stop, is_data-value, changes_in-begun)

whole_with : (words : List ℕ) (id : ℕ) (value : Option (List ℕ)) → IsChange (record { id = id; value = value }) → changes_in (words ++ words_with id value) ≡ changes_in words ++ record { id = id; value = value } ∷ []
whole_with words id None c = changes_in-stop words (removal_word id) [] (is_data-removal id c.small) ∙ rw (changes_in-removal id c.small) refl
whole_with words id (Some bytes) c =
    changes_in-stop words (value_word id (length bytes)) (packed bytes) (is_data-value id (length bytes) c.small c.value_is.short) ∙ rw (changes_in-whole id bytes c.small c.value_is) refl

pub absent : (words : List ℕ) (change : Change) (n : ℕ) → IsChange change → n < length (words_of change) → changes_in (words ++ take n (words_of change)) ≡ changes_in words
unfolding words_of
absent words change n c l = absent_with words change.id change.value n c l

pub whole : (words : List ℕ) (change : Change) → IsChange change → changes_in (words ++ words_of change) ≡ changes_in words ++ change ∷ []
unfolding words_of
whole words change c = whole_with words change.id change.value c

-- the last change of an id decides
pub after-last : (value : Option (List ℕ)) (changes : List Change) (change : Change) (id : ℕ) → after value (changes ++ change ∷ []) id ≡ (if change.id == id then change.value else after value changes id)
unfolding after
after-last value [] change id = refl
after-last value (first ∷ rest) change id = after-last (if first.id == id then first.value else value) rest change id

-- some changes, and others after them
pub after-append : (value : Option (List ℕ)) (changes more : List Change) (id : ℕ) → after value (changes ++ more) id ≡ after (after value changes id) more id
unfolding after
after-append value [] more id = refl
after-append value (first ∷ rest) more id = after-append (if first.id == id then first.value else value) rest more id
