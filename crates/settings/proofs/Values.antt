-- Each id has a value or none, whatever the words and the changes are.
use Rattle.std.proofs.lemmas.Grind.{common_steps}
use Rattle.std.proofs.Common.{◌≡◌, ℕ, zero, suc, ◌/◌, ◌%◌, ◌^◌, ◌<◌, ◌≤◌, arith, List, [], ◌∷◌, ◌++◌, length, take, Option, Some, None, nat_le, inl, inr, ◌==◌, ◌&&◌}
use Rattle.std.proofs.lemmas.Bool.{cases_Bool, and_parts}
use Rattle.std.proofs.lemmas.List.{length-take-le}
use Rattle.page_turnover.proofs.Describing.{le_of}
use Rattle.page_turnover.specs.Words.{words}
use Rattle.settings.specs.declared.words.Head.{Head}
use Rattle.settings.specs.declared.change.Change.{Change}
use Rattle.settings.specs.Words.{is_data, word_bytes, head_of, IsValueIfSome, IsChange, AreValues}
use Rattle.settings.specs.Settings.{gathered, given, change_with, change_at, changes_in, after, changed}
use Rattle.settings.specs.representation.Store.{AreChanges}
use Rattle.settings.proofs.Gathering.{AreBytes}
use Rattle.settings.proofs.Changes.{changes_in-word, changes_in-none}

-- each of some changes is one, by cases
abbrev AreSuch : List Change → Type 0
AreSuch [] = Unit {0}
AreSuch (change ∷ rest) = IsChange change × AreSuch rest

such : (changes : List Change) → AreChanges changes → AreSuch changes
such [] all = tt
such (change ∷ rest) all = (all 0 change (omega arith), such rest (λ k d l. all (suc k) d (omega arith)))

such_both : (a b : List Change) → AreSuch a → AreSuch b → AreSuch (a ++ b)
such_both [] b x y = y
such_both (change ∷ a) b x y = (x.0, such_both a b x.1 y)

bytes_both : (a b : List ℕ) → AreBytes a → AreBytes b → AreBytes (a ++ b)
bytes_both [] b x y k = y k
bytes_both (byte ∷ a) b x y zero = x 0
bytes_both (byte ∷ a) b x y (suc k) = bytes_both a b (λ i. x (suc i)) y k

bytes_taken : (n : ℕ) (bytes : List ℕ) → AreBytes bytes → AreBytes (take n bytes)
bytes_taken zero bytes h k = omega arith
bytes_taken (suc n) [] h k = omega arith
bytes_taken (suc n) (byte ∷ bytes) h zero = h 0
bytes_taken (suc n) (byte ∷ bytes) h (suc k) = bytes_taken n bytes (λ i. h (suc i)) k

word_are_bytes : (word : ℕ) → AreBytes (word_bytes word)
word_are_bytes word = grind (arith, common_steps)

taken_value : (len : ℕ) (bytes : List ℕ) → len ≤ 64 → len ≤ length bytes → AreBytes bytes → IsValueIfSome (Some (take len bytes))
taken_value len bytes h1 h2 h3 = grind (arith, common_steps, length-take-le, bytes_taken)

gathered_value : (len : ℕ) (bytes words : List ℕ) → len ≤ 64 → AreBytes bytes → IsValueIfSome (gathered len bytes words)
unfolding gathered
gathered_value len bytes [] few h =
    elim (cases_Bool (nat_le len (length bytes))) [
      | inl e ↦ rw e (taken_value len bytes few (le_of len (length bytes) e) h)
      | inr e ↦ rw e tt
    ]
gathered_value len bytes (word ∷ rest) few h =
    elim (cases_Bool (nat_le len (length bytes))) [
      | inl e ↦ rw e (taken_value len bytes few (le_of len (length bytes) e) h)
      | inr e ↦ elim (cases_Bool (is_data word)) [
        | inl d ↦ rw (e, d) (gathered_value len (bytes ++ word_bytes word) rest few (bytes_both bytes (word_bytes word) h (word_are_bytes word)))
        | inr d ↦ rw (e, d) tt
      ]
    ]

-- what a word says that begins a change
abbrev IsHead : Option Head → Type 0
IsHead None = Unit {0}
IsHead (Some head) = (head.id < 2 ^ 16) × ((len : ℕ) → head.len ≡ Some len → len ≤ 64)

head_small : (word : ℕ) → IsHead (head_of word)
unfolding head_of
head_small word = grind (arith, common_steps, cases_Bool, le_of, and_parts)

given_such : (id : ℕ) (value : Option (List ℕ)) → id < 2 ^ 16 → IsValueIfSome value → AreSuch (given id value)
given_such id value h1 h2 = grind (arith, common_steps)

with_such : (id : ℕ) (len : Option ℕ) (words : List ℕ) → id < 2 ^ 16 → ((n : ℕ) → len ≡ Some n → n ≤ 64) → AreSuch (change_with id len words)
with_such id len words h1 h2 = grind (arith, common_steps, given_such, gathered_value)

at_such : (head : Option Head) (words : List ℕ) → IsHead head → AreSuch (change_at head words)
at_such head words h1 = grind (arith, common_steps, with_such)

in_such : (ws : List ℕ) → AreSuch (changes_in ws)
in_such [] = rw changes_in-none tt
in_such (word ∷ rest) = rw (changes_in-word word rest) (such_both (change_at (head_of word) rest) (changes_in rest) (at_such (head_of word) rest (head_small word)) (in_such rest))

after_value : (value : Option (List ℕ)) (changes : List Change) (id : ℕ) → IsValueIfSome value → AreSuch changes → IsValueIfSome (after value changes id)
unfolding after
after_value value [] id v h = v
after_value value (change ∷ rest) id v h =
    elim (cases_Bool (change.id == id)) [
      | inl e ↦ rw e (after_value change.value rest id h.0.value_is h.1)
      | inr e ↦ rw e (after_value value rest id v h.1)
    ]

pub are_values : (image : List ℕ) (changes : List Change) → AreChanges changes → AreValues (changed image changes)
unfolding changed
are_values image changes all id = after_value None (changes_in (words image) ++ changes) id tt (such_both (changes_in (words image)) changes (in_such (words image)) (such changes all))
