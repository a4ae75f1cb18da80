-- Words that are those of settings.
use Rattle.std.proofs.lemmas.Grind.{common_steps}
use Rattle.std.proofs.Common.{◌≡◌, ℕ, zero, suc, ◌^◌, ◌<◌, ◌≤◌, refl, arith, IsTrue, List, [], ◌∷◌, ◌++◌, Option, All, inl}
use Rattle.std.proofs.lemmas.List.Elements.{All-append}
use Rattle.page_turnover.specs.Words.{words}
use Rattle.page_turnover.specs.Steps.{Keeps}
use Rattle.page_turnover.specs.Usable.{IsUsable}
use Rattle.settings.specs.declared.change.Change.{Change}
use Rattle.settings.specs.Words.{data_word, value_word, removal_word, packed, is_known, words_of, words_with, IsValueIfSome, IsChange, AreValues}
use Rattle.settings.specs.Copies.{kept_words, copies_below, all_copies}
use Rattle.settings.specs.Works.{IsBeforeOrAfter, IsBetween}
use Rattle.settings.proofs.Formats.{is_data-data, is_data-value, is_data-removal, head_of-value, head_of-removal}
use Rattle.settings.proofs.Gathering.{AreBytes}
use Rattle.settings.proofs.Storing.{same_kept}

abbrev pub AreKnown : List ℕ → Type 0
AreKnown ws = All (λ word. IsTrue (is_known word)) ws

known_data : (a b c : ℕ) → a < 2 ^ 8 → b < 2 ^ 8 → c < 2 ^ 8 → IsTrue (is_known (data_word a b c))
unfolding is_known
known_data a b c l m n = rw (is_data-data a b c l m n) refl

known_value : (id len : ℕ) → id < 2 ^ 16 → len ≤ 64 → IsTrue (is_known (value_word id len))
unfolding is_known
known_value id len l m = rw (is_data-value id len l m, head_of-value id len l m) refl

known_removal : (id : ℕ) → id < 2 ^ 16 → IsTrue (is_known (removal_word id))
unfolding is_known
known_removal id l = rw (is_data-removal id l, head_of-removal id l) refl

known_none : AreKnown []
known_none k d l = absurd (omega arith)

known_more : (word : ℕ) (rest : List ℕ) → IsTrue (is_known word) → AreKnown rest → AreKnown (word ∷ rest)
known_more word rest h1 h2 = grind (arith, common_steps)

known_packed : (bytes : List ℕ) → AreBytes bytes → AreKnown (packed bytes)
unfolding packed
known_packed [] h = known_none
known_packed (a ∷ []) h = known_more (data_word a 0 0) [] (known_data a 0 0 (h 0) (omega arith) (omega arith)) known_none
known_packed (a ∷ b ∷ []) h = known_more (data_word a b 0) [] (known_data a b 0 (h 0) (h 1) (omega arith)) known_none
known_packed (a ∷ b ∷ c ∷ rest) h = known_more (data_word a b c) (packed rest) (known_data a b c (h 0) (h 1) (h 2)) (known_packed rest (λ k. h (suc (suc (suc k)))))

known_with : (id : ℕ) (value : Option (List ℕ)) → id < 2 ^ 16 → IsValueIfSome value → AreKnown (words_with id value)
known_with id value h1 h2 = grind (arith, common_steps, known_more, known_removal, known_none, known_value, known_packed)

pub known_change : (change : Change) → IsChange change → AreKnown (words_of change)
unfolding words_of
known_change change c = known_with change.id change.value c.small c.value_is

known_kept : (id : ℕ) (value : Option (List ℕ)) → id < 2 ^ 16 → IsValueIfSome value → AreKnown (kept_words id value)
known_kept id value h1 h2 = grind (arith, common_steps, known_none, known_change)

known_copies : (values : ℕ → Option (List ℕ)) (n : ℕ) → AreValues values → n ≤ 2 ^ 16 → AreKnown (copies_below values n)
unfolding copies_below
known_copies values zero v l = known_none
known_copies values (suc n) v l = All-append (λ word. IsTrue (is_known word)) (copies_below values n) (kept_words n (values n)) (known_copies values n v (omega arith)) (known_kept n (values n) (omega arith) (v n))

-- what is between, where the words are as before, where one is added, and where they are those of all values
pub between_kept : (old : List ℕ) (changes : List Change) (new : List ℕ) → (IsUsable old → IsUsable new) → Keeps old new → IsBetween old changes new
between_kept old changes new u k = record { values = inl (same_kept old new k); usable = u; known = λ h. rw k.words_are h }

pub between_added : (old : List ℕ) (changes : List Change) (new : List ℕ) (word : ℕ) → (IsUsable old → IsUsable new) → IsBeforeOrAfter old changes new → words new ≡ words old ++ word ∷ [] → IsTrue (is_known word) → IsBetween old changes new
between_added old changes new word h1 h2 h3 h4 = grind (arith, common_steps, known_more, known_none)

pub between_copied : (old : List ℕ) (changes : List Change) (new : List ℕ) (values : ℕ → Option (List ℕ)) → (IsUsable old → IsUsable new) → IsBeforeOrAfter old changes new → words new ≡ all_copies values → AreValues values → IsBetween old changes new
between_copied old changes new values u v e a = record { values = v; usable = u; known = λ h. rw e (known_copies values (2 ^ 16) a (omega arith)) }
