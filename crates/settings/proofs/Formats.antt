-- The words of settings, and what they say.
use Rattle.std.proofs.lemmas.Grind.{common_steps}
use Rattle.std.proofs.Common.{◌≡◌, ℕ, ◌/◌, ◌%◌, ◌^◌, ◌<◌, ◌≤◌, true, false, refl, arith, Some, None, [], ◌∷◌}
use Rattle.std.proofs.lemmas.Bool.{eqb-true}
use Rattle.page_turnover.proofs.Describing.{le_test}
use Rattle.settings.specs.Words.{data_word, value_word, removal_word, is_data, word_bytes, head_of}

pub is_data-data : (a b c : ℕ) → a < 2 ^ 8 → b < 2 ^ 8 → c < 2 ^ 8 → is_data (data_word a b c) ≡ true
unfolding is_data
is_data-data a b c l m n = let e : data_word a b c / 2 ^ 24 ≡ 64 = omega arith in rw e refl

pub word_bytes-data : (a b c : ℕ) → a < 2 ^ 8 → b < 2 ^ 8 → c < 2 ^ 8 → word_bytes (data_word a b c) ≡ a ∷ b ∷ c ∷ []
word_bytes-data a b c h1 h2 h3 = grind (arith, common_steps)

-- a word of bytes begins no change
pub head_of-data : (word : ℕ) → is_data word ≡ true → head_of word ≡ None
unfolding is_data head_of
head_of-data word h = let e : word / 2 ^ 24 ≡ 64 = eqb-true (word / 2 ^ 24) 64 h in rw e refl

pub head_of-value : (id len : ℕ) → id < 2 ^ 16 → len ≤ 64 → head_of (value_word id len) ≡ Some (record { id = id; len = Some len })
unfolding head_of
head_of-value id len h1 h2 = grind (arith, common_steps, le_test)

pub head_of-removal : (id : ℕ) → id < 2 ^ 16 → head_of (removal_word id) ≡ Some (record { id = id; len = None })
unfolding head_of
head_of-removal id h1 = grind (arith, common_steps)

pub is_data-value : (id len : ℕ) → id < 2 ^ 16 → len ≤ 64 → is_data (value_word id len) ≡ false
unfolding is_data
is_data-value id len l m = let k : value_word id len / 2 ^ 24 ≡ 113 = omega arith in rw k refl

pub is_data-removal : (id : ℕ) → id < 2 ^ 16 → is_data (removal_word id) ≡ false
unfolding is_data
is_data-removal id l = let k : removal_word id / 2 ^ 24 ≡ 112 = omega arith in rw k refl
