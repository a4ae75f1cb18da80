-- Taking the words of a line one by one.
use Rattle.std.proofs.Common.{◌≡◌, ℕ, ◌+◌, ◌<◌, ◌≤◌, inl, inr, true, false, not, cond, List, [], ◌∷◌, length, take, drop, refl, ap, sym, ◌∙◌, arith, get_or, nat_lt, filter, add-one, suc}
use Rattle.std.proofs.lemmas.Grind.{common_steps}
use Rattle.std.proofs.lemmas.Bool.{cases_lt}
use Rattle.std.proofs.lemmas.List.{take_all, drop_all}
use Rattle.std.proofs.lemmas.List.Folds.{length-prefix_len}
use Rattle.std.proofs.lemmas.List.Sums.{fails_before_first, passes_at_first, prefix_len-le-length, length-filter, count_by-le-length}
use Rattle.std.proofs.lemmas.List.Splits.{slice_split-cons_yes, slice_split_none, slice_split_first, length-slice_split}
use Rattle.std.proofs.Math.Seq.{drop-cons}
use Rattle.std.specs.List.{slice_split, prefix_len, position_or_len}
use Rattle.script.specs.Words.{is_blank, words}

-- a line has at most a word more than bytes
pub length-words : (line : List ℕ) → length (words line) ≤ length line + 1
unfolding words
length-words line = grind (arith, common_steps, length-filter, count_by-le-length, length-slice_split)

-- the test that keeps the pieces that are words
abbrev pub kept : List (List ℕ) → List (List ℕ)
kept pieces = filter (λ w. nat_lt 0 (length w)) pieces

pub kept-cons : (w : List ℕ) (pieces : List (List ℕ)) → 0 < length w → kept (w ∷ pieces) ≡ w ∷ kept pieces
kept-cons w pieces h = grind (arith, common_steps)

pub words_blank : (b : ℕ) (xs : List ℕ) → is_blank b ≡ true → words (b ∷ xs) ≡ words xs
unfolding words
words_blank b xs h = rw (slice_split-cons_yes is_blank b xs h) refl

-- blanks before a word make no word
pub words_skip : (xs : List ℕ) → words (drop (prefix_len is_blank xs) xs) ≡ words xs
words_skip [] = refl
words_skip (b ∷ xs) =
    elim (is_blank b) as (λ v. is_blank b ≡ v → words (drop (cond v (1 + prefix_len is_blank xs) 0) (b ∷ xs)) ≡ words (b ∷ xs)) [
      | true ↦ λ h. let e : 1 + prefix_len is_blank xs ≡ suc (prefix_len is_blank xs) = omega arith in
          rw e (words_skip xs ∙ sym (words_blank b xs h))
      | false ↦ λ h. refl
    ] refl

-- a word ends before the first blank
words_first_of_more : (xs : List ℕ) → 0 < position_or_len is_blank xs → position_or_len is_blank xs < length xs
    → words xs ≡ take (position_or_len is_blank xs) xs ∷ words (drop (position_or_len is_blank xs) xs)
unfolding words
words_first_of_more xs some more =
    let long : 0 < length (take (position_or_len is_blank xs) xs) = rw (length-prefix_len (λ b. not (is_blank b)) xs) some in
    ap kept (slice_split_first is_blank xs 0 more) ∙ kept-cons (take (position_or_len is_blank xs) xs) (slice_split is_blank (drop (position_or_len is_blank xs + 1) xs)) long
    ∙ ap (λ t. take (position_or_len is_blank xs) xs ∷ t) (sym (
    ap words (drop-cons xs (position_or_len is_blank xs) 0 more)
    ∙ words_blank (get_or xs (position_or_len is_blank xs) 0) (drop (suc (position_or_len is_blank xs)) xs) (passes_at_first is_blank xs 0 more)
    ∙ ap (λ n. words (drop n xs)) (sym (add-one (position_or_len is_blank xs)))))

words_first_of_last : (xs : List ℕ) → 0 < position_or_len is_blank xs → length xs ≡ position_or_len is_blank xs
    → words xs ≡ take (position_or_len is_blank xs) xs ∷ words (drop (position_or_len is_blank xs) xs)
unfolding words
words_first_of_last xs h1 h2 = grind (arith, common_steps, fails_before_first, take_all, drop_all, slice_split_none, kept-cons)

pub words_first : (xs : List ℕ) → 0 < position_or_len is_blank xs
    → words xs ≡ take (position_or_len is_blank xs) xs ∷ words (drop (position_or_len is_blank xs) xs)
words_first xs some = elim (cases_lt (position_or_len is_blank xs) (length xs)) [
  | inl more ↦ words_first_of_more xs some more
  | inr last ↦ words_first_of_last xs some (omega (arith, prefix_len-le-length (λ b. not (is_blank b)) xs))
]

-- a line that begins with no blank and has no word is empty
pub words_none : (xs : List ℕ) → prefix_len is_blank xs ≡ 0 → position_or_len is_blank xs ≡ 0 → xs ≡ []
words_none [] a b = refl
words_none (x ∷ xs) a b = grind (arith, common_steps)

pub words-nil : words [] ≡ []
unfolding words
words-nil = refl

-- what is left after the blanks begins with none
pub no_blanks_left : (xs : List ℕ) → prefix_len is_blank (drop (prefix_len is_blank xs) xs) ≡ 0
no_blanks_left [] = refl
no_blanks_left (b ∷ xs) =
    elim (is_blank b) as (λ v. is_blank b ≡ v → prefix_len is_blank (drop (cond v (1 + prefix_len is_blank xs) 0) (b ∷ xs)) ≡ 0) [
      | true ↦ λ h. let e : 1 + prefix_len is_blank xs ≡ suc (prefix_len is_blank xs) = omega arith in rw e (no_blanks_left xs)
      | false ↦ λ h. rw h refl
    ] refl

-- what one step over a line finds
pub record FindsWord (line word after : List ℕ) : Type 0 where
  pub some : 0 < length word → words line ≡ word ∷ words after
  pub none : length word ≡ 0 → words line ≡ []
  pub none_after : length word ≡ 0 → words after ≡ []

pub finds_word : (line rest : List ℕ) (n m : ℕ) (word after : List ℕ) → n ≡ prefix_len is_blank line → rest ≡ drop n line
    → m ≡ position_or_len is_blank rest → word ≡ take m rest → after ≡ drop m rest → FindsWord line word after
finds_word line rest n m word after n_is rest_is m_is word_is after_is =
    let left : prefix_len is_blank rest ≡ 0 = rw (rest_is, n_is) (no_blanks_left line) in
    let same : words rest ≡ words line = rw (rest_is, n_is) (words_skip line) in
    let long : length word ≡ m = rw (word_is, m_is) (length-prefix_len (λ b. not (is_blank b)) rest) in
    record {
      some = λ h. sym same ∙ rw (word_is, after_is, m_is) (words_first rest (omega arith));
      none = λ h. sym same ∙ ap words (words_none rest left (omega arith)) ∙ words-nil;
      none_after = λ h. let e : rest ≡ [] = words_none rest left (omega arith) in
          rw after_is (ap words (drop_all m rest (rw e (omega arith))) ∙ words-nil);
    }
