-- Taking the lines of a text one by one.
use Rattle.std.proofs.Common.{◌≡◌, ℕ, ◌+◌, ◌<◌, ◌≤◌, List, [], ◌∷◌, length, take, drop, ap, sym, ◌∙◌, arith, add-one, suc, get_or, length-drop}
use Rattle.std.proofs.lemmas.Grind.{common_steps}
use Rattle.std.proofs.lemmas.List.{take_all, drop_all}
use Rattle.std.proofs.lemmas.List.Sums.{fails_before_first, count_by-le-length}
use Rattle.std.proofs.lemmas.List.Splits.{slice_split_none, slice_split_first, length-slice_split}
use Rattle.std.proofs.Math.Seq.{drop-cons}
use Rattle.std.specs.Prelude.{◌==◌}
use Rattle.std.specs.List.{slice_split, position_or_len}
use Rattle.std.specs.Str.Lines.{lines, lines_of_parts, strip_carriage_return}

lines_of_parts-cons : (x : List ℕ) (parts : List (List ℕ)) → 0 < length parts
    → lines_of_parts (x ∷ parts) ≡ strip_carriage_return x ∷ lines_of_parts parts
lines_of_parts-cons x parts h1 = grind (arith, common_steps)

-- a line ends before the first LF
pub lines_first : (text : List ℕ) → position_or_len (λ b. b == 10) text < length text
    → lines text ≡ strip_carriage_return (take (position_or_len (λ b. b == 10) text) text)
    ∷ lines (drop (position_or_len (λ b. b == 10) text + 1) text)
lines_first text more =
    ap lines_of_parts (slice_split_first (λ b. b == 10) text 0 more)
    ∙ lines_of_parts-cons _ (slice_split (λ b. b == 10) (drop (position_or_len (λ b. b == 10) text + 1) text))
    (omega (arith, length-slice_split (λ b. b == 10) (drop (position_or_len (λ b. b == 10) text + 1) text)))

-- a text without an LF is one line, if it is not empty
pub lines_last : (text : List ℕ) → length text ≤ position_or_len (λ b. b == 10) text → 0 < length text → lines text ≡ text ∷ []
lines_last text h1 h2 = grind (arith, common_steps, fails_before_first, slice_split_none, common_steps)

-- the step over a line that ends with LF
pub line_step : (text line tail rest : List ℕ) (n b : ℕ) → n ≡ position_or_len (λ b. b == 10) text → line ≡ take n text → tail ≡ drop n text
    → tail ≡ b ∷ rest → lines text ≡ strip_carriage_return line ∷ lines rest
line_step text line tail rest n b n_is line_is tail_is split =
    let more : n < length text = omega (arith, ap length split, ap length tail_is, length-drop n text) in
    let parts : b ∷ rest ≡ get_or text n 0 ∷ drop (suc n) text = sym split ∙ tail_is ∙ drop-cons text n 0 more in
    let rest_is : rest ≡ drop (n + 1) text = rw add-one (cc parts) in
    rw (line_is, rest_is, n_is) (lines_first text (rw (← n_is) more))

-- the step over a last line without LF
pub last_step : (text line tail : List ℕ) (n : ℕ) → n ≡ position_or_len (λ b. b == 10) text → line ≡ take n text → tail ≡ drop n text
    → length tail ≡ 0 → 0 < length line → lines text ≡ line ∷ lines tail
last_step text line tail n h1 h2 h3 h4 h5 = grind (arith, common_steps, take_all, drop_all, lines_last)

length-lines_of_parts : (parts : List (List ℕ)) → length (lines_of_parts parts) ≤ length parts
length-lines_of_parts [] = omega arith
length-lines_of_parts (x ∷ []) = grind (arith, common_steps)
length-lines_of_parts (x ∷ y ∷ more) = omega (arith, length-lines_of_parts (y ∷ more))

-- each line but the last takes a byte at least
pub length-lines : (text : List ℕ) → length (lines text) ≤ length text + 1
length-lines text = grind (arith, common_steps, length-lines_of_parts, length-slice_split, count_by-le-length)
