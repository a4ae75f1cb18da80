use Rattle.std.proofs.Common.{◌≡◌, ℕ, zero, suc, ◌+◌, ◌-◌, ◌<◌, ◌≤◌, min, true, false, List, [], ◌∷◌, ◌++◌, length, drop, append_assoc, add-one, length-drop, arith, refl, sym, ◌∙◌, ap, Some, None, pos}
use Rattle.std.specs.Prelude.{ℤ, Option, slice_get, MatchOption}
use Rattle.std.specs.Option.{option_or}
use Rattle.std.proofs.lemmas.Bool.{lt-ltb}
use Rattle.std.proofs.lemmas.List.{append-nil, drop_all}
use Rattle.descriptor_parse.specs.declared.field.Field.{Field}
use Rattle.host_extract.specs.declared.reading.Found.{Found}
use Rattle.host_extract.specs.Found.{value_at, named, in_array, reading_at, readings_of}

-- ---- the readings of a field, place by place

pub none-first : (items old : List Found) (field : Field) (usages bytes : List ℕ) → items ≡ old → items ≡ old ++ readings_of field usages bytes 0
unfolding readings_of
none-first items old field usages bytes e = e ∙ sym (append-nil old)

readings-more : (field : Field) (usages bytes : List ℕ) (place : ℕ) → readings_of field usages bytes (place + 1) ≡ readings_of field usages bytes place ++ reading_at field usages bytes place
unfolding readings_of
readings-more field usages bytes place = rw (add-one place) refl

pub one-more : (items now old : List Found) (field : Field) (usages bytes : List ℕ) (place : ℕ) → items ≡ old ++ readings_of field usages bytes place
    → now ≡ items ++ reading_at field usages bytes place → now ≡ old ++ readings_of field usages bytes (place + 1)
one-more items now old field usages bytes place h n =
    n ∙ ap (λ xs. xs ++ reading_at field usages bytes place) h ∙ append_assoc old (readings_of field usages bytes place) (reading_at field usages bytes place)
    ∙ ap (λ xs. old ++ xs) (sym (readings-more field usages bytes place))

-- a place of an array
pub array-place : (field : Field) (usages bytes : List ℕ) (place : ℕ) (v : ℤ) (usage : Option ℕ) → field.array ≡ true → v ≡ value_at field bytes place
    → named usage (pos 1) ≡ in_array field usages v → named usage (pos 1) ≡ reading_at field usages bytes place
array-place field usages bytes place v usage a e h = h ∙ ap (in_array field usages) e ∙ rw a refl

-- ---- the usages of a variable field

-- the usage that serves the place before this one
abbrev pub served : List ℕ → ℕ → Option ℕ
served usages zero = None
served usages (suc place) = slice_get usages (min place (length usages - 1))

pub variable-place : (field : Field) (usages bytes : List ℕ) (place : ℕ) (v : ℤ) (usage : Option ℕ) → field.array ≡ false → place < field.count → v ≡ value_at field bytes place
    → usage ≡ served usages (place + 1) → named usage v ≡ reading_at field usages bytes place
variable-place field usages bytes place v usage a l e s =
    let t : served usages (place + 1) ≡ slice_get usages (min place (length usages - 1)) = rw (add-one place) refl in
    rw (a, lt-ltb place field.count l, e, s, t) refl

none-left : (usages : List ℕ) (place : ℕ) → [] ≡ drop place usages → length usages ≤ place
none-left usages place e = let l : 0 ≡ length (drop place usages) = ap length e in omega (arith, length-drop place usages)

front-left : (usages : List ℕ) (place u : ℕ) (now : List ℕ) → u ∷ now ≡ drop place usages → (now ≡ drop (place + 1) usages) × (Some u ≡ slice_get usages place) × (place < length usages)
front-left [] zero u now e = absurd (let l : suc (length now) ≡ 0 = ap length e in omega arith)
front-left [] (suc place) u now e = absurd (let l : suc (length now) ≡ 0 = ap length e in omega arith)
front-left (x ∷ xs) zero u now e = (ap (drop 1) e, ap (λ ys. slice_get ys 0) e, omega arith)
front-left (x ∷ xs) (suc place) u now e =
    let (d, s, l) = front-left xs place u now e in
    (rw (add-one place) at d ∙ (rw (add-one (suc place)) refl), s, omega arith)

-- past the end the last usage serves
none-more : (usages : List ℕ) (place : ℕ) → length usages ≤ place → served usages place ≡ served usages (place + 1)
none-more [] zero l = refl
none-more (x ∷ xs) zero l = absurd (omega arith)
none-more usages (suc place) l =
    let m : min place (length usages - 1) ≡ min (suc place) (length usages - 1) = omega arith in
    rw (add-one (suc place)) (ap (slice_get usages) m)

-- the next usage, or else the one that served before
pub serving-step : (usages old now : List ℕ) (place : ℕ) (next serving : Option ℕ) → old ≡ drop place usages
    → MatchOption next ((old ≡ []) × (now ≡ [])) (λ u. old ≡ u ∷ now) → serving ≡ served usages place
    → (now ≡ drop (place + 1) usages) × (option_or next serving ≡ served usages (place + 1))
serving-step usages old now place None serving d (e, n) s =
    let l : length usages ≤ place = none-left usages place (sym e ∙ d) in
    let past : drop (place + 1) usages ≡ [] = drop_all (place + 1) usages (omega arith) in
    (n ∙ sym past, s ∙ none-more usages place l)
serving-step usages old now place (Some u) serving d e s =
    let (rest, found, l) = front-left usages place u now (sym e ∙ d) in
    let m : min place (length usages - 1) ≡ place = omega arith in
    (rest, rw (add-one place, m) found)
