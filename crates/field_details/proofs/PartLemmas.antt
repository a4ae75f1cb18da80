-- The ranges of items as parts of one list.
use Rattle.std.proofs.Common.{◌≡◌, ℕ, zero, suc, ◌-◌, ◌<◌, ◌≤◌, List, [], ◌∷◌, ◌++◌, length, take, drop, refl, arith, sym, ◌∙◌, ap, Some, length-append, length-drop}
use Rattle.std.proofs.lemmas.List.{take-append-le, drop-append-le}
use Rattle.std.specs.Prelude.{slice_get}
use Rattle.field_details.specs.declared.names.Part.{Part}
use Rattle.field_details.specs.representation.Named.{IsPart, part_of, AreGiven, given_at}

-- ---- one part

empty_part : (ranges : List (ℕ × ℕ)) (part : Part) → part.start ≡ part.end → part_of ranges part ≡ []
empty_part ranges part same =
    let none : part.end - part.start ≡ 0 = omega (arith, same) in
    rw none refl

part_longer : (ranges more : List (ℕ × ℕ)) (part : Part) → IsPart ranges part → part_of (ranges ++ more) part ≡ part_of ranges part
part_longer ranges more part p =
    let from : part.start ≤ length ranges = omega (arith, p.0, p.1) in
    let size : part.end - part.start ≤ length (drop part.start ranges) = omega (arith, length-drop part.start ranges, p.0, p.1) in
    ap (take (part.end - part.start)) (drop-append-le part.start ranges more from) ∙ take-append-le (part.end - part.start) (drop part.start ranges) more size

-- ---- all parts

pub given_longer : (ranges more : List (ℕ × ℕ)) (parts : List Part) (given : List (List (ℕ × ℕ))) → AreGiven ranges parts given → AreGiven (ranges ++ more) parts given
given_longer ranges more [] [] a = tt
given_longer ranges more [] (own ∷ rest) a = (a.0, given_longer ranges more [] rest a.1)
given_longer ranges more (part ∷ parts) [] a = a
given_longer ranges more (part ∷ parts) (own ∷ rest) a =
    let ends : part.end ≤ length (ranges ++ more) = (let e = a.0.1 in omega (arith, e, length-append ranges more)) in
    ((a.0.0, ends), part_longer ranges more part a.0 ∙ a.1, given_longer ranges more parts rest a.2)

-- an item without ranges
given_none : (ranges : List (ℕ × ℕ)) (parts : List Part) (given : List (List (ℕ × ℕ))) → AreGiven ranges parts given → AreGiven ranges parts (given ++ [] ∷ [])
given_none ranges [] [] a = (refl, tt)
given_none ranges [] (own ∷ rest) a = (a.0, given_none ranges [] rest a.1)
given_none ranges (part ∷ parts) [] a = absurd a
given_none ranges (part ∷ parts) (own ∷ rest) a = (a.0, a.1, given_none ranges parts rest a.2)

pub given_empty : (ranges own : List (ℕ × ℕ)) (parts : List Part) (given : List (List (ℕ × ℕ))) → length own ≡ 0 → AreGiven ranges parts given → AreGiven ranges parts (given ++ own ∷ [])
given_empty ranges [] parts given e a = given_none ranges parts given a
given_empty ranges (x ∷ xs) parts given e a = absurd (omega (arith, e))

pub given_few : (ranges : List (ℕ × ℕ)) (parts : List Part) (given : List (List (ℕ × ℕ))) → AreGiven ranges parts given → length parts ≤ length given
given_few ranges [] given a = omega arith
given_few ranges (part ∷ parts) [] a = absurd a
given_few ranges (part ∷ parts) (own ∷ rest) a = let few = given_few ranges parts rest a.2 in omega (arith, few)

-- an empty part where none was
pub given_filled : (ranges : List (ℕ × ℕ)) (parts : List Part) (given : List (List (ℕ × ℕ))) (part : Part) → AreGiven ranges parts given → length parts < length given
    → part.start ≡ 0 → part.end ≡ 0 → AreGiven ranges (parts ++ part ∷ []) given
given_filled ranges [] [] part a l start end = absurd (omega arith)
given_filled ranges [] (own ∷ rest) part a l start end = ((omega (arith, start, end), omega (arith, end)), empty_part ranges part (start ∙ sym end) ∙ sym a.0, a.1)
given_filled ranges (other ∷ parts) [] part a l start end = absurd a
given_filled ranges (other ∷ parts) (own ∷ rest) part a l start end = (a.0, a.1, given_filled ranges parts rest part a.2 (omega (arith, l)) start end)

pub given_more : (ranges : List (ℕ × ℕ)) (parts : List Part) (given : List (List (ℕ × ℕ))) (part : Part) → AreGiven ranges parts given → length parts ≡ length given
    → IsPart ranges part → AreGiven ranges (parts ++ part ∷ []) (given ++ part_of ranges part ∷ [])
given_more ranges [] [] part a l p = (p, refl, tt)
given_more ranges [] (own ∷ rest) part a l p = absurd (omega arith)
given_more ranges (other ∷ parts) [] part a l p = absurd a
given_more ranges (other ∷ parts) (own ∷ rest) part a l p = (a.0, a.1, given_more ranges parts rest part a.2 (omega (arith, l)) p)

-- ---- at a place

pub found_given : (ranges : List (ℕ × ℕ)) (parts : List Part) (given : List (List (ℕ × ℕ))) (place : ℕ) (part : Part) → AreGiven ranges parts given → slice_get parts place ≡ Some part
    → IsPart ranges part × (part_of ranges part ≡ given_at given place)
found_given ranges [] given place part a e = cc
found_given ranges (other ∷ parts) [] place part a e = absurd a
found_given ranges (other ∷ parts) (own ∷ rest) zero part a e =
    let same : other ≡ part = cc in
    rw (← same) (a.0, a.1)
found_given ranges (other ∷ parts) (own ∷ rest) (suc place) part a e = found_given ranges parts rest place part a.2 e

pub none_given : (ranges : List (ℕ × ℕ)) (parts : List Part) (given : List (List (ℕ × ℕ))) (place : ℕ) → AreGiven ranges parts given → length parts ≤ place → given_at given place ≡ []
none_given ranges [] [] place a l = refl
none_given ranges [] (own ∷ rest) zero a l = a.0
none_given ranges [] (own ∷ rest) (suc place) a l = none_given ranges [] rest place a.1 (omega arith)
none_given ranges (part ∷ parts) [] place a l = refl
none_given ranges (part ∷ parts) (own ∷ rest) zero a l = absurd (omega (arith, l))
none_given ranges (part ∷ parts) (own ∷ rest) (suc place) a l = none_given ranges parts rest place a.2 (omega (arith, l))
