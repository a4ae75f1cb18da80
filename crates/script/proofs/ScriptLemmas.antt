-- Reading a script line by line.
use Rattle.std.proofs.Common.{◌≡◌, ℕ, ◌+◌, inl, inr, Bor, map, List, [], ◌∷◌, ◌++◌, length, refl, ap, sym, ◌∙◌, arith, append_assoc, length-append}
use Rattle.std.proofs.lemmas.List.{map-append}
use Rattle.script.specs.Scripts.{words_in, Script}
use Rattle.script.specs.Statements.{Says}
use Rattle.script.specs.declared.read.Line.{Line}

-- one more line, which says nothing
pub script_skip : (pages number : ℕ) (lines : List (List ℕ)) (line : List ℕ) (said : List Line)
    → Script pages number lines said → words_in line ≡ [] → Script pages number (lines ++ line ∷ []) said
script_skip pages number [] line said h empty = inl (empty, h)
script_skip pages number (l ∷ ls) line said h empty = elim h [
  | inl (none, more) ↦ inl (none, script_skip pages (number + 1) ls line said more empty)
  | inr (first, rest, is, place, says, more) ↦ inr (first, rest, is, place, says, script_skip pages (number + 1) ls line rest more empty)
]

-- one more line, which says something
pub script_more : (pages number : ℕ) (lines : List (List ℕ)) (line : List ℕ) (said : List Line) (last : Line)
    → Script pages number lines said → last.number ≡ number + length lines → Says pages last.statement (words_in line)
    → Script pages number (lines ++ line ∷ []) (said ++ last ∷ [])
script_more pages number [] line said last h place says =
    inr (last, [], ap (λ (xs : List Line). xs ++ last ∷ []) h, omega arith, says, refl)
script_more pages number (l ∷ ls) line said last h place says = elim h [
  | inl (none, more) ↦ inl (none, script_more pages (number + 1) ls line said last more (omega arith) says)
  | inr (first, rest, is, here, said_first, more) ↦ inr (
    first,
    rest ++ last ∷ [],
    ap (λ (xs : List Line). xs ++ last ∷ []) is,
    here,
    said_first,
    script_more pages (number + 1) ls line rest last more (omega arith) says,
  )
]

-- the lines so far, what they say, and what is left
pub record ReadSoFar (pages : ℕ) (lines : List (List ℕ)) (before left : List (List ℕ)) (number : ℕ) (said : List Line) : Type 0 where
  pub cut : lines ≡ before ++ left
  pub place : number ≡ length before
  pub sound : Script pages 1 before said

-- the next line, which says nothing
pub read_none : (pages : ℕ) (lines : List (List ℕ)) (before : List (Bor (List ℕ))) (left after : List (List ℕ)) (line : Bor (List ℕ)) (number : ℕ) (said : List Line)
    → ReadSoFar pages lines (map (λ x. x.now) before) left number said → left ≡ line.now ∷ after → words_in line.now ≡ []
    → ReadSoFar pages lines (map (λ x. x.now) (before ++ line ∷ [])) after (number + 1) said
read_none pages lines before left after line number said h step empty =
    rw (map-append (λ (x : Bor (List ℕ)). x.now) before (line ∷ [])) record {
      cut = h.cut ∙ rw step (sym (append_assoc (map (λ x. x.now) before) (line.now ∷ []) after));
      place = omega (arith, h.place, length-append (map (λ x. x.now) before) (line.now ∷ []));
      sound = script_skip pages 1 (map (λ x. x.now) before) line.now said h.sound empty;
    }

-- the next line, which says something
pub read_some : (pages : ℕ) (lines : List (List ℕ)) (before : List (Bor (List ℕ))) (left after : List (List ℕ)) (line : Bor (List ℕ)) (number : ℕ) (said : List Line) (last : Line)
    → ReadSoFar pages lines (map (λ x. x.now) before) left number said → left ≡ line.now ∷ after
    → last.number ≡ number + 1 → Says pages last.statement (words_in line.now)
    → ReadSoFar pages lines (map (λ x. x.now) (before ++ line ∷ [])) after (number + 1) (said ++ last ∷ [])
read_some pages lines before left after line number said last h step place says =
    rw (map-append (λ (x : Bor (List ℕ)). x.now) before (line ∷ [])) record {
      cut = h.cut ∙ rw step (sym (append_assoc (map (λ x. x.now) before) (line.now ∷ []) after));
      place = omega (arith, h.place, length-append (map (λ x. x.now) before) (line.now ∷ []));
      sound = script_more pages 1 (map (λ x. x.now) before) line.now said last h.sound (omega (arith, h.place)) says;
    }
