-- What an operation leaves that answered either way.
use Rattle.std.proofs.Common.{◌≡◌, ◌≤◌, ◌+◌, ◌-◌, ◌*◌, ◌/◌, ◌%◌, ◌∙◌, ◌++◌, sym, ℕ, zero, suc, List, [], ◌∷◌, take, drop, Result, Ok, Err, MatchResult, arith, ap, refl, subst}
use Rattle.std.proofs.lemmas.List.{drop-take}
use Rattle.std.proofs.Math.Seq.{take-add}
use Rattle.flash_model.specs.Image.{IsImage, slot_at}
use Rattle.flash_model.specs.Operations.{Programs, MayProgram, Erases, MayErase}
use Rattle.flash_model.proofs.ByMask.{whole_program, whole_erase}

pub program_torn : {A E : Type 0} (r : Result A E) (now old new : List ℕ) (page slot : ℕ) (bytes : List ℕ) → now ≡ old
    → MatchResult r (λ _. Programs now page slot bytes new) (λ _. MayProgram now page slot bytes new) → MayProgram old page slot bytes new
program_torn (Ok x) now old new page slot bytes e m = subst (λ (o : List ℕ). MayProgram o page slot bytes new) e (whole_program now page slot bytes new m)
program_torn (Err x) now old new page slot bytes e m = subst (λ (o : List ℕ). MayProgram o page slot bytes new) e m

pub erase_torn : {A E : Type 0} (r : Result A E) (now old new : List ℕ) (page : ℕ) → now ≡ old → IsImage old
    → MatchResult r (λ _. Erases now page new) (λ _. MayErase now page new) → MayErase old page new
erase_torn (Ok x) now old new page e i m = whole_erase old page new i (subst (λ (o : List ℕ). Erases o page new) e m)
erase_torn (Err x) now old new page e i m = subst (λ (o : List ℕ). MayErase o page new) e m

-- a slot of the first pages
pub slot_at-take : (n : ℕ) (xs : List ℕ) (page slot : ℕ) → 4096 * page + 8 * slot + 8 ≤ n → slot_at (take n xs) page slot ≡ slot_at xs page slot
unfolding slot_at
slot_at-take n xs page slot l =
    let at : ℕ = 4096 * page + 8 * slot in
    let e : n ≡ at + (n - at) = omega (arith, l) in
    ap (λ (m : ℕ). take 8 (drop at (take m xs))) e ∙ ap (take 8) (drop-take at (n - at) xs) ∙ take_take 8 (n - at) (drop at xs) (omega (arith, l))
  where
    take_take : (a b : ℕ) (ys : List ℕ) → a ≤ b → take a (take b ys) ≡ take a ys
    take_take zero b ys l = refl
    take_take (suc a) zero ys l = absurd (omega (arith, l))
    take_take (suc a) (suc b) [] l = refl
    take_take (suc a) (suc b) (y ∷ ys) l = ap (λ (zs : List ℕ). y ∷ zs) (take_take a b ys (omega (arith, l)))

-- one slot more is copied
pub copied_more : (bytes new image : List ℕ) (at : ℕ) (slot : List ℕ) → take (8 * at + 8) new ≡ take (8 * at) bytes ++ slot → slot ≡ slot_at image (at / 512) (at % 512) → take (8 * at) bytes ≡ take (8 * at) image
    → take (8 * (at + 1)) new ≡ take (8 * (at + 1)) image
unfolding slot_at
copied_more bytes new image at slot n s i =
    let e : 8 * (at + 1) ≡ 8 * at + 8 = omega arith in
    let p : 4096 * (at / 512) + 8 * (at % 512) ≡ 8 * at = omega arith in
    ap (λ (k : ℕ). take k new) e ∙ n ∙ ap (λ (xs : List ℕ). xs ++ slot) i ∙ ap (λ (xs : List ℕ). take (8 * at) image ++ xs) (s ∙ ap (λ (k : ℕ). take 8 (drop k image)) p)
    ∙ sym (ap (λ (k : ℕ). take k image) e ∙ take-add (8 * at) 8 image)
