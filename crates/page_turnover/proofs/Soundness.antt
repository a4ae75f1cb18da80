use Rattle.std.proofs.Common.{◌≡◌, ℕ, ◌+◌, ◌<◌, true, false, List, Option, Some, None, MatchOption, arith, subst, inl, inr}
use Rattle.std.specs.Prelude.{is_some}
use Rattle.std.proofs.lemmas.Bool.{cases_lt}
use Rattle.records.specs.Slots.{IsSound}
use Rattle.flash_model.specs.Image.{slot_at, page_count}
use Rattle.page_turnover.specs.Usable.{IsSoundBelow, IsFirstUnsound}

-- the lowest page with an unsound slot 0 among the first n, or none
abbrev pub LowestIs : List ℕ → ℕ → Option ℕ → Type 0
LowestIs image n lowest = MatchOption lowest (IsSoundBelow image n) (λ p. IsFirstUnsound image p)

pub none_below : (image : List ℕ) → LowestIs image 0 None
none_below image = record { sound = λ p l. absurd (omega arith) }

pub one_more : (image : List ℕ) (n : ℕ) → IsSoundBelow image n → IsSound (slot_at image n 0) → IsSoundBelow image (n + 1)
one_more image n below here = record {
  sound = λ p l. elim (cases_lt p n) [
    | inl a ↦ below.sound p a
    | inr b ↦ (let e : n ≡ p = omega arith in let P : ℕ → Type 0 = λ q. IsSound (slot_at image q 0) in subst P e here)
  ];
}

-- a page with an unsound slot 0, and none before
pub first_found : (image : List ℕ) (n : ℕ) (lowest : Option ℕ) → n < page_count image → is_some lowest ≡ false → LowestIs image n lowest → (IsSound (slot_at image n 0) → ⊥) → IsFirstUnsound image n
first_found image n None l e h u = record { in_pages = l; unsound = u; below = h }
first_found image n (Some p) l e h u = cc

-- a page with a sound slot 0
pub still_sound : (image : List ℕ) (n : ℕ) (lowest : Option ℕ) → LowestIs image n lowest → IsSound (slot_at image n 0) → LowestIs image (n + 1) lowest
still_sound image n None h s = one_more image n h s
still_sound image n (Some p) h s = h

-- a page after the first with an unsound slot 0
pub still_first : (image : List ℕ) (n : ℕ) (lowest : Option ℕ) → is_some lowest ≡ true → LowestIs image n lowest → LowestIs image (n + 1) lowest
still_first image n None e h = cc
still_first image n (Some p) e h = h
