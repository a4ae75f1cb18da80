-- What a healthy flash is sure to program is what the adapter programs.
use Rattle.std.proofs.Common.{◌≡◌, ℕ, ◌+◌, ◌*◌, ◌<◌, ◌&&◌, zero, suc, true, Some, List, get_or, nat_lt, arith, sym, ◌∙◌, refl, ◌⊎◌, inl, inr}
use Rattle.std.specs.Cmp.Lexicographic.{bytes_decides}
use Rattle.std.proofs.lemmas.Bool.{lt-ltb}
use Rattle.std.proofs.lemmas.Grind.{same_number_lists}
use Rattle.flash_model.specs.Image.{slot_at}
use Rattle.flash_model.specs.Assured.{IsShortWord, IsAssured}
use Rattle.ecc_flash.specs.Reading.{blank, same, paired, is_word}
use Rattle.ecc_flash.specs.Model.{WriteUnit}
use Rattle.ecc_flash.specs.Paired.{AllKept, slot_in, image_of}
use Rattle.ecc_flash.proofs.Images.{slot_is}
use Rattle.ecc_flash.proofs.Words.{eight_of}

short_each : (u : List ℕ) → IsShortWord u → (k : ℕ) → k < 8 → get_or u k 0 ≡ get_or (paired (get_or u 0 0) (get_or u 1 0) (get_or u 2 0) (get_or u 3 0)) k 0
unfolding paired
short_each u w zero l = refl
short_each u w (suc zero) l = refl
short_each u w (suc (suc zero)) l = refl
short_each u w (suc (suc (suc zero))) l = refl
short_each u w (suc (suc (suc (suc zero)))) l = omega (arith, w.pairs 0 (omega arith))
short_each u w (suc (suc (suc (suc (suc zero))))) l = omega (arith, w.pairs 1 (omega arith))
short_each u w (suc (suc (suc (suc (suc (suc zero)))))) l = omega (arith, w.pairs 2 (omega arith))
short_each u w (suc (suc (suc (suc (suc (suc (suc zero))))))) l = omega (arith, w.pairs 3 (omega arith))
short_each u w (suc (suc (suc (suc (suc (suc (suc (suc k)))))))) l = absurd (omega arith)

pub short_word : (u : List ℕ) → IsShortWord u → is_word u ≡ true
unfolding is_word
short_word u w =
    let p : List ℕ = paired (get_or u 0 0) (get_or u 1 0) (get_or u 2 0) (get_or u 3 0) in
    let lists : u ≡ p = same_number_lists u p (w.eight ∙ sym (eight_of _ _ _ _)) (λ k l. short_each u w k (rw (← w.eight) l)) in
    let s : same u p ≡ true = (bytes_decides u p).1 lists in
    let c : nat_lt (get_or u 3 0) 128 ≡ true = lt-ltb _ _ w.clear in
    rw (s, c) refl

pub erased_slot_in : (units : ℕ → ℕ → WriteUnit) (n p s : ℕ) (bytes : List ℕ) → AllKept units n → p < n → s < 512 → IsAssured (image_of units n) p s bytes → slot_in units p s ≡ blank
unfolding blank
erased_slot_in units n p s bytes k l m a = sym (slot_is units n p s k l m) ∙ a.erased

-- it programs nothing else
pub no_other : {A : Type 0} → A ⊎ ⊥ → A
no_other (inl a) = a
no_other (inr none) = absurd none
