-- Printing usages, one by one.
use Rattle.std.proofs.Common.{◌≡◌, ℕ, ◌+◌, ◌<◌, List, [], ◌∷◌, ◌++◌, length, take, get_or, refl}
use Rattle.std.proofs.lemmas.List.{take_more, flat_map_more}
use Rattle.text_io.specs.Digits.{word_in_hex}
use Rattle.kbsim.specs.Prints.{shown_usages}

pub shown_usages-nil : shown_usages [] ≡ []
unfolding shown_usages
shown_usages-nil = refl

-- one usage more
pub shown_usages_more : (usages : List ℕ) (i : ℕ) → i < length usages
    → shown_usages (take i usages) ++ (32 ∷ word_in_hex (get_or usages i 0)) ≡ shown_usages (take (i + 1) usages)
unfolding shown_usages
shown_usages_more usages i l =
    rw (take_more usages i 0 l) (flat_map_more (λ usage. 32 ∷ word_in_hex usage) [] (take i usages) (get_or usages i 0))
