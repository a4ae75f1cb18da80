-- The bytes of each report for no usages.
use Rattle.std.proofs.Common.{◌≡◌, ℕ, zero, suc, [], ◌∷◌, false, replicate, refl}
use Rattle.reports.specs.Wanted.{boot_bytes, bitmap_bytes, consumer_bytes, members, number_of, byte_of, bytes_of, words_of}

pub boot_bytes_none : boot_bytes (λ _. false) ≡ replicate 8 0
unfolding boot_bytes members number_of byte_of
boot_bytes_none = refl

pub bitmap_bytes_none : bitmap_bytes (λ _. false) ≡ 1 ∷ replicate 22 0
unfolding bitmap_bytes number_of byte_of bytes_of
bitmap_bytes_none = refl

members_none : (first n : ℕ) → members (λ _. false) first n ≡ []
unfolding members
members_none first zero = refl
members_none first (suc n) = rw (members_none first n) refl

pub consumer_bytes_none : consumer_bytes (λ _. false) ≡ 2 ∷ replicate 8 0
unfolding consumer_bytes words_of
consumer_bytes_none = rw (members_none 1 1023) refl
