use Rattle.std.proofs.Common.{◌≡◌, ◌+◌, ◌-◌, ◌<◌, ◌≤◌, ℕ, List, length, get_or, arith, sym, ◌∙◌, ap, bit_and, refl, inl, inr, replicate}
use Rattle.std.specs.Simd.Lanes.{zip2, chunk}
use Rattle.std.proofs.lemmas.Simd.{length-zip2, length-chunk, get_or-chunk, get_or-zip2}
use Rattle.std.proofs.lemmas.List.{get_or-replicate}
use Rattle.std.proofs.lemmas.Bool.{cases_lt}
use Rattle.std.proofs.lemmas.Nat.{and_le_l}
use Rattle.records.proofs.Lanes.{and_byte}

-- the lanes are all ones where each byte before i is
pub record Gathered (bytes : List ℕ) (i : ℕ) (all : List ℕ) : Type 0 where
  pub lanes : length all ≡ 64
  pub within : i ≤ length bytes
  pub fits : (m : ℕ) → m < 64 → get_or all m 0 < 256
  pub down : ((m : ℕ) → m < 64 → get_or all m 0 ≡ 255) → (k : ℕ) → k < i → get_or bytes k 0 ≡ 255
  pub up : ((k : ℕ) → k < i → get_or bytes k 0 ≡ 255) → (m : ℕ) → m < 64 → get_or all m 0 ≡ 255

pub gathered_none : (bytes : List ℕ) → Gathered bytes 0 (replicate 64 255)
gathered_none bytes = record {
  lanes = refl;
  within = omega arith;
  fits = λ m l. rw (get_or-replicate {A = ℕ} 64 m 255 0 l) (omega arith);
  down = λ h k l. absurd (omega arith);
  up = λ h m l. get_or-replicate {A = ℕ} 64 m 255 0 l;
}

anded : (bytes : List ℕ) (i : ℕ) (all : List ℕ) → length all ≡ 64 → i + 64 ≤ length bytes → (m : ℕ) → m < 64 → get_or (zip2 bit_and all (chunk i 64 bytes)) m 0 ≡ bit_and (get_or all m 0) (get_or bytes (i + m) 0)
anded bytes i all e room m l =
    get_or-zip2 bit_and all (chunk i 64 bytes) m 0 0 0 (omega (arith, e)) (omega (arith, length-chunk i 64 bytes room))
    ∙ ap (λ n. bit_and (get_or all m 0) n) (get_or-chunk i 64 bytes m 0 l)

pub gathered_more : (bytes : List ℕ) (i : ℕ) (all : List ℕ) → ((k : ℕ) → get_or bytes k 0 < 256) → Gathered bytes i all → i + 64 ≤ length bytes → Gathered bytes (i + 64) (zip2 bit_and all (chunk i 64 bytes))
gathered_more bytes i all byte g room = record {
  lanes = length-zip2 bit_and all (chunk i 64 bytes) (g.lanes ∙ sym (length-chunk i 64 bytes room)) ∙ g.lanes;
  within = room;
  fits = λ m l. rw (anded bytes i all g.lanes room m l) (omega (arith, and_le_l (get_or all m 0) (get_or bytes (i + m) 0), g.fits m l));
  down = λ h k l.
      let both : (m : ℕ) → m < 64 → (get_or all m 0 ≡ 255) × (get_or bytes (i + m) 0 ≡ 255) = λ m n. and_byte (get_or all m 0) (get_or bytes (i + m) 0) (g.fits m n) (byte (i + m)) (sym (anded bytes i all g.lanes room m n) ∙ h m n) in
      elim (cases_lt k i) [
        | inl below ↦ g.down (λ m n. (both m n).0) k below
        | inr above ↦ (let e : i + (k - i) ≡ k = omega arith in ap (λ n. get_or bytes n 0) (sym e) ∙ (both (k - i) (omega arith)).1)
      ];
  up = λ h m l.
      let a : get_or all m 0 ≡ 255 = g.up (λ k n. h k (omega arith)) m l in
      let b : get_or bytes (i + m) 0 ≡ 255 = h (i + m) (omega arith) in
      anded bytes i all g.lanes room m l ∙ rw (a, b) refl;
}
