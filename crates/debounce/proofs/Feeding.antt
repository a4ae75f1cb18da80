-- Before the first scan.
use Rattle.std.proofs.Common.{◌≡◌, ℕ, ◌<◌, ◌/◌, ◌%◌, Bool, false, List, [], get_or, replicate, refl, arith}
use Rattle.std.specs.Int.{bit_at}
use Rattle.std.proofs.lemmas.List.{get_or-replicate}
use Rattle.std.proofs.lemmas.Nat.Bits.{bit_at-zero}
use Rattle.debounce.specs.Scans.{has}
use Rattle.debounce.specs.Samples.{debounced, down, equal_latest}
use Rattle.debounce.specs.representation.Kept.{Kept}
use Rattle.debounce.specs.representation.Rows.{KeyRefines}
use Rattle.debounce.specs.representation.Relation.{Refines}
use Rattle.debounce.specs.representation.Relation as matrix
use Rattle.debounce.specs.representation.Counted.{Counted, IsCounted, plane_bit}
use Rattle.debounce.specs.representation.Counted as counted

-- every key is up
pub down-none : (key : ℕ) → down [] key ≡ false
unfolding down debounced
down-none key = refl

zeroes_refine : (a b c d : ℕ) → a ≡ 0 → b ≡ 0 → c ≡ 0 → d ≡ 0 → KeyRefines [] (record { first = a; second = b; third = c; down = d })
unfolding debounced
zeroes_refine a b c d ea eb ec ed = rw (ea, eb, ec, ed) (record { first = refl; second = refl; third = refl; down = refl })

word_zero : (words : List ℕ) (key : ℕ) → words ≡ replicate 3 0 → key < 96 → bit_at (get_or words (key / 32) 0) (key % 32) ≡ 0
word_zero words key e l = rw (e, get_or-replicate {A = ℕ} 3 (key / 32) 0 0 (omega arith)) (bit_at-zero (key % 32))

pub none-refines : (kept : Kept) → kept.first ≡ replicate 3 0 → kept.second ≡ replicate 3 0 → kept.third ≡ replicate 3 0 → kept.down ≡ replicate 3 0 → Refines [] kept
none-refines kept a b c d = record {
  each = λ key l. zeroes_refine _ _ _ _ (word_zero kept.first key a l) (word_zero kept.second key b l) (word_zero kept.third key c l) (word_zero kept.down key d l);
}

zeroes_counted : (latest : Bool) (a b c : ℕ) → a ≡ 0 → b ≡ 0 → c ≡ 0 → IsCounted [] latest a b c
unfolding equal_latest
zeroes_counted latest a b c ea eb ec = rw (ea, eb, ec) (record { other = refl; ones = refl; twos = refl; fours = refl })

plane_zero : (planes : List (List ℕ)) (plane key : ℕ) → planes ≡ replicate 3 (replicate 6 0) → plane < 3 → key < 96 → plane_bit planes plane key ≡ 0
plane_zero planes plane key e p l =
    rw (e, get_or-replicate {A = List ℕ} 3 plane (replicate 6 0) [] p, get_or-replicate {A = ℕ} 6 (key / 16) 0 0 (omega arith)) (bit_at-zero (key % 16))

pub none-counted : (kept : Counted) → matrix.Refines [] kept.matrix → kept.planes ≡ replicate 3 (replicate 6 0) → counted.Refines [] kept
none-counted kept m e = record {
  matrix = m;
  each = λ key l. zeroes_counted (has kept.latest key) _ _ _ (plane_zero kept.planes 0 key e (omega arith) l) (plane_zero kept.planes 1 key e (omega arith) l) (plane_zero kept.planes 2 key e (omega arith) l);
}
