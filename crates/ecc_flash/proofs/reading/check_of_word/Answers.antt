use Rattle.std.proofs.Common.{rules, arith}
use Rattle.std.proofs.lemmas.Nat.{xor_of_8}
use Rattle.ecc_flash.specs.Units.{IsEight}
use Rattle.ecc_flash.specs.Reading.{check_of}
use Rattle.ecc_flash.proofs.Words.{turned}
use Rattle.ecc_flash.proofs.reading.check_of_word.Goals as goal

pub returns : goal.returns
unfolding check_of
returns c =
    let e : IsEight c.args.unit = record { eight = search rules; each = search rules } in
    c.beside_complement.ensures _ _ _ _ (xor_of_8 _ _ (e.each 0) (e.each 3)) (xor_of_8 _ _ (e.each 1) (e.each 0)) (xor_of_8 _ _ (e.each 2) (e.each 1)) (xor_of_8 _ _ (e.each 3) (e.each 2))
    (rw c.rotate_left.ensures (omega (arith, turned _ _ _ _ c.from_le_bytes-word.result (e.each 0) (e.each 1) (e.each 2) (e.each 3) (omega (arith, c.from_le_bytes-word.ensures)))))
