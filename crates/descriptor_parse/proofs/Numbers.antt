use Rattle.std.proofs.lemmas.Grind.{common_steps}
use Rattle.std.proofs.Common.{◌≡◌, ℕ, ◌+◌, ◌*◌, ◌≤◌, List, length, get_or, arith}
use Rattle.descriptor_parse.specs.Globals.{unsigned}

-- the number of up to four bytes, byte by byte
pub unsigned_bytes : (bytes : List ℕ) → length bytes ≤ 4
    → unsigned bytes ≡ get_or bytes 0 0 + 256 * get_or bytes 1 0 + 65536 * get_or bytes 2 0 + 16777216 * get_or bytes 3 0
unsigned_bytes bytes h1 = grind (arith, common_steps)

pub unsigned_one : (bytes : List ℕ) → length bytes ≡ 1 → unsigned bytes ≡ get_or bytes 0 0
unsigned_one bytes h1 = grind (arith, common_steps)
