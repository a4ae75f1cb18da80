-- Reading a text in pieces.
use Rattle.std.proofs.Common.{ℕ, ◌+◌, ◌≤◌, List, ◌++◌, length, take, Option, arith, length-append}
use Rattle.std.proofs.lemmas.List.{length-take-le}
use Rattle.std.proofs.KnownBytes.{Consumes-trans}
use Rattle.std.specs.Io.KnownBytes.{Consumes}

-- the text so far is what the reader has given
pub record ReadSoFar (most : ℕ) (first now : Option (List ℕ)) (text : List ℕ) : Type 0 where
  pub given : Consumes first now text
  pub short : length text ≤ most

-- a piece more, of which so many bytes were read
pub read_more : (most : ℕ) (first now after : Option (List ℕ)) (text piece : List ℕ) (count : ℕ) → ReadSoFar most first now text
    → Consumes now after (take count piece) → count ≤ length piece → length text + count ≤ most + 1
    → (taken : List ℕ) × Consumes first after taken × (length taken ≤ most + 1)
read_more most first now after text piece count so_far gave within few = (
  text ++ take count piece,
  Consumes-trans first now after text (take count piece) so_far.given gave,
  omega (arith, length-append text (take count piece), length-take-le count piece within, few),
)
