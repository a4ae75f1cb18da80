-- Trusted: the first number that passes a test.
use Rattle.std.specs.Prelude.{ℕ, zero, suc, if◌then◌else◌, Bool, Option, Some, None}
use Rattle.std.specs.Option.{option_or}

-- the first of so many numbers from 0 on that passes a test
unfoldable pub first : (ℕ → Bool) → ℕ → Option ℕ
first test zero = None
first test (suc number) = option_or (first test number) (if test number then Some number else None)
