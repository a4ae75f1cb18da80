use Rattle.std.proofs.Common.{◌≡◌, ◌<◌, ◌≤◌, ◌^◌, ℕ, List, Some, length, get_or, arith}
use Rattle.settings.specs.declared.change.Change.{Change}
use Rattle.settings.specs.Words.{IsChange}
use Rattle.settings.proofs.change.is_change.Goals as goal

has_value : (change : Change) (bytes : List ℕ) → change.id < 2 ^ 16 → change.value ≡ Some bytes → length bytes ≤ 64 → ((k : ℕ) → get_or bytes k 0 < 2 ^ 8) → IsChange change
has_value change bytes l e n b = record { small = l; value_is = rw e (record { short = n; bytes_are = b }) }

pub returns-in-Some : goal.returns-in-Some
returns-in-Some c = has_value c.args.change.now c.in-Some.value (omega arith) c.in-Some.is (rw (← c.len-len.ensures.len) c.len-len.ensures.short) (λ k. rw (← c.as_bytes.ensures) (c.are_bytes.ensures k))
