-- Codes and words of format 1 in format 2.
use Rattle.std.proofs.Common.{◌≡◌, ℕ, zero, suc, ◌+◌, ◌*◌, ◌/◌, ◌%◌, ◌^◌, ◌<◌, ◌&&◌, Bool, true, Option, Some, None, List, [], ◌∷◌, get_or, nat_lt, refl, arith}
use Rattle.std.proofs.lemmas.Bool.{and_parts, ltb-true}
use Rattle.layers.specs.Commands.{command_of}
use Rattle.layers.specs.Formats.{consumer_list, code_of_format_1, command_of_format_1}
use Rattle.layers.specs.declared.command.Command.{Command}

all_small : List ℕ → Bool
all_small [] = true
all_small (x ∷ xs) = nat_lt x 0x400 && all_small xs

small_at : (xs : List ℕ) → all_small xs ≡ true → (k : ℕ) → get_or xs k 0 < 0x400
unfolding all_small
small_at [] e k = omega arith
small_at (x ∷ xs) e zero = ltb-true x 0x400 (and_parts (nat_lt x 0x400) (all_small xs) e).0
small_at (x ∷ xs) e (suc k) = small_at xs (and_parts (nat_lt x 0x400) (all_small xs) e).1 k

pub consumer_list-small : (k : ℕ) → get_or consumer_list k 0 < 0x400
unfolding all_small
consumer_list-small k = small_at consumer_list refl k

pub command_of_format_1-some : (word code : ℕ) (is : Option Command) → Some code ≡ code_of_format_1 (word % 2 ^ 16) → is ≡ command_of (2 ^ 16 * (word / 2 ^ 16) + code) → is ≡ command_of_format_1 word
unfolding command_of_format_1
command_of_format_1-some word code is e f = rw (← e) f

pub command_of_format_1-none : (word : ℕ) → None ≡ code_of_format_1 (word % 2 ^ 16) → None ≡ command_of_format_1 word
unfolding command_of_format_1
command_of_format_1-none word e = rw (← e) refl
