-- Trusted: the usages of the keys that are held, as sets.
use Rattle.std.specs.Prelude.{◌≡◌, ℕ, ◌/◌, ◌%◌, ◌<◌, ◌≤◌, ◌==◌, Bool, true, false, List, slice_index}
use Rattle.std.specs.Int.{bit_at}
use Rattle.layers.specs.Codes.{names_key_usage, names_consumer}
use Rattle.layers.specs.Held.{HeldCall, any_has, code}

-- the usages of page 07h that the codes of the held keys name
abbrev pub key_usages : List HeldCall → ℕ → Bool
key_usages past usage = any_has (code past) (names_key_usage usage)

-- the usages of page 0Ch that they name
abbrev pub consumer_usages : List HeldCall → ℕ → Bool
consumer_usages past usage = any_has (code past) (names_consumer usage)

-- two sets of usages, of page 07h and of page 0Ch: a bit for each number, 32 to a word; and a bit for each word of the
-- second that may have one
pub record UsageSets : Type 0 where
  pub key_words : List ℕ
  pub consumer_words : List ℕ
  pub occupied : List ℕ

-- the bit of a number is set in cells of so many bits each
abbrev pub has_bit : ℕ → List ℕ → ℕ → Bool
has_bit size cells number = bit_at (slice_index cells (number / size)) (number % size) == 1

-- a usage of page 07h is in the set
unfoldable pub has_key : UsageSets → ℕ → Bool
has_key usages usage = has_bit 32 usages.key_words usage

-- a usage of page 0Ch is in the set
unfoldable pub has_consumer : UsageSets → ℕ → Bool
has_consumer usages usage = has_bit 32 usages.consumer_words usage

-- each number of a set lies in a word that is marked
pub record AreMarked (words occupied : List ℕ) : Type 0 where
  pub each : (number : ℕ) → has_bit 32 words number ≡ true → has_bit 32 occupied (number / 32) ≡ true

-- the least number at or after `from` that passes
pub record IsNext (test : ℕ → Bool) (from number : ℕ) : Type 0 where
  pub after : from ≤ number
  pub is : test number ≡ true
  pub first : (other : ℕ) → from ≤ other → other < number → test other ≡ false

-- no number at or after `from` passes
pub record PassesNoneFrom (test : ℕ → Bool) (from : ℕ) : Type 0 where
  pub each : (number : ℕ) → from ≤ number → test number ≡ false

-- the least usage of page 0Ch in the set at or after `from`
abbrev pub IsNextConsumer : UsageSets → ℕ → ℕ → Type 0
IsNextConsumer usages from usage = IsNext (has_consumer usages) from usage

-- no usage of page 0Ch at or after `from` is in the set
abbrev pub HasNoConsumerFrom : UsageSets → ℕ → Type 0
HasNoConsumerFrom usages from = PassesNoneFrom (has_consumer usages) from
