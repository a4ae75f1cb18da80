-- Trusted: the usages that the codes of the keys name that are down by the debounced scans, as a host reads them: 32 bits,
-- the page in the high half.
use Rattle.std.specs.Prelude.{◌≡◌, ℕ, ◌+◌, List}
use Rattle.layers.specs.Codes.{names_key_usage, names_consumer}
use Rattle.key_reports.specs.Calls.{KeyCall}
use Rattle.key_reports.specs.Codes.{SomeKeyHas}

-- a usage of page 07h
pub record IsKeyNamed (past : List KeyCall) (usage : ℕ) : Type 0 where
  pub number : ℕ
  pub usage_is : usage ≡ 0x70000 + number
  pub named : SomeKeyHas past (names_key_usage number)

-- a usage of page 0Ch
pub record IsConsumerNamed (past : List KeyCall) (usage : ℕ) : Type 0 where
  pub number : ℕ
  pub usage_is : usage ≡ 0xC0000 + number
  pub named : SomeKeyHas past (names_consumer number)
