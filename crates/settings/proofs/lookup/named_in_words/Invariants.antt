use Rattle.std.proofs.Common.{◌≡◌, ◌≤◌, ◌<◌, ◌^◌, ℕ, List, Option, None}
use Rattle.settings.specs.Settings.{after, changes_in, settings_of}
use Rattle.settings.proofs.lookup.named_in_words.Given as goal

-- no id from one on and below the best so far was named
pub record NotNamed (from best : ℕ) (left total : ℕ → Option (List ℕ)) : Type 0 where
  pub after : from ≤ best
  pub small : best ≤ 2 ^ 16
  pub same : (id : ℕ) → from ≤ id → id < best → left id ≡ total id

abbrev pub invariant-loop-word : goal.invariant-loop-word
invariant-loop-word g l = NotNamed l.from l.best (λ id. after None (changes_in l.word-iterator) id) (λ id. settings_of (g.F.NorFlash.image l.flash) id)
