-- Trusted: which commands a restart finds.
use Rattle.std.specs.Prelude.{◌≡◌, ◌≢◌, ℕ, List, [], ◌∷◌, ◌++◌}
use Rattle.layers.specs.Codes.{DefaultCodes}
use Rattle.layers.specs.Entries.{changed}
use Rattle.keymap_store.specs.Keymap.{SameEntries}
use Rattle.keyboard.specs.Fate.{settled}
use Rattle.keyboard.specs.Commands.{Accepted, commands_of}

module _ (defaults : DefaultCodes) where
  -- the keymap is changed by all these commands, in order; or by all but the last, which is not settled
  pub data FindsAllButLast (entries : ℕ → ℕ → ℕ) (standing : List Accepted) (next : ℕ → ℕ → ℕ) : Type 0 where
    finds_all : SameEntries next (changed defaults entries (commands_of standing)) → FindsAllButLast entries standing next
    lacks_last : (before : List Accepted) (last : Accepted) → standing ≡ before ++ last ∷ [] → last.fate ≢ settled
        → SameEntries next (changed defaults entries (commands_of before)) → FindsAllButLast entries standing next
