use Rattle.std.proofs.Common.{◌≡◌, ◌++◌, List, ℕ, unwrap_or}
use Rattle.layers.specs.Codes.{DefaultCodes}
use Rattle.layers.specs.Keymaps.{Refines}
use Rattle.page_turnover.specs.Words.{words}
use Rattle.keymap_store.proofs.store.take_words.Given as goal

-- the keymap is that of the words so far
pub record SoFar (defaults : DefaultCodes) (number : ℕ) (keymap yielded left all : List ℕ) : Type 0 where
  pub refines : Refines defaults number yielded keymap
  pub together : yielded ++ left ≡ all

abbrev pub invariant-loop-word : goal.invariant-loop-word
invariant-loop-word g l = SoFar g.D.Defaults.defaults (unwrap_or l.format 2) l.keymap l.yielded l.word-iterator (words (g.F.NorFlash.image l.flash))
