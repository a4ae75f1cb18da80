use Rattle.std.proofs.Common.{◌≡◌, ◌<◌, ◌≤◌, ℕ, Option, false}
use Rattle.layers.specs.Held.{counts}
use Rattle.layers.specs.representation.HeldRelation.{AreActive}
use Rattle.layers.specs.Keymaps.{code_at}
use Rattle.layers.proofs.held.resolve.Given as goal

abbrev pub invariant-loop-number : goal.invariant-loop-number
invariant-loop-number g l = (codes : ℕ → Option ℕ) → AreActive codes l.active → (layer : ℕ) → l.number ≤ layer → layer < 4 → counts (code_at l.keymap) codes l.key layer ≡ false
