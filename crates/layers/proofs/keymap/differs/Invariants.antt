use Rattle.std.proofs.Common.{◌≡◌, ◌<◌, ◌≤◌, ℕ, slice_index}
use Rattle.layers.specs.Codes.{default_at}
use Rattle.layers.proofs.keymap.differs.Given as goal

abbrev pub invariant-loop-place : goal.invariant-loop-place
invariant-loop-place g l = (place : ℕ) → l.start ≤ place → place < l.place → slice_index l.codes place ≡ default_at g.D.Defaults.defaults place
