use Rattle.std.proofs.Common.{◌≡◌, ◌++◌}
use Rattle.debounce.specs.Scans.{set_keys}
use Rattle.layers.specs.Held.{Press}
use Rattle.key_reports.proofs.Edges.{Called, SoFar}
use Rattle.key_reports.proofs.keys.press_all.Given as goal

abbrev pub invariant-loop-key : goal.invariant-loop-key
invariant-loop-key g l = SoFar (l.yielded ++ l.key-iterator ≡ set_keys l.pressed) (Called (Press l.keymap) l.yielded l.fn.held l.held)
