-- Representation: the releases and presses that the edges of a scan come to, newest first.
use Rattle.shapes.specs.Shapes.{KeyCodes}
use Rattle.std.specs.Prelude.{List, ◌++◌, map, reverse}
use Rattle.debounce.specs.declared.Scan.{Scan}
use Rattle.debounce.specs.declared.debouncer.Edges.{Edges}
use Rattle.debounce.specs.Scans.{set_keys}
use Rattle.layers.specs.Held.{HeldCall, Press, Release}
use Rattle.layers.specs.representation.HeldRelation.{HeldValue, HeldRefines}

-- the releases of these keys by rising number, after other calls
unfoldable pub with_releases : Scan → List HeldCall → List HeldCall
with_releases released past = map (λ key. Release key) (reverse (set_keys released)) ++ past

-- the presses of these keys by rising number, after other calls
unfoldable pub with_presses : KeyCodes → Scan → List HeldCall → List HeldCall
with_presses keymap pressed past = map (λ key. Press keymap key) (reverse (set_keys pressed)) ++ past

-- the releases and then the presses
unfoldable pub with_edges : KeyCodes → Edges → List HeldCall → List HeldCall
with_edges keymap edges past = with_presses keymap edges.pressed (with_releases edges.released past)

-- the held keys took these calls
pub record Takes (calls : List HeldCall → List HeldCall) (old new : HeldValue) : Type 0 where
  pub each : (past : List HeldCall) → HeldRefines past old → HeldRefines (calls past) new
