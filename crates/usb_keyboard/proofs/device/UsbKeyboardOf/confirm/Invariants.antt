use Rattle.std.proofs.Common.{◌≡◌, ◌+◌, ◌++◌, ℕ, List, length}
use Rattle.keymap_store.specs.declared.store.Work.{Work}
use Rattle.keyboard.specs.Calls.{Call}
use Rattle.keyboard.specs.Single.{NoneFails}
use Rattle.usb_keyboard.specs.Whole.{put_off}
use Rattle.usb_keyboard.specs.representation.Relation.{RunsSince}
use Rattle.usb_keyboard.specs.representation.Whole.{WasInTime}
use Rattle.usb_keyboard.specs.Uses.{UsesAtMost}
use Rattle.usb_keyboard.proofs.Faults.{Raises}
use Rattle.usb_keyboard.proofs.device.UsbKeyboardOf.confirm.Given as goal

abbrev pub invariant-loop-asked : goal.invariant-loop-asked
invariant-loop-asked g l =
    (u : UsesAtMost g.F.NorFlash.operations g.F.NorFlash.is_faultless l._asked l.fn.self.1 l.self.1)
    × ((start : List ℕ) (past : List Call) → RunsSince g.D.Defaults.defaults start past l.fn.self.0 (g.F.NorFlash.image l.fn.self.1)
    → (steps : List (Work × List ℕ)) × RunsSince g.D.Defaults.defaults start (put_off steps ++ past) l.self.0 (g.F.NorFlash.image l.self.1)
    × (length steps ≡ l._asked) × WasInTime g.D.Defaults.defaults start past steps × ((n : ℕ) × g.F.NorFlash.is_faultless l.fn.self.1 (n + u.made) → NoneFails (put_off steps))
    × Raises steps (g.F.NorFlash.faults l.fn.self.1) (g.F.NorFlash.faults l.self.1))
