use Rattle.std.proofs.Common.{◌++◌, List}
use Rattle.usb_device.specs.Calls.{EpCall}
use Rattle.usb_device.specs.Whole.{put_off, WorksBehind}
use Rattle.usb_device.proofs.whole_transfers.confirm.Given as goal

abbrev pub invariant-loop-step : goal.invariant-loop-step
invariant-loop-step g l =
    (past : List EpCall) → g.E.Endpoints.refines past l.fn.device → g.E.Endpoints.refines (put_off l._step ++ past) l.device
    × WorksBehind g.E.Endpoints.refines g.E.Works.works past (put_off l._step)
