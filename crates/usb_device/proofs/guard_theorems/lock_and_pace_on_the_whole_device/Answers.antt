use Rattle.usb_device.proofs.Pacing.{lock_is, stays_locked, shown, taken, between_scans, start_scans}
use Rattle.usb_device.proofs.guard_theorems.lock_and_pace_on_the_whole_device.Goals as goal

pub returns-clause-locked : goal.returns-clause-locked
returns-clause-locked c = lock_is

pub returns-clause-shown : goal.returns-clause-shown
returns-clause-shown c = λ pace calls since before b l k. shown pace since before l (stays_locked calls since b k)

pub returns-clause-taken : goal.returns-clause-taken
returns-clause-taken c = λ pace calls since before b l k. taken pace since before l (stays_locked calls since b k)

pub returns-clause-between : goal.returns-clause-between
returns-clause-between c = between_scans

pub returns-clause-since_start : goal.returns-clause-since_start
returns-clause-since_start c = start_scans
