use Rattle.std.proofs.Common.{arith, ◌-◌}
use Rattle.settings_log.proofs.Slots.{data_after, data_none, data_ends}
use Rattle.settings_log.proofs.scan.after_data.Goals as goal

pub returns-then-pending-gt0 : goal.returns-then-pending-gt0
returns-then-pending-gt0 c page slot entry rest =
    let w = rw c.in-Some.is at c.requires in
    rw c.in-Some.is (data_after page slot entry rest c.in-Some.pending w (c.in-Some.pending.left - 1) (omega arith))

pub returns-else-pending-gt0 : goal.returns-else-pending-gt0
returns-else-pending-gt0 c page slot entry rest =
    let w = rw c.in-Some.is at c.requires in
    rw c.in-Some.is (data_ends page slot entry rest c.in-Some.pending w (omega arith))

pub returns-in-None : goal.returns-in-None
returns-in-None c page slot entry rest = rw c.in-None.is (data_none page slot entry rest)
