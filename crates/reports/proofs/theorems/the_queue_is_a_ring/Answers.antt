use Rattle.reports.proofs.Waiting.{queue-none, queue-tick, queue-poll, queue-idle, queue-forgets, length-queue}
use Rattle.reports.proofs.theorems.the_queue_is_a_ring.Goals as goal

pub returns : goal.returns
returns c = record { start = queue-none; scan = queue-tick; poll = queue-poll; idle = queue-idle; forgot = queue-forgets; size = length-queue }
