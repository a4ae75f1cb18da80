use Rattle.std.proofs.Common.{sym}
use Rattle.page_turnover.proofs.log.Log.mount.Goals as goal

pub active_page-requires-clause-is_active : goal.active_page-requires-clause-is_active
active_page-requires-clause-is_active g c = sym (rw c.in-Some.is at c.read_headers-headers.ensures.active)

pub active_page-requires-clause-good : goal.active_page-requires-clause-good
active_page-requires-clause-good g c = rw c.in-Some.is at c.read_headers-headers.ensures.words
