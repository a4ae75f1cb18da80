use Rattle.page_turnover.proofs.Headers.{is_active, active_of, is_none, active_none, has_format, format_is}
use Rattle.page_turnover.proofs.theorems.active_page_is_newest.Goals as goal

pub returns-clause-some : goal.returns-clause-some
returns-clause-some c image page seq = (is_active image page seq, active_of image page seq)

pub returns-clause-none : goal.returns-clause-none
returns-clause-none c image = (is_none image, active_none image)

pub returns-clause-format : goal.returns-clause-format
returns-clause-format c image number = (has_format image number, format_is image number)
