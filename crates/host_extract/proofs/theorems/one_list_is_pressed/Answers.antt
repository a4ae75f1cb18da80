use Rattle.host_extract.proofs.OneList.{one-list}
use Rattle.host_extract.proofs.theorems.one_list_is_pressed.Goals as goal

pub returns : goal.returns
returns c = one-list
