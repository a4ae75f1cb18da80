use Rattle.keyboard.proofs.Finding.{finds_all_but_last}
use Rattle.keyboard.proofs.theorems.a_restart_finds_all_but_the_last.Goals as goal

pub returns : goal.returns
returns c defaults entries next session r = finds_all_but_last defaults entries next session r
