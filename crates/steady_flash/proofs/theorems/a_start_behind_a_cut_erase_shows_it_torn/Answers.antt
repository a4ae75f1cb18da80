use Rattle.flash_model.specs.Operations.{MayErase}
use Rattle.steady_flash.proofs.Cutting.{cut_started}
use Rattle.steady_flash.proofs.theorems.a_start_behind_a_cut_erase_shows_it_torn.Goals as goal

pub returns : goal.returns
returns c size marks slots marks' slots' marks'' slots'' pages page old between layout cut shrinks started = cut_started size marks slots marks' slots' marks'' slots'' pages (Unit {0}) (MayErase old page) between layout cut shrinks started tt
