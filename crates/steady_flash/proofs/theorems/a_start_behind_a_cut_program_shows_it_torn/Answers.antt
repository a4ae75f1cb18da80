use Rattle.flash_model.specs.Operations.{MayProgram}
use Rattle.steady_flash.specs.Sound.{IsOpen}
use Rattle.steady_flash.proofs.Cutting.{cut_started}
use Rattle.steady_flash.proofs.theorems.a_start_behind_a_cut_program_shows_it_torn.Goals as goal

pub returns : goal.returns
returns c size marks slots marks' slots' marks'' slots'' pages page slot at bytes old between layout cut shrinks started opened = cut_started size marks slots marks' slots' marks'' slots'' pages (IsOpen marks at) (MayProgram old page slot bytes) between layout cut shrinks started opened
