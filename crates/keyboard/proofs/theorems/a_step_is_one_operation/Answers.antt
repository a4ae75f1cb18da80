use Rattle.keyboard.specs.Calls.{image_after}
use Rattle.keyboard.proofs.Steps.{whole_step, torn_step, placed_step, record_torn, in_target, erased_step, copied_step, headed_step, cut_step}
use Rattle.keyboard.proofs.theorems.a_step_is_one_operation.Goals as goal

pub returns-clause-whole : goal.returns-clause-whole
returns-clause-whole c defaults start past command work new w n = whole_step defaults start past command (image_after start past) work new w n

pub returns-clause-torn : goal.returns-clause-torn
returns-clause-torn c defaults start past command work new w e = torn_step defaults start past command (image_after start past) work new w e

pub returns-clause-placed : goal.returns-clause-placed
returns-clause-placed c defaults start past command work new w e = placed_step defaults start past command (image_after start past) work new w e

pub returns-clause-record_torn : goal.returns-clause-record_torn
returns-clause-record_torn c defaults start past command work new w e n = record_torn defaults start past command (image_after start past) work new w e n

pub returns-clause-in_target : goal.returns-clause-in_target
returns-clause-in_target c defaults start past command work new w l = in_target defaults start past command (image_after start past) work new w l

pub returns-clause-erased : goal.returns-clause-erased
returns-clause-erased c defaults start past command work new page w o = erased_step defaults start past command (image_after start past) work new page w o

pub returns-clause-copied : goal.returns-clause-copied
returns-clause-copied c defaults start past command work new n word w l o = copied_step defaults start past command (image_after start past) work new n word w l o

pub returns-clause-headed : goal.returns-clause-headed
returns-clause-headed c defaults start past command work new word w o = headed_step defaults start past command (image_after start past) work new word w o

pub returns-clause-cut : goal.returns-clause-cut
returns-clause-cut c defaults start past command work new image w h e i m = cut_step defaults start past command work new image w h e i m
