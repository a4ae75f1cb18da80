-- Representation: how the code keeps what is under way.
use Rattle.page_turnover.specs.declared.log.Target as stored_target
use Rattle.page_turnover.specs.declared.log.Target.TheVariants as Targets
use Rattle.page_turnover.specs.declared.log.Task as stored_task
use Rattle.page_turnover.specs.declared.log.Task.TheVariants as Tasks
use Rattle.page_turnover.specs.Value.{Target, Task, Unread, Holds, Rest, Append, Wait, Copy, Seal}

-- how the code keeps what is under way
abbrev pub target_value : stored_target.Target → Target
target_value Targets.Unread = Unread
target_value (Targets.Holds n) = Holds n

abbrev pub task_value : stored_task.Task → Task
task_value Tasks.Rest = Rest
task_value (Tasks.Append word) = Append word
task_value (Tasks.Wait target) = Wait (target_value target)
task_value (Tasks.Copy target word) = Copy (target_value target) word
task_value (Tasks.Seal target) = Seal (target_value target)
