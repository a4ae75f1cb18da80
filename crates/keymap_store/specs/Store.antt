-- Trusted where this crate is called: the command that works.
use Rattle.std.specs.Prelude.{Option, None, Some}
use Rattle.layers.specs.declared.command.Command.{Command}
use Rattle.keymap_store.specs.declared.store.Job.{Job}
use Rattle.keymap_store.specs.declared.store.Job.TheVariants.{Resting, Appending, Turning}

-- the command that works
abbrev pub working : Job → Option Command
working Resting = None
working (Appending command) = Some command
working (Turning command from) = Some command
