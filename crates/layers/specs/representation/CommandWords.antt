-- Representation: a command that is kept as its word.
use Rattle.std.specs.Prelude.{ℕ, ◌/◌, ◌%◌, ◌^◌}
use Rattle.layers.specs.Commands.{command_with}
use Rattle.layers.specs.declared.command.Command.{Command}

-- the command whose fields a word has
abbrev pub command_at : ℕ → Command
command_at word = command_with (word / 2 ^ 28) (word / 2 ^ 24 % 2 ^ 4) (word / 2 ^ 16 % 2 ^ 8) (word % 2 ^ 16)
