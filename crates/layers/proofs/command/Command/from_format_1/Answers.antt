use Rattle.layers.proofs.FormatWords.{command_of_format_1-some, command_of_format_1-none}
use Rattle.layers.proofs.command.Command.from_format_1.Goals as goal

pub returns-in-Some-clause-value : goal.returns-in-Some-clause-value
returns-in-Some-clause-value c = command_of_format_1-some c.args.word c.in-Some.code _ c.in-Some.ensures.value c.from_word.ensures.value

pub returns-in-None-clause-value : goal.returns-in-None-clause-value
returns-in-None-clause-value c = command_of_format_1-none c.args.word c.in-None.ensures.value
