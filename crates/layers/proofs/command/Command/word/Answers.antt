use Rattle.std.proofs.Common.{rules}
use Rattle.layers.proofs.CommandWords.{command_of_its_word}
use Rattle.layers.proofs.command.Command.word.Goals as goal

pub returns-in-SetKey-clause-read_back : goal.returns-in-SetKey-clause-read_back
returns-in-SetKey-clause-read_back c = command_of_its_word c.args.self c.word_with.result (search rules) (search rules)

pub returns-in-ResetLayer-clause-read_back : goal.returns-in-ResetLayer-clause-read_back
returns-in-ResetLayer-clause-read_back c = command_of_its_word c.args.self c.word_with-in-ResetLayer.result (search rules) (search rules)

pub returns-in-ResetAll-clause-read_back : goal.returns-in-ResetAll-clause-read_back
returns-in-ResetAll-clause-read_back c = command_of_its_word c.args.self c.word_with-in-ResetAll.result (search rules) (search rules)
