use Rattle.std.proofs.Common.{◌/◌, ◌%◌, ◌^◌, ◌∙◌, ap, refl, sym}
use Rattle.std.specs.Result.{result_ok}
use Rattle.layers.proofs.CommandWords.{read_set_key, read_reset, exact_by}
use Rattle.layers.proofs.command.Command.from_word.Goals as goal

pub returns-in-1-clause-value : goal.returns-in-1-clause-value
returns-in-1-clause-value c = c.ok.ensures.value ∙ ap result_ok c.read.ensures.value ∙ read_set_key c.args.word (c.args.word / 2 ^ 24 % 2 ^ 4) (c.args.word / 2 ^ 16 % 2 ^ 8) (c.args.word % 2 ^ 16) c.in-1.is refl refl refl

pub returns-in-1-clause-exact : goal.returns-in-1-clause-exact
returns-in-1-clause-exact c = exact_by c.args.word c.ok.result (sym (returns-in-1-clause-value c))

pub returns-in-2-clause-value : goal.returns-in-2-clause-value
returns-in-2-clause-value c = c.ok-in-2.ensures.value ∙ ap result_ok c.read-in-2.ensures.value ∙ read_reset c.args.word (c.args.word / 2 ^ 24 % 2 ^ 4) c.in-2.is c.if-word-eq0.true refl

pub returns-in-2-clause-exact : goal.returns-in-2-clause-exact
returns-in-2-clause-exact c = exact_by c.args.word c.ok-in-2.result (sym (returns-in-2-clause-value c))
