use Rattle.std.proofs.Common.{◌∙◌, refl, sym}
use Rattle.settings.proofs.Tables.{set_own, set_other, own-is, own-free, own-other}
use Rattle.settings.proofs.table.put.Goals as goal

pub returns-in-Some-clause-own : goal.returns-in-Some-clause-own
returns-in-Some-clause-own c e = set_own c.args.table.now c.in-Some.at c.args.change c.args.change.id c.in-Some.ensures.there c.requires.absent ∙ own-is c.args.change c.args.change.id refl

pub returns-in-Some-clause-others : goal.returns-in-Some-clause-others
returns-in-Some-clause-others c other n =
    set_other c.args.table.now c.in-Some.at c.args.change c.args.change other c.in-Some.ensures.there (own-free _ other (c.in-Some.ensures.free c.args.change)) (own-other c.args.change other (λ e. n (sym e)))
