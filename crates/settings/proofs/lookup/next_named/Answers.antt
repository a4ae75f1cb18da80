use Rattle.std.proofs.Common.{arith}
use Rattle.settings.proofs.Naming.{changed_none}
use Rattle.settings.proofs.lookup.next_named.Goals as goal

pub returns-clause-none : goal.returns-clause-none
returns-clause-none g c id a b =
    changed_none (g.F.NorFlash.image c.args.flash.now) c.args.changes.now id (c.named_in_words.ensures.none id a (omega (arith, b, c.named_in_changes.ensures.lower))) (c.named_in_changes.ensures.none id a b)
