use Rattle.std.proofs.Common.{◌∙◌, sym, arith, None}
use Rattle.settings.proofs.Naming.{front_skip, none_left, not_named}
use Rattle.settings.proofs.lookup.named_in_changes.Goals as goal

pub loop-rest-preserved : goal.loop-rest-preserved
loop-rest-preserved c =
    let l = c.loop-rest.invariant in
    let n = c.nearer-best.ensures in
    record {
      after = n.after;
      lower = omega (arith, n.lower, l.lower);
      same = λ id a b. sym (front_skip None c.loop-rest.rest.now c.change-item.result _ id c.in-len1-up.len_at_least c.change-item.is (not_named c.args.from c.nearer-best.result c.change-item.result.id id a b n.named)) ∙ l.same id a (omega (arith, n.lower, b));
    }

pub returns-clause-none : goal.returns-clause-none
returns-clause-none c id a b = sym (c.loop-rest.invariant.same id a b) ∙ none_left None c.loop-rest.rest.now id c.in_default.len_below
