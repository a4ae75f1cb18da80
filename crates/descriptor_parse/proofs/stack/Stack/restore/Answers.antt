use Rattle.std.proofs.Common.{◌≡◌, length, refl, sym, ◌∙◌, arith}
use Rattle.std.proofs.lemmas.List.{append-nil}
use Rattle.descriptor_parse.proofs.StackLemmas.{refine_pop, refine_no_pop}
use Rattle.descriptor_parse.proofs.stack.Stack.restore.Goals as goal

pub returns-in-Some : goal.returns-in-Some
returns-in-Some g c = λ values before item e s. refine_pop values before item _ _ e c.in-Some.ensures.items s

pub returns-in-None : goal.returns-in-None
returns-in-None g c = λ values before item e s.
    let none : length c.args.self.now.saved.items ≡ 0 = omega (arith, c.in-None.ensures.cases.0) in
    refine_no_pop values before item c.args.self.now _ e none refl (sym (c.in-None.ensures.items ∙ append-nil _)) s
