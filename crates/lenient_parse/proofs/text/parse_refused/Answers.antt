use Rattle.std.proofs.Common.{◌≡◌, ◌≢◌, [], subst, inr}
use Rattle.std.proofs.lemmas.Result.{IfErr-weaker}
use Rattle.std.specs.Prelude.{IfErr}
use Rattle.descriptor_parse.specs.declared.fault.ParseFault.TheVariants.{Memory}
use Rattle.lenient_parse.specs.Answers.{IsFaultOf, MayWantIn, MayWantFor}
use Rattle.lenient_parse.specs.Lenient.{passed_over, lenient_of}
use Rattle.lenient_parse.proofs.text.parse_refused.Goals as goal

pub returns-in-Ok-Some-clause-first_left : goal.returns-in-Ok-Some-clause-first_left
returns-in-Ok-Some-clause-first_left c = λ n.
    let e : c.in-Ok-Some.lenient ≡ lenient_of c.args.text.now = rw c.in-Ok-Some.field-0-is at c.in-Ok-Some.ensures.some in
    subst (λ l. IfErr c.parse_instead.result (λ x. x.fault ≢ Memory → IsFaultOf l x)) e c.parse_instead.ensures.first

pub returns-in-Ok-Some-clause-memory : goal.returns-in-Ok-Some-clause-memory
returns-in-Ok-Some-clause-memory c =
    let e : c.in-Ok-Some.lenient ≡ lenient_of c.args.text.now = rw c.in-Ok-Some.field-0-is at c.in-Ok-Some.ensures.some in
    let p : passed_over c.args.text.now ≢ [] = rw c.in-Ok-Some.field-0-is at c.in-Ok-Some.ensures.passes in
    IfErr-weaker c.parse_instead.result (λ x. x.fault ≡ Memory → MayWantIn c.in-Ok-Some.lenient x.offset) (λ x. x.fault ≡ Memory → MayWantFor c.args.text.now x.offset)
    (λ x w m. inr (inr (p, subst (λ l. MayWantIn l x.offset) e (w m)))) c.parse_instead.ensures.memory
