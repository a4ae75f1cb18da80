use Rattle.std.proofs.Common.{◌++◌, arith}
use Rattle.std.proofs.Math.Logic.{∥∥₁_map}
use Rattle.descriptor_parse.proofs.ReadingLemmas.{fed_on, fed_off, may_go_on}
use Rattle.descriptor_parse.proofs.parser.Parser.feed.Goals as goal

pub invariant_of-self : goal.invariant_of-self
invariant_of-self c = record {
  refines = ∥∥₁_map c.args.self.now.refines (λ p. (
    p.0 ++ c.args.piece.now,
    fed_on p.0 c.args.piece.now _ c.read.new.self _ c.in_default.is (λ i. omega (arith, c.type_inv.piece i)) p.1 (c.in-Ok.ensures.read p.0),
  ));
}

pub invariant_of-self-in-Err : goal.invariant_of-self-in-Err
invariant_of-self-in-Err c = record {
  refines = ∥∥₁_map c.args.self.now.refines (λ p. (
    p.0 ++ c.args.piece.now,
    fed_off p.0 c.args.piece.now _ c.read.new.self _ c.in-Err.error c.in_default.is (λ i. omega (arith, c.type_inv.piece i)) p.1 (c.in-Err.ensures.refused p.0),
  ));
}

pub returns-in-Ok-clause-fed : goal.returns-in-Ok-clause-fed
returns-in-Ok-clause-fed c = λ text s.
    fed_on text c.args.piece.now _ c.read.new.self _ c.in_default.is (λ i. omega (arith, c.type_inv.piece i)) s (c.in-Ok.ensures.read text)

pub returns-in-Ok-clause-goes_on : goal.returns-in-Ok-clause-goes_on
returns-in-Ok-clause-goes_on c = λ text s. may_go_on (text ++ c.args.piece.now) c.read.new.self (c.in-Ok.ensures.read text (s.going c.in_default.is))
