use Rattle.std.proofs.Common.{arith, []}
use Rattle.descriptor_parse.proofs.parser.Parser.new.Goals as goal

pub invariant_of-result : goal.invariant_of-result
invariant_of-result c = record { refines = ∣ ([], record { bytes = λ i. omega arith; going = λ _. c.new.ensures; reported = λ e h. cc }) ∣₁ }
