use Rattle.std.proofs.Common.{[]}
use Rattle.std.proofs.lemmas.List.{append-nil}
use Rattle.std.proofs.Math.Logic.{∥∥₁_map}
use Rattle.descriptor_parse.proofs.parser.Parser.finish.Goals as goal

pub finish-requires : goal.finish-requires
finish-requires c = ∥∥₁_map c.args.self.refines (λ p. (p.0, p.1.bytes, p.1.going c.in-None.is))

pub returns-in-Some-clause-answers : goal.returns-in-Some-clause-answers
returns-in-Some-clause-answers c = λ text s. rw (append-nil text) at (s.reported c.in-Some.error c.in-Some.is [])

pub returns-in-None-clause-answers : goal.returns-in-None-clause-answers
returns-in-None-clause-answers c = λ text s. c.finish.ensures text (s.going c.in-None.is)
