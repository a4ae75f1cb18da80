use Rattle.std.proofs.Math.Logic.{∥∥₁_map, ∥∥₁_elim}
use Rattle.std.proofs.Props.{props}
use Rattle.descriptor_parse.proofs.reading.Reading.finish.Goals as goal

pub end-requires-clause-short : goal.end-requires-clause-short
end-requires-clause-short c = rw c.deref.ensures.0 (∥∥₁_elim c.requires (Prim.hlevel props) (λ p. p.2.short))

pub end-requires-clause-read : goal.end-requires-clause-read
end-requires-clause-read c = rw c.deref.ensures.0 (∥∥₁_map c.requires (λ p. (p.0, p.1, p.2.at)))

pub returns : goal.returns
returns c = λ text s. c.end.ensures text (rw c.deref.ensures.0 s.at)
