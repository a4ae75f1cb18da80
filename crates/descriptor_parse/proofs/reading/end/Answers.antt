use Rattle.std.proofs.Props.{props}
use Rattle.std.proofs.Math.Logic.{∥∥₁_elim, ∥∥₁_map}
use Rattle.descriptor_parse.proofs.ReadingLemmas.{ends_well, ends_known, ends_counted, ends_linkable}
use Rattle.descriptor_parse.proofs.reading.end.Goals as goal

pub returns-in-Some : goal.returns-in-Some
returns-in-Some c = λ text a. c.in-Some.ensures.refused text a

pub new-requires-clause-known : goal.new-requires-clause-known
new-requires-clause-known c = rw c.into_reports.ensures (∥∥₁_map c.requires.read (λ p.
    ends_known p.0 _ _ _ p.1 p.2 c.in_default.ensures.whole c.in_default.ensures.closed))

pub new-requires-clause-counted : goal.new-requires-clause-counted
new-requires-clause-counted c = rw c.into_reports.ensures (∥∥₁_map c.requires.read (λ p.
    ends_counted p.0 _ _ _ p.1 p.2 c.in_default.ensures.whole c.in_default.ensures.closed))

pub new-requires-clause-linkable : goal.new-requires-clause-linkable
new-requires-clause-linkable c = rw c.into_reports.ensures (∥∥₁_elim c.requires.read (Prim.hlevel props) (λ p.
    ends_linkable p.0 _ _ _ p.1 p.2 c.in_default.ensures.whole c.in_default.ensures.closed))

pub returns : goal.returns
returns c = λ text a.
    rw (c.new.ensures, c.into_reports.ensures)
    (ends_well text _ _ _ a c.in_default.ensures.whole c.in_default.ensures.closed)
