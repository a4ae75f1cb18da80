use Rattle.std.proofs.Common.{ℕ, List, ◌++◌}
use Rattle.std.proofs.lemmas.Result.{on_ok_weaker, IfErr-weaker}
use Rattle.descriptor_parse.specs.declared.fault.ParseError.{ParseError}
use Rattle.descriptor_parse.specs.Fed.{RefusesAll}
use Rattle.descriptor_parse.specs.representation.Fed.{IsAt, IsReading}
use Rattle.descriptor_parse.proofs.ReadingLemmas.{none_of, no_bytes, at_fresh}
use Rattle.descriptor_parse.proofs.reading.Reading.read.Goals as goal

pub returns-then-is_empty-clause-read : goal.returns-then-is_empty-clause-read
returns-then-is_empty-clause-read c =
    let none = no_bytes c.args.self.now.part.items (none_of c.is_empty.result _ c.is_empty.ensures c.if-is_empty.true) in
    on_ok_weaker {Q = (text : List ℕ) → IsReading text c.args.self.now → IsReading (text ++ c.args.piece.now) c.read_rest.new.self} _
    (λ h text s. h (text ++ c.args.piece.now) none (at_fresh text c.args.self.now.part.items c.args.piece.now c.args.self.now.offset c.args.self.now.state none s.at)) c.read_rest.ensures.read

pub returns-then-is_empty-clause-refused : goal.returns-then-is_empty-clause-refused
returns-then-is_empty-clause-refused c =
    let none = no_bytes c.args.self.now.part.items (none_of c.is_empty.result _ c.is_empty.ensures c.if-is_empty.true) in
    IfErr-weaker c.read_rest.result
    (λ (e : ParseError). (text : List ℕ) → IsAt text c.args.piece.now c.args.self.now.offset c.args.self.now.state → RefusesAll text e)
    (λ (e : ParseError). (text : List ℕ) → IsReading text c.args.self.now → RefusesAll (text ++ c.args.piece.now) e)
    (λ e h text s. h (text ++ c.args.piece.now) (at_fresh text c.args.self.now.part.items c.args.piece.now c.args.self.now.offset c.args.self.now.state none s.at)) c.read_rest.ensures.refused
