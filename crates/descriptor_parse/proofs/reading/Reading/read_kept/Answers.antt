use Rattle.std.proofs.Common.{ℕ, List, ◌++◌}
use Rattle.std.proofs.lemmas.Result.{on_ok_weaker, IfErr-weaker, err_from_is_err_and}
use Rattle.descriptor_parse.specs.declared.fault.ParseError.{ParseError}
use Rattle.descriptor_parse.specs.ItemViews.{item_view}
use Rattle.descriptor_parse.specs.Fed.{RefusesAll}
use Rattle.descriptor_parse.specs.representation.Fed.{IsAt, IsReading}
use Rattle.descriptor_parse.proofs.ReadingLemmas.{filled_up}
use Rattle.descriptor_parse.proofs.reading.Reading.read_kept.Goals as goal

pub returns-in_err-self-clause-refused : goal.returns-in_err-self-clause-refused
returns-in_err-self-clause-refused c =
    let p = err_from_is_err_and c.from_residual.result c.from_residual.ensures.1 in
    rw (p.1, p.2) (λ text s.
    let f = filled_up text c.args.self.now.part.items c.args.piece.now c.fill-rest.new.part.items c.deref.result.now c.fill-rest.result.now c.args.self.now.offset c.len.result
    (item_view c.in-Some.item) c.args.self.now.state c.deref.ensures.0 c.fill-rest.ensures.moved c.fill-rest.ensures.most c.len.ensures.value c.in-Some.ensures.size c.in-Some.ensures.item s.at s.short in
    c.in_err-self.ensures.refused (text ++ c.args.piece.now) (c.deref.result.now ++ c.fill-rest.result.now) c.args.self.now.offset f.at f.first f.size)

pub returns-clause-read : goal.returns-clause-read
returns-clause-read c =
    on_ok_weaker {Q = (text : List ℕ) → IsReading text c.args.self.now → IsReading (text ++ c.args.piece.now) c.read_rest.new.self} _
    (λ h text s.
    let f = filled_up text c.args.self.now.part.items c.args.piece.now c.fill-rest.new.part.items c.deref.result.now c.fill-rest.result.now c.args.self.now.offset c.len.result
    (item_view c.in-Some.item) c.args.self.now.state c.deref.ensures.0 c.fill-rest.ensures.moved c.fill-rest.ensures.most c.len.ensures.value c.in-Some.ensures.size c.in-Some.ensures.item s.at s.short in
    h (text ++ c.args.piece.now) c.clear.ensures (rw f.after at (c.in_ok-self.ensures.taken (text ++ c.args.piece.now) (c.deref.result.now ++ c.fill-rest.result.now) c.args.self.now.offset f.at f.first f.size)))
    c.read_rest.ensures.read

pub returns-clause-refused : goal.returns-clause-refused
returns-clause-refused c =
    IfErr-weaker c.read_rest.result
    (λ (e : ParseError). (text : List ℕ) → IsAt text c.fill-rest.result.now c.in_ok-self.field-0 c.take_item.new.state → RefusesAll text e)
    (λ (e : ParseError). (text : List ℕ) → IsReading text c.args.self.now → RefusesAll (text ++ c.args.piece.now) e)
    (λ e h text s.
    let f = filled_up text c.args.self.now.part.items c.args.piece.now c.fill-rest.new.part.items c.deref.result.now c.fill-rest.result.now c.args.self.now.offset c.len.result
    (item_view c.in-Some.item) c.args.self.now.state c.deref.ensures.0 c.fill-rest.ensures.moved c.fill-rest.ensures.most c.len.ensures.value c.in-Some.ensures.size c.in-Some.ensures.item s.at s.short in
    h (text ++ c.args.piece.now) (rw f.after at (c.in_ok-self.ensures.taken (text ++ c.args.piece.now) (c.deref.result.now ++ c.fill-rest.result.now) c.args.self.now.offset f.at f.first f.size)))
    c.read_rest.ensures.refused
