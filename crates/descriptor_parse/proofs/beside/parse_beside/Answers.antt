use Rattle.std.proofs.Common.{◌≡◌, ◌-◌, ◌∙◌, sym, length, arith, drop, [], inl}
use Rattle.std.proofs.lemmas.List.{append-nil}
use Rattle.descriptor_parse.specs.ItemViews.{item_view}
use Rattle.descriptor_parse.specs.Items.{item_size}
use Rattle.descriptor_parse.specs.representation.Fed.{IsAt, IsFront}
use Rattle.descriptor_parse.proofs.ReadingLemmas.{size_between}
use Rattle.descriptor_parse.proofs.BesideLemmas.{taken_none, taken_more, taken_all, went_well, went_wrong, wanted_beside}
use Rattle.descriptor_parse.proofs.beside.parse_beside.Goals as goal

pub loop-item-init : goal.loop-item-init
loop-item-init g c = taken_none g.B.Beside.refines c.args.beside.now c.args.text.now _ c.new-state.ensures

pub returns-in-Err-clause-refused : goal.returns-in-Err-clause-refused
returns-in-Err-clause-refused g c =
    let rest = c.loop-item.rest.now in
    rw (append-nil c.args.text.now) at
    (c.in-Err.ensures.refused c.args.text.now rest c.loop-item.at c.loop-item.invariant.at (record { whole = c.in-Some.ensures.size; is = c.in-Some.ensures.item })
    (size_between rest c.in-Some.after.now c.in-Some.ensures.rest c.in-Some.ensures.size) [])

pub loop-item-preserved : goal.loop-item-preserved
loop-item-preserved g c =
    let rest = c.loop-item.rest.now in
    let f : IsFront (item_view c.in-Some.item) rest c.loop-item.at = record { whole = c.in-Some.ensures.size; is = c.in-Some.ensures.item } in
    let size : length rest - length c.in-Some.after.now ≡ item_size rest = size_between rest c.in-Some.after.now c.in-Some.ensures.rest c.in-Some.ensures.size in
    let a : IsAt c.args.text.now (drop (item_size rest) rest) c.in-Ok.offset c.take_item.new.state =
    rw (← size) (c.in-Ok.ensures.taken c.args.text.now rest c.loop-item.at c.loop-item.invariant.at f size) in
    rw c.in-Some.ensures.rest (taken_more g.B.Beside.refines c.args.beside.now c.loop-item.beside c.take-kept.new.self c.args.text.now rest c.loop-item.at c.in-Ok.offset c.loop-item.state c.take_item.new.state (item_view c.in-Some.item)
    c.loop-item.invariant f (went_well c.take-kept.result (sym c.is_err.ensures.value ∙ c.if-is_err.false) c.take-kept.ensures.taken) a)

pub returns-then-is_err-clause-refused : goal.returns-then-is_err-clause-refused
returns-then-is_err-clause-refused g c =
    let rest = c.loop-item.rest.now in
    let f : IsFront (item_view c.in-Some.item) rest c.loop-item.at = record { whole = c.in-Some.ensures.size; is = c.in-Some.ensures.item } in
    let size : length rest - length c.in-Some.after.now ≡ item_size rest = size_between rest c.in-Some.after.now c.in-Some.ensures.rest c.in-Some.ensures.size in
    let a : IsAt c.args.text.now (drop (item_size rest) rest) c.in-Ok.offset c.take_item.new.state =
    rw (← size) (c.in-Ok.ensures.taken c.args.text.now rest c.loop-item.at c.loop-item.invariant.at f size) in
    inl (wanted_beside g.B.Beside.refines c.args.beside.now c.loop-item.beside c.args.text.now rest c.loop-item.at c.in-Ok.offset c.loop-item.state c.take_item.new.state (item_view c.in-Some.item)
    c.loop-item.invariant f (went_wrong c.take-kept.result (sym c.is_err.ensures.value ∙ c.if-is_err.true) c.take-kept.ensures.refused) a)

pub end-requires-clause-read : goal.end-requires-clause-read
end-requires-clause-read g c = ∣ (c.args.text.now, (λ i. omega (arith, c.type_inv.text i)), c.loop-item.invariant.at) ∣₁

pub returns-in-Ok-end-clause-beside : goal.returns-in-Ok-end-clause-beside
returns-in-Ok-end-clause-beside g c = taken_all g.B.Beside.refines c.args.beside.now c.loop-item.beside c.args.text.now c.loop-item.rest.now c.loop-item.at c.loop-item.state c.loop-item.invariant c.in_default.ensures.size
