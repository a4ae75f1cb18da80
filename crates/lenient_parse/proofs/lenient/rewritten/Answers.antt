use Rattle.std.proofs.Common.{◌≡◌, sym, ◌∙◌}
use Rattle.std.specs.Prelude.{map}
use Rattle.descriptor_parse.specs.ItemViews.{item_view}
use Rattle.lenient_parse.specs.Lenient.{items_of}
use Rattle.lenient_parse.proofs.TextLemmas.{all_short, long_passes, passed_is, text_is, origins_is, same_value}
use Rattle.lenient_parse.proofs.lenient.rewritten.Goals as goal

pub returns-then-text-gt-MAX_LEN-clause-none : goal.returns-then-text-gt-MAX_LEN-clause-none
returns-then-text-gt-MAX_LEN-clause-none c = long_passes c.args.text.now c.if-text-gt-MAX_LEN.true

pub rewrite-requires : goal.rewrite-requires
rewrite-requires c = rw (c.deref.ensures.value, c.in_ok-items.ensures.items) (all_short c.args.text.now)

pub returns-then-is_strict-clause-none : goal.returns-then-is_strict-clause-none
returns-then-is_strict-clause-none c =
    let e : map item_view c.deref.result.now ≡ items_of c.args.text.now = rw c.deref.ensures.value c.in_ok-items.ensures.items in
    sym (passed_is c.args.text.now (map item_view c.deref.result.now) c.in_ok-output.output.passed.items c.if-text-gt-MAX_LEN.false e c.in_ok-output.ensures.passed)
    ∙ c.if-is_strict.ensures

pub returns-clause-some : goal.returns-clause-some
returns-clause-some c =
    let e : map item_view c.deref.result.now ≡ items_of c.args.text.now = rw c.deref.ensures.value c.in_ok-items.ensures.items in
    same_value c.args.text.now c.put.new.self.text.items c.put.new.self.origins.items c.put.new.self.passed.items
    (text_is c.args.text.now (map item_view c.deref.result.now) c.in_ok-items.end c.in_ok-output.output.text.items c.part_from.result.now c.put.new.self.text.items
    e c.in_ok-items.ensures.end c.part_from.ensures c.in_ok-output.ensures.text c.in_ok-put.ensures.text)
    (origins_is c.args.text.now (map item_view c.deref.result.now) c.in_ok-items.end c.in_ok-output.output.origins.items c.part_from.result.now c.put.new.self.origins.items
    e c.in_ok-items.ensures.end c.part_from.ensures c.in_ok-output.ensures.origins c.in_ok-put.ensures.origins)
    (rw c.in_ok-put.ensures.passed
    (passed_is c.args.text.now (map item_view c.deref.result.now) c.in_ok-output.output.passed.items c.if-text-gt-MAX_LEN.false e c.in_ok-output.ensures.passed))

pub returns-clause-passes : goal.returns-clause-passes
returns-clause-passes c =
    let e : map item_view c.deref.result.now ≡ items_of c.args.text.now = rw c.deref.ensures.value c.in_ok-items.ensures.items in
    λ n. c.if-is_strict.ensures (passed_is c.args.text.now (map item_view c.deref.result.now) c.in_ok-output.output.passed.items c.if-text-gt-MAX_LEN.false e
    c.in_ok-output.ensures.passed ∙ n)
