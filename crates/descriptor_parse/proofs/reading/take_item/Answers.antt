use Rattle.std.proofs.Common.{◌≡◌, ◌+◌, ◌%◌, ◌≤◌, ◌<◌, ap, sym, subst, arith}
use Rattle.std.proofs.Math.Nat.{mod-le, mod-eq_of_lt}
use Rattle.descriptor_parse.specs.representation.Fed.{IsFront}
use Rattle.descriptor_parse.specs.ItemViews.{item_view}
use Rattle.descriptor_parse.specs.Items.{item_size}
use Rattle.descriptor_parse.proofs.ItemLemmas.{size_pos}
use Rattle.descriptor_parse.proofs.ReadingLemmas.{refused_item, at_after}
use Rattle.descriptor_parse.proofs.reading.take_item.Goals as goal

pub returns-then-after-gt-MAX_LEN-clause-refused : goal.returns-then-after-gt-MAX_LEN-clause-refused
returns-then-after-gt-MAX_LEN-clause-refused c = λ text rest offset a f s.
    let o : c.args.item.now.offset ≡ offset = ap (λ i. i.offset) f.is in
    c.check_last.ensures text rest (rw o a) (subst (λ n. IsFront (item_view c.args.item.now) rest n) (sym o) f)
    (omega (arith, c.if-after-gt-MAX_LEN.true, mod-le (c.args.item.now.offset + c.args.size) (18446744073709551616)))

pub returns-in-Err-clause-refused : goal.returns-in-Err-clause-refused
returns-in-Err-clause-refused c = λ text rest offset a f s.
    let o : c.args.item.now.offset ≡ offset = ap (λ i. i.offset) f.is in
    let within : offset ≤ 4096 = a.within in
    let pos : 0 < item_size rest = size_pos rest in
    let sum : (c.args.item.now.offset + c.args.size) % 18446744073709551616 ≡ c.args.item.now.offset + c.args.size = mod-eq_of_lt (omega (arith, c.requires.small)) in
    rw o (refused_item text rest offset _ _ _ a f (omega (arith, c.if-after-gt-MAX_LEN.false)) (λ before st. c.in-Err.ensures.refused before st))

pub returns-in-Ok-clause-taken : goal.returns-in-Ok-clause-taken
returns-in-Ok-clause-taken c = λ text rest offset a f s.
    let o : c.args.item.now.offset ≡ offset = ap (λ i. i.offset) f.is in
    let within : offset ≤ 4096 = a.within in
    let sum : (c.args.item.now.offset + c.args.size) % 18446744073709551616 ≡ c.args.item.now.offset + c.args.size = mod-eq_of_lt (omega (arith, c.requires.small)) in
    at_after text rest offset _ c.args.size _ _ _ a f s (omega (arith)) c.if-after-gt-MAX_LEN.false
    (λ before st few. c.in-Ok.ensures.taken before st few)
