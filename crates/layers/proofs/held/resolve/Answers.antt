use Rattle.std.proofs.Common.{sym, arith, ◌<◌, ◌∙◌}
use Rattle.layers.specs.Keymaps.{code_at}
use Rattle.layers.proofs.HeldKeys.{counts-inactive, resolved-here, resolved-none}
use Rattle.layers.proofs.held.resolve.Goals as goal

pub known-requires : goal.known-requires
known-requires g c = omega (arith, c.loop-number.auto.number, c.layers_to_ask-number.ensures.most)

pub loop-number-init : goal.loop-number-init
loop-number-init g c codes a layer l m =
    counts-inactive (code_at c.args.keymap.now) codes c.args.key layer (omega (arith, c.layers_to_ask-number.ensures.some, l)) (sym (a.each layer m) ∙ c.layers_to_ask-number.ensures.rest layer l m)

pub returns-then-ne : goal.returns-then-ne
returns-then-ne g c codes a =
    let here : c.known.result < 4 = omega (arith, c.loop-number.auto.number, c.layers_to_ask-number.ensures.most) in
    resolved-here (code_at c.args.keymap.now) codes c.args.key c.known.result c.code_where_active-code.result here
    (c.code_where_active-code.ensures codes a) (sym c.ne.ensures ∙ c.if-ne.true)
    (λ above l m. c.loop-number.invariant codes a above (omega arith) m)

pub returns : goal.returns
returns g c codes a = sym (resolved-none (code_at c.args.keymap.now) codes c.args.key (λ layer l. c.loop-number.invariant codes a layer (omega arith) l))
