use Rattle.std.proofs.Common.{◌||◌, ◌<◌, Bool, length, get_or, ap, arith, sym, ◌∙◌}
use Rattle.layers.specs.Codes.{activates, names_key_usage, names_consumer}
use Rattle.layers.proofs.HeldKeys.{any_below-zero, any_below-next, any_below-rest}
use Rattle.layers.proofs.held.name.Goals as goal

pub loop-key-init : goal.loop-key-init
loop-key-init c = record {
  within = omega arith;
  keys = λ usage. c.clear.ensures.no_keys usage ∙ sym (any_below-zero _);
  consumer = λ index. c.clear.ensures.no_consumer index ∙ sym (any_below-zero _);
  layers = λ layer. c.no_layers-active.ensures.none layer ∙ sym (any_below-zero _);
}

pub loop-key-preserved : goal.loop-key-preserved
loop-key-preserved c =
    let in_keys : c.in-Some.key < 96 = omega (arith, c.in-Some.ensures.within, c.told-held) in
    let there : c.in-Some.key < length c.args.codes.now = omega (arith, c.told-codes, in_keys) in
    let d = c.index-codes-key.result in
    let code = get_or c.args.codes.now c.in-Some.key d in
    record {
      within = omega (arith, in_keys);
      keys = λ usage.
          c.add.ensures.keys usage
          ∙ ap (λ (b : Bool). names_key_usage usage code || b) (c.loop-key.invariant.keys usage)
          ∙ sym (any_below-next c.args.codes.now c.args.held.now (names_key_usage usage) c.loop-key.from c.in-Some.key d there c.in-Some.ensures.next);
      consumer = λ index.
          c.add.ensures.consumer index
          ∙ ap (λ (b : Bool). names_consumer index code || b) (c.loop-key.invariant.consumer index)
          ∙ sym (any_below-next c.args.codes.now c.args.held.now (names_consumer index) c.loop-key.from c.in-Some.key d there c.in-Some.ensures.next);
      layers = λ layer.
          c.activate.ensures layer
          ∙ ap (λ (b : Bool). activates layer code || b) (c.loop-key.invariant.layers layer)
          ∙ sym (any_below-next c.args.codes.now c.args.held.now (activates layer) c.loop-key.from c.in-Some.key d there c.in-Some.ensures.next);
    }

pub returns : goal.returns
returns c = record {
  keys = λ usage. c.loop-key.invariant.keys usage ∙ sym (any_below-rest c.args.codes.now c.args.held.now (names_key_usage usage) c.loop-key.from c.loop-key.invariant.within c.in_default.ensures.next);
  consumer = λ index. c.loop-key.invariant.consumer index ∙ sym (any_below-rest c.args.codes.now c.args.held.now (names_consumer index) c.loop-key.from c.loop-key.invariant.within c.in_default.ensures.next);
  layers = record {
    each = λ layer l. c.loop-key.invariant.layers layer ∙ sym (any_below-rest c.args.codes.now c.args.held.now (activates layer) c.loop-key.from c.loop-key.invariant.within c.in_default.ensures.next);
  };
}
