use Rattle.std.proofs.Common.{rules, ◌≡◌, ◌<◌, false, is_some, length}
use Rattle.layers.specs.Held.{resolved}
use Rattle.layers.specs.representation.HeldRelation.{kept}
use Rattle.layers.specs.Keymaps.{code_at}
use Rattle.layers.proofs.HeldKeys.{kept-put}
use Rattle.layers.proofs.NamedUsages.{named_put}
use Rattle.layers.proofs.held.Held.put.Goals as goal

pub invariant_of-self : goal.invariant_of-self
invariant_of-self g c =
    let within : c.number-place.result < length c.self.inside.codes = rw c.self.invariant.0 c.number-place.ensures.a_key in
    let free : is_some (kept c.self.inside.codes c.self.inside.held c.number-place.result) ≡ false = rw (← c.self.view_is, ← c.number-place.ensures.value) at c.requires.free in (
      search rules,
      search rules,
      search rules,
      λ e. named_put (kept c.self.inside.codes c.self.inside.held) _ c.number-place.result c.resolve-code.result c.self.inside.usages _ c.self.inside.active _ c.number-place.ensures.a_key free
          (kept-put c.self.inside.codes c.self.inside.held c.insert.new.words c.number-place.result c.resolve-code.result within (rw c.from.ensures at c.insert.ensures))
          (c.self.invariant.3 e) c.add.ensures.keys c.add.ensures.consumer c.activate.ensures,
    )

pub returns : goal.returns
returns g c =
    let within : c.number-place.result < length c.self.inside.codes = rw c.self.invariant.0 c.number-place.ensures.a_key in
    let is : c.resolve-code.result ≡ resolved (code_at c.args.keymap.now) (kept c.self.inside.codes c.self.inside.held) c.args.key =
    c.resolve-code.ensures (kept c.self.inside.codes c.self.inside.held) (c.self.invariant.3 (rw (← c.self.view_is) at c.requires.named)).layers in
    rw (← c.self.view_is, ← is, ← c.number-place.ensures.value) (record {
      each = kept-put c.self.inside.codes c.self.inside.held c.insert.new.words c.number-place.result c.resolve-code.result within (rw c.from.ensures at c.insert.ensures);
    })
