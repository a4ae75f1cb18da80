use Rattle.std.proofs.Common.{rules, ◌≡◌, true, false, is_some, sym, ◌∙◌}
use Rattle.layers.specs.representation.HeldRelation.{HeldRefines, kept}
use Rattle.layers.proofs.HeldKeys.{refines_named, refines_put, refines_pressed_again}
use Rattle.layers.proofs.held.Held.press.Goals as goal

pub returns-then-not-holds : goal.returns-then-not-holds
returns-then-not-holds g c past h =
    let no : c.holds.result ≡ false = search rules in
    let free : is_some (kept c.name_usages.new.self.codes c.name_usages.new.self.held c.args.key) ≡ false = rw c.name_usages.ensures (sym c.holds.ensures.is ∙ no) in
    let named : HeldRefines past c.name_usages.new.self = rw c.name_usages.ensures (refines_named past c.args.self.now h) in
    refines_put past c.name_usages.new.self c.put.new.self c.args.keymap.now c.args.key c.holds.ensures.a_key free c.put.ensures named

pub returns-else-not-holds : goal.returns-else-not-holds
returns-else-not-holds g c past h =
    let held : c.holds.result ≡ true = search rules in
    refines_pressed_again past c.args.self.now c.args.keymap.now c.args.key c.holds.ensures.a_key (sym c.holds.ensures.is ∙ held) h
