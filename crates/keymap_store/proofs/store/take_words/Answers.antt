use Rattle.std.proofs.Common.{◌≡◌, ◌∙◌, ℕ, List, [], rules, sym, subst, unwrap_or}
use Rattle.std.proofs.lemmas.List.{append-nil}
use Rattle.layers.specs.Keymaps.{Refines}
use Rattle.page_turnover.specs.Words.{words}
use Rattle.keymap_store.proofs.Keymaps.{together_more, refines_other, entries_of-is}
use Rattle.keymap_store.proofs.store.take_words.Goals as goal

pub loop-word-preserved-in-Some-command_by_format : goal.loop-word-preserved-in-Some-command_by_format
loop-word-preserved-in-Some-command_by_format g c = record {
  refines = c.apply.ensures.refines _ c.loop-word.yielded c.in-Some.word c.loop-word.invariant.refines (sym c.command_by_format.ensures ∙ c.in-Some-command_by_format.is);
  together = together_more c.loop-word.yielded c.loop-word.word-iterator c.next.new.self (words (g.F.NorFlash.image c.args.flash.now)) c.in-Some.word c.in-Some.ensures.steps c.loop-word.invariant.together;
}

pub loop-word-preserved : goal.loop-word-preserved
loop-word-preserved g c = record {
  refines = refines_other g.D.Defaults.defaults _ c.loop-word.yielded c.in-Some.word c.loop-word.keymap (sym c.command_by_format.ensures ∙ c.in_default.is) c.loop-word.invariant.refines;
  together = together_more c.loop-word.yielded c.loop-word.word-iterator c.next.new.self (words (g.F.NorFlash.image c.args.flash.now)) c.in-Some.word c.in-Some.ensures.steps c.loop-word.invariant.together;
}

pub loop-word-init : goal.loop-word-init
loop-word-init g c = record { refines = c.requires.standard _; together = search rules }

pub returns : goal.returns
returns g c =
    let image = g.F.NorFlash.image c.args.flash.now in
    let f = c.format-format.ensures image c.requires.describes in
    let none : c.loop-word.word-iterator ≡ [] = search rules in
    let all : c.loop-word.yielded ≡ words image = sym (append-nil c.loop-word.yielded) ∙ rw none at c.loop-word.invariant.together in
    let P : List ℕ → Type 0 = λ ws. Refines g.D.Defaults.defaults (unwrap_or c.format-format.result 2) ws c.loop-word.keymap in
    rw (entries_of-is g.D.Defaults.defaults image, ← f) (subst P all c.loop-word.invariant.refines)
