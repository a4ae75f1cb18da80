use Rattle.std.proofs.Common.{◌∙◌, Some}
use Rattle.steady_flash.specs.Layout.{held_at}
use Rattle.steady_flash.specs.Sound.{moving_at}
use Rattle.steady_flash.proofs.Calm.{stopped_sound, sound_after, sound_same, stopped_moving}
use Rattle.steady_flash.proofs.Cutting.{copied_as}
use Rattle.steady_flash.proofs.Session.{changed_by_move}
use Rattle.steady_flash.proofs.writing.change.Goals as goal

pub returns-in-Ok-clause-outcome : goal.returns-in-Ok-clause-outcome
returns-in-Ok-clause-outcome g c settled =
    rw c.in-Ok.ensures.moved (changed_by_move _ c.args.layout.now _ _ c.args.page (record { slot = c.args.slot; bytes = c.args.bytes }) c.requires.laid_out c.requires.in_pages c.requires.in_page (λ p s b t _. settled p s b t) c.move_page.ensures.others c.in-Ok.ensures.copied)

pub returns-in-Err-InDoubt-clause-calm : goal.returns-in-Err-InDoubt-clause-calm
returns-in-Err-InDoubt-clause-calm g c = λ k.
    sound_after _ (g.F.MarkedFlash.marks c.move_page.new.flash) (g.F.MarkedFlash.marks c.give_up.new.self) c.give_up.ensures.marks (stopped_sound _ (g.F.MarkedFlash.marks c.move_page.new.flash) c.args.layout.now c.args.page c.in-Err-InDoubt.field-0 (c.in-Err-InDoubt.ensures.calm k))

pub returns-in-Err-InDoubt-clause-cut : goal.returns-in-Err-InDoubt-clause-cut
returns-in-Err-InDoubt-clause-cut g c k _ =
    let l = c.args.layout.now in
    let mid = g.F.MarkedFlash.marks c.move_page.new.flash in
    let old = g.F.MarkedFlash.slots c.args.flash.now in
    let spare = l.spare in (
      sound_same _ mid (g.F.MarkedFlash.marks c.give_up.new.self) (moving_at l c.args.page) c.give_up.ensures.marks (stopped_moving _ mid l c.args.page c.in-Err-InDoubt.field-0 c.in-Err-InDoubt.field-0-is (c.in-Err-InDoubt.ensures.calm k)),
      λ p s apart. c.give_up.ensures.slots p s ∙ c.move_page.ensures.others p s apart,
      λ s t. copied_as (old (held_at l.held c.args.page).page s) (g.F.MarkedFlash.slots c.move_page.new.flash spare s) (g.F.MarkedFlash.slots c.give_up.new.self spare s) s (Some (record { slot = c.args.slot; bytes = c.args.bytes })) (c.give_up.ensures.slots spare s) (c.in-Err-InDoubt.ensures.copied c.in-Err-InDoubt.field-0-is s t),
    )
