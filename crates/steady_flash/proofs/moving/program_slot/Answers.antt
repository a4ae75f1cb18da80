use Rattle.std.proofs.Common.{rules, refl, ◌<◌, ◌∙◌}
use Rattle.std.proofs.lemmas.Bool.{false≢true}
use Rattle.steady_flash.specs.Cells.{IsEight}
use Rattle.steady_flash.proofs.Cells.{torn_erased, torn_again, programmed}
use Rattle.steady_flash.proofs.moving.program_slot.Goals as goal

pub loop-tried-init : goal.loop-tried-init
loop-tried-init g c =
    let eight : IsEight c.args.bytes = record { eight = search rules; each = search rules } in
    record { same_size = refl; others = λ p i apart. refl; torn = λ e. rw e (torn_erased c.args.bytes eight); healthy = λ h. (refl, h); marks = λ p i. refl }

pub returns-in-Ok-clause-outcome : goal.returns-in-Ok-clause-outcome
returns-in-Ok-clause-outcome g c e some =
    let eight : IsEight c.args.bytes = record { eight = search rules; each = search rules } in
    let t = c.loop-tried.invariant.torn e in
    let pages : c.args.at < (g.F.MarkedFlash.size c.program_slot.new.self).pages = rw (c.program_slot.ensures.same_size, c.loop-tried.invariant.same_size) c.requires.in_pages in
    programmed c.args.bytes _ _ eight (c.program_slot.ensures.cells.slots c.args.at c.args.slot pages c.requires.in_page) t (c.in-Ok.ensures.outcome t.takes) some

pub loop-tried-preserved : goal.loop-tried-preserved
loop-tried-preserved g c = record {
  same_size = c.program_slot.ensures.same_size ∙ c.loop-tried.invariant.same_size;
  others = λ p i apart. c.program_slot.ensures.others p i apart ∙ c.loop-tried.invariant.others p i apart;
  torn = λ e. torn_again c.args.bytes _ _ (c.loop-tried.invariant.torn e) (c.in-Err.ensures.outcome (c.loop-tried.invariant.torn e).takes);
  healthy = λ h. absurd (false≢true (c.in-Err.ensures.healthy (c.loop-tried.invariant.healthy h).1).0);
  marks = λ p i. c.program_slot.ensures.marks p i ∙ c.loop-tried.invariant.marks p i;
}
