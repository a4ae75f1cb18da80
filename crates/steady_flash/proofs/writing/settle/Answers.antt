use Rattle.std.proofs.Common.{rules}
use Rattle.steady_flash.specs.Cells.{IsEight}
use Rattle.steady_flash.specs.Sound.{steady_at}
use Rattle.steady_flash.proofs.Calm.{stopped_sound, sound_after, sound_same}
use Rattle.steady_flash.proofs.Cutting.{given_up, tired}
use Rattle.steady_flash.proofs.Cells.{torn_reading}
use Rattle.steady_flash.proofs.Session.{settled_by_moves}
use Rattle.steady_flash.proofs.writing.settle.Goals as goal

pub returns-in-Ok-clause-outcome : goal.returns-in-Ok-clause-outcome
returns-in-Ok-clause-outcome g c bytes eight settled torn =
    let read : IsEight c.read_slot-read.result = record { eight = search rules; each = search rules } in
    record {
      now = c.read_slot-read.result;
      changed = settled_by_moves _ c.args.layout.now c.loop.layout _ _ _ _ c.args.page (record { slot = c.args.slot; bytes = c.read_slot-read.result }) c.requires.laid_out c.requires.in_pages c.requires.in_page settled c.loop.invariant.same_layout c.loop.invariant.others c.move_page.ensures.others c.in-Ok.ensures.copied c.in-Ok.ensures.moved;
      torn = torn_reading bytes _ _ eight read torn c.read_slot-read.ensures;
    }

pub returns-in-Err-clause-calm : goal.returns-in-Err-clause-calm
returns-in-Err-clause-calm g c = λ k.
    let x = c.in-Err.ensures.calm (rw c.loop.invariant.same_size (c.loop.invariant.calm k)) in
    sound_after _ (g.F.MarkedFlash.marks c.move_page.new.flash) (g.F.MarkedFlash.marks c.give_up.new.self) c.give_up.ensures.marks (stopped_sound _ (g.F.MarkedFlash.marks c.move_page.new.flash) c.loop.layout c.args.page c.in-Err.field-0 (rw c.loop.invariant.same_size at x))

pub returns-clause-calm : goal.returns-clause-calm
returns-clause-calm g c = λ k.
    (steady_at c.loop.layout, sound_same _ (g.F.MarkedFlash.marks c.loop.flash) (g.F.MarkedFlash.marks c.give_up-2.new.self) (steady_at c.loop.layout) c.give_up-2.ensures.marks (c.loop.invariant.calm k).sound)

pub returns-in-Err-clause-cut : goal.returns-in-Err-clause-cut
returns-in-Err-clause-cut g c k _ =
    let l = c.args.layout.now in
    let stopped = rw c.loop.invariant.same_layout at (c.in-Err.ensures.calm (rw c.loop.invariant.same_size (c.loop.invariant.calm k))) in
    let calm = rw c.loop.invariant.same_layout at (c.loop.invariant.calm k) in
    let others = rw c.loop.invariant.same_layout at c.move_page.ensures.others in
    let opened = rw c.loop.invariant.same_layout at c.move_page.ensures.opened in
    let copy = rw c.loop.invariant.same_layout at c.in-Err.ensures.copied in
    given_up _ l c.args.page (record { slot = c.args.slot; bytes = c.read_slot-read.result }) c.in-Err.field-0 (g.F.MarkedFlash.marks c.args.flash.now) (g.F.MarkedFlash.slots c.args.flash.now) (g.F.MarkedFlash.marks c.loop.flash) (g.F.MarkedFlash.slots c.loop.flash) (g.F.MarkedFlash.marks c.move_page.new.flash) (g.F.MarkedFlash.slots c.move_page.new.flash) (g.F.MarkedFlash.marks c.give_up.new.self) (g.F.MarkedFlash.slots c.give_up.new.self)
    c.requires.in_pages c.read_slot-read.ensures calm c.loop.invariant.others c.loop.invariant.opened (rw c.loop.invariant.same_size at stopped) others opened copy c.give_up.ensures.marks c.give_up.ensures.slots

pub returns-clause-cut : goal.returns-clause-cut
returns-clause-cut g c k _ =
    let calm = rw c.loop.invariant.same_layout at (c.loop.invariant.calm k) in
    tired _ c.args.layout.now c.args.page (g.F.MarkedFlash.marks c.args.flash.now) (g.F.MarkedFlash.slots c.args.flash.now) (g.F.MarkedFlash.marks c.loop.flash) (g.F.MarkedFlash.slots c.loop.flash) (g.F.MarkedFlash.marks c.give_up-2.new.self) (g.F.MarkedFlash.slots c.give_up-2.new.self) calm c.loop.invariant.others c.loop.invariant.opened c.give_up-2.ensures.marks c.give_up-2.ensures.slots
