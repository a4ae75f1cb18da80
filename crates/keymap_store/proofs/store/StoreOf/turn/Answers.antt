use Rattle.std.proofs.Common.{◌∙◌, sym, ap, refl}
use Rattle.page_turnover.proofs.Describing.{unsound_none}
use Rattle.page_turnover.proofs.Effects.{committed_rests, not_idle}
use Rattle.keymap_store.specs.Keymap.{entries_of}
use Rattle.keymap_store.specs.Left.{turn_left}
use Rattle.keymap_store.proofs.Counting.{moved_left, committed_left, turning_left}
use Rattle.keymap_store.proofs.Ordering.{moved_order, committed_order, failed_order}
use Rattle.keymap_store.proofs.Working.{turning, turn_few, turn_moves, turn_room, turn_commits, failed}
use Rattle.keymap_store.proofs.Stepped.{turn_asks, turn_working, turn_failed, in_target, turn_prepares, turn_over, turn_fails}
use Rattle.keymap_store.proofs.store.StoreOf.turn.Goals as goal

pub step_turn-requires-clause-goes_on : goal.step_turn-requires-clause-goes_on
step_turn-requires-clause-goes_on g c =
    turn_few g.D.Defaults.defaults (g.F.NorFlash.image c.args.flash.now) _ c.args.command c.args.from (rw (← c.self.view_is) at c.requires.mirrors) (rw (← c.self.view_is) at c.requires.job)

pub step_turn-requires-clause-within : goal.step_turn-requires-clause-within
step_turn-requires-clause-within g c =
    (turning g.D.Defaults.defaults (g.F.NorFlash.image c.args.flash.now) c.args.self.now c.args.command c.args.from c.requires.mirrors c.requires.job).within

pub begin_append-requires-clause-rests : goal.begin_append-requires-clause-rests
begin_append-requires-clause-rests g c =
    let old = g.F.NorFlash.image c.args.flash.now in
    let new = g.F.NorFlash.image c.step_turn.new.flash in
    let m = rw (← c.self.view_is) at c.requires.mirrors in
    let j = turning g.D.Defaults.defaults old _ c.args.command c.args.from m (rw (← c.self.view_is) at c.requires.job) in
    let t = c.step_turn.ensures.steps (entries_of g.D.Defaults.defaults old) c.args.command m.keymap_is j.offers (rw (← c.self.view_is) at c.requires.job) in
    committed_rests old t.log c.step_turn.result new c.step_turn.new.log c.in-Committed.is t.steps.ends

pub begin_append-requires-clause-usable : goal.begin_append-requires-clause-usable
begin_append-requires-clause-usable g c =
    let old = g.F.NorFlash.image c.args.flash.now in
    let new = g.F.NorFlash.image c.step_turn.new.flash in
    let m = rw (← c.self.view_is) at c.requires.mirrors in
    let j = turning g.D.Defaults.defaults old _ c.args.command c.args.from m (rw (← c.self.view_is) at c.requires.job) in
    let t = c.step_turn.ensures.steps (entries_of g.D.Defaults.defaults old) c.args.command m.keymap_is j.offers (rw (← c.self.view_is) at c.requires.job) in
    unsound_none new c.step_turn.new.log t.steps.ends.describes t.steps.usable

pub begin_append-requires-clause-room : goal.begin_append-requires-clause-room
begin_append-requires-clause-room g c =
    let old = g.F.NorFlash.image c.args.flash.now in
    let new = g.F.NorFlash.image c.step_turn.new.flash in
    let m = rw (← c.self.view_is) at c.requires.mirrors in
    let j = turning g.D.Defaults.defaults old _ c.args.command c.args.from m (rw (← c.self.view_is) at c.requires.job) in
    let t = c.step_turn.ensures.steps (entries_of g.D.Defaults.defaults old) c.args.command m.keymap_is j.offers (rw (← c.self.view_is) at c.requires.job) in
    turn_room g.D.Defaults.defaults old _ t.from t.log new c.step_turn.new.log m t.offered.offers t.steps.ends.describes (t.steps.committed c.in-Committed.is)

pub unreachable-requires : goal.unreachable-requires
unreachable-requires g c =
    let old = g.F.NorFlash.image c.args.flash.now in
    let new = g.F.NorFlash.image c.step_turn.new.flash in
    let m = rw (← c.self.view_is) at c.requires.mirrors in
    let j = turning g.D.Defaults.defaults old _ c.args.command c.args.from m (rw (← c.self.view_is) at c.requires.job) in
    let t = c.step_turn.ensures.steps (entries_of g.D.Defaults.defaults old) c.args.command m.keymap_is j.offers (rw (← c.self.view_is) at c.requires.job) in
    not_idle old t.log c.step_turn.result new c.step_turn.new.log c.in-Idle.is t.offered.pending t.steps.ends

pub returns-in-Moved-clause-leaves : goal.returns-in-Moved-clause-leaves
returns-in-Moved-clause-leaves g c =
    let old = g.F.NorFlash.image c.args.flash.now in
    let new = g.F.NorFlash.image c.step_turn.new.flash in
    let m = rw (← c.self.view_is) at c.requires.mirrors in
    let e = rw (← c.self.view_is) at c.requires.job in
    let j = turning g.D.Defaults.defaults old _ c.args.command c.args.from m e in
    let t = c.step_turn.ensures.steps (entries_of g.D.Defaults.defaults old) c.args.command m.keymap_is j.offers (rw (← c.self.view_is) at c.requires.job) in
    let made = c.in-Moved.is in
    let moves = t.steps.moved made in
    rw (← c.self.view_is, t.job_is) (record {
      mirrors = turn_moves g.D.Defaults.defaults old _ c.args.command t.from t.log c.step_turn.result new c.step_turn.new.log m j.no_room t.within t.offered.describes t.offered.offers made t.steps.ends moves
          (in_target g.D.Defaults.defaults old _ t.log t.from c.step_turn.result new t.offered t.steps.attempts);
      works = record { some = rw e refl; same_command = rw e refl; same_keymap = refl };
      attempts = turn_working g.D.Defaults.defaults old _ t.log t.from c.step_turn.result new m t.offered t.steps.attempts (λ x. cc) (λ x. cc);
      writes = turn_prepares g.D.Defaults.defaults old _ t.log t.from c.step_turn.result new c.step_turn.new.log m t.offered t.steps.attempts moves;
      operates = λ idle failed. t.steps.operates (λ x. cc);
      torn = λ f. cc;
      sound = λ u. t.steps.usable;
    })

pub returns-in-Committed-clause-leaves : goal.returns-in-Committed-clause-leaves
returns-in-Committed-clause-leaves g c =
    let old = g.F.NorFlash.image c.args.flash.now in
    let new = g.F.NorFlash.image c.step_turn.new.flash in
    let m = rw (← c.self.view_is) at c.requires.mirrors in
    let e = rw (← c.self.view_is) at c.requires.job in
    let j = turning g.D.Defaults.defaults old _ c.args.command c.args.from m e in
    let t = c.step_turn.ensures.steps (entries_of g.D.Defaults.defaults old) c.args.command m.keymap_is j.offers (rw (← c.self.view_is) at c.requires.job) in
    let made = c.in-Committed.is in
    let commits = t.steps.committed made in
    rw (← c.self.view_is) (record {
      mirrors = turn_commits g.D.Defaults.defaults old _ c.args.command c.word.result t.from t.log new c.step_turn.new.log c.begin_append.new.self m t.offered.offers commits
          (c.begin_append.ensures.describes new t.steps.ends.describes) c.begin_append.ensures.pending c.word.ensures.value c.word.ensures.read_back;
      works = record { some = rw e refl; same_command = rw e refl; same_keymap = refl };
      attempts = turn_working g.D.Defaults.defaults old _ t.log t.from c.step_turn.result new m t.offered t.steps.attempts (λ x. cc) (λ x. cc);
      writes = turn_over g.D.Defaults.defaults old _ t.log t.from c.step_turn.result new j.no_room m t.offered t.steps.attempts commits;
      operates = λ idle failed. t.steps.operates (λ x. cc);
      torn = λ f. cc;
      sound = λ u. t.steps.usable;
    })

pub returns-in-Failed-clause-leaves : goal.returns-in-Failed-clause-leaves
returns-in-Failed-clause-leaves g c =
    let old = g.F.NorFlash.image c.args.flash.now in
    let new = g.F.NorFlash.image c.step_turn.new.flash in
    let m = rw (← c.self.view_is) at c.requires.mirrors in
    let e = rw (← c.self.view_is) at c.requires.job in
    let j = turning g.D.Defaults.defaults old _ c.args.command c.args.from m e in
    let t = c.step_turn.ensures.steps (entries_of g.D.Defaults.defaults old) c.args.command m.keymap_is j.offers (rw (← c.self.view_is) at c.requires.job) in
    let fails = c.in-Failed.is in
    rw (← c.self.view_is) (record {
      mirrors = failed g.D.Defaults.defaults old _ t.log c.step_turn.result new c.step_turn.new.log m fails t.steps.ends;
      works = record { some = rw e refl; gone = refl; same_keymap = refl };
      attempts = turn_failed g.D.Defaults.defaults old _ t.log t.from c.step_turn.result new m t.offered t.steps.attempts fails;
      writes = turn_fails g.D.Defaults.defaults old _ m c.args.command c.args.from t.log t.from c.step_turn.result new c.step_turn.new.log e fails t.steps.ends t.offered t.steps.attempts;
      operates = λ idle failed. absurd (failed refl);
      torn = λ f. t.steps.torn fails;
      sound = λ u. t.steps.usable;
    })

pub returns-in-Moved-clause-fewer : goal.returns-in-Moved-clause-fewer
returns-in-Moved-clause-fewer g c working =
    let old = g.F.NorFlash.image c.args.flash.now in
    let new = g.F.NorFlash.image c.step_turn.new.flash in
    let m = rw (← c.self.view_is) at c.requires.mirrors in
    let e = rw (← c.self.view_is) at c.requires.job in
    let j = turning g.D.Defaults.defaults old _ c.args.command c.args.from m e in
    let t = c.step_turn.ensures.steps (entries_of g.D.Defaults.defaults old) c.args.command m.keymap_is j.offers (rw (← c.self.view_is) at c.requires.job) in
    let moves = t.steps.moved c.in-Moved.is in
    rw (← c.self.view_is, t.job_is) (moved_left g.D.Defaults.defaults t.from old t.log c.step_turn.result new c.step_turn.new.log t.within t.offered.describes.task_is t.offered.offers c.in-Moved.is t.steps.ends moves.keeps
    ∙ ap (turn_left g.D.Defaults.defaults old) t.target ∙ sym (turning_left g.D.Defaults.defaults old _ c.args.command c.args.from m e))

pub returns-in-Committed-clause-fewer : goal.returns-in-Committed-clause-fewer
returns-in-Committed-clause-fewer g c working =
    let old = g.F.NorFlash.image c.args.flash.now in
    let new = g.F.NorFlash.image c.step_turn.new.flash in
    let m = rw (← c.self.view_is) at c.requires.mirrors in
    let e = rw (← c.self.view_is) at c.requires.job in
    let j = turning g.D.Defaults.defaults old _ c.args.command c.args.from m e in
    let t = c.step_turn.ensures.steps (entries_of g.D.Defaults.defaults old) c.args.command m.keymap_is j.offers (rw (← c.self.view_is) at c.requires.job) in
    rw (← c.self.view_is) (sym (committed_left g.D.Defaults.defaults t.from old t.log c.step_turn.result new c.step_turn.new.log t.offered.describes.task_is t.offered.offers c.in-Committed.is t.steps.ends)
    ∙ ap (turn_left g.D.Defaults.defaults old) t.target ∙ sym (turning_left g.D.Defaults.defaults old _ c.args.command c.args.from m e))

pub returns-in-Moved-clause-operated : goal.returns-in-Moved-clause-operated
returns-in-Moved-clause-operated g c operation e =
    let old = g.F.NorFlash.image c.args.flash.now in
    let m = rw (← c.self.view_is) at c.requires.mirrors in
    let j = turning g.D.Defaults.defaults old _ c.args.command c.args.from m (rw (← c.self.view_is) at c.requires.job) in
    let t = c.step_turn.ensures.steps (entries_of g.D.Defaults.defaults old) c.args.command m.keymap_is j.offers (rw (← c.self.view_is) at c.requires.job) in
    t.operated operation (turn_asks g.D.Defaults.defaults old _ t.log t.from operation m t.offered (rw (← c.self.view_is) at e))

pub returns-in-Committed-clause-operated : goal.returns-in-Committed-clause-operated
returns-in-Committed-clause-operated g c operation e =
    let old = g.F.NorFlash.image c.args.flash.now in
    let m = rw (← c.self.view_is) at c.requires.mirrors in
    let j = turning g.D.Defaults.defaults old _ c.args.command c.args.from m (rw (← c.self.view_is) at c.requires.job) in
    let t = c.step_turn.ensures.steps (entries_of g.D.Defaults.defaults old) c.args.command m.keymap_is j.offers (rw (← c.self.view_is) at c.requires.job) in
    t.operated operation (turn_asks g.D.Defaults.defaults old _ t.log t.from operation m t.offered (rw (← c.self.view_is) at e))

pub returns-in-Failed-clause-operated : goal.returns-in-Failed-clause-operated
returns-in-Failed-clause-operated g c operation e =
    let old = g.F.NorFlash.image c.args.flash.now in
    let m = rw (← c.self.view_is) at c.requires.mirrors in
    let j = turning g.D.Defaults.defaults old _ c.args.command c.args.from m (rw (← c.self.view_is) at c.requires.job) in
    let t = c.step_turn.ensures.steps (entries_of g.D.Defaults.defaults old) c.args.command m.keymap_is j.offers (rw (← c.self.view_is) at c.requires.job) in
    t.operated operation (turn_asks g.D.Defaults.defaults old _ t.log t.from operation m t.offered (rw (← c.self.view_is) at e))

pub returns-in-Moved-clause-order : goal.returns-in-Moved-clause-order
returns-in-Moved-clause-order g c =
    let old = g.F.NorFlash.image c.args.flash.now in
    let new = g.F.NorFlash.image c.step_turn.new.flash in
    let m = rw (← c.self.view_is) at c.requires.mirrors in
    let e = rw (← c.self.view_is) at c.requires.job in
    let j = turning g.D.Defaults.defaults old _ c.args.command c.args.from m e in
    let t = c.step_turn.ensures.steps (entries_of g.D.Defaults.defaults old) c.args.command m.keymap_is j.offers (rw (← c.self.view_is) at c.requires.job) in
    let moves = t.steps.moved c.in-Moved.is in
    rw (← c.self.view_is, t.job_is) (moved_order g.D.Defaults.defaults t.from c.args.from old _ c.args.command t.log c.step_turn.result new c.step_turn.new.log m e t.target t.within t.offered.describes.task_is t.offered.offers c.in-Moved.is
    t.steps.ends moves.keeps (in_target g.D.Defaults.defaults old _ t.log t.from c.step_turn.result new t.offered t.steps.attempts))

pub returns-in-Committed-clause-order : goal.returns-in-Committed-clause-order
returns-in-Committed-clause-order g c =
    let old = g.F.NorFlash.image c.args.flash.now in
    let new = g.F.NorFlash.image c.step_turn.new.flash in
    let m = rw (← c.self.view_is) at c.requires.mirrors in
    let e = rw (← c.self.view_is) at c.requires.job in
    let j = turning g.D.Defaults.defaults old _ c.args.command c.args.from m e in
    let t = c.step_turn.ensures.steps (entries_of g.D.Defaults.defaults old) c.args.command m.keymap_is j.offers (rw (← c.self.view_is) at c.requires.job) in
    rw (← c.self.view_is) (committed_order g.D.Defaults.defaults t.from c.args.from old _ c.args.command t.log c.step_turn.result new c.step_turn.new.log c.begin_append.new.self _ m e t.target
    t.offered.describes.task_is t.offered.offers c.in-Committed.is t.steps.ends c.begin_append.ensures.pending)

pub returns-in-Failed-clause-order : goal.returns-in-Failed-clause-order
returns-in-Failed-clause-order g c = failed_order _

pub returns-in-Moved-clause-faultless : goal.returns-in-Moved-clause-faultless
returns-in-Moved-clause-faultless g c n f =
    let old = g.F.NorFlash.image c.args.flash.now in
    let m = rw (← c.self.view_is) at c.requires.mirrors in
    let j = turning g.D.Defaults.defaults old _ c.args.command c.args.from m (rw (← c.self.view_is) at c.requires.job) in
    let t = c.step_turn.ensures.steps (entries_of g.D.Defaults.defaults old) c.args.command m.keymap_is j.offers (rw (← c.self.view_is) at c.requires.job) in
    ((t.faultless n f).0, λ e. cc)

pub returns-in-Committed-clause-faultless : goal.returns-in-Committed-clause-faultless
returns-in-Committed-clause-faultless g c n f =
    let old = g.F.NorFlash.image c.args.flash.now in
    let m = rw (← c.self.view_is) at c.requires.mirrors in
    let j = turning g.D.Defaults.defaults old _ c.args.command c.args.from m (rw (← c.self.view_is) at c.requires.job) in
    let t = c.step_turn.ensures.steps (entries_of g.D.Defaults.defaults old) c.args.command m.keymap_is j.offers (rw (← c.self.view_is) at c.requires.job) in
    ((t.faultless n f).0, λ e. cc)

pub returns-in-Failed-clause-faultless : goal.returns-in-Failed-clause-faultless
returns-in-Failed-clause-faultless g c n f =
    let old = g.F.NorFlash.image c.args.flash.now in
    let m = rw (← c.self.view_is) at c.requires.mirrors in
    let j = turning g.D.Defaults.defaults old _ c.args.command c.args.from m (rw (← c.self.view_is) at c.requires.job) in
    let t = c.step_turn.ensures.steps (entries_of g.D.Defaults.defaults old) c.args.command m.keymap_is j.offers (rw (← c.self.view_is) at c.requires.job) in
    absurd ((t.faultless n f).1 c.in-Failed.is)
