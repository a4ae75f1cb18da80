use Rattle.std.proofs.Common.{rules, refl, ◌<◌, ◌≤◌, ◌*◌, ◌∙◌}
use Rattle.std.proofs.lemmas.Bool.{false≢true}
use Rattle.steady_flash.specs.Cells.{IsEight}
use Rattle.steady_flash.proofs.Cells.{torn_again, takes_mark, marked, marked_torn, marked_again, within_then}
use Rattle.steady_flash.proofs.moving.program_mark.Goals as goal

pub loop-tried-init : goal.loop-tried-init
loop-tried-init g c = record { same_size = refl; slots = λ p i. refl; healthy = λ h. (refl, h); marks = λ p i apart. refl; torn = λ t. t; whole = λ w. w; clear = λ t b. b }

now_marked : goal.returns-in-Ok-clause-outcome
now_marked g c torn some =
    let eight : IsEight c.args.bytes = record { eight = search rules; each = search rules } in
    let t = c.loop-tried.invariant.torn torn in
    let pages : c.args.at < (g.F.MarkedFlash.size c.program_mark.new.self).pages = rw (c.program_mark.ensures.same_size, c.loop-tried.invariant.same_size) c.requires.in_pages in
    let in_page : c.args.mark ≤ 3 * (g.F.MarkedFlash.size c.program_mark.new.self).triples = rw (c.program_mark.ensures.same_size, c.loop-tried.invariant.same_size) c.requires.in_page in
    marked c.args.bytes _ _ eight (c.program_mark.ensures.cells.marks c.args.at c.args.mark pages in_page) t (c.in-Ok.ensures.outcome (takes_mark (g.F.MarkedFlash.marks c.loop-tried.flash c.args.at c.args.mark) c.args.bytes t.takes)) some

pub returns-in-Ok-clause-outcome : goal.returns-in-Ok-clause-outcome
returns-in-Ok-clause-outcome g c torn some = now_marked g c torn some

pub returns-in-Ok-clause-whole : goal.returns-in-Ok-clause-whole
returns-in-Ok-clause-whole g c whole some = now_marked g c (marked_torn c.args.bytes _ whole) some

pub returns-in-Ok-clause-clear : goal.returns-in-Ok-clause-clear
returns-in-Ok-clause-clear g c torn some b = (let m = now_marked g c torn some in within_then _ c.args.bytes _ (rw m.most at b) torn.most)

pub loop-tried-preserved : goal.loop-tried-preserved
loop-tried-preserved g c =
    let v = c.loop-tried.invariant in
    record {
      same_size = c.program_mark.ensures.same_size ∙ v.same_size;
      slots = λ p i. c.program_mark.ensures.slots p i ∙ v.slots p i;
      healthy = λ h. absurd (false≢true (c.in-Err.ensures.healthy (v.healthy h).1).0);
      marks = λ p i apart. c.program_mark.ensures.others p i apart ∙ v.marks p i apart;
      torn = λ t. torn_again c.args.bytes _ _ (v.torn t) (c.in-Err.ensures.outcome (takes_mark (g.F.MarkedFlash.marks c.loop-tried.flash c.args.at c.args.mark) c.args.bytes (v.torn t).takes));
      whole = λ w. (let m = v.whole w in marked_again c.args.bytes _ _ m (c.in-Err.ensures.outcome (takes_mark (g.F.MarkedFlash.marks c.loop-tried.flash c.args.at c.args.mark) c.args.bytes m.takes)));
      clear = λ t b. v.clear t (within_then _ _ _ b (c.in-Err.ensures.outcome (takes_mark (g.F.MarkedFlash.marks c.loop-tried.flash c.args.at c.args.mark) c.args.bytes (v.torn t).takes)).most.clears_only);
    }
