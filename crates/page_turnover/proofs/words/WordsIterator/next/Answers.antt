use Rattle.std.proofs.Common.{◌≡◌, ◌∙◌, [], refl, sym}
use Rattle.records.specs.Slots.{slot_of}
use Rattle.flash_model.specs.Image.{slot_at}
use Rattle.page_turnover.specs.Words.{word_of}
use Rattle.page_turnover.proofs.WordLists.{words_after_less}
use Rattle.page_turnover.proofs.GoodSlots.{no_word, good_next}
use Rattle.page_turnover.proofs.words.WordsIterator.next.Goals as goal

pub invariant_of-self-then-good-eq1 : goal.invariant_of-self-then-good-eq1
invariant_of-self-then-good-eq1 g c =
    (c.loop-slot.invariant.in_pages, c.loop-slot.invariant.in_page, good_next (g.F.NorFlash.image c.loop-slot.self-inside.flash.now) c.loop-slot.self-inside.page c.loop-slot.slot c.good_from-good.result c.good_from-good.ensures)

pub loop-slot-preserved : goal.loop-slot-preserved
loop-slot-preserved g c =
    let image = g.F.NorFlash.image c.loop-slot.self-inside.flash.now in
    let page = c.loop-slot.self-inside.page in
    let slot = c.loop-slot.slot in
    let good = c.good_from-good.result in
    let none : word_of (slot_of (slot_at image page slot)) ≡ [] = no_word image page slot good c.good_from-good.ensures c.if-good-eq1.false in
    record {
      placed = refl;
      in_pages = c.loop-slot.invariant.in_pages;
      in_page = c.loop-slot.invariant.in_page;
      same_end = c.loop-slot.invariant.same_end;
      good = good_next image page slot good c.good_from-good.ensures;
      same_left = sym (rw none at (words_after_less image page slot c.loop-slot.self-inside.end (rw c.loop-slot.invariant.same_end c.loop-slot-test.true))) ∙ c.loop-slot.invariant.same_left;
    }
