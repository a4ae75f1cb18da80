use Rattle.std.proofs.Common.{◌≡◌, ◌-◌, ◌<◌, ◌≤◌}
use Rattle.flash_model.specs.Image.{page_count}
use Rattle.page_turnover.specs.representation.Words.{words_after}
use Rattle.page_turnover.specs.representation.Blocks.{AreGoodWithin}
use Rattle.page_turnover.proofs.words.WordsIterator.next.Given as goal

pub record SoFar (place inside within_page same good_bits left : Type 0) : Type 0 where
  pub placed : place
  pub in_pages : inside
  pub in_page : within_page
  pub same_end : same
  pub good : good_bits
  pub same_left : left

abbrev pub invariant-loop-slot : goal.invariant-loop-slot
invariant-loop-slot g l =
    let image = g.F.NorFlash.image in
    SoFar (l.self-inside.next ≡ l.slot) (l.self-inside.page < page_count (image l.self-inside.flash.now)) (l.self-inside.end ≤ 512) (l.self-inside.end ≡ l.end)
    (AreGoodWithin (image l.self-inside.flash.now) l.self-inside.page l.slot l.self-inside.good)
    (words_after (image l.self-inside.flash.now) l.self-inside.page l.slot (l.self-inside.end - l.slot) ≡ l.fn.self)
