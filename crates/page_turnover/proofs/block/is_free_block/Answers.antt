use Rattle.std.proofs.Common.{◌≡◌, ◌∙◌, ℕ, ◌+◌, ◌*◌, ◌<◌, List, refl, length, arith}
use Rattle.flash_model.specs.Image.{slot_at}
use Rattle.records.specs.Blocks.{slot_in}
use Rattle.records.specs.Slots.{IsSlot}
use Rattle.page_turnover.proofs.Operating.{slot_is}
use Rattle.page_turnover.proofs.Gathering.{free_slots, one_bytes, in_line, in_line-length, gathered}
use Rattle.page_turnover.proofs.block.is_free_block.Goals as goal

pub returns : goal.returns
returns g c =
    let image = g.F.NorFlash.image c.args.flash.now in
    let at : ℕ → List ℕ = λ i. slot_at image c.args.page (8 * c.args.block + i) in
    let slots : (i : ℕ) → i < 8 → IsSlot (at i) = λ i l. slot_is image c.args.page (8 * c.args.block + i) c.pages-pages.ensures.whole c.requires.in_pages (omega (arith, c.requires.in_page)) in
    let bytes = c.as_flattened.result.now in
    let line : bytes ≡ in_line at 8 = c.as_flattened.ensures.value ∙ rw c.read_block-slots.ensures refl in
    let long : length bytes ≡ 64 = rw line (in_line-length at 8 (λ k l. (slots k l).eight)) in
    let each : (i : ℕ) → i < 8 → slot_in bytes i ≡ at i = rw line (gathered at 8 (λ k l. (slots k l).eight)) in (
      λ t. free_slots bytes at each slots (λ k l. c.all_ones.ensures.0 t k (omega (arith, long))),
      λ h. c.all_ones.ensures.1 (λ k l. one_bytes bytes at each slots h k (omega (arith, long))),
    )
