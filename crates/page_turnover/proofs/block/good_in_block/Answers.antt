use Rattle.std.proofs.Common.{◌≡◌, ◌∙◌, ℕ, ◌+◌, ◌*◌, List, refl, arith}
use Rattle.flash_model.specs.Image.{slot_at}
use Rattle.records.specs.Blocks.{slot_in}
use Rattle.page_turnover.proofs.Operating.{slot_is}
use Rattle.page_turnover.proofs.Gathering.{in_line, gathered}
use Rattle.page_turnover.proofs.block.good_in_block.Goals as goal

pub returns : goal.returns
returns g c i l =
    let image = g.F.NorFlash.image c.args.flash.now in
    let at : ℕ → List ℕ = λ k. slot_at image c.args.page (8 * c.args.block + k) in
    let line : c.in-Ok.bytes.now ≡ in_line at 8 = c.in-Ok.ensures.1.same ∙ c.as_flattened.ensures.value ∙ rw c.read_block-slots.ensures refl in
    let here : slot_in c.in-Ok.bytes.now i ≡ at i =
    rw line (gathered at 8 (λ k m. (slot_is image c.args.page (8 * c.args.block + k) c.pages-pages.ensures.whole c.requires.in_pages (omega (arith, c.requires.in_page))).eight) i l) in
    rw (← here) (c.kinds8.ensures.good i l)
