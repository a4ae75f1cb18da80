use Rattle.std.proofs.Common.{◌≡◌, ◌∙◌, ◌+◌, ◌*◌, refl, ap, arith}
use Rattle.flash_model.specs.Image.{slot_at}
use Rattle.page_turnover.proofs.block.read_block.Goals as goal

pub returns : goal.returns
returns g c =
    let image = g.F.NorFlash.image c.args.flash.now in
    let place : 8 * c.args.block ≡ 8 * c.args.block + 0 = omega arith in
    let first : c.read_slot.result ≡ slot_at image c.args.page (8 * c.args.block + 0) = c.read_slot.ensures ∙ ap (slot_at image c.args.page) place in
    rw (first, c.read_slot-2.ensures, c.read_slot-3.ensures, c.read_slot-4.ensures, c.read_slot-5.ensures, c.read_slot-6.ensures, c.read_slot-7.ensures, c.read_slot-8.ensures) refl
