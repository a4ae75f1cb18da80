use Rattle.std.proofs.Common.{◌<◌, ◌≤◌, ◌%◌, ◌^◌, ◌∙◌, sym, ap, arith, Some}
use Rattle.flash_model.specs.Image.{page_count}
use Rattle.page_turnover.specs.Header.{format_of}
use Rattle.page_turnover.proofs.Headers.{is_active, format-some}
use Rattle.page_turnover.proofs.log.active_page.Goals as goal

pub tail-requires : goal.tail-requires
tail-requires g c = (is_active (g.F.NorFlash.image c.args.flash.now) c.args.page (c.args.word % 2 ^ 28) c.requires.is_active).in_pages

pub returns : goal.returns
returns g c =
    let image = g.F.NorFlash.image c.args.flash.now in
    record {
      is_active = rw c.seq_of.ensures c.requires.is_active;
      format_is = format-some image c.args.page (c.args.word % 2 ^ 28) c.requires.is_active ∙ ap Some (ap format_of c.requires.good ∙ sym c.word_format.ensures);
      is_tail = c.tail.ensures;
    }

pub overflow_cast-result : goal.overflow_cast-result
overflow_cast-result g c =
    let image = g.F.NorFlash.image c.args.flash.now in
    let inside : c.args.page < page_count image = (is_active image c.args.page (c.args.word % 2 ^ 28) c.requires.is_active).in_pages in
    let most : page_count image ≤ 8 = c.requires.whole.most in
    omega arith
