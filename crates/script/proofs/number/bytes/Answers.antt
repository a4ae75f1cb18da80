use Rattle.std.proofs.Common.{refl, sym, arith, ◌≡◌, ◌*◌, length}
use Rattle.script.proofs.NumberLemmas.{refused_hex}
use Rattle.script.proofs.number.bytes.Goals as goal

pub returns-in-Err : goal.returns-in-Err
returns-in-Err g c = (
  refl,
  λ h.
      let same : length c.args.word.now ≡ 2 * g.row.N = omega arith in
      refused_hex g.row.N c.args.word.now c.in-Err.field-0 (sym c.in-Err.ensures) same g.row.N g.row.N h,
)
