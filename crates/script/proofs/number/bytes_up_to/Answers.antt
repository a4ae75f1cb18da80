use Rattle.std.proofs.Common.{refl, ap, arith, ℕ, ◌∙◌, ◌≡◌, ◌*◌, ◌/◌, length}
use Rattle.std.proofs.lemmas.List.{length-replicate}
use Rattle.script.proofs.NumberLemmas.{refused_slice}
use Rattle.script.proofs.number.bytes_up_to.Goals as goal

pub returns-in-Err-clause-read : goal.returns-in-Err-clause-read
returns-in-Err-clause-read c d = (
  refl,
  λ h.
      let all : length d.from-bytes.result.items ≡ c.row.N = ap length d.from-bytes.ensures.0 ∙ length-replicate {A = ℕ} c.row.N 0 in
      let room : length d.as_mut_slice.result.now ≡ length d.args.word.now / 2 = omega (arith, ap length d.as_mut_slice.ensures.value) in
      let same : length d.args.word.now ≡ 2 * length d.as_mut_slice.result.now = omega arith in
      refused_slice (length d.as_mut_slice.result.now) d.args.word.now d.decode_to_slice.new.out d.in-Err.field-0 d.decode_to_slice.result d.in-Err.is d.decode_to_slice.ensures.value same 1 c.row.N h,
)
