use Rattle.std.proofs.Common.{◌≡◌, ℕ, ◌+◌, ◌*◌, ◌-◌, ◌^◌, ◌∙◌, ◌==◌, sym, ap, bit_xor, bit_and, get_or, arith}
use Rattle.records.specs.Blocks.{is_good, is_free}
use Rattle.records.specs.representation.Blocks.{number_at}
use Rattle.records.proofs.Lanes.{bit_of, paired_lane, good_by_xor, free_by_and, kind_in, number_bound}
use Rattle.records.proofs.kernels.kinds8.Goals as goal

pub returns-clause-good : goal.returns-clause-good
returns-clause-good c i l =
    let xs = c.args.slots.now in
    let h = c.halves_of-halves.result in
    let p : ℕ = number_at xs (4 * (2 * i)) in
    let q : ℕ = number_at xs (4 * (2 * i + 1)) in
    let a : get_or h (2 * i) 0 ≡ p = c.halves_of-halves.ensures.lanes (2 * i) (omega arith) in
    let b : get_or h (2 * i + 1) 0 ≡ q = c.halves_of-halves.ensures.lanes (2 * i + 1) (omega arith) in
    c.ones_of.ensures i l ∙ ap (λ n. bit_of (n == 2 ^ 32 - 1)) (paired_lane bit_xor h c.halves_of-halves.ensures.len i l)
    ∙ ap (λ n. bit_of (bit_xor n (get_or h (2 * i + 1) 0) == 2 ^ 32 - 1)) a ∙ ap (λ n. bit_of (bit_xor p n == 2 ^ 32 - 1)) b
    ∙ good_by_xor p q (number_bound xs (4 * (2 * i)) c.fits-slots) (number_bound xs (4 * (2 * i + 1)) c.fits-slots)
    ∙ ap (λ k. bit_of (is_good k)) (sym (kind_in xs i))

pub returns-clause-free : goal.returns-clause-free
returns-clause-free c i l =
    let xs = c.args.slots.now in
    let h = c.halves_of-halves.result in
    let p : ℕ = number_at xs (4 * (2 * i)) in
    let q : ℕ = number_at xs (4 * (2 * i + 1)) in
    let a : get_or h (2 * i) 0 ≡ p = c.halves_of-halves.ensures.lanes (2 * i) (omega arith) in
    let b : get_or h (2 * i + 1) 0 ≡ q = c.halves_of-halves.ensures.lanes (2 * i + 1) (omega arith) in
    c.ones_of-2.ensures i l ∙ ap (λ n. bit_of (n == 2 ^ 32 - 1)) (paired_lane bit_and h c.halves_of-halves.ensures.len i l)
    ∙ ap (λ n. bit_of (bit_and n (get_or h (2 * i + 1) 0) == 2 ^ 32 - 1)) a ∙ ap (λ n. bit_of (bit_and p n == 2 ^ 32 - 1)) b
    ∙ free_by_and p q (number_bound xs (4 * (2 * i)) c.fits-slots) (number_bound xs (4 * (2 * i + 1)) c.fits-slots)
    ∙ ap (λ k. bit_of (is_free k)) (sym (kind_in xs i))
