use Rattle.std.proofs.Common.{ℕ, length, map, ap, ◌∙◌, arith, eqb, w32, ◌<◌, ◌^◌, ◌≡◌}
use Rattle.std.proofs.lemmas.Simd.{bitmask_splat, mask_l-lt}
use Rattle.std.specs.Simd.Lanes.{mask_l}
use Rattle.std.proofs.lemmas.List.{length-map}
use Rattle.std.specs.Int.{bit_at}
use Rattle.records.proofs.Lanes.{lane_bit}
use Rattle.records.proofs.kernels.ones_of.Goals as goal

pub overflow_cast-result : goal.overflow_cast-result
overflow_cast-result c =
    let p = λ (x : ℕ). eqb x 4294967295 in
    let e : length (map p c.args.lanes) ≡ 8 = length-map c.args.lanes p ∙ c.fits-lanes.0 in
    let b : mask_l (map p c.args.lanes) < 2 ^ 8 = rw e at (mask_l-lt (map p c.args.lanes)) in
    record { fits = rw (bitmask_splat w32 eqb c.args.lanes 8 4294967295 c.fits-lanes.0 (omega arith)) b }

pub returns : goal.returns
returns c i l =
    let p = λ (x : ℕ). eqb x 4294967295 in
    ap (λ n. bit_at n i) (bitmask_splat w32 eqb c.args.lanes 8 4294967295 c.fits-lanes.0 (omega arith)) ∙ lane_bit p c.args.lanes i (omega (arith, c.fits-lanes.0))
