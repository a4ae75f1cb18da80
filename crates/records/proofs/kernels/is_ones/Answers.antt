use Rattle.std.proofs.Common.{ℕ, ◌+◌, ◌<◌, ◌∙◌, sym, refl, arith, eqb, get_or, Fits, w8}
use Rattle.std.proofs.lemmas.Simd.{bitmask_splat, Each1-get_or}
use Rattle.records.proofs.Lanes.{mask_full, full_mask, eq_of_true, true_of_eq, and_four, by_quarters}
use Rattle.records.proofs.kernels.is_ones.Goals as goal

pub returns : goal.returns
returns c =
    let p = λ (x : ℕ). eqb x 255 in
    let q = c.quarters.result in
    let xs = c.args.lanes in
    let e = bitmask_splat w8 eqb q 16 255 c.quarters.ensures.len (omega arith) in
    let byte : (j : ℕ) → j < 64 → get_or xs j 0 < 256 = λ j h. let f : Fits w8 (get_or xs j 0) = Each1-get_or (λ x. Fits w8 x) xs j 0 (omega (arith, c.fits-lanes.0)) c.fits-lanes.1 in f.fits in (
      λ t m l. by_quarters xs (λ k b. and_four (get_or xs k 0) (get_or xs (16 + k) 0) (get_or xs (32 + k) 0) (get_or xs (48 + k) 0) (byte k (omega arith)) (byte (16 + k) (omega arith)) (byte (32 + k) (omega arith)) (byte (48 + k) (omega arith)) (sym (c.quarters.ensures.all k b) ∙ eq_of_true _ _ (mask_full 16 p q c.quarters.ensures.len (sym e ∙ eq_of_true _ _ t) k b))) m l,
      λ h. true_of_eq _ _ (e ∙ full_mask 16 p q c.quarters.ensures.len (λ k b. true_of_eq _ _ (c.quarters.ensures.all k b ∙ rw (h k (omega arith), h (16 + k) (omega arith), h (32 + k) (omega arith), h (48 + k) (omega arith)) refl))),
    )
