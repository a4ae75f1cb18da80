use Rattle.std.proofs.Common.{◌≡◌, ℕ, ◌+◌, ◌<◌, ◌≤◌, List, length, take, true, false, ap, arith, slice_index_or, Result, Ok, Err, IsOk, IsErr}
use Rattle.std.proofs.lemmas.List.Folds.{length-flat_map-take}
use Rattle.descriptor_build.specs.Items.{item_bytes, descriptor_bytes}
use Rattle.descriptor_build.specs.declared.ReportSpec.{ReportSpec}
use Rattle.descriptor_build.proofs.build.Goals as goal

not_ok : {T E : Type 0} (r : Result T E) → IsErr r → IsOk r → ⊥
not_ok (Ok x) e o = cc
not_ok (Err y) e o = cc

-- an item without room is one of a list without room
too_long : (specs : List ReportSpec) (i : ℕ) (d : ReportSpec) (built : List ℕ) → i < length specs → built ≡ descriptor_bytes (take i specs)
    → (length built + length (item_bytes (slice_index_or specs i d)) ≤ 256 → false ≡ true) → length (descriptor_bytes specs) ≤ 256 → ⊥
too_long specs i d built l e full fits =
    let same = ap length e in
    let room : length built + length (item_bytes (slice_index_or specs i d)) ≤ 256 = omega (arith, length-flat_map-take item_bytes specs i d l, same) in
    let no : false ≡ true = full room in
    cc

pub returns-in_err-push_item-clause-fits : goal.returns-in_err-push_item-clause-fits
returns-in_err-push_item-clause-fits c = (
  λ ok. absurd (not_ok _ c.from_residual.ensures.0 ok),
  λ fits. absurd (too_long c.args.specs.now c.loop-spec.spec-index _ c.loop-spec.bytes.items c.loop-spec-test.true c.loop-spec.invariant.built c.in_err-push_item.ensures.room.1 fits),
)
