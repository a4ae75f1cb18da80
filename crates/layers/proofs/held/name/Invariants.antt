use Rattle.std.proofs.Common.{◌≡◌, ◌-◌, ◌≤◌, ℕ, false, slice_index_or}
use Rattle.layers.specs.Codes.{activates, names_key_usage, names_consumer}
use Rattle.layers.specs.Held.{any_below, passes}
use Rattle.layers.specs.representation.HeldRelation.{kept}
use Rattle.layers.specs.Usages.{has_key, has_consumer}
use Rattle.layers.proofs.held.name.Given as goal

-- what the codes of the keys below this one name
abbrev pub invariant-loop-key : goal.invariant-loop-key
invariant-loop-key l = record {
  within : l.from ≤ 96;
  keys : (usage : ℕ) → has_key l.usages usage ≡ any_below (λ key. passes (names_key_usage usage) (kept l.codes l.held key)) l.from;
  consumer : (index : ℕ) → has_consumer l.usages index ≡ any_below (λ key. passes (names_consumer index) (kept l.codes l.held key)) l.from;
  layers : (layer : ℕ) → slice_index_or l.active layer false ≡ any_below (λ key. passes (activates layer) (kept l.codes l.held key)) l.from;
}

abbrev pub decreases-loop-key : goal.decreases-loop-key
decreases-loop-key l = 96 - l.from
