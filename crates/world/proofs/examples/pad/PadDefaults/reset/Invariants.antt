use Rattle.std.proofs.Common.{◌≡◌, ◌<◌, ◌≤◌, ℕ, length, slice_index}
use Rattle.layers.specs.Codes.{default_at}
use Rattle.world.specs.Pad.{pad}
use Rattle.world.proofs.examples.pad.PadDefaults.reset.Given as goal

abbrev pub invariant-loop-place : goal.invariant-loop-place
invariant-loop-place l = record {
  whole : length l.codes ≡ length l.fn.codes;
  inside : (place : ℕ) → l.start ≤ place → place < l.place → slice_index l.codes place ≡ default_at pad place;
  below : (place : ℕ) → place < l.start → slice_index l.codes place ≡ slice_index l.fn.codes place;
  above : (place : ℕ) → l.place ≤ place → slice_index l.codes place ≡ slice_index l.fn.codes place;
}
