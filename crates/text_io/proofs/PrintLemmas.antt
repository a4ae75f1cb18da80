-- Printing to a writer.
use Rattle.std.proofs.Common.{◌≡◌, ℕ, List, Option, None, Some, IfSome}
use Rattle.std.specs.Fmt.{WritesText}
use Rattle.std.specs.Io.KnownBytes.{Appends}
use Rattle.std.proofs.KnownBytes.{Appends-of_writes}

module _ {W N : Type 0} (name : W → N) (contents : W → Option (List ℕ)) where
  -- calls that each keep the writer and append what they are given
  abbrev pub Gives : W → List ℕ → W → Type 0
  Gives s bs t = (name t ≡ name s) × Appends (contents s) (contents t) bs

  -- a text that was written was appended
  pub appends-of_text : (w v : W) (text : Option (List ℕ)) → WritesText Gives w text v → IfSome text (Appends (contents w) (contents v))
  appends-of_text w v None writes = tt
  appends-of_text w v (Some bs) writes = (Appends-of_writes name contents w bs v writes).1

  -- to the same writer
  pub keeps-of_text : (w v : W) (text : Option (List ℕ)) → WritesText Gives w text v → IfSome text (λ bs. name v ≡ name w)
  keeps-of_text w v None writes = tt
  keeps-of_text w v (Some bs) writes = (Appends-of_writes name contents w bs v writes).0
