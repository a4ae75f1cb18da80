-- Representation: a read, wherever its bytes are.
use Rattle.shapes.specs.Shapes.{Bytes}
use Rattle.std.specs.Prelude.{ℕ, ◌≡◌, ◌≤◌, ◌*◌, ◌%◌, List, length}
use Rattle.descriptor_build.specs.Served.{device_bytes, configuration_bytes, hid_bytes, report_bytes}
use Rattle.control_ep.specs.declared.data.Descriptor.{Descriptor}
use Rattle.control_ep.specs.declared.data.Descriptor.TheVariants.{Device, Configuration, Hid, Report}
use Rattle.control_ep.specs.declared.data.Source.{Source}
use Rattle.control_ep.specs.declared.data.Source.TheVariants.{Lent, Copied}

-- a read: its bytes, how many were asked for, and how many packets were sent
pub record Reading : Type 0 where
  pub bytes : Bytes
  pub asked : ℕ
  pub sent : ℕ

abbrev pub descriptor_bytes : Descriptor → Bytes
descriptor_bytes Device = device_bytes
descriptor_bytes Configuration = configuration_bytes
descriptor_bytes Hid = hid_bytes
descriptor_bytes Report = report_bytes

-- the words that its bytes lie in
abbrev pub words_in : Source → List ℕ → List ℕ
words_in (Lent words) copy = words.now
words_in Copied copy = copy

-- so many bytes lie in words, two to a packet
pub record Fits (words : List ℕ) (n : ℕ) : Type 0 where
  pub enough : n ≤ 4 * length words
  pub even : length words % 2 ≡ 0
