use Rattle.std.proofs.Common.{◌≡◌, ℕ, Bool, None}
use Rattle.std.specs.List.Sorted.{IsStrictlyIncreasing}
use Rattle.descriptor_parse.specs.Descriptor.{DescriptorValue, Describes}
use Rattle.descriptor_parse.specs.Faults.{all_items}
use Rattle.host_extract.specs.Found.{found}
use Rattle.host_extract.specs.Pressed.{ArePressed}
use Rattle.host_extract.specs.Refusals.{refusal}
use Rattle.reports.specs.declared.Input.{Input}
use Rattle.reports.specs.declared.Input.TheVariants.{Boot, One, Two}
use Rattle.reports.specs.Wanted.{wanted}
use Rattle.world.specs.Texts.{text_of}
use Rattle.world.specs.Usages.{wanted_usages}
use Rattle.world.proofs.Bitmap.{wanted-rising, bitmap-read}
use Rattle.world.proofs.BootRead.{boot-rising, boot-read}
use Rattle.world.proofs.ConsumerRead.{consumer-rising, consumer-read}
use Rattle.world.proofs.Taken.{bitmap-taken, boot-taken, consumer-taken}

pub all-read : (keys consumer : ℕ → Bool) (input : Input) (d : DescriptorValue) → Describes (all_items (text_of input)) d
    → ArePressed (found d (wanted keys consumer input)) (wanted_usages keys consumer input)
all-read keys consumer Boot d h = boot-read keys d h
all-read keys consumer One d h = bitmap-read keys d h
all-read keys consumer Two d h = consumer-read consumer d h

pub all-taken : (keys consumer : ℕ → Bool) (input : Input) (d : DescriptorValue) → Describes (all_items (text_of input)) d
    → refusal d (wanted keys consumer input) ≡ None
all-taken keys consumer Boot d h = boot-taken keys d h
all-taken keys consumer One d h = bitmap-taken keys d h
all-taken keys consumer Two d h = consumer-taken consumer d h

-- the wanted usages rise, each once
pub usages-rising : (keys consumer : ℕ → Bool) (input : Input) → IsStrictlyIncreasing (wanted_usages keys consumer input)
usages-rising keys consumer Boot = boot-rising keys
usages-rising keys consumer One = wanted-rising keys
usages-rising keys consumer Two = consumer-rising consumer
