-- Trusted: why a script is not read, and what comes of reading an image.
use Rattle.shapes.specs.Shapes.{Bytes}
use Rattle.std.specs.Prelude.{ℕ, Option, IfSome, ⊤}
use Rattle.text_io.specs.declared.fault.ReadError.{ReadError}
use Rattle.text_io.specs.declared.fault.ReadError.TheVariants as read
use Rattle.flash_model.specs.Image.{IsImage}
use Rattle.kbsim.specs.declared.fault.RunError.{RunError}
use Rattle.kbsim.specs.declared.fault.RunError.TheVariants as error

-- a script that is not read is not run
abbrev pub unread : ReadError → RunError
unread read.TooLong = error.TooLong
unread read.Input = error.Input
unread read.Memory = error.Memory

-- the length of the largest image in bytes: 8 pages
abbrev pub largest : ℕ
largest = 32768

-- why there is no flash of an image, where its bytes are known
abbrev pub IsImageFault : Option Bytes → RunError → Type 0
IsImageFault left error.Image = IfSome left (λ image. IsImage image → ⊥)
IsImageFault left error.Input = ⊤
IsImageFault left error.Memory = ⊤
IsImageFault left _ = ⊥
