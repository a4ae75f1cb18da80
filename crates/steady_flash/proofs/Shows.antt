-- What is shown after a start.
use Rattle.std.proofs.Common.{◌≡◌, ℕ, ◌<◌, Result, Ok, Err, IfOk, MatchResult, ap}
use Rattle.steady_flash.specs.Cells.{Written}
use Rattle.steady_flash.specs.Layout.{held_at}
use Rattle.steady_flash.specs.Claims.{IsSettledPage}
use Rattle.steady_flash.specs.Shown.{shown, bytes_of, image_of, IsSettled, IsReadImage}
use Rattle.steady_flash.specs.declared.layout.Layout.{Layout}

pub read_image : (old new : ℕ → ℕ → Written) (before layout : Layout) → layout.pages ≡ before.pages → ((p : ℕ) → p < before.pages → IsSettledPage old (held_at before.held p).page new layout p) → IsSettled new layout × IsReadImage old before (image_of new layout)
read_image old new before layout e h = (
  λ p s b t. (h p (rw (← e) b) s t).holds,
  record {
    read = shown new layout;
    is_of = ap (bytes_of (shown new layout)) e;
    reads = λ p s b t. (h p b s t).read;
  },
)

pub ok_from : {A E : Type 0} (r : Result A E) (P : A → Type 0) (Q : E → Type 0) (R : A → Type 0) → MatchResult r P Q → ((a : A) → P a → R a) → IfOk r R
ok_from (Ok a) P Q R m f = f a m
ok_from (Err e) P Q R m f = tt
