-- What one setting does, by the control that it means.
use Rattle.std.proofs.Common.{◌≡◌, ℕ, suc, ◌+◌, ◌<◌, List, length, get_or, arith, refl, sym, ◌∙◌, Some, None}
use Rattle.std.specs.Prelude.{Option}
use Rattle.std.proofs.lemmas.Option.{slice_get-get_or}
use Rattle.descriptor_parse.specs.Descriptor.{DescriptorValue}
use Rattle.report_write.specs.declared.kept.Kept.{Kept}
use Rattle.report_write.specs.declared.control.Control.{Control}
use Rattle.report_write.specs.declared.setting.Setting.{Setting}
use Rattle.report_write.specs.declared.setting.WriteError.{WriteError}
use Rattle.report_write.specs.Controls.{control_of}
use Rattle.report_write.specs.Settings.{control_refusal, refusal_at, IsControlSet, IsSet, IsAfter, IsRefused}

pub refused_by : (d : DescriptorValue) (kept : List Kept) (bytes marks : List ℕ) (number : ℕ) (setting : Setting) (found : Option Control)
    → control_of d kept setting.target ≡ found → refusal_at d kept bytes marks number setting ≡ control_refusal d bytes marks number setting.asked found
unfolding refusal_at
refused_by d kept bytes marks number setting found e = rw e refl

pub set_by : (d : DescriptorValue) (kept : List Kept) (setting : Setting) (old new marks_old marks_new : List ℕ) (found : Option Control)
    → control_of d kept setting.target ≡ found → IsControlSet d found setting.asked old new marks_old marks_new
    → IsSet d kept setting old new marks_old marks_new
unfolding IsSet
set_by d kept setting old new marks_old marks_new found e s = rw e s

-- ---- settings one after the other

-- the bytes and marks after the first settings, as long as they were
pub record AreAfter (d : DescriptorValue) (kept : List Kept) (settings : List Setting) (start clear : List ℕ) (number : ℕ) (bytes marks : List ℕ) : Type 0 where
  pub after : IsAfter d kept settings start clear number bytes marks
  pub long : length bytes ≡ length start
  pub beside : length marks ≡ length bytes

pub before_all : (d : DescriptorValue) (kept : List Kept) (settings : List Setting) (start clear : List ℕ) → length clear ≡ length start
    → AreAfter d kept settings start clear 0 start clear
before_all d kept settings start clear l = record { after = IsAfter.Begun; long = refl; beside = l }

pub after_next : (d : DescriptorValue) (kept : List Kept) (settings : List Setting) (start clear : List ℕ) (number : ℕ) (default : Setting)
    (old new marks_old marks_new : List ℕ) → AreAfter d kept settings start clear number old marks_old → number < length settings
    → refusal_at d kept old marks_old number (get_or settings number default) ≡ None
    → IsSet d kept (get_or settings number default) old new marks_old marks_new
    → length new ≡ length old → length marks_new ≡ length marks_old
    → AreAfter d kept settings start clear (number + 1) new marks_new
after_next d kept settings start clear number default old new marks_old marks_new a within taken s l m =
    let next : number + 1 ≡ suc number = omega arith in
    record {
      after = rw next (IsAfter.Next number (get_or settings number default) old new marks_old marks_new a.after (slice_get-get_or settings number default within) taken s);
      long = l ∙ a.long;
      beside = m ∙ a.beside ∙ sym l;
    }

pub refused_next : (d : DescriptorValue) (kept : List Kept) (settings : List Setting) (start clear : List ℕ) (number : ℕ) (default : Setting)
    (bytes marks : List ℕ) (e : WriteError) → AreAfter d kept settings start clear number bytes marks → number < length settings
    → refusal_at d kept bytes marks number (get_or settings number default) ≡ Some e
    → IsRefused d kept settings start clear e
refused_next d kept settings start clear number default bytes marks e a within refused = record {
  number = number;
  setting = get_or settings number default;
  bytes = bytes;
  marks = marks;
  before = a.after;
  here = slice_get-get_or settings number default within;
  refused = refused;
}
