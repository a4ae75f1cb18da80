use Rattle.std.proofs.Common.{◌≡◌, ℕ, suc, ◌+◌, ◌*◌, ◌≤◌, length, Bool, List, [], ◌∷◌, ◌++◌, append_assoc, arith, refl, sym, ◌∙◌, ap, inl, inr}
use Rattle.std.specs.Prelude.{All, filter, zip}
use Rattle.std.specs.List.{sum_by}
use Rattle.std.proofs.lemmas.List.Sums.{sum_by-cons}
use Rattle.std.proofs.lemmas.Bool.{cases_Bool}
use Rattle.std.proofs.lemmas.List.{append-nil}
use Rattle.descriptor_parse.specs.declared.field.Kind.{Kind}
use Rattle.descriptor_parse.specs.declared.field.Field.{Field}
use Rattle.descriptor_parse.specs.Descriptor.{DescriptorValue, usage_list}
use Rattle.descriptor_parse.specs.Readers.{fields_of, is_of_report}
use Rattle.descriptor_parse.specs.WellFormed.{FitsField, IsWellFormed}
use Rattle.host_extract.specs.declared.reading.Found.{Found}
use Rattle.host_extract.specs.representation.Fits.{FitsReading}
use Rattle.host_extract.specs.Found.{readings_of, found_in}

-- each field can be read
abbrev pub AllFit : List (Field × List (ℕ × ℕ)) → Type 0
AllFit [] = Unit {0}
AllFit (p ∷ ps) = FitsReading p.0 × AllFit ps

fits-reading : (d : DescriptorValue) (field : Field) → IsWellFormed d → FitsField d field → FitsReading field
fits-reading d field w f = record { size = f.size; bits = omega (arith, f.bits, w.bits_few field.kind field.id) }

fit-kept : (test : Field → Bool) (p : Field × List (ℕ × ℕ)) (ps : List (Field × List (ℕ × ℕ))) → FitsReading p.0 → AllFit (filter (λ q. test q.0) ps) → AllFit (filter (λ q. test q.0) (p ∷ ps))
fit-kept test p ps f rest = elim (cases_Bool (test p.0)) [
  | inl kept ↦ rw kept (f, rest)
  | inr dropped ↦ rw dropped rest
]

fit-zip : (test : Field → Bool) (fields : List Field) (ranges : List (List (ℕ × ℕ))) → All FitsReading fields → AllFit (filter (λ q. test q.0) (zip fields ranges))
fit-zip test [] ranges h = tt
fit-zip test (f ∷ fs) [] h = tt
fit-zip test (f ∷ fs) (r ∷ rs) h = fit-kept test (f, r) (zip fs rs) (h 0 f (omega arith)) (fit-zip test fs rs (λ k d l. h (suc k) d (omega arith)))

all-reading : (d : DescriptorValue) (fields : List Field) → IsWellFormed d → All (FitsField d) fields → All FitsReading fields
all-reading d fields w h k other l = fits-reading d _ w (h k other l)

pub fit-all : (d : DescriptorValue) (kind : Kind) (id : ℕ) → IsWellFormed d → AllFit (fields_of d kind id)
fit-all d kind id w = fit-zip (is_of_report kind id) d.fields d.ranges (all-reading d d.fields w w.fields)

-- ---- how many places there are

-- so many places of these fields
abbrev pub places_of : List (Field × List (ℕ × ℕ)) → ℕ
places_of ps = sum_by (λ p. p.0.count) ps

-- a field more
pub more-places : (p : Field × List (ℕ × ℕ)) (ps : List (Field × List (ℕ × ℕ))) → places_of (p ∷ ps) ≡ p.0.count + places_of ps
more-places p ps = sum_by-cons (λ q. q.0.count) p ps

few-zip : (d : DescriptorValue) (test : Field → Bool) (fields : List Field) (ranges : List (List (ℕ × ℕ))) → All (FitsField d) fields
    → places_of (filter (λ q. test q.0) (zip fields ranges)) ≤ 1024 * length fields
few-zip d test [] ranges h = omega arith
few-zip d test (f ∷ fs) [] h = omega arith
few-zip d test (f ∷ fs) (r ∷ rs) h =
    let rest = few-zip d test fs rs (λ k e l. h (suc k) e (omega arith)) in
    let one = (h 0 f (omega arith)).count in
    elim (cases_Bool (test f)) [
      | inl kept ↦ rw kept (let more = more-places (f, r) (filter (λ q. test q.0) (zip fs rs)) in omega (arith, rest, one, more))
      | inr dropped ↦ rw dropped (omega (arith, rest))
    ]

-- the fields of a descriptor have few places together
pub few-places : (d : DescriptorValue) (kind : Kind) (id : ℕ) → IsWellFormed d → places_of (fields_of d kind id) ≤ 1024 * 256
few-places d kind id w = omega (arith, few-zip d (is_of_report kind id) d.fields d.ranges w.fields, w.few)

pub none-left-over : (xs : List Found) (bytes : List ℕ) (all : List Found) → xs ++ found_in [] bytes ≡ all → xs ≡ all
unfolding found_in
none-left-over xs bytes all e = sym (append-nil xs) ∙ e

pub next-field : (p : Field × List (ℕ × ℕ)) (ps : List (Field × List (ℕ × ℕ))) (bytes : List ℕ) → found_in (p ∷ ps) bytes ≡ readings_of p.0 (usage_list p.1) bytes p.0.count ++ found_in ps bytes
unfolding found_in
next-field p ps bytes = refl

-- a field more was read
pub field-read : (xs ys all : List Found) (p : Field × List (ℕ × ℕ)) (ps : List (Field × List (ℕ × ℕ))) (bytes : List ℕ)
    → xs ++ found_in (p ∷ ps) bytes ≡ all → ys ≡ xs ++ readings_of p.0 (usage_list p.1) bytes p.0.count → ys ++ found_in ps bytes ≡ all
field-read xs ys all p ps bytes h e =
    ap (λ zs. zs ++ found_in ps bytes) e ∙ append_assoc xs (readings_of p.0 (usage_list p.1) bytes p.0.count) (found_in ps bytes)
    ∙ ap (λ zs. xs ++ zs) (sym (next-field p ps bytes)) ∙ h
