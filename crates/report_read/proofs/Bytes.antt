-- The values of a field of whole bytes.
use Rattle.std.proofs.Common.{◌≡◌, ℕ, ◌+◌, ◌*◌, ◌<◌, ◌/◌, ◌%◌, ◌^◌, false, List, get_or, arith, refl, sym, ◌∙◌, ap, to_z, w64}
use Rattle.std.specs.Prelude.{pos, int_lt, slice_index}
use Rattle.std.proofs.lemmas.Int.{to_z_pos}
use Rattle.descriptor_parse.specs.declared.field.Field.{Field}
use Rattle.host_extract.specs.Found.{value_at}
use Rattle.host_extract.specs.Numbers.{number_at}
use Rattle.host_extract.proofs.NumberLemmas.{number-byte}
use Rattle.report_read.specs.declared.lane.Form.{Form}
use Rattle.report_read.specs.declared.lane.Form.TheVariants.{Byte}
use Rattle.report_read.specs.representation.Lanes.{IsForm}

are_bytes : (field : Field) (form : Form) → form ≡ Byte → IsForm field form → (field.size ≡ 8) × (field.bit % 8 ≡ 0) × (int_lt field.min (pos 0) ≡ false)
are_bytes field form e is = rw e at is

pub byte_is : (field : Field) (form : Form) (bytes : List ℕ) (place byte : ℕ) → form ≡ Byte → IsForm field form → ((k : ℕ) → get_or bytes k 0 < 2 ^ 8)
    → byte ≡ slice_index bytes (field.bit / 8 + place) → to_z w64 byte ≡ value_at field bytes place
byte_is field form bytes place byte e is fit here =
    let are = are_bytes field form e is in
    let size : field.size ≡ 8 = are.0 in
    let whole : field.bit % 8 ≡ 0 = are.1 in
    let sign : int_lt field.min (pos 0) ≡ false = are.2 in
    let starts : (field.bit + 8 * place) % 8 ≡ 0 = omega (arith, whole) in
    let at : (field.bit + 8 * place) / 8 ≡ field.bit / 8 + place = omega (arith, whole) in
    let read : number_at bytes (field.bit + 8 * place) 8 ≡ get_or bytes (field.bit / 8 + place) 0 =
    number-byte bytes (field.bit + 8 * place) 8 refl starts fit ∙ ap (λ k. get_or bytes k 0) at in
    let few : get_or bytes (field.bit / 8 + place) 0 < 2 ^ 8 = fit (field.bit / 8 + place) in
    rw here (to_z_pos w64 (get_or bytes (field.bit / 8 + place) 0) (omega (arith, few)) ∙ rw (sign, size) (ap pos (sym read)))
