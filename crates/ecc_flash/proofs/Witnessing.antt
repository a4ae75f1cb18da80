-- The units of a flash in memory.
use Rattle.std.proofs.Common.{◌≡◌, ℕ, Some, ◌+◌, ◌*◌, ◌<◌, ◌≤◌, cond, Bool, true, false, nat_lt, List, get_or, set, length, arith, ◌∙◌, ap, sym, subst, refl, inl, inr, get_or-set_same, get_or-set_other}
use Rattle.std.proofs.lemmas.Bool.{cases_lt, lt-ltb}
use Rattle.std.proofs.lemmas.Bool.Decides.{eqb_tells}
use Rattle.std.proofs.lemmas.List.{get_or-replicate, get_or_past}
use Rattle.std.proofs.lemmas.Nat.Bits.{bit_at-zero}
use borrow.Author.Tests.{ltb-true}
use Rattle.flash_model.proofs.ByMask.{byte_bits}
use Rattle.ecc_flash.specs.Reading.{blank}
use Rattle.ecc_flash.specs.Units.{IsEight, Lacks}
use Rattle.ecc_flash.specs.Model.{WriteUnit, MayBeErased, OnePageOfUnits}
use Rattle.ecc_flash.specs.Witness.{never, write_unit, unit_at}
use Rattle.ecc_flash.specs.declared.witness.HeldUnit.{HeldUnit}
use Rattle.ecc_flash.proofs.Readings.{blank_eight}

-- a unit is blank, whatever it was meant to hold
abbrev pub erased : HeldUnit → HeldUnit
erased held = record { meant = held.meant; is_blank = true }

-- an erase of the units of a page, as far as it has come
pub record SoFar (old : List HeldUnit) (page i : ℕ) (now : List HeldUnit) : Type 0 where
  pub done : (k : ℕ) → k < i → get_or now (1024 * page + k) never ≡ erased (get_or old (1024 * page + k) never)
  pub kept : (j : ℕ) → (1024 * page ≤ j → j < 1024 * page + i → ⊥) → get_or now j never ≡ get_or old j never

pub none_yet : (units : List HeldUnit) (page : ℕ) → SoFar units page 0 units
none_yet units page = record { done = λ k l. absurd (omega arith); kept = λ j out. refl }

pub one_more : (old now : List HeldUnit) (page i : ℕ) (unit : HeldUnit) → SoFar old page i now → 1024 * page + i < length now → unit ≡ erased (get_or now (1024 * page + i) never) → SoFar old page (i + 1) (set now (1024 * page + i) unit)
one_more old now page i unit s l e =
    let at : ℕ = 1024 * page + i in record {
      done = λ k m. elim (eqb_tells k i) [
        | inl same ↦ rw (same.1, get_or-set_same now at unit never l) (e ∙ ap erased (s.kept at (λ a b. omega arith)))
        | inr other ↦ rw (get_or-set_other now at (1024 * page + k) unit never (λ f. other.1 (omega arith))) (s.done k (omega (arith, other.1)))
      ];
      kept = λ j out. rw (get_or-set_other now at j unit never (λ f. out (omega arith) (omega arith))) (s.kept j (λ a b. out a (omega arith)));
    }

lacks_none : (meant : List ℕ) → IsEight meant → Lacks meant blank
unfolding blank
lacks_none meant e = record {
  byte = 0;
  bit = 0;
  others = λ k i apart. elim (cases_lt k 8) [
    | inl l ↦ rw (get_or-replicate {A = ℕ} 8 k 255 0 l) (byte_bits (get_or meant k 0) i (e.each k))
    | inr past ↦ rw (get_or_past meant k 0 (rw e.eight past)) (omega (arith, bit_at-zero i))
  ];
}

erased_by : (meant : List ℕ) (b : Bool) → MayBeErased (write_unit (record { meant = meant; is_blank = b })) (write_unit (record { meant = meant; is_blank = true }))
erased_by meant true = record { meant = refl; reads = λ r. r; never_mended = λ e. e; still_blank = λ e. e }
erased_by meant false = record { meant = refl; reads = λ r. (blank_eight, lacks_none meant r.0); never_mended = λ e. refl; still_blank = λ e. refl }

at_is : (units : List HeldUnit) (page unit : ℕ) → unit < 1024 → unit_at units page unit ≡ write_unit (get_or units (1024 * page + unit) never)
at_is units page unit l = ap (λ b. write_unit (cond b (get_or units (1024 * page + unit) never) never)) (lt-ltb unit 1024 l)

pub all_erased : (old new : List HeldUnit) (page : ℕ) → SoFar old page 1024 new → (u : ℕ) → u < 1024 → MayBeErased (unit_at old page u) (unit_at new page u)
all_erased old new page s u l =
    let was : HeldUnit = get_or old (1024 * page + u) never in
    subst (λ (x : WriteUnit). MayBeErased x (unit_at new page u)) (sym (at_is old page u l))
    (subst (λ (x : WriteUnit). MayBeErased (write_unit was) x) (sym (at_is new page u l ∙ ap write_unit (s.done u l))) (erased_by was.meant was.is_blank))

pub all_blank : (old new : List HeldUnit) (page : ℕ) → SoFar old page 1024 new → (u : ℕ) → u < 1024 → (unit_at new page u).reads ≡ Some blank
all_blank old new page s u l = ap (λ (x : WriteUnit). x.reads) (at_is new page u l ∙ ap write_unit (s.done u l))

same_if : (b : Bool) (x y : HeldUnit) → (b ≡ true → x ≡ y) → write_unit (cond b x never) ≡ write_unit (cond b y never)
same_if true x y h = ap write_unit (h refl)
same_if false x y h = refl

pub others_kept : (old new : List HeldUnit) (page : ℕ) → SoFar old page 1024 new → OnePageOfUnits (unit_at old) page (unit_at new)
others_kept old new page s p u apart =
    same_if (nat_lt u 1024) (get_or new (1024 * p + u) never) (get_or old (1024 * p + u) never)
    (λ t. let l : u < 1024 = ltb-true u 1024 t in s.kept (1024 * p + u) (λ a b. apart (omega arith)))
