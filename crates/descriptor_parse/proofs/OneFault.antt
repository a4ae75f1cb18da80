-- A text has one first fault.
use Rattle.std.proofs.lemmas.Grind.{common_steps}
use Rattle.std.proofs.Common.{◌≡◌, ℕ, List, ap, sym, ◌∙◌, arith, inl, inr}
use Rattle.std.specs.Prelude.{◌==◌, if◌then◌else◌}
use Rattle.descriptor_parse.specs.declared.fault.ParseError.{ParseError}
use Rattle.descriptor_parse.specs.declared.fault.ParseFault.{ParseFault}
use Rattle.descriptor_parse.specs.declared.fault.ParseFault.TheVariants.{Truncated, Delimiter, PopEmpty, PushDeep, BadReportId, SizeTooLarge, CountTooLarge, EndWithoutCollection, CollectionDeep, UnpairedUsage, UsageInverted, LogicalInverted, TooManyFields, MixedIds, CollectionOpen, TooLong, Memory}
use Rattle.descriptor_parse.specs.Fault.{number_of}
use Rattle.descriptor_parse.specs.Faults.{IsFirstFault}

-- the fault with a number
fault_of : ℕ → ParseFault
fault_of n =
    if n == 1 then Truncated else (if n == 2 then Delimiter else (if n == 3 then PopEmpty else (if n == 4 then PushDeep else
    (if n == 5 then BadReportId else (if n == 6 then SizeTooLarge else (if n == 7 then CountTooLarge else (if n == 8 then EndWithoutCollection else
    (if n == 9 then CollectionDeep else (if n == 10 then UnpairedUsage else (if n == 11 then UsageInverted else (if n == 12 then LogicalInverted else
    (if n == 13 then TooManyFields else (if n == 14 then MixedIds else (if n == 15 then CollectionOpen else (if n == 16 then TooLong else Memory)))))))))))))))

back : (fault : ParseFault) → fault_of (number_of fault) ≡ fault
unfolding fault_of
back fault = grind (arith, common_steps)

same_fault : (a b : ParseFault) → number_of a ≡ number_of b → a ≡ b
same_fault a b e = sym (back a) ∙ ap fault_of e ∙ back b

same_error : (a b : ParseError) → a.fault ≡ b.fault → a.offset ≡ b.offset → a ≡ b
same_error a b f o =
    ap (λ (x : ParseFault). let e : ParseError = record { fault = x; offset = a.offset } in e) f
    ∙ ap (λ (n : ℕ). let e : ParseError = record { fault = b.fault; offset = n } in e) o

pub one_first : (text : List ℕ) (a b : ParseError) → IsFirstFault text a → IsFirstFault text b → a ≡ b
one_first text a b p q =
    elim (p.1 b.fault b.offset q.0) [
      | inl l ↦ (elim (q.1 a.fault a.offset p.0) [ inl m ↦ absurd (omega arith) | inr m ↦ absurd (omega (arith, m.0)) ])
      | inr l ↦ (elim (q.1 a.fault a.offset p.0) [
        | inl m ↦ absurd (omega (arith, l.0))
        | inr m ↦ same_error a b (same_fault a.fault b.fault (omega (arith, l.1, m.1))) l.0
      ])
    ]
