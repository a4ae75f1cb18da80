use Rattle.std.proofs.Common.{◌≡◌, ℕ, ◌+◌, ◌%◌, ◌<◌, ◌≤◌, Bool, true, false, ◌&&◌, Option, None, Some, List, get_or, replicate, bit_xor, arith, sym, ◌∙◌, subst, ap, inl, inr, zero, suc, refl}
use Rattle.std.specs.Int.{bit_at}
use Rattle.std.specs.Cmp.Lexicographic.{bytes_decides}
use Rattle.std.proofs.lemmas.Bool.Decides.{nat_tests}
use Rattle.std.proofs.lemmas.Nat.{xor_of_8}
use Rattle.std.proofs.lemmas.Nat.Bits.{bit_at-zero, bit_at_ones, bit_at_above, bit_at-lt}
use Rattle.std.proofs.lemmas.Bool.{cases_lt, and_parts}
use Rattle.std.proofs.lemmas.List.{get_or_past, get_or-replicate}
use Rattle.flash_model.specs.Torn.{Within}
use Rattle.flash_model.proofs.ByMask.{byte_bits}
use Rattle.ecc_flash.specs.Units.{IsEight, IsPair, IsCheckOf, Lacks}
use Rattle.ecc_flash.specs.Reading.{blank, spoiled, same, paired, is_word, check_of, slot_read}
use Rattle.ecc_flash.specs.Model.{WriteUnit, MayRead, MayBeErased}
use Rattle.ecc_flash.specs.Paired.{IsChecked, IsKept}
use Rattle.ecc_flash.proofs.Theorem.{one_word}

-- a word: its bytes, and that bit 31 is clear
pub word_is : (u : List ℕ) → is_word u ≡ true → (u ≡ paired (get_or u 0 0) (get_or u 1 0) (get_or u 2 0) (get_or u 3 0)) × (get_or u 3 0 < 128)
unfolding is_word
word_is u e =
    let h = and_parts _ _ e in
    ((bytes_decides _ _).0 h.0, grind (arith, nat_tests))

-- what the two units say, by cases
pub data ReadsAs (a b : Option (List ℕ)) : Type 0 where
  is_free : a ≡ Some blank → b ≡ Some blank → slot_read a b ≡ blank → ReadsAs a b
  is_good : (u : List ℕ) → a ≡ Some u → b ≡ Some (check_of u) → is_word u ≡ true → slot_read a b ≡ u → ReadsAs a b
  is_spoiled : slot_read a b ≡ spoiled → ReadsAs a b

by_tests : (u v : List ℕ) (f g w c : Bool) → same u blank ≡ f → same v blank ≡ g → is_word u ≡ w → same v (check_of u) ≡ c → ReadsAs (Some u) (Some v)
unfolding slot_read
by_tests u v true true w c ef eg ew ec = is_free (ap Some ((bytes_decides _ _).0 ef)) (ap Some ((bytes_decides _ _).0 eg)) (rw (ef, eg) refl)
by_tests u v true false true true ef eg ew ec = is_good u refl (ap Some ((bytes_decides _ _).0 ec)) ew (rw (ef, eg, ew, ec) refl)
by_tests u v false g true true ef eg ew ec = is_good u refl (ap Some ((bytes_decides _ _).0 ec)) ew (rw (ef, ew, ec) refl)
by_tests u v true false true false ef eg ew ec = is_spoiled (rw (ef, eg, ew, ec) refl)
by_tests u v true false false c ef eg ew ec = is_spoiled (rw (ef, eg, ew) refl)
by_tests u v false g true false ef eg ew ec = is_spoiled (rw (ef, ew, ec) refl)
by_tests u v false g false c ef eg ew ec = is_spoiled (rw (ef, ew) refl)

pub reads_as : (a b : Option (List ℕ)) → ReadsAs a b
unfolding slot_read
reads_as None b = is_spoiled refl
reads_as (Some u) None = is_spoiled refl
reads_as (Some u) (Some v) = by_tests u v _ _ _ _ refl refl refl refl

pub free_read : slot_read (Some blank) (Some blank) ≡ blank
unfolding slot_read blank
free_read = refl

-- a word is not blank
word_not_blank : is_word blank ≡ false
unfolding is_word blank paired
word_not_blank = refl

good_at : (u : List ℕ) (t : Bool) → same u blank ≡ t → (t ≡ true → ⊥) → is_word u ≡ true → same (check_of u) (check_of u) ≡ true → slot_read (Some u) (Some (check_of u)) ≡ u
unfolding slot_read
good_at u true s n e f = absurd (n refl)
good_at u false s n e f = rw (s, e, f) refl

pub not_blank : (u : List ℕ) → is_word u ≡ true → u ≡ blank → ⊥
not_blank u w e = let g : is_word blank ≡ true = subst (λ v. is_word v ≡ true) e w in cc (g, word_not_blank)

pub good_read : (u : List ℕ) → is_word u ≡ true → slot_read (Some u) (Some (check_of u)) ≡ u
good_read u e =
    good_at u (same u blank) refl (λ s. not_blank u e ((bytes_decides u blank).0 s)) e ((bytes_decides (check_of u) (check_of u)).1 refl)

below_four : (P : ℕ → Type 0) → P 0 → P 1 → P 2 → P 3 → (k : ℕ) → k < 4 → P k
below_four P a b c d zero l = a
below_four P a b c d (suc zero) l = b
below_four P a b c d (suc (suc zero)) l = c
below_four P a b c d (suc (suc (suc zero))) l = d
below_four P a b c d (suc (suc (suc (suc k)))) l = absurd (omega arith)

pub paired_eight : (a b c d : ℕ) → a < 256 → b < 256 → c < 256 → d < 256 → IsEight (paired a b c d)
unfolding paired
paired_eight a b c d la lb lc ld = record { eight = refl; each = each }
  where
    each : (k : ℕ) → get_or (paired a b c d) k 0 < 256
    each zero = la
    each (suc zero) = lb
    each (suc (suc zero)) = lc
    each (suc (suc (suc zero))) = ld
    each (suc (suc (suc (suc zero)))) = omega arith
    each (suc (suc (suc (suc (suc zero))))) = omega arith
    each (suc (suc (suc (suc (suc (suc zero)))))) = omega arith
    each (suc (suc (suc (suc (suc (suc (suc zero))))))) = omega arith
    each (suc (suc (suc (suc (suc (suc (suc (suc k)))))))) = omega arith

paired_pair : (a b c d : ℕ) → a < 256 → b < 256 → c < 256 → d < 256 → IsPair (paired a b c d)
unfolding paired
paired_pair a b c d la lb lc ld = record {
  eight = paired_eight a b c d la lb lc ld;
  pairs = below_four (λ k. get_or (paired a b c d) k 0 + get_or (paired a b c d) (k + 4) 0 ≡ 255) (omega arith) (omega arith) (omega arith) (omega arith);
}

-- a word is four bytes and their complements, and so is its check
pub word_pair : (u : List ℕ) → IsEight u → is_word u ≡ true → IsPair u
word_pair u e w = subst IsPair (sym (word_is u w).0) (paired_pair _ _ _ _ (e.each 0) (e.each 1) (e.each 2) (e.each 3))

pub check_pair : (u : List ℕ) → IsEight u → IsPair (check_of u)
unfolding check_of
check_pair u e = paired_pair _ _ _ _ (xor_of_8 _ _ (e.each 0) (e.each 3)) (xor_of_8 _ _ (e.each 1) (e.each 0)) (xor_of_8 _ _ (e.each 2) (e.each 1)) (xor_of_8 _ _ (e.each 3) (e.each 2))

check_check : (u : List ℕ) → IsCheckOf u (check_of u)
unfolding check_of paired
check_check u = below_four (λ k. get_or (check_of u) k 0 ≡ bit_xor (get_or u k 0) (get_or u ((k + 3) % 4) 0)) refl refl refl refl

-- both units of a slot that is kept read as a word: it is the word that was meant, in both
pub record IsMeant (first second : WriteUnit) (u : List ℕ) : Type 0 where
  pub word : u ≡ first.meant
  pub first_whole : first.reads ≡ Some first.meant
  pub second_whole : second.reads ≡ Some second.meant
  pub check : second.meant ≡ check_of first.meant
  pub eight : IsEight u

check_sum : (a b c d : ℕ) → (paired a b c d ≡ blank) → ⊥
unfolding paired blank
check_sum a b c d e = let f : get_or (paired a b c d) 0 0 + get_or (paired a b c d) 4 0 ≡ 510 = ap (λ v. get_or v 0 0 + get_or v 4 0) e in let g : get_or (paired a b c d) 0 0 ≡ 255 = ap (λ v. get_or v 0 0) e in omega (arith, f, g)

check_not_blank : (u : List ℕ) → check_of u ≡ blank → ⊥
unfolding check_of
check_not_blank u e = check_sum _ _ _ _ e

pub meant : (first second : WriteUnit) (u : List ℕ) → IsChecked first second → first.reads ≡ Some u → second.reads ≡ Some (check_of u) → is_word u ≡ true → IsMeant first second u
meant first second u c ea eb w =
    let ra : MayRead first.meant (Some u) = subst (MayRead first.meant) ea c.first_reads in
    let rb : MayRead second.meant (Some (check_of u)) = subst (MayRead second.meant) eb c.second_reads in
    let rc : Lacks (check_of first.meant) (check_of u) = subst (λ m. Lacks m (check_of u)) c.check rb.1 in
    let e : u ≡ first.meant = one_word first.meant (check_of first.meant) u (check_of u) (word_pair _ c.bytes c.word) (check_pair _ c.bytes) (check_check _) (word_pair u ra.0 w) (check_pair u ra.0) (check_check u) ra.1 rc in
    record {
      word = e;
      first_whole = ea ∙ ap Some e;
      second_whole = eb ∙ ap (λ v. Some (check_of v)) e ∙ ap Some (sym c.check);
      check = c.check;
      eight = ra.0;
    }

pub blank_eight : IsEight blank
unfolding blank
blank_eight = record { eight = refl; each = each }
  where
    each : (k : ℕ) → get_or blank k 0 < 256
    each k = elim (cases_lt k 8) [
      | inl b ↦ rw (get_or-replicate {A = ℕ} 8 k 255 0 b) (omega arith)
      | inr b ↦ rw (get_or_past {X = ℕ} (replicate {A = ℕ} 8 255) k 0 b) (omega arith)
    ]

pub spoiled_eight : IsEight spoiled
unfolding spoiled
spoiled_eight = record { eight = refl; each = each }
  where
    each : (k : ℕ) → get_or spoiled k 0 < 256
    each zero = omega arith
    each (suc zero) = omega arith
    each (suc (suc zero)) = omega arith
    each (suc (suc (suc zero))) = omega arith
    each (suc (suc (suc (suc zero)))) = omega arith
    each (suc (suc (suc (suc (suc zero))))) = omega arith
    each (suc (suc (suc (suc (suc (suc zero)))))) = omega arith
    each (suc (suc (suc (suc (suc (suc (suc zero))))))) = omega arith
    each (suc (suc (suc (suc (suc (suc (suc (suc k)))))))) = omega arith

pub some_is : (a b : List ℕ) → Some a ≡ Some b → a ≡ b
some_is a b e = cc

-- where a slot that is kept reads as a word, both of its units are meant as they read
pub kept_meant : (first second : WriteUnit) (u : List ℕ) → IsKept first second → first.reads ≡ Some u → second.reads ≡ Some (check_of u) → is_word u ≡ true → IsMeant first second u
kept_meant first second u k ea eb w =
    elim k [
      | inl free ↦ absurd (not_blank u w (some_is _ _ (sym ea ∙ free)))
      | inr rest ↦ elim rest [
        | inl free ↦ absurd (check_not_blank u (some_is _ _ (sym eb ∙ free)))
        | inr c ↦ meant first second u c ea eb w
      ]
    ]

-- a slot that is kept is eight bytes
pub kept_eight : (first second : WriteUnit) → IsKept first second → IsEight (slot_read first.reads second.reads)
kept_eight first second k =
    elim (reads_as first.reads second.reads) [
      | is_free a b e ↦ rw e blank_eight
      | is_good u a b w e ↦ rw e (kept_meant first second u k a b w).eight
      | is_spoiled e ↦ rw e spoiled_eight
    ]

-- spoiled and blank have each bit of a word of the log
low_bits : (x i : ℕ) → x < 128 → bit_at x i ≤ bit_at 127 i
low_bits x i l =
    elim (cases_lt i 7) [
      | inl b ↦ omega (arith, bit_at_ones 7 i b, bit_at-lt x i)
      | inr b ↦ omega (arith, bit_at_above x 7 i (omega arith) b)
    ]

pub within_blank : (u : List ℕ) → IsEight u → Within u blank
unfolding blank
within_blank u e = record {
  same_length = e.eight;
  bits = λ k i. elim (cases_lt k 8) [
    | inl b ↦ rw (get_or-replicate {A = ℕ} 8 k 255 0 b) (byte_bits _ i (e.each k))
    | inr b ↦ rw (get_or_past {X = ℕ} u k 0 (rw e.eight b)) (omega (arith, bit_at-zero i))
  ];
}

within_bytes : (u : List ℕ) (i : ℕ) → IsEight u → get_or u 3 0 < 128 → (k : ℕ) → bit_at (get_or u k 0) i ≤ bit_at (get_or spoiled k 0) i
unfolding spoiled
within_bytes u i e l zero = byte_bits _ i (e.each 0)
within_bytes u i e l (suc zero) = byte_bits _ i (e.each 1)
within_bytes u i e l (suc (suc zero)) = byte_bits _ i (e.each 2)
within_bytes u i e l (suc (suc (suc zero))) = low_bits _ i l
within_bytes u i e l (suc (suc (suc (suc zero)))) = byte_bits _ i (e.each 4)
within_bytes u i e l (suc (suc (suc (suc (suc zero))))) = byte_bits _ i (e.each 5)
within_bytes u i e l (suc (suc (suc (suc (suc (suc zero)))))) = byte_bits _ i (e.each 6)
within_bytes u i e l (suc (suc (suc (suc (suc (suc (suc zero))))))) = byte_bits _ i (e.each 7)
within_bytes u i e l (suc (suc (suc (suc (suc (suc (suc (suc k)))))))) = let past : get_or u (suc (suc (suc (suc (suc (suc (suc (suc k)))))))) 0 ≡ 0 = get_or_past {X = ℕ} u (suc (suc (suc (suc (suc (suc (suc (suc k)))))))) 0 (rw e.eight (omega arith)) in rw past (omega (arith, bit_at-zero i))

pub within_spoiled : (u : List ℕ) → IsEight u → get_or u 3 0 < 128 → Within u spoiled
unfolding spoiled
within_spoiled u e l = record { same_length = e.eight; bits = λ k i. within_bytes u i e l k }

pub within_self : (u : List ℕ) → Within u u
within_self u = record { same_length = refl; bits = λ k i. omega arith }

-- a torn erase of both units
pub erased_kept : (a b a' b' : WriteUnit) → IsKept a b → MayBeErased a a' → MayBeErased b b' → IsKept a' b'
erased_kept a b a' b' k ea eb =
    elim k [
      | inl free ↦ inl (ea.still_blank free)
      | inr rest ↦ elim rest [
        | inl free ↦ inr (inl (eb.still_blank free))
        | inr c ↦ inr (inr (record {
          bytes = rw ea.meant c.bytes;
          word = rw ea.meant c.word;
          check = rw (ea.meant, eb.meant) c.check;
          first_reads = rw ea.meant (ea.reads c.first_reads);
          second_reads = rw eb.meant (eb.reads c.second_reads);
        }))
      ]
    ]

-- where a torn erase leaves a word, it was there before
pub erased_good : (a b a' b' : WriteUnit) (u : List ℕ) → IsKept a' b' → MayBeErased a a' → MayBeErased b b' → a'.reads ≡ Some u → b'.reads ≡ Some (check_of u) → is_word u ≡ true → slot_read a.reads b.reads ≡ u
erased_good a b a' b' u k ea eb fa fb w =
    let m = kept_meant a' b' u k fa fb w in
    let first : a.reads ≡ Some a.meant = ea.never_mended (m.first_whole ∙ ap Some ea.meant) in
    let second : b.reads ≡ Some b.meant = eb.never_mended (m.second_whole ∙ ap Some eb.meant) in
    let is : a.meant ≡ u = sym ea.meant ∙ sym m.word in
    let check : b.meant ≡ check_of u = sym eb.meant ∙ m.check ∙ ap check_of (sym m.word) in
    rw (first, second, is, check) (good_read u w)

pub erased_slot : (a b a' b' : WriteUnit) → IsKept a b → MayBeErased a a' → MayBeErased b b' → Within (slot_read a.reads b.reads) (slot_read a'.reads b'.reads)
erased_slot a b a' b' k ea eb =
    let k' = erased_kept a b a' b' k ea eb in
    let e = kept_eight a b k in
    elim (reads_as a'.reads b'.reads) [
      | is_free _ _ f ↦ rw f (within_blank _ e)
      | is_good u fa fb w f ↦ rw (f, erased_good a b a' b' u k' ea eb fa fb w) (within_self u)
      | is_spoiled f ↦ rw f (elim (reads_as a.reads b.reads) [
        | is_free fa fb g ↦ (let is : slot_read a'.reads b'.reads ≡ blank = rw (ea.still_blank fa, eb.still_blank fb) free_read in rw (g, sym f ∙ is) (within_self blank))
        | is_good u fa fb w g ↦ rw g (within_spoiled u (kept_meant a b u k fa fb w).eight (word_is u w).1)
        | is_spoiled g ↦ rw g (within_self spoiled)
      ])
    ]

-- a slot reads Free where both units are blank
not_spoiled : spoiled ≡ blank → ⊥
unfolding spoiled blank
not_spoiled e = let f : get_or spoiled 3 0 ≡ get_or blank 3 0 = ap (λ v. get_or v 3 0) e in omega (arith, f)

pub free_units : (a b : Option (List ℕ)) → slot_read a b ≡ blank → (a ≡ Some blank) × (b ≡ Some blank)
free_units a b e = elim (reads_as a b) [
  | is_free fa fb _ ↦ (fa, fb)
  | is_good u _ _ w f ↦ absurd (not_blank u w (sym f ∙ e))
  | is_spoiled f ↦ absurd (not_spoiled (sym f ∙ e))
]

pub not_zeros : replicate {A = ℕ} 8 0 ≡ blank → ⊥
unfolding blank
not_zeros e = let f : 0 ≡ 255 = ap (λ v. get_or v 0 0) e in omega (arith, f)
