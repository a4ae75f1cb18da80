-- A flash on which claims count.
use Rattle.std.proofs.Common.{◌≡◌, ℕ, zero, suc, ◌+◌, ◌*◌, ◌<◌, ◌≤◌, ◌^◌, ◌⊎◌, false, List, [], ◌∷◌, get_or, replicate, eqb, cond, arith, refl, inl, inr}
use Rattle.std.proofs.lemmas.Bool.Decides.{eqb_tells}
use Rattle.std.proofs.lemmas.List.Elements.{All-contains, All-cons, All-nil}
use Rattle.std.specs.List.{Contains}
use Rattle.steady_flash.specs.Cells.{Written, erased}
use Rattle.steady_flash.specs.Marked.{Size}
use Rattle.steady_flash.specs.Layout.{held_at, IsLaidOut}
use Rattle.steady_flash.specs.Claims.{IsClaim, IsBegun, Counts, IsClaimed}
use Rattle.steady_flash.specs.declared.layout.Layout.{Layout}
use Rattle.steady_flash.specs.Moves.{IsTorn}
use Rattle.steady_flash.specs.Sound.{zeros, IsClaimWhole, IsHeld, IsAllowed, IsQuiet, IsCalm, steady_at}
use Rattle.steady_flash.proofs.Cells.{torn_erased, marked_torn}
use Rattle.steady_flash.proofs.Claiming.{same_number, none_begun}
use Rattle.steady_flash.proofs.Soundness.{held_now, zeros_eight}

-- the claims of two pages, each with number 1
abbrev first : List ℕ
first = 1 ∷ 0 ∷ 0 ∷ 2 ∷ 253 ∷ 255 ∷ 255 ∷ 251 ∷ []

abbrev second : List ℕ
second = 1 ∷ 0 ∷ 32 ∷ 18 ∷ 253 ∷ 255 ∷ 191 ∷ 219 ∷ []

abbrev AllSmall : List ℕ → Type 0
AllSmall [] = Unit {0}
AllSmall (x ∷ xs) = (x < 256) × AllSmall xs

each_small : (xs : List ℕ) → AllSmall xs → (k : ℕ) → get_or xs k 0 < 256
each_small [] s k = omega arith
each_small (x ∷ xs) s zero = s.0
each_small (x ∷ xs) s (suc k) = each_small xs s.1 k

first_small : AllSmall first
first_small = (omega arith, (omega arith, (omega arith, (omega arith, (omega arith, (omega arith, (omega arith, (omega arith, tt))))))))

second_small : AllSmall second
second_small = (omega arith, (omega arith, (omega arith, (omega arith, (omega arith, (omega arith, (omega arith, (omega arith, tt))))))))

first_claims : IsClaim 2 0 0 1 first
first_claims = record { word = record { eight = record { eight = refl; each = each_small first first_small }; turned = refl }; says = refl; small = omega arith }

second_claims : IsClaim 2 1 1 1 second
second_claims = record { word = record { eight = record { eight = refl; each = each_small second second_small }; turned = refl }; says = refl; small = omega arith }

abbrev with_bytes : List ℕ → Written
with_bytes x = record { cells = record { least = x; most = x }; begun = x ∷ [] }

abbrev layout : Layout
layout = record {
  pages = 2;
  held = record { page = 0; index = 0; number = 1; is_opened = false } ∷ record { page = 1; index = 0; number = 1; is_opened = false } ∷ replicate 6 (record { page = 0; index = 0; number = 0; is_opened = false });
  spare = 2;
}

two : (P : ℕ → Type 0) → P 0 → P 1 → (p : ℕ) → p < 2 → P p
two P a b zero l = a
two P a b (suc zero) l = b
two P a b (suc (suc p)) l = absurd (omega arith)

abbrev size : Size
size = record { pages = 3; triples = 8 }

laid_out : IsLaidOut size layout
laid_out = record {
  placed = record {
    served = record { count = refl; least = omega arith; most = omega arith; few = omega arith; many = omega arith };
    eight = refl;
    page = two (λ p. (held_at layout.held p).page ≤ 2) (omega arith) (omega arith);
    index = two (λ p. (held_at layout.held p).index < 8) (omega arith) (omega arith);
    number = two (λ p. (held_at layout.held p).number < 2 ^ 21) (omega arith) (omega arith);
    spare = omega arith;
  };
  apart = λ p q a b. two (λ p. (held_at layout.held p).page ≡ (held_at layout.held q).page → p ≡ q)
      (two (λ q. 0 ≡ (held_at layout.held q).page → 0 ≡ q) (λ e. refl) (λ e. absurd (omega (arith, e))) q b)
      (two (λ q. 1 ≡ (held_at layout.held q).page → 1 ≡ q) (λ e. absurd (omega (arith, e))) (λ e. refl) q b) p a;
  free = two (λ p. (held_at layout.held p).page ≡ 2 → ⊥) (λ e. omega (arith, e)) (λ e. omega (arith, e));
}

abbrev marks : ℕ → ℕ → Written
marks q m = cond (eqb m 1) (cond (eqb q 0) (with_bytes first) (cond (eqb q 1) (with_bytes second) erased)) erased

only : (x y : List ℕ) → Contains (y ∷ []) x → x ≡ y
only x y c = All-contains (λ (b : List ℕ). b ≡ y) (y ∷ []) x (All-cons (λ (b : List ℕ). b ≡ y) y [] refl (All-nil (λ (b : List ℕ). b ≡ y))) c

which : (q j : ℕ) (x : List ℕ) → Contains (marks q (1 + 3 * j)).begun x → ((j ≡ 0) × (q ≡ 0) × (x ≡ first)) ⊎ ((j ≡ 0) × (q ≡ 1) × (x ≡ second))
which q j x c = elim (eqb_tells (1 + 3 * j) 1) [
  | inr other ↦ absurd (none_begun (marks q (1 + 3 * j)) x (rw other.0 refl) c)
  | inl claim ↦ elim (eqb_tells q 0) [
    | inl here ↦ inl (omega (arith, claim.1), here.1, only x first (rw (claim.0, here.0) at c))
    | inr apart ↦ elim (eqb_tells q 1) [
      | inl here ↦ inr (omega (arith, claim.1), here.1, only x second (rw (claim.0, apart.0, here.0) at c))
      | inr beside ↦ absurd (none_begun (marks q (1 + 3 * j)) x (rw (claim.0, apart.0, beside.0) refl) c)
    ]
  ]
]

begun_which : (q j p m : ℕ) → IsBegun marks 2 q j p m → ((j ≡ 0) × (q ≡ 0) × (p ≡ 0) × (m ≡ 1)) ⊎ ((j ≡ 0) × (q ≡ 1) × (p ≡ 1) × (m ≡ 1))
begun_which q j p m g = elim (which q j g.bytes g.begun) [
  | inl it ↦ (let same = same_number 2 0 p m 0 1 g.bytes first it.2 (rw it.1 at g.claims) first_claims in inl (it.0, it.1, same.0, same.1))
  | inr it ↦ (let same = same_number 2 1 p m 1 1 g.bytes second it.2 (rw it.1 at g.claims) second_claims in inr (it.0, it.1, same.0, same.1))
]

first_counts : Counts size marks 2 0 0 0 1
first_counts = record {
  some = omega arith;
  small = omega arith;
  firm = record { bytes = first; claims = first_claims; least = refl; most = refl };
  greatest = λ q j m b t g. elim (begun_which q j 0 m g) [
    | inl it ↦ omega (arith, it.3)
    | inr it ↦ omega (arith, it.3)
  ];
  alone = λ q j b t g. elim (begun_which q j 0 1 g) [
    | inl it ↦ (it.1, it.0)
    | inr it ↦ absurd (omega (arith, it.2))
  ];
}

second_counts : Counts size marks 2 1 0 1 1
second_counts = record {
  some = omega arith;
  small = omega arith;
  firm = record { bytes = second; claims = second_claims; least = refl; most = refl };
  greatest = λ q j m b t g. elim (begun_which q j 1 m g) [
    | inl it ↦ omega (arith, it.3)
    | inr it ↦ omega (arith, it.3)
  ];
  alone = λ q j b t g. elim (begun_which q j 1 1 g) [
    | inl it ↦ absurd (omega (arith, it.2))
    | inr it ↦ (it.1, it.0)
  ];
}

pub claimed : (layout : Layout) × (marks : ℕ → ℕ → Written) × IsClaimed (record { pages = 3; triples = 8 }) marks layout
claimed = (
  layout,
  marks,
  record {
    laid_out = laid_out;
    counts = two (λ p. Counts size marks 2 (held_at layout.held p).page (held_at layout.held p).index p (held_at layout.held p).number) first_counts second_counts;
  },
)

-- and on which no greater claim was begun
torn_marked : (bytes : List ℕ) → IsTorn bytes (with_bytes bytes)
torn_marked bytes = marked_torn bytes (with_bytes bytes) (record { takes = All-cons (λ (b : List ℕ). b ≡ bytes) bytes [] refl (All-nil (λ (b : List ℕ). b ≡ bytes)); least = refl; most = refl })

whole_mark : (bytes : List ℕ) (at page number : ℕ) → IsClaim 2 at page number bytes → IsClaimWhole (with_bytes bytes) 2 at page number
whole_mark bytes at page number c = record { bytes = bytes; claims = c; marked = record { takes = All-cons (λ (b : List ℕ). b ≡ bytes) bytes [] refl (All-nil (λ (b : List ℕ). b ≡ bytes)); least = refl; most = refl } }

other_marks : (q m : ℕ) → 1 < m → marks q m ≡ erased
other_marks q m l = elim (eqb_tells m 1) [
  | inl same ↦ absurd (omega (arith, same.1))
  | inr apart ↦ rw apart.0 refl
]

held_first : IsHeld size marks 2 0 (held_at layout.held 0)
held_first = held_now size marks 2 0 (held_at layout.held 0) (omega arith) (record { claim = inr (first, first_claims, torn_marked first); done = refl; about = torn_erased zeros zeros_eight; fresh = λ m l e. other_marks 0 m (omega arith) }) (whole_mark first 0 0 1 first_claims)

held_second : IsHeld size marks 2 1 (held_at layout.held 1)
held_second = held_now size marks 2 1 (held_at layout.held 1) (omega arith) (record { claim = inr (second, second_claims, torn_marked second); done = refl; about = torn_erased zeros zeros_eight; fresh = λ m l e. other_marks 1 m (omega arith) }) (whole_mark second 1 1 1 second_claims)

lower : (p q j m : ℕ) → p < 2 → IsBegun marks 2 q j p m → IsAllowed marks (steady_at layout) p q j m
lower p q j m b g = elim (begun_which q j p m g) [
  | inl it ↦ rw it.2 (inr (inl (it.1, it.0, it.3)))
  | inr it ↦ rw it.2 (inr (inl (it.1, it.0, it.3)))
]

pub calm : (layout : Layout) × (marks : ℕ → ℕ → Written) × IsCalm (record { pages = 3; triples = 8 }) marks layout
calm = (
  layout,
  marks,
  record {
    sound = record {
      laid_out = laid_out;
      held = two (λ p. IsHeld size marks 2 p (held_at layout.held p)) held_first held_second;
      begun = λ p q j m b d e g. lower p q j m b g;
      room = λ b. absurd (omega (arith, b));
      spare = λ b. absurd (omega (arith, b));
    };
    quiet = two (λ p. IsQuiet size marks 2 p (held_at layout.held p).number) (λ q j m d e g. first_counts.greatest q j m d e g) (λ q j m d e g. second_counts.greatest q j m d e g);
  },
)
