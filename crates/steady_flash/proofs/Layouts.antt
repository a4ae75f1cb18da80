-- A layout in which one page of the log is held elsewhere, or by another claim.
use Rattle.std.proofs.Common.{◌≡◌, ℕ, ◌<◌, ◌≤◌, ◌^◌, List, length, length-set, slice_set, arith, sym, ◌∙◌, inl, inr, false}
use Rattle.std.proofs.lemmas.Bool.Decides.{eqb_tells}
use Rattle.std.proofs.lemmas.List.{get_or-set_same, get_or-set_other}
use Rattle.steady_flash.specs.Marked.{Size}
use Rattle.steady_flash.specs.Layout.{held_at, IsPlaced, IsLaidOut}
use Rattle.steady_flash.specs.declared.layout.Held.{Held}
use Rattle.steady_flash.specs.declared.layout.Layout.{Layout}

abbrev none : Held
none = record { page = 0; index = 0; number = 0; is_opened = false }

pub at_set : (P : Held → Type 0) (held : List Held) (page p : ℕ) (x : Held) → page < length held → (p ≡ page → P x) → ((p ≡ page → ⊥) → P (held_at held p)) → P (held_at (slice_set held page x) p)
at_set P held page p x b here there = elim (eqb_tells p page) [
  | inl same ↦ rw (same.1, get_or-set_same {A = Held} held page x none b) (here same.1)
  | inr apart ↦ rw (get_or-set_other {A = Held} held page p x none apart.1) (there apart.1)
]

pub placed_set : (size : Size) (layout : Layout) (page spare : ℕ) (x : Held) → IsPlaced size layout → page < layout.pages → x.page ≤ layout.pages → x.index < size.triples → x.number < 2 ^ 21 → spare ≤ layout.pages
    → IsPlaced size (record { pages = layout.pages; held = slice_set layout.held page x; spare = spare })
placed_set size layout page spare x l b at index number free =
    let in_held : page < length layout.held = omega (arith, l.eight, l.served.most) in
    record {
      served = l.served;
      eight = length-set {A = Held} layout.held page x ∙ l.eight;
      page = λ p c. at_set (λ h. h.page ≤ layout.pages) layout.held page p x in_held (λ _. at) (λ _. l.page p c);
      index = λ p c. at_set (λ h. h.index < size.triples) layout.held page p x in_held (λ _. index) (λ _. l.index p c);
      number = λ p c. at_set (λ h. h.number < 2 ^ 21) layout.held page p x in_held (λ _. number) (λ _. l.number p c);
      spare = free;
    }

pub laid_set : (size : Size) (layout : Layout) (page spare : ℕ) (x : Held) → IsLaidOut size layout → page < layout.pages → x.page ≤ layout.pages → x.index < size.triples → x.number < 2 ^ 21 → spare ≤ layout.pages
    → ((p : ℕ) → p < layout.pages → (p ≡ page → ⊥) → (held_at layout.held p).page ≡ x.page → ⊥)
    → (x.page ≡ spare → ⊥)
    → ((p : ℕ) → p < layout.pages → (p ≡ page → ⊥) → (held_at layout.held p).page ≡ spare → ⊥)
    → IsLaidOut size (record { pages = layout.pages; held = slice_set layout.held page x; spare = spare })
laid_set size layout page spare x l b at index number free alone other others =
    let in_held : page < length layout.held = omega (arith, l.placed.eight, l.placed.served.most) in
    record {
      placed = placed_set size layout page spare x l.placed b at index number free;
      apart = λ p q c d. at_set (λ h. h.page ≡ (held_at (slice_set layout.held page x) q).page → p ≡ q) layout.held page p x in_held
          (λ same. at_set (λ h. x.page ≡ h.page → p ≡ q) layout.held page q x in_held (λ t e. same ∙ sym t) (λ n e. absurd (alone q d n (sym e))))
          (λ no. at_set (λ h. (held_at layout.held p).page ≡ h.page → p ≡ q) layout.held page q x in_held (λ t e. absurd (alone p c no e)) (λ n e. l.apart p q c d e));
      free = λ p c. at_set (λ h. h.page ≡ spare → ⊥) layout.held page p x in_held (λ _. other) (λ n. others p c n);
    }

-- the page stays, and its claim is another one
pub laid_bumped : (size : Size) (layout : Layout) (page : ℕ) (x : Held) → IsLaidOut size layout → page < layout.pages → x.page ≡ (held_at layout.held page).page → x.index < size.triples → x.number < 2 ^ 21
    → IsLaidOut size (record { pages = layout.pages; held = slice_set layout.held page x; spare = layout.spare })
laid_bumped size layout page x l b same index number =
    laid_set size layout page layout.spare x l b (rw same (l.placed.page page b)) index number l.placed.spare
    (λ p c n e. n (l.apart p page c b (e ∙ same)))
    (λ e. l.free page b (sym same ∙ e))
    (λ p c n. l.free p c)

-- the page moves to the spare one
pub laid_moved : (size : Size) (layout : Layout) (page : ℕ) (x : Held) → IsLaidOut size layout → page < layout.pages → x.page ≡ layout.spare → x.index < size.triples → x.number < 2 ^ 21
    → IsLaidOut size (record { pages = layout.pages; held = slice_set layout.held page x; spare = (held_at layout.held page).page })
laid_moved size layout page x l b same index number =
    laid_set size layout page (held_at layout.held page).page x l b (rw same l.placed.spare) index number (l.placed.page page b)
    (λ p c n e. l.free p c (e ∙ same))
    (λ e. l.free page b (sym e ∙ same))
    (λ p c n e. n (l.apart p page c b e))
