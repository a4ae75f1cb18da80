-- How many appends lie between two compactions.
use Rattle.std.proofs.Common.{◌≡◌, ◌∙◌, ℕ, zero, suc, ◌+◌, ◌-◌, ◌≤◌, ◌<◌, ◌⊎◌, refl, arith, List, Some, inl, inr}
use Rattle.std.proofs.lemmas.Bool.{cases_eq, cases_lt}
use Rattle.records.specs.declared.Slot.{Slot}
use Rattle.records.specs.declared.Slot.TheVariants.{Free, Good, Spoiled}
use Rattle.records.specs.Slots.{slot_of}
use Rattle.flash_model.specs.Image.{slot_at}
use Rattle.layers.specs.Codes.{DefaultCodes}
use Rattle.page_turnover.specs.Active.{active, format}
use Rattle.page_turnover.specs.Words.{IsTail, FreeFrom}
use Rattle.page_turnover.specs.Turn.{target_page, next_seq}
use Rattle.keymap_store.specs.Turnovers.{TurnsOver, Spares, Fills, Follows, begin, spare, fill}

free_or : (slot : Slot) → (slot ≡ Free) ⊎ (slot ≡ Free → ⊥)
free_or Free = inl refl
free_or (Good word) = inr (λ e. cc)
free_or Spoiled = inr (λ e. cc)

-- a page of which the slots from one on are Free has its tail there or before
record TailBy (image : List ℕ) (page from : ℕ) : Type 0 where
  tail : ℕ
  is_tail : IsTail image page tail
  by : tail ≤ from

tail_by : (image : List ℕ) (page n : ℕ) → n < 512 → FreeFrom image page (n + 1) → TailBy image page (n + 1)
tail_by image page zero l f = record { tail = 1; is_tail = record { low = omega arith; high = omega arith; free = f; used = λ a. absurd (omega arith) }; by = omega arith }
tail_by image page (suc n) l f =
    elim (free_or (slot_of (slot_at image page (suc n)))) [
      | inl e ↦ (let g : FreeFrom image page (n + 1) = λ s a b. elim (cases_eq s (suc n)) [
        | inl x ↦ rw x e
        | inr x ↦ f s (omega arith) b
      ] in
          let t = tail_by image page n (omega arith) g in
          record { tail = t.tail; is_tail = t.is_tail; by = omega (arith, t.by) })
      | inr d ↦ record {
        tail = suc n + 1;
        is_tail = record {
          low = omega arith;
          high = omega arith;
          free = f;
          used = λ a e. let same : suc n + 1 - 1 ≡ suc n = omega arith in d (rw same at e);
        };
        by = omega arith;
      }
    ]

-- the active page is of format 2, and its slots from one on are Free
record HasFree (image : List ℕ) (page seq from : ℕ) : Type 0 where
  is_active : active image ≡ Some (page, seq)
  current : format image ≡ Some 2
  free : FreeFrom image page from

spared : (image new : List ℕ) (page seq from : ℕ) → Spares image new → HasFree image page seq from → HasFree new page seq from
spared image new page seq from s h = record {
  is_active = s.active_is ∙ h.is_active;
  current = s.format_is ∙ h.current;
  free = λ t a b. rw (s.same page seq t h.is_active b) (h.free t a b);
}

filled : (image new : List ℕ) (page seq n : ℕ) → Fills image new → HasFree image page seq (n + 1) → HasFree new page seq (n + 1 + 1)
filled image new page seq n f h = record {
  is_active = f.active_is ∙ h.is_active;
  current = f.format_is ∙ h.current;
  free = λ t a b.
      let tail = tail_by image page n (omega arith) h.free in
      rw (f.same page tail.tail t (record { seq = seq; is_active = h.is_active; is_tail = tail.is_tail }) b (λ e. omega (arith, tail.by))) (h.free t (omega arith) b);
}

-- each append takes at most one of them
follows : (old : List ℕ) (n : ℕ) (new : List ℕ) (page seq from : ℕ) → Follows old n new → HasFree old page seq (from + 1) → HasFree new page seq (from + n + 1)
follows old zero new page seq from begin h = let e : from + 0 + 1 ≡ from + 1 = omega arith in rw e h
follows old n new page seq from (spare m image last before s) h = spared image new page seq (from + n + 1) s (follows old n image page seq from before h)
follows old (suc n) new page seq from (fill m image last before f) h =
    let e : from + suc n + 1 ≡ from + n + 1 + 1 = omega arith in
    rw e (filled image new page seq (from + n) f (follows old n image page seq from before h))

module _ (defaults : DefaultCodes) where
  pub between : (first old new last : List ℕ) (n : ℕ) → TurnsOver defaults first old → Follows old n new → TurnsOver defaults new last → 127 ≤ n
  between first old new last n a f b =
      let h = follows old n new (target_page first) (next_seq first) 384 f (record { is_active = a.active_is; current = a.format_is; free = a.free }) in
      elim (cases_lt n 127) [
        | inl l ↦ absurd (b.no_room (record { page = target_page first; seq = next_seq first; is_active = h.is_active; current = h.current; free = h.free 511 (omega arith) (omega arith) }))
        | inr m ↦ m
      ]
