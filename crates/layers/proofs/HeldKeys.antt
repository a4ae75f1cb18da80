-- The codes of the held keys after one call more.
use Rattle.std.proofs.Common.{◌≡◌, ◌≢◌, ◌≤◌, ℕ, zero, suc, ◌+◌, ◌<◌, ◌==◌, ◌||◌, ◌&&◌, not, if◌then◌else◌, Bool, true, false, Option, Some, None, is_none, is_some, List, [], ◌∷◌, length, get_or, refl, arith, sym, ap, ◌∙◌, inl, inr}
use Rattle.std.proofs.Math.ListN.{set}
use Rattle.std.proofs.lemmas.Bool.{cases_Bool, or_cases, cases_eq, cases_lt, eq-eqb, ne_eqb}
use Rattle.std.proofs.lemmas.List.{get_or_default, get_or-set_same, get_or-set_other}
use Rattle.layers.specs.Codes.{keys, none, transparent, activates}
use Rattle.layers.specs.Keymaps.{code_at}
use Rattle.layers.specs.Held.{any_below, passes, any_has, is_active, counts, resolved, code, HeldCall, Press, Release}
use Rattle.layers.specs.representation.HeldRelation.{HeldValue, kept, with_names, HeldRefines, Puts}
use Rattle.layers.specs.Usages.{has_bit, IsNext, PassesNoneFrom}
use Rattle.layers.specs.Resolved.{SomeHas, IsHighest, IsTransparent}

pub any_below-zero : (test : ℕ → Bool) → any_below test 0 ≡ false
unfolding any_below
any_below-zero test = refl

pub any_below-more : (test : ℕ → Bool) (n : ℕ) → any_below test (n + 1) ≡ (test n || any_below test n)
unfolding any_below
any_below-more test n = let e : n + 1 ≡ suc n = omega arith in rw e refl

pub any_below-same : (f g : ℕ → Bool) (n : ℕ) → ((k : ℕ) → k < n → f k ≡ g k) → any_below f n ≡ any_below g n
unfolding any_below
any_below-same f g zero h = refl
any_below-same f g (suc n) h = rw (h n (omega arith), any_below-same f g n (λ k l. h k (omega arith))) refl

or_true : (b : Bool) → (b || true) ≡ true
or_true true = refl
or_true false = refl

pub any_below-true : (test : ℕ → Bool) (n k : ℕ) → k < n → test k ≡ true → any_below test n ≡ true
unfolding any_below
any_below-true test zero k l t = absurd (omega arith)
any_below-true test (suc n) k l t =
    elim (cases_eq k n) [
      | inl e ↦ rw (rw e at t) refl
      | inr d ↦ rw (any_below-true test n k (omega arith) t) (or_true (test n))
    ]

pub any_has-same : (f g : ℕ → Option ℕ) (test : ℕ → Bool) → ((key : ℕ) → key < keys → f key ≡ g key) → any_has f test ≡ any_has g test
any_has-same f g test h = any_below-same (λ key. passes test (f key)) (λ key. passes test (g key)) keys (λ key l. ap (λ (o : Option ℕ). passes test o) (h key l))

pub is_active-same : (f g : ℕ → Option ℕ) (layer : ℕ) → ((key : ℕ) → key < keys → f key ≡ g key) → is_active f layer ≡ is_active g layer
is_active-same f g layer h = ap (λ (b : Bool). (layer == 0) || b) (any_has-same f g (activates layer) h)

-- what a key resolves to rests on the codes of the keys that are there, and on the entries of the four layers
pub resolved-same : (entries : ℕ → ℕ → ℕ) (f g : ℕ → Option ℕ) (key : ℕ) → ((other : ℕ) → other < keys → f other ≡ g other) → resolved entries f key ≡ resolved entries g key
unfolding resolved
resolved-same entries f g key h =
    rw (is_active-same f g 3 h, is_active-same f g 2 h, is_active-same f g 1 h) refl

-- the search from the top by what is known of the layers above
pub resolved-found : (entries : ℕ → ℕ → ℕ) (codes : ℕ → Option ℕ) (key layer : ℕ) → layer < 4 → counts entries codes key layer ≡ true → ((above : ℕ) → layer < above → above < 4 → counts entries codes key above ≡ false) → resolved entries codes key ≡ entries layer key
unfolding resolved
resolved-found entries codes key zero l t h = rw (h 3 (omega arith) (omega arith), h 2 (omega arith) (omega arith), h 1 (omega arith) (omega arith), t) refl
resolved-found entries codes key (suc zero) l t h = rw (h 3 (omega arith) (omega arith), h 2 (omega arith) (omega arith), t) refl
resolved-found entries codes key (suc (suc zero)) l t h = rw (h 3 (omega arith) (omega arith), t) refl
resolved-found entries codes key (suc (suc (suc zero))) l t h = rw t refl
resolved-found entries codes key (suc (suc (suc (suc n)))) l t h = absurd (omega arith)

pub resolved-none : (entries : ℕ → ℕ → ℕ) (codes : ℕ → Option ℕ) (key : ℕ) → ((layer : ℕ) → layer < 4 → counts entries codes key layer ≡ false) → resolved entries codes key ≡ 0
unfolding resolved
resolved-none entries codes key h = rw (h 3 (omega arith), h 2 (omega arith), h 1 (omega arith), h 0 (omega arith)) refl

pub kept-clear : (codes held : List ℕ) (key : ℕ) → has_bit 32 held key ≡ false → kept codes held key ≡ None
unfolding kept
kept-clear codes held key e = rw e refl

pub kept-held : (codes held : List ℕ) (key : ℕ) → has_bit 32 held key ≡ true → kept codes held key ≡ Some (get_or codes key 0)
unfolding kept
kept-held codes held key e = rw e refl

pub kept-is_some : (codes held : List ℕ) (key : ℕ) → has_bit 32 held key ≡ is_some (kept codes held key)
unfolding kept
kept-is_some codes held key =
    elim (cases_Bool (has_bit 32 held key)) [
      | inl e ↦ rw e refl
      | inr e ↦ rw e refl
    ]

kept-same : (codes a b : List ℕ) (key : ℕ) → has_bit 32 a key ≡ has_bit 32 b key → kept codes a key ≡ kept codes b key
unfolding kept
kept-same codes a b key e = rw e refl

-- the code of a key that is held, and of one that is not
pub kept-some_is : (codes held : List ℕ) (key d : ℕ) → key < length codes → is_some (kept codes held key) ≡ true → kept codes held key ≡ Some (get_or codes key d)
kept-some_is codes held key d l e = kept-held codes held key (kept-is_some codes held key ∙ e) ∙ ap (λ (n : ℕ). Some n) (get_or_default codes key 0 d l)

pub kept-none_is : (codes held : List ℕ) (key : ℕ) → is_some (kept codes held key) ≡ false → kept codes held key ≡ None
kept-none_is codes held key e = kept-clear codes held key (kept-is_some codes held key ∙ e)

kept-other : (codes other_codes held : List ℕ) (key : ℕ) → get_or codes key 0 ≡ get_or other_codes key 0 → kept codes held key ≡ kept other_codes held key
unfolding kept
kept-other codes other_codes held key e = rw e refl

pub refines_new : (value : HeldValue) → ((key : ℕ) → has_bit 32 value.held key ≡ false) → HeldRefines [] value
unfolding code
refines_new value z = record { each = λ key l. kept-clear value.codes value.held key (z key) }

pub refines_named : (past : List HeldCall) (value : HeldValue) → HeldRefines past value → HeldRefines past (with_names value)
refines_named past value h = record { each = h.each }

pub refines_released : (past : List HeldCall) (codes held after : List ℕ) (old new : Bool) (key : ℕ)
    → ((other : ℕ) → has_bit 32 after other ≡ (not (key == other) && has_bit 32 held other))
    → HeldRefines past (record { codes = codes; held = held; named = old }) → HeldRefines (Release key ∷ past) (record { codes = codes; held = after; named = new })
unfolding code
refines_released past codes held after old new key r h = record {
  each = λ other m. elim (cases_eq key other) [
    | inl e ↦ rw (eq-eqb key other e) (kept-clear codes after other (r other ∙ rw (eq-eqb key other e) refl))
    | inr d ↦ rw (ne_eqb key other d) (kept-same codes after held other (r other ∙ rw (ne_eqb key other d) refl) ∙ h.each other m)
  ];
}

pub is_none-some : (o : Option ℕ) (b : Bool) → is_some o ≡ not b → is_none o ≡ b
is_none-some None true e = refl
is_none-some None false e = cc
is_none-some (Some x) true e = cc
is_none-some (Some x) false e = refl

pub refines_pressed_again : (past : List HeldCall) (value : HeldValue) (keymap : List ℕ) (key : ℕ) → key < keys → is_some (kept value.codes value.held key) ≡ true → HeldRefines past value → HeldRefines (Press keymap key ∷ past) value
unfolding code
refines_pressed_again past value keymap key l held h = record {
  each = λ other m. elim (cases_eq key other) [
    | inl e ↦ (let t : is_none (code past other) ≡ false = is_none-some (code past other) false (rw (← h.each other m, ← e) held) in
        rw (eq-eqb key other e, t) (h.each other m))
    | inr d ↦ rw (ne_eqb key other d) (h.each other m)
  ];
}

pub refines_put : (past : List HeldCall) (old new : HeldValue) (keymap : List ℕ) (key : ℕ) → key < keys → is_some (kept old.codes old.held key) ≡ false
    → Puts old new key (resolved (code_at keymap) (kept old.codes old.held) key) → HeldRefines past old → HeldRefines (Press keymap key ∷ past) new
unfolding code
refines_put past old new keymap key l free p h = record {
  each = λ other m. p.each other ∙ elim (cases_eq key other) [
    | inl f ↦ (let t : is_none (code past key) ≡ true = is_none-some (code past key) true (rw (← h.each key l) free) in
        rw (← f, eq-eqb key key refl, t)
        (ap (λ (c : ℕ). Some c) (resolved-same (code_at keymap) (kept old.codes old.held) (λ before. code past before) key h.each)))
    | inr d ↦ rw (ne_eqb key other d) (h.each other m)
  ];
}

-- a key that is put among those that are held, as its code and its bit
pub kept-put : (codes held after : List ℕ) (key is : ℕ) → key < length codes → ((other : ℕ) → has_bit 32 after other ≡ (key == other || has_bit 32 held other))
    → (other : ℕ) → kept (set codes key is) after other ≡ (if key == other then Some is else kept codes held other)
kept-put codes held after key is l b other =
    elim (cases_eq key other) [
      | inl e ↦
          rw (← e, eq-eqb key key refl)
          (kept-held (set codes key is) after key (b key ∙ rw (eq-eqb key key refl) refl) ∙ ap (λ (n : ℕ). Some n) (get_or-set_same codes key is 0 l))
      | inr d ↦
          rw (ne_eqb key other d)
          (kept-same (set codes key is) after held other (b other ∙ rw (ne_eqb key other d) refl) ∙ kept-other (set codes key is) codes held other (get_or-set_other codes key other is 0 (λ e. d (sym e))))
    ]

-- the keys from one number to another, none of which passes
any_below-skip : (test : ℕ → Bool) (from to : ℕ) → from ≤ to → ((k : ℕ) → from ≤ k → k < to → test k ≡ false) → any_below test to ≡ any_below test from
unfolding any_below
any_below-skip test from zero l h = let e : from ≡ 0 = omega arith in rw e refl
any_below-skip test from (suc n) l h =
    elim (cases_lt from (suc n)) [
      | inl m ↦ rw (h n (omega arith) (omega arith), any_below-skip test from n (omega arith) (λ k a b. h k a (omega arith))) refl
      | inr m ↦ let e : from ≡ suc n = omega arith in rw e refl
    ]

-- up to the next key that is held, and with it
pub any_below-next : (codes held : List ℕ) (test : ℕ → Bool) (from key d : ℕ) → key < length codes → IsNext (has_bit 32 held) from key
    → any_below (λ k. passes test (kept codes held k)) (key + 1) ≡ (test (get_or codes key d) || any_below (λ k. passes test (kept codes held k)) from)
any_below-next codes held test from key d l n =
    any_below-more (λ k. passes test (kept codes held k)) key
    ∙ rw (any_below-skip (λ k. passes test (kept codes held k)) from key n.after (λ k a b. rw (kept-clear codes held k (n.first k a b)) refl), kept-held codes held key n.is, get_or_default codes key 0 d l) refl

-- all keys, where none is held from one number on
pub any_below-rest : (codes held : List ℕ) (test : ℕ → Bool) (from : ℕ) → from ≤ keys → PassesNoneFrom (has_bit 32 held) from
    → any_has (kept codes held) test ≡ any_below (λ k. passes test (kept codes held k)) from
any_below-rest codes held test from l n =
    any_below-skip (λ k. passes test (kept codes held k)) from keys l (λ k a b. rw (kept-clear codes held k (n.each k a)) refl)

pub counts-true : (entries : ℕ → ℕ → ℕ) (codes : ℕ → Option ℕ) (key layer : ℕ) → is_active codes layer ≡ true → not (entries layer key == 1) ≡ true → counts entries codes key layer ≡ true
counts-true entries codes key layer a n = rw (a, n) refl

-- a layer above layer 0 that no code activates
pub counts-inactive : (entries : ℕ → ℕ → ℕ) (codes : ℕ → Option ℕ) (key layer : ℕ) → 0 < layer → any_has codes (activates layer) ≡ false → counts entries codes key layer ≡ false
counts-inactive entries codes key layer l e = rw (ne_eqb layer 0 (omega arith), e) refl

not_transparent : {P : Type 0} → (is : ℕ) → not (is == 1) ≡ true → is ≡ 1 → P
not_transparent is n e = let f : false ≡ true = rw e at n in cc

-- the search from the top, at the first layer that gives a code
pub resolved-here : (entries : ℕ → ℕ → ℕ) (codes : ℕ → Option ℕ) (key layer is : ℕ) → layer < 4
    → is ≡ (if is_active codes layer then entries layer key else transparent) → not (is == 1) ≡ true
    → ((above : ℕ) → layer < above → above < 4 → counts entries codes key above ≡ false) → is ≡ resolved entries codes key
resolved-here entries codes key layer is l i n h =
    elim (cases_Bool (is_active codes layer)) [
      | inl on ↦
          let e : is ≡ entries layer key = i ∙ rw on refl in
          e ∙ sym (resolved-found entries codes key layer l (counts-true entries codes key layer on (rw e at n)) h)
      | inr off ↦ not_transparent is n (i ∙ rw off refl)
    ]

-- the calls one by one
pub code-press_new : (past : List HeldCall) (keymap : List ℕ) (key : ℕ) → code past key ≡ None → code (Press keymap key ∷ past) key ≡ Some (resolved (code_at keymap) (code past) key)
unfolding code
code-press_new past keymap key e = rw (eq-eqb key key refl, e) refl

pub code-press_held : (past : List HeldCall) (keymap : List ℕ) (key other is : ℕ) → code past key ≡ Some is → code (Press keymap other ∷ past) key ≡ Some is
unfolding code
code-press_held past keymap key other is e =
    elim (cases_eq other key) [
      | inl same ↦ rw (eq-eqb other key same, e) refl
      | inr apart ↦ rw (ne_eqb other key apart) e
    ]

pub code-press_other : (past : List HeldCall) (keymap : List ℕ) (key other : ℕ) → key ≢ other → code (Press keymap other ∷ past) key ≡ code past key
unfolding code
code-press_other past keymap key other d = rw (ne_eqb other key (λ e. d (sym e))) refl

pub code-release_same : (past : List HeldCall) (key : ℕ) → code (Release key ∷ past) key ≡ None
unfolding code
code-release_same past key = rw (eq-eqb key key refl) refl

pub code-release_other : (past : List HeldCall) (key other : ℕ) → key ≢ other → code (Release other ∷ past) key ≡ code past key
unfolding code
code-release_other past key other d = rw (ne_eqb other key (λ e. d (sym e))) refl

-- a test that some key passes, as a fact
passes_is : (test : ℕ → Bool) (o : Option ℕ) → passes test o ≡ true → (code : ℕ) × (o ≡ Some code) × (test code ≡ true)
passes_is test None e = cc
passes_is test (Some code) e = (code, refl, e)

any_below-found : (codes : ℕ → Option ℕ) (test : ℕ → Bool) (n : ℕ) → n ≤ keys → any_below (λ key. passes test (codes key)) n ≡ true → SomeHas codes test
unfolding any_below
any_below-found codes test zero l e = cc
any_below-found codes test (suc n) l e =
    elim (or_cases (passes test (codes n)) (any_below (λ key. passes test (codes key)) n) e) [
      | inl here ↦ (let p = passes_is test (codes n) here in record {
        key = n;
        code = p.0;
        in_keys = omega arith;
        held = p.1;
        does = p.2;
      })
      | inr below ↦ any_below-found codes test n (omega arith) below
    ]

pub any_has-some : (codes : ℕ → Option ℕ) (test : ℕ → Bool) → any_has codes test ≡ true → SomeHas codes test
any_has-some codes test e = any_below-found codes test keys (omega arith) e

pub any_has-from : (codes : ℕ → Option ℕ) (test : ℕ → Bool) → SomeHas codes test → any_has codes test ≡ true
any_has-from codes test s = any_below-true (λ key. passes test (codes key)) keys s.key s.in_keys (rw s.held s.does)

counts-false : (entries : ℕ → ℕ → ℕ) (codes : ℕ → Option ℕ) (key layer : ℕ) → (is_active codes layer ≡ true → entries layer key ≡ transparent) → counts entries codes key layer ≡ false
counts-false entries codes key layer h =
    elim (cases_Bool (is_active codes layer)) [
      | inl on ↦ rw (on, h on) refl
      | inr off ↦ rw off refl
    ]

pub resolved-highest : (entries : ℕ → ℕ → ℕ) (codes : ℕ → Option ℕ) (key layer : ℕ) → IsHighest entries codes key layer → resolved entries codes key ≡ entries layer key
resolved-highest entries codes key layer h =
    resolved-found entries codes key layer h.in_layers
    (counts-true entries codes key layer h.is (rw (ne_eqb (entries layer key) transparent h.opaque_here) refl))
    (λ above l m. counts-false entries codes key above (h.above above l m))

pub resolved-transparent : (entries : ℕ → ℕ → ℕ) (codes : ℕ → Option ℕ) (key : ℕ) → IsTransparent entries codes key → resolved entries codes key ≡ none
resolved-transparent entries codes key t = resolved-none entries codes key (λ layer l. counts-false entries codes key layer (t.each layer l))
