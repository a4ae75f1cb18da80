-- A table of codes after a write.
use Rattle.std.proofs.Common.{◌≡◌, ◌≢◌, ℕ, ◌+◌, ◌*◌, ◌/◌, ◌%◌, ◌<◌, ◌≤◌, ◌⊎◌, ◌==◌, ◌-◌, not, Bool, true, false, MatchBool, Some, unwrap_or, List, [], ◌∷◌, ◌++◌, length, get_or, refl, arith, sym, subst, ◌∙◌, inl, inr}
use Rattle.std.proofs.Math.ListN.{set}
use Rattle.std.proofs.lemmas.Bool.{cases_eq, cases_lt, eq-eqb, ne_eqb}
use Rattle.std.proofs.lemmas.List.{get_or_default, get_or-set_same, get_or-set_other, length-set}
use Rattle.layers.specs.Codes.{layers, keys, transparent, default_code, default_at, DefaultCodes}
use Rattle.layers.specs.Standard.{standard}
use Rattle.layers.specs.Formats.{command_by_format}
use Rattle.layers.specs.Entries.{written, changed, entry_in, ChangesSome, ChangesNothing}
use Rattle.layers.specs.Keymaps.{place_of, code_at, HasEntries, Refines}
use Rattle.layers.specs.declared.command.Command.{Command}
use Rattle.layers.specs.declared.command.Command.TheVariants.{SetKey, ResetLayer, ResetAll}
use Rattle.layers.proofs.LastWriter.{changed-one, changed-same, entry-append_command, entry-nil}

pub has_same : (m n : ℕ → ℕ → ℕ) (keymap : List ℕ) → ((layer key : ℕ) → layer < layers → key < keys → m layer key ≡ n layer key) → HasEntries m keymap → HasEntries n keymap
has_same m n keymap e h = record { whole = h.whole; each = λ layer key l k. h.each layer key l k ∙ e layer key l k }

pub place_of-injective : (l k layer key : ℕ) → k < keys → key < keys → place_of layer key ≡ place_of l k → (layer ≡ l) × (key ≡ k)
place_of-injective l k layer key a b e = (omega arith, omega arith)

-- the places of a layer
pub in_layer : (l layer key : ℕ) → key < keys → (layer ≡ l → ⊥) → (place_of layer key < keys * l) ⊎ (keys * l + keys ≤ place_of layer key)
in_layer l layer key k d =
    elim (cases_lt layer l) [
      | inl below ↦ inl (omega arith)
      | inr above ↦ inr (omega arith)
    ]

-- the standard codes of the layers above the first
pub default_at-above : (place : ℕ) → keys ≤ place → default_at standard place ≡ transparent
default_at-above place k = rw (ne_eqb (place / keys) 0 (λ e. omega arith)) refl

module _ (defaults : DefaultCodes) where
  -- the entries that a command leaves in a table
  pub record Writes (command : Command) (old new : List ℕ) : Type 0 where
    pub same_length : length new ≡ length old
    pub each : (layer key : ℕ) → layer < layers → key < keys → code_at new layer key ≡ unwrap_or (written defaults command layer key) (code_at old layer key)

  pub has_changed : (entries : ℕ → ℕ → ℕ) (command : Command) (old new : List ℕ) → Writes command old new → HasEntries entries old → HasEntries (changed defaults entries (command ∷ [])) new
  has_changed entries command old new w h = record {
    whole = w.same_length ∙ h.whole;
    each = λ layer key l k. w.each layer key l k ∙ rw (h.each layer key l k) (sym (changed-one defaults entries command layer key));
  }

  pub refines_changed : (command : Command) (old new : List ℕ) (format : ℕ) (words : List ℕ) (word : ℕ) → Writes command old new → Refines defaults format words old → command_by_format format word ≡ Some command → Refines defaults format (words ++ word ∷ []) new
  refines_changed command old new format words word w h e =
      has_same (changed defaults (entry_in defaults format words) (command ∷ [])) (entry_in defaults format (words ++ word ∷ [])) new
      (λ layer key l k. sym (entry-append_command defaults format words word command layer key e))
      (has_changed (entry_in defaults format words) command old new w h)

  pub writes_key : (l k code : ℕ) (old : List ℕ) → l < layers → k < keys → length old ≡ layers * keys → Writes (SetKey l k code) old (set old (place_of l k) code)
  writes_key l k code old a b n = record {
    same_length = length-set old (place_of l k) code;
    each = λ layer key m j. elim (cases_eq l layer) [
      | inr d ↦ rw (ne_eqb l layer d) (get_or-set_other old (place_of l k) (place_of layer key) code 0 (λ e. d (omega arith)))
      | inl e ↦ elim (cases_eq k key) [
        | inr d ↦ rw (eq-eqb l layer e, ne_eqb k key d) (get_or-set_other old (place_of l k) (place_of layer key) code 0 (λ f. d (omega arith)))
        | inl f ↦ (let p : place_of l k < length old = omega arith in
            rw (eq-eqb l layer e, eq-eqb k key f, sym e, sym f) (get_or-set_same old (place_of l k) code 0 p))
      ]
    ];
  }

  pub default_at-place_of : (layer key : ℕ) → key < keys → default_at defaults (place_of layer key) ≡ default_code defaults layer key
  default_at-place_of layer key k =
      let q : place_of layer key / keys ≡ layer = omega arith in
      let r : place_of layer key % keys ≡ key = omega arith in
      rw (q, r) refl

  pub writes_layer : (l : ℕ) (old new : List ℕ) → length new ≡ length old
      → ((place : ℕ) → keys * l ≤ place → place < keys * l + keys → get_or new place 0 ≡ default_at defaults place)
      → ((place : ℕ) → place < keys * l → get_or new place 0 ≡ get_or old place 0)
      → ((place : ℕ) → keys * l + keys ≤ place → get_or new place 0 ≡ get_or old place 0)
      → Writes (ResetLayer l) old new
  writes_layer l old new n inside below above = record {
    same_length = n;
    each = λ layer key m j. elim (cases_eq l layer) [
      | inl e ↦ rw (eq-eqb l layer e) (inside (place_of layer key) (omega arith) (omega arith) ∙ default_at-place_of layer key j)
      | inr d ↦ rw (ne_eqb l layer d) (elim (in_layer l layer key j (λ e. d (sym e))) [
        | inl before ↦ below (place_of layer key) before
        | inr after ↦ above (place_of layer key) after
      ])
    ];
  }

  pub writes_all : (old new : List ℕ) → length new ≡ length old → ((place : ℕ) → place < 384 → get_or new place 0 ≡ default_at defaults place) → Writes ResetAll old new
  writes_all old new n inside = record {
    same_length = n;
    each = λ layer key m j. inside (place_of layer key) (omega arith) ∙ default_at-place_of layer key j;
  }

  pub has_defaults : (new : List ℕ) → length new ≡ 384 → ((place : ℕ) → place < 384 → get_or new place 0 ≡ default_at defaults place) → HasEntries (default_code defaults) new
  has_defaults new n inside = record {
    whole = n;
    each = λ layer key m j. inside (place_of layer key) (omega arith) ∙ default_at-place_of layer key j;
  }

  pub refines_at_first : (new : List ℕ) → HasEntries (default_code defaults) new → (format : ℕ) → Refines defaults format [] new
  refines_at_first new h format = has_same (default_code defaults) (entry_in defaults format []) new (λ layer key l k. sym (entry-nil defaults format layer key)) h

  -- what a command changes rests on the entries alone
  pub changes_by_entries : (entries : ℕ → ℕ → ℕ) (keymap : List ℕ) (command : Command) (answer : Bool) → HasEntries entries keymap
      → MatchBool answer (ChangesSome defaults (code_at keymap) command) (ChangesNothing defaults (code_at keymap) command)
      → MatchBool answer (ChangesSome defaults entries command) (ChangesNothing defaults entries command)
  changes_by_entries entries keymap command true h some =
      let same = h.each some.layer some.key some.in_layers some.in_keys in
      record {
        layer = some.layer;
        key = some.key;
        in_layers = some.in_layers;
        in_keys = some.in_keys;
        differs = λ e. some.differs (changed-same defaults (code_at keymap) entries (command ∷ []) some.layer some.key same ∙ e ∙ sym same);
      }
  changes_by_entries entries keymap command false h nothing = record {
    each = λ layer key l k.
        sym (changed-same defaults (code_at keymap) entries (command ∷ []) layer key (h.each layer key l k))
        ∙ nothing.each layer key l k
        ∙ h.each layer key l k;
  }

  -- whether a command changes a table, by the entries that it writes
  nothing_if : (old : List ℕ) (command : Command) → ((layer key : ℕ) → layer < layers → key < keys → unwrap_or (written defaults command layer key) (code_at old layer key) ≡ code_at old layer key) → ChangesNothing defaults (code_at old) command
  nothing_if old command h = record { each = λ layer key l k. changed-one defaults (code_at old) command layer key ∙ h layer key l k }

  some_if : (old : List ℕ) (command : Command) (layer key : ℕ) → layer < layers → key < keys → (unwrap_or (written defaults command layer key) (code_at old layer key) ≡ code_at old layer key → ⊥) → ChangesSome defaults (code_at old) command
  some_if old command layer key l k d = record {
    layer = layer;
    key = key;
    in_layers = l;
    in_keys = k;
    differs = λ e. d (sym (changed-one defaults (code_at old) command layer key) ∙ e);
  }

  pub key_changes : (old : List ℕ) (l k code place d : ℕ) (answer : Bool) → length old ≡ 384 → l < layers → k < keys → place ≡ place_of l k → answer ≡ not (get_or old place d == code)
      → MatchBool answer (ChangesSome defaults (code_at old) (SetKey l k code)) (ChangesNothing defaults (code_at old) (SetKey l k code))
  key_changes old l k code place d answer n a b p e =
      let here : get_or old place d ≡ code_at old l k = rw p (get_or_default old (place_of l k) d 0 (omega arith)) in
      elim (cases_eq (code_at old l k) code) [
        | inl same ↦ (let f : answer ≡ false = rw (e, here, eq-eqb (code_at old l k) code same) refl in
            rw f (nothing_if old (SetKey l k code) (λ layer key m j. elim (cases_eq l layer) [
              | inr x ↦ rw (ne_eqb l layer x) refl
              | inl x ↦ elim (cases_eq k key) [
                | inr y ↦ rw (eq-eqb l layer x, ne_eqb k key y) refl
                | inl y ↦ rw (eq-eqb l layer x, eq-eqb k key y, sym x, sym y) (sym same)
              ]
            ])))
        | inr other ↦ (let f : answer ≡ true = rw (e, here, ne_eqb (code_at old l k) code other) refl in
            rw f (some_if old (SetKey l k code) l k a b (λ x. other (sym (rw (eq-eqb l l refl, eq-eqb k k refl) at x)))))
      ]

  pub layer_changes : (old : List ℕ) (l : ℕ) (answer : Bool) → l < layers
      → MatchBool answer ((place : ℕ) × (keys * l ≤ place) × (place < keys * l + keys) × (get_or old place 0 ≢ default_at defaults place)) ((place : ℕ) → keys * l ≤ place → place < keys * l + keys → get_or old place 0 ≡ default_at defaults place)
      → MatchBool answer (ChangesSome defaults (code_at old) (ResetLayer l)) (ChangesNothing defaults (code_at old) (ResetLayer l))
  layer_changes old l true m (place, low, high, differs) =
      let q : place_of l (place - keys * l) ≡ place = omega arith in
      let k : place - keys * l < keys = omega arith in
      let P : ℕ → Type 0 = λ p. get_or old p 0 ≡ default_at defaults p in
      some_if old (ResetLayer l) l (place - keys * l) m k
      (λ x. differs (subst P q (sym (rw (eq-eqb l l refl) at x) ∙ sym (default_at-place_of l (place - keys * l) k))))
  layer_changes old l false m same =
      nothing_if old (ResetLayer l) (λ layer key a b. elim (cases_eq l layer) [
        | inr x ↦ rw (ne_eqb l layer x) refl
        | inl x ↦ rw (eq-eqb l layer x) (sym (same (place_of layer key) (omega arith) (omega arith) ∙ default_at-place_of layer key b))
      ])

  pub all_changes : (old : List ℕ) (answer : Bool)
      → MatchBool answer ((place : ℕ) × (0 ≤ place) × (place < 384) × (get_or old place 0 ≢ default_at defaults place)) ((place : ℕ) → 0 ≤ place → place < 384 → get_or old place 0 ≡ default_at defaults place)
      → MatchBool answer (ChangesSome defaults (code_at old) ResetAll) (ChangesNothing defaults (code_at old) ResetAll)
  all_changes old true (place, low, high, differs) =
      let q : place_of (place / keys) (place % keys) ≡ place = omega arith in
      let P : ℕ → Type 0 = λ p. get_or old p 0 ≡ default_code defaults (place / keys) (place % keys) in
      some_if old ResetAll (place / keys) (place % keys) (omega arith) (omega arith) (λ x. differs (subst P q (sym x)))
  all_changes old false same =
      nothing_if old ResetAll (λ layer key a b. sym (same (place_of layer key) (omega arith) (omega arith) ∙ default_at-place_of layer key b))
