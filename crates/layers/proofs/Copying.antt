-- The words that set the entries that differ from the default, and what they come to.
use Rattle.std.proofs.Common.{◌≡◌, ◌≢◌, ℕ, zero, suc, ◌+◌, ◌-◌, ◌/◌, ◌%◌, ◌<◌, ◌≤◌, Bool, true, unwrap_or, List, [], ◌∷◌, ◌++◌, length, length-append, refl, arith, sym, ◌∙◌, inl, inr}
use Rattle.std.proofs.Math.Bool.{and-eq-true_iff}
use Rattle.std.proofs.lemmas.Bool.{cases_eq, cases_lt, eq-eqb, ne_eqb}
use Rattle.layers.specs.Codes.{layers, keys, is_code, all_below, default_code, default_at, DefaultCodes}
use Rattle.layers.specs.Commands.{IsCommand, word_of}
use Rattle.layers.specs.Entries.{entry_in, written}
use Rattle.layers.specs.Keymaps.{place_of}
use Rattle.layers.specs.Copies.{places, entry_at, set_key_at, copies_below, IsNextChanged, IsDefaultFrom, AreCopies}
use Rattle.layers.specs.declared.command.Command.{Command}
use Rattle.layers.proofs.CommandWords.{command_of_word}
use Rattle.layers.proofs.LastWriter.{entry-nil, entry-append_command, changed-one}

-- what all numbers below one pass, each of them passes
each_below : (test : ℕ → Bool) (n k : ℕ) → all_below test n ≡ true → k < n → test k ≡ true
unfolding all_below
each_below test zero k all l = absurd (omega arith)
each_below test (suc n) k all l =
    let both = (and-eq-true_iff (test n) (all_below test n)).0 all in
    elim (cases_eq k n) [
      | inl e ↦ rw e both.0
      | inr d ↦ each_below test n k both.1 (omega arith)
    ]

module _ (defaults : DefaultCodes) where
  pub copies_below-zero : (entries : ℕ → ℕ → ℕ) → copies_below defaults entries zero ≡ []
  unfolding copies_below
  copies_below-zero entries = refl

  pub copies_below-same : (entries : ℕ → ℕ → ℕ) (place : ℕ) → entry_at entries place ≡ default_at defaults place → copies_below defaults entries (suc place) ≡ copies_below defaults entries place
  unfolding copies_below
  copies_below-same entries place e = rw (eq-eqb (entry_at entries place) (default_at defaults place) e) refl

  pub copies_below-other : (entries : ℕ → ℕ → ℕ) (place : ℕ) → entry_at entries place ≢ default_at defaults place → copies_below defaults entries (suc place) ≡ copies_below defaults entries place ++ word_of (set_key_at entries place) ∷ []
  unfolding copies_below
  copies_below-other entries place e = rw (ne_eqb (entry_at entries place) (default_at defaults place) e) refl

  -- defaults add nothing
  copies_below-more : (entries : ℕ → ℕ → ℕ) (from n : ℕ) → ((other : ℕ) → from ≤ other → other < from + n → entry_at entries other ≡ default_at defaults other) → copies_below defaults entries (from + n) ≡ copies_below defaults entries from
  copies_below-more entries from zero h = let e : from + 0 ≡ from = omega arith in rw e refl
  copies_below-more entries from (suc n) h =
      let e : from + suc n ≡ suc (from + n) = omega arith in
      rw e (copies_below-same entries (from + n) (h (from + n) (omega arith) (omega arith)) ∙ copies_below-more entries from n (λ other a b. h other a (omega arith)))

  pub copies_below-default : (entries : ℕ → ℕ → ℕ) (from to : ℕ) → from ≤ to → ((other : ℕ) → from ≤ other → other < to → entry_at entries other ≡ default_at defaults other) → copies_below defaults entries to ≡ copies_below defaults entries from
  copies_below-default entries from to l h =
      let e : from + (to - from) ≡ to = omega arith in
      rw e at (copies_below-more entries from (to - from) (λ other a b. h other a (omega arith)))

  pub copies_below-next : (entries : ℕ → ℕ → ℕ) (from place : ℕ) (command : Command) → IsNextChanged defaults entries from place command → copies_below defaults entries (place + 1) ≡ copies_below defaults entries from ++ word_of command ∷ []
  copies_below-next entries from place command n =
      let e : place + 1 ≡ suc place = omega arith in
      rw (e, copies_below-other entries place n.differs, copies_below-default entries from place n.after n.first, n.sets) refl

  pub default_code-is_code : (layer key : ℕ) → key < keys → is_code (default_code defaults layer key) ≡ true
  default_code-is_code layer key k = each_below (λ key. is_code (defaults.at_first layer key)) keys key (defaults.are_codes layer) k

  default_at-is_code : (place : ℕ) → is_code (default_at defaults place) ≡ true
  default_at-is_code place = default_code-is_code (place / keys) (place % keys) (omega arith)

  pub AreCopies-start : (entries : ℕ → ℕ → ℕ) → AreCopies defaults entries 0 []
  AreCopies-start entries = record { listed = sym (copies_below-zero entries); codes = λ other l. absurd (omega arith) }

  -- below a place that follows the first one that differs
  pub AreCopies-next : (entries : ℕ → ℕ → ℕ) (from place : ℕ) (command : Command) (words : List ℕ) → AreCopies defaults entries from words → IsNextChanged defaults entries from place command → IsCommand command → AreCopies defaults entries (place + 1) (words ++ word_of command ∷ [])
  AreCopies-next entries from place command words a n is = record {
    listed = rw (copies_below-next entries from place command n, a.listed) refl;
    codes = λ other l. elim (cases_lt other from) [
      | inl before ↦ a.codes other before
      | inr after ↦ elim (cases_eq other place) [
        | inl e ↦ (let t : IsCommand (set_key_at entries place) = rw n.sets at is in rw e t.2)
        | inr d ↦ rw (n.first other after (omega arith)) (default_at-is_code other)
      ]
    ];
  }

  pub AreCopies-end : (entries : ℕ → ℕ → ℕ) (from : ℕ) (words : List ℕ) → from ≤ places → AreCopies defaults entries from words → IsDefaultFrom defaults entries from → AreCopies defaults entries places words
  AreCopies-end entries from words l a d = record {
    listed = a.listed ∙ sym (copies_below-default entries from places l d.each);
    codes = λ other m. elim (cases_lt other from) [
      | inl before ↦ a.codes other before
      | inr after ↦ rw (d.each other after m) (default_at-is_code other)
    ];
  }

  -- at most as many copies as places
  pub copies_below-length : (entries : ℕ → ℕ → ℕ) (place : ℕ) → length (copies_below defaults entries place) ≤ place
  copies_below-length entries zero = rw (copies_below-zero entries) (omega arith)
  copies_below-length entries (suc place) =
      let h : length (copies_below defaults entries place) ≤ place = copies_below-length entries place in
      elim (cases_eq (entry_at entries place) (default_at defaults place)) [
        | inl e ↦ rw (copies_below-same entries place e) (omega arith)
        | inr d ↦ rw (copies_below-other entries place d) (simp (length-append) (omega arith))
      ]

  -- the entries by the copies below a place
  record ByCopies (entries : ℕ → ℕ → ℕ) (place layer key : ℕ) : Type 0 where
    below : place_of layer key < place → entry_in defaults 2 (copies_below defaults entries place) layer key ≡ entries layer key
    above : place ≤ place_of layer key → entry_in defaults 2 (copies_below defaults entries place) layer key ≡ default_code defaults layer key

  by_copy : (entries : ℕ → ℕ → ℕ) (place layer key : ℕ) → place < places → IsCommand (set_key_at entries place) → layer < layers → key < keys → entry_at entries place ≢ default_at defaults place
      → entry_in defaults 2 (copies_below defaults entries (suc place)) layer key ≡ unwrap_or (written defaults (set_key_at entries place) layer key) (entry_in defaults 2 (copies_below defaults entries place) layer key)
  by_copy entries place layer key l is m k d =
      rw (copies_below-other entries place d)
      (entry-append_command defaults 2 (copies_below defaults entries place) (word_of (set_key_at entries place)) (set_key_at entries place) layer key (command_of_word (set_key_at entries place) is)
      ∙ changed-one defaults (entry_in defaults 2 (copies_below defaults entries place)) (set_key_at entries place) layer key)

  by_copies : (entries : ℕ → ℕ → ℕ) (place layer key : ℕ) → place ≤ places → ((other : ℕ) → other < place → is_code (entry_at entries other) ≡ true) → layer < layers → key < keys → ByCopies entries place layer key
  by_copies entries zero layer key l codes m k = record {
    below = λ b. absurd (omega arith);
    above = λ a. rw (copies_below-zero entries) (entry-nil defaults 2 layer key);
  }
  by_copies entries (suc place) layer key l codes m k =
      let h = by_copies entries place layer key (omega arith) (λ other b. codes other (omega arith)) m k in
      elim (cases_eq (entry_at entries place) (default_at defaults place)) [
        | inl e ↦ record {
          below = λ b. rw (copies_below-same entries place e) (elim (cases_lt (place_of layer key) place) [
            | inl before ↦ h.below before
            | inr after ↦ (let p : place ≡ place_of layer key = omega arith in
                let q : place / keys ≡ layer = omega arith in
                let r : place % keys ≡ key = omega arith in
                h.above after ∙ sym (rw (q, r) at e))
          ]);
          above = λ a. rw (copies_below-same entries place e) (h.above (omega arith));
        }
        | inr d ↦ (let is : IsCommand (set_key_at entries place) = (omega arith, omega arith, codes place (omega arith)) in
            let step = by_copy entries place layer key (omega arith) is m k d in
            record {
              below = λ b. step ∙ (elim (cases_lt (place_of layer key) place) [
                | inl before ↦ elim (cases_eq (place / keys) layer) [
                  | inr x ↦ rw (ne_eqb (place / keys) layer x) (h.below before)
                  | inl x ↦ (let y : place % keys ≡ key → ⊥ = λ z. omega arith in rw (eq-eqb (place / keys) layer x, ne_eqb (place % keys) key y) (h.below before))
                ]
                | inr after ↦ (let p : place ≡ place_of layer key = omega arith in
                    let q : place / keys ≡ layer = omega arith in
                    let r : place % keys ≡ key = omega arith in
                    rw (q, r, eq-eqb layer layer refl, eq-eqb key key refl) refl)
              ]);
              above = λ a. step ∙ (elim (cases_eq (place / keys) layer) [
                | inr x ↦ rw (ne_eqb (place / keys) layer x) (h.above (omega arith))
                | inl x ↦ (let y : place % keys ≡ key → ⊥ = λ z. omega arith in rw (eq-eqb (place / keys) layer x, ne_eqb (place % keys) key y) (h.above (omega arith)))
              ]);
            })
      ]

  -- the copies of all entries have these entries
  pub entry-copies : (entries : ℕ → ℕ → ℕ) (words : List ℕ) (layer key : ℕ) → AreCopies defaults entries places words → layer < layers → key < keys → entry_in defaults 2 words layer key ≡ entries layer key
  entry-copies entries words layer key a l k =
      let whole : places ≤ places = omega arith in
      let h = by_copies entries places layer key whole a.codes l k in
      rw a.listed (h.below (omega arith))

  pub AreCopies-length : (entries : ℕ → ℕ → ℕ) (place : ℕ) (words : List ℕ) → AreCopies defaults entries place words → length words ≤ place
  AreCopies-length entries place words a = rw a.listed (copies_below-length entries place)
