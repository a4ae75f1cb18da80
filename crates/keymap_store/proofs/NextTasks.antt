-- What a compaction that waits is given next: the copy after those that it has made, or its commit header.
use Rattle.std.proofs.Common.{◌≡◌, ◌∙◌, ℕ, zero, suc, ◌+◌, ◌-◌, ◌/◌, ◌%◌, ◌^◌, ◌≤◌, ◌<◌, refl, sym, arith, true, List, [], ◌∷◌, ◌++◌, length, length-append, get_or, append_assoc, inl, inr}
use Rattle.std.proofs.lemmas.Bool.{cases_eq, cases_lt, lt-ltb, le-ltb}
use Rattle.std.proofs.lemmas.List.{append-nil, get_or_append_left}
use Rattle.std.proofs.Math.Seq.{get_or-append_seam, get_or-append_right}
use Rattle.layers.specs.declared.command.Command.{Command}
use Rattle.layers.specs.Codes.{keys, is_code, default_at, DefaultCodes}
use Rattle.layers.specs.Commands.{word_of, word_with}
use Rattle.layers.specs.Copies.{places, entry_at, set_key_at, copies_below, AreCopies, IsNextChanged, IsDefaultFrom}
use Rattle.layers.proofs.CommandWords.{is_code-lt}
use Rattle.layers.proofs.Copying.{copies_below-zero, copies_below-same, copies_below-other, copies_below-next, copies_below-default}
use Rattle.page_turnover.specs.Value.{Target, Wait, Copy, Seal}
use Rattle.page_turnover.specs.Turn.{copied}
use Rattle.keymap_store.specs.Next.{all_copies, next_task}

-- the copies below a place come first among those below a later one
pub record ComesFirst (xs ys : List ℕ) : Type 0 where
  pub rest : List ℕ
  pub is : ys ≡ xs ++ rest

-- the word after some that come first
pub record IsAfter (xs ys : List ℕ) (word : ℕ) : Type 0 where
  pub more : length xs < length ys
  pub is : get_or ys (length xs) 0 ≡ word

pub after_first : (xs ys : List ℕ) (word : ℕ) → ComesFirst (xs ++ word ∷ []) ys → IsAfter xs ys word
after_first xs ys word f =
    let s : ys ≡ xs ++ word ∷ f.rest = f.is ∙ append_assoc xs (word ∷ []) f.rest in
    record {
      more = rw s (simp length-append (omega arith));
      is = rw s (get_or-append_seam xs word f.rest 0);
    }

-- the words that set entries have 32 bits
set_key-small : (layer key code : ℕ) → layer < 4 → key < keys → is_code code ≡ true → word_with 1 layer key code < 2 ^ 32
set_key-small layer key code l k c = let s : code < 2 ^ 16 = is_code-lt code c in omega arith

past_end : (x i : ℕ) → x < 2 ^ 32 → get_or (x ∷ []) i 0 < 2 ^ 32
past_end x zero l = l
past_end x (suc i) l = omega arith

with_last : (xs : List ℕ) (x k : ℕ) → get_or xs k 0 < 2 ^ 32 → x < 2 ^ 32 → get_or (xs ++ x ∷ []) k 0 < 2 ^ 32
with_last xs x k h l =
    elim (cases_lt k (length xs)) [
      | inl b ↦ rw (get_or_append_left xs (x ∷ []) 0 k b) h
      | inr b ↦ rw (get_or-append_right xs (x ∷ []) k 0 b) (past_end x (k - length xs) l)
    ]

-- as many as all are all
nil_of : (xs rest : List ℕ) → length (xs ++ rest) ≤ length xs → rest ≡ []
nil_of xs [] l = refl
nil_of xs (x ∷ rest) l = let m : length xs + length (x ∷ rest) ≤ length xs = simp length-append at l in absurd (omega arith)

module _ (defaults : DefaultCodes) where
  comes_first : (entries : ℕ → ℕ → ℕ) (from n : ℕ) → ComesFirst (copies_below defaults entries from) (copies_below defaults entries (from + n))
  comes_first entries from zero = let e : from + 0 ≡ from = omega arith in record { rest = []; is = rw e (sym (append-nil (copies_below defaults entries from))) }
  comes_first entries from (suc n) =
      let e : from + suc n ≡ suc (from + n) = omega arith in
      let h = comes_first entries from n in
      elim (cases_eq (entry_at entries (from + n)) (default_at defaults (from + n))) [
        | inl s ↦ record { rest = h.rest; is = rw (e, copies_below-same defaults entries (from + n) s) h.is }
        | inr d ↦ record {
          rest = h.rest ++ word_of (set_key_at entries (from + n)) ∷ [];
          is = rw (e, copies_below-other defaults entries (from + n) d, h.is) (append_assoc (copies_below defaults entries from) h.rest (word_of (set_key_at entries (from + n)) ∷ []));
        }
      ]

  pub first_of_all : (entries : ℕ → ℕ → ℕ) (from : ℕ) → from ≤ places → ComesFirst (copies_below defaults entries from) (all_copies defaults entries)
  first_of_all entries from l =
      let e : from + (places - from) ≡ places = omega arith in
      rw e at (comes_first entries from (places - from))

  pub copy_after : (entries : ℕ → ℕ → ℕ) (from place : ℕ) (command : Command) (copies : List ℕ) → AreCopies defaults entries from copies → IsNextChanged defaults entries from place command → IsAfter copies (all_copies defaults entries) (word_of command)
  copy_after entries from place command copies a n =
      let f : ComesFirst (copies_below defaults entries (place + 1)) (all_copies defaults entries) = first_of_all entries (place + 1) (omega (arith, n.within)) in
      let g : ComesFirst (copies ++ word_of command ∷ []) (all_copies defaults entries) = rw (copies_below-next defaults entries from place command n, ← a.listed) at f in
      after_first copies (all_copies defaults entries) (word_of command) g

  pub no_copy_after : (entries : ℕ → ℕ → ℕ) (from : ℕ) (copies : List ℕ) → from ≤ places → AreCopies defaults entries from copies → IsDefaultFrom defaults entries from → all_copies defaults entries ≡ copies
  no_copy_after entries from copies l a d = copies_below-default defaults entries from places l d.each ∙ sym a.listed

  pub next_task-copy : (entries : ℕ → ℕ → ℕ) (target : Target) (copies : List ℕ) (word : ℕ) → length copies ≡ copied target → IsAfter copies (all_copies defaults entries) word → next_task defaults entries (Wait target) ≡ Copy target word
  next_task-copy entries target copies word n a =
      let l : copied target < length (all_copies defaults entries) = rw (← n) a.more in
      let i : get_or (all_copies defaults entries) (copied target) 0 ≡ word = rw (← n) a.is in
      rw (lt-ltb (copied target) (length (all_copies defaults entries)) l, i) refl

  pub next_task-seal : (entries : ℕ → ℕ → ℕ) (target : Target) → length (all_copies defaults entries) ≤ copied target → next_task defaults entries (Wait target) ≡ Seal target
  next_task-seal entries target l = rw (le-ltb (copied target) (length (all_copies defaults entries)) l) refl

  pub copies_small : (entries : ℕ → ℕ → ℕ) (place k : ℕ) → place ≤ places → ((other : ℕ) → other < place → is_code (entry_at entries other) ≡ true) → get_or (copies_below defaults entries place) k 0 < 2 ^ 32
  copies_small entries zero k l c = rw (copies_below-zero defaults entries) (omega arith)
  copies_small entries (suc place) k l c =
      let h = copies_small entries place k (omega arith) (λ other b. c other (omega arith)) in
      elim (cases_eq (entry_at entries place) (default_at defaults place)) [
        | inl e ↦ rw (copies_below-same defaults entries place e) h
        | inr d ↦ rw (copies_below-other defaults entries place d) (with_last (copies_below defaults entries place) (word_of (set_key_at entries place)) k h (set_key-small (place / keys) (place % keys) (entry_at entries place) (omega arith) (omega arith) (c place (omega arith))))
      ]

  pub all_of : (entries : ℕ → ℕ → ℕ) (from : ℕ) (copies : List ℕ) → from ≤ places → AreCopies defaults entries from copies → length (all_copies defaults entries) ≤ length copies → copies ≡ all_copies defaults entries
  all_of entries from copies l a n =
      let f : ComesFirst copies (all_copies defaults entries) = rw (← a.listed) at (first_of_all entries from l) in
      let m : length (copies ++ f.rest) ≤ length copies = rw (← f.is) n in
      sym (f.is ∙ rw (nil_of copies f.rest m) (append-nil copies))

  -- copies made of all
  pub copies_of_all : (entries : ℕ → ℕ → ℕ) (from : ℕ) (copies : List ℕ) → from ≤ places → ((other : ℕ) → other < places → is_code (entry_at entries other) ≡ true) → AreCopies defaults entries from copies → length (all_copies defaults entries) ≤ length copies → AreCopies defaults entries places copies
  copies_of_all entries from copies l c a n = record { listed = all_of entries from copies l a n; codes = c }
