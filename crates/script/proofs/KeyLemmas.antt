-- Reading the keys of a scan, word by word.
use Rattle.std.proofs.lemmas.Grind.{common_steps}
use Rattle.std.proofs.Common.{arith}
use Rattle.std.proofs.Common.{◌≡◌, ◌==◌, ◌||◌, ℕ, ◌<◌, Bool, false, inl, inr, map, List, [], ◌∷◌, ◌++◌, refl, sym, ap, ◌∙◌, append_assoc, Bor}
use Rattle.std.proofs.lemmas.List.{map-append}
use Rattle.std.proofs.lemmas.List.Elements.{All-nil, All-cons, All-head, All-tail, All-append}
use Rattle.std.proofs.lemmas.List.Folds.{list_any-append}
use Rattle.std.specs.List.{All}
use Rattle.std.specs.Str.Parse.{digits_value}
use Rattle.debounce.specs.Scans.{has}
use Rattle.debounce.specs.declared.Scan.{Scan}
use Rattle.script.specs.Keys.{is_named}
use Rattle.script.specs.Numbers.{IsNumberBelow, WritesNumber}
use Rattle.script.specs.Statements.{FirstBad, key_kinds}
use Rattle.script.specs.declared.fault.LineFault.TheVariants.{BadNumber}

-- the first word that names no key gives the fault
pub first_bad_key : (before : List (List ℕ)) (word : List ℕ) (after : List (List ℕ)) → All (IsNumberBelow 96) before → ¬ (IsNumberBelow 96 word)
    → FirstBad (key_kinds (before ++ word ∷ after)) (before ++ word ∷ after) BadNumber
first_bad_key [] word after keys bad = inl (bad, refl)
first_bad_key (w ∷ ws) word after keys bad =
    inr (All-head (IsNumberBelow 96) w ws keys, first_bad_key ws word after (All-tail (IsNumberBelow 96) w ws keys) bad)

-- the words so far name the keys that the scan has, and these are left
pub record NamedSoFar (all before left : List (List ℕ)) (scan : Scan) : Type 0 where
  pub cut : all ≡ before ++ left
  pub keys : All (IsNumberBelow 96) before
  pub exactly : (key : ℕ) → key < 96 → has scan key ≡ is_named before key

pub named_none : (all : List (List ℕ)) (scan : Scan) → ((key : ℕ) → key < 96 → has scan key ≡ false) → NamedSoFar all [] all scan
named_none all scan none = record { cut = refl; keys = All-nil (IsNumberBelow 96); exactly = none }

or_swap : (x b : Bool) → (x || b) ≡ (b || (x || false))
or_swap x b = grind (arith, common_steps)

named_by : (before : List (List ℕ)) (word : List ℕ) (key : ℕ) → is_named (before ++ word ∷ []) key ≡ ((key == digits_value 10 word) || is_named before key)
named_by before word key = grind (arith, common_steps, list_any-append, or_swap)

-- one word more
pub named_more : (all : List (List ℕ)) (before : List (Bor (List ℕ))) (left after : List (List ℕ)) (word : Bor (List ℕ)) (scan next : Scan) (number : ℕ)
    → NamedSoFar all (map (λ x. x.now) before) left scan → left ≡ word.now ∷ after → WritesNumber word.now number → number < 96
    → ((key : ℕ) → key < 96 → has next key ≡ ((key == number) || has scan key))
    → NamedSoFar all (map (λ x. x.now) (before ++ word ∷ [])) after next
named_more all before left after word scan next number h step writes small with =
    let value : digits_value 10 word.now ≡ number = writes.2 in
    let one : IsNumberBelow 96 word.now = (writes.0, writes.1, rw value small) in
    rw (map-append (λ (x : Bor (List ℕ)). x.now) before (word ∷ [])) record {
      cut = h.cut ∙ rw step (sym (append_assoc (map (λ x. x.now) before) (word.now ∷ []) after));
      keys = All-append (IsNumberBelow 96) (map (λ x. x.now) before) (word.now ∷ []) h.keys (All-cons (IsNumberBelow 96) word.now [] one (All-nil (IsNumberBelow 96)));
      exactly = λ key l. with key l ∙ ap (λ b. (key == number) || b) (h.exactly key l)
          ∙ ap (λ n. (key == n) || is_named (map (λ x. x.now) before) key) (sym value) ∙ sym (named_by (map (λ x. x.now) before) word.now key);
    }

-- a word that names no key
pub named_bad : (all before left after : List (List ℕ)) (word : List ℕ) (scan : Scan) → NamedSoFar all before left scan → left ≡ word ∷ after
    → ¬ (IsNumberBelow 96 word) → FirstBad (key_kinds all) all BadNumber
named_bad all before left after word scan h step bad =
    let whole : all ≡ before ++ word ∷ after = h.cut ∙ ap (λ (xs : List (List ℕ)). before ++ xs) step in
    rw whole (first_bad_key before word after h.keys bad)
