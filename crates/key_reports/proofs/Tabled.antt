-- A keymap is the table of its entries.
use Rattle.std.proofs.Common.{◌≡◌, ℕ, ◌/◌, ◌%◌, ◌<◌, Bool, true, false, if◌then◌else◌, Option, Some, None, List, get_or, map, refl, arith, sym, ◌∙◌}
use Rattle.std.specs.List.{range_with_len}
use Rattle.std.proofs.lemmas.Grind.{same_number_lists}
use Rattle.std.proofs.lemmas.List.FromFn.{length-map-range_with_len, get_or-map-range_with_len}
use Rattle.layers.specs.Codes.{keys}
use Rattle.layers.specs.Copies.{entry_at}
use Rattle.layers.specs.Held.{resolved, code_on, counts}
use Rattle.layers.specs.Keymaps.{code_at, place_of, HasEntries}
use Rattle.key_reports.specs.Tables.{table}

-- the entry at a place
placed : (entries : ℕ → ℕ → ℕ) (layer key : ℕ) → key < 96 → entry_at entries (place_of layer key) ≡ entries layer key
placed entries layer key l =
    let a : place_of layer key / 96 ≡ layer = omega arith in
    let b : place_of layer key % 96 ≡ key = omega arith in
    rw (a, b) refl

mapped : (entries : ℕ → ℕ → ℕ) (n place : ℕ) → place < n → get_or (map (entry_at entries) (range_with_len 0 n)) place 0 ≡ entry_at entries place
mapped entries n place l = get_or-map-range_with_len (entry_at entries) 0 n place place 0 l (omega arith)

pub table-has : (entries : ℕ → ℕ → ℕ) → HasEntries entries (table entries)
unfolding table
table-has entries = record {
  whole = length-map-range_with_len (entry_at entries) 0 384;
  each = λ layer key l k. mapped entries 384 (place_of layer key) (omega arith) ∙ placed entries layer key k;
}

pub same_table : (entries : ℕ → ℕ → ℕ) (keymap other : List ℕ) → HasEntries entries keymap → HasEntries entries other → keymap ≡ other
same_table entries keymap other h o =
    same_number_lists keymap other (h.whole ∙ sym o.whole) (λ place l.
    let n : place < 384 = omega (arith, h.whole) in
    let e : place_of (place / 96) (place % 96) ≡ place = omega arith in
    let a = h.each (place / 96) (place % 96) (omega arith) (omega arith) in
    let b = o.each (place / 96) (place % 96) (omega arith) (omega arith) in
    rw e at a ∙ sym (rw e at b))

pub table-alone : (entries : ℕ → ℕ → ℕ) (keymap : List ℕ) → HasEntries entries keymap → keymap ≡ table entries
table-alone entries keymap h = same_table entries keymap (table entries) h (table-has entries)

-- the code on the layer that is found, by entries that are the same on each layer
on_found : (f g : ℕ → ℕ → ℕ) (key : ℕ) (a b c d : Bool) → f 3 key ≡ g 3 key → f 2 key ≡ g 2 key → f 1 key ≡ g 1 key → f 0 key ≡ g 0 key
    → code_on f key (if a then Some 3 else (if b then Some 2 else (if c then Some 1 else (if d then Some 0 else None))))
    ≡ code_on g key (if a then Some 3 else (if b then Some 2 else (if c then Some 1 else (if d then Some 0 else None))))
on_found f g key true b c d e3 e2 e1 e0 = e3
on_found f g key false true c d e3 e2 e1 e0 = e2
on_found f g key false false true d e3 e2 e1 e0 = e1
on_found f g key false false false true e3 e2 e1 e0 = e0
on_found f g key false false false false e3 e2 e1 e0 = refl

-- a key resolves by the entries of its four layers
pub resolved-table : (entries : ℕ → ℕ → ℕ) (codes : ℕ → Option ℕ) (key : ℕ) → key < keys → resolved (code_at (table entries)) codes key ≡ resolved entries codes key
unfolding resolved
resolved-table entries codes key l =
    let h = table-has entries in
    let e3 = h.each 3 key (omega arith) l in
    let e2 = h.each 2 key (omega arith) l in
    let e1 = h.each 1 key (omega arith) l in
    let e0 = h.each 0 key (omega arith) l in
    rw (e3, e2, e1, e0) (on_found (code_at (table entries)) entries key (counts entries codes key 3) (counts entries codes key 2) (counts entries codes key 1) (counts entries codes key 0) e3 e2 e1 e0)
