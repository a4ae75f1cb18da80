-- What the words so far say of an id, after one word more.
use Rattle.std.proofs.lemmas.Grind.{common_steps}
use Rattle.std.proofs.Common.{◌≡◌, ◌∙◌, ℕ, ◌+◌, ◌≤◌, true, false, refl, sym, ap, arith, List, [], ◌∷◌, ◌++◌, length, take, Option, Some, None}
use Rattle.std.proofs.lemmas.Bool.{eq-eqb}
use Rattle.std.proofs.lemmas.List.{length-append, length-take-le, take-take}
use Rattle.settings.specs.declared.words.Head.{Head}
use Rattle.settings.specs.declared.change.Change.{Change}
use Rattle.settings.specs.declared.lookup.Partial.{Partial}
use Rattle.settings.specs.declared.lookup.Reading.{Reading}
use Rattle.settings.specs.Words.{is_data, head_of, word_bytes}
use Rattle.settings.specs.Settings.{gathered, given, change_with, changes_in, after, settings_of}
use Rattle.page_turnover.specs.Words.{words}
use Rattle.settings.specs.representation.Reading.{IsPartial, or_before, closed, outcome}
use Rattle.settings.proofs.Gathering.{gathered-enough, gathered-more, gathered-other, gathered-end}
use Rattle.settings.proofs.Changes.{changes_in-word, changes_in-data, changes_in-none}

pub outcome-is : (id : ℕ) (reading : Reading) (rest : List ℕ) → outcome id reading rest ≡ after (closed reading.value reading.partial rest) (changes_in rest) id
unfolding outcome
outcome-is id reading rest = refl

so_far : (p : Partial) → IsPartial (Some p) → length (take p.got p.bytes) ≡ p.got
so_far p h = length-take-le p.got p.bytes (omega (arith, h.0, h.1, h.2))

-- a word of bytes
outcome_data : (id : ℕ) (value : Option (List ℕ)) (p : Partial) (word : ℕ) (rest : List ℕ) → IsPartial (Some p) → is_data word ≡ true
    → outcome id (record { value = value; partial = Some p }) (word ∷ rest) ≡ after (or_before (gathered p.len (take p.got p.bytes ++ word_bytes word) rest) value) (changes_in rest) id
outcome_data id value p word rest h1 h2 = grind (arith, common_steps, so_far, outcome-is, gathered-more, changes_in-data)

pub goes_on : (id : ℕ) (value : Option (List ℕ)) (p next : Partial) (word : ℕ) (rest : List ℕ) → IsPartial (Some p) → is_data word ≡ true → next.len ≡ p.len → take next.got next.bytes ≡ take p.got p.bytes ++ word_bytes word
    → outcome id (record { value = value; partial = Some next }) rest ≡ outcome id (record { value = value; partial = Some p }) (word ∷ rest)
goes_on id value p next word rest h d e t =
    outcome-is id (record { value = value; partial = Some next }) rest ∙ rw (e, t) (sym (outcome_data id value p word rest h d))

pub is_whole : (id : ℕ) (value : Option (List ℕ)) (p next : Partial) (word : ℕ) (rest : List ℕ) → IsPartial (Some p) → is_data word ≡ true → next.len ≡ p.len → next.got ≡ p.got + 3 → take next.got next.bytes ≡ take p.got p.bytes ++ word_bytes word → next.len ≤ next.got
    → outcome id (record { value = Some (take next.len next.bytes); partial = None }) rest ≡ outcome id (record { value = value; partial = Some p }) (word ∷ rest)
is_whole id value p next word rest h d e g t l =
    let n = so_far p h in
    let m : length (take p.got p.bytes ++ word_bytes word) ≡ length (take p.got p.bytes) + 3 = length-append (take p.got p.bytes) (word_bytes word) in
    let all : gathered p.len (take p.got p.bytes ++ word_bytes word) rest ≡ Some (take p.len (take p.got p.bytes ++ word_bytes word)) = gathered-enough p.len (take p.got p.bytes ++ word_bytes word) rest (omega (arith, n, m, e, g, l)) in
    let same : take p.len (take p.got p.bytes ++ word_bytes word) ≡ take next.len next.bytes = rw (← t, ← e) (take-take next.len next.got next.bytes l) in
    outcome-is id (record { value = Some (take next.len next.bytes); partial = None }) rest
    ∙ sym (outcome_data id value p word rest h d ∙ rw (all, same) refl)

-- a word of bytes where none are missing
pub skips : (id : ℕ) (reading : Reading) (word : ℕ) (rest : List ℕ) → reading.partial ≡ None → is_data word ≡ true → outcome id reading rest ≡ outcome id reading (word ∷ rest)
skips id reading word rest h1 h2 = grind (arith, common_steps, outcome-is, changes_in-data)

-- another word ends what was going on
pub ends : (id : ℕ) (value : Option (List ℕ)) (partial : Option Partial) (word : ℕ) (rest : List ℕ) → IsPartial partial → is_data word ≡ false
    → outcome id (record { value = value; partial = None }) (word ∷ rest) ≡ outcome id (record { value = value; partial = partial }) (word ∷ rest)
ends id value partial word rest h1 h2 = grind (arith, common_steps, so_far, outcome-is, gathered-other)

-- a word of no change, and one of a change of another id
pub other_none : (id : ℕ) (value : Option (List ℕ)) (word : ℕ) (rest : List ℕ) → head_of word ≡ None → outcome id (record { value = value; partial = None }) rest ≡ outcome id (record { value = value; partial = None }) (word ∷ rest)
other_none id value word rest h1 = grind (arith, common_steps, outcome-is, changes_in-word)

after_with : (v : Option (List ℕ)) (other : ℕ) (len : Option ℕ) (words : List ℕ) (rest : List Change) (id : ℕ) → (other ≡ id → ⊥) → after v (change_with other len words ++ rest) id ≡ after v rest id
unfolding after
after_with v other len words rest id h1 = grind (arith, common_steps)

pub after_other : (v : Option (List ℕ)) (word : ℕ) (head : Head) (rest : List ℕ) (id : ℕ) → head_of word ≡ Some head → (head.id ≡ id → ⊥) → after v (changes_in (word ∷ rest)) id ≡ after v (changes_in rest) id
after_other v word head rest id e n = rw (changes_in-word word rest, e) (after_with v head.id head.len rest (changes_in rest) id n)

pub other_head : (id : ℕ) (value : Option (List ℕ)) (word : ℕ) (head : Head) (rest : List ℕ) → head_of word ≡ Some head → (head.id ≡ id → ⊥) → outcome id (record { value = value; partial = None }) rest ≡ outcome id (record { value = value; partial = None }) (word ∷ rest)
other_head id value word head rest h1 h2 = grind (arith, common_steps, outcome-is, after_other)

-- a change of the id begins
own_given : (v : Option (List ℕ)) (id : ℕ) (value : Option (List ℕ)) (rest : List Change) → after v (given id value ++ rest) id ≡ after (or_before value v) rest id
unfolding after
own_given v id value rest = grind (arith, common_steps)

pub begins_value : (id : ℕ) (value : Option (List ℕ)) (word len : ℕ) (rest : List ℕ) → head_of word ≡ Some (record { id = id; len = Some len })
    → outcome id (record { value = value; partial = None }) (word ∷ rest) ≡ after (or_before (gathered len [] rest) value) (changes_in rest) id
begins_value id value word len rest h1 = grind (arith, common_steps, outcome-is, changes_in-word, own_given)

own_none : (v : Option (List ℕ)) (id : ℕ) (words : List ℕ) (rest : List Change) → after v (change_with id None words ++ rest) id ≡ after None rest id
unfolding after
own_none v id words rest = rw (eq-eqb id id refl) refl

pub begins_removal : (id : ℕ) (value : Option (List ℕ)) (word : ℕ) (rest : List ℕ) → head_of word ≡ Some (record { id = id; len = None })
    → outcome id (record { value = None; partial = None }) rest ≡ outcome id (record { value = value; partial = None }) (word ∷ rest)
begins_removal id value word rest e =
    outcome-is id (record { value = None; partial = None }) rest ∙ sym (outcome-is id (record { value = value; partial = None }) (word ∷ rest) ∙ rw (changes_in-word word rest, e) (own_none value id rest (changes_in rest)))

pub begins_empty : (id : ℕ) (value : Option (List ℕ)) (word : ℕ) (rest : List ℕ) → head_of word ≡ Some (record { id = id; len = Some 0 })
    → outcome id (record { value = Some []; partial = None }) rest ≡ outcome id (record { value = value; partial = None }) (word ∷ rest)
begins_empty id value word rest e =
    outcome-is id (record { value = Some []; partial = None }) rest ∙ sym (begins_value id value word 0 rest e ∙ rw (gathered-enough 0 [] rest (omega arith)) refl)

pub begins_partial : (id : ℕ) (value : Option (List ℕ)) (p : Partial) (word : ℕ) (rest : List ℕ) → p.got ≡ 0 → head_of word ≡ Some (record { id = id; len = Some p.len })
    → outcome id (record { value = value; partial = Some p }) rest ≡ outcome id (record { value = value; partial = None }) (word ∷ rest)
begins_partial id value p word rest h1 h2 = grind (arith, common_steps, outcome-is, begins_value)

-- at the start
pub at_start : (id : ℕ) (image : List ℕ) → outcome id (record { value = None; partial = None }) (words image) ≡ settings_of image id
unfolding outcome settings_of
at_start id image = refl

-- at the end
pub at_end : (id : ℕ) (reading : Reading) → IsPartial reading.partial → outcome id reading [] ≡ reading.value
unfolding outcome after
at_end id reading h1 = grind (arith, common_steps, changes_in-none, so_far, gathered-end)

pub own_head : (word : ℕ) (head : Head) (id : ℕ) → head_of word ≡ Some head → head.id ≡ id → head_of word ≡ Some (record { id = id; len = head.len })
own_head word head id e n = e ∙ ap (λ (i : ℕ). Some (record { id = i; len = head.len })) n
