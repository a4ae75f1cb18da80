-- A command and its word.
use Rattle.std.proofs.Common.{◌≡◌, ◌≢◌, ℕ, ◌/◌, ◌%◌, ◌^◌, ◌<◌, ◌≤◌, ◌==◌, ◌&&◌, not, nat_lt, nat_le, if◌then◌else◌, Bool, true, false, Ok, Err, ◌⊎◌, inl, inr, subst, MatchOption, Option, Some, None, refl, arith, sym}
use Rattle.std.proofs.lemmas.Bool.{and_parts, not-false, ltb-true, leb-true, eqb-true, cases_eq, lt-ltb}
use Rattle.std.proofs.lemmas.Bool.Decides.{nat_tests}
use Rattle.layers.specs.Codes.{layers, keys, is_between, is_code}
use Rattle.layers.specs.Commands.{IsCommand, unused_is_zero, command_read, command_with, command_of, word_of, word_with}
use Rattle.layers.specs.representation.CommandWords.{command_at}
use Rattle.std.specs.Result.{result_ok}
use Rattle.layers.specs.declared.code.KeymapError.TheVariants.{BadOperation, BadLayer, BadKey, BadCode}
use Rattle.layers.specs.declared.command.Command.{Command}
use Rattle.layers.specs.declared.command.Command.TheVariants.{SetKey, ResetLayer, ResetAll}

pub is_code-lt : (code : ℕ) → is_code code ≡ true → code < 2 ^ 16
is_code-lt code e = grind (arith, nat_tests)

set_key_word : (layer key code : ℕ) → layer < layers → key < keys → is_code code ≡ true → command_of (word_with 1 layer key code) ≡ Some (SetKey layer key code)
unfolding command_of
set_key_word layer key code l k c =
    let small : code < 2 ^ 16 = is_code-lt code c in
    let o : word_with 1 layer key code / 2 ^ 28 ≡ 1 = omega arith in
    let el : word_with 1 layer key code / 2 ^ 24 % 2 ^ 4 ≡ layer = omega arith in
    let ek : word_with 1 layer key code / 2 ^ 16 % 2 ^ 8 ≡ key = omega arith in
    let ec : word_with 1 layer key code % 2 ^ 16 ≡ code = omega arith in
    rw (o, el, ek, ec, lt-ltb layer layers l, lt-ltb key keys k, c) refl

-- the word of a command stands for it
pub command_of_word : (command : Command) → IsCommand command → command_of (word_of command) ≡ Some command
unfolding command_of
command_of_word (SetKey layer key code) is = set_key_word layer key code is.0 is.1 is.2
command_of_word (ResetLayer layer) is =
    let o : word_with 2 layer 0 0 / 2 ^ 28 ≡ 2 = omega arith in
    let el : word_with 2 layer 0 0 / 2 ^ 24 % 2 ^ 4 ≡ layer = omega arith in
    let ek : word_with 2 layer 0 0 / 2 ^ 16 % 2 ^ 8 ≡ 0 = omega arith in
    let ec : word_with 2 layer 0 0 % 2 ^ 16 ≡ 0 = omega arith in
    rw (o, el, ek, ec, lt-ltb layer layers is) refl
command_of_word ResetAll is = refl

pub command_of_its_word : (command : Command) (word : ℕ) → word ≡ word_of command → IsCommand command → command_of word ≡ Some command
command_of_its_word command word e is = rw e (command_of_word command is)

-- the command of a word, from its fields
pub command_of_fields : (word op layer key code : ℕ) → op ≡ word / 2 ^ 28 → layer ≡ word / 2 ^ 24 % 2 ^ 4 → key ≡ word / 2 ^ 16 % 2 ^ 8 → code ≡ word % 2 ^ 16
    → (if unused_is_zero op layer key code then result_ok (command_read op layer key code) else None) ≡ command_of word
unfolding command_of
command_of_fields word op layer key code o l k c = rw (o, l, k, c) refl

result_if : (a b c d : Bool) (x v : Command) → result_ok (if a then Err BadOperation else (if b then Err BadLayer else (if c then Err BadKey else (if d then Err BadCode else Ok x)))) ≡ Some v → (a ≡ false) × (b ≡ false) × (c ≡ false) × (d ≡ false) × (x ≡ v)
result_if true b c d x v e = cc
result_if false true c d x v e = cc
result_if false false true d x v e = cc
result_if false false false true x v e = cc
result_if false false false false x v e = (refl, refl, refl, refl, cc)

some_if : (u : Bool) (o : Option Command) (v : Command) → (if u then o else None) ≡ Some v → (u ≡ true) × (o ≡ Some v)
some_if true o v e = (refl, e)
some_if false o v e = cc

set_key_fields : (word op layer key code : ℕ) (v : Command) → op ≡ word / 2 ^ 28 → layer ≡ word / 2 ^ 24 % 2 ^ 4 → key ≡ word / 2 ^ 16 % 2 ^ 8 → code ≡ word % 2 ^ 16
    → op ≡ 1 → not (nat_lt layer layers) ≡ false → not (nat_lt key keys) ≡ false → not (is_code code) ≡ false → SetKey layer key code ≡ v
    → IsCommand v × (word_of v ≡ word)
set_key_fields word op layer key code v o l k c e tl tk tc is =
    let P : Command → Type 0 = λ w. IsCommand w × (word_of w ≡ word) in
    let small : code < 2 ^ 16 = is_code-lt code (not-false (is_code code) tc) in
    subst P is ((ltb-true layer layers (not-false _ tl), ltb-true key keys (not-false _ tk), not-false _ tc), omega arith)

reset_layer_fields : (word op layer key code : ℕ) (v : Command) → op ≡ word / 2 ^ 28 → layer ≡ word / 2 ^ 24 % 2 ^ 4 → key ≡ word / 2 ^ 16 % 2 ^ 8 → code ≡ word % 2 ^ 16
    → op ≡ 2 → ((key == 0) && (code == 0)) ≡ true → not (nat_lt layer layers) ≡ false → ResetLayer layer ≡ v
    → IsCommand v × (word_of v ≡ word)
reset_layer_fields word op layer key code v o l k c e u tl is =
    let P : Command → Type 0 = λ w. IsCommand w × (word_of w ≡ word) in
    let z = and_parts (key == 0) (code == 0) u in
    let zk : key ≡ 0 = eqb-true key 0 z.0 in
    let zc : code ≡ 0 = eqb-true code 0 z.1 in
    subst P is (ltb-true layer layers (not-false _ tl), omega arith)

reset_all_fields : (word op layer key code : ℕ) (v : Command) → op ≡ word / 2 ^ 28 → layer ≡ word / 2 ^ 24 % 2 ^ 4 → key ≡ word / 2 ^ 16 % 2 ^ 8 → code ≡ word % 2 ^ 16
    → op ≡ 3 → ((layer == 0) && ((key == 0) && (code == 0))) ≡ true → ResetAll ≡ v
    → IsCommand v × (word_of v ≡ word)
reset_all_fields word op layer key code v o l k c e u is =
    let P : Command → Type 0 = λ w. IsCommand w × (word_of w ≡ word) in
    let y = and_parts (layer == 0) ((key == 0) && (code == 0)) u in
    let z = and_parts (key == 0) (code == 0) y.1 in
    let zl : layer ≡ 0 = eqb-true layer 0 y.0 in
    let zk : key ≡ 0 = eqb-true key 0 z.0 in
    let zc : code ≡ 0 = eqb-true code 0 z.1 in
    subst P is (tt, omega arith)

one_two_three : (op : ℕ) → not (is_between 1 3 op) ≡ false → (op ≡ 1) ⊎ ((op ≡ 2) ⊎ (op ≡ 3))
one_two_three op e =
    let t = and_parts (nat_le 1 op) (nat_le op 3) (not-false _ e) in
    let low : 1 ≤ op = leb-true 1 op t.0 in
    let high : op ≤ 3 = leb-true op 3 t.1 in
    elim (cases_eq op 1) [
      | inl a ↦ inl a
      | inr a ↦ elim (cases_eq op 2) [
        | inl b ↦ inr (inl b)
        | inr b ↦ inr (inr (omega arith))
      ]
    ]

fields_of : (word op layer key code : ℕ) (v : Command) → op ≡ word / 2 ^ 28 → layer ≡ word / 2 ^ 24 % 2 ^ 4 → key ≡ word / 2 ^ 16 % 2 ^ 8 → code ≡ word % 2 ^ 16
    → unused_is_zero op layer key code ≡ true → result_ok (command_read op layer key code) ≡ Some v
    → IsCommand v × (word_of v ≡ word)
fields_of word op layer key code v o l k c u r =
    let t = result_if (not (is_between 1 3 op)) (nat_le op 2 && not (nat_lt layer layers)) (nat_le op 1 && not (nat_lt key keys)) (nat_le op 1 && not (is_code code)) (command_with op layer key code) v r in
    elim (one_two_three op t.0) [
      | inl e ↦ set_key_fields word op layer key code v o l k c e (rw e at t.1) (rw e at t.2) (rw e at t.3) (rw e at t.4)
      | inr f ↦ elim f [
        | inl e ↦ reset_layer_fields word op layer key code v o l k c e (rw e at u) (rw e at t.1) (rw e at t.4)
        | inr e ↦ reset_all_fields word op layer key code v o l k c e (rw e at u) (rw e at t.4)
      ]
    ]

-- a word that stands for a command is its word
pub word_of_command : (word : ℕ) (command : Command) → command_of word ≡ Some command → IsCommand command × (word_of command ≡ word)
unfolding command_of
word_of_command word command e =
    let t = some_if _ _ command e in
    fields_of word _ _ _ _ command refl refl refl refl t.0 t.1

-- and one that stands for none is the word of none
pub exact_by : (word : ℕ) (o : Option Command) → command_of word ≡ o → MatchOption o ((c : Command) → IsCommand c → word_of c ≢ word) (λ c. IsCommand c × (word_of c ≡ word))
exact_by word None e = λ c is w. let f : command_of word ≡ Some c = command_of_its_word c word (sym w) is in cc
exact_by word (Some c) e = word_of_command word c e

-- the command of a word, operation by operation
pub read_set_key : (word layer key code : ℕ) → word / 2 ^ 28 ≡ 1 → layer ≡ word / 2 ^ 24 % 2 ^ 4 → key ≡ word / 2 ^ 16 % 2 ^ 8 → code ≡ word % 2 ^ 16 → result_ok (command_read 1 layer key code) ≡ command_of word
read_set_key word layer key code o l k c = command_of_fields word 1 layer key code (sym o) l k c

pub read_reset : (word layer : ℕ) → word / 2 ^ 28 ≡ 2 → word % 2 ^ 24 ≡ 0 → layer ≡ word / 2 ^ 24 % 2 ^ 4 → result_ok (command_read 2 layer 0 0) ≡ command_of word
read_reset word layer o z l = command_of_fields word 2 layer 0 0 (sym o) l (omega arith) (omega arith)

pub read_reset_all : (word : ℕ) → word / 2 ^ 28 ≡ 3 → word % 2 ^ 28 ≡ 0 → Some ResetAll ≡ command_of word
read_reset_all word o z = command_of_fields word 3 0 0 0 (sym o) (omega arith) (omega arith) (omega arith)

no_command : (word : ℕ) (command : Command) → IsCommand command → word_of command ≡ word → (word / 2 ^ 28 ≡ 1 → ⊥) → (word / 2 ^ 28 ≡ 2 → word % 2 ^ 24 ≡ 0 → ⊥) → (word / 2 ^ 28 ≡ 3 → word % 2 ^ 28 ≡ 0 → ⊥) → ⊥
no_command word (SetKey layer key code) is w set reset all = let small : code < 2 ^ 16 = is_code-lt code is.2 in set (omega (arith, is.0, is.1, small, w))
no_command word (ResetLayer layer) is w set reset all = reset (omega (arith, is, w)) (omega (arith, is, w))
no_command word ResetAll is w set reset all = all (omega (arith, w)) (omega (arith, w))

none_by : (word : ℕ) (o : Option Command) → command_of word ≡ o → (word / 2 ^ 28 ≡ 1 → ⊥) → (word / 2 ^ 28 ≡ 2 → word % 2 ^ 24 ≡ 0 → ⊥) → (word / 2 ^ 28 ≡ 3 → word % 2 ^ 28 ≡ 0 → ⊥) → None ≡ command_of word
none_by word None e set reset all = sym e
none_by word (Some command) e set reset all = let f = word_of_command word command e in absurd (no_command word command f.0 f.1 set reset all)

pub read_none : (word : ℕ) → (word / 2 ^ 28 ≡ 1 → ⊥) → (word / 2 ^ 28 ≡ 2 → word % 2 ^ 24 ≡ 0 → ⊥) → (word / 2 ^ 28 ≡ 3 → word % 2 ^ 28 ≡ 0 → ⊥) → None ≡ command_of word
read_none word set reset all = none_by word (command_of word) refl set reset all

-- a word that stands for a command has its fields
pub at_from : (word : ℕ) (command : Command) → command_of word ≡ Some command → command_at word ≡ command
unfolding command_of
at_from word command e =
    let op = word / 2 ^ 28 in
    let layer = word / 2 ^ 24 % 2 ^ 4 in
    let key = word / 2 ^ 16 % 2 ^ 8 in
    let code = word % 2 ^ 16 in
    let t = some_if _ _ command e in
    (result_if (not (is_between 1 3 op)) (nat_le op 2 && not (nat_lt layer layers)) (nat_le op 1 && not (nat_lt key keys)) (nat_le op 1 && not (is_code code)) (command_with op layer key code) command t.1).4

-- so it is the word of the command whose fields it has
pub at_kept : (word : ℕ) (command : Command) → command_of word ≡ Some command → IsCommand command → word ≡ word_of command
    → IsCommand (command_at word) × (word_of (command_at word) ≡ word)
at_kept word command e is w = rw (at_from word command e) (is, sym w)

-- the parts of such a word, by its operation
pub at_1 : (word : ℕ) → IsCommand (command_at word) → word / 2 ^ 28 ≡ 1
    → (word / 2 ^ 24 % 2 ^ 4 < layers) × (word / 2 ^ 16 % 2 ^ 8 < keys) × (is_code (word % 2 ^ 16) ≡ true)
at_1 word is o = rw o at is

pub at_2 : (word : ℕ) → IsCommand (command_at word) → word / 2 ^ 28 ≡ 2 → word / 2 ^ 24 % 2 ^ 4 < layers
at_2 word is o = rw o at is
