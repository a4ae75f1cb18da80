-- The code of a key after a scan, by the debounced values before and after it.
use Rattle.std.proofs.Common.{◌≡◌, ◌↔◌, IsTrue, ℕ, zero, suc, ◌<◌, ◌&&◌, not, Bool, true, false, Some, None, List, [], ◌∷◌, ◌++◌, map, if◌then◌else◌, subst, refl, arith, sym, ap, ◌∙◌, inl, inr}
use Rattle.std.proofs.lemmas.Bool.{cases_Bool, cases_eq, cases_lt, lt-ltb, le-ltb}
use Rattle.debounce.specs.declared.Scan.{Scan}
use Rattle.debounce.specs.Samples.{down}
use Rattle.debounce.proofs.Feeding.{down-none}
use Rattle.layers.specs.Codes.{keys, names_key_usage, names_consumer}
use Rattle.layers.specs.Held.{HeldCall, Press, Release, code, resolved}
use Rattle.layers.specs.Resolved.{SomeHas}
use Rattle.layers.specs.Keymaps.{code_at}
use Rattle.layers.proofs.HeldKeys.{any_has-some, any_has-from, resolved-same, code-press_new, code-press_other, code-release_same, code-release_other}
use Rattle.key_reports.specs.Calls.{KeyCall, Scanned, Asked}
use Rattle.key_reports.specs.Past.{scans_of, held_calls, keys_after, consumer_after, those_below, presses, releases}
use Rattle.key_reports.specs.Codes.{code_after, is_elder, pressed_by, HasCode, SomeKeyHas}

-- releases of the keys below n that pass a test
abbrev pub released : (ℕ → Bool) → ℕ → List HeldCall → List HeldCall
released test n past = map (λ key. Release key) (those_below test n) ++ past

-- and presses
abbrev pub pressed : List ℕ → (ℕ → Bool) → ℕ → List HeldCall → List HeldCall
pressed keymap test n past = map (λ key. Press keymap key) (those_below test n) ++ past

pub code-released_out : (test : ℕ → Bool) (n : ℕ) (past : List HeldCall) (key : ℕ) → test key ≡ false → code (released test n past) key ≡ code past key
unfolding those_below
code-released_out test zero past key t = refl
code-released_out test (suc n) past key t =
    elim (cases_Bool (test n)) [
      | inl on ↦ rw on (code-release_other (released test n past) key n (λ e. let c : true ≡ false = sym on ∙ (ap test (sym e) ∙ t) in cc) ∙ code-released_out test n past key t)
      | inr off ↦ rw off (code-released_out test n past key t)
    ]

pub code-released_in : (test : ℕ → Bool) (n : ℕ) (past : List HeldCall) (key : ℕ) → test key ≡ true → key < n → code (released test n past) key ≡ None
unfolding those_below
code-released_in test zero past key t l = absurd (omega arith)
code-released_in test (suc n) past key t l =
    elim (cases_eq key n) [
      | inl e ↦ (let on : test n ≡ true = rw (← e) t in rw (on, e) (code-release_same (released test n past) n))
      | inr d ↦ elim (cases_Bool (test n)) [
        | inl on ↦ rw on (code-release_other (released test n past) key n d ∙ code-released_in test n past key t (omega arith))
        | inr off ↦ rw off (code-released_in test n past key t (omega arith))
      ]
    ]

pub code-pressed_out : (keymap : List ℕ) (test : ℕ → Bool) (n : ℕ) (past : List HeldCall) (key : ℕ) → ((k : ℕ) → k < n → test k ≡ true → key ≡ k → ⊥) → code (pressed keymap test n past) key ≡ code past key
unfolding those_below
code-pressed_out keymap test zero past key h = refl
code-pressed_out keymap test (suc n) past key h =
    let below = code-pressed_out keymap test n past key (λ k l. h k (omega arith)) in
    elim (cases_Bool (test n)) [
      | inl on ↦ rw on (code-press_other (pressed keymap test n past) keymap key n (h n (omega arith) on) ∙ below)
      | inr off ↦ rw off below
    ]

-- a key that is pressed among them has the keymap's code, with the codes after the presses of the keys below it
pub code-pressed_in : (keymap : List ℕ) (test : ℕ → Bool) (n : ℕ) (past : List HeldCall) (key : ℕ) → test key ≡ true → key < n → code past key ≡ None
    → code (pressed keymap test n past) key ≡ Some (resolved (code_at keymap) (code (pressed keymap test key past)) key)
unfolding those_below
code-pressed_in keymap test zero past key t l free = absurd (omega arith)
code-pressed_in keymap test (suc n) past key t l free =
    elim (cases_eq key n) [
      | inl e ↦ (let on : test n ≡ true = rw (← e) t in
          let still : code (pressed keymap test n past) n ≡ None = code-pressed_out keymap test n past n (λ k m u f. omega arith) ∙ rw (← e) free in
          rw (on, e) (code-press_new (pressed keymap test n past) keymap n still))
      | inr d ↦ elim (cases_Bool (test n)) [
        | inl on ↦ rw on (code-press_other (pressed keymap test n past) keymap key n d ∙ code-pressed_in keymap test n past key t (omega arith) free)
        | inr off ↦ rw off (code-pressed_in keymap test n past key t (omega arith) free)
      ]
    ]

edge-on : (x y : Bool) → x ≡ true → y ≡ false → (x && not y) ≡ true
edge-on x y e f = rw (e, f) refl

edge-left : (x y : Bool) → x ≡ false → (x && not y) ≡ false
edge-left x y e = rw e refl

edge-right : (x y : Bool) → y ≡ true → (x && not y) ≡ false
edge-right true y e = rw e refl
edge-right false y e = refl

apart : (test : ℕ → Bool) (key k : ℕ) → test key ≡ false → test k ≡ true → key ≡ k → ⊥
apart test key k off on e = let c : false ≡ true = sym off ∙ (ap test e ∙ on) in cc

-- before and after a scan, with the codes of the calls before
module _ (scan : Scan) (keymap : List ℕ) (scans : List Scan) (calls : List HeldCall) (up : (key : ℕ) → key < keys → down scans key ≡ false → code calls key ≡ None) where
  abbrev pub between : List HeldCall
  between = released (releases scan scans) keys calls

  abbrev pub after : List HeldCall
  after = pressed keymap (presses scan scans) keys between

  -- a key that is up after the scan
  pub code-up : (key : ℕ) → key < keys → down (scan ∷ scans) key ≡ false → code after key ≡ None
  code-up key l now =
      let no : presses scan scans key ≡ false = edge-left (down (scan ∷ scans) key) (down scans key) now in
      code-pressed_out keymap (presses scan scans) keys between key (λ k m t. apart (presses scan scans) key k no t)
      ∙ elim (cases_Bool (down scans key)) [
        | inl was ↦ code-released_in (releases scan scans) keys calls key (edge-on (down scans key) (down (scan ∷ scans) key) was now) l
        | inr was ↦ code-released_out (releases scan scans) keys calls key (edge-left (down scans key) (down (scan ∷ scans) key) was) ∙ up key l was
      ]

  -- a key that was up has no code between
  pub code-between : (key : ℕ) → key < keys → down scans key ≡ false → code between key ≡ None
  code-between key l was = code-released_out (releases scan scans) keys calls key (edge-left (down scans key) (down (scan ∷ scans) key) was) ∙ up key l was

  -- a key that stays down
  pub code-stays : (key : ℕ) → down scans key ≡ true → down (scan ∷ scans) key ≡ true → code after key ≡ code calls key
  code-stays key was now =
      code-pressed_out keymap (presses scan scans) keys between key (λ k m t. apart (presses scan scans) key k (edge-right (down (scan ∷ scans) key) (down scans key) was) t)
      ∙ code-released_out (releases scan scans) keys calls key (edge-right (down scans key) (down (scan ∷ scans) key) now)

  -- the elders of a key that is pressed, and their codes
  elders-pressed : (key other : ℕ) → other < keys → down (scan ∷ scans) key ≡ true → down scans key ≡ false
      → code (pressed keymap (presses scan scans) key between) other ≡ (if is_elder scan scans key other then code after other else None)
  elders-pressed key other l now was =
      elim (cases_Bool (down (scan ∷ scans) other)) [
        | inr up_now ↦ (
            let no : presses scan scans other ≡ false = edge-left (down (scan ∷ scans) other) (down scans other) up_now in
            let whole : code after other ≡ None = code-up other l up_now in
            let part : code after other ≡ code between other = code-pressed_out keymap (presses scan scans) keys between other (λ k m t. apart (presses scan scans) other k no t) in
            rw up_now (code-pressed_out keymap (presses scan scans) key between other (λ k m t. apart (presses scan scans) other k no t) ∙ sym part ∙ whole))
        | inl down_now ↦ elim (cases_Bool (down scans other)) [
          | inl down_was ↦ (
              let no : presses scan scans other ≡ false = edge-right (down (scan ∷ scans) other) (down scans other) down_was in
              rw (down_now, down_was) (code-pressed_out keymap (presses scan scans) key between other (λ k m t. apart (presses scan scans) other k no t)
              ∙ sym (code-pressed_out keymap (presses scan scans) keys between other (λ k m t. apart (presses scan scans) other k no t))))
          | inr up_was ↦ (
              let yes : presses scan scans other ≡ true = edge-on (down (scan ∷ scans) other) (down scans other) down_now up_was in
              let free : code between other ≡ None = code-between other l up_was in
              elim (cases_lt other key) [
                | inl less ↦ rw (down_now, up_was, lt-ltb other key less) (code-pressed_in keymap (presses scan scans) key between other yes less free
                    ∙ sym (code-pressed_in keymap (presses scan scans) keys between other yes l free))
                | inr more ↦ rw (down_now, up_was, le-ltb other key more) (code-pressed_out keymap (presses scan scans) key between other (λ k m t e. omega arith) ∙ free)
              ])
        ]
      ]

  pub code-pressed : (key : ℕ) → key < keys → down (scan ∷ scans) key ≡ true → down scans key ≡ false
      → code after key ≡ Some (resolved (code_at keymap) (λ other. if is_elder scan scans key other then code after other else None) key)
  code-pressed key l now was =
      code-pressed_in keymap (presses scan scans) keys between key (edge-on (down (scan ∷ scans) key) (down scans key) now was) l (code-between key l was)
      ∙ ap (λ (c : ℕ). Some c) (resolved-same (code_at keymap) (code (pressed keymap (presses scan scans) key between)) (λ other. if is_elder scan scans key other then code after other else None) key
      (λ other m. elders-pressed key other m now was))

-- a key that is up has no code
pub code-none : (past : List KeyCall) (key : ℕ) → key < keys → down (scans_of past) key ≡ false → code_after past key ≡ None
unfolding scans_of held_calls code
code-none [] key l up = refl
code-none (Scanned scan keymap protocol ∷ past) key l up = code-up scan keymap (scans_of past) (held_calls past) (λ k m u. code-none past k m u) key l up
code-none (Asked call ∷ past) key l up = code-none past key l up

-- one call more that changes neither the code nor the latest press
later_call : (call : KeyCall) (past : List KeyCall) (key : ℕ) → pressed_by call past key ≡ false → code_after (call ∷ past) key ≡ code_after past key → HasCode past key → HasCode (call ∷ past) key
later_call call past key idle same h = record {
  later = call ∷ h.later;
  scan = h.scan;
  keymap = h.keymap;
  protocol = h.protocol;
  before = h.before;
  split = ap (λ (p : List KeyCall). call ∷ p) h.split;
  press = h.press;
  latest = (let P : List KeyCall → Type 0 = λ p. pressed_by call p key ≡ false in subst P h.split idle, h.latest);
  code_is = same ∙ h.code_is;
}

pub code-latest : (past : List KeyCall) (key : ℕ) → key < keys → down (scans_of past) key ≡ true → HasCode past key
unfolding scans_of held_calls
code-latest [] key l on = let c : true ≡ false = sym on ∙ down-none key in cc
code-latest (Scanned scan keymap protocol ∷ past) key l on =
    elim (cases_Bool (down (scans_of past) key)) [
      | inl was ↦ later_call (Scanned scan keymap protocol) past key (edge-right (down (scan ∷ scans_of past) key) (down (scans_of past) key) was)
          (code-stays scan keymap (scans_of past) (held_calls past) (λ k m u. code-none past k m u) key was on) (code-latest past key l was)
      | inr was ↦ record {
        later = [];
        scan = scan;
        keymap = keymap;
        protocol = protocol;
        before = past;
        split = refl;
        press = edge-on (down (scan ∷ scans_of past) key) (down (scans_of past) key) on was;
        latest = tt;
        code_is = code-pressed scan keymap (scans_of past) (held_calls past) (λ k m u. code-none past k m u) key l on was;
      }
    ]
code-latest (Asked call ∷ past) key l on = later_call (Asked call) past key refl refl (code-latest past key l on)

some_key : (past : List KeyCall) (test : ℕ → Bool) → SomeHas (code_after past) test → SomeKeyHas past test
some_key past test s =
    record {
      key = s.key;
      in_keys = s.in_keys;
      down_now = elim (cases_Bool (down (scans_of past) s.key)) [
        | inl on ↦ on
        | inr up ↦ (let c : None ≡ Some s.code = sym (code-none past s.key s.in_keys up) ∙ s.held in cc)
      ];
      code = s.code;
      has_code = s.held;
      does = s.does;
    }

key_some : (past : List KeyCall) (test : ℕ → Bool) → SomeKeyHas past test → SomeHas (code_after past) test
key_some past test s = record { key = s.key; code = s.code; in_keys = s.in_keys; held = s.has_code; does = s.does }

pub keys_after-some : (past : List KeyCall) (usage : ℕ) → IsTrue (keys_after past usage) ↔ SomeKeyHas past (names_key_usage usage)
unfolding keys_after
keys_after-some past usage = (
  (λ e. some_key past (names_key_usage usage) (any_has-some (code_after past) (names_key_usage usage) e)),
  (λ s. any_has-from (code_after past) (names_key_usage usage) (key_some past (names_key_usage usage) s)),
)

pub consumer_after-some : (past : List KeyCall) (usage : ℕ) → IsTrue (consumer_after past usage) ↔ SomeKeyHas past (names_consumer usage)
unfolding consumer_after
consumer_after-some past usage = (
  (λ e. some_key past (names_consumer usage) (any_has-some (code_after past) (names_consumer usage) e)),
  (λ s. any_has-from (code_after past) (names_consumer usage) (key_some past (names_consumer usage) s)),
)
