use Rattle.std.proofs.Common.{◌≡◌, ℕ, zero, suc, ◌+◌, ◌-◌, ◌<◌, ◌≤◌, List, [], ◌∷◌, ◌++◌, length, take, drop, refl, arith, sym, ◌∙◌, ap, map, Ok, inl, inr, length-append, length-take, length-drop}
use Rattle.std.proofs.lemmas.List.{take-append-drop}
use Rattle.std.specs.Prelude.{slice_index}
use Rattle.std.proofs.lemmas.Bool.{cases_eq, cases_lt, ne_eqb}
use Rattle.std.proofs.Math.Seq.{drop-append_seam}
use Rattle.descriptor_parse.specs.Items.{ItemValue, items_at, data_size, head_size, item_size, front_item}
use Rattle.descriptor_parse.specs.Cut.{IsShortItem, IsLongItem, IsWritten, IsCut, HasNoItem, cut_off_at}
use Rattle.descriptor_parse.proofs.ItemLemmas.{size_pos, items_end, items_short, items_more}

take_front : (xs ys : List ℕ) → take (length xs) (xs ++ ys) ≡ xs
take_front [] ys = refl
take_front (x ∷ xs) ys = ap (λ zs. x ∷ zs) (take_front xs ys)

-- an item that is written at the front has the size of what writes it
written_size : (item : ItemValue) (head more : List ℕ) → IsWritten item head → item_size (head ++ more) ≡ length head
written_size item head more w =
    elim w [
      | inl short ↦ (let len : length item.bytes ≡ data_size item.prefix = short.1 in
          let e : 1 + data_size item.prefix ≡ suc (length item.bytes) = omega arith in
          rw (short.2, ne_eqb item.prefix 254 short.0) e)
      | inr long ↦ rw long.1.1 (let e : 3 + length item.bytes ≡ suc (suc (suc (length item.bytes))) = omega arith in e)
    ]

same_parts : (a b p q : ℕ) (xs ys : List ℕ) → a ≡ b → p ≡ q → xs ≡ ys
    → ◌≡◌ {A = ItemValue} (record { offset = a; prefix = p; bytes = xs }) (record { offset = b; prefix = q; bytes = ys })
same_parts a b p q xs ys e f g = rw (e, f, g) refl

same_item : (offset : ℕ) (item : ItemValue) (text : List ℕ) → item.offset ≡ offset → slice_index text 0 ≡ item.prefix
    → drop (head_size (slice_index text 0)) (take (item_size text) text) ≡ item.bytes → front_item offset text ≡ item
same_item offset item text o p b = same_parts offset item.offset (slice_index text 0) item.prefix _ item.bytes (sym o) p b

-- and is that item
written_front : (offset : ℕ) (item : ItemValue) (head more : List ℕ) → IsWritten item head → item.offset ≡ offset → front_item offset (head ++ more) ≡ item
written_front offset item head more w o =
    let size : item_size (head ++ more) ≡ length head = written_size item head more w in
    let front : take (item_size (head ++ more)) (head ++ more) ≡ head = ap (λ n. take n (head ++ more)) size ∙ take_front head more in
    elim w [
      | inl short ↦ same_item offset item (head ++ more) o (ap (λ bytes. slice_index (bytes ++ more) 0) short.2)
          (ap (drop (head_size (slice_index (head ++ more) 0))) front ∙ (rw (short.2, ne_eqb item.prefix 254 short.0) refl))
      | inr long ↦ same_item offset item (head ++ more) o (ap (λ bytes. slice_index (bytes ++ more) 0) long.1.1 ∙ sym long.0)
          (ap (drop (head_size (slice_index (head ++ more) 0))) front ∙ (rw long.1.1 refl))
    ]

taken : (n : ℕ) (xs : List ℕ) → n ≤ length xs → length (take n xs) ≡ n
taken n xs l = length-take n xs ∙ (omega arith)

short_written : (b : ℕ) (bs : List ℕ) → (b ≡ 254 → ⊥) → item_size (b ∷ bs) ≤ length (b ∷ bs) → IsShortItem (front_item 0 (b ∷ bs)) (take (item_size (b ∷ bs)) (b ∷ bs))
short_written b bs n whole =
    let e : item_size (b ∷ bs) ≡ suc (data_size b) = (let f : 1 + data_size b ≡ suc (data_size b) = omega arith in rw (ne_eqb b 254 n) f) in
    let h : head_size b ≡ 1 = (rw (ne_eqb b 254 n) refl) in
    let fits : data_size b ≤ length bs = omega arith in
    rw (e, h) (n, taken (data_size b) bs fits, refl)

long_written : (n t : ℕ) (more : List ℕ) → item_size (254 ∷ n ∷ t ∷ more) ≤ length (254 ∷ n ∷ t ∷ more)
    → IsLongItem (front_item 0 (254 ∷ n ∷ t ∷ more)) (take (item_size (254 ∷ n ∷ t ∷ more)) (254 ∷ n ∷ t ∷ more))
long_written n t more whole =
    let e : 3 + n ≡ suc (suc (suc n)) = omega arith in
    let fits : n ≤ length more = omega arith in
    rw e (refl, (t, ap (λ m. 254 ∷ m ∷ t ∷ take n more) (sym (taken n more fits))))

too_short : item_size (254 ∷ []) ≤ 1 → ⊥
too_short l = let l' : 3 ≤ 1 = l in omega arith

too_short_by : (n : ℕ) → item_size (254 ∷ n ∷ []) ≤ 2 → ⊥
too_short_by n l = let l' : 3 + n ≤ 2 = l in omega arith

long_front : (b : ℕ) (bs : List ℕ) → b ≡ 254 → item_size (b ∷ bs) ≤ length (b ∷ bs) → IsLongItem (front_item 0 (b ∷ bs)) (take (item_size (b ∷ bs)) (b ∷ bs))
long_front b [] e whole = absurd (too_short (rw e at whole))
long_front b (n ∷ []) e whole = absurd (too_short_by n (rw e at whole))
long_front b (n ∷ t ∷ more) e whole = rw e (long_written n t more (rw e at whole))

-- a whole item at the front is written there
front_written : (text : List ℕ) → 0 < length text → item_size text ≤ length text → IsWritten (front_item 0 text) (take (item_size text) text)
front_written [] some whole = absurd (omega arith)
front_written (b ∷ bs) some whole =
    elim (cases_eq b 254) [
      | inl e ↦ inr (long_front b bs e whole)
      | inr n ↦ inl (short_written b bs n whole)
    ]

-- a front that is no item is cut off
torn_short : (b : ℕ) (bs : List ℕ) → HasNoItem (b ∷ bs) → length (b ∷ bs) < item_size (b ∷ bs)
torn_short b bs none =
    let text = b ∷ bs in
    elim (cases_lt (length text) (item_size text)) [
      | inl short ↦ short
      | inr whole ↦ absurd (none (front_item 0 text) (take (item_size text) text) (drop (item_size text) text) (front_written text (omega arith) whole) (sym (take-append-drop (item_size text) text)))
    ]

pub one_cut : (items : List ItemValue) (offset end : ℕ) (text rest : List ℕ) → IsCut offset text items end rest → HasNoItem rest
    → items_at offset text ≡ map (λ item. Ok item) items ++ cut_off_at end rest
one_cut [] offset end text [] c n = rw (c.1, c.0) (items_end end)
one_cut [] offset end text (b ∷ bs) c n = rw (c.1, c.0) (items_short end (b ∷ bs) (omega arith) (torn_short b bs n))
one_cut (item ∷ items) offset end text rest (head, more, w, o, t, later) n =
    let size : item_size (head ++ more) ≡ length head = written_size item head more w in
    let pos : 0 < item_size (head ++ more) = size_pos (head ++ more) in
    let len : length (head ++ more) ≡ length head + length more = length-append head more in
    let front : front_item offset (head ++ more) ≡ item = written_front offset item head more w o in
    rw t (items_more offset (head ++ more) (omega arith) (omega arith)
    ∙ (rw (front, size, drop-append_seam head more) (ap (λ results. Ok item ∷ results) (one_cut items (offset + length head) end more rest later n))))

written_some : (item : ItemValue) (head : List ℕ) → IsWritten item head → 0 < length head
written_some item head w =
    elim w [
      | inl short ↦ (let e : length head ≡ suc (length item.bytes) = ap length short.2 in omega arith)
      | inr long ↦ (let e : length head ≡ suc (suc (suc (length item.bytes))) = ap length long.1.1 in omega arith)
    ]

-- what is too short for its first item has none
short_none : (text : List ℕ) → length text < item_size text → HasNoItem text
short_none text short item head more w e =
    let size : item_size (head ++ more) ≡ length head = written_size item head more w in
    let same : item_size text ≡ item_size (head ++ more) = ap item_size e in
    let len : length text ≡ length head + length more = ap length e ∙ length-append head more in
    omega arith

empty_none : HasNoItem []
empty_none item head more w e =
    let some : 0 < length head = written_some item head w in
    let len : 0 ≡ length head + length more = ap length e ∙ length-append head more in
    omega arith

cut_within : (n offset : ℕ) (text : List ℕ) → length text ≤ n → (items : List ItemValue) × (end : ℕ) × (rest : List ℕ) × IsCut offset text items end rest × HasNoItem rest
cut_within n offset [] l = ([], offset, [], (refl, refl), empty_none)
cut_within zero offset (b ∷ bs) l = absurd (omega arith)
cut_within (suc n) offset (b ∷ bs) l =
    let text = b ∷ bs in
    let size = item_size (b ∷ bs) in
    let pos : 0 < size = size_pos (b ∷ bs) in
    elim (cases_lt (length text) size) [
      | inl short ↦ ([], offset, text, (refl, refl), short_none text short)
      | inr whole ↦ (let left : length (drop size text) ≡ length text - size = length-drop size text in
          let more = cut_within n (offset + length (take size text)) (drop size text) (omega arith) in (
            front_item offset text ∷ more.0,
            more.1,
            more.2,
            (take size text, drop size text, front_written text (omega arith) whole, refl, sym (take-append-drop size text), more.3),
            more.4,
          ))
    ]

pub has_cut : (offset : ℕ) (text : List ℕ) → (items : List ItemValue) × (end : ℕ) × (rest : List ℕ) × IsCut offset text items end rest × HasNoItem rest
has_cut offset text = cut_within (length text) offset text (omega arith)
