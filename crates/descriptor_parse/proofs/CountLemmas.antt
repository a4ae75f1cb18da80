-- How many usages ranges have.
use Rattle.std.proofs.Common.{◌≡◌, ℕ, zero, suc, ◌+◌, ◌-◌, ◌*◌, ◌/◌, ◌%◌, ◌^◌, ◌<◌, ◌≤◌, List, [], ◌∷◌, ◌++◌, append_assoc, length, take, drop, get_or, false, refl, arith, sym, ◌∙◌, ap, Some, None, length-append, map}
use Rattle.std.specs.Prelude.{All, Option, min, unwrap_or, slice_get, slice_index, ◌==◌, if◌then◌else◌}
use Rattle.std.proofs.lemmas.Bool.{ne_eqb, lt-ltb}
use Rattle.std.proofs.lemmas.Option.{slice_get_past, slice_get-get_or}
use Rattle.std.proofs.lemmas.List.{take-append-drop, take-append-le, take_all, take_more, map-append}
use Rattle.std.proofs.Math.Seq.{drop-append_seam}
use Rattle.descriptor_parse.specs.declared.field.Field.{Field}
use Rattle.descriptor_parse.specs.declared.locals.UsageRange.{UsageRange}
use Rattle.descriptor_parse.specs.Descriptor.{count_up, usage_list, usage_of_place}
use Rattle.descriptor_parse.specs.Counts.{AreCounts}
use Rattle.descriptor_parse.specs.representation.CountsRefine.{count_with, wrapped_counts, AreWrapped, AreCountsFrom}
use Rattle.descriptor_parse.specs.representation.Parts.{parts_from, AreEnds}
use Rattle.descriptor_parse.specs.WellFormed.{IsRange, AreFew}
use Rattle.descriptor_parse.proofs.PartLemmas.{first_range, ends_within, start_is, field_part, no_field_part}
use Rattle.descriptor_parse.proofs.UsageLemmas.{length_up, list_cons, list_append, behind, next_range, one_more, within_first, no_usages}

-- ---- the usages up to a range

one_len : (range : ℕ × ℕ) → length (usage_list (range ∷ [])) ≡ range.1 + 1 - range.0
one_len range =
    let up : length (count_up range.0 (range.1 + 1 - range.0)) ≡ range.1 + 1 - range.0 = length_up range.0 (range.1 + 1 - range.0) in
    let none : length (usage_list []) ≡ 0 = no_usages in
    ap length (list_cons range []) ∙ length-append (count_up range.0 (range.1 + 1 - range.0)) (usage_list []) ∙ omega arith

cons_len : (range : ℕ × ℕ) (more : List (ℕ × ℕ)) → length (usage_list (range ∷ more)) ≡ range.1 + 1 - range.0 + length (usage_list more)
cons_len range more =
    let up : length (count_up range.0 (range.1 + 1 - range.0)) ≡ range.1 + 1 - range.0 = length_up range.0 (range.1 + 1 - range.0) in
    ap length (list_cons range more) ∙ length-append (count_up range.0 (range.1 + 1 - range.0)) (usage_list more) ∙ ap (λ n. n + length (usage_list more)) up

pub len_step : (ranges : List (ℕ × ℕ)) (i : ℕ) → i < length ranges
    → length (usage_list (take (i + 1) ranges)) ≡ length (usage_list (take i ranges)) + ((get_or ranges i (0, 0)).1 + 1 - (get_or ranges i (0, 0)).0)
len_step ranges i l =
    ap (λ rs. length (usage_list rs)) (one_more ranges i l) ∙ ap length (list_append (take i ranges) (get_or ranges i (0, 0) ∷ []))
    ∙ length-append (usage_list (take i ranges)) (usage_list (get_or ranges i (0, 0) ∷ [])) ∙ ap (λ n. length (usage_list (take i ranges)) + n) (one_len (get_or ranges i (0, 0)))

-- a usage of a range
pub in_range : (ranges : List (ℕ × ℕ)) (i number : ℕ) → i < length ranges → length (usage_list (take i ranges)) ≤ number
    → number < length (usage_list (take (i + 1) ranges))
    → slice_get (usage_list ranges) number ≡ Some ((get_or ranges i (0, 0)).0 + (number - length (usage_list (take i ranges))))
in_range ranges i number l low high =
    let front = usage_list (take i ranges) in
    let split : usage_list ranges ≡ front ++ usage_list (drop i ranges) = sym (ap usage_list (take-append-drop i ranges)) ∙ list_append (take i ranges) (drop i ranges) in
    let step : length (usage_list (take (i + 1) ranges)) ≡ length front + ((get_or ranges i (0, 0)).1 + 1 - (get_or ranges i (0, 0)).0) = len_step ranges i l in
    let place : number ≡ length front + (number - length front) = omega arith in
    ap (λ us. slice_get us number) split ∙ ap (slice_get (front ++ usage_list (drop i ranges))) place
    ∙ behind front (usage_list (drop i ranges)) (number - length front) ∙ ap (λ rs. slice_get (usage_list rs) (number - length front)) (next_range ranges i l)
    ∙ within_first (get_or ranges i (0, 0)).0 (get_or ranges i (0, 0)).1 (drop (i + 1) ranges) (number - length front) (omega arith) (omega arith)

-- no usage past the last range
pub past_ranges : (ranges : List (ℕ × ℕ)) (i number : ℕ) → length ranges ≤ i → length (usage_list (take i ranges)) ≤ number → slice_get (usage_list ranges) number ≡ None
past_ranges ranges i number l high =
    let all : take i ranges ≡ ranges = take_all i ranges l in
    slice_get_past (usage_list ranges) number (rw all at high)

-- the usages before a range, by the counts
pub count_before : (ranges : List (ℕ × ℕ)) (counts : List ℕ) (place : ℕ) → AreCounts ranges counts → place ≤ length ranges
    → (if place == 0 then 0 else slice_index counts (place - 1)) ≡ length (usage_list (take place ranges))
count_before ranges counts zero c l = sym no_usages
count_before ranges counts (suc place) c l =
    let back : suc place - 1 ≡ place = omega arith in
    let on : place + 1 ≡ suc place = omega arith in
    rw (ne_eqb (suc place) 0 (λ e. omega arith), back) (c.1 place (omega arith) ∙ ap (λ n. length (usage_list (take n ranges))) on)

-- ---- the counts in 32 bits are exact

pub wrapped_len : (n : ℕ) (ranges : List (ℕ × ℕ)) → length (wrapped_counts n ranges) ≡ length ranges
unfolding wrapped_counts
wrapped_len n [] = refl
wrapped_len n (range ∷ ranges) = ap suc (wrapped_len (count_with n range) ranges)

count_exact : (n : ℕ) (range : ℕ × ℕ) → IsRange range → n + 65536 < 2 ^ 32 → (count_with n range ≡ n + (range.1 + 1 - range.0)) × (range.1 + 1 - range.0 ≤ 65536)
count_exact n range r few =
    let order : range.0 ≤ range.1 = r.order in
    let last : range.1 < 2 ^ 32 = r.last in
    let page : range.0 / 65536 ≡ range.1 / 65536 = r.page in
    let size : range.1 - range.0 < 65536 = omega arith in
    let less : (range.1 + (2 ^ 32 - range.0)) % 2 ^ 32 ≡ range.1 - range.0 = omega arith in
    let sum : (n + (range.1 - range.0)) % 2 ^ 32 ≡ n + (range.1 - range.0) = omega arith in
    (rw (less, sum) (omega arith), omega arith)

wrapped_at : (n : ℕ) (ranges : List (ℕ × ℕ)) → All IsRange ranges → n + 65536 * length ranges < 2 ^ 32 → (i : ℕ) → i < length ranges
    → get_or (wrapped_counts n ranges) i 0 ≡ n + length (usage_list (take (i + 1) ranges))
unfolding wrapped_counts
wrapped_at n [] a few i l = absurd (omega arith)
wrapped_at n (range ∷ ranges) a few zero l =
    let exact = count_exact n range (a 0 (0, 0) (omega arith)) (omega arith) in
    exact.0 ∙ ap (λ m. n + m) (sym (one_len range))
wrapped_at n (range ∷ ranges) a few (suc i) l =
    let exact = count_exact n range (a 0 (0, 0) (omega arith)) (omega arith) in
    let same : count_with n range ≡ n + (range.1 + 1 - range.0) = exact.0 in
    let size : range.1 + 1 - range.0 ≤ 65536 = exact.1 in
    let on : suc i + 1 ≡ suc (i + 1) = omega arith in
    let more : length (usage_list (range ∷ take (i + 1) ranges)) ≡ range.1 + 1 - range.0 + length (usage_list (take (i + 1) ranges)) = cons_len range (take (i + 1) ranges) in
    rw on (wrapped_at (count_with n range) ranges (λ k d m. a (suc k) d (omega arith)) (omega arith) i (omega arith) ∙ omega arith)

exact_counts : (ranges : List (ℕ × ℕ)) (counts : List ℕ) → All IsRange ranges → AreFew ranges → counts ≡ wrapped_counts 0 ranges → AreCounts ranges counts
exact_counts ranges counts a few e = (ap length e ∙ wrapped_len 0 ranges, λ i l. ap (λ cs. get_or cs i 0) e ∙ wrapped_at 0 ranges a (omega arith) i l ∙ omega arith)

pub exact_from : (start : ℕ) (ends : List ℕ) (ranges : List (ℕ × ℕ)) (counts : List ℕ) → All (All IsRange) (parts_from start ends ranges)
    → All AreFew (parts_from start ends ranges) → AreWrapped start ends ranges counts → AreCountsFrom start ends ranges counts
unfolding parts_from
exact_from start [] ranges counts a few w = tt
exact_from start (end ∷ ends) ranges counts a few w = (
  exact_counts (drop start (take end ranges)) (drop start (take end counts)) (a 0 [] (omega arith)) (few 0 [] (omega arith)) w.0,
  exact_from end ends ranges counts (λ k d l. a (suc k) d (omega arith)) (λ k d l. few (suc k) d (omega arith)) w.1,
)

-- ---- one range more

-- the count after the last range
abbrev pub last_count : ℕ → List (ℕ × ℕ) → ℕ
last_count n [] = n
last_count n (range ∷ ranges) = last_count (count_with n range) ranges

pub wrapped_more : (n : ℕ) (ranges : List (ℕ × ℕ)) (range : ℕ × ℕ) → wrapped_counts n (ranges ++ range ∷ []) ≡ wrapped_counts n ranges ++ count_with (last_count n ranges) range ∷ []
unfolding wrapped_counts
wrapped_more n [] range = refl
wrapped_more n (first ∷ ranges) range = ap (λ (cs : List ℕ). count_with n first ∷ cs) (wrapped_more (count_with n first) ranges range)

pub last_more : (n : ℕ) (ranges : List (ℕ × ℕ)) (range : ℕ × ℕ) → last_count n (ranges ++ range ∷ []) ≡ count_with (last_count n ranges) range
last_more n [] range = refl
last_more n (first ∷ ranges) range = last_more (count_with n first) ranges range

-- ---- one part more

pub drop_front : (xs ys : List ℕ) (n : ℕ) → n ≡ length xs → drop n (xs ++ ys) ≡ ys
drop_front xs ys n e = rw e (drop-append_seam xs ys)

pub counts_more : (start : ℕ) (ends : List ℕ) (ranges more : List (ℕ × ℕ)) (counts : List ℕ) → AreEnds start ends (length ranges) → length counts ≡ length ranges
    → AreWrapped start ends ranges counts
    → AreWrapped start (ends ++ (length ranges + length more) ∷ []) (ranges ++ more) (counts ++ wrapped_counts 0 more)
counts_more start [] ranges more counts e l w =
    let total = length ranges + length more in
    let rs : take total (ranges ++ more) ≡ ranges ++ more = take_all total (ranges ++ more) (omega (arith, length-append ranges more)) in
    let cs : take total (counts ++ wrapped_counts 0 more) ≡ counts ++ wrapped_counts 0 more =
    take_all total (counts ++ wrapped_counts 0 more) (omega (arith, length-append counts (wrapped_counts 0 more), wrapped_len 0 more)) in
    (rw (rs, cs) (drop_front counts (wrapped_counts 0 more) start (e ∙ sym l) ∙ sym (ap (wrapped_counts 0) (rw e (drop-append_seam ranges more)))), tt)
counts_more start (end ∷ ends) ranges more counts e l w =
    let within : end ≤ length ranges = ends_within end ends (length ranges) e.1 in
    let rs : take end (ranges ++ more) ≡ take end ranges = take-append-le end ranges more within in
    let cs : take end (counts ++ wrapped_counts 0 more) ≡ take end counts = take-append-le end counts (wrapped_counts 0 more) (omega arith) in
    (rw (rs, cs) w.0, counts_more end ends ranges more counts e.1 l w.1)

-- ---- the counts of a field

pub counts_at : (start : ℕ) (ends : List ℕ) (ranges : List (ℕ × ℕ)) (counts : List ℕ) (place end : ℕ) → slice_get ends place ≡ Some end
    → AreCountsFrom start ends ranges counts → AreCounts (drop (first_range start ends place) (take end ranges)) (drop (first_range start ends place) (take end counts))
counts_at start [] ranges counts place end e c = cc
counts_at start (first ∷ ends) ranges counts zero end e c = let same : first ≡ end = cc in rw same at c.0
counts_at start (first ∷ ends) ranges counts (suc zero) end e c = counts_at first ends ranges counts zero end e c.1
counts_at start (first ∷ ends) ranges counts (suc (suc place)) end e c = counts_at first ends ranges counts (suc place) end e c.1

-- the usages of all ranges
pub all_counted : (ranges : List (ℕ × ℕ)) (counts : List ℕ) → AreCounts ranges counts
    → (if length counts == 0 then 0 else slice_index counts (length counts - 1)) ≡ length (usage_list ranges)
all_counted ranges counts c =
    let all : take (length counts) ranges ≡ ranges = take_all (length counts) ranges (omega (arith, c.0)) in
    count_before ranges counts (length counts) c (omega (arith, c.0)) ∙ ap (λ rs. length (usage_list rs)) all

-- ---- the usage of a place

pub place_within : (field : Field) (usages : List ℕ) (place all last : ℕ) (found : Option ℕ) → field.array ≡ false → place < field.count → all ≡ length usages
    → last ≡ min place (all - 1) → found ≡ slice_get usages last → found ≡ usage_of_place field usages place
place_within field usages place all last found a l e m f = rw (a, lt-ltb place field.count l) (f ∙ ap (slice_get usages) (m ∙ ap (λ n. min place (n - 1)) e))

pub field_counts : (ends : List ℕ) (ranges : List (ℕ × ℕ)) (counts : List ℕ) (place start end : ℕ) → place < length ends → end ≡ get_or ends place end
    → start ≡ (if place == 0 then 0 else slice_index ends (place - 1)) → AreCountsFrom 0 ends ranges counts
    → AreCounts (unwrap_or (slice_get (parts_from 0 ends ranges) place) []) (drop start (take end counts))
field_counts ends ranges counts place start end l e s c =
    let got : slice_get ends place ≡ Some end = slice_get-get_or ends place end l ∙ ap Some (sym e) in
    let at : start ≡ first_range 0 ends place = s ∙ start_is ends place in
    rw (← field_part ends ranges place start end l e s, at) (counts_at 0 ends ranges counts place end got c)

pub no_field_counts : (ends : List ℕ) (ranges : List (ℕ × ℕ)) (place : ℕ) → length ends ≤ place → AreCounts (unwrap_or (slice_get (parts_from 0 ends ranges) place) []) []
no_field_counts ends ranges place l = rw (← no_field_part ends ranges place l) (refl, λ i m. absurd (omega arith))

-- ---- the parser's loop

pub ranged_step : (f : UsageRange → ℕ × ℕ) (usages : List UsageRange) (i : ℕ) (d : UsageRange) (old items now : List (ℕ × ℕ)) (range : ℕ × ℕ) → i < length usages
    → items ≡ old ++ map f (take i usages) → range ≡ f (get_or usages i d) → now ≡ items ++ range ∷ [] → now ≡ old ++ map f (take (i + 1) usages)
ranged_step f usages i d old items now range l e r m =
    let more : map f (take (i + 1) usages) ≡ map f (take i usages) ++ f (get_or usages i d) ∷ [] = ap (map f) (take_more usages i d l) ∙ map-append f (take i usages) (get_or usages i d ∷ []) in
    m ∙ ap (λ xs. xs ++ range ∷ []) e ∙ append_assoc old (map f (take i usages)) (range ∷ []) ∙ ap (λ x. old ++ (map f (take i usages) ++ x ∷ [])) r ∙ ap (λ xs. old ++ xs) (sym more)

pub counted_step : (f : UsageRange → ℕ × ℕ) (usages : List UsageRange) (i : ℕ) (d : UsageRange) (old items now : List ℕ) (count next : ℕ) → i < length usages
    → items ≡ old ++ wrapped_counts 0 (map f (take i usages)) → count ≡ last_count 0 (map f (take i usages)) → next ≡ count_with count (f (get_or usages i d))
    → now ≡ items ++ next ∷ []
    → (now ≡ old ++ wrapped_counts 0 (map f (take (i + 1) usages))) × (next ≡ last_count 0 (map f (take (i + 1) usages)))
counted_step f usages i d old items now count next l e c n m =
    let front = map f (take i usages) in
    let last = f (get_or usages i d) in
    let more : map f (take (i + 1) usages) ≡ front ++ last ∷ [] = ap (map f) (take_more usages i d l) ∙ map-append f (take i usages) (get_or usages i d ∷ []) in
    let new : next ≡ count_with (last_count 0 front) last = n ∙ ap (λ k. count_with k last) c in (
      m ∙ ap (λ xs. xs ++ next ∷ []) e ∙ append_assoc old (wrapped_counts 0 front) (next ∷ []) ∙ ap (λ k. old ++ (wrapped_counts 0 front ++ k ∷ [])) new
          ∙ ap (λ xs. old ++ xs) (sym (wrapped_more 0 front last) ∙ sym (ap (wrapped_counts 0) more)),
      new ∙ sym (last_more 0 front last) ∙ sym (ap (last_count 0) more),
    )

-- ---- by halves

pub found_none : (ranges : List (ℕ × ℕ)) (counts : List ℕ) (place number : ℕ) → AreCounts ranges counts → place ≤ length counts → length ranges ≤ place
    → (if place == 0 then 0 else slice_index counts (place - 1)) ≤ number → None ≡ slice_get (usage_list ranges) number
found_none ranges counts place number c within past below =
    let before : (if place == 0 then 0 else slice_index counts (place - 1)) ≡ length (usage_list (take place ranges)) = count_before ranges counts place c (omega (arith, c.0)) in
    sym (past_ranges ranges place number past (rw before at below))

-- a usage of a range, counted from the range's last
pub found_some : (ranges : List (ℕ × ℕ)) (counts : List ℕ) (place number : ℕ) → AreCounts ranges counts → place < length ranges
    → (if place == 0 then 0 else slice_index counts (place - 1)) ≤ number → number < slice_index counts place
    → (slice_index counts place - number - 1 ≤ (get_or ranges place (0, 0)).1)
    × (Some ((get_or ranges place (0, 0)).1 - (slice_index counts place - number - 1)) ≡ slice_get (usage_list ranges) number)
found_some ranges counts place number c l low high =
    let before : (if place == 0 then 0 else slice_index counts (place - 1)) ≡ length (usage_list (take place ranges)) = count_before ranges counts place c (omega arith) in
    let front : length (usage_list (take place ranges)) ≤ number = rw before at low in
    let up : slice_index counts place ≡ length (usage_list (take (place + 1) ranges)) = c.1 place l in
    let step : length (usage_list (take (place + 1) ranges)) ≡ length (usage_list (take place ranges)) + ((get_or ranges place (0, 0)).1 + 1 - (get_or ranges place (0, 0)).0) =
    len_step ranges place l in
    let same : (get_or ranges place (0, 0)).1 - (slice_index counts place - number - 1) ≡ (get_or ranges place (0, 0)).0 + (number - length (usage_list (take place ranges))) =
    omega arith in
    (omega arith, ap Some same ∙ sym (in_range ranges place number l front (omega arith)))

pub found_first : (ranges : List (ℕ × ℕ)) (number : ℕ) → 0 < length ranges → (get_or ranges 0 (0, 0)).0 ≤ (get_or ranges 0 (0, 0)).1
    → number ≤ (get_or ranges 0 (0, 0)).1 - (get_or ranges 0 (0, 0)).0 → Some ((get_or ranges 0 (0, 0)).0 + number) ≡ slice_get (usage_list ranges) number
found_first ranges number l o m =
    sym (ap (λ rs. slice_get (usage_list rs) number) (next_range ranges 0 l) ∙ within_first _ _ (drop 1 ranges) number o (omega arith))
