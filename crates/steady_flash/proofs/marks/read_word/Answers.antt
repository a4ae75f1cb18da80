use Rattle.std.proofs.Common.{rules, arith, ◌≡◌, ◌∙◌, sym, get_or, [], ◌∷◌}
use Rattle.std.specs.Int.{from_le_bytes, w32}
use Rattle.steady_flash.specs.Cells.{IsEight}
use Rattle.steady_flash.specs.Claims.{word_of}
use Rattle.steady_flash.proofs.Words.{claim_of_word, word_of_four, no_claim, same_word}
use Rattle.steady_flash.proofs.marks.read_word.Goals.{else-eq-via-then-eq+then-place-gt1+else-place, else-eq-via-then-eq+else-place-gt1, else-eq-via-else-eq}
use Rattle.steady_flash.proofs.marks.read_word.Goals as goal

pub returns-then-place-clause-claims : goal.returns-then-place-clause-claims
returns-then-place-clause-claims c =
    let e : c.mark_bytes.result ≡ c.args.bytes = search rules in
    claim_of_word c.from_le_bytes-word.result c.args.bytes (rw e at c.mark_bytes.ensures.marked) (rw e at c.mark_bytes.ensures.word)

pub returns-else-eq-clause-found : goal.returns-else-eq-clause-found
returns-else-eq-clause-found c = λ pages at page number b m f l k.
    let eight : IsEight c.args.bytes = record { eight = search rules; each = search rules } in
    let word : c.from_le_bytes-word.result ≡ from_le_bytes w32 (get_or c.args.bytes 0 0 ∷ get_or c.args.bytes 1 0 ∷ get_or c.args.bytes 2 0 ∷ get_or c.args.bytes 3 0 ∷ []) = c.from_le_bytes-word.ensures in
    let says : word_of c.args.bytes ≡ c.from_le_bytes-word.result = word_of_four c.args.bytes eight ∙ sym word in
    let placed = no_claim c.from_le_bytes-word.result pages at page number c.args.bytes says b m f l k in
    let same : c.mark_bytes.result ≡ c.args.bytes = same_word c.mark_bytes.result c.args.bytes c.mark_bytes.ensures.marked k.word (c.mark_bytes.ensures.word ∙ sym says) in
    elim c.else-eq.branch [
      | else-eq-via-then-eq+then-place-gt1+else-place w ↦ absurd (omega (arith, placed.1, w.if-place.false))
      | else-eq-via-then-eq+else-place-gt1 w ↦ absurd (omega (arith, placed.0, w.if-place-gt1.false))
      | else-eq-via-else-eq w ↦ absurd (search rules)
    ]
