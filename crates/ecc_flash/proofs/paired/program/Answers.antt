use Rattle.std.proofs.Common.{rules, inl, inr, arith, sym, ◌∙◌}
use Rattle.flash_model.proofs.ByMask.{no_program}
use Rattle.ecc_flash.specs.Model.{IsProgrammed}
use Rattle.ecc_flash.specs.Cut.{checked, marked}
use Rattle.ecc_flash.proofs.Operating.{IsAsked, took, both_written, nothing_first, torn_first, kept_then, meant_first, reads_first, meant_or_free, may_program, programs}
use Rattle.ecc_flash.proofs.Readings.{free_units, not_blank, not_zeros, some_is}
use Rattle.ecc_flash.proofs.paired.program.Goals as goal
use Rattle.ecc_flash.proofs.paired.program.Goals.{then-not-is_log_word-via-then-not-is_log_word, then-not-is_log_word-via-else-not-is_log_word+then-not-is_free, then-not-is_log_word-via-else-not-is_log_word+else-not-is_free+then-not-is_free-2}

pub returns-then-not-is_log_word-clause-outcome : goal.returns-then-not-is_log_word-clause-outcome
returns-then-not-is_log_word-clause-outcome g c = no_program _ c.args.page c.args.slot c.args.bytes

pub returns-in-Ok-write_unit-clause-kept : goal.returns-in-Ok-write_unit-clause-kept
returns-in-Ok-write_unit-clause-kept g c =
    let w : IsAsked _ _ c.args.page c.args.slot c.args.bytes = record { page = c.requires.in_pages; slot = c.requires.in_page; kept = c.requires.kept; word = grind arith; eight = record { eight = search rules; each = search rules }; first = c.is_free.ensures.0 c.if-not-is_free.false; second = c.is_free-else-not-is_free.ensures.0 c.if-not-is_free-2.false } in
    let t : IsProgrammed _ _ = took _ _ c.args.bytes w.first w.word c.write_unit.ensures.outcome c.in-Ok.ensures.read_back in
    kept_then _ _ _ c.args.page c.args.slot c.args.bytes (both_written _ _ _ _ c.args.page c.args.slot c.args.bytes w c.write_unit.ensures.others t c.write_unit-in-Ok.ensures.others (rw (← c.check_of_word.ensures) c.write_unit-in-Ok.ensures.outcome))

pub returns-in-Ok-write_unit-clause-outcome : goal.returns-in-Ok-write_unit-clause-outcome
returns-in-Ok-write_unit-clause-outcome g c =
    let w : IsAsked _ _ c.args.page c.args.slot c.args.bytes = record { page = c.requires.in_pages; slot = c.requires.in_page; kept = c.requires.kept; word = grind arith; eight = record { eight = search rules; each = search rules }; first = c.is_free.ensures.0 c.if-not-is_free.false; second = c.is_free-else-not-is_free.ensures.0 c.if-not-is_free-2.false } in
    let t : IsProgrammed _ _ = took _ _ c.args.bytes w.first w.word c.write_unit.ensures.outcome c.in-Ok.ensures.read_back in
    programs _ _ _ c.args.page c.args.slot c.args.bytes (both_written _ _ _ _ c.args.page c.args.slot c.args.bytes w c.write_unit.ensures.others t c.write_unit-in-Ok.ensures.others (rw (← c.check_of_word.ensures) c.write_unit-in-Ok.ensures.outcome)) (reads_first _ _ c.args.page c.args.slot _ c.in-Ok.ensures.read_back c.write_unit-in-Ok.ensures.others) (rw (← c.check_of_word.ensures) c.in-Ok-write_unit.ensures.read_back)

pub returns-in-Err-write_unit-clause-kept : goal.returns-in-Err-write_unit-clause-kept
returns-in-Err-write_unit-clause-kept g c =
    let w : IsAsked _ _ c.args.page c.args.slot c.args.bytes = record { page = c.requires.in_pages; slot = c.requires.in_page; kept = c.requires.kept; word = grind arith; eight = record { eight = search rules; each = search rules }; first = c.is_free.ensures.0 c.if-not-is_free.false; second = c.is_free-else-not-is_free.ensures.0 c.if-not-is_free-2.false } in
    let t : IsProgrammed _ _ = took _ _ c.args.bytes w.first w.word c.write_unit.ensures.outcome c.in-Ok.ensures.read_back in
    kept_then _ _ _ c.args.page c.args.slot c.args.bytes (both_written _ _ _ _ c.args.page c.args.slot c.args.bytes w c.write_unit.ensures.others t c.write_unit-in-Ok.ensures.others (rw (← c.check_of_word.ensures) c.write_unit-in-Ok.ensures.outcome))

pub returns-in-Err-write_unit-clause-outcome : goal.returns-in-Err-write_unit-clause-outcome
returns-in-Err-write_unit-clause-outcome g c =
    let w : IsAsked _ _ c.args.page c.args.slot c.args.bytes = record { page = c.requires.in_pages; slot = c.requires.in_page; kept = c.requires.kept; word = grind arith; eight = record { eight = search rules; each = search rules }; first = c.is_free.ensures.0 c.if-not-is_free.false; second = c.is_free-else-not-is_free.ensures.0 c.if-not-is_free-2.false } in
    let t : IsProgrammed _ _ = took _ _ c.args.bytes w.first w.word c.write_unit.ensures.outcome c.in-Ok.ensures.read_back in
    may_program _ _ _ c.args.page c.args.slot c.args.bytes (both_written _ _ _ _ c.args.page c.args.slot c.args.bytes w c.write_unit.ensures.others t c.write_unit-in-Ok.ensures.others (rw (← c.check_of_word.ensures) c.write_unit-in-Ok.ensures.outcome)) (inl (meant_first _ _ c.args.page c.args.slot c.args.bytes t c.write_unit-in-Ok.ensures.others))

pub returns-then-is_free-clause-outcome : goal.returns-then-is_free-clause-outcome
returns-then-is_free-clause-outcome g c =
    let w : IsAsked _ _ c.args.page c.args.slot c.args.bytes = record { page = c.requires.in_pages; slot = c.requires.in_page; kept = c.requires.kept; word = grind arith; eight = record { eight = search rules; each = search rules }; first = c.is_free.ensures.0 c.if-not-is_free.false; second = c.is_free-else-not-is_free.ensures.0 c.if-not-is_free-2.false } in
    may_program _ _ _ c.args.page c.args.slot c.args.bytes (nothing_first _ _ _ _ c.args.page c.args.slot c.args.bytes w c.write_unit.ensures.others (c.is_free-in-Err.ensures.0 c.if-is_free.true) c.program_unit-marked.ensures.others) (inr (reads_first _ _ c.args.page c.args.slot _ (c.is_free-in-Err.ensures.0 c.if-is_free.true) c.program_unit-marked.ensures.others))

pub returns-else-is_free-clause-outcome : goal.returns-else-is_free-clause-outcome
returns-else-is_free-clause-outcome g c =
    let w : IsAsked _ _ c.args.page c.args.slot c.args.bytes = record { page = c.requires.in_pages; slot = c.requires.in_page; kept = c.requires.kept; word = grind arith; eight = record { eight = search rules; each = search rules }; first = c.is_free.ensures.0 c.if-not-is_free.false; second = c.is_free-else-not-is_free.ensures.0 c.if-not-is_free-2.false } in
    may_program _ _ _ c.args.page c.args.slot c.args.bytes (torn_first _ _ _ c.args.page c.args.slot c.args.bytes w c.write_unit.ensures.others) (meant_or_free _ _ c.args.bytes w.first c.write_unit.ensures.outcome)

pub returns-then-not-is_log_word-clause-marked : goal.returns-then-not-is_log_word-clause-marked
returns-then-not-is_log_word-clause-marked g c word takes free =
    let both = free_units _ _ free in
    elim c.then-not-is_log_word.branch [
      | then-not-is_log_word-via-then-not-is_log_word w ↦ cc (w.if-not-is_log_word.true, c.is_log_word.ensures)
      | then-not-is_log_word-via-else-not-is_log_word+then-not-is_free w ↦ cc (w.if-not-is_free.true, w.is_free.ensures.1 both.0)
      | then-not-is_log_word-via-else-not-is_log_word+else-not-is_free+then-not-is_free-2 w ↦ cc (w.if-not-is_free-2.true, w.is_free-else-not-is_free.ensures.1 both.1)
    ]

pub returns-in-Ok-write_unit-clause-marked : goal.returns-in-Ok-write_unit-clause-marked
returns-in-Ok-write_unit-clause-marked g c word takes free =
    not_blank c.args.bytes word (some_is _ _ (sym (reads_first _ _ c.args.page c.args.slot _ c.in-Ok.ensures.read_back c.write_unit-in-Ok.ensures.others) ∙ (free_units _ _ free).0))

pub returns-in-Err-write_unit-clause-marked : goal.returns-in-Err-write_unit-clause-marked
returns-in-Err-write_unit-clause-marked g c word takes free =
    not_blank c.args.bytes word (some_is _ _ (sym (reads_first _ _ c.args.page c.args.slot _ c.in-Ok.ensures.read_back c.write_unit-in-Ok.ensures.others) ∙ (free_units _ _ free).0))

pub returns-then-is_free-clause-marked : goal.returns-then-is_free-clause-marked
returns-then-is_free-clause-marked g c word takes free = not_zeros (c.program_unit-marked.ensures.taken (c.write_unit.ensures.still_takes _ _ takes) (free_units _ _ free).1)

pub returns-else-is_free-clause-marked : goal.returns-else-is_free-clause-marked
returns-else-is_free-clause-marked g c word takes free = cc (c.if-is_free.false, c.is_free-in-Err.ensures.1 (free_units _ _ free).0)

pub returns-in-Ok-write_unit-clause-operated : goal.returns-in-Ok-write_unit-clause-operated
returns-in-Ok-write_unit-clause-operated g c =
    checked _ c.write_unit.ensures.operated c.in-Ok.ensures.read_back (rw (← c.check_of_word.ensures) c.write_unit-in-Ok.ensures.operated)

pub returns-in-Err-write_unit-clause-operated : goal.returns-in-Err-write_unit-clause-operated
returns-in-Err-write_unit-clause-operated g c =
    checked _ c.write_unit.ensures.operated c.in-Ok.ensures.read_back (rw (← c.check_of_word.ensures) c.write_unit-in-Ok.ensures.operated)

pub returns-then-is_free-clause-operated : goal.returns-then-is_free-clause-operated
returns-then-is_free-clause-operated g c =
    marked _ c.write_unit.ensures.operated (c.is_free-in-Err.ensures.0 c.if-is_free.true) c.program_unit-marked.ensures.operated

pub returns-then-not-is_log_word-clause-healthy : goal.returns-then-not-is_log_word-clause-healthy
returns-then-not-is_log_word-clause-healthy g c h word free =
    let both = free_units _ _ free in
    let no : ⊥ = elim c.then-not-is_log_word.branch [
      | then-not-is_log_word-via-then-not-is_log_word w ↦ cc (w.if-not-is_log_word.true, c.is_log_word.ensures)
      | then-not-is_log_word-via-else-not-is_log_word+then-not-is_free w ↦ cc (w.if-not-is_free.true, w.is_free.ensures.1 both.0)
      | then-not-is_log_word-via-else-not-is_log_word+else-not-is_free+then-not-is_free-2 w ↦ cc (w.if-not-is_free-2.true, w.is_free-else-not-is_free.ensures.1 both.1)
    ] in
    absurd no
