-- A look shows the code that the maker chose, and no standard keyboard shows it.
use Rattle.std.proofs.Common.{◌≡◌, ℕ, zero, suc, ◌<◌, ◌*◌, List, None, refl, sym, ◌∙◌, ap, arith}
use Rattle.std.specs.Prelude.{replicate, unwrap_or}
use Rattle.flash_model.proofs.Places.{page_count-blank, slot_at-blank}
use Rattle.flash_model.specs.Image.{slot_at}
use Rattle.layers.specs.Codes.{DefaultCodes}
use Rattle.layers.specs.Entries.{last_written, changed, commands_in, entry_in}
use Rattle.layers.specs.Standard.{standard}
use Rattle.records.proofs.SlotLemmas.{slot_of-blank}
use Rattle.page_turnover.proofs.Describing.{words_none_active}
use Rattle.page_turnover.specs.Active.{newer, newest, active, format}
use Rattle.page_turnover.specs.Header.{header_of}
use Rattle.keymap_store.specs.Keymap.{entries_of}
use Rattle.keyboard.specs.Calls.{keymap}
use Rattle.world.proofs.Promising.{promise}
use Rattle.world.specs.declared.event.Answer.{Answer}
use Rattle.world.specs.declared.event.Answer.TheVariants.{EntryIs}
use Rattle.world.specs.Promise.{Promise}
use Rattle.world.specs.Pad.{pad, blank_pages, shown_at_first}

-- ---- a blank flash has no active page

none_newest : (image : List ℕ) (n : ℕ) → ((page : ℕ) → page < n → slot_at image page 0 ≡ replicate 8 255) → newest image n ≡ None
unfolding newest newer header_of
none_newest image zero h = refl
none_newest image (suc n) h = rw (none_newest image n (λ page l. h page (omega (arith, l))), h n (omega arith), slot_of-blank) refl

pub none_active : (pages : ℕ) → active (replicate (4096 * pages) 255) ≡ None
unfolding active
none_active pages = ap (newest (replicate (4096 * pages) 255)) (page_count-blank pages) ∙ none_newest (replicate (4096 * pages) 255) pages (λ page l. slot_at-blank pages page 0 l (omega arith))

-- ---- so each entry is the default

pub at_default : (defaults : DefaultCodes) (pages layer key : ℕ) → keymap defaults (replicate (4096 * pages) 255) layer key ≡ defaults.at_first layer key
unfolding last_written changed commands_in entry_in entries_of
at_default defaults pages layer key =
    let image : List ℕ = replicate (4096 * pages) 255 in
    ap (λ words. entry_in defaults (unwrap_or (format image) 2) words layer key) (words_none_active image (none_active pages))

pub holds : (pages : ℕ) → Promise pad (blank_pages pages) (shown_at_first pages)
holds pages = promise pad (blank_pages pages) (shown_at_first pages) ((ap EntryIs (sym (at_default pad pages 0 0)), (refl, refl)), tt)

abbrev code_reported : Answer → ℕ
code_reported (EntryIs code) = code
code_reported _ = 0

not_both : (n : ℕ) → n ≡ 4 → 0x0005 ≡ n → ⊥
not_both n e f = omega (arith, e, f)

pub broken : (pages : ℕ) → Promise standard (blank_pages pages) (shown_at_first pages) → ⊥
broken pages h = not_both (keymap standard (replicate (4096 * pages) 255) 0 0) (at_default standard pages 0 0) (ap code_reported h.answered.0.0)
