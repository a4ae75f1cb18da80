-- The values of an image after its words were changed, and while they are.
use Rattle.std.proofs.lemmas.Grind.{common_steps}
use Rattle.std.proofs.Common.{◌≡◌, ◌∙◌, ℕ, ◌+◌, ◌<◌, refl, sym, ap, arith, List, [], ◌∷◌, ◌++◌, length, take, get_or, Option}
use Rattle.std.proofs.lemmas.List.{take_all, take_more}
use Rattle.page_turnover.specs.Words.{words}
use Rattle.page_turnover.specs.Steps.{Keeps, CommitsTurn}
use Rattle.page_turnover.specs.Value.{Target, Seal}
use Rattle.page_turnover.specs.Turn.{copies}
use Rattle.settings.specs.declared.change.Change.{Change}
use Rattle.settings.specs.Words.{words_of, IsChange, AreValues}
use Rattle.settings.specs.Settings.{changes_in, after, settings_of, changed, Same}
use Rattle.settings.specs.Copies.{all_copies}
use Rattle.settings.proofs.Changes.{absent, whole}
use Rattle.settings.proofs.Compacting.{all_of_them}
use Rattle.settings.proofs.Naming.{settings_of-is, changed-is}

pub same_words : (old new : List ℕ) → changes_in (words new) ≡ changes_in (words old) → Same (settings_of new) (settings_of old)
same_words old new e id l = settings_of-is new id ∙ rw e (sym (settings_of-is old id))

-- the words are as before
pub same_kept : (old new : List ℕ) → Keeps old new → Same (settings_of new) (settings_of old)
same_kept old new k = same_words old new (ap (λ (ws : List ℕ). changes_in ws) k.words_are)

pub changed_kept : (old new : List ℕ) (changes : List Change) → Keeps old new → changed new changes ≡ changed old changes
unfolding changed
changed_kept old new changes k = rw k.words_are refl

-- the values after some changes, where the values before are the same
pub changed_same : (old new : List ℕ) (changes : List Change) → Same (settings_of new) (settings_of old) → Same (changed new changes) (changed old changes)
changed_same old new changes s id l = sym (changed-is new changes id) ∙ ap (λ (v : Option (List ℕ)). after v changes id) (s id l) ∙ changed-is old changes id

pub take_next : (ws : List ℕ) (at : ℕ) → at < length ws → take at ws ++ get_or ws at 0 ∷ [] ≡ take (at + 1) ws
take_next ws at l = sym (take_more ws at 0 l)

-- one word more of a change
pub words_more : (old new first : List ℕ) (change : Change) (at word : ℕ) → words old ≡ first ++ take at (words_of change) → at < length (words_of change) → word ≡ get_or (words_of change) at 0 → words new ≡ words old ++ word ∷ []
    → words new ≡ first ++ take (at + 1) (words_of change)
words_more old new first change at word h1 h2 h3 h4 = grind (arith, common_steps, take_next)

begun : (image first : List ℕ) (change : Change) (at : ℕ) → IsChange change → words image ≡ first ++ take at (words_of change) → at < length (words_of change) → changes_in (words image) ≡ changes_in first
begun image first change at c e l = rw e (absent first change at c l)

-- it is not the last one: all values are as before
pub same_more : (old new first : List ℕ) (change : Change) (at : ℕ) → IsChange change → words old ≡ first ++ take at (words_of change) → words new ≡ first ++ take (at + 1) (words_of change) → at + 1 < length (words_of change) → Same (settings_of new) (settings_of old)
same_more old new first change at c e f l = same_words old new (begun new first change (at + 1) c f l ∙ sym (begun old first change at c e (omega arith)))

-- it is: the change is in force
pub stored_last : (old new first : List ℕ) (changes : List Change) (change : Change) (at : ℕ) → changes ≡ change ∷ [] → IsChange change → words old ≡ first ++ take at (words_of change) → words new ≡ first ++ take (at + 1) (words_of change) → at + 1 ≡ length (words_of change)
    → Same (settings_of new) (changed old changes)
unfolding settings_of changed
stored_last old new first changes change at o c e f l id m =
    let all : take (at + 1) (words_of change) ≡ words_of change = take_all (at + 1) (words_of change) (omega arith) in
    let n : changes_in (words new) ≡ changes_in first ++ change ∷ [] = rw (f, all) (whole first change c) in
    rw (n, begun old first change at c e (omega arith), o) refl

-- a compaction is committed: its copies are the words of all values
pub stored_turn : (old new : List ℕ) (changes : List Change) (target : Target) → AreValues (changed old changes) → copies old (Seal target) ≡ all_copies (changed old changes) → CommitsTurn old (Seal target) new → Same (settings_of new) (changed old changes)
stored_turn old new changes target v e c id l =
    let w : words new ≡ all_copies (changed old changes) = c.words_are ∙ e in
    settings_of-is new id ∙ rw w (all_of_them (changed old changes) id v l)
