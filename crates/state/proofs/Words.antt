-- A state that was taken from words gives back those words.
-- Assumes nothing.
use mathlib.Core.Path.{◌≡◌, sym, ◌∙◌}
use mathlib.Core.List.{List, append-nil}
use Prim.Native.Nat.{ℕ}
use native.Mathlib.Omega.{arith}
use native.Mathlib.Nat.{le_of_eq}
use lib.ListN.{length, drop_of_length-le}
use lib.Seq.{sets-eq, set-get_or}
use Rattle.state.specs.Words.{state_length, core_of, core_words, state_of, words_of}

-- the rest of the state is stored, word by word, where it was read
pub back : (l : List ℕ) → length l ≡ state_length → words_of (state_of l) ≡ l
back l e =
    sym (sets-eq (core_words (core_of l)) l 32 (omega arith) ∙ rw (drop_of_length-le l (le_of_eq e), append-nil))
    ∙ rw (set-get_or l 32 0, set-get_or l 33 0, set-get_or l 34 0, set-get_or l 35 0, set-get_or l 36 0)
