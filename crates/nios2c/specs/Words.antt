-- The exported calls: the lengths of the words that they are lent, and what each call leaves of all that it is lent.
-- Assumes nothing.
use Rattle.std.specs.Prelude.{Bool, ◌&&◌, cond, List, [], ◌∷◌, ℕ, ◌+◌, eqb, length}
use Rattle.maps.specs.Pair.{pair}
use Rattle.state.specs.declared.State.{State}
use Rattle.state.specs.Words.{state_of, words_of, settings_of}
use Rattle.trace.specs.Maps.{Maps}
use Rattle.trace.specs.Machine.{Answer}
use Rattle.machine.specs.Calls.{Started, fresh_of, run_of, Verdict, Refused, Yes, No, edit_of}

-- ---- lengths

-- the lengths of a state's words and of settings
abbrev pub fits : ℕ → ℕ → Bool
fits state settings = eqb state 37 && eqb settings 6

-- ---- a fresh start

pub record Fresh : Type 0 where
  pub number : ℕ
  pub maps : Maps
  pub state : List ℕ

-- the machine's answer, as words; of a refused call the state is that of before
abbrev pub fresh_given : Started → Fresh
fresh_given x = record { number = x.number; maps = x.maps; state = words_of x.state }

-- what the code hands back and leaves, as one value
abbrev pub afresh : ℕ → List ℕ → List ℕ → List ℕ → Fresh
afresh number read written state = record { number = number; maps = pair read written; state = state }

-- 255, and nothing changed, where the lengths do not fit
unfoldable pub fresh_words : ℕ → List ℕ → List ℕ → List ℕ → List ℕ → Fresh
fresh_words len read written state settings =
    cond (fits (length state) (length settings))
    (fresh_given (fresh_of len read written (state_of state) (settings_of settings)))
    (afresh 255 read written state)

-- ---- a run

pub record Ran : Type 0 where
  pub memory : List ℕ
  pub maps : Maps
  pub state : List ℕ
  pub answer : List ℕ

-- the machine's answer, as words
abbrev pub ran_given : Answer ℕ State → Ran
ran_given x = record { memory = x.memory; maps = x.maps; state = words_of x.config; answer = x.reason ∷ x.steps ∷ [] }

-- what the code leaves, as one value
abbrev pub ran : List ℕ → List ℕ → List ℕ → List ℕ → List ℕ → Ran
ran m read written state answer = record { memory = m; maps = pair read written; state = state; answer = answer }

-- nothing changed where the answer is not 2 words; 255 and no step, where the other lengths do not fit
unfoldable pub run_words : List ℕ → List ℕ → List ℕ → List ℕ → List ℕ → ℕ → ℕ → List ℕ → Ran
run_words m read written state settings lines budget answer =
    cond (eqb (length answer) 2)
    (cond (fits (length state) (length settings))
    (ran_given (run_of m read written (state_of state) (settings_of settings) lines budget))
    (ran m read written state (255 ∷ 0 ∷ [])))
    (ran m read written state answer)

-- ---- the edit question

-- 1 for yes, 0 for no, and from 257 on a refusal
abbrev pub number_of : Verdict → ℕ
number_of (Refused n) = 256 + n
number_of Yes = 1
number_of No = 0

abbrev pub edit_words : ℕ → List ℕ → ℕ → ℕ → ℕ
edit_words len read start end = number_of (edit_of len read start end)
