-- A call that the machine refuses leaves every word and byte as it was, but for the answer.
-- Assumes nothing.
use mathlib.Core.Path.{◌≡◌, ap}
use mathlib.Core.List.{List, [], ◌∷◌}
use Prim.Native.Nat.{ℕ, suc}
use borrow.Author.Tests.{eq-eqb}
use lib.ListN.{length}
use Rattle.machine.specs.Calls.{fresh_refusal, fresh_of, run_refusal, run_of}
use Rattle.state.specs.Words.{state_of, words_of, settings_of}
use Rattle.state.proofs.Words as state
use Rattle.nios2c.specs.Words.{afresh, fresh_words, ran, run_words}

-- the words of a state that was taken from words
pub back : (l : List ℕ) → length l ≡ 37 → words_of (state_of l) ≡ l
back = state.back

module _ (read written state settings : List ℕ) (n : ℕ) (e : length state ≡ 37) (f : length settings ≡ 6) where
  pub fresh_refused : (len : ℕ) → fresh_refusal len (length read) (length written) (settings_of settings) ≡ suc n
      → fresh_words len read written state settings ≡ afresh (suc n) read written state
  unfolding fresh_words fresh_of
  fresh_refused len h = rw (eq-eqb (length state) 37 e, eq-eqb (length settings) 6 f, h) (ap (afresh (suc n) read written) (back state e))

  pub run_refused : (m : List ℕ) (lines budget : ℕ) (answer : List ℕ) → length answer ≡ 2
      → run_refusal (length m) (length read) (length written) (settings_of settings) (state_of state) budget ≡ suc n
      → run_words m read written state settings lines budget answer ≡ ran m read written state (suc n ∷ 0 ∷ [])
  unfolding run_words run_of
  run_refused m lines budget answer two h =
      rw (eq-eqb (length answer) 2 two, eq-eqb (length state) 37 e, eq-eqb (length settings) 6 f, h) (ap (λ (l : List ℕ). ran m read written l (suc n ∷ 0 ∷ [])) (back state e))
