-- A write of one register, by whether that is register 0.
-- Assumes nothing.
use mathlib.Core.Path.{◌≡◌, sym, ap, ◌∙◌}
use mathlib.Core.Logic.{by_cases, ◌≢◌}
use mathlib.Core.List.{List}
use Prim.Native.Nat.{ℕ, ◌%◌}
use native.Mathlib.Decide.{dec_lt}
use native.Mathlib.Omega.{arith}
use borrow.Author.Tests.{eq-eqb, ne_eqb}
use lib.ListN.{length, get_or, set}
use lib.Seq.{get_or-set_same, set_out}
use Rattle.state.specs.State.{write}

module _ (r : List ℕ) (i v : ℕ) where
  pub write_none : i % 32 ≡ 0 → write r i v ≡ r
  unfolding write
  write_none e = rw (eq-eqb (i % 32) 0 e)

  pub write_one : i % 32 ≢ 0 → write r i v ≡ set r (i % 32) v
  unfolding write
  write_one f = rw (ne_eqb (i % 32) 0 f)

  -- to store back the one register that was written is to write it
  pub taken_back : (after : List ℕ) → after ≡ write r i v → i % 32 ≢ 0 → set r (i % 32) (get_or after (i % 32) 0) ≡ write r i v
  taken_back after e f = rw (e, write_one f) (by_cases (dec_lt (i % 32) (length r))
      (λ h. ap (set r (i % 32)) (get_or-set_same r (i % 32) v 0 h))
      (λ g. set_out r (i % 32) _ (omega arith) ∙ sym (set_out r (i % 32) v (omega arith))))
