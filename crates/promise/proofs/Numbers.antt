-- The number of the first test that holds.
-- Assumes nothing.
use mathlib.Core.Path.{◌≡◌, refl}
use mathlib.Core.Logic.{inl, inr, ◌↔◌}
use mathlib.Core.Bool.{true, false}
use mathlib.Core.List.{List, [], ◌∷◌}
use Prim.Native.Nat.{ℕ}
use Rattle.machine.specs.Calls.{Test, test, first}
use Rattle.promise.specs.Calls.{Given}

first_given : (l : List Test) → Given l (first l)
first_given [] = refl
first_given (test k true ∷ rest) = inl (refl, refl)
first_given (test k false ∷ rest) = inr (refl, first_given rest)

given_first : (l : List Test) (n : ℕ) → Given l n → n ≡ first l
given_first [] n e = e
given_first (test k b ∷ rest) n (inl x) = rw x.0 x.1
given_first (test k b ∷ rest) n (inr x) = rw x.0 (given_first rest n x.1)

pub in_order : (l : List Test) (n : ℕ) → (n ≡ first l) ↔ Given l n
in_order l n = ((λ e. rw (e) (first_given l)), given_first l n)
