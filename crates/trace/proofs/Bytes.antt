-- Numbers read from, and put into, two memories that agree.
-- Assumes nothing.
use mathlib.Core.Path.{◌≡◌, refl, sym, ap, ap₂, ◌∙◌}
use mathlib.Core.Logic.{◌⊎◌, inl, inr, by_cases}
use mathlib.Core.List.{List}
use Prim.Native.Nat.{ℕ, zero, suc, ◌+◌, ◌*◌, ◌/◌, ◌%◌, ◌≤◌}
use native.Mathlib.Omega.{arith}
use native.Mathlib.Decide.{ℕ_discrete, dec_lt}
use lib.ListN.{length, get_or, set, length-set, get_or-eq_default}
use lib.Seq.{get_or-set_same, get_or-set_other}
use Rattle.trace.specs.Access.{Access, reads, stores, each, Stored, ReadFirst, number, put}
use Rattle.trace.proofs.Accesses.{no_store, stores_one}

-- the byte k is the same in both
abbrev pub Same : List ℕ → List ℕ → ℕ → Type 0
Same m m' k = get_or m k 0 ≡ get_or m' k 0

-- and so is each byte that the list reads first
abbrev pub Agree : List ℕ → List ℕ → List Access → Type 0
Agree m m' l = (k : ℕ) → ReadFirst k l → Same m m' k

pub same_number : (m m' : List ℕ) (a w : ℕ) → Agree m m' (each reads a w) → number m a w ≡ number m' a w
same_number m m' a zero g = refl
same_number m m' a (suc w) g = ap₂ (λ x y. x + 256 * y) (g a (inl refl)) (same_number m m' (suc a) w (λ k h. g k (inr (no_store a k, h))))

pub put-length : (m : List ℕ) (a w v : ℕ) → length (put m a w v) ≡ length m
put-length m a zero v = refl
put-length m a (suc w) v = put-length (set m a (v % 256)) (suc a) w (v / 256) ∙ length-set m a (v % 256)

-- a byte that is not stored to stays
pub put_keeps : (m : List ℕ) (a w v k : ℕ) → ¬ Stored k (each stores a w) → Same (put m a w v) m k
put_keeps m a zero v k f = refl
put_keeps m a (suc w) v k f =
    put_keeps (set m a (v % 256)) (suc a) w (v / 256) k (λ h. f (inr h)) ∙ get_or-set_other m a k (v % 256) 0 (λ e. f (inl (ap stores (sym e))))

-- a byte that is the same in both, or is stored to, is then the same in both
past_end : (m : List ℕ) (a x : ℕ) → length m ≤ a → get_or (set m a x) a 0 ≡ 0
past_end m a x h = get_or-eq_default (set m a x) 0 (omega (arith, length-set m a x))

set_same : (m m' : List ℕ) (a x k : ℕ) → length m ≡ length m' → Same m m' k ⊎ (a ≡ k) → Same (set m a x) (set m' a x) k
set_same m m' a x k e s = by_cases (ℕ_discrete k a)
    (λ q. rw (q) (by_cases (dec_lt a (length m))
    (λ h. get_or-set_same m a x 0 h ∙ sym (get_or-set_same m' a x 0 (omega arith)))
    (λ f. past_end m a x (omega arith) ∙ sym (past_end m' a x (omega arith)))))
    (λ f. get_or-set_other m a k x 0 f ∙ elim s [ inl q ↦ q | inr q ↦ absurd (f (sym q)) ] ∙ sym (get_or-set_other m' a k x 0 f))

pub put_same : (m m' : List ℕ) (a w v k : ℕ) → length m ≡ length m' → Same m m' k ⊎ Stored k (each stores a w) → Same (put m a w v) (put m' a w v) k
put_same m m' a zero v k e (inl s) = s
put_same m m' a zero v k e (inr h) = absurd h
put_same m m' a (suc w) v k e s =
    put_same (set m a (v % 256)) (set m' a (v % 256)) (suc a) w (v / 256) k (length-set m a (v % 256) ∙ e ∙ sym (length-set m' a (v % 256))) (now s)
  where
    now : Same m m' k ⊎ Stored k (each stores a (suc w)) → Same (set m a (v % 256)) (set m' a (v % 256)) k ⊎ Stored k (each stores (suc a) w)
    now (inl q) = inl (set_same m m' a (v % 256) k e (inl q))
    now (inr (inl q)) = inl (set_same m m' a (v % 256) k e (inr (stores_one q)))
    now (inr (inr h)) = inr h
