-- Stores and first reads in lists of accesses.
-- Assumes nothing.
use mathlib.Core.Path.{◌≡◌, refl, sym, ap, subst}
use mathlib.Core.Logic.{◌⊎◌, inl, inr, ◌≢◌, ◌↔◌, by_cases}
use mathlib.Core.List.{List, [], ◌∷◌, ◌++◌}
use Prim.Native.Nat.{ℕ, zero, suc}
use native.Mathlib.Omega.{arith}
use native.Mathlib.Decide.{ℕ_discrete}
use Rattle.trace.specs.Access.{Access, reads, stores, each, Stored, ReadFirst}

pub reads_one : {j k : ℕ} → reads j ≡ reads k → j ≡ k
reads_one e = cc

pub stores_one : {j k : ℕ} → stores j ≡ stores k → j ≡ k
stores_one e = cc

pub no_store : (j k : ℕ) → reads j ≢ stores k
no_store j k e = let z : ◌≡◌ {A = ℕ} 0 1 = cc in omega arith

-- ---- whether a list stores to k

is_store : (k : ℕ) (a : Access) → Dec (a ≡ stores k)
is_store k (reads j) = no (no_store j k)
is_store k (stores j) = by_cases (ℕ_discrete j k) (λ e. yes (ap stores e)) (λ f. no (λ e. f (stores_one e)))

pub stored? : (k : ℕ) (l : List Access) → Dec (Stored k l)
stored? k [] = no (λ h. h)
stored? k (a ∷ l) =
    by_cases (is_store k a) (λ e. yes (inl e))
    (λ f. by_cases (stored? k l) (λ h. yes (inr h)) (λ g. no (λ h. elim h [ inl e ↦ f e | inr t ↦ g t ])))

-- ---- two lists, one after the other

module _ (k : ℕ) where
  pub stored_left : (s t : List Access) → Stored k s → Stored k (s ++ t)
  stored_left [] t h = absurd h
  stored_left (a ∷ s) t (inl e) = inl e
  stored_left (a ∷ s) t (inr h) = inr (stored_left s t h)

  pub stored_right : (s t : List Access) → Stored k t → Stored k (s ++ t)
  stored_right [] t h = h
  stored_right (a ∷ s) t h = inr (stored_right s t h)

  pub stored_cases : (s t : List Access) → Stored k (s ++ t) → Stored k s ⊎ Stored k t
  stored_cases [] t h = inr h
  stored_cases (a ∷ s) t (inl e) = inl (inl e)
  stored_cases (a ∷ s) t (inr h) = elim (stored_cases s t h) [ inl x ↦ inl (inr x) | inr y ↦ inr y ]

  pub first_left : (s t : List Access) → ReadFirst k s → ReadFirst k (s ++ t)
  first_left [] t h = absurd h
  first_left (a ∷ s) t (inl e) = inl e
  first_left (a ∷ s) t (inr h) = inr (h.0, first_left s t h.1)

  pub first_right : (s t : List Access) → ¬ Stored k s → ReadFirst k t → ReadFirst k (s ++ t)
  first_right [] t f h = h
  first_right (a ∷ s) t f h = inr ((λ e. f (inl e)), first_right s t (λ x. f (inr x)) h)

  -- reads store nothing
  pub reads_only : (a w : ℕ) → ¬ Stored k (each reads a w)
  reads_only a zero h = h
  reads_only a (suc w) (inl e) = no_store a k e
  reads_only a (suc w) (inr h) = reads_only (suc a) w h

  -- the definition of a first read, in other words: some accesses, none of them a store to k, then a read of k, then others
  pub first_split : (l : List Access) → ReadFirst k l ↔ ((s : List Access) × (t : List Access) × (l ≡ s ++ (reads k ∷ t)) × (¬ Stored k s))
  first_split l = (to l, λ x. subst (ReadFirst k) (sym x.2) (first_right x.0 (reads k ∷ x.1) x.3 (inl refl)))
    where
      to : (l : List Access) → ReadFirst k l → (s : List Access) × (t : List Access) × (l ≡ s ++ (reads k ∷ t)) × (¬ Stored k s)
      to [] h = absurd h
      to (a ∷ l) (inl e) = ([], l, ap {B = List Access} (λ x. x ∷ l) e, λ x. x)
      to (a ∷ l) (inr h) =
          let x = to l h.1 in
          (a ∷ x.0, x.1, ap {B = List Access} (λ y. a ∷ y) x.2, λ z. elim z [ inl e ↦ h.0 e | inr y ↦ x.3 y ])
