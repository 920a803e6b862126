-- The maps after a list of accesses is marked in them: exactly its first reads and its stores.
-- Assumes nothing.
use mathlib.Core.Path.{◌≡◌, refl, sym, ◌∙◌}
use mathlib.Core.Logic.{◌⊎◌, inl, inr, ◌≢◌, ◌↔◌, by_cases}
use mathlib.Core.List.{List, [], ◌∷◌, ◌++◌}
use Prim.Native.Nat.{ℕ, ◌*◌, ◌/◌, ◌<◌}
use native.Mathlib.Omega.{arith}
use native.Mathlib.Decide.{ℕ_discrete}
use lib.ListN.{length, length-replicate}
use Rattle.trace.specs.Access.{Access, reads, stores, Stored, ReadFirst}
use Rattle.trace.specs.Maps.{bit, set_bit, Maps, mark1, mark, cleared}
use Rattle.trace.proofs.Accesses.{reads_one, stores_one, no_store, stored?}
use Rattle.trace.proofs.Bits.{bit_cases, set_bit-length, set_bit-same, set_bit-other, unless_clear, unless_set, unless-length, unless_other, clear_bit}

pub mark-append : (s t : List Access) (p : Maps) → mark (s ++ t) p ≡ mark t (mark s p)
mark-append [] t p = refl
mark-append (a ∷ s) t p = mark-append s t (mark1 a p)

clash : {b : ℕ} → b ≡ 1 → b ≡ 0 → ⊥
clash e f = omega arith

-- ---- the maps keep their lengths

pub record Lengths (p q : Maps) : Type 0 where
  pub read_first : length p.read_first ≡ length q.read_first
  pub written : length p.written ≡ length q.written

mark1-lengths : (a : Access) (p : Maps) → Lengths (mark1 a p) p
mark1-lengths (reads j) p = record {
  read_first = rw unless-length;
  written = refl;
}
mark1-lengths (stores j) p = record { read_first = refl; written = omega (arith, set_bit-length p.written j) }

pub mark-lengths : (l : List Access) (p : Maps) → Lengths (mark l p) p
mark-lengths [] p = record { read_first = refl; written = refl }
mark-lengths (a ∷ l) p =
    let x = mark-lengths l (mark1 a p) in
    let y = mark1-lengths a p in
    record { read_first = x.read_first ∙ y.read_first; written = x.written ∙ y.written }

-- both maps have a bit for the byte k
record Has (p : Maps) (k : ℕ) : Type 0 where
  first : k / 8 < length p.read_first
  written : k / 8 < length p.written

has-mark1 : (a : Access) (p : Maps) (k : ℕ) → Has p k → Has (mark1 a p) k
has-mark1 a p k h = record { first = omega (arith, (mark1-lengths a p).read_first); written = omega (arith, (mark1-lengths a p).written) }

-- ---- one access

-- a read of j marks no other byte
read_other : (p : Maps) (j k : ℕ) → k ≢ j → bit (mark1 (reads j) p).read_first k ≡ bit p.read_first k
read_other p j k f = rw unless_other

one_first : (a : Access) (p : Maps) (k : ℕ) → Has p k
    → (bit (mark1 a p).read_first k ≡ 1) ↔ ((bit p.read_first k ≡ 1) ⊎ ((bit p.written k ≡ 0) × (a ≡ reads k)))
one_first (stores j) p k h = ((λ e. inl e), (λ x. elim x [ inl e ↦ e | inr y ↦ absurd (no_store k j (sym y.1)) ]))
one_first (reads j) p k h = by_cases (ℕ_discrete k j) (λ e. rw (← e) (same (bit_cases p.written k))) other
  where
    Goal : ℕ → Type 0
    Goal i = (bit (mark1 (reads i) p).read_first k ≡ 1) ↔ ((bit p.read_first k ≡ 1) ⊎ ((bit p.written k ≡ 0) × (reads i ≡ reads k)))

    same : (bit p.written k ≡ 0) ⊎ (bit p.written k ≡ 1) → Goal k
    same (inl w) = ((λ x. inr (w, refl)), (λ x. rw (unless_clear (set_bit p.read_first k) p.read_first w) (set_bit-same p.read_first k h.first)))
    same (inr w) = rw (unless_set (set_bit p.read_first k) p.read_first w) ((λ x. inl x), (λ x. elim x [ inl y ↦ y | inr y ↦ absurd (clash w y.0) ]))

    other : k ≢ j → Goal j
    other f = rw (read_other p j k f) ((λ x. inl x), (λ x. elim x [ inl y ↦ y | inr y ↦ absurd (f (sym (reads_one y.1))) ]))

one_written : (a : Access) (p : Maps) (k : ℕ) → Has p k → (bit (mark1 a p).written k ≡ 0) ↔ ((bit p.written k ≡ 0) × (a ≢ stores k))
one_written (reads j) p k h = ((λ e. (e, no_store j k)), (λ x. x.0))
one_written (stores j) p k h = by_cases (ℕ_discrete k j)
    (λ e. rw (← e) ((λ x. absurd (clash (set_bit-same p.written k h.written) x)), (λ x. absurd (x.1 refl))))
    (λ f. rw (set_bit-other p.written j k f) ((λ x. (x, λ q. f (sym (stores_one q)))), (λ x. x.0)))

-- ---- a list of accesses, from any maps

-- the logic of one access before others: of N, a read first at last; F, W, read first before and not written; A, S, the access reads or does not store
link : {N F W A S L F₁ W₁ : Type 0} → (N ↔ (F₁ ⊎ (W₁ × L))) → (F₁ ↔ (F ⊎ (W × A))) → (W₁ ↔ (W × S)) → (N ↔ (F ⊎ (W × (A ⊎ (S × L)))))
link {N} {F} {W} {A} {S} {L} {F₁} {W₁} n f w = ((λ x. to (n.0 x)), (λ y. n.1 (from y)))
  where
    to : F₁ ⊎ (W₁ × L) → F ⊎ (W × (A ⊎ (S × L)))
    to (inl x) = elim (f.0 x) [ inl y ↦ inl y | inr y ↦ inr (y.0, inl y.1) ]
    to (inr y) = let z = w.0 y.0 in inr (z.0, inr (z.1, y.1))

    from : F ⊎ (W × (A ⊎ (S × L))) → F₁ ⊎ (W₁ × L)
    from (inl x) = inl (f.1 (inl x))
    from (inr y) = elim y.1 [ inl a ↦ inl (f.1 (inr (y.0, a))) | inr z ↦ inr (w.1 (y.0, z.0), z.1) ]

marked_first : (l : List Access) (p : Maps) (k : ℕ) → Has p k
    → (bit (mark l p).read_first k ≡ 1) ↔ ((bit p.read_first k ≡ 1) ⊎ ((bit p.written k ≡ 0) × ReadFirst k l))
marked_first [] p k h = ((λ e. inl e), (λ x. elim x [ inl e ↦ e | inr y ↦ absurd y.1 ]))
marked_first (a ∷ l) p k h = link (marked_first l (mark1 a p) k (has-mark1 a p k h)) (one_first a p k h) (one_written a p k h)

unmarked_written : (l : List Access) (p : Maps) (k : ℕ) → Has p k → (bit (mark l p).written k ≡ 0) ↔ ((bit p.written k ≡ 0) × (¬ Stored k l))
unmarked_written [] p k h = ((λ e. (e, λ x. x)), (λ x. x.0))
unmarked_written (a ∷ l) p k h =
    let rest = unmarked_written l (mark1 a p) k (has-mark1 a p k h) in
    let one = one_written a p k h in (
      (λ e. let x = rest.0 e in let y = one.0 x.0 in (y.0, λ s. elim s [ inl q ↦ y.1 q | inr t ↦ x.1 t ])),
      (λ x. rest.1 (one.1 (x.0, λ q. x.1 (inl q)), λ t. x.1 (inr t))),
    )

-- ---- from cleared maps of n bytes

module _ (l : List Access) (n k : ℕ) (h : k < 8 * n) where
  place : k / 8 < n
  place = omega arith

  has : Has (cleared n) k
  has = record { first = omega (arith, length-replicate {A = ℕ} n 0); written = omega (arith, length-replicate {A = ℕ} n 0) }

  pub exact_first : (bit (mark l (cleared n)).read_first k ≡ 1) ↔ ReadFirst k l
  exact_first =
      let x = marked_first l (cleared n) k has in (
        (λ e. elim (x.0 e) [ inl y ↦ absurd (clash y (clear_bit n k place)) | inr y ↦ y.1 ]),
        (λ r. x.1 (inr (clear_bit n k place, r))),
      )

  pub not_written : (bit (mark l (cleared n)).written k ≡ 0) ↔ (¬ Stored k l)
  not_written = let x = unmarked_written l (cleared n) k has in ((λ e. (x.0 e).1), (λ f. x.1 (clear_bit n k place, f)))

  pub exact_written : (bit (mark l (cleared n)).written k ≡ 1) ↔ Stored k l
  exact_written = (to, from)
    where
      to : bit (mark l (cleared n)).written k ≡ 1 → Stored k l
      to e = by_cases (stored? k l) (λ s. s) (λ f. absurd (clash e (not_written.1 f)))

      from : Stored k l → bit (mark l (cleared n)).written k ≡ 1
      from s = elim (bit_cases (mark l (cleared n)).written k) [ inl e ↦ absurd (not_written.0 e s) | inr e ↦ e ]
