-- What the calls' contracts say of the lines.
-- Assumes nothing.
use Rattle.std.proofs.Common.{◌≡◌, ◌≢◌, refl, sym, ap, ◌∙◌, List, ℕ, zero, suc, ◌%◌, ◌^◌, ◌≤◌, length, arith, Result, Err}
use Rattle.maps.specs.Pair.{pair}
use Rattle.state.specs.State.{fresh_state}
use Rattle.state.specs.declared.State.{State}
use Rattle.trace.specs.Maps.{Maps}
use Rattle.machine.specs.declared.Refusal.{Refusal}
use Rattle.machine.specs.Calls.{refusal_number, refused, Started, started, fresh_of, run_of}
use Rattle.machine.proofs.Accepted.{some, small_maps, start_number}
use Rattle.report.specs.Lines.{lines_of, refused_of, ones_of}
use Rattle.report.proofs.Bits.{ones_exact}
use Rattle.image.specs.Print.{settings_of, printed, ran, by_number, print_of}

by_refusal : (k : ℕ) (m : List ℕ) (s : State) (p : Maps) → k ≢ 0 → record { text = refused_of k; memory = m; maps = p } ≡ by_number k m s p
by_refusal zero m s p f = absurd (f refl)
by_refusal (suc k) m s p f = refl

module _ (m read written read₁ written₁ : List ℕ) (x : Result (Unit {0}) Refusal) (s : State)
    (e : started x s read₁ written₁ ≡ fresh_of (length m) read written (fresh_state 0) settings_of) where
  by_start : (k : ℕ) → k ≡ refused x → by_number k m s (pair read₁ written₁) ≡ print_of m read written
  unfolding print_of
  by_start k q = ap (λ (n : ℕ). by_number n m s (pair read₁ written₁)) q ∙ ap (λ (f : Started). by_number f.number m f.state f.maps) e

  pub prints_refusal : (f : Refusal) → x ≡ Err f → printed (refused_of (refusal_number f)) m read₁ written₁ ≡ print_of m read written
  prints_refusal f q = by_refusal (refusal_number f) m s (pair read₁ written₁) (some f) ∙ by_start (refusal_number f) (sym (ap refused q))

  module _ (z : refused x ≡ 0) where
    -- both maps are short enough for their bits to be counted
    short : (length read ≤ 2 ^ 17) × (length written ≤ 2 ^ 17)
    short = small_maps (length m) (length read) (length written) settings_of
        (sym (start_number (length m) read written (fresh_state 0) settings_of) ∙ ap (λ (f : Started). f.number) (sym e) ∙ z)

    pub prints_run : (n k : ℕ) (s₂ : State) (m₂ read₂ written₂ : List ℕ)
        → record { reason = n; steps = k; config = s₂; memory = m₂; maps = pair read₂ written₂ } ≡ run_of m read₁ written₁ s settings_of 0 1000
        → length read₂ ≡ length read → length written₂ ≡ length written
        → printed (lines_of n k s₂ (ones_of read₂ % 2 ^ 64) (ones_of written₂ % 2 ^ 64)) m₂ read₂ written₂ ≡ print_of m read written
    prints_run n k s₂ m₂ read₂ written₂ ea lr lw =
        let r = ones_exact read₂ (omega (arith, short.0)) in
        let w = ones_exact written₂ (omega (arith, short.1)) in
        (λ j. record { text = lines_of n k s₂ (r j) (w j); memory = m₂; maps = pair read₂ written₂ })
        ∙ ap ran ea
        ∙ by_start 0 (sym z)
