-- What the numbers of the calls say: with 0 the lent slices fit, and another number leaves all as it was.
-- Assumes nothing.
use mathlib.Core.Path.{◌≡◌, refl, sym, ◌∙◌}
use mathlib.Core.Logic.{◌≢◌}
use mathlib.Core.Bool.{Bool, true, false, not, ◌||◌, cond}
use mathlib.Core.List.{List}
use Prim.Native.Nat.{ℕ, zero, suc, ◌-◌, ◌*◌, ◌/◌, ◌%◌, ◌^◌, ◌≤◌}
use native.Mathlib.Omega.{arith}
use borrow.Author.Tests.{ltb-false, eqb-true, not-false}
use lib.Dec.{ltb, eqb}
use lib.ListN.{length, replicate}
use Rattle.maps.specs.Pair.{pair, none_set}
use Rattle.state.specs.declared.State.{State}
use Rattle.state.specs.declared.Settings.{Settings}
use Rattle.trace.specs.Maps.{Maps}
use Rattle.trace.specs.Machine.{Answer, answer}
use Rattle.machine.specs.declared.Refusal.{Refusal}
use Rattle.machine.specs.declared.Refusal.TheVariants.{BadMemory, BadMap, BadSettings, BadState, BadBudget, BadRange}
use Rattle.machine.specs.Calls.{bad_memory, bad_map, bad_settings, bad_state, bad_budget, bad_range}
use Rattle.machine.specs.Calls.{refusal_number, fresh_refusal, run_refusal, edit_refusal, Lent, unless_refused, run_of}
use Rattle.machine.specs.Calls.{unless_started, fresh_state, fresh_of, Verdict, Refused, unless_bad, asked, edit_of}
use Rattle.machine.specs.Step.{machine}

pub neither : (a b : Bool) → (a || b) ≡ false → (a ≡ false) × (b ≡ false)
neither true b e = absurd (let z : ◌≡◌ {A = ℕ} 0 1 = cc in omega arith)
neither false b e = (refl, e)

-- a test that comes first, and whose number is not 0, did not hold
passed : (n : ℕ) (b : Bool) (rest : ℕ) → cond b (suc n) rest ≡ 0 → (b ≡ false) × (rest ≡ 0)
passed n true rest e = absurd (omega arith)
passed n false rest e = (refl, e)

record Sized (len : ℕ) : Type 0 where
  most : len ≤ 1048576
  whole : len % 8 ≡ 0

sized : (len : ℕ) → bad_memory len ≡ false → Sized len
sized len e =
    let x = neither (ltb len 8 || ltb 1048576 len) (not (eqb (len % 8) 0)) e in
    let y = neither (ltb len 8) (ltb 1048576 len) x.0 in
    record { most = ltb-false 1048576 len y.1; whole = eqb-true (len % 8) 0 (not-false (eqb (len % 8) 0) x.1) }

mapped : (len map : ℕ) → bad_map len map ≡ false → map ≡ len / 8
mapped len map e = eqb-true map (len / 8) (not-false (eqb map (len / 8)) e)

pub lent : (m read written : List ℕ) (S : Settings) (s : State) (budget : ℕ) → run_refusal (length m) (length read) (length written) S s budget ≡ 0 → Lent m read written
unfolding run_refusal
lent m read written S s budget e =
    let x = passed 0 (bad_memory (length m)) _ e in
    let y = passed 1 (bad_map (length m) (length read) || bad_map (length m) (length written)) _ x.1 in
    let z = neither (bad_map (length m) (length read)) (bad_map (length m) (length written)) y.0 in
    let f = sized (length m) x.0 in
    let a = mapped (length m) (length read) z.0 in
    let b = mapped (length m) (length written) z.1 in
    record { size = omega (arith, f.most); of_read = omega (arith, f.whole, a); of_written = omega (arith, f.whole, b) }

pub ranged : (len read start end : ℕ) → edit_refusal len read start end ≡ 0 → (start ≤ end) × (end ≤ 8 * read)
unfolding edit_refusal
ranged len read start end e =
    let x = passed 0 (bad_memory len) _ e in
    let y = passed 1 (bad_map len read) _ x.1 in
    let z = passed 5 (bad_range len start end) _ y.1 in
    let r = neither (ltb end start) (ltb len end) z.0 in
    let f = sized len x.0 in
    let a = mapped len read y.0 in
    (ltb-false end start r.0, omega (arith, f.whole, a, ltb-false len end r.1))

-- a refusal has a number other than 0
pub some : (f : Refusal) → refusal_number f ≢ 0
some BadMemory e = omega arith
some BadMap e = omega arith
some BadSettings e = omega arith
some BadState e = omega arith
some BadBudget e = omega arith
some BadRange e = omega arith

-- ---- the tests of a run are those of a fresh start, and then two more

abbrev three : Bool → Bool → Bool → ℕ → ℕ
three a b c x = cond a 1 (cond b 2 (cond c 3 x))

firsts : (a b c : Bool) (x : ℕ) → three a b c 0 ≢ 0 → three a b c 0 ≡ three a b c x
firsts true b c x f = refl
firsts false true c x f = refl
firsts false false true x f = refl
firsts false false false x f = absurd (f refl)

rests : (a b c : Bool) (x : ℕ) → three a b c 0 ≡ 0 → x ≡ three a b c x
rests true b c x e = absurd (omega (arith, e))
rests false true c x e = absurd (omega (arith, e))
rests false false true x e = absurd (omega (arith, e))
rests false false false x e = refl

module _ (len read written : ℕ) (S : Settings) (s : State) (budget : ℕ) where
  pub run_first : fresh_refusal len read written S ≢ 0 → fresh_refusal len read written S ≡ run_refusal len read written S s budget
  unfolding fresh_refusal run_refusal
  run_first f = firsts (bad_memory len) (bad_map len read || bad_map len written) (bad_settings len S) _ f

  pub run_rest : fresh_refusal len read written S ≡ 0 → (b d : Bool) → b ≡ bad_state s → d ≡ bad_budget budget
      → cond b 4 (cond d 5 0) ≡ run_refusal len read written S s budget
  unfolding fresh_refusal run_refusal
  run_rest e b d p q = rw (p, q) (rests (bad_memory len) (bad_map len read || bad_map len written) (bad_settings len S) _ e)

-- ---- a run

refused : (n : ℕ) (s : State) (m : List ℕ) (p : Maps) (x : Answer ℕ State) → n ≢ 0
    → record { reason = n; steps = 0; config = s; memory = m; maps = p } ≡ unless_refused n s m p x
refused zero s m p x f = absurd (f refl)
refused (suc n) s m p x f = refl

module _ (m read written : List ℕ) (s : State) (S : Settings) (lines budget n : ℕ)
    (e : n ≡ run_refusal (length m) (length read) (length written) S s budget) where
  pub run_refused : n ≢ 0 → record { reason = n; steps = 0; config = s; memory = m; maps = pair read written } ≡ run_of m read written s S lines budget
  unfolding run_of
  run_refused f = rw (← e) (refused n s m (pair read written) _ f)

  pub run_accepted : n ≡ 0 → answer (machine S lines (length m)) budget s m (pair read written) ≡ run_of m read written s S lines budget
  unfolding run_of
  run_accepted z = let q = sym e ∙ z in rw (q)

-- ---- a fresh start

not_started : (n : ℕ) (read written : List ℕ) (s : State) (S : Settings) → n ≢ 0
    → record { number = n; state = s; maps = pair read written } ≡ unless_started n read written s S
not_started zero read written s S f = absurd (f refl)
not_started (suc n) read written s S f = refl

module _ (len : ℕ) (read written : List ℕ) (s : State) (S : Settings) (n : ℕ) (e : n ≡ fresh_refusal len (length read) (length written) S) where
  pub fresh_refused : n ≢ 0 → record { number = n; state = s; maps = pair read written } ≡ fresh_of len read written s S
  unfolding fresh_of
  fresh_refused f = rw (← e) (not_started n read written s S f)

  pub fresh_accepted : n ≡ 0 → (read' written' : List ℕ) → read' ≡ replicate (length read) 0 → written' ≡ replicate (length written) 0
      → record { number = 0; state = fresh_state S; maps = pair read' written' } ≡ fresh_of len read written s S
  unfolding fresh_of
  fresh_accepted z read' written' a b = let q = sym e ∙ z in rw (q, a, b)

-- ---- the edit question

not_asked : (n : ℕ) (x : Verdict) → n ≢ 0 → Refused n ≡ unless_bad n x
not_asked zero x f = absurd (f refl)
not_asked (suc n) x f = refl

module _ (len : ℕ) (map : List ℕ) (start end n : ℕ) (e : n ≡ edit_refusal len (length map) start end) where
  pub edit_refused : n ≢ 0 → Refused n ≡ edit_of len map start end
  unfolding edit_of
  edit_refused f = rw (← e) (not_asked n _ f)

  pub edit_asked : n ≡ 0 → (b : Bool) → b ≡ none_set map start (end - start) → asked b ≡ edit_of len map start end
  unfolding edit_of
  edit_asked z b f = let q = sym e ∙ z in rw (q, f)

-- ---- after an accepted fresh start

module _ (len read written : ℕ) (S : Settings) (e : fresh_refusal len read written S ≡ 0) where
  pub small_maps : (read ≤ 2 ^ 17) × (written ≤ 2 ^ 17)
  unfolding fresh_refusal
  small_maps =
      let x = passed 0 (bad_memory len) _ e in
      let y = passed 1 (bad_map len read || bad_map len written) _ x.1 in
      let z = neither (bad_map len read) (bad_map len written) y.0 in
      let f = sized len x.0 in
      (omega (arith, f.most, mapped len read z.0), omega (arith, f.most, mapped len written z.1))

  -- a run of at most 1,000,000 steps is accepted too
  pub run_follows : (budget : ℕ) → bad_budget budget ≡ false → run_refusal len read written S (fresh_state S) budget ≡ 0
  unfolding fresh_refusal run_refusal
  run_follows budget b =
      let x = passed 0 (bad_memory len) _ e in
      let y = passed 1 (bad_map len read || bad_map len written) _ x.1 in
      let z = passed 2 (bad_settings len S) _ y.1 in
      rw (x.0, y.0, z.0, b)

pub start_number : (len : ℕ) (read written : List ℕ) (s : State) (S : Settings) → (fresh_of len read written s S).number ≡ fresh_refusal len (length read) (length written) S
unfolding fresh_of
start_number len read written s S = number (fresh_refusal len (length read) (length written) S)
  where
    number : (n : ℕ) → (unless_started n read written s S).number ≡ n
    number zero = refl
    number (suc n) = refl

-- what the three calls are proved by
pub ruleset calls = (some, lent, run_refused, run_accepted, fresh_refused, fresh_accepted, ranged, edit_refused, edit_asked)
