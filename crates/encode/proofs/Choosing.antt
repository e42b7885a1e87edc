-- How a run goes on over values that are read one by one.
use Rattle.std.proofs.Common.{◌≡◌, ℕ, zero, suc, ◌+◌, ◌-◌, ◌^◌, ◌<◌, ◌≤◌, Bool, true, false, not, cond, List, [], ◌∷◌, length, get_or, take, drop, ℤ, pos, refl, ap, ◌∙◌, arith, length-drop}
use Rattle.std.specs.List.{prefix_len, range_with_len}
use Rattle.std.proofs.lemmas.List.{drop_more, drop_all}
use Rattle.format.specs.declared.Width.{Width}
use Rattle.format.specs.declared.Width.TheVariants.{Zero, One, Two, Four}
use Rattle.format.specs.Packed.{wide, next, is_narrow, is_zero, stops, goes_on, next_run}
use Rattle.format.proofs.Packs.{goes_le}

-- what `begins` answers at a width
abbrev pub begun : Bool → Width → Bool
begun narrow Zero = true
begun narrow One = narrow
begun narrow Two = false
begun narrow Four = false

begun_is : (narrow : Bool) (w : Width) → begun narrow w ≡ cond narrow is_narrow is_zero w
begun_is true Zero = refl
begun_is true One = refl
begun_is true Two = refl
begun_is true Four = refl
begun_is false Zero = refl
begun_is false One = refl
begun_is false Two = refl
begun_is false Four = refl

pub next_at : (narrow : Bool) (vs : List ℤ) (i : ℕ) (w v : Width) → i < length vs → w ≡ wide (get_or vs i (pos 0)) → w ≡ v → begun narrow v ≡ next (cond narrow is_narrow is_zero) (drop i vs)
next_at narrow vs i w v lt e f = begun_is narrow v ∙ rw (drop_more vs i (pos 0) lt, ← e, f)

-- a run of width w goes on over the value at a place
abbrev pub goes : Width → List ℤ → ℕ → Bool
goes w vs i = not (stops w (wide (get_or vs i (pos 0))) (drop (i + 1) vs))

-- the places from a on over which it goes on, m at most
pub goes_counted : (w : Width) (vs : List ℤ) (m a n : ℕ) → length vs - a ≡ n → prefix_len (goes w vs) (take m (range_with_len a n)) ≡ goes_on w m (drop a vs)
goes_counted w vs zero a n e = refl
goes_counted w vs (suc m) a zero e = rw (drop_all a vs (omega arith))
goes_counted w vs (suc m) a (suc n) e =
    let ih = goes_counted w vs m (a + 1) n (omega arith) in
    rw (drop_more vs a (pos 0) (omega arith))
    (elim (stops w (wide (get_or vs a (pos 0))) (drop (a + 1) vs)) as (λ b. cond (not b) (1 + prefix_len (goes w vs) (take m (range_with_len (a + 1) n))) 0 ≡ cond b 0 (suc (goes_on w m (drop (a + 1) vs)))) [
      | true ↦ refl
      | false ↦ omega (arith, ih)
    ])

-- the run that begins at a place, by the number of values after its first
pub run_is : (w : Width) (vs : List ℤ) (from others : ℕ) → from < length vs → w ≡ wide (get_or vs from (pos 0)) → others ≡ goes_on w 63 (drop (from + 1) vs) → ◌≡◌ {A = ℕ × Width} (1 + others, w) (next_run (drop from vs))
run_is w vs from others lt e g =
    let n : 1 + others ≡ suc others = omega arith in
    rw (drop_more vs from (pos 0) lt, ← e, ← g, n)

-- a run has a value at least, 64 at most, and ends within the values
pub run_within : (vs : List ℤ) (n : ℕ) (w : Width) → 0 < length vs → ◌≡◌ {A = ℕ × Width} (n, w) (next_run vs) → (1 ≤ n) × (n ≤ 64) × (n ≤ length vs)
run_within [] n w h e = absurd (omega arith)
run_within (v ∷ vs) n w h e =
    let m = goes_le (wide v) 63 vs in
    let k : n ≡ suc (goes_on (wide v) 63 vs) = ap (λ p. p.0) e in
    (omega arith, omega arith, omega arith)

-- the run that begins at a place has a value at least
pub run_some : (vs : List ℤ) (at n : ℕ) (w : Width) → at < length vs → ◌≡◌ {A = ℕ × Width} (n, w) (next_run (drop at vs)) → (1 ≤ n) × (at + n ≤ length vs)
run_some vs at n w lt e =
    let some : 0 < length (drop at vs) = simp length-drop (omega arith) in
    let within = run_within (drop at vs) n w some e in
    (within.0, omega (arith, within.2, length-drop at vs))

-- the machine can say where it ends, as it can say where the values end
pub run_fits : (vs : List ℤ) (at n : ℕ) (w : Width) → at < length vs → length vs < 2 ^ 64 → ◌≡◌ {A = ℕ × Width} (n, w) (next_run (drop at vs)) → at + n < 2 ^ 64
run_fits vs at n w lt few e = omega (arith, (run_some vs at n w lt e).1)
