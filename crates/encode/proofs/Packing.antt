-- The runs of a packing, one after the other.
use Rattle.std.proofs.Common.{◌≡◌, ℕ, zero, suc, ◌+◌, ◌-◌, ◌*◌, ◌<◌, ◌≤◌, Bool, true, false, cond, List, [], ◌∷◌, ◌++◌, length, get_or, take, drop, ℤ, pos, negsuc, ◌^◌, ◌/◌, ◌%◌, Some, None, sym, refl, ap, ◌∙◌, subst, arith, length-append, length-drop, length-take, w32, SFits, to_z, of_z}
use Rattle.std.specs.List.{flat_map, FoldsTo}
use Rattle.std.specs.Fn.{Called}
use Rattle.std.specs.Iterator.{Yields, Drains, FoldTurn}
use denote.Param.Members.{Mut}
use Rattle.std.proofs.lemmas.List.{drop_more, drop-drop, get_or-drop, at_drop_all}
use Rattle.format.specs.declared.Width.{Width}
use Rattle.format.specs.declared.Width.TheVariants.{Zero, One, Two, Four}
use Rattle.format.specs.Packed.{Holds, wide, stops, goes_on, next_run, control, bytes, pack, packed}
use mir.ValLaws.{to_z-of_z}
use Rattle.write.specs.Bytes.{be}
use Rattle.format.proofs.Fixed.{length-be}
use Rattle.format.specs.Fits.{Fits32}
use Rattle.format.proofs.Packs.{own_holds, widens, packed_first}
use Rattle.encode.specs.declared.runs.Run.{Run}
use Rattle.encode.specs.declared.runs.Runs.{Runs}
use Rattle.encode.specs.Lengths.{measured}
use Rattle.encode.specs.Runs.{RunOf, Steps, Walks, run_bytes, width_size}
use Rattle.encode.proofs.Choosing.{run_within}

-- the width of a run holds each of its values
goes_holds : (w : Width) (m : ℕ) (vs : List ℤ) (k : ℕ) → k < goes_on w m vs → Fits32 (get_or vs k (pos 0)) → Holds w (get_or vs k (pos 0))
goes_holds w zero vs k lt s = absurd (omega arith)
goes_holds w (suc m) [] k lt s = absurd (omega arith)
goes_holds w (suc m) (v ∷ vs) k lt s = at (stops w (wide v) vs) refl k lt s (goes_holds w m vs)
  where
    at : (b : Bool) → stops w (wide v) vs ≡ b → (k : ℕ) → k < cond b 0 (suc (goes_on w m vs)) → Fits32 (get_or (v ∷ vs) k (pos 0)) →
        ((j : ℕ) → j < goes_on w m vs → Fits32 (get_or vs j (pos 0)) → Holds w (get_or vs j (pos 0))) → Holds w (get_or (v ∷ vs) k (pos 0))
    at true e k lt s ih = absurd (omega arith)
    at false e zero lt s ih = widens w (wide v) v vs (own_holds v s) e
    at false e (suc k) lt s ih = ih k (omega arith) s

first_holds : (vs : List ℤ) (n : ℕ) (w : Width) → ◌≡◌ {A = ℕ × Width} (n, w) (next_run vs) → (k : ℕ) → k < n → Fits32 (get_or vs k (pos 0)) → Holds w (get_or vs k (pos 0))
first_holds [] n w e k lt s = let z : n ≡ 0 = ap (λ p. p.0) e in absurd (omega arith)
first_holds (v ∷ vs) n w e zero lt s = rw (ap (λ (p : ℕ × Width). p.1) e) (own_holds v s)
first_holds (v ∷ vs) n w e (suc k) lt s =
    let z : n ≡ suc (goes_on (wide v) 63 vs) = ap (λ p. p.0) e in
    rw (ap (λ (p : ℕ × Width). p.1) e) (goes_holds (wide v) 63 vs k (omega arith) s)

first_run : (vs : List ℤ) (n : ℕ) (w : Width) → 0 < length vs → ◌≡◌ {A = ℕ × Width} (n, w) (next_run vs) → packed vs ≡ control w (n - 1) ∷ (flat_map (bytes w) (take n vs) ++ packed (drop n vs))
first_run [] n w h e = absurd (omega arith)
first_run (v ∷ vs) n w h e =
    let m = goes_on (wide v) 63 vs in
    let k : m ≡ suc m - 1 = omega arith in
    subst (λ (p : ℕ × Width). packed (v ∷ vs) ≡ control p.1 (p.0 - 1) ∷ (flat_map (bytes p.1) (take p.0 (v ∷ vs)) ++ packed (drop p.0 (v ∷ vs)))) (sym e)
    (packed_first v vs ∙ ap (λ n. control (wide v) n ∷ (flat_map (bytes (wide v)) (v ∷ take m vs) ++ packed (drop m vs))) k)

-- no values from i up to e
pub part_none : (f : ℤ → List ℕ) (vs : List ℤ) (i e : ℕ) → e ≤ i → flat_map f (take (e - i) (drop i vs)) ≡ []
part_none f vs i e le = let z : e - i ≡ 0 = omega arith in rw z

pub width_few : (w : Width) → width_size w ≤ 4
width_few Zero = omega arith
width_few One = omega arith
width_few Two = omega arith
width_few Four = omega arith

-- a value's bytes in a width that holds it are the last of its four
pub low_bytes : (w : Width) (v : ℤ) → Holds w v → be (width_size w) (of_z w32 v) ≡ bytes w v
unfolding be
low_bytes Zero v h = refl
low_bytes One (pos n) h = refl
low_bytes One (negsuc n) h = ap (λ b. b ∷ []) (omega arith)
low_bytes Two (pos n) h = refl
low_bytes Two (negsuc n) h =
    let high : (2 ^ 32 - suc n) / 256 % 256 ≡ (2 ^ 16 - suc n) / 256 % 256 = omega arith in
    let low : (2 ^ 32 - suc n) / 1 % 256 ≡ (2 ^ 16 - suc n) / 1 % 256 = omega arith in
    rw high (ap (λ b. (2 ^ 16 - suc n) / 256 % 256 ∷ b ∷ []) low)
low_bytes Four v h = refl

length_value : (w : Width) (v : ℤ) → length (bytes w v) ≡ width_size w
length_value Zero v = refl
length_value One v = length-be 1 _
length_value Two v = length-be 2 _
length_value Four v = length-be 4 _

length_values : (w : Width) (vs : List ℤ) → length (flat_map (bytes w) vs) ≡ length vs * width_size w
length_values w [] = omega arith
length_values w (v ∷ vs) = simp length-append (omega (arith, length_value w v, length_values w vs))

module _ (vs : List ℤ) (run : Run) (is : RunOf vs run) where
  some : 0 < length (drop run.place vs)
  some = let l = is.within in simp length-drop (omega arith)

  -- a run has a value at least, 64 at most, and ends within the values
  pub run_ends : (1 ≤ run.count) × (run.count ≤ 64) × (run.place + run.count ≤ length vs)
  run_ends =
      let w = run_within (drop run.place vs) run.count run.width some is.is in
      let d = length-drop run.place vs in
      (w.0, w.1, omega (arith, w.2, is.within))

  -- the packing from a run on is the run's bytes, and the packing after it
  pub run_next : packed (drop run.place vs) ≡ run_bytes run vs ++ packed (drop (run.place + run.count) vs)
  run_next =
      first_run (drop run.place vs) run.count run.width some is.is ∙
      ap (λ rest. run_bytes run vs ++ packed rest) (drop-drop run.count run.place vs)

  pub length_run : length (packed (drop run.place vs)) ≡ 1 + run.count * width_size run.width + length (packed (drop (run.place + run.count) vs))
  length_run =
      let ends = run_ends in
      let n : length (take run.count (drop run.place vs)) ≡ run.count = simp (length-take, length-drop) (omega arith) in
      let values : length (flat_map (bytes run.width) (take run.count (drop run.place vs))) ≡ run.count * width_size run.width = length_values run.width (take run.count (drop run.place vs)) ∙ ap (λ k. k * width_size run.width) n in
      ap length run_next ∙ simp length-append (omega arith)

  -- a value of the run, which was read as 32 bits: the width holds it, and it is the next of those that are left to write
  module _ (i : ℕ) (v : ℤ) (le : run.place ≤ i) (lt : i < run.place + run.count) (fits : SFits w32 v) (read : v ≡ get_or vs i (pos 0)) where
    pub run_holds : Holds run.width (to_z w32 (of_z w32 v))
    run_holds =
        let e : run.place + (i - run.place) ≡ i = omega arith in
        let at : get_or (drop run.place vs) (i - run.place) (pos 0) ≡ v = get_or-drop run.place vs (i - run.place) (pos 0) ∙ ap (λ k. get_or vs k (pos 0)) e ∙ sym read in
        let h = first_holds (drop run.place vs) run.count run.width is.is (i - run.place) (omega arith) in
        rw (to_z-of_z w32 v fits) (subst (λ (x : ℤ). Fits32 x → Holds run.width x) at h fits.sfits)

    pub run_more : flat_map (bytes run.width) (take (run.place + run.count - i) (drop i vs)) ≡
        bytes run.width (to_z w32 (of_z w32 v)) ++ flat_map (bytes run.width) (take (run.place + run.count - (i + 1)) (drop (i + 1) vs))
    run_more =
        let s : run.place + run.count - i ≡ suc (run.place + run.count - (i + 1)) = omega arith in
        rw (to_z-of_z w32 v fits, s, drop_more vs i (pos 0) (omega (arith, run_ends.2)), read)

  -- what is written of a run, part by part
  pub run_written : (b : ℕ) → b ≡ control run.width (run.count - 1) →
      (b ∷ []) ++ flat_map (bytes run.width) (take (run.place + run.count - run.place) (drop run.place vs)) ≡ run_bytes run vs
  run_written b e = let n : run.place + run.count - run.place ≡ run.count = omega arith in rw (e, n)

-- a step of a walk over the runs
module _ (vs : List ℤ) (at : ℕ) (run : Run) (after : ℕ) (s : Steps vs at (Some run) after) where
  ends : (1 ≤ run.count) × (run.count ≤ 64) × (run.place + run.count ≤ length vs)
  ends = run_ends vs run s.1

  pub step_few : run.count ≤ 64
  step_few = ends.1

  pub step_next : packed (drop at vs) ≡ run_bytes run vs ++ packed (drop after vs)
  step_next =
      let e : run.place + run.count ≡ after = omega arith in
      ap (λ i. packed (drop i vs)) (sym s.0) ∙ run_next vs run s.1 ∙ ap (λ i. run_bytes run vs ++ packed (drop i vs)) e

  step_length : length (packed (drop at vs)) ≡ 1 + run.count * width_size run.width + length (packed (drop after vs))
  step_length =
      let e : run.place + run.count ≡ after = omega arith in
      ap (λ i. length (packed (drop i vs))) (sym s.0) ∙ length_run vs run s.1 ∙ ap (λ i. 1 + run.count * width_size run.width + length (packed (drop i vs))) e

pub step_none : (vs : List ℤ) (at after : ℕ) → Steps vs at None after → packed (drop at vs) ≡ []
unfolding pack
step_none vs at after s = at_drop_all packed vs at s.0

-- a walk that adds up the runs' lengths comes to that of the packing from its place on
module _ {V F : Type 0} {g : Mut F (ℕ × (Run × Unit {0})) ℕ} {f : F} (deltas : V → List ℤ) where
  module _ (adds : (a : ℕ) (x : Run) (b : ℕ) (q : F) → Called g f (a, (x, tt)) b q → (q ≡ f) × (b ≡ measured (a + (1 + x.count * width_size x.width)))) where
    total_from : (xs : List Run) (s t u : Runs V) (n a r : ℕ) (q : F) → a ≡ measured n → Yields (Walks deltas) s xs t → Walks deltas t None u →
        FoldsTo {P = F × ℕ} (FoldTurn g) (f, a) xs (q, r) → r ≡ measured (n + length (packed (drop s.place (deltas s.values.now))))
    total_from [] s t u n a r q e y z fo =
        let none = ap length (step_none (deltas t.values.now) t.place u.place z.1) in
        let same = ap (λ s. length (packed (drop s.place (deltas s.values.now)))) y in
        let last : a ≡ r = ap (λ p. p.1) fo in
        omega (arith, none, same, last, e)
    total_from (x ∷ xs) s t u n a r q e y z fo =
        let added = adds a x fo.0.1 fo.0.0 fo.1 in
        let long = step_length (deltas s.values.now) s.place x y.0.place y.1.1 in
        let same = ap (λ v. length (packed (drop y.0.place (deltas v)))) y.1.0 in
        let m = n + (1 + x.count * width_size x.width) in
        let sum : fo.0.1 ≡ measured m = omega (arith, added.1, e) in
        let rest = subst (λ p. FoldsTo {P = F × ℕ} (FoldTurn g) (p, fo.0.1) xs (q, r)) added.0 fo.2 in
        let ih = total_from xs y.0 t u m fo.0.1 r q sum y.2 z rest in
        omega (arith, ih, long, same)

  pub total_is : {s : Runs V} (r : ℕ) → (xs : List Run) × (q : F) × Drains (Walks deltas) s xs × FoldsTo {P = F × ℕ} (FoldTurn g) (f, 0) xs (q, r) →
      ((a : ℕ) (x : Run) (b : ℕ) (q : F) → Called g f (a, (x, tt)) b q → (q ≡ f) × (b ≡ measured (a + (1 + x.count * width_size x.width)))) →
      r ≡ measured (length (packed (drop s.place (deltas s.values.now))))
  total_is {s} r ran adds =
      let total = total_from adds ran.0 s ran.2.1.0 ran.2.0 0 0 r ran.1 refl ran.2.1.1 ran.2.1.2 ran.3 in
      omega arith
