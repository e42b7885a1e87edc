-- The packing reads back.
use Rattle.std.proofs.Common.{◌≡◌, ℕ, zero, suc, ◌+◌, ◌-◌, ◌/◌, ◌%◌, ◌^◌, ◌<◌, ◌≤◌, Bool, true, false, cond, ltb, List, [], ◌∷◌, ◌++◌, length, take, drop, ℤ, pos, negsuc, sym, refl, ap, ◌∙◌, append_assoc, append-nil, arith, length-append, length-drop, take-append-drop, length-take, w8, w16, w32}
use lib.Signed.{mag}
use Rattle.std.proofs.lemmas.Bool.{true≢false, ltb-true, le-ltb}
use Rattle.std.proofs.ByRecursion.{All-drop}
use Rattle.std.specs.List.{flat_map, AllByRecursion}
use Rattle.format.specs.declared.Layer.TheVariants.{Values}
use Rattle.format.specs.Reads.{got}
use Rattle.format.specs.declared.Width.{Width}
use Rattle.format.specs.declared.Width.TheVariants.{Zero, One, Two, Four}
use Rattle.format.specs.Packed.{Holds, by_size, wide, stops, goes_on, control, bytes, kind, pack, packed, read_value, read_run, unpack_all, unpack_due}
use Rattle.format.specs.Fits.{Fits32}
use Rattle.format.specs.Laws.{PackedReadsBack}
use Rattle.format.proofs.Fixed.{signed_reads, many_read}

sized : (v : ℤ) (m : ℕ) → mag v ≡ m → m < 2 ^ 31 → Holds (by_size m) v
sized v m e h = at (ltb m 0x80) refl (ltb m 0x8000) refl
  where
    at : (a : Bool) → ltb m 0x80 ≡ a → (b : Bool) → ltb m 0x8000 ≡ b → Holds (cond a One (cond b Two Four)) v
    at true p b q = omega (arith, ltb-true m 0x80 p)
    at false p true q = omega (arith, ltb-true m 0x8000 q)
    at false p false q = omega arith

pub own_holds : (v : ℤ) → Fits32 v → Holds (wide v) v
own_holds (pos zero) h = refl
own_holds (pos (suc n)) h = sized (pos (suc n)) (suc n) refl h
own_holds (negsuc n) h = sized (negsuc n) n refl h

pub widens : (w u : Width) (v : ℤ) (vs : List ℤ) → Holds u v → stops w u vs ≡ false → Holds w v
widens Zero Zero v vs h e = h
widens Zero One v vs h e = absurd (true≢false e)
widens Zero Two v vs h e = absurd (true≢false e)
widens Zero Four v vs h e = absurd (true≢false e)
widens One Zero v vs h e = rw h (omega arith)
widens One One v vs h e = h
widens One Two v vs h e = absurd (true≢false e)
widens One Four v vs h e = absurd (true≢false e)
widens Two Zero v vs h e = absurd (true≢false e)
widens Two One v vs h e = omega arith
widens Two Two v vs h e = h
widens Two Four v vs h e = absurd (true≢false e)
widens Four Zero v vs h e = absurd (true≢false e)
widens Four One v vs h e = absurd (true≢false e)
widens Four Two v vs h e = absurd (true≢false e)
widens Four Four v vs h e = h

pub goes_le : (w : Width) (m : ℕ) (vs : List ℤ) → (goes_on w m vs ≤ m) × (goes_on w m vs ≤ length vs)
goes_le w zero vs = omega arith
goes_le w (suc m) [] = omega arith
goes_le w (suc m) (v ∷ vs) =
    let ih = goes_le w m vs in
    elim (stops w (wide v) vs) as (λ b. (cond b 0 (suc (goes_on w m vs)) ≤ suc m) × (cond b 0 (suc (goes_on w m vs)) ≤ suc (length vs))) [
      | true ↦ omega arith
      | false ↦ omega arith
    ]

goes_holds : (w : Width) (m : ℕ) (vs : List ℤ) → AllByRecursion Fits32 vs → AllByRecursion (Holds w) (take (goes_on w m vs) vs)
goes_holds w zero vs h = tt
goes_holds w (suc m) [] h = tt
goes_holds w (suc m) (v ∷ vs) h = at (stops w (wide v) vs) refl (goes_holds w m vs h.1)
  where
    at : (b : Bool) → stops w (wide v) vs ≡ b → AllByRecursion (Holds w) (take (goes_on w m vs) vs) → AllByRecursion (Holds w) (take (cond b 0 (suc (goes_on w m vs))) (v ∷ vs))
    at true e ih = tt
    at false e ih = (widens w (wide v) v vs (own_holds v h.0) e, ih)

value_reads : (end : ℕ) (w : Width) (v : ℤ) → Holds w v → (rest : List ℕ) → read_value end w (bytes w v ++ rest) ≡ got v rest
value_reads end Zero v h rest = ap (λ (z : ℤ). got z rest) (sym h)
value_reads end One v h rest = signed_reads Values end w8 v 1 refl h rest
value_reads end Two v h rest = signed_reads Values end w16 v 2 refl h rest
value_reads end Four v h rest = signed_reads Values end w32 v 4 refl h rest

kind-control : (w : Width) (m : ℕ) → m < 64 → kind (control w m / 64) ≡ w
kind-control Zero m h = let e : (0x80 + m) / 64 ≡ 2 = omega arith in ap kind e
kind-control One m h = let e : m / 64 ≡ 0 = omega arith in ap kind e
kind-control Two m h = let e : (0x40 + m) / 64 ≡ 1 = omega arith in ap kind e
kind-control Four m h = let e : (0xC0 + m) / 64 ≡ 3 = omega arith in ap kind e

len_control : (w : Width) (m : ℕ) → m < 64 → control w m % 64 + 1 ≡ suc m
len_control Zero m h = omega arith
len_control One m h = omega arith
len_control Two m h = omega arith
len_control Four m h = omega arith

run_reads : (end : ℕ) (w : Width) (m : ℕ) (xs : List ℤ) → m < 64 → length xs ≡ suc m → AllByRecursion (Holds w) xs → (rest : List ℕ) → read_run end (control w m ∷ (flat_map (bytes w) xs ++ rest)) ≡ got xs rest
run_reads end w m xs h e hs rest =
    rw (kind-control w m h, len_control w m h ∙ sym e, many_read (Holds w) (bytes w) (read_value end w) (value_reads end w) xs hs rest)

pack_run : (k : ℕ) (w : Width) (vs : List ℤ) → k ≤ length vs → pack k w vs ≡ flat_map (bytes w) (take k vs) ++ packed (drop k vs)
unfolding pack
pack_run zero w [] h = refl
pack_run zero w (v ∷ vs) h = refl
pack_run (suc k) w [] h = refl
pack_run (suc k) w (v ∷ vs) h = rw (pack_run k w vs (omega arith)) (sym (append_assoc (bytes w v) (flat_map (bytes w) (take k vs)) (packed (drop k vs))))

-- the first run of a packing
pub packed_first : (v : ℤ) (vs : List ℤ) → packed (v ∷ vs) ≡ control (wide v) (goes_on (wide v) 63 vs) ∷ (flat_map (bytes (wide v)) (v ∷ take (goes_on (wide v) 63 vs) vs) ++ packed (drop (goes_on (wide v) 63 vs) vs))
unfolding pack
packed_first v vs =
    let le = goes_le (wide v) 63 vs in
    ap (λ r. control (wide v) (goes_on (wide v) 63 vs) ∷ r) (pack_run (suc (goes_on (wide v) 63 vs)) (wide v) (v ∷ vs) (omega arith))

pub length_run : (w : Width) (vs : List ℤ) → length (take (goes_on w 63 vs) vs) ≡ goes_on w 63 vs
length_run w vs = let le = goes_le w 63 vs in simp length-take (omega arith)

first_run : (end : ℕ) (v : ℤ) (vs : List ℤ) → AllByRecursion Fits32 (v ∷ vs) → (after : List ℕ) → read_run end (packed (v ∷ vs) ++ after) ≡ got (v ∷ take (goes_on (wide v) 63 vs) vs) (packed (drop (goes_on (wide v) 63 vs) vs) ++ after)
first_run end v vs h after =
    let le = goes_le (wide v) 63 vs in
    rw (packed_first v vs, append_assoc)
    (run_reads end (wide v) (goes_on (wide v) 63 vs) (v ∷ take (goes_on (wide v) 63 vs) vs) (omega arith) (ap suc (length_run (wide v) vs))
    (own_holds v h.0, goes_holds (wide v) 63 vs h.1) _)

due_read : (end fuel : ℕ) (vs : List ℤ) → AllByRecursion Fits32 vs → length vs ≤ fuel → (after : List ℕ) → unpack_due end fuel (length vs) (packed vs ++ after) ≡ got vs after
unfolding unpack_due pack
due_read end zero [] h le after = refl
due_read end (suc fuel) [] h le after = refl
due_read end zero (v ∷ vs) h le after = absurd (omega arith)
due_read end (suc fuel) (v ∷ vs) h le after =
    let m = goes_on (wide v) 63 vs in
    let few = goes_le (wide v) 63 vs in
    let n = length_run (wide v) vs in
    let left : suc (length vs) - suc (length (take m vs)) ≡ length (drop m vs) = simp length-drop (omega arith) in
    let short : ltb (suc (length vs)) (suc (length (take m vs))) ≡ false = le-ltb (suc (length vs)) (suc (length (take m vs))) (omega arith) in
    rw (first_run end v vs h after, short, left, due_read end fuel (drop m vs) (All-drop Fits32 m vs h.1) (simp length-drop (omega arith)) after, take-append-drop)

first_alone : (end : ℕ) (v : ℤ) (vs : List ℤ) → AllByRecursion Fits32 (v ∷ vs) → read_run end (packed (v ∷ vs)) ≡ got (v ∷ take (goes_on (wide v) 63 vs) vs) (packed (drop (goes_on (wide v) 63 vs) vs))
first_alone end v vs h = simp append-nil at (first_run end v vs h [])

rest_less : (v : ℤ) (vs : List ℤ) → length (packed (drop (goes_on (wide v) 63 vs) vs)) < length (packed (v ∷ vs))
rest_less v vs = omega (arith, simp length-append at (ap length (packed_first v vs)))

all_read : (end fuel : ℕ) (vs : List ℤ) → AllByRecursion Fits32 vs → length (packed vs) ≤ fuel → unpack_all end fuel (packed vs) ≡ got vs []
unfolding unpack_all pack
all_read end fuel [] h le = refl
all_read end zero (v ∷ vs) h le = absurd (omega arith)
all_read end (suc fuel) (v ∷ vs) h le =
    let m = goes_on (wide v) 63 vs in
    rw (first_alone end v vs h, all_read end fuel (drop m vs) (All-drop Fits32 m vs h.1) (omega (arith, rest_less v vs)), take-append-drop)

pub packs : PackedReadsBack
packs vs h end = (all_read end (length (packed vs)) vs h (omega arith), λ after. due_read end (length vs) vs h (omega arith) after)
