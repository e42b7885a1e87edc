-- A number of k bytes reads back.
use Rattle.std.proofs.Common.{IfSome, ◌≡◌, ℕ, zero, suc, ◌+◌, ◌-◌, ◌*◌, ◌/◌, ◌%◌, ◌^◌, ◌<◌, List, [], ◌∷◌, ◌++◌, length, ℤ, is_some, Some, None, Option, refl, ap, ◌∙◌, append_assoc, mod-eq_of_lt, arith, SFits, to_z, of_z}
use native.Mathlib.Nat.{pow-succ'}
use lib.Arith.{mod-mul}
use Rattle.std.specs.List.{flat_map, AllByRecursion}
use Rattle.write.specs.Bytes.{be}
use Rattle.format.specs.declared.Layer.{Layer}
use Rattle.format.specs.Reads.{Read, got, then, more, fixed, many, optional}
use Rattle.write.specs.Optional.{present}
use lib.Signed.{mag}
use mir.Syntax.{Width}
use mir.Val.{bits, hbits}
use mir.ValLaws.{of_z_fits, to_z-of_z}

pow_256 : (k : ℕ) → 0 < 256 ^ k
pow_256 zero = omega arith
pow_256 (suc k) = let h : 0 < 256 ^ k = pow_256 k in omega arith

pub more_reads : (l : Layer) (place k high n : ℕ) (rest : List ℕ) → more l place k high (be k n ++ rest) ≡ got (high * 256 ^ k + n % 256 ^ k) rest
unfolding be
more_reads l place zero high n rest = ap (λ (x : ℕ). got x rest) (omega arith)
more_reads l place (suc k) high n rest =
    more_reads l place k (high * 256 + n / 256 ^ k % 256) n rest ∙
    ap (λ (x : ℕ). got x rest) (simp pow-succ' (omega (arith, mod-mul n {m = 256} {c = 256 ^ k} (omega arith) (pow_256 k))))

pub fixed_reads : (l : Layer) (end k n : ℕ) → n < 256 ^ k → (rest : List ℕ) → fixed l end k (be k n ++ rest) ≡ got n rest
unfolding fixed
fixed_reads l end k n h rest =
    more_reads l (end - length (be k n ++ rest)) k 0 n rest ∙ ap (λ (x : ℕ). got x rest) (omega (arith, mod-eq_of_lt h))

pub length-be : (k n : ℕ) → length (be k n) ≡ k
unfolding be
length-be zero n = refl
length-be (suc k) n = ap suc (length-be k n)

-- what is written one after the other reads back, where each part does
pub many_read : {X : Type 0} (P : X → Type 0) (write : X → List ℕ) (read : List ℕ → Read X) → ((x : X) → P x → (rest : List ℕ) → read (write x ++ rest) ≡ got x rest) →
    (xs : List X) → AllByRecursion P xs → (rest : List ℕ) → many read (length xs) (flat_map write xs ++ rest) ≡ got xs rest
many_read P write read one [] h rest = refl
many_read P write read one (x ∷ xs) h rest =
    rw (append_assoc (write x) (flat_map write xs) rest, one x h.0 (flat_map write xs ++ rest), many_read P write read one xs h.1 rest)

-- a signed number reads back
pub signed_reads : (l : Layer) (end : ℕ) (w : Width) (z : ℤ) (k : ℕ) → 2 ^ bits w ≡ 256 ^ k → mag z < 2 ^ hbits w → (rest : List ℕ) →
    then (fixed l end k (be k (of_z w z) ++ rest)) (λ n rest'. got (to_z w n) rest') ≡ got z rest
signed_reads l end w z k e h rest =
    let f : SFits w z = record { sfits = h } in
    let lt : of_z w z < 256 ^ k = rw e at (of_z_fits w z f).fits in
    rw (fixed_reads l end k (of_z w z) lt rest) (ap (λ (y : ℤ). got y rest) (to_z-of_z w z f))

-- a value that may be absent reads back
pub optional_reads : {X : Type 0} (P : X → Type 0) (write : X → List ℕ) (read : List ℕ → Read X) → ((x : X) → P x → (rest : List ℕ) → read (write x ++ rest) ≡ got x rest) →
    (o : Option X) → IfSome o P → (rest : List ℕ) → optional (is_some o) read (present write o ++ rest) ≡ got o rest
optional_reads P write read one None h rest = refl
optional_reads P write read one (Some x) h rest = rw (one x h rest)
