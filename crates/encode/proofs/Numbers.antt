-- The forms of a number, by its length and by the four bytes of its value.
use Rattle.std.proofs.Common.{◌≡◌, ℕ, zero, suc, ◌+◌, ◌-◌, ◌<◌, ◌≤◌, Bool, true, false, cond, nat_lt, List, [], ◌∷◌, length, get_or, take, drop, refl, arith}
use Rattle.std.proofs.lemmas.Bool.Decides.{nat_tests}
use Rattle.write.specs.Bytes.{be}
use Rattle.format.specs.Number.{number, raised}

-- how many bytes a number takes
pub length_number : (n : ℕ) → length (number n) ≡ cond (nat_lt n 0x80) 1 (cond (nat_lt n 0x4000) 2 (cond (nat_lt n 0x200000) 3 (cond (nat_lt n 0x10000000) 4 5)))
unfolding be
length_number n = at (nat_lt n 0x80) (nat_lt n 0x4000) (nat_lt n 0x200000) (nat_lt n 0x10000000)
  where
    at : (p q r s : Bool) →
        length (cond p (be 1 n) (cond q (raised 0x80 (be 2 n)) (cond r (raised 0xC0 (be 3 n)) (cond s (raised 0xE0 (be 4 n)) (0xF0 ∷ be 4 n))))) ≡ cond p 1 (cond q 2 (cond r 3 (cond s 4 5)))
    at true q r s = refl
    at false true r s = refl
    at false false true s = refl
    at false false false true = refl
    at false false false false = refl

-- and how large a number of so many bytes may be
pub number_within : (n : ℕ) → (1 ≤ length (number n)) × (length (number n) ≤ 2 → n < 0x4000) × (length (number n) ≤ 3 → n < 0x200000) × (length (number n) ≤ 4 → n < 0x10000000)
number_within n =
    (grind (arith, nat_tests, length_number), (λ h. grind (arith, nat_tests, length_number)), (λ h. grind (arith, nat_tests, length_number)), (λ h. grind (arith, nat_tests, length_number)))

module _ (n : ℕ) (bs : List ℕ) (is : bs ≡ be 4 n) where
  pub one_byte : length (number n) ≡ 1 → get_or bs 3 0 ∷ [] ≡ number n
  unfolding be
  one_byte h = rw is (grind (arith, nat_tests, length_number))

  pub two_bytes : length (number n) ≡ 2 → (0x80 + get_or bs 2 0) ∷ get_or bs 3 0 ∷ [] ≡ number n
  unfolding be
  two_bytes h = rw is (grind (arith, nat_tests, length_number))

  pub three_bytes : length (number n) ≡ 3 → (0xC0 + get_or bs 1 0) ∷ get_or bs 2 0 ∷ get_or bs 3 0 ∷ [] ≡ number n
  unfolding be
  three_bytes h = rw is (grind (arith, nat_tests, length_number))

  pub four_bytes : length (number n) ≡ 4 → (0xE0 + get_or bs 0 0) ∷ get_or bs 1 0 ∷ get_or bs 2 0 ∷ get_or bs 3 0 ∷ [] ≡ number n
  unfolding be
  four_bytes h = rw is (grind (arith, nat_tests, length_number))

  pub five_bytes : 5 ≤ length (number n) → 0xF0 ∷ get_or bs 0 0 ∷ get_or bs 1 0 ∷ get_or bs 2 0 ∷ get_or bs 3 0 ∷ [] ≡ number n
  unfolding be
  five_bytes h = rw is (grind (arith, nat_tests, length_number))

-- the last bytes of a number's four
pub last_bytes : (size n : ℕ) (all : List ℕ) → size ≤ 4 → all ≡ be 4 n → take (4 - (4 - size)) (drop (4 - size) all) ≡ be size n
unfolding be
last_bytes zero n all h e = refl
last_bytes (suc zero) n all h e = rw e
last_bytes (suc (suc zero)) n all h e = rw e
last_bytes (suc (suc (suc zero))) n all h e = rw e
last_bytes (suc (suc (suc (suc zero)))) n all h e = rw e
last_bytes (suc (suc (suc (suc (suc k))))) n all h e = absurd (omega arith)
