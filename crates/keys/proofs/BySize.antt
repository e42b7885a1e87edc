-- Numbers of records, and their order.
use Rattle.std.proofs.Common.{◌≡◌, ℕ, ◌+◌, ◌<◌, Bool, List, map, length, get_or, Decides, sym, ◌∙◌, arith}
use Rattle.std.proofs.lemmas.List.{get_or-map, get_or_default}
use Rattle.std.proofs.lemmas.Bool.Decides.{Decides-like}
use Rattle.keys.specs.Numbers.{AscendingNumbers, by_size}
use Rattle.keys.specs.Order.{Ascending}

pub reads_number : {X : Type 0} (number : X → ℕ) (xs : List X) (i : ℕ) (x : X) (n : ℕ) → i < length xs → n ≡ number (get_or xs i x) → n ≡ get_or (map number xs) i n
reads_number number xs i x n l e = e ∙ sym (get_or-map number xs i x n l)

up_to : (ns : List ℕ) → Ascending by_size ns → AscendingNumbers ns
up_to ns up = record { next = λ i l. let h = up.next i 0 l in omega arith }

down_to : (ns : List ℕ) → AscendingNumbers ns → Ascending by_size ns
down_to ns up =
    record { next = λ i d l le. let h = up.next i l in omega (arith, get_or_default ns i d 0 (omega arith), get_or_default ns (i + 1) d 0 l) }

pub by_numbers : (ns : List ℕ) (r : Bool) → Decides r (Ascending by_size ns) → Decides r (AscendingNumbers ns)
by_numbers ns r h = Decides-like r (up_to ns) (down_to ns) h
