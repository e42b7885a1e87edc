-- Lengths that a program answers.
use Rattle.std.specs.Prelude.{ℕ, ◌-◌, ◌^◌, min}

-- a length as the machine says it: its greatest number stands for all that are longer
abbrev pub measured : ℕ → ℕ
measured n = min n (2 ^ 64 - 1)
