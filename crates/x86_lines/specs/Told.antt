-- How the code keeps a number: the size only where it is below 2^128.
use Rattle.std.specs.Prelude.{◌≡◌, ℕ, Bool, List}
use Rattle.x86_lines.specs.declared.number.Number.{Number}
use Rattle.x86_lines.specs.Numbers.{IsNumber}
use Rattle.x86_lines.specs.Reading.{kept}

-- a number as the code keeps it
abbrev pub told : Bool × ℕ → Number
told p = record { negative = p.0; size = kept p.1 }

-- the code's number is that of the piece
pub record IsTold (word : List ℕ) (n : Number) : Type 0 where
  pub size : ℕ
  pub number : IsNumber word n.negative size
  pub keeps : n.size ≡ kept size
