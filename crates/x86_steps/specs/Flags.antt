-- The four flags that conditions read, each known or not (Intel's manual of the IA-32 architecture, volume 1, section 3.4.3 and appendix B; that a flag may be unknown is this project's own).
use Rattle.std.specs.Prelude.{ℕ, ◌+◌, ◌-◌, ◌%◌, ◌^◌, Bool, false, not, ◌||◌, ◌==◌, nat_lt, nat_le, if◌then◌else◌, Option, Some, None, ℤ, pos, negsuc, ◌+ℤ◌, ◌-ℤ◌}
use Rattle.tso_words.specs.Operators.{signed}
use Rattle.x86_table.specs.declared.instruction.Condition.{Condition}
use Rattle.x86_table.specs.declared.instruction.Condition.TheVariants.{Equal, NotEqual, Less, GreaterOrEqual, LessOrEqual, Greater, Below, AboveOrEqual, BelowOrEqual, Above}
use Rattle.x86_steps.specs.declared.flags.Flags.{Flags}

-- nothing is known
abbrev pub unknown : Flags
unknown = record { zero = None; sign = None; carry = None; overflow = None }

-- the highest bit of a word
abbrev pub is_negative : ℕ → Bool
is_negative w = nat_le (2 ^ 31) w

-- a signed number is none of a word
abbrev pub overflows : ℤ → Bool
overflows (pos n) = nat_le (2 ^ 31) n
overflows (negsuc n) = nat_le (2 ^ 31) n

-- the flags of a sum, of a difference and of a bitwise operation's word
abbrev pub flags_of_sum : (a b : ℕ) → Flags
flags_of_sum a b =
    let sum = (a + b) % 2 ^ 32 in
    record { zero = Some (sum == 0); sign = Some (is_negative sum); carry = Some (nat_le (2 ^ 32) (a + b)); overflow = Some (overflows (signed a +ℤ signed b)) }

abbrev pub flags_of_difference : (a b : ℕ) → Flags
flags_of_difference a b =
    let difference = (a + 2 ^ 32 - b) % 2 ^ 32 in
    record { zero = Some (difference == 0); sign = Some (is_negative difference); carry = Some (nat_lt a b); overflow = Some (overflows (signed a -ℤ signed b)) }

abbrev pub flags_of_bits : ℕ → Flags
flags_of_bits w = record { zero = Some (w == 0); sign = Some (is_negative w); carry = Some false; overflow = Some false }

-- a comparison's zero flag alone
abbrev pub flags_of_match : Bool → Flags
flags_of_match same = record { zero = Some same; sign = None; carry = None; overflow = None }

-- what is said of two flags is known where both are
abbrev pub of_both : (Bool → Bool → Bool) → Option Bool → Option Bool → Option Bool
of_both f None b = None
of_both f (Some a) None = None
of_both f (Some a) (Some b) = Some (f a b)

abbrev pub either : Option Bool → Option Bool → Option Bool
either a b = of_both (λ p q. p || q) a b

abbrev pub differ : Option Bool → Option Bool → Option Bool
differ a b = of_both (λ p q. if p then not q else q) a b

abbrev pub opposite : Option Bool → Option Bool
opposite None = None
opposite (Some a) = Some (not a)

-- whether a condition holds; None where one of the flags that it names is not known
abbrev pub holds : Condition → Flags → Option Bool
holds Equal f = f.zero
holds NotEqual f = opposite f.zero
holds Less f = differ f.sign f.overflow
holds GreaterOrEqual f = opposite (differ f.sign f.overflow)
holds LessOrEqual f = either f.zero (differ f.sign f.overflow)
holds Greater f = opposite (either f.zero (differ f.sign f.overflow))
holds Below f = f.carry
holds AboveOrEqual f = opposite f.carry
holds BelowOrEqual f = either f.carry f.zero
holds Above f = opposite (either f.carry f.zero)
