-- The tokens as the grammar takes them (ISO C99 6.4): what a token is, and the byte of the file at which it begins.
use Rattle.std.specs.Prelude.{ℕ, List}

-- an identifier, by its bytes, of any length
abbrev pub Identifier : Type 0
Identifier = List ℕ

-- the byte of the file at which a token begins
abbrev pub Place : Type 0
Place = ℕ

-- a constant: how it is written, as far as its type hangs on it, and its value (6.4.4)
pub data Number : Type 0 where
  Decimal Octal_or_hexadecimal Decimal_unsigned Other_unsigned Character : ℕ → Number

-- the operators between two operands and those before one (6.5.3 to 6.5.14); `&`, `*`, `+` and `-` are both
pub data Operator : Type 0 where
  LogicalOr LogicalAnd BitOr BitXor Ampersand Equal NotEqual Less Greater LessEqual GreaterEqual ShiftLeft ShiftRight Plus Minus Star Slash Percent Complement Not : Operator

-- `=` and the compound assignments (6.5.16)
pub data AssignmentOperator : Type 0 where
  Equals StarEquals SlashEquals PercentEquals PlusEquals MinusEquals ShiftLeftEquals ShiftRightEquals AndEquals XorEquals OrEquals : AssignmentOperator

-- `++` and `--`
pub data Increment : Type 0 where
  Increase Decrease : Increment

-- `.` and `->`
pub data Access : Type 0 where
  Dot Arrow : Access

-- the words that types are written with (6.7.2)
pub data TypeWord : Type 0 where
  Void Char Short Int Long Float Double Signed Unsigned : TypeWord

-- the type qualifiers (6.7.3)
pub data Qualifier : Type 0 where
  Const Volatile Restrict : Qualifier

-- the storage-class specifiers (6.7.1) of the profile
pub data StorageClass : Type 0 where
  Extern Static Typedef : StorageClass

-- `struct` and `union`
pub data CompositeWord : Type 0 where
  Struct Union : CompositeWord

-- the jumps without an operand (6.8.6)
pub data Jump : Type 0 where
  Break Continue : Jump

-- What a token is. `Refused` stands for the bad token and for the keywords that no rule has.
pub data Kind : Type 0 where
  Name : Identifier → Kind
  Constant : Number → Kind
  Op : Operator → Kind
  Assignment : AssignmentOperator → Kind
  Step : Increment → Kind
  Member : Access → Kind
  TypeKeyword : TypeWord → Kind
  Qualify : Qualifier → Kind
  Storage : StorageClass → Kind
  Composite : CompositeWord → Kind
  JumpWord : Jump → Kind
  Inline Enum Sizeof If Else While Do For Switch Case Default Return : Kind
  LeftBrace RightBrace LeftParen RightParen LeftBracket RightBracket Semicolon Comma Question Colon : Kind
  Refused : Kind

-- a token and its place
pub data Token : Type 0 where
  token : Kind → Place → Token
