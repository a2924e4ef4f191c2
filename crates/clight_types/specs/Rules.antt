-- The rules of the profile's typing and their numbers, which the program prints.
use Rattle.std.specs.Prelude.{ℕ}
use Rattle.clight_types.specs.declared.rule.Rule.{Rule}
use Rattle.clight_types.specs.declared.rule.Rule.TheVariants as rule

abbrev pub rule_number : Rule → ℕ
rule_number rule.Floating = 1
rule_number rule.Union = 2
rule_number rule.LargeDecimal = 3
rule_number rule.Undeclared = 4
rule_number rule.DefinedTwice = 5
rule_number rule.TypesDiffer = 6
rule_number rule.Incomplete = 7
rule_number rule.TagTwice = 8
rule_number rule.ArrayOrFunction = 9
rule_number rule.LargeType = 10
rule_number rule.StructValue = 11
rule_number rule.InBlock = 12
rule_number rule.Initializer = 13
rule_number rule.Main = 14
rule_number rule.Operands = 15
rule_number rule.NotAssignable = 16
rule_number rule.NeedsCast = 17
rule_number rule.Call = 18
rule_number rule.Label = 19
rule_number rule.Jump = 20
rule_number rule.Return = 21
rule_number rule.NoObject = 22
rule_number rule.EffectPlace = 23
rule_number rule.NarrowResult = 24
rule_number rule.AtomicPlace = 25
rule_number rule.NoMember = 26
rule_number rule.Enumerator = 27
rule_number rule.Condition = 28
rule_number rule.NeverDefined = 29
rule_number rule.NamelessParameter = 30
