-- Which refusal of the front end one of its parts becomes.
use Rattle.c_reader.specs.declared.file.ReadFileRefusal.{ReadFileRefusal}
use Rattle.c_reader.specs.declared.file.ReadFileRefusal.TheVariants as reader
use Rattle.clight_types.specs.Rules.{rule_number}
use Rattle.clight_counts.specs.PassedOf.{number_of}
use Rattle.clight_programs.specs.declared.checks.CheckRefusal.{CheckRefusal}
use Rattle.clight_programs.specs.declared.checks.CheckRefusal.TheVariants as check
use Rattle.clight_front.specs.declared.fronts.FrontRefusal.{FrontRefusal}
use Rattle.clight_front.specs.declared.fronts.FrontRefusal.TheVariants as front

abbrev pub unread : ReadFileRefusal → FrontRefusal
unread (reader.Syntax at) = front.Syntax at
unread (reader.TooDeep at) = front.TooDeep at
unread reader.NoMemory = front.NoMemory

abbrev pub unchecked : CheckRefusal → FrontRefusal
unchecked (check.Faulty f) = front.Types (rule_number f.rule) f.at
unchecked (check.Passed count at) = front.TooLarge (number_of count) at
unchecked check.NoMemory = front.NoMemory
