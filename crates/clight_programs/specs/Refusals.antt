-- Which refusal of the check one of its parts becomes.
use Rattle.clight_types.specs.declared.rule.Refusal.{Refusal}
use Rattle.clight_types.specs.declared.rule.Refusal.TheVariants as fault
use Rattle.clight_counts.specs.declared.limits.Excess.{Excess}
use Rattle.clight_counts.specs.declared.limits.Excess.TheVariants as excess
use Rattle.clight_programs.specs.declared.checks.CheckRefusal.{CheckRefusal}
use Rattle.clight_programs.specs.declared.checks.CheckRefusal.TheVariants as check

abbrev pub fault_refused : Refusal → CheckRefusal
fault_refused (fault.Faulty f) = check.Faulty f
fault_refused fault.NoMemory = check.NoMemory

abbrev pub count_refused : Excess → CheckRefusal
count_refused (excess.Passed p) = check.Passed p.count p.at
count_refused excess.NoMemory = check.NoMemory
