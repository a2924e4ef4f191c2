-- That a text is a compilation, from the theorem of its program and its assembly.
use Rattle.std.proofs.Common.{◌≡◌, ℕ, List, refl, arith}
use Rattle.tso_core.specs.Theorem.{EveryRunMatched}
use Rattle.tso_core.specs.Machine.{machine}
use Rattle.clight_lang.specs.Meaning.{language}
use Rattle.clight_lang.specs.MainAlone.{returned}
use Rattle.x86_lang.specs.Assembly.{labels_of}
use Rattle.x86_text.specs.Text.{AsmOf}
use Rattle.x86_text.specs.Printed.{printed}
use Rattle.x86_machine.specs.X86Tso.{x86_machine}
use Rattle.first_form.specs.Form.{TenTokens}
use Rattle.clight_front.proofs.FormMeans.{form_program}
use Rattle.first_pass.specs.Assembled.{parts_returning, returning}
use Rattle.tso_top.specs.Compiles.{Compiles}

pub compiles : (bytes text : List ℕ) (n : ℕ) → TenTokens bytes n → AsmOf text (parts_returning n) → text ≡ printed (parts_returning n) → EveryRunMatched (machine (language (returned n))) (x86_machine (returning n)) 1 → Compiles bytes text
unfolding x86_machine
compiles bytes text n means is form theorem = record {
  program = returned n;
  means = form_program bytes n means;
  asm = parts_returning n;
  is_assembly = is;
  is_printed = form;
  labels_proper = theorem.labels_proper (labels_of (parts_returning n)) refl;
  some_pace = omega arith;
  pace_bound = omega arith;
  follows = theorem.matched (labels_of (parts_returning n)) refl;
}
