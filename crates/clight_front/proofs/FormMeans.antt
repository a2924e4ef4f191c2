-- That the ten tokens mean the program that returns their number.
use Rattle.std.proofs.Common.{◌≡◌, ℕ, List, [], length, true, Some, None, refl}
use Rattle.std.proofs.lemmas.Bool.{le-leb}
use Rattle.c_tree.specs.Reading.{file_tree}
use Rattle.c_tree.specs.Trees.{FileTree}
use Rattle.clight_lang.specs.MainAlone.{returned}
use Rattle.clight_types.specs.Constants.{is_int_word}
use Rattle.clight_types.specs.Judged.{value, made_of}
use Rattle.clight_files.specs.Files.{file_judged}
use Rattle.clight_meaning.specs.Counts.{passed_counts}
use Rattle.clight_meaning.specs.Meaning.{program_meant}
use Rattle.clight_laws.specs.Laws.{Means}
use Rattle.first_form.specs.Form.{TenTokens}
use Rattle.first_form.proofs.Ten.{read, form_tokens}
use Rattle.first_form.proofs.Tree.{form_file, form_is}
use Rattle.clight_front.specs.Fronts.{HasProgram}

module _ (size n p0 p1 p2 p3 p4 p5 p6 p7 p8 p9 : ℕ) (small : is_int_word n ≡ true) where
  abbrev form : FileTree
  form = file_tree (form_file n p0 p1 p2 p3 p4 p5 p6 p7 p8 p9)

  judged : file_judged size form ≡ value (made_of (file_judged size form))
  judged = rw small refl

  counted : passed_counts size form (made_of (file_judged size form)) ≡ []
  counted = rw small refl

  meant : program_meant form (made_of (file_judged size form)) ≡ Some (returned n)
  meant = rw small refl

  pub form_means : Means size form (returned n)
  form_means = record { made = made_of (file_judged size form); judged = judged; counted = counted; program = meant }

pub form_program : (bytes : List ℕ) (n : ℕ) → TenTokens bytes n → HasProgram bytes (returned n)
form_program bytes n h =
    let r = read bytes n h in
    record {
      file = file_tree (form_file n r.p0 r.p1 r.p2 r.p3 r.p4 r.p5 r.p6 r.p7 r.p8 r.p9);
      read = record {
        tokens = form_tokens n r.p0 r.p1 r.p2 r.p3 r.p4 r.p5 r.p6 r.p7 r.p8 r.p9;
        are = record { scanned = r.listed.tokens; bad = None; exact = r.listed.are; each = r.listed.each };
        answers = form_is n r.p0 r.p1 r.p2 r.p3 r.p4 r.p5 r.p6 r.p7 r.p8 r.p9 (length bytes);
      };
      means = form_means (length bytes) n r.p0 r.p1 r.p2 r.p3 r.p4 r.p5 r.p6 r.p7 r.p8 r.p9 (le-leb n 2147483647 h.small);
    }
