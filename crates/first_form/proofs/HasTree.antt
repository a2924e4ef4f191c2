-- The laws of the form.
use Rattle.std.proofs.Common.{ℕ, List, None, length}
use Rattle.c_tokens.specs.Tokens.{Tokens}
use Rattle.c_tokens.specs.declared.token.Token.{Token}
use Rattle.c_tree.specs.Reading.{file_tree}
use Rattle.c_tree.specs.Trees.{FileTree}
use Rattle.c_reading.specs.Answers.{tree}
use Rattle.c_reading.specs.FileAnswers.{IsFileAnswer}
use Rattle.first_form.specs.Form.{AreTen, TenTokens}
use Rattle.first_form.proofs.Ten.{read, form_tokens}
use Rattle.first_form.proofs.Tree.{form_file, form_is}

pub listed : (bytes : List ℕ) (n : ℕ) → TenTokens bytes n → (tokens : List Token) × Tokens bytes tokens None × AreTen bytes tokens n
listed bytes n h = let r = read bytes n h in (r.listed.tokens, r.listed.are, record { small = h.small; words = r.listed.words_are })

pub has_tree : (bytes : List ℕ) (n : ℕ) → TenTokens bytes n → (file : FileTree) × IsFileAnswer bytes (tree file)
has_tree bytes n h =
    let r = read bytes n h in (
      file_tree (form_file n r.p0 r.p1 r.p2 r.p3 r.p4 r.p5 r.p6 r.p7 r.p8 r.p9),
      record {
        tokens = form_tokens n r.p0 r.p1 r.p2 r.p3 r.p4 r.p5 r.p6 r.p7 r.p8 r.p9;
        are = record { scanned = r.listed.tokens; bad = None; exact = r.listed.are; each = r.listed.each };
        answers = form_is n r.p0 r.p1 r.p2 r.p3 r.p4 r.p5 r.p6 r.p7 r.p8 r.p9 (length bytes);
      },
    )
