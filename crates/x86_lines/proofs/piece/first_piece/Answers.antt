use Rattle.std.proofs.Common.{List, ℕ, ◌+◌, ◌∷◌, sym, ◌∙◌, ap, drop, get_or}
use Rattle.x86_lines.specs.Pieces.{pieces}
use Rattle.x86_lines.specs.Reading.{behind_first}
use Rattle.x86_lines.proofs.FirstPiece.{first_cut, tail_is}
use Rattle.x86_lines.proofs.piece.first_piece.Goals as goal

pub returns-in-len1-up : goal.returns-in-len1-up
returns-in-len1-up c =
    let n = c.behind_first.result in
    first_cut c.args.line.now n c.in-len1-up.len_at_least c.requires (c.behind_first.ensures.exact ∙ ap (behind_first (get_or c.args.line.now 0 0)) (tail_is c.args.line.now))
    ∙ ap (λ (w : List ℕ). w ∷ pieces (drop (1 + n) c.args.line.now)) (sym c.split_at.ensures.front)
    ∙ ap (λ (t : List ℕ). c.split_at.result.0.now ∷ pieces t) (sym c.split_at.ensures.back)
