use Rattle.std.proofs.Common.{◌≡◌, List, ℕ, ◌∷◌, [], ◌∙◌, ap, subst}
use Rattle.std.specs.Prelude.{MatchOption}
use Rattle.x86_lines.specs.Pieces.{pieces}
use Rattle.x86_lines.proofs.FirstPiece.{past_pieces, past_twice}
use Rattle.x86_lines.proofs.piece.next_piece.Goals as goal

pub first_piece-requires : goal.first_piece-requires
first_piece-requires c = rw c.past_blanks.ensures (past_twice c.args.line.now)

pub returns : goal.returns
returns c =
    let same : pieces c.past_blanks.result.now ≡ pieces c.args.line.now = ap pieces c.past_blanks.ensures ∙ past_pieces c.args.line.now in
    subst (λ (ps : List (List ℕ)). MatchOption c.first_piece.result (ps ≡ []) (λ p. ps ≡ p.word.now ∷ pieces p.rest.now)) same c.first_piece.ensures
