use Rattle.x86_lines.proofs.NumberRead.{one_number}
use Rattle.x86_lines.proofs.number.a_piece_is_one_number.Goals as goal

pub returns : goal.returns
returns c = λ word negative other size next h k. one_number word negative other size next h k
