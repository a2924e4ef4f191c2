use Rattle.std.proofs.lemmas.Result.{err_from_is_err_and}
use Rattle.c_reader.proofs.Answered.{are_listed, fault_read, end_read}
use Rattle.c_reader.proofs.file.read_file.Goals as goal

pub returns-in_err-mode : goal.returns-in_err-mode
returns-in_err-mode c =
    let bytes = c.args.bytes.now in
    let list = c.deref-listed-items.result.now in
    let are = are_listed bytes c.in_ok-tokens.tokens.items list c.deref-listed-items.ensures.value c.in_ok-tokens.ensures.exact in
    let reads = fault_read bytes list c.loop-listed.listed-index _ _ _ c.loop-listed.context _ are c.loop-listed-test.true c.in_ok-token.ensures c.loop-listed.invariant c.in_err-mode.ensures in
    let p = err_from_is_err_and c.from_residual-in_err-mode.result c.from_residual-in_err-mode.ensures.1 in
    rw (p.1, p.2) reads

pub returns : goal.returns
returns c =
    let bytes = c.args.bytes.now in
    let list = c.deref-listed-items.result.now in
    let are = are_listed bytes c.in_ok-tokens.tokens.items list c.deref-listed-items.ensures.value c.in_ok-tokens.ensures.exact in
    end_read bytes list c.loop-listed.listed-index _ _ are c.loop-listed-test.false c.loop-listed.invariant c.file_end.ensures
