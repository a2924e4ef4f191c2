use Rattle.c_tree.specs.FileShape.{file_of}
use Rattle.c_shapes.proofs.Files.{read_shaped}
use Rattle.clight_front.proofs.Fronted.{read_refused, check_refused}
use Rattle.clight_front.proofs.fronts.front.Goals as goal

pub returns-in_err-file : goal.returns-in_err-file
returns-in_err-file c = read_refused c.args.bytes.now _ c.from_residual.result c.in_err-file.ensures c.from_residual.ensures.1

pub check-requires : goal.check-requires
check-requires c = read_shaped c.args.bytes.now (file_of c.in_ok-file.file) c.in_ok-file.ensures

pub returns-in_err-program : goal.returns-in_err-program
returns-in_err-program c = check_refused c.args.bytes.now (file_of c.in_ok-file.file) _ c.from_residual-in_err-program.result c.in_ok-file.ensures c.in_err-program.ensures c.from_residual-in_err-program.ensures.1

pub returns : goal.returns
returns c = record { file = file_of c.in_ok-file.file; read = c.in_ok-file.ensures; means = c.in_ok-program.ensures }
