use Rattle.c_tree.specs.FileShape.{file_of}
use Rattle.clight_files.specs.FilesOf.{file_made_of}
use Rattle.clight_lang.specs.Meaning.{program_of}
use Rattle.clight_programs.proofs.Checked.{judged_refused, counts_refused, short_refused, first_is_void, means}
use Rattle.clight_programs.proofs.checks.check.Goals as goal

pub returns-in_err-made : goal.returns-in_err-made
returns-in_err-made c = judged_refused c.args.length (file_of c.args.file.now) file_made_of _ c.from_residual.result c.in_err-made.ensures c.from_residual.ensures.1

pub returns-in_err-sizes : goal.returns-in_err-sizes
returns-in_err-sizes c = counts_refused c.args.length (file_of c.args.file.now) (file_made_of c.in_ok-made.made) c.in_ok-made.ensures _ c.from_residual-in_err-sizes.result c.in_err-sizes.ensures.kept c.from_residual-in_err-sizes.ensures.1

pub program_meant-requires : goal.program_meant-requires
program_meant-requires c = first_is_void c.args.length (file_of c.args.file.now) (file_made_of c.in_ok-made.made) c.requires c.in_ok-made.ensures

pub returns-in_err-program : goal.returns-in_err-program
returns-in_err-program c = short_refused c.args.length (file_of c.args.file.now) c.from_residual-in_err-program.result c.from_residual-in_err-program.ensures.1

pub returns : goal.returns
returns c = means c.args.length (file_of c.args.file.now) (file_made_of c.in_ok-made.made) c.in_ok-sizes.sizes (program_of c.in_ok-program.program) c.in_ok-made.ensures c.in_ok-sizes.ensures.sizes c.in_ok-sizes.ensures.kept c.in_ok-program.ensures
