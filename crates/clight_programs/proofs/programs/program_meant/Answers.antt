use Rattle.std.proofs.Common.{map, refl, sym, ap, ◌∙◌}
use Rattle.clight_lang.specs.State.{FunctionOf, functions_of}
use Rattle.clight_types.specs.Table.{types_of}
use Rattle.clight_files.specs.FilesOf.{file_made_of, functions_of as made_functions}
use Rattle.clight_meaning.specs.Meaning.{main_of}
use Rattle.clight_programs.specs.ProgramsOf.{function_table}
use Rattle.clight_programs.proofs.Whole.{meant}
use Rattle.clight_programs.proofs.programs.program_meant.Goals as goal

pub returns : goal.returns
returns c =
    meant (file_made_of c.args.made.now) c.args.sizes.now c.args.made.now.scene.file.entries c.in_ok-function_types.function_types.keys
    (function_table (types_of c.args.made.now.scene.types) c.in_ok-function_types.function_types.keys c.args.sizes.now (made_functions c.args.made.now.functions.items))
    (functions_of c.in_ok-functions.functions.items) _ refl c.in_ok-function_types.ensures refl c.in_ok-functions.ensures refl
    (ap (λ l. main_of (functions_of l)) (sym c.deref.ensures.value) ∙ c.in_ok-main.ensures)
    (c.in_ok-names.ensures ∙ ap (λ l. map (λ (f : FunctionOf). f.name) (functions_of l)) c.deref-2.ensures.value)
    c.in_ok-outer.ensures.objects c.in_ok-outer.ensures.externals c.in_ok-types.ensures c.thread_type.ensures
