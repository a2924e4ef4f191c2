use Rattle.std.proofs.Common.{◌≡◌, ◌∙◌, ap}
use Rattle.clight_lang.specs.State.{function_of}
use Rattle.clight_types.specs.Table.{types_of}
use Rattle.clight_files.specs.FilesOf.{function_made_of}
use Rattle.clight_programs.proofs.Placed.{put_entry}
use Rattle.clight_programs.proofs.functions.put_function.Goals as goal

pub returns : goal.returns
returns c =
    let named : c.name.inside.bytes.items ≡ c.args.function.now.name = (let a = c.name.view_is in let b = c.in_ok-name.ensures in cc) in
    put_entry c.put_first.result (types_of c.args.types.now) c.args.function_types.now.keys c.args.sizes.now (function_made_of c.args.function.now) c.args.table.now.entries _ c.name.inside.bytes.items c.in_ok-shared.field-0 named
    (ap function_of c.in_ok-shared.ensures ∙ c.in_ok-meant.ensures) c.put_first.ensures
