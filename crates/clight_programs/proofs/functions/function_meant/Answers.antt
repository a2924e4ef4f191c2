use Rattle.std.proofs.Common.{map, ap, ◌∙◌}
use Rattle.clight_types.specs.Table.{types_of}
use Rattle.clight_placing.specs.InnerOf.{location_of}
use Rattle.clight_files.specs.FilesOf.{function_made_of}
use Rattle.clight_counts.specs.CountsOf.{size_of}
use Rattle.clight_programs.proofs.Placed.{meant_by}
use Rattle.clight_programs.proofs.functions.function_meant.Goals as goal

pub returns : goal.returns
returns c =
    meant_by c.function_placed.result (types_of c.args.types.now) c.args.function_types.now.keys (size_of c.in_ok-size.size) _ (function_made_of c.args.function.now) c.deref.result.now c.requires
    (ap (map location_of) c.deref.ensures.value ∙ c.in_ok-locations.ensures) c.in_ok-size.ensures c.function_placed.ensures
