use Rattle.std.proofs.Common.{◌∙◌, ap}
use Rattle.clight_types.specs.Table.{types_of}
use Rattle.clight_programs.proofs.Outer.{objects_next, objects_end, externals_next, externals_end}
use Rattle.clight_programs.proofs.globals.outer_meant.Goals as goal

pub loop-name-preserved : goal.loop-name-preserved
loop-name-preserved c =
    record {
      objects = objects_next (types_of c.args.types.now) _ _ c.loop-name.name-iterator _ _ _ c.in-Some.ensures.steps c.in_ok-put.ensures.objects c.loop-name.invariant.objects;
      externals = externals_next c.args.function_types.now.keys _ _ c.loop-name.name-iterator _ _ _ c.in-Some.ensures.steps c.in_ok-put.ensures.externals c.loop-name.invariant.externals;
    }
