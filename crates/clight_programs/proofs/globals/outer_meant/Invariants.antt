use Rattle.std.proofs.Common.{◌≡◌, ◌++◌, map}
use Rattle.tso_core.specs.Stated.{object_of}
use Rattle.clight_lang.specs.Meaning.{external_of}
use Rattle.clight_types.specs.Table.{types_of}
use Rattle.clight_scopes.specs.SceneOf.{file_of}
use Rattle.clight_meaning.specs.Meaning.{objects_meant}
use Rattle.clight_programs.specs.ProgramsOf.{externals_with}
use Rattle.clight_programs.proofs.globals.outer_meant.Given as goal

abbrev pub invariant-loop-name : goal.invariant-loop-name
invariant-loop-name l =
    record {
      objects : map object_of l.outer.objects.items ++ objects_meant (types_of l.types) (file_of l.name-iterator) ≡ objects_meant (types_of l.types) (file_of l.file.entries);
      externals : map external_of l.outer.externals.items ++ externals_with l.function_types.keys (file_of l.name-iterator) ≡ externals_with l.function_types.keys (file_of l.file.entries);
    }
