use Rattle.std.proofs.Common.{◌∙◌, ap}
use Rattle.std.specs.Prelude.{unwrap_or, slice_get}
use Rattle.clight_types.specs.Table.{types_of}
use Rattle.clight_types.specs.Types.{value_at}
use Rattle.clight_files.specs.FilesOf.{function_made_of}
use Rattle.clight_placing.specs.InnerOf.{inner_of}
use Rattle.clight_programs.proofs.Steps.{kept_next}
use Rattle.clight_programs.proofs.locals.kept.Goals as goal

pub loop-argument-preserved : goal.loop-argument-preserved
loop-argument-preserved c =
    kept_next (inner_of c.args.inner.now) (function_made_of c.args.function.now) c.loop-argument.argument _ _ _ _
    (c.value-value.ensures ∙ ap (value_at (types_of c.args.inner.now.types.now)) (c.local_type-t.ensures ∙ ap (λ l. unwrap_or (slice_get l c.loop-argument.argument) 0) c.deref.ensures.value))
    c.location-location.ensures c.in_ok-put_kept.ensures c.loop-argument.invariant
