use Rattle.std.proofs.Common.{◌≡◌, not, map, ap, subst, ◌∙◌}
use Rattle.std.specs.Prelude.{IfOk, Vec}
use Rattle.std.specs.declared.alloc.Global.{Global}
use Rattle.clight_types.specs.Types.{is_scalar}
use Rattle.clight_types.specs.Table.{types_of}
use Rattle.clight_placing.specs.declared.inner.Location.{Location}
use Rattle.clight_placing.specs.InnerOf.{location_of}
use Rattle.clight_files.specs.FilesOf.{function_made_of}
use Rattle.clight_programs.specs.Locals.{marked}
use Rattle.clight_programs.proofs.Marks.{marks_are}
use Rattle.clight_programs.proofs.locations.locations.Goals as goal

pub returns : goal.returns
returns c =
    subst (λ l. IfOk c.located.result (λ (list : Vec Location Global). map location_of list.items ≡ l))
    (marks_are (types_of c.args.types.now) (function_made_of c.args.function.now) c.in_ok-marks.marks.items _
    (c.in_ok-marks.ensures ∙ ap (map (λ t. not (is_scalar (types_of c.args.types.now) t))) c.deref.ensures.value)
    (c.deref-3.ensures.value ∙ c.mark_addressed.ensures ∙ ap (marked c.in_ok-marks.marks.items) c.deref-2.ensures.value))
    c.located.ensures
