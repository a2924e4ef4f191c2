-- What has an effect is no statement that is only evaluated; a `for` is made of what its parts are made of.
use Rattle.std.proofs.Common.{◌≡◌, refl, ap, ◌∙◌}
use Rattle.std.specs.Prelude.{Vec, Box, Option}
use Rattle.std.specs.Option.{option_map}
use Rattle.std.specs.declared.alloc.Global.{Global}
use Rattle.clight_lang.specs.declared.expression.Expr.{Expr}
use Rattle.clight_lang.specs.Syntax.{expression_of}
use Rattle.clight_types.specs.Types.{Types}
use Rattle.clight_operands.specs.Operands.{Typed}
use Rattle.clight_operands.specs.Shown.{deed_of}
use Rattle.clight_operands.specs.declared.typed.Deed.{Deed}
use Rattle.clight_operands.specs.declared.typed.Deed.TheVariants as deed
use Rattle.clight_typing.specs.Statements.{DeedMade, ForMade, statement_made}
use Rattle.clight_typing.specs.Statements as s
use Rattle.clight_made.specs.declared.made.Made.{Made}
use Rattle.clight_made.specs.declared.made.Made.TheVariants.{For}
use Rattle.clight_made.specs.MadeOf.{made_of, made_list}
use Rattle.clight_made.proofs.Shapes.{for_shape}

pub deed_kept : (types : Types) (e : Typed) (d : Deed) → statement_made types e (deed_of d) ≡ DeedMade (deed_of d)
deed_kept types e (deed.Call f args x) = refl
deed_kept types e (deed.Assign a to s) = refl
deed_kept types e (deed.Update a to op other x given) = refl

pub for_made : (ms : Vec Made Global) (c : Option Expr) (u a : Box Made Global) (x y : s.Made) → made_of u.value ≡ x → made_of a.value ≡ y → made_of (For ms c u a) ≡ ForMade (made_list ms.items) (option_map expression_of c) x y
for_made ms c u a x y update body =
    for_shape ms c u a
    ∙ ap (λ z. ForMade (made_list ms.items) (option_map expression_of c) z (made_of a.value)) update
    ∙ ap (ForMade (made_list ms.items) (option_map expression_of c) x) body
