-- Which judged expression a value of the code's types is: the same with plain trees.
use Rattle.std.specs.Prelude.{List, Option, Some, None, Box, map}
use Rattle.std.specs.declared.alloc.Global.{Global}
use Rattle.c_tree.specs.Shape.{binary_of}
use Rattle.clight_lang.specs.Syntax.{expression_of}
use Rattle.clight_operands.specs.declared.typed.Allowed.{Allowed}
use Rattle.clight_operands.specs.declared.typed.Allowed.TheVariants as allowed
use Rattle.clight_operands.specs.declared.typed.Naming.{Naming}
use Rattle.clight_operands.specs.declared.typed.Naming.TheVariants as naming
use Rattle.clight_operands.specs.declared.typed.Callee.{Callee}
use Rattle.clight_operands.specs.declared.typed.Callee.TheVariants as callee
use Rattle.clight_operands.specs.declared.typed.Source.{Source}
use Rattle.clight_operands.specs.declared.typed.Source.TheVariants as source
use Rattle.clight_operands.specs.declared.typed.Deed.{Deed}
use Rattle.clight_operands.specs.declared.typed.Deed.TheVariants as deed
use Rattle.clight_operands.specs.declared.typed.Typed.{Typed}
use Rattle.clight_operands.specs.Operands as o

abbrev pub allowed_of : Allowed → o.Allowed
allowed_of allowed.NoEffect = o.NoEffect
allowed_of allowed.Call = o.CallAllowed
allowed_of allowed.Effect = o.EffectAllowed

abbrev pub naming_of : Naming → o.Naming
naming_of naming.Nothing = o.NoName
naming_of (naming.Local n) = o.LocalName n
naming_of (naming.External name) = o.ExternalName name
naming_of (naming.Builtin b) = o.BuiltinName b

abbrev pub callee_of : Callee → o.Callee
callee_of (callee.Inside t f) = o.Inside t (expression_of f)
callee_of (callee.Outside name t) = o.Outside name t
callee_of (callee.Provided b) = o.Provided b

abbrev pub source_of : Source → o.Source
source_of (source.Value e) = o.FromValue (expression_of e)
source_of (source.Call f args x) = o.FromCall (callee_of f) (map expression_of args.items) x

abbrev pub deed_of : Deed → o.Deed
deed_of (deed.Call f args x) = o.CallDeed (callee_of f) (map expression_of args.items) x
deed_of (deed.Assign a to s) = o.AssignDeed (expression_of a) to (source_of s)
deed_of (deed.Update a to op other e given) = o.UpdateDeed (expression_of a) to (binary_of op) other (expression_of e) given

abbrev pub deed_in : Option (Box Deed Global) → o.Deed
deed_in None = o.NoDeed
deed_in (Some d) = deed_of d.value

abbrev pub typed_of : Typed → o.Typed
typed_of x = record { at = x.at; denoted = x.denoted; constant = x.constant; naming = naming_of x.naming; meaning = expression_of x.meaning; deed = deed_in x.deed }

abbrev pub all_typed : List Typed → List o.Typed
all_typed xs = map typed_of xs
