-- What the code's built types, lengths, parameters and parts of declarators are.
use Rattle.std.specs.Prelude.{ℕ, List, map}
use Rattle.clight_types.specs.declared.declarators.Length as L
use Rattle.clight_types.specs.declared.declarators.Length.TheVariants as written
use Rattle.clight_types.specs.declared.declarators.Parameter as P
use Rattle.clight_types.specs.declared.declarators.Part as Q
use Rattle.clight_types.specs.declared.declarators.Part.TheVariants as part
use Rattle.clight_types.specs.declared.declarators.Built as B
use Rattle.clight_types.specs.declared.types.Types as T
use Rattle.clight_types.specs.Table.{types_of}
use Rattle.clight_types.specs.Declarators as d

abbrev pub length_of : L.Length → d.Length
length_of written.Missing = d.NoLength
length_of written.Bad = d.BadLength
length_of (written.Elements n) = d.Elements n

abbrev pub parameter_of : P.Parameter → d.ParameterOf
parameter_of p = record { name = p.name; at = p.at; type = p.type_number }

abbrev pub types_in : List P.Parameter → List ℕ
types_in ps = map (λ p. p.type) (map parameter_of ps)

abbrev pub part_of : Q.Part → d.Part
part_of part.Pointer = d.PointerPart
part_of (part.Array length) = d.ArrayPart (length_of length)
part_of (part.Function ps) = d.FunctionPart (map parameter_of ps.items)

abbrev pub built_of : T.Types → B.Built → d.Built
built_of types b = record { types = types_of types; type = b.type_number; has_incomplete = b.has_incomplete; is_wrong = b.is_wrong; is_large = b.is_large; gives_struct = b.gives_struct }
