-- Where the specifiers of the code stand.
use Rattle.c_reading.specs.Code as c
use Rattle.c_states.specs.declared.place.SpecifiersPlace.{SpecifiersPlace}
use Rattle.c_states.specs.declared.place.SpecifiersPlace.TheVariants as place

abbrev pub place_of : SpecifiersPlace → c.SpecifiersPlace
place_of place.Declaration = c.of_declaration
place_of place.Member = c.of_member
place_of place.Parameter = c.of_parameter
place_of place.TypeName = c.of_type_name
