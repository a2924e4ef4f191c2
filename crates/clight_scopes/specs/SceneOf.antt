-- What the code's scene is: the same without vectors and maps, with the innermost block first.
use Rattle.std.specs.Prelude.{List, map, reverse, Option}
use Rattle.std.specs.Option.{option_map}
use Rattle.clight_types.specs.Types.{Spelling}
use Rattle.clight_types.specs.Table.{types_of}
use Rattle.clight_scopes.specs.declared.scene.Entity as E
use Rattle.clight_scopes.specs.declared.scene.Entity.TheVariants as e
use Rattle.clight_scopes.specs.declared.scene.FileName as F
use Rattle.clight_scopes.specs.declared.scene.BlockName as B
use Rattle.clight_scopes.specs.declared.scene.TagKind as K
use Rattle.clight_scopes.specs.declared.scene.TagKind.TheVariants as k
use Rattle.clight_scopes.specs.declared.scene.Block as C
use Rattle.clight_scopes.specs.declared.scene.Scene as S
use Rattle.clight_scopes.specs.Scopes as s

abbrev pub entity_of : E.Entity → s.Entity
entity_of (e.Object t defined start) = s.ObjectEntity t defined start.items
entity_of (e.Function t static defined) = s.FunctionEntity t static defined
entity_of (e.Enumerator w) = s.EnumeratorEntity w
entity_of (e.Typedef t) = s.TypedefEntity t
entity_of (e.Builtin static) = s.BuiltinEntity static

abbrev pub file_name_of : Spelling → F.FileName → s.FileName
file_name_of name x = record { name = name; at = x.at; entity = entity_of x.entity }

abbrev pub file_of : List (Spelling × F.FileName) → List s.FileName
file_of xs = map (λ x. file_name_of x.0 x.1) xs

abbrev pub file_named : Spelling → Option F.FileName → Option s.FileName
file_named name x = option_map (file_name_of name) x

abbrev pub block_name_of : Spelling → B.BlockName → s.BlockName
block_name_of name x = record { name = name; type = x.type_number; local = x.local }

abbrev pub block_of : C.Block → List s.BlockName
block_of b = map (λ x. block_name_of x.0 x.1) b.names.entries

abbrev pub blocks_of : List C.Block → List (List s.BlockName)
blocks_of bs = reverse (map block_of bs)

abbrev pub block_named : Spelling → Option B.BlockName → Option s.BlockName
block_named name x = option_map (block_name_of name) x

abbrev pub tag_kind_of : K.TagKind → s.TagKind
tag_kind_of (k.Struct n begun) = s.StructTag n begun
tag_kind_of k.Enum = s.EnumTag

abbrev pub tag_of : Spelling → K.TagKind → s.TagName
tag_of name kind = record { name = name; kind = tag_kind_of kind }

abbrev pub tags_of : List (Spelling × K.TagKind) → List s.TagName
tags_of xs = map (λ x. tag_of x.0 x.1) xs

abbrev pub tag_named : Spelling → Option K.TagKind → Option s.TagName
tag_named name x = option_map (tag_of name) x

abbrev pub scene_of : S.Scene → s.Scene
scene_of x = record { types = types_of x.types; tags = tags_of x.tags.entries; file = file_of x.file.entries; blocks = blocks_of x.blocks.items; locals = x.locals.items; addressed = x.addressed.items; in_body = x.in_body; defined = x.defined.keys }
