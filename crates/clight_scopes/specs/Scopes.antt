-- What names stand for at a place of a file (ISO C99 6.2.1 to 6.2.3): the ordinary names of the file and of the blocks that are open, and the tags. Members are in their structs.
use Rattle.std.specs.Prelude.{ℕ, Bool, false, List, [], ◌∷◌, ◌++◌, find, Option, Some, None, is_some, if◌then◌else◌}
use Rattle.std.specs.List.{list_any}
use Rattle.clight_types.specs.Types.{Spelling, same_name, Types, first_types}

-- what an ordinary name of the file stands for
pub data Entity : Type 0 where
  -- an object: its type, whether it is defined, and its first bytes
  ObjectEntity : ℕ → Bool → List ℕ → Entity
  -- a function: its type, whether it is static, and whether it is defined
  FunctionEntity : ℕ → Bool → Bool → Entity
  EnumeratorEntity : ℕ → Entity
  TypedefEntity : ℕ → Entity
  -- a builtin that the file declares, and whether as static
  BuiltinEntity : Bool → Entity

pub record FileName : Type 0 where
  pub name : Spelling
  -- the place of its first declaration
  pub at : ℕ
  pub entity : Entity

-- a name of a parameter list or a block: its type, and its number among the parameters and locals of the function that is defined; a parameter of a declaration has none
pub record BlockName : Type 0 where
  pub name : Spelling
  pub type : ℕ
  pub local : Option ℕ

-- a struct's tag has the struct's number, and whether its body has begun
pub data TagKind : Type 0 where
  StructTag : ℕ → Bool → TagKind
  EnumTag : TagKind

pub record TagName : Type 0 where
  pub name : Spelling
  pub kind : TagKind

-- all that is known at a place of a file
pub record Scene : Type 0 where
  pub types : Types
  pub tags : List TagName
  -- in order of first declaration
  pub file : List FileName
  -- the blocks that are open, the innermost first
  pub blocks : List (List BlockName)
  -- the types of the parameters and locals of the function that is defined, in order, and those whose address it takes
  pub locals : List ℕ
  pub addressed : List ℕ
  pub in_body : Bool
  -- the functions that the file defines anywhere, each once
  pub defined : List Spelling

abbrev pub with_each : List Spelling → List Spelling → List Spelling
with_each known [] = known
with_each known (name ∷ names) = with_each (if list_any (same_name name) known then known else known ++ name ∷ []) names

abbrev pub first_scene : List Spelling → Scene
first_scene names = record { types = first_types; tags = []; file = []; blocks = []; locals = []; addressed = []; in_body = false; defined = with_each [] names }

-- ## Look-ups

abbrev pub find_in_block : Spelling → List BlockName → Option BlockName
find_in_block name block = find (λ x. same_name name x.name) block

abbrev pub or_else : {A : Type 0} → Option A → Option A → Option A
or_else None b = b
or_else (Some x) b = Some x

abbrev pub find_local : Spelling → List (List BlockName) → Option BlockName
find_local name [] = None
find_local name (b ∷ bs) = or_else (find_in_block name b) (find_local name bs)

abbrev pub find_file : Spelling → List FileName → Option FileName
find_file name names = find (λ x. same_name name x.name) names

abbrev pub find_tag : Spelling → List TagName → Option TagName
find_tag name tags = find (λ x. same_name name x.name) tags

abbrev pub is_defined_function : Scene → Spelling → Bool
is_defined_function s name = list_any (same_name name) s.defined

-- ## Changes

abbrev pub with_types : Scene → Types → Scene
with_types s types = record s { types = types }

abbrev pub with_file_name : Scene → Spelling → ℕ → Entity → Scene
with_file_name s name at entity = record s { file = s.file ++ (record { name = name; at = at; entity = entity }) ∷ [] }

-- a name of the file that stands for something else from now on
abbrev pub replaced : Spelling → Entity → List FileName → List FileName
replaced name entity [] = []
replaced name entity (x ∷ xs) = if same_name name x.name then (record x { entity = entity }) ∷ xs else x ∷ replaced name entity xs

abbrev pub with_entity : Scene → Spelling → Entity → Scene
with_entity s name entity = record s { file = replaced name entity s.file }

abbrev pub with_tag : Scene → Spelling → TagKind → Scene
with_tag s name kind = record s { tags = s.tags ++ (record { name = name; kind = kind }) ∷ [] }

abbrev pub tag_replaced : Spelling → TagKind → List TagName → List TagName
tag_replaced name kind [] = []
tag_replaced name kind (x ∷ xs) = if same_name name x.name then (record x { kind = kind }) ∷ xs else x ∷ tag_replaced name kind xs

abbrev pub with_tag_kind : Scene → Spelling → TagKind → Scene
with_tag_kind s name kind = record s { tags = tag_replaced name kind s.tags }

abbrev pub with_block : Scene → List BlockName → Scene
with_block s block = record s { blocks = block ∷ s.blocks }

abbrev pub opened : Scene → Scene
opened s = with_block s []

abbrev pub without_first : List (List BlockName) → List (List BlockName)
without_first [] = []
without_first (b ∷ bs) = bs

abbrev pub closed : Scene → Scene
closed s = record s { blocks = without_first s.blocks }

abbrev pub into_first : BlockName → List (List BlockName) → List (List BlockName)
into_first x [] = (x ∷ []) ∷ []
into_first x (b ∷ bs) = (b ++ x ∷ []) ∷ bs

abbrev pub with_block_name : Scene → Spelling → ℕ → Option ℕ → Scene
with_block_name s name t local = record s { blocks = into_first (record { name = name; type = t; local = local }) s.blocks }

abbrev pub is_in_first : Spelling → List (List BlockName) → Bool
is_in_first name [] = false
is_in_first name (b ∷ bs) = is_some (find_in_block name b)

-- a local of the function that is defined
abbrev pub with_local : Scene → ℕ → Scene
with_local s t = record s { locals = s.locals ++ t ∷ [] }

abbrev pub with_addressed : Option ℕ → Scene → Scene
with_addressed None s = s
with_addressed (Some n) s = record s { addressed = s.addressed ++ n ∷ [] }
