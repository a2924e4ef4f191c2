-- What the statements of a function do as statements of ClightTSO, in the manner of Clight's translation in CompCert, once it is known where each local is: in memory, or a temporary.
use Rattle.std.specs.Prelude.{ℕ, suc, ◌+◌, ◌==◌, Bool, List, [], ◌∷◌, map, position, Option, Some, None, unwrap_or}
use Rattle.std.specs.Option.{option_map}
use Rattle.c_grammar.specs.Tokens as k
use Rattle.tso_words.specs.declared.value.Chunk.{Chunk}
use Rattle.clight_lang.specs.Syntax.{Expression, Const, Temp, LocalAddr, GlobalAddr, Read, Unary, Binary, AndAlso, OrElse, Choose, GroupOf, Statement, Statements, Nil, Cons, Skip, Set, Store, Call, External, Builtin as BuiltinCall, Block, If, Loop, Switch, Break, Continue, Return}
use Rattle.clight_types.specs.declared.kind.Value.{Value}
use Rattle.clight_types.specs.Types.{Types}
use Rattle.clight_types.specs.WordOperators.{value_chunk}
use Rattle.clight_operands.specs.Applied.{converted, applied}
use Rattle.clight_operands.specs.Operands.{Callee, Inside, Outside, Provided, Source, FromValue, FromCall, Deed, NoDeed, CallDeed, AssignDeed, UpdateDeed}
use Rattle.clight_typing.specs.Statements.{Made, NothingMade, EvaluatedMade, DeedMade, BlockMade, BranchMade, WhileMade, DoMade, ForMade, SwitchMade, BreakMade, ContinueMade, ReturnMade, ReturnCallMade, MadeList, NoMade, AndMade, MadeGroups, NoGroups, AndGroup}

-- where a parameter or a local is: its number among the temporaries, or among those in memory
pub data Location : Type 0 where
  InTemp : ℕ → Location
  InMemory : ℕ → Location

-- the number of a function type among those of the program
abbrev pub number_of_type : List ℕ → ℕ → ℕ
number_of_type ts t = unwrap_or (position (λ u. u == t) ts) 0

-- what is known in a function: the types of the file, the number of a function type in the program, and where a local is
pub record Inner : Type 0 where
  pub types : Types
  pub type_number : ℕ → ℕ
  pub location : ℕ → Location

-- ## Expressions: a local that is a temporary is read as one

abbrev pub address_at : Location → Expression
address_at (InMemory m) = LocalAddr m
address_at (InTemp t) = Temp t

abbrev pub read_at : Chunk → Location → Expression
read_at c (InMemory m) = Read c (LocalAddr m)
read_at c (InTemp t) = Temp t

abbrev pub placed : Inner → Expression → Expression
placed w (Const n) = Const n
placed w (Temp i) = Temp i
placed w (LocalAddr n) = address_at (w.location n)
placed w (GlobalAddr x) = GlobalAddr x
placed w (Read c (LocalAddr n)) = read_at c (w.location n)
placed w (Read c a) = Read c (placed w a)
placed w (Unary op a) = Unary op (placed w a)
placed w (Binary op a b) = Binary op (placed w a) (placed w b)
placed w (AndAlso a b) = AndAlso (placed w a) (placed w b)
placed w (OrElse a b) = OrElse (placed w a) (placed w b)
placed w (Choose c a b) = Choose (placed w c) (placed w a) (placed w b)

-- ## Statements; each takes the first fresh temporary, and gives the first behind its own

-- a call into a temporary
abbrev pub call_into : Inner → ℕ → Callee → List Expression → Statement
call_into w t (Inside type f) args = Call t (w.type_number type) (placed w f) (map (placed w) args)
call_into w t (Outside name type) args = External t name (w.type_number type) (map (placed w) args)
call_into w t (Provided b) args = BuiltinCall t b (map (placed w) args)

abbrev pub block_two : Statement → Statement → Statement
block_two a b = Block (Cons a (Cons b Nil))

abbrev pub block_three : Statement → Statement → Statement → Statement
block_three a b c = Block (Cons a (Cons b (Cons c Nil)))

-- the temporary that a place is
abbrev pub temp_at : Location → Option ℕ
temp_at (InTemp t) = Some t
temp_at (InMemory m) = None

abbrev pub temp_of : Inner → Expression → Option ℕ
temp_of w (LocalAddr n) = temp_at (w.location n)
temp_of w _ = None

-- `x = e` and `x = f(..)`
abbrev pub assigned : Inner → ℕ → Option ℕ → Expression → Value → Source → Statement × ℕ
assigned w n (Some x) a to (FromValue e) = (Set x (placed w e), n)
assigned w n None a to (FromValue e) = (Store (value_chunk to) (placed w a) (placed w e), n)
assigned w n (Some x) a to (FromCall f args from) = (block_two (call_into w n f args) (Set x (converted from to (Temp n))), n + 1)
assigned w n None a to (FromCall f args from) = (block_three (Set n (placed w a)) (call_into w (n + 1) f args) (Store (value_chunk to) (Temp n) (converted from to (Temp (n + 1)))), n + 2)

-- `x op= e`: the operator on the old value, as a value of the place's type
abbrev pub updated_value : Inner → Value → k.Operator → Value → Expression → Value → Expression → Expression
updated_value w to o other e given old = converted given to (applied w.types o to other old (placed w e))

abbrev pub updated : Inner → ℕ → Option ℕ → Expression → Value → k.Operator → Value → Expression → Value → Statement × ℕ
updated w n (Some x) a to o other e given = (Set x (updated_value w to o other e given (Temp x)), n)
updated w n None a to o other e given = (block_two (Set n (placed w a)) (Store (value_chunk to) (Temp n) (updated_value w to o other e given (Read (value_chunk to) (Temp n)))), n + 1)

abbrev pub deed_meant : Inner → ℕ → Deed → Statement × ℕ
deed_meant w n NoDeed = (Skip, n)
deed_meant w n (CallDeed f args x) = (call_into w n f args, n + 1)
deed_meant w n (AssignDeed a to source) = assigned w n (temp_of w a) a to source
deed_meant w n (UpdateDeed a to o other e given) = updated w n (temp_of w a) a to o other e given

-- a condition leaves its loop where it is 0
abbrev pub test_of : Inner → Expression → Statement
test_of w e = If (placed w e) Skip Break

-- the body of a `for`, behind its condition where it has one
abbrev pub tested : Inner → Option Expression → Statement → Statement
tested w None s = s
tested w (Some e) s = block_two (test_of w e) s

abbrev pub count_statements : Statements → ℕ
count_statements Nil = 0
count_statements (Cons s l) = suc (count_statements l)

abbrev pub both : Statements → Statements → Statements
both Nil l = l
both (Cons s k) l = Cons s (both k l)

-- the groups of a switch, with the place of each group's first statement, and the statements of all
pub record GroupsMeant : Type 0 where
  pub groups : List GroupOf
  pub statements : Statements
  pub next : ℕ

abbrev pub group_onto : List ℕ → Bool → ℕ → Statements → GroupsMeant → GroupsMeant
group_onto numbers is_default from l g = record { groups = (record { numbers = numbers; is_default = is_default; from = from }) ∷ g.groups; statements = both l g.statements; next = g.next }

abbrev mutual
  pub meant : Inner → ℕ → Made → Statement × ℕ
  meant w n NothingMade = (Skip, n)
  meant w n (EvaluatedMade e) = (Set n (placed w e), n + 1)
  meant w n (DeedMade deed) = deed_meant w n deed
  meant w n (BlockMade l) = let r = all_meant w n l in (Block r.0, r.1)
  meant w n (BranchMade e a b) = let r = meant w n a in let q = meant w r.1 b in (If (placed w e) r.0 q.0, q.1)
  meant w n (WhileMade e a) = let r = meant w n a in (Loop (block_two (test_of w e) r.0) Skip, r.1)
  meant w n (DoMade a e) = let r = meant w n a in (Loop r.0 (test_of w e), r.1)
  meant w n (ForMade first c u a) =
      let p = all_meant w n first in let r = meant w p.1 u in let q = meant w r.1 a in
      (Block (both p.0 (Cons (Loop (tested w c q.0) r.0) Nil)), q.1)
  meant w n (SwitchMade e gs) = let g = groups_meant w n 0 gs in (Switch (placed w e) g.groups g.statements, g.next)
  meant w n BreakMade = (Break, n)
  meant w n ContinueMade = (Continue, n)
  meant w n (ReturnMade e) = (Return (option_map (placed w) e), n)
  meant w n (ReturnCallMade f args from to) = (block_two (call_into w n f args) (Return (Some (converted from to (Temp n)))), n + 1)

  pub all_meant : Inner → ℕ → MadeList → Statements × ℕ
  all_meant w n NoMade = (Nil, n)
  all_meant w n (AndMade m ms) = let r = meant w n m in let q = all_meant w r.1 ms in (Cons r.0 q.0, q.1)

  pub groups_meant : Inner → ℕ → ℕ → MadeGroups → GroupsMeant
  groups_meant w n from NoGroups = record { groups = []; statements = Nil; next = n }
  groups_meant w n from (AndGroup numbers is_default l gs) =
      let r = all_meant w n l in group_onto numbers is_default from r.0 (groups_meant w r.1 (from + count_statements r.0) gs)
