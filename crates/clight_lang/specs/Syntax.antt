-- The syntax of ClightTSO as plain trees (after Clight of CompCert; here an expression has no effect, and the code's trees share their parts).
use Rattle.std.specs.Prelude.{ℕ, Bool, List, map, Option}
use Rattle.std.specs.Option.{option_map}
use Rattle.tso_words.specs.declared.value.Chunk.{Chunk}
use Rattle.tso_words.specs.declared.operator.Op.{Op}
use Rattle.tso_core.specs.Systems.{Names}
use Rattle.clight_lang.specs.declared.expression.Expr.{Expr}
use Rattle.clight_lang.specs.declared.expression.Expr.TheVariants as E
use Rattle.clight_lang.specs.declared.statement.Builtin as B
use Rattle.clight_lang.specs.declared.statement.Group as G
use Rattle.clight_lang.specs.declared.statement.Stmt.{Stmt}
use Rattle.clight_lang.specs.declared.statement.Stmt.TheVariants as S
use Rattle.clight_lang.specs.declared.statement.Stmts.{Stmts}
use Rattle.clight_lang.specs.declared.statement.Stmts.TheVariants as L

pub data Expression : Type 0 where
  Const : ℕ → Expression
  Temp : ℕ → Expression
  LocalAddr : ℕ → Expression
  GlobalAddr : Names → Expression
  Read : Chunk → Expression → Expression
  Unary : Op → Expression → Expression
  Binary : Op → Expression → Expression → Expression
  AndAlso : Expression → Expression → Expression
  OrElse : Expression → Expression → Expression
  Choose : Expression → Expression → Expression → Expression

-- a group of a switch: its numbers, whether it is the default, and the place of its first statement
pub record GroupOf : Type 0 where
  pub numbers : List ℕ
  pub is_default : Bool
  pub from : ℕ

mutual
  pub data Statement : Type 0 where
    Skip : Statement
    Set : ℕ → Expression → Statement
    Store : Chunk → Expression → Expression → Statement
    -- the temporary that gets the answer, the function type, the callee and the arguments
    Call : ℕ → ℕ → Expression → List Expression → Statement
    External : ℕ → Names → ℕ → List Expression → Statement
    Builtin : ℕ → B.Builtin → List Expression → Statement
    Block : Statements → Statement
    If : Expression → Statement → Statement → Statement
    Loop : Statement → Statement → Statement
    Switch : Expression → List GroupOf → Statements → Statement
    Break : Statement
    Continue : Statement
    Return : Option Expression → Statement

  pub data Statements : Type 0 where
    Nil : Statements
    Cons : Statement → Statements → Statements

-- the plain tree of the code's tree
abbrev pub expression_of : Expr → Expression
expression_of (E.Const n) = Const n
expression_of (E.Temp i) = Temp i
expression_of (E.LocalAddr i) = LocalAddr i
expression_of (E.GlobalAddr x) = GlobalAddr x
expression_of (E.Read' c p a) = Read c (expression_of a)
expression_of (E.Unary' op p a) = Unary op (expression_of a)
expression_of (E.Binary' op p a q b) = Binary op (expression_of a) (expression_of b)
expression_of (E.AndAlso' p a q b) = AndAlso (expression_of a) (expression_of b)
expression_of (E.OrElse' p a q b) = OrElse (expression_of a) (expression_of b)
expression_of (E.Choose' r c p a q b) = Choose (expression_of c) (expression_of a) (expression_of b)

abbrev pub group_of : G.Group → GroupOf
group_of g = record { numbers = g.numbers.items; is_default = g.is_default; from = g.from }

abbrev mutual
  pub statement_of : Stmt → Statement
  statement_of S.Skip = Skip
  statement_of (S.Set t e) = Set t (expression_of e)
  statement_of (S.Store c a e) = Store c (expression_of a) (expression_of e)
  statement_of (S.Call t type f args) = Call t type (expression_of f) (map expression_of args.items)
  statement_of (S.External t name type args) = External t name type (map expression_of args.items)
  statement_of (S.Builtin t b args) = Builtin t b (map expression_of args.items)
  statement_of (S.Block' p l) = Block (statements_of l)
  statement_of (S.If' e p a q b) = If (expression_of e) (statement_of a) (statement_of b)
  statement_of (S.Loop' p a q b) = Loop (statement_of a) (statement_of b)
  statement_of (S.Switch' e groups p l) = Switch (expression_of e) (map group_of groups.items) (statements_of l)
  statement_of S.Break = Break
  statement_of S.Continue = Continue
  statement_of (S.Return e) = Return (option_map expression_of e)

  pub statements_of : Stmts → Statements
  statements_of L.Nil = Nil
  statements_of (L.Cons' p s q l) = Cons (statement_of s) (statements_of l)
