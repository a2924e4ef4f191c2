-- The states of a thread of ClightTSO (after the thread states of CompCertTSO's ClightTSO).
use Rattle.std.specs.Prelude.{ℕ, Bool, List, map, reverse}
use Rattle.std.specs.Global.{Global}
use Rattle.std.specs.declared.rc.Rc.{Rc}
use Rattle.tso_words.specs.declared.value.Val.{Val}
use Rattle.tso_core.specs.declared.placement.Room.{Room}
use Rattle.tso_core.specs.Systems.{Names}
use Rattle.clight_lang.specs.declared.frame.Placed.{Placed}
use Rattle.clight_lang.specs.declared.function.Function as F
use Rattle.clight_lang.specs.declared.function.Local.{Local}
use Rattle.clight_lang.specs.declared.function.Taken.{Taken}
use Rattle.clight_lang.specs.declared.function.Kept.{Kept}
use Rattle.clight_lang.specs.declared.statement.Rest as C
use Rattle.clight_lang.specs.declared.statement.Rest.TheVariants as R
use Rattle.clight_lang.specs.declared.thread.Doing as D
use Rattle.clight_lang.specs.declared.thread.Doing.TheVariants as V
use Rattle.clight_lang.specs.declared.thread.Caller as K
use Rattle.clight_lang.specs.declared.thread.Thread as T
use Rattle.clight_lang.specs.Syntax.{Statement, Statements, statement_of, statements_of}

-- a defined function, with its body as a plain tree
pub record FunctionOf : Type 0 where
  pub name : Names
  pub function_type : ℕ
  pub parameters : ℕ
  pub taken : List Taken
  pub kept : List Kept
  pub locals : List Local
  pub temps : ℕ
  pub body : Statements
  pub room : Room

-- what comes after a statement, up to the end of its function
pub data After : Type 0 where
  Empty : After
  -- the other statements of a block
  Rest : Statements → After → After
  -- the first and the second part of a loop, of which the first is running, or the second
  Body : Statement → Statement → After → After
  Step : Statement → Statement → After → After
  -- the statements of a switch are running
  Switched : After → After

-- what the innermost call does: it enters its function, with its arguments and how many memory parameters are stored; runs a statement, with the answers to its first reads; leaves with a value; or waits for the word of an external call
pub data Doing : Type 0 where
  Enter : List Val → ℕ → Doing
  Run : List Val → Statement → After → Doing
  Leave : Val → Doing
  Wait : ℕ → After → Doing

-- a call that waits for the one above it
pub record CallerOf : Type 0 where
  pub function : FunctionOf
  pub temps : List Val
  pub placed : List Placed
  pub into : ℕ
  pub rest : After

-- a thread; its callers are the newest first
pub record State : Type 0 where
  pub is_first : Bool
  pub function : FunctionOf
  pub temps : List Val
  pub placed : List Placed
  pub doing : Doing
  pub callers : List CallerOf

abbrev pub function_of : F.Function → FunctionOf
function_of f = record { name = f.name; function_type = f.function_type; parameters = f.parameters; taken = f.taken.items; kept = f.kept.items; locals = f.locals.items; temps = f.temps; body = statements_of f.body.value; room = f.room }

abbrev pub functions_of : List (Rc F.Function Global) → List FunctionOf
functions_of fs = map (λ f. function_of f.value) fs

abbrev pub after_of : C.Rest → After
after_of R.Empty = Empty
after_of (R.List' l p k) = Rest (statements_of l.value) (after_of k)
after_of (R.Body' a b p k) = Body (statement_of a.value) (statement_of b.value) (after_of k)
after_of (R.Step' a b p k) = Step (statement_of a.value) (statement_of b.value) (after_of k)
after_of (R.Switch' p k) = Switched (after_of k)

abbrev pub doing_of : D.Doing → Doing
doing_of (V.Enter args stored) = Enter args.items stored
doing_of (V.Run answers s k) = Run answers.items (statement_of s.value) (after_of k.value)
doing_of (V.Leave v) = Leave v
doing_of (V.Wait into k) = Wait into (after_of k.value)

abbrev pub caller_of : K.Caller → CallerOf
caller_of c = record { function = function_of c.function.value; temps = c.frame.temps.items; placed = c.frame.placed.items; into = c.into; rest = after_of c.rest.value }

abbrev pub callers_of : List K.Caller → List CallerOf
callers_of cs = reverse (map caller_of cs)

abbrev pub state_of : T.Thread → State
state_of t = record { is_first = t.is_first; function = function_of t.function.value; temps = t.frame.temps.items; placed = t.frame.placed.items; doing = doing_of t.doing; callers = callers_of t.callers.items }
