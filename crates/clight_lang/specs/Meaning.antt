-- What a program of ClightTSO means, as a language whose threads run on the machine (after ClightTSO of CompCertTSO).
use Rattle.std.specs.Prelude.{ℕ, true, false, ◌++◌, List, [], ◌∷◌, map, find, Option, Some, None, nat_eq}
use Rattle.std.specs.Option.{option_map}
use Rattle.std.specs.Cmp.Lexicographic.{pointwise}
use Rattle.tso_words.specs.declared.value.Val.{Val}
use Rattle.tso_core.specs.Systems.{Names, Places, GlobalsOf}
use Rattle.tso_core.specs.Stated.{globals_of}
use Rattle.tso_core.specs.Language.{Language}
use Rattle.clight_lang.specs.declared.frame.Placed.{Placed}
use Rattle.clight_lang.specs.declared.program.Program as P
use Rattle.clight_lang.specs.declared.program.External as X
use Rattle.clight_lang.specs.State.{FunctionOf, CallerOf, State, function_of, functions_of}
use Rattle.clight_lang.specs.Rules.{callee_of, entering, offer_of, resumed}

-- an external function, with the number of its type
pub record ExternalOf : Type 0 where
  pub name : Names
  pub function_type : ℕ

-- a program: its functions and globals; main; the external functions; of each function type how many parameters it has, and which type is that of a thread's function, 'void (void *)'
pub record ProgramOf : Type 0 where
  pub globals : GlobalsOf
  pub main : FunctionOf
  pub functions : List FunctionOf
  pub externals : List ExternalOf
  pub types : List ℕ
  pub thread_type : Option ℕ

abbrev pub external_of : X.External → ExternalOf
external_of x = record { name = x.name; function_type = x.function_type }

abbrev pub program_of : P.Program → ProgramOf
program_of p = record { globals = globals_of p.globals; main = function_of p.main.value; functions = functions_of p.functions.items; externals = map external_of p.externals.items; types = p.types.items; thread_type = p.thread_type }

-- the frame size of a function that the program states
abbrev pub stated : ProgramOf → Names → Option ℕ
stated p name = option_map (λ f. f.room.stated) (find (λ f. pointwise nat_eq f.name name) p.functions)

-- a thread that calls the function at an address
abbrev pub thread_with : List Val → Option FunctionOf → Option State
thread_with args f = option_map (λ g. entering false g args) f

abbrev pub started_of : List FunctionOf → Places → Val → Val → Option ℕ → Option State
started_of fs at fun arg None = None
started_of fs at fun arg (Some type) = thread_with (arg ∷ []) (callee_of fs at type fun)

-- the functions of the live calls of a thread, and the ranges of its local objects
abbrev pub calls_of : State → List Names
calls_of t = t.function.name ∷ map (λ c. c.function.name) t.callers

abbrev pub ranges_in : List Placed → List (ℕ × ℕ)
ranges_in placed = map (λ p. (p.base, p.size)) placed

abbrev pub ranges_below : List CallerOf → List (ℕ × ℕ)
ranges_below [] = []
ranges_below (c ∷ cs) = ranges_in c.placed ++ ranges_below cs

abbrev pub ranges_of : State → List (ℕ × ℕ)
ranges_of t = ranges_in t.placed ++ ranges_below t.callers

abbrev pub open_language : ProgramOf → Language State
open_language p =
    record {
      globals = p.globals;
      stated = stated p;
      first = λ at. entering true p.main [];
      started = λ at fun arg. started_of p.functions at fun arg p.thread_type;
      offer = λ at t. offer_of p.functions at t;
      resumed = λ at t a. resumed p.functions at t a;
      calls = calls_of;
      ranges = ranges_of;
    }

-- the same, shut
unfoldable pub language : ProgramOf → Language State
language p = open_language p
