-- The least programs: those whose main returns a constant.
use Rattle.std.specs.Prelude.{ℕ, List, [], ◌∷◌, Some, None}
use Rattle.tso_core.specs.Systems.{GlobalsOf}
use Rattle.clight_lang.specs.Syntax.{Statements, Const, Return, Nil, Cons}
use Rattle.clight_lang.specs.State.{FunctionOf}
use Rattle.clight_lang.specs.Rules.{main_name}
use Rattle.clight_lang.specs.Meaning.{ProgramOf}

abbrev pub main_alone : GlobalsOf
main_alone = record { functions = main_name ∷ []; objects = [] }

-- the nodes of main: the block that is its body, the statement that returns, and the constant
abbrev pub main_nodes : ℕ
main_nodes = 3

abbrev pub main_body : ℕ → Statements
main_body n = Cons (Return (Some (Const n))) Nil

-- its frame: 56 bytes, and 64 for each of its nodes
abbrev pub main_returning : ℕ → FunctionOf
main_returning n =
    record {
      name = main_name;
      function_type = 0;
      parameters = 0;
      taken = [];
      kept = [];
      locals = [];
      temps = 0;
      body = main_body n;
      room = record { nodes = main_nodes; stated = 248; needed = 0 };
    }

-- the program 'int main(void) { return n; }'
abbrev pub returned : ℕ → ProgramOf
returned n =
    record {
      globals = main_alone;
      main = main_returning n;
      functions = main_returning n ∷ [];
      externals = [];
      types = 0 ∷ [];
      thread_type = None;
    }
