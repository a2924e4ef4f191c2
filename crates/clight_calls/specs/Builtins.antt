-- The builtins: their names and their types.
use Rattle.std.specs.Prelude.{ℕ, Bool, Option, Some, None, is_some, codes, if◌then◌else◌}
use Rattle.clight_lang.specs.declared.statement.Builtin.{Builtin}
use Rattle.clight_lang.specs.declared.statement.Builtin.TheVariants as B
use Rattle.clight_types.specs.Types.{Spelling, same_name, thread_create_type, fence_type, malloc_type, exit_type, thread_function_type}

-- the builtin with a name
abbrev pub builtin_named : Spelling → Option Builtin
builtin_named name =
    if same_name name (codes "thread_create") then Some B.ThreadCreate
    else (if same_name name (codes "mfence") then Some B.Fence
    else (if same_name name (codes "atomic_cas") then Some B.AtomicCas
    else (if same_name name (codes "atomic_add") then Some B.AtomicAdd
    else (if same_name name (codes "atomic_xchg") then Some B.AtomicXchg
    else (if same_name name (codes "malloc") then Some B.Malloc
    else (if same_name name (codes "free") then Some B.Free
    else (if same_name name (codes "exit") then Some B.Exit
    else None)))))))

abbrev pub is_builtin_name : Spelling → Bool
is_builtin_name name = is_some (builtin_named name)

-- the type of a builtin; an atomic takes several
abbrev pub builtin_type : Builtin → Option ℕ
builtin_type B.ThreadCreate = Some thread_create_type
builtin_type B.Fence = Some fence_type
builtin_type B.AtomicCas = None
builtin_type B.AtomicAdd = None
builtin_type B.AtomicXchg = None
builtin_type B.Malloc = Some malloc_type
builtin_type B.Free = Some thread_function_type
builtin_type B.Exit = Some exit_type

-- how many arguments an atomic takes behind its first one
abbrev pub atomic_arguments : Builtin → Option ℕ
atomic_arguments B.AtomicCas = Some 2
atomic_arguments B.AtomicAdd = Some 1
atomic_arguments B.AtomicXchg = Some 1
atomic_arguments _ = None
